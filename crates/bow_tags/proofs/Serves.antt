-- The steps of a server keep the rule.
use Rattle.std.proofs.Common.{◌≡◌, ℕ, ◌+◌, ◌*◌, ◌^◌, ◌<◌, ◌≢◌, ◌⊎◌, inl, inr, ⊎_elim, Bool, true, false, cond, ◌==◌, ◌&&◌, not, eqb, List, [], ◌∷◌, ◌++◌, length, set, get_or, sym, refl, ap, ◌∙◌, subst, arith, length-set, length-append, get_or-set_same, eq-eqb, ne_eqb}
use mathlib.Core.Path.{Path}
use mathlib.Core.Option.{Option, some, none}
use native.Mathlib.Decide.{ℕ_discrete}
use lib.ListN.{get_elem?}
use prog.Atomic.{either}
use Rattle.atomic_table.specs.Table.{State, Me, Act, step, stepped, keeps, takes, gives, Allows, Valid, carried_after}
use Rattle.atomic_table.proofs.Lists.{set_here, set_else, at_longer, at_last, exchanged}
use Rattle.bow_tags.specs.declared.view.Slot.{Slot}
use Rattle.bow_tags.specs.declared.view.Slot.TheVariants.{Ask, Answer}
use Rattle.bow_tags.specs.declared.view.Held.{Held}
use Rattle.bow_tags.specs.declared.view.Entry.{Entry}
use Rattle.bow_tags.specs.declared.view.View.{View}
use Rattle.bow_tags.specs.Rule.{Phase, posted, taken, done, retiring, face, stance_of, asks, replies, holders, hands, total, present, Cell, job_times, given_times, server_times, InPhase, JobTie, Told, Rule}
use Rattle.bow_tags.specs.Steps.{held, others, looked, entry, SpeaksForAll, GivenBelow, takes_job, answers}
use Rattle.bow_tags.proofs.Lists.{each_append, each_filter, each_at, times_at, at_short, total_two, total_at, total_only, present_is, present_snoc, times-append}
use Rattle.bow_tags.proofs.Moved.{put, put_here, Longer, SameLane, lanes_stay, jobs_stay, told_stay, hands_stay, moved}
use Rattle.bow_tags.proofs.Keeps.{cell_goes_on, face_small, posted_phase, is_here, longer_self, looked_rule, no_job, in_phase}

pub same_number : (a b : ℕ) → (a == b) ≡ true → a ≡ b
same_number a b e = ⊎_elim (λ k. k) (λ n. absurd (let t : true ≡ false = sym e ∙ ne_eqb a b n in cc)) (either_way (ℕ_discrete a b))
  where
    either_way : Dec (a ≡ b) → (a ≡ b) ⊎ (a ≢ b)
    either_way (yes k) = inl k
    either_way (no n) = inr n

-- a job of another lane passes the test as before, and none of this lane is left
pub others_else : {P : Type 0} (l k : ℕ) (xs : List (Held P)) → k ≢ l → job_times k (others l xs) ≡ job_times k xs
others_else l k [] ne = refl
others_else l k (x ∷ xs) ne = by_lane (x.lane == l) refl (others_else l k xs ne)
  where
    by_lane : (b : Bool) → (x.lane == l) ≡ b → job_times k (others l xs) ≡ job_times k xs → job_times k (cond (not (x.lane == l)) (x ∷ others l xs) (others l xs)) ≡ job_times k (x ∷ xs)
    by_lane true e h = subst (λ b. job_times k (cond (not b) (x ∷ others l xs) (others l xs)) ≡ job_times k (x ∷ xs)) (sym e)
        (let away : x.lane ≢ k = λ is. ne (sym is ∙ same_number x.lane l e) in h ∙ sym (ap (λ b. cond b 1 0 + job_times k xs) (ne_eqb x.lane k away) ∙ omega arith))
    by_lane false e h = subst (λ b. job_times k (cond (not b) (x ∷ others l xs) (others l xs)) ≡ job_times k (x ∷ xs)) (sym e) (ap (λ (z : ℕ). cond (x.lane == k) 1 0 + z) h)

pub others_here : {P : Type 0} (l : ℕ) (xs : List (Held P)) → job_times l (others l xs) ≡ 0
others_here l [] = refl
others_here l (x ∷ xs) = by_lane (x.lane == l) refl (others_here l xs)
  where
    by_lane : (b : Bool) → (x.lane == l) ≡ b → job_times l (others l xs) ≡ 0 → job_times l (cond (not (x.lane == l)) (x ∷ others l xs) (others l xs)) ≡ 0
    by_lane true e h = subst (λ b. job_times l (cond (not b) (x ∷ others l xs) (others l xs)) ≡ 0) (sym e) h
    by_lane false e h = subst (λ b. job_times l (cond (not b) (x ∷ others l xs) (others l xs)) ≡ 0) (sym e) (ap (λ b. cond b 1 0 + job_times l (others l xs)) e ∙ (omega arith))

module _ {P Q : Type 0} (fits : ℕ → P → Type 0) where
  -- of a seat that speaks for every server number, no other seat has given anything
  pub alone : (s : State (Slot P Q) (View P Q)) (r : Rule fits s) (id : ℕ) (v : View P Q) → get_elem? s.views id ≡ some v → v.live ≡ true → SpeaksForAll v → (j : ℕ) (u : View P Q) → j ≢ id → get_elem? s.views j ≡ some u → u.given ≡ []
  alone s r id v at alive all j u ne u_at = let ok = r.each_view j u u_at in ⊎_elim (λ empty. empty)
      (λ some_one.
      let n0 = at_short u.speaks 0 some_one in
      let near : n0.0 < r.servers = each_at (λ k. k < r.servers) u.speaks 0 n0.0 ok.speaks n0.1 in
      let o = r.one_server n0.0 near in
      let two = total_two (λ (x : View P Q). server_times n0.0 x.speaks) s.views id j v u ne at u_at in
      let theirs = times_at (λ x. x == n0.0) u.speaks 0 n0.0 n0.1 (is_here n0.0) in
      let ours = all n0.0 (subst (λ (k : ℕ). n0.0 < k) (sym ((r.each_view id v at).sized alive).2) near) in
      absurd (omega arith))
      ok.gives

  given_below : (s : State (Slot P Q) (View P Q)) (r : Rule fits s) (id l k : ℕ) (v : View P Q) → get_elem? s.views id ≡ some v → v.live ≡ true → l < length s.homes → length (r.cells l).answered ≡ k → SpeaksForAll v → GivenBelow v l k
  given_below s r id l k v at alive near long all i =
      let f : View P Q → ℕ = λ x. given_times l i x.given in
      let t : total f s.views ≡ f v = total_only f s.views id v at (λ j u ne u_at. ap (given_times l i) (alone s r id v at alive all j u ne u_at)) in
      let o = r.one_given l i near in let p = present_is (r.cells l).answered i in
      ((λ less. sym t ∙ (o ∙ p.0 (subst (λ (z : ℕ). i < z) (sym long) less))), λ more. sym t ∙ (o ∙ p.1 (λ less. more (subst (λ (z : ℕ). i < z) long less))))

  pub take_allowed : (slots id l old new k : ℕ) (v : View P Q) (cs : List (ℕ × Slot P Q)) → l < slots → v.live ≡ true → old ≡ 4 * k + 1 → new ≡ 4 * k + 2
      → Allows (Rule fits) slots id (v, cs) l (λ y. either (eqb y old) new y) (takes_job fits (step slots l old new none) (v, cs))
  take_allowed slots id l old new k v cs near alive old_is new_is s r wide at small =
      let y : ℕ = get_or s.words l 0 in let near' : l < length s.homes = subst (λ (z : ℕ). l < z) (sym wide) near in let ok = r.each_cell l near' in
      let n : ℕ = length s.homes in
      let c : Cell P Q = r.cells l in
      let me : Me (Slot P Q) (View P Q) = (v, cs) in
      let Goal : ℕ → Type 0 = λ m. (x : View P Q) × (b : Act (Slot P Q)) × Valid s.homes me.1 b × Rule fits (stepped s l m id me.1 x b) × takes_job fits (step slots l old new none) me y (x, carried_after me.1 b) in
      exchanged y old new Goal
      (λ hit.
      let few = face_small c.phase in let w0 : y ≡ 4 * c.number + face c.phase = ok.word in
      let ph : Path Phase c.phase posted = posted_phase c.phase (omega arith) in
      let number : k ≡ c.number = omega arith in
      let slot : InPhase (get_elem? s.homes l) c posted = in_phase fits c posted (get_elem? s.homes l) ph ok.slot in
      let a : P = slot.0 in
      let free : job_times l v.jobs ≡ 0 = no_job fits s r id l v at near' (ap holders ph) in
      let c' : Cell P Q = record c { phase = taken } in
      let j : Held P = held l k a in
      let w : View P Q = record (looked l y v) { jobs = v.jobs ++ j ∷ [] } in
      let homes : List (Option (Slot P Q)) = set s.homes l none in
      let vok = r.each_view id v at in
      let wd = r.wide in
      let same : SameLane c c' = (refl, sym (ap stance_of ph), refl, sym (ap hands ph)) in
      let away : c.phase ≢ retiring = λ e. absurd (let z : hands posted ≡ hands retiring = ap hands (sym ph ∙ e) in omega arith) in
      let long : length c.answered ≡ k = ok.replies_are ∙ (let f : replies c.phase ≡ 0 = ap replies ph in omega arith) in
      let job_tie : JobTie n j c' = record { near = near'; phase = refl; number = number; ask = ap (get_elem? c.asked) number ∙ slot.1 } in
      let fit : fits v.size a = subst (λ (z : ℕ). fits z a) (sym (vok.sized alive).0) (each_at (fits r.size) c.asked c.number a ok.fit slot.1) in
      let snoc : (m : ℕ) → job_times m w.jobs ≡ job_times m v.jobs + (cond (l == m) 1 0 + 0) = λ m. times-append (λ (x : Held P). x.lane == m) v.jobs (j ∷ []) in (
        w,
        takes l (Ask a),
        slot.2,
        moved fits s r id v w l c' new homes at near' (length-set s.homes l none) (λ i other. set_else s.homes l i none other)
            (cell_goes_on fits r.size s.words s.homes homes l new c taken ok (omega arith) (omega arith) (ap asks ph) (ap replies ph) (set_here s.homes l none near'))
            (longer_self c.asked) (longer_self c.answered) (inl same) (free ∙ sym (ap holders ph)) (inl away)
            record {
              lanes = lanes_stay n r.cells l c' v.hand v.lanes (inl same) vok.lanes;
              jobs = each_append (λ x. JobTie n x (put r.cells l c' x.lane)) v.jobs (j ∷ []) (jobs_stay n r.cells l c' v.jobs free vok.jobs) (subst (JobTie n j) (sym (put_here r.cells l c')) job_tie, tt);
              got = told_stay n r.cells l c' (longer_self c.asked) (longer_self c.answered) v.got vok.got;
              given = told_stay n r.cells l c' (longer_self c.asked) (longer_self c.answered) v.given vok.given;
              hand = hands_stay n r.cells l c' (longer_self c.asked) (longer_self c.answered) v.lanes v.hand (inl away) vok.hand;
              speaks = vok.speaks;
              gives = vok.gives;
              sized = vok.sized;
            }
            (λ m. refl) (λ m other. snoc m ∙ (ap (λ b. job_times m v.jobs + (cond b 1 0 + 0)) (ne_eqb l m (λ e. other (sym e))) ∙ omega arith)) (snoc l ∙ (ap (λ b. job_times l v.jobs + (cond b 1 0 + 0)) (is_here l) ∙ omega arith))
            (λ m i _. refl) (λ i. refl) refl,
        ((λ _. (k, a, old_is, fit, free, given_below s r id l k v at alive near' long, refl)), λ miss. absurd (miss hit)),
      ))
      (λ miss. (looked l y v, keeps, tt, looked_rule fits s r id l y v at near' refl, ((λ hit. absurd (miss hit)), λ _. refl)))

  pub answer_allowed : (slots id l old new k i : ℕ) (v : View P Q) (a : P) (q : Q) (cs : List (ℕ × Slot P Q)) → l < slots → get_elem? v.jobs i ≡ some (held l k a) → 0 < length v.speaks → old ≡ 4 * k + 2 → new ≡ 4 * k + 3
      → Allows (Rule fits) slots id (v, (l, Answer q) ∷ cs) l (λ y. either (eqb y old) new y) (answers (step slots l old new none) (v, (l, Answer q) ∷ cs))
  answer_allowed slots id l old new k i v a q cs near job_at speaks old_is new_is s r wide at small =
      let y : ℕ = get_or s.words l 0 in let near' : l < length s.homes = subst (λ (z : ℕ). l < z) (sym wide) near in let ok = r.each_cell l near' in
      let n : ℕ = length s.homes in
      let c : Cell P Q = r.cells l in
      let vok = r.each_view id v at in
      let jt : JobTie n (held l k a) c = each_at (λ x. JobTie n x (r.cells x.lane)) v.jobs i (held l k a) vok.jobs job_at in
      let ph : Path Phase c.phase taken = jt.phase in
      let number : k ≡ c.number = jt.number in
      let hit : y ≡ old = let w : y ≡ 4 * c.number + face c.phase = ok.word in let f : face c.phase ≡ 2 = ap face ph in omega arith in
      let held_one : job_times l v.jobs ≡ holders c.phase = let least = times_at (λ x. x.lane == l) v.jobs i (held l k a) job_at (is_here l) in let most = total_at (λ (x : View P Q). job_times l x.jobs) s.views id v at in let o = r.one_job l near' in let f : holders c.phase ≡ 1 = ap holders ph in omega arith in
      let c' : Cell P Q = record c { phase = done; answered = c.answered ++ q ∷ [] } in
      let x : Entry P Q = entry l k a q in
      let w : View P Q = record v { jobs = others l v.jobs; given = v.given ++ x ∷ [] } in
      let homes : List (Option (Slot P Q)) = set s.homes l (some (Answer q)) in
      let wd = r.wide in
      let same : SameLane c c' = (refl, sym (ap stance_of ph), refl, sym (ap hands ph)) in
      let away : c.phase ≢ retiring = λ e. absurd (let z : hands taken ≡ hands retiring = ap hands (sym ph ∙ e) in let z' : holders taken ≡ holders retiring = ap holders (sym ph ∙ e) in omega arith) in
      let long : length c.answered ≡ c.number = ok.replies_are ∙ (let f : replies c.phase ≡ 0 = ap replies ph in omega arith) in
      let grows : Longer c.answered (c.answered ++ q ∷ []) = λ m z h. at_longer c.answered (q ∷ []) m z h in
      let told : Told n x c' = record { near = near'; ask = jt.ask; answer = ap (get_elem? c'.answered) number ∙ at_last c.answered q c.number long } in
      let snoc : (m j : ℕ) → given_times m j w.given ≡ given_times m j v.given + (cond ((l == m) && (k == j)) 1 0 + 0) = λ m j. times-append (λ (z : Entry P Q). (z.lane == m) && (z.number == j)) v.given (x ∷ []) in
      let me : Me (Slot P Q) (View P Q) = (v, (l, Answer q) ∷ cs) in
      let Goal : ℕ → Type 0 = λ m. (z : View P Q) × (b : Act (Slot P Q)) × Valid s.homes me.1 b × Rule fits (stepped s l m id me.1 z b) × answers (step slots l old new none) me y (z, carried_after me.1 b) in
      subst (λ (b : Bool). Goal (either b new y)) (sym (eq-eqb y old hit)) (
        w,
        gives,
        tt,
        moved fits s r id v w l c' new homes at near' (length-set s.homes l (some (Answer q))) (λ m other. set_else s.homes l m (some (Answer q)) other)
            record {
              word = get_or-set_same s.words l new 0 (omega arith) ∙ (omega arith);
              small = subst (λ p. c.number + asks p < 2 ^ 32) ph ok.small;
              asks_are = ok.asks_are ∙ ap (λ p. c.number + asks p) ph;
              replies_are = length-append c.answered (q ∷ []) ∙ (omega arith);
              fit = ok.fit;
              slot = (q, at_last c.answered q c.number long, set_here s.homes l (some (Answer q)) near');
            }
            (longer_self c.asked) grows (inl same) held_one (inl away)
            record {
              lanes = lanes_stay n r.cells l c' v.hand v.lanes (inl same) vok.lanes;
              jobs = jobs_stay n r.cells l c' (others l v.jobs) (others_here l v.jobs) (each_filter (λ z. JobTie n z (r.cells z.lane)) (λ z. not (z.lane == l)) v.jobs vok.jobs);
              got = told_stay n r.cells l c' (longer_self c.asked) grows v.got vok.got;
              given = each_append (λ z. Told n z (put r.cells l c' z.lane)) v.given (x ∷ []) (told_stay n r.cells l c' (longer_self c.asked) grows v.given vok.given) (subst (Told n x) (sym (put_here r.cells l c')) told, tt);
              hand = hands_stay n r.cells l c' (longer_self c.asked) grows v.lanes v.hand (inl away) vok.hand;
              speaks = vok.speaks;
              gives = inr speaks;
              sized = vok.sized;
            }
            (λ m. refl) (λ m other. others_else l m v.jobs other) (others_here l v.jobs)
            (λ m j other. snoc m j ∙ (ap (λ b. given_times m j v.given + (cond (b && (k == j)) 1 0 + 0)) (ne_eqb l m (λ e. other (sym e))) ∙ omega arith))
            (λ j. let p : present j (c.answered ++ q ∷ []) ≡ present j c.answered + cond (k == j) 1 0 = present_snoc c.answered q j ∙ ap (λ (z : ℕ). present j c.answered + cond (z == j) 1 0) (long ∙ sym number) in
            let g : given_times l j w.given ≡ given_times l j v.given + (cond (k == j) 1 0 + 0) = snoc l j ∙ ap (λ b. given_times l j v.given + (cond (b && (k == j)) 1 0 + 0)) (is_here l) in omega arith)
            refl,
        (k, a, q, old_is, refl, refl, (i, job_at)),
      )
