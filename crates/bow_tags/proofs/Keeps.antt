-- Each step keeps the rule.
use Rattle.std.proofs.Common.{◌≡◌, ℕ, zero, suc, ◌+◌, ◌*◌, ◌%◌, ◌^◌, ◌<◌, ◌≤◌, ◌≢◌, ◌⊎◌, inr, ⊎_elim, Bool, true, cond, ◌==◌, eqb, List, [], ◌∷◌, ◌++◌, length, set, get_or, sym, refl, ap, ◌∙◌, subst, arith, length-set, length-append, get_or-set_same, eq-eqb}
use mathlib.Core.Path.{Path}
use mathlib.Core.Option.{Option, some, none}
use native.Mathlib.Decide.{ℕ_discrete}
use mathlib.Core.Logic.{dite}
use lib.ListN.{get_elem?}
use prog.Atomic.{either}
use Rattle.atomic_table.specs.Table.{State, Me, Act, step, stepped, keeps, takes, gives, Allows, Valid, carried_after}
use Rattle.atomic_table.proofs.Lists.{at_set, set_here, set_else, set_again, at_longer, at_last}
use Rattle.bow_tags.specs.declared.view.Slot.{Slot}
use Rattle.bow_tags.specs.declared.view.Slot.TheVariants.{Empty, Ask, Answer}
use Rattle.bow_tags.specs.declared.view.Stance.TheVariants.{Idle, Holding, Posted}
use Rattle.bow_tags.specs.declared.view.LaneView.{LaneView}
use Rattle.bow_tags.specs.declared.view.Held.{Held}
use Rattle.bow_tags.specs.declared.view.Entry.{Entry}
use Rattle.bow_tags.specs.declared.view.View.{View}
use Rattle.bow_tags.specs.Rule.{Phase, idle, holding, posted, taken, done, retiring, face, stance_of, asks, replies, holders, hands, Each, total, present, Cell, lane_times, job_times, hand_times, given_times, server_times, InPhase, CellOk, LaneTie, JobTie, Told, HandTie, ViewOk, Rule}
use Rattle.bow_tags.specs.Steps.{lane_of, with_lane, looked, entry, holds_slot, posts, polls, retires, looks, settles, SpeaksForIdle}
use Rattle.bow_tags.proofs.Lists.{each_append, each_at, at_short, total_set, total_at}
use Rattle.bow_tags.proofs.Moved.{put, put_here, Longer, jobs_stay, told_stay, moved}

pub face_small : (ph : Phase) → face ph ≤ 3
face_small idle = omega arith
face_small holding = omega arith
face_small posted = omega arith
face_small taken = omega arith
face_small done = omega arith
face_small retiring = omega arith

idle_phase : (ph : Phase) → Idle ≡ stance_of ph → Path Phase ph idle
idle_phase idle e = refl
idle_phase holding e = absurd cc
idle_phase posted e = absurd cc
idle_phase taken e = absurd cc
idle_phase done e = absurd cc
idle_phase retiring e = absurd cc

holding_phase : (ph : Phase) → Holding ≡ stance_of ph → Path Phase ph holding
holding_phase idle e = absurd cc
holding_phase holding e = refl
holding_phase posted e = absurd cc
holding_phase taken e = absurd cc
holding_phase done e = absurd cc
holding_phase retiring e = absurd cc

pub posted_phase : (ph : Phase) → face ph ≡ 1 → Path Phase ph posted
posted_phase idle e = absurd (omega arith)
posted_phase holding e = absurd (omega arith)
posted_phase posted e = refl
posted_phase taken e = absurd (omega arith)
posted_phase done e = absurd (omega arith)
posted_phase retiring e = absurd (omega arith)

-- a word of face 3 with no reply in hand
done_phase : (ph : Phase) → face ph ≡ 3 → 0 ≡ hands ph → Path Phase ph done
done_phase idle e h = absurd (omega arith)
done_phase holding e h = absurd (omega arith)
done_phase posted e h = absurd (omega arith)
done_phase taken e h = absurd (omega arith)
done_phase done e h = refl
done_phase retiring e h = absurd (omega arith)

pub is_here : (l : ℕ) → (l == l) ≡ true
is_here l = eq-eqb l l refl

pub longer_self : {A : Type 0} (xs : List A) → Longer xs xs
longer_self xs k x e = e

index_at : (xs : List ℕ) (i a : ℕ) → i < length xs → a ≡ get_or xs i 0 → get_elem? xs i ≡ some a
index_at [] i a h e = absurd (omega arith)
index_at (x ∷ xs) zero a h e = ap some (sym e)
index_at (x ∷ xs) (suc i) a h e = index_at xs i a (omega arith) e

lane_here : {P : Type 0} (e : LaneView P) (l : ℕ) → e.lane ≡ l → lane_times l (e ∷ []) ≡ 1
lane_here e l is = subst (λ b. cond b 1 0 + 0 ≡ 1) (sym (eq-eqb e.lane l is)) (omega arith)

module _ {P Q : Type 0} (fits : ℕ → P → Type 0) where
  word_is : (s : State (Slot P Q) (View P Q)) (l y : ℕ) → l < length s.words → y ≡ get_or s.words l 0 → Path (List ℕ) (set s.words l y) s.words
  word_is s l y near is = set_again s.words l y (index_at s.words l y near is)

  same_ok : (n : ℕ) (cells : ℕ → Cell P Q) (size servers l y : ℕ) (v : View P Q) → ViewOk n cells size servers v → ViewOk n cells size servers (looked l y v)
  same_ok n cells size servers l y v ok = record { lanes = ok.lanes; jobs = ok.jobs; got = ok.got; given = ok.given; hand = ok.hand; speaks = ok.speaks; gives = ok.gives; sized = ok.sized }

  -- a load changes the view alone
  pub looked_rule : (s : State (Slot P Q) (View P Q)) (r : Rule fits s) (id l y : ℕ) (v : View P Q) → get_elem? s.views id ≡ some v → l < length s.homes → y ≡ get_or s.words l 0
      → Rule fits record { words = set s.words l y; homes = s.homes; views = set s.views id (looked l y v) }
  looked_rule s r id l y v at near is =
      let w : View P Q = looked l y v in
      let same_total : (f : View P Q → ℕ) → f w ≡ f v → total f (set s.views id w) ≡ total f s.views = λ f e. let t = total_set f s.views id v w at in omega arith in
      subst (λ (ws : List ℕ). Rule fits record { words = ws; homes = s.homes; views = set s.views id w }) (sym (word_is s l y (let wd = r.wide in omega arith) is)) record {
        size = r.size;
        servers = r.servers;
        cells = r.cells;
        wide = r.wide;
        each_cell = r.each_cell;
        each_view = λ j u u_at. ⊎_elim (λ t. subst (ViewOk (length s.homes) r.cells r.size r.servers) t.1 (same_ok (length s.homes) r.cells r.size r.servers l y v (r.each_view id v at))) (λ t. r.each_view j u t.1) (at_set s.views id j w u u_at);
        one_lane = λ k k_near. same_total (λ x. lane_times k x.lanes) refl ∙ r.one_lane k k_near;
        one_job = λ k k_near. same_total (λ x. job_times k x.jobs) refl ∙ r.one_job k k_near;
        one_given = λ k i k_near. same_total (λ x. given_times k i x.given) refl ∙ r.one_given k i k_near;
        one_server = λ j j_near. same_total (λ x. server_times j x.speaks) refl ∙ r.one_server j j_near;
      }

  pub look_allowed : (slots id l : ℕ) (me : Me (Slot P Q) (View P Q)) → l < slots → Allows (Rule fits) slots id me l (λ y. y) (looks (step slots l 0 0 none) me)
  look_allowed slots id l me near s r wide at small =
      let y : ℕ = get_or s.words l 0 in let near' : l < length s.homes = subst (λ (z : ℕ). l < z) (sym wide) near in let ok = r.each_cell l near' in (
        looked l y me.0,
        keeps,
        tt,
        looked_rule s r id l y me.0 at near' refl,
        ((let f = face_small (r.cells l).phase in let w : y ≡ 4 * (r.cells l).number + face (r.cells l).phase = ok.word in let sm = ok.small in omega arith), refl),
      )

  -- no job or hand of a lane whose phase has none
  pub no_job : (s : State (Slot P Q) (View P Q)) (r : Rule fits s) (id l : ℕ) (v : View P Q) → get_elem? s.views id ≡ some v → l < length s.homes → holders (r.cells l).phase ≡ 0 → job_times l v.jobs ≡ 0
  no_job s r id l v at near h = let t = total_at (λ (x : View P Q). job_times l x.jobs) s.views id v at in let o = r.one_job l near in omega arith

  -- what the seat's one lane is tied to
  tie : (s : State (Slot P Q) (View P Q)) (r : Rule fits s) (id l : ℕ) (v : View P Q) (e : LaneView P) → get_elem? s.views id ≡ some v → v.lanes ≡ e ∷ [] → e.lane ≡ l → LaneTie (length s.homes) v.hand e (r.cells l)
  tie s r id l v e at one is = let h : Each (λ x. LaneTie (length s.homes) v.hand x (r.cells x.lane)) (e ∷ []) = subst (Each (λ x. LaneTie (length s.homes) v.hand x (r.cells x.lane))) one (r.each_view id v at).lanes in
      subst (λ (k : ℕ). LaneTie (length s.homes) v.hand e (r.cells k)) is h.0

  -- a step of the lane's own seat, from the cell's view of it
  module _ (s : State (Slot P Q) (View P Q)) (r : Rule fits s) (id l : ℕ) (v : View P Q) (e e' : LaneView P) (at : get_elem? s.views id ≡ some v) (one : v.lanes ≡ e ∷ []) (is : e.lane ≡ l) (is' : e'.lane ≡ l) where
    lanes_same : (k : ℕ) → lane_times k (e' ∷ []) ≡ lane_times k v.lanes
    lanes_same k = subst (λ (xs : List (LaneView P)). lane_times k (e' ∷ []) ≡ lane_times k xs) (sym one) (ap (λ (z : ℕ). cond (z == k) 1 0 + 0) (is' ∙ sym is))

    speaks_here : 0 < lane_times l v.lanes
    speaks_here = subst (λ (z : ℕ). 0 < z) (lanes_same l) (let k = lane_here e' l is' in omega arith)

    -- where the asks grow and the answers stay
    own : (c : Cell P Q) (w : View P Q) → holders (r.cells l).phase ≡ 0 → Longer (r.cells l).asked c.asked → Longer (r.cells l).answered c.answered
        → w.lanes ≡ e' ∷ [] → w.jobs ≡ v.jobs → w.given ≡ v.given → w.speaks ≡ v.speaks → w.live ≡ v.live → w.size ≡ v.size → w.width ≡ v.width → w.servers ≡ v.servers
        → LaneTie (length s.homes) w.hand e' c → Each (λ x. Told (length s.homes) x (put r.cells l c x.lane)) w.got → Each (λ x. HandTie (length s.homes) w.lanes x (put r.cells l c x.lane)) w.hand
        → ViewOk (length s.homes) (put r.cells l c) r.size r.servers w
    own c w free ask answer lanes jobs given speaks live size width servers mine got hand = let n : ℕ = length s.homes in let ok = r.each_view id v at in let near : l < n = subst (λ (k : ℕ). k < n) is' mine.near in record {
      lanes = subst (Each (λ x. LaneTie n w.hand x (put r.cells l c x.lane))) (sym lanes) (subst (λ (k : ℕ). LaneTie n w.hand e' (put r.cells l c k)) (sym is') (subst (LaneTie n w.hand e') (sym (put_here r.cells l c)) mine), tt);
      jobs = subst (Each (λ x. JobTie n x (put r.cells l c x.lane))) (sym jobs) (jobs_stay n r.cells l c v.jobs (no_job s r id l v at near free) ok.jobs);
      got = got;
      given = subst (Each (λ x. Told n x (put r.cells l c x.lane))) (sym given) (told_stay n r.cells l c ask answer v.given ok.given);
      hand = hand;
      speaks = subst (Each (λ j. j < r.servers)) (sym speaks) ok.speaks;
      gives = subst (λ (z : List (Entry P Q) × List ℕ). (z.0 ≡ []) ⊎ (0 < length z.1)) (λ k. (sym given k, sym speaks k)) ok.gives;
      sized = λ alive. let z = ok.sized (sym live ∙ alive) in (size ∙ z.0, width ∙ z.1, servers ∙ z.2);
    }

    -- the rule after it
    pub lane_moves : (c : Cell P Q) (w : View P Q) (m : ℕ) (homes : List (Option (Slot P Q))) → holders (r.cells l).phase ≡ 0 → Longer (r.cells l).asked c.asked → (r.cells l).answered ≡ c.answered
        → w.lanes ≡ e' ∷ [] → w.jobs ≡ v.jobs → w.given ≡ v.given → w.speaks ≡ v.speaks → w.live ≡ v.live → w.size ≡ v.size → w.width ≡ v.width → w.servers ≡ v.servers
        → LaneTie (length s.homes) w.hand e' c → Each (λ x. Told (length s.homes) x (put r.cells l c x.lane)) w.got → Each (λ x. HandTie (length s.homes) w.lanes x (put r.cells l c x.lane)) w.hand
        → length homes ≡ length s.homes → ((j : ℕ) → j ≢ l → get_elem? homes j ≡ get_elem? s.homes j) → CellOk fits r.size (set s.words l m) homes l c → holders c.phase ≡ 0
        → Rule fits record { words = set s.words l m; homes = homes; views = set s.views id w }
    lane_moves c w m homes free ask answer lanes jobs given speaks live size width servers mine got hand as_long home ok free' =
        let n : ℕ = length s.homes in let near : l < n = subst (λ (k : ℕ). k < n) is' mine.near in
        let answer' : Longer (r.cells l).answered c.answered = subst (Longer (r.cells l).answered) answer (longer_self (r.cells l).answered) in
        let none_here : job_times l v.jobs ≡ 0 = no_job s r id l v at near free in
        moved fits s r id v w l c m homes at near as_long home ok ask answer' (inr speaks_here) (none_here ∙ sym free) (inr speaks_here)
        (own c w free ask answer' lanes jobs given speaks live size width servers mine got hand)
        (λ k. ap (lane_times k) lanes ∙ lanes_same k) (λ k _. ap (job_times k) jobs) (ap (job_times l) jobs ∙ (none_here ∙ sym free'))
        (λ k i _. ap (given_times k i) given) (λ i. let a : given_times l i w.given ≡ given_times l i v.given = ap (given_times l i) given in let b : present i (r.cells l).answered ≡ present i c.answered = ap (present i) answer in omega arith) speaks

  -- a lane's cell comes to another phase with the same counts
  pub cell_goes_on : (size : ℕ) (words : List ℕ) (homes homes' : List (Option (Slot P Q))) (l word : ℕ) (c : Cell P Q) (ph : Phase) → CellOk fits size words homes l c → l < length words → word ≡ 4 * c.number + face ph
      → asks c.phase ≡ asks ph → replies c.phase ≡ replies ph → InPhase (get_elem? homes' l) (record c { phase = ph }) ph → CellOk fits size (set words l word) homes' l (record c { phase = ph })
  cell_goes_on size words homes homes' l word c ph ok near is same_asks same_replies slot = record {
    word = get_or-set_same words l word 0 near ∙ is;
    small = subst (λ n. c.number + n < 2 ^ 32) same_asks ok.small;
    asks_are = ok.asks_are ∙ ap (λ n. c.number + n) same_asks;
    replies_are = ok.replies_are ∙ ap (λ n. c.number + n) same_replies;
    fit = ok.fit;
    slot = slot;
  }

  -- post's load
  pub hold_allowed : (slots id l : ℕ) (v : View P Q) (cs : List (ℕ × Slot P Q)) → l < slots → v.lanes ≡ lane_of v ∷ [] → (lane_of v).lane ≡ l → (lane_of v).stance ≡ Idle → v.hand ≡ []
      → Allows (Rule fits) slots id (v, cs) l (λ y. y) (holds_slot (step slots l 0 0 none) (v, cs))
  hold_allowed slots id l v cs near one is idle_now empty s r wide at small =
      let e : LaneView P = lane_of v in
      let y : ℕ = get_or s.words l 0 in let near' : l < length s.homes = subst (λ (z : ℕ). l < z) (sym wide) near in let ok = r.each_cell l near' in
      let c : Cell P Q = r.cells l in let t = tie s r id l v e at one is in
      let ph : Path Phase c.phase idle = idle_phase c.phase (sym idle_now ∙ t.stance) in
      let slot : InPhase (get_elem? s.homes l) c idle = subst (InPhase (get_elem? s.homes l) c) ph ok.slot in
      let c' : Cell P Q = record c { phase = holding } in
      let e' : LaneView P = record e { stance = Holding } in
      let w : View P Q = with_lane e' v in
      let homes : List (Option (Slot P Q)) = set s.homes l none in
      let vok = r.each_view id v at in
      let free : holders c.phase ≡ 0 = ap holders ph in
      let wd = r.wide in (
        w,
        takes l Empty,
        slot,
        lane_moves s r id l v e e' at one is is c' w y homes free (longer_self c.asked) refl refl refl refl refl refl refl refl refl
            record { near = t.near; number = t.number; stance = refl; asked = t.asked; hand = t.hand ∙ ap hands ph }
            (told_stay (length s.homes) r.cells l c' (longer_self c.asked) (longer_self c.answered) v.got vok.got)
            (subst (Each (λ x. HandTie (length s.homes) (e' ∷ []) x (put r.cells l c' x.lane))) (sym empty) tt)
            (length-set s.homes l none) (λ j other. set_else s.homes l j none other)
            (cell_goes_on r.size s.words s.homes homes l y c holding ok (omega arith) (ok.word ∙ ap (λ p. 4 * c.number + face p) ph) (ap asks ph) (ap replies ph) (set_here s.homes l none near')) refl,
        refl,
      )

  -- where every lane is idle, no seat holds a job
  no_jobs : (s : State (Slot P Q) (View P Q)) (r : Rule fits s) (id : ℕ) (v : View P Q) → get_elem? s.views id ≡ some v → SpeaksForIdle (length s.homes) v → (js : List (Held P)) → Each (λ j. JobTie (length s.homes) j (r.cells j.lane)) js → js ≡ []
  no_jobs s r id v at idle_all [] ties = refl
  no_jobs s r id v at idle_all (j ∷ js) ties =
      let job = ties.0 in
      let found = idle_all j.lane job.near in
      let e : LaneView P = found.1 in
      let lane : LaneTie (length s.homes) v.hand e (r.cells e.lane) = each_at (λ x. LaneTie (length s.homes) v.hand x (r.cells x.lane)) v.lanes found.0 e (r.each_view id v at).lanes found.2 in
      let same : (r.cells e.lane).phase ≡ taken = ap (λ (k : ℕ). (r.cells k).phase) found.3 ∙ job.phase in
      absurd (let k : Idle ≡ Posted = sym found.4 ∙ (lane.stance ∙ ap stance_of same) in cc)

  pub settle_allowed : (slots id l : ℕ) (me : Me (Slot P Q) (View P Q)) → l < slots → Allows (Rule fits) slots id me l (λ y. y) (settles (step slots l 0 0 none) me)
  settle_allowed slots id l me near s r wide at small =
      let y : ℕ = get_or s.words l 0 in let near' : l < length s.homes = subst (λ (z : ℕ). l < z) (sym wide) near in (
        looked l y me.0,
        keeps,
        tt,
        looked_rule s r id l y me.0 at near' refl,
        ((λ idle_all. no_jobs s r id me.0 at (subst (λ (z : ℕ). SpeaksForIdle z me.0) (sym wide) idle_all) me.0.jobs (r.each_view id me.0 at).jobs), refl),
      )

  -- the cell of a lane in a phase
  pub in_phase : (c : Cell P Q) (ph : Phase) (h : Option (Option (Slot P Q))) → Path Phase c.phase ph → InPhase h c c.phase → InPhase h c ph
  in_phase c ph h e k = subst (InPhase h c) e k

  -- post gives the slot back with the ask
  pub post_allowed : (slots id l old new : ℕ) (v : View P Q) (a : P) (cs : List (ℕ × Slot P Q)) → l < slots → v.lanes ≡ lane_of v ∷ [] → (lane_of v).lane ≡ l → (lane_of v).stance ≡ Holding → v.hand ≡ [] → v.live ≡ true
      → old ≡ 4 * (lane_of v).number → new ≡ 4 * (lane_of v).number + 1 → (lane_of v).number + 1 < 2 ^ 32 → fits v.size a
      → Allows (Rule fits) slots id (v, (l, Ask a) ∷ cs) l (λ y. either (eqb y old) new y) (posts (step slots l old new none) (v, (l, Ask a) ∷ cs))
  post_allowed slots id l old new v a cs near one is now empty alive old_is new_is room fit s r wide at small =
      let e : LaneView P = lane_of v in
      let y : ℕ = get_or s.words l 0 in let near' : l < length s.homes = subst (λ (z : ℕ). l < z) (sym wide) near in let ok = r.each_cell l near' in
      let n : ℕ = length s.homes in
      let c : Cell P Q = r.cells l in let t = tie s r id l v e at one is in
      let ph : Path Phase c.phase holding = holding_phase c.phase (sym now ∙ t.stance) in
      let number : e.number ≡ c.number = t.number in
      let hit : y ≡ old = let w : y ≡ 4 * c.number + face c.phase = ok.word in let f : face c.phase ≡ 0 = ap face ph in omega arith in
      let c' : Cell P Q = record c { phase = posted; asked = c.asked ++ a ∷ [] } in
      let e' : LaneView P = record e { stance = Posted; asked = e.asked ++ a ∷ [] } in
      let w : View P Q = with_lane e' v in
      let homes : List (Option (Slot P Q)) = set s.homes l (some (Ask a)) in
      let vok = r.each_view id v at in
      let wd = r.wide in
      let long : length c.asked ≡ c.number = ok.asks_are ∙ (let f : asks c.phase ≡ 0 = ap asks ph in omega arith) in
      let grows : Longer c.asked (c.asked ++ a ∷ []) = λ k x h. at_longer c.asked (a ∷ []) k x h in
      let me : Me (Slot P Q) (View P Q) = (v, (l, Ask a) ∷ cs) in
      let Goal : ℕ → Type 0 = λ m. (x : View P Q) × (b : Act (Slot P Q)) × Valid s.homes me.1 b × Rule fits (stepped s l m id me.1 x b) × posts (step slots l old new none) me y (x, carried_after me.1 b) in
      subst (λ (b : Bool). Goal (either b new y)) (sym (eq-eqb y old hit)) (
        w,
        gives,
        tt,
        lane_moves s r id l v e e' at one is is c' w new homes (ap holders ph) grows refl refl refl refl refl refl refl refl refl
            record { near = t.near; number = number; stance = refl; asked = ap (λ (z : List P). z ++ a ∷ []) t.asked; hand = t.hand ∙ ap hands ph }
            (told_stay n r.cells l c' grows (longer_self c.answered) v.got vok.got)
            (subst (Each (λ x. HandTie n (e' ∷ []) x (put r.cells l c' x.lane))) (sym empty) tt)
            (length-set s.homes l (some (Ask a))) (λ j other. set_else s.homes l j (some (Ask a)) other)
            record {
              word = get_or-set_same s.words l new 0 (omega arith) ∙ (omega arith);
              small = omega arith;
              asks_are = length-append c.asked (a ∷ []) ∙ (omega arith);
              replies_are = ok.replies_are ∙ ap (λ p. c.number + replies p) ph;
              fit = each_append (fits r.size) c.asked (a ∷ []) ok.fit (subst (λ (z : ℕ). fits z a) (vok.sized alive).0 fit, tt);
              slot = (a, at_last c.asked a c.number long, set_here s.homes l (some (Ask a)) near');
            } refl,
        (a, refl, refl),
      )

  -- poll's load
  pub poll_allowed : (slots id l : ℕ) (v : View P Q) (cs : List (ℕ × Slot P Q)) → l < slots → v.lanes ≡ lane_of v ∷ [] → (lane_of v).lane ≡ l → (lane_of v).stance ≡ Posted → v.hand ≡ []
      → Allows (Rule fits) slots id (v, cs) l (λ y. y) (polls (step slots l 0 0 none) (v, cs))
  poll_allowed slots id l v cs near one is now empty s r wide at small =
      let e : LaneView P = lane_of v in
      let y : ℕ = get_or s.words l 0 in let near' : l < length s.homes = subst (λ (z : ℕ). l < z) (sym wide) near in let ok = r.each_cell l near' in
      let n : ℕ = length s.homes in
      let c : Cell P Q = r.cells l in let t = tie s r id l v e at one is in
      let number : e.number ≡ c.number = t.number in
      let me : Me (Slot P Q) (View P Q) = (v, cs) in
      let Goal : Type 0 = (x : View P Q) × (b : Act (Slot P Q)) × Valid s.homes me.1 b × Rule fits (stepped s l y id me.1 x b) × polls (step slots l 0 0 none) me y (x, carried_after me.1 b) in
      dite (ℕ_discrete (y % 4) 3)
      (λ hit.
      let ph : Path Phase c.phase done = done_phase c.phase (let w : y ≡ 4 * c.number + face c.phase = ok.word in let f = face_small c.phase in omega arith) (ap (hand_times e.lane) (sym empty) ∙ t.hand) in
      let found : y ≡ 4 * e.number + 3 = let w : y ≡ 4 * c.number + face c.phase = ok.word in let f : face c.phase ≡ 3 = ap face ph in omega arith in
      let slot : InPhase (get_elem? s.homes l) c done = in_phase c done (get_elem? s.homes l) ph ok.slot in
      let q : Q = slot.0 in
      let asked = at_short c.asked c.number (let k = ok.asks_are in let f : asks c.phase ≡ 1 = ap asks ph in omega arith) in
      let a : P = asked.0 in
      let c' : Cell P Q = record c { phase = retiring } in
      let x : Entry P Q = entry l e.number a q in
      let w : View P Q = record (looked l y v) { hand = x ∷ [] } in
      let homes : List (Option (Slot P Q)) = set s.homes l none in
      let vok = r.each_view id v at in
      let wd = r.wide in
      let told : Told n x c' = record { near = near'; ask = ap (get_elem? c.asked) number ∙ asked.1; answer = ap (get_elem? c.answered) number ∙ slot.1 } in
      let result : Goal = (
        w,
        takes l (Answer q),
        slot.2,
        lane_moves s r id l v e e at one is is c' w y homes (ap holders ph) (longer_self c.asked) refl one refl refl refl refl refl refl refl
            record { near = t.near; number = number; stance = now; asked = t.asked; hand = subst (λ b. cond b 1 0 + 0 ≡ 1) (sym (eq-eqb l e.lane (sym is))) (omega arith) }
            (told_stay n r.cells l c' (longer_self c.asked) (longer_self c.answered) v.got vok.got)
            (subst (HandTie n v.lanes x) (sym (put_here r.cells l c')) record { told = told; phase = refl; number = number; speaks = speaks_here s r id l v e e at one is is }, tt)
            (length-set s.homes l none) (λ j other. set_else s.homes l j none other)
            (cell_goes_on r.size s.words s.homes homes l y c retiring ok (omega arith) (ok.word ∙ ap (λ p. 4 * c.number + face p) ph) (ap asks ph) (ap replies ph) (set_here s.homes l none near')) refl,
        ((λ _. (a, q, found, ap (λ (z : List P). get_elem? z e.number) t.asked ∙ told.ask, refl)), (λ miss. absurd (miss hit))),
      ) in result)
      (λ miss.
      let result : Goal = (looked l y v, keeps, tt, looked_rule s r id l y v at near' refl, ((λ hit. absurd (miss hit)), λ _. refl)) in result)

  -- poll gives the slot back
  pub retire_allowed : (slots id l old new : ℕ) (v : View P Q) (cs : List (ℕ × Slot P Q)) (x : Entry P Q) → l < slots → v.lanes ≡ lane_of v ∷ [] → (lane_of v).lane ≡ l → v.hand ≡ x ∷ [] → x.lane ≡ l
      → old ≡ 4 * (lane_of v).number + 3 → new ≡ 4 * (lane_of v).number + 4
      → Allows (Rule fits) slots id (v, (l, Empty) ∷ cs) l (λ y. either (eqb y old) new y) (retires (step slots l old new none) (v, (l, Empty) ∷ cs))
  retire_allowed slots id l old new v cs x near one is hand x_is old_is new_is s r wide at small =
      let e : LaneView P = lane_of v in
      let y : ℕ = get_or s.words l 0 in let near' : l < length s.homes = subst (λ (z : ℕ). l < z) (sym wide) near in let ok = r.each_cell l near' in
      let n : ℕ = length s.homes in
      let c : Cell P Q = r.cells l in let t = tie s r id l v e at one is in
      let vok = r.each_view id v at in
      let ht : HandTie n v.lanes x c = subst (λ (k : ℕ). HandTie n v.lanes x (r.cells k)) x_is (subst (Each (λ z. HandTie n v.lanes z (r.cells z.lane))) hand vok.hand).0 in
      let ph : Path Phase c.phase retiring = ht.phase in
      let number : e.number ≡ c.number = t.number in
      let hit : y ≡ old = let w : y ≡ 4 * c.number + face c.phase = ok.word in let f : face c.phase ≡ 3 = ap face ph in omega arith in
      let c' : Cell P Q = record c { phase = idle; number = c.number + 1 } in
      let e' : LaneView P = record e { stance = Idle; number = e.number + 1 } in
      let w : View P Q = record (with_lane e' v) { hand = []; got = v.got ++ v.hand } in
      let homes : List (Option (Slot P Q)) = set s.homes l (some Empty) in
      let wd = r.wide in let sm = ok.small in let f1 : asks c.phase ≡ 1 = ap asks ph in let f2 : replies c.phase ≡ 1 = ap replies ph in let al = ok.asks_are in let rl = ok.replies_are in
      let me : Me (Slot P Q) (View P Q) = (v, (l, Empty) ∷ cs) in
      let told_x : Told n x (put r.cells l c' x.lane) = subst (λ (k : ℕ). Told n x (put r.cells l c' k)) (sym x_is) (subst (Told n x) (sym (put_here r.cells l c')) record { near = ht.told.near; ask = ht.told.ask; answer = ht.told.answer }) in
      let Goal : ℕ → Type 0 = λ m. (z : View P Q) × (b : Act (Slot P Q)) × Valid s.homes me.1 b × Rule fits (stepped s l m id me.1 z b) × retires (step slots l old new none) me y (z, carried_after me.1 b) in
      subst (λ (b : Bool). Goal (either b new y)) (sym (eq-eqb y old hit)) (
        w,
        gives,
        tt,
        lane_moves s r id l v e e' at one is is c' w new homes (ap holders ph) (longer_self c.asked) refl refl refl refl refl refl refl refl refl
            record { near = t.near; number = ap (λ (k : ℕ). k + 1) number; stance = refl; asked = t.asked; hand = refl }
            (each_append (λ z. Told n z (put r.cells l c' z.lane)) v.got v.hand (told_stay n r.cells l c' (longer_self c.asked) (longer_self c.answered) v.got vok.got) (subst (Each (λ z. Told n z (put r.cells l c' z.lane))) (sym hand) (told_x, tt)))
            tt
            (length-set s.homes l (some Empty)) (λ j other. set_else s.homes l j (some Empty) other)
            record {
              word = get_or-set_same s.words l new 0 (omega arith) ∙ (omega arith);
              small = omega arith;
              asks_are = omega arith;
              replies_are = omega arith;
              fit = ok.fit;
              slot = set_here s.homes l (some Empty) near';
            } refl,
        refl,
      )
