-- Seats are cut and joined.
use Rattle.std.proofs.Common.{◌≡◌, ℕ, ◌+◌, ◌<◌, inl, inr, ⊎_elim, Bool, ◌==◌, ◌&&◌, List, [], ◌∷◌, ◌++◌, length, set, sym, refl, ◌∙◌, subst, arith, length-append}
use mathlib.Core.Option.{some}
use lib.ListN.{get_elem?}
use Rattle.atomic_table.specs.Table.{State}
use Rattle.atomic_table.proofs.Lists.{at_set, set_else, at_snoc}
use Rattle.bow_tags.specs.declared.view.Slot.{Slot}
use Rattle.bow_tags.specs.declared.view.LaneView.{LaneView}
use Rattle.bow_tags.specs.declared.view.Entry.{Entry}
use Rattle.bow_tags.specs.declared.view.View.{View}
use Rattle.bow_tags.specs.Rule.{Each, times, total, lane_times, job_times, given_times, server_times, LaneTie, JobTie, Told, HandTie, ViewOk, Rule}
use Rattle.bow_tags.specs.Steps.{first_of_list, others_of_list, with_first_lane, without_first_lane, with_first_server, without_first_server, joined, spent}
use Rattle.bow_tags.proofs.Lists.{each_append, total_set, total_append, times-append}

each_first : {A : Type 0} (F : A → Type 0) (xs : List A) → Each F xs → Each F (first_of_list xs)
each_first F [] h = tt
each_first F (x ∷ xs) h = (h.0, tt)

each_others : {A : Type 0} (F : A → Type 0) (xs : List A) → Each F xs → Each F (others_of_list xs)
each_others F [] h = tt
each_others F (x ∷ xs) h = h.1

times_first : {A : Type 0} (t : A → Bool) (xs : List A) → times t (others_of_list xs) + times t (first_of_list xs) ≡ times t xs
times_first t [] = refl
times_first t (x ∷ xs) = omega arith

module _ {P Q : Type 0} (fits : ℕ → P → Type 0) where
  -- a view is cut in two
  cut_rule : (s : State (Slot P Q) (View P Q)) (r : Rule fits s) (id : ℕ) (v a b : View P Q) → get_elem? s.views id ≡ some v
      → ViewOk (length s.homes) r.cells r.size r.servers a → ViewOk (length s.homes) r.cells r.size r.servers b
      → ((k : ℕ) → lane_times k a.lanes + lane_times k b.lanes ≡ lane_times k v.lanes) → ((k : ℕ) → job_times k a.jobs + job_times k b.jobs ≡ job_times k v.jobs)
      → ((k i : ℕ) → given_times k i a.given + given_times k i b.given ≡ given_times k i v.given) → ((j : ℕ) → server_times j a.speaks + server_times j b.speaks ≡ server_times j v.speaks)
      → Rule fits record { words = s.words; homes = s.homes; views = set s.views id a ++ b ∷ [] }
  cut_rule s r id v a b at aok bok dl dj dg ds =
      let cut : (f : View P Q → ℕ) → f a + f b ≡ f v → total f (set s.views id a ++ b ∷ []) ≡ total f s.views =
      λ f e. let t = total_set f s.views id v a at in let u = total_append f (set s.views id a) (b ∷ []) in omega arith in record {
        size = r.size;
        servers = r.servers;
        cells = r.cells;
        wide = r.wide;
        each_cell = r.each_cell;
        each_view = λ j u u_at. ⊎_elim
            (λ here. ⊎_elim (λ t. subst (ViewOk (length s.homes) r.cells r.size r.servers) t.1 aok) (λ t. r.each_view j u t.1) (at_set s.views id j a u here))
            (λ is. subst (ViewOk (length s.homes) r.cells r.size r.servers) is bok) (at_snoc (set s.views id a) b u j u_at);
        one_lane = λ k near. cut (λ x. lane_times k x.lanes) (dl k) ∙ r.one_lane k near;
        one_job = λ k near. cut (λ x. job_times k x.jobs) (dj k) ∙ r.one_job k near;
        one_given = λ k i near. cut (λ x. given_times k i x.given) (dg k i) ∙ r.one_given k i near;
        one_server = λ j near. cut (λ x. server_times j x.speaks) (ds j) ∙ r.one_server j near;
      }

  pub lane_splits : (id : ℕ) (v : View P Q) → v.hand ≡ [] → (s : State (Slot P Q) (View P Q)) → Rule fits s → get_elem? s.views id ≡ some v
      → Rule fits record { words = s.words; homes = s.homes; views = set s.views id (without_first_lane v) ++ with_first_lane v ∷ [] }
  lane_splits id v empty s r at = let ok = r.each_view id v at in let n : ℕ = length s.homes in
      cut_rule s r id v (without_first_lane v) (with_first_lane v) at
      record { lanes = each_others (λ e. LaneTie n v.hand e (r.cells e.lane)) v.lanes ok.lanes; jobs = ok.jobs; got = ok.got; given = ok.given; hand = subst (Each (λ x. HandTie n (others_of_list v.lanes) x (r.cells x.lane))) (sym empty) tt; speaks = ok.speaks; gives = ok.gives; sized = ok.sized }
      record { lanes = each_first (λ e. LaneTie n [] e (r.cells e.lane)) v.lanes (subst (λ (h : List (Entry P Q)). Each (λ e. LaneTie n h e (r.cells e.lane)) v.lanes) empty ok.lanes); jobs = tt; got = tt; given = tt; hand = tt; speaks = tt; gives = inl refl; sized = ok.sized }
      (λ k. times_first (λ e. e.lane == k) v.lanes) (λ k. omega arith) (λ k i. omega arith) (λ j. omega arith)

  pub server_splits : (id : ℕ) (v : View P Q) → v.given ≡ [] → (s : State (Slot P Q) (View P Q)) → Rule fits s → get_elem? s.views id ≡ some v
      → Rule fits record { words = s.words; homes = s.homes; views = set s.views id (without_first_server v) ++ with_first_server v ∷ [] }
  server_splits id v empty s r at = let ok = r.each_view id v at in
      cut_rule s r id v (without_first_server v) (with_first_server v) at
      record { lanes = ok.lanes; jobs = ok.jobs; got = ok.got; given = ok.given; hand = ok.hand; speaks = each_others (λ j. j < r.servers) v.speaks ok.speaks; gives = inl empty; sized = ok.sized }
      record { lanes = tt; jobs = tt; got = tt; given = tt; hand = tt; speaks = each_first (λ j. j < r.servers) v.speaks ok.speaks; gives = inl refl; sized = ok.sized }
      (λ k. omega arith) (λ k. omega arith) (λ k i. omega arith) (λ j. times_first (λ x. x == j) v.speaks)

  -- one seat takes in another
  pub joins : (id : ℕ) (v : View P Q) (other : ℕ) (w : View P Q) → v.hand ≡ [] → w.hand ≡ [] → (s : State (Slot P Q) (View P Q)) → Rule fits s → get_elem? s.views id ≡ some v → ¬ (other ≡ id)
      → get_elem? (set s.views id (joined v w)) other ≡ some w → Rule fits record { words = s.words; homes = s.homes; views = set (set s.views id (joined v w)) other spent }
  joins id v other w no_v no_w s r at ne w_at =
      let n : ℕ = length s.homes in
      let there : get_elem? s.views other ≡ some w = sym (set_else s.views id other (joined v w) ne) ∙ w_at in
      let ok = r.each_view id v at in let ok' = r.each_view other w there in
      let both : (f : View P Q → ℕ) → f (joined v w) ≡ f v + f w → f spent ≡ 0 → total f (set (set s.views id (joined v w)) other spent) ≡ total f s.views =
      λ f e z. let t = total_set f s.views id v (joined v w) at in let u = total_set f (set s.views id (joined v w)) other w spent w_at in omega arith in
      let nothing : v.hand ++ w.hand ≡ [] = subst (λ (z : List (Entry P Q) × List (Entry P Q)). z.0 ++ z.1 ≡ []) (λ k. (sym no_v k, sym no_w k)) refl in
      let bare : (hs : List (Entry P Q)) (xs : List (LaneView P)) → hs ≡ [] → Each (λ e. LaneTie n hs e (r.cells e.lane)) xs → Each (λ e. LaneTie n (v.hand ++ w.hand) e (r.cells e.lane)) xs =
      λ hs xs e h. subst (λ (z : List (Entry P Q)). Each (λ x. LaneTie n z x (r.cells x.lane)) xs) (e ∙ sym nothing) h in
      let mine : ViewOk n r.cells r.size r.servers (joined v w) = record {
        lanes = each_append (λ e. LaneTie n (v.hand ++ w.hand) e (r.cells e.lane)) v.lanes w.lanes (bare v.hand v.lanes no_v ok.lanes) (bare w.hand w.lanes no_w ok'.lanes);
        jobs = each_append (λ j. JobTie n j (r.cells j.lane)) v.jobs w.jobs ok.jobs ok'.jobs;
        got = each_append (λ x. Told n x (r.cells x.lane)) v.got w.got ok.got ok'.got;
        given = each_append (λ x. Told n x (r.cells x.lane)) v.given w.given ok.given ok'.given;
        hand = subst (Each (λ x. HandTie n (v.lanes ++ w.lanes) x (r.cells x.lane))) (sym nothing) tt;
        speaks = each_append (λ j. j < r.servers) v.speaks w.speaks ok.speaks ok'.speaks;
        gives = ⊎_elim
            (λ a. ⊎_elim (λ b. inl (subst (λ (z : List (Entry P Q) × List (Entry P Q)). z.0 ++ z.1 ≡ []) (λ k. (sym a k, sym b k)) refl)) (λ b. inr (let l = length-append v.speaks w.speaks in omega arith)) ok'.gives)
            (λ a. inr (let l = length-append v.speaks w.speaks in omega arith)) ok.gives;
        sized = ok.sized;
      } in
      let away : ViewOk n r.cells r.size r.servers spent = record { lanes = tt; jobs = tt; got = tt; given = tt; hand = tt; speaks = tt; gives = inl refl; sized = λ alive. absurd cc } in record {
        size = r.size;
        servers = r.servers;
        cells = r.cells;
        wide = r.wide;
        each_cell = r.each_cell;
        each_view = λ j u u_at. ⊎_elim (λ t. subst (ViewOk n r.cells r.size r.servers) t.1 away)
            (λ t. ⊎_elim (λ t'. subst (ViewOk n r.cells r.size r.servers) t'.1 mine) (λ t'. r.each_view j u t'.1) (at_set s.views id j (joined v w) u t.1))
            (at_set (set s.views id (joined v w)) other j spent u u_at);
        one_lane = λ k near. both (λ x. lane_times k x.lanes) (times-append (λ e. e.lane == k) v.lanes w.lanes) refl ∙ r.one_lane k near;
        one_job = λ k near. both (λ x. job_times k x.jobs) (times-append (λ e. e.lane == k) v.jobs w.jobs) refl ∙ r.one_job k near;
        one_given = λ k i near. both (λ x. given_times k i x.given) (times-append (λ e. (e.lane == k) && (e.number == i)) v.given w.given) refl ∙ r.one_given k i near;
        one_server = λ j near. both (λ x. server_times j x.speaks) (times-append (λ e. e == j) v.speaks w.speaks) refl ∙ r.one_server j near;
      }
