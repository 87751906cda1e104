-- What stays of the rule when one cell and one seat move.
use Rattle.std.proofs.Common.{◌≡◌, ℕ, ◌+◌, ◌<◌, ◌≢◌, ◌⊎◌, inl, inr, ⊎_elim, true, false, ◌==◌, List, length, set, sym, refl, ap, ◌∙◌, subst, arith, length-set, get_or-set_other, eq-eqb}
use mathlib.Core.Path.{Path}
use mathlib.Core.Option.{Option, some}
use native.Mathlib.Decide.{ℕ_discrete}
use lib.ListN.{get_elem?}
use Rattle.atomic_table.specs.Table.{State}
use Rattle.atomic_table.proofs.Lists.{at_set}
use Rattle.bow_tags.specs.declared.view.Slot.{Slot}
use Rattle.bow_tags.specs.declared.view.LaneView.{LaneView}
use Rattle.bow_tags.specs.declared.view.Held.{Held}
use Rattle.bow_tags.specs.declared.view.Entry.{Entry}
use Rattle.bow_tags.specs.declared.view.View.{View}
use Rattle.bow_tags.specs.Rule.{retiring, stance_of, holders, hands, Each, total, present, Cell, lane_times, job_times, given_times, server_times, InPhase, CellOk, LaneTie, JobTie, Told, HandTie, ViewOk, Rule}
use Rattle.bow_tags.proofs.Lists.{each_map, each_fails, each_both, total_set, total_two}

abbrev pub Longer : {A : Type 0} → List A → List A → Type 0
Longer {A} xs ys = (k : ℕ) (x : A) → get_elem? xs k ≡ some x → get_elem? ys k ≡ some x

pub apart : (a l : ℕ) → (a == l) ≡ false → a ≢ l
apart a l f e = absurd (let t : true ≡ false = sym (eq-eqb a l e) ∙ f in cc)

module _ {P Q : Type 0} where
  abbrev pub pick : {A : Type 0} → Dec A → Cell P Q → Cell P Q → Cell P Q
  pick (yes _) a b = a
  pick (no _) a b = b

  pub put : (ℕ → Cell P Q) → ℕ → Cell P Q → ℕ → Cell P Q
  put cells i c j = pick (ℕ_discrete j i) c (cells j)

  -- what holds of the new cell at i, and of each other cell, holds after
  pub put_at : (cells : ℕ → Cell P Q) (i : ℕ) (c : Cell P Q) (F : Cell P Q → Type 0) (j : ℕ) → (j ≡ i → F c) → (j ≢ i → F (cells j)) → F (put cells i c j)
  unfolding put
  put_at cells i c F j here other = go (ℕ_discrete j i)
    where
      go : (d : Dec (j ≡ i)) → F (pick d c (cells j))
      go (yes e) = here e
      go (no n) = other n

  pub put_here : (cells : ℕ → Cell P Q) (i : ℕ) (c : Cell P Q) → Path (Cell P Q) (put cells i c i) c
  put_here cells i c = put_at cells i c (λ x. Path (Cell P Q) x c) i (λ _. refl) (λ n. absurd (n refl))

  abbrev pub SameLane : Cell P Q → Cell P Q → Type 0
  SameLane c d = (d.number ≡ c.number) × (stance_of d.phase ≡ stance_of c.phase) × (d.asked ≡ c.asked) × (hands d.phase ≡ hands c.phase)

  module _ (n : ℕ) (cells : ℕ → Cell P Q) (l : ℕ) (c : Cell P Q) where
    pub lanes_stay : (hs : List (Entry P Q)) (xs : List (LaneView P)) → SameLane (cells l) c ⊎ (lane_times l xs ≡ 0) → Each (λ e. LaneTie n hs e (cells e.lane)) xs → Each (λ e. LaneTie n hs e (put cells l c e.lane)) xs
    lanes_stay hs xs (inl same) h = each_map xs (λ e t. put_at cells l c (LaneTie n hs e) e.lane (λ is. let u : LaneTie n hs e (cells l) = subst (λ (k : ℕ). LaneTie n hs e (cells k)) is t in record { near = t.near; number = u.number ∙ sym same.0; stance = u.stance ∙ sym same.1; asked = u.asked ∙ sym same.2; hand = u.hand ∙ sym same.3 }) (λ _. t)) h
    lanes_stay hs xs (inr zero_of) h = each_both xs (λ e f t. put_at cells l c (LaneTie n hs e) e.lane (λ is. absurd (apart e.lane l f is)) (λ _. t)) (each_fails (λ x. x.lane == l) xs zero_of) h

    pub jobs_stay : (xs : List (Held P)) → job_times l xs ≡ 0 → Each (λ e. JobTie n e (cells e.lane)) xs → Each (λ e. JobTie n e (put cells l c e.lane)) xs
    jobs_stay xs zero_of h = each_both xs (λ e f t. put_at cells l c (JobTie n e) e.lane (λ is. absurd (apart e.lane l f is)) (λ _. t)) (each_fails (λ x. x.lane == l) xs zero_of) h

    pub told_stay : Longer (cells l).asked c.asked → Longer (cells l).answered c.answered → (xs : List (Entry P Q)) → Each (λ e. Told n e (cells e.lane)) xs → Each (λ e. Told n e (put cells l c e.lane)) xs
    told_stay a b xs h = each_map xs (λ e t. put_at cells l c (Told n e) e.lane (λ is. let u : Told n e (cells l) = subst (λ (k : ℕ). Told n e (cells k)) is t in record { near = t.near; ask = a _ _ u.ask; answer = b _ _ u.answer }) (λ _. t)) h

    pub hands_stay : Longer (cells l).asked c.asked → Longer (cells l).answered c.answered → (ls : List (LaneView P)) (xs : List (Entry P Q)) → ((cells l).phase ≢ retiring) ⊎ (lane_times l ls ≡ 0)
        → Each (λ e. HandTie n ls e (cells e.lane)) xs → Each (λ e. HandTie n ls e (put cells l c e.lane)) xs
    hands_stay a b ls xs (inl ne) h = each_map xs (λ e t. put_at cells l c (HandTie n ls e) e.lane (λ is. absurd (ne (ap (λ (k : ℕ). (cells k).phase) (sym is) ∙ t.phase))) (λ _. t)) h
    hands_stay a b ls xs (inr zero_of) h = each_map xs (λ e t. put_at cells l c (HandTie n ls e) e.lane (λ is. absurd (let u : 0 < lane_times l ls = subst (λ (k : ℕ). 0 < lane_times k ls) is t.speaks in omega arith)) (λ _. t)) h

  module _ (fits : ℕ → P → Type 0) where
    cell_else : (size : ℕ) (words : List ℕ) (homes homes' : List (Option (Slot P Q))) (l m i : ℕ) (c : Cell P Q) → i ≢ l → get_elem? homes' i ≡ get_elem? homes i → CellOk fits size words homes i c → CellOk fits size (set words l m) homes' i c
    cell_else size words homes homes' l m i c ne same ok = record {
      word = get_or-set_other words l i m 0 ne ∙ ok.word;
      small = ok.small;
      asks_are = ok.asks_are;
      replies_are = ok.replies_are;
      fit = ok.fit;
      slot = subst (λ h. InPhase h c c.phase) (sym same) ok.slot;
    }

    -- the cell l goes to c, the seat id to w
    pub moved : (s : State (Slot P Q) (View P Q)) (r : Rule fits s) (id : ℕ) (v w : View P Q) (l : ℕ) (c : Cell P Q) (m : ℕ) (homes : List (Option (Slot P Q)))
        → get_elem? s.views id ≡ some v → l < length s.homes → length homes ≡ length s.homes → ((j : ℕ) → j ≢ l → get_elem? homes j ≡ get_elem? s.homes j)
        → CellOk fits r.size (set s.words l m) homes l c
        → Longer (r.cells l).asked c.asked → Longer (r.cells l).answered c.answered
        → SameLane (r.cells l) c ⊎ (0 < lane_times l v.lanes)
        → job_times l v.jobs ≡ holders (r.cells l).phase → ((r.cells l).phase ≢ retiring) ⊎ (0 < lane_times l v.lanes)
        → ViewOk (length s.homes) (put r.cells l c) r.size r.servers w
        → ((k : ℕ) → lane_times k w.lanes ≡ lane_times k v.lanes)
        → ((k : ℕ) → k ≢ l → job_times k w.jobs ≡ job_times k v.jobs) → job_times l w.jobs ≡ holders c.phase
        → ((k i : ℕ) → k ≢ l → given_times k i w.given ≡ given_times k i v.given)
        → ((i : ℕ) → given_times l i w.given + present i (r.cells l).answered ≡ given_times l i v.given + present i c.answered)
        → w.speaks ≡ v.speaks
        → Rule fits record { words = set s.words l m; homes = homes; views = set s.views id w }
    moved s r id v w l c m homes at near as_long home ok more_asked more_answered lane job hand mine dl dj dj' dg dg' ds =
        let n : ℕ = length s.homes in
        let C : ℕ → Cell P Q = put r.cells l c in
        let other_job : (j : ℕ) (u : View P Q) → j ≢ id → get_elem? s.views j ≡ some u → job_times l u.jobs ≡ 0 =
        λ j u ne u_at. let t = total_two (λ (x : View P Q). job_times l x.jobs) s.views id j v u ne at u_at in let o = r.one_job l near in omega arith in
        let other_hand : (j : ℕ) (u : View P Q) → j ≢ id → get_elem? s.views j ≡ some u → ((r.cells l).phase ≢ retiring) ⊎ (lane_times l u.lanes ≡ 0) =
        λ j u ne u_at. ⊎_elim (λ same. inl same) (λ has. inr (let t = total_two (λ (x : View P Q). lane_times l x.lanes) s.views id j v u ne at u_at in let o = r.one_lane l near in omega arith)) hand in
        let other_lane : (j : ℕ) (u : View P Q) → j ≢ id → get_elem? s.views j ≡ some u → SameLane (r.cells l) c ⊎ (lane_times l u.lanes ≡ 0) =
        λ j u ne u_at. ⊎_elim (λ same. inl same) (λ has. inr (let t = total_two (λ (x : View P Q). lane_times l x.lanes) s.views id j v u ne at u_at in let o = r.one_lane l near in omega arith)) lane in
        let stays : (j : ℕ) (u : View P Q) → j ≢ id → get_elem? s.views j ≡ some u → ViewOk n C r.size r.servers u =
        λ j u ne u_at. let ok_u = r.each_view j u u_at in record {
          lanes = lanes_stay n r.cells l c u.hand u.lanes (other_lane j u ne u_at) ok_u.lanes;
          jobs = jobs_stay n r.cells l c u.jobs (other_job j u ne u_at) ok_u.jobs;
          got = told_stay n r.cells l c more_asked more_answered u.got ok_u.got;
          given = told_stay n r.cells l c more_asked more_answered u.given ok_u.given;
          hand = hands_stay n r.cells l c more_asked more_answered u.lanes u.hand (other_hand j u ne u_at) ok_u.hand;
          speaks = ok_u.speaks;
          gives = ok_u.gives;
          sized = ok_u.sized;
        } in
        record {
          size = r.size;
          servers = r.servers;
          cells = C;
          wide = length-set s.words l m ∙ (r.wide ∙ sym as_long);
          each_cell = λ i i_near. put_at r.cells l c (CellOk fits r.size (set s.words l m) homes i) i
              (λ is. subst (λ (k : ℕ). CellOk fits r.size (set s.words l m) homes k c) (sym is) ok)
              (λ ne. cell_else r.size s.words s.homes homes l m i (r.cells i) ne (home i ne) (r.each_cell i (subst (λ (k : ℕ). i < k) as_long i_near)));
          each_view = λ j u u_at. subst (λ (k : ℕ). ViewOk k C r.size r.servers u) (sym as_long)
              (⊎_elim (λ t. subst (ViewOk n C r.size r.servers) t.1 mine) (λ t. stays j u t.0 t.1) (at_set s.views id j w u u_at));
          one_lane = λ k k_near. let t = total_set (λ (x : View P Q). lane_times k x.lanes) s.views id v w at in let o = r.one_lane k (subst (λ (z : ℕ). k < z) as_long k_near) in let d = dl k in omega arith;
          one_job = λ k k_near. let t = total_set (λ (x : View P Q). job_times k x.jobs) s.views id v w at in let o = r.one_job k (subst (λ (z : ℕ). k < z) as_long k_near) in
              put_at r.cells l c (λ d. total (λ (x : View P Q). job_times k x.jobs) (set s.views id w) ≡ holders d.phase) k
              (λ is. subst (λ (z : ℕ). total (λ (x : View P Q). job_times z x.jobs) (set s.views id w) ≡ holders c.phase) (sym is)
              (let t' = total_set (λ (x : View P Q). job_times l x.jobs) s.views id v w at in let o' = r.one_job l near in omega arith))
              (λ ne. let d = dj k ne in omega arith);
          one_given = λ k i k_near. let t = total_set (λ (x : View P Q). given_times k i x.given) s.views id v w at in let o = r.one_given k i (subst (λ (z : ℕ). k < z) as_long k_near) in
              put_at r.cells l c (λ d. total (λ (x : View P Q). given_times k i x.given) (set s.views id w) ≡ present i d.answered) k
              (λ is. subst (λ (z : ℕ). total (λ (x : View P Q). given_times z i x.given) (set s.views id w) ≡ present i c.answered) (sym is)
              (let t' = total_set (λ (x : View P Q). given_times l i x.given) s.views id v w at in let o' = r.one_given l i near in let d = dg' i in omega arith))
              (λ ne. let d = dg k i ne in omega arith);
          one_server = λ j j_near. let t = total_set (λ (x : View P Q). server_times j x.speaks) s.views id v w at in let o = r.one_server j j_near in let d = ap (server_times j) ds in omega arith;
        }
