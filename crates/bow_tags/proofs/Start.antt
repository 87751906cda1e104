-- The rule holds of the table as it is made.
use Rattle.std.proofs.Common.{◌≡◌, ℕ, zero, suc, ◌+◌, ◌-◌, ◌<◌, ◌≤◌, inl, false, List, [], ◌∷◌, length, get_or, sym, refl, ap, ◌∙◌, subst, arith, replicate, map, take}
use mathlib.Core.Option.{Option, some, some-injective, some-ne-none}
use native.Mathlib.Decide.{ℕ_discrete}
use mathlib.Core.Logic.{dite}
use lib.ListN.{get_elem?}
use Rattle.atomic_table.specs.Table.{opening}
use Rattle.bow_tags.specs.declared.view.Slot.{Slot}
use Rattle.bow_tags.specs.declared.view.Slot.TheVariants.{Empty}
use Rattle.bow_tags.specs.declared.view.LaneView.{LaneView}
use Rattle.bow_tags.specs.declared.view.View.{View}
use Rattle.bow_tags.specs.Rule.{idle, Each, Cell, lane_times, server_times, LaneTie, ViewOk, Rule, all_lanes, below, whole, fresh_lane, new_view}
use Rattle.bow_tags.specs.declared.table.Opening.{Opening}
use Rattle.bow_tags.proofs.Tally.{hit_one, miss_zero}
use Rattle.bow_tags.specs.Steps.{first_of_list, others_of_list, with_first_lane, without_first_lane, with_first_server, without_first_server}
use Rattle.bow_tags.specs.Seats.{IsLaneSeat, IsServerSeat, first_view}

servers_above : (from n l : ℕ) → l < from → server_times l (below from n) ≡ 0
servers_above from zero l low = refl
servers_above from (suc n) l low = let e = miss_zero from l (λ (k : from ≡ l). absurd (omega arith)) in let r = servers_above (from + 1) n l (omega arith) in omega arith

servers_counted : (from n l : ℕ) → from ≤ l → l < from + n → server_times l (below from n) ≡ 1
servers_counted from zero l low high = absurd (omega arith)
servers_counted from (suc n) l low high = dite (ℕ_discrete from l)
    (λ is. let e = hit_one from l is in let r = servers_above (from + 1) n l (omega arith) in omega arith)
    (λ ne. let e = miss_zero from l ne in let r = servers_counted (from + 1) n l (omega arith) (omega arith) in omega arith)

servers_small : (from n top : ℕ) → from + n ≤ top → Each (λ j. j < top) (below from n)
servers_small from zero top h = tt
servers_small from (suc n) top h = (omega arith, servers_small (from + 1) n top (omega arith))

pub took : (n : ℕ) (xs : List ℕ) → n ≤ length xs → length (take n xs) ≡ n
took zero xs h = refl
took (suc n) [] h = absurd (omega arith)
took (suc n) (x ∷ xs) h = ap suc (took n xs (omega arith))

pub zeros : (n : ℕ) (xs : List ℕ) → Each (λ x. x ≡ 0) xs → (i : ℕ) → get_or (take n xs) i 0 ≡ 0
zeros zero xs h i = refl
zeros (suc n) [] h i = refl
zeros (suc n) (x ∷ xs) h zero = h.0
zeros (suc n) (x ∷ xs) h (suc i) = zeros n xs h.1 i

module _ (P Q : Type 0) where
  lanes_above : (from n l : ℕ) → l < from → lane_times l (all_lanes {P = P} from n) ≡ 0
  lanes_above from zero l low = refl
  lanes_above from (suc n) l low = let e = miss_zero from l (λ (k : from ≡ l). absurd (omega arith)) in let r = lanes_above (from + 1) n l (omega arith) in omega arith

  lanes_counted : (from n l : ℕ) → from ≤ l → l < from + n → lane_times l (all_lanes {P = P} from n) ≡ 1
  lanes_counted from zero l low high = absurd (omega arith)
  lanes_counted from (suc n) l low high = dite (ℕ_discrete from l)
      (λ is. let e = hit_one from l is in let r = lanes_above (from + 1) n l (omega arith) in omega arith)
      (λ ne. let e = miss_zero from l ne in let r = lanes_counted (from + 1) n l (omega arith) (omega arith) in omega arith)

  fresh : Cell P Q
  fresh = record { number = 0; phase = idle; asked = []; answered = [] }

  lanes_tied : (from n top : ℕ) → from + n ≤ top → Each (λ e. LaneTie top [] e fresh) (all_lanes from n)
  unfolding fresh
  lanes_tied from zero top h = tt
  lanes_tied from (suc n) top h = (record { near = omega arith; number = refl; stance = refl; asked = refl; hand = refl }, lanes_tied (from + 1) n top (omega arith))

  empties : (n i : ℕ) → i < n → get_elem? (map some (replicate {A = Slot P Q} n Empty)) i ≡ some (some Empty)
  empties zero i h = absurd (omega arith)
  empties (suc n) zero h = refl
  empties (suc n) (suc i) h = empties n i (omega arith)

  long : (n : ℕ) → length (map some (replicate {A = Slot P Q} n Empty)) ≡ n
  long zero = refl
  long (suc n) = ap suc (long n)

  pub starts : (fits : ℕ → P → Type 0) (ws : List ℕ) (k : Opening) → length ws ≡ k.lanes → ((i : ℕ) → i < k.lanes → get_or ws i 0 ≡ 0) → Rule {P = P} {Q = Q} fits (opening ws (replicate k.lanes Empty) (whole k))
  unfolding fresh
  starts fits ws k wide zeros = let n : ℕ = k.lanes in let homes : List (Option (Slot P Q)) = map some (replicate {A = Slot P Q} n Empty) in let same : length homes ≡ n = long n in
      let ok : ViewOk n (λ i. fresh) k.size k.servers (whole k) = record { lanes = lanes_tied 0 n n (omega arith); jobs = tt; got = tt; given = tt; hand = tt; speaks = servers_small 0 k.servers k.servers (omega arith); gives = inl refl; sized = λ alive. (refl, refl, refl) } in record {
        size = k.size;
        servers = k.servers;
        cells = λ i. fresh;
        wide = wide ∙ sym same;
        each_cell = λ i near. let near' : i < n = subst (λ (z : ℕ). i < z) same near in record { word = zeros i near'; small = omega arith; asks_are = refl; replies_are = refl; fit = tt; slot = empties n i near' };
        each_view = λ j v at. only_one n same k ok j v at;
        one_lane = λ l near. let c = lanes_counted 0 n l (omega arith) (let b : l < n = subst (λ (z : ℕ). l < z) same near in omega arith) in omega arith;
        one_job = λ l near. refl;
        one_given = λ l i near. refl;
        one_server = λ j near. let c = servers_counted 0 k.servers j (omega arith) (omega arith) in omega arith;
      }
    where
      only_one : (n : ℕ) → length (map some (replicate {A = Slot P Q} n Empty)) ≡ n → (k : Opening) → ViewOk n (λ i. fresh) k.size k.servers (whole k) → (j : ℕ) (v : View P Q) → get_elem? (whole k ∷ []) j ≡ some v → ViewOk (length (map some (replicate {A = Slot P Q} n Empty))) (λ i. fresh) k.size k.servers v
      only_one n same k ok zero v at = subst (λ (z : ℕ × View P Q). ViewOk z.0 (λ i. fresh) k.size k.servers z.1) (λ i. (sym same i, some-injective (whole k) v at i)) ok
      only_one n same k ok (suc j) v at = absurd (some-ne-none v (sym at))

one_more : {P : Type 0} (n l : ℕ) → l < n → all_lanes {P = P} l (n - l) ≡ fresh_lane l ∷ all_lanes (l + 1) (n - (l + 1))
one_more {P = P} n l h = subst (λ (z : ℕ). all_lanes {P = P} l z ≡ fresh_lane l ∷ all_lanes (l + 1) (n - (l + 1))) (let e : suc (n - (l + 1)) ≡ n - l = omega arith in e) refl

-- the first seat once it has given the seat of lane l away, and that seat
pub first_goes : {P Q : Type 0} (n m size l : ℕ) → l < n → without_first_lane (first_view {P = P} {Q = Q} n m size l 0) ≡ first_view n m size (l + 1) 0
first_goes {P = P} {Q = Q} n m size l h = ap (λ (ls : List (LaneView P)). new_view {P = P} {Q = Q} n m size (others_of_list ls) (below 0 (m - 0))) (one_more n l h)

pub first_given : (P Q : Type 0) (n m size l : ℕ) → l < n → with_first_lane (first_view {P = P} {Q = Q} n m size l 0) ≡ new_view n m size (fresh_lane l ∷ []) []
first_given P Q n m size l h = ap (λ (ls : List (LaneView P)). new_view {P = P} {Q = Q} n m size (first_of_list ls) []) (one_more n l h)

pub sits_first : (P Q : Type 0) (n m size l : ℕ) → l < n → IsLaneSeat n l 0 false (new_view {P = P} {Q = Q} n m size (fresh_lane l ∷ []) [])
sits_first P Q n m size l h = record { one = refl; lane = refl; number = refl; stance = refl; empty = refl; gives = refl; holds = refl; live = refl; near = h; room = λ e. absurd cc; long = refl }

one_more_server : (m j : ℕ) → j < m → below j (m - j) ≡ j ∷ below (j + 1) (m - (j + 1))
one_more_server m j h = subst (λ (z : ℕ). below j z ≡ j ∷ below (j + 1) (m - (j + 1))) (let e : suc (m - (j + 1)) ≡ m - j = omega arith in e) refl

pub server_goes : (P Q : Type 0) (n m size l j : ℕ) → j < m → without_first_server (first_view {P = P} {Q = Q} n m size l j) ≡ first_view n m size l (j + 1)
server_goes P Q n m size l j h = ap (λ (ls : List ℕ). new_view {P = P} {Q = Q} n m size (all_lanes l (n - l)) (others_of_list ls)) (one_more_server m j h)

pub server_given : (P Q : Type 0) (n m size j : ℕ) → j < m → with_first_server (first_view {P = P} {Q = Q} n m size n j) ≡ new_view n m size [] (j ∷ [])
server_given P Q n m size j h = ap (λ (ls : List ℕ). new_view {P = P} {Q = Q} n m size [] (first_of_list ls)) (one_more_server m j h)

pub sits_server : (P Q : Type 0) (n m size j : ℕ) → n ≤ 16 → IsServerSeat n [] [] (new_view {P = P} {Q = Q} n m size [] (j ∷ []))
sits_server P Q n m size j few = record { carried = refl; tally = λ l. refl; once = λ l. omega arith; near = tt; few = few; bare = refl; speaks = omega arith; live = refl }
