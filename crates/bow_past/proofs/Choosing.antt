-- The first ready actor, going round.
use Rattle.std.proofs.Common.{◌≡◌, ◌≢◌, ◌⊎◌, inl, inr, ℕ, zero, suc, ◌+◌, ◌-◌, ◌<◌, ◌≤◌, Bool, true, false, cond, Some, None, arith, refl, sym, ap, ◌∙◌}
use Rattle.std.proofs.lemmas.Bool.{cases_Bool, cases_eq, cases_lt}
use Rattle.std.specs.Prelude.{◌==◌}
use Rattle.bow_history.specs.Journal.{Plan}
use Rattle.bow_history.specs.Ready.{is_actor_ready}
use Rattle.bow_history.specs.Schedule.{actor_at, chosen, first_ready as session_first, next_round}
use Rattle.bow_history.specs.Sessions.{Session}
use Rattle.bow_past.specs.Running.{first_from, is_ready_at, next_below}

next_is : (n k : ℕ) → ((k + 1 ≡ n) × (next_below n k ≡ 0)) ⊎ ((k + 1 ≡ n → ⊥) × (next_below n k ≡ k + 1))
next_is n k = elim (cases_eq (k + 1) n) [
  | inl same ↦ inl (same, grind (arith, same))
  | inr other ↦ inr (other, grind (arith, other))
]

next_inside : (n k : ℕ) → k < n → next_below n k < n
next_inside n k below = elim (next_is n k) [
  | inl (same, to) ↦ omega (arith, to, below)
  | inr (other, to) ↦ elim (cases_eq (k + 1) n) [ inl same ↦ absurd (other same) | inr less ↦ omega (arith, to, below, less) ]
]

-- this one is among those that are gone over from here on, of so many
IsAhead : ℕ → ℕ → ℕ → ℕ → Type 0
IsAhead n k most j = ((k ≤ j) × (j < k + most)) ⊎ (j + n < k + most)

-- another one than the first stays so behind it
ahead_next : (n k most j : ℕ) → k < n → j < n → (k ≡ j → ⊥) → IsAhead n k (suc most) j → IsAhead n (next_below n k) most j
unfolding IsAhead
ahead_next n k most j below inside differ ahead = go (next_is n k) (cases_eq k j) ahead
  where
    go : ((k + 1 ≡ n) × (next_below n k ≡ 0)) ⊎ ((k + 1 ≡ n → ⊥) × (next_below n k ≡ k + 1)) → (k ≡ j) ⊎ (k ≢ j) → ((k ≤ j) × (j < k + suc most)) ⊎ (j + n < k + suc most) → ((next_below n k ≤ j) × (j < next_below n k + most)) ⊎ (j + n < next_below n k + most)
    go next (inl same) over = absurd (differ same)
    go (inl (same, to)) (inr other) (inl (low, high)) = absurd (omega (arith, same, low, inside, other))
    go (inl (same, to)) (inr other) (inr round) = inl (omega (arith, to), omega (arith, to, same, round))
    go (inr (last, to)) (inr other) (inl (low, high)) = inl (omega (arith, to, low, other), omega (arith, to, high))
    go (inr (last, to)) (inr other) (inr round) = inr (omega (arith, to, round))

-- none is, of none
nowhere : (n k j : ℕ) → j < n → IsAhead n k 0 j → k < n → ⊥
unfolding IsAhead
nowhere n k j inside (inl there) below = omega (arith, there.0, there.1)
nowhere n k j inside (inr there) below = omega (arith, there, below)

-- and all are, going round once
all_ahead : (n k j : ℕ) → j < n → IsAhead n k n j
unfolding IsAhead
all_ahead n k j inside = elim (cases_lt j k) [ inl before ↦ inr (omega (arith, before)) | inr on ↦ inl (omega (arith, on), omega (arith, inside)) ]

pub first_here : (ready : ℕ → Bool) (n k most : ℕ) → 0 < most → ready k ≡ true → first_from ready n k most ≡ Some k
first_here ready n k zero some is = absurd (omega (arith, some))
first_here ready n k (suc most) some is = ap (λ t. cond t (Some k) (first_from ready n (next_below n k) most)) is

pub first_there : (ready : ℕ → Bool) (n k most : ℕ) → 0 < most → ready k ≡ false → first_from ready n k most ≡ first_from ready n (next_below n k) (most - 1)
first_there ready n k zero some is = absurd (omega (arith, some))
first_there ready n k (suc most) some is =
    let one : most ≡ suc most - 1 = omega arith in
    ap (λ t. cond t (Some k) (first_from ready n (next_below n k) most)) is ∙ ap (first_from ready n (next_below n k)) one

pub first_end : (ready : ℕ → Bool) (n k most : ℕ) → most ≤ 0 → first_from ready n k most ≡ None
first_end ready n k zero none = refl
first_end ready n k (suc most) none = absurd (omega (arith, none))

-- the number that was found is of one that is ready
pub first_ready : (ready : ℕ → Bool) (n k most j : ℕ) → k < n → first_from ready n k most ≡ Some j → (ready j ≡ true) × (j < n)
first_ready ready n k zero j below is = absurd (grind (arith, is))
first_ready ready n k (suc most) j below is = elim (cases_Bool (ready k)) [
  | inl here ↦
      let same : k ≡ j = (let e : Some k ≡ Some j = sym (first_here ready n k (suc most) (omega arith) here) ∙ is in cc e) in
      (ap ready (sym same) ∙ here, omega (arith, same, below))
  | inr not_here ↦ first_ready ready n (next_below n k) most j (next_inside n k below) (sym (ap (λ t. cond t (Some k) (first_from ready n (next_below n k) most)) not_here) ∙ is)
]

-- where none was found, none is ready of those that were gone over
none_from : (ready : ℕ → Bool) (n k most j : ℕ) → k < n → j < n → first_from ready n k most ≡ None → IsAhead n k most j → ready j ≡ false
none_from ready n k zero j below inside is ahead = absurd (nowhere n k j inside ahead below)
none_from ready n k (suc most) j below inside is ahead = elim (cases_Bool (ready k)) [
  | inl here ↦ absurd (let clash : None ≡ Some k = sym is ∙ first_here ready n k (suc most) (omega arith) here in grind (arith, clash))
  | inr not_here ↦ elim (cases_eq k j) [
    | inl same ↦ ap ready (sym same) ∙ not_here
    | inr differ ↦ none_from ready n (next_below n k) most j (next_inside n k below) inside (sym (ap (λ t. cond t (Some k) (first_from ready n (next_below n k) most)) not_here) ∙ is) (ahead_next n k most j below inside differ ahead)
  ]
]

-- where none is found going round once, none is ready
pub none_ready : (ready : ℕ → Bool) (n k j : ℕ) → k < n → j < n → first_from ready n k n ≡ None → ready j ≡ false
none_ready ready n k j below inside is = none_from ready n k n j below inside is (all_ahead n k j inside)

-- ----------------------------------------------------------------------------------------------------------------
-- The actors of a session, and behind them the reader.

pub reader_at : (plan : Plan) (s : Session) (reads : Bool) (k : ℕ) → k ≡ plan.lanes + 2 → is_ready_at plan s reads k ≡ reads
reader_at plan s reads k same =
    let e : (k == plan.lanes + 2) ≡ true = grind (arith, same) in
    ap (λ t. cond t reads (is_actor_ready plan s (actor_at plan k))) e

pub session_at : (plan : Plan) (s : Session) (reads : Bool) (k : ℕ) → k < plan.lanes + 2 → is_ready_at plan s reads k ≡ is_actor_ready plan s (actor_at plan k)
session_at plan s reads k below =
    let e : (k == plan.lanes + 2) ≡ false = grind (arith, below) in
    ap (λ t. cond t reads (is_actor_ready plan s (actor_at plan k))) e

round_inside : (plan : Plan) (k : ℕ) → k < plan.lanes + 2 → next_round plan k < plan.lanes + 2
round_inside plan k below = elim (cases_eq k (plan.lanes + 1)) [
  | inl same ↦ (let e : next_round plan k ≡ 0 = grind (arith, same) in omega (arith, e))
  | inr other ↦ (let e : next_round plan k ≡ k + 1 = grind (arith, other) in omega (arith, e, below, other))
]

first_inside : (plan : Plan) (s : Session) (k most : ℕ) → k < plan.lanes + 2 → session_first plan s k most < plan.lanes + 2
first_inside plan s k zero below = below
first_inside plan s k (suc most) below = elim (cases_Bool (is_actor_ready plan s (actor_at plan k))) [
  | inl here ↦ (let e : session_first plan s k (suc most) ≡ k = ap (λ t. cond t k (session_first plan s (next_round plan k) most)) here in omega (arith, e, below))
  | inr not_here ↦
      let e : session_first plan s k (suc most) ≡ session_first plan s (next_round plan k) most = ap (λ t. cond t k (session_first plan s (next_round plan k) most)) not_here in
      let rest = first_inside plan s (next_round plan k) most (round_inside plan k below) in
      omega (arith, e, rest)
]

-- where none is found, neither the reader is ready nor the one whom the session would choose
pub none_left : (plan : Plan) (s : Session) (reads : Bool) (k : ℕ) → k < plan.lanes + 3 → first_from (is_ready_at plan s reads) (plan.lanes + 3) k (plan.lanes + 3) ≡ None
    → (is_actor_ready plan s (chosen plan s 0) ≡ false) × (reads ≡ false)
none_left plan s reads k below none =
    let j = session_first plan s 0 (plan.lanes + 2) in
    let inside : j < plan.lanes + 2 = first_inside plan s 0 (plan.lanes + 2) (omega arith) in (
      sym (session_at plan s reads j inside) ∙ none_ready (is_ready_at plan s reads) (plan.lanes + 3) k j below (omega (arith, inside)) none,
      sym (reader_at plan s reads (plan.lanes + 2) refl) ∙ none_ready (is_ready_at plan s reads) (plan.lanes + 3) k (plan.lanes + 2) below (omega arith) none,
    )
