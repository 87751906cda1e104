-- The actor who is chosen is ready, where some actor is.
use Rattle.std.proofs.Common.{ℕ, zero, suc, ◌+◌, ◌<◌, ◌≤◌, ◌≡◌, ◌≢◌, ◌⊎◌, ◌==◌, nat_lt, Bool, true, false, cond, arith, refl, sym, ap, ◌∙◌, inl, inr}
use Rattle.std.proofs.lemmas.Bool.{false≢true, cases_eq, cases_lt, and_parts, ltb-true}
use Rattle.bow_history.specs.declared.items.Actor.{Actor}
use Rattle.bow_history.specs.declared.items.Actor.TheVariants.{Lane, Worker, Command}
use Rattle.bow_history.specs.Journal.{Plan}
use Rattle.bow_history.specs.Sessions.{Session}
use Rattle.bow_history.specs.Ready.{is_actor_ready}
use Rattle.bow_history.specs.Schedule.{actor_at, next_round, first_ready, ChosenIsReady}
use Rattle.bow_history.proofs.Progress.{some_is_ready}

module _ (plan : Plan) (s : Session) where
  -- a ready actor has a number
  number_of : (actor : Actor) → is_actor_ready plan s actor ≡ true → (j : ℕ) × (j < plan.lanes + 2) × (actor_at plan j ≡ actor)
  number_of (Lane lane) ready =
      let inside : nat_lt lane plan.lanes ≡ true = (and_parts _ _ ready).0 in
      let below : lane < plan.lanes = ltb-true lane plan.lanes inside in
      (lane, omega (arith, below), ap (λ b. cond b (Lane lane) (cond (lane == plan.lanes) Worker Command)) inside)
  number_of Worker ready =
      let out : nat_lt plan.lanes plan.lanes ≡ false = grind arith in
      let same : (plan.lanes == plan.lanes) ≡ true = grind arith in
      (plan.lanes, omega arith, rw (out, same) refl)
  number_of Command ready =
      let out : nat_lt (plan.lanes + 1) plan.lanes ≡ false = grind arith in
      let other : (plan.lanes + 1 == plan.lanes) ≡ false = grind arith in
      (plan.lanes + 1, omega arith, rw (out, other) refl)

  -- from k on, going round, j is one of the next so many
  abbrev Comes : ℕ → ℕ → ℕ → Type 0
  Comes k j most = ((k ≤ j) × (j < k + most)) ⊎ ((j < k) × (j + (plan.lanes + 2) < k + most))

  comes_next : (k j most : ℕ) → k < plan.lanes + 2 → j < plan.lanes + 2 → k ≢ j → Comes k j (suc most)
      → (next_round plan k < plan.lanes + 2) × Comes (next_round plan k) j most
  comes_next k j most below on ne comes = go (k == plan.lanes + 1) refl
    where
      go : (b : Bool) → (k == plan.lanes + 1) ≡ b → (cond b 0 (k + 1) < plan.lanes + 2) × Comes (cond b 0 (k + 1)) j most
      go true is =
          let last : k ≡ plan.lanes + 1 = grind (arith, is) in
          (omega arith, inl (omega arith, elim comes [ inl c ↦ absurd (omega (arith, c.0, ne, last, on)) | inr c ↦ omega (arith, c.1, last) ]))
      go false is =
          let not_last : k ≢ plan.lanes + 1 = λ e. false≢true (sym is ∙ (grind (arith, e))) in (
            omega (arith, below, not_last),
            elim comes [
              | inl c ↦ inl (omega (arith, c.0, ne), omega (arith, c.1))
              | inr c ↦ inr (omega (arith, c.0), omega (arith, c.1))
            ],
          )

  found : (most k j : ℕ) → k < plan.lanes + 2 → j < plan.lanes + 2 → Comes k j most → is_actor_ready plan s (actor_at plan j) ≡ true
      → is_actor_ready plan s (actor_at plan (first_ready plan s k most)) ≡ true
  found zero k j below on comes ready = absurd (elim comes [ inl c ↦ omega (arith, c.0, c.1) | inr c ↦ omega (arith, c.0, c.1) ])
  found (suc most) k j below on comes ready =
      go (is_actor_ready plan s (actor_at plan k)) refl (λ ne. let next = comes_next k j most below on ne comes in found most (next_round plan k) j next.0 on next.1 ready)
    where
      go : (b : Bool) → is_actor_ready plan s (actor_at plan k) ≡ b
          → (k ≢ j → is_actor_ready plan s (actor_at plan (first_ready plan s (next_round plan k) most)) ≡ true)
          → is_actor_ready plan s (actor_at plan (cond b k (first_ready plan s (next_round plan k) most))) ≡ true
      go true is rest = is
      go false is rest = rest (λ e. false≢true (sym is ∙ ap (λ x. is_actor_ready plan s (actor_at plan x)) e ∙ ready))

pub chosen_is_ready : ChosenIsReady
chosen_is_ready plan s lane op k sound inside next below =
    let some = some_is_ready plan s lane op sound inside next in
    let j = number_of plan s some.0 some.1 in
    found plan s (plan.lanes + 2) k j.0 below j.1
    (elim (cases_lt k j.0) [
      | inl later ↦ inl (omega (arith, later), omega (arith, j.1))
      | inr not_later ↦ elim (cases_eq k j.0) [
        | inl same ↦ inl (omega (arith, same), omega (arith, same))
        | inr ne ↦ inr (omega (arith, not_later, ne), omega (arith, not_later, ne))
      ]
    ])
    (ap (is_actor_ready plan s) j.2 ∙ some.1)
