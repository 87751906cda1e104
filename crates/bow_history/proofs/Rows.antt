-- What a step of a request's turn tells, and which row of the table it is.
use Rattle.std.proofs.Common.{ℕ, ◌+◌, ◌≤◌, ◌≡◌, ◌==◌, Bool, true, false, cond, List, Some, None, arith, refl, sym, ◌∙◌, subst, inl, inr}
use Rattle.std.proofs.lemmas.Bool.{false≢true, eqb-true, eq-eqb, and_parts, leb-true}
use Rattle.bow_units.specs.declared.sizes.Geometry.{Geometry}
use Rattle.bow_units.specs.declared.sizes.Extent.{Extent}
use Rattle.bow_units.specs.declared.requests.Op.TheVariants.{Read, Write, Discard, Flush}
use Rattle.bow_units.specs.declared.requests.Phase.{Phase}
use Rattle.bow_units.specs.declared.requests.Phase.TheVariants.{Trim, Arming, Checkpoint, Deciding, Committed}
use Rattle.bow_units.specs.declared.requests.Outcome.{Outcome}
use Rattle.bow_units.specs.declared.requests.Outcome.TheVariants as outcomes
use Rattle.bow_units.specs.Sizes.{IsInside}
use Rattle.bow_queue.specs.Extents.{is_on_device}
use Rattle.bow_machine.specs.Requests.{is_reserved, unsettled, refusal}
use Rattle.bow_machine.proofs.MappedTests.{magic_is, is_magic, write_inside}
use Rattle.bow_history.specs.Journal.{Plan, Place, IsOpenPhase, IsBetween, IsReserved, IsProper, Row, counts}

-- ----------------------------------------------------------------------------------------------------------------
-- Magics.

pub reserved_is : (e : Extent) (p : List ℕ) → is_reserved e p ≡ true → IsReserved e p
reserved_is e p h = let parts = and_parts _ _ h in (eqb-true e.first 0 parts.0, magic_is p parts.1)

pub not_reserved : (e : Extent) (p : List ℕ) → is_reserved e p ≡ false → IsReserved e p → ⊥
not_reserved e p none is = let first : (e.first == 0) ≡ true = eq-eqb e.first 0 is.0 in false≢true (sym none ∙ rw (first, is_magic p is.1) refl)

pub proper_write : (g : Geometry) (phase : Phase) (e : Extent) (p : List ℕ) → refusal g phase (Write e p) ≡ None → IsProper g e p
proper_write g phase e p passed = let w = write_inside g phase e p passed in (w.0, not_reserved e p w.1)

-- ----------------------------------------------------------------------------------------------------------------
-- Phases.

pub open_phase : (phase : Phase) → unsettled phase ≡ None → IsOpenPhase phase
open_phase Trim h = tt
open_phase Arming h = absurd (grind arith)
open_phase Checkpoint h = tt
open_phase Deciding h = absurd (grind arith)
open_phase Committed h = tt

pub not_settled : (phase : Phase) (outcome : Outcome) → unsettled phase ≡ Some outcome → (outcome ≡ outcomes.Unsettled phase) × IsBetween phase
not_settled Trim outcome h = absurd (grind arith)
not_settled Arming outcome h = (sym (cc h), inl refl)
not_settled Checkpoint outcome h = absurd (grind arith)
not_settled Deciding outcome h = (sym (cc h), inr refl)
not_settled Committed outcome h = absurd (grind arith)

-- ----------------------------------------------------------------------------------------------------------------
-- Refusals.

outside : (g : Geometry) (e : Extent) → is_on_device g.blocks e ≡ false → IsInside e g → ⊥
outside g e h inside = grind (arith, inside, h)

inside : (g : Geometry) (e : Extent) → is_on_device g.blocks e ≡ true → IsInside e g
inside g e h = leb-true (e.first + e.count) g.blocks h

some_is : {A : Type 0} (x y : A) → Some x ≡ Some y → x ≡ y
some_is x y e = cc e

-- a refused read is answered by its row, whatever the phase
pub read_refused : (plan : Plan) (p : Place) (phase : Phase) (k : ℕ) (e : Extent) (payload : List ℕ) (outcome : Outcome) → refusal plan.sizes phase (Read e payload) ≡ Some outcome → Row plan p (Read e payload) outcome k p.flat
read_refused plan p phase k e payload outcome h = go (is_on_device plan.sizes.blocks e) refl h
  where
    go : (t : Bool) → is_on_device plan.sizes.blocks e ≡ t → cond t None (Some outcomes.OutOfRange) ≡ Some outcome → Row plan p (Read e payload) outcome k p.flat
    go true is h = absurd (grind arith)
    go false is h = subst (λ o. Row plan p (Read e payload) o k p.flat) (some_is _ _ h) (outside plan.sizes e is, refl)

module _ (plan : Plan) (p : Place) (phase : Phase) (k : ℕ) (same : p.flat.phase ≡ phase) where
  -- a refused write is answered by its row
  pub write_refused : (e : Extent) (payload : List ℕ) (outcome : Outcome) → refusal plan.sizes phase (Write e payload) ≡ Some outcome → Row plan p (Write e payload) outcome k p.flat
  write_refused e payload outcome h = go (is_on_device plan.sizes.blocks e) refl h
    where
      between : (o : Outcome) → unsettled phase ≡ Some o → is_on_device plan.sizes.blocks e ≡ true → is_reserved e payload ≡ false → Row plan p (Write e payload) o k p.flat
      between o u on free = let parts = not_settled phase o u in
          subst (λ o. Row plan p (Write e payload) o k p.flat) (sym parts.0) ((inside plan.sizes e on, not_reserved e payload free), same, parts.1, refl)

      reserved : (t : Bool) → is_reserved e payload ≡ t → is_on_device plan.sizes.blocks e ≡ true → cond t (Some outcomes.ReservedMagic) (unsettled phase) ≡ Some outcome → Row plan p (Write e payload) outcome k p.flat
      reserved true is on h = subst (λ o. Row plan p (Write e payload) o k p.flat) (some_is _ _ h) (inside plan.sizes e on, reserved_is e payload is, refl)
      reserved false is on h = between outcome h on is

      go : (t : Bool) → is_on_device plan.sizes.blocks e ≡ t → cond t (cond (is_reserved e payload) (Some outcomes.ReservedMagic) (unsettled phase)) (Some outcomes.OutOfRange) ≡ Some outcome → Row plan p (Write e payload) outcome k p.flat
      go true is h = reserved (is_reserved e payload) refl is h
      go false is h = subst (λ o. Row plan p (Write e payload) o k p.flat) (some_is _ _ h) (outside plan.sizes e is, refl)

  pub discard_refused : (e : Extent) (outcome : Outcome) → refusal plan.sizes phase (Discard e) ≡ Some outcome → Row plan p (Discard e) outcome k p.flat
  discard_refused e outcome h = go (is_on_device plan.sizes.blocks e) refl h
    where
      go : (t : Bool) → is_on_device plan.sizes.blocks e ≡ t → cond t (unsettled phase) (Some outcomes.OutOfRange) ≡ Some outcome → Row plan p (Discard e) outcome k p.flat
      go true is h = let parts = not_settled phase outcome h in subst (λ o. Row plan p (Discard e) o k p.flat) (sym parts.0) (inside plan.sizes e is, same, parts.1, refl)
      go false is h = subst (λ o. Row plan p (Discard e) o k p.flat) (some_is _ _ h) (outside plan.sizes e is, refl)

  pub flush_refused : (outcome : Outcome) → refusal plan.sizes phase Flush ≡ Some outcome → Row plan p Flush outcome k p.flat
  flush_refused outcome h = let parts = not_settled phase outcome h in subst (λ o. Row plan p Flush o k p.flat) (sym parts.0) (same, parts.1, refl)

-- a write that passed the tests counts
pub passed_counts : (g : Geometry) (phase : Phase) (e : Extent) (payload : List ℕ) → refusal g phase (Write e payload) ≡ None → counts g (Write e payload) ≡ true
passed_counts g phase e payload passed =
    let w = write_inside g phase e payload passed in
    let inside : e.first + e.count ≤ g.blocks = w.0 in
    let on : is_on_device g.blocks e ≡ true = grind (arith, inside) in
    rw (on, w.1) refl
