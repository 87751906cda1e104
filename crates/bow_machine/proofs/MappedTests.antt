-- What the tests say of a request that passed them.
use Rattle.std.proofs.Common.{ℕ, ◌+◌, ◌*◌, ◌<◌, ◌≤◌, ◌≡◌, ◌≢◌, ◌==◌, Bool, true, false, cond, List, [], ◌∷◌, length, take, drop, Option, Some, None, arith, refl, sym, ap, ◌∙◌, subst, inl, inr}
use Rattle.std.proofs.lemmas.Bool.{or_right, or_cases, and_parts, eqb-true, eq-eqb, false≢true}
use Rattle.std.proofs.lemmas.List.{take-take}
use Rattle.bow_units.specs.declared.sizes.Extent.{Extent}
use Rattle.bow_units.specs.declared.sizes.Geometry.{Geometry}
use Rattle.bow_units.specs.Sizes.{IsValid}
use Rattle.bow_units.proofs.PatternGroups.{has_groups}
use Rattle.bow_units.specs.Magics.{log_magic, restoring_magic, HasMagic, IsPlain}
use Rattle.bow_units.specs.declared.requests.Op.TheVariants.{Read, Write, Discard}
use Rattle.bow_units.specs.declared.requests.Phase.{Phase}
use Rattle.bow_units.specs.declared.requests.Phase.TheVariants.{Trim, Arming, Checkpoint, Deciding, Committed}
use Rattle.bow_units.specs.declared.requests.Outcome.{Outcome}
use Rattle.bow_units.specs.declared.requests.Outcome.TheVariants.{OutOfRange, ReservedMagic}
use Rattle.bow_flat.specs.Flat.{block_at}
use Rattle.bow_queue.specs.Extents.{is_on_device}
use Rattle.bow_queue.specs.declared.tickets.Ticket.{Ticket}
use Rattle.bow_machine.specs.Requests.{begins, has_magic, is_reserved, unsettled, refusal}
use Rattle.bow_machine.specs.Memory.{Memory}
use Rattle.bow_machine.specs.MemoryIsSound.{ForWrite}

out_of_range : Some OutOfRange ≢ None
out_of_range = λ e. grind arith

pub on_device : (g : Geometry) (e : Extent) (t : Bool) → is_on_device g.blocks e ≡ t → (rest : Option Outcome) → cond t rest (Some OutOfRange) ≡ None
    → (e.first + e.count ≤ g.blocks) × (rest ≡ None)
on_device g e true is rest h = (grind arith, h)
on_device g e false is rest h = absurd (out_of_range h)

-- each block of a write is on the device, and its bytes for block 0 begin with no magic
pub write_inside : (g : Geometry) (phase : Phase) (e : Extent) (p : List ℕ) → refusal g phase (Write e p) ≡ None
    → (e.first + e.count ≤ g.blocks) × (is_reserved e p ≡ false) × (unsettled phase ≡ None)
write_inside g phase e p h =
    let parts = on_device g e (is_on_device g.blocks e) refl (cond (is_reserved e p) (Some ReservedMagic) (unsettled phase)) h in
    let rest = go (is_reserved e p) refl parts.1 in
    (parts.0, rest.0, rest.1)
  where
    go : (t : Bool) → is_reserved e p ≡ t → cond t (Some ReservedMagic) (unsettled phase) ≡ None → (is_reserved e p ≡ false) × (unsettled phase ≡ None)
    go true is h = absurd (grind arith)
    go false is h = (is, h)

pub read_inside : (g : Geometry) (phase : Phase) (e : Extent) (p : List ℕ) → refusal g phase (Read e p) ≡ None → e.first + e.count ≤ g.blocks
read_inside g phase e p h = (on_device g e (is_on_device g.blocks e) refl None h).0

pub discard_inside : (g : Geometry) (phase : Phase) (e : Extent) → refusal g phase (Discard e) ≡ None
    → (e.first + e.count ≤ g.blocks) × (unsettled phase ≡ None)
discard_inside g phase e h = on_device g e (is_on_device g.blocks e) refl (unsettled phase) h

-- the phase is none of the two in which nothing but a read or a command is done
pub settled_phase : (phase : Phase) → unsettled phase ≡ None → (phase ≢ Arming) × (phase ≢ Deciding)
settled_phase Trim h = (λ e. grind arith, λ e. grind arith)
settled_phase Arming h = absurd (grind arith)
settled_phase Checkpoint h = (λ e. grind arith, λ e. grind arith)
settled_phase Deciding h = absurd (grind arith)
settled_phase Committed h = (λ e. grind arith, λ e. grind arith)

-- the block for which a batch was formed is on the device
pub for_inside : (g : Geometry) (m : Memory) (t : Ticket) (w : ForWrite g m t) → w.extent.first + w.write.done < g.blocks
for_inside g m t w =
    let passed : refusal g m.phase (Write w.extent w.payload) ≡ None = subst (λ op. refusal g m.phase op ≡ None) w.op w.passed in
    omega (arith, (write_inside g m.phase w.extent w.payload passed).0, w.left)

-- ----------------------------------------------------------------------------------------------------------------
-- Magics, and that none is written to block 0.

-- the test for a magic is its definition
begins_taken : (xs ys : List ℕ) → take (length xs) ys ≡ xs → begins xs ys ≡ true
begins_taken [] ys e = refl
begins_taken (x ∷ xs) [] e = absurd (grind arith)
begins_taken (x ∷ xs) (y ∷ ys) e =
    let head : x ≡ y = cc e in
    let rest : take (length xs) ys ≡ xs = cc e in
    rw (eq-eqb x y head, begins_taken xs ys rest) refl

taken_begins : (xs ys : List ℕ) → begins xs ys ≡ true → take (length xs) ys ≡ xs
taken_begins [] ys e = grind arith
taken_begins (x ∷ xs) [] e = absurd (false≢true e)
taken_begins (x ∷ xs) (y ∷ ys) e =
    let parts = and_parts _ _ e in
    let head : x ≡ y = eqb-true x y parts.0 in
    ap (λ z. z ∷ take (length xs) ys) (sym head) ∙ ap (λ zs. x ∷ zs) (taken_begins xs ys parts.1)

pub magic_is : (bytes : List ℕ) → has_magic bytes ≡ true → HasMagic bytes
magic_is bytes h = elim (or_cases (begins log_magic bytes) (begins restoring_magic bytes) h) [ inl is ↦ inl (taken_begins log_magic bytes is) | inr is ↦ inr (taken_begins restoring_magic bytes is) ]

pub is_magic : (bytes : List ℕ) → HasMagic bytes → has_magic bytes ≡ true
is_magic bytes (inl is) = rw (begins_taken log_magic bytes is) refl
is_magic bytes (inr is) = or_right (begins log_magic bytes) (begins restoring_magic bytes) (begins_taken restoring_magic bytes is)

block_size_4 : (g : Geometry) → IsValid g → 4 ≤ g.block_size
block_size_4 g sizes = let size = has_groups g.block_size sizes.size in omega (arith, size)

pub no_magic : (g : Geometry) (e : Extent) (p : List ℕ) (done : ℕ) → IsValid g → is_reserved e p ≡ false → e.first + done ≡ 0
    → IsPlain (block_at g.block_size p done)
no_magic g e p done sizes passed zeroth magic = false≢true (sym passed ∙ rw (first, is_magic p whole) refl)
  where
    first : (e.first == 0) ≡ true
    first = grind arith

    enough : 4 ≤ g.block_size
    enough = block_size_4 g sizes

    front : take 4 (block_at g.block_size p done) ≡ take 4 p
    front =
        let none : done ≡ 0 = omega arith in
        let z : 0 * g.block_size ≡ 0 = omega arith in
        ap (λ n. take 4 (take g.block_size (drop (n * g.block_size) p))) none ∙ ap (λ n. take 4 (take g.block_size (drop n p))) z ∙ take-take 4 g.block_size p enough

    whole : HasMagic p
    whole = elim magic [ inl is ↦ inl (sym front ∙ is) | inr is ↦ inr (sym front ∙ is) ]
