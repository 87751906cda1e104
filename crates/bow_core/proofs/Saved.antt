-- The saved blocks stay known where blocks are given other kinds.
use Rattle.std.proofs.Common.{ℕ, ◌+◌, ◌≡◌, ◌<◌, ◌≤◌, Bool, true, false, cond, List, length, Option, refl, sym, ap, ◌∙◌, arith, inl, inr}
use Rattle.std.specs.Prelude.{◌&&◌, ◌==◌, ◌-◌, not, map, replicate}
use Rattle.std.proofs.lemmas.Bool.{eqb-true}
use Rattle.std.proofs.lemmas.List.{same_lists, get_or_default, get_or-replicate, length-replicate}
use Rattle.std.specs.List.{list_any}
use Rattle.bow_units.specs.declared.sizes.Geometry.{Geometry}
use Rattle.bow_units.specs.declared.sizes.Extent.{Extent}
use Rattle.bow_units.specs.declared.requests.Phase.{Phase}
use Rattle.bow_units.specs.declared.statuses.Kind.{Kind}
use Rattle.bow_units.specs.declared.statuses.Kind.TheVariants.{Sector0, Unchanged, Free, Changed, Saved}
use Rattle.bow_ranges.specs.Kinds.{kind_at, holds, with_kind, reclaimed, kind_reclaimed, is_changed}
use Rattle.bow_machine.specs.Memory.{kind_written, kinds_written}
use Rattle.bow_machine.proofs.Tables.{length_with, length_unsaved, kind_in, kind_out, kind_unsaved, holds_cases}
use Rattle.bow_guard.specs.Device.{unsaved}
use Rattle.bow_ranges.proofs.KindLists.{kind_at-reclaimed}
use Rattle.bow_machine.specs.Steps.{above_0}
use Rattle.bow_log.specs.Spelling.{Fields}
use Rattle.bow_core.specs.Inside.{is_saved, IsKept, LogFits, SavedIs}

-- blocks that are not saved are given a kind that is not saved either
pub saved_set : (table : List Kind) (e saved : Extent) (kind : Kind) → e.first + e.count ≤ length table → ((b : ℕ) → e.first ≤ b → b < e.first + e.count → is_saved (kind_at table b) ≡ false) → is_saved kind ≡ false
    → SavedIs table saved → SavedIs (with_kind table e kind) saved
saved_set table e saved kind inside old new is = record {
  inside = rw (length_with table e kind inside) is.inside;
  each = λ b within. go b (omega (arith, within, length_with table e kind inside));
}
  where
    go : (b : ℕ) → b < length table → is_saved (kind_at (with_kind table e kind) b) ≡ holds saved b
    go b within = elim (holds_cases e b) [
      | inl in_it ↦ rw (kind_in table e kind b inside in_it.0 in_it.1, new) (sym (old b in_it.0 in_it.1) ∙ is.each b within)
      | inr out ↦ rw (kind_out table e kind b inside out.0) (is.each b within)
    ]

-- the same of a table that is that one
pub saved_to : (table new : List Kind) (e saved : Extent) (kind : Kind) → new ≡ with_kind table e kind → e.first + e.count ≤ length table → ((b : ℕ) → e.first ≤ b → b < e.first + e.count → is_saved (kind_at table b) ≡ false) → is_saved kind ≡ false
    → SavedIs table saved → SavedIs new saved
saved_to table new e saved kind set inside old other is = rw set (saved_set table e saved kind inside old other is)

-- a write in place saves no block
pub written_unsaved : (phase : Phase) (kind : Kind) → is_saved kind ≡ false → is_saved (kind_written phase kind) ≡ false
written_unsaved phase kind is = grind (arith, is)

reclaimed_same : (t : Bool) (kind : Kind) → is_saved (cond (is_changed kind && t) Free kind) ≡ is_saved kind
reclaimed_same t kind = grind arith

-- neither does a discard
pub saved_reclaimed : (table new : List Kind) (e saved : Extent) (but : List Extent) → new ≡ reclaimed table e but → length new ≡ length table → SavedIs table saved → SavedIs new saved
saved_reclaimed table new e saved but set long is = record {
  inside = omega (arith, long, is.inside);
  each = λ b within.
      let here : b < length table = omega (arith, long, within) in
      let kind : kind_at new b ≡ kind_reclaimed e but b (kind_at table b) = ap (λ l. kind_at l b) set ∙ kind_at-reclaimed table e but b here in
      ap is_saved kind ∙ reclaimed_same (holds e b && not (list_any (λ other. holds other b) but)) (kind_at table b) ∙ is.each b here;
}

-- without block 0 an extent is on the device where it was
pub above_inside : (e : Extent) (n : ℕ) → 1 ≤ n → e.first + e.count ≤ n → (above_0 e).first + (above_0 e).count ≤ n
above_inside e n some inside = go (e.first == 0) refl
  where
    go : (b : Bool) → (e.first == 0) ≡ b → (cond b (record { first = 1; count = e.count - 1 }) e).first + (cond b (record { first = 1; count = e.count - 1 }) e).count ≤ n
    go true is = omega (arith, eqb-true e.first 0 is, some, inside)
    go false is = inside

-- ----------------------------------------------------------------------------------------------------------------
-- A batch saves blocks, and in the end they are changed.

is_saved_is : (kind : Kind) → is_saved kind ≡ true → kind ≡ Saved
is_saved_is kind is = grind (arith, is)

not_saved_is : (kind : Kind) → is_saved kind ≡ false → unsaved kind ≡ kind
not_saved_is kind is = grind (arith, is)

pub not_saved : (kind : Kind) → (kind ≡ Saved → ⊥) → is_saved kind ≡ false
not_saved kind other = grind (arith, other)

pub same_kinds : (xs ys : List Kind) → length xs ≡ length ys → ((b : ℕ) → b < length xs → kind_at xs b ≡ kind_at ys b) → xs ≡ ys
same_kinds xs ys sizes each = same_lists xs ys sizes (λ b d inside. get_or_default xs b d Unchanged inside ∙ each b inside ∙ get_or_default ys b Unchanged d (omega (arith, sizes, inside)))

-- where nothing was saved, the blocks that are saved now are these
pub saved_now : (table new : List Kind) (e : Extent) → new ≡ with_kind table e Saved → e.first + e.count ≤ length table → ((b : ℕ) → b < length table → is_saved (kind_at table b) ≡ false) → SavedIs new e
saved_now table new e set inside none = rw set (record {
  inside = rw (length_with table e Saved inside) inside;
  each = λ b within. go b (omega (arith, within, length_with table e Saved inside));
})
  where
    go : (b : ℕ) → b < length table → is_saved (kind_at (with_kind table e Saved) b) ≡ holds e b
    go b within = elim (holds_cases e b) [
      | inl in_it ↦ ap is_saved (kind_in table e Saved b inside in_it.0 in_it.1) ∙ sym in_it.2
      | inr out ↦ ap is_saved (kind_out table e Saved b inside out.0) ∙ none b within ∙ sym out.1
    ]

-- once they are changed, what was saved is changed
pub unsaved_is : (table new : List Kind) (saved : Extent) → new ≡ with_kind table saved Changed → SavedIs table saved → new ≡ map unsaved table
unsaved_is table new saved set is = set ∙ same_kinds (with_kind table saved Changed) (map unsaved table) (length_with table saved Changed is.inside ∙ sym (length_unsaved table)) (λ b within. go b (omega (arith, within, length_with table saved Changed is.inside)))
  where
    go : (b : ℕ) → b < length table → kind_at (with_kind table saved Changed) b ≡ kind_at (map unsaved table) b
    go b within = elim (holds_cases saved b) [
      | inl in_it ↦ kind_in table saved Changed b is.inside in_it.0 in_it.1 ∙ ap unsaved (sym (is_saved_is (kind_at table b) (is.each b within ∙ in_it.2))) ∙ sym (kind_unsaved table b)
      | inr out ↦ kind_out table saved Changed b is.inside out.0 ∙ sym (not_saved_is (kind_at table b) (is.each b within ∙ out.1)) ∙ sym (kind_unsaved table b)
    ]

empty_extent : (none : Extent) → none.count ≡ 0 → (b : ℕ) → holds none b ≡ false
empty_extent none count b = elim (holds_cases none b) [
  | inl in_it ↦ absurd (omega (arith, in_it.0, in_it.1, count))
  | inr out ↦ out.1
]

-- and nothing is saved any more
pub saved_none : (table new : List Kind) (saved none : Extent) → new ≡ with_kind table saved Changed → SavedIs table saved → none.first ≡ 0 → none.count ≡ 0 → SavedIs new none
saved_none table new saved none set is first count = rw set (record {
  inside = omega (arith, first, count);
  each = λ b within. go b (omega (arith, within, length_with table saved Changed is.inside));
})
  where
    go : (b : ℕ) → b < length table → is_saved (kind_at (with_kind table saved Changed) b) ≡ holds none b
    go b within = elim (holds_cases saved b) [
      | inl in_it ↦ ap is_saved (kind_in table saved Changed b is.inside in_it.0 in_it.1) ∙ sym (empty_extent none count b)
      | inr out ↦ ap is_saved (kind_out table saved Changed b is.inside out.0) ∙ is.each b within ∙ out.1 ∙ sym (empty_extent none count b)
    ]

-- nothing is saved in a new table
pub fresh_saved : (n : ℕ) (table new : List Kind) (zeroth none : Extent) → table ≡ replicate n Unchanged → new ≡ with_kind table zeroth Sector0 → zeroth.first ≡ 0 → zeroth.count ≡ 1 → none.first ≡ 0 → none.count ≡ 0 → 8 ≤ n → SavedIs new none
fresh_saved n table new zeroth none fresh set at_0 one first count enough =
    let long : length table ≡ n = ap (λ l. length l) fresh ∙ length-replicate n Unchanged in
    let all : (b : ℕ) → b < n → is_saved (kind_at table b) ≡ false = λ b on. ap (λ l. is_saved (kind_at l b)) fresh ∙ ap is_saved (get_or-replicate n b Unchanged Unchanged on) in
    saved_to table new zeroth none Sector0 set (omega (arith, at_0, one, long, enough)) (λ b low high. all b (omega (arith, high, at_0, one, enough))) refl (record {
      inside = omega (arith, first, count);
      each = λ b within. all b (omega (arith, within, long)) ∙ sym (empty_extent none count b);
    })

-- blocks that are given the kind that they have stay as they are
pub kept_kind : (table : List Kind) (e : Extent) (kind : Kind) → e.first + e.count ≤ length table → ((b : ℕ) → e.first ≤ b → b < e.first + e.count → kind_at table b ≡ kind) → with_kind table e kind ≡ table
kept_kind table e kind inside same = same_kinds (with_kind table e kind) table (length_with table e kind inside) (λ b _. elim (holds_cases e b) [
  | inl in_it ↦ kind_in table e kind b inside in_it.0 in_it.1 ∙ sym (same b in_it.0 in_it.1)
  | inr out ↦ kind_out table e kind b inside out.0
])

-- so with a write of a block that keeps its kind
pub written_same : (phase : Phase) (table : List Kind) (block : ℕ) → block < length table → kind_written phase (kind_at table block) ≡ kind_at table block → kinds_written phase table block ≡ table
written_same phase table block within same = elim (block == 0) as (λ t. cond t table (with_kind table (record { first = block; count = 1 }) (kind_written phase (kind_at table block))) ≡ table) [
  | true ↦ refl
  | false ↦ ap (with_kind table (record { first = block; count = 1 })) same ∙ kept_kind table (record { first = block; count = 1 }) (kind_at table block) (omega (arith, within)) (λ b low high. ap (kind_at table) (omega (arith, low, high)))
]

-- What the device keeps is in order with another table of its blocks, another log and other saved blocks.
pub kept_with : {g : Geometry} {table new : List Kind} {queued : ℕ} {buffer block : List ℕ} {log now : Option Fields} {saved next : Extent}
    → IsKept g table queued buffer block log saved → length new ≡ length table → LogFits g now → SavedIs new next → IsKept g new queued buffer block now next
kept_with k long fits is = record { valid = k.valid; whole = long ∙ k.whole; blocks = k.blocks; eight = k.eight; one = k.one; log = fits; saved = is }
