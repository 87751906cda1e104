-- The list of the kinds of all blocks, and what the calls make of it.
use Rattle.std.specs.Prelude.{◌≡◌, ◌≢◌, ◌&&◌, ℕ, ◌+◌, ◌-◌, ◌<◌, ◌≤◌, nat_lt, nat_le, Bool, true, false, not, if◌then◌else◌, List, ◌++◌, length, map, take, drop, replicate, slice_index_or}
use Rattle.std.specs.List.{count_by, list_any, enumerate_from}
use Rattle.bow_units.specs.declared.sizes.Extent.{Extent}
use Rattle.bow_units.specs.declared.statuses.Kind.{Kind}
use Rattle.bow_units.specs.declared.statuses.Kind.TheVariants.{Unchanged, Free, Changed}

-- the block is free
abbrev pub is_free : Kind → Bool
is_free Free = true
is_free _ = false

-- the block was changed since its backup is durable
abbrev pub is_changed : Kind → Bool
is_changed Changed = true
is_changed _ = false

-- the kind of a block of the device
abbrev pub kind_at : List Kind → ℕ → Kind
kind_at kinds block = slice_index_or kinds block Unchanged

-- the block is one of the extent's
abbrev pub holds : Extent → ℕ → Bool
holds e block = nat_le e.first block && nat_lt block (e.first + e.count)

-- how many blocks have a kind of this sort
abbrev pub count_of : (Kind → Bool) → List Kind → ℕ
count_of sort kinds = count_by sort kinds

-- the kinds of the extent's blocks
abbrev pub part : List Kind → Extent → List Kind
part kinds e = take e.count (drop e.first kinds)

-- the extent's blocks have this kind, and all others keep theirs
abbrev pub with_kind : List Kind → Extent → Kind → List Kind
with_kind kinds e kind = take e.first kinds ++ replicate e.count kind ++ drop (e.first + e.count) kinds

-- a changed block of the extent that lies in none of `but` becomes free
abbrev pub kind_reclaimed : Extent → List Extent → ℕ → Kind → Kind
kind_reclaimed e but block kind =
    if is_changed kind && (holds e block && not (list_any (λ other. holds other block) but)) then Free else kind

-- so with each block
abbrev pub reclaimed : List Kind → Extent → List Extent → List Kind
reclaimed kinds e but = map (λ p. kind_reclaimed e but p.0 p.1) (enumerate_from 0 kinds)

-- the longest run of blocks of one kind that holds the block
pub record IsRunOf (kinds : List Kind) (block : ℕ) (run : Extent) : Type 0 where
  pub from : run.first ≤ block
  pub to : block < run.first + run.count
  pub inside : run.first + run.count ≤ length kinds
  pub alike : (b : ℕ) → run.first ≤ b → b < run.first + run.count → kind_at kinds b ≡ kind_at kinds block
  pub before : 0 < run.first → kind_at kinds (run.first - 1) ≢ kind_at kinds block
  pub after : run.first + run.count < length kinds → kind_at kinds (run.first + run.count) ≢ kind_at kinds block
