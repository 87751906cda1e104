-- Which free blocks are picked.
use Rattle.std.specs.Prelude.{◌≡◌, ◌==◌, ℕ, ◌+◌, ◌<◌, ◌≤◌, nat_lt, nat_le, if◌then◌else◌, List, [], ◌∷◌, Option, Some, None}
use Rattle.std.specs.List.{find}
use Rattle.bow_units.specs.declared.sizes.Extent.{Extent}
use Rattle.bow_units.specs.declared.statuses.Kind.{Kind}
use Rattle.bow_units.specs.declared.statuses.Kind.TheVariants.{Free}
use Rattle.bow_ranges.specs.Kinds.{is_free, kind_at, IsRunOf}

-- the block joined to the runs above it
abbrev pub joined : ℕ → List Extent → List Extent
joined block [] = record { first = block; count = 1 } ∷ []
joined block (run ∷ runs) =
    if run.first == block + 1 then record { first = block; count = run.count + 1 } ∷ runs
    else record { first = block; count = 1 } ∷ run ∷ runs

-- the longest runs of free blocks, the lowest first; the kinds are those of the blocks from `block` on
abbrev pub free_runs : ℕ → List Kind → List Extent
free_runs block [] = []
free_runs block (kind ∷ kinds) = if is_free kind then joined block (free_runs (block + 1) kinds)
    else free_runs (block + 1) kinds

-- the longer of two runs, the first at a tie
abbrev pub longer : Extent → Option Extent → Extent
longer run None = run
longer run (Some other) = if nat_lt run.count other.count then other else run

-- the longest run, the lowest at a tie
abbrev pub longest : List Extent → Option Extent
longest [] = None
longest (run ∷ runs) = Some (longer run (longest runs))

-- the first `want` blocks of the run that has as many, or else all of the longest
abbrev pub cut_to : ℕ → Option Extent → Option Extent → Option Extent
cut_to want (Some run) other = Some (record { first = run.first; count = want })
cut_to want None other = other

-- the first `want` blocks of the first run that has as many; where there is none, the longest run
abbrev pub picked_of : List Extent → ℕ → Option Extent
picked_of runs want = cut_to want (find (λ run. nat_le want run.count) runs) (longest runs)

-- the free blocks that are picked
abbrev pub picked : List Kind → ℕ → Option Extent
picked kinds want = picked_of (free_runs 0 kinds) want

-- a picked extent: the first blocks of one longest run of free blocks, and no more than were wanted
pub record IsPicked (kinds : List Kind) (want : ℕ) (e : Extent) : Type 0 where
  pub some : 0 < e.count
  pub most : e.count ≤ want
  pub free : kind_at kinds e.first ≡ Free
  pub run : Extent
  pub is_run : IsRunOf kinds e.first run
  pub first : run.first ≡ e.first
  pub within : e.count ≤ run.count
