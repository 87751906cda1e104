-- What follows from the definitions.
use Rattle.std.specs.Prelude.{◌≡◌, ◌+◌, ◌≤◌, ◌*◌, ℕ, Bool, MatchOption, List, length, if◌then◌else◌}
use Rattle.bow_units.specs.declared.sizes.Extent.{Extent}
use Rattle.bow_units.specs.declared.statuses.Kind.{Kind}
use Rattle.bow_units.specs.declared.statuses.Kind.TheVariants.{Free, Changed}
use Rattle.bow_ranges.specs.Kinds.{is_free, count_of, part, with_kind, reclaimed}
use Rattle.bow_ranges.specs.Picks.{picked, IsPicked}

-- with an extent given a kind, a sort has as many blocks as before, those of the extent if it has that kind, and
-- without those that stood there
abbrev pub SetCounts : Type 0
SetCounts = (kinds : List Kind) (e : Extent) (kind : Kind) (sort : Kind → Bool) → e.first + e.count ≤ length kinds
    → count_of sort (with_kind kinds e kind) + count_of sort (part kinds e)
    ≡ count_of sort kinds + e.count * (if sort kind then 1 else 0)

-- a discard keeps the count of a sort that has both free and changed blocks, or neither
abbrev pub ReclaimKeepsCounts : Type 0
ReclaimKeepsCounts = (kinds : List Kind) (e : Extent) (but : List Extent) (sort : Kind → Bool)
    → sort Free ≡ sort Changed → count_of sort (reclaimed kinds e but) ≡ count_of sort kinds

-- none is picked exactly where no block is free; else one run's first blocks are
abbrev pub PicksOne : Type 0
PicksOne = (kinds : List Kind) (want : ℕ) → 1 ≤ want
    → MatchOption (picked kinds want) (count_of is_free kinds ≡ 0) (IsPicked kinds want)
