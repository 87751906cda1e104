-- A script dealt out to several devices: in each section the lanes go round.
use Rattle.std.specs.Prelude.{ℕ, ◌-◌, ◌==◌, if◌then◌else◌, List, [], ◌∷◌, map, drop, slice_index_or}
use Rattle.bow_script.specs.declared.scripts.Line.{Line}
use Rattle.bow_script.specs.declared.scripts.Line.TheVariants.{Prepare}

-- of a list, the one behind the first so many that are skipped, and from there on every `count`-th
abbrev pub every : {A : Type 0} → ℕ → ℕ → List A → List A
every count skip [] = []
every count skip (one ∷ rest) =
    if skip == 0 then one ∷ every count (count - 1) rest else every count (skip - 1) rest

-- a device's lanes of each section
abbrev pub dealt : ℕ → ℕ → List (List (List Line)) → List (List (List Line))
dealt device count sections = map (every count device) sections

-- a section that has one prepare
abbrev pub preparing : List (List Line)
preparing = (Prepare ∷ []) ∷ []

-- what a device plays first: its lanes of the first section, and a prepare
abbrev pub opening_part : ℕ → ℕ → List (List (List Line)) → List (List (List Line))
opening_part device count script = every count device (slice_index_or script 0 []) ∷ preparing ∷ []

-- and then: its lanes of the others
abbrev pub later_part : ℕ → ℕ → List (List (List Line)) → List (List (List Line))
later_part device count script = dealt device count (drop 1 script)

-- a lane of a section
abbrev pub lane_in : List (List (List Line)) → ℕ → ℕ → List Line
lane_in script section lane = slice_index_or (slice_index_or script section []) lane []
