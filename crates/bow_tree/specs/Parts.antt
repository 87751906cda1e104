-- What is known of parts.
use Rattle.std.specs.Prelude.{◌≡◌, ℕ, ◌+◌, ◌*◌, ◌<◌, ◌≤◌, if◌then◌else◌, List, [], ◌∷◌, ◌++◌, length, take, drop}
use Rattle.bow_units.specs.declared.statuses.Kind.{Kind}
use Rattle.bow_units.specs.declared.statuses.Kind.TheVariants.{Sector0, Free}
use Rattle.bow_ranges.specs.Kinds.{is_free, count_of}
use Rattle.bow_tree.specs.declared.parts.Run.{Run}
use Rattle.bow_tree.specs.declared.parts.Part.{Part}
use Rattle.bow_tree.specs.Rows.{same, front, ending, longest_free, flat}

-- how many blocks of this kind the run has
abbrev pub in_run : Kind → Run → ℕ
in_run kind run = if same kind run.kind then run.count else 0

-- what is known of so many blocks of one kind
abbrev pub alike_of : Kind → ℕ → Part
alike_of kind count = record {
  first = record { kind = kind; count = count };
  last = record { kind = kind; count = count };
  free = in_run Free (record { kind = kind; count = count });
  longest = in_run Free (record { kind = kind; count = count });
}

-- what is known of one block
abbrev pub lone : Kind → Part
lone kind = alike_of kind 1

-- the part that a read past the end would give
abbrev pub no_part : Part
no_part = alike_of Sector0 0

-- the run is the one at the beginning of the row
abbrev pub IsFront : List Kind → Run → Type 0
IsFront kinds run = (kind : Kind) → front kind kinds ≡ in_run kind run

-- the run is the one at the end of the row
abbrev pub IsBack : List Kind → Run → Type 0
IsBack kinds run = (kind : Kind) → ending kind 0 kinds ≡ in_run kind run

-- what is known of the row, which has so many blocks, is right
pub record IsKnown (size : ℕ) (kinds : List Kind) (part : Part) : Type 0 where
  pub sized : length kinds ≡ size
  pub first : IsFront kinds part.first
  pub last : IsBack kinds part.last
  pub free : part.free ≡ count_of is_free kinds
  pub longest : part.longest ≡ longest_free kinds

-- so with each of the parts, which have `size` blocks each
abbrev pub AreKnown : ℕ → List (List Kind) → List Part → Type 0
AreKnown size [] [] = Unit {0}
AreKnown size [] (part ∷ parts) = ⊥
AreKnown size (row ∷ rows) [] = ⊥
AreKnown size (row ∷ rows) (part ∷ parts) = IsKnown size row part × AreKnown size rows parts

-- the run ends any row that ends with `before` and goes on with a row of `size` blocks that ends with `last`
abbrev pub IsLastBehind : Run → Run → ℕ → Run → Type 0
IsLastBehind before last size run =
    (low high : List Kind) → 0 < size → length high ≡ size → IsBack low before → IsBack high last
    → IsBack (low ++ high) run

-- the run begins any row that begins with `size` blocks, the first run of which is `first`, and goes on with `after`
abbrev pub IsFirstBefore : Run → ℕ → Run → Run → Type 0
IsFirstBefore first size after run =
    (low high : List Kind) → 0 < size → length low ≡ size → IsFront low first → IsFront high after
    → IsFront (low ++ high) run

-- a row of which this is known
abbrev pub HasRow : ℕ → Part → Type 0
HasRow size part = (row : List Kind) × IsKnown size row part

-- the third part tells of any two rows together of which the first two tell
abbrev pub IsJoined : ℕ → Part → ℕ → Part → Part → Type 0
IsJoined low_size low high_size high part =
    (lows highs : List Kind) → IsKnown low_size lows low → IsKnown high_size highs high
    → IsKnown (low_size + high_size) (lows ++ highs) part

-- rows of which the parts of a node tell
abbrev pub HasRows : ℕ → List Part → Type 0
HasRows size node = (rows : List (List Kind)) × AreKnown size rows node

-- the part tells of all rows of a node together
abbrev pub IsWhole : ℕ → List Part → Part → Type 0
IsWhole size node part = (rows : List (List Kind)) → AreKnown size rows node → IsKnown (16 * size) (flat rows) part

-- rows of which the parts tell, behind a row that ends with `before`, and all together not too long
abbrev pub HasRowsBehind : Run → ℕ → List Part → Type 0
HasRowsBehind before size node =
    (row : List Kind) × (rows : List (List Kind)) × IsBack row before × AreKnown size rows node
    × (length row + length node * size ≤ 1048576)

-- rows of which the parts tell, before a row that begins with `after`, and all together not too long
abbrev pub HasRowsBefore : Run → ℕ → List Part → Type 0
HasRowsBefore after size node =
    (row : List Kind) × (rows : List (List Kind)) × IsFront row after × AreKnown size rows node
    × (length row + length node * size ≤ 1048576)

-- the run ends any row that ends with `before` and goes on with the rows of the parts below a place
abbrev pub EndsBelow : Run → ℕ → List Part → ℕ → Run → Type 0
EndsBelow before size node place run =
    (row : List Kind) (rows : List (List Kind)) → IsBack row before → AreKnown size rows node
    → IsBack (row ++ flat (take place rows)) run

-- the run begins any row that begins with the rows of the parts from a place on and goes on with `after`
abbrev pub BeginsFrom : Run → ℕ → List Part → ℕ → Run → Type 0
BeginsFrom after size node place run =
    (row : List Kind) (rows : List (List Kind)) → IsFront row after → AreKnown size rows node
    → IsFront (flat (drop place rows) ++ row) run
