-- Where in a node so many blocks in a row are free.
use Rattle.std.specs.Prelude.{◌≡◌, ℕ, ◌+◌, ◌*◌, ◌<◌, ◌≤◌, List, [], slice_index_or}
use Rattle.bow_units.specs.declared.statuses.Kind.{Kind}
use Rattle.bow_tree.specs.declared.reads.Fit.{Fit}
use Rattle.bow_tree.specs.declared.reads.Fit.TheVariants.{At, Within}
use Rattle.bow_tree.specs.declared.parts.Part.{Part}
use Rattle.bow_tree.specs.Rows.{flat, fit, longest_free}
use Rattle.bow_tree.specs.Parts.{AreKnown}

-- the first fit in the rows of a node begins here: at a block, or in a row that has one
abbrev pub IsFit : ℕ → ℕ → List (List Kind) → Fit → Type 0
IsFit size count rows (At block) = fit count (flat rows) ≡ block
IsFit size count rows (Within place) =
    (place < 16) × (count ≤ longest_free (slice_index_or rows place []))
    × (fit count (flat rows) ≡ place * size + fit count (slice_index_or rows place []))

-- rows of which the parts of a node tell, with so many free blocks in a row
abbrev pub HasFit : ℕ → ℕ → List Part → Type 0
HasFit size count node = (rows : List (List Kind)) × AreKnown size rows node × (count ≤ longest_free (flat rows))

-- the first fit begins here, in any such rows
abbrev pub FitsAt : ℕ → ℕ → List Part → Fit → Type 0
FitsAt size count node found =
    (rows : List (List Kind)) → AreKnown size rows node → count ≤ longest_free (flat rows)
    → IsFit size count rows found
