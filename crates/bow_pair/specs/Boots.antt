-- The boot machine of several devices, and boots one after another. A boot reads what is kept. Where that is `commit`,
-- each checkpoint is given up and then the text is removed; where there is no text, each device is restored.
use Rattle.std.specs.Prelude.{◌≡◌, ◌⊎◌, ℕ, Bool, true, false, List, [], ◌∷◌, slice_get, slice_set, Option, None, Some}
use Rattle.bow_units.specs.declared.sizes.Geometry.{Geometry}
use Rattle.bow_log.specs.Faults.{header_fault}
use Rattle.bow_disk.specs.Disk.{IsImage}
use Rattle.bow_chain.specs.Contents.{contents_of}
use Rattle.bow_chain.specs.Kept.{IsPlain}
use Rattle.bow_restore.specs.Forwarding.{IsForwardCut, named_by}
use Rattle.vold_meta.specs.Decisions.{text_of_decision}
use Rattle.vold_commands.specs.Boot.{Whole}
use Rattle.vold_commands.specs.BootLaws.{CutOf}
use Rattle.vold_commands.specs.Boots.{IsLogged}
use Rattle.bow_pair.specs.declared.boots.PairBooted.{PairBooted}
use Rattle.bow_pair.specs.declared.boots.PairBooted.TheVariants.{Forwarded, RolledBack, Plain}

-- the checkpoint was given up: block 0 holds what its log named, and all else is as it was
pub record IsForwarded (g : Geometry) (i j : List (List ℕ)) : Type 0 where
  pub image : IsImage g.block_size g.blocks j
  pub header : header_fault g (contents_of i 0) ≡ None
  pub plain : IsPlain (named_by g (contents_of i))
  pub now : j ≡ slice_set i 0 (named_by g (contents_of i))

-- what settling a device makes of its image that is done whole: where a log is in block 0 it is given up, or restored;
-- else nothing is changed
abbrev pub WholeBy : Bool → Geometry → List (List ℕ) → List (List ℕ) → Type 0
WholeBy true g i j = (IsLogged i × IsForwarded g i j) ⊎ ((IsLogged i → ⊥) × (j ≡ i))
WholeBy false g i j = (IsLogged i × Whole g i j) ⊎ ((IsLogged i → ⊥) × (j ≡ i))

-- what a cut in it may leave
abbrev pub CutBy : Bool → Geometry → List (List ℕ) → List (List ℕ) → Type 0
CutBy true g i j = IsForwardCut g i j × IsImage g.block_size g.blocks j
CutBy false g i j = CutOf g i j

-- so of each device, from one image to the other
abbrev pub EachOf : (Geometry → List (List ℕ) → List (List ℕ) → Type 0) → List Geometry → (ℕ → List (List ℕ))
    → (ℕ → List (List ℕ)) → Type 0
EachOf R sizes i j = (k : ℕ) (g : Geometry) → slice_get sizes k ≡ Some g → R g (i k) (j k)

-- what a cut of a boot that read this text may leave of an image: it is as it was, or settling it was cut
abbrev pub CutFrom : Option (List ℕ) → Geometry → List (List ℕ) → List (List ℕ) → Type 0
CutFrom text g i j = (j ≡ i) ⊎ ((committed : Bool) × (text ≡ text_of_decision committed) × CutBy committed g i j)

-- A boot that is cut, and what the cut leaves of the images and of the text. The text is removed only once each
-- checkpoint is given up. A boot that fails leaves what a cut there may leave.
abbrev pub CutBoot : List Geometry → (ℕ → List (List ℕ)) → Option (List ℕ) → (ℕ → List (List ℕ)) → Option (List ℕ)
    → Type 0
CutBoot sizes i text j left = ((left ≡ text) × EachOf (CutFrom text) sizes i j)
    ⊎ ((text ≡ text_of_decision true) × (left ≡ None) × EachOf (WholeBy true) sizes i j)

-- what a boot that ends well answers, by the decision and by the images: whether a log was in some block 0
abbrev pub Answers : Bool → List Geometry → (ℕ → List (List ℕ)) → PairBooted → Type 0
Answers true sizes i answer = answer ≡ Forwarded
Answers false sizes i answer =
    ((answer ≡ RolledBack) × ((k : ℕ) × (g : Geometry) × (slice_get sizes k ≡ Some g) × IsLogged (i k)))
    ⊎ ((answer ≡ Plain) × ((k : ℕ) (g : Geometry) → slice_get sizes k ≡ Some g → IsLogged (i k) → ⊥))

-- a boot that ends well
pub record EndedBoot (sizes : List Geometry) (i : ℕ → List (List ℕ)) (text : Option (List ℕ)) (answer : PairBooted)
    (j : ℕ → List (List ℕ)) (left : Option (List ℕ)) : Type 0 where
  pub committed : Bool
  pub decided : text ≡ text_of_decision committed
  pub none : left ≡ None
  pub whole : EachOf (WholeBy committed) sizes i j
  pub answers : Answers committed sizes i answer

-- boots one after another, each cut, and what each cut leaves
abbrev pub CutBoots : List Geometry → List ((ℕ → List (List ℕ)) × Option (List ℕ)) → (ℕ → List (List ℕ))
    → Option (List ℕ) → (ℕ → List (List ℕ)) → Option (List ℕ) → Type 0
CutBoots sizes [] i text j left = ((k : ℕ) → j k ≡ i k) × (left ≡ text)
CutBoots sizes (one ∷ rest) i text j left = CutBoot sizes i text one.0 one.1
    × CutBoots sizes rest one.0 one.1 j left
