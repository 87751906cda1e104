-- What a cut may leave of a disk that tells its content, between two moments.
use Rattle.std.specs.Prelude.{ℕ, ◌≡◌, ◌≤◌, ◌⊎◌, List, Option, Some}
use Rattle.bow_disk.specs.Disk.{Content}

-- Time goes on from the old disk to the new one. What a cut since an earlier moment might have left, it still might;
-- what else it may leave now is told by P.
pub record AddsCuts {T : Type 0} (moment : T → ℕ) (left_since : T → ℕ → List (List ℕ) → Type 0) (P : List (List ℕ)
    → Type 0) (old new : T) : Type 0 where
  pub time : moment old ≤ moment new
  pub only : (t : ℕ) (image : List (List ℕ)) → t ≤ moment old → left_since new t image
      → left_since old t image ⊎ P image
  pub keeps : (t : ℕ) (image : List (List ℕ)) → t ≤ moment old → left_since old t image → left_since new t image

-- the same where it tells its content: what P says may hang on the old one
abbrev pub AddsToldCuts : {T : Type 0} → (T → Option Content) → (T → ℕ) → (T → ℕ → List (List ℕ) → Type 0)
    → (Content → List (List ℕ) → Type 0) → T → T → Type 0
AddsToldCuts content moment left_since P old new =
    (c : Content) → content old ≡ Some c → AddsCuts moment left_since (P c) old new

-- where it tells its content, nothing is added to what a cut may leave, as by reads
abbrev pub AddsNoCut : {T : Type 0} → (T → Option Content) → (T → ℕ) → (T → ℕ → List (List ℕ) → Type 0) → T → T
    → Type 0
AddsNoCut content moment left_since old new = AddsToldCuts content moment left_since (λ c image. ⊥) old new

-- it tells a content of which P holds
pub record Tells {T : Type 0} (content : T → Option Content) (P : Content → Type 0) (disk : T) : Type 0 where
  pub told : Content
  pub is : content disk ≡ Some told
  pub holds : P told
