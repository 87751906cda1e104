-- The images of a disk whose content has the shape of its sizes.
use Rattle.std.proofs.Common.{◌≡◌, ℕ, List, [], length, get_or, ◌∙◌, arith}
use Rattle.std.proofs.lemmas.List.Elements.{All-contains}
use Rattle.bow_units.specs.Blocks.{IsBlock}
use Rattle.bow_disk.specs.Disk.{Content, IsCrash, IsImage, AreOfBlocks, IsShaped}

-- one candidate for each block makes an image
pub crash_of_blocks : (size n : ℕ) (cs : List (List (List ℕ))) (image : List (List ℕ)) → length cs ≡ n
    → AreOfBlocks size n cs → IsCrash cs image → IsImage size n image
crash_of_blocks size n cs image long blocks crash = record {
  blocks = crash.size ∙ long;
  each = λ b within. All-contains (IsBlock size) (get_or cs b []) (get_or image b []) (blocks b within) (crash.each b
      (omega arith));
}

-- whatever a cut leaves
pub crash_image : (size n : ℕ) (c : Content) (image : List (List ℕ)) → IsShaped size n c
    → IsCrash c.candidates image → IsImage size n image
crash_image size n c image shaped crash = crash_of_blocks size n c.candidates image shaped.listed shaped.sized crash

-- what it holds
pub now_image : (size n : ℕ) (c : Content) → IsShaped size n c → IsImage size n c.now
now_image size n c shaped = record {
  blocks = shaped.blocks;
  each = λ b within. All-contains (IsBlock size) (get_or c.candidates b []) (get_or c.now b []) (shaped.sized b
      within) (shaped.held b within);
}
