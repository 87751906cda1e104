-- A disk in memory that was just made.
use Rattle.std.proofs.Common.{◌≡◌, ℕ, ◌*◌, ◌<◌, List, [], length, get_or, drop, arith}
use Rattle.std.proofs.lemmas.List.{get_or_default}
use Rattle.std.proofs.lemmas.List.Elements.{All-take, All-drop}
use Rattle.bow_units.specs.Blocks.{AreBytes, IsBlock}
use Rattle.bow_units.specs.declared.sizes.Geometry.{Geometry}
use Rattle.bow_disk.specs.Bytes.{blocks_of, image_of}
use Rattle.bow_disk.specs.Memory.{IsFit, fresh}
use Rattle.bow_disk.proofs.Blocks.{length-blocks_of, get_or-blocks_of, block_sized}

-- each block of a run of bytes
block_is : (size n b : ℕ) (bytes : List ℕ) → length bytes ≡ n * size → AreBytes bytes → b < n → IsBlock size (get_or (blocks_of size n bytes) b [])
block_is size n b bytes whole small within = record {
  are_bytes = rw (get_or-blocks_of size n b bytes within) (All-take (λ byte. byte < 256) size (drop (b * size) bytes) (All-drop (λ byte. byte < 256) (b * size) bytes small));
  long = block_sized size n b bytes whole within;
}

pub fresh_fit : (g : Geometry) (bytes : List ℕ) (room : ℕ) → length bytes ≡ g.blocks * g.block_size → AreBytes bytes → IsFit (fresh g (image_of g bytes) room)
fresh_fit g bytes room whole small = record {
  blocks = length-blocks_of g.block_size g.blocks bytes;
  sized = λ b d within.
      let count = length-blocks_of g.block_size g.blocks bytes in
      rw (get_or_default (image_of g bytes) b d [] within) (block_is g.block_size g.blocks b bytes whole small (omega arith));
  past = λ k d within. absurd (omega arith);
  calls = omega arith;
  stop = omega arith;
  faults = omega arith;
}
