use Rattle.std.proofs.Common.{◌≡◌, ◌*◌, length}
use Rattle.bow_disk.specs.Bytes.{image_of}
use Rattle.bow_disk.specs.Memory.{content}
use Rattle.bow_tool.specs.Drills.{IsRerunFrom, drill_sizes}
use Rattle.bow_tool.proofs.drill_cuts.cut_thrice.Given as goal

abbrev pub invariant-loop-round : goal.invariant-loop-round
invariant-loop-round l = record {
  whole : length l.image.items ≡ drill_sizes.blocks * drill_sizes.block_size;
  reruns : IsRerunFrom drill_sizes (content l.disk.state).candidates (image_of drill_sizes l.image.items);
}
