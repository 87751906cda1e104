use Rattle.std.proofs.Common.{◌*◌, ◌∙◌, ap}
use Rattle.bow_units.specs.declared.sizes.Geometry.{Geometry}
use Rattle.bow_disk.specs.Bytes.{image_of}
use Rattle.bow_disk.specs.Memory.{content}
use Rattle.bow_tool.specs.Drills.{drill_sizes}
use Rattle.bow_tool.proofs.Cutting.{rerun_more, rerun_none}
use Rattle.bow_tool.proofs.drill_cuts.cut_thrice.Goals as goal

pub loop-round-init : goal.loop-round-init
loop-round-init c = record {
  whole = c.in_ok-image.ensures.picked.whole ∙ ap (λ (g : Geometry). g.blocks * g.block_size) c.requires.sizes;
  reruns = rerun_none drill_sizes c.args.disk.now.state.geometry (content c.args.disk.now.state).candidates c.in_ok-image.image.items c.requires.sizes c.in_ok-image.ensures.crash;
}

pub loop-round-preserved : goal.loop-round-preserved
loop-round-preserved c = record {
  whole = c.in_ok-image-2.ensures.whole;
  reruns = rerun_more drill_sizes (content c.args.disk.now.state).candidates (image_of drill_sizes c.loop-round.image.items) (image_of drill_sizes c.in_ok-image-2.image.items) c.loop-round.invariant.reruns c.in_ok-image-2.ensures.passes c.in_ok-image-2.ensures.image;
}
