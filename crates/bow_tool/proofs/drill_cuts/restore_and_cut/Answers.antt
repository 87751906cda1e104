use Rattle.bow_disk.specs.Bytes.{image_of}
use Rattle.bow_tool.specs.Drills.{drill_room, drill_sizes as sizes_of_drill}
use Rattle.bow_tool.proofs.Cutting.{image_left, passed_on}
use Rattle.bow_tool.proofs.drill_cuts.restore_and_cut.Goals as goal

pub returns-clause-passes : goal.returns-clause-passes
returns-clause-passes c = passed_on sizes_of_drill c.drill_sizes.result drill_room c.in_ok-disk.disk c.restore-answer.new.disk (image_of sizes_of_drill c.args.image.items) c.drill_sizes.ensures.is c.in_ok-disk.ensures.fresh c.in_ok-disk.ensures.settled c.restore-answer.ensures.sizes c.restore-answer.ensures.settled c.cut.result c.cut.ensures.crash

pub returns-clause-image : goal.returns-clause-image
returns-clause-image c = image_left sizes_of_drill c.drill_sizes.result drill_room c.in_ok-disk.disk c.restore-answer.new.disk (image_of sizes_of_drill c.args.image.items) c.drill_sizes.ensures.is c.in_ok-disk.ensures.fresh c.in_ok-disk.ensures.settled c.restore-answer.ensures.sizes c.restore-answer.ensures.settled c.cut.result c.cut.ensures.crash
