use Rattle.std.proofs.Common.{ap, ◌∙◌}
use Rattle.bow_crc.specs.Sums.{first_blocks}
use Rattle.bow_log.specs.Generations.{entry_of}
use Rattle.bow_core.proofs.Armed.{copy_is}
use Rattle.bow_core.proofs.slots.entry_of_slots.Goals as goal

pub returns-clause-backup : goal.returns-clause-backup
returns-clause-backup c = c.of_backup.ensures.backup ∙ copy_is c.args.source c.args.dest c.args.count c.sum_of_slots-sum.result (first_blocks c.args.count c.args.geometry.block_size c.args.buffer.now.items) c.sum_of_slots-sum.ensures

pub returns-clause-spelled : goal.returns-clause-spelled
returns-clause-spelled c =
    c.of_backup.ensures.spelled ∙ ap (entry_of c.args.geometry) (copy_is c.args.source c.args.dest c.args.count c.sum_of_slots-sum.result (first_blocks c.args.count c.args.geometry.block_size c.args.buffer.now.items) c.sum_of_slots-sum.ensures)
