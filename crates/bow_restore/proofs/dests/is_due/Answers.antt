use Rattle.std.proofs.Common.{arith}
use Rattle.bow_log.specs.Generations.{backup_of}
use Rattle.bow_restore.proofs.Notes.{due_at, none_more, none_due}
use Rattle.bow_restore.proofs.dests.is_due.Goals as goal

pub loop-offset-init : goal.loop-offset-init
loop-offset-init c = λ x above below. absurd (omega arith)

pub returns-then-dests-run : goal.returns-then-dests-run
returns-then-dests-run c since all noted =
    due_at c.args.geometry (backup_of c.args.geometry c.args.entry) since c.args.dests.now c.run_of-run.result.source c.loop-offset.offset c.run_of-run.result.count
    c.requires.entry.backup c.run_of-run.ensures.source c.run_of-run.ensures.count c.loop-offset-test.true c.if-dests-run.true noted

pub loop-offset-preserved : goal.loop-offset-preserved
loop-offset-preserved c =
    none_more c.args.dests.now c.run_of-run.result.source (backup_of c.args.geometry c.args.entry).source c.loop-offset.offset c.run_of-run.ensures.source c.loop-offset.invariant c.if-dests-run.false

pub returns : goal.returns
returns c since all noted =
    none_due c.args.geometry (backup_of c.args.geometry c.args.entry) since c.args.dests.now c.loop-offset.offset c.run_of-run.result.count
    c.requires.entry.backup all c.run_of-run.ensures.count c.loop-offset-test.false c.loop-offset.invariant noted
