use Rattle.std.proofs.Common.{◌+◌, List, map, drop, get_or, subst}
use Rattle.bow_log.specs.Generations.{Backup, backup_of}
use Rattle.bow_restore.proofs.EntryLoop.{entry_next}
use Rattle.bow_restore.proofs.Notes.{OnlyNoted, only_later}
use Rattle.bow_restore.proofs.dests.forget.Goals as goal

pub loop-index-preserved : goal.loop-index-preserved
loop-index-preserved c =
    let geo = c.args.geometry in
    let es = c.args.entries.now in
    let i = c.loop-index.index in
    only_later geo (backup_of geo (get_or es i (record { source = 0; dest = 0; size = 0; sum = 0 }))) (drop (i + 1) (map (backup_of geo) es)) c.loop-index.dests c.set_notes.new.dests c.run_of-run.result.dest c.run_of-run.result.count
    c.run_of-run.ensures.dest c.run_of-run.ensures.count c.set_notes.ensures.long c.set_notes.ensures.inside c.set_notes.ensures.outside
    (subst (λ (bs : List Backup). OnlyNoted geo bs c.loop-index.dests) (entry_next geo es i c.loop-index-test.true) c.loop-index.invariant)
