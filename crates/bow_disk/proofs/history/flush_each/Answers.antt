use Rattle.std.proofs.Common.{◌<◌, length, arith, None, get_or}
use Rattle.std.proofs.lemmas.List.{get_or_default}
use Rattle.std.proofs.lemmas.List.Edits.{map_over_more}
use Rattle.bow_disk.specs.Layout.{flush_mark}
use Rattle.bow_disk.specs.declared.history.Mark.{Mark}
use Rattle.bow_disk.proofs.history.flush_each.Goals as goal

pub loop-mark-preserved : goal.loop-mark-preserved
loop-mark-preserved c =
    let i = c.loop-mark.mark-index in
    let marks = c.loop-mark.marks in
    let none : Mark = record { call = 0; block = 0; flushed = None } in
    let x = get_or marks i none in
    let within : i < length c.args.marks.now = omega arith in
    let within_now : i < length marks = omega arith in
    rw c.flushed_mark.ensures (map_over_more (flush_mark c.args.call) c.args.marks.now marks i x within c.loop-mark.invariant (get_or_default marks i none x within_now))
