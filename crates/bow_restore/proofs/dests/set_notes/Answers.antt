use Rattle.std.proofs.Common.{◌∙◌, arith}
use Rattle.std.proofs.lemmas.List.{length-set}
use Rattle.bow_restore.proofs.Notes.{set_inside, set_outside}
use Rattle.bow_restore.proofs.dests.set_notes.Goals as goal

pub loop-offset-preserved : goal.loop-offset-preserved
loop-offset-preserved c =
    let now = c.loop-offset.dests in
    let so_far = c.loop-offset.invariant in
    record {
      long = length-set _ _ _ ∙ so_far.long;
      inside = set_inside now c.args.first c.loop-offset.offset c.args.noted (omega (arith, so_far.long, c.requires.within, c.loop-offset-test.true)) so_far.inside;
      outside = set_outside c.args.dests.now now c.args.first c.loop-offset.offset c.args.noted so_far.outside;
    }
