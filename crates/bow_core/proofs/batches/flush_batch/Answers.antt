use Rattle.bow_copy.specs.declared.jobs.Act.TheVariants.{Flush}
use Rattle.bow_core.specs.Batches.{batch_in_hand}
use Rattle.bow_core.proofs.ActRows.{row_of, still_picked}
use Rattle.bow_core.proofs.batches.flush_batch.Goals as goal

pub act_done-requires-clause-same : goal.act_done-requires-clause-same
act_done-requires-clause-same g c =
    let m = c.args.state.now.memory in
    let b = batch_in_hand m.hand in
    row_of c.args.state.now.geometry m b c.requires.order.sound c.requires.held Flush c.requires.act

pub fail-requires-clause-picked : goal.fail-requires-clause-picked
fail-requires-clause-picked g c =
    let m = c.args.state.now.memory in
    still_picked c.args.state.now.geometry m (batch_in_hand m.hand) c.requires.order.sound c.requires.held
