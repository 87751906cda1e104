use Rattle.std.proofs.Common.{sym, ◌∙◌}
use Rattle.bow_core.specs.Batches.{batch_in_hand}
use Rattle.bow_core.proofs.ActRows.{not_over}
use Rattle.bow_core.proofs.batches.act_of_batch.Goals as goal

pub unreachable-requires : goal.unreachable-requires
unreachable-requires g c =
    let m = c.args.state.now.memory in
    absurd (not_over c.args.state.now.geometry m (batch_in_hand m.hand) c.requires.order.sound c.requires.held (sym c.next_act.ensures ∙ c.in-End.is))
