use Rattle.std.proofs.Common.{ap, ◌∙◌}
use Rattle.bow_core.specs.Batches.{batch_in_hand}
use Rattle.bow_core.specs.Held.{Held}
use Rattle.bow_core.proofs.Changing.{move_saved}
use Rattle.bow_core.proofs.Saved.{kept_with}
use Rattle.bow_core.proofs.state.State.move_current.Goals as goal

pub invariant_of-self : goal.invariant_of-self
invariant_of-self g c =
    let s = c.args.self.now in
    let i = c.self.inside in
    let k = c.self.invariant in
    let saved = move_saved s.geometry s.memory (batch_in_hand s.memory.hand) c.requires.sound c.requires.held c.requires.act c.args.from c.args.to c.requires.job (g.R.Ranges.kinds i.table) (g.R.Ranges.kinds c.set.new.self) (g.R.Ranges.kinds c.set-2.new.self)
    c.run.result c.run-self-inside.result (ap (λ (h : Held). h.memory.kinds) c.self.view_is) c.run.ensures.first c.run.ensures.count c.run-self-inside.ensures.first c.run-self-inside.ensures.count c.set.ensures.set c.set-2.ensures.set in
    kept_with k (c.set-2.ensures.blocks ∙ c.set.ensures.blocks) c.set_current.ensures.log saved.0
