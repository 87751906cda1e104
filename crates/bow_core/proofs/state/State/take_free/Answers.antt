use Rattle.std.proofs.Common.{sym, ap, ◌∙◌}
use Rattle.bow_core.specs.Held.{Held}
use Rattle.bow_core.proofs.Picking.{taken_inside, taken_saved}
use Rattle.bow_core.proofs.Saved.{kept_with}
use Rattle.bow_core.proofs.state.State.take_free.Goals as goal

pub set-requires : goal.set-requires
set-requires g c =
    let s = c.args.self.now in
    taken_inside s.geometry s.memory.kinds (g.R.Ranges.kinds c.self.inside.table) (ap (λ (h : Held). h.memory.kinds) c.self.view_is) c.requires.table c.args.want c.requires.some c.in-Some.free (sym c.pick.ensures ∙ c.in-Some.is)

pub invariant_of-self : goal.invariant_of-self
invariant_of-self g c =
    let s = c.args.self.now in
    let k = c.self.invariant in
    kept_with k c.set.ensures.blocks k.log (taken_saved s.geometry s.memory.kinds (g.R.Ranges.kinds c.self.inside.table) (ap (λ (h : Held). h.memory.kinds) c.self.view_is) c.requires.table c.args.want c.requires.some c.in-Some.free (sym c.pick.ensures ∙ c.in-Some.is)
    (g.R.Ranges.kinds c.set.new.self) c.self.inside.saved c.set.ensures.set k.saved)
