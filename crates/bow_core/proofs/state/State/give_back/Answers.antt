use Rattle.std.proofs.Common.{ap, subst, sym, refl}
use Rattle.bow_units.specs.declared.statuses.Kind.TheVariants.{Free}
use Rattle.bow_core.specs.Held.{Held}
use Rattle.bow_core.specs.Inside.{is_saved}
use Rattle.bow_core.specs.Batches.{ArePicked}
use Rattle.bow_core.proofs.Saved.{kept_with, saved_to}
use Rattle.bow_core.proofs.state.State.give_back.Goals as goal

pub invariant_of-self : goal.invariant_of-self
invariant_of-self g c =
    let k = c.self.invariant in
    let table = g.R.Ranges.kinds c.self.inside.table in
    let own = subst (λ l. ArePicked l c.args.picked) (ap (λ (h : Held). h.memory.kinds) (sym c.self.view_is)) c.requires in
    kept_with k c.set.ensures.blocks k.log (saved_to table (g.R.Ranges.kinds c.set.new.self) c.args.picked c.self.inside.saved Free c.set.ensures.set own.inside (λ b low high. ap is_saved (own.backups b low high)) refl k.saved)
