use Rattle.std.proofs.Common.{List, true, map, ap, ◌∙◌}
use Rattle.bow_guard.specs.Device.{unsaved}
use Rattle.bow_units.specs.declared.statuses.Kind.{Kind}
use Rattle.bow_machine.specs.Memory.{Empty}
use Rattle.bow_core.specs.Held.{Held, with_memory}
use Rattle.bow_core.proofs.Saved.{kept_with, unsaved_is, saved_none}
use Rattle.bow_core.proofs.state.State.mark_clean.Goals as goal

pub invariant_of-self : goal.invariant_of-self
invariant_of-self g c =
    let k = c.self.invariant in
    kept_with k c.set.ensures.blocks k.log (saved_none (g.R.Ranges.kinds c.self.inside.table) (g.R.Ranges.kinds c.set.new.self) c.self.inside.saved c.run-self-inside.result c.set.ensures.set k.saved c.run-self-inside.ensures.first c.run-self-inside.ensures.count)

pub returns : goal.returns
returns g c =
    let s = c.args.self.now in
    let changed = unsaved_is (g.R.Ranges.kinds c.self.inside.table) (g.R.Ranges.kinds c.set.new.self) c.self.inside.saved c.set.ensures.set c.self.invariant.saved in
    ap (λ (h : Held). with_memory h (record h.memory { kinds = g.R.Ranges.kinds c.set.new.self; clean = true; hand = Empty })) c.self.view_is
    ∙ ap (λ (l : List Kind). with_memory s (record s.memory { kinds = l; clean = true; hand = Empty })) (changed ∙ ap (λ (h : Held). map unsaved h.memory.kinds) c.self.view_is)
