use Rattle.std.proofs.Common.{List, sym, ap, ◌∙◌}
use Rattle.std.specs.Prelude.{slice_get}
use Rattle.bow_past.specs.declared.ended.Ended.{Ended}
use Rattle.bow_past.proofs.Kept.{whole}
use Rattle.bow_past.proofs.readers.Past.ended.Goals as goal

pub returns-clause-sized : goal.returns-clause-sized
returns-clause-sized c i e at =
    let k = c.self.invariant in
    whole c.self.inside.geometry k.valid e (k.sized i e (ap (λ (l : List Ended). slice_get l i) (sym c.deref.ensures.value) ∙ at))
