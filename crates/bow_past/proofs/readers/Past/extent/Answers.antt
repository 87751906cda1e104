use Rattle.std.proofs.Common.{length, arith, ap}
use Rattle.bow_past.specs.Readings.{Reading}
use Rattle.bow_past.proofs.readers.Past.extent.Goals as goal

pub returns-clause-small : goal.returns-clause-small
returns-clause-small c =
    let k = c.self.invariant in
    let e = ap (λ (p : Reading). length p.ended) c.self.view_is in
    let n = ap (λ (p : Reading). p.extent.first) c.self.view_is in
    omega (arith, k.inside, k.many, (k.valid).few, e, n)
