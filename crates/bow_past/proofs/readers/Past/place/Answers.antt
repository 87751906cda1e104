use Rattle.std.proofs.Common.{◌≡◌, ◌-◌, arith, ap, ◌∙◌}
use Rattle.bow_units.specs.declared.sizes.Geometry.{Geometry}
use Rattle.bow_log.specs.Generations.{generation_of}
use Rattle.bow_chain.specs.Places.{pass}
use Rattle.bow_log.specs.Spelling.{Fields}
use Rattle.bow_past.specs.Readings.{Reading, kept_of, past_logs}
use Rattle.bow_past.proofs.readers.Past.place.Goals as goal

pub returns-clause-is : goal.returns-clause-is
returns-clause-is c =
    let k = c.loop-sequence.invariant in
    let p = c.args.self.now in
    let many : c.loop-sequence.sequence - c.args.low ≡ c.args.log.now.sequence - c.args.low = (let low = c.loop-sequence.auto.sequence in let view = ap (λ (l : Fields). l.sequence) c.log.view_is in let end = c.loop-sequence.auto.sequence-end (let first = c.requires.low in omega (arith, first, view)) in let test = c.loop-sequence-test.false in omega (arith, low, end, test, view)) in
    c.place_by_log.ensures.is
    ∙ ap (λ (g : Geometry). pass (generation_of g c.args.log.now).entries c.loop-sequence.place) (ap (λ (r : Reading). r.geometry) c.self.view_is)
    ∙ ap (pass (generation_of p.geometry c.args.log.now).entries) (k.so_far ∙ ap (λ n. past_logs p.geometry (kept_of p) c.args.low n c.args.block) many)
