use Rattle.std.proofs.Common.{◌≡◌, suc, ◌-◌, take, sym, ap, ◌∙◌, arith}
use Rattle.bow_units.specs.declared.statuses.Kind.TheVariants.{Sector0}
use Rattle.bow_ranges.specs.Runs.{end_of}
use Rattle.bow_ranges.proofs.RunEdits.{end_at}
use Rattle.bow_ranges.proofs.runs.start_of.Goals as goal

pub returns-else-place-eq0 : goal.returns-else-place-eq0
returns-else-place-eq0 c =
    let num : c.args.place ≡ suc (c.args.place - 1) = omega arith in
    sym (ap (λ n. end_of 0 (take n c.args.runs.now)) num ∙ end_at 0 c.args.runs.now (c.args.place - 1) (record { end = 0; kind = Sector0 }) (omega arith))
