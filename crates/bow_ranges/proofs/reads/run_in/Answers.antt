use Rattle.std.proofs.Common.{refl}
use Rattle.bow_units.specs.declared.statuses.Kind.TheVariants.{Sector0}
use Rattle.bow_ranges.proofs.RunReads.{run_found}
use Rattle.bow_ranges.proofs.reads.run_in.Goals as goal

pub returns : goal.returns
returns c = run_found c.args.runs.now c.count_within-place.result (record { end = 0; kind = Sector0 }) c.args.block c.start_of-first.result _ c.requires.normal c.count_within-place.ensures c.requires.inside c.start_of-first.ensures refl
