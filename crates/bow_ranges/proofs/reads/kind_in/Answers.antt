use Rattle.std.proofs.Common.{sym}
use Rattle.bow_units.specs.declared.statuses.Kind.TheVariants.{Sector0}
use Rattle.bow_ranges.proofs.RunReads.{kind_found}
use Rattle.bow_ranges.proofs.reads.kind_in.Goals as goal

pub returns : goal.returns
returns c = sym (kind_found c.args.runs.now c.count_within-place.result (record { end = 0; kind = Sector0 }) c.args.block c.requires.normal c.count_within-place.ensures c.requires.inside)
