use Rattle.std.proofs.Common.{rules, None}
use Rattle.std.proofs.Math.Dec.{leb}
use Rattle.std.proofs.lemmas.List.Sorted.{IsPartitionPoint-from_clause, IsPartitionedBy-leb}
use Rattle.bow_units.specs.declared.statuses.Kind.TheVariants.{Sector0}
use Rattle.bow_ranges.specs.declared.runs.Run.{Run}
use Rattle.bow_ranges.proofs.RunEdits.{ends_rise, cut_from_point}
use Rattle.bow_ranges.proofs.runs.count_within.Goals as goal

pub returns : goal.returns
returns c =
    let parted = IsPartitionedBy-leb (λ (r : Run). r.end) c.args.runs.now c.args.at (ends_rise 0 None c.args.runs.now c.requires) in
    let point = IsPartitionPoint-from_clause (λ (r : Run). leb r.end c.args.at) _ _ c.partition_point.ensures.partitioned parted (λ a r q k. search rules) in
    cut_from_point c.args.runs.now c.args.at c.partition_point.result (record { end = 0; kind = Sector0 }) c.partition_point.ensures.bound point
