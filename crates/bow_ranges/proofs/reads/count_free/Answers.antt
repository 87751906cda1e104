use Rattle.std.proofs.Common.{rules, ◌≡◌, ◌≢◌, ◌<◌, length, get_or, ap, arith, add-one}
use Rattle.bow_units.specs.declared.statuses.Kind.TheVariants.{Sector0, Free}
use Rattle.bow_ranges.specs.declared.runs.Run.{Run}
use Rattle.bow_ranges.specs.Kinds.{is_free}
use Rattle.bow_ranges.proofs.RunReads.{free_step, normal_step}
use Rattle.bow_ranges.proofs.RunPicks.{not_free}
use Rattle.bow_ranges.proofs.reads.count_free.Goals.{then-eq, else-eq}
use Rattle.bow_ranges.proofs.reads.count_free.Goals as goal

pub loop-run-preserved : goal.loop-run-preserved
loop-run-preserved c =
    let d : Run = record { end = 0; kind = Sector0 } in
    let inside : c.loop-run.run-index < length c.args.runs.now = omega arith in
    let step = normal_step c.loop-run.start c.args.runs.now c.loop-run.run-index d inside c.loop-run.invariant.normal in
    let count = free_step c.loop-run.start c.args.runs.now c.loop-run.run-index d inside in
    elim c.if-eq.branch [
      | then-eq w ↦
          let same : (get_or c.args.runs.now c.loop-run.run-index d).kind ≡ Free = search rules in
          let counted = rw (ap is_free same) at count in
          record {
            normal = rw add-one step.1;
            told = rw add-one (omega (arith, c.loop-run.invariant.told, counted, w.free-is, step.0));
            bound = omega (arith, w.free-is, step.0, c.loop-run.invariant.bound);
          }
      | else-eq w ↦
          let other : (get_or c.args.runs.now c.loop-run.run-index d).kind ≢ Free = search rules in
          let counted = rw (not_free (get_or c.args.runs.now c.loop-run.run-index d).kind other) at count in
          record {
            normal = rw add-one step.1;
            told = rw add-one (omega (arith, c.loop-run.invariant.told, counted, w.free-is, step.0));
            bound = omega (arith, w.free-is, step.0, c.loop-run.invariant.bound);
          }
    ]
