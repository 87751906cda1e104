use Rattle.std.proofs.Common.{rules, ◌≡◌, ◌≢◌, ◌<◌, length, get_or, sym, ap, ◌∙◌, arith, add-one}
use Rattle.bow_units.specs.declared.statuses.Kind.TheVariants.{Sector0, Free}
use Rattle.bow_ranges.specs.declared.runs.Run.{Run}
use Rattle.bow_ranges.specs.Kinds.{is_free}
use Rattle.bow_ranges.proofs.RunReads.{normal_step}
use Rattle.bow_ranges.proofs.RunPicks.{found_in, free_step_parts, other_step_parts, goes_by, not_free}
use Rattle.bow_ranges.proofs.reads.pick_from.Goals.{then-eq+else-want-next, else-eq}
use Rattle.bow_ranges.proofs.reads.pick_from.Goals as goal

pub loop-run-preserved : goal.loop-run-preserved
loop-run-preserved c =
    let d : Run = record { end = 0; kind = Sector0 } in
    let inside : c.loop-run.run-index < length c.args.runs.now = omega arith in
    let step = normal_step c.loop-run.start c.args.runs.now c.loop-run.run-index d inside c.loop-run.invariant.normal in
    record {
      normal = rw add-one step.1;
      told = rw add-one (elim c.if-eq.branch [
        | then-eq+else-want-next w ↦
            let same : (get_or c.args.runs.now c.loop-run.run-index d).kind ≡ Free = search rules in
            let parts = free_step_parts c.loop-run.start c.args.runs.now c.loop-run.run-index d inside (ap is_free same) in
            rw (w.best-is, w.longer.ensures) (sym (ap (found_in c.args.want c.loop-run.best) parts ∙ goes_by c.args.want c.loop-run.best _ _ (omega arith)) ∙ c.loop-run.invariant.told)
        | else-eq w ↦
            let other : (get_or c.args.runs.now c.loop-run.run-index d).kind ≢ Free = search rules in
            let parts = other_step_parts c.loop-run.start c.args.runs.now c.loop-run.run-index d inside (not_free (get_or c.args.runs.now c.loop-run.run-index d).kind other) in
            rw w.best-is (sym (ap (found_in c.args.want c.loop-run.best) parts) ∙ c.loop-run.invariant.told)
      ]);
    }
