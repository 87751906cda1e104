use Rattle.std.proofs.Common.{length, ap, ◌∙◌}
use Rattle.std.proofs.lemmas.List.{length-replicate}
use Rattle.bow_units.specs.declared.statuses.Kind.TheVariants.{Unchanged}
use Rattle.bow_queue.specs.Requests.{Requests}
use Rattle.bow_core.proofs.Saved.{fresh_saved}
use Rattle.bow_core.proofs.state.State.open.Goals as goal

pub invariant_of-result : goal.invariant_of-result
invariant_of-result g c =
    let table = g.R.Ranges.kinds c.in_ok-table.table in
    record {
      valid = c.requires.valid;
      whole = c.set.ensures.blocks ∙ ap (λ l. length l) c.in_ok-table.ensures ∙ length-replicate c.args.geometry.blocks Unchanged;
      blocks = ap (λ (q : Requests). q.blocks) c.in_ok-queue.ensures.empty;
      eight = c.in_ok-buffer.ensures;
      one = c.in_ok-block.ensures;
      log = tt;
      saved = fresh_saved c.args.geometry.blocks table (g.R.Ranges.kinds c.set.new.self) c.run.result c.run-2.result c.in_ok-table.ensures c.set.ensures.set c.run.ensures.first c.run.ensures.count c.run-2.ensures.first c.run-2.ensures.count c.requires.valid.enough;
    }
