use Rattle.std.proofs.Common.{sym, ap, ◌∙◌, refl, subst}
use Rattle.std.specs.List.{AllByRecursion as Each}
use Rattle.bow_log.specs.Generations.{IsEntry}
use Rattle.bow_log.specs.Spelling.{Fields}
use Rattle.bow_chain.proofs.Sectors.{log_entries}
use Rattle.bow_past.proofs.places.place_by_log.Goals as goal

pub loop-entry-init : goal.loop-entry-init
loop-entry-init c =
    let same = c.deref-entries.ensures.0 ∙ ap (λ (l : Fields). l.entries) c.log.view_is in
    record {
      on = c.requires.on;
      rest = refl;
      each = subst (Each (IsEntry c.args.geometry)) (sym same) (log_entries c.args.geometry c.args.log.now c.requires.log);
    }
