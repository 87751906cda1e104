use Rattle.std.proofs.Common.{◌≡◌, Bool, false, Some, refl, ap, ◌∙◌, subst}
use Rattle.std.specs.Prelude.{unwrap_or, Option}
use Rattle.bow_units.specs.Causes.{Rose}
use Rattle.bow_core.specs.Turns.{told_of}
use Rattle.bow_core.specs.Views.{View}
use Rattle.bow_pair.specs.Committing.{answer_in}
use Rattle.bow_pair.proofs.Commits.{answered_so, flush_answered, flush_done, flush_fault, flush_rests, flush_stands, flush_still, in_checkpoint}
use Rattle.bow_pair.proofs.committing.flush.Given.{Over}
use Rattle.bow_pair.proofs.committing.flush.Goals as goal
use Rattle.bow_pair.proofs.committing.flush.Goals.{After-unwrap_or}

pub returns-clause-rests : goal.returns-clause-rests
returns-clause-rests g c =
    let D = g.D.Disk in
    flush_rests D.stated D.content D.moment D.left_since D.faults c.args.core.now c.admit-ticket.new.self c.step-told.new.self c.admit-ticket.result c.step-told.result c.requires c.admit-ticket.ensures.waits c.step-told.ensures.step c.step-told.ensures.opened

module _ (g : Over) where
  how : (c : After-unwrap_or g) → answer_in (told_of c.step-told.result) ≡ Some c.unwrap_or.result
  how c =
      let D = g.D.Disk in
      answered_so (answer_in (told_of c.step-told.result)) c.unwrap_or.result
      (flush_answered D.stated D.content D.moment D.left_since D.faults c.args.core.now c.admit-ticket.new.self c.step-told.new.self c.admit-ticket.result c.step-told.result c.requires c.admit-ticket.ensures.waits c.step-told.ensures.step)
      (c.unwrap_or.ensures ∙ ap (λ (o : Option Bool). unwrap_or o false) c.answer_of.ensures)

pub returns-clause-flushed : goal.returns-clause-flushed
returns-clause-flushed g c yes_ f stands led =
    let D = g.D.Disk in
    let E = c.step-told.ensures in
    let done = how g c ∙ ap (λ (b : Bool). Some b) yes_ in
    record {
      stands = flush_stands D.stated D.content D.moment D.left_since D.faults c.args.core.now c.admit-ticket.new.self c.step-told.new.self c.admit-ticket.result c.step-told.result c.requires c.admit-ticket.ensures.waits f (E.leads f (c.admit-ticket.ensures.stands f stands)) done;
      forward = E.flushed f c.admit-ticket.result c.admit-ticket.result (c.admit-ticket.ensures.stands f stands) (c.admit-ticket.ensures.led f led)
          (in_checkpoint D.stated 2 c.args.core.now c.admit-ticket.new.self _ c.requires c.admit-ticket.ensures.waits) refl
          (flush_done D.stated D.content D.moment D.left_since D.faults c.args.core.now c.admit-ticket.new.self c.step-told.new.self c.admit-ticket.result c.step-told.result c.requires c.admit-ticket.ensures.waits E.step done);
    }

pub returns-clause-failed : goal.returns-clause-failed
returns-clause-failed g c no_ =
    let D = g.D.Disk in
    let E = c.step-told.ensures in
    let fault = flush_fault D.stated D.content D.moment D.left_since D.faults c.args.core.now c.admit-ticket.new.self c.step-told.new.self c.admit-ticket.result c.step-told.result c.requires c.admit-ticket.ensures.waits E.step (how g c ∙ ap (λ (b : Bool). Some b) no_) in
    subst (λ (v : View g.row.D.Denot). Rose (D.faults v.disk) (D.faults c.step-told.new.self.disk)) c.admit-ticket.ensures.waits (E.cause fault)

pub returns-clause-stands : goal.returns-clause-stands
returns-clause-stands g c no_ f stands =
    let D = g.D.Disk in
    flush_still D.stated D.content D.moment D.left_since D.faults c.args.core.now c.admit-ticket.new.self c.step-told.new.self c.admit-ticket.result c.step-told.result c.requires c.admit-ticket.ensures.waits f (c.step-told.ensures.leads f (c.admit-ticket.ensures.stands f stands)) (how g c ∙ ap (λ (b : Bool). Some b) no_)
