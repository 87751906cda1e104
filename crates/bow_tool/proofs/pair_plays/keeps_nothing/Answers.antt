use Rattle.std.proofs.Common.{◌≡◌, Err, false, subst}
use Rattle.vold_meta.specs.Decisions.{ReadsDecision}
use Rattle.vold_meta.specs.declared.decisions.DecisionFault.{DecisionFault}
use Rattle.vold_meta.specs.declared.decisions.DecisionFault.TheVariants.{BadDecision}
use Rattle.bow_pair.proofs.Booting.{goes_on}
use Rattle.bow_tool.proofs.pair_plays.keeps_nothing.Goals as goal

pub returns-in-Err-BadDecision-clause-cause : goal.returns-in-Err-BadDecision-clause-cause
returns-in-Err-BadDecision-clause-cause g c kept was none =
    let K = g.K.Keeper in
    let fault = c.in-Err-BadDecision.field-0 in
    let on = goes_on (λ old new. (new ≡ old) × ReadsDecision old (Err fault)) (K.kept c.args.keeper.now) (K.kept c.read_decision.new.keeper) kept was c.in-Err-BadDecision.ensures.reads in
    let reads : ReadsDecision kept (Err BadDecision) = subst (λ (f : DecisionFault). ReadsDecision kept (Err f)) c.in-Err-BadDecision.field-0-is on.2.1 in
    reads false none
