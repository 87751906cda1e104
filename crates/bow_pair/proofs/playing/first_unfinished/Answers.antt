use Rattle.std.proofs.Common.{◌≡◌, Some, length, refl, arith, sym, ap, ◌∙◌, subst}
use Rattle.std.specs.Prelude.{slice_get}
use native.Mathlib.Decide.{ℕ_discrete}
use Rattle.std.proofs.lemmas.Bool.{false≢true}
use Rattle.std.proofs.lemmas.Option.{slice_get_read}
use Rattle.bow_session.specs.Sessions.{IsOver}
use Rattle.bow_pair.proofs.Stages.{some_is}
use Rattle.bow_pair.proofs.playing.first_unfinished.Given.{Over}
use Rattle.bow_pair.proofs.playing.first_unfinished.Goals as goal
use Rattle.bow_pair.proofs.playing.first_unfinished.Goals.{After-over}

module _ (g : Over) where
  here : (c : After-over g) → slice_get c.args.sessions.now c.loop-device.device ≡ Some c.index-sessions-device.result
  here c = slice_get_read c.args.sessions.now (length c.args.sessions.now) c.loop-device.device c.index-sessions-device.result refl (let below = c.loop-device-test.true in let on = c.requires.on in omega (arith, below, on)) c.index-sessions-device.is

pub returns-then-not-over-clause-unfinished : goal.returns-then-not-over-clause-unfinished
returns-then-not-over-clause-unfinished g c s at over =
    let q = (goal.at.returns-then-not-over-clause-unfinished g c).After-over in
    false≢true (c.if-not-over.ensures.over.1 (subst IsOver (some_is s c.index-sessions-device.result (sym at ∙ here g q)) over))

pub loop-device-preserved : goal.loop-device-preserved
loop-device-preserved g c k s from below at =
    let q = (goal.at.loop-device-preserved g c).After-over in
    elim (ℕ_discrete k c.loop-device.device) [
      | no other ↦ c.loop-device.invariant k s from (omega (arith, below, other)) at
      | yes same ↦ subst IsOver (some_is c.index-sessions-device.result s (sym (here g q) ∙ ap (slice_get c.args.sessions.now) (sym same) ∙ at)) (c.if-not-over.ensures.over.0 refl)
    ]

pub returns-clause-none : goal.returns-clause-none
returns-clause-none g c none k s from to at = c.loop-device.invariant k s from (let past = c.loop-device-test.false in omega (arith, past, to)) at
