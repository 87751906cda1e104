use Rattle.std.proofs.Common.{◌≡◌, Some, length, refl, arith}
use Rattle.std.specs.Prelude.{slice_get}
use Rattle.std.proofs.lemmas.Bool.{false≢true}
use Rattle.std.proofs.lemmas.Option.{slice_get_read}
use Rattle.bow_pair.specs.Playing.{EndsPrepared}
use Rattle.bow_pair.proofs.Firsts.{first_not, one_more_holds}
use Rattle.bow_pair.proofs.accounts.first_unprepared.Goals as goal
use Rattle.bow_pair.proofs.accounts.first_unprepared.Goals.{After-ends_prepared}

account_here : (c : After-ends_prepared) → slice_get c.args.accounts.now c.loop-device.device ≡ Some c.index-accounts-device.result
account_here c = slice_get_read c.args.accounts.now (length c.args.accounts.now) c.loop-device.device c.index-accounts-device.result refl c.loop-device-test.true c.index-accounts-device.is

pub returns-then-not-ends_prepared-clause-some : goal.returns-then-not-ends_prepared-clause-some
returns-then-not-ends_prepared-clause-some c =
    first_not EndsPrepared c.args.accounts.now c.loop-device.device c.index-accounts-device.result (account_here (goal.at.returns-then-not-ends_prepared-clause-some c).After-ends_prepared) c.loop-device.invariant (λ p. false≢true (c.if-not-ends_prepared.ensures.1 p))

pub loop-device-preserved : goal.loop-device-preserved
loop-device-preserved c =
    one_more_holds EndsPrepared c.args.accounts.now c.loop-device.device c.index-accounts-device.result (account_here (goal.at.loop-device-preserved c).After-ends_prepared) c.loop-device.invariant (c.if-not-ends_prepared.ensures.0 refl)

pub returns-clause-none : goal.returns-clause-none
returns-clause-none c none k a low is = c.loop-device.invariant k a (let past = c.loop-device-test.false in omega (arith, past, low)) is
