use Rattle.bow_receipts.proofs.Calls.{calls_stand, calls_rise}
use Rattle.bow_receipts.proofs.laws.calls_law.Goals as goal

pub returns-clause-stand : goal.returns-clause-stand
returns-clause-stand c = calls_stand

pub returns-clause-rise : goal.returns-clause-rise
returns-clause-rise c = calls_rise
