use Rattle.bow_history.proofs.Quiet.{quiet_runs_succeed, ends_led}
use Rattle.bow_history.proofs.laws.quiet_law.Goals as goal

pub returns-clause-succeed : goal.returns-clause-succeed
returns-clause-succeed c = quiet_runs_succeed

pub returns-clause-led : goal.returns-clause-led
returns-clause-led c = ends_led
