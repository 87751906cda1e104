use Rattle.bow_history.proofs.Buffers.{own_buffers_agree}
use Rattle.bow_history.proofs.Runs.{beginning_is_at, runs_are_legal, end_stands}
use Rattle.bow_history.proofs.laws.legal_law.Goals as goal

pub returns-clause-beginning : goal.returns-clause-beginning
returns-clause-beginning c = beginning_is_at

pub returns-clause-runs : goal.returns-clause-runs
returns-clause-runs c = runs_are_legal

pub returns-clause-end : goal.returns-clause-end
returns-clause-end c = end_stands

pub returns-clause-buffers : goal.returns-clause-buffers
returns-clause-buffers c = own_buffers_agree
