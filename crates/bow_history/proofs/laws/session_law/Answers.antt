use Rattle.bow_history.proofs.Sessions.{loaded_is_session, turns_keep_session, sessions_are_legal}
use Rattle.bow_history.proofs.laws.session_law.Goals as goal

pub returns-clause-loaded : goal.returns-clause-loaded
returns-clause-loaded c = loaded_is_session

pub returns-clause-turns : goal.returns-clause-turns
returns-clause-turns c = turns_keep_session

pub returns-clause-legal : goal.returns-clause-legal
returns-clause-legal c = sessions_are_legal
