use Rattle.bow_guard.proofs.Proved.{cuts_keep, kept_at_safe_places, safe_is_not_loose}
use Rattle.bow_guard.proofs.laws.guard_law.Goals as goal

pub returns-clause-cuts : goal.returns-clause-cuts
returns-clause-cuts c = cuts_keep

pub returns-clause-safe : goal.returns-clause-safe
returns-clause-safe c = kept_at_safe_places

pub returns-clause-not_loose : goal.returns-clause-not_loose
returns-clause-not_loose c = safe_is_not_loose
