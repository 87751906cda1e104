use Rattle.bow_status.proofs.LawsHold.{equal_versions, seen_sent}
use Rattle.bow_status.proofs.laws.rule_laws.Goals as goal

pub returns-clause-equal : goal.returns-clause-equal
returns-clause-equal c x views r = equal_versions x views r

pub returns-clause-sent : goal.returns-clause-sent
returns-clause-sent c x views r = seen_sent x views r
