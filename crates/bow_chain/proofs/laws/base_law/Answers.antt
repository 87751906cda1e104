use Rattle.bow_chain.proofs.Bases.{bases_are_on, kept_at_bases, logs_fit}
use Rattle.bow_chain.proofs.laws.base_law.Goals as goal

pub returns-clause-on : goal.returns-clause-on
returns-clause-on c = bases_are_on

pub returns-clause-kept : goal.returns-clause-kept
returns-clause-kept c = kept_at_bases

pub returns-clause-fit : goal.returns-clause-fit
returns-clause-fit c = logs_fit
