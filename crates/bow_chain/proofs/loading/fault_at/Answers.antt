use Rattle.std.proofs.Common.{sym, ap, ◌∙◌, Some}
use Rattle.bow_chain.proofs.FieldsAt.{no_log}
use Rattle.bow_chain.proofs.loading.fault_at.Goals as goal
use Rattle.bow_chain.proofs.loading.fault_at.Goals.{in-NoMagic, in_default}

pub returns-then-matches-clause-fault : goal.returns-then-matches-clause-fault
returns-then-matches-clause-fault c g image above left at is = elim c.match-matches.branch [
  | in-NoMagic w ↦ no_log g image above left c.args.depth at c.if-depth-eq0.true (is ∙ ap Some (w.in-NoMagic).is)
  | in_default w ↦ absurd (cc (sym w.matches-is ∙ c.if-matches.true))
]
