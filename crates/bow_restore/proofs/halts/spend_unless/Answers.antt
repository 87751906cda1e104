use Rattle.std.proofs.Common.{if◌then◌else◌, sym, ap, ◌∙◌, subst}
use Rattle.bow_restore.specs.Limits.{GoesOn, spent}
use Rattle.bow_restore.proofs.Limits.{goes_none, spent_none}
use Rattle.bow_restore.proofs.halts.spend_unless.Goals as goal

pub returns-then-is_last-clause-going : goal.returns-then-is_last-clause-going
returns-then-is_last-clause-going c = subst (λ t. GoesOn c.args.left.now (if t then 0 else 1)) (sym c.if-is_last.true) (goes_none c.args.left.now c.requires)

pub returns-then-is_last-clause-rest : goal.returns-then-is_last-clause-rest
returns-then-is_last-clause-rest c = spent_none c.args.left.now ∙ ap (λ t. spent c.args.left.now (if t then 0 else 1)) (sym c.if-is_last.true)
