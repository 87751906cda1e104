use Rattle.std.proofs.Common.{◌∙◌, sym, ap}
use Rattle.bow_chain.specs.Faults.{fields_fault}
use Rattle.bow_chain.proofs.FieldsAt.{refused, not_refused, behind_read}
use Rattle.bow_chain.proofs.loading.log_at.Goals as goal

pub returns-then-is_refused-clause-fields : goal.returns-then-is_refused-clause-fields
returns-then-is_refused-clause-fields c image above left at is =
    c.fault_at.ensures.fault c.args.geometry image above left at (ap (fields_fault c.args.geometry c.args.depth) is ∙ refused c.args.geometry c.args.depth c.args.block.now (sym c.is_refused.ensures ∙ c.if-is_refused.true))

pub returns-in-Ok-clause-fields : goal.returns-in-Ok-clause-fields
returns-in-Ok-clause-fields c image above left at is =
    behind_read c.args.geometry image above c.args.depth c.args.block.now c.read_log.new.into (sym c.is_refused.ensures ∙ c.if-is_refused.false) c.in-Ok.ensures.exact c.in-Ok.ensures.read at is

pub returns-in-Err-clause-fields : goal.returns-in-Err-clause-fields
returns-in-Err-clause-fields c image above left at is =
    c.fault_at-in-Err.ensures.fault c.args.geometry image above left at
    (ap (fields_fault c.args.geometry c.args.depth) is ∙ not_refused c.args.geometry c.args.depth c.args.block.now (sym c.is_refused.ensures ∙ c.if-is_refused.false) ∙ c.in-Err.ensures.exact)

pub returns-in-Err-clause-magic : goal.returns-in-Err-clause-magic
returns-in-Err-clause-magic c zeroth = c.fault_at-in-Err.ensures.magic c.args.block.now zeroth c.in-Err.ensures.plain
