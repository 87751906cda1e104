use Rattle.std.proofs.Common.{List, ℕ, sym, subst}
use Rattle.bow_units.specs.declared.sizes.Extent.{Extent}
use Rattle.bow_machine.specs.MemoryIsSound.{IsTransfer}
use Rattle.bow_script.specs.declared.scripts.Line.{Line}
use Rattle.bow_session.specs.Buffers.{IsAskable}
use Rattle.bow_session.specs.Requests.{request_of, written}
use Rattle.bow_session.proofs.Loads.{askable}
use Rattle.bow_receipts.proofs.ops.op_of.Goals as goal

pub returns-in_ok-buffer-in-Write-clause-whole : goal.returns-in_ok-buffer-in-Write-clause-whole
returns-in_ok-buffer-in-Write-clause-whole c =
    let size = c.args.geometry.block_size in
    let w = c.in-Write in
    let asked : IsTransfer c.args.geometry (record { first = w.first; count = w.count }) (written size w.first w.count w.seed) =
    subst (λ (l : Line). IsAskable c.args.geometry (request_of size l)) w.is (askable c.args.geometry c.args.line.now c.requires.valid c.requires.numbers) in
    subst (λ (e : Extent). IsTransfer c.args.geometry e c.patterned-payload.result) (sym c.extent.ensures)
    (subst (λ (p : List ℕ). IsTransfer c.args.geometry (record { first = w.first; count = w.count }) p) (sym c.patterned-payload.ensures) asked)
