use Rattle.std.proofs.Common.{◌≡◌, ◌∙◌, Some, sym, ap}
use Rattle.std.specs.Prelude.{slice_get}
use Rattle.bow_session.specs.Contents.{content_in}
use Rattle.bow_receipts.specs.Asking.{given_of}
use Rattle.bow_receipts.specs.Closing.{entries_of, plan_by}
use Rattle.bow_receipts.specs.Served.{entry_of}
use Rattle.bow_tool.specs.CallLines.{bytes_by}
use Rattle.bow_tool.proofs.Spelling.{content_found, whole_blocks}
use Rattle.bow_tool.proofs.call_lines.content_of.Goals as goal

pub block_of-requires-clause-whole : goal.block_of-requires-clause-whole
block_of-requires-clause-whole c =
    let calls = entries_of c.args.calls.now in
    let at : slice_get (given_of c.in-Got.lane calls) c.in-Got.number ≡ Some (entry_of c.in-Some.call.now) = sym c.in-Some.ensures in
    whole_blocks c.args.geometry.block_size calls c.in-Got.lane c.in-Got.number (entry_of c.in-Some.call.now) c.requires.blocks at

pub returns-in-Some-clause-bytes : goal.returns-in-Some-clause-bytes
returns-in-Some-clause-bytes c callers =
    let calls = entries_of c.args.calls.now in
    let at : slice_get (given_of c.in-Got.lane calls) c.in-Got.number ≡ Some (entry_of c.in-Some.call.now) = sym c.in-Some.ensures in
    c.block_of.ensures.bytes ∙ sym (content_found c.args.geometry callers calls c.in-Got.lane c.in-Got.number c.in-Got.block (entry_of c.in-Some.call.now) at)
    ∙ ap (content_in (plan_by c.args.geometry callers calls) (bytes_by calls)) (sym c.in-Got.is)
