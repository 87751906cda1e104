use Rattle.std.proofs.Common.{◌≡◌, Some, sym, ap, ◌∙◌, subst}
use Rattle.std.specs.Prelude.{slice_get}
use Rattle.bow_units.specs.declared.sizes.Geometry.{Geometry}
use Rattle.bow_history.specs.Sessions.{IsFor}
use Rattle.bow_session.specs.Requests.{lane_lines, request_of}
use Rattle.bow_session.proofs.Loads.{line_fits}
use Rattle.bow_receipts.specs.Asking.{blank}
use Rattle.bow_receipts.proofs.Calling.{goes_called}
use Rattle.bow_receipts.proofs.callers.call_next.Goals as goal

pub op_of-requires-clause-numbers : goal.op_of-requires-clause-numbers
op_of-requires-clause-numbers g c = line_fits c.args.script.now c.lane-lane.result c.made-number.result c.in-Some.line.now c.requires.numbers (sym c.in-Some.ensures)

pub returns : goal.returns
returns g c =
    let p = c.args.pass.now in
    let line = c.in-Some.line.now in
    let at : slice_get (lane_lines c.args.script.now p.lane) p.made ≡ Some line =
    ap (λ l. slice_get (lane_lines c.args.script.now l) p.made) (sym c.lane-lane.ensures.is) ∙ ap (slice_get (lane_lines c.args.script.now c.lane-lane.result)) (sym c.made-number.ensures.is) ∙ sym c.in-Some.ensures in
    let for : IsFor g.J.Naming.sizes (request_of g.J.Naming.sizes.block_size line) (blank c.in-Ok.op) =
    subst (λ (z : Geometry). IsFor z (request_of z.block_size line) (blank c.in-Ok.op)) c.requires.sizes.0 c.in-Ok.ensures.for_it in
    goes_called g.J.Naming.sizes c.args.script.now (λ e. e.0 ≡ c.in-Ok.op) p c.call.new.pass (blank c.in-Ok.op) line c.call.result c.call.ensures.answered c.call.ensures.back (c.made-number.ensures.got ∙ c.made-number.ensures.is) at for
