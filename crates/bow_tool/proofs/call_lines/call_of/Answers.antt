use Rattle.std.proofs.Common.{List, refl, sym, subst}
use Rattle.std.specs.Prelude.{option_copied, None, Some}
use Rattle.bow_receipts.specs.declared.asks.Call.{Call}
use Rattle.bow_tool.specs.CallLines.{IsCallIn}
use Rattle.bow_tool.proofs.Spelling.{call_found, call_in_front, in_rest}
use Rattle.bow_tool.proofs.call_lines.call_of.Goals as goal

pub returns-in-Some : goal.returns-in-Some
returns-in-Some c =
    let calls = c.args.calls.now in
    let call = c.in-Some.call.now in
    let found = subst (λ (xs : List Call). IsCallIn xs c.args.lane c.args.number call) c.split_at.ensures.back (c.in-Some.ensures.found call refl) in
    sym (call_found calls c.args.lane c.args.number call c.requires (in_rest calls c.min.result c.args.lane c.args.number call found))

pub returns-in-None : goal.returns-in-None
returns-in-None c =
    let calls = c.args.calls.now in
    let found = c.seek-in-None.ensures in
    call_in_front calls c.min.result c.args.lane c.args.number (option_copied c.seek-in-None.result) c.requires
    (λ call is. subst (λ (xs : List Call). IsCallIn xs c.args.lane c.args.number call) c.split_at.ensures.front (found.found call is))
    (λ none call is. found.none none call (subst (λ (xs : List Call). IsCallIn xs c.args.lane c.args.number call) (sym c.split_at.ensures.front) is))
    (λ call is. c.in-None.ensures.none refl call (subst (λ (xs : List Call). IsCallIn xs c.args.lane c.args.number call) (sym c.split_at.ensures.back) is))
