use Rattle.std.proofs.Common.{◌≡◌, ◌++◌, ◌∷◌, [], ◌∙◌, List, ℕ, sym, ap, append-nil}
use Rattle.std.specs.List.{flat_map}
use Rattle.std.specs.String.{string_bytes}
use Rattle.bow_receipts.specs.Asking.{given_of}
use Rattle.bow_receipts.specs.Served.{entry_of}
use Rattle.bow_tool.specs.CallLines.{receipt_line}
use Rattle.bow_tool.proofs.Spelling.{of_lane}
use Rattle.bow_tool.proofs.call_lines.push_receipt_of.Goals as goal

pub returns : goal.returns
returns c =
    let call = c.args.call.now in
    let line : string_bytes c.in_ok-line.line ≡ receipt_line (entry_of call) = c.in_ok-line.ensures.ok in
    let bytes : c.as_bytes.result.now ≡ receipt_line (entry_of call) = c.as_bytes.ensures.value ∙ line in
    let one : given_of c.args.lane (entry_of call ∷ []) ≡ entry_of call ∷ [] = of_lane c.args.lane call c.if-call-lane.false in
    let told : receipt_line (entry_of call) ≡ flat_map receipt_line (given_of c.args.lane (entry_of call ∷ [])) = sym (append-nil (receipt_line (entry_of call))) ∙ ap (flat_map receipt_line) (sym one) in
    c.in_ok-extend_from_slice.ensures.items ∙ ap (λ (xs : List ℕ). c.args.text.now.items ++ xs) (bytes ∙ told)
