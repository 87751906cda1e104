use Rattle.std.proofs.Common.{◌≡◌, Some, None, ◌∙◌, sym, ap}
use Rattle.bow_receipts.specs.Hands.{hand_at, ticket_in}
use Rattle.bow_receipts.proofs.Lists.{index_any}
use Rattle.bow_receipts.proofs.service.Service.next_turn.Goals as goal

pub returns-then-ready : goal.returns-then-ready
returns-then-ready g c =
    let hands = c.args.self.now.hands.items in
    let e : hand_at hands c.args.lane ≡ Some c.in-Some.hand =
    index_any hands c.args.lane None c.index.result.now c.requires ∙ sym c.index.ensures ∙ c.in-Some.is in
    (c.args.lane, ap ticket_in e)
