use Rattle.std.proofs.Common.{◌≡◌, length, rules, ◌∙◌, ap}
use Rattle.bow_session.proofs.Filled.{begun}
use Rattle.bow_session.proofs.Lists.{refilled}
use Rattle.bow_session.proofs.payloads.begun_with.Goals as goal

pub returns : goal.returns
returns c =
    let old = c.buffer.inside.bytes.items in
    let len : c.buffer.inside.bytes.len ≡ length old = search rules in
    let same : length c.put_front.new.bytes ≡ length old = c.put_front.ensures.len ∙ ap length c.deref_mut.ensures.value in
    c.new.ensures ∙ begun c.args.text.now c.args.buffer c.put_front.new.bytes _ c.clear_from.new.bytes.items (refilled c.buffer.inside.bytes.len c.put_front.new.bytes old same len)
    (same ∙ ap length c.buffer.view_is) c.put_front.ensures.front c.clear_from.ensures
