use Rattle.std.proofs.Common.{◌≡◌, ◌++◌, ap, ◌∙◌}
use Rattle.std.specs.Prelude.{Option, codes, slice_get}
use Rattle.std.specs.Fmt.{decimal}
use Rattle.std.proofs.lemmas.Result.{on_ok_weaker}
use Rattle.bow_session.specs.Parts.{Account}
use Rattle.bow_tool.specs.PairLines.{told_in}
use Rattle.bow_tool.proofs.Devices.{device_told}
use Rattle.bow_tool.proofs.pair_lines.push_device.Goals as goal

pub returns : goal.returns
returns g c =
    let own = c.extend_from_slice.new.self.items in
    let once = c.push_account.new.text.items in
    let pair = c.args.pair.now in
    let line : c.as_bytes.result.now ≡ codes "device " ++ (decimal c.args.device ++ codes "\n") = c.as_bytes.ensures.value ∙ c.in_ok-line.ensures.ok in
    let first : once ≡ own ++ told_in (slice_get pair.openings c.args.device) = c.in_ok-push_account.ensures ∙ ap (λ (o : Option Account). own ++ told_in o) c.account.ensures in
    on_ok_weaker c.push_account-2.result (λ last.
    device_told c.args.device pair.openings pair.laters c.args.text.now.items c.as_bytes.result.now own once c.push_account-2.new.text.items
    line c.in_ok-extend_from_slice.ensures.items first (last ∙ ap (λ (o : Option Account). once ++ told_in o) c.account-2.ensures)) c.push_account-2.ensures
