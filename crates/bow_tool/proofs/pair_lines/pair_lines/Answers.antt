use Rattle.std.proofs.Common.{ℕ, [], refl}
use Rattle.bow_tool.specs.PairLines.{device_text, devices_text}
use Rattle.bow_tool.proofs.Spelling.{turn_next}
use Rattle.bow_tool.proofs.pair_lines.pair_lines.Goals as goal

pub loop-device-preserved : goal.loop-device-preserved
loop-device-preserved g c =
    let first = c.args.pair.now.openings in
    let second = c.args.pair.now.laters in
    turn_next (λ (count : ℕ). devices_text count first second) (λ (device : ℕ). device_text device first second) (λ device. refl) []
    c.loop-device.text.items c.push_device.new.text.items c.loop-device.device c.loop-device.invariant c.in_ok-push_device.ensures
