use Rattle.std.proofs.Common.{◌≡◌, ◌+◌, ◌-◌, ◌*◌, ◌∙◌, ap, arith, drop, sym, take}
use Rattle.bow_tool.proofs.Patterns.{same_bytes}
use Rattle.bow_tool.proofs.drill_lines.is_pattern.Goals as goal

pub returns : goal.returns
returns c holds =
    let at = c.args.number * 512 in
    let image = c.args.image.now in
    let size : at + 512 - at ≡ 512 = omega arith in
    same_bytes (take (at + 512 - at) (drop at image)) c.as_slice.result.now c.eq.result c.eq.ensures (ap (λ n. take n (drop at image)) size ∙ holds ∙ sym (c.as_slice.ensures ∙ c.fill_pattern.ensures))
