use Rattle.std.proofs.Common.{◌≡◌, ◌+◌, ◌-◌, ◌*◌, ◌/◌, length, take, drop, refl, ap, sym, ◌∙◌, arith}
use Rattle.byteorder.specs.Endian.{little_bytes}
use Rattle.bow_units.specs.Pattern.{pattern_group}
use Rattle.bow_units.proofs.PatternGroups.{HasGroups, groups, has_groups, agreed, all_stand, group_at, same_bytes, other_bytes}
use Rattle.std.proofs.lemmas.Bool.{false≢true}
use Rattle.bow_units.proofs.patterns.is_pattern.Goals as goal

pub returns-then-ne : goal.returns-then-ne
returns-then-ne c =
    let k = c.loop-group.group in
    let wanted : c.as_slice.result.now ≡ pattern_group c.args.block c.args.seed k = c.as_slice.ensures ∙ c.to_le_bytes-wanted.ensures ∙ ap (λ n. little_bytes 8 (n + k)) c.first_number-first.ensures in
    let eight : k * 8 + 8 - k * 8 ≡ 8 = omega arith in (
      λ no. absurd (false≢true no),
      λ is. absurd (other_bytes (take (k * 8 + 8 - k * 8) (drop (k * 8) c.args.bytes.now)) c.as_slice.result.now c.ne.result c.ne.ensures c.if-ne.true
          (ap (λ n. take n (drop (k * 8) c.args.bytes.now)) eight ∙ group_at c.args.block c.args.seed k c.args.bytes.now is (omega (arith, c.loop-group-test.true)) ∙ sym wanted)),
    )

pub loop-group-preserved : goal.loop-group-preserved
loop-group-preserved c =
    let k = c.loop-group.group in
    let wanted : c.as_slice.result.now ≡ pattern_group c.args.block c.args.seed k = c.as_slice.ensures ∙ c.to_le_bytes-wanted.ensures ∙ ap (λ n. little_bytes 8 (n + k)) c.first_number-first.ensures in
    let eight : 8 ≡ k * 8 + 8 - k * 8 = omega arith in
    agreed c.args.block c.args.seed k c.args.bytes.now c.loop-group.invariant
    (ap (λ n. take n (drop (k * 8) c.args.bytes.now)) eight ∙ same_bytes (take (k * 8 + 8 - k * 8) (drop (k * 8) c.args.bytes.now)) c.as_slice.result.now c.ne.result c.ne.ensures c.if-ne.false ∙ wanted)

pub returns : goal.returns
returns c =
    let has : HasGroups (length c.args.bytes.now) = has_groups (length c.args.bytes.now) c.requires.size in
    let done : c.loop-group.group ≡ length c.args.bytes.now / 8 = omega (arith, c.loop-group-test.false, c.loop-group.auto.group-end) in
    let stand : take (length c.args.bytes.now / 8 * 8) c.args.bytes.now ≡ groups c.args.block c.args.seed (length c.args.bytes.now / 8) =
    ap (λ n. take (n * 8) c.args.bytes.now) (sym done) ∙ c.loop-group.invariant ∙ ap (groups c.args.block c.args.seed) done in
    ((λ _. all_stand c.args.block c.args.seed c.args.bytes.now has stand), (λ _. refl))
