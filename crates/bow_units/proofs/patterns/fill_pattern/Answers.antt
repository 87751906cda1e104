use Rattle.std.proofs.Common.{◌≡◌, ◌+◌, ◌*◌, ◌/◌, length, take, ap, sym, ◌∙◌, arith}
use Rattle.byteorder.specs.Endian.{little_bytes}
use Rattle.bow_units.specs.Pattern.{pattern}
use Rattle.bow_units.proofs.PatternGroups.{HasGroups, groups, has_groups, written, all_stand}
use Rattle.bow_units.proofs.patterns.fill_pattern.Goals as goal

pub loop-group-preserved : goal.loop-group-preserved
loop-group-preserved c =
    written c.args.block c.args.seed c.loop-group.group c.loop-group.into c.write_group.new.into (little_bytes 8 (c.first_number-first.result + c.loop-group.group)) c.loop-group.invariant
    (ap (λ n. little_bytes 8 (n + c.loop-group.group)) c.first_number-first.ensures) c.write_group.ensures

pub returns : goal.returns
returns c =
    let long = c.loop-group.auto.into in
    let has : HasGroups (length c.loop-group.into) = rw long (has_groups (length c.args.into.now) c.requires.size) in
    let done : c.loop-group.group ≡ length c.loop-group.into / 8 = omega (arith, long, c.loop-group-test.false, c.loop-group.auto.group-end) in
    let stand : take (length c.loop-group.into / 8 * 8) c.loop-group.into ≡ groups c.args.block c.args.seed (length c.loop-group.into / 8) =
    ap (λ n. take (n * 8) c.loop-group.into) (sym done) ∙ c.loop-group.invariant ∙ ap (groups c.args.block c.args.seed) done in
    all_stand c.args.block c.args.seed c.loop-group.into has stand ∙ ap (pattern c.args.block c.args.seed) long
