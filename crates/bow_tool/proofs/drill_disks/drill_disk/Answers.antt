use Rattle.std.proofs.Common.{◌∙◌, ap, arith}
use Rattle.bow_units.specs.Pattern.{pattern}
use Rattle.bow_tool.proofs.Patterns.{drill_bytes, drill_disk_made, pattern_bytes, pattern_bytes_more}
use Rattle.bow_tool.proofs.drill_disks.drill_disk.Goals as goal

pub loop-number-init : goal.loop-number-init
unfolding pattern_bytes
loop-number-init c = c.in_ok-image.ensures.items

pub loop-number-preserved : goal.loop-number-preserved
loop-number-preserved c =
    c.in_ok-extend_from_slice.ensures.items
    ∙ pattern_bytes_more c.loop-number.number c.loop-number.image.items _ c.loop-number.invariant (c.fill_pattern.ensures ∙ ap (pattern c.loop-number.number 0) c.loop-number-test.array_long)

pub disk_on-requires : goal.disk_on-requires
disk_on-requires c = drill_bytes c.loop-number.number c.loop-number.image.items (omega (arith, c.loop-number-test.false, c.loop-number.auto.number-end)) c.loop-number.invariant

pub returns : goal.returns
returns c = drill_disk_made c.disk_on.result c.loop-number.number c.loop-number.image.items (omega (arith, c.loop-number-test.false, c.loop-number.auto.number-end)) c.loop-number.invariant c.disk_on.ensures.fresh
