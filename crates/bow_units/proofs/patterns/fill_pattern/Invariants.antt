use Rattle.std.proofs.Common.{◌≡◌, ◌*◌, take}
use Rattle.bow_units.proofs.PatternGroups.{groups}
use Rattle.bow_units.proofs.patterns.fill_pattern.Given as goal

abbrev pub invariant-loop-group : goal.invariant-loop-group
invariant-loop-group l = take (l.group * 8) l.into ≡ groups l.block l.seed l.group
