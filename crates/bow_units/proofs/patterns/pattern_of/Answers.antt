use Rattle.std.proofs.Common.{◌/◌, ◌%◌, length, sym, ap, ◌∙◌, arith}
use Rattle.std.proofs.lemmas.Bool.{iff_false}
use Rattle.bow_units.proofs.PatternGroups.{has_groups, parts_of}
use Rattle.bow_units.proofs.patterns.pattern_of.Goals as goal

pub returns-then-block-ge1048576-clause-none : goal.returns-then-block-ge1048576-clause-none
returns-then-block-ge1048576-clause-none c b s is =
    let found = parts_of b s c.args.bytes.now (has_groups (length c.args.bytes.now) c.requires) is in
    omega (arith, ap (λ x. x % 4294967296 / 512) c.read_u64-number.ensures, found.block, is.block, c.if-block-ge1048576.true)

pub returns-then-is_pattern-clause-one : goal.returns-then-is_pattern-clause-one
returns-then-is_pattern-clause-one c b s is =
    let found = parts_of b s c.args.bytes.now (has_groups (length c.args.bytes.now) c.requires) is in
    (sym found.block ∙ ap (λ x. x % 4294967296 / 512) (sym c.read_u64-number.ensures), sym found.seed ∙ ap (λ x. x / 4294967296) (sym c.read_u64-number.ensures))

pub returns-else-is_pattern-clause-none : goal.returns-else-is_pattern-clause-none
returns-else-is_pattern-clause-none c b s is =
    let found = parts_of b s c.args.bytes.now (has_groups (length c.args.bytes.now) c.requires) is in
    let number = c.read_u64-number.ensures in
    iff_false c.is_pattern.ensures c.if-is_pattern.false (rw (number, found.block, found.seed) is.same)
