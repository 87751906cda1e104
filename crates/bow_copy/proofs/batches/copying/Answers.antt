use Rattle.std.proofs.Common.{refl}
use Rattle.bow_copy.proofs.ActsInOrder.{read_at, write_at}
use Rattle.bow_copy.proofs.batches.copying.Goals as goal

pub returns-then-place-count : goal.returns-then-place-count
returns-then-place-count c = rw (read_at c.args.source c.args.dest c.args.count c.args.place c.if-place-count.true) (rw c.saturating_add.ensures refl)

pub returns : goal.returns
returns c = rw (write_at c.args.source c.args.dest c.args.count c.args.place c.if-place-count.false c.requires.within) (rw c.saturating_add-2.ensures refl)
