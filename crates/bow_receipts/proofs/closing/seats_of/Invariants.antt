use Rattle.std.proofs.Common.{◌≡◌, ◌+◌, ◌≤◌, ◌++◌, length}
use Rattle.std.specs.Prelude.{vec_capacity}
use Rattle.bow_receipts.specs.Passes.{AreSeats}
use Rattle.bow_receipts.proofs.closing.seats_of.Given as goal

abbrev pub invariant-loop-pass : goal.invariant-loop-pass
invariant-loop-pass g l = record {
  split : l.yielded ++ l.pass-iterator.rest.items ≡ l.fn.passes.items;
  room : length l.seats.items + length l.pass-iterator.rest.items ≤ vec_capacity l.seats;
  seats : AreSeats g.J.Naming.table g.J.Naming.sizes.block_size g.J.Naming.callers g.J.Naming.allowed g.J.Naming.section l.yielded l.seats.items;
}
