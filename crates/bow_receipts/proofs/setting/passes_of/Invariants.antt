use Rattle.std.proofs.Common.{◌≡◌, ◌+◌, ◌++◌, length}
use Rattle.bow_tags.specs.Seats.{Numbered}
use Rattle.bow_receipts.specs.Openings.{IsNewPass, opened}
use Rattle.bow_receipts.proofs.setting.passes_of.Given as goal

abbrev pub invariant-loop-seat : goal.invariant-loop-seat
invariant-loop-seat g l = record {
  split : l.yielded ++ l.seat-iterator.rest.items ≡ l.fn.seats.items;
  count : length l.yielded + length l.seat-iterator.rest.items ≡ length l.fn.seats.items;
  many : length l.passes.items ≡ length l.yielded;
  each : Numbered (IsNewPass (opened l.fn.full g.J.Naming.allowed)) l.passes.items;
}
