use Rattle.std.proofs.Common.{◌≡◌, length}
use Rattle.std.specs.List.{AllByRecursion as Each}
use Rattle.bow_past.proofs.readers.buffers.Given as goal

abbrev pub invariant-loop : goal.invariant-loop
invariant-loop l = (length l.buffers.items ≡ l.counter) × Each (λ bytes. length bytes ≡ l.size) l.buffers.items
