use Rattle.std.proofs.Common.{◌≡◌, ◌++◌}
use Rattle.std.specs.Prelude.{vec_capacity}
use Rattle.bow_pair.proofs.joining.put_onto.Given as goal

abbrev pub invariant-loop-disk : goal.invariant-loop-disk
invariant-loop-disk g l = record {
  split : l.yielded ++ l.disk-iterator.rest.items ≡ l.fn.rest.items;
  put : l.disks.items ≡ l.fn.disks.items ++ l.yielded;
  room : vec_capacity l.disks ≡ vec_capacity l.fn.disks;
}
