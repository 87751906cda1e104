use Rattle.std.proofs.Common.{◌≡◌, ◌++◌, map}
use Rattle.std.specs.Prelude.{vec_capacity}
use Rattle.bow_pair.proofs.joining.close_onto.Given as goal

abbrev pub invariant-loop-core : goal.invariant-loop-core
invariant-loop-core g l = record {
  split : l.yielded ++ l.core-iterator.rest.items ≡ l.fn.cores.items;
  closed : l.disks.items ≡ l.fn.disks.items ++ map (λ v. v.disk) l.yielded;
  room : vec_capacity l.disks ≡ vec_capacity l.fn.disks;
}
