use Rattle.std.proofs.Common.{◌≡◌, ◌+◌, ◌≤◌, length}
use Rattle.std.specs.Prelude.{vec_capacity}
use Rattle.bow_pair.specs.Playing.{AreLoaded, part_for}
use Rattle.bow_pair.proofs.playing.load_each.Given as goal

abbrev pub invariant-loop-device : goal.invariant-loop-device
invariant-loop-device g l = record {
  loaded : AreLoaded g.D.Disk.stated g.D.Disk.content g.D.Disk.moment g.D.Disk.left_since g.D.Disk.faults (λ device. part_for l.round device (length l.fn.cores.items) l.script) l.fn.cores.items l.cores.items l.sessions.items;
  so_many : length l.sessions.items ≡ l.device;
  count : l.count ≡ length l.fn.cores.items;
  less : length l.cores.items + l.device ≡ length l.fn.cores.items;
  back : vec_capacity l.fn.cores ≤ vec_capacity l.cores;
  room : vec_capacity l.sessions ≡ vec_capacity l.fn.sessions;
}
