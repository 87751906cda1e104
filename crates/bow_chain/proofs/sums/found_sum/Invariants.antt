use Rattle.std.proofs.Common.{◌≡◌, ◌≤◌, ◌-◌, ◌*◌, Some, length}
use Rattle.bow_disk.specs.Disk.{Content}
use Rattle.bow_chain.specs.Contents.{contents_of, run_of}
use Rattle.bow_chain.specs.Tables.{place_in}
use Rattle.bow_chain.specs.Sound.{sum_at}
use Rattle.bow_chain.proofs.Quiet.{Quiet}
use Rattle.bow_chain.proofs.sums.found_sum.Given as goal

abbrev pub invariant-loop-offset : goal.invariant-loop-offset
invariant-loop-offset g l = record {
  long : length l.blocks ≡ 8 * l.geometry.block_size;
  within : l.offset ≤ l.dest.count;
  so_far : (c : Content) → g.D.Disk.content l.initial.disk ≡ Some c → l.sum ≡ sum_at l.source.first (run_of (λ x. contents_of c.now (place_in l.places x)) l.dest.first l.offset);
  quiet : Quiet l.geometry g.D.Disk.stated g.D.Disk.content g.D.Disk.moment g.D.Disk.left_since g.D.Disk.faults l.initial.disk l.disk;
}

abbrev pub decreases-loop-offset : goal.decreases-loop-offset
decreases-loop-offset g l = l.dest.count - l.offset
