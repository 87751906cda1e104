use Rattle.std.proofs.Common.{◌≡◌, ◌*◌, Some, length, take}
use Rattle.bow_disk.specs.Disk.{Content}
use Rattle.bow_chain.specs.Contents.{contents_of, run_of}
use Rattle.bow_chain.specs.Tables.{place_in}
use Rattle.bow_chain.specs.Runs.{IsRun}
use Rattle.bow_chain.proofs.Quiet.{Quiet}
use Rattle.bow_chain.proofs.sums.read_run.Given as goal

abbrev pub invariant-loop-index : goal.invariant-loop-index
invariant-loop-index g l = record {
  long : length l.blocks ≡ 8 * l.fn.geometry.block_size;
  so_far : (c : Content) → g.D.Disk.content l.initial.disk ≡ Some c → IsRun l.fn.geometry.block_size (take (l.fn.geometry.block_size * l.index) l.blocks) (run_of (λ x. contents_of c.now (place_in l.places x)) l.fn.first l.index);
  quiet : Quiet l.fn.geometry g.D.Disk.stated g.D.Disk.content g.D.Disk.moment g.D.Disk.left_since g.D.Disk.faults l.initial.disk l.disk;
}
