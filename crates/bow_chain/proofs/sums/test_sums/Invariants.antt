use Rattle.std.proofs.Common.{◌≡◌, Some, map, drop}
use Rattle.bow_disk.specs.Disk.{Content}
use Rattle.bow_log.specs.Generations.{backup_of}
use Rattle.bow_chain.specs.Contents.{contents_of}
use Rattle.bow_chain.specs.Places.{pass, base}
use Rattle.bow_chain.specs.Tables.{IsTable, Follows}
use Rattle.bow_chain.specs.Sound.{SumsHold}
use Rattle.bow_chain.specs.Chains.{generations_of}
use Rattle.bow_chain.proofs.Quiet.{Quiet}
use Rattle.bow_chain.proofs.sums.test_sums.Given as goal

abbrev pub invariant-loop-index : goal.invariant-loop-index
invariant-loop-index g l = record {
  table : IsTable l.geometry l.places;
  follows : Follows l.geometry (λ x. base (generations_of l.geometry l.above) (pass (map (backup_of l.geometry) (drop l.index l.log.entries)) x)) l.places;
  so_far : (c : Content) → g.D.Disk.content l.initial.disk ≡ Some c → SumsHold (contents_of c.now) (base (generations_of l.geometry l.above)) (map (backup_of l.geometry) (drop l.index l.log.entries));
  quiet : Quiet l.geometry g.D.Disk.stated g.D.Disk.content g.D.Disk.moment g.D.Disk.left_since g.D.Disk.faults l.initial.disk l.disk;
}
