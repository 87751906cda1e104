use Rattle.std.proofs.Common.{◌≡◌, ◌≤◌, Some}
use Rattle.bow_log.specs.Generations.{backup_of}
use Rattle.bow_disk.specs.Disk.{Content}
use Rattle.bow_restore.specs.Limits.{GoesOn, spent}
use Rattle.bow_disk.specs.Moments.{AddsCuts, Tells}
use Rattle.bow_restore.specs.Replaying.{CopiedBack, IsCutBeside}
use Rattle.bow_restore.proofs.copies.copy_back.Given as goal

abbrev pub invariant-loop-offset : goal.invariant-loop-offset
invariant-loop-offset g l = record {
  limit : GoesOn l.initial.left l.offset;
  rest : l.left ≡ spent l.initial.left l.offset;
  sizes : g.D.Disk.stated l.disk ≡ Some l.fn.geometry;
  faults : g.D.Disk.faults l.initial.disk ≤ g.D.Disk.faults l.disk;
  copied : (c : Content) → g.D.Disk.content l.initial.disk ≡ Some c → Tells g.D.Disk.content (CopiedBack (backup_of l.fn.geometry l.fn.entry) l.offset c) l.disk;
  cuts : (c : Content) → g.D.Disk.content l.initial.disk ≡ Some c → AddsCuts g.D.Disk.moment g.D.Disk.left_since (IsCutBeside l.fn.geometry (backup_of l.fn.geometry l.fn.entry) c) l.initial.disk l.disk;
}
