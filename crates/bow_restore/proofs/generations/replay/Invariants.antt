use Rattle.std.proofs.Common.{◌≡◌, ◌≤◌, ◌*◌, [], Some, take, drop}
use Rattle.bow_disk.specs.Disk.{Content}
use Rattle.bow_chain.specs.Contents.{contents_of}
use Rattle.bow_chain.specs.Chains.{IsSoundWith, generations_of}
use Rattle.bow_chain.specs.Kept.{kept, Holds}
use Rattle.bow_restore.specs.Marks.{entries_of, marks_of}
use Rattle.bow_restore.specs.Copies.{writes_of}
use Rattle.bow_restore.specs.Dests.{AreNoted}
use Rattle.bow_restore.specs.Limits.{GoesOn, spent}
use Rattle.bow_restore.specs.Rewinds.{every}
use Rattle.bow_disk.specs.Moments.{AddsCuts, Tells}
use Rattle.bow_restore.specs.Replaying.{IsFlushed}
use Rattle.bow_restore.proofs.ChainSteps.{ChainAt}
use Rattle.bow_restore.proofs.generations.replay.Given as goal

abbrev pub invariant-loop-index : goal.invariant-loop-index
invariant-loop-index g l = record {
  entries : l.counts.entries ≡ entries_of (take l.index (generations_of l.fn.geometry l.fn.logs));
  marks : l.counts.marks ≡ marks_of (take l.index (generations_of l.fn.geometry l.fn.logs));
  few_entries : l.counts.entries ≤ 169 * l.index;
  few_marks : l.counts.marks ≤ 169 * l.index;
  none : AreNoted l.fn.geometry [] l.dests;
  limit : GoesOn l.initial.left (writes_of (take l.index (generations_of l.fn.geometry l.fn.logs)));
  rest : l.left ≡ spent l.initial.left (writes_of (take l.index (generations_of l.fn.geometry l.fn.logs)));
  sizes : g.D.Disk.stated l.disk ≡ Some l.fn.geometry;
  faults : g.D.Disk.faults l.initial.disk ≤ g.D.Disk.faults l.disk;
  state : (c : Content) → g.D.Disk.content l.initial.disk ≡ Some c → IsFlushed c → IsSoundWith l.fn.geometry (contents_of c.now) (generations_of l.fn.geometry l.fn.logs)
      → Tells g.D.Disk.content (ChainAt l.fn.geometry (take l.index (generations_of l.fn.geometry l.fn.logs)) (drop l.index (generations_of l.fn.geometry l.fn.logs)) c) l.disk;
  cuts : (c : Content) → g.D.Disk.content l.initial.disk ≡ Some c → IsFlushed c → IsSoundWith l.fn.geometry (contents_of c.now) (generations_of l.fn.geometry l.fn.logs)
      → AddsCuts g.D.Disk.moment g.D.Disk.left_since (λ image. Holds l.fn.geometry every (kept (contents_of c.now) (generations_of l.fn.geometry l.fn.logs)) (contents_of image)) l.initial.disk l.disk;
}
