use Rattle.std.proofs.Common.{◌≡◌, ◌<◌, ◌≤◌, ◌+◌, ◌∷◌, Some, List, length, take, drop}
use Rattle.bow_log.specs.Generations.{Generation, generation_of}
use Rattle.bow_disk.specs.Disk.{Content}
use Rattle.bow_chain.specs.Contents.{contents_of}
use Rattle.bow_chain.specs.Kept.{kept, Keeps}
use Rattle.bow_restore.specs.Marks.{since_mark, marks_in}
use Rattle.bow_restore.specs.Copies.{writes_in}
use Rattle.bow_restore.specs.Limits.{GoesOn, spent}
use Rattle.bow_restore.specs.Dests.{AreNoted}
use Rattle.bow_restore.specs.Loops.{since_in}
use Rattle.bow_restore.specs.Rewinds.{every}
use Rattle.bow_disk.specs.Moments.{AddsCuts, Tells}
use Rattle.bow_restore.specs.Replaying.{PartReplayed, Holding}
use Rattle.bow_restore.proofs.generations.replay_entries.Given as goal

abbrev pub invariant-loop-index : goal.invariant-loop-index
invariant-loop-index g l = record {
  above : 0 < l.index;
  end_above : l.index ≤ l.marks.end;
  end_within : l.marks.end ≤ length l.fn.log.entries;
  since : since_in l.fn.geometry l.fn.log l.index l.marks.end ≡ since_mark (drop l.index (generation_of l.fn.geometry l.fn.log).entries);
  noted : AreNoted l.fn.geometry (since_in l.fn.geometry l.fn.log l.index l.marks.end) l.dests;
  made : l.marks.made ≡ marks_in (drop l.index (generation_of l.fn.geometry l.fn.log).entries);
  few : l.marks.made + l.index ≤ length l.fn.log.entries;
  limit : GoesOn l.initial.left (writes_in (drop l.index (generation_of l.fn.geometry l.fn.log).entries));
  rest : l.left ≡ spent l.initial.left (writes_in (drop l.index (generation_of l.fn.geometry l.fn.log).entries));
  sizes : g.D.Disk.stated l.disk ≡ Some l.fn.geometry;
  faults : g.D.Disk.faults l.initial.disk ≤ g.D.Disk.faults l.disk;
  state : (c : Content) → g.D.Disk.content l.initial.disk ≡ Some c → (older : List Generation) → Holding l.fn.geometry (generation_of l.fn.geometry l.fn.log) older c
      → Tells g.D.Disk.content (PartReplayed l.fn.geometry (kept (contents_of c.now) (generation_of l.fn.geometry l.fn.log ∷ older)) older (take l.index (generation_of l.fn.geometry l.fn.log).entries) (drop l.index (generation_of l.fn.geometry l.fn.log).entries) c) l.disk;
  cuts : (c : Content) → g.D.Disk.content l.initial.disk ≡ Some c → (older : List Generation) → Holding l.fn.geometry (generation_of l.fn.geometry l.fn.log) older c
      → AddsCuts g.D.Disk.moment g.D.Disk.left_since (λ image. Keeps l.fn.geometry every (kept (contents_of c.now) (generation_of l.fn.geometry l.fn.log ∷ older)) (contents_of image)) l.initial.disk l.disk;
}
