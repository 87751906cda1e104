use Rattle.std.proofs.Common.{◌≡◌, ◌+◌, ◌<◌, ◌^◌, Some, length}
use Rattle.std.specs.List.{AllByRecursion as Each}
use Rattle.bow_log.specs.Rules.{IsLog}
use Rattle.bow_disk.specs.Disk.{Content}
use Rattle.bow_chain.specs.Contents.{contents_of}
use Rattle.bow_chain.specs.Places.{base}
use Rattle.bow_chain.specs.Tables.{IsTable, Follows}
use Rattle.bow_chain.specs.Chains.{AreNumbered, generations_of}
use Rattle.bow_chain.specs.Faults.{AreAbove}
use Rattle.bow_chain.proofs.Quiet.{Quiet}
use Rattle.bow_chain.proofs.loading.add_older.Given as goal

abbrev pub invariant-loop-wanted : goal.invariant-loop-wanted
invariant-loop-wanted g l = record {
  logs : Each (IsLog l.geometry) l.logs.items;
  numbered : AreNumbered l.logs.items l.wanted;
  some : 0 < length l.logs.items;
  deep : length l.logs.items + l.wanted < 2 ^ 32 + 1;
  table : IsTable l.geometry l.places;
  follows : Follows l.geometry (base (generations_of l.geometry l.logs.items)) l.places;
  tested : (c : Content) → g.D.Disk.content l.initial.disk ≡ Some c → AreAbove l.geometry (contents_of c.now) (generations_of l.geometry l.initial.logs.items) l.left → AreAbove l.geometry (contents_of c.now) (generations_of l.geometry l.logs.items) l.wanted;
  quiet : Quiet l.geometry g.D.Disk.stated g.D.Disk.content g.D.Disk.moment g.D.Disk.left_since g.D.Disk.faults l.initial.disk l.disk;
}
