use Rattle.std.proofs.Common.{drop, map}
use Rattle.bow_log.specs.Generations.{backup_of}
use Rattle.bow_restore.proofs.Notes.{OnlyNoted}
use Rattle.bow_restore.proofs.dests.forget.Given as goal

abbrev pub invariant-loop-index : goal.invariant-loop-index
invariant-loop-index l = OnlyNoted l.fn.geometry (drop l.index (map (backup_of l.fn.geometry) l.fn.entries)) l.dests
