use Rattle.std.proofs.Common.{◌≡◌, ◌<◌, map, drop}
use Rattle.std.specs.List.{AllByRecursion as Each}
use Rattle.bow_log.specs.Generations.{IsEntry, backup_of}
use Rattle.bow_chain.specs.Places.{pass}
use Rattle.bow_past.proofs.places.place_by_log.Given as goal

-- the entries that are left lead from here to where all of them lead
abbrev pub invariant-loop-entry : goal.invariant-loop-entry
invariant-loop-entry l = record {
  on : l.place < l.geometry.blocks;
  rest : pass (map (backup_of l.geometry) (drop l.entry-index l.entries)) l.place ≡ pass (map (backup_of l.geometry) l.entries) l.block;
  each : Each (IsEntry l.geometry) (drop l.entry-index l.entries);
}
