use Rattle.std.proofs.Common.{◌≡◌, ◌+◌, ◌*◌, ◌++◌, take}
use Rattle.std.specs.Prelude.{flat_map}
use Rattle.bow_log.specs.Spelling.{entry_text}
use Rattle.bow_log.proofs.writing.put_entries.Given as goal

-- the entries so far stand behind the header
abbrev pub invariant-loop-index : goal.invariant-loop-index
invariant-loop-index l = take (28 + 24 * l.index) l.into ≡ take 28 l.initial.into ++ flat_map entry_text (take l.index l.entries)
