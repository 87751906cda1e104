use Rattle.std.proofs.Common.{ℕ, ◌≡◌, ◌≤◌, ◌<◌, ◌+◌, false}
use Rattle.bow_log.specs.Generations.{backup_of}
use Rattle.bow_restore.specs.Dests.{is_noted}
use Rattle.bow_restore.proofs.dests.is_due.Given as goal

-- none of the first blocks of the source has a note
abbrev pub invariant-loop-offset : goal.invariant-loop-offset
invariant-loop-offset l = (x : ℕ) → (backup_of l.fn.geometry l.fn.entry).source ≤ x → x < (backup_of l.fn.geometry l.fn.entry).source + l.offset → is_noted l.dests x ≡ false
