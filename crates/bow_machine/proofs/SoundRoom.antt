-- Over sound memory with a log, the room is exact; and a discard spares what a waiting write covers.
use Rattle.std.proofs.Common.{ℕ, Bool, List, Some, arith, sym, ◌∙◌, subst, inl, inr}
use Rattle.std.proofs.lemmas.Bool.{false≢true}
use Rattle.bow_queue.specs.Requests.{open_writes}
use Rattle.bow_units.specs.declared.sizes.Geometry.{Geometry}
use Rattle.bow_units.specs.declared.requests.Phase.{Phase}
use Rattle.bow_units.specs.declared.requests.Phase.TheVariants.{Trim, Arming, Checkpoint, Deciding, Committed}
use Rattle.bow_units.specs.declared.statuses.Kind.{Kind}
use Rattle.bow_log.specs.Generations.{Generation}
use Rattle.bow_machine.specs.Memory.{reserved}
use Rattle.bow_machine.specs.MemoryIsSound.{LogIsSound, LogIsHeld}
use Rattle.bow_machine.specs.MemoryLaws.{RoomIsExact, CoveredStays}
use Rattle.bow_machine.proofs.Tables.{kind_freed}

-- the log that is held, whatever the phase
pub held_log : (g : Geometry) (table : List Kind) (clean : Bool) (trimmed picked : ℕ) (phase : Phase) (log : Generation) → LogIsHeld g table clean trimmed picked phase (Some log) → LogIsSound g table clean trimmed picked log
held_log g table clean trimmed picked Trim log k = absurd k
held_log g table clean trimmed picked Arming log k = k.0
held_log g table clean trimmed picked Checkpoint log k = k
held_log g table clean trimmed picked Deciding log k = k
held_log g table clean trimmed picked Committed log k = absurd k

pub room_is_exact : RoomIsExact
room_is_exact g m log s some =
    let k = held_log g m.kinds m.clean m.trimmed (reserved m.hand).count m.phase log (subst (λ l. LogIsHeld g m.kinds m.clean m.trimmed (reserved m.hand).count m.phase l) some s.log) in
    omega (arith, k.room)

-- A discard leaves each block that a waiting write covers as it is.
pub covered_stays : CoveredStays
covered_stays g m e b s inside covered = elim (kind_freed m.kinds e (open_writes g.blocks m.requests) b (omega (arith, inside, s.table.size))) [
  | inl freed ↦ absurd (false≢true (sym freed.2 ∙ covered))
  | inr same ↦ same
]
