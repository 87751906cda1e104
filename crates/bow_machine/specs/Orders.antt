-- The order of a command's events and the reads beside it; and what a step takes from the disk.
use Rattle.std.specs.Prelude.{ℕ, ◌<◌, ◌≡◌, true, List, [], ◌∷◌}
use Rattle.bow_units.specs.declared.sizes.Geometry.{Geometry}
use Rattle.bow_units.specs.declared.requests.Phase.TheVariants.{Deciding}
use Rattle.bow_chain.specs.Contents.{Contents}
use Rattle.bow_flat.specs.Flat.{Flat, Event, Allows, after}
use Rattle.bow_flat.specs.Flat.Event.{Reads, Flushes, Arms, Decides}
use Rattle.bow_guard.specs.Cuts.{Candidates}
use Rattle.bow_queue.specs.declared.tickets.Ticket.{Ticket}
use Rattle.bow_machine.specs.Memory.{Memory, has_command}
use Rattle.bow_machine.specs.Calls.{Reply}
use Rattle.bow_machine.specs.Tasks.{Turn, Map, task_of}
use Rattle.bow_machine.specs.Steps.{step_of}
use Rattle.bow_machine.specs.Standing.{IsStanding}
use Rattle.bow_machine.specs.Ahead.{IsLed}

-- Memory and what is told depend on what the disk holds by the reply alone.
abbrev pub DiskByReply : Type 0
DiskByReply = (g : Geometry) (m : Memory) (turn : Turn) (reply : Reply) (now other : Contents)
    → let one = step_of g now m (task_of g m turn) reply in
    let two = step_of g other m (task_of g m turn) reply in
    (one.memory ≡ two.memory) × (one.told ≡ two.told)

-- nothing happens, or one block is read
abbrev pub IsRead : List Event → Type 0
IsRead [] = Unit {0}
IsRead (Reads b v ∷ []) = Unit {0}
IsRead happens = ⊥

-- While a command is in hand, nothing happens at the turns of requests but reads.
abbrev pub OnlyReads : Type 0
OnlyReads = (g : Geometry) (m : Memory) (ticket : Ticket) (reply : Reply) (now : Contents)
    → has_command m.hand ≡ true → IsRead (step_of g now m (task_of g m (Map ticket)) reply).events

-- A read that follows the decision might have come before it: the state is then the same, but flushed.
abbrev pub ReadsBeforeDecides : Type 0
ReadsBeforeDecides = (n b : ℕ) (v : List ℕ) (f : Flat) → Allows n Decides f → Allows n (Reads b v) (after n Decides f)
    → Allows n (Reads b v) f × Allows n Decides (after n (Reads b v) f)
    × (after n Decides (after n (Reads b v) f) ≡ after n Flushes (after n (Reads b v) (after n Decides f)))

-- In Deciding a machine that stands for a state stands for it flushed.
abbrev pub DecidingIsFlushed : Type 0
DecidingIsFlushed = (g : Geometry) (m : Memory) (now : Contents) (may : Candidates) (f : Flat)
    → IsStanding g m now may f → m.phase ≡ Deciding → IsStanding g m now may (after g.blocks Flushes f)

-- And it is led for it, where it is led for the state.
abbrev pub DecidingStaysLed : Type 0
DecidingStaysLed = (g : Geometry) (m : Memory) (now : Contents) (may : Candidates) (f : Flat)
    → IsStanding g m now may f → m.phase ≡ Deciding → IsLed g m now may f
    → IsLed g m now may (after g.blocks Flushes f)

-- A read that follows the arming might have come before it: the state is then the same.
abbrev pub ReadsBeforeArms : Type 0
ReadsBeforeArms = (n b : ℕ) (v : List ℕ) (saved : ℕ → List ℕ) (f : Flat) → b < n → Allows n (Arms saved) f
    → Allows n (Reads b v) (after n (Arms saved) f)
    → Allows n (Reads b v) f × Allows n (Arms saved) (after n (Reads b v) f)
    × (after n (Arms saved) (after n (Reads b v) f) ≡ after n (Reads b v) (after n (Arms saved) f))
