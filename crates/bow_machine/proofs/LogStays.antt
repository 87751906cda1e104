-- Within the checkpoint a step changes the log only where a write waits.
use Rattle.std.proofs.Common.{◌≡◌, ◌⊎◌, List, Option, Some, None, arith, refl, sym, ap, ◌∙◌, subst, inl, inr}
use Rattle.bow_units.specs.declared.sizes.Geometry.{Geometry}
use Rattle.bow_units.specs.declared.requests.Outcome.{Outcome}
use Rattle.bow_units.specs.declared.requests.Phase.TheVariants.{Trim, Arming, Checkpoint, Deciding}
use Rattle.bow_flat.specs.Flat.{Event}
use Rattle.bow_chain.specs.Contents.{Contents}
use Rattle.bow_queue.specs.declared.tickets.Ticket.{Ticket}
use Rattle.bow_machine.specs.Requests.{Request, request_of}
use Rattle.bow_machine.specs.Memory.{Memory, Hand, Empty, Batching, Preparing, Committing, PrepareAct, ReadsBlock0, WritesCurrent, WritesBackup, FlushesCopies, WritesFirstLog, FlushesFirstLog, CommitAct, FlushesAll, ReadsCurrent, WritesBlock0, FlushesDecision}
use Rattle.bow_machine.specs.Calls.{Reply, Failed, Succeeded, Gave}
use Rattle.bow_machine.specs.Tasks.{task_of}
use Rattle.bow_machine.specs.Steps.{Step, answered_for, act_step, call_in_hand, released}
use Rattle.bow_machine.specs.MemoryIsSound.{ForWrite, PrepareIsSound, HandIsSound, MemoryIsSound}
use Rattle.bow_machine.specs.MemoryLaws.{CanHaveIt}
use Rattle.bow_machine.specs.Ties.{WriteWaits, LogStays}
use Rattle.bow_machine.proofs.RequestLists.{found_ticket}
use Rattle.bow_machine.proofs.SoundTasks.{ActsOn, task_by, batch_in_hand}
use Rattle.bow_machine.proofs.SoundTurns.{turn_sound}

-- the log is as before, or the step leaves the checkpoint
abbrev StaysIn : Memory → Step → Type 0
StaysIn m step = step.memory.phase ≡ Checkpoint → step.memory.log ≡ m.log

answered_stays : (m left : Memory) (o : Option Request) (outcome : Request → Outcome) (happens : Request → List Event) → (left.phase ≡ Checkpoint → left.log ≡ m.log) → StaysIn m (answered_for left o outcome happens)
answered_stays m left None outcome happens same = same
answered_stays m left (Some r) outcome happens same = same

-- a batch in hand is for a write that waits
batch_waits : (g : Geometry) (m : Memory) (t : Ticket) → ForWrite g m t → WriteWaits m
batch_waits g m t w = record {
  write = w.write;
  waits = ap (λ u. request_of u m.requests) (found_ticket t m.requests w.write w.waits) ∙ w.waits;
  extent = w.extent;
  payload = w.payload;
  op = w.op;
}

module _ (g : Geometry) (m : Memory) (now : Contents) (s : MemoryIsSound g m) (at : m.phase ≡ Checkpoint) where
  hand_stays : (hand : Hand) → m.hand ≡ hand → (reply : Reply) → CanHaveIt g (call_in_hand g m hand) reply → StaysIn m (act_step g now m hand reply) ⊎ WriteWaits m
  hand_stays Empty is reply can = inl (λ there. refl)
  hand_stays (Batching b) is reply can = inr (batch_waits g m b.ticket ((batch_in_hand g m b m.log (subst (λ h. HandIsSound g m h m.log) is s.in_hand)).2.for_write).waits)
  hand_stays (Preparing t c b act) is reply can = absurd (prepare act (subst (λ h. HandIsSound g m h m.log) is s.in_hand).0)
    where
      trim : m.phase ≡ Trim → ⊥
      trim is = let clash : Trim ≡ Checkpoint = sym is ∙ at in grind arith

      arming : m.phase ≡ Arming → ⊥
      arming is = let clash : Arming ≡ Checkpoint = sym is ∙ at in grind arith

      prepare : (act : PrepareAct) → PrepareIsSound g m c b act → ⊥
      prepare ReadsBlock0 h = trim h.phase
      prepare (WritesCurrent v) h = trim h.0.phase
      prepare (WritesBackup v) h = trim h.0.phase
      prepare (FlushesCopies v) h = trim h.0.phase
      prepare WritesFirstLog h = arming h
      prepare FlushesFirstLog h = arming h
  hand_stays (Committing t again act) is reply can = inl (commit act reply can)
    where
      commit : (act : CommitAct) (reply : Reply) → CanHaveIt g (call_in_hand g m (Committing t again act)) reply → StaysIn m (act_step g now m (Committing t again act) reply)
      commit FlushesAll Failed can = answered_stays m (record m { hand = Empty }) (request_of t m.requests) _ _ (λ there. refl)
      commit FlushesAll Succeeded can = λ there. refl
      commit FlushesAll (Gave v) can = absurd can
      commit ReadsCurrent Failed can = answered_stays m (record m { hand = Empty }) (request_of t m.requests) _ _ (λ there. refl)
      commit ReadsCurrent Succeeded can = absurd can
      commit ReadsCurrent (Gave v) can = λ there. refl
      commit (WritesBlock0 w) Failed can = answered_stays m (record m { phase = Deciding; hand = Empty }) (request_of t m.requests) _ _ (λ there. refl)
      commit (WritesBlock0 w) Succeeded can = λ there. refl
      commit (WritesBlock0 w) (Gave v) can = absurd can
      commit FlushesDecision Failed can = answered_stays m (record m { hand = Empty }) (request_of t m.requests) _ _ (λ there. refl)
      commit FlushesDecision Succeeded can = answered_stays m (released m) (request_of t m.requests) _ _ (λ there. absurd (grind arith))
      commit FlushesDecision (Gave v) can = absurd can

module _ (g : Geometry) (m : Memory) (now : Contents) (s : MemoryIsSound g m) (at : m.phase ≡ Checkpoint) where
  -- what was taken in hand is for a write that waited before
  before : (taken : Memory) → ActsOn g m taken → WriteWaits taken → WriteWaits m
  before taken a w = record { write = w.write; waits = ap (request_of w.write.ticket) (sym a.requests) ∙ w.waits; extent = w.extent; payload = w.payload; op = w.op }

pub log_stays : LogStays
log_stays g m turn reply now s can at =
    task_by g now m (λ phase table log. phase ≡ Checkpoint → (log ≡ m.log) ⊎ WriteWaits m) (λ there. inl refl) (λ r b w there. inl refl) (λ r w there. inl refl)
    (λ taken reply a can there. elim (hand_stays g taken now a.sound (a.phase ∙ at) taken.hand refl reply can) [ inl stays ↦ inl (stays there ∙ a.log) | inr waits ↦ inr (before g m now s at taken a waits) ])
    (task_of g m turn) reply (turn_sound g m turn s) can
