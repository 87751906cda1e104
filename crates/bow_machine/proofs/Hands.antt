-- What is in hand changes, or a request is answered, and all else stays as it was.
use Rattle.std.proofs.Common.{ℕ, ◌≡◌, List, [], Option, Some, None, refl, sym, ◌∙◌, subst}
use Rattle.std.specs.List.{AllByRecursion as Each}
use Rattle.bow_units.specs.declared.sizes.Geometry.{Geometry}
use Rattle.bow_units.specs.declared.sizes.Extent.{Extent}
use Rattle.bow_units.specs.declared.requests.Phase.{Phase}
use Rattle.bow_units.specs.declared.requests.Phase.TheVariants.{Trim, Arming, Checkpoint, Deciding, Committed}
use Rattle.bow_units.specs.declared.requests.Op.{Op}
use Rattle.bow_units.specs.declared.requests.Outcome.{Outcome}
use Rattle.bow_log.specs.Generations.{Generation}
use Rattle.bow_chain.specs.Contents.{Contents}
use Rattle.bow_flat.specs.Flat.{Flat, Event}
use Rattle.bow_guard.specs.Cuts.{Candidates}
use Rattle.bow_guard.specs.Device.{Device}
use Rattle.bow_guard.specs.Phases.{Leaves}
use Rattle.bow_ranges.specs.Kinds.{kind_at, holds}
use Rattle.bow_queue.specs.declared.tickets.Ticket.{Ticket}
use Rattle.bow_machine.specs.Requests.{Request, request_of, without_request}
use Rattle.bow_machine.specs.Memory.{Memory, Hand, Empty, reserved}
use Rattle.bow_machine.specs.Steps.{Step, moved, answered_for, without_waiting}
use Rattle.bow_machine.specs.MemoryIsSound.{IsRequest, IsForCommand, LogIsSound}
use Rattle.bow_machine.proofs.Held.{device_of, OwnTickets, IsKept, Kept, HandHeld, IsHeld}
use Rattle.bow_machine.specs.Laws.{after_all, AllowsAll}
use Rattle.bow_machine.proofs.RequestLists.{each_without}
use Rattle.bow_machine.proofs.Tickets.{own_without}

-- the memory with nothing in hand
abbrev pub emptied : Memory → Memory
emptied m = record m { hand = Empty }

abbrev pub handed : Memory → List Request → Hand → Memory
handed m requests hand = record m { requests = requests; hand = hand }

module _ (g : Geometry) (now : Contents) (may : Candidates) (f : Flat) (m : Memory) (requests : List Request) (hand : Hand) (same : reserved hand ≡ reserved m.hand) where
  is_kept_handed : (phase : Phase) (log : Generation) → IsKept g m now may f phase log → IsKept g (handed m requests hand) now may f phase log
  is_kept_handed phase log k = record {
    older = k.older;
    clean_log = k.clean_log;
    clean_older = k.clean_older;
    leaves = subst (λ e. Leaves g phase f (now log.current) (with_reserved e)) (sym same) k.leaves;
    clean = λ is. let c = k.clean is in record { log = c.log; older = c.older };
    arming = λ is. let a = k.arming is in (record { log = a.0.log; older = a.0.older }, a.1);
    sound = subst (λ (e : Extent). LogIsSound g m.kinds m.clean m.trimmed e.count log) (sym same) k.sound;
    hidden = k.hidden;
    trimmed = k.trimmed;
  }
    where
      with_reserved : Extent → Device
      with_reserved e = record { now = now; may = may; kind = kind_at m.kinds; picked = holds e; log = log; older = k.older; clean_log = k.clean_log; clean_older = k.clean_older }

  pub kept_handed : (phase : Phase) (log : Option Generation) → Kept g m now may f phase log → Kept g (handed m requests hand) now may f phase log
  kept_handed Trim None k = k
  kept_handed Trim (Some log) k = absurd k
  kept_handed Arming None k = absurd k
  kept_handed Arming (Some log) k = is_kept_handed Arming log k
  kept_handed Checkpoint None k = absurd k
  kept_handed Checkpoint (Some log) k = is_kept_handed Checkpoint log k
  kept_handed Deciding None k = absurd k
  kept_handed Deciding (Some log) k = is_kept_handed Deciding log k
  kept_handed Committed None k = k
  kept_handed Committed (Some log) k = absurd k

  pub stands_handed : Each IsRequest requests → OwnTickets requests → HandHeld g (handed m requests hand) hand now may m.log → IsHeld g m now may f → IsHeld g (handed m requests hand) now may f
  stands_handed each own held k = record {
    memory = record { sizes = k.memory.sizes; table = k.memory.table; requests = each; tickets = own };
    state = k.state;
    phases = k.phases;
    held = k.held;
    shown = k.shown;
    kept = kept_handed m.phase m.log k.kept;
    in_hand = held;
  }

module _ (g : Geometry) (now : Contents) (may : Candidates) (f : Flat) (m : Memory) where
  -- something else in hand
  pub rehanded : (hand : Hand) → reserved hand ≡ reserved m.hand → HandHeld g (record m { hand = hand }) hand now may m.log → IsHeld g m now may f → IsHeld g (record m { hand = hand }) now may f
  rehanded hand same held k = stands_handed g now may f m m.requests hand same k.memory.requests k.memory.tickets held k

  -- with nothing in hand, a request is answered
  pub answered_stands : (t : Ticket) → IsHeld g (emptied m) now may f → IsHeld g (without_waiting (emptied m) t) now may f
  answered_stands t k = stands_handed g now may f (emptied m) (without_request t m.requests) Empty refl (each_without t m.requests k.memory.requests) (own_without t m.requests k.memory.tickets) tt k

-- the disk holds the same
pub same_disk : (g : Geometry) (m : Memory) (f : Flat) (now new_now : Contents) (may new_may : Candidates) → new_now ≡ now → new_may ≡ may → IsHeld g m now may f → IsHeld g m new_now new_may f
same_disk g m f now new_now may new_may same_now same_may k = subst (λ i. IsHeld g m i new_may f) (sym same_now) (subst (λ j. IsHeld g m now j f) (sym same_may) k)

-- ----------------------------------------------------------------------------------------------------------------
-- Steps.

-- the events of a step may be, and the memory after it stands for the state after them
abbrev pub Keeps : Geometry → Contents → Candidates → Flat → Step → Type 0
Keeps g now may f step = AllowsAll g.blocks step.events f × IsHeld g step.memory now may (after_all g.blocks step.events f)

-- an act that goes on, with no event
pub goes_on : (g : Geometry) (m : Memory) (now : Contents) (may : Candidates) (f : Flat) (happens : List Event) → happens ≡ [] → IsHeld g m now may f → Keeps g now may f (moved m happens)
goes_on g m now may f happens none k = subst (λ es. Keeps g now may f (moved m es)) (sym none) (tt, k)

-- an act that ends what was in hand: the command's request is answered
pub ends : {op : Op} (g : Geometry) (m : Memory) (now : Contents) (may : Candidates) (f : Flat) (t : Ticket) (outcome : Request → Outcome) (happens : List Event) → IsForCommand m.requests t op → AllowsAll g.blocks happens f
    → IsHeld g (emptied m) now may (after_all g.blocks happens f) → Keeps g now may f (answered_for (emptied m) (request_of t m.requests) outcome (λ r. happens))
ends g m now may f t outcome happens waits allowed k = subst (λ o. Keeps g now may f (answered_for (emptied m) o outcome (λ r. happens))) (sym waits.waits) (allowed, answered_stands g now may (after_all g.blocks happens f) m waits.command.ticket k)

-- ----------------------------------------------------------------------------------------------------------------

-- What is kept where the disk holds something else, or the phase and the flat state are others.
pub kept_over : (g : Geometry) (m : Memory) (log : Generation) (now new_now : Contents) (may new_may : Candidates) (f h : Flat) (phase next told : Phase) → (next ≡ Arming → phase ≡ Arming)
    → ((b : ℕ) → (f.current b ≡ None) × (f.pending b ≡ None) → (h.current b ≡ None) × (h.pending b ≡ None)) → h.trimmed ≡ f.trimmed → (k : IsKept g m now may f phase log)
    → Leaves g next h (new_now log.current) (device_of m log k.older k.clean_log k.clean_older new_now new_may) → IsKept g (record m { phase = told }) new_now new_may h next log
kept_over g m log now new_now may new_may f h phase next told arming unknown trimmed k leaves = record {
  older = k.older;
  clean_log = k.clean_log;
  clean_older = k.clean_older;
  leaves = leaves;
  clean = λ is. let c = k.clean is in record { log = c.log; older = c.older };
  arming = λ is. let a = k.arming (arming is) in (record { log = a.0.log; older = a.0.older }, a.1);
  sound = k.sound;
  hidden = λ b on is. unknown b (k.hidden b on is);
  trimmed = trimmed ∙ k.trimmed;
}
