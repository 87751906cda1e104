-- The next act of what is in hand over sound memory: where its call failed it answers with a fault, and else it goes on or is done.
use Rattle.std.proofs.Common.{ℕ, ◌+◌, ◌<◌, ◌≤◌, ◌≡◌, ◌≢◌, ◌⊎◌, true, List, [], Option, Some, None, arith, refl, sym, subst, inl, inr, ap, ◌∙◌}
use Rattle.std.specs.List.{AllByRecursion as Each}
use Rattle.bow_units.specs.declared.sizes.Geometry.{Geometry}
use Rattle.bow_units.specs.declared.requests.Op.{Op}
use Rattle.bow_units.specs.declared.requests.Op.TheVariants.{Prepare, Commit}
use Rattle.bow_units.specs.declared.requests.Outcome.{Outcome}
use Rattle.bow_units.specs.declared.requests.Outcome.TheVariants as outcomes
use Rattle.bow_flat.specs.Flat.{Event}
use Rattle.bow_units.specs.declared.sizes.Extent.{Extent}
use Rattle.bow_units.specs.declared.statuses.Kind.TheVariants.{Saved}
use Rattle.bow_chain.specs.Contents.{Contents}
use Rattle.bow_log.specs.Generations.{Generation}
use Rattle.bow_copy.specs.declared.jobs.Job.{Job}
use Rattle.bow_copy.specs.declared.jobs.Job.TheVariants.{Rewrite, Link, Copy, Move}
use Rattle.bow_ranges.specs.Kinds.{kind_at}
use Rattle.bow_queue.specs.declared.tickets.Ticket.{Ticket}
use Rattle.bow_machine.specs.Requests.{Request, request_of}
use Rattle.bow_machine.specs.Memory.{Memory, Batch, Hand, Empty, Batching, Preparing, Committing}
use Rattle.bow_machine.specs.Calls.{Reply, Failed, Succeeded, Gave}
use Rattle.bow_machine.specs.Steps.{Step, answered_for, fault_after, fault_events, extent_of, act_step, call_in_hand}
use Rattle.bow_machine.specs.MemoryIsSound.{IsWaiting, SavesNext, IsForCommand, HandIsSound, MemoryIsSound}
use Rattle.bow_machine.specs.MemoryLaws.{CanHaveIt, ticket_of_hand}
use Rattle.bow_machine.specs.MemoryIsSound.{is_touched}
use Rattle.bow_machine.specs.Ties.{IsNextOf, IsLeftOf}
use Rattle.bow_machine.proofs.RequestLists.{found_ticket}
use Rattle.bow_machine.proofs.Less.{fewer_acts}
use Rattle.bow_machine.proofs.SoundLists.{found_waiting}
use Rattle.bow_machine.proofs.SoundLogs.{InSaved}
use Rattle.bow_machine.proofs.SoundTasks.{is_busy}
use Rattle.bow_machine.proofs.SoundBatches.{WritesNow, InHand, TakesNow, in_hand_of, batch_fails, batch_goes}
use Rattle.bow_machine.proofs.SoundCommands.{WritesLog, LeavesSo, ActEnds, ActIsDone, prepare_fails, prepare_done, commit_fails, commit_done}

-- the act's call failed: its request is answered with a fault
pub record ActFaults (g : Geometry) (m : Memory) (hand : Hand) (step : Step) : Type 0 where
  pub ticket : Ticket
  pub is : ticket_of_hand hand ≡ Some ticket
  pub request : Request
  pub waits : request_of ticket m.requests ≡ Some request
  pub ends : ActEnds g m ticket step
  pub fault : ends.outcome request ≡ outcomes.DiskFault request.done

-- the act's call was done
pub record ActDone (g : Geometry) (m : Memory) (hand : Hand) (step : Step) : Type 0 where
  pub ticket : Ticket
  pub is : ticket_of_hand hand ≡ Some ticket
  pub request : Request
  pub waits : request_of ticket m.requests ≡ Some request
  pub done : ActIsDone g m ticket step

-- no block of a command is done
pub none_done : (g : Geometry) (m : Memory) (t : Ticket) (op : Op) (r : Request) → (extent_of op).count ≡ 0 → Each (IsWaiting g) m.requests → request_of t m.requests ≡ Some r → r.op ≡ op → r.done ≡ 0
none_done g m t op r none each found is =
    let done : r.done ≤ (extent_of op).count = subst (λ o. r.done ≤ (extent_of o).count) is (found_waiting g t m.requests r each found).done in
    omega (arith, done, none)

-- what a job saves are next blocks of its write
saves_next : (job : Job) (write : Request) (e : Extent) (x : ℕ) → write.done < e.count → SavesNext job write e → InSaved job x → (e.first + write.done ≤ x) × (x < e.first + e.count)
saves_next Rewrite write e x left next in_saved = absurd in_saved
saves_next (Link dest) write e x left next in_saved = absurd in_saved
saves_next (Copy source dest count) write e x left next in_saved = (omega (arith, next, in_saved), omega (arith, next, in_saved))
saves_next (Move from to) write e x left next in_saved = (omega (arith, next, in_saved), omega (arith, next, in_saved, left))

module _ (g : Geometry) (m : Memory) (s : MemoryIsSound g m) (now : Contents) where
  -- what it takes now is left to do of its write
  left_of_write : (b : Batch) → (i : InHand g m b) → (x : ℕ) → TakesNow b x → (l : IsLeftOf g m x) × (b.ticket ≡ l.write.ticket)
  left_of_write b i x takes =
      let w = i.held.for_write.waits in
      let where_to = saves_next b.progress.job w.write w.extent x w.left i.held.for_write.next takes.1 in
      let mine : w.write.ticket ≡ b.ticket = found_ticket b.ticket m.requests w.write w.waits in
      (record { write = w.write; waits = ap (λ t. request_of t m.requests) mine ∙ w.waits; extent = w.extent; payload = w.payload; op = w.op; passed = w.passed; from = where_to.0; below = where_to.1 }, sym mine)

  takes_next : (b : Batch) → m.hand ≡ Batching b → InHand g m b → (x : ℕ) → (kind_at m.kinds x ≡ Saved) ⊎ TakesNow b x → (kind_at m.kinds x ≡ Saved) ⊎ IsNextOf g m x
  takes_next b is i x (inl was) = inl was
  takes_next b is i x (inr takes) = let l = left_of_write b i x takes in inr (record { batch = b; in_hand = is; begun = takes.0; left = l.0; for_it = l.1 })

  takes_left : (b : Batch) → m.hand ≡ Batching b → InHand g m b → (x : ℕ) → (is_touched (kind_at m.kinds x) ≡ true) ⊎ TakesNow b x → (is_touched (kind_at m.kinds x) ≡ true) ⊎ IsLeftOf g m x
  takes_left b is i x (inl was) = inl was
  takes_left b is i x (inr takes) = inr (left_of_write b i x takes).0

  in_hand_writes : (b : Batch) → m.hand ≡ Batching b → (old new : Generation) → (new ≡ old) ⊎ WritesNow b old new → (new ≡ old) ⊎ WritesLog m old new
  in_hand_writes b is old new (inl same) = inl same
  in_hand_writes b is old new (inr writes) = inr (b, is, writes)

  pub act_fails : (hand : Hand) → m.hand ≡ hand → is_busy hand ≡ true → ActFaults g m hand (act_step g now m hand Failed)
  act_fails Empty is busy = absurd (grind arith)
  act_fails (Batching b) is busy =
      let i = in_hand_of g m b is s in
      let f = batch_fails g m b s i in
      let w = i.held.for_write.waits in
      record {
        ticket = b.ticket;
        is = refl;
        request = w.write;
        waits = w.waits;
        ends = record { left = f.left; outcome = fault_after; happens = fault_events g; is = f.is; sound = f.sound; empty = f.empty; requests = f.requests; leaves = record { saved = λ x on now_saved. takes_next b is i x (f.saved x now_saved); touched = λ x on now_touched. takes_left b is i x (f.touched x now_touched); goes_on = f.goes_on; written = λ old new was log_is. in_hand_writes b is old new (f.written old new was log_is); stays = λ going x on now_is. f.stays x now_is } };
        fault = refl;
      }
  act_fails (Preparing t c b act) is busy =
      let f = prepare_fails g m t c b s act is now in
      let h : IsForCommand m.requests t Prepare = (subst (λ h. HandIsSound g m h m.log) is s.in_hand).1 in
      record { ticket = t; is = refl; request = h.command; waits = h.waits; ends = f.ends; fault = f.fault h.command h.waits (none_done g m t Prepare h.command refl s.requests h.waits h.asks) }
  act_fails (Committing t again act) is busy =
      let f = commit_fails g m t again s act is in
      let h : IsForCommand m.requests t Commit = (subst (λ h. HandIsSound g m h m.log) is s.in_hand).1 in
      record { ticket = t; is = refl; request = h.command; waits = h.waits; ends = f.ends; fault = f.fault h.command h.waits (none_done g m t Commit h.command refl s.requests h.waits h.asks) }

  pub act_done : (hand : Hand) → m.hand ≡ hand → is_busy hand ≡ true → (reply : Reply) → CanHaveIt g (call_in_hand g m hand) reply → reply ≢ Failed → ActDone g m hand (act_step g now m hand reply)
  act_done Empty is busy reply can ok = absurd (grind arith)
  act_done (Batching b) is busy reply can ok =
      let i = in_hand_of g m b is s in
      let go = batch_goes g m b s i reply can ok in
      let w = i.held.for_write.waits in
      record {
        ticket = b.ticket;
        is = refl;
        request = w.write;
        waits = w.waits;
        done = inr (record { left = go.left; happens = []; is = go.is; sound = go.sound; less = fewer_acts m go.left (Batching b) is go.requests go.free go.plain go.acts; leaves = record { saved = λ x on now_saved. takes_next b is i x (go.saved x now_saved); touched = λ x on now_touched. takes_left b is i x (go.touched x now_touched); goes_on = go.goes_on; written = λ old new was log_is. in_hand_writes b is old new (go.written old new was log_is); stays = λ going x on now_is. go.stays x now_is } });
      }
  act_done (Preparing t c b act) is busy reply can ok =
      let h : IsForCommand m.requests t Prepare = (subst (λ h. HandIsSound g m h m.log) is s.in_hand).1 in
      record { ticket = t; is = refl; request = h.command; waits = h.waits; done = prepare_done g m t c b s act is now reply can ok }
  act_done (Committing t again act) is busy reply can ok =
      let h : IsForCommand m.requests t Commit = (subst (λ h. HandIsSound g m h m.log) is s.in_hand).1 in
      record { ticket = t; is = refl; request = h.command; waits = h.waits; done = commit_done g m t again s act is reply can ok }

  abbrev Leaves : Step → Type 0
  Leaves step = LeavesSo g m step.memory.phase step.memory.kinds step.memory.log

  -- what an act leaves of the kinds and the log, whatever is told
  pub act_leaves : (hand : Hand) → m.hand ≡ hand → is_busy hand ≡ true → (reply : Reply) → CanHaveIt g (call_in_hand g m hand) reply → Leaves (act_step g now m hand reply)
  act_leaves hand is busy reply can = go reply can
    where
      answered : (left : Memory) (o : Option Request) (outcome : Request → Outcome) (happens : Request → List Event) → LeavesSo g m left.phase left.kinds left.log → Leaves (answered_for left o outcome happens)
      answered left None outcome happens l = l
      answered left (Some r) outcome happens l = l

      ended : (t : Ticket) (step : Step) → ActEnds g m t step → Leaves step
      ended t step e = subst Leaves (sym e.is) (answered e.left (request_of t m.requests) e.outcome e.happens e.leaves)

      done : (t : Ticket) (step : Step) → ActIsDone g m t step → Leaves step
      done t step (inl a) = ended t step a.ends
      done t step (inr goes) = subst Leaves (sym goes.is) goes.leaves

      go : (reply : Reply) → CanHaveIt g (call_in_hand g m hand) reply → Leaves (act_step g now m hand reply)
      go Failed can = let f = act_fails hand is busy in ended f.ticket _ f.ends
      go Succeeded can = let d = act_done hand is busy Succeeded can (λ e. absurd (grind arith)) in done d.ticket _ d.done
      go (Gave v) can = let d = act_done hand is busy (Gave v) can (λ e. absurd (grind arith)) in done d.ticket _ d.done
