-- A turn of the worker leads to a machine that is led.
use Rattle.std.proofs.Common.{ℕ, ◌+◌, ◌<◌, ◌≡◌, ◌==◌, true, not, List, [], ◌∷◌, length, Option, Some, None, arith, refl, sym, ap, ◌∙◌, subst, inl, inr}
use Rattle.std.proofs.lemmas.Bool.{cond_both, not-false}
use Rattle.bow_units.specs.declared.sizes.Geometry.{Geometry}
use Rattle.bow_units.specs.declared.sizes.Extent.{Extent}
use Rattle.bow_units.specs.declared.requests.Op.{Op}
use Rattle.bow_units.specs.declared.requests.Op.TheVariants.{Read, Write, Discard, Flush, Prepare, Commit}
use Rattle.bow_units.specs.declared.requests.Outcome.TheVariants as outcomes
use Rattle.bow_units.specs.declared.requests.Phase.{Phase}
use Rattle.bow_units.specs.declared.requests.Phase.TheVariants.{Trim, Arming, Checkpoint, Deciding, Committed}
use Rattle.bow_units.specs.declared.statuses.Kind.{Kind}
use Rattle.bow_units.specs.declared.statuses.Kind.TheVariants as kinds
use Rattle.bow_log.specs.Generations.{Generation, room}
use Rattle.bow_chain.specs.Contents.{Contents}
use Rattle.bow_copy.specs.declared.jobs.Job.{Job}
use Rattle.bow_copy.specs.declared.jobs.Job.TheVariants as jobs
use Rattle.bow_flat.specs.Flat.{Flat}
use Rattle.bow_guard.specs.Cuts.{Candidates}
use Rattle.bow_ranges.specs.Kinds.{kind_at, with_kind}
use Rattle.bow_ranges.specs.Picks.{picked}
use Rattle.bow_machine.specs.Requests.{Request}
use Rattle.bow_machine.specs.Memory.{Memory, Hand, Empty, Batching, Preparing, Committing, is_kind_current}
use Rattle.bow_machine.specs.Calls.{Reply}
use Rattle.bow_machine.specs.Tasks.{Worker, Task, Acts, batch_for, on_picked, copied_from, copy_onto, spelling, formed, formed_for, head, serve, worker_task, task_of}
use Rattle.bow_machine.proofs.Held.{IsKept, HandHeld, IsHeld}
use Rattle.bow_machine.specs.Ahead.{IsPlace0, IsLedIn, IsLed}
use Rattle.bow_machine.proofs.BatchActs.{lead, lead_copy}
use Rattle.bow_machine.proofs.BatchStands.{working}
use Rattle.bow_machine.proofs.Workers.{memory_is}
use Rattle.bow_machine.proofs.AheadLeads.{kinds_led}
use Rattle.bow_machine.proofs.AheadSteps.{Leads, log_in_checkpoint}
use Rattle.bow_machine.proofs.AheadMapped.{nothing_leads, answer_leads}
use Rattle.bow_machine.proofs.AheadBatches.{lead_led, log_led, batch_led}

saved_not : (A : Type 0) (k : Kind) → IsPlace0 k → (k ≡ kinds.Saved → ⊥) → (k ≡ kinds.Current → A) → A
saved_not A k (inl current) none go_on = go_on current
saved_not A k (inr saved) none go_on = absurd (none saved)

module _ (g : Geometry) (m : Memory) (log : Generation) (f : Flat) (now new_now : Contents) (may new_may : Candidates) (reply : Reply) (s : IsHeld g (working m Empty log) now may f) (l : IsLed g (working m Empty log) now may f) where
  abbrev Good : Task → Type 0
  Good task = Leads g (working m Empty log) now may new_now new_may f reply task

  k : IsKept g (working m Empty log) now may f Checkpoint log
  k = s.kept

  -- A clean log's current place alone is a place of block 0, so other kinds may change.
  other_kinds : m.clean ≡ true → (new : List Kind) → kind_at new log.current ≡ kinds.Current → IsLedIn g Checkpoint new (Some log) now may f.pending
  other_kinds clean new current = kinds_led g s.memory.sizes Checkpoint m.kinds new (Some log) now may f.pending
      (λ x on at. saved_not (IsPlace0 (kind_at new x)) (kind_at m.kinds x) at (k.sound.none_saved clean x on) (λ is. inl (ap (kind_at new) (k.sound.only_current x on is) ∙ current))) l

  -- a batch for which blocks are picked, or the answer that there are none
  picks_led : m.clean ≡ true → (r : Request) (job : Extent → Job) (slots : List (List ℕ)) → ((e : Extent) → 0 < lead (job e)) → (o : Option Extent)
      → Good (on_picked (working m Empty log) r (λ e. batch_for r (job e) slots) o)
  picks_led clean r job slots some None = answer_leads g (working m Empty log) now new_now may new_may f s l reply r (outcomes.NoSpace r.done)
  picks_led clean r job slots some (Some e) = λ does ok.
      lead_led g s.memory.sizes (record m { kinds = with_kind m.kinds e kinds.Backup }) r.ticket log f now new_now may new_may s.held reply slots (job e) 0 (some e) (other_kinds clean (with_kind m.kinds e kinds.Backup)) does ok

  formed_led : (r : Request) (e : Extent) → Good (formed g (working m Empty log) r e log)
  formed_led r e = cond_both (not m.clean) _ _ Good
      (λ dirty does ok. log_led g s.memory.sizes m r.ticket log f now new_now may new_may s.held [] k.sound.generation.current_inside s.memory.table.size l jobs.Rewrite tt reply does ok)
      (λ is. let clean : m.clean ≡ true = not-false m.clean is in
      cond_both (is_kind_current (kind_at m.kinds (e.first + r.done))) _ _ Good
      (λ current. picks_led clean r (λ to. jobs.Move (e.first + r.done) to.first) [] (λ to. omega arith) (picked m.kinds 1))
      (λ other. cond_both (length log.entries == room g.block_size) _ _ Good
      (λ full. picks_led clean r (λ dest. jobs.Link dest.first) (spelling g log ∷ []) (λ dest. omega arith) (picked m.kinds 1))
      (λ not_full. picks_led clean r (λ dest. copy_onto (copied_from (working m Empty log) r e) dest) [] (λ dest. omega (arith, lead_copy (copied_from (working m Empty log) r e).first dest.first dest.count))
      (picked m.kinds (copied_from (working m Empty log) r e).count))))

  formed_for_led : (r : Request) (op : Op) → Good (formed_for g (working m Empty log) r op (Some log))
  formed_for_led r (Write e p) = formed_led r e
  formed_for_led r (Read e p) = nothing_leads g (working m Empty log) now new_now may new_may f s l reply
  formed_for_led r (Discard e) = nothing_leads g (working m Empty log) now new_now may new_may f s l reply
  formed_for_led r Flush = nothing_leads g (working m Empty log) now new_now may new_may f s l reply
  formed_for_led r Prepare = nothing_leads g (working m Empty log) now new_now may new_may f s l reply
  formed_for_led r Commit = nothing_leads g (working m Empty log) now new_now may new_may f s l reply

  serve_led : (found : Option Request) → Good (serve g (working m Empty log) found)
  serve_led None = nothing_leads g (working m Empty log) now new_now may new_may f s l reply
  serve_led (Some r) = formed_for_led r r.op

module _ (g : Geometry) (f : Flat) (now new_now : Contents) (may new_may : Candidates) (reply : Reply) where
  task_led : (m : Memory) (hand : Hand) (phase : Phase) → m.hand ≡ hand → m.phase ≡ phase → IsHeld g m now may f → IsLed g m now may f → Leads g m now may new_now new_may f reply (worker_task g m hand phase)
  task_led m (Batching b) phase is at s l = go m.log refl (subst (λ h. HandHeld g m h now may m.log) is s.in_hand)
    where
      go : (o : Option Generation) → m.log ≡ o → HandHeld g m (Batching b) now may o → Leads g m now may new_now new_may f reply (Acts m)
      go None none held = absurd held
      go (Some log) some held =
          let e : m ≡ working m (Batching b) log = memory_is m (Batching b) log held.phase is some in
          subst (λ n. IsHeld g n now may f → IsLed g n now may f → Leads g n now may new_now new_may f reply (Acts n)) (sym e)
          (λ s l. batch_led g m log f now new_now may new_may reply b s l) s l
  task_led m Empty Checkpoint is at s l =
      let log = log_in_checkpoint g m now may f s at in
      let e : m ≡ working m Empty log.0 = memory_is m Empty log.0 at is log.1 in
      subst (λ n. IsHeld g n now may f → IsLed g n now may f → Leads g n now may new_now new_may f reply (serve g n (head g n))) (sym e)
      (λ s l. serve_led g m log.0 f now new_now may new_may reply s l (head g (working m Empty log.0))) s l
  task_led m Empty Trim is at s l = nothing_leads g m now new_now may new_may f s l reply
  task_led m Empty Arming is at s l = nothing_leads g m now new_now may new_may f s l reply
  task_led m Empty Deciding is at s l = nothing_leads g m now new_now may new_may f s l reply
  task_led m Empty Committed is at s l = nothing_leads g m now new_now may new_may f s l reply
  task_led m (Preparing t c b act) phase is at s l = nothing_leads g m now new_now may new_may f s l reply
  task_led m (Committing t again act) phase is at s l = nothing_leads g m now new_now may new_may f s l reply

  -- A turn of the worker.
  pub worker_leads : (m : Memory) → IsHeld g m now may f → IsLed g m now may f → Leads g m now may new_now new_may f reply (task_of g m Worker)
  worker_leads m s l = task_led m m.hand m.phase refl refl s l
