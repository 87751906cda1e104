-- The last two acts of a batch: the log is written, and the disk is flushed.
use Rattle.std.proofs.Common.{ℕ, ◌+◌, ◌≡◌, ◌≢◌, true, false, List, map, Some, arith, refl, sym, ap, ◌∙◌, subst, inl, inr, Contains}
use Rattle.std.proofs.lemmas.Bool.{cases_eq}
use Rattle.bow_units.specs.declared.sizes.Geometry.{Geometry}
use Rattle.bow_units.specs.declared.statuses.Kind.{Kind}
use Rattle.bow_units.specs.declared.statuses.Kind.TheVariants.{Sector0, Current, Unchanged, Free, Changed, Backup, Saved}
use Rattle.bow_units.specs.declared.requests.Phase.TheVariants.{Checkpoint}
use Rattle.bow_flat.specs.Flat.{Flat, May}
use Rattle.bow_log.specs.Generations.{Generation}
use Rattle.bow_chain.specs.Contents.{Contents}
use Rattle.bow_chain.specs.Sound.{log_in}
use Rattle.bow_copy.specs.declared.jobs.Job.{Job}
use Rattle.bow_guard.specs.Cuts.{Candidates, IsFlushed}
use Rattle.bow_guard.specs.Device.{Device, unsaved}
use Rattle.bow_guard.specs.Guard.{Guarded}
use Rattle.bow_guard.proofs.Device.{cleaned, not_saved}
use Rattle.bow_queue.specs.declared.tickets.Ticket.{Ticket}
use Rattle.bow_ranges.specs.Kinds.{kind_at}
use Rattle.bow_machine.specs.Memory.{Memory, Hand, Empty, may_be_written, place_with}
use Rattle.bow_machine.specs.Calls.{Reply, Failed, Succeeded, Gave, WriteCall, FlushCall, WriteTried, Does}
use Rattle.bow_machine.specs.Tasks.{spelling}
use Rattle.bow_machine.specs.Steps.{batch_step, log_for, kinds_for}
use Rattle.bow_machine.specs.MemoryIsSound.{IsTable, ForWrite}
use Rattle.bow_machine.proofs.Held.{device_of, IsHidden, IsKept}
use Rattle.bow_machine.proofs.Tables.{kind_unsaved, table_unsaved}
use Rattle.bow_machine.specs.MemoryIsSound.{LogIsSound}
use Rattle.bow_machine.proofs.SoundLogs.{clean_log}
use Rattle.bow_machine.proofs.BatchActs.{lead}
use Rattle.bow_machine.proofs.BatchStands.{working, Working, never_arming, place_cases, to_standing, rehanded, all_flushed}
use Rattle.bow_machine.proofs.BatchAnswers.{keeps_same, for_write_kept, batch_failed}
use Rattle.bow_machine.proofs.Hands.{Keeps}
use Rattle.bow_machine.proofs.BatchSteps.{batch_at, batching, at_work, reserves_none, log_succeeded, log_fails, last_succeeded, last_fails, held_after}

-- ----------------------------------------------------------------------------------------------------------------
-- The log is written, or the write fails.

module _ (g : Geometry) (m : Memory) (log new : Generation) (kinds : List Kind) (hand : Hand) (now new_now : Contents)
    (may new_may : Candidates) (f : Flat) where
  -- the log in memory, and the kinds, have changed
  abbrev pub with_log : Memory
  with_log = working (record m { kinds = kinds; clean = false }) Empty new

  pub log_changed : (block : List ℕ) (older : List Generation) (w : Working g m hand log now may f)
      → WriteTried 0 block now new_now may new_may
      → Guarded g f.used f.saved (device_of with_log new older (w.kept).clean_log (w.kept).clean_older new_now new_may)
      → IsTable g kinds → LogIsSound g kinds false m.trimmed 0 new
      → ((b : ℕ) → IsHidden (kind_at kinds b) → IsHidden (kind_at m.kinds b))
      → now new.current ≡ now log.current
      → Working g (record m { kinds = kinds; clean = false }) Empty new new_now new_may f
  log_changed block older w tried guard table sound hidden same = record {
    memory = record { sizes = w.memory.sizes; table = table; requests = w.memory.requests; tickets = w.memory.tickets };
    state = w.state;
    phases = w.phases;
    held = λ x on. elim (cases_eq x 0) [
      | inl is ↦ subst (λ y. Contains (new_may y) (new_now y)) (sym is) tried.held
      | inr ne ↦ subst (λ vs. Contains vs (new_now x)) (sym (tried.given.others_may x ne)) (subst (Contains (may x)) (sym (tried.given.others_now x ne)) (w.held x on))
    ];
    shown = λ x on. place_cases (λ y p. May (f.current y) (new_now p)) new x
        (λ z. subst (May (f.current x)) (sym (tried.given.others_now new.current above ∙ same)) (place_cases (λ y p. May (f.current y) (now (place_with (Some log) y)) → May (f.current y) (now log.current)) log x (λ e h. subst (λ y. May (f.current x) (now (place_with (Some log) y))) e h) (λ ne. absurd (ne z)) (w.shown x on)))
        (λ ne. subst (May (f.current x)) (sym (tried.given.others_now x ne)) (place_cases (λ y p. May (f.current y) (now p) → May (f.current y) (now y)) log x (λ e. absurd (ne e)) (λ e h. h) (w.shown x on)));
    kept = record {
      older = older;
      clean_log = (w.kept).clean_log;
      clean_older = (w.kept).clean_older;
      leaves = guard;
      clean = λ c. absurd (grind arith);
      arming = never_arming;
      sound = sound;
      hidden = λ b on is. (w.kept).hidden b on (hidden b is);
      trimmed = (w.kept).trimmed;
    };
  }
    where
      above : new.current ≢ 0
      above is = absurd (omega (arith, is, sound.generation.current_not_0))

module _ (g : Geometry) (m : Memory) (job : Job) (slots : List (List ℕ)) (t : Ticket) (log : Generation) (f : Flat)
    (now new_now : Contents) (may new_may : Candidates) where
  -- Where the memory stands once the log was given, the step that gives it leads there, done or failed.
  pub log_keeps : (reply : Reply) → ForWrite g (at_work m job (lead job) slots t log) t
      → ((b : ℕ) → may_be_written (kind_at m.kinds b) ≡ false → may_be_written (kind_at (kinds_for job m.kinds) b) ≡ false)
      → log_in g (spelling g (log_for job slots log)) ≡ Some (log_for job slots log)
      → (WriteTried 0 (spelling g (log_for job slots log)) now new_now may new_may → Working g (record m { kinds = kinds_for job m.kinds; clean = false }) Empty (log_for job slots log) new_now new_may f)
      → Does g (WriteCall 0 (spelling g (log_for job slots log))) reply now may new_now new_may
      → Keeps g new_now new_may f (batch_step g (at_work m job (lead job) slots t log) (batch_at job (lead job) slots t) reply)
  log_keeps Failed write kinds spelled stands does =
      subst (Keeps g new_now new_may f) (sym (log_fails g m job slots t log))
      (batch_failed g (record m { kinds = kinds_for job m.kinds; clean = false }) (log_for job slots log) new_now new_may f t (at_work m job (lead job) slots t log) refl write (stands does))
  log_keeps Succeeded write kinds spelled stands does =
      let n : Memory = record m { kinds = kinds_for job m.kinds; clean = false } in
      let new = log_for job slots log in
      let w = rehanded g n new f Empty (batching job (lead job + 1) slots t) new_now new_may (reserves_none job slots t) (stands does.0) in
      let waits = for_write_kept g (at_work m job (lead job) slots t log) (at_work n job (lead job + 1) slots t new) t refl refl kinds write in
      subst (Keeps g new_now new_may f) (sym (log_succeeded g m job slots t log))
      (tt, to_standing g n (batching job (lead job + 1) slots t) new new_now new_may f w (held_after g n job slots t new new_now new_may waits (ap (log_in g) does.1 ∙ spelled) refl))
  log_keeps (Gave v) write kinds spelled stands does = absurd does

-- ----------------------------------------------------------------------------------------------------------------
-- The last flush.

-- what was changed or saved holds what was written
was_hidden : (k : Kind) → IsHidden (unsaved k) → IsHidden k
was_hidden Sector0 h = h
was_hidden Current h = h
was_hidden Unchanged h = h
was_hidden Free h = h
was_hidden Changed h = h
was_hidden Backup h = h
was_hidden Saved h = absurd (grind arith)

module _ (g : Geometry) (m : Memory) (log : Generation) (f : Flat) (now : Contents) where
  -- with nothing in hand and the log in block 0, a flush makes it durable
  pub log_durable : (may new_may : Candidates) → IsFlushed g now new_may → log_in g (now 0) ≡ Some log
      → Working g m Empty log now may f
      → Working g (record m { kinds = map unsaved m.kinds; clean = true }) Empty log now new_may f
  log_durable may new_may done spelled w = record {
    memory = record { sizes = w.memory.sizes; table = table_unsaved g m.kinds w.memory.table; requests = w.memory.requests; tickets = w.memory.tickets };
    state = w.state;
    phases = w.phases;
    held = (all_flushed g m log f Empty now may new_may done w).held;
    shown = w.shown;
    kept = record {
      older = k.older;
      clean_log = log;
      clean_older = k.older;
      leaves =
          cleaned g f.used f.saved before after (λ x. refl) done spelled refl refl (record { log = refl; older = refl })
          (λ x ne. kind_unsaved m.kinds x ∙ not_saved (kind_at m.kinds x) ne) (λ x. refl) k.leaves;
      clean = λ c. record { log = refl; older = refl };
      arming = never_arming;
      sound = clean_log g m.kinds m.clean m.trimmed log k.sound;
      hidden = λ b on is. k.hidden b on (was_hidden (kind_at m.kinds b) (subst IsHidden (kind_unsaved m.kinds b) is));
      trimmed = k.trimmed;
    };
  }
    where
      k : IsKept g (working m Empty log) now may f Checkpoint log
      k = w.kept

      before : Device
      before = device_of (working m Empty log) log k.older k.clean_log k.clean_older now may

      after : Device
      after =
          device_of (working (record m { kinds = map unsaved m.kinds; clean = true }) Empty log) log k.older log k.older now new_may

module _ (g : Geometry) (m : Memory) (job : Job) (slots : List (List ℕ)) (t : Ticket) (log : Generation) (f : Flat)
    (now new_now : Contents) (may new_may : Candidates) where
  -- The last flush ends the batch, done or failed.
  pub last_keeps : (reply : Reply) → ForWrite g (at_work m job (lead job + 1) slots t log) t
      → log_in g (now 0) ≡ Some log → Working g m (batching job (lead job + 1) slots t) log now may f
      → Does g FlushCall reply now may new_now new_may
      → Keeps g new_now new_may f (batch_step g (at_work m job (lead job + 1) slots t log) (batch_at job (lead job + 1) slots t) reply)
  last_keeps Failed write spelled w does =
      keeps_same g now new_now may new_may f
      (batch_step g (at_work m job (lead job + 1) slots t log) (batch_at job (lead job + 1) slots t) Failed) does.0 does.1
      (subst (Keeps g now may f) (sym (last_fails g m job slots t log)) (batch_failed g m log now may f t (at_work m job (lead job + 1) slots t log) refl write
      (rehanded g m log f (batching job (lead job + 1) slots t) Empty now may (sym (reserves_none job slots t)) w)))
  last_keeps Succeeded write spelled w does =
      let empty = rehanded g m log f (batching job (lead job + 1) slots t) Empty now may (sym (reserves_none job slots t)) w in
      keeps_same g now new_now new_may new_may f
      (batch_step g (at_work m job (lead job + 1) slots t log) (batch_at job (lead job + 1) slots t) Succeeded) does.0 refl
      (subst (Keeps g now new_may f) (sym (last_succeeded g m job slots t log)) (tt, to_standing g (record m { kinds = map unsaved m.kinds; clean = true }) Empty log now new_may f (log_durable g m log f now may new_may does.1 spelled empty) tt))
  last_keeps (Gave v) write spelled w does = absurd does
