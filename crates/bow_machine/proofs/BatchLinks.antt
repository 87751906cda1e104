-- A batch that keeps the full log in a picked block, and begins a new log.
use Rattle.std.proofs.Common.{ℕ, ◌+◌, ◌<◌, ◌≤◌, ◌≡◌, true, false, List, [], ◌∷◌, get_or, Some, arith, refl, sym, ap, ◌∙◌, subst, add-one}
use Rattle.bow_units.specs.declared.sizes.Geometry.{Geometry}
use Rattle.bow_units.specs.declared.requests.Phase.TheVariants.{Checkpoint}
use Rattle.bow_units.specs.declared.statuses.Kind.TheVariants.{Sector0, Backup as BackupKind}
use Rattle.bow_flat.specs.Flat.{Flat}
use Rattle.bow_log.specs.Generations.{Backup, Generation}
use Rattle.bow_chain.specs.Contents.{Contents, run_of}
use Rattle.bow_chain.specs.Places.{InDest}
use Rattle.bow_chain.specs.Sound.{log_in, sum_at}
use Rattle.bow_copy.specs.Acts.{next_act}
use Rattle.bow_copy.specs.declared.jobs.Job.TheVariants.{Link}
use Rattle.bow_guard.specs.Cuts.{Candidates}
use Rattle.bow_guard.specs.Device.{Device, LogGiven}
use Rattle.bow_guard.specs.Guard.{Guarded}
use Rattle.bow_guard.proofs.Device.{link_logged}
use Rattle.bow_queue.specs.declared.tickets.Ticket.{Ticket}
use Rattle.bow_ranges.specs.Kinds.{kind_at}
use Rattle.bow_machine.specs.Memory.{Memory, Empty}
use Rattle.bow_machine.specs.Calls.{Reply, WriteTried, Does}
use Rattle.bow_machine.specs.Tasks.{spelling}
use Rattle.bow_machine.specs.Steps.{copy_entry, log_for, batch_step, call_of_act}
use Rattle.bow_machine.specs.MemoryIsSound.{ForWrite}
use Rattle.bow_machine.proofs.Held.{device_of, IsKept, LinkHeld}
use Rattle.bow_machine.proofs.Spelled.{spelled}
use Rattle.bow_machine.proofs.BatchActs.{running}
use Rattle.bow_machine.proofs.BatchStands.{working, Working, holds_none, holds_one, holds_other}
use Rattle.bow_machine.proofs.SoundLogs.{above_0, LogChange, link_change}
use Rattle.bow_machine.proofs.Hands.{Keeps}
use Rattle.bow_machine.proofs.BatchSteps.{batch_at, batching, at_work}
use Rattle.bow_machine.proofs.BatchLogs.{log_changed, log_keeps}
use Rattle.bow_machine.proofs.BatchLeads.{PicksStand, lead_writes, lead_flushes}

in_one : (dest x : ℕ) → dest ≤ x → x < dest + 1 → x ≡ dest
in_one dest x low high = omega arith

module _ (g : Geometry) (m : Memory) (dest : ℕ) (slots : List (List ℕ)) (t : Ticket) (log : Generation) (f : Flat)
    (now new_now : Contents) (may new_may : Candidates) where
  -- what is in hand, with this many acts done
  abbrev Held : ℕ → ℕ → Contents → Candidates → Type 0
  Held at done i j = LinkHeld g (at_work m (Link dest) at slots t log) log dest done slots i j

  picked : (done : ℕ) → Held done done now may → PicksStand g m (Link dest)
  picked done h = record {
    inside = omega (arith, h.ready.inside);
    backup = λ j below. let there : dest + j ≡ dest = omega arith in ap (kind_at m.kinds) there ∙ h.ready.kind;
  }

  -- the full log is written to the picked block
  pub link_writes : (reply : Reply) → ForWrite g (at_work m (Link dest) 0 slots t log) t
      → Held 0 0 now may × (m.clean ≡ true) → Working g m (batching (Link dest) 0 slots t) log now may f
      → Does g (call_of_act g (at_work m (Link dest) 0 slots t log) (batch_at (Link dest) 0 slots t) (next_act (running (Link dest) 0))) reply now may new_now new_may
      → Keeps g new_now new_may f (batch_step g (at_work m (Link dest) 0 slots t log) (batch_at (Link dest) 0 slots t) reply)
  link_writes reply write h w does =
      lead_writes g m (Link dest) slots t log f 0 (omega arith) write (picked 0 h.0) now new_now may new_may w dest
      (get_or slots 0 []) reply h.0.ready.inside h.0.ready.kind (holds_one dest dest refl)
      (λ tried is. (record { ready = h.0.ready; wrote = λ one. is ∙ ap (λ s. get_or s 0 []) h.0.ready.buffer; durable = λ two. absurd (omega arith) }, h.1)) does

  pub link_flushes : (reply : Reply) → ForWrite g (at_work m (Link dest) 1 slots t log) t
      → Held 1 1 now may × (m.clean ≡ true) → Working g m (batching (Link dest) 1 slots t) log now may f
      → Does g (call_of_act g (at_work m (Link dest) 1 slots t log) (batch_at (Link dest) 1 slots t) (next_act (running (Link dest) 1))) reply now may new_now new_may
      → Keeps g new_now new_may f (batch_step g (at_work m (Link dest) 1 slots t log) (batch_at (Link dest) 1 slots t) reply)
  link_flushes reply write h w does =
      lead_flushes g m (Link dest) slots t log f 1 (omega arith) write (picked 1 h.0) now new_now may new_may w reply
      (λ done. (record { ready = h.0.ready; wrote = λ one. h.0.wrote (omega arith); durable = λ two. done dest h.0.ready.inside }, h.1)) does

  module _ (h : Held 2 2 now may) (clean : m.clean ≡ true)
      (w : Working g m (batching (Link dest) 2 slots t) log now may f) where
    abbrev k : IsKept g (working m (batching (Link dest) 2 slots t) log) now may f Checkpoint log
    k = w.kept

    abbrev new : Generation
    new = log_for (Link dest) slots log

    abbrev entry : Backup
    entry = copy_entry 0 dest 1 slots

    above : 0 < dest
    above =
        above_0 m.kinds dest w.memory.table.zeroth
        (λ is. let clash : BackupKind ≡ Sector0 = sym h.ready.kind ∙ is in absurd (grind arith))

    change : LogChange g m.kinds m.trimmed log (Link dest) slots
    change = link_change g m.kinds m.clean m.trimmed log slots w.memory.sizes w.memory.table dest h.ready k.sound

    pub link_spelled : log_in g (spelling g (log_for (Link dest) slots log)) ≡ Some (log_for (Link dest) slots log)
    link_spelled = spelled g new w.memory.sizes change.sound.generation change.sound.fits

    -- the full log is the first older one behind it
    pub link_guarded : WriteTried 0 (spelling g (log_for (Link dest) slots log)) now new_now may new_may
        → Guarded g f.used f.saved (device_of (working (record m { clean = false }) Empty new) new (log ∷ k.older) k.clean_log k.clean_older new_now new_may)
    link_guarded tried = link_logged g f.used f.saved before after entry change.sound.generation.each.0 given (k.clean clean) k.leaves refl refl refl (add-one log.sequence) refl change.sound.generation k.sound.own made sum
      where
        before : Device
        before =
            device_of (working m (batching (Link dest) 2 slots t) log) log k.older k.clean_log k.clean_older now may

        after : Device
        after =
            device_of (working (record m { clean = false }) Empty new) new (log ∷ k.older) k.clean_log k.clean_older new_now new_may

        at_dest : (x : ℕ) → InDest entry x → x ≡ dest
        at_dest x i = in_one dest x i.above i.below

        given : LogGiven g entry before after
        given = record {
          block = spelling g new;
          spelled = link_spelled;
          write = tried.given;
          clean_log = refl;
          clean_older = refl;
          dest_picked = λ x i. holds_one dest x (at_dest x i);
          dest_flushed = λ x i. subst (λ y. may y ≡ now y ∷ []) (sym (at_dest x i)) (h.durable (omega arith));
          dest_given = λ x i. holds_none x;
          dest_kind = λ x i. ap (kind_at m.kinds) (at_dest x i) ∙ h.ready.kind;
          others_picked = λ x out. holds_none x ∙ sym (holds_other dest x (λ low high. out (record { above = low; below = high })));
          source_kind = λ x some i. absurd (omega arith);
          others_kind = λ x not_source not_dest. refl;
          zeroth = refl;
        }

        made : log_in g (now dest) ≡ Some log
        made = ap (log_in g) (h.wrote (omega arith)) ∙ spelled g log w.memory.sizes k.sound.generation k.sound.fits

        there : new_now dest ≡ spelling g log
        there = tried.given.others_now dest (λ is. absurd (omega (arith, above))) ∙ h.wrote (omega arith)

        sum : sum_at 0 (run_of new_now dest 1) ≡ sum_at 0 slots
        sum = ap (sum_at 0) (ap (λ v. v ∷ []) there ∙ sym h.ready.buffer)

    pub link_logs : WriteTried 0 (spelling g (log_for (Link dest) slots log)) now new_now may new_may
        → Working g (record m { clean = false }) Empty (log_for (Link dest) slots log) new_now new_may f
    link_logs tried =
        log_changed g m log new m.kinds (batching (Link dest) 2 slots t) now new_now may new_may f (spelling g new)
        (log ∷ k.older) w tried
        (link_guarded tried)
        w.memory.table change.sound (λ b hidden. hidden) refl

  pub link_keeps : (reply : Reply) → ForWrite g (at_work m (Link dest) 2 slots t log) t
      → Held 2 2 now may × (m.clean ≡ true) → Working g m (batching (Link dest) 2 slots t) log now may f
      → Does g (call_of_act g (at_work m (Link dest) 2 slots t log) (batch_at (Link dest) 2 slots t) (next_act (running (Link dest) 2))) reply now may new_now new_may
      → Keeps g new_now new_may f (batch_step g (at_work m (Link dest) 2 slots t log) (batch_at (Link dest) 2 slots t) reply)
  link_keeps reply write h w does =
      log_keeps g m (Link dest) slots t log f now new_now may new_may reply write (λ b kept. kept)
      (link_spelled h.0 h.1 w) (link_logs h.0 h.1 w) does
