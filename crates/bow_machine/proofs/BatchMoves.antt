-- A batch that moves the current content of block 0 to a picked block.
use Rattle.std.proofs.Common.{ℕ, ◌+◌, ◌<◌, ◌≡◌, ◌≢◌, ◌⊎◌, true, false, List, [], ◌∷◌, ◌++◌, length, get_or, Some, arith, refl, sym, ap, ◌∙◌, inl, inr}
use Rattle.bow_units.specs.declared.sizes.Geometry.{Geometry}
use Rattle.bow_units.specs.declared.requests.Phase.TheVariants.{Checkpoint}
use Rattle.bow_units.specs.declared.statuses.Kind.{Kind}
use Rattle.bow_units.specs.declared.statuses.Kind.TheVariants.{Sector0, Current, Unchanged, Backup, Saved}
use Rattle.bow_flat.specs.Flat.{Flat}
use Rattle.bow_log.specs.Generations.{Generation}
use Rattle.bow_chain.specs.Contents.{Contents}
use Rattle.bow_chain.specs.Sound.{log_in}
use Rattle.bow_copy.specs.Acts.{next_act}
use Rattle.bow_copy.specs.declared.jobs.Job.TheVariants.{Move}
use Rattle.bow_guard.specs.Cuts.{Candidates}
use Rattle.bow_guard.specs.Device.{Device, Safe}
use Rattle.bow_guard.proofs.Device.{move_logged}
use Rattle.bow_queue.specs.declared.tickets.Ticket.{Ticket}
use Rattle.bow_ranges.specs.Kinds.{kind_at, holds}
use Rattle.bow_machine.specs.Memory.{Memory, Empty}
use Rattle.bow_machine.specs.Calls.{Reply, WriteTried, Does}
use Rattle.bow_machine.specs.Tasks.{spelling}
use Rattle.bow_machine.specs.Steps.{one_block, batch_step, call_of_act}
use Rattle.bow_machine.specs.MemoryIsSound.{ForWrite}
use Rattle.bow_machine.proofs.Held.{device_of, IsKept, IsHidden, MoveHeld, move_on}
use Rattle.bow_machine.proofs.Spelled.{spelled}
use Rattle.bow_machine.proofs.BatchActs.{running}
use Rattle.bow_machine.proofs.BatchStands.{working, Working, holds_none, holds_one, holds_other}
use Rattle.bow_machine.proofs.SoundLogs.{above_0, moved_table, moved_other, moved_cases, LogChange, move_change}
use Rattle.bow_machine.proofs.Hands.{Keeps}
use Rattle.bow_machine.proofs.BatchSteps.{batch_at, batching, at_work}
use Rattle.bow_machine.proofs.BatchLogs.{log_changed, log_keeps}
use Rattle.bow_machine.proofs.BatchLeads.{PicksStand, lead_reads, lead_writes, lead_flushes}

-- ----------------------------------------------------------------------------------------------------------------
-- The table once the place has moved.

first_slot : (slots : List (List ℕ)) (v : List ℕ) → length slots ≡ 0 → slots ++ v ∷ [] ≡ v ∷ []
first_slot [] v none = refl
first_slot (s ∷ slots) v none = absurd (omega arith)

module _ (g : Geometry) (m : Memory) (from to : ℕ) (slots : List (List ℕ)) (t : Ticket) (log : Generation) (f : Flat)
    (now new_now : Contents) (may new_may : Candidates) where
  -- what is in hand, with this many acts done and this buffer
  abbrev Held : ℕ → List (List ℕ) → Contents → Candidates → Type 0
  Held done buffer i j = MoveHeld g (at_work m (Move from to) done buffer t log) log from to done buffer i j

  picked : (done : ℕ) → Held done slots now may → PicksStand g m (Move from to)
  picked done h = record {
    inside = omega (arith, h.ready.inside);
    backup = λ j below. let there : to + j ≡ to = omega arith in ap (kind_at m.kinds) there ∙ h.ready.kind;
  }

  apart : (done : ℕ) → Held done slots now may → Working g m (batching (Move from to) done slots t) log now may f
      → from ≢ to
  apart done h w is = let clash : Current ≡ Backup = sym (w.kept).sound.current ∙ ap (kind_at m.kinds) (sym h.ready.from_current ∙ is) ∙ h.ready.kind in absurd (grind arith)

  -- the current block 0 is read
  pub move_reads : (reply : Reply) → ForWrite g (at_work m (Move from to) 0 slots t log) t
      → Held 0 slots now may × (m.clean ≡ true) → Working g m (batching (Move from to) 0 slots t) log now may f
      → Does g (call_of_act g (at_work m (Move from to) 0 slots t log) (batch_at (Move from to) 0 slots t) (next_act (running (Move from to) 0))) reply now may new_now new_may
      → Keeps g new_now new_may f (batch_step g (at_work m (Move from to) 0 slots t log) (batch_at (Move from to) 0 slots t) reply)
  move_reads reply write h w does =
      lead_reads g m (Move from to) slots t log f 0 (omega arith) write (picked 0 h.0) now new_now may new_may w from reply
      (λ v is. (record { ready = move_on g m.kinds log from to 0 1 slots (slots ++ v ∷ []) (ap length (first_slot slots v h.0.ready.buffer)) h.0.ready; read = λ one. first_slot slots v h.0.ready.buffer ∙ ap (λ u. u ∷ []) is; wrote = λ two. absurd (omega arith); durable = λ three. absurd (omega arith) }, h.1)) does

  pub move_writes : (reply : Reply) → ForWrite g (at_work m (Move from to) 1 slots t log) t
      → Held 1 slots now may × (m.clean ≡ true) → Working g m (batching (Move from to) 1 slots t) log now may f
      → Does g (call_of_act g (at_work m (Move from to) 1 slots t log) (batch_at (Move from to) 1 slots t) (next_act (running (Move from to) 1))) reply now may new_now new_may
      → Keeps g new_now new_may f (batch_step g (at_work m (Move from to) 1 slots t log) (batch_at (Move from to) 1 slots t) reply)
  move_writes reply write h w does =
      lead_writes g m (Move from to) slots t log f 1 (omega arith) write (picked 1 h.0) now new_now may new_may w to
      (get_or slots 0 []) reply h.0.ready.inside h.0.ready.kind (holds_one to to refl)
      (λ tried is. let same = tried.given.others_now from (apart 1 h.0 w) in (
        record {
          ready = move_on g m.kinds log from to 1 2 slots slots h.0.ready.buffer h.0.ready;
          read = λ one. h.0.read (omega arith) ∙ ap (λ v. v ∷ []) (sym same);
          wrote = λ two. is ∙ ap (λ s. get_or s 0 []) (h.0.read (omega arith)) ∙ sym same;
          durable = λ three. absurd (omega arith);
        },
        h.1,
      )) does

  pub move_flushes : (reply : Reply) → ForWrite g (at_work m (Move from to) 2 slots t log) t
      → Held 2 slots now may × (m.clean ≡ true) → Working g m (batching (Move from to) 2 slots t) log now may f
      → Does g (call_of_act g (at_work m (Move from to) 2 slots t log) (batch_at (Move from to) 2 slots t) (next_act (running (Move from to) 2))) reply now may new_now new_may
      → Keeps g new_now new_may f (batch_step g (at_work m (Move from to) 2 slots t log) (batch_at (Move from to) 2 slots t) reply)
  move_flushes reply write h w does =
      lead_flushes g m (Move from to) slots t log f 2 (omega arith) write (picked 2 h.0) now new_now may new_may w reply
      (λ done. (record { ready = move_on g m.kinds log from to 2 3 slots slots h.0.ready.buffer h.0.ready; read = λ one. h.0.read (omega arith); wrote = λ two. h.0.wrote (omega arith); durable = λ three. done to h.0.ready.inside }, h.1)) does

  module _ (h : Held 3 slots now may) (clean : m.clean ≡ true)
      (w : Working g m (batching (Move from to) 3 slots t) log now may f) where
    abbrev k : IsKept g (working m (batching (Move from to) 3 slots t) log) now may f Checkpoint log
    k = w.kept

    abbrev new : Generation
    new = record log { current = to }

    abbrev kinds : List Kind
    kinds = moved_table m.kinds from to

    from_to : from ≢ to
    from_to = apart 3 h w

    from_kind : kind_at m.kinds from ≡ Current
    from_kind = ap (kind_at m.kinds) h.ready.from_current ∙ k.sound.current

    from_inside : from < length m.kinds
    from_inside = omega (arith, h.ready.from_current, k.sound.generation.current_inside, w.memory.table.size)

    to_inside : to < length m.kinds
    to_inside = omega (arith, h.ready.inside, w.memory.table.size)

    pub each_kind : (P : ℕ → Kind → Type 0) → P from Saved → P to Current
        → ((x : ℕ) → x ≢ from → x ≢ to → P x (kind_at m.kinds x)) → (x : ℕ) → P x (kind_at kinds x)
    each_kind P = moved_cases m.kinds from to from_inside to_inside P (λ is. from_to (sym is))

    to_above : 0 < to
    to_above =
        above_0 m.kinds to w.memory.table.zeroth (λ is. let clash : Backup ≡ Sector0 = sym h.ready.kind ∙ is in absurd (grind arith))

    pub change : LogChange g m.kinds m.trimmed log (Move from to) slots
    change = move_change g m.kinds m.clean m.trimmed log slots w.memory.sizes w.memory.table from to h.ready k.sound

    pub move_spelled : log_in g (spelling g (record log { current = to })) ≡ Some (record log { current = to })
    move_spelled = spelled g new w.memory.sizes change.sound.generation change.sound.fits

    pub move_logs : WriteTried 0 (spelling g (record log { current = to })) now new_now may new_may
        → Working g (record m { kinds = moved_table m.kinds from to; clean = false }) Empty (record log { current = to }) new_now new_may f
    move_logs tried =
        log_changed g m log new kinds (batching (Move from to) 3 slots t) now new_now may new_may f (spelling g new) k.older w tried
        (move_logged g f.used f.saved before after from to (spelling g new) tried.given move_spelled (k.clean clean) refl to_above h.ready.inside refl refl refl not_from not_to others change.is_table.zeroth k.leaves)
        change.is_table change.sound
        (each_kind (λ x kind. IsHidden kind → IsHidden (kind_at m.kinds x)) (λ hidden. absurd (grind arith)) (λ hidden. inr (inl h.ready.kind)) (λ x no_from no_to hidden. hidden))
        (h.wrote (omega arith) ∙ ap now h.ready.from_current)
      where
        before : Device
        before =
            device_of (working m (batching (Move from to) 3 slots t) log) log k.older k.clean_log k.clean_older now may

        after : Device
        after =
            device_of (working (record m { kinds = kinds; clean = false }) Empty new) new k.older k.clean_log k.clean_older new_now new_may

        not_safe : (kind : Kind) → kind ≡ Current → ((kind ≡ Unchanged) ⊎ (kind ≡ Backup)) ⊎ (kind ≡ Saved) → ⊥
        not_safe kind is safe = grind arith

        not_from : Safe g before from → ⊥
        not_from s = not_safe (kind_at m.kinds from) from_kind s.kind

        not_to : Safe g before to → ⊥
        not_to s = let clash : true ≡ false = sym (holds_one to to refl) ∙ s.firm.not_picked in absurd (grind arith)

        others : (x : ℕ) → x ≢ from → x ≢ to
            → (kind_at kinds x ≡ kind_at m.kinds x) × (holds (record { first = 0; count = 0 }) x ≡ holds (one_block to) x)
        others x no_from no_to = (moved_other m.kinds from to from_inside to_inside x no_from no_to, holds_none x ∙ sym (holds_other to x (λ low high. no_to (omega arith))))

  pub move_keeps : (reply : Reply) → ForWrite g (at_work m (Move from to) 3 slots t log) t
      → Held 3 slots now may × (m.clean ≡ true) → Working g m (batching (Move from to) 3 slots t) log now may f
      → Does g (call_of_act g (at_work m (Move from to) 3 slots t log) (batch_at (Move from to) 3 slots t) (next_act (running (Move from to) 3))) reply now may new_now new_may
      → Keeps g new_now new_may f (batch_step g (at_work m (Move from to) 3 slots t log) (batch_at (Move from to) 3 slots t) reply)
  move_keeps reply write h w does = log_keeps g m (Move from to) slots t log f now new_now may new_may reply write
      (change h.0 h.1 w).kept_back
      (move_spelled h.0 h.1 w) (move_logs h.0 h.1 w) does
