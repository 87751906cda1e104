-- A batch that backs up blocks: its log has one backup more, for all of them.
use Rattle.std.proofs.Common.{ℕ, zero, suc, ◌+◌, ◌-◌, ◌*◌, ◌<◌, ◌≤◌, ◌≡◌, ◌⊎◌, true, false, List, [], ◌∷◌, ◌++◌, length, get_or, Some, arith, refl, sym, ap, ap₂, ◌∙◌, subst, inl, inr}
use Rattle.bow_units.specs.declared.sizes.Geometry.{Geometry}
use Rattle.bow_units.specs.declared.sizes.Extent.{Extent}
use Rattle.bow_units.specs.declared.requests.Phase.TheVariants.{Checkpoint}
use Rattle.bow_units.specs.declared.statuses.Kind.{Kind}
use Rattle.bow_units.specs.declared.statuses.Kind.TheVariants.{Sector0, Backup as BackupKind, Saved}
use Rattle.bow_flat.specs.Flat.{Flat}
use Rattle.bow_log.specs.Generations.{Backup, Generation, IsBackup}
use Rattle.bow_chain.specs.Contents.{Contents, run_of}
use Rattle.bow_chain.specs.Places.{hop, InSource, InDest}
use Rattle.bow_chain.specs.Sound.{log_in, sum_at}
use Rattle.bow_chain.proofs.Hops.{hop_in}
use Rattle.bow_copy.specs.Acts.{next_act}
use Rattle.bow_copy.specs.declared.jobs.Job.{Job}
use Rattle.bow_copy.specs.declared.jobs.Job.TheVariants.{Copy}
use Rattle.bow_guard.specs.Cuts.{Candidates}
use Rattle.bow_guard.specs.Device.{Device, LogGiven}
use Rattle.bow_guard.specs.Guard.{Guarded}
use Rattle.bow_guard.proofs.Device.{copy_logged}
use Rattle.bow_queue.specs.declared.tickets.Ticket.{Ticket}
use Rattle.bow_ranges.specs.Kinds.{kind_at, with_kind, holds}
use Rattle.bow_machine.specs.Memory.{Memory, Empty, reserved}
use Rattle.bow_machine.specs.Calls.{Reply, WriteTried, Does}
use Rattle.bow_machine.specs.Tasks.{spelling}
use Rattle.bow_machine.specs.Steps.{copy_entry, batch_step, call_of_act}
use Rattle.bow_machine.specs.MemoryIsSound.{ForWrite}
use Rattle.bow_machine.proofs.Held.{device_of, IsKept, IsHidden, copy_on}
use Rattle.bow_machine.proofs.Spelled.{spelled}
use Rattle.bow_machine.proofs.Tables.{holds_cases, kind_in, kind_out}
use Rattle.bow_machine.proofs.BatchActs.{lead, running, lead_copy, log_act}
use Rattle.bow_machine.proofs.BatchStands.{working, Working, holds_none}
use Rattle.bow_machine.proofs.SoundLogs.{above_0, source_not_0, LogChange, copy_change}
use Rattle.bow_machine.specs.MemoryIsSound.{LogIsSound}
use Rattle.bow_machine.proofs.Hands.{Keeps}
use Rattle.bow_machine.proofs.BatchSteps.{batch_at, batching, at_work, reserves}
use Rattle.bow_machine.proofs.BatchLogs.{log_changed, log_keeps}
use Rattle.bow_machine.proofs.BatchCopies.{CopyInHand}

-- a run of blocks that hold these contents
run_is : (now : Contents) (first n : ℕ) (slots : List (List ℕ)) → length slots ≡ n
    → ((j : ℕ) → j < n → now (first + j) ≡ get_or slots j []) → run_of now first n ≡ slots
run_is now first zero [] long same = refl
run_is now first zero (v ∷ vs) long same = absurd (omega arith)
run_is now first (suc n) [] long same = absurd (omega arith)
run_is now first (suc n) (v ∷ vs) long same =
    let here : first + 0 ≡ first = omega arith in
    ap₂ ◌∷◌ (ap now (sym here) ∙ same 0 (omega arith))
    (run_is now (suc first) n vs (omega arith) (λ j below. let next : suc first + j ≡ first + suc j = omega arith in ap now next ∙ same (suc j) (omega arith)))

module _ (g : Geometry) (m : Memory) (source dest count : ℕ) (slots : List (List ℕ)) (t : Ticket) (log : Generation)
    (f : Flat) (now new_now : Contents) (may new_may : Candidates) where
  abbrev pub job : Job
  job = Copy source dest count

  abbrev pub source_extent : Extent
  source_extent = record { first = source; count = count }

  abbrev pub dest_extent : Extent
  dest_extent = record { first = dest; count = count }

  abbrev pub kinds : List Kind
  kinds = with_kind m.kinds source_extent Saved

  abbrev pub entry : Backup
  entry = copy_entry source dest count slots

  abbrev pub new : Generation
  new = record log { entries = log.entries ++ entry ∷ [] }

  module _ (h : CopyInHand g m source dest count slots t log f now new_now may new_may (lead job) slots now may)
      (clean : m.clean ≡ true) (w : Working g m (batching job (lead job) slots t) log now may f) where
    abbrev k : IsKept g (working m (batching job (lead job) slots t) log) now may f Checkpoint log
    k = w.kept

    full : length slots ≡ count
    full = omega (arith, h.ready.buffer, lead_copy source dest count)

    late : 2 * count < lead job
    late = omega (arith, lead_copy source dest count)

    fits : source + count ≤ length m.kinds
    fits = omega (arith, h.ready.source_inside, w.memory.table.size)

    first : (b : ℕ) → b + 0 ≡ b
    first b = omega arith

    source_above : 0 < source
    source_above =
        above_0 m.kinds source w.memory.table.zeroth
        (λ is. source_not_0 _ (h.ready.sources 0 h.ready.some) (ap (kind_at m.kinds) (first source) ∙ is))

    dest_above : 0 < dest
    dest_above =
        above_0 m.kinds dest w.memory.table.zeroth
        (λ is. let clash : BackupKind ≡ Sector0 = sym (h.ready.dests 0 h.ready.some) ∙ ap (kind_at m.kinds) (first dest) ∙ is in absurd (grind arith))

    -- a source is saved, and each other block has its old kind
    pub each_kind : (P : ℕ → Kind → Type 0) → ((j : ℕ) → j < count → P (source + j) Saved)
        → ((x : ℕ) → (InSource entry x → ⊥) → P x (kind_at m.kinds x)) → (x : ℕ) → P x (kind_at kinds x)
    each_kind P here other x = elim (holds_cases source_extent x) [
      | inl (low, high, held) ↦ let there : source + (x - source) ≡ x = omega arith in subst (P x) (sym (kind_in m.kinds source_extent Saved x fits low high)) (subst (λ y. P y Saved) there (here (x - source) (omega arith)))
      | inr (out, held) ↦ subst (P x) (sym (kind_out m.kinds source_extent Saved x fits out)) (other x (λ i. outside x i out))
    ]
      where
        outside : (x : ℕ) → InSource entry x → (x < source) ⊎ (source + count ≤ x) → ⊥
        outside x i out = omega arith

    kept_kind : (x : ℕ) → (InSource entry x → ⊥) → kind_at kinds x ≡ kind_at m.kinds x
    kept_kind x out = elim (holds_cases source_extent x) [
      | inl (low, high, held) ↦ absurd (out (record { above = low; below = high }))
      | inr (outside, held) ↦ kind_out m.kinds source_extent Saved x fits outside
    ]

    backup_ok : IsBackup g entry
    backup_ok = record { some = h.ready.some; source_inside = h.ready.source_inside; dest_inside = h.ready.dest_inside; apart = h.ready.apart; dest_not_0 = dest_above }

    was_reserved : reserved (batching job (lead job) slots t) ≡ dest_extent
    was_reserved = reserves job (lead job) slots t (omega arith)

    change : LogChange g m.kinds m.trimmed log job slots
    change = copy_change g m.kinds m.clean m.trimmed log slots w.memory.sizes w.memory.table source dest count
        (copy_on g m.kinds log source dest count (lead job) (2 * count + 1) slots slots (omega (arith, full)) h.ready) (subst (λ (e : Extent). LogIsSound g m.kinds m.clean m.trimmed e.count log) was_reserved k.sound)

    pub copy_spelled : log_in g (spelling g new) ≡ Some new
    copy_spelled = spelled g new w.memory.sizes change.sound.generation change.sound.fits

    -- the older logs are the same behind it
    pub copy_guarded : WriteTried 0 (spelling g new) now new_now may new_may
        → Guarded g f.used f.saved (device_of (working (record m { kinds = kinds; clean = false }) Empty new) new k.older k.clean_log k.clean_older new_now new_may)
    copy_guarded tried = copy_logged g f.used f.saved before after entry backup_ok given (k.clean clean) k.leaves refl refl change.sound.generation made sum
      where
        before : Device
        before =
            device_of (working m (batching job (lead job) slots t) log) log k.older k.clean_log k.clean_older now may

        after : Device
        after =
            device_of (working (record m { kinds = kinds; clean = false }) Empty new) new k.older k.clean_log k.clean_older new_now new_may

        to_dest : (x : ℕ) → InDest entry x → dest + (x - dest) ≡ x
        to_dest x i = omega arith

        dest_below : (x : ℕ) → InDest entry x → x - dest < count
        dest_below x i = omega arith

        dest_not_source : (x : ℕ) → InDest entry x → InSource entry x → ⊥
        dest_not_source x i j = omega (arith, h.ready.apart)

        dest_holds : (x : ℕ) → InDest entry x → holds dest_extent x ≡ true
        dest_holds x i = elim (holds_cases dest_extent x) [ inl (low, high, held) ↦ held | inr (out, held) ↦ absurd (omega (arith, out, i)) ]

        dest_holds_not : (x : ℕ) → (InDest entry x → ⊥) → holds dest_extent x ≡ false
        dest_holds_not x out = elim (holds_cases dest_extent x) [ inl (low, high, held) ↦ absurd (out (record { above = low; below = high })) | inr (outside, held) ↦ held ]

        picked_is : (x : ℕ) → holds (reserved (batching job (lead job) slots t)) x ≡ holds dest_extent x
        picked_is x = ap (λ (e : Extent). holds e x) was_reserved

        durable : (x : ℕ) → InDest entry x → may x ≡ now x ∷ []
        durable x i = subst (λ y. may y ≡ now y ∷ []) (to_dest x i) (h.durable late (x - dest) (dest_below x i))

        given : LogGiven g entry before after
        given = record {
          block = spelling g new;
          spelled = copy_spelled;
          write = tried.given;
          clean_log = refl;
          clean_older = refl;
          dest_picked = λ x i. picked_is x ∙ dest_holds x i;
          dest_flushed = durable;
          dest_given = λ x i. holds_none x;
          dest_kind = λ x i. kept_kind x (dest_not_source x i) ∙ ap (kind_at m.kinds) (sym (to_dest x i)) ∙ h.ready.dests (x - dest) (dest_below x i);
          others_picked = λ x out. holds_none x ∙ sym (picked_is x ∙ dest_holds_not x out);
          source_kind = λ x some i. kind_in m.kinds source_extent Saved x fits i.above i.below;
          others_kind = λ x out not_dest. kept_kind x out;
          zeroth = kept_kind 0 (λ i. absurd (omega (arith, source_above)));
        }

        wrote : (j : ℕ) → j < count → now (dest + j) ≡ get_or slots j []
        wrote j below = h.wrote j below (omega (arith, late))

        made : (x : ℕ) → InSource entry x → now (hop entry x) ≡ now x
        made x i =
            let below : x - source < count = omega arith in
            let there : source + (x - source) ≡ x = omega arith in
            ap now (hop_in entry x i) ∙ wrote (x - source) below
            ∙ sym (h.read (x - source) (omega (arith, full, below))) ∙ ap now there

        sum : sum_at source (run_of new_now dest count) ≡ sum_at source slots
        sum =
            ap (sum_at source)
            (run_is new_now dest count slots full (λ j below. tried.given.others_now (dest + j) (λ is. absurd (omega (arith, dest_above))) ∙ wrote j below))

    pub copy_logs : WriteTried 0 (spelling g new) now new_now may new_may
        → Working g (record m { kinds = kinds; clean = false }) Empty new new_now new_may f
    copy_logs tried =
        log_changed g m log new kinds (batching job (lead job) slots t) now new_now may new_may f (spelling g new) k.older w tried
        (copy_guarded tried)
        change.is_table change.sound
        (each_kind (λ x kind. IsHidden kind → IsHidden (kind_at m.kinds x)) (λ j below hidden. absurd (grind arith)) (λ x out hidden. hidden))
        refl

  pub copy_keeps : (reply : Reply) → ForWrite g (at_work m job (lead job) slots t log) t
      → CopyInHand g m source dest count slots t log f now new_now may new_may (lead job) slots now may × (m.clean ≡ true)
      → Working g m (batching job (lead job) slots t) log now may f
      → Does g (call_of_act g (at_work m job (lead job) slots t log) (batch_at job (lead job) slots t) (next_act (running job (lead job)))) reply now may new_now new_may
      → Keeps g new_now new_may f (batch_step g (at_work m job (lead job) slots t log) (batch_at job (lead job) slots t) reply)
  copy_keeps reply write h w does = log_keeps g m job slots t log f now new_now may new_may reply write
      (change h.0 h.1 w).kept_back
      (copy_spelled h.0 h.1 w) (copy_logs h.0 h.1 w)
      (subst (λ a. Does g (call_of_act g (at_work m job (lead job) slots t log) (batch_at job (lead job) slots t) a) reply now may new_now new_may) (log_act job) does)
