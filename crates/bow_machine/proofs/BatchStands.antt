-- The machine in Checkpoint with the worker's batch in hand: what the calls that a batch makes on the disk, and the blocks
-- that it picks and gives up, do to what stands.
use Rattle.std.proofs.Common.{ℕ, ◌+◌, ◌-◌, ◌*◌, ◌<◌, ◌≤◌, ◌≡◌, ◌≢◌, ◌⊎◌, true, false, cond, List, [], ◌∷◌, length, Some, None, arith, refl, sym, ap, ◌∙◌, subst, inl, inr, Contains}
use Rattle.std.proofs.lemmas.Bool.{cases_eq}
use Rattle.bow_units.specs.declared.sizes.Geometry.{Geometry}
use Rattle.bow_units.specs.declared.sizes.Extent.{Extent}
use Rattle.bow_units.specs.declared.requests.Phase.TheVariants.{Arming, Checkpoint}
use Rattle.bow_units.specs.declared.statuses.Kind.{Kind}
use Rattle.bow_units.specs.declared.statuses.Kind.TheVariants.{Sector0, Current, Unchanged, Free, Backup, Saved}
use Rattle.bow_flat.specs.Flat.{Flat, May}
use Rattle.bow_flat.specs.Valid.{IsState}
use Rattle.bow_log.specs.Generations.{Generation}
use Rattle.bow_chain.specs.Contents.{Contents}
use Rattle.bow_guard.specs.Cuts.{Candidates, IsFlushed}
use Rattle.bow_guard.specs.Device.{Device, Safe}
use Rattle.bow_guard.proofs.Device.{loose_write, flushed, kinds_changed}
use Rattle.bow_ranges.specs.Kinds.{kind_at, with_kind, holds, is_free}
use Rattle.bow_machine.specs.Memory.{Memory, Hand, Empty, reserved, place_with}
use Rattle.bow_machine.specs.Calls.{WriteTried}
use Rattle.bow_machine.specs.MemoryIsSound.{IsTable, LogIsSound}
use Rattle.bow_machine.proofs.Held.{device_of, HasMemory, IsHidden, IsKept, HandHeld, IsHeld}
use Rattle.bow_machine.specs.Steps.{one_block}
use Rattle.bow_machine.proofs.Hands.{kept_handed, kept_over}
use Rattle.bow_machine.proofs.MappedWrites.{may_none}
use Rattle.bow_machine.proofs.SoundLogs.{IsSpare, spare_table, spare_log}
use Rattle.bow_machine.proofs.Tables.{holds_cases, kind_in, kind_out}

-- the memory in Checkpoint, with this in hand and this log
abbrev pub working : Memory → Hand → Generation → Memory
working m hand log = record m { phase = Checkpoint; hand = hand; log = Some log }

-- all that stands in Checkpoint but what is in hand
pub record Working (g : Geometry) (m : Memory) (hand : Hand) (log : Generation) (now : Contents) (may : Candidates)
    (f : Flat) : Type 0 where
  pub memory : HasMemory g m.kinds m.requests
  pub state : IsState f
  pub phases : f.phase ≡ Checkpoint
  pub held : (b : ℕ) → b < g.blocks → Contains (may b) (now b)
  pub shown : (b : ℕ) → b < g.blocks → May (f.current b) (now (place_with (Some log) b))
  pub kept : IsKept g (working m hand log) now may f Checkpoint log

-- ----------------------------------------------------------------------------------------------------------------
-- Kinds.

spare_hidden : (k : Kind) → IsSpare k → IsHidden k
spare_hidden k (inl is) = inl is
spare_hidden k (inr is) = inr (inl is)

pub never_arming : {A : Type 0} → Checkpoint ≡ Arming → A
never_arming h = absurd (grind arith)

-- an extent of no blocks has none, and one of one block has that one
pub holds_none : (x : ℕ) → holds (record { first = 0; count = 0 }) x ≡ false
holds_none x = grind arith

pub holds_one : (b x : ℕ) → x ≡ b → holds (one_block b) x ≡ true
holds_one b x is = grind arith

pub holds_other : (b x : ℕ) → (b ≤ x → x < b + 1 → ⊥) → holds (one_block b) x ≡ false
holds_other b x out = grind arith

unlike : (a b k : Kind) → k ≡ a → k ≡ b → (a ≢ b) → ⊥
unlike a b k x y ne = ne (sym x ∙ y)

-- ----------------------------------------------------------------------------------------------------------------
-- Where the blocks lie.

pub place_other : (log : Generation) (x : ℕ) → x ≢ 0 → place_with (Some log) x ≡ x
place_other log x ne = grind arith

-- a block lies at its own place, and block 0 at the current place
pub place_cases : (P : ℕ → ℕ → Type 0) (log : Generation) (x : ℕ) → (x ≡ 0 → P x log.current) → (x ≢ 0 → P x x)
    → P x (place_with (Some log) x)
place_cases P log x zeroth other = elim (cases_eq x 0) [
  | inl is ↦ subst (P x) (ap (place_with (Some log)) (sym is)) (zeroth is)
  | inr ne ↦ subst (P x) (sym (place_other log x ne)) (other ne)
]

one_held : (vs : List (List ℕ)) (v : List ℕ) → vs ≡ v ∷ [] → Contains vs v
one_held vs v is = subst (λ us. Contains us v) (sym is) (0, omega arith, refl)

module _ (g : Geometry) where
  pub to_standing : (m : Memory) (hand : Hand) (log : Generation) (now : Contents) (may : Candidates) (f : Flat)
      → Working g m hand log now may f → HandHeld g (working m hand log) hand now may (Some log)
      → IsHeld g (working m hand log) now may f
  to_standing m hand log now may f w h = record { memory = w.memory; state = w.state; phases = w.phases; held = w.held; shown = w.shown; kept = w.kept; in_hand = h }

  pub from_standing : (m : Memory) (hand : Hand) (log : Generation) (now : Contents) (may : Candidates) (f : Flat)
      → IsHeld g (working m hand log) now may f → Working g m hand log now may f
  from_standing m hand log now may f s = record { memory = s.memory; state = s.state; phases = s.phases; held = s.held; shown = s.shown; kept = s.kept }

  module _ (m : Memory) (log : Generation) (f : Flat) where
    -- Another thing is in hand, which has reserved the same blocks.
    pub rehanded : (hand new : Hand) (now : Contents) (may : Candidates) → reserved new ≡ reserved hand
        → Working g m hand log now may f → Working g m new log now may f
    rehanded hand new now may same w = record {
      memory = w.memory;
      state = w.state;
      phases = w.phases;
      held = w.held;
      shown = w.shown;
      kept = kept_handed g now may f (working m hand log) m.requests new same Checkpoint (Some log) w.kept;
    }

    -- A block that the batch has picked is written, or the write fails.
    pub block_written : (hand : Hand) (now new_now : Contents) (may new_may : Candidates) (b : ℕ) (v : List ℕ)
        → WriteTried b v now new_now may new_may → b < g.blocks → kind_at m.kinds b ≡ Backup
        → holds (reserved hand) b ≡ true
        → Working g m hand log now may f → Working g m hand log new_now new_may f
    block_written hand now new_now may new_may b v tried on kind picked w = record {
      memory = w.memory;
      state = w.state;
      phases = w.phases;
      held = λ x inside. elim (cases_eq x b) [
        | inl is ↦ subst (λ y. Contains (new_may y) (new_now y)) (sym is) tried.held
        | inr ne ↦ subst (λ vs. Contains vs (new_now x)) (sym (tried.given.others_may x ne)) (subst (Contains (may x)) (sym (tried.given.others_now x ne)) (w.held x inside))
      ];
      shown = λ x inside. place_cases (λ y p. May (f.current y) (now p) → May (f.current y) (new_now p)) log x
          (λ z old. subst (May (f.current x)) (sym (tried.given.others_now log.current not_current)) old)
          (λ nz old. elim (cases_eq x b) [
            | inl is ↦ may_none (f.current x) (new_now x) (ap f.current is ∙ (k.hidden b on (inr (inl kind))).0)
            | inr ne ↦ subst (May (f.current x)) (sym (tried.given.others_now x ne)) old
          ]) (w.shown x inside);
      kept =
          kept_over g (working m hand log) log now new_now may new_may f f Checkpoint Checkpoint Checkpoint (λ is. is)
          (λ x none. none) refl w.kept
          (loose_write g f.used f.saved before after b above loose (record { now = tried.given.others_now; may = tried.given.others_may }) (record { log = refl; older = refl; clean_log = refl; clean_older = refl }) (λ x ne. (refl, refl)) k.leaves);
    }
      where
        k : IsKept g (working m hand log) now may f Checkpoint log
        k = w.kept

        before : Device
        before = device_of (working m hand log) log k.older k.clean_log k.clean_older now may

        after : Device
        after = device_of (working m hand log) log k.older k.clean_log k.clean_older new_now new_may

        above : b ≢ 0
        above is =
            unlike Backup Sector0 (kind_at m.kinds 0) (ap (kind_at m.kinds) (sym is) ∙ kind) w.memory.table.zeroth
            (λ e. absurd (grind arith))

        not_current : log.current ≢ b
        not_current is =
            unlike Backup Current (kind_at m.kinds b) kind (ap (kind_at m.kinds) (sym is) ∙ k.sound.current)
            (λ e. absurd (grind arith))

        loose : Safe g before b → ⊥
        loose s = let e : true ≡ false = sym picked ∙ s.firm.not_picked in absurd (grind arith)

    -- The disk is flushed.
    pub all_flushed : (hand : Hand) (now : Contents) (may new_may : Candidates) → IsFlushed g now new_may
        → Working g m hand log now may f → Working g m hand log now new_may f
    all_flushed hand now may new_may done w = record {
      memory = w.memory;
      state = w.state;
      phases = w.phases;
      held = λ x inside. one_held (new_may x) (now x) (done x inside);
      shown = w.shown;
      kept =
          kept_over g (working m hand log) log now now may new_may f f Checkpoint Checkpoint Checkpoint (λ is. is)
          (λ x none. none) refl w.kept
          (flushed g f.used f.saved before after (λ x. refl) done (w.held 0 (omega (arith, w.memory.sizes.enough))) (record { log = refl; older = refl; clean_log = refl; clean_older = refl }) (λ x. refl) (λ x. refl) k.leaves);
    }
      where
        k : IsKept g (working m hand log) now may f Checkpoint log
        k = w.kept

        before : Device
        before = device_of (working m hand log) log k.older k.clean_log k.clean_older now may

        after : Device
        after = device_of (working m hand log) log k.older k.clean_log k.clean_older now new_may

    -- The blocks of an extent change from free to picked, or back.
    pub rekinded : (hand new : Hand) (now : Contents) (may : Candidates) (e : Extent) (old kind : Kind)
        → e.first + e.count ≤ g.blocks → ((j : ℕ) → j < e.count → kind_at m.kinds (e.first + j) ≡ old) → IsSpare old
        → IsSpare kind
        → ((k : IsKept g (working m hand log) now may f Checkpoint log) (x : ℕ) → Safe g (device_of (working m hand log) log k.older k.clean_log k.clean_older now may) x → holds e x ≡ true → ⊥)
        → ((x : ℕ) → holds e x ≡ false → holds (reserved new) x ≡ holds (reserved hand) x)
        → (reserved hand).count ≡ e.count * cond (is_free kind) 1 0 → (reserved new).count ≡ e.count * cond (is_free old) 1 0
        → Working g m hand log now may f → Working g (record m { kinds = with_kind m.kinds e kind }) new log now may f
    rekinded hand new now may e old kind inside was spare_old spare apart picks before_it after_it w = record {
      memory = record { sizes = w.memory.sizes; table = table; requests = w.memory.requests; tickets = w.memory.tickets };
      state = w.state;
      phases = w.phases;
      held = w.held;
      shown = w.shown;
      kept = record {
        older = k.older;
        clean_log = k.clean_log;
        clean_older = k.clean_older;
        leaves =
            kinds_changed g f.used f.saved before after (λ x. refl) (λ x. refl)
            (record { log = refl; older = refl; clean_log = refl; clean_older = refl }) (λ x s. safe x s)
            table.zeroth k.leaves;
        clean = λ c. let i = k.clean c in record { log = i.log; older = i.older };
        arming = never_arming;
        sound = subst (λ n. LogIsSound g kinds m.clean m.trimmed n log) (omega (arith, after_it))
            (spare_log g m.kinds e old kind w.memory.table inside was spare_old spare m.clean m.trimmed 0 log (subst (λ n. LogIsSound g m.kinds m.clean m.trimmed n log) (before_it ∙ omega arith) k.sound));
        hidden = hidden;
        trimmed = k.trimmed;
      };
    }
      where
        k : IsKept g (working m hand log) now may f Checkpoint log
        k = w.kept

        kinds : List Kind
        kinds = with_kind m.kinds e kind

        before : Device
        before = device_of (working m hand log) log k.older k.clean_log k.clean_older now may

        after : Device
        after =
            device_of (working (record m { kinds = with_kind m.kinds e kind }) new log) log k.older k.clean_log k.clean_older now may

        fits : e.first + e.count ≤ length m.kinds
        fits = omega (arith, inside, w.memory.table.size)

        in_extent : (x : ℕ) → e.first ≤ x → x < e.first + e.count → kind_at m.kinds x ≡ old
        in_extent x low high = let there : e.first + (x - e.first) ≡ x = omega arith in ap (kind_at m.kinds) (sym there) ∙ was (x - e.first) (omega arith)

        -- a block of the extent has the new kind, each other one its old kind
        new_kind : (x : ℕ)
            → ((kind_at m.kinds x ≡ old) × (kind_at kinds x ≡ kind) × (holds e x ≡ true)) ⊎ ((kind_at kinds x ≡ kind_at m.kinds x) × (holds e x ≡ false))
        new_kind x = elim (holds_cases e x) [
          | inl (low, high, is) ↦ inl (in_extent x low high, kind_in m.kinds e kind x fits low high, is)
          | inr (out, is) ↦ inr (kind_out m.kinds e kind x fits out, is)
        ]

        table : IsTable g kinds
        table = spare_table g m.kinds e old kind w.memory.table inside was spare_old spare

        safe : (x : ℕ) → Safe g before x
            → (kind_at kinds x ≡ kind_at m.kinds x) × (holds (reserved new) x ≡ holds (reserved hand) x)
        safe x s = elim (new_kind x) [ inl h ↦ absurd (apart k x s h.2) | inr h ↦ (h.0, picks x h.1) ]

        hidden : (b : ℕ) → b < g.blocks → IsHidden (kind_at kinds b) → (f.current b ≡ None) × (f.pending b ≡ None)
        hidden b on is = elim (new_kind b) [
          | inl h ↦ k.hidden b on (subst IsHidden (sym h.0) (spare_hidden old spare_old))
          | inr h ↦ k.hidden b on (subst IsHidden h.0 is)
        ]

    -- The blocks that the batch had picked are given up.
    pub gave_up : (hand : Hand) (now : Contents) (may : Candidates) (e : Extent) → reserved hand ≡ e
        → e.first + e.count ≤ g.blocks → ((j : ℕ) → j < e.count → kind_at m.kinds (e.first + j) ≡ Backup)
        → Working g m hand log now may f → Working g (record m { kinds = with_kind m.kinds e Free }) Empty log now may f
    gave_up hand now may e is inside was w = rekinded hand Empty now may e Backup Free inside was (inr refl) (inl refl)
        (λ k x s held. let no : true ≡ false = sym held ∙ ap (λ (r : Extent). holds r x) (sym is) ∙ s.firm.not_picked in absurd (grind arith))
        (λ x out. holds_none x ∙ sym out ∙ ap (λ (r : Extent). holds r x) (sym is))
        (let count : (reserved hand).count ≡ e.count = ap (λ (r : Extent). r.count) is in omega (arith, count)) (omega arith)
        w

    -- Free blocks are picked for a batch.
    pub took : (new : Hand) (now : Contents) (may : Candidates) (e : Extent) → reserved new ≡ e
        → e.first + e.count ≤ g.blocks → ((j : ℕ) → j < e.count → kind_at m.kinds (e.first + j) ≡ Free)
        → Working g m Empty log now may f
        → Working g (record m { kinds = with_kind m.kinds e Backup }) new log now may f
    took new now may e is inside was w = rekinded Empty new now may e Free Backup inside was (inl refl) (inr refl)
        (λ k x s held. no_free (kind_at m.kinds x) (at_free x held) s.kind)
        (λ x out. ap (λ (r : Extent). holds r x) is ∙ out ∙ sym (holds_none x))
        (omega arith) (let count : (reserved new).count ≡ e.count = ap (λ (r : Extent). r.count) is in omega (arith, count))
        w
      where
        no_free : (k : Kind) → k ≡ Free → ((k ≡ Unchanged) ⊎ (k ≡ Backup)) ⊎ (k ≡ Saved) → ⊥
        no_free k free safe = grind arith

        at_free : (x : ℕ) → holds e x ≡ true → kind_at m.kinds x ≡ Free
        at_free x held = elim (holds_cases e x) [
          | inl (low, high, at) ↦ let there : e.first + (x - e.first) ≡ x = omega arith in ap (kind_at m.kinds) (sym there) ∙ was (x - e.first) (omega arith)
          | inr (out, not) ↦ let never : true ≡ false = sym held ∙ not in absurd (grind arith)
        ]
