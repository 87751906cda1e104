-- What follows from what the machine stands for.
use Rattle.std.proofs.Common.{ℕ, ◌≡◌, Bool, true, false, List, Option, Some, None, arith, refl, sym, ap, ◌∙◌, subst, inl, inr}
use Rattle.bow_units.specs.declared.sizes.Geometry.{Geometry}
use Rattle.bow_units.specs.declared.requests.Phase.{Phase}
use Rattle.bow_units.specs.declared.requests.Phase.TheVariants.{Trim, Arming, Checkpoint, Deciding, Committed}
use Rattle.bow_log.specs.Generations.{Generation}
use Rattle.bow_chain.specs.Contents.{Contents, with_block}
use Rattle.bow_chain.specs.Places.{pass}
use Rattle.bow_chain.specs.Sound.{log_in, StandsBehind}
use Rattle.bow_chain.specs.Counting.{AtPlaces}
use Rattle.bow_chain.proofs.Counting.{at_places_map, some_inj, same_chain}
use Rattle.bow_flat.specs.Flat.{Flat}
use Rattle.bow_guard.specs.Cuts.{Candidates}
use Rattle.bow_guard.specs.Device.{Device, Firm, Steady, Safe}
use Rattle.bow_guard.specs.Guard.{KeptBehind, Guarded}
use Rattle.bow_guard.proofs.Device.{steady_safe, not_0}
use Rattle.bow_guard.proofs.Kept.{same_keeps}
use Rattle.bow_ranges.specs.Kinds.{holds}
use Rattle.bow_machine.specs.Memory.{Memory, reserved}
use Rattle.bow_machine.specs.Tasks.{Task, Waits, Answers, WritesBlock, ReadsBlock, FlushesFor, DiscardsFor, Acts, spelling}
use Rattle.bow_machine.specs.Ready.{is_idle}
use Rattle.bow_machine.proofs.Held.{device_of, IsKept, Kept, IsHeld}
use Rattle.bow_machine.specs.Consequences.{TrimmedIsKept, NoneIsPicked, LiveKeeps}
use Rattle.bow_machine.proofs.Spelled.{spelled}
use Rattle.bow_machine.proofs.Joined.{held}

-- with a log in memory, what is kept behind it
pub kept_log : (g : Geometry) (m : Memory) (now : Contents) (may : Candidates) (f : Flat) (phase : Phase) (log : Generation) → Kept g m now may f phase (Some log) → IsKept g m now may f phase log
kept_log g m now may f Trim log k = absurd k
kept_log g m now may f Arming log k = k
kept_log g m now may f Checkpoint log k = k
kept_log g m now may f Deciding log k = k
kept_log g m now may f Committed log k = absurd k

-- the same of a machine that stands
pub standing_log : (g : Geometry) (m : Memory) (now : Contents) (may : Candidates) (f : Flat) (log : Generation) → m.log ≡ Some log → IsHeld g m now may f → IsKept g m now may f m.phase log
standing_log g m now may f log some s = kept_log g m now may f m.phase log (subst (λ l. Kept g m now may f m.phase l) some s.kept)

pub standing_in : (g : Geometry) (m : Memory) (now : Contents) (may : Candidates) (f : Flat) (log : Generation) (phase : Phase) → m.phase ≡ phase → m.log ≡ Some log → IsHeld g m now may f → IsKept g m now may f phase log
standing_in g m now may f log phase is some s = subst (λ p. IsKept g m now may f p log) is (standing_log g m now may f log some s)

pub trimmed_is_kept : TrimmedIsKept
trimmed_is_kept g m now may f log s some = (standing_log g m now may f log some (held g m now may f s)).trimmed

-- ----------------------------------------------------------------------------------------------------------------
-- What is picked.

-- behind a log at firm places, nothing is picked
none_of : (g : Geometry) (used : ℕ → Bool) (saved : Contents) (d : Device) (P : ℕ → Type 0) (l log : Generation) (ls older : List Generation) → ((x : ℕ) → P x → Firm g d x) → l ≡ log → KeptBehind g P used saved d.now l ls → StandsBehind g d.now log older
    → AtPlaces g used (λ x. d.picked x ≡ false) log older
none_of g used saved d P l log ls older firm is kept behind = at_places_map g used P (λ x. d.picked x ≡ false) log older free k.places
  where
    free : (x : ℕ) → P x → d.picked x ≡ false
    free x p = (firm x p).not_picked

    here : KeptBehind g P used saved d.now log ls
    here = subst (λ m. KeptBehind g P used saved d.now m ls) is kept

    same : ls ≡ older
    same = same_chain g d.now (pass log.entries) ls older (sym here.behind.sequence ∙ behind.sequence) here.behind.chain behind.chain

    k : KeptBehind g P used saved d.now log older
    k = subst (KeptBehind g P used saved d.now log) same here

-- no place that counts for these logs is picked
abbrev IsFree : Geometry → Memory → Flat → Generation → List Generation → Type 0
IsFree g m f log older = AtPlaces g f.used (λ x. holds (reserved m.hand) x ≡ false) log older

pub none_is_picked : NoneIsPicked
none_is_picked g m now may f v log older s is has spells behind = go m.log refl (subst (λ p. Kept g m now may f p m.log) is (held g m now may f s).kept)
  where
    go : (o : Option Generation) → m.log ≡ o → Kept g m now may f Checkpoint o → IsFree g m f log older
    go None none k = absurd k
    go (Some l) some k =
        let d = device_of m l k.older k.clean_log k.clean_older now may in
        let guarded : Guarded g f.used f.saved d = k.leaves in
        elim (guarded.heads v has) [
          | inl at ↦ none_of g f.used f.saved d (Steady g d) l log k.older older (λ x p. p.firm) (some_inj (sym at ∙ spells)) guarded.log behind
          | inr at ↦ none_of g f.used f.saved d (Safe g d) k.clean_log log k.clean_older older (λ x p. p.firm) (some_inj (sym at ∙ spells)) guarded.clean behind
        ]

-- ----------------------------------------------------------------------------------------------------------------
-- The log in memory in block 0.

pub block_there : (image : Contents) (b : ℕ) (v : List ℕ) → with_block image b v b ≡ v
unfolding with_block
block_there image b v = grind arith

pub block_other : (image : Contents) (b : ℕ) (v : List ℕ) (x : ℕ) → (x ≡ b → ⊥) → with_block image b v x ≡ image x
unfolding with_block
block_other image b v x ne = grind arith

pub live_keeps : LiveKeeps
live_keeps g m now may f log s is some =
    let k : IsKept g m now may f Checkpoint log = standing_in g m now may f log Checkpoint is some (held g m now may f s) in
    let d = device_of m log k.older k.clean_log k.clean_older now may in
    let guarded : Guarded g f.used f.saved d = k.leaves in
    let other : Contents = with_block now 0 (spelling g log) in
    let kept : KeptBehind g (Steady g d) f.used f.saved other log k.older = same_keeps g f.used f.saved (Steady g d) (Steady g d) now other log k.older (λ x p. p) (λ x p. block_other now 0 (spelling g log) x (not_0 g d x guarded.zeroth (steady_safe g d x p))) guarded.log in
    record {
      log = log;
      older = k.older;
      sound = record { spelled = ap (log_in g) (block_there now 0 (spelling g log)) ∙ spelled g log s.sound.sizes guarded.log.behind.valid k.sound.fits; behind = kept.behind };
      kept = kept.kept;
    }

pub idle_waits : (task : Task) → is_idle task ≡ true → task ≡ Waits
idle_waits Waits is = refl
idle_waits (Answers r outcome) is = absurd (grind arith)
idle_waits (WritesBlock r b) is = absurd (grind arith)
idle_waits (ReadsBlock r b) is = absurd (grind arith)
idle_waits (FlushesFor r) is = absurd (grind arith)
idle_waits (DiscardsFor r) is = absurd (grind arith)
idle_waits (Acts taken) is = absurd (grind arith)
