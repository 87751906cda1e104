-- From what came of a read to a step of a reader.
use Rattle.std.proofs.Common.{ℕ, ◌≡◌, ◌<◌, ◌+◌, ◌-◌, ◌++◌, true, List, length, take, replicate, Option, Some, None, Result, Ok, Err, MatchOption, arith, refl, sym, ap, ◌∙◌, subst}
use Rattle.std.specs.Prelude.{slice_set}
use Rattle.std.specs.Option.{option_map}
use Rattle.bow_units.specs.declared.failures.NoMemory.{NoMemory}
use Rattle.bow_units.specs.Sizes.{IsValid}
use Rattle.bow_units.specs.declared.sizes.Geometry.{Geometry}
use Rattle.bow_units.specs.declared.requests.Phase.{Phase}
use Rattle.bow_units.specs.declared.requests.Phase.TheVariants.{Trim, Arming, Checkpoint, Deciding, Committed}
use Rattle.bow_disk.specs.Disk.{Content}
use Rattle.bow_log.specs.Generations.{Generation, fields_of, generation_of}
use Rattle.bow_log.specs.Spelling.{Fields}
use Rattle.bow_chain.specs.Places.{pass}
use Rattle.bow_machine.specs.Calls.{Gave}
use Rattle.bow_machine.specs.Memory.{Memory, reserved}
use Rattle.bow_machine.specs.MemoryIsSound.{LogIsHeld, MemoryIsSound}
use Rattle.bow_session.specs.Sessions.{Run}
use Rattle.bow_past.specs.Inside.{FoundBy, LooksBy, ReadsBy}
use Rattle.bow_past.specs.Reach.{IsWanted}
use Rattle.bow_past.specs.Readings.{Reading, KeepsLog, can_read, kept_of, missing_below, next_block, past_logs, with_ended}
use Rattle.bow_past.specs.declared.ended.Ended.{Ended}
use Rattle.bow_past.specs.Steps.{IsPastStep, LooksForLog, ReadsBeside}
use Rattle.bow_past.specs.declared.ended.PastStep.{PastStep}
use Rattle.bow_past.specs.declared.ended.PastStep.TheVariants as steps
use Rattle.bow_past.proofs.Beside.{log_is}
use Rattle.bow_past.proofs.Kept.{kept_put, take_front}

-- the log that a device shows is the one in memory
pub memory_is : (g : Geometry) (m : Memory) → MemoryIsSound g m → (l : Fields) → Some l ≡ option_map (fields_of g) m.log → m.log ≡ Some (generation_of g l)
memory_is g m s l shown = go m.log refl shown
  where
    go : (o : Option Generation) → m.log ≡ o → Some l ≡ option_map (fields_of g) o → m.log ≡ Some (generation_of g l)
    go None is shown = absurd (cc shown)
    go (Some x) is none = is ∙ ap Some (sym ((log_is g m s l shown).1 x is))

-- what a reader that can read finds
pub can_parts : (p : Reading) (phase : Phase) → can_read p phase ≡ true → (phase ≡ Checkpoint) × (length p.ended < p.extent.count)
can_parts p Trim can = absurd (cc can)
can_parts p Arming can = absurd (cc can)
can_parts p Checkpoint can = (refl, grind (arith, can))
can_parts p Deciding can = absurd (cc can)
can_parts p Committed can = absurd (cc can)

-- in the checkpoint there is a log in memory
pub some_log : (g : Geometry) (m : Memory) → MemoryIsSound g m → m.phase ≡ Checkpoint → None ≡ option_map (fields_of g) m.log → ⊥
some_log g m s phase shown = go m.log refl shown
  where
    go : (o : Option Generation) → m.log ≡ o → None ≡ option_map (fields_of g) o → ⊥
    go None is shown = subst (λ l. LogIsHeld g m.kinds m.clean m.trimmed (reserved m.hand).count Checkpoint l) is (subst (λ p. LogIsHeld g m.kinds m.clean m.trimmed (reserved m.hand).count p m.log) phase s.log)
    go (Some x) is shown = cc shown

module _ {D : Type 0} (stated : D → Option Geometry) (content : D → Option Content) (moment : D → ℕ) (left : D → ℕ → List (List ℕ) → Type 0) (faults : D → ℕ) (p : Reading) (v : Run D) (l : Fields)
    (some : v.core.memory.log ≡ Some (generation_of p.geometry l)) (can : can_read p v.core.memory.phase ≡ true) where
  looks_for : (w : Run D) (wanted place : ℕ) → missing_below (kept_of p) l.sequence ≡ Some wanted → place ≡ pass (generation_of p.geometry l).entries (past_logs p.geometry (kept_of p) (wanted + 1) (l.sequence - (wanted + 1)) 0)
      → (block : List ℕ) → ReadsBeside stated content moment left faults place (Gave block) v w → LooksForLog stated content moment left faults p v w
  looks_for w wanted place missing at block reads = record {
    log = generation_of p.geometry l;
    memory = some;
    wanted = wanted;
    missing = missing;
    block = block;
    reads = subst (λ x. ReadsBeside stated content moment left faults x (Gave block) v w) at reads;
  }

  pub looks_step : (result : Result PastStep NoMemory) (q : Reading) (w : Run D) (wanted place : ℕ) → missing_below (kept_of p) l.sequence ≡ Some wanted
      → place ≡ pass (generation_of p.geometry l).entries (past_logs p.geometry (kept_of p) (wanted + 1) (l.sequence - (wanted + 1)) 0)
      → LooksBy stated content moment left faults p wanted place v result q w → IsPastStep stated content moment left faults p v result q w
  unfolding looks_for
  looks_step (Ok steps.Idle) q w wanted place missing at looks = absurd looks
  looks_step (Ok steps.Working) q w wanted place missing at looks = (can, looks_for w wanted place missing at looks.0 looks.2, looks.1, looks.3, looks.4)
  looks_step (Ok (steps.Got b)) q w wanted place missing at looks = absurd looks
  looks_step (Ok (steps.Failed b)) q w wanted place missing at looks = (can, place, looks)
  looks_step (Ok (steps.Strange b)) q w wanted place missing at looks = (can, looks.0, looks_for w wanted place missing at looks.1 looks.2, looks.3, looks.4)
  looks_step (Err none) q w wanted place missing at looks = looks

  pub reads_step : (result : PastStep) (q : Reading) (w : Run D) (place : ℕ) → next_block p < p.geometry.blocks → missing_below (kept_of p) l.sequence ≡ None
      → place ≡ pass (generation_of p.geometry l).entries (past_logs p.geometry (kept_of p) 0 (l.sequence - 0) (next_block p))
      → ReadsBy stated content moment left faults p place v result q w → IsPastStep stated content moment left faults p v (Ok result) q w
  reads_step steps.Idle q w place on whole at reads = absurd reads
  reads_step steps.Working q w place on whole at reads = absurd reads
  reads_step (steps.Got b) q w place on whole at reads = (
    can,
    reads.0,
    reads.1,
    record {
      log = generation_of p.geometry l;
      memory = some;
      on = on;
      whole = whole;
      reads = subst (λ x. ReadsBeside stated content moment left faults x (Gave reads.1) v w) at reads.2;
    },
    reads.3,
  )
  reads_step (steps.Failed b) q w place on whole at reads = (can, place, reads)
  reads_step (steps.Strange b) q w place on whole at reads = absurd reads

-- one log more, in a place that was made
pub keeps_log : (p q r s : Reading) (k w : ℕ) (log : Fields) → q ≡ record p { kept = p.kept ++ replicate k None } → r ≡ q → w < length r.kept → s ≡ record r { kept = slice_set r.kept w (Some log) } → KeepsLog p w log s
keeps_log p q r s k w log grown same inside is =
    let r_is : r ≡ record p { kept = p.kept ++ replicate k None } = same ∙ grown in
    let s_is : s ≡ record p { kept = slice_set (p.kept ++ replicate k None) w (Some log) } = is ∙ ap (λ (x : Reading). record x { kept = slice_set x.kept w (Some log) }) r_is in (
      s_is ∙ ap (λ (x : Reading). record p { kept = x.kept }) (sym s_is),
      ap kept_of s_is ∙ kept_put p.kept k w log (subst (λ (x : Reading). w < length x.kept) r_is inside),
    )

-- and where no log was found the places go again
pub gives_up : (p q r s : Reading) (k n : ℕ) (e : Ended) → q ≡ record p { kept = p.kept ++ replicate k None } → r ≡ q → n ≡ length p.kept → s ≡ with_ended (record r { kept = take n r.kept }) e → s ≡ with_ended p e
gives_up p q r s k n e grown same many is =
    is
    ∙ ap (λ (x : Reading). with_ended (record x { kept = take n x.kept }) e) (same ∙ grown)
    ∙ ap (λ m. with_ended (record p { kept = take m (p.kept ++ replicate k None) }) e) many
    ∙ ap (λ (x : List (Option Fields)). with_ended (record p { kept = x }) e) (take_front p.kept (replicate k None))

pub next_same : (p q r : Reading) (k : ℕ) → q ≡ record p { kept = p.kept ++ replicate k None } → r ≡ q → next_block r ≡ next_block p
next_same p q r k grown same = ap next_block (same ∙ grown)

-- what was found, told as it is
module _ {D : Type 0} (stated : D → Option Geometry) (content : D → Option Content) (moment : D → ℕ) (left : D → ℕ → List (List ℕ) → Type 0) (faults : D → ℕ) (g : Geometry) (wanted at : ℕ) (v w : Run D) where
  pub found_by : (block : List ℕ) (o : Option Fields) → ReadsBeside stated content moment left faults at (Gave block) v w
      → MatchOption o ((log : Fields) → ¬ IsWanted g block wanted log) (λ log. IsWanted g block wanted log) → FoundBy stated content moment left faults g wanted at v (Ok o) w
  found_by block None reads tells = (block, reads, tells)
  found_by block (Some log) reads tells = (block, reads, tells)

  pub found_some : (o : Option Fields) (log : Fields) → FoundBy stated content moment left faults g wanted at v (Ok o) w → o ≡ Some log
      → (block : List ℕ) × ReadsBeside stated content moment left faults at (Gave block) v w × IsWanted g block wanted log
  found_some o log found is = subst (λ x. FoundBy stated content moment left faults g wanted at v (Ok x) w) is found

  pub found_none : (o : Option Fields) → FoundBy stated content moment left faults g wanted at v (Ok o) w → o ≡ None
      → (block : List ℕ) × ReadsBeside stated content moment left faults at (Gave block) v w × ((log : Fields) → ¬ IsWanted g block wanted log)
  found_none o found is = subst (λ x. FoundBy stated content moment left faults g wanted at v (Ok x) w) is found

-- a device has blocks
pub above_0 : (g h : Geometry) → g ≡ h → IsValid h → 0 < g.blocks
above_0 g h same valid = let e = ap (λ (x : Geometry). x.blocks) same in omega (arith, e, valid)
