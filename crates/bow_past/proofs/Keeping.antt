-- What a step beside a reader keeps, and that the reader's steps come to an end.
use Rattle.std.proofs.Common.{◌≡◌, inl, inr, ℕ, zero, suc, ◌+◌, ◌-◌, ◌<◌, ◌≤◌, ◌++◌, true, false, List, [], ◌∷◌, length, length-append, Option, Some, None, Result, Ok, Err, arith, refl, sym, ap, ◌∙◌, subst}
use Rattle.std.proofs.lemmas.Bool.{cases_eq}
use Rattle.bow_units.specs.declared.failures.NoMemory.{NoMemory}
use Rattle.bow_units.specs.declared.sizes.Geometry.{Geometry}
use Rattle.bow_disk.specs.Disk.{Content, IsShaped}
use Rattle.bow_log.specs.Generations.{Generation}
use Rattle.bow_log.specs.Spelling.{Fields}
use Rattle.bow_flat.specs.Flat.{put}
use Rattle.bow_machine.proofs.MappedWrites.{put_here, put_there}
use Rattle.bow_history.specs.declared.items.Actor.{Actor}
use Rattle.bow_core.specs.Calls.{DoesOne}
use Rattle.bow_history.specs.Sessions.{Turned, Admits, Steps, call_in}
use Rattle.bow_history.specs.SoundSessions.{IsSoundSession}
use Rattle.bow_session.specs.Sessions.{Run, plan_in, state_in}
use Rattle.bow_session.specs.Turns.{IsOneTurn, StepsBy}
use Rattle.bow_past.specs.Agreement.{Agrees, AgreesOver}
use Rattle.bow_past.specs.Beside.{IsBeside, MaybeAgrees}
use Rattle.bow_past.specs.Readings.{Reading, can_read, kept_of, missing_below, with_ended}
use Rattle.bow_past.specs.Running.{ReadsOn, is_reading, reader_after}
use Rattle.bow_past.specs.Steps.{IsPastStep}
use Rattle.bow_past.specs.declared.ended.Ended.{Ended}
use Rattle.bow_past.specs.declared.ended.PastStep.{PastStep}
use Rattle.bow_past.specs.declared.ended.PastStep.TheVariants as steps
use Rattle.bow_past.proofs.Clauses.{still}
use Rattle.bow_past.proofs.Reading.{missing_is}
use Rattle.bow_past.proofs.Stepping.{can_parts}
use Rattle.bow_past.proofs.Turning.{turns_keep_agreement, turns_keep_standing}
use Rattle.bow_past.proofs.Twinned.{told_before}

-- ----------------------------------------------------------------------------------------------------------------
-- How many steps the reader may make.

-- a log that is not kept counts as one
abbrev pub one_missing : Option Fields → ℕ
one_missing None = 1
one_missing (Some log) = 0

-- how many logs of sequences below this one are not kept
abbrev pub missing_count : (ℕ → Option Fields) → ℕ → ℕ
missing_count kept zero = 0
missing_count kept (suc n) = one_missing (kept n) + missing_count kept n

same_count : (kept : ℕ → Option Fields) (w : ℕ) (o : Option Fields) (n : ℕ) → n ≤ w → missing_count (put kept w o) n ≡ missing_count kept n
same_count kept w o zero low = refl
same_count kept w o (suc n) low =
    let one : one_missing (put kept w o n) ≡ one_missing (kept n) = ap one_missing (put_there kept w o n (λ same. absurd (omega (arith, same, low)))) in
    let rest = same_count kept w o n (omega (arith, low)) in
    omega (arith, one, rest)

fewer_missing : (kept : ℕ → Option Fields) (w : ℕ) (log : Fields) (n : ℕ) → kept w ≡ None → w < n → missing_count (put kept w (Some log)) n < missing_count kept n
fewer_missing kept w log zero none below = absurd (omega (arith, below))
fewer_missing kept w log (suc n) none below = elim (cases_eq n w) [
  | inl same ↦
      let new : one_missing (put kept w (Some log) n) ≡ 0 = ap one_missing (put_here kept w (Some log) n same) in
      let old : one_missing (kept n) ≡ 1 = ap one_missing (ap kept same ∙ none) in
      let rest = same_count kept w (Some log) n (omega (arith, same)) in
      omega (arith, new, old, rest)
  | inr other ↦
      let one : one_missing (put kept w (Some log) n) ≡ one_missing (kept n) = ap one_missing (put_there kept w (Some log) n other) in
      let rest = fewer_missing kept w log n none (omega (arith, below, other)) in
      omega (arith, one, rest)
]

-- the sequence of the log in memory
abbrev pub present : Option Generation → ℕ
present None = 0
present (Some log) = log.sequence

-- the blocks that a reader has left, and the logs that it misses
abbrev pub work_left : Reading → Option Generation → ℕ
work_left p log = (p.extent.count - length p.ended) + missing_count (kept_of p) (present log)

-- none, where there is no reader
abbrev pub reading_left : Option Reading → Option Generation → ℕ
reading_left None log = 0
reading_left (Some p) log = suc (work_left p log)

block_less : (p q : Reading) (e : Ended) (log : Option Generation) → length p.ended < p.extent.count → q ≡ with_ended p e → work_left q log < work_left p log
block_less p q e log below is =
    let same : work_left q log ≡ work_left (with_ended p e) log = ap (λ (x : Reading). work_left x log) is in
    let long : length (p.ended ++ e ∷ []) ≡ length p.ended + 1 = length-append p.ended (e ∷ []) in
    omega (arith, same, long, below)

log_less : (p q : Reading) (o : Option Generation) (log : Generation) (wanted : ℕ) (l : Fields) → o ≡ Some log → missing_below (kept_of p) log.sequence ≡ Some wanted → q ≡ record p { kept = q.kept } → kept_of q ≡ put (kept_of p) wanted (Some l)
    → work_left q o < work_left p o
log_less p q o log wanted l some missing is kept =
    let w = missing_is (kept_of p) log.sequence wanted missing in
    let less = fewer_missing (kept_of p) wanted l log.sequence w.1 w.0 in
    let at : present o ≡ log.sequence = ap present some in
    let new : missing_count (kept_of q) (present o) ≡ missing_count (put (kept_of p) wanted (Some l)) log.sequence = ap (λ k. missing_count k (present o)) kept ∙ ap (missing_count (put (kept_of p) wanted (Some l))) at in
    let old : missing_count (kept_of p) (present o) ≡ missing_count (kept_of p) log.sequence = ap (missing_count (kept_of p)) at in
    let count : q.extent.count - length q.ended ≡ p.extent.count - length p.ended = ap (λ (x : Reading). x.extent.count - length x.ended) is in
    omega (arith, less, new, old, count)

module _ {D : Type 0} (stated : D → Option Geometry) (content : D → Option Content) (moment : D → ℕ) (left : D → ℕ → List (List ℕ) → Type 0) (faults : D → ℕ) where
  step_less : (p : Reading) (v : Run D) (result : Result PastStep NoMemory) (q : Reading) (w : Run D) → can_read p v.core.memory.phase ≡ true → IsPastStep stated content moment left faults p v result q w
      → reading_left (reader_after result q) v.core.memory.log < reading_left (Some p) v.core.memory.log
  step_less p v (Ok steps.Idle) q w can step = absurd (let clash : true ≡ false = sym can ∙ step.0 in grind (arith, clash))
  step_less p v (Ok steps.Working) q w can step =
      let less = log_less p q v.core.memory.log (step.1).log (step.1).wanted step.2 (step.1).memory (step.1).missing step.4.0 step.4.1 in
      omega (arith, less)
  step_less p v (Ok (steps.Got b)) q w can step = let less = block_less p q _ v.core.memory.log (can_parts p v.core.memory.phase can).1 step.4 in omega (arith, less)
  step_less p v (Ok (steps.Failed b)) q w can step = let less = block_less p q _ v.core.memory.log (can_parts p v.core.memory.phase can).1 step.2.2 in omega (arith, less)
  step_less p v (Ok (steps.Strange b)) q w can step = let less = block_less p q _ v.core.memory.log (can_parts p v.core.memory.phase can).1 step.4 in omega (arith, less)
  step_less p v (Err none) q w can step = omega arith

  -- each step of the reader leaves fewer
  pub reads_less : (r : Option Reading) (v : Run D) (s : Option Reading) (w : Run D) → is_reading r v.core.memory.phase ≡ true → ReadsOn stated content moment left faults r v s w
      → reading_left s v.core.memory.log < reading_left r v.core.memory.log
  reads_less None v s w can reads = absurd reads
  reads_less (Some p) v s w can reads = subst (λ x. reading_left x v.core.memory.log < reading_left (Some p) v.core.memory.log) (sym reads.3) (step_less p v reads.0 reads.1 w can reads.2)

  -- and nothing else of the session changes by it but the disk and the count of calls
  pub reads_still : (r : Option Reading) (v : Run D) (s : Option Reading) (w : Run D) → ReadsOn stated content moment left faults r v s w → w ≡ record v { core = record v.core { disk = w.core.disk; calls = w.core.calls } }
  reads_still None v s w reads = absurd reads
  reads_still (Some p) v s w reads = still stated content moment left faults p v reads.0 reads.1 w reads.2

  -- ----------------------------------------------------------------------------------------------------------------
  -- A turn of the session.

  -- a disk that tells its content after a turn told it before
  pub turn_told : (old : Run D) (turn : Turned) (new : Run D) → IsOneTurn stated content moment left faults old turn new → (e : Content) → content new.core.disk ≡ Some e → (c : Content) × (content old.core.disk ≡ Some c)
  turn_told old (Admits lane ticket op) new one e is = (e, sym (ap content (one.passes).0) ∙ is)
  turn_told old (Steps actor reply) new one e is = told_before (DoesOne (call_in (plan_in old) (state_in old) (Steps actor reply)) reply) (content old.core.disk) (content new.core.disk) e is (one.passes).disk

  turn_sizes : (old : Run D) (turn : Turned) (new : Run D) → stated old.core.disk ≡ Some old.core.geometry → IsOneTurn stated content moment left faults old turn new → stated new.core.disk ≡ Some old.core.geometry
  turn_sizes old (Admits lane ticket op) new sizes one = ap stated (one.passes).0 ∙ sizes
  turn_sizes old (Steps actor reply) new sizes one = (one.passes).sizes

  pub beside_turned : (shaped : (d : D) (c : Content) → content d ≡ Some c → (g : Geometry) → stated d ≡ Some g → IsShaped g.block_size g.blocks c)
      → (r : Option Reading) (old : Run D) (actor : Actor) (new : Run D) → IsBeside stated content r old → IsSoundSession (plan_in old) (state_in old) → StepsBy stated content moment left faults old actor new → IsBeside stated content r new
  beside_turned shaped r old actor new k sound (turn, is, one) = record {
    agrees = agrees r k.agrees;
    sizes = turn_sizes old turn new k.sizes one ∙ ap Some (sym one.geometry);
    stands = λ e at. let c = turn_told old turn new one e at in let f = k.stands c.0 c.1 in turns_keep_standing stated content moment left faults shaped old new turn f.0 f.1 sound k.sizes one;
  }
    where
      agrees : (r : Option Reading) → MaybeAgrees content r old.core → MaybeAgrees content r new.core
      agrees None a = tt
      agrees (Some p) a = by (content new.core.disk) refl
        where
          by : (o : Option Content) → content new.core.disk ≡ o → Agrees content p new.core
          by None at = record {
            sizes = a.sizes ∙ sym one.geometry;
            logs = subst (λ o. AgreesOver new.core.geometry o new.core.memory.log (kept_of p) new.core.memory.phase) (sym at) tt;
          }
          by (Some e) at =
              let c = turn_told old turn new one e at in
              let f = k.stands c.0 c.1 in
              turns_keep_agreement stated content moment left faults shaped p old new turn f.0 f.1 k.sizes one a
