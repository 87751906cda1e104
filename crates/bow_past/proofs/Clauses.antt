-- The clauses of a step of a reader, from the step itself.
use Rattle.std.proofs.Common.{ℕ, ◌≡◌, ◌-◌, ◌++◌, true, List, [], ◌∷◌, length, Option, Some, None, Result, Ok, Err, IfOk, OnErr, arith, refl, sym, ap, ◌∙◌, subst}
use Rattle.std.specs.Prelude.{nat_le, slice_get, if◌then◌else◌}
use Rattle.bow_units.specs.declared.failures.NoMemory.{NoMemory}
use Rattle.bow_units.specs.declared.sizes.Geometry.{Geometry}
use Rattle.bow_units.specs.declared.requests.Phase.TheVariants.{Checkpoint}
use Rattle.bow_disk.specs.Disk.{Content}
use Rattle.bow_chain.specs.Contents.{contents_of}
use Rattle.bow_guard.specs.Cuts.{candidates_of}
use Rattle.bow_log.specs.Generations.{Generation}
use Rattle.bow_log.specs.Faults.{parts_of}
use Rattle.bow_flat.specs.Flat.{Flat}
use Rattle.bow_chain.specs.Sound.{StandsBehind}
use Rattle.bow_machine.proofs.SoundPast.{readers_follow}
use Rattle.bow_core.specs.Further.{BehindOver}
use Rattle.bow_core.specs.Standing.{StandsIn, StandsOver}
use Rattle.bow_session.specs.Sessions.{Run}
use Rattle.bow_past.specs.Agreement.{Agrees, AgreesOver}
use Rattle.bow_past.specs.Readings.{Reading, bytes_got, bytes_of, kept_of, next_block, with_ended}
use Rattle.bow_past.specs.Reach.{IsWanted}
use Rattle.bow_past.specs.Steps.{GotIsKept, HasFailed, IsKeptOver, IsNotStrange, IsPastStep}
use Rattle.bow_past.specs.declared.ended.Ended.{Ended}
use Rattle.bow_past.specs.declared.ended.Ended.TheVariants.{Got}
use Rattle.bow_past.specs.declared.ended.PastStep.{PastStep}
use Rattle.bow_past.specs.declared.ended.PastStep.TheVariants as steps
use Rattle.bow_past.proofs.Stepping.{can_parts}
use Rattle.bow_past.proofs.Theorem.{agrees_beside, among_more, is_found, is_kept, is_saved, stands_beside, told_same}

get_last : (xs : List Ended) (x : Ended) → slice_get (xs ++ x ∷ []) (length xs) ≡ Some x
get_last [] x = refl
get_last (y ∷ xs) x = get_last xs x

-- what was got last
got_last : (p : Reading) (bytes : List ℕ) → bytes_of (with_ended p (Got bytes)) (next_block p) ≡ Some bytes
got_last p bytes =
    let le : nat_le p.extent.first (next_block p) ≡ true = grind arith in
    let at : next_block p - p.extent.first ≡ length p.ended = omega arith in
    ap (λ b. if b then bytes_got (slice_get (p.ended ++ Got bytes ∷ []) (next_block p - p.extent.first)) else None) le
    ∙ ap (λ n. bytes_got (slice_get (p.ended ++ Got bytes ∷ []) n)) at ∙ ap bytes_got (get_last p.ended (Got bytes))

module _ {D : Type 0} (stated : D → Option Geometry) (content : D → Option Content) (moment : D → ℕ) (left : D → ℕ → List (List ℕ) → Type 0) (faults : D → ℕ) (p : Reading) (v : Run D) where
  -- a disk for which the device stands tells its content
  told_of : (f : Flat) → StandsIn content v.core f → (c : Content) × (content v.core.disk ≡ Some c) × StandsOver v.core.geometry v.core.memory (Some c) f
  told_of f stands = go (content v.core.disk) refl stands
    where
      go : (o : Option Content) → content v.core.disk ≡ o → StandsOver v.core.geometry v.core.memory o f → (c : Content) × (content v.core.disk ≡ Some c) × StandsOver v.core.geometry v.core.memory (Some c) f
      go None is none = absurd none
      go (Some c) is stands = (c, is, stands)

  pub reach : (result : Result PastStep NoMemory) (q : Reading) (w : Run D) → Agrees content p v.core → IsPastStep stated content moment left faults p v result q w
      → (f : Flat) → StandsIn content v.core f → IfOk result (λ step. GotIsKept content v.core f q step)
  reach (Ok steps.Idle) q w agrees step f stands = tt
  reach (Ok steps.Working) q w agrees step f stands = tt
  reach (Ok (steps.Got b)) q w agrees step f stands =
      let t = told_of f stands in
      let c = t.0 in
      let phase : v.core.memory.phase ≡ Checkpoint = (can_parts p v.core.memory.phase step.0).0 in
      let gets = step.3 in
      let follow = readers_follow v.core.geometry v.core.memory (contents_of c.now) (candidates_of c.candidates) f gets.log t.2 phase gets.memory in
      let b_is = step.1 in (
        step.2,
        ap (λ (r : Reading). bytes_of r b) step.4 ∙ ap (bytes_of (with_ended p (Got step.2))) b_is ∙ got_last p step.2,
        λ used. is_saved stated content moment left faults p v w c t.1 phase agrees f t.2 step.2 gets follow.0 follow.1 (subst (λ n. f.used n ≡ true) b_is used) ∙ ap f.saved (sym b_is),
        λ log older some behind.
            let own = subst (λ o. BehindOver v.core.geometry o log older) t.1 behind in
            let same : gets.log ≡ log = log_same gets.log log (sym gets.memory ∙ some) in
            let mine : StandsBehind v.core.geometry (contents_of c.now) gets.log older = subst (λ l. StandsBehind v.core.geometry (contents_of c.now) l older) (sym same) own in
            subst (λ o. IsKeptOver v.core.geometry o log older b step.2) (sym t.1)
            (subst (λ n. IsKeptOver v.core.geometry (Some c) log older n step.2) (sym b_is)
            (subst (λ l. IsKeptOver v.core.geometry (Some c) l older (next_block p) step.2) same
            (is_kept stated content moment left faults p v w c t.1 phase agrees f t.2 step.2 gets older mine))),
      )
    where
      log_same : (one other : Generation) → Some one ≡ Some other → one ≡ other
      log_same one other e = cc e
  reach (Ok (steps.Failed b)) q w agrees step f stands = tt
  reach (Ok (steps.Strange b)) q w agrees step f stands = tt
  reach (Err none) q w agrees step f stands = tt

  pub never_strange : (result : Result PastStep NoMemory) (q : Reading) (w : Run D) → Agrees content p v.core → IsPastStep stated content moment left faults p v result q w
      → (f : Flat) → StandsIn content v.core f → IfOk result (λ step. IsNotStrange step)
  never_strange (Ok steps.Idle) q w agrees step f stands = tt
  never_strange (Ok steps.Working) q w agrees step f stands = tt
  never_strange (Ok (steps.Got b)) q w agrees step f stands = tt
  never_strange (Ok (steps.Failed b)) q w agrees step f stands = tt
  never_strange (Ok (steps.Strange b)) q w agrees step f stands =
      let t = told_of f stands in
      let c = t.0 in
      let phase : v.core.memory.phase ≡ Checkpoint = (can_parts p v.core.memory.phase step.0).0 in
      let looks = step.2 in
      let follow = readers_follow v.core.geometry v.core.memory (contents_of c.now) (candidates_of c.candidates) f looks.log t.2 phase looks.memory in
      step.3 (parts_of looks.block) (subst (λ h. IsWanted h looks.block looks.wanted (parts_of looks.block)) (sym agrees.sizes) (is_found stated content moment left faults p v w c t.1 phase agrees looks follow.0 follow.1))
  never_strange (Err none) q w agrees step f stands = tt

  pub fault_cause : (result : Result PastStep NoMemory) (q : Reading) (w : Run D) → IsPastStep stated content moment left faults p v result q w
      → IfOk result (λ step. HasFailed step (faults v.core.disk) (faults w.core.disk))
  fault_cause (Ok steps.Idle) q w step = tt
  fault_cause (Ok steps.Working) q w step = tt
  fault_cause (Ok (steps.Got b)) q w step = tt
  fault_cause (Ok (steps.Failed b)) q w step = ((step.2.1).made).cause
  fault_cause (Ok (steps.Strange b)) q w step = tt
  fault_cause (Err none) q w step = tt

  pub still : (result : Result PastStep NoMemory) (q : Reading) (w : Run D) → IsPastStep stated content moment left faults p v result q w
      → w ≡ record v { core = record v.core { disk = w.core.disk; calls = w.core.calls } }
  still (Ok steps.Idle) q w step = rest w step.2
    where
      rest : (w : Run D) → w ≡ v → w ≡ record v { core = record v.core { disk = w.core.disk; calls = w.core.calls } }
      rest w e = e ∙ ap (λ (x : Run D). record v { core = record v.core { disk = x.core.disk; calls = x.core.calls } }) (sym e)
  still (Ok steps.Working) q w step = ((step.1).reads).kept
  still (Ok (steps.Got b)) q w step = ((step.3).reads).kept
  still (Ok (steps.Failed b)) q w step = (step.2.1).kept
  still (Ok (steps.Strange b)) q w step = ((step.2).reads).kept
  still (Err none) q w step = step.1 ∙ ap (λ (x : Run D). record v { core = record v.core { disk = x.core.disk; calls = x.core.calls } }) (sym step.1)

  pub image : (result : Result PastStep NoMemory) (q : Reading) (w : Run D) → IsPastStep stated content moment left faults p v result q w → content w.core.disk ≡ content v.core.disk
  image (Ok steps.Idle) q w step = ap (λ (x : Run D). content x.core.disk) step.2
  image (Ok steps.Working) q w step = told_same stated content moment left faults _ _ v w (step.1).reads
  image (Ok (steps.Got b)) q w step = told_same stated content moment left faults _ _ v w (step.3).reads
  image (Ok (steps.Failed b)) q w step = told_same stated content moment left faults _ _ v w step.2.1
  image (Ok (steps.Strange b)) q w step = told_same stated content moment left faults _ _ v w (step.2).reads
  image (Err none) q w step = ap (λ (x : Run D). content x.core.disk) step.1

  pub stands_on : (result : Result PastStep NoMemory) (q : Reading) (w : Run D) → IsPastStep stated content moment left faults p v result q w → (f : Flat) → StandsIn content v.core f → StandsIn content w.core f
  stands_on (Ok steps.Idle) q w step f stands = subst (λ (x : Run D). StandsIn content x.core f) (sym step.2) stands
  stands_on (Ok steps.Working) q w step f stands = stands_beside stated content moment left faults _ _ v w (step.1).reads f stands
  stands_on (Ok (steps.Got b)) q w step f stands = stands_beside stated content moment left faults _ _ v w (step.3).reads f stands
  stands_on (Ok (steps.Failed b)) q w step f stands = stands_beside stated content moment left faults _ _ v w step.2.1 f stands
  stands_on (Ok (steps.Strange b)) q w step f stands = stands_beside stated content moment left faults _ _ v w (step.2).reads f stands
  stands_on (Err none) q w step f stands = subst (λ (x : Run D). StandsIn content x.core f) (sym step.1) stands

  pub memory : (result : Result PastStep NoMemory) (q : Reading) (w : Run D) → IsPastStep stated content moment left faults p v result q w → OnErr result ((q ≡ p) × (w ≡ v))
  memory (Ok s) q w step = tt
  memory (Err none) q w step = step

  -- the same logs are kept
  same_logs : (q : Reading) → Agrees content p v.core → kept_of q ≡ kept_of p → AgreesOver v.core.geometry (content v.core.disk) v.core.memory.log (kept_of q) v.core.memory.phase
  same_logs q agrees same = subst (λ k. AgreesOver v.core.geometry (content v.core.disk) v.core.memory.log k v.core.memory.phase) (sym same) agrees.logs

  pub still_agrees : (result : Result PastStep NoMemory) (q : Reading) (w : Run D) → Agrees content p v.core → IsPastStep stated content moment left faults p v result q w → Agrees content q w.core
  still_agrees (Ok steps.Idle) q w agrees step = subst (λ (x : Run D). Agrees content q x.core) (sym step.2) (subst (λ r. Agrees content r v.core) (sym step.1) agrees)
  still_agrees (Ok steps.Working) q w agrees step =
      let phase : v.core.memory.phase ≡ Checkpoint = (can_parts p v.core.memory.phase step.0).0 in
      agrees_beside stated content moment left faults _ _ v w (step.1).reads p q (ap (λ (r : Reading). r.geometry) step.4.0) (go (content v.core.disk) refl) agrees
    where
      go : (o : Option Content) → content v.core.disk ≡ o → AgreesOver v.core.geometry o v.core.memory.log (kept_of q) v.core.memory.phase
      go None told = tt
      go (Some c) told =
          subst (λ ph. AgreesOver v.core.geometry (Some c) v.core.memory.log (kept_of q) ph) (sym (can_parts p v.core.memory.phase step.0).0)
          (among_more stated content moment left faults p v w c told (can_parts p v.core.memory.phase step.0).0 agrees step.1 step.2 q step.3 step.4)
  still_agrees (Ok (steps.Got b)) q w agrees step =
      agrees_beside stated content moment left faults _ _ v w (step.3).reads p q (ap (λ (r : Reading). r.geometry) step.4) (same_logs q agrees (ap kept_of step.4)) agrees
  still_agrees (Ok (steps.Failed b)) q w agrees step =
      agrees_beside stated content moment left faults _ _ v w step.2.1 p q (ap (λ (r : Reading). r.geometry) step.2.2) (same_logs q agrees (ap kept_of step.2.2)) agrees
  still_agrees (Ok (steps.Strange b)) q w agrees step =
      agrees_beside stated content moment left faults _ _ v w (step.2).reads p q (ap (λ (r : Reading). r.geometry) step.4) (same_logs q agrees (ap kept_of step.4)) agrees
  still_agrees (Err none) q w agrees step = subst (λ (x : Run D). Agrees content q x.core) (sym step.1) (subst (λ r. Agrees content r v.core) (sym step.0) agrees)
