-- A whole run beside a reader: what its writers see of the session goes on being one that was loaded.
use Rattle.std.proofs.Common.{◌≡◌, inl, inr, ℕ, zero, suc, ◌+◌, ◌≤◌, ◌^◌, ◌-◌, min, List, [], ◌∷◌, Option, Some, None, Result, Ok, Err, arith, sym, ap, ◌∙◌, subst}
use Rattle.std.specs.List.{sum_by}
use Rattle.std.proofs.lemmas.List.Sums.{sum_by-append, sum_by-cons}
use Rattle.bow_units.specs.Draws.{next_number}
use Rattle.bow_units.specs.declared.failures.NoMemory.{NoMemory}
use Rattle.bow_units.specs.declared.sizes.Geometry.{Geometry}
use Rattle.bow_disk.specs.Disk.{Content, IsCrash, IsImage, IsShaped}
use Rattle.bow_core.specs.Views.{View}
use Rattle.bow_session.specs.Leads.{WasLoaded}
use Rattle.bow_session.specs.Sessions.{Run}
use Rattle.bow_play.specs.Beginning.{HasBegun}
use Rattle.bow_past.specs.Readings.{Reading, with_ended}
use Rattle.bow_past.specs.Running.{PlaysBeside, StepsAt, failures_of, is_failed, reader_after}
use Rattle.bow_past.specs.Steps.{IsPastStep}
use Rattle.bow_past.specs.declared.ended.Ended.{Ended}
use Rattle.bow_past.specs.declared.ended.Ended.TheVariants.{Got, Failed, Strange}
use Rattle.bow_past.specs.declared.ended.PastStep.{PastStep}
use Rattle.bow_past.specs.declared.ended.PastStep.TheVariants as steps
use Rattle.bow_past.proofs.Clauses.{image}
use Rattle.bow_past.proofs.Twinned.{HasTwin, has_read, has_turned, loaded_twin, told_before}

-- ----------------------------------------------------------------------------------------------------------------
-- How many reads failed.

fails_push : (p q : Reading) (e : Ended) → q ≡ with_ended p e → failures_of (Some q) ≡ failures_of (Some p) + is_failed e
fails_push p q e is =
    let one : sum_by is_failed (e ∷ []) ≡ is_failed e + 0 = sum_by-cons is_failed e [] in
    ap (λ (r : Reading). sum_by is_failed r.ended) is ∙ sum_by-append is_failed p.ended (e ∷ []) ∙ ap (λ n. sum_by is_failed p.ended + n) one ∙ (let z : sum_by is_failed p.ended + (is_failed e + 0) ≡ sum_by is_failed p.ended + is_failed e = omega arith in z)

fails_same : (p q : Reading) → q ≡ record p { kept = q.kept } → failures_of (Some q) ≡ failures_of (Some p) + 0
fails_same p q is = ap (λ (r : Reading). sum_by is_failed r.ended) is ∙ (let z : sum_by is_failed p.ended ≡ sum_by is_failed p.ended + 0 = omega arith in z)

module _ {D : Type 0} (stated : D → Option Geometry) (content : D → Option Content) (moment : D → ℕ) (left : D → ℕ → List (List ℕ) → Type 0) (faults : D → ℕ)
    (shaped : (d : D) (c : Content) → content d ≡ Some c → (g : Geometry) → stated d ≡ Some g → IsShaped g.block_size g.blocks c)
    (cuts_shaped : (d : D) (c : Content) → content d ≡ Some c → (g : Geometry) → stated d ≡ Some g → (t : ℕ) (image : List (List ℕ)) → left d t image → IsImage g.block_size g.blocks image)
    (counts_now : (d : D) (c : Content) → content d ≡ Some c → (t : ℕ) (image : List (List ℕ)) → t ≤ moment d → IsCrash c.candidates image → left d t image)
    (only_now : (d : D) (c : Content) → content d ≡ Some c → (t : ℕ) (image : List (List ℕ)) → moment d ≤ t → left d t image → IsCrash c.candidates image) where
  module _ (first : View D) (base : ℕ) where
    abbrev Has : ℕ → Run D → Type 0
    Has = HasTwin stated content moment left faults first base

    -- a reader that is given up leaves its failures untold
    forget : (lost : ℕ) (v : Run D) → Has lost v → Has 0 v
    forget lost v k = record {
      clock = k.clock;
      at = k.at;
      count = k.count;
      calls = k.calls;
      moments = k.moments;
      loaded_by = k.loaded_by;
      fewer = k.fewer;
      some = k.some;
      faults_all = fewer_all k.count lost (faults v.core.disk) k.faults_all;
      told = k.told;
    }
      where
        fewer_all : (count lost now : ℕ) → min (count + lost) (2 ^ 64 - 1) ≤ now → min (count + 0) (2 ^ 64 - 1) ≤ now
        fewer_all count lost now all = omega (arith, all)

    -- a step of the reader
    reads_twin : (p : Reading) (v : Run D) (result : Result PastStep NoMemory) (q : Reading) (w : Run D) → Has (failures_of (Some p)) v → IsPastStep stated content moment left faults p v result q w
        → Has (failures_of (reader_after result q)) w
    reads_twin p v (Ok steps.Idle) q w k step = subst (λ (x : Run D). Has (failures_of (Some q)) x) (sym step.2) (subst (λ (r : Reading). Has (failures_of (Some r)) v) (sym step.1) k)
    reads_twin p v (Ok steps.Working) q w k step =
        subst (λ n. Has n w) (sym (fails_same p q step.4.0))
        (has_read stated content moment left faults first base shaped cuts_shaped counts_now only_now (failures_of (Some p)) v w _ _ k (step.1).reads (image stated content moment left faults p v (Ok steps.Working) q w step))
    reads_twin p v (Ok (steps.Got b)) q w k step =
        subst (λ n. Has n w) (sym (fails_push p q (Got step.2) step.4))
        (has_read stated content moment left faults first base shaped cuts_shaped counts_now only_now (failures_of (Some p)) v w _ _ k (step.3).reads (image stated content moment left faults p v (Ok (steps.Got b)) q w step))
    reads_twin p v (Ok (steps.Failed b)) q w k step =
        subst (λ n. Has n w) (sym (fails_push p q Failed step.2.2))
        (has_read stated content moment left faults first base shaped cuts_shaped counts_now only_now (failures_of (Some p)) v w _ _ k step.2.1 (image stated content moment left faults p v (Ok (steps.Failed b)) q w step))
    reads_twin p v (Ok (steps.Strange b)) q w k step =
        subst (λ n. Has n w) (sym (fails_push p q Strange step.4))
        (has_read stated content moment left faults first base shaped cuts_shaped counts_now only_now (failures_of (Some p)) v w _ _ k (step.2).reads (image stated content moment left faults p v (Ok (steps.Strange b)) q w step))
    reads_twin p v (Err none) q w k step = forget (failures_of (Some p)) w (subst (λ (x : Run D). Has (failures_of (Some p)) x) (sym step.1) k)

    pub step_twin : (at : ℕ) (r : Option Reading) (v : Run D) (s : Option Reading) (w : Run D) → Has (failures_of r) v → StepsAt stated content moment left faults at r v s w → Has (failures_of s) w
    step_twin at None v s w k (inl (is, reads)) = absurd reads
    step_twin at (Some p) v s w k (inl (is, reads)) = subst (λ (o : Option Reading). Has (failures_of o) w) (sym reads.3) (reads_twin p v reads.0 reads.1 w k reads.2)
    step_twin at r v s w k (inr (same, by)) = subst (λ (o : Option Reading). Has (failures_of o) w) (sym same) (has_turned stated content moment left faults first base shaped cuts_shaped counts_now only_now (failures_of r) v by.0 w k by.2)

    pub plays_twin : (n x : ℕ) (r : Option Reading) (v : Run D) (s : Option Reading) (w : Run D) → Has (failures_of r) v → PlaysBeside stated content moment left faults n x r v s w → Has (failures_of s) w
    plays_twin zero x r v s w k (same, is) = subst (λ (y : Run D). Has (failures_of s) y) (sym is) (subst (λ (o : Option Reading). Has (failures_of o) v) (sym same) k)
    plays_twin (suc n) x r v s w k (at, t, mid, drawn, step, rest) = plays_twin n (next_number x) t mid s w (step_twin at r v t mid k step) rest

  -- where it began as a play does
  pub begun_twin : (old : D) (v : Run D) (b : HasBegun stated content moment left faults old v) → HasTwin stated content moment left faults b.first (moment old) 0 v
  begun_twin old v b =
      let k = subst (λ (x : Run D). WasLoaded stated content moment left faults b.first x) b.is b.loaded_over in
      subst (λ (x : Run D). HasTwin stated content moment left faults b.first (moment old) 0 x) (sym b.is)
      (loaded_twin stated content moment left faults b.first (moment old) shaped cuts_shaped counts_now only_now v.script k (b.fresh).calls
      (λ c is. let before = told_before (λ c d. d.now ≡ c.now) (content old) (content (b.first).disk) c is (b.opened).image in (b.found before.0 before.1).counted))
