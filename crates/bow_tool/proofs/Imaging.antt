-- The sizes were asked, and then something was done on the image: it was done of the disk that was given.
use Rattle.std.proofs.Common.{◌≡◌, inl, inr, ℕ, ◌≤◌, List, Option, Result, Ok, Err, IfOk, IfErr, MatchResult, sym, ◌∙◌, subst, arith, refl, None, Some}
use Rattle.bow_units.specs.declared.sizes.Geometry.{Geometry}
use Rattle.bow_units.specs.Causes.{Rose}
use Rattle.bow_disk.specs.Disk.{Content, Goes, Same}
use Rattle.bow_disk.specs.Moments.{AddsCuts}
use Rattle.bow_restore.specs.Answers.{IsCaused}
use Rattle.bow_restore.specs.Forwarding.{HasReason}
use Rattle.bow_restore.specs.declared.answers.Restored.{Restored}
use Rattle.bow_restore.specs.declared.answers.Restored.TheVariants as restored
use Rattle.bow_restore.specs.declared.answers.Forwarded.{Forwarded}
use Rattle.bow_restore.specs.declared.answers.Forwarded.TheVariants as forwarded
use Rattle.bow_promise.specs.Cutting.{Play, IsCutOf}
use Rattle.bow_promise.specs.Recovering.{HasEndedWell, IsRecovered}
use Rattle.bow_tool.specs.declared.refusals.Refusal.{Refusal}
use Rattle.bow_tool.specs.Outside.{DiskView}
use Rattle.bow_tool.specs.Sizes.{HasSizes, OnlySizes}
use Rattle.bow_tool.specs.Restores.{ImageCause, IsForwarded, IsRestored, WithSizes}
use Rattle.bow_tool.proofs.Checking.{same_content}

pub rose_since : (a b c : ℕ) → a ≤ b → Rose b c → Rose a c
rose_since a b c later rose = omega (arith, later, rose)

-- the content is the same
pub content_kept : {D : Type 0} (v : DiskView D) (old mid : D) → OnlySizes v old mid → v.content mid ≡ v.content old
content_kept v old mid only = same_content (v.content old) (v.content mid) only.content

-- cuts added since the sizes were asked are added to the disk that was given
pub cuts_since : {D : Type 0} (v : DiskView D) (P : List (List ℕ) → Type 0) (old mid new : D) → OnlySizes v old mid
    → AddsCuts v.moment v.left_since P mid new → AddsCuts v.moment v.left_since P old new
cuts_since v P old mid new asked adds = record {
  time = omega (arith, asked.moment, adds.time);
  only = λ t image early left. (let now : t ≤ v.moment mid = omega (arith, early, asked.moment) in elim (adds.only t image now left) [
    | inl before ↦ inl (asked.past t image before)
    | inr put ↦ inr put
  ]);
  keeps = λ t image early left. (let now : t ≤ v.moment mid = omega (arith, early, asked.moment) in adds.keeps t image now (asked.keeps t image left));
}

restore_cause : (limit : Option ℕ) (a b c : ℕ) (answer : Restored) → a ≤ b → IsCaused limit b c answer → IsCaused limit a c answer
restore_cause limit a b c restored.Nothing later is = is
restore_cause limit a b c (restored.Done entries marks) later is = is
restore_cause limit a b c (restored.Stopped writes) later is = is
restore_cause limit a b c (restored.BadChain fault) later is = is
restore_cause limit a b c restored.DiskFault later is = rose_since a b c later is
restore_cause limit a b c restored.NoMemory later is = is

-- what restores what a play left, does so since the sizes were asked
pub recovered_since : {D : Type 0} (v : DiskView D) (g : Geometry) (p : Play) (n : ℕ) (first : List (List ℕ)) (k : IsCutOf p n first) (ended_well : Type 0) (old mid new : D)
    → OnlySizes v old mid → IsRecovered v.content v.moment v.left_since g p n first k ended_well mid new → IsRecovered v.content v.moment v.left_since g p n first k ended_well old new
recovered_since v g p n first k ended_well old mid new asked did = record {
  fulfils = did.fulfils;
  cuts = λ d is image left. did.cuts d is image (subst (λ t. v.left_since new t image) (sym asked.moment) left);
  leaves = did.leaves;
}

pub restored_since : {D : Type 0} (v : DiskView D) (g : Geometry) (limit : Option ℕ) (old mid new : D) (answer : Restored)
    → OnlySizes v old mid → IsRestored v g limit mid new answer → IsRestored v g limit old new answer
restored_since v g limit old mid new answer asked did =
    let same : v.content mid ≡ v.content old = content_kept v old mid asked in
    let since : (cut : List (List ℕ)) → v.left_since new (v.moment old) cut → v.left_since new (v.moment mid) cut = λ cut left. subst (λ t. v.left_since new t cut) (sym asked.moment) left in
    record {
      cause = restore_cause limit (v.faults old) (v.faults mid) (v.faults new) answer asked.faults did.cause;
      head = λ c is. did.head c (same ∙ is);
      each_sound = λ c is. did.each_sound c (same ∙ is);
      each_fault = λ c is. did.each_fault c (same ∙ is);
      left = λ c is. did.left c (same ∙ is);
      untouched = λ c is. did.untouched c (same ∙ is);
      plain = λ c is. did.plain c (same ∙ is);
      cuts = λ c is. cuts_since v _ old mid new asked (did.cuts c (same ∙ is));
      settled = λ c is settled cut left. did.settled c (same ∙ is) settled cut (since cut left);
      holds = λ c is used saved plain held cut left. did.holds c (same ∙ is) used saved plain held cut (since cut left);
      back = λ c is. did.back c (same ∙ is);
      recovered = λ c is p n first k sizes left. recovered_since v g p n first k (HasEndedWell answer) old mid new asked (did.recovered c (same ∙ is) p n first k sizes left);
    }

forward_reason : (a b c : ℕ) (answer : Forwarded) → a ≤ b → HasReason b c answer → HasReason a c answer
forward_reason a b c forwarded.Nothing later is = is
forward_reason a b c forwarded.Done later is = is
forward_reason a b c (forwarded.BadHeader fault) later is = is
forward_reason a b c forwarded.Reserved later is = is
forward_reason a b c forwarded.DiskFault later is = rose_since a b c later is
forward_reason a b c forwarded.NoMemory later is = is

goes_same : (c : Option Content) → Goes Same c c
goes_same None = tt
goes_same (Some c) = (refl, refl)

-- a disk of which nothing was asked
pub none_asked : {D : Type 0} (v : DiskView D) (disk : D) → OnlySizes v disk disk
none_asked v disk = record {
  content = goes_same (v.content disk);
  moment = refl;
  past = λ t cut left. left;
  keeps = λ t cut left. left;
  faults = omega arith;
}

-- the sizes were asked, and asked again
asked_more : {D : Type 0} (v : DiskView D) (old mid new : D) → OnlySizes v old mid → OnlySizes v mid new → OnlySizes v old new
asked_more v old mid new first next = record {
  content = subst (λ c. Goes Same c (v.content new)) (content_kept v old mid first) next.content;
  moment = next.moment ∙ first.moment;
  past = λ t cut left. first.past t cut (next.past t cut left);
  keeps = λ t cut left. next.keeps t cut (first.keeps t cut left);
  faults = omega (arith, first.faults, next.faults);
}

pub forwarded_since : {D : Type 0} (v : DiskView D) (g : Geometry) (old mid new : D) (answer : Forwarded)
    → OnlySizes v old mid → IsForwarded v g mid new answer → IsForwarded v g old new answer
forwarded_since v g old mid new answer asked did =
    let same : v.content mid ≡ v.content old = content_kept v old mid asked in
    record {
      reason = forward_reason (v.faults old) (v.faults mid) (v.faults new) answer asked.faults did.reason;
      memory = λ none. asked_more v old mid new asked (did.memory none);
      tells = λ c is. did.tells c (same ∙ is);
      left = λ c is. did.left c (same ∙ is);
      cuts = λ c is. cuts_since v _ old mid new asked (did.cuts c (same ∙ is));
    }

-- what was done with sizes, and told
pub told_text : {D A T : Type 0} (v : DiskView D) (new : D) (Did : Geometry → A → Type 0) (Line : A → List ℕ → Type 0)
    (IsRefusal : A → Refusal → Type 0) (items : T → List ℕ) (g : Geometry) (answer : A) (r : Result T Refusal)
    → HasSizes v new g → Did g answer → MatchResult r (λ text. Line answer (items text)) (IsRefusal answer)
    → IfOk r (λ text. WithSizes v new Did (λ a. Line a (items text)))
told_text v new Did Line IsRefusal items g answer (Ok text) sizes did told = (g, sizes, (answer, did, told))
told_text v new Did Line IsRefusal items g answer (Err refusal) sizes did told = tt

pub told_cause : {D A T : Type 0} (v : DiskView D) (old new : D) (Did : Geometry → A → Type 0) (Line : A → List ℕ → Type 0)
    (IsRefusal : A → Refusal → Type 0) (items : T → List ℕ) (g : Geometry) (answer : A) (r : Result T Refusal)
    → HasSizes v new g → Did g answer → MatchResult r (λ text. Line answer (items text)) (IsRefusal answer)
    → IfErr r (ImageCause v old new Did IsRefusal)
told_cause v old new Did Line IsRefusal items g answer (Ok text) sizes did told = tt
told_cause v old new Did Line IsRefusal items g answer (Err refusal) sizes did told = inr (g, sizes, (answer, did, told))
