-- What a restoration leaves of what a cut play left.
use Rattle.std.proofs.Common.{◌≡◌, inl, inr, ⊎_elim, ℕ, ◌<◌, ◌≤◌, Bool, List, [], ◌∷◌, ◌++◌, Option, Some, arith, refl, sym, ◌∙◌, subst, Result, Ok, Err}
use Rattle.std.specs.Prelude.{IsOk}
use Rattle.bow_units.specs.declared.requests.Phase.{Phase}
use Rattle.bow_units.specs.declared.requests.Phase.TheVariants.{Trim, Arming, Checkpoint, Deciding, Committed}
use Rattle.bow_units.specs.declared.sizes.Geometry.{Geometry}
use Rattle.bow_units.specs.Magics.{HasMagic, IsPlain}
use Rattle.bow_disk.specs.Disk.{Content, IsCrash, IsImage, IsShaped}
use Rattle.bow_disk.specs.Moments.{AddsCuts, Tells}
use Rattle.bow_disk.proofs.Moments.{tells_map}
use Rattle.bow_chain.specs.Contents.{contents_of}
use Rattle.bow_chain.specs.Kept.{Holds}
use Rattle.bow_guard.specs.Standing.{Shows, StandsInPhase, HasCheckpointIn}
use Rattle.bow_restore.proofs.Backs.{now_is_crash}
use Rattle.bow_restore.specs.Answers.{EndsBack, FromHeld, IsBack, Untouched}
use Rattle.bow_restore.specs.Replaying.{IsFlushed}
use Rattle.bow_restore.specs.Rewinds.{PassesOn, Reruns}
use Rattle.bow_restore.specs.declared.answers.Restored.{Restored}
use Rattle.bow_restore.specs.declared.answers.Restored.TheVariants.{Nothing, Done, Stopped, BadChain, DiskFault, NoMemory}
use Rattle.bow_return.specs.Laws.{ComesBack}
use Rattle.vold_commands.proofs.Backing.{magic_or_plain}
use Rattle.vold_commands.specs.Boots.{EndedBoot}
use Rattle.vold_commands.specs.Boot.{BootLeaves, Whole}
use Rattle.vold_commands.specs.declared.boots.Booted.{Booted}
use Rattle.vold_commands.specs.declared.boots.BootFault.{BootFault}
use Rattle.bow_promise.specs.Cutting.{Play, IsCutOf, EndsAs}
use Rattle.bow_promise.specs.Promises.{IsFulfilled}
use Rattle.bow_promise.specs.Recoveries.{Recoveries}
use Rattle.bow_promise.specs.Recovering.{EndsShown, IsLeftOf, IsRecovered, IsRerun, HasEndedWell, Recovers}
use Rattle.bow_promise.proofs.Promised.{cuts_end_well, flat_valid, back}
use Rattle.bow_promise.proofs.Rerunning.{reruns_more}
use Rattle.bow_promise.proofs.Fulfilled.{comes_back, ends, fulfilled_back, fulfilled_plain, stays_same}

-- what was not changed is left as it was
untouched_now : (answer : Restored) (old new : Content) → Untouched answer old new → new.now ≡ old.now
untouched_now Nothing old new u = u.0
untouched_now (Done entries marks) old new u = u.0
untouched_now (Stopped writes) old new u = u.0
untouched_now (BadChain fault) old new u = u.0
untouched_now DiskFault old new u = u
untouched_now NoMemory old new u = u.0

-- and flushed, where the restoration ended well
untouched_flushed : (answer : Restored) (old new : Content) → HasEndedWell answer → Untouched answer old new → IsFlushed new
untouched_flushed Nothing old new well u = u.1
untouched_flushed (Done entries marks) old new well u = u.1
untouched_flushed (Stopped writes) old new well u = absurd well
untouched_flushed (BadChain fault) old new well u = absurd well
untouched_flushed DiskFault old new well u = absurd well
untouched_flushed NoMemory old new well u = absurd well

is_back_of : {D : Type 0} (g : Geometry) (used : ℕ → Bool) (saved : ℕ → List ℕ) (content : D → Option Content) (disk : D) (answer : Restored) → HasEndedWell answer → EndsBack g used saved content disk answer → Tells content (IsBack g used saved) disk
is_back_of g used saved content disk Nothing well ends = ends
is_back_of g used saved content disk (Done entries marks) well ends = ends
is_back_of g used saved content disk (Stopped writes) well ends = absurd well
is_back_of g used saved content disk (BadChain fault) well ends = absurd well
is_back_of g used saved content disk DiskFault well ends = absurd well
is_back_of g used saved content disk NoMemory well ends = absurd well

-- restorations that were cut are recoveries
recoveries_of : (g : Geometry) (first last : List (List ℕ)) (between : List (List (List ℕ))) → Reruns g first between last → Recoveries g first between last
recoveries_of g first last [] is = is
recoveries_of g first last (next ∷ more) runs = (inl (runs.0, runs.1), recoveries_of g next last more runs.2)

module _ {D : Type 0} (stated : D → Option Geometry) (content : D → Option Content) (moment : D → ℕ) (left : D → ℕ → List (List ℕ) → Type 0)
    (shaped : (d : D) (c : Content) → content d ≡ Some c → (g : Geometry) → stated d ≡ Some g → IsShaped g.block_size g.blocks c)
    (cuts_shaped : (d : D) (c : Content) → content d ≡ Some c → (g : Geometry) → stated d ≡ Some g → (t : ℕ) (image : List (List ℕ)) → left d t image → IsImage g.block_size g.blocks image)
    (counts_now : (d : D) (c : Content) → content d ≡ Some c → (t : ℕ) (image : List (List ℕ)) → t ≤ moment d → IsCrash c.candidates image → left d t image)
    (only_now : (d : D) (c : Content) → content d ≡ Some c → (t : ℕ) (image : List (List ℕ)) → moment d ≤ t → left d t image → IsCrash c.candidates image)
    (g : Geometry) (old new : D) (c : Content) (told : content old ≡ Some c) (stated_old : stated old ≡ Some g) (stated_new : stated new ≡ Some g) where
  -- what the disk holds, a cut may leave
  crash_now : IsCrash c.candidates c.now
  crash_now = now_is_crash g c (shaped old c told g stated_old)

  -- what cuts leave is left of the first image
  module _ (first : List (List ℕ)) (is_left : IsLeftOf g first c) (adds : AddsCuts moment left (PassesOn g c.now) old new) where
    pub cuts_rerun : (d : Content) → content new ≡ Some d → (cut : List (List ℕ)) → left new (moment old) cut → IsRerun g first cut
    cuts_rerun d is cut since = ⊎_elim (λ past. is_left cut (only_now old c told (moment old) cut (omega arith) past))
        (λ on. (let runs = is_left c.now crash_now in (runs.0 ++ cut ∷ [], reruns_more g first c.now cut runs.0 runs.1 on (cuts_shaped new d is g stated_new (moment old) cut since))))
        (adds.only (moment old) cut (omega arith) since)

    pub left_again : (d : Content) → content new ≡ Some d → IsLeftOf g first d
    left_again d is image crash = cuts_rerun d is image (counts_now new d is (moment old) image adds.time crash)

  module _ (p : Play) (n : ℕ) (first : List (List ℕ)) (k : IsCutOf p n first) (sizes : p.plan.sizes ≡ g) (is_left : IsLeftOf g first c) where
    -- over the sizes of the play
    runs_to : (image : List (List ℕ)) → IsCrash c.candidates image → (between : List (List (List ℕ))) × Reruns p.plan.sizes first between image
    runs_to image crash = let runs = is_left image crash in (runs.0, subst (λ x. Reruns x first runs.0 image) (sym sizes) runs.1)

    ends_as_now : (image : List (List ℕ)) → IsCrash c.candidates image → EndsAs p.plan.sizes k.way.flat.phase k.way.flat first image
    ends_as_now image crash = let runs = runs_to image crash in cuts_end_well p n first image runs.0 k runs.1

    -- behind a log in block 0 the checkpoint is held by whatever a cut may leave
    module _ (all : (image : List (List ℕ)) → IsCrash c.candidates image → ComesBack p.plan.sizes k.way.flat (contents_of image)) where
      held : (image : List (List ℕ)) → IsCrash c.candidates image → Holds g k.way.flat.used k.way.flat.saved (contents_of image)
      held image crash = subst (λ x. Holds x k.way.flat.used k.way.flat.saved (contents_of image)) sizes (all image crash).holds

      ends_back : (answer : Restored) → FromHeld g content old (λ used saved. EndsBack g used saved content new answer) → EndsBack g k.way.flat.used k.way.flat.saved content new answer
      ends_back answer from = let now = all c.now crash_now in from c told k.way.flat.used k.way.flat.saved now.plain held

    -- with no log there nothing changes
    same_now : IsPlain (contents_of first 0) → c.now ≡ first
    same_now plain = let runs = runs_to c.now crash_now in stays_same p n first k c.now runs.0 plain runs.1

    -- a disk that is as the checkpoint was
    fulfilled_when_back : HasMagic (contents_of first 0) → Tells content (IsBack g k.way.flat.used k.way.flat.saved) new → Tells content (λ d. IsFlushed d × IsFulfilled p n first k d.now) new
    fulfilled_when_back magic is_back =
        tells_map content (IsBack g k.way.flat.used k.way.flat.saved) (λ d. IsFlushed d × IsFulfilled p n first k d.now) new
        (λ d is b. (b.flushed, fulfilled_back p n first k d.now magic b.plain (λ x below in_use. b.blocks x (subst (λ (y : Geometry). x < y.blocks) sizes below) (inr in_use)))) is_back

    -- a restoration that ended well
    pub restoration_fulfils : (answer : Restored) → (IsPlain (contents_of c.now 0) → Tells content (Untouched answer c) new)
        → FromHeld g content old (λ used saved. EndsBack g used saved content new answer)
        → HasEndedWell answer → Tells content (λ d. IsFlushed d × IsFulfilled p n first k d.now) new
    restoration_fulfils answer untouched from well = elim (magic_or_plain (contents_of first 0)) [
      | inr plain ↦
          let same = same_now plain in
          tells_map content (Untouched answer c) (λ d. IsFlushed d × IsFulfilled p n first k d.now) new
          (λ d is u. (untouched_flushed answer c d well u, fulfilled_plain p n first k d.now plain (untouched_now answer c d u ∙ same)))
          (untouched (subst (λ i. IsPlain (contents_of i 0)) (sym same) plain))
      | inl magic ↦
          let all : (image : List (List ℕ)) → IsCrash c.candidates image → ComesBack p.plan.sizes k.way.flat (contents_of image) = λ image crash. comes_back p n first k image k.way.flat.phase magic (ends_as_now image crash) in
          fulfilled_when_back magic (is_back_of g k.way.flat.used k.way.flat.saved content new answer well (ends_back all answer from))
    ]

    -- a boot that ended well
    pub boot_fulfils : (kept left_kept : Option (List ℕ)) (answer : Booted) → Tells content (λ d. IsFlushed d × EndedBoot (Whole g) c.now kept answer d.now left_kept) new
        → Tells content (λ d. IsFlushed d × IsFulfilled p n first k d.now) new
    boot_fulfils kept left_kept answer ended =
        let runs = runs_to c.now crash_now in
        tells_map content (λ d. IsFlushed d × EndedBoot (Whole g) c.now kept answer d.now left_kept) (λ d. IsFlushed d × IsFulfilled p n first k d.now) new
        (λ d is both. (
          both.0,
          ends p n first k runs.0 c.now d.now (recoveries_of p.plan.sizes first c.now runs.0 runs.1)
              (inr (kept, left_kept, answer, subst (λ x. EndedBoot (Whole x) c.now kept answer d.now left_kept) (sym sizes) both.1)),
        )) ended

    pub restoration_recovers : (answer : Restored) → (IsPlain (contents_of c.now 0) → Tells content (Untouched answer c) new)
        → FromHeld g content old (λ used saved. EndsBack g used saved content new answer) → AddsCuts moment left (PassesOn g c.now) old new
        → IsRecovered content moment left g p n first k (HasEndedWell answer) old new
    restoration_recovers answer untouched from adds = record {
      fulfils = restoration_fulfils answer untouched from;
      cuts = cuts_rerun first is_left adds;
      leaves = left_again first is_left adds;
    }

    pub boot_recovers : {U : Type 0} (kept_of : U → Option (Option (List ℕ))) (keeper : U) (kept : Option (List ℕ)) (r : Result Booted BootFault)
        → BootLeaves g content kept_of new keeper c kept r → AddsCuts moment left (PassesOn g c.now) old new
        → IsRecovered content moment left g p n first k (IsOk r) old new
    boot_recovers kept_of keeper kept r leaves adds = record {
      fulfils = by r leaves;
      cuts = cuts_rerun first is_left adds;
      leaves = left_again first is_left adds;
    }
      where
        by : (r : Result Booted BootFault) → BootLeaves g content kept_of new keeper c kept r → IsOk r → Tells content (λ d. IsFlushed d × IsFulfilled p n first k d.now) new
        by (Ok answer) (l, is, ended) well = boot_fulfils kept l answer ended
        by (Err fault) left_so well = absurd (cc well)

    -- ----------------------------------------------------------------------------------------------------------------
    -- By the phase of the state that the cut of the play left.

    module _ (answer : Restored) (untouched : IsPlain (contents_of c.now 0) → Tells content (Untouched answer c) new) (from : FromHeld g content old (λ used saved. EndsBack g used saved content new answer)) where
      ends_shown : (known : ℕ → Option (List (List ℕ))) → Shows p.plan.sizes known (contents_of first) → EndsShown g known content new answer
      ends_shown known shows =
          let same = same_now shows.plain in
          let now : Shows g known (contents_of c.now) = subst (λ i. Shows g known (contents_of i)) (sym same) (subst (λ x. Shows x known (contents_of first)) sizes shows) in
          let left = untouched now.plain in
          record {
            told = left.told;
            tells = left.is;
            shows = subst (λ i. Shows g known (contents_of i)) (sym (untouched_now answer c left.told left.holds)) now;
            flushed = λ nothing. (subst (λ a. Untouched a c left.told) nothing left.holds).1;
          }

      back_by : HasCheckpointIn p.plan.sizes k.way.flat.phase k.way.flat (contents_of first) → EndsBack g k.way.flat.used k.way.flat.saved content new answer
      back_by has = ends_back (λ image crash. (let runs = runs_to image crash in back p.plan.sizes k.sizes k.way.flat (flat_valid p n first k) first image runs.0 k.whole runs.1 has)) answer from

      by_phase : (phase : Phase) → k.way.flat.phase ≡ phase → StandsInPhase p.plan.sizes phase k.way.flat (contents_of first) → Recovers g phase k.way.flat content new answer
      by_phase Trim is stands = ends_shown k.way.flat.pending stands
      by_phase Arming is stands = back_by (subst (λ x. HasCheckpointIn p.plan.sizes x k.way.flat (contents_of first)) (sym is) stands)
      by_phase Checkpoint is stands = back_by (subst (λ x. HasCheckpointIn p.plan.sizes x k.way.flat (contents_of first)) (sym is) stands)
      by_phase Deciding is (inl keeps) = inl (back_by (subst (λ x. HasCheckpointIn p.plan.sizes x k.way.flat (contents_of first)) (sym is) keeps))
      by_phase Deciding is (inr shows) = inr (ends_shown k.way.flat.current shows)
      by_phase Committed is stands = ends_shown k.way.flat.pending stands

      pub recovers : Recovers g k.way.flat.phase k.way.flat content new answer
      recovers = by_phase k.way.flat.phase refl k.way.stands
