-- What restorations and boots leave, one after another.
use Rattle.std.proofs.Common.{◌≡◌, inl, inr, ℕ, zero, suc, List, [], ◌∷◌, ◌++◌, Option, None, refl, sym, ap, ◌∙◌, subst}
use Rattle.bow_units.specs.declared.sizes.Geometry.{Geometry}
use Rattle.bow_units.specs.Magics.{IsPlain}
use Rattle.bow_log.specs.Generations.{Generation}
use Rattle.bow_disk.specs.Disk.{IsImage}
use Rattle.bow_chain.specs.Contents.{contents_of}
use Rattle.bow_chain.specs.Places.{base}
use Rattle.bow_chain.proofs.Counting.{same_sound}
use Rattle.bow_restore.specs.Rewinds.{PassesOn, Reruns}
use Rattle.vold_meta.specs.Attempts.{Tells}
use Rattle.vold_commands.specs.Boots.{IsLogged, Remains, reading, marking, restoring, removing, ended, BootState, begun, StepFrom, CutFrom, Way, EndedBoot, CutBoot}
use Rattle.vold_commands.specs.Boot.{Whole}
use Rattle.vold_commands.specs.BootLaws.{CutOf}
use Rattle.vold_commands.specs.declared.boots.Booted.{Booted}
use Rattle.vold_commands.specs.declared.boots.Booted.TheVariants.{Plain, RolledBack}
use Rattle.vold_commands.proofs.Booting as booting
use Rattle.bow_promise.specs.Recoveries.{IsRecovery, Recoveries, EndsABoot, EndsWell}
use Rattle.bow_promise.specs.Promises.{BootsAreReruns}

-- one restoration more that was cut
pub reruns_more : (g : Geometry) (first last cut : List (List ℕ)) (between : List (List (List ℕ))) → Reruns g first between last → PassesOn g last cut → IsImage g.block_size g.blocks cut
    → Reruns g first (between ++ cut ∷ []) cut
reruns_more g first last cut [] runs on image = (subst (λ (i : List (List ℕ)). PassesOn g i cut) runs on, image, refl)
reruns_more g first last cut (next ∷ more) runs on image = (runs.0, runs.1, reruns_more g next last cut more runs.2 on image)

pub reruns_image : (g : Geometry) (first last : List (List ℕ)) (between : List (List (List ℕ))) → IsImage g.block_size g.blocks first → Reruns g first between last → IsImage g.block_size g.blocks last
reruns_image g first last [] image runs = subst (λ (i : List (List ℕ)). IsImage g.block_size g.blocks i) (sym runs) image
reruns_image g first last (next ∷ more) image runs = reruns_image g next last more runs.1 runs.2

-- what a restoration makes that ends well is passed on
whole_passes : (g : Geometry) (i j : List (List ℕ)) → Whole g i j → PassesOn g i j
whole_passes g i j made = record {
  sound = λ log older sound. inr (λ x below in_use. made.now x below ∙ ap (λ (logs : List Generation). contents_of i (base logs x)) (same_sound g (contents_of i) made.log log made.older older made.sound sound));
  unsound = λ none. absurd (none made.log made.older made.sound);
}

-- what holds of an image and stays by each restoration, stays by each boot
module _ (P : List (List ℕ) → Type 0) (whole cut : List (List ℕ) → List (List ℕ) → Type 0)
    (by_whole : (i j : List (List ℕ)) → P i → whole i j → P j) (by_cut : (i j : List (List ℕ)) → P i → cut i j → P j) where
  keeps_step : (r : Remains) (i : List (List ℕ)) (k : Option (List ℕ)) (t : BootState) → P i → StepFrom whole r i k t → P t.image
  keeps_step reading i k t held step = subst P (sym step.0) held
  keeps_step (marking n) i k t held step = subst P (sym step.0) held
  keeps_step (restoring m) i k t held step = elim step.1 [
    | inl done ↦ by_whole i t.image held done.1
    | inr none ↦ subst P (sym none.1) held
  ]
  keeps_step removing i k t held step = subst P (sym step.0) held
  keeps_step (ended answer) i k t held step = absurd step

  keeps_way : (n : ℕ) (s t : BootState) → P s.image → Way whole n s t → P t.image
  keeps_way zero s t held way = subst (λ (x : BootState). P x.image) way held
  keeps_way (suc n) s t held way = keeps_way n way.0 t (keeps_step s.remains s.image s.kept way.0 held way.1) way.2

  keeps_cut : (r : Remains) (i : List (List ℕ)) (k : Option (List ℕ)) (j : List (List ℕ)) (l : Option (List ℕ)) → P i → CutFrom cut r i k j l → P j
  keeps_cut reading i k j l held left = subst P (sym left.0) held
  keeps_cut (marking n) i k j l held left = subst P (sym left.0) held
  keeps_cut (restoring m) i k j l held left = elim left.1 [
    | inl still ↦ subst P (sym still) held
    | inr inside ↦ by_cut i j held inside.1
  ]
  keeps_cut removing i k j l held left = subst P (sym left.0) held
  keeps_cut (ended answer) i k j l held left = absurd left

  keeps_cut_boot : (i j : List (List ℕ)) (k l : Option (List ℕ)) → P i → CutBoot whole cut i k j l → P j
  keeps_cut_boot i j k l held boot = keeps_cut (boot.1).remains (boot.1).image (boot.1).kept j l (keeps_way boot.0 (begun i k) boot.1 held boot.2) boot.3

  keeps_ended_boot : (i j : List (List ℕ)) (k l : Option (List ℕ)) (answer : Booted) → P i → EndedBoot whole i k answer j l → P j
  keeps_ended_boot i j k l answer held boot = keeps_way boot.0 (begun i k) (record { image = j; kept = l; remains = ended answer }) held boot.1

-- left of the first image by restorations that were cut
abbrev IsRerun : Geometry → List (List ℕ) → List (List ℕ) → Type 0
IsRerun g first last = (between : List (List (List ℕ))) × Reruns g first between last

by_whole : (g : Geometry) (first i j : List (List ℕ)) → IsRerun g first i → Whole g i j → IsRerun g first j
by_whole g first i j runs made = (runs.0 ++ j ∷ [], reruns_more g first i j runs.0 runs.1 (whole_passes g i j made) made.image)

by_cut : (g : Geometry) (first i j : List (List ℕ)) → IsRerun g first i → CutOf g i j → IsRerun g first j
by_cut g first i j runs cut = (runs.0 ++ j ∷ [], reruns_more g first i j runs.0 runs.1 cut.0 cut.1)

recovery_rerun : (g : Geometry) (first i j : List (List ℕ)) → IsRerun g first i → IsRecovery g i j → IsRerun g first j
recovery_rerun g first i j runs (inl cut) = by_cut g first i j runs cut
recovery_rerun g first i j runs (inr (inl (kept, left, boot))) = keeps_cut_boot (IsRerun g first) (Whole g) (CutOf g) (by_whole g first) (by_cut g first) i j kept left runs boot
recovery_rerun g first i j runs (inr (inr (kept, left, answer, boot))) = keeps_ended_boot (IsRerun g first) (Whole g) (CutOf g) (by_whole g first) (by_cut g first) i j kept left answer runs boot

recoveries_rerun : (g : Geometry) (first i last : List (List ℕ)) (recoveries : List (List (List ℕ))) → IsRerun g first i → Recoveries g i recoveries last → IsRerun g first last
recoveries_rerun g first i last [] runs is = subst (IsRerun g first) (sym is) runs
recoveries_rerun g first i last (next ∷ more) runs all = recoveries_rerun g first next last more (recovery_rerun g first i next runs all.0) all.1

pub boots_are_reruns : BootsAreReruns
boots_are_reruns g first last recoveries whole all = recoveries_rerun g first first last recoveries ([], refl) all

-- ----------------------------------------------------------------------------------------------------------------
-- The last one.

-- a restoration that ended well is what a boot does that keeps no attempts
pub ended_of : (g : Geometry) (i j : List (List ℕ)) → EndsWell g i j → EndsABoot g i j
ended_of g i j (inr boot) = boot
ended_of g i j (inl (inl (logged, made))) =
    let restored : BootState = record { image = i; kept = None; remains = restoring None } in
    let done : BootState = record { image = j; kept = None; remains = ended RolledBack } in
    (None, None, RolledBack, (2, (restored, (refl, refl, (None, record { small = tt; text = refl }, refl)), (done, (refl, inl (logged, made, refl)), refl))))
ended_of g i j (inl (inr (plain, same))) =
    let restored : BootState = record { image = i; kept = None; remains = restoring None } in
    let done : BootState = record { image = j; kept = None; remains = ended Plain } in
    (None, None, Plain, (2, (restored, (refl, refl, (None, record { small = tt; text = refl }, refl)), (done, (refl, inr (plain, same, refl)), refl))))

-- a boot that ends reads attempts
pub reads : (whole : List (List ℕ) → List (List ℕ) → Type 0) (i j : List (List ℕ)) (k l : Option (List ℕ)) (answer : Booted) → EndedBoot whole i k answer j l → (attempts : Option ℕ) × Tells k attempts
reads whole i j k l answer (zero, way) = absurd (other way)
  where
    other : begun i k ≡ record { image = j; kept = l; remains = ended answer } → ⊥
    other is = cc (ap (λ (s : BootState). s.remains) is)
reads whole i j k l answer (suc n, way) = let step = (way.1).2 in (step.0, step.1)

-- where block 0 begins with no magic, nothing changes
pub ends_same : (g : Geometry) (i j : List (List ℕ)) → IsPlain (contents_of i 0) → EndsABoot g i j → j ≡ i
ends_same g i j plain (kept, left, answer, boot) =
    let a = reads (Whole g) i j kept left answer boot in
    (booting.boot_ends (λ x. x ≡ i) (λ x. x ≡ i) (Whole g) (CutOf g) (λ x y same logged made. absurd (plain (subst IsLogged same logged))) (λ x same none. same) i kept a.0 answer j left refl a.1 boot).0
