-- The restorer keeps what a boot asks of a restoration.
use Rattle.std.proofs.Common.{◌≡◌, inl, inr, refl, ℕ, Bool, List, ◌∷◌, Option, Some, sym, ap, ◌∙◌, subst, arith}
use Rattle.bow_units.specs.declared.sizes.Geometry.{Geometry}
use Rattle.bow_log.specs.Generations.{Generation}
use Rattle.bow_disk.specs.Disk.{IsImage}
use Rattle.bow_chain.specs.Contents.{Contents, contents_of}
use Rattle.bow_chain.specs.Places.{base}
use Rattle.bow_chain.specs.Kept.{IsPlain}
use Rattle.bow_restore.specs.Rewinds.{PassesOn}
use Rattle.bow_restore.proofs.Backs.{plain_unsound, passed_holds}
use Rattle.vold_meta.specs.Attempts.{Tells}
use Rattle.vold_commands.specs.Boots.{IsLogged, reading, marking, restoring, removing, ended, Remains, CutFrom, IsRolledBack}
use Rattle.vold_commands.specs.Boot.{Whole}
use Rattle.vold_commands.specs.BootLaws.{IsInPlace, HasCheckpoint, CutOf, IsCheckpoint, CallsAreCut, BootsAnswer, AttemptsNeverRise, BootsEnd, BootsKeep, BootsRollBack}
use Rattle.vold_commands.proofs.Booting as booting
use Rattle.bow_chain.proofs.Counting.{same_sound}

cut_from : (g : Geometry) (r : Remains) (i j : List (List ℕ)) (k l : Option (List ℕ)) → IsImage g.block_size g.blocks j → CutFrom (PassesOn g) r i k j l → CutFrom (CutOf g) r i k j l
cut_from g reading i j k l clear cut = cut
cut_from g (marking n) i j k l clear cut = cut
cut_from g (restoring m) i j k l clear cut = (cut.0, elim cut.1 [ inl still ↦ inl still | inr inside ↦ inr (inside.0, (inside.1, clear)) ])
cut_from g removing i j k l clear cut = cut
cut_from g (ended answer) i j k l clear cut = cut

pub calls_are_cut : CallsAreCut
calls_are_cut g i j k l clear boot = (boot.0, boot.1, boot.2, cut_from g (boot.1).remains (boot.1).image j (boot.1).kept l clear boot.3)

module _ (g : Geometry) (used : ℕ → Bool) (saved : Contents) (all : IsCheckpoint g used saved) where
  -- an image of the device that has the checkpoint in place, without a log
  abbrev RolledBack : List (List ℕ) → Type 0
  RolledBack i = IsRolledBack (IsInPlace g used saved) i × IsImage g.block_size g.blocks i

  in_place_plain : (i : List (List ℕ)) → IsInPlace g used saved i → IsLogged i → ⊥
  in_place_plain i is logged =
      let valid = all.valid in
      let zeroth : contents_of i 0 ≡ saved 0 = is 0 (omega (arith, valid.enough)) (inl refl) in
      (subst IsPlain (sym zeroth) all.plain) logged

  restores : (i j : List (List ℕ)) → HasCheckpoint g used saved i → IsLogged i → Whole g i j → RolledBack j
  restores i j (whole, inr is) logged made = absurd (in_place_plain i is logged)
  restores i j (whole, inl k) logged made = ((back, in_place_plain j back), made.image)
    where
      same : (made.log ∷ made.older) ≡ (k.log ∷ k.older)
      same = same_sound g (contents_of i) made.log k.log made.older k.older made.sound k.sound

      back : IsInPlace g used saved j
      back x here u = made.now x here ∙ ap (λ (logs : List Generation). contents_of i (base logs x)) same ∙ k.kept x here u

  survives : (i j : List (List ℕ)) → HasCheckpoint g used saved i → IsLogged i → CutOf g i j → HasCheckpoint g used saved j
  survives i j held logged cut = (cut.1, passed_holds g all.valid used saved all.plain i j held.0 cut.0 held.1)

  settles : (i : List (List ℕ)) → HasCheckpoint g used saved i → (IsLogged i → ⊥) → RolledBack i
  settles i (whole, inl k) plain = absurd (plain_unsound g all.valid i whole plain k.log k.older k.sound)
  settles i (whole, inr is) plain = ((is, plain), whole)

  still : (i : List (List ℕ)) → RolledBack i → HasCheckpoint g used saved i
  still i done = (done.1, inr done.0.0)

  plain : (i : List (List ℕ)) → RolledBack i → IsLogged i → ⊥
  plain i done = done.0.1

pub boots_end : BootsEnd
boots_end g used saved all i j k l a answer held tells boot =
    let ends = booting.boot_ends (HasCheckpoint g used saved) (RolledBack g used saved all) (Whole g) (CutOf g) (restores g used saved all) (settles g used saved all) i k a answer j l held tells boot in
    (ends.0.0, ends.1)

pub boots_keep : BootsKeep
boots_keep g used saved all left i j k l a held tells boots =
    let holds = HasCheckpoint g used saved in
    let rolled = RolledBack g used saved all in
    let before = booting.survives_now holds rolled (Whole g) (CutOf g) (restores g used saved all) (settles g used saved all) (survives g used saved all) (still g used saved all) (plain g used saved all) a i k held tells in
    let after = booting.survives_boots holds rolled (Whole g) (CutOf g) (restores g used saved all) (settles g used saved all) (survives g used saved all) (still g used saved all) (plain g used saved all) a left i j k l before boots in
    (after.held, λ some gone. (booting.none_left holds rolled (Whole g) (CutOf g) (restores g used saved all) (settles g used saved all) (survives g used saved all) (still g used saved all) (plain g used saved all) a j l after some gone).0)

pub boots_roll_back : BootsRollBack
boots_roll_back g used saved all left i j h k l m answer held zero_kept boots boot =
    let holds = HasCheckpoint g used saved in
    let rolled = RolledBack g used saved all in
    let tells : Tells k (Some 0) = record { small = omega arith; text = zero_kept } in
    let before = booting.survives_now holds rolled (Whole g) (CutOf g) (restores g used saved all) (settles g used saved all) (survives g used saved all) (still g used saved all) (plain g used saved all) (Some 0) i k held tells in
    let after = booting.survives_boots holds rolled (Whole g) (CutOf g) (restores g used saved all) (settles g used saved all) (survives g used saved all) (still g used saved all) (plain g used saved all) (Some 0) left i j k l before boots in
    let back = booting.rolls_back holds rolled (Whole g) (CutOf g) (restores g used saved all) (settles g used saved all) (survives g used saved all) (still g used saved all) (plain g used saved all) j h l m answer after boot in
    (back.0.0, back.1, back.2)

abbrev Always : List (List ℕ) → Type 0
Always i = Unit {0}

pub boots_answer : BootsAnswer
boots_answer g i j k l a answer tells boot =
    (booting.boot_ends Always Always (Whole g) (CutOf g) (λ x y held logged made. tt) (λ x held plain. tt) i k a answer j l tt tells boot).1

pub attempts_never_rise : AttemptsNeverRise
attempts_never_rise g left k l a tells boots = booting.never_rise (Whole g) (CutOf g) left k l a tells boots
