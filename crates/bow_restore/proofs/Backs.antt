-- What a restoration means for the checkpoint.
use Rattle.std.proofs.Common.{ℕ, ◌<◌, ◌≡◌, ◌∙◌, Bool, List, [], ◌∷◌, Option, Some, map, take, length, get_or, Contains, arith, refl, sym, ap, subst, inl, inr}
use Rattle.bow_units.specs.declared.sizes.Geometry.{Geometry}
use Rattle.bow_units.specs.Sizes.{IsValid}
use Rattle.bow_log.specs.Generations.{Generation}
use Rattle.bow_log.proofs.InBlocks.{spelled_has_magic}
use Rattle.bow_disk.specs.Disk.{Content, IsCrash, IsImage, Flushed}
use Rattle.bow_chain.specs.Contents.{Contents, contents_of}
use Rattle.bow_chain.specs.Sound.{log_in, IsSound}
use Rattle.bow_chain.specs.Kept.{IsPlain, Holds}
use Rattle.bow_chain.specs.Counting.{InUse}
use Rattle.bow_restore.specs.Rewinds.{PassesOn}
use Rattle.bow_restore.specs.Replaying.{IsFlushed}
use Rattle.bow_restore.specs.Answers.{TellsHead, TellsSound, LeftBy, Untouched, IsBack, EndsBack}
use Rattle.bow_disk.specs.Moments.{Tells}
use Rattle.bow_restore.specs.declared.answers.Restored.{Restored}
use Rattle.bow_restore.specs.declared.answers.Restored.TheVariants.{Nothing, Done, Stopped, BadChain, DiskFault, NoMemory}
use Rattle.bow_restore.proofs.Told.{Fits, one_of, single_at}
use Rattle.std.proofs.lemmas.List.{length-map}
use Rattle.bow_chain.specs.Places.{base}
use Rattle.bow_restore.specs.Copies.{chain_copies, copied}

-- what a disk holds, a cut may leave
pub now_is_crash : (g : Geometry) (c : Content) → Fits g c → IsCrash c.candidates c.now
now_is_crash g c fits = record { size = fits.blocks ∙ sym fits.listed; each = λ b on. fits.held b (omega (arith, fits.listed)) }

-- an image that begins with no magic is not sound
pub plain_unsound : (g : Geometry) → IsValid g → (image : List (List ℕ)) → IsImage g.block_size g.blocks image → IsPlain (contents_of image 0) → (log : Generation) (older : List Generation) → IsSound g (contents_of image) log older → ⊥
unfolding log_in
plain_unsound g valid image whole plain log older s = plain (spelled_has_magic g (contents_of image 0) log valid (whole.each 0 (omega (arith, valid.enough))) s.spelled)

module _ (g : Geometry) (valid : IsValid g) (used : ℕ → Bool) (saved : Contents) (plain : IsPlain (saved 0)) where
  some : 0 < g.blocks
  some = omega (arith, valid.enough)

  in_place_plain : (image : Contents) → ((x : ℕ) → x < g.blocks → InUse used x → image x ≡ saved x) → IsPlain (image 0)
  in_place_plain image is = subst IsPlain (sym (is 0 some (inl refl))) plain

  -- what is passed on holds the checkpoint
  pub passed_holds : (image cut : List (List ℕ)) → IsImage g.block_size g.blocks image → PassesOn g image cut → Holds g used saved (contents_of image) → Holds g used saved (contents_of cut)
  passed_holds image cut whole on (inl k) = elim (on.sound k.log k.older k.sound) [
    | inl after ↦ inl (record { log = after.log; older = after.older; sound = after.sound; kept = λ x here u. after.kept x here (inr refl) ∙ k.kept x here u })
    | inr back ↦ inr (λ x here u. back x here (inr refl) ∙ k.kept x here u)
  ]
  passed_holds image cut whole on (inr is) = subst (λ (l : List (List ℕ)). Holds g used saved (contents_of l)) (sym (on.unsound (plain_unsound g valid image whole (in_place_plain (contents_of image) is)))) (inr is)

  back_of : {T : Type 0} (content : T → Option Content) (disk : T) (c : Content) → ((d : Content) → content disk ≡ Some d → IsFlushed d → ((x : ℕ) → x < g.blocks → InUse used x → contents_of d.now x ≡ saved x) → IsBack g used saved d)
  back_of content disk c d is flushed blocks = record { flushed = flushed; plain = in_place_plain (contents_of d.now) blocks; blocks = blocks }

  -- once it ends well the checkpoint is back
  pub ends_back : {T : Type 0} (content : T → Option Content) (disk : T) (c : Content) (limit : Option ℕ) (answer : Restored)
      → ((log : Generation) (older : List Generation) → IsSound g (contents_of c.now) log older → TellsSound limit (log ∷ older) answer)
      → ((log : Generation) (older : List Generation) → IsSound g (contents_of c.now) log older → LeftBy g (log ∷ older) content disk c answer)
      → TellsHead (contents_of c.now 0) answer → (IsPlain (contents_of c.now 0) → Tells content (Untouched answer c) disk)
      → Holds g used saved (contents_of c.now) → EndsBack g used saved content disk answer
  ends_back content disk c limit Nothing tells left head rest (inl k) = absurd (tells k.log k.older k.sound)
  ends_back content disk c limit Nothing tells left head rest (inr is) =
      let t = rest head in
      record { told = t.told; is = t.is; holds = back_of content disk c t.told t.is t.holds.1 (λ x on u. ap (λ (l : List (List ℕ)). contents_of l x) t.holds.0 ∙ is x on u) }
  ends_back content disk c limit (Done entries marks) tells left head rest (inl k) =
      let t = left k.log k.older k.sound in
      record { told = t.told; is = t.is; holds = back_of content disk c t.told t.is (t.holds).flushed (λ x on u. (t.holds).now x on ∙ k.kept x on u) }
  ends_back content disk c limit (Done entries marks) tells left head rest (inr is) = absurd (in_place_plain (contents_of c.now) is head)
  ends_back content disk c limit (Stopped writes) tells left head rest holds = tt
  ends_back content disk c limit (BadChain fault) tells left head rest holds = tt
  ends_back content disk c limit DiskFault tells left head rest holds = tt
  ends_back content disk c limit NoMemory tells left head rest holds = tt

pub flushed_is : (c d : Content) → Flushed c d → IsFlushed d
flushed_is c d f = f.1 ∙ ap (map (λ x. x ∷ [])) (sym f.0)

-- a flush leaves no cut that was none before
pub flushed_crash : (g : Geometry) (c d : Content) → Fits g c → Flushed c d → (image : List (List ℕ)) → IsCrash d.candidates image → IsCrash c.candidates image
flushed_crash g c d fits f image crash =
    let long : length d.candidates ≡ g.blocks = ap length f.1 ∙ length-map c.now (λ x. x ∷ []) ∙ fits.blocks in
    record {
      size = crash.size ∙ long ∙ sym fits.listed;
      each = λ b on.
          (let below : b < g.blocks = omega (arith, fits.listed) in
          let one : contents_of image b ≡ contents_of c.now b = one_of (contents_of c.now b) (contents_of image b) (subst (λ vs. Contains vs (contents_of image b)) (ap (λ (l : List (List (List ℕ))). get_or l b []) f.1 ∙ single_at c.now b (omega (arith, fits.blocks))) (crash.each b (omega (arith, long)))) in
          subst (λ v. Contains (get_or c.candidates b []) v) (sym one) (fits.held b below));
    }

-- what stands is said of what the disk held, which a flush leaves
pub left_same : {T : Type 0} (g : Geometry) (logs : List Generation) (content : T → Option Content) (disk : T) (k m : Content) (answer : Restored) → m.now ≡ k.now → LeftBy g logs content disk m answer → LeftBy g logs content disk k answer
left_same g logs content disk k m Nothing e left = tt
left_same g logs content disk k m (Done entries marks) e left = record { told = left.told; is = left.is; holds = record { flushed = (left.holds).flushed; now = λ x on. (left.holds).now x on ∙ ap (λ (l : List (List ℕ)). contents_of l (base logs x)) e } }
left_same g logs content disk k m (Stopped writes) e left = record { told = left.told; is = left.is; holds = record { same = λ x above on. (left.holds).same x above on ∙ ap (λ (l : List (List ℕ)). copied (take writes (chain_copies logs)) (contents_of l) x) e } }
left_same g logs content disk k m (BadChain fault) e left = tt
left_same g logs content disk k m DiskFault e left = tt
left_same g logs content disk k m NoMemory e left = record { told = left.told; is = left.is; holds = ((left.holds).0 ∙ e, (left.holds).1) }

pub untouched_same : (answer : Restored) (k m d : Content) → m.now ≡ k.now → Untouched answer m d → Untouched answer k d
untouched_same Nothing k m d e h = (h.0 ∙ e, h.1)
untouched_same (Done entries marks) k m d e h = (h.0 ∙ e, h.1)
untouched_same (Stopped writes) k m d e h = (h.0 ∙ e, h.1)
untouched_same (BadChain fault) k m d e h = (h.0 ∙ e, h.1)
untouched_same DiskFault k m d e h = h ∙ e
untouched_same NoMemory k m d e h = (h.0 ∙ e, h.1)
