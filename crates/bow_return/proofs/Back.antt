-- The checkpoint comes back.
use Rattle.std.proofs.Common.{ℕ, ◌≡◌, ◌∙◌, List, [], ◌∷◌, ◌++◌, Some, refl, sym, subst, ◌⊎◌, inl, inr}
use Rattle.bow_units.specs.declared.sizes.Geometry.{Geometry}
use Rattle.bow_units.specs.declared.requests.Phase.{Phase}
use Rattle.bow_units.specs.declared.requests.Phase.TheVariants.{Trim, Arming, Checkpoint, Deciding, Committed}
use Rattle.bow_flat.specs.Flat.{Flat}
use Rattle.bow_chain.specs.Contents.{Contents, contents_of}
use Rattle.bow_guard.specs.Standing.{StandsFor, StandsInPhase, HasCheckpointIn}
use Rattle.bow_guard.proofs.Proved.{held_together}
use Rattle.bow_machine.proofs.Cuts.{machine_cut}
use Rattle.bow_restore.proofs.Proved.{reruns_hold}
use Rattle.bow_disk.specs.Disk.{IsImage}
use Rattle.bow_restore.specs.Rewinds.{PassesOn, Reruns}
use Rattle.vold_meta.specs.Attempts.{text_of}
use Rattle.vold_commands.proofs.Rebooting.{boots_roll_back}
use Rattle.bow_return.specs.Laws.{IsLeft, HeldFromTheCheckpoint, HeldFromAnyCut, BootsBringBack}

pub held_from_the_checkpoint : HeldFromTheCheckpoint
held_from_the_checkpoint g f image last between valid whole state has runs =
    let both = held_together g f (contents_of image) state has in
    record { plain = both.1; holds = reruns_hold g f.used f.saved image last between valid whole both.1 both.0 runs }

stands_has : (g : Geometry) (f : Flat) (image : Contents) (p : Phase) → f.phase ≡ p → (p ≡ Arming) ⊎ (p ≡ Checkpoint) → StandsInPhase g p f image → HasCheckpointIn g p f image
stands_has g f image Trim is (inl e) h = absurd cc
stands_has g f image Trim is (inr e) h = absurd cc
stands_has g f image Arming is which h = h
stands_has g f image Checkpoint is which h = h
stands_has g f image Deciding is (inl e) h = absurd cc
stands_has g f image Deciding is (inr e) h = absurd cc
stands_has g f image Committed is (inl e) h = absurd cc
stands_has g f image Committed is (inr e) h = absurd cc

pub held_from_any_cut : HeldFromAnyCut
held_from_any_cut g f last left =
    let d = left.device in
    let standing = d.standing in
    let sound = standing.sound in
    let stands : StandsFor g f (contents_of left.first) = machine_cut g d.machine d.now d.may f (contents_of left.first) standing d.cut in
    let phase : (f.phase ≡ Arming) ⊎ (f.phase ≡ Checkpoint) = elim d.before [ inl e ↦ inl (standing.phases ∙ e) | inr e ↦ inr (standing.phases ∙ e) ] in
    held_from_the_checkpoint g f left.first last left.between sound.sizes d.whole standing.state (stands_has g f (contents_of left.first) f.phase refl phase stands) left.reruns

-- one restoration more that was cut
reruns_more : (g : Geometry) (first last cut : List (List ℕ)) (between : List (List (List ℕ))) → Reruns g first between last → PassesOn g last cut → IsImage g.block_size g.blocks cut → Reruns g first (between ++ cut ∷ []) cut
reruns_more g first last cut [] runs on image = (subst (λ (i : List (List ℕ)). PassesOn g i cut) runs on, image, refl)
reruns_more g first last cut (next ∷ more) runs on image = (runs.0, runs.1, reruns_more g next last cut more runs.2 on image)

pub left_more : (g : Geometry) (f : Flat) (last cut : List (List ℕ)) → IsLeft g f last → PassesOn g last cut → IsImage g.block_size g.blocks cut → IsLeft g f cut
left_more g f last cut left on image = record { first = left.first; device = left.device; between = left.between ++ cut ∷ []; reruns = reruns_more g left.first last cut left.between left.reruns on image }

reruns_image : (g : Geometry) (first last : List (List ℕ)) (between : List (List (List ℕ))) → IsImage g.block_size g.blocks first → Reruns g first between last → IsImage g.block_size g.blocks last
reruns_image g first last [] image runs = subst (λ (i : List (List ℕ)). IsImage g.block_size g.blocks i) (sym runs) image
reruns_image g first last (next ∷ more) image runs = reruns_image g next last more runs.1 runs.2

pub boots_bring_back : BootsBringBack
boots_bring_back g f left i j h l m answer is_left boots boot =
    let d = is_left.device in
    let standing = d.standing in
    let sound = standing.sound in
    let back = held_from_any_cut g f i is_left in
    let done = boots_roll_back g f.used f.saved (record { valid = sound.sizes; plain = back.plain }) left i j h (text_of (Some 0)) l m answer
    (reruns_image g is_left.first i is_left.between d.whole is_left.reruns, back.holds) refl boots boot in
    (done.0, done.1)
