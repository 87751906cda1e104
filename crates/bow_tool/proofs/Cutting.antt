-- Restorations that are cut, one after the other.
use Rattle.std.proofs.Common.{◌≡◌, ℕ, List, [], ◌∷◌, ◌++◌, map, Some, Result, Ok, Err, IfOk, Vec, refl, sym, ap, ◌∙◌, subst, arith}
use Rattle.std.specs.declared.alloc.Global.{Global}
use Rattle.bow_units.specs.declared.sizes.Geometry.{Geometry}
use Rattle.bow_disk.specs.Bytes.{image_of}
use Rattle.bow_disk.specs.Disk.{Content, IsCrash, IsImage, IsSettledOn}
use Rattle.bow_disk.specs.Memory.{LeftSince, Memory, State, content, fresh}
use Rattle.bow_disk.specs.MemoryLaws.{counts_law, cuts_law}
use Rattle.bow_restore.specs.Rewinds.{PassesOn, Reruns}
use Rattle.bow_tool.specs.Drills.{IsRerunFrom}

some_same : (a b : Geometry) → Some a ≡ Some b → a ≡ b
some_same a b is = cc

pub settled_there : (image : List (List ℕ)) (c : Content) → IsSettledOn image c → IsSettledOn c.now c
settled_there image c on = record { now = refl; candidates = on.candidates ∙ ap (map (λ (x : List ℕ). x ∷ [])) (sym on.now) }

-- a cut of a restoration passes on what the image kept, and is an image
module _ (g h : Geometry) (room : ℕ) (old new : Memory) (image : List (List ℕ)) (same : h ≡ g) (made : old.state ≡ fresh g image room) (on : IsSettledOn image (content old.state)) (sizes : Some new.state.geometry ≡ Some h)
    (settled : (c : Content) → Some (content old.state) ≡ Some c → IsSettledOn c.now c → (cut : List (List ℕ)) → LeftSince new.state old.state.calls cut → PassesOn h c.now cut) where
  left_then : (cut : List (List ℕ)) → IsCrash (content new.state).candidates cut → LeftSince new.state old.state.calls cut
  left_then cut crash = counts_law new (content new.state) refl old.state.calls cut (let none : old.state.calls ≡ 0 = ap (λ (s : State). s.calls) made in omega (arith, none)) crash

  its_sizes : new.state.geometry ≡ g
  its_sizes = some_same new.state.geometry h sizes ∙ same

  passed : (cut : List (List ℕ)) → IsCrash (content new.state).candidates cut → PassesOn g image cut
  passed cut crash =
      subst (λ x. PassesOn x image cut) same (subst (λ i. PassesOn h i cut) on.now (settled (content old.state) refl (settled_there image (content old.state) on) cut (left_then cut crash)))

  shaped : (cut : List (List ℕ)) → IsCrash (content new.state).candidates cut → IsImage g.block_size g.blocks cut
  shaped cut crash = cuts_law new (content new.state) refl g (sizes ∙ ap Some same) old.state.calls cut (left_then cut crash)

  there : (bytes : List ℕ) → IsCrash (content new.state).candidates (image_of new.state.geometry bytes) → IsCrash (content new.state).candidates (image_of g bytes)
  there bytes crash = subst (λ x. IsCrash (content new.state).candidates (image_of x bytes)) its_sizes crash

  pub passed_on : {E : Type 0} (r : Result (Vec ℕ Global) E) → IfOk r (λ v. IsCrash (content new.state).candidates (image_of new.state.geometry v.items)) → IfOk r (λ next. PassesOn g image (image_of g next.items))
  passed_on (Ok v) crash = passed (image_of g v.items) (there v.items crash)
  passed_on (Err e) crash = tt

  pub image_left : {E : Type 0} (r : Result (Vec ℕ Global) E) → IfOk r (λ v. IsCrash (content new.state).candidates (image_of new.state.geometry v.items)) → IfOk r (λ next. IsImage g.block_size g.blocks (image_of g next.items))
  image_left (Ok v) crash = shaped (image_of g v.items) (there v.items crash)
  image_left (Err e) crash = tt

-- no restoration yet
pub rerun_none : (g h : Geometry) (cs : List (List (List ℕ))) (bytes : List ℕ) → h ≡ g → IsCrash cs (image_of h bytes) → IsRerunFrom g cs (image_of g bytes)
rerun_none g h cs bytes same crash = record { first = image_of g bytes; crash = subst (λ x. IsCrash cs (image_of x bytes)) same crash; between = []; reruns = refl }

reruns_more : (g : Geometry) (first last cut : List (List ℕ)) (between : List (List (List ℕ))) → Reruns g first between last → PassesOn g last cut → IsImage g.block_size g.blocks cut → Reruns g first (between ++ cut ∷ []) cut
reruns_more g first last cut [] runs on image = (subst (λ (i : List (List ℕ)). PassesOn g i cut) runs on, image, refl)
reruns_more g first last cut (next ∷ more) runs on image = (runs.0, runs.1, reruns_more g next last cut more runs.2 on image)

-- and one more
pub rerun_more : (g : Geometry) (cs : List (List (List ℕ))) (last cut : List (List ℕ)) → IsRerunFrom g cs last → PassesOn g last cut → IsImage g.block_size g.blocks cut → IsRerunFrom g cs cut
rerun_more g cs last cut k on image = record { first = k.first; crash = k.crash; between = k.between ++ cut ∷ []; reruns = reruns_more g k.first last cut k.between k.reruns on image }
