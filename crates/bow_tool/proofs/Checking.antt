-- How the answer of a check comes together.
use Rattle.std.proofs.Common.{◌≡◌, ℕ, List, Option, None, Some, Result, Ok, Err, IfOk, refl, ◌∙◌, subst₂}
use Rattle.bow_units.specs.declared.sizes.Geometry.{Geometry}
use Rattle.bow_units.specs.Sizes.{IsValid}
use Rattle.bow_disk.specs.Disk.{Content, Goes, Same}
use Rattle.bow_chain.specs.Contents.{contents_of}
use Rattle.bow_tool.specs.declared.refusals.Refusal.{Refusal}
use Rattle.bow_tool.specs.Check.{OfImage, TellsChain}

-- what does not change is the same
pub same_content : (old new : Option Content) → Goes Same old new → new ≡ old
same_content None None same = refl
same_content None (Some b) same = absurd same
same_content (Some a) None same = absurd same
same_content (Some a) (Some b) same = subst₂ (λ (now : List (List ℕ)) (candidates : List (List (List ℕ))). Some b ≡ Some (record { now = now; candidates = candidates })) same.0 same.1 refl

-- the sizes were asked, and then the image was read
pub of_image : {T : Type 0} (items : T → List ℕ) (r : Result T Refusal) (stated : Option Geometry) (old mid : Option Content) (g : Geometry) → stated ≡ Some g → IsValid g → Goes Same old mid
    → ((c : Content) → mid ≡ Some c → IfOk r (λ text. TellsChain g (contents_of c.now) (items text))) → IfOk r (λ text. OfImage stated old (λ h image. TellsChain h image (items text)))
of_image items (Ok text) stated old mid g is valid same tells = (g, is, valid, λ c told. tells c (same_content old mid same ∙ told))
of_image items (Err e) stated old mid g is valid same tells = tt
