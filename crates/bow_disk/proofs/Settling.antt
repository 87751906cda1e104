-- What a cut of a settled disk leaves.
use Rattle.std.proofs.Common.{◌≡◌, ℕ, ◌<◌, List, [], ◌∷◌, length, map, get_or, refl, sym, ap, ◌∙◌, subst, arith}
use Rattle.std.specs.Prelude.{Contains}
use Rattle.std.proofs.lemmas.List.{ext_get_or, get_or-map, length-map}
use Rattle.bow_disk.specs.Disk.{Content, IsCrash, IsSettledOn}

-- the one element of a list
one_element : (x y : List ℕ) → Contains (x ∷ []) y → y ≡ x
one_element x y has = let first : has.0 ≡ 0 = omega (arith, has.1) in sym (rw first at has.2)

one_candidate : (image : List (List ℕ)) (b : ℕ) → b < length image → get_or (map (λ (x : List ℕ). x ∷ []) image) b [] ≡ get_or image b [] ∷ []
one_candidate image b within = get_or-map (λ (x : List ℕ). x ∷ []) image b [] [] within

pub cut_settled : (image : List (List ℕ)) (c : Content) → IsSettledOn image c → (cut : List (List ℕ)) → IsCrash c.candidates cut → cut ≡ image
cut_settled image c settled cut crash =
    let listed : length c.candidates ≡ length image = ap length settled.candidates ∙ length-map image (λ (x : List ℕ). x ∷ []) in
    let long : length cut ≡ length image = crash.size ∙ listed in
    ext_get_or [] cut image long (λ b within.
    let here : b < length c.candidates = omega arith in
    let one : get_or c.candidates b [] ≡ get_or image b [] ∷ [] = ap (λ (l : List (List (List ℕ))). get_or l b []) settled.candidates ∙ one_candidate image b (omega arith) in
    one_element (get_or image b []) (get_or cut b []) (subst (λ (l : List (List ℕ)). Contains l (get_or cut b [])) one (crash.each b here)))

pub settled_cut : (image : List (List ℕ)) (c : Content) → IsSettledOn image c → (cut : List (List ℕ)) → cut ≡ image → IsCrash c.candidates cut
settled_cut image c settled cut same =
    let listed : length c.candidates ≡ length image = ap length settled.candidates ∙ length-map image (λ (x : List ℕ). x ∷ []) in
    record {
      size = ap length same ∙ sym listed;
      each = λ b within.
          let one : get_or c.candidates b [] ≡ get_or image b [] ∷ [] = ap (λ (l : List (List (List ℕ))). get_or l b []) settled.candidates ∙ one_candidate image b (omega arith) in
          subst (λ (l : List (List ℕ)). Contains l (get_or cut b [])) (sym one) (subst (λ (i : List (List ℕ)). Contains (get_or image b [] ∷ []) (get_or i b [])) (sym same) (0, omega arith, refl));
    }
