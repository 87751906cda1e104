-- Several devices: what agrees goes on agreeing over boots that are cut, and is settled so by one that ends well.
use Rattle.std.proofs.Common.{◌≡◌, inl, inr, ℕ, Bool, true, false, List, [], ◌∷◌, Option, Some, None, refl, sym, ap, ◌∙◌, subst}
use Rattle.std.specs.Prelude.{slice_get}
use Rattle.std.specs.Option.{option_map}
use Rattle.std.proofs.lemmas.Option.{slice_get-map}
use Rattle.bow_units.specs.declared.sizes.Geometry.{Geometry}
use Rattle.vold_meta.specs.Decisions.{text_of_decision}
use Rattle.bow_pair.specs.Joint.{Member, AreMembers, AgreesOn, Each, HasCurrent, HoldsSaved, IsForwardable, IsMember, Settled}
use Rattle.bow_pair.specs.Boots.{Answers, CutBoot, CutBoots, CutBy, CutFrom, EndedBoot, WholeBy}
use Rattle.bow_pair.specs.BootLaws.{AreSizesOf, BootsSettle, CutsStayAgreed, SettledAnswer}
use Rattle.bow_pair.specs.declared.boots.PairBooted.{PairBooted}
use Rattle.bow_pair.proofs.Members.{current_back, current_cut, forward_cut, forward_whole, held_back, held_cut}

mapped : (o : Option Member) (g : Geometry) → option_map (λ (m : Member). m.sizes) o ≡ Some g → (m : Member) × (o ≡ Some m) × (m.sizes ≡ g)
mapped None g e = absurd (cc e)
mapped (Some m) g e = (m, refl, cc e)

no_commit : (committed : Bool) → None ≡ text_of_decision committed → committed ≡ false
no_commit true e = absurd (cc e)
no_commit false e = refl

is_commit : (text : List ℕ) (committed : Bool) → Some text ≡ text_of_decision committed → committed ≡ true
is_commit text true e = refl
is_commit text false e = absurd (cc e)

module _ (members : List Member) (sizes : List Geometry) (all : AreMembers members) (fit : AreSizesOf members sizes) where
  -- a member has its sizes
  pub size_of : (k : ℕ) (m : Member) → slice_get members k ≡ Some m → slice_get sizes k ≡ Some m.sizes
  size_of k m at = ap (λ (gs : List Geometry). slice_get gs k) fit ∙ slice_get-map (λ (x : Member). x.sizes) members k ∙ ap (option_map (λ (x : Member). x.sizes)) at

  pub member_of : (k : ℕ) (g : Geometry) → slice_get sizes k ≡ Some g → (m : Member) × (slice_get members k ≡ Some m) × (m.sizes ≡ g)
  member_of k g at = mapped (slice_get members k) g (sym (slice_get-map (λ (x : Member). x.sizes) members k) ∙ ap (λ (gs : List Geometry). slice_get gs k) (sym fit) ∙ at)

  -- where each is as it was, or was cut
  cut_commit : (text : List ℕ) (m : Member) (i j : List (List ℕ)) → IsMember m → IsForwardable m i → CutFrom (Some text) m.sizes i j → IsForwardable m j
  cut_commit text m i j is can (inl same) = subst (IsForwardable m) (sym same) can
  cut_commit text m i j is can (inr (committed, read, cut)) = forward_cut m is i j can (subst (λ (b : Bool). CutBy b m.sizes i j) (is_commit text committed read) cut)

  cut_none : (P : Member → List (List ℕ) → Type 0) (m : Member) (i j : List (List ℕ)) → (CutBy false m.sizes i j → P m j) → P m i → CutFrom None m.sizes i j → P m j
  cut_none P m i j cuts has (inl same) = subst (P m) (sym same) has
  cut_none P m i j cuts has (inr (committed, read, cut)) = cuts (subst (λ (b : Bool). CutBy b m.sizes i j) (no_commit committed read) cut)

  -- one boot that is cut
  pub cut_agrees : (committed : Bool) (i j : ℕ → List (List ℕ)) (text left : Option (List ℕ)) → AgreesOn committed text members i → CutBoot sizes i text j left → AgreesOn committed left members j
  cut_agrees true i j (Some text) left agreed (inl (same, each)) =
      subst (λ (l : Option (List ℕ)). AgreesOn true l members j) (sym same) (agreed.0, λ k m at. cut_commit text m (i k) (j k) (all k m at) (agreed.1 k m at) (each k m.sizes (size_of k m at)))
  cut_agrees true i j (Some text) left agreed (inr (is, none, each)) =
      subst (λ (l : Option (List ℕ)). AgreesOn true l members j) (sym none) (λ k m at. forward_whole m (all k m at) (i k) (j k) (agreed.1 k m at) (each k m.sizes (size_of k m at)))
  cut_agrees true i j None left agreed (inl (same, each)) =
      subst (λ (l : Option (List ℕ)). AgreesOn true l members j) (sym same)
      (λ k m at. cut_none HasCurrent m (i k) (j k) (λ cut. current_cut m (all k m at) (i k) (j k) (agreed k m at) cut) (agreed k m at) (each k m.sizes (size_of k m at)))
  cut_agrees true i j None left agreed (inr (is, none, each)) = absurd (cc is)
  cut_agrees false i j (Some text) left agreed boot = absurd agreed
  cut_agrees false i j None left agreed (inl (same, each)) =
      subst (λ (l : Option (List ℕ)). AgreesOn false l members j) (sym same)
      (λ k m at. cut_none HoldsSaved m (i k) (j k) (λ cut. held_cut m (all k m at) (i k) (j k) (agreed k m at) cut) (agreed k m at) (each k m.sizes (size_of k m at)))
  cut_agrees false i j None left agreed (inr (is, none, each)) = absurd (cc is)

  -- nothing is done
  pub stays : (committed : Bool) (i j : ℕ → List (List ℕ)) (text left : Option (List ℕ)) → ((k : ℕ) (m : Member) → slice_get members k ≡ Some m → j k ≡ i k) → left ≡ text → AgreesOn committed text members i → AgreesOn committed left members j
  stays committed i j text left same is agreed = subst (λ (l : Option (List ℕ)). AgreesOn committed l members j) (sym is) (by committed text agreed)
    where
      by : (b : Bool) (t : Option (List ℕ)) → AgreesOn b t members i → AgreesOn b t members j
      by true (Some t) a = (a.0, λ k m at. subst (IsForwardable m) (sym (same k m at)) (a.1 k m at))
      by true None a = λ k m at. subst (HasCurrent m) (sym (same k m at)) (a k m at)
      by false (Some t) a = absurd a
      by false None a = λ k m at. subst (HoldsSaved m) (sym (same k m at)) (a k m at)

  -- any number of boots that are cut
  boots_agree : (committed : Bool) (boots : List ((ℕ → List (List ℕ)) × Option (List ℕ))) (i j : ℕ → List (List ℕ)) (text left : Option (List ℕ)) → AgreesOn committed text members i → CutBoots sizes boots i text j left → AgreesOn committed left members j
  boots_agree committed [] i j text left agreed same = stays committed i j text left (λ k m at. same.0 k) same.1 agreed
  boots_agree committed (one ∷ rest) i j text left agreed cut = boots_agree committed rest one.0 j one.1 left (cut_agrees committed i one.0 text one.1 agreed cut.0) cut.1

  answers_back : (i : ℕ → List (List ℕ)) (answer : PairBooted) → Answers false sizes i answer → SettledAnswer false answer
  answers_back i answer (inl a) = inl a.0
  answers_back i answer (inr a) = inr a.0

  answers_plain : (i : ℕ → List (List ℕ)) (answer : PairBooted) → Each HasCurrent members i → Answers false sizes i answer → SettledAnswer true answer
  answers_plain i answer has (inl (is, (k, g, at, logged))) = let m = member_of k g at in absurd (((has k m.0 m.1).1).plain logged)
  answers_plain i answer has (inr a) = inr a.0

  -- a boot that ends well: each device is settled so, and what it leaves agrees
  pub record IsSettledSo (committed : Bool) (answer : PairBooted) (last : ℕ → List (List ℕ)) : Type 0 where
    pub each : Each (Settled committed) members last
    pub agrees : AgreesOn committed None members last
    pub answers : SettledAnswer committed answer

  pub ended : (committed : Bool) (i last : ℕ → List (List ℕ)) (text kept : Option (List ℕ)) (answer : PairBooted) → AgreesOn committed text members i → EndedBoot sizes i text answer last kept → IsSettledSo committed answer last
  ended true i last (Some text) kept answer agreed boot =
      let yes_ : boot.committed ≡ true = is_commit text boot.committed boot.decided in
      let each : Each HasCurrent members last = (λ k m at. forward_whole m (all k m at) (i k) (last k) (agreed.1 k m at) (subst (λ (b : Bool). WholeBy b m.sizes (i k) (last k)) yes_ (boot.whole k m.sizes (size_of k m at)))) in
      record { each = each; agrees = each; answers = inl (subst (λ (b : Bool). Answers b sizes i answer) yes_ boot.answers) }
  ended true i last None kept answer agreed boot =
      let no_ : boot.committed ≡ false = no_commit boot.committed boot.decided in
      let each : Each HasCurrent members last = (λ k m at. current_back m (all k m at) (i k) (last k) (agreed k m at) (subst (λ (b : Bool). WholeBy b m.sizes (i k) (last k)) no_ (boot.whole k m.sizes (size_of k m at)))) in
      record { each = each; agrees = each; answers = answers_plain i answer agreed (subst (λ (b : Bool). Answers b sizes i answer) no_ boot.answers) }
  ended false i last (Some text) kept answer agreed boot = absurd agreed
  ended false i last None kept answer agreed boot =
      let no_ : boot.committed ≡ false = no_commit boot.committed boot.decided in
      let back = (λ (k : ℕ) (m : Member) (at : slice_get members k ≡ Some m). held_back m (all k m at) (i k) (last k) (agreed k m at) (subst (λ (b : Bool). WholeBy b m.sizes (i k) (last k)) no_ (boot.whole k m.sizes (size_of k m at)))) in
      record { each = λ k m at. (back k m at).0; agrees = λ k m at. (back k m at).1; answers = answers_back i answer (subst (λ (b : Bool). Answers b sizes i answer) no_ boot.answers) }

pub cuts_stay_agreed : CutsStayAgreed
cuts_stay_agreed members sizes all fit committed boots i j text left agreed cut = boots_agree members sizes all fit committed boots i j text left agreed cut

pub boots_settle : BootsSettle
boots_settle members sizes all fit committed boots i j last text left kept answer agreed cut boot =
    let done = ended members sizes all fit committed j last left kept answer (boots_agree members sizes all fit committed boots i j text left agreed cut) boot in
    (done.each, boot.none, done.answers)
