-- Settling several devices: the decision was read, the sizes of all disks were asked, and then they were settled.
use Rattle.std.proofs.Common.{◌≡◌, inr, ℕ, ◌<◌, List, [], ◌∷◌, ◌++◌, length, set, Some, Result, Ok, Err, IfOk, IfErr, MatchResult, sym, ap, ◌∙◌, subst, arith}
use Rattle.std.specs.Prelude.{slice_get}
use Rattle.std.proofs.lemmas.Option.{slice_get_within}
use Rattle.bow_units.specs.declared.sizes.Geometry.{Geometry}
use Rattle.bow_units.specs.Sizes.{IsValid}
use Rattle.bow_session.proofs.Loads.{pushed}
use Rattle.bow_pair.specs.Settling.{AreStated, AreValid}
use Rattle.bow_pair.specs.declared.boots.PairBooted.{PairBooted}
use Rattle.bow_pair.specs.declared.boots.PairBootFault.{PairBootFault}
use Rattle.bow_pair.proofs.Rows.{element_at}
use Rattle.bow_pair.proofs.Stages.{put_else, put_here, some_is}
use Rattle.bow_tool.specs.declared.refusals.Refusal.{Refusal}
use Rattle.bow_tool.specs.Outside.{DiskView, KeeperView}
use Rattle.bow_tool.specs.Sizes.{SizesCause}
use Rattle.bow_tool.specs.PairBoots.{IsPairBootedLine, IsPairBootRefusal, PairSettled, PairUnsettled, SizesStop, WasPairBooted}

-- ----------------------------------------------------------------------------------------------------------------
-- The sizes of the disks, one after the other.

-- of a disk whose sizes were asked nothing else is needed
abbrev pub AnyTwo : {D : Type 0} → D → D → Type 0
AnyTwo old new = Unit {0}

pub valid_more : (sizes : List Geometry) (g : Geometry) → AreValid sizes → IsValid g → AreValid (sizes ++ g ∷ [])
valid_more sizes g all one k h at = pushed (λ i x. IsValid x) sizes g all one k h at

module _ {D : Type 0} (v : DiskView D) where
  pub stated_more : (sizes : List Geometry) (disks : List D) (n : ℕ) (g : Geometry) (disk : D) → length sizes ≡ n → n < length disks → AreStated v.stated sizes disks → v.stated disk ≡ Some g → AreStated v.stated (sizes ++ g ∷ []) (set disks n disk)
  stated_more sizes disks n g disk many on all is k h d at there =
      pushed (λ i x. (e : D) → slice_get (set disks n disk) i ≡ Some e → v.stated e ≡ Some x) sizes g
      (λ i x here e put. all i x e here (sym (put_else disks n i disk (λ same. let low = slice_get_within sizes i x here in omega (arith, low, many, same))) ∙ put))
      (λ e put. subst (λ (y : D). v.stated y ≡ Some g) (some_is disk e (sym (put_here disks n disk on) ∙ ap (slice_get (set disks n disk)) (sym many) ∙ put)) is)
      k h at d there

  pub stopped : (sizes : List Geometry) (first now : List D) (n : ℕ) (was is : D) (refusal : Refusal) → AreStated v.stated sizes now → AreValid sizes → length sizes ≡ n → n < length now → slice_get first n ≡ Some was
      → SizesCause (v.stated is) (v.faults was) (v.faults is) refusal → SizesStop v first (set now n is) refusal
  stopped sizes first now n was is refusal stated valid many on here cause = record {
    device = n;
    before = λ k disk low at. (let g = element_at sizes k (omega (arith, low, many)) in (g.0, (stated k g.0 disk g.1 (sym (put_else now n k is (λ same. omega (arith, low, same))) ∙ at), valid k g.0 g.1)));
    was = was;
    is = is;
    was_here = here;
    is_here = put_here now n is on;
    cause = cause;
  }

-- ----------------------------------------------------------------------------------------------------------------
-- What was settled, and told.

module _ {D K T : Type 0} (v : DiskView D) (w : KeeperView K) (old new : List D) (from to : K) (items : T → List ℕ) (answer : Result PairBooted PairBootFault) where
  pub settled_text : (r : Result T Refusal) → WasPairBooted v w old new from to answer → MatchResult r (λ text. IsPairBootedLine answer (items text)) (IsPairBootRefusal answer) → IfOk r (λ text. PairSettled v w old new from to (λ a. IsPairBootedLine a (items text)))
  settled_text (Ok text) did told = (answer, did, told)
  settled_text (Err refusal) did told = tt

  pub settled_refusal : (r : Result T Refusal) → WasPairBooted v w old new from to answer → MatchResult r (λ text. IsPairBootedLine answer (items text)) (IsPairBootRefusal answer) → IfErr r (PairUnsettled v w old new from to)
  settled_refusal (Ok text) did told = tt
  settled_refusal (Err refusal) did told = inr (inr (answer, did, told))
