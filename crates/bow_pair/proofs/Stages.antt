-- Devices that are settled one after the other.
use Rattle.std.proofs.Common.{◌≡◌, ◌≢◌, ◌⊎◌, inl, inr, ℕ, zero, suc, ◌+◌, ◌<◌, ◌≤◌, Bool, true, false, List, [], ◌∷◌, Option, Some, length, get_or, set, refl, sym, ap, ◌∙◌, subst, arith}
use Rattle.std.specs.Prelude.{slice_get, ◌||◌}
use native.Mathlib.Decide.{ℕ_discrete}
use Rattle.std.proofs.lemmas.Option.{slice_get-get_or, slice_get_within}
use Rattle.bow_units.specs.declared.sizes.Geometry.{Geometry}
use Rattle.bow_disk.specs.Disk.{Content, IsCrash}
use Rattle.bow_pair.specs.Settling.{AreStated, EachDisk, IsLeft, IsRefused, IsSettled, StopsAt, TellsLogged, TellsSome}
use Rattle.bow_pair.specs.declared.boots.PairBootFault.{PairBootFault}

pub some_is : {X : Type 0} (x y : X) → Some x ≡ Some y → x ≡ y
some_is x y e = cc e

pub put_here : {X : Type 0} (xs : List X) (i : ℕ) (w : X) → i < length xs → slice_get (set xs i w) i ≡ Some w
put_here [] i w h = absurd (omega arith)
put_here (x ∷ xs) zero w h = refl
put_here (x ∷ xs) (suc i) w h = put_here xs i w (omega arith)

pub put_else : {X : Type 0} (xs : List X) (i j : ℕ) (w : X) → j ≢ i → slice_get (set xs i w) j ≡ slice_get xs j
put_else [] i j w h = refl
put_else (x ∷ xs) zero zero w h = absurd (h refl)
put_else (x ∷ xs) zero (suc j) w h = refl
put_else (x ∷ xs) (suc i) zero w h = refl
put_else (x ∷ xs) (suc i) (suc j) w h = put_else xs i j w (λ e. h (ap suc e))

module _ {T : Type 0} (stated : T → Option Geometry) (content : T → Option Content) (faults : T → ℕ) (committed : Bool) (sizes : List Geometry) (first : List T) where
  left_same : (g : Geometry) (a : T) → IsLeft content committed g a a
  left_same g a c told image cut = inl (subst (λ (x : Content). IsCrash x.candidates image) (some_is cut.0 c (sym cut.1 ∙ told)) cut.2)

  -- what holds of the disks however far it went
  pub record Kept (now : List T) : Type 0 where
    pub left : EachDisk (λ k g a b. IsLeft content committed g a b) sizes first now
    pub later : EachDisk (λ k g a b. faults a ≤ faults b) sizes first now
    pub states : AreStated stated sizes now

  pub kept_first : AreStated stated sizes first → Kept first
  kept_first states = record {
    left = λ k g a b size was is. subst (λ (x : T). IsLeft content committed g a x) (some_is a b (sym was ∙ is)) (left_same g a);
    later = λ k g a b size was is. subst (λ (x : T). faults a ≤ faults x) (some_is a b (sym was ∙ is)) (omega arith);
    states = states;
  }

  -- one device was called on
  pub record Step (now : List T) (n : ℕ) (g : Geometry) (d e : T) : Type 0 where
    pub within : n < length now
    pub size : slice_get sizes n ≡ Some g
    pub was : slice_get now n ≡ Some d
    pub before : slice_get first n ≡ Some d
    pub left : IsLeft content committed g d e
    pub later : faults d ≤ faults e
    pub states : stated e ≡ Some g

  -- the device of this number, and the others, after it
  by_number : (P : ℕ → Geometry → T → T → Type 0) (now : List T) (n : ℕ) (sg : Geometry) (sd e : T) → (s : Step now n sg sd e) → P n sg sd e → (k : ℕ) (g : Geometry) (a b : T) → slice_get sizes k ≡ Some g → slice_get first k ≡ Some a → slice_get (set now n e) k ≡ Some b
      → (k ≢ n → slice_get now k ≡ Some b → P k g a b) → P k g a b
  by_number P now n sg sd e s here k g a b size was is else_ = elim (ℕ_discrete k n) [
    | no other ↦ else_ other (sym (put_else now n k e other) ∙ is)
    | yes same ↦
        let size_is : sg ≡ g = some_is sg g (sym s.size ∙ ap (slice_get sizes) (sym same) ∙ size) in
        let disk_is : sd ≡ a = some_is sd a (sym s.before ∙ ap (slice_get first) (sym same) ∙ was) in
        let now_is : e ≡ b = some_is e b (sym (put_here now n e s.within) ∙ ap (slice_get (set now n e)) (sym same) ∙ is) in
        subst (λ (y : T). P k g a y) now_is (subst (λ (y : T). P k g y e) disk_is (subst (λ (y : Geometry). P k y sd e) size_is (subst (λ (y : ℕ). P y sg sd e) (sym same) here)))
  ]

  states_put : (now : List T) (n : ℕ) (sg : Geometry) (sd e : T) → Step now n sg sd e → AreStated stated sizes now → AreStated stated sizes (set now n e)
  states_put now n sg sd e s all k g b size is = elim (ℕ_discrete k n) [
    | no other ↦ all k g b size (sym (put_else now n k e other) ∙ is)
    | yes same ↦
        let size_is : sg ≡ g = some_is sg g (sym s.size ∙ ap (slice_get sizes) (sym same) ∙ size) in
        let now_is : e ≡ b = some_is e b (sym (put_here now n e s.within) ∙ ap (slice_get (set now n e)) (sym same) ∙ is) in
        subst (λ (y : T). stated y ≡ Some g) now_is (s.states ∙ ap (λ (y : Geometry). Some y) size_is)
  ]

  pub kept_put : (now : List T) (n : ℕ) (sg : Geometry) (sd e : T) → Kept now → Step now n sg sd e → Kept (set now n e)
  kept_put now n sg sd e all s = record {
    left = λ k g a b size was is. by_number (λ k g a b. IsLeft content committed g a b) now n sg sd e s s.left k g a b size was is (λ other at. all.left k g a b size was at);
    later = λ k g a b size was is. by_number (λ k g a b. faults a ≤ faults b) now n sg sd e s s.later k g a b size was is (λ other at. all.later k g a b size was at);
    states = states_put now n sg sd e s all.states;
  }

  -- so many devices were settled whole
  pub record SoFar (now : List T) (n : ℕ) (logged : Bool) : Type 0 where
    pub kept : Kept now
    pub settled : EachDisk (λ k g a b. k < n → IsSettled content committed g a b) sizes first now
    pub rest : (k : ℕ) → n ≤ k → slice_get now k ≡ slice_get first k
    pub some : logged ≡ true → (k : ℕ) × (disk : T) × (slice_get first k ≡ Some disk) × TellsLogged content disk true
    pub none : logged ≡ false → (k : ℕ) (disk : T) → k < n → slice_get first k ≡ Some disk → TellsLogged content disk false

  pub so_far_first : AreStated stated sizes first → SoFar first 0 false
  so_far_first states = record {
    kept = kept_first states;
    settled = λ k g a b size was is below. absurd (omega arith);
    rest = λ k from. refl;
    some = λ e. absurd (cc e);
    none = λ e k disk below at. absurd (omega arith);
  }

  either : (a b : Bool) → (a || b) ≡ true → (a ≡ true) ⊎ (b ≡ true)
  either true b e = inl refl
  either false b e = inr e

  neither : (a b : Bool) → (a || b) ≡ false → (a ≡ false) × (b ≡ false)
  neither true b e = absurd (cc e)
  neither false b e = (refl, e)

  pub so_far_more : (now : List T) (n : ℕ) (sg : Geometry) (sd e : T) (logged one : Bool) → SoFar now n logged → (s : Step now n sg sd e) → IsSettled content committed sg sd e → TellsLogged content sd one → SoFar (set now n e) (n + 1) (logged || one)
  so_far_more now n sg sd e logged one so s done tells = record {
    kept = kept_put now n sg sd e so.kept s;
    settled = λ k g a b size was is below. by_number (λ k g a b. k < n + 1 → IsSettled content committed g a b) now n sg sd e s (λ low. done) k g a b size was is (λ other at low. so.settled k g a b size was at (omega arith)) below;
    rest = λ k from. put_else now n k e (λ same. omega arith) ∙ so.rest k (omega arith);
    some = λ yes_. elim (either logged one yes_) [
      | inl before ↦ so.some before
      | inr here ↦ (n, sd, s.before, subst (TellsLogged content sd) here tells)
    ];
    none = λ no_ k disk below at. elim (ℕ_discrete k n) [
      | no other ↦ so.none (neither logged one no_).0 k disk (omega arith) at
      | yes same ↦ subst (λ (x : T). TellsLogged content x false) (some_is sd disk (sym s.before ∙ ap (slice_get first) (sym same) ∙ at)) (subst (TellsLogged content sd) (neither logged one no_).1 tells)
    ];
  }

  pub so_far_stops : (now : List T) (n : ℕ) (sg : Geometry) (sd e : T) (logged : Bool) (fault : PairBootFault) → SoFar now n logged → (s : Step now n sg sd e) → IsRefused content faults committed n sg sd e fault → StopsAt content faults committed sizes first (set now n e) fault
  so_far_stops now n sg sd e logged fault so s refused = record {
    device = n;
    on = slice_get_within sizes n sg s.size;
    before = λ k g a b size was is below. so.settled k g a b size was (sym (put_else now n k e (λ same. omega arith)) ∙ is) below;
    refused = λ k g a b size was is at. by_number (λ k g a b. k ≡ n → IsRefused content faults committed n g a b fault) now n sg sd e s (λ same. refused) k g a b size was is (λ other before same. absurd (other same)) at;
    behind = λ k above. put_else now n k e (λ same. omega arith) ∙ so.rest k (omega arith);
  }

  pub so_far_settled : (now : List T) (n : ℕ) (logged : Bool) → SoFar now n logged → n ≡ length first → EachDisk (λ k g a b. IsSettled content committed g a b) sizes first now
  so_far_settled now n logged so whole k g a b size was is = so.settled k g a b size was is (let low = slice_get_within first k a was in omega (arith, low))

  pub so_far_logged : (now : List T) (n : ℕ) (logged : Bool) → SoFar now n logged → n ≡ length first → TellsSome content first logged
  so_far_logged now n true so whole = so.some refl
  so_far_logged now n false so whole = λ k disk at. so.none refl k disk (let low = slice_get_within first k disk at in omega (arith, low)) at

  -- the device of this number, as the lists have it
  pub step_of : (now : List T) (n : ℕ) (e x : T) (y : Geometry) (logged : Bool) → SoFar now n logged → length now ≡ length first → length first ≡ length sizes → n < length first → IsLeft content committed (get_or sizes n y) (get_or now n x) e
      → faults (get_or now n x) ≤ faults e → stated e ≡ Some (get_or sizes n y) → Step now n (get_or sizes n y) (get_or now n x) e
  step_of now n e x y logged so long many low left later states =
      let was : slice_get now n ≡ Some (get_or now n x) = slice_get-get_or now n x (omega arith) in
      record {
        within = omega arith;
        size = slice_get-get_or sizes n y (omega arith);
        was = was;
        before = sym (so.rest n (omega arith)) ∙ was;
        left = left;
        later = later;
        states = states;
      }

pub or_true : (a b n : Bool) → a ≡ true → n ≡ true → (a || b) ≡ n
or_true a b n is new = ap (λ (x : Bool). x || b) is ∙ sym new

pub or_false : (a b n : Bool) → a ≡ false → n ≡ b → (a || b) ≡ n
or_false a b n is new = ap (λ (x : Bool). x || b) is ∙ sym new
