-- Sessions over several devices: as they are loaded, go on and are closed.
use Rattle.std.proofs.Common.{◌≡◌, ℕ, zero, suc, ◌+◌, ◌<◌, Bool, true, false, List, [], ◌∷◌, ◌++◌, Option, None, Some, map, length, get_or, set, refl, sym, ap, ◌∙◌, subst, arith, append_assoc, append-nil}
use Rattle.std.specs.Prelude.{slice_get, Result, Ok, Err, OnOk, is_err}
use Rattle.std.specs.List.{remove, sum_by}
use native.Mathlib.Decide.{ℕ_discrete}
use Rattle.std.proofs.lemmas.List.{map-append, length-map}
use Rattle.std.proofs.lemmas.List.Sums.{sum_by-set}
use Rattle.bow_units.specs.declared.sizes.Geometry.{Geometry}
use Rattle.bow_disk.specs.Disk.{Content}
use Rattle.bow_core.specs.Views.{View}
use Rattle.bow_script.specs.declared.scripts.Line.{Line}
use Rattle.bow_history.specs.Ends.{turns_left}
use Rattle.bow_session.specs.Leads.{WasLoaded}
use Rattle.bow_session.specs.Parts.{Account, account_of}
use Rattle.bow_session.specs.Requests.{requests_in}
use Rattle.bow_session.specs.Sessions.{IsOver, Run, plan_in, state_in}
use Rattle.bow_session.proofs.Loads.{pushed}
use Rattle.bow_pair.specs.Deciding.{EachPair}
use Rattle.bow_pair.specs.Playing.{AreLoaded, EachRun, GoesOn, HasEnded, HavePlayed, IsNew, LoadsNext}
use Rattle.bow_pair.proofs.Stages.{put_else, put_here, some_is}

-- how many turns a session may still make
abbrev pub turns_of : {D : Type 0} → Run D → ℕ
turns_of s = turns_left (plan_in s) (requests_in s.script) (state_in s)

-- ----------------------------------------------------------------------------------------------------------------
-- Lists.

-- an element of a mapped list is of an element
pub mapped : {A B : Type 0} (f : A → B) (xs : List A) (k : ℕ) (y : B) → slice_get (map f xs) k ≡ Some y → (x : A) × (slice_get xs k ≡ Some x) × (f x ≡ y)
mapped f [] k y at = absurd (grind (arith, at))
mapped f (x ∷ xs) zero y at = (x, refl, some_is (f x) y at)
mapped f (x ∷ xs) (suc k) y at = mapped f xs k y at

-- one is put in place of another, from which it comes
pub put_one : {V : Type 0} (R : V → V → Type 0) → ((a b c : V) → R a b → R b c → R a c) → (first now : List V) (n : ℕ) (v w : V) → n < length now → slice_get now n ≡ Some v → R v w → EachPair R first now → EachPair R first (set now n w)
put_one R on first now n v w within was goes each k a b at is = elim (ℕ_discrete k n) [
  | no other ↦ each k a b at (sym (put_else now n k w other) ∙ is)
  | yes same ↦
      let new : w ≡ b = some_is w b (sym (put_here now n w within) ∙ ap (slice_get (set now n w)) (sym same) ∙ is) in
      subst (R a) new (on a v w (each k a v at (ap (slice_get now) same ∙ was)) goes)
]

-- each from itself
pub each_itself : {V : Type 0} (R : V → V → Type 0) → ((a : V) → R a a) → (xs : List V) → EachPair R xs xs
each_itself R itself xs k a b at is = subst (R a) (some_is a b (sym at ∙ is)) (itself a)

-- a smaller one makes the sum smaller
pub less_in_all : {V : Type 0} (f : V → ℕ) (xs : List V) (n : ℕ) (v w : V) → n < length xs → f w < f (get_or xs n v) → sum_by f (set xs n w) < sum_by f xs
less_in_all f xs n v w within less = let all = sum_by-set f xs n w v within in omega (arith, all, less)

-- what holds where there was no error
pub on_ok : {T E : Type 0} (r : Result T E) (X : Type 0) → is_err r ≡ false → OnOk r X → X
on_ok (Ok x) X is holds = holds
on_ok (Err e) X is holds = absurd (cc is)

-- what is not left undone is done
pub made : (b : Bool) → (b ≡ false → ⊥) → b ≡ true
made true not = refl
made false not = absurd (not refl)

-- the first one
pub head_is : {V : Type 0} (xs : List V) (x : V) → 0 < length xs → x ≡ get_or xs 0 x → slice_get xs 0 ≡ Some x
head_is [] x some is = absurd (omega (arith, some))
head_is {V = V} (y ∷ xs) x some is = ap (λ (z : V). Some z) (sym is)

-- it is taken out
pub first_out : {V : Type 0} (xs ys : List V) (x : V) → 0 < length xs → x ≡ get_or xs 0 x → ys ≡ remove xs 0 → xs ≡ x ∷ ys
first_out [] ys x some is less = absurd (omega (arith, some))
first_out {V = V} (y ∷ xs) ys x some is less = ap (λ (z : V). z ∷ xs) (sym is) ∙ ap (λ (l : List V). x ∷ l) (sym less)

-- what stands behind others
pub behind : {V : Type 0} (xs ys all : List V) (k : ℕ) (v : V) → xs ++ ys ≡ all → slice_get ys k ≡ Some v → slice_get all (length xs + k) ≡ Some v
behind {V = V} xs ys all k v is at = ap (λ (l : List V). slice_get l (length xs + k)) (sym is) ∙ go xs
  where
    go : (zs : List V) → slice_get (zs ++ ys) (length zs + k) ≡ Some v
    go [] = let none : length {A = V} [] + k ≡ k = omega arith in ap (λ n. slice_get ys n) none ∙ at
    go (z ∷ zs) = let one : length (z ∷ zs) + k ≡ suc (length zs + k) = omega arith in ap (λ n. slice_get ((z ∷ zs) ++ ys) n) one ∙ go zs

-- the last one goes before others
pub back_to_front : {A B : Type 0} (f : A → B) (xs less : List A) (x : A) (ys more all : List B) → xs ≡ less ++ x ∷ [] → map f xs ++ ys ≡ all → more ≡ f x ∷ ys → map f less ++ more ≡ all
back_to_front {A = A} {B = B} f xs less x ys more all is so added =
    ap (λ (l : List B). map f less ++ l) added ∙ sym (append_assoc (map f less) (f x ∷ []) ys) ∙ ap (λ (l : List B). l ++ ys) (sym (map-append f less (x ∷ []))) ∙ ap (λ (l : List A). map f l ++ ys) (sym is) ∙ so

-- one more in front
pub one_before : {S : Type 0} (P : S → Type 0) (x : S) (xs : List S) → P x → ((k : ℕ) (s : S) → slice_get xs k ≡ Some s → P s) → (k : ℕ) (s : S) → slice_get (x ∷ xs) k ≡ Some s → P s
one_before P x xs p each zero s at = subst P (some_is x s at) p
one_before P x xs p each (suc k) s at = each k s at

-- ----------------------------------------------------------------------------------------------------------------
-- Loading.

module _ {D : Type 0} (stated : D → Option Geometry) (content : D → Option Content) (moment : D → ℕ) (left : D → ℕ → List (List ℕ) → Type 0) (faults : D → ℕ) where
  abbrev core_in : Run D → View D
  core_in s = s.core

  -- before the first
  pub none_loaded : (part : ℕ → List (List (List Line))) (cores : List (View D)) (sessions : List (Run D)) → sessions ≡ [] → AreLoaded stated content moment left faults part cores cores sessions
  none_loaded part cores sessions none = record {
    split = ap (λ (l : List (Run D)). map (λ s. s.core) l ++ cores) none;
    each = λ k s at. absurd (let e : None ≡ Some s = ap (λ (l : List (Run D)). slice_get l k) (sym none) ∙ at in grind (arith, e));
  }

  -- one more
  pub one_more_loaded : (part : ℕ → List (List (List Line))) (cores rest less : List (View D)) (sessions more : List (Run D)) (n : ℕ) → length sessions ≡ n → AreLoaded stated content moment left faults part cores rest sessions
      → LoadsNext stated content moment left faults (part n) rest less sessions more → AreLoaded stated content moment left faults part cores less more
  one_more_loaded part cores rest less sessions more n many so next = record {
    split = ap (λ (l : List (Run D)). map core_in l ++ less) next.added ∙ ap (λ l. l ++ less) (map-append core_in sessions (next.session ∷ [])) ∙ append_assoc (map core_in sessions) (next.session.core ∷ []) less ∙ ap (λ l. map core_in sessions ++ l) (sym next.taken) ∙ so.split;
    each = λ k s at. pushed (λ i x. IsNew stated content moment left faults (part i) x) sessions next.session so.each (subst (λ i. IsNew stated content moment left faults (part i) next.session) (sym many) next.fresh) k s (ap (λ (l : List (Run D)). slice_get l k) (sym next.added) ∙ at);
  }

  -- ----------------------------------------------------------------------------------------------------------------
  -- Going on.

  pub goes_itself : (s : Run D) → GoesOn stated content moment left faults s s
  goes_itself s = record { script = refl; loaded = λ first k. k }

  pub goes_then : (a b c : Run D) → GoesOn stated content moment left faults a b → GoesOn stated content moment left faults b c → GoesOn stated content moment left faults a c
  goes_then a b c p q = record { script = q.script ∙ p.script; loaded = λ first k. q.loaded first (p.loaded first k) }

  -- ----------------------------------------------------------------------------------------------------------------
  -- All in all.

  -- loaded over all devices
  pub as_many_loaded : (part : ℕ → List (List (List Line))) (cores rest : List (View D)) (sessions : List (Run D)) → AreLoaded stated content moment left faults part cores rest sessions → rest ≡ [] → length sessions ≡ length cores
  as_many_loaded part cores rest sessions loaded none = sym (length-map sessions core_in) ∙ ap (λ (l : List (View D)). length l) (sym (append-nil (map core_in sessions)) ∙ ap (λ (l : List (View D)). map core_in sessions ++ l) (sym none) ∙ loaded.split)

  -- loaded over all devices, gone on to their ends, and closed
  pub all_played : (part : ℕ → List (List (List Line))) (old new rest : List (View D)) (accounts : List Account) (begun ended : List (Run D)) → AreLoaded stated content moment left faults part old rest begun → rest ≡ []
      → EachPair (GoesOn stated content moment left faults) begun ended → length ended ≡ length begun → EachRun IsOver ended → EachRun (HasEnded stated content moment left faults) ended
      → new ≡ map (λ (s : Run D). s.core) ended ++ rest → accounts ≡ map account_of ended ++ [] → HavePlayed stated content moment left faults part old new accounts
  all_played part old new rest accounts begun ended loaded none goes many over closed cores left_over =
      let cores_are : new ≡ map core_in ended = cores ∙ ap (λ l. map core_in ended ++ l) none ∙ append-nil (map core_in ended) in
      let accounts_are : accounts ≡ map account_of ended = left_over ∙ append-nil (map account_of ended) in
      let first_are : old ≡ map core_in begun = sym loaded.split ∙ ap (λ l. map core_in begun ++ l) none ∙ append-nil (map core_in begun) in
      record {
        many = ap (λ (l : List (View D)). length l) cores_are ∙ length-map ended core_in ∙ many ∙ sym (length-map begun core_in) ∙ ap (λ (l : List (View D)). length l) (sym first_are);
        as_many = ap (λ (l : List Account). length l) accounts_are ∙ length-map ended account_of ∙ many ∙ sym (length-map begun core_in) ∙ ap (λ (l : List (View D)). length l) (sym first_are);
        each = λ k v w a was is account.
            let b = mapped core_in begun k v (ap (λ (l : List (View D)). slice_get l k) (sym first_are) ∙ was) in
            let e = mapped core_in ended k w (ap (λ (l : List (View D)). slice_get l k) (sym cores_are) ∙ is) in
            let f = mapped account_of ended k a (ap (λ (l : List Account). slice_get l k) (sym accounts_are) ∙ account) in
            let same : f.0 ≡ e.0 = some_is f.0 e.0 (sym f.1 ∙ e.1) in
            let g = goes k b.0 e.0 b.1 e.1 in
            let fresh = loaded.each k b.0 b.1 in
            record {
              session = e.0;
              loaded = g.loaded v (subst (λ x. WasLoaded stated content moment left faults x b.0) b.2 fresh.loaded);
              asked = g.script ∙ fresh.asked;
              over = over k e.0 e.1;
              ended = closed k e.0 e.1;
              device = e.2;
              account = ap account_of (sym same) ∙ f.2;
            };
      }
