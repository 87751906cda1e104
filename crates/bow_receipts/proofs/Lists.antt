-- Lists of jobs and answers, caller by caller.
use Rattle.std.proofs.Common.{◌≡◌, ◌≢◌, ◌⊎◌, inl, inr, ℕ, zero, suc, ◌+◌, ◌<◌, ◌≤◌, ◌++◌, ◌&&◌, Bool, true, false, cond, List, [], ◌∷◌, length, map, filter, ◌==◌, Option, Some, None, arith, refl, sym, ap, ◌∙◌, subst, eq-eqb, ne_eqb}
use Rattle.std.specs.Prelude.{slice_get, slice_set, slice_index_or}
use Rattle.std.proofs.lemmas.Bool.{cases_eq, cases_lt}
use Rattle.std.proofs.lemmas.List.{append-nil}
use Rattle.std.proofs.lemmas.List.Elements.{filter-append}
use mathlib.Core.Option.{some}
use lib.ListN.{get_elem?}
use Rattle.bow_history.specs.Ends.{over_lanes}
use Rattle.bow_tags.specs.declared.view.Entry.{Entry}
use Rattle.bow_tags.specs.declared.view.View.{View}
use Rattle.bow_tags.specs.Rule.{In, times, given_times, server_times}
use Rattle.bow_tags.specs.Steps.{SpeaksForAll}
use Rattle.bow_tags.proofs.Lists.{times-append}

pub one_of : {A : Type 0} (o : Option A) (x y : A) → o ≡ Some x → o ≡ Some y → x ≡ y
one_of o x y here there = let e : Some x ≡ Some y = sym here ∙ there in cc e

pub clash : {A : Type 0} {Z : Type 0} (o : Option A) (x : A) → o ≡ None → o ≡ Some x → Z
clash o x gone there = absurd (let e : None ≡ Some x = sym gone ∙ there in grind arith)

module _ {A : Type 0} where
  keep_one : (p : A → Bool) (x : A) → p x ≡ true → filter p (x ∷ []) ≡ x ∷ []
  keep_one p x e = ap (λ b. cond b (x ∷ []) []) e

  drop_one : (p : A → Bool) (x : A) → p x ≡ false → filter p (x ∷ []) ≡ []
  drop_one p x e = ap (λ b. cond b (x ∷ []) []) e

  -- one more that passes, and one that does not
  pub filter_more : (p : A → Bool) (xs : List A) (x : A) → p x ≡ true → filter p (xs ++ x ∷ []) ≡ filter p xs ++ x ∷ []
  filter_more p xs x e = filter-append p xs (x ∷ []) ∙ ap (λ ys. filter p xs ++ ys) (keep_one p x e)

  pub filter_other : (p : A → Bool) (xs : List A) (x : A) → p x ≡ false → filter p (xs ++ x ∷ []) ≡ filter p xs
  filter_other p xs x e = filter-append p xs (x ∷ []) ∙ ap (λ ys. filter p xs ++ ys) (drop_one p x e) ∙ append-nil (filter p xs)

  -- what passes stands in the list
  pub filter_found : (p : A → Bool) (xs : List A) (y : A) (ys : List A) → filter p xs ≡ y ∷ ys → In y xs
  filter_found p [] y ys e = absurd (grind arith)
  filter_found p (x ∷ xs) y ys e = by (p x) e (filter_found p xs y ys)
    where
      by : (b : Bool) → cond b (x ∷ filter p xs) (filter p xs) ≡ y ∷ ys → (filter p xs ≡ y ∷ ys → In y xs) → In y (x ∷ xs)
      by true h later = let same : x ≡ y = cc h in (0, ap some same)
      by false h later = let r = later h in (suc r.0, r.1)

  -- none passes where none is counted
  pub filter_none : (p : A → Bool) (xs : List A) → times p xs ≡ 0 → filter p xs ≡ []
  filter_none p [] e = refl
  filter_none p (x ∷ xs) e = by (p x) refl (filter_none p xs)
    where
      by : (b : Bool) → p x ≡ b → (times p xs ≡ 0 → filter p xs ≡ []) → cond (p x) (x ∷ filter p xs) (filter p xs) ≡ []
      by true is later = absurd (let k : cond {A = ℕ} true 1 0 + times p xs ≡ 0 = subst (λ b. cond {A = ℕ} b 1 0 + times p xs ≡ 0) is e in omega (arith, k))
      by false is later = ap (λ b. cond b (x ∷ filter p xs) (filter p xs)) is
          ∙ later (let k : cond {A = ℕ} false 1 0 + times p xs ≡ 0 = subst (λ b. cond {A = ℕ} b 1 0 + times p xs ≡ 0) is e in omega (arith, k))

  -- of two tests of which one takes out what the other keeps
  pub filter_out : (p q : A → Bool) (xs : List A) → ((x : A) → p x ≡ true → q x ≡ false) → filter p (filter q xs) ≡ []
  filter_out p q [] h = refl
  filter_out p q (x ∷ xs) h = by (q x) refl (filter_out p q xs h)
    where
      rest : (b : Bool) → p x ≡ b → q x ≡ true → filter p (filter q xs) ≡ [] → cond b (x ∷ filter p (filter q xs)) (filter p (filter q xs)) ≡ []
      rest true is kept later = absurd (let e : true ≡ false = sym kept ∙ h x is in grind arith)
      rest false is kept later = later

      by : (b : Bool) → q x ≡ b → filter p (filter q xs) ≡ [] → filter p (cond b (x ∷ filter q xs) (filter q xs)) ≡ []
      by true is later = rest (p x) refl is later
      by false is later = later

  -- and of two of which the one keeps what the other keeps
  pub filter_in : (p q : A → Bool) (xs : List A) → ((x : A) → p x ≡ true → q x ≡ true) → filter p (filter q xs) ≡ filter p xs
  filter_in p q [] h = refl
  filter_in p q (x ∷ xs) h = by (q x) refl (filter_in p q xs h)
    where
      gone : (b : Bool) → p x ≡ b → q x ≡ false → filter p (filter q xs) ≡ filter p xs → filter p (filter q xs) ≡ cond b (x ∷ filter p xs) (filter p xs)
      gone true is out later = absurd (let e : true ≡ false = sym (h x is) ∙ out in grind arith)
      gone false is out later = later

      by : (b : Bool) → q x ≡ b → filter p (filter q xs) ≡ filter p xs → filter p (cond b (x ∷ filter q xs) (filter q xs)) ≡ filter p (x ∷ xs)
      by true is later = ap (λ ys. cond (p x) (x ∷ ys) ys) later
      by false is later = gone (p x) refl is later

  pub last_at : (xs : List A) (x : A) (n : ℕ) → n ≡ length xs → slice_get (xs ++ x ∷ []) n ≡ Some x
  last_at [] x zero is = refl
  last_at [] x (suc n) is = absurd (omega (arith, is))
  last_at (y ∷ xs) x zero is = absurd (omega (arith, is))
  last_at (y ∷ xs) x (suc n) is = last_at xs x n (omega (arith, is))

  pub front_at : (xs ys : List A) (x : A) (n : ℕ) → slice_get xs n ≡ Some x → slice_get (xs ++ ys) n ≡ Some x
  front_at [] ys x n at = clash None x refl at
  front_at (y ∷ xs) ys x zero at = at
  front_at (y ∷ xs) ys x (suc n) at = front_at xs ys x n at

  pub more_at : (xs : List A) (last x : A) (n : ℕ) → slice_get (xs ++ last ∷ []) n ≡ Some x → (slice_get xs n ≡ Some x) ⊎ ((n ≡ length xs) × (x ≡ last))
  more_at [] last x zero here = inr (refl, (let same : last ≡ x = cc here in sym same))
  more_at [] last x (suc n) here = clash None x refl here
  more_at (y ∷ ys) last x zero here = inl here
  more_at (y ∷ ys) last x (suc n) here = elim (more_at ys last x n here) [ inl old ↦ inl old | inr new ↦ inr (ap suc new.0, new.1) ]

  pub at_within : (xs : List A) (n : ℕ) (x : A) → slice_get xs n ≡ Some x → n < length xs
  at_within [] n x at = clash None x refl at
  at_within (y ∷ xs) zero x at = omega arith
  at_within (y ∷ xs) (suc n) x at = let r = at_within xs n x at in omega (arith, r)

  pub index_set_here : (xs : List A) (i : ℕ) (d y : A) → i < length xs → slice_index_or (slice_set xs i y) i d ≡ y
  index_set_here [] i d y less = absurd (omega (arith, less))
  index_set_here (x ∷ xs) zero d y less = refl
  index_set_here (x ∷ xs) (suc i) d y less = index_set_here xs i d y (omega (arith, less))

  pub index_set_there : (xs : List A) (i j : ℕ) (d y : A) → j ≢ i → slice_index_or (slice_set xs i y) j d ≡ slice_index_or xs j d
  index_set_there [] i j d y other = refl
  index_set_there (x ∷ xs) zero zero d y other = absurd (other refl)
  index_set_there (x ∷ xs) zero (suc j) d y other = refl
  index_set_there (x ∷ xs) (suc i) zero d y other = refl
  index_set_there (x ∷ xs) (suc i) (suc j) d y other = index_set_there xs i j d y (λ e. other (ap suc e))

  pub set_length : (xs : List A) (i : ℕ) (y : A) → length (slice_set xs i y) ≡ length xs
  set_length [] i y = refl
  set_length (x ∷ xs) zero y = refl
  set_length (x ∷ xs) (suc i) y = ap suc (set_length xs i y)

  pub index_within : (xs : List A) (i : ℕ) (d : A) → length xs ≤ i → slice_index_or xs i d ≡ d
  index_within [] i d past = refl
  index_within (x ∷ xs) zero d past = absurd (omega (arith, past))
  index_within (x ∷ xs) (suc i) d past = index_within xs i d (omega (arith, past))

  pub map_more : {B : Type 0} (f : A → B) (xs : List A) (x : A) → map f (xs ++ x ∷ []) ≡ map f xs ++ f x ∷ []
  map_more f [] x = refl
  map_more f (y ∷ xs) x = ap (λ ys. f y ∷ ys) (map_more f xs x)

  pub map_length : {B : Type 0} (f : A → B) (xs : List A) → length (map f xs) ≡ length xs
  map_length f [] = refl
  map_length f (x ∷ xs) = ap suc (map_length f xs)

-- a sum in which one part is one more
pub over_more : (f h : ℕ → ℕ) (n lane : ℕ) → lane < n → h lane ≡ f lane + 1 → ((l : ℕ) → l ≢ lane → h l ≡ f l) → over_lanes h n ≡ over_lanes f n + 1
over_more f h zero lane below here there = absurd (omega (arith, below))
over_more f h (suc n) lane below here there = elim (cases_eq lane n) [
  | inl is ↦
      let at : h n ≡ f n + 1 = subst (λ l. h l ≡ f l + 1) is here in
      let rest = over_same f h n lane (omega (arith, is)) there in
      omega (arith, at, rest)
  | inr ne ↦
      let at : h n ≡ f n = there n (λ e. ne (sym e)) in
      let rest = over_more f h n lane (omega (arith, below, ne)) here there in
      omega (arith, at, rest)
]
  where
    over_same : (f h : ℕ → ℕ) (n lane : ℕ) → n ≤ lane → ((l : ℕ) → l ≢ lane → h l ≡ f l) → over_lanes h n ≡ over_lanes f n
    over_same f h zero lane low there = refl
    over_same f h (suc n) lane low there =
        let at : h n ≡ f n = there n (λ e. omega (arith, low, e)) in
        let rest = over_same f h n lane (omega (arith, low)) there in
        omega (arith, at, rest)

pub over_equal : (f h : ℕ → ℕ) (n : ℕ) → ((l : ℕ) → h l ≡ f l) → over_lanes h n ≡ over_lanes f n
over_equal f h zero same = refl
over_equal f h (suc n) same = let at = same n in let rest = over_equal f h n same in omega (arith, at, rest)

pub over_most : (f h : ℕ → ℕ) (n : ℕ) → ((l : ℕ) → f l ≤ h l) → over_lanes f n ≤ over_lanes h n
over_most f h zero le = omega arith
over_most f h (suc n) le = let at = le n in let rest = over_most f h n le in omega (arith, at, rest)

-- ----------------------------------------------------------------------------------------------------------------
-- Answers below a number, each once.

abbrev pub Below : {P Q : Type 0} → List (Entry P Q) → ℕ → ℕ → Type 0
Below given l k = (i : ℕ) → (i < k → given_times l i given ≡ 1) × (¬ (i < k) → given_times l i given ≡ 0)

module _ {P Q : Type 0} where
  pub below_one : (given : List (Entry P Q)) (l a b : ℕ) → Below given l a → Below given l b → a ≡ b
  below_one given l a b h k = elim (cases_lt a b) [
    | inl less ↦ absurd (let none = (h a).1 (λ z. omega (arith, z)) in let one = (k a).0 less in omega (arith, none, one))
    | inr past ↦ elim (cases_lt b a) [
      | inl less ↦ absurd (let none = (k b).1 (λ z. omega (arith, z)) in let one = (h b).0 less in omega (arith, none, one))
      | inr low ↦ omega (arith, past, low)
    ]
  ]

  abbrev hit : Entry P Q → ℕ → ℕ → ℕ
  hit x l i = cond {A = ℕ} ((x.lane == l) && (x.number == i)) 1 0

  pub times_more : (given : List (Entry P Q)) (x : Entry P Q) (l i : ℕ) → given_times l i (given ++ x ∷ []) ≡ given_times l i given + hit x l i
  times_more given x l i = times-append (λ y. (y.lane == l) && (y.number == i)) given (x ∷ []) ∙ (let z : hit x l i + 0 ≡ hit x l i = omega arith in ap (λ n. given_times l i given + n) z)

  hits : (x : Entry P Q) (l i : ℕ) → x.lane ≡ l → x.number ≡ i → hit x l i ≡ 1
  hits x l i e f = ap (λ b. cond {A = ℕ} (b && (x.number == i)) 1 0) (eq-eqb x.lane l e) ∙ ap (λ b. cond {A = ℕ} (true && b) 1 0) (eq-eqb x.number i f)

  misses_lane : (x : Entry P Q) (l i : ℕ) → x.lane ≢ l → hit x l i ≡ 0
  misses_lane x l i n = ap (λ b. cond {A = ℕ} (b && (x.number == i)) 1 0) (ne_eqb x.lane l n)

  misses_number : (x : Entry P Q) (l i : ℕ) → x.number ≢ i → hit x l i ≡ 0
  misses_number x l i n = by (x.lane == l)
    where
      by : (b : Bool) → cond {A = ℕ} (b && (x.number == i)) 1 0 ≡ 0
      by true = ap (λ c. cond {A = ℕ} (true && c) 1 0) (ne_eqb x.number i n)
      by false = refl

  -- with the next one of its caller
  pub below_next : (given : List (Entry P Q)) (x : Entry P Q) (k : ℕ) → x.number ≡ k → Below given x.lane k → Below (given ++ x ∷ []) x.lane (suc k)
  below_next given x k is h i = (
    λ less. elim (cases_eq i k) [
      | inl at ↦ let more = times_more given x x.lane i in let none = (h i).1 (λ z. omega (arith, z, at)) in let one = hits x x.lane i refl (is ∙ sym at) in omega (arith, more, none, one)
      | inr ne ↦ let more = times_more given x x.lane i in let one = (h i).0 (omega (arith, less, ne)) in let none = misses_number x x.lane i (λ e. ne (sym e ∙ is)) in omega (arith, more, none, one)
    ],
    λ past. let more = times_more given x x.lane i in let none = (h i).1 (λ z. past (omega (arith, z))) in
        let miss = misses_number x x.lane i (λ e. past (omega (arith, e, is))) in omega (arith, more, none, miss),
  )

  -- with one of another
  pub below_other : (given : List (Entry P Q)) (x : Entry P Q) (l k : ℕ) → x.lane ≢ l → Below given l k → Below (given ++ x ∷ []) l k
  below_other given x l k apart h i =
      let same : given_times l i (given ++ x ∷ []) ≡ given_times l i given = (let more = times_more given x l i in let none = misses_lane x l i apart in omega (arith, more, none)) in
      ((λ less. same ∙ (h i).0 less), λ past. same ∙ (h i).1 past)

pub over_less : (f h : ℕ → ℕ) (n x : ℕ) → x < n → ((l : ℕ) → f l ≤ h l) → f x + 1 ≤ h x → over_lanes f n + 1 ≤ over_lanes h n
over_less f h zero x below le less = absurd (omega (arith, below))
over_less f h (suc n) x below le less = elim (cases_eq x n) [
  | inl is ↦ let here = subst (λ l. f l + 1 ≤ h l) is less in let rest = over_most f h n le in omega (arith, here, rest)
  | inr ne ↦ let here = le n in let rest = over_less f h n x (omega (arith, below, ne)) le less in omega (arith, here, rest)
]

-- whatever stands for one past the end
pub index_any : {A : Type 0} (xs : List A) (i : ℕ) (d e : A) → i < length xs → slice_index_or xs i d ≡ slice_index_or xs i e
index_any [] i d e less = absurd (omega (arith, less))
index_any (x ∷ xs) zero d e less = refl
index_any (x ∷ xs) (suc i) d e less = index_any xs i d e (omega (arith, less))

module _ {A : Type 0} where
  -- what passes stands among what is kept
  pub in_filter : (p : A → Bool) (xs : List A) (x : A) → In x xs → p x ≡ true → In x (filter p xs)
  in_filter p [] x (i, at) is = absurd (let e = at in grind arith)
  in_filter p (y ∷ xs) x (zero, at) is =
      let same : y ≡ x = cc at in
      (0, subst (λ b. get_elem? (cond b (y ∷ filter p xs) (filter p xs)) 0 ≡ some x) (sym (ap p same ∙ is)) at)
  in_filter p (y ∷ xs) x (suc i, at) is =
      let rest = in_filter p xs x (i, at) is in
      elim (p y) as (λ b. In x (cond b (y ∷ filter p xs) (filter p xs))) [ true ↦ (suc rest.0, rest.1) | false ↦ rest ]

  pub in_single : (x y : A) → In x (y ∷ []) → x ≡ y
  in_single x y (zero, at) = let same : y ≡ x = cc at in sym same
  in_single x y (suc i, at) = absurd (let e = at in grind arith)

  -- by its place
  pub filter_at : (p : A → Bool) (xs : List A) (i : ℕ) (x : A) → slice_get xs i ≡ Some x → p x ≡ true → (m : ℕ) × (slice_get (filter p xs) m ≡ Some x)
  filter_at p [] i x at is = clash None x refl at
  filter_at p (y ∷ xs) zero x at is =
      let same : y ≡ x = cc at in
      (0, subst (λ b. slice_get (cond b (y ∷ filter p xs) (filter p xs)) 0 ≡ Some x) (sym (ap p same ∙ is)) at)
  filter_at p (y ∷ xs) (suc i) x at is =
      let rest = filter_at p xs i x at is in
      elim (p y) as (λ b. (m : ℕ) × (slice_get (cond b (y ∷ filter p xs) (filter p xs)) m ≡ Some x)) [ true ↦ (suc rest.0, rest.1) | false ↦ rest ]

-- the one seat speaks for every server number
pub speaks_for_all : {P Q : Type 0} (v : View P Q) → v.speaks ≡ 0 ∷ [] → v.servers ≡ 1 → SpeaksForAll v
speaks_for_all v speaks servers j below =
    let first : j ≡ 0 = omega (arith, below, servers) in
    let one : server_times 0 (0 ∷ []) ≡ 1 = refl in
    let there : server_times j v.speaks ≡ 1 = ap (λ n. server_times n v.speaks) first ∙ ap (λ (xs : List ℕ). server_times 0 xs) speaks ∙ one in
    omega (arith, there)
