-- Lists whose elements meet a fact, counts in them, and totals over views.
use Rattle.std.proofs.Common.{slice_index_or, ◌≡◌, ℕ, zero, suc, ◌+◌, ◌<◌, ◌≤◌, ◌≢◌, Bool, true, false, cond, ◌⊎◌, inl, inr, ⊎_elim, List, [], ◌∷◌, ◌++◌, length, length-append, set, sym, refl, ap, ◌∙◌, subst, arith, filter, ◌==◌, eq-eqb, ne_eqb}
use native.Mathlib.Decide.{ℕ_discrete}
use mathlib.Core.Option.{some, some-injective, some-ne-none}
use lib.ListN.{get_elem?}
use Rattle.bow_tags.specs.Rule.{Each, times, total, present}

suc_ne : (j : ℕ) → suc j ≢ zero
suc_ne j z = absurd (omega arith)

suc_inj : (j i : ℕ) → suc j ≡ suc i → j ≡ i
suc_inj j i z = omega arith

same_test : (a b : ℕ) → (a == b) ≡ (suc a == suc b)
same_test a b = by_cases (ℕ_discrete a b)
  where
    by_cases : Dec (a ≡ b) → (a == b) ≡ (suc a == suc b)
    by_cases (yes e) = eq-eqb a b e ∙ sym (eq-eqb (suc a) (suc b) (ap suc e))
    by_cases (no n) = ne_eqb a b n ∙ sym (ne_eqb (suc a) (suc b) (λ e. n (suc_inj a b e)))

module _ {A : Type 0} where
  pub each_map : {F G : A → Type 0} (xs : List A) → ((x : A) → F x → G x) → Each F xs → Each G xs
  each_map [] f h = tt
  each_map (x ∷ xs) f h = (f x h.0, each_map xs f h.1)

  pub each_append : (F : A → Type 0) (xs ys : List A) → Each F xs → Each F ys → Each F (xs ++ ys)
  each_append F [] ys p q = q
  each_append F (x ∷ xs) ys p q = (p.0, each_append F xs ys p.1 q)

  pub each_filter : (F : A → Type 0) (t : A → Bool) (xs : List A) → Each F xs → Each F (filter t xs)
  each_filter F t [] p = tt
  each_filter F t (x ∷ xs) p = let r = each_filter F t xs p.1 in elim (t x) as (λ b. Each F (cond b (x ∷ filter t xs) (filter t xs))) [ true ↦ (p.0, r) | false ↦ r ]

  fails_cons : (t : A → Bool) (x : A) (xs : List A) (b : Bool) → t x ≡ b → cond (t x) 1 0 + times t xs ≡ 0 → (times t xs ≡ 0 → Each (λ y. t y ≡ false) xs) → Each (λ y. t y ≡ false) (x ∷ xs)
  fails_cons t x xs true e h f = absurd (let k : cond true 1 0 + times t xs ≡ 0 = subst (λ b. cond b 1 0 + times t xs ≡ 0) e h in omega arith)
  fails_cons t x xs false e h f = (e, f (let k : cond false 1 0 + times t xs ≡ 0 = subst (λ b. cond b 1 0 + times t xs ≡ 0) e h in omega arith))

  -- the test fails at each element of a list in which it is never passed
  pub each_fails : (t : A → Bool) (xs : List A) → times t xs ≡ 0 → Each (λ x. t x ≡ false) xs
  each_fails t [] h = tt
  each_fails t (x ∷ xs) h = fails_cons t x xs (t x) refl h (each_fails t xs)

  pub each_both : {F G H : A → Type 0} (xs : List A) → ((x : A) → F x → G x → H x) → Each F xs → Each G xs → Each H xs
  each_both [] f p q = tt
  each_both (x ∷ xs) f p q = (f x p.0 q.0, each_both xs f p.1 q.1)

  pub times-append : (t : A → Bool) (xs ys : List A) → times t (xs ++ ys) ≡ times t xs + times t ys
  times-append t [] ys = omega arith
  times-append t (x ∷ xs) ys = let r = times-append t xs ys in omega arith

  pub total_set : (f : A → ℕ) (vs : List A) (i : ℕ) (v w : A) → get_elem? vs i ≡ some v → total f (set vs i w) + f v ≡ total f vs + f w
  total_set f [] i v w e = absurd (some-ne-none v (sym e))
  total_set f (x ∷ xs) zero v w e = let h : f x ≡ f v = ap f (some-injective x v e) in omega arith
  total_set f (x ∷ xs) (suc i) v w e = let r = total_set f xs i v w e in omega arith

  pub total_at : (f : A → ℕ) (vs : List A) (i : ℕ) (v : A) → get_elem? vs i ≡ some v → f v ≤ total f vs
  total_at f [] i v e = absurd (some-ne-none v (sym e))
  total_at f (x ∷ xs) zero v e = let h : f x ≡ f v = ap f (some-injective x v e) in omega arith
  total_at f (x ∷ xs) (suc i) v e = let r = total_at f xs i v e in omega arith

  -- of two seats
  pub total_two : (f : A → ℕ) (vs : List A) (i j : ℕ) (v u : A) → j ≢ i → get_elem? vs i ≡ some v → get_elem? vs j ≡ some u → f v + f u ≤ total f vs
  total_two f [] i j v u n e d = absurd (some-ne-none v (sym e))
  total_two f (x ∷ xs) zero zero v u n e d = absurd (n refl)
  total_two f (x ∷ xs) zero (suc j) v u n e d = let h : f x ≡ f v = ap f (some-injective x v e) in let r = total_at f xs j u d in omega arith
  total_two f (x ∷ xs) (suc i) zero v u n e d = let h : f x ≡ f u = ap f (some-injective x u d) in let r = total_at f xs i v e in omega arith
  total_two f (x ∷ xs) (suc i) (suc j) v u n e d = let r = total_two f xs i j v u (λ z. n (ap suc z)) e d in omega arith

  pub each_at : (F : A → Type 0) (xs : List A) (i : ℕ) (x : A) → Each F xs → get_elem? xs i ≡ some x → F x
  each_at F [] i x h e = absurd (some-ne-none x (sym e))
  each_at F (y ∷ ys) zero x h e = subst F (some-injective y x e) h.0
  each_at F (y ∷ ys) (suc i) x h e = each_at F ys i x h.1 e

  pub times_at : (t : A → Bool) (xs : List A) (i : ℕ) (x : A) → get_elem? xs i ≡ some x → t x ≡ true → 0 < times t xs
  times_at t [] i x e h = absurd (some-ne-none x (sym e))
  times_at t (y ∷ ys) zero x e h = let k : t y ≡ true = ap t (some-injective y x e) ∙ h in subst (λ b. 0 < cond b 1 0 + times t ys) (sym k) (omega arith)
  times_at t (y ∷ ys) (suc i) x e h = let r = times_at t ys i x e h in omega arith

  pub at_short : (xs : List A) (k : ℕ) → k < length xs → (a : A) × (get_elem? xs k ≡ some a)
  at_short [] k h = absurd (omega arith)
  at_short (x ∷ xs) zero h = (x, refl)
  at_short (x ∷ xs) (suc k) h = at_short xs k (omega arith)

  -- where no other seat has any
  pub total_none : (f : A → ℕ) (vs : List A) → ((j : ℕ) (u : A) → get_elem? vs j ≡ some u → f u ≡ 0) → total f vs ≡ 0
  total_none f [] h = refl
  total_none f (x ∷ xs) h = let a = h zero x refl in let r = total_none f xs (λ j u e. h (suc j) u e) in omega arith

  pub total_only : (f : A → ℕ) (vs : List A) (i : ℕ) (v : A) → get_elem? vs i ≡ some v → ((j : ℕ) (u : A) → j ≢ i → get_elem? vs j ≡ some u → f u ≡ 0) → total f vs ≡ f v
  total_only f [] i v e h = absurd (some-ne-none v (sym e))
  total_only f (x ∷ xs) zero v e h = let a : f x ≡ f v = ap f (some-injective x v e) in let r = total_none f xs (λ j u d. h (suc j) u (λ z. suc_ne j z) d) in omega arith
  total_only f (x ∷ xs) (suc i) v e h = let a = h zero x (λ z. suc_ne i (sym z)) refl in let r = total_only f xs i v e (λ j u n d. h (suc j) u (λ z. n (suc_inj j i z)) d) in omega arith

  pub present_is : (xs : List A) (k : ℕ) → (k < length xs → present k xs ≡ 1) × (¬ (k < length xs) → present k xs ≡ 0)
  present_is [] k = ((λ h. absurd (omega arith)), λ h. refl)
  present_is (x ∷ xs) zero = ((λ h. refl), λ h. absurd (h (omega arith)))
  present_is (x ∷ xs) (suc k) = let r = present_is xs k in ((λ h. r.0 (omega arith)), λ h. r.1 (λ z. h (omega arith)))

  pub present_snoc : (xs : List A) (q : A) (k : ℕ) → present k (xs ++ q ∷ []) ≡ present k xs + cond (length xs == k) 1 0
  present_snoc [] q zero = refl
  present_snoc [] q (suc k) = ap (λ b. 0 + cond b 1 0) (sym (ne_eqb 0 (suc k) (λ e. suc_ne k (sym e))))
  present_snoc (x ∷ xs) q zero = ap (λ b. 1 + cond b 1 0) (sym (ne_eqb (suc (length xs)) 0 (λ e. suc_ne (length xs) e)))
  present_snoc (x ∷ xs) q (suc k) = present_snoc xs q k ∙ ap (λ b. present k xs + cond b 1 0) (same_test (length xs) k)

  pub at_end : (xs : List A) (a b : A) (j : ℕ) → get_elem? (xs ++ a ∷ []) j ≡ some b → (get_elem? xs j ≡ some b) ⊎ ((j ≡ length xs) × (a ≡ b))
  at_end [] a b zero e = inr (refl, some-injective a b e)
  at_end [] a b (suc j) e = absurd (some-ne-none b (sym e))
  at_end (x ∷ xs) a b zero e = inl e
  at_end (x ∷ xs) a b (suc j) e = ⊎_elim (λ h. inl h) (λ h. inr (ap suc h.0, h.1)) (at_end xs a b j e)

  numbered_snoc : (F : ℕ → A → Type 0) (xs : List A) (a : A) → ((i : ℕ) (x : A) → get_elem? xs i ≡ some x → F i x) → F (length xs) a → (i : ℕ) (x : A) → get_elem? (xs ++ a ∷ []) i ≡ some x → F i x
  numbered_snoc F xs a h k i x at = ⊎_elim (h i x) (λ t. subst (λ (z : ℕ × A). F z.0 z.1) (λ n. (sym t.0 n, t.1 n)) k) (at_end xs a x i at)

  -- one more was put behind k of them, each at its place
  pub pushed : (F : ℕ → A → Type 0) (xs : List A) (a : A) (ys : List A) (k : ℕ) → ys ≡ xs ++ a ∷ [] → length xs ≡ k → ((i : ℕ) (x : A) → get_elem? xs i ≡ some x → F i x) → F k a
      → (length ys ≡ k + 1) × ((i : ℕ) (x : A) → get_elem? ys i ≡ some x → F i x)
  pushed F xs a ys k is many each new = (
    ap (λ (z : List A). length z) is ∙ (length-append xs (a ∷ []) ∙ ap (λ (n : ℕ). n + 1) many),
    λ i x at. numbered_snoc F xs a each (subst (λ (n : ℕ). F n a) (sym many) new) i x (subst (λ (z : List A). get_elem? z i ≡ some x) is at),
  )

  pub by_index : (F : ℕ → A → Type 0) (xs : List A) → ((i : ℕ) (x : A) → get_elem? xs i ≡ some x → F i x) → (i : ℕ) (d : A) → i < length xs → F i (slice_index_or xs i d)
  by_index F xs h i d less = h i (slice_index_or xs i d) (reads xs i d less)
    where
      reads : (ys : List A) (k : ℕ) (e : A) → k < length ys → get_elem? ys k ≡ some (slice_index_or ys k e)
      reads [] k e l = absurd (omega arith)
      reads (y ∷ ys) zero e l = refl
      reads (y ∷ ys) (suc k) e l = reads ys k e (omega arith)

  pub times_find : (t : A → Bool) (xs : List A) → 0 < times t xs → (i : ℕ) × (x : A) × (get_elem? xs i ≡ some x) × (t x ≡ true)
  times_find t [] h = absurd (omega arith)
  times_find t (x ∷ xs) h = by_test (t x) refl (λ more. times_find t xs more)
    where
      by_test : (b : Bool) → t x ≡ b → (0 < times t xs → (i : ℕ) × (y : A) × (get_elem? xs i ≡ some y) × (t y ≡ true)) → (i : ℕ) × (y : A) × (get_elem? (x ∷ xs) i ≡ some y) × (t y ≡ true)
      by_test true e r = (zero, x, refl, e)
      by_test false e r = let f = r (let k : cond {A = ℕ} (t x) 1 0 ≡ 0 = subst (λ (b : Bool). cond {A = ℕ} b 1 0 ≡ 0) (sym e) refl in omega arith) in (suc f.0, f.1, f.2, f.3)

  -- where a test is passed once, it is passed at one place
  pub one_place : (t : A → Bool) (xs : List A) (i j : ℕ) (x y : A) → times t xs ≤ 1 → get_elem? xs i ≡ some x → get_elem? xs j ≡ some y → t x ≡ true → t y ≡ true → i ≡ j
  one_place t [] i j x y h e d p q = absurd (some-ne-none x (sym e))
  one_place t (z ∷ zs) zero zero x y h e d p q = refl
  one_place t (z ∷ zs) zero (suc j) x y h e d p q = absurd (let k : t z ≡ true = ap t (some-injective z x e) ∙ p in let one : cond {A = ℕ} (t z) 1 0 ≡ 1 = subst (λ (b : Bool). cond {A = ℕ} b 1 0 ≡ 1) (sym k) refl in let more = times_at t zs j y d q in omega arith)
  one_place t (z ∷ zs) (suc i) zero x y h e d p q = absurd (let k : t z ≡ true = ap t (some-injective z y d) ∙ q in let one : cond {A = ℕ} (t z) 1 0 ≡ 1 = subst (λ (b : Bool). cond {A = ℕ} b 1 0 ≡ 1) (sym k) refl in let more = times_at t zs i x e p in omega arith)
  one_place t (z ∷ zs) (suc i) (suc j) x y h e d p q = ap suc (one_place t zs i j x y (omega arith) e d p q)

  pub total_find : (f : A → ℕ) (vs : List A) → 0 < total f vs → (i : ℕ) × (v : A) × (get_elem? vs i ≡ some v) × (0 < f v)
  total_find f [] h = absurd (omega arith)
  total_find f (x ∷ xs) h = by_first (f x) refl (total_find f xs)
    where
      by_first : (n : ℕ) → f x ≡ n → (0 < total f xs → (i : ℕ) × (v : A) × (get_elem? xs i ≡ some v) × (0 < f v)) → (i : ℕ) × (v : A) × (get_elem? (x ∷ xs) i ≡ some v) × (0 < f v)
      by_first zero e more = let r = more (omega arith) in (suc r.0, r.1, r.2, r.3)
      by_first (suc n) e more = (zero, x, refl, omega arith)

  pub total_append : (f : A → ℕ) (xs ys : List A) → total f (xs ++ ys) ≡ total f xs + total f ys
  total_append f [] ys = omega arith
  total_append f (x ∷ xs) ys = let r = total_append f xs ys in omega arith

  pub there : (xs : List A) (i : ℕ) (x : A) → get_elem? xs i ≡ some x → i < length xs
  there [] i x e = absurd (some-ne-none x (sym e))
  there (y ∷ ys) zero x e = omega arith
  there (y ∷ ys) (suc i) x e = let r = there ys i x e in omega arith

  pub head_at : (xs : List A) (x : A) → xs ≡ x ∷ [] → get_elem? xs 0 ≡ some x
  head_at xs x e = ap (λ (z : List A). get_elem? z 0) e
