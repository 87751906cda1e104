-- The logs that a reader keeps.
use mathlib.Core.Path.{fun_ext}
use Rattle.std.proofs.lemmas.Bool.{cases_eq}
use Rattle.std.proofs.Common.{◌≢◌, inl, inr, replicate, take, subst, ℕ, zero, suc, ◌≡◌, ◌<◌, ◌≤◌, List, [], ◌∷◌, ◌++◌, length, map, Option, Some, None, Result, Ok, Err, OnOk, OnErr, arith, refl, sym, ap, ◌∙◌, Box}
use Rattle.std.specs.Prelude.{slice_get, slice_index_or, slice_set}
use Rattle.std.specs.List.{AllByRecursion as Each}
use Rattle.std.specs.declared.alloc.Global.{Global}
use Rattle.bow_log.specs.Spelling.{Fields}
use Rattle.bow_chain.proofs.Counting.{some_inj}
use Rattle.bow_flat.specs.Flat.{put}
use Rattle.bow_past.specs.Inside.{IsOfBlock, unboxed}
use Rattle.bow_past.specs.declared.ended.Ended.{Ended}
use Rattle.bow_past.specs.declared.ended.Ended.TheVariants.{Got, Failed, Strange}
use Rattle.bow_past.specs.Lines.{IsWhole}
use Rattle.bow_units.specs.Sizes.{IsBlockSize, IsValid}
use Rattle.bow_units.specs.declared.sizes.Geometry.{Geometry}
use Rattle.bow_past.specs.Readings.{log_there, missing_below}

-- what is kept of a sequence in the list
pub kept_at : (logs : List (Option (Box Fields Global))) (n : ℕ) (d : Option (Box Fields Global)) → n < length logs → slice_get (map unboxed logs) n ≡ Some (unboxed (slice_index_or logs n d))
kept_at [] n d inside = absurd (omega (arith, inside))
kept_at (log ∷ logs) zero d inside = refl
kept_at (log ∷ logs) (suc n) d inside = kept_at logs n d (omega (arith, inside))

-- behind its end nothing is
pub kept_past : (logs : List (Option (Box Fields Global))) (n : ℕ) → length logs ≤ n → slice_get (map unboxed logs) n ≡ None
kept_past [] n past = refl
kept_past (log ∷ logs) zero past = absurd (omega (arith, past))
kept_past (log ∷ logs) (suc n) past = kept_past logs n (omega (arith, past))

-- one more at the end
pub each_more : {A : Type 0} (P : A → Type 0) (xs : List A) (x : A) → Each P xs → P x → Each P (xs ++ x ∷ [])
each_more P [] x each more = (more, tt)
each_more P (y ∷ xs) x each more = (each.0, each_more P xs x each.1 more)

-- where the greatest one is kept, the missing one is below it
pub missing_lower : (kept : ℕ → Option Fields) (n : ℕ) (log : Fields) → kept n ≡ Some log → missing_below kept (suc n) ≡ missing_below kept n
missing_lower kept n log is = rw is refl

pub missing_here : (kept : ℕ → Option Fields) (n : ℕ) → kept n ≡ None → missing_below kept (suc n) ≡ Some n
missing_here kept n is = rw is refl

-- places without a log, behind the others, keep none
pub none_behind : (logs : List (Option (Box Fields Global))) (k n : ℕ) → log_there (slice_get (map unboxed (logs ++ replicate k None)) n) ≡ log_there (slice_get (map unboxed logs) n)
none_behind [] zero n = refl
none_behind [] (suc k) zero = refl
none_behind [] (suc k) (suc n) = none_behind [] k n
none_behind (log ∷ logs) k zero = refl
none_behind (log ∷ logs) k (suc n) = none_behind logs k n

put_same : {A : Type 0} (f : ℕ → A) (b : ℕ) (v : A) → put f b v b ≡ v
put_same f b v = grind arith

put_other : {A : Type 0} (f : ℕ → A) (b : ℕ) (v : A) (x : ℕ) → x ≢ b → put f b v x ≡ f x
put_other f b v x ne = grind arith

-- one log put among them
there_set : (logs : List (Option (Box Fields Global))) (n : ℕ) (log : Box Fields Global) → n < length logs → log_there (slice_get (map unboxed (slice_set logs n (Some log))) n) ≡ Some log.value
there_set [] n log inside = absurd (omega (arith, inside))
there_set (l ∷ logs) zero log inside = refl
there_set (l ∷ logs) (suc n) log inside = there_set logs n log (omega (arith, inside))

other_set : (logs : List (Option (Box Fields Global))) (n m : ℕ) (log : Option (Box Fields Global)) → m ≢ n → log_there (slice_get (map unboxed (slice_set logs n log)) m) ≡ log_there (slice_get (map unboxed logs) m)
other_set [] n m log other = refl
other_set (l ∷ logs) zero zero log other = absurd (other refl)
other_set (l ∷ logs) zero (suc m) log other = refl
other_set (l ∷ logs) (suc n) zero log other = refl
other_set (l ∷ logs) (suc n) (suc m) log other = other_set logs n m log (λ e. other (ap suc e))

-- a log that is there is one, in whatever way its place is asked for
pub there : (o : Option (Option Fields)) (log : Fields) → log_there o ≡ Some log → o ≡ Some (Some log)
there None log is = absurd (cc is)
there (Some o) log is = ap Some is

pub log_kept : (logs : List (Option (Box Fields Global))) (k n : ℕ) (log : Fields) → slice_get (map unboxed (logs ++ replicate k None)) n ≡ Some (Some log) → slice_get (map unboxed logs) n ≡ Some (Some log)
log_kept logs k n log is = there (slice_get (map unboxed logs) n) log (sym (none_behind logs k n) ∙ ap log_there is)

-- so what is kept are logs still, with one more
module _ (P : Fields → Type 0) (logs : List (Option (Box Fields Global))) (each : (n : ℕ) (log : Fields) → slice_get (map unboxed logs) n ≡ Some (Some log) → P log) where
  pub each_grown : (k n : ℕ) (log : Fields) → slice_get (map unboxed (logs ++ replicate k None)) n ≡ Some (Some log) → P log
  each_grown k n log is = each n log (log_kept logs k n log is)

  pub each_put : (w : ℕ) (one : Box Fields Global) → w < length logs → P one.value → (n : ℕ) (log : Fields) → slice_get (map unboxed (slice_set logs w (Some one))) n ≡ Some (Some log) → P log
  each_put w one inside holds n log is = elim (cases_eq n w) [
    | inl same ↦ subst P (some_inj (sym (there_set logs w one inside) ∙ ap (λ k. log_there (slice_get (map unboxed (slice_set logs w (Some one))) k)) (sym same) ∙ ap log_there is)) holds
    | inr other ↦ each n log (there (slice_get (map unboxed logs) n) log (sym (other_set logs w n (Some one) other) ∙ ap log_there is))
  ]

  pub each_taken : (k n : ℕ) (log : Fields) → slice_get (map unboxed (take k logs)) n ≡ Some (Some log) → P log
  each_taken k n log is = each n log (taken logs k n log is)
    where
      taken : (logs : List (Option (Box Fields Global))) (k n : ℕ) (log : Fields) → slice_get (map unboxed (take k logs)) n ≡ Some (Some log) → slice_get (map unboxed logs) n ≡ Some (Some log)
      taken [] zero n log is = is
      taken [] (suc k) n log is = is
      taken (l ∷ logs) zero n log is = absurd (cc is)
      taken (l ∷ logs) (suc k) zero log is = is
      taken (l ∷ logs) (suc k) (suc n) log is = taken logs k n log is

-- ----------------------------------------------------------------------------------------------------------------
-- The same as callers see it.

behind_none : (kept : List (Option Fields)) (k n : ℕ) → log_there (slice_get (kept ++ replicate k None) n) ≡ log_there (slice_get kept n)
behind_none [] zero n = refl
behind_none [] (suc k) zero = refl
behind_none [] (suc k) (suc n) = behind_none [] k n
behind_none (log ∷ kept) k zero = refl
behind_none (log ∷ kept) k (suc n) = behind_none kept k n

set_there : (kept : List (Option Fields)) (n : ℕ) (log : Fields) → n < length kept → log_there (slice_get (slice_set kept n (Some log)) n) ≡ Some log
set_there [] n log inside = absurd (omega (arith, inside))
set_there (l ∷ kept) zero log inside = refl
set_there (l ∷ kept) (suc n) log inside = set_there kept n log (omega (arith, inside))

set_other : (kept : List (Option Fields)) (n m : ℕ) (log : Option Fields) → m ≢ n → log_there (slice_get (slice_set kept n log) m) ≡ log_there (slice_get kept m)
set_other [] n m log other = refl
set_other (l ∷ kept) zero zero log other = absurd (other refl)
set_other (l ∷ kept) zero (suc m) log other = refl
set_other (l ∷ kept) (suc n) zero log other = refl
set_other (l ∷ kept) (suc n) (suc m) log other = set_other kept n m log (λ e. other (ap suc e))

-- one log more, in a place that was made
pub kept_put : (kept : List (Option Fields)) (k w : ℕ) (log : Fields) → w < length (kept ++ replicate k None)
    → (λ n. log_there (slice_get (slice_set (kept ++ replicate k None) w (Some log)) n)) ≡ put (λ n. log_there (slice_get kept n)) w (Some log)
kept_put kept k w log inside = fun_ext (λ n. elim (cases_eq n w) [
  | inl same ↦ ap (λ m. log_there (slice_get (slice_set (kept ++ replicate k None) w (Some log)) m)) same ∙ set_there (kept ++ replicate k None) w log inside ∙ sym (put_same (λ m. log_there (slice_get kept m)) w (Some log)) ∙ ap (put (λ m. log_there (slice_get kept m)) w (Some log)) (sym same)
  | inr other ↦ set_other (kept ++ replicate k None) w n (Some log) other ∙ behind_none kept k n ∙ sym (put_other (λ m. log_there (slice_get kept m)) w (Some log) n other)
])

-- boxes and what is in them
pub map_grown : (logs : List (Option (Box Fields Global))) (k : ℕ) → map unboxed (logs ++ replicate k None) ≡ map unboxed logs ++ replicate k None
map_grown [] zero = refl
map_grown [] (suc k) = ap (λ l. None ∷ l) (map_grown [] k)
map_grown (log ∷ logs) k = ap (λ l. unboxed log ∷ l) (map_grown logs k)

pub map_put : (logs : List (Option (Box Fields Global))) (w : ℕ) (one : Box Fields Global) → map unboxed (slice_set logs w (Some one)) ≡ slice_set (map unboxed logs) w (Some one.value)
map_put [] w one = refl
map_put (log ∷ logs) zero one = refl
map_put (log ∷ logs) (suc w) one = ap (λ l. unboxed log ∷ l) (map_put logs w one)

pub map_taken : (logs : List (Option (Box Fields Global))) (k : ℕ) → map unboxed (take k logs) ≡ take k (map unboxed logs)
map_taken [] zero = refl
map_taken [] (suc k) = refl
map_taken (log ∷ logs) zero = refl
map_taken (log ∷ logs) (suc k) = ap (λ l. unboxed log ∷ l) (map_taken logs k)

pub take_front : {A : Type 0} (xs ys : List A) → take (length xs) (xs ++ ys) ≡ xs
take_front [] ys = refl
take_front (x ∷ xs) ys = ap (λ l. x ∷ l) (take_front xs ys)

-- one place more without a log
pub none_more : {A : Type 0} (xs : List (Option A)) (n : ℕ) → (xs ++ replicate n None) ++ None ∷ [] ≡ xs ++ replicate (suc n) None
none_more [] zero = refl
none_more [] (suc n) = ap (λ l. None ∷ l) (none_more [] n)
none_more (x ∷ xs) n = ap (λ l. x ∷ l) (none_more xs n)

-- what a result tells where it is ok
pub on_ok : {T E : Type 0} (r : Result T E) {P Q : Type 0} → (P → Q) → OnOk r P → OnOk r Q
on_ok (Ok t) f p = f p
on_ok (Err e) f p = tt

-- places that were made, or were not
pub grown_logs : {T E : Type 0} (P : Fields → Type 0) (logs new : List (Option (Box Fields Global))) (r : Result T E) → ((n : ℕ) (log : Fields) → slice_get (map unboxed logs) n ≡ Some (Some log) → P log)
    → OnOk r ((k : ℕ) × (new ≡ logs ++ replicate k None)) → OnErr r (new ≡ logs) → (n : ℕ) (log : Fields) → slice_get (map unboxed new) n ≡ Some (Some log) → P log
grown_logs P logs new (Ok t) each grown same n log is = each_grown P logs each grown.0 n log (subst (λ l. slice_get (map unboxed l) n ≡ Some (Some log)) grown.1 is)
grown_logs P logs new (Err e) each grown same n log is = each n log (subst (λ l. slice_get (map unboxed l) n ≡ Some (Some log)) same is)

pub each_front : {A : Type 0} (P : A → Type 0) (xs ys : List A) → Each P (xs ++ ys) → Each P xs
each_front P [] ys each = tt
each_front P (x ∷ xs) ys each = (each.0, each_front P xs ys each.1)

-- what ended is of one block each, with one more that is
pub sized_push : (size : ℕ) (xs : List Ended) (x : Ended) → ((i : ℕ) (e : Ended) → slice_get xs i ≡ Some e → IsOfBlock size e) → IsOfBlock size x → (i : ℕ) (e : Ended) → slice_get (xs ++ x ∷ []) i ≡ Some e → IsOfBlock size e
sized_push size [] x each more zero e is = subst (IsOfBlock size) (some_inj is) more
sized_push size [] x each more (suc i) e is = absurd (cc is)
sized_push size (y ∷ xs) x each more zero e is = each 0 e is
sized_push size (y ∷ xs) x each more (suc i) e is = sized_push size xs x (λ j f at. each (suc j) f at) more i e is

-- so of a block's size
pub whole : (g : Geometry) → IsValid g → (e : Ended) → IsOfBlock g.block_size e → IsWhole e
whole g valid (Got bytes) is = subst IsBlockSize (sym is) valid.size
whole g valid Failed is = tt
whole g valid Strange is = tt
