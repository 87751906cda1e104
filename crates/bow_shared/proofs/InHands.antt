-- The jobs that a server has in hand.
use Rattle.std.proofs.Common.{◌≡◌, ℕ, zero, suc, ◌<◌, ◌≢◌, ⊎_elim, Bool, true, false, not, cond, ◌==◌, List, [], ◌∷◌, ◌++◌, length, sym, refl, ap, ◌∙◌, subst, arith, eq-eqb, ne_eqb, slice_index_or, drop}
use mathlib.Core.Option.{some, some-injective, some-ne-none}
use lib.ListN.{get_elem?}
use Rattle.atomic_table.proofs.Lists.{at_longer, at_last}
use Rattle.bow_tags.specs.declared.view.Held.{Held}
use Rattle.bow_tags.specs.declared.job.Job.{Job}
use Rattle.bow_tags.specs.Rule.{job_times}
use Rattle.bow_tags.specs.Steps.{held, others}
use Rattle.bow_tags.proofs.Lists.{at_end, times_at}
use Rattle.bow_shared.specs.Hands.{InHand}

pub none_in_hand : {P : Type 0} (hs : List (Held P)) → InHand hs []
none_in_hand hs = record { each = λ i j at. absurd (some-ne-none j (sym at)); apart = λ i k a b at. absurd (some-ne-none a (sym at)) }

same_held : {P : Type 0} (hs gs : List (Held P)) (jobs : List Job) → gs ≡ hs → InHand hs jobs → InHand gs jobs
same_held hs gs jobs e h = subst (λ z. InHand z jobs) (sym e) h

-- a job that was just taken comes to hand
pub took : {P : Type 0} (hs : List (Held P)) (jobs : List Job) (j : Job) (a : P) → InHand hs jobs → job_times j.lane hs ≡ 0 → InHand (hs ++ held j.lane j.number a ∷ []) (jobs ++ j ∷ [])
took {P = P} hs jobs j a h free = record {
  each = λ i x at. ⊎_elim
      (λ old. let e = h.each i x old in (e.0, e.1, at_longer hs (held j.lane j.number a ∷ []) e.0 (held x.lane x.number e.1) e.2))
      (λ new. (length hs, a, subst (λ (y : Job). get_elem? (hs ++ held j.lane j.number a ∷ []) (length hs) ≡ some (held y.lane y.number a)) new.1 (at_last hs (held j.lane j.number a) (length hs) refl)))
      (at_end jobs j x i at);
  apart = λ i k x y x_at y_at same. ⊎_elim
      (λ (x_old : get_elem? jobs i ≡ some x). ⊎_elim (λ (y_old : get_elem? jobs k ≡ some y). h.apart i k x y x_old y_old same)
      (λ (y_new : (k ≡ length jobs) × (j ≡ y)). absurd (busy i x x_old (same ∙ ap (λ (z : Job). z.lane) (sym y_new.1)))) (at_end jobs j y k y_at))
      (λ (x_new : (i ≡ length jobs) × (j ≡ x)). ⊎_elim (λ (y_old : get_elem? jobs k ≡ some y). absurd (busy k y y_old (sym same ∙ ap (λ (z : Job). z.lane) (sym x_new.1))))
      (λ (y_new : (k ≡ length jobs) × (j ≡ y)). x_new.0 ∙ sym y_new.0) (at_end jobs j y k y_at))
      (at_end jobs j x i x_at);
}
  where
    busy : (i : ℕ) (x : Job) → get_elem? jobs i ≡ some x → x.lane ≡ j.lane → ⊥
    busy i x at is = let e = h.each i x at in let t = times_at (λ (z : Held P). z.lane == j.lane) hs e.0 (held x.lane x.number e.1) e.2 (eq-eqb x.lane j.lane is) in absurd (omega arith)

kept : {P : Type 0} (l m k : ℕ) (a : P) (hs : List (Held P)) (i : ℕ) → m ≢ l → get_elem? hs i ≡ some (held m k a) → (n : ℕ) × (get_elem? (others l hs) n ≡ some (held m k a))
kept l m k a [] i ne e = absurd (some-ne-none (held m k a) (sym e))
kept l m k a (x ∷ xs) zero ne e = let lane : x.lane ≡ m = ap (λ (z : Held _). z.lane) (some-injective x (held m k a) e) in
    subst (λ (b : Bool). (n : ℕ) × (get_elem? (cond (not b) (x ∷ others l xs) (others l xs)) n ≡ some (held m k a))) (sym (ne_eqb x.lane l (λ is. ne (sym lane ∙ is)))) (zero, e)
kept l m k a (x ∷ xs) (suc i) ne e = by_test (x.lane == l) (kept l m k a xs i ne e)
  where
    by_test : (b : Bool) → (n : ℕ) × (get_elem? (others l xs) n ≡ some (held m k a)) → (n : ℕ) × (get_elem? (cond (not b) (x ∷ others l xs) (others l xs)) n ≡ some (held m k a))
    by_test true r = r
    by_test false r = (suc r.0, r.1)

suc_same : (a b : ℕ) → suc a ≡ suc b → a ≡ b
suc_same a b e = omega arith

-- the first is answered
pub answered : {P : Type 0} (hs : List (Held P)) (j : Job) (rest : List Job) → InHand hs (j ∷ rest) → InHand (others j.lane hs) rest
answered hs j rest h = record {
  each = λ i x at. let e = h.each (suc i) x at in let f = kept j.lane x.lane x.number e.1 hs e.0 (λ is. absurd (let z : suc i ≡ zero = h.apart (suc i) zero x j at refl is in omega arith)) e.2 in (f.0, e.1, f.1);
  apart = λ i k x y x_at y_at same. suc_same i k (h.apart (suc i) (suc k) x y x_at y_at same);
}

-- or goes behind the others
pub put_behind : {P : Type 0} (hs : List (Held P)) (j : Job) (rest : List Job) → InHand hs (j ∷ rest) → InHand hs (rest ++ j ∷ [])
put_behind hs j rest h = record {
  each = λ i x at. ⊎_elim (λ old. h.each (suc i) x old) (λ new. h.each zero x (ap some new.1)) (at_end rest j x i at);
  apart = λ i k x y x_at y_at same. ⊎_elim
      (λ (a : get_elem? rest i ≡ some x). ⊎_elim (λ (b : get_elem? rest k ≡ some y). suc_same i k (h.apart (suc i) (suc k) x y a b same)) (λ (b : (k ≡ length rest) × (j ≡ y)). absurd (let z : suc i ≡ zero = h.apart (suc i) zero x y a (ap some b.1) same in omega arith)) (at_end rest j y k y_at))
      (λ (a : (i ≡ length rest) × (j ≡ x)). ⊎_elim (λ (b : get_elem? rest k ≡ some y). absurd (let z : zero ≡ suc k = h.apart zero (suc k) x y (ap some a.1) b same in omega arith)) (λ (b : (k ≡ length rest) × (j ≡ y)). a.0 ∙ sym b.0) (at_end rest j y k y_at))
      (at_end rest j x i x_at);
}

pub first_is : (xs : List Job) (x : Job) → 0 < length xs → x ≡ slice_index_or xs 0 x → xs ≡ x ∷ drop 1 xs
first_is [] x h e = absurd (omega arith)
first_is (y ∷ ys) x h e = ap (λ (z : Job). z ∷ ys) (sym e)

pub moved_hand : {P : Type 0} (hs gs : List (Held P)) (js ks : List Job) → gs ≡ hs → ks ≡ js → InHand hs js → InHand gs ks
moved_hand {P = P} hs gs js ks a b h = subst (λ (z : List (Held P) × List Job). InHand z.0 z.1) (λ k. (sym a k, sym b k)) h

-- the first comes back, and goes behind the others
pub goes_behind : {P : Type 0} (hs gs : List (Held P)) (js rest later : List Job) (j back : Job) → gs ≡ hs
    → js ≡ j ∷ drop 1 js → rest ≡ drop 1 js → later ≡ rest ++ back ∷ [] → back ≡ j → InHand hs js → InHand gs later
goes_behind hs gs js rest later j back same first others last is h =
    moved_hand hs gs (drop 1 js ++ j ∷ []) later same
    (last ∙ ap (λ (z : List Job × Job). z.0 ++ z.1 ∷ []) (λ k. (others k, is k)))
    (put_behind hs j (drop 1 js) (subst (InHand hs) first h))

-- the first is answered, and the others stay
pub goes_out : {P : Type 0} (hs gs : List (Held P)) (js rest : List Job) (j : Job) → gs ≡ others j.lane hs
    → js ≡ j ∷ drop 1 js → rest ≡ drop 1 js → InHand hs js → InHand gs rest
goes_out hs gs js rest j gone first others_are h =
    moved_hand (others j.lane hs) gs (drop 1 js) rest gone others_are (answered hs j (drop 1 js) (subst (InHand hs) first h))
