-- The laws that follow from the rule of the status cell.
use Rattle.std.proofs.Common.{◌≡◌, ℕ, zero, suc, ◌<◌, inl, inr, List, [], ◌∷◌, sym, ap, ◌∙◌, subst, arith}
use mathlib.Core.Option.{some, some-injective, some-ne-none}
use lib.ListN.{get_elem?}
use Rattle.bow_units.specs.declared.statuses.Seen.{Seen}
use Rattle.bow_status.specs.declared.view.View.{View}
use Rattle.bow_status.specs.declared.shown.Shown.{Shown}
use Rattle.bow_status.specs.Rising.{VersionsRise, WasShown, StatusRule, EqualVersionsAreOne, SeenWasSent}

all_above : (n : ℕ) (sent : List Seen) (i : ℕ) (s : Seen) → VersionsRise n sent → get_elem? sent i ≡ some s → n < s.version
all_above n [] i s h e = absurd (some-ne-none s (sym e))
all_above n (x ∷ xs) zero s h e = subst (λ (z : Seen). n < z.version) (some-injective x s e) h.0
all_above n (x ∷ xs) (suc i) s h e = let r = all_above x.version xs i s h.1 e in let l = h.0 in omega arith

one_value : (n : ℕ) (sent : List Seen) (i j : ℕ) (s t : Seen) → VersionsRise n sent → get_elem? sent i ≡ some s → get_elem? sent j ≡ some t → s.version ≡ t.version → s ≡ t
one_value n [] i j s t h e d same = absurd (some-ne-none s (sym e))
one_value n (x ∷ xs) zero zero s t h e d same = sym (some-injective x s e) ∙ some-injective x t d
one_value n (x ∷ xs) zero (suc j) s t h e d same = absurd (let is : x.version ≡ s.version = ap (λ (z : Seen). z.version) (some-injective x s e) in let r = all_above x.version xs j t h.1 d in omega arith)
one_value n (x ∷ xs) (suc i) zero s t h e d same = absurd (let is : x.version ≡ t.version = ap (λ (z : Seen). z.version) (some-injective x t d) in let r = all_above x.version xs i s h.1 e in omega arith)
one_value n (x ∷ xs) (suc i) (suc j) s t h e d same = one_value x.version xs i j s t h.1 e d same

one_shown : (sent : List Seen) (s t : Seen) → VersionsRise 0 sent → WasShown sent s → WasShown sent t → s.version ≡ t.version → s ≡ t
one_shown sent s t h (inl a) (inl b) same = a ∙ sym b
one_shown sent s t h (inl a) (inr b) same = absurd (let is : s.version ≡ 0 = ap (λ (z : Seen). z.version) a in let r = all_above 0 sent b.0 t h b.1 in omega arith)
one_shown sent s t h (inr a) (inl b) same = absurd (let is : t.version ≡ 0 = ap (λ (z : Seen). z.version) b in let r = all_above 0 sent a.0 s h a.1 in omega arith)
one_shown sent s t h (inr a) (inr b) same = one_value 0 sent a.0 b.0 s t h a.1 b.1 same

pub equal_versions : (x : Shown) (views : List View) → StatusRule x views → EqualVersionsAreOne views
equal_versions x views r i j v w v_at w_at same = one_shown r.sent v.last w.last r.rises (r.each i v v_at).1 (r.each j w w_at).1 same

pub seen_sent : (x : Shown) (views : List View) → StatusRule x views → SeenWasSent views
seen_sent x views r i j v w v_at w_at right = subst (λ (sent : List Seen). WasShown sent v.last) (sym ((r.each j w w_at).0 right).1) (r.each i v v_at).1
