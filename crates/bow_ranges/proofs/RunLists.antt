-- Lists of runs, and the kinds that they give.
use Rattle.std.proofs.Common.{◌≡◌, ◌≢◌, ℕ, ◌+◌, ◌-◌, ◌<◌, ◌≤◌, List, [], ◌∷◌, ◌++◌, length, take, drop, replicate, Option, Some, None, refl, sym, ap, ◌∙◌, arith, length-append, append_assoc}
use Rattle.std.proofs.lemmas.List.{drop_all, append-nil, length-replicate, take-replicate, drop-replicate, replicate-append-replicate, take-append-le, drop-append-le}
use Rattle.bow_units.specs.declared.statuses.Kind.{Kind}
use Rattle.bow_ranges.specs.declared.runs.Run.{Run}
use Rattle.bow_ranges.specs.Runs.{spread, end_of, kind_of, IsAbove, IsNormal, IsTail, IsHead}

pub spread-append : (at : ℕ) (xs ys : List Run) → spread at (xs ++ ys) ≡ spread at xs ++ spread (end_of at xs) ys
spread-append at [] ys = refl
spread-append at (x ∷ xs) ys = ap (λ (l : List Kind). replicate (x.end - at) x.kind ++ l) (spread-append x.end xs ys) ∙ sym (append_assoc (replicate (x.end - at) x.kind) (spread x.end xs) (spread (end_of x.end xs) ys))

pub end_of-append : (at : ℕ) (xs ys : List Run) → end_of at (xs ++ ys) ≡ end_of (end_of at xs) ys
end_of-append at [] ys = refl
end_of-append at (x ∷ xs) ys = end_of-append x.end xs ys

pub kind_of-append : (before : Option Kind) (xs ys : List Run) → kind_of before (xs ++ ys) ≡ kind_of (kind_of before xs) ys
kind_of-append before [] ys = refl
kind_of-append before (x ∷ xs) ys = kind_of-append (Some x.kind) xs ys

pub normal_front : (at : ℕ) (before : Option Kind) (xs ys : List Run) → IsNormal at before (xs ++ ys) → IsNormal at before xs
normal_front at before [] ys h = tt
normal_front at before (x ∷ xs) ys h = (h.0, h.1, normal_front x.end (Some x.kind) xs ys h.2)

pub normal_back : (at : ℕ) (before : Option Kind) (xs ys : List Run) → IsNormal at before (xs ++ ys) → IsNormal (end_of at xs) (kind_of before xs) ys
normal_back at before [] ys h = h
normal_back at before (x ∷ xs) ys h = normal_back x.end (Some x.kind) xs ys h.2

pub normal_joined : (at : ℕ) (before : Option Kind) (xs ys : List Run) → IsNormal at before xs → IsNormal (end_of at xs) (kind_of before xs) ys → IsNormal at before (xs ++ ys)
normal_joined at before [] ys h k = k
normal_joined at before (x ∷ xs) ys h k = (h.0, h.1, normal_joined x.end (Some x.kind) xs ys h.2 k)

-- there are no more runs than blocks
pub long : (at : ℕ) (before : Option Kind) (xs : List Run) → IsNormal at before xs → at + length xs ≤ end_of at xs
long at before [] h = omega arith
long at before (x ∷ xs) h = omega (arith, long x.end (Some x.kind) xs h.2, h.0)

pub length-spread : (at : ℕ) (before : Option Kind) (xs : List Run) → IsNormal at before xs → at + length (spread at xs) ≡ end_of at xs
length-spread at before [] h = omega arith
length-spread at before (x ∷ xs) h =
    let here : at < x.end = h.0 in
    let rest = length-spread x.end (Some x.kind) xs h.2 in
    omega (arith, rest, length-append (replicate (x.end - at) x.kind) (spread x.end xs), length-replicate (x.end - at) x.kind)

-- from a block within the first run on
pub long_from : (at from : ℕ) (before : Option Kind) (xs : List Run) → IsNormal at before xs → IsAbove from xs → from + length xs ≤ end_of from xs
long_from at from before [] h above = omega arith
long_from at from before (x ∷ xs) h above = omega (arith, long x.end (Some x.kind) xs h.2, above)

pub drop_from : (at from : ℕ) (xs : List Run) → at ≤ from → IsAbove from xs → drop (from - at) (spread at xs) ≡ spread from xs
drop_from at from [] h above = drop_all (from - at) [] (omega arith)
drop_from at from (x ∷ xs) h above =
    let below : from - at ≤ length (replicate (x.end - at) x.kind) = rw (length-replicate (x.end - at) x.kind) (omega (arith, above)) in
    let num : x.end - at - (from - at) ≡ x.end - from = omega (arith, above) in
    drop-append-le (from - at) (replicate (x.end - at) x.kind) (spread x.end xs) below
    ∙ ap (λ (l : List Kind). l ++ spread x.end xs) (drop-replicate (from - at) (x.end - at) x.kind ∙ ap (λ n. replicate n x.kind) num)

pub take_to : (at to : ℕ) (x : Run) (xs : List Run) → at ≤ to → to ≤ x.end → take (to - at) (spread at (x ∷ xs)) ≡ replicate (to - at) x.kind
take_to at to x xs h within =
    let below : to - at ≤ length (replicate (x.end - at) x.kind) = rw (length-replicate (x.end - at) x.kind) (omega arith) in
    take-append-le (to - at) (replicate (x.end - at) x.kind) (spread x.end xs) below ∙ take-replicate (to - at) (x.end - at) x.kind (omega arith)

pub some_injective : {a b : Kind} → Some a ≡ Some b → a ≡ b
some_injective e = cc

empty : (n : ℕ) (kind : Kind) → replicate (n - n) kind ≡ []
empty n kind = let none : n - n ≡ 0 = omega arith in rw none refl

-- what comes after the runs that are replaced: the next run takes the blocks over, or the new one comes
pub tail_taken : (at start end : ℕ) (before : Option Kind) (kind : Kind) (next : Run) (rest : List Run) → IsNormal at before (next ∷ rest) → start < end → end < next.end → next.kind ≡ kind → IsTail start end kind (next ∷ rest) (next ∷ rest)
tail_taken at start end before kind next rest h some above same = record {
  normal = λ at' before' low other. (omega arith, rw same other, h.2);
  spreads = λ at' low. rw same (
      let num : next.end - at' ≡ (end - at') + (next.end - end) = omega arith in
      ap (λ n. replicate n kind ++ spread next.end rest) num
      ∙ ap (λ (l : List Kind). l ++ spread next.end rest) (sym (replicate-append-replicate (end - at') (next.end - end) kind))
      ∙ append_assoc (replicate (end - at') kind) (replicate (next.end - end) kind) (spread next.end rest));
  ends = λ at'. refl;
}

differs : (end : ℕ) (kind : Kind) (at : ℕ) (before : Option Kind) (rest : List Run) → IsNormal at before rest → IsAbove end rest → ((next : Run) (more : List Run) → rest ≡ next ∷ more → kind ≢ next.kind) → IsNormal end (Some kind) rest
differs end kind at before [] h above apart = tt
differs end kind at before (next ∷ more) h above apart = (above, λ e. apart next more refl (some_injective e), h.2)

pub tail_put : (at start end : ℕ) (before : Option Kind) (kind : Kind) (run : Run) (rest : List Run) → IsNormal at before rest → start < end → IsAbove end rest → run.end ≡ end → run.kind ≡ kind → ((next : Run) (more : List Run) → rest ≡ next ∷ more → kind ≢ next.kind) → IsTail start end kind rest (run ∷ rest)
tail_put at start end before kind run rest h some above ends same apart = record {
  normal = λ at' before' low other. (rw ends (omega arith), rw same other, rw (ends, same) (differs end kind at before rest h above apart));
  spreads = λ at' low. rw (ends, same) refl;
  ends = λ at'. rw ends refl;
}

-- what comes before them
pub head_stays : (start : ℕ) (kind left : Kind) (old : List Run) → IsNormal 0 None old → end_of 0 old < start → kind_of None old ≢ Some left → left ≡ kind → IsHead start kind left old old
head_stays start kind left old h below last same = record { normal = h; last = rw (sym same) last; ends = omega arith; spreads = rw same refl }

pub head_longer : (start : ℕ) (kind left : Kind) (rest : Run) (old : List Run) → IsNormal 0 None old → end_of 0 old < start → kind_of None old ≢ Some left → left ≢ kind → rest.end ≡ start → rest.kind ≡ left → IsHead start kind left old (old ++ rest ∷ [])
head_longer start kind left rest old h below last other ends same = record {
  normal = normal_joined 0 None old (rest ∷ []) h (rw ends below, rw same last, tt);
  last = rw (kind_of-append None old (rest ∷ [])) (rw same (λ e. other (some_injective e)));
  ends = rw (end_of-append 0 old (rest ∷ [])) (omega (arith, ends));
  spreads = rw (spread-append 0 old (rest ∷ []), end_of-append 0 old (rest ∷ [])) (rw (ends, same) (rw (empty start kind) (append-nil (spread 0 old ++ (replicate (start - end_of 0 old) left ++ [])) ∙ ap (λ (l : List Kind). spread 0 old ++ l) (append-nil (replicate (start - end_of 0 old) left)))));
}

pub head_full : (start : ℕ) (kind left : Kind) (old : List Run) → IsNormal 0 None old → end_of 0 old ≡ start → kind_of None old ≢ Some kind → IsHead start kind left old old
head_full start kind left old h full last = record { normal = h; last = last; ends = omega arith; spreads = rw full (rw (empty start kind, empty start left) refl) }

pub head_shorter : (start : ℕ) (kind left : Kind) (run : Run) (front : List Run) → IsNormal 0 None (front ++ run ∷ []) → end_of 0 (front ++ run ∷ []) ≡ start → run.kind ≡ kind → IsHead start kind left (front ++ run ∷ []) front
head_shorter start kind left run front h full same = record {
  normal = normal_front 0 None front (run ∷ []) h;
  last = rw (sym same) (normal_back 0 None front (run ∷ []) h).1;
  ends = let e : run.end ≡ start = sym (end_of-append 0 front (run ∷ [])) ∙ full in omega (arith, e, (normal_back 0 None front (run ∷ []) h).0);
  spreads = let e : run.end ≡ start = sym (end_of-append 0 front (run ∷ [])) ∙ full in
      rw (full, spread-append 0 front (run ∷ [])) (rw (e, same, empty start left) (sym (append-nil (spread 0 front ++ (replicate (start - end_of 0 front) kind ++ [])) ∙ ap (λ (l : List Kind). spread 0 front ++ l) (append-nil (replicate (start - end_of 0 front) kind)))));
}
