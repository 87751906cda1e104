-- A kind put in place of some runs.
use Rattle.std.proofs.Common.{◌≡◌, ◌≢◌, ℕ, zero, suc, ◌+◌, ◌-◌, ◌<◌, ◌≤◌, true, false, List, [], ◌∷◌, ◌++◌, length, take, drop, replicate, get_or, Option, Some, None, refl, sym, ap, ◌∙◌, subst, inl, inr, arith, length-append, append_assoc, take-append-drop, length-drop}
use Rattle.std.proofs.lemmas.List.{take_at, drop_at, take_all, length-take-le, replicate-append-replicate}
use Rattle.std.proofs.lemmas.Bool.{leb-true, leb-false, cases_lt}
use Rattle.std.proofs.Math.Dec.{leb}
use Rattle.std.proofs.Math.Seq.{take-suc, drop-cons, take-append-add, drop-append-add}
use Rattle.std.specs.List.Sorted.{IsPartitionPoint}
use Rattle.bow_units.specs.declared.statuses.Kind.{Kind}
use Rattle.bow_ranges.specs.declared.runs.Run.{Run}
use Rattle.bow_ranges.specs.Runs.{spread, end_of, kind_of, IsAbove, BeginsWith, IsNormal, IsCut, IsTail, IsHead, IsPut}
use Rattle.bow_ranges.proofs.RunLists.{spread-append, end_of-append, normal_front, normal_back, normal_joined, long, length-spread, long_from, drop_from, take_to, tail_taken, tail_put, head_shorter, some_injective}

pub end_at : (at : ℕ) (xs : List Run) (i : ℕ) (d : Run) → i < length xs → end_of at (take (suc i) xs) ≡ (get_or xs i d).end
end_at at [] i d h = absurd (omega arith)
end_at at (x ∷ xs) zero d h = refl
end_at at (x ∷ xs) (suc i) d h = end_at x.end xs i d (omega arith)

pub kind_last : (before : Option Kind) (xs : List Run) (i : ℕ) (d : Run) → i < length xs → kind_of before (take (suc i) xs) ≡ Some (get_or xs i d).kind
kind_last before [] i d h = absurd (omega arith)
kind_last before (x ∷ xs) zero d h = refl
kind_last before (x ∷ xs) (suc i) d h = kind_last (Some x.kind) xs i d (omega arith)

-- the ends rise
above_at : (at : ℕ) (before : Option Kind) (xs : List Run) (i : ℕ) (d : Run) → IsNormal at before xs → i < length xs → at < (get_or xs i d).end
above_at at before [] i d h k = absurd (omega arith)
above_at at before (x ∷ xs) zero d h k = h.0
above_at at before (x ∷ xs) (suc i) d h k = let rest = above_at x.end (Some x.kind) xs i d h.2 (omega arith) in omega (arith, h.0, rest)

pub ends_rise : (at : ℕ) (before : Option Kind) (xs : List Run) → IsNormal at before xs → (i j : ℕ) (d : Run) → i ≤ j → j < length xs → (get_or xs i d).end ≤ (get_or xs j d).end
ends_rise at before [] h i j d le k = absurd (omega arith)
ends_rise at before (x ∷ xs) h zero zero d le k = omega arith
ends_rise at before (x ∷ xs) h zero (suc j) d le k = let rest = above_at x.end (Some x.kind) xs j d h.2 (omega arith) in omega (arith, rest)
ends_rise at before (x ∷ xs) h (suc i) zero d le k = absurd (omega arith)
ends_rise at before (x ∷ xs) h (suc i) (suc j) d le k = ends_rise x.end (Some x.kind) xs h.2 i j d (omega arith) (omega arith)

low_end : (from at : ℕ) (xs : List Run) (i : ℕ) (d : Run) → from ≤ at → i ≤ length xs → ((k : ℕ) → k < i → (get_or xs k d).end ≤ at) → end_of from (take i xs) ≤ at
low_end from at xs zero d low within h = low
low_end from at xs (suc i) d low within h = rw (end_at from xs i d (omega arith)) (h i (omega arith))

high_above : (at : ℕ) (xs : List Run) (i : ℕ) (d : Run) → (i < length xs → at < (get_or xs i d).end) → IsAbove at (drop i xs)
high_above at [] zero d h = tt
high_above at [] (suc i) d h = tt
high_above at (x ∷ xs) zero d h = h (omega arith)
high_above at (x ∷ xs) (suc i) d h = high_above at xs i d (λ k. h (omega arith))

pub cut_from_point : (xs : List Run) (at i : ℕ) (d : Run) → i ≤ length xs → IsPartitionPoint (λ (y : Run). leb y.end at ≡ true) (λ (y : Run). leb y.end at ≡ false) xs i → IsCut xs at i
cut_from_point xs at i d within point = record {
  within = within;
  ends = low_end 0 at xs i d (omega arith) within (λ k h. leb-true (get_or xs k d).end at (point.0 k d (omega arith) h));
  above = high_above at xs i d (λ h. leb-false (get_or xs i d).end at (point.1 i d (omega arith) h));
}

-- the new list in its two parts
pub in_parts : (low : ℕ) (old new tail : List Run) → low ≤ length old → new ≡ take low old ++ tail → (take low new ≡ take low old) × (drop low new ≡ tail)
in_parts low old new tail within e =
    let long_enough : length (take low old) ≡ low = length-take-le low old within in
    (ap (λ l. take low l) e ∙ take_at (take low old) tail low long_enough, ap (λ l. drop low l) e ∙ drop_at (take low old) tail low long_enough)

pub in_parts_longer : (low : ℕ) (old new : List Run) (run : Run) (tail : List Run) → low ≤ length old → new ≡ take low old ++ run ∷ tail → (take (low + 1) new ≡ take low old ++ run ∷ []) × (drop (low + 1) new ≡ tail)
in_parts_longer low old new run tail within e =
    let long_enough : length (take low old ++ run ∷ []) ≡ low + 1 = omega (arith, length-append (take low old) (run ∷ []), length-take-le low old within) in
    let regrouped : new ≡ (take low old ++ run ∷ []) ++ tail = e ∙ sym (append_assoc (take low old) (run ∷ []) tail) in
    (ap (λ l. take (low + 1) l) regrouped ∙ take_at (take low old ++ run ∷ []) tail (low + 1) long_enough, ap (λ l. drop (low + 1) l) regrouped ∙ drop_at (take low old ++ run ∷ []) tail (low + 1) long_enough)

pub back : (old : List Run) (i : ℕ) → IsNormal 0 None old → IsNormal (end_of 0 (take i old)) (kind_of None (take i old)) (drop i old)
back old i h = normal_back 0 None (take i old) (drop i old) (subst (λ (l : List Run). IsNormal 0 None l) (sym (take-append-drop i old)) h)

pub front : (old : List Run) (i : ℕ) → IsNormal 0 None old → IsNormal 0 None (take i old)
front old i h = normal_front 0 None (take i old) (drop i old) (subst (λ (l : List Run). IsNormal 0 None l) (sym (take-append-drop i old)) h)

taken_over : (at start end : ℕ) (before : Option Kind) (kind : Kind) (rest : List Run) → IsNormal at before rest → start < end → IsAbove end rest → BeginsWith kind rest → IsTail start end kind rest rest
taken_over at start end before kind [] h some above begins = absurd begins
taken_over at start end before kind (next ∷ rest) h some above begins = tail_taken at start end before kind next rest h some above begins

not_first : (kind : Kind) (rest : List Run) → (BeginsWith kind rest → ⊥) → (next : Run) (more : List Run) → rest ≡ next ∷ more → kind ≢ next.kind
not_first kind rest apart next more e same = apart (subst (λ (l : List Run). BeginsWith kind l) (sym e) (sym same))

pub right_taken : (old new : List Run) (low high start end : ℕ) (kind : Kind) → IsNormal 0 None old → low ≤ length old → start < end → IsAbove end (drop high old) → BeginsWith kind (drop high old) → new ≡ take low old ++ drop high old → IsTail start end kind (drop high old) (drop low new)
right_taken old new low high start end kind h within some above begins e =
    subst (λ (l : List Run). IsTail start end kind (drop high old) l) (sym (in_parts low old new (drop high old) within e).1)
    (taken_over _ start end _ kind (drop high old) (back old high h) some above begins)

pub right_put : (old new : List Run) (low high start : ℕ) (run : Run) → IsNormal 0 None old → low ≤ length old → start < run.end → IsAbove run.end (drop high old) → (BeginsWith run.kind (drop high old) → ⊥) → new ≡ take low old ++ run ∷ drop high old → IsTail start run.end run.kind (drop high old) (drop low new)
right_put old new low high start run h within some above apart e =
    subst (λ (l : List Run). IsTail start run.end run.kind (drop high old) l) (sym (in_parts low old new (run ∷ drop high old) within e).1)
    (tail_put _ start run.end _ run.kind run (drop high old) (back old high h) some above refl refl (not_first run.kind (drop high old) apart))

pub cut_inside : (old : List Run) (start low : ℕ) → IsCut old start low → start < end_of 0 old → low < length old
cut_inside old start low cut below = elim (cases_lt low (length old)) [
  | inl inside ↦ inside
  | inr past ↦ absurd (let whole : end_of 0 (take low old) ≡ end_of 0 old = ap (end_of 0) (take_all low old past) in omega (arith, cut.ends, whole))
]

pub first_above : (old : List Run) (at i : ℕ) (d : Run) → i < length old → IsAbove at (drop i old) → at < (get_or old i d).end
first_above old at i d h above = subst (λ (l : List Run). IsAbove at l) (drop-cons old i d h) above

pub cut_order : (old : List Run) (start end low high : ℕ) (d : Run) → IsNormal 0 None old → IsCut old start low → IsCut old end high → start < end → low ≤ high
cut_order old start end low high d h cut cut_end some = elim (cases_lt high low) [
  | inl wrong ↦ absurd (
      let inside : high < length old = omega (arith, wrong, cut.within) in
      let num : low ≡ suc (low - 1) = omega (arith, wrong) in
      let ends : end_of 0 (take low old) ≡ (get_or old (low - 1) d).end = ap (λ n. end_of 0 (take n old)) num ∙ end_at 0 old (low - 1) d (omega (arith, wrong, cut.within)) in
      let rise = ends_rise 0 None old h high (low - 1) d (omega (arith, wrong)) (omega (arith, wrong, cut.within)) in
      let above = first_above old end high d inside cut_end.above in
      omega (arith, ends, rise, above, cut.ends, some)
      )
  | inr right ↦ right
]

-- where the rest ends
same_end : (at end : ℕ) (rest : List Run) → at ≤ end → end ≤ end_of at rest → end_of end rest ≡ end_of at rest
same_end at end [] low high = omega arith
same_end at end (x ∷ xs) low high = refl

pub rest_ends : (old : List Run) (end high : ℕ) → IsCut old end high → end ≤ end_of 0 old → end_of end (drop high old) ≡ end_of 0 old
rest_ends old end high cut inside =
    let whole : end_of 0 old ≡ end_of (end_of 0 (take high old)) (drop high old) = ap (end_of 0) (sym (take-append-drop high old)) ∙ end_of-append 0 (take high old) (drop high old) in
    same_end (end_of 0 (take high old)) end (drop high old) cut.ends (omega (arith, whole, inside)) ∙ sym whole

pub right_room : (old : List Run) (start end low high : ℕ) → IsNormal 0 None old → IsCut old start low → IsCut old end high → start < end → end ≤ end_of 0 old → low ≤ high → length old < end_of 0 old + (high - low)
right_room old start end low high h cut cut_end some inside order =
    let all = long 0 None old h in
    elim (cases_lt low high) [
      | inl more ↦ omega (arith, all, more)
      | inr none ↦
          let rest = long_from (end_of 0 (take high old)) end (kind_of None (take high old)) (drop high old) (back old high h) cut_end.above in
          let first = long 0 None (take low old) (front old low h) in
          let sizes : length (take low old) ≡ low = length-take-le low old cut.within in
          omega (arith, rest, rest_ends old end high cut_end inside, first, sizes, length-drop high old, cut.ends, some, none, order, cut.within, cut_end.within)
    ]

none_some : (kind : Kind) → None ≢ Some kind
none_some kind = λ e. cc

pub tail_room : (old tail : List Run) (start end high : ℕ) (kind : Kind) → IsTail start end kind (drop high old) tail → IsCut old end high → end ≤ end_of 0 old → start + length tail ≤ end_of 0 old
tail_room old tail start end high kind tl cut inside =
    let all = long start None tail (tl.normal start None (omega arith) (none_some kind)) in
    omega (arith, all, tl.ends start, rest_ends old end high cut inside)

-- what stands before the runs that are replaced
pub kind_before : (old : List Run) (low : ℕ) (d : Run) → IsNormal 0 None old → low < length old → kind_of None (take low old) ≢ Some (get_or old low d).kind
kind_before old low d h inside = (subst (λ (l : List Run). IsNormal (end_of 0 (take low old)) (kind_of None (take low old)) l) (drop-cons old low d inside) (back old low h)).1

group : (a b c d : List Kind) → a ++ ((b ++ c) ++ d) ≡ ((a ++ b) ++ c) ++ d
group a b c d = simp append_assoc

put_to : (old kept rest head tail new : List Run) (start end : ℕ) (kind left : Kind)
    → new ≡ head ++ tail → IsHead start kind left kept head → IsTail start end kind rest tail → start < end → end_of end rest ≡ end_of 0 old
    → take start (spread 0 old) ≡ spread 0 kept ++ replicate (start - end_of 0 kept) left → drop end (spread 0 old) ≡ spread end rest
    → IsPut old start end kind new
put_to old kept rest head tail new start end kind left e hd tl some ends before after = record {
  normal = subst (λ (l : List Run). IsNormal 0 None l) (sym e) (normal_joined 0 None head tail hd.normal (tl.normal (end_of 0 head) (kind_of None head) hd.ends hd.last));
  ends = ap (end_of 0) e ∙ end_of-append 0 head tail ∙ tl.ends (end_of 0 head) ∙ ends;
  spreads =
      let num : end - end_of 0 head ≡ (start - end_of 0 head) + (end - start) = omega (arith, hd.ends, some) in
      let split : replicate (end - end_of 0 head) kind ≡ replicate (start - end_of 0 head) kind ++ replicate (end - start) kind = ap (λ n. replicate n kind) num ∙ sym (replicate-append-replicate (start - end_of 0 head) (end - start) kind) in
      let first : spread 0 head ++ replicate (start - end_of 0 head) kind ≡ take start (spread 0 old) = hd.spreads ∙ sym before in
      ap (spread 0) e ∙ spread-append 0 head tail
      ∙ ap (λ (l : List Kind). spread 0 head ++ l) (tl.spreads (end_of 0 head) hd.ends)
      ∙ ap (λ (l : List Kind). spread 0 head ++ (l ++ spread end rest)) split
      ∙ group (spread 0 head) (replicate (start - end_of 0 head) kind) (replicate (end - start) kind) (spread end rest)
      ∙ ap (λ (l : List Kind). (l ++ replicate (end - start) kind) ++ spread end rest) first
      ∙ ap (λ (l : List Kind). (take start (spread 0 old) ++ replicate (end - start) kind) ++ l) (sym after);
}

pub start_of_part : (old kept : List Run) (z : Run) (more : List Run) (start : ℕ) → old ≡ kept ++ z ∷ more → IsNormal 0 None kept → end_of 0 kept ≤ start → start ≤ z.end → take start (spread 0 old) ≡ spread 0 kept ++ replicate (start - end_of 0 kept) z.kind
start_of_part old kept z more start e h low within =
    let sizes = length-spread 0 None kept h in
    let num : start ≡ length (spread 0 kept) + (start - end_of 0 kept) = omega (arith, sizes, low) in
    ap (λ (l : List Run). take start (spread 0 l)) e ∙ ap (λ (l : List Kind). take start l) (spread-append 0 kept (z ∷ more))
    ∙ ap (λ n. take n (spread 0 kept ++ spread (end_of 0 kept) (z ∷ more))) num
    ∙ take-append-add (spread 0 kept) (spread (end_of 0 kept) (z ∷ more)) (start - end_of 0 kept)
    ∙ ap (λ (l : List Kind). spread 0 kept ++ l) (take_to (end_of 0 kept) start z more low within)

pub rest_of_part : (old kept rest : List Run) (end : ℕ) → old ≡ kept ++ rest → IsNormal 0 None kept → end_of 0 kept ≤ end → IsAbove end rest → drop end (spread 0 old) ≡ spread end rest
rest_of_part old kept rest end e h low above =
    let sizes = length-spread 0 None kept h in
    let num : end ≡ length (spread 0 kept) + (end - end_of 0 kept) = omega (arith, sizes, low) in
    ap (λ (l : List Run). drop end (spread 0 l)) e ∙ ap (λ (l : List Kind). drop end l) (spread-append 0 kept rest)
    ∙ ap (λ n. drop n (spread 0 kept ++ spread (end_of 0 kept) rest)) num
    ∙ drop-append-add (spread 0 kept) (spread (end_of 0 kept) rest) (end - end_of 0 kept)
    ∙ drop_from (end_of 0 kept) end rest low above

pub put_is : (old mid new : List Run) (low high p start end : ℕ) (kind left : Kind) (d : Run) → IsNormal 0 None old → IsCut old start low → IsCut old end high → start < end → end ≤ end_of 0 old → left ≡ (get_or old low d).kind
    → take low mid ≡ take low old → IsTail start end kind (drop high old) (drop low mid) → IsHead start kind left (take low mid) (take p new) → drop p new ≡ drop low mid → IsPut old start end kind new
put_is old mid new low high p start end kind left d h cut cut_end some inside is_left first tl hd last =
    let here : low < length old = cut_inside old start low cut (omega (arith, some, inside)) in
    let parts : old ≡ take low old ++ get_or old low d ∷ drop (suc low) old = sym (take-append-drop low old) ∙ ap (λ (l : List Run). take low old ++ l) (drop-cons old low d here) in
    let above = first_above old start low d here cut.above in
    let before = start_of_part old (take low old) (get_or old low d) (drop (suc low) old) start parts (front old low h) cut.ends (omega (arith, above)) in
    put_to old (take low old) (drop high old) (take p new) (drop p new) new start end kind left
    (sym (take-append-drop p new))
    (subst (λ (l : List Run). IsHead start kind left l (take p new)) first hd)
    (subst (λ (l : List Run). IsTail start end kind (drop high old) l) (sym last) tl)
    some (rest_ends old end high cut_end inside)
    (before ∙ ap (λ k. spread 0 (take low old) ++ replicate (start - end_of 0 (take low old)) k) (sym is_left))
    (rest_of_part old (take high old) (drop high old) end (sym (take-append-drop high old)) (front old high h) cut_end.ends cut_end.above)

take_front : (old : List Run) (low : ℕ) (d : Run) → 0 < low → low ≤ length old → take low old ≡ take (low - 1) old ++ get_or old (low - 1) d ∷ []
take_front old low d some within = let num : low ≡ suc (low - 1) = omega arith in ap (λ n. take n old) num ∙ take-suc old (low - 1) d (omega arith)

-- the last run before `start` has this kind, and goes
pub shorter_at : (old new tail : List Run) (low start : ℕ) (kind left : Kind) (d : Run) → IsNormal 0 None (take low old) → end_of 0 (take low old) ≡ start → 0 < low → low ≤ length old → (get_or old (low - 1) d).kind ≡ kind → new ≡ take (low - 1) old ++ tail → IsHead start kind left (take low old) (take (low - 1) new)
shorter_at old new tail low start kind left d h full some within same e =
    let parts = take_front old low d some within in
    let first = (in_parts (low - 1) old new tail (omega arith) e).0 in
    let shorter = head_shorter start kind left (get_or old (low - 1) d) (take (low - 1) old) (subst (λ (l : List Run). IsNormal 0 None l) parts h) (ap (end_of 0) (sym parts) ∙ full) same in
    subst (λ (l : List Run). IsHead start kind left (take low old) l) (sym first) (subst (λ (l : List Run). IsHead start kind left l (take (low - 1) old)) (sym parts) shorter)

-- it has another kind, and stays
pub full_at : (old : List Run) (low : ℕ) (kind : Kind) (d : Run) → 0 < low → low ≤ length old → (get_or old (low - 1) d).kind ≢ kind → kind_of None (take low old) ≢ Some kind
full_at old low kind d some within other e =
    let num : low ≡ suc (low - 1) = omega arith in
    let last : kind_of None (take low old) ≡ Some (get_or old (low - 1) d).kind = ap (λ n. kind_of None (take n old)) num ∙ kind_last None old (low - 1) d (omega arith) in
    other (some_injective (sym last ∙ e))
