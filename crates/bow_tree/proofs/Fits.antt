-- Where so many blocks in a row are free.
use Rattle.std.proofs.Common.{◌≡◌, ℕ, zero, suc, ◌+◌, ◌*◌, ◌<◌, ◌≤◌, nat_le, true, false, cond, List, [], ◌∷◌, ◌++◌, length, take, drop, replicate, get_or, refl, sym, ap, ◌∙◌, inl, inr, arith, append-nil, add-one}
use Rattle.std.proofs.lemmas.Bool.{cases_lt}
use Rattle.bow_units.specs.declared.statuses.Kind.{Kind}
use Rattle.bow_units.specs.declared.statuses.Kind.TheVariants.{Free}
use Rattle.bow_tree.specs.declared.parts.Run.{Run}
use Rattle.bow_tree.specs.declared.parts.Part.{Part}
use Rattle.bow_tree.specs.Rows.{front, ending, longest_free, fit, flat}
use Rattle.bow_tree.specs.Parts.{no_part, in_run, IsBack, AreKnown}
use Rattle.bow_tree.proofs.Pieces.{rows_length, row_at, flat_drop_less, flat_take_length}
use Rattle.std.proofs.lemmas.List.{drop_all, take_all}
use Rattle.bow_tree.proofs.Rows.{longest_append, one_or_two, front_cases, all_or_not, ending_append, ending_alike, front_le}

longest_le : (xs : List Kind) → longest_free xs ≤ length xs
longest_le [] = omega arith
longest_le (x ∷ xs) = elim (all_or_not Free 0 (x ∷ xs)) [ inl w ↦ omega (arith, longest_le xs) | inr p ↦ omega (arith, longest_le xs) ]

-- a fit at the beginning
pub fit_here : (count : ℕ) (xs : List Kind) → 1 ≤ count → count ≤ front Free xs → fit count xs ≡ 0
fit_here count [] some h = refl
fit_here count (x ∷ xs) some h = let t : nat_le count (front Free (x ∷ xs)) ≡ true = grind arith in ap (λ b. cond b 0 (suc (fit count xs))) t

-- none at the beginning
pub fit_on : (count : ℕ) (x : Kind) (xs : List Kind) → front Free (x ∷ xs) < count → fit count (x ∷ xs) ≡ suc (fit count xs)
fit_on count x xs h = let t : nat_le count (front Free (x ∷ xs)) ≡ false = grind arith in ap (λ b. cond b 0 (suc (fit count xs))) t

front_free : (xs : List Kind) → front Free (Free ∷ xs) ≡ suc (front Free xs)
front_free xs = refl

front_behind : (n : ℕ) (xs : List Kind) → front Free (replicate n Free ++ xs) ≡ n + front Free xs
front_behind zero xs = omega arith
front_behind (suc n) xs = omega (arith, front_behind n xs)

-- the fit lies behind free blocks that are too few
pub fit_behind : (count n : ℕ) (xs : List Kind) → n + front Free xs < count → fit count (replicate n Free ++ xs) ≡ n + fit count xs
fit_behind count zero xs h = omega arith
fit_behind count (suc n) xs h = fit_on count Free (replicate n Free ++ xs) (omega (arith, h, front_behind n xs)) ∙ omega (arith, fit_behind count n xs (omega (arith, h)))

-- a row that has a fit has it whatever comes behind it
pub fit_append : (count : ℕ) (xs ys : List Kind) → 1 ≤ count → count ≤ longest_free xs → fit count (xs ++ ys) ≡ fit count xs
fit_append count [] ys some h = absurd (omega (arith, some, h))
fit_append count (x ∷ xs) ys some h = elim (cases_lt (front Free (x ∷ xs)) count) [
  | inr here ↦ elim (front_cases Free (x ∷ xs) ys) [
    | inl w ↦ fit_here count (x ∷ (xs ++ ys)) some (omega (arith, w.0, w.1, here)) ∙ sym (fit_here count (x ∷ xs) some here)
    | inr p ↦ fit_here count (x ∷ (xs ++ ys)) some (omega (arith, p.1, here)) ∙ sym (fit_here count (x ∷ xs) some here)
  ]
  | inl short ↦ elim (front_cases Free (x ∷ xs) ys) [
    | inl w ↦ absurd (omega (arith, w.0, longest_le (x ∷ xs), h, short))
    | inr p ↦ fit_on count x (xs ++ ys) (omega (arith, p.1, short)) ∙ ap suc (fit_append count xs ys some (omega (arith, h, short))) ∙ sym (fit_on count x xs short)
  ]
]

-- a fit lies inside
pub fit_inside : (count : ℕ) (xs : List Kind) → 1 ≤ count → count ≤ longest_free xs → fit count xs + count ≤ length xs
fit_inside count [] some h = absurd (omega (arith, some, h))
fit_inside count (x ∷ xs) some h = elim (cases_lt (front Free (x ∷ xs)) count) [
  | inr here ↦ elim (all_or_not Free 0 (x ∷ xs)) [
    | inl w ↦ omega (arith, fit_here count (x ∷ xs) some here, w.0, here)
    | inr p ↦ omega (arith, fit_here count (x ∷ xs) some here, p.0, here)
  ]
  | inl short ↦ omega (arith, fit_on count x xs short, fit_inside count xs some (omega (arith, h, short)))
]

shifted : (n : ℕ) (xs : List Kind) → replicate n Free ++ Free ∷ xs ≡ replicate (suc n) Free ++ xs
shifted zero xs = refl
shifted (suc n) xs = ap (λ l. Free ∷ l) (shifted n xs)

-- past a row that has no fit
pub fit_past : (count n : ℕ) (xs ys : List Kind) → n + front Free xs < count → longest_free xs < count
    → fit count (replicate n Free ++ (xs ++ ys)) + ending Free n xs ≡ n + length xs + fit count (replicate (ending Free n xs) Free ++ ys)
fit_past count n [] ys short none = omega arith
fit_past count n (x ∷ xs) ys short none = elim (one_or_two Free x) [
  | inl (e, t) ↦
      let front_is : front Free (x ∷ xs) ≡ suc (front Free xs) = ap (λ b. cond b (suc (front Free xs)) 0) t in
      let end_is : ending Free n (x ∷ xs) ≡ ending Free (suc n) xs = ap (λ b. ending Free (cond b (suc n) 0) xs) t in
      let rest = fit_past count (suc n) xs ys (omega (arith, short, front_is)) (omega (arith, none)) in
      let row : replicate n Free ++ (x ∷ (xs ++ ys)) ≡ replicate (suc n) Free ++ (xs ++ ys) = ap (λ k. replicate n Free ++ (k ∷ (xs ++ ys))) (sym e) ∙ shifted n (xs ++ ys) in
      let fits = ap (fit count) row in
      let ends = ap (λ m. fit count (replicate m Free ++ ys)) end_is in
      omega (arith, rest, fits, ends, end_is)
  | inr (e, t) ↦
      let front_is : front Free (x ∷ (xs ++ ys)) ≡ 0 = ap (λ b. cond b (suc (front Free (xs ++ ys))) 0) t in
      let end_is : ending Free n (x ∷ xs) ≡ ending Free 0 xs = ap (λ b. ending Free (cond b (suc n) 0) xs) t in
      let rest = fit_past count 0 xs ys (omega (arith, none, front_le xs)) (omega (arith, none)) in
      let over = fit_behind count n (x ∷ (xs ++ ys)) (omega (arith, short, front_is)) in
      let on = fit_on count x (xs ++ ys) (omega (arith, short, front_is)) in
      let ends = ap (λ m. fit count (replicate m Free ++ ys)) end_is in
      omega (arith, rest, over, on, ends, end_is)
]

-- within a row that has the fit
pub fit_within : (count n : ℕ) (xs ys : List Kind) → 1 ≤ count → n + front Free xs < count → count ≤ longest_free xs → fit count (replicate n Free ++ (xs ++ ys)) ≡ n + fit count xs
fit_within count n xs ys some short h = elim (front_cases Free xs ys) [
  | inl w ↦ absurd (omega (arith, w.0, longest_le xs, h, short))
  | inr p ↦ fit_behind count n (xs ++ ys) (omega (arith, p.1, short)) ∙ ap (λ m. n + m) (fit_append count xs ys some h)
]

-- at the run before a row and its front
pub fit_across : (count n : ℕ) (xs ys : List Kind) → 1 ≤ count → count ≤ n + front Free xs → fit count (replicate n Free ++ (xs ++ ys)) ≡ 0
fit_across count n xs ys some h = elim (front_cases Free xs ys) [
  | inl w ↦ fit_here count (replicate n Free ++ (xs ++ ys)) some (omega (arith, front_behind n (xs ++ ys), w.0, w.1, h))
  | inr p ↦ fit_here count (replicate n Free ++ (xs ++ ys)) some (omega (arith, front_behind n (xs ++ ys), p.1, h))
]

-- where there is no fit
pub fit_none : (count : ℕ) (xs : List Kind) → longest_free xs < count → fit count xs ≡ length xs
fit_none count [] h = refl
fit_none count (x ∷ xs) h = fit_on count x xs (omega (arith, h)) ∙ ap suc (fit_none count xs (omega (arith, h)))

pub ending_le : (xs : List Kind) → ending Free 0 xs ≤ longest_free xs
ending_le xs = let both = longest_append xs [] in let num = ap longest_free (append-nil xs) in omega (arith, both, num)

-- how far the search in a node has come: `run` free blocks stand before the row at `place`
abbrev pub Searched : ℕ → ℕ → ℕ → ℕ → List (List Kind) → Type 0
Searched size count run place rows = fit count (flat rows) + run ≡ place * size + fit count (replicate run Free ++ flat (drop place rows))

-- the row at a place, and those behind it
next_row : (size place : ℕ) (rows : List (List Kind)) (node : List Part) → AreKnown size rows node → place < length node → flat (drop place rows) ≡ get_or rows place [] ++ flat (drop (suc place) rows)
next_row size place rows node known inside = flat_drop_less rows place (omega (arith, rows_length size rows node known, inside))

pub fit_at : (size count run place : ℕ) (rows : List (List Kind)) (node : List Part) → AreKnown size rows node → place < length node → 1 ≤ count → Searched size count run place rows
    → count ≤ run + in_run Free (get_or node place no_part).first → fit count (flat rows) + run ≡ place * size
fit_at size count run place rows node known inside some told h =
    let row = row_at size rows node place no_part known inside in
    let here = fit_across count run (get_or rows place []) (flat (drop (suc place) rows)) some (omega (arith, row.first Free, h)) in
    let e = ap (λ l. fit count (replicate run Free ++ l)) (next_row size place rows node known inside) in
    omega (arith, told, e, here)

pub fit_in_row : (size count run place : ℕ) (rows : List (List Kind)) (node : List Part) → AreKnown size rows node → place < length node → 1 ≤ count → Searched size count run place rows
    → run + in_run Free (get_or node place no_part).first < count → count ≤ (get_or node place no_part).longest
    → (count ≤ longest_free (get_or rows place [])) × (fit count (flat rows) ≡ place * size + fit count (get_or rows place []))
fit_in_row size count run place rows node known inside some told short h =
    let row = row_at size rows node place no_part known inside in
    let long : count ≤ longest_free (get_or rows place []) = omega (arith, row.longest, h) in
    let here = fit_within count run (get_or rows place []) (flat (drop (suc place) rows)) some (omega (arith, row.first Free, short)) long in
    let e = ap (λ l. fit count (replicate run Free ++ l)) (next_row size place rows node known inside) in
    (long, omega (arith, told, e, here))

-- the run before the next row
pub run_on : (count run : ℕ) (row : List Kind) (next : Run) → IsBack (replicate run Free ++ row) next → in_run Free next ≡ ending Free run row
run_on count run row next back =
    let start : ending Free 0 (replicate run Free) ≡ run = ending_alike Free Free run in
    sym (sym (ending_append Free 0 (replicate run Free) row ∙ ap (λ r. ending Free r row) start) ∙ back Free)

pub run_bound : (count run : ℕ) (row : List Kind) → run + front Free row < count → longest_free row < count → ending Free run row < count
run_bound count run row short none = elim (all_or_not Free run row) [
  | inl w ↦ omega (arith, w.0, w.2, short)
  | inr p ↦ omega (arith, p.2, ending_le row, none)
]

pub run_limit : (run : ℕ) (row : List Kind) → ending Free run row ≤ run + length row
run_limit run row = elim (all_or_not Free run row) [ inl w ↦ omega (arith, w.2) | inr p ↦ omega (arith, p.1, p.2) ]

pub search_on : (size count run place next : ℕ) (rows : List (List Kind)) (node : List Part) → AreKnown size rows node → place < length node → Searched size count run place rows
    → run + in_run Free (get_or node place no_part).first < count → (get_or node place no_part).longest < count → next ≡ ending Free run (get_or rows place [])
    → Searched size count next (place + 1) rows
search_on size count run place next rows node known inside told short none e =
    let row = row_at size rows node place no_part known inside in
    let past = fit_past count run (get_or rows place []) (flat (drop (suc place) rows)) (omega (arith, row.first Free, short)) (omega (arith, row.longest, none)) in
    let here = ap (λ l. fit count (replicate run Free ++ l)) (next_row size place rows node known inside) in
    let there = ap (λ r. fit count (replicate r Free ++ flat (drop (suc place) rows))) (sym e) in
    let more = ap (λ n. fit count (replicate next Free ++ flat (drop n rows))) (sym (add-one place)) in
    omega (arith, told, past, here, there, more, row.sized, e)

-- a node that has a fit is not searched in vain
pub fit_missed : (size count run : ℕ) (rows : List (List Kind)) (node : List Part) → AreKnown size rows node → length node ≡ 16 → 1 ≤ count → count ≤ longest_free (flat rows) → run < count → Searched size count run 16 rows → ⊥
fit_missed size count run rows node known width some h short told =
    let sized = rows_length size rows node known in
    let none : drop 16 rows ≡ [] = drop_all 16 rows (omega (arith, sized, width)) in
    let end = ap (λ l. fit count (replicate run Free ++ flat l)) none in
    let behind = fit_behind count run [] (omega (arith, short)) in
    let whole : flat (take 16 rows) ≡ flat rows = ap flat (take_all 16 rows (omega (arith, sized, width))) in
    let long = flat_take_length size rows node 16 known (omega (arith, width)) in
    let inside = fit_inside count (flat rows) some h in
    omega (arith, told, end, behind, long, ap length whole, inside, some)
