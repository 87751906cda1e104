-- Rows and their parts, one after the other.
use Rattle.std.proofs.Common.{◌≡◌, ◌≢◌, ℕ, zero, suc, ◌+◌, ◌*◌, ◌<◌, ◌≤◌, ◌==◌, true, false, List, [], ◌∷◌, ◌++◌, length, take, drop, get_or, refl, sym, ap, ◌∙◌, subst, arith, length-append, append_assoc, append-nil, add-one}
use Rattle.std.proofs.Math.Nat.{mul-le-mul_left}
use Rattle.bow_units.specs.declared.statuses.Kind.{Kind}
use Rattle.bow_tree.specs.declared.parts.Part.{Part}
use Rattle.bow_tree.specs.Rows.{flat}
use Rattle.bow_tree.specs.Trees.{Store}
use Rattle.bow_tree.specs.Parts.{no_part, IsKnown, AreKnown}

pub rows_length : (size : ℕ) (rows : List (List Kind)) (parts : List Part) → AreKnown size rows parts → length rows ≡ length parts
rows_length size [] [] h = refl
rows_length size [] (p ∷ ps) h = absurd h
rows_length size (r ∷ rs) [] h = absurd h
rows_length size (r ∷ rs) (p ∷ ps) h = ap suc (rows_length size rs ps h.1)

pub row_at : (size : ℕ) (rows : List (List Kind)) (parts : List Part) (i : ℕ) (d : Part) → AreKnown size rows parts → i < length parts → IsKnown size (get_or rows i []) (get_or parts i d)
row_at size [] [] i d h inside = absurd (omega (arith, inside))
row_at size [] (p ∷ ps) i d h inside = absurd h
row_at size (r ∷ rs) [] i d h inside = absurd h
row_at size (r ∷ rs) (p ∷ ps) zero d h inside = h.0
row_at size (r ∷ rs) (p ∷ ps) (suc i) d h inside = row_at size rs ps i d h.1 (omega (arith, inside))

-- the same of a part that was read
pub row_read : (size : ℕ) (rows : List (List Kind)) (node : List Part) (i : ℕ) (part : Part) → part ≡ get_or node i no_part → AreKnown size rows node → i < length node → IsKnown size (get_or rows i []) part
row_read size rows node i part e known inside = subst (λ p. IsKnown size (get_or rows i []) p) (sym e) (row_at size rows node i no_part known inside)

pub flat_take_more : (rows : List (List Kind)) (i : ℕ) → i < length rows → flat (take (suc i) rows) ≡ flat (take i rows) ++ get_or rows i []
flat_take_more [] i inside = absurd (omega (arith, inside))
flat_take_more (r ∷ rs) zero inside = append-nil r
flat_take_more (r ∷ rs) (suc i) inside = ap (λ l. r ++ l) (flat_take_more rs i (omega (arith, inside))) ∙ sym (append_assoc r (flat (take i rs)) (get_or rs i []))

pub flat_drop_less : (rows : List (List Kind)) (i : ℕ) → i < length rows → flat (drop i rows) ≡ get_or rows i [] ++ flat (drop (suc i) rows)
flat_drop_less [] i inside = absurd (omega (arith, inside))
flat_drop_less (r ∷ rs) zero inside = refl
flat_drop_less (r ∷ rs) (suc i) inside = flat_drop_less rs i (omega (arith, inside))

pub flat_take_length : (size : ℕ) (rows : List (List Kind)) (parts : List Part) (i : ℕ) → AreKnown size rows parts → i ≤ length parts → length (flat (take i rows)) ≡ i * size
flat_take_length size rows parts zero h inside = omega arith
flat_take_length size [] [] (suc i) h inside = absurd (omega (arith, inside))
flat_take_length size [] (p ∷ ps) (suc i) h inside = absurd h
flat_take_length size (r ∷ rs) [] (suc i) h inside = absurd h
flat_take_length size (r ∷ rs) (p ∷ ps) (suc i) h inside = omega (arith, length-append r (flat (take i rs)), h.0.sized, flat_take_length size rs ps i h.1 (omega (arith, inside)))

pub flat_drop_length : (size : ℕ) (rows : List (List Kind)) (parts : List Part) (i : ℕ) → AreKnown size rows parts → i ≤ length parts → length (flat (drop i rows)) + i * size ≡ length parts * size
flat_drop_length size [] [] zero h inside = omega arith
flat_drop_length size [] [] (suc i) h inside = absurd (omega (arith, inside))
flat_drop_length size [] (p ∷ ps) i h inside = absurd h
flat_drop_length size (r ∷ rs) [] i h inside = absurd h
flat_drop_length size (r ∷ rs) (p ∷ ps) zero h inside = omega (arith, length-append r (flat rs), h.0.sized, flat_drop_length size rs ps zero h.1 (omega arith))
flat_drop_length size (r ∷ rs) (p ∷ ps) (suc i) h inside = omega (arith, flat_drop_length size rs ps i h.1 (omega (arith, inside)))

-- one row further
pub take_known : (size i : ℕ) (rows : List (List Kind)) (parts : List Part) (next : Part) → AreKnown size rows parts → i < length parts → IsKnown (i * size + size) (flat (take i rows) ++ get_or rows i []) next → IsKnown ((i + 1) * size) (flat (take (i + 1) rows)) next
take_known size i rows parts next h inside k =
    let num : i * size + size ≡ (i + 1) * size = omega arith in
    let inside_rows : i < length rows = omega (arith, rows_length size rows parts h, inside) in
    let e : flat (take i rows) ++ get_or rows i [] ≡ flat (take (i + 1) rows) = sym (flat_take_more rows i inside_rows) ∙ ap (λ n. flat (take n rows)) (sym (add-one i)) in
    subst (λ n. IsKnown n (flat (take (i + 1) rows)) next) num (subst (λ l. IsKnown (i * size + size) l next) e k)

-- products
pub times_less : (i n size : ℕ) → i < n → i * size + size ≤ n * size
times_less i n size less = let fits : suc i ≤ n = omega (arith, less) in omega (arith, mul-le-mul_left size fits)

-- the test of numbers
pub differ : (a b : ℕ) → a < b → (a == b) ≡ false
differ a b less = grind arith

pub apart : (a b : ℕ) → a ≢ b → (a == b) ≡ false
apart a b other = grind arith

pub level : (a b : ℕ) → a ≡ b → (a == b) ≡ true
level a b e = grind arith

pub levels : (a b : ℕ) → (a == b) ≡ true → a ≡ b
levels a b e = grind arith

-- a store, by its parts and its kinds
abbrev pub store : List Part → List Kind → Store
store parts kinds = (parts, kinds)

pub both : {a c : List Part} {b d : List Kind} → a ≡ c → b ≡ d → store a b ≡ store c d
both {a} {c} {b} {d} e f = ap (λ l. store l b) e ∙ ap (store c) f
