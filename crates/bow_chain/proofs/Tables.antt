-- The table of places, entry by entry.
use Rattle.std.proofs.Common.{ℕ, ◌+◌, ◌<◌, ◌≤◌, ◌≡◌, ◌⊎◌, List, [], ◌∷◌, ◌++◌, length, set, inl, inr, arith, refl, sym, ap, ◌∙◌}
use Rattle.std.proofs.lemmas.Bool.{cases_eq}
use Rattle.std.proofs.lemmas.List.{get_or-set_same, get_or-set_other}
use Rattle.bow_units.specs.declared.sizes.Geometry.{Geometry}
use Rattle.bow_log.specs.Generations.{Backup, Generation, IsBackup}
use Rattle.bow_chain.specs.Contents.{Contents, run_of}
use Rattle.bow_chain.specs.Places.{hop, pass, base}
use Rattle.bow_chain.specs.Tables.{place_in, IsTable, Follows}
use Rattle.bow_chain.specs.Sound.{sum_at}
use Rattle.bow_chain.proofs.Hops.{hop_inside, dest_inside}
use Rattle.bow_chain.proofs.Moved.{run_same}
use Rattle.bow_chain.proofs.Tested.{base-append}

-- the first so many blocks of a backup
abbrev pub first_of : ℕ → ℕ → ℕ → Backup
first_of source dest count = record { source = source; dest = dest; count = count; sum = 0 }

-- none of them
pub none_in : (source dest x : ℕ) → hop (first_of source dest 0) x ≡ x
unfolding hop
none_in source dest x = grind arith

-- one more: its block goes to the dest
same_block : (source dest n : ℕ) → hop (first_of source dest (n + 1)) (source + n) ≡ dest + n
unfolding hop
same_block source dest n = grind arith

other_block : (source dest n x : ℕ) → (x ≡ source + n → ⊥) → hop (first_of source dest (n + 1)) x ≡ hop (first_of source dest n) x
unfolding hop
other_block source dest n x other = grind arith

dest_stays : (source dest count n : ℕ) → n < count → (source + count ≤ dest) ⊎ (dest + count ≤ source) → hop (first_of source dest n) (dest + n) ≡ dest + n
unfolding hop
dest_stays source dest count n few apart = grind arith

pub one_in : (old now : List ℕ) (source dest count n x : ℕ) → n < count → source + count ≤ length now → (source + count ≤ dest) ⊎ (dest + count ≤ source)
    → ((y : ℕ) → place_in now y ≡ place_in old (hop (first_of source dest n) y))
    → place_in (set now (source + n) (place_in now (dest + n))) x ≡ place_in old (hop (first_of source dest (n + 1)) x)
one_in old now source dest count n x few within apart so_far = elim (cases_eq x (source + n)) [
  | inl here ↦
      ap (λ y. place_in (set now (source + n) (place_in now (dest + n))) y) here
      ∙ get_or-set_same now (source + n) (place_in now (dest + n)) 0 (omega arith)
      ∙ so_far (dest + n)
      ∙ ap (place_in old) (dest_stays source dest count n few apart ∙ sym (same_block source dest n) ∙ ap (hop (first_of source dest (n + 1))) (sym here))
  | inr other ↦ get_or-set_other now (source + n) x (place_in now (dest + n)) 0 other ∙ so_far x ∙ ap (place_in old) (sym (other_block source dest n x other))
]

-- all of them
all_hop : (source dest count sum x : ℕ) → hop (first_of source dest count) x ≡ hop (record { source = source; dest = dest; count = count; sum = sum }) x
unfolding hop
all_hop source dest count sum x = refl

pub all_in : (b : Backup) (old now : List ℕ) (source dest count : ℕ) → source ≡ b.source → dest ≡ b.dest → count ≡ b.count
    → ((y : ℕ) → place_in now y ≡ place_in old (hop (first_of source dest count) y)) → (x : ℕ) → place_in now x ≡ place_in old (hop b x)
all_in b old now source dest count is_source is_dest is_count so_far x =
    so_far x
    ∙ ap (λ k. place_in old (hop (first_of k dest count) x)) is_source
    ∙ ap (λ k. place_in old (hop (first_of b.source k count) x)) is_dest
    ∙ ap (λ k. place_in old (hop (first_of b.source b.dest k) x)) is_count
    ∙ ap (place_in old) (all_hop b.source b.dest b.count b.sum x)

-- it is still a table
pub table_on : (g : Geometry) (b : Backup) (old now : List ℕ) → IsBackup g b → IsTable g old → length now ≡ length old → ((x : ℕ) → place_in now x ≡ place_in old (hop b x)) → IsTable g now
table_on g b old now ok table long moved = record {
  long = long ∙ table.long;
  inside = λ x on. let h = table.inside (hop b x) (hop_inside g b x ok on) in omega (arith, h, moved x);
}

-- a route followed before one backup more is followed after it
pub follows_on : (g : Geometry) (b : Backup) (route : ℕ → ℕ) (old now : List ℕ) → IsBackup g b → Follows g route old → Follows g (λ x. place_in old (hop b x)) now → Follows g (λ x. route (hop b x)) now
follows_on g b route old now ok follows moved x on = moved x on ∙ follows (hop b x) (hop_inside g b x ok on)

-- one log more
pub follows_log : (g : Geometry) (gens : List Generation) (log : Generation) (table : List ℕ) → Follows g (λ x. base gens (pass log.entries x)) table → Follows g (base (gens ++ log ∷ [])) table
follows_log g gens log table follows x on = follows x on ∙ sym (base-append gens (log ∷ []) x)

-- the sum that is found at the table's places is that at the route's
pub sum_along : (g : Geometry) (b : Backup) (image : Contents) (route : ℕ → ℕ) (table : List ℕ) → IsBackup g b → Follows g route table → sum_at b.source (run_of (λ x. image (place_in table x)) b.dest b.count) ≡ sum_at b.source (run_of (λ x. image (route x)) b.dest b.count)
sum_along g b image route table ok follows =
    ap (sum_at b.source) (run_same (λ x. image (place_in table x)) (λ x. image (route x)) b.dest b.count (λ x low high. ap image (follows x (dest_inside g b x ok (record { above = low; below = high })))))
