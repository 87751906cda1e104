-- The notes on the blocks of a device, entry by entry.
use Rattle.std.proofs.Common.{ℕ, ◌+◌, ◌<◌, ◌≤◌, ◌≡◌, ◌||◌, ◌&&◌, Bool, true, false, List, set, [], ◌∷◌, length, arith, refl, sym, ap, ◌∙◌, ◌⊎◌, inl, inr}
use Rattle.std.specs.Prelude.{nat_le, nat_lt}
use Rattle.std.specs.List.{AllByRecursion as Each}
use Rattle.std.proofs.lemmas.Bool.{cases_lt, cases_eq, or_cases, both_ways, true≢false, false_from_ne_true, le-leb, lt-ltb, leb-true, ltb-true, and_from, and_parts, and_left, and_right, lt-leb, le-ltb}
use Rattle.std.proofs.lemmas.List.{get_or-set_other}
use Rattle.std.proofs.lemmas.Grind.{get_or-set_at}
use Rattle.std.proofs.Math.Bool.{or-true}
use Rattle.bow_units.specs.declared.sizes.Geometry.{Geometry}
use Rattle.bow_log.specs.Generations.{Backup, IsBackup}
use Rattle.bow_chain.specs.Places.{InSource, InDest}
use Rattle.bow_restore.specs.Marks.{meets, overlaps}
use Rattle.bow_restore.specs.Dests.{is_noted, is_dest, AreNoted}
use Rattle.bow_restore.proofs.Proved.{meets_is_exact}

-- one note more is set
pub set_inside : (dests : List Bool) (first n : ℕ) (v : Bool) → first + n < length dests → ((x : ℕ) → first ≤ x → x < first + n → is_noted dests x ≡ v) → (x : ℕ) → first ≤ x → x < first + (n + 1)
    → is_noted (set dests (first + n) v) x ≡ v
set_inside dests first n v on so_far x above below = elim (cases_eq x (first + n)) [
  | inl here ↦ get_or-set_at dests (first + n) x v false here on
  | inr other ↦ get_or-set_other dests (first + n) x v false other ∙ so_far x above (omega (arith, other))
]

pub set_outside : (old dests : List Bool) (first n : ℕ) (v : Bool) → ((x : ℕ) → (x < first) ⊎ (first + n ≤ x) → is_noted dests x ≡ is_noted old x) → (x : ℕ) → (x < first) ⊎ (first + (n + 1) ≤ x)
    → is_noted (set dests (first + n) v) x ≡ is_noted old x
set_outside old dests first n v so_far x (inl below) = get_or-set_other dests (first + n) x v false (λ is. omega arith) ∙ so_far x (inl below)
set_outside old dests first n v so_far x (inr above) = get_or-set_other dests (first + n) x v false (λ is. omega arith) ∙ so_far x (inr (omega arith))

or_parts : (x y : Bool) → (x || y) ≡ false → (x ≡ false) × (y ≡ false)
or_parts true y is = absurd cc
or_parts false y is = (refl, is)

-- a block of a dest, and one beside it
in_dest : (b : Backup) (x : ℕ) → InDest b x → (nat_le b.dest x && nat_lt x (b.dest + b.count)) ≡ true
in_dest b x d = and_from _ _ (le-leb b.dest x d.above) (lt-ltb x (b.dest + b.count) d.below)

beside : (b : Backup) (x : ℕ) → (x < b.dest) ⊎ (b.dest + b.count ≤ x) → (nat_le b.dest x && nat_lt x (b.dest + b.count)) ≡ false
beside b x (inl below) = and_left _ _ (lt-leb b.dest x below)
beside b x (inr above) = and_right _ _ (le-ltb x (b.dest + b.count) above)

where_is : (b : Backup) (x : ℕ) → InDest b x ⊎ ((x < b.dest) ⊎ (b.dest + b.count ≤ x))
where_is b x = elim (cases_lt x b.dest) [
  | inl below ↦ inr (inl below)
  | inr from ↦ elim (cases_lt x (b.dest + b.count)) [ inl below ↦ inl (record { above = from; below = below }) | inr above ↦ inr (inr above) ]
]

-- one entry more
pub noted_more : (g : Geometry) (b : Backup) (since : List Backup) (old new : List Bool) → length new ≡ length old
    → ((x : ℕ) → b.dest ≤ x → x < b.dest + b.count → is_noted new x ≡ true) → ((x : ℕ) → (x < b.dest) ⊎ (b.dest + b.count ≤ x) → is_noted new x ≡ is_noted old x)
    → AreNoted g since old → AreNoted g (b ∷ since) new
noted_more g b since old new long inside outside noted = record {
  long = long ∙ noted.long;
  each = λ x on. elim (where_is b x) [
    | inl d ↦ inside x d.above d.below ∙ sym (ap (λ t. t || is_dest since x) (in_dest b x d))
    | inr out ↦ outside x out ∙ noted.each x on ∙ sym (ap (λ t. t || is_dest since x) (beside b x out))
  ];
}

-- a block that was read by one of these is in the source of the backup
pub due : (b : Backup) (since : List Backup) (x : ℕ) → InSource b x → is_dest since x ≡ true → overlaps b since ≡ true
due b [] x s is = absurd cc
due b (o ∷ os) x s is = elim (or_cases _ _ is) [
  | inl here ↦
      (let p : (nat_le o.dest x ≡ true) × (nat_lt x (o.dest + o.count) ≡ true) = and_parts _ _ here in
      let m : meets b o ≡ true = and_from _ _ (lt-ltb b.source (o.dest + o.count) (omega (arith, s.above, ltb-true x (o.dest + o.count) p.1))) (lt-ltb o.dest (b.source + b.count) (omega (arith, s.below, leb-true o.dest x p.0))) in
      ap (λ t. t || overlaps b os) m)
  | inr later ↦ (let r = due b os x s later in rw r (or-true (meets b o)))
]

-- no block of the source was read
pub not_due : (g : Geometry) (b : Backup) (since : List Backup) → IsBackup g b → Each (IsBackup g) since → ((x : ℕ) → InSource b x → is_dest since x ≡ false) → overlaps b since ≡ false
not_due g b [] ok all none = refl
not_due g b (o ∷ os) ok all none =
    let parts : (x : ℕ) → InSource b x → ((nat_le o.dest x && nat_lt x (o.dest + o.count)) ≡ false) × (is_dest os x ≡ false) = λ x s. or_parts _ _ (none x s) in
    let miss : meets b o ≡ false = false_from_ne_true (meets b o) (λ hit. let w = (meets_is_exact g b o ok all.0).0 hit in both_ways _ (parts w.0 w.1).0 (in_dest o w.0 w.2)) in
    ap (λ t. t || overlaps b os) miss ∙ not_due g b os ok all.1 (λ x s. (parts x s).1)

-- what the test at one block says
pub due_at : (g : Geometry) (b : Backup) (since : List Backup) (dests : List Bool) (source offset count : ℕ) → IsBackup g b → source ≡ b.source → count ≡ b.count → offset < count
    → is_noted dests (source + offset) ≡ true → AreNoted g since dests → true ≡ overlaps b since
due_at g b since dests source offset count ok source_is count_is below hit noted =
    let x = source + offset in
    let s : InSource b x = record { above = omega (arith, source_is); below = omega (arith, source_is, count_is, below) } in
    sym (due b since x s (sym (noted.each x (omega (arith, s.below, ok.source_inside))) ∙ hit))

pub none_more : (dests : List Bool) (first source n : ℕ) → first ≡ source → ((x : ℕ) → source ≤ x → x < source + n → is_noted dests x ≡ false) → is_noted dests (first + n) ≡ false
    → (x : ℕ) → source ≤ x → x < source + (n + 1) → is_noted dests x ≡ false
none_more dests first source n is so_far miss x above below = elim (cases_eq x (first + n)) [
  | inl here ↦ ap (is_noted dests) here ∙ miss
  | inr other ↦ so_far x above (omega (arith, other, is))
]

pub none_due : (g : Geometry) (b : Backup) (since : List Backup) (dests : List Bool) (offset count : ℕ) → IsBackup g b → Each (IsBackup g) since → count ≡ b.count → count ≤ offset
    → ((x : ℕ) → b.source ≤ x → x < b.source + offset → is_noted dests x ≡ false) → AreNoted g since dests → false ≡ overlaps b since
none_due g b since dests offset count ok all count_is over none noted =
    sym (not_due g b since ok all (λ x s. sym (noted.each x (omega (arith, s.below, ok.source_inside))) ∙ none x s.above (omega (arith, s.below, count_is))))

-- a note stands only on a block of a dest of one of these
pub record OnlyNoted (g : Geometry) (bs : List Backup) (dests : List Bool) : Type 0 where
  pub long : length dests ≡ g.blocks
  pub each : (x : ℕ) → x < g.blocks → is_noted dests x ≡ true → is_dest bs x ≡ true

pub only_noted : (g : Geometry) (bs : List Backup) (dests : List Bool) → AreNoted g bs dests → OnlyNoted g bs dests
only_noted g bs dests noted = record { long = noted.long; each = λ x on is. sym (noted.each x on) ∙ is }

-- the first of them is taken back
pub only_later : (g : Geometry) (b : Backup) (bs : List Backup) (old new : List Bool) (dest count : ℕ) → dest ≡ b.dest → count ≡ b.count → length new ≡ length old
    → ((x : ℕ) → dest ≤ x → x < dest + count → is_noted new x ≡ false) → ((x : ℕ) → (x < dest) ⊎ (dest + count ≤ x) → is_noted new x ≡ is_noted old x)
    → OnlyNoted g (b ∷ bs) old → OnlyNoted g bs new
only_later g b bs old new dest count dest_is count_is long inside outside only = record {
  long = long ∙ only.long;
  each = λ x on is. elim (where_is b x) [
    | inl d ↦ absurd (both_ways (is_noted new x) (inside x (omega (arith, d.above, dest_is)) (omega (arith, d.below, dest_is, count_is))) is)
    | inr out ↦ sym (ap (λ t. t || is_dest bs x) (beside b x out)) ∙ only.each x on (sym (outside x (moved x out)) ∙ is)
  ];
}
  where
    moved : (x : ℕ) → (x < b.dest) ⊎ (b.dest + b.count ≤ x) → (x < dest) ⊎ (dest + count ≤ x)
    moved x (inl below) = inl (omega (arith, dest_is))
    moved x (inr above) = inr (omega (arith, dest_is, count_is))

pub none_noted : (g : Geometry) (dests : List Bool) → OnlyNoted g [] dests → AreNoted g [] dests
none_noted g dests only = record { long = only.long; each = λ x on. false_from_ne_true _ (λ is. true≢false (sym (only.each x on is))) }
