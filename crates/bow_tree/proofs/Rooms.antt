-- Room for the first blocks of trees.
use Rattle.std.proofs.Common.{◌≡◌, ℕ, zero, suc, ◌+◌, ◌*◌, ◌-◌, ◌/◌, ◌%◌, ◌<◌, ◌≤◌, ◌==◌, min, false, cond, length, drop, refl, sym, ap, ◌∙◌, subst, inl, inr, arith, length-take, length-drop}
use Rattle.std.proofs.lemmas.Bool.{cases_lt}
use Rattle.std.proofs.Math.Nat.{div-eq_of_lt, mod-eq_of_lt, div-eq-sub-div, mod-eq-sub-mod, mod-lt, mul-div_cancel, mul-mod_left}
use Rattle.std.proofs.lemmas.Nat.{div-add-mod'}
use Rattle.bow_tree.specs.Trees.{Store, blocks_of, width_of, room_of, first_tree, other_trees}
use Rattle.bow_tree.specs.Rooms.{rooms_of, room_for, HasRoom, HaveRoom}
use Rattle.bow_tree.proofs.Pieces.{times_less}
use Rattle.bow_tree.proofs.Descents.{blocks_some, up_to_five}

-- no blocks take no room
pub room_none : (h : ℕ) → room_for h 0 ≡ 0
room_none zero = refl
room_none (suc h) = refl

-- the root, and the trees of its parts
pub room_open : (h n : ℕ) → 0 < n → room_for (suc h) n ≡ width_of h + rooms_of (room_for h) h n
room_open h n some = let t : (n == 0) ≡ false = grind arith in ap (λ b. cond b 0 (width_of h + rooms_of (room_for h) h n)) t

-- all within the first tree
pub rooms_first : (h n : ℕ) → n < blocks_of h → rooms_of (room_for h) h n ≡ room_for h n
rooms_first h n less =
    let none : n / blocks_of h ≡ 0 = div-eq_of_lt less in
    let rest : n % blocks_of h ≡ n = mod-eq_of_lt less in
    ap (λ q. q * room_of h + room_for h (n % blocks_of h)) none ∙ ap (λ r. 0 * room_of h + room_for h r) rest ∙ (omega arith)

-- the first tree, and those behind it
pub rooms_more : (h n : ℕ) → blocks_of h ≤ n → rooms_of (room_for h) h n ≡ room_of h + rooms_of (room_for h) h (n - blocks_of h)
rooms_more h n more =
    let one : n / blocks_of h ≡ (n - blocks_of h) / blocks_of h + 1 = div-eq-sub-div (blocks_some h) more in
    let rest : n % blocks_of h ≡ (n - blocks_of h) % blocks_of h = mod-eq-sub-mod more in
    ap (λ q. q * room_of h + room_for h (n % blocks_of h)) one ∙ ap (λ r. ((n - blocks_of h) / blocks_of h + 1) * room_of h + room_for h r) rest ∙ (omega arith)

rooms_none : (h : ℕ) → rooms_of (room_for h) h 0 ≡ 0
rooms_none h = rooms_first h 0 (omega (arith, blocks_some h)) ∙ room_none h

-- whole trees
pub rooms_whole : (h n : ℕ) → rooms_of (room_for h) h (n * blocks_of h) ≡ n * room_of h
rooms_whole h n =
    let q : n * blocks_of h / blocks_of h ≡ n = mul-div_cancel n (blocks_some h) in
    let r : n * blocks_of h % blocks_of h ≡ 0 = mul-mod_left n (blocks_of h) in
    ap (λ q. q * room_of h + room_for h (n * blocks_of h % blocks_of h)) q ∙ ap (λ r. n * room_of h + room_for h r) r ∙ omega (arith, room_none h)

pub room_full : (h : ℕ) → room_for h (blocks_of h) ≡ room_of h
room_full zero = refl
room_full (suc h) = room_open h (16 * blocks_of h) (omega (arith, blocks_some h)) ∙ ap (λ n. width_of h + n) (rooms_whole h 16)

-- fewer blocks take no more room
pub room_up : (h n m : ℕ) → n ≤ m → m ≤ blocks_of h → room_for h n ≤ room_for h m
room_up zero n m up inside = omega arith
room_up (suc h) zero m up inside = omega (arith, room_none (suc h))
room_up (suc h) (suc n) m up inside =
    let size = blocks_of h in
    let some = blocks_some h in
    let low : ℕ = suc n / size in
    let high : ℕ = m / size in
    let low_is = div-add-mod' (suc n) size in
    let high_is = div-add-mod' m size in
    let low_rest = mod-lt (suc n) {m = size} some in
    let high_rest = mod-lt m {m = size} some in
    let here = room_open h (suc n) (omega arith) in
    let there = room_open h m (omega (arith, up)) in
    let bound : room_for h (suc n % size) ≤ room_of h = subst (λ k. room_for h (suc n % size) ≤ k) (room_full h) (room_up h (suc n % size) size (omega (arith, low_rest)) (omega arith)) in
    elim (cases_lt low high) [
      | inl less ↦ omega (arith, here, there, bound, times_less low high (room_of h) less)
      | inr most ↦ elim (cases_lt high low) [
        | inl more ↦ absurd (omega (arith, times_less high low size more, low_is, high_is, low_rest, high_rest, up))
        | inr level ↦
            let e : low ≡ high = omega (arith, most, level) in
            let times = ap (λ q. q * size) e in
            let rooms = ap (λ q. q * room_of h) e in
            let rest = room_up h (suc n % size) (m % size) (omega (arith, low_is, high_is, times, up)) (omega (arith, high_rest)) in
            omega (arith, here, there, rooms, rest)
      ]
    ]

pub room_bound : (h n : ℕ) → n ≤ blocks_of h → room_for h n ≤ room_of h
room_bound h n inside = subst (λ k. room_for h n ≤ k) (room_full h) (room_up h n (blocks_of h) inside (omega arith))

pub fewer : (h n m : ℕ) (tree : Store) → n ≤ m → m ≤ blocks_of h → HasRoom h m tree → HasRoom h n tree
fewer h n m tree up inside r = record {
  parts = omega (arith, r.parts, room_up h n m up inside);
  kinds = omega (arith, r.kinds, up);
}

-- the first of some trees, and the others
pub first_room : (g n : ℕ) (trees : Store) → HaveRoom (suc g) n trees → HasRoom (suc g) (min n (blocks_of (suc g))) (first_tree (suc g) trees)
first_room g n trees r =
    let h : ℕ = suc g in
    let size : ℕ = blocks_of h in
    let parts = length-take (room_of h) trees.0 in
    let kinds = length-take size trees.1 in
    let sixteen : size ≡ 16 * blocks_of g = refl in
    elim (cases_lt n size) [
      | inl less ↦
          let e : min n size ≡ n = omega (arith, less) in
          subst (λ m. HasRoom h m (first_tree h trees)) (sym e)
          (record { parts = omega (arith, parts, r.parts, rooms_first h n less, room_bound h n (omega (arith, less))); kinds = omega (arith, kinds, r.kinds, less, sixteen) })
      | inr more ↦
          let e : min n size ≡ size = omega (arith, more) in
          subst (λ m. HasRoom h m (first_tree h trees)) (sym e)
          (record { parts = omega (arith, parts, r.parts, rooms_more h n more, room_full h); kinds = omega (arith, kinds, r.kinds, more, sixteen) })
    ]

pub other_room : (g n : ℕ) (trees : Store) → HaveRoom (suc g) n trees → HaveRoom (suc g) (n - blocks_of (suc g)) (other_trees (suc g) trees)
other_room g n trees r =
    let h : ℕ = suc g in
    let size : ℕ = blocks_of h in
    let parts = length-drop (room_of h) trees.0 in
    let kinds = length-drop size trees.1 in
    let sixteen : size ≡ 16 * blocks_of g = refl in
    elim (cases_lt n size) [
      | inl less ↦
          let e : n - size ≡ 0 = omega (arith, less) in
          subst (λ m. HaveRoom h m (other_trees h trees)) (sym e)
          (record { parts = omega (arith, rooms_none h); kinds = omega arith })
      | inr more ↦ record { parts = omega (arith, parts, r.parts, rooms_more h n more); kinds = omega (arith, kinds, r.kinds, more, sixteen) }
    ]

-- a root of parts, and the trees of these
pub open_room : (g n : ℕ) (tree : Store) → 0 < n → HasRoom (suc (suc g)) n tree → (16 ≤ length tree.0) × HaveRoom (suc g) n (drop 16 tree.0, tree.1)
open_room g n tree some r =
    let parts = room_open (suc g) n some in
    (omega (arith, parts, r.parts), record { parts = omega (arith, parts, r.parts, length-drop 16 tree.0); kinds = r.kinds })

-- the same of heights that are large enough
pub first_roomy : (h n : ℕ) (trees : Store) → 1 ≤ h → HaveRoom h n trees → HasRoom h (min n (blocks_of h)) (first_tree h trees)
first_roomy zero n trees some r = absurd (omega (arith, some))
first_roomy (suc g) n trees some r = first_room g n trees r

pub other_roomy : (h n : ℕ) (trees : Store) → 1 ≤ h → HaveRoom h n trees → HaveRoom h (n - blocks_of h) (other_trees h trees)
other_roomy zero n trees some r = absurd (omega (arith, some))
other_roomy (suc g) n trees some r = other_room g n trees r

pub open_roomy : (h n : ℕ) (tree : Store) → 2 ≤ h → 0 < n → HasRoom h n tree → (16 ≤ length tree.0) × HaveRoom (h - 1) n (drop 16 tree.0, tree.1)
open_roomy zero n tree tall some r = absurd (omega (arith, tall))
open_roomy (suc zero) n tree tall some r = absurd (omega (arith, tall))
open_roomy (suc (suc g)) n tree tall some r =
    let num : suc g ≡ suc (suc g) - 1 = omega arith in
    subst (λ k. (16 ≤ length tree.0) × HaveRoom k n (drop 16 tree.0, tree.1)) num (open_room g n tree some r)

-- a leaf
pub leaf_room : (h n : ℕ) (tree : Store) → 0 < n → HasRoom h n tree → 16 ≤ length tree.1
leaf_room h n tree some r = omega (arith, some, r.kinds)

pub rooms_few : (h : ℕ) → h ≤ 5 → room_of h ≤ 69904
rooms_few = up_to_five (λ h. room_of h ≤ 69904) (omega arith) (omega arith) (omega arith) (omega arith) (omega arith) (omega arith)

-- the same of a height above 0
pub room_opened : (h n : ℕ) → 0 < h → 0 < n → room_for h n ≡ width_of (h - 1) + rooms_of (room_for (h - 1)) (h - 1) n
room_opened zero n tall some = absurd (omega (arith, tall))
room_opened (suc h) n tall some =
    let num : h ≡ suc h - 1 = omega arith in
    room_open h n some ∙ ap (λ g. width_of g + rooms_of (room_for g) g n) num
