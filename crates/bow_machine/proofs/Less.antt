-- When less is left to do: of two, the first of the five parts that differs decides; and as a number.
use Rattle.std.proofs.Common.{ℕ, ◌+◌, ◌*◌, ◌<◌, ◌≤◌, ◌≡◌, ◌⊎◌, Bool, cond, List, length, arith, sym, ap, ◌∙◌, inl, inr}
use Rattle.std.proofs.Math.Nat.{mul-le-mul_right}
use Rattle.std.specs.List.{count_by, sum_by}
use Rattle.bow_queue.specs.Requests.{is_command}
use Rattle.bow_ranges.specs.Kinds.{is_free, count_of}
use Rattle.bow_machine.specs.Requests.{Request}
use Rattle.bow_machine.specs.Memory.{Memory, Hand, has_command}
use Rattle.bow_machine.specs.Ends.{left_of, acts_left, Left, left_in}

-- less is left: the first part that differs is lower
abbrev pub IsLess : Left → Left → Type 0
IsLess one other = (one.requests < other.requests) ⊎ ((one.requests ≡ other.requests) × ((one.commands < other.commands) ⊎ ((one.commands ≡ other.commands)
    × ((one.free < other.free) ⊎ ((one.free ≡ other.free) × ((one.blocks < other.blocks) ⊎ ((one.blocks ≡ other.blocks) × (one.acts < other.acts))))))))

-- with no command more in hand, as many free blocks, and fewer acts left
pub fewer_acts : (m : Memory) (left : Memory) (hand : Hand) → m.hand ≡ hand → left.requests ≡ m.requests → count_of is_free left.kinds ≡ count_of is_free m.kinds → has_command left.hand ≡ has_command hand
    → acts_left left.hand left.clean < acts_left hand m.clean → IsLess (left_in left) (left_in m)
fewer_acts m left hand is requests free command acts =
    let one : Bool → ℕ = λ t. cond t 1 0 in
    let same : cond (has_command left.hand) 1 0 ≡ cond (has_command m.hand) 1 0 = ap one (command ∙ ap has_command (sym is)) in
    let commands = ap (λ (rs : List Request). count_by (λ r. is_command r.op) rs) requests in
    let mine : acts_left m.hand m.clean ≡ acts_left hand m.clean = ap (λ (h : Hand). acts_left h m.clean) is in
    inr (ap length requests, inr (omega (arith, same, commands), inr (free, inr (ap (sum_by (λ r. left_of r.op r.done)) requests, omega (arith, acts, mine)))))

-- less than less is less
pub less_than_less : (a b c : Left) → IsLess a b → IsLess b c → IsLess a c
less_than_less a b c x y = elim x [
  | inl x ↦ inl (elim y [ inl y ↦ omega (arith, x, y) | inr y ↦ omega (arith, x, y.0) ])
  | inr x ↦ elim y [
    | inl y ↦ inl (omega (arith, x.0, y))
    | inr y ↦ inr (
      omega (arith, x.0, y.0),
      elim x.1 [
        | inl x ↦ inl (elim y.1 [ inl y ↦ omega (arith, x, y) | inr y ↦ omega (arith, x, y.0) ])
        | inr x ↦ elim y.1 [
          | inl y ↦ inl (omega (arith, x.0, y))
          | inr y ↦ inr (
            omega (arith, x.0, y.0),
            elim x.1 [
              | inl x ↦ inl (elim y.1 [ inl y ↦ omega (arith, x, y) | inr y ↦ omega (arith, x, y.0) ])
              | inr x ↦ elim y.1 [
                | inl y ↦ inl (omega (arith, x.0, y))
                | inr y ↦ inr (
                  omega (arith, x.0, y.0),
                  elim x.1 [
                    | inl x ↦ inl (elim y.1 [ inl y ↦ omega (arith, x, y) | inr y ↦ omega (arith, x, y.0) ])
                    | inr x ↦ elim y.1 [
                      | inl y ↦ inl (omega (arith, x.0, y))
                      | inr y ↦ inr (omega (arith, x.0, y.0), omega (arith, x.1, y.1))
                    ]
                  ],
                )
              ]
            ],
          )
        ]
      ],
    )
  ]
]

-- ----------------------------------------------------------------------------------------------------------------
-- As the digits of one number.

-- a higher digit counts for more than all of a lower one
digits : (base x y d e : ℕ) → x < y → d < base → x * base + d < y * base + e
digits base x y d e less small =
    let up : (x + 1) * base ≤ y * base = mul-le-mul_right base (omega arith) in
    let split : (x + 1) * base ≡ x * base + base = omega arith in
    omega (arith, up, split, small)

same_digit : (base x y d e : ℕ) → x ≡ y → d < e → x * base + d < y * base + e
same_digit base x y d e same less = let up = ap (λ n. n * base) same in omega (arith, up, less)

-- the five parts as one number
abbrev pub number : ℕ → Left → ℕ
number blocks left = (((left.requests * 17 + left.commands) * (blocks + 1) + left.free) * 257 + left.blocks) * 20 + left.acts

-- each part but the first fits its digit
pub record FitsDigits (blocks : ℕ) (left : Left) : Type 0 where
  pub commands : left.commands ≤ 16
  pub free : left.free ≤ blocks
  pub blocks_left : left.blocks ≤ 256
  pub acts : left.acts ≤ 19

-- the number down to each digit
abbrev at_commands : Left → ℕ
at_commands left = left.requests * 17 + left.commands

abbrev at_free : ℕ → Left → ℕ
at_free blocks left = at_commands left * (blocks + 1) + left.free

abbrev at_blocks : ℕ → Left → ℕ
at_blocks blocks left = at_free blocks left * 257 + left.blocks

-- Less is a lower number.
pub less_number : (blocks : ℕ) (one other : Left) → FitsDigits blocks one → IsLess one other → number blocks one < number blocks other
less_number blocks one other fits less = digits_4 less
  where
    from_blocks : at_blocks blocks one < at_blocks blocks other → number blocks one < number blocks other
    from_blocks h = digits 20 (at_blocks blocks one) (at_blocks blocks other) one.acts other.acts h (omega (arith, fits.acts))

    from_free : at_free blocks one < at_free blocks other → number blocks one < number blocks other
    from_free h = from_blocks (digits 257 (at_free blocks one) (at_free blocks other) one.blocks other.blocks h (omega (arith, fits.blocks_left)))

    from_commands : at_commands one < at_commands other → number blocks one < number blocks other
    from_commands h = from_free (digits (blocks + 1) (at_commands one) (at_commands other) one.free other.free h (omega (arith, fits.free)))

    same_commands : one.requests ≡ other.requests → one.commands ≡ other.commands → at_commands one ≡ at_commands other
    same_commands r c = omega (arith, r, c)

    same_free : one.requests ≡ other.requests → one.commands ≡ other.commands → one.free ≡ other.free → at_free blocks one ≡ at_free blocks other
    same_free r c f = let up = ap (λ n. n * (blocks + 1)) (same_commands r c) in omega (arith, up, f)

    same_blocks : one.requests ≡ other.requests → one.commands ≡ other.commands → one.free ≡ other.free → one.blocks ≡ other.blocks → at_blocks blocks one ≡ at_blocks blocks other
    same_blocks r c f b = let up = ap (λ n. n * 257) (same_free r c f) in omega (arith, up, b)

    digits_4 : IsLess one other → number blocks one < number blocks other
    digits_4 less = elim less [
      | inl l ↦ from_commands (digits 17 one.requests other.requests one.commands other.commands l (omega (arith, fits.commands)))
      | inr h ↦ elim h.1 [
        | inl l ↦ from_commands (same_digit 17 one.requests other.requests one.commands other.commands h.0 l)
        | inr k ↦ elim k.1 [
          | inl l ↦ from_free (same_digit (blocks + 1) (at_commands one) (at_commands other) one.free other.free (same_commands h.0 k.0) l)
          | inr f ↦ elim f.1 [
            | inl l ↦ from_blocks (same_digit 257 (at_free blocks one) (at_free blocks other) one.blocks other.blocks (same_free h.0 k.0 f.0) l)
            | inr b ↦ same_digit 20 (at_blocks blocks one) (at_blocks blocks other) one.acts other.acts (same_blocks h.0 k.0 f.0 b.0) b.1
          ]
        ]
      ]
    ]

-- the number is below this one
pub below_most : (blocks : ℕ) (one : Left) → one.requests ≤ 16 → FitsDigits blocks one
    → number blocks one < 17 * 17 * (blocks + 1) * 257 * 20
below_most blocks one few fits =
    let commands : at_commands one < 17 * 17 = omega (arith, few, fits.commands) in
    let free : at_free blocks one < 17 * 17 * (blocks + 1) + 0 = digits (blocks + 1) (at_commands one) (17 * 17) one.free 0 commands (omega (arith, fits.free)) in
    let left : at_blocks blocks one < (17 * 17 * (blocks + 1) + 0) * 257 + 0 = digits 257 (at_free blocks one) (17 * 17 * (blocks + 1) + 0) one.blocks 0 free (omega (arith, fits.blocks_left)) in
    let acts : number blocks one < ((17 * 17 * (blocks + 1) + 0) * 257 + 0) * 20 + 0 = digits 20 (at_blocks blocks one) ((17 * 17 * (blocks + 1) + 0) * 257 + 0) one.acts 0 left (omega (arith, fits.acts)) in
    omega (arith, acts)
