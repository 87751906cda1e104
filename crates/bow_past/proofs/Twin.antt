-- The disk as the writers of a session see it: its clock does not count the reads that are made beside them, nor does
-- its count of faults.
use Rattle.std.proofs.Common.{◌≡◌, ◌⊎◌, inl, inr, ℕ, ◌+◌, ◌-◌, ◌^◌, ◌<◌, ◌≤◌, min, max, List, Option, Some, arith, refl, sym, ◌∙◌, subst}
use Rattle.std.specs.Prelude.{nat_lt, if◌then◌else◌}
use Rattle.std.proofs.lemmas.Bool.{cases_lt}
use Rattle.bow_units.specs.declared.sizes.Geometry.{Geometry}
use Rattle.bow_disk.specs.Disk.{Content, IsCrash, IsShaped, IsImage, Elapses}
use Rattle.bow_play.specs.Leading.{CanLeave}

-- a disk, the writers' clock, what that was at each moment of the disk, and how many of their calls failed
pub record Twin (D : Type 0) : Type 0 where
  pub disk : D
  pub clock : ℕ
  pub at : ℕ → ℕ
  pub faults : ℕ

-- the writers' clock at each moment, once it went on to this at that moment
pub at_from : ℕ → ℕ → (ℕ → ℕ) → ℕ → ℕ
at_from m clock at t = if nat_lt t m then at t else clock

pub at_low : (m clock : ℕ) (at : ℕ → ℕ) (t : ℕ) → t < m → at_from m clock at t ≡ at t
unfolding at_from
at_low m clock at t low = grind (arith, low)

pub at_high : (m clock : ℕ) (at : ℕ → ℕ) (t : ℕ) → m ≤ t → at_from m clock at t ≡ clock
unfolding at_from
at_high m clock at t high = grind (arith, high)

-- one call more, of those that a count may have
pub one_more : ℕ → ℕ
one_more n = max n (min (n + 1) (2 ^ 64 - 1))

pub one_more_is : (n : ℕ) → one_more n ≡ max n (min (n + 1) (2 ^ 64 - 1))
unfolding one_more
one_more_is n = refl

module _ {D : Type 0} (stated : D → Option Geometry) (content : D → Option Content) (moment : D → ℕ) (left : D → ℕ → List (List ℕ) → Type 0) (start : ℕ) where
  -- What a cut might have left since a moment of the writers' clock: what it may leave now, or what it might have left
  -- since a moment of the disk at which that clock had come so far.
  abbrev pub left_by : Twin D → ℕ → List (List ℕ) → Type 0
  left_by tw since image = CanLeave (content tw.disk) image
      ⊎ ((since < tw.clock) × ((late : ℕ) × (since ≤ tw.at late) × (since < start → tw.at late ≡ since) × left tw.disk late image))

  -- what holds of the writers' clock, over a disk that tells this content
  pub record IsTwin (tw : Twin D) (c : Content) : Type 0 where
    pub started : start ≤ tw.clock
    pub behind : tw.clock ≤ moment tw.disk
    pub within : (t : ℕ) → tw.at t ≤ tw.clock
    pub early : (t : ℕ) → t ≤ start → tw.at t ≡ t
    pub above : (t : ℕ) → start ≤ t → start ≤ tw.at t
    pub full : (t : ℕ) → moment tw.disk ≤ t → tw.clock ≤ tw.at t
    pub settled : (late : ℕ) (image : List (List ℕ)) → tw.clock ≤ tw.at late → left tw.disk late image → IsCrash c.candidates image

  module _ (shaped : (d : D) (c : Content) → content d ≡ Some c → (g : Geometry) → stated d ≡ Some g → IsShaped g.block_size g.blocks c)
      (cuts_shaped : (d : D) (c : Content) → content d ≡ Some c → (g : Geometry) → stated d ≡ Some g → (t : ℕ) (image : List (List ℕ)) → left d t image → IsImage g.block_size g.blocks image)
      (counts_now : (d : D) (c : Content) → content d ≡ Some c → (t : ℕ) (image : List (List ℕ)) → t ≤ moment d → IsCrash c.candidates image → left d t image)
      (only_now : (d : D) (c : Content) → content d ≡ Some c → (t : ℕ) (image : List (List ℕ)) → moment d ≤ t → left d t image → IsCrash c.candidates image) where
    -- what may be left now of a disk that tells this content
    can_told : (d : D) (c : Content) → content d ≡ Some c → (image : List (List ℕ)) → CanLeave (content d) image → IsCrash c.candidates image
    can_told d c is image can = subst (λ o. CanLeave o image) is can

    told_can : (d : D) (c : Content) → content d ≡ Some c → (image : List (List ℕ)) → IsCrash c.candidates image → CanLeave (content d) image
    told_can d c is image crash = subst (λ o. CanLeave o image) (sym is) crash

    -- ----------------------------------------------------------------------------------------------------------------
    -- It is a disk.

    pub shaped_by : (tw : Twin D) (c : Content) → content tw.disk ≡ Some c → (g : Geometry) → stated tw.disk ≡ Some g → IsShaped g.block_size g.blocks c
    shaped_by tw c is g sizes = shaped tw.disk c is g sizes

    pub cuts_shaped_by : (tw : Twin D) (c : Content) → content tw.disk ≡ Some c → (g : Geometry) → stated tw.disk ≡ Some g → (t : ℕ) (image : List (List ℕ)) → left_by tw t image → IsImage g.block_size g.blocks image
    cuts_shaped_by tw c is g sizes t image (inl now) = cuts_shaped tw.disk c is g sizes (moment tw.disk) image (counts_now tw.disk c is (moment tw.disk) image (omega arith) (can_told tw.disk c is image now))
    cuts_shaped_by tw c is g sizes t image (inr past) = cuts_shaped tw.disk c is g sizes past.1.0 image past.1.3

    pub only_now_by : (tw : Twin D) (c : Content) → content tw.disk ≡ Some c → (t : ℕ) (image : List (List ℕ)) → tw.clock ≤ t → left_by tw t image → IsCrash c.candidates image
    only_now_by tw c is t image past (inl now) = can_told tw.disk c is image now
    only_now_by tw c is t image past (inr before) = absurd (omega (arith, past, before.0))

    -- before any call, all went on together
    pub first_twin : (d : D) (c : Content) (count : ℕ) → content d ≡ Some c → start ≡ moment d → IsTwin (record { disk = d; clock = start; at = λ t. min t start; faults = count }) c
    first_twin d c count is same = record {
      started = omega arith;
      behind = omega (arith, same);
      within = λ t. omega arith;
      early = λ t low. omega (arith, low);
      above = λ t high. omega (arith, high);
      full = λ t high. omega (arith, same, high);
      settled = λ late image low past. only_now d c is late image (omega (arith, same, low)) past;
    }

    -- ----------------------------------------------------------------------------------------------------------------
    -- A call of the writers.

    module _ (tw : Twin D) (c : Content) (is : content tw.disk ≡ Some c) (k : IsTwin tw c) (e : D) (f : Content) (now : content e ≡ Some f)
        (goes : Elapses (moment tw.disk) (moment e) (left tw.disk) (left e) (IsCrash f.candidates)) (count : ℕ) where
      abbrev next : Twin D
      next = record { disk = e; clock = one_more tw.clock; at = at_from (moment e) (one_more tw.clock) tw.at; faults = count }

      -- what was left since a moment up to that of the call, is
      later_one : (image : List (List ℕ)) → moment tw.disk ≡ moment e → IsCrash c.candidates image → IsCrash f.candidates image
      later_one image stuck crash = only_now e f now (moment tw.disk) image (omega (arith, stuck)) (goes.keeps (moment tw.disk) image (omega arith) (counts_now tw.disk c is (moment tw.disk) image (omega arith) crash))

      pub next_twin : IsTwin next f
      next_twin = record {
        started = omega (arith, k.started, one_more_is tw.clock);
        behind = omega (arith, k.behind, goes.count, one_more_is tw.clock);
        within = λ t. elim (cases_lt t (moment e)) [
          | inl low ↦ (let a = at_low (moment e) (one_more tw.clock) tw.at t low in let w = k.within t in omega (arith, a, w, one_more_is tw.clock))
          | inr high ↦ (let a = at_high (moment e) (one_more tw.clock) tw.at t (omega (arith, high)) in omega (arith, a))
        ];
        early = λ t first. elim (cases_lt t (moment e)) [
          | inl low ↦ at_low (moment e) (one_more tw.clock) tw.at t low ∙ k.early t first
          | inr high ↦ (let a = at_high (moment e) (one_more tw.clock) tw.at t (omega (arith, high)) in omega (arith, a, first, high, k.started, k.behind, goes.count, one_more_is tw.clock))
        ];
        above = λ t first. elim (cases_lt t (moment e)) [
          | inl low ↦ (let a = at_low (moment e) (one_more tw.clock) tw.at t low in let b = k.above t first in omega (arith, a, b))
          | inr high ↦ (let a = at_high (moment e) (one_more tw.clock) tw.at t (omega (arith, high)) in omega (arith, a, k.started, one_more_is tw.clock))
        ];
        full = λ t high. (let a = at_high (moment e) (one_more tw.clock) tw.at t high in omega (arith, a));
        settled = λ late image up past. elim (cases_lt late (moment e)) [
          | inr high ↦ only_now e f now late image (omega (arith, high)) past
          | inl low ↦
              let a = at_low (moment e) (one_more tw.clock) tw.at late low in
              let w = k.within late in
              let stuck : moment tw.disk ≡ moment e = omega (arith, a, w, up, k.behind, goes.count, one_more_is tw.clock) in
              elim (goes.nothing_else late image (omega (arith, low, stuck)) past) [
                | inl was ↦ later_one image stuck (k.settled late image (omega (arith, a, up, one_more_is tw.clock)) was)
                | inr new ↦ new
              ]
        ];
      }

      -- what may be left now of the old disk, might be left since then of the new one
      kept_now : (t : ℕ) (image : List (List ℕ)) → t ≤ tw.clock → IsCrash c.candidates image → left_by next t image
      kept_now t image low crash = elim (cases_lt t (one_more tw.clock)) [
        | inr high ↦ inl (told_can e f now image (later_one image (omega (arith, high, low, k.behind, goes.count, one_more_is tw.clock)) crash))
        | inl below ↦ elim (cases_lt t start) [
          | inl first ↦
              let same = k.early t (omega (arith, first)) in
              let a = at_low (moment e) (one_more tw.clock) tw.at t (omega (arith, first, k.started, k.behind, goes.count)) in
              inr (below, (t, omega (arith, a, same), λ again. a ∙ same, goes.keeps t image (omega (arith, first, k.started, k.behind)) (counts_now tw.disk c is t image (omega (arith, first, k.started, k.behind)) crash)))
          | inr on ↦
              inr (below, (moment tw.disk, reach below, λ again. absurd (omega (arith, on, again)), goes.keeps (moment tw.disk) image (omega arith) (counts_now tw.disk c is (moment tw.disk) image (omega arith) crash)))
        ]
      ]
        where
          reach : t < one_more tw.clock → t ≤ at_from (moment e) (one_more tw.clock) tw.at (moment tw.disk)
          reach below = elim (cases_lt (moment tw.disk) (moment e)) [
            | inl one ↦ (let a = at_low (moment e) (one_more tw.clock) tw.at (moment tw.disk) one in let b = k.full (moment tw.disk) (omega arith) in omega (arith, a, b, low))
            | inr none ↦ (let a = at_high (moment e) (one_more tw.clock) tw.at (moment tw.disk) (omega (arith, none)) in omega (arith, a, below))
          ]

      pub next_goes : Elapses tw.clock (one_more tw.clock) (left_by tw) (left_by next) (IsCrash f.candidates)
      next_goes = record {
        count = one_more_is tw.clock;
        nothing_else = nothing_else;
        keeps = keeps;
      }
        where
          nothing_else : (t : ℕ) (image : List (List ℕ)) → t ≤ tw.clock → left_by next t image → left_by tw t image ⊎ IsCrash f.candidates image
          nothing_else t image low (inl can) = inr (can_told e f now image can)
          nothing_else t image low (inr (below, (late, up, first, past))) = elim (cases_lt late (moment e)) [
            | inr high ↦ inr (only_now e f now late image (omega (arith, high)) past)
            | inl before ↦
                let a = at_low (moment e) (one_more tw.clock) tw.at late before in
                elim (goes.nothing_else late image (omega (arith, before, goes.count)) past) [
                  | inr new ↦ inr new
                  | inl was ↦ elim (cases_lt t tw.clock) [
                    | inl less ↦ inl (inr (less, (late, omega (arith, a, up), λ again. sym a ∙ first again, was)))
                    | inr same ↦ inl (inl (told_can tw.disk c is image (k.settled late image (omega (arith, a, up, low, same)) was)))
                  ]
                ]
          ]

          keeps : (t : ℕ) (image : List (List ℕ)) → t ≤ tw.clock → left_by tw t image → left_by next t image
          keeps t image low (inl can) = kept_now t image low (can_told tw.disk c is image can)
          keeps t image low (inr (less, (late, up, first, past))) = elim (cases_lt (moment tw.disk) late) [
            | inl after ↦ kept_now t image low (only_now tw.disk c is late image (omega (arith, after)) past)
            | inr up_to ↦ inr (omega (arith, less, one_more_is tw.clock), (late, reach, again, goes.keeps late image (omega (arith, up_to)) past))
          ]
            where
              reach : t ≤ at_from (moment e) (one_more tw.clock) tw.at late
              reach = elim (cases_lt late (moment e)) [
                | inl one ↦ (let a = at_low (moment e) (one_more tw.clock) tw.at late one in omega (arith, a, up))
                | inr none ↦ (let a = at_high (moment e) (one_more tw.clock) tw.at late (omega (arith, none)) in omega (arith, a, low, one_more_is tw.clock))
              ]

              again : t < start → at_from (moment e) (one_more tw.clock) tw.at late ≡ t
              again early = elim (cases_lt late (moment e)) [
                | inl one ↦ at_low (moment e) (one_more tw.clock) tw.at late one ∙ first early
                | inr none ↦ (let is = first early in let b = k.above late (omega (arith, none, k.started, k.behind, goes.count)) in absurd (omega (arith, is, b, early)))
              ]

    -- ----------------------------------------------------------------------------------------------------------------
    -- A read beside them.

    module _ (tw : Twin D) (c : Content) (is : content tw.disk ≡ Some c) (k : IsTwin tw c) (e : D) (now : content e ≡ Some c)
        (goes : Elapses (moment tw.disk) (moment e) (left tw.disk) (left e) (IsCrash c.candidates)) where
      abbrev beside : Twin D
      beside = record tw { disk = e }

      -- what might have been left since a moment, might have been before the read
      was_left : (late : ℕ) (image : List (List ℕ)) → left e late image → left tw.disk late image ⊎ IsCrash c.candidates image
      was_left late image past = elim (cases_lt (moment tw.disk) late) [
        | inl after ↦ inr (only_now e c now late image (omega (arith, after, goes.count)) past)
        | inr up_to ↦ goes.nothing_else late image (omega (arith, up_to)) past
      ]

      pub beside_twin : IsTwin beside c
      beside_twin = record {
        started = k.started;
        behind = omega (arith, k.behind, goes.count);
        within = k.within;
        early = k.early;
        above = k.above;
        full = λ t high. k.full t (omega (arith, high, goes.count));
        settled = λ late image up past. elim (was_left late image past) [ inl was ↦ k.settled late image up was | inr new ↦ new ];
      }

      pub beside_left : (t : ℕ) (image : List (List ℕ)) → left_by beside t image → left_by tw t image
      beside_left t image (inl can) = inl (told_can tw.disk c is image (can_told e c now image can))
      beside_left t image (inr (below, (late, up, first, past))) = elim (was_left late image past) [
        | inl was ↦ inr (below, (late, up, first, was))
        | inr new ↦ inl (told_can tw.disk c is image new)
      ]
