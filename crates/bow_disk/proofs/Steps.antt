-- What a call does to a disk in memory: the parts go on fitting together, the content changes as the trait says, and time goes on.
use Rattle.std.proofs.Common.{◌≡◌, inl, inr, ℕ, ◌+◌, ◌-◌, ◌^◌, ◌<◌, ◌≤◌, min, true, List, [], ◌∷◌, ◌++◌, length, map, Option, None, Some, refl, ap, ◌∙◌, arith}
use Rattle.std.specs.Prelude.{nat_le}
use Rattle.std.specs.List.{All}
use Rattle.std.proofs.lemmas.Bool.{le-leb, cases_lt, cases_Bool}
use Rattle.std.proofs.lemmas.Bool.Decides.{nat_tests}
use Rattle.std.proofs.lemmas.List.Elements.{All-push, All-weaker, All-map}
use Rattle.bow_units.specs.Blocks.{IsBlock}
use Rattle.bow_disk.specs.declared.failing.FailMode.{FailMode}
use Rattle.bow_disk.specs.declared.failing.FailMode.TheVariants.{Lost, Kept}
use Rattle.bow_disk.specs.Disk.{IsCrash, Same, Written, Flushed, Elapses, offered}
use Rattle.bow_disk.specs.Memory.{Change, State, IsFit, IsPast, alone, change_at, candidates_at, content, LeftSince, flushed_at, flush_change, failure, write_failure, failure_after, listed, counted, faulted, with_write, with_flush}
use Rattle.bow_disk.proofs.Candidates.{latest-push, latest-flushed, candidates_at-push, candidates_later, candidates_before, candidates_flushed, change_not_yet}

-- a call that fails so, or does not fail, and changes something, has a number of its own
abbrev pub HasNumber : Option FailMode → ℕ → Type 0
HasNumber None calls = calls < 2 ^ 64 - 1
HasNumber (Some Lost) calls = Unit {0}
HasNumber (Some Kept) calls = calls < 2 ^ 64 - 1

any_number : (f : Option FailMode) (calls : ℕ) → calls < 2 ^ 64 - 1 → HasNumber f calls
any_number None calls small = small
any_number (Some Lost) calls small = tt
any_number (Some Kept) calls small = small

number_after : (failing : List (ℕ × FailMode)) (stop calls : ℕ) → stop < 2 ^ 64 → HasNumber (failure_after failing stop calls) calls
number_after failing stop calls small = elim (cases_Bool (nat_le stop calls)) [
  | inl over ↦ rw over tt
  | inr going ↦ rw going (any_number (listed failing (calls + 1)) calls (let before : calls < stop = grind (arith, nat_tests) in omega arith))
]

pub number : (s : State) → IsFit s → HasNumber (failure s) s.calls
number s fit = number_after s.failing s.stop s.calls fit.stop

pub write_number : (s : State) → IsFit s → HasNumber (write_failure s) s.calls
write_number s fit = elim (cases_Bool (nat_le s.room (length s.writes))) [
  | inl full ↦ rw full tt
  | inr spare ↦ rw spare (number s fit)
]

-- what stood at the end of each earlier call stands
elapse : (first : List (List ℕ)) (ws later : List Change) (calls : ℕ) → calls < 2 ^ 64 → ((k : ℕ) → k ≤ calls → candidates_at k (alone first) later ≡ candidates_at k (alone first) ws)
    → Elapses calls (min (calls + 1) (2 ^ 64 - 1)) (λ t image. (k : ℕ) × (t ≤ k) × (k ≤ calls) × IsCrash (candidates_at k (alone first) ws) image)
    (λ t image. (k : ℕ) × (t ≤ k) × (k ≤ min (calls + 1) (2 ^ 64 - 1)) × IsCrash (candidates_at k (alone first) later) image) (IsCrash (candidates_at (min (calls + 1) (2 ^ 64 - 1)) (alone first) later))
elapse first ws later calls small stands = record {
  count = omega arith;
  nothing_else = λ t image le left. elim (cases_lt calls left.0) [
    | inl after ↦ inr (let last : left.0 ≡ min (calls + 1) (2 ^ 64 - 1) = omega (arith, left.2) in rw last at left.3)
    | inr before ↦ inl (left.0, left.1, before, rw (stands left.0 before) at left.3)
  ];
  keeps = λ t image le left. (left.0, left.1, (let h : left.0 ≤ calls = left.2 in omega arith), rw (stands left.0 left.2) left.3);
}

older : (c k n size : ℕ) → c ≤ k → (w : Change) → IsPast c n size w → IsPast k n size w
older c k n size le w past = record { call = omega (arith, past.call); block = past.block; flushed = λ f is. let h : f ≤ c = past.flushed f is in omega arith; value = past.value }

flush_past : (c k n size : ℕ) → c < k → (w : Change) → IsPast c n size w → IsPast k n size (flush_change k w)
flush_past c k n size lt w past = record { call = omega (arith, past.call); block = past.block; flushed = λ f is. flag w.flushed f past.flushed is; value = past.value }
  where
    flag : (o : Option ℕ) (f : ℕ) → ((g : ℕ) → o ≡ Some g → g ≤ c) → flushed_at k o ≡ Some f → f ≤ k
    flag None f past is = let same : k ≡ f = cc in omega arith
    flag (Some g) f past is = let same : g ≡ f = cc in let h : g ≤ c = past g refl in omega arith

-- the state with other counts, and with other writes
module _ (s : State) (fit : IsFit s) where
  same_past : All (IsPast (min (s.calls + 1) (2 ^ 64 - 1)) s.geometry.blocks s.geometry.block_size) s.writes
  same_past = All-weaker (IsPast s.calls s.geometry.blocks s.geometry.block_size) (IsPast (min (s.calls + 1) (2 ^ 64 - 1)) s.geometry.blocks s.geometry.block_size)
      (older s.calls (min (s.calls + 1) (2 ^ 64 - 1)) s.geometry.blocks s.geometry.block_size (let h : s.calls < 2 ^ 64 = fit.calls in omega arith)) s.writes fit.past

  pub counted_fit : IsFit (counted s)
  counted_fit = record { blocks = fit.blocks; sized = fit.sized; past = same_past; calls = omega arith; stop = fit.stop; faults = fit.faults }

  pub faulted_fit : IsFit (faulted s)
  faulted_fit = record { blocks = fit.blocks; sized = fit.sized; past = same_past; calls = omega arith; stop = fit.stop; faults = omega arith }

  pub same_content : Same (content s) (content (counted s))
  same_content = (refl, candidates_later s.calls (min (s.calls + 1) (2 ^ 64 - 1)) s.geometry.blocks s.geometry.block_size (alone s.first) s.writes fit.past (let h : s.calls < 2 ^ 64 = fit.calls in omega arith))

  pub same_time : Elapses s.calls (min (s.calls + 1) (2 ^ 64 - 1)) (LeftSince s) (LeftSince (counted s)) (IsCrash (content (counted s)).candidates)
  same_time = elapse s.first s.writes s.writes s.calls fit.calls (λ k le. refl)

  -- a write of v that has its effect
  module _ (small : s.calls < 2 ^ 64 - 1) (at : ℕ) (v : List ℕ) (within : at < s.geometry.blocks) (whole : IsBlock s.geometry.block_size v) where
    written_past : All (IsPast (min (s.calls + 1) (2 ^ 64 - 1)) s.geometry.blocks s.geometry.block_size) (s.writes ++ record { call = s.calls + 1; block = at; value = v; flushed = None } ∷ [])
    written_past = All-push (IsPast (min (s.calls + 1) (2 ^ 64 - 1)) s.geometry.blocks s.geometry.block_size) s.writes (record { call = s.calls + 1; block = at; value = v; flushed = None }) same_past
        (record { call = omega arith; block = within; flushed = λ f is. absurd (cc is); value = whole })

    pub written_fit : IsFit (counted (with_write at v s))
    written_fit = record { blocks = fit.blocks; sized = fit.sized; past = written_past; calls = omega arith; stop = fit.stop; faults = fit.faults }

    pub kept_fit : IsFit (faulted (with_write at v s))
    kept_fit = record { blocks = fit.blocks; sized = fit.sized; past = written_past; calls = omega arith; stop = fit.stop; faults = omega arith }

    pub written_content : Written at v (content s) (content (counted (with_write at v s)))
    written_content = (
      latest-push s.first s.writes (record { call = s.calls + 1; block = at; value = v; flushed = None }),
      candidates_at-push (min (s.calls + 1) (2 ^ 64 - 1)) (alone s.first) s.writes (record { call = s.calls + 1; block = at; value = v; flushed = None })
          ∙ step (candidates_at (min (s.calls + 1) (2 ^ 64 - 1)) (alone s.first) s.writes)
          ∙ ap (λ (l : List (List (List ℕ))). offered l at v) same_content.1,
    )
      where
        step : (cs : List (List (List ℕ))) → change_at (min (s.calls + 1) (2 ^ 64 - 1)) cs (record { call = s.calls + 1; block = at; value = v; flushed = None }) ≡ offered cs at v
        step cs = let begun : nat_le (s.calls + 1) (min (s.calls + 1) (2 ^ 64 - 1)) ≡ true = le-leb (s.calls + 1) (min (s.calls + 1) (2 ^ 64 - 1)) (omega arith) in rw begun refl

    pub written_time : Elapses s.calls (min (s.calls + 1) (2 ^ 64 - 1)) (LeftSince s) (LeftSince (counted (with_write at v s))) (IsCrash (content (counted (with_write at v s))).candidates)
    written_time = elapse s.first s.writes (s.writes ++ record { call = s.calls + 1; block = at; value = v; flushed = None } ∷ []) s.calls fit.calls (λ k le.
        candidates_at-push k (alone s.first) s.writes (record { call = s.calls + 1; block = at; value = v; flushed = None })
        ∙ change_not_yet k (candidates_at k (alone s.first) s.writes) (record { call = s.calls + 1; block = at; value = v; flushed = None }) (omega arith))

  -- a flush that succeeds
  module _ (small : s.calls < 2 ^ 64 - 1) where
    same_number : min (s.calls + 1) (2 ^ 64 - 1) ≡ s.calls + 1
    same_number = omega arith

    flushed_past : All (IsPast (s.calls + 1) s.geometry.blocks s.geometry.block_size) (map (flush_change (s.calls + 1)) s.writes)
    flushed_past = All-map (IsPast (s.calls + 1) s.geometry.blocks s.geometry.block_size) (flush_change (s.calls + 1)) s.writes
        (All-weaker (IsPast s.calls s.geometry.blocks s.geometry.block_size) (λ w. IsPast (s.calls + 1) s.geometry.blocks s.geometry.block_size (flush_change (s.calls + 1) w))
        (flush_past s.calls (s.calls + 1) s.geometry.blocks s.geometry.block_size (omega arith)) s.writes fit.past)

    pub flushed_fit : IsFit (counted (with_flush s))
    flushed_fit = record { blocks = fit.blocks; sized = fit.sized; past = rw same_number flushed_past; calls = omega arith; stop = fit.stop; faults = fit.faults }

    pub flushed_content : Flushed (content s) (content (counted (with_flush s)))
    flushed_content = (
      latest-flushed (s.calls + 1) s.first s.writes,
      ap (λ k. candidates_at k (alone s.first) (map (flush_change (s.calls + 1)) s.writes)) same_number
          ∙ candidates_flushed s.calls (s.calls + 1) s.geometry.blocks s.geometry.block_size s.first s.writes fit.past (omega arith),
    )

    pub flushed_time : Elapses s.calls (min (s.calls + 1) (2 ^ 64 - 1)) (LeftSince s) (LeftSince (counted (with_flush s))) (IsCrash (content (counted (with_flush s))).candidates)
    flushed_time = elapse s.first s.writes (map (flush_change (s.calls + 1)) s.writes) s.calls fit.calls (λ k le. candidates_before k (s.calls + 1) (alone s.first) s.writes (omega arith))
