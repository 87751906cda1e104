-- The first fault of an image: there is one at most, and none where the image is sound.
use Rattle.std.proofs.Common.{ℕ, suc, ◌+◌, ◌<◌, ◌≤◌, ◌≡◌, ◌≢◌, ◌⊎◌, inl, inr, List, [], ◌∷◌, ◌++◌, length, take, drop, Some, arith, refl, sym, ap, ap₂, ◌∙◌, subst}
use Rattle.std.proofs.lemmas.List.{take-append-drop, length-take}
use native.Mathlib.Decide.{dec_lt}
use Rattle.std.proofs.lemmas.Bool.{cases_eq}
use Rattle.bow_units.specs.declared.sizes.Geometry.{Geometry}
use Rattle.bow_log.specs.declared.faults.LogFault.{LogFault}
use Rattle.bow_log.specs.declared.faults.LogFault.TheVariants.{NoMagic}
use Rattle.bow_log.specs.Generations.{Backup, Generation}
use Rattle.bow_log.specs.Faults.{fault_of}
use Rattle.bow_chain.specs.Contents.{Contents, run_of}
use Rattle.bow_chain.specs.Places.{pass, base}
use Rattle.bow_chain.specs.Sound.{sum_at, SumsHold, IsSound}
use Rattle.bow_chain.specs.Faults.{SpellsAt, PassTests, AreAbove, fields_fault, IsBehind, IsNoLog, IsBadLog, IsBadSequence, IsLastBadSum, IsBadSum, IsFaultBehind, IsFirstFault}
use Rattle.bow_chain.specs.declared.faults.ChainFault.{ChainFault}
use Rattle.bow_chain.specs.declared.faults.ChainFault.TheVariants.{NoLog, BadLog, BadSequence, BadSum, DiskFault, NoMemory}
use Rattle.bow_chain.proofs.Counting.{some_inj, sums_back}
use Rattle.bow_chain.proofs.Tested.{fault_at_0, not_both, tests_front, tests_back, same_tested, same_left, sound_passes}

-- ---- the last bad sum of a log

pub sums_or_bad : (image : Contents) (route : ℕ → ℕ) (bs : List Backup) → SumsHold image route bs ⊎ ((index found stated : ℕ) × IsLastBadSum image route bs index found stated)
sums_or_bad image route [] = inl tt
sums_or_bad image route (b ∷ bs) = on (sums_or_bad image route bs)
  where
    on : SumsHold image route bs ⊎ ((index found stated : ℕ) × IsLastBadSum image route bs index found stated) → SumsHold image route (b ∷ bs) ⊎ ((index found stated : ℕ) × IsLastBadSum image route (b ∷ bs) index found stated)
    on (inr bad) = inr (
      suc bad.0,
      bad.1,
      bad.2,
      record {
        before = b ∷ (bad.3).before;
        backup = (bad.3).backup;
        later = (bad.3).later;
        all = ap (λ xs. b ∷ xs) (bad.3).all;
        at_index = ap suc (bad.3).at_index;
        hold = (bad.3).hold;
        found_is = (bad.3).found_is;
        stated_is = (bad.3).stated_is;
        wrong = (bad.3).wrong;
      },
    )
    on (inl hold) = let sum = sum_at b.source (run_of (λ x. image (route (pass bs x))) b.dest b.count) in elim (cases_eq sum b.sum) [
      | inl same ↦ inl (same, hold)
      | inr other ↦ inr (0, sum, b.sum, record { before = []; backup = b; later = bs; all = refl; at_index = refl; hold = hold; found_is = refl; stated_is = refl; wrong = other })
    ]

pub bad_does_not_hold : (image : Contents) (route : ℕ → ℕ) (bs : List Backup) (index found stated : ℕ) → IsLastBadSum image route bs index found stated → SumsHold image route bs → ⊥
bad_does_not_hold image route bs index found stated bad hold =
    let here : SumsHold image route (bad.backup ∷ bad.later) = sums_back image route bad.before (bad.backup ∷ bad.later) (subst (SumsHold image route) bad.all hold) in
    bad.wrong (bad.found_is ∙ here.0 ∙ sym bad.stated_is)

-- of two cuts of one list at a backup whose sum does not hold, while the later ones do, both are the same
same_cut : (image : Contents) (route : ℕ → ℕ) (xs ys : List Backup) (b c : Backup) (bs cs : List Backup) → xs ++ b ∷ bs ≡ ys ++ c ∷ cs → SumsHold image route bs → SumsHold image route cs
    → sum_at b.source (run_of (λ x. image (route (pass bs x))) b.dest b.count) ≢ b.sum → sum_at c.source (run_of (λ x. image (route (pass cs x))) c.dest c.count) ≢ c.sum → (length xs ≡ length ys) × (b ≡ c) × (bs ≡ cs)
same_cut image route [] [] b c bs cs is hold_b hold_c wrong_b wrong_c = (refl, cc, cc)
same_cut image route [] (y ∷ ys) b c bs cs is hold_b hold_c wrong_b wrong_c =
    let rest : bs ≡ ys ++ c ∷ cs = cc in
    absurd (wrong_c (sums_back image route ys (c ∷ cs) (subst (SumsHold image route) rest hold_b)).0)
same_cut image route (x ∷ xs) [] b c bs cs is hold_b hold_c wrong_b wrong_c =
    let rest : cs ≡ xs ++ b ∷ bs = cc in
    absurd (wrong_b (sums_back image route xs (b ∷ bs) (subst (SumsHold image route) rest hold_c)).0)
same_cut image route (x ∷ xs) (y ∷ ys) b c bs cs is hold_b hold_c wrong_b wrong_c =
    let rest : xs ++ b ∷ bs ≡ ys ++ c ∷ cs = cc in
    let same = same_cut image route xs ys b c bs cs rest hold_b hold_c wrong_b wrong_c in
    (ap suc same.0, same.1, same.2)

pub one_bad : (image : Contents) (route : ℕ → ℕ) (bs : List Backup) (i f s j k t : ℕ) → IsLastBadSum image route bs i f s → IsLastBadSum image route bs j k t → (i ≡ j) × (f ≡ k) × (s ≡ t)
one_bad image route bs i f s j k t a b =
    let same = same_cut image route a.before b.before a.backup b.backup a.later b.later (sym a.all ∙ b.all) a.hold b.hold (λ e. a.wrong (a.found_is ∙ e ∙ sym a.stated_is)) (λ e. b.wrong (b.found_is ∙ e ∙ sym b.stated_is)) in (
      a.at_index ∙ same.0 ∙ sym b.at_index,
      a.found_is ∙ ap₂ (λ (e : Backup) (es : List Backup). sum_at e.source (run_of (λ x. image (route (pass es x))) e.dest e.count)) same.1 same.2 ∙ sym b.found_is,
      a.stated_is ∙ ap (λ (e : Backup). e.sum) same.1 ∙ sym b.stated_is,
    )

-- ---- faults behind the same logs

module _ (g : Geometry) (image : Contents) (above : List Generation) where
  same_log : (depth deeper : ℕ) (log other : Generation) → IsBehind g image above depth log → IsBehind g image above deeper other → log ≡ other
  same_log depth deeper log other a b = some_inj (sym (a.spelled).0 ∙ (b.spelled).0)

  no_log_there : (depth : ℕ) (log : Generation) → IsNoLog g image above → IsBehind g image above depth log → ⊥
  no_log_there depth log a b = go above a.none_above (b.at_depth ∙ a.none_above) b.spelled
    where
      go : (ls : List Generation) → length ls ≡ 0 → depth ≡ 0 → SpellsAt g depth (image (base ls 0)) log → ⊥
      go [] none at s = not_both g 0 (image 0) NoMagic log (fault_at_0 g (image 0) ∙ a.first) (subst (λ d. SpellsAt g d (image 0) log) at s)
      go (l ∷ ls) none at s = absurd (omega (arith, none))

  no_log_or : (left : ℕ) (fault : ChainFault) → IsNoLog g image above → IsFaultBehind g image above left fault → NoLog ≡ fault
  no_log_or left NoLog a b = refl
  no_log_or left (BadLog depth fault) a b =
      let at : depth ≡ 0 = b.at_depth ∙ a.none_above in
      let none : fields_fault g 0 (image (base above 0)) ≡ Some fault = subst (λ d. fields_fault g d (image (base above 0)) ≡ Some fault) at b.first in
      absurd (b.begins at (some_inj (sym none ∙ fault_at_0 g (image (base above 0)) ∙ ap (λ x. fault_of g (image x)) (base_of_none above a.none_above) ∙ a.first)))
    where
      base_of_none : (ls : List Generation) → length ls ≡ 0 → base ls 0 ≡ 0
      base_of_none [] none = refl
      base_of_none (l ∷ ls) none = absurd (omega (arith, none))
  no_log_or left (BadSequence depth found wanted) a b = absurd (no_log_there depth b.log a b.behind)
  no_log_or left (BadSum depth index found stated) a b = absurd (no_log_there depth b.log a b.behind)
  no_log_or left DiskFault a b = absurd b
  no_log_or left NoMemory a b = absurd b

  not_spelled : (depth deeper : ℕ) (fault : LogFault) (log : Generation) → IsBadLog g image above depth fault → IsBehind g image above deeper log → ⊥
  not_spelled depth deeper fault log a b = not_both g depth (image (base above 0)) fault log a.first (subst (λ d. SpellsAt g d (image (base above 0)) log) (b.at_depth ∙ sym a.at_depth) b.spelled)

  bad_log_or : (left depth : ℕ) (fault : LogFault) (other : ChainFault) → IsBadLog g image above depth fault → IsFaultBehind g image above left other → BadLog depth fault ≡ other
  bad_log_or left depth fault NoLog a b = sym (no_log_or left (BadLog depth fault) b a)
  bad_log_or left depth fault (BadLog deeper other) a b =
      let at : depth ≡ deeper = a.at_depth ∙ sym b.at_depth in
      ap₂ BadLog at (some_inj (sym a.first ∙ ap (λ d. fields_fault g d (image (base above 0))) at ∙ b.first))
  bad_log_or left depth fault (BadSequence deeper found wanted) a b = absurd (not_spelled depth deeper fault b.log a b.behind)
  bad_log_or left depth fault (BadSum deeper index found stated) a b = absurd (not_spelled depth deeper fault b.log a b.behind)
  bad_log_or left depth fault DiskFault a b = absurd b
  bad_log_or left depth fault NoMemory a b = absurd b

  sequence_or : (left depth found wanted : ℕ) (other : ChainFault) → IsBadSequence g image above left depth found wanted → IsFaultBehind g image above left other → BadSequence depth found wanted ≡ other
  sequence_or left depth found wanted NoLog a b = sym (no_log_or left (BadSequence depth found wanted) b a)
  sequence_or left depth found wanted (BadLog deeper fault) a b = sym (bad_log_or left deeper fault (BadSequence depth found wanted) b a)
  sequence_or left depth found wanted (BadSequence deeper other more) a b =
      let at : depth ≡ deeper = (a.behind).at_depth ∙ sym (b.behind).at_depth in
      let founds : found ≡ other = a.found_is ∙ ap (λ (l : Generation). l.sequence) (same_log depth deeper a.log b.log a.behind b.behind) ∙ sym b.found_is in
      let wants : wanted ≡ more = a.wanted_is ∙ sym b.wanted_is in
      cc
  sequence_or left depth found wanted (BadSum deeper index sum stated) a b =
      absurd (a.wrong (a.found_is ∙ ap (λ (l : Generation). l.sequence) (same_log depth deeper a.log b.log a.behind b.behind) ∙ b.sequence ∙ sym a.wanted_is))
  sequence_or left depth found wanted DiskFault a b = absurd b
  sequence_or left depth found wanted NoMemory a b = absurd b

  sum_or : (left depth index found stated : ℕ) (other : ChainFault) → IsBadSum g image above left depth index found stated → IsFaultBehind g image above left other → BadSum depth index found stated ≡ other
  sum_or left depth index found stated NoLog a b = sym (no_log_or left (BadSum depth index found stated) b a)
  sum_or left depth index found stated (BadLog deeper fault) a b = sym (bad_log_or left deeper fault (BadSum depth index found stated) b a)
  sum_or left depth index found stated (BadSequence deeper other more) a b = sym (sequence_or left deeper other more (BadSum depth index found stated) b a)
  sum_or left depth index found stated (BadSum deeper i f s) a b =
      let at : depth ≡ deeper = (a.behind).at_depth ∙ sym (b.behind).at_depth in
      let logs = same_log depth deeper a.log b.log a.behind b.behind in
      let same = one_bad image (base above) (b.log).entries index found stated i f s (subst (λ (l : Generation). IsLastBadSum image (base above) l.entries index found stated) logs a.sum) b.sum in
      let is_index : index ≡ i = same.0 in
      let is_found : found ≡ f = same.1 in
      let is_stated : stated ≡ s = same.2 in
      cc
  sum_or left depth index found stated DiskFault a b = absurd b
  sum_or left depth index found stated NoMemory a b = absurd b

  pub one_behind : (left : ℕ) (fault other : ChainFault) → IsFaultBehind g image above left fault → IsFaultBehind g image above left other → fault ≡ other
  one_behind left NoLog other a b = no_log_or left other a b
  one_behind left (BadLog depth fault) other a b = bad_log_or left depth fault other a b
  one_behind left (BadSequence depth found wanted) other a b = sequence_or left depth found wanted other a b
  one_behind left (BadSum depth index found stated) other a b = sum_or left depth index found stated other a b
  one_behind left DiskFault other a b = absurd a
  one_behind left NoMemory other a b = absurd a

  -- where no log is above, the logs to come tell nothing of a fault
  re_left : (m n : ℕ) (fault other : ChainFault) → length above ≡ 0 → IsFaultBehind g image above m fault → IsFaultBehind g image above n other → IsFaultBehind g image above n fault
  re_left m n NoLog other none a b = a
  re_left m n (BadLog depth fault) other none a b = a
  re_left m n (BadSequence depth found wanted) other none a b = absurd (omega (arith, (a.behind).at_depth, none, a.deeper))
  re_left m n (BadSum depth index found stated) other none a b = record { log = a.log; behind = a.behind; sequence = is other b; sum = a.sum }
    where
      is : (other : ChainFault) → IsFaultBehind g image above n other → (a.log).sequence ≡ n
      is NoLog b = absurd (no_log_there depth a.log b a.behind)
      is (BadLog deeper fault) b = absurd (not_spelled deeper depth fault a.log b a.behind)
      is (BadSequence deeper more wanted) b = absurd (omega (arith, (b.behind).at_depth, none, b.deeper))
      is (BadSum deeper i f s) b = ap (λ (l : Generation). l.sequence) (same_log depth deeper a.log b.log a.behind b.behind) ∙ b.sequence
      is DiskFault b = absurd b
      is NoMemory b = absurd b
  re_left m n DiskFault other none a b = absurd a
  re_left m n NoMemory other none a b = absurd a

  -- no log that passes the tests stands where there is a fault
  stops : (m k : ℕ) (fault : ChainFault) (log : Generation) (more : List Generation) → IsFaultBehind g image above m fault → (0 < length above → m ≡ length more + k) → PassTests g image (length above) (base above) (log ∷ more) k → ⊥
  stops m k NoLog log more a left p = no_log_there (length above) log a (record { at_depth = refl; spelled = p.0 })
  stops m k (BadLog depth fault) log more a left p = not_spelled depth (length above) fault log a (record { at_depth = refl; spelled = p.0 })
  stops m k (BadSequence depth found wanted) log more a left p =
      let same : (a.log).sequence ≡ log.sequence = ap (λ (l : Generation). l.sequence) (same_log depth (length above) a.log log a.behind (record { at_depth = refl; spelled = p.0 })) in
      let is = left (omega (arith, (a.behind).at_depth, a.deeper)) in
      a.wrong (omega (arith, a.found_is, same, p.1, is, a.wanted_is))
  stops m k (BadSum depth index found stated) log more a left p =
      bad_does_not_hold image (base above) log.entries index found stated
      (subst (λ (l : Generation). IsLastBadSum image (base above) l.entries index found stated) (same_log depth (length above) a.log log a.behind (record { at_depth = refl; spelled = p.0 })) a.sum) p.2
  stops m k DiskFault log more a left p = absurd a
  stops m k NoMemory log more a left p = absurd a

-- ---- faults of one image

module _ (g : Geometry) (image : Contents) where
  -- the logs of the first of two lists stand at the front of the longer one
  record Front (short long : List Generation) (k : ℕ) : Type 0 where
    rest : List Generation
    same : long ≡ short ++ rest
    left : AreAbove g image short (length rest + k)

  front : (short long : List Generation) (m k : ℕ) → AreAbove g image short m → AreAbove g image long k → length short ≤ length long → Front short long k
  front short long m k p q few =
      let n = length short in
      let whole = sym (take-append-drop n long) in
      let first : AreAbove g image (take n long) (length (drop n long) + k) = tests_front g image 0 (λ x. x) (take n long) (drop n long) k (subst (λ ls. AreAbove g image ls k) whole q) in
      let size : length short ≡ length (take n long) = omega (arith, length-take n long, few) in
      let same : short ≡ take n long = same_tested g image 0 (λ x. x) short (take n long) m (length (drop n long) + k) size p first in
      record { rest = drop n long; same = whole ∙ ap (λ ls. ls ++ drop n long) (sym same); left = subst (λ ls. AreAbove g image ls (length (drop n long) + k)) (sym same) first }

  -- a fault ends the logs that pass the tests
  pub ends : (fault : ChainFault) (short long : List Generation) (m k : ℕ) → IsFaultBehind g image short m fault → AreAbove g image short (suc m) → AreAbove g image long k → length short < length long → ⊥
  ends fault short long m k a p q few =
      let f = front short long (suc m) k p q (omega arith) in
      go f.rest f.same f.left
    where
      go : (rest : List Generation) → long ≡ short ++ rest → AreAbove g image short (length rest + k) → ⊥
      go [] same left = let size : length long ≡ length (short ++ []) = ap length same in absurd (omega (arith, size, few, long_nil short))
        where
          long_nil : (ls : List Generation) → length (ls ++ []) ≡ length ls
          long_nil [] = refl
          long_nil (l ∷ ls) = ap suc (long_nil ls)
      go (log ∷ more) same left =
          stops g image short m k fault log more a (λ some. let is = same_left g image 0 (λ x. x) short (suc m) (suc (length more) + k) some p left in omega (arith, is))
          (tests_back g image 0 (length short) (λ x. x) short (log ∷ more) k (omega arith) (subst (λ ls. AreAbove g image ls k) same q))

  pub faulty_is_not_sound : (fault : ChainFault) (log : Generation) (older : List Generation) → IsFirstFault g image fault → IsSound g image log older → ⊥
  faulty_is_not_sound fault log older f s =
      let q = sound_passes g image log older s in
      elim (dec_lt (length f.above) (length (log ∷ older))) [
        | yes few ↦ ends fault f.above (log ∷ older) f.left 0 f.here f.tested q few
        | no many ↦
            let h = front (log ∷ older) f.above 0 (suc f.left) q f.tested (omega (arith, many)) in
            let is = same_left g image 0 (λ x. x) (log ∷ older) 0 (length h.rest + suc f.left) (omega arith) q h.left in
            omega (arith, is)
      ]

  pub one_fault : (fault other : ChainFault) → IsFirstFault g image fault → IsFirstFault g image other → fault ≡ other
  one_fault fault other a b = elim (dec_lt (length a.above) (length b.above)) [
    | yes few ↦ absurd (ends fault a.above b.above a.left (suc b.left) a.here a.tested b.tested few)
    | no many ↦ elim (dec_lt (length b.above) (length a.above)) [
      | yes few ↦ absurd (ends other b.above a.above b.left (suc a.left) b.here b.tested a.tested few)
      | no few ↦
          let same : a.above ≡ b.above = same_tested g image 0 (λ x. x) a.above b.above (suc a.left) (suc b.left) (omega (arith, many, few)) a.tested b.tested in
          let tested = subst (λ ls. AreAbove g image ls (suc a.left)) same a.tested in
          let here = subst (λ ls. IsFaultBehind g image ls a.left fault) same a.here in
          elim (dec_lt 0 (length b.above)) [
            | yes some ↦
                let is = same_left g image 0 (λ x. x) b.above (suc a.left) (suc b.left) some tested b.tested in
                let left : a.left ≡ b.left = omega (arith, is) in
                one_behind g image b.above b.left fault other (subst (λ n. IsFaultBehind g image b.above n fault) left here) b.here
            | no none ↦ one_behind g image b.above b.left fault other (re_left g image b.above a.left b.left fault other (omega (arith, none)) here b.here) b.here
          ]
    ]
  ]
