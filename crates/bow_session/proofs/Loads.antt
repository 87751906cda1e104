-- A script, taken in section by section and lane by lane.
use Rattle.std.proofs.Common.{◌≡◌, ℕ, zero, suc, ◌+◌, ◌-◌, ◌*◌, ◌/◌, ◌<◌, ◌≤◌, ◌^◌, ◌++◌, nat_lt, Bool, true, false, cond, List, [], ◌∷◌, length, take, Option, Some, None, arith, refl, sym, ap, ◌∙◌, subst, length-append}
use Rattle.std.specs.Prelude.{slice_get, nat_le, replicate}
use Rattle.std.specs.List.{All, sum_by, AllByRecursion}
use Rattle.std.specs.Option.{option_map}
use Rattle.std.proofs.lemmas.Bool.{lt-ltb, ltb-true}
use Rattle.std.proofs.lemmas.Option.{slice_get_within, slice_get_past}
use Rattle.std.proofs.lemmas.List.{length-replicate}
use Rattle.std.proofs.lemmas.List.Elements.{All-from_recursion, recursion_from_All}
use Rattle.std.proofs.lemmas.List.Sums.{sum_by-cons, sum_by-append}
use Rattle.bow_units.specs.declared.sizes.Geometry.{Geometry}
use Rattle.bow_script.specs.declared.scripts.Line.{Line}
use Rattle.bow_script.specs.declared.scripts.Line.TheVariants as lines
use Rattle.bow_units.specs.Pattern.{pattern}
use Rattle.bow_units.specs.Sizes.{IsBlockSize, IsValid}
use Rattle.bow_units.proofs.PatternGroups.{has_groups, length_groups}
use Rattle.bow_script.specs.Grammar.{IsFitting}
use Rattle.bow_script.specs.Scripts.{concat, requests_of, blocks_of, IsWithinLimits, IsWellFormed}
use Rattle.bow_machine.specs.Steps.{extent_of}
use Rattle.bow_history.specs.Journal.{Plan}
use Rattle.bow_history.specs.Ends.{items_of, items_from, over_lanes}
use Rattle.bow_session.specs.declared.seats.Asked.{Asked}
use Rattle.bow_session.specs.Loading.{line_items, lane_items, AreFirst, AreThere}
use Rattle.bow_session.specs.Buffers.{IsAskable, IsKeptFor}
use Rattle.bow_session.specs.Requests.{patterns, written, request_of, section_lines, lane_lines, section_of, lanes_of, plan_of, requests_in}
use Rattle.bow_session.specs.Seats.{IsNext, AreNext}

-- ----------------------------------------------------------------------------------------------------------------
-- Elements of lists.

pub get_left : {X : Type 0} (xs ys : List X) (i : ℕ) (x : X) → slice_get xs i ≡ Some x → slice_get (xs ++ ys) i ≡ Some x
get_left [] ys i x here = absurd (grind (arith, here))
get_left (y ∷ xs) ys zero x here = here
get_left (y ∷ xs) ys (suc i) x here = get_left xs ys i x here

pub get_right : {X : Type 0} (xs ys : List X) (i : ℕ) → slice_get (xs ++ ys) (length xs + i) ≡ slice_get ys i
get_right [] ys i = let e : 0 + i ≡ i = omega arith in ap (slice_get ys) e
get_right {X} (y ∷ xs) ys i =
    let e : length {A = X} (y ∷ xs) + i ≡ suc (length xs + i) = omega arith in
    ap (slice_get ((y ∷ xs) ++ ys)) e ∙ get_right xs ys i

-- an element of a list with one more at the end is one of the list, or that one
pub pushed : {X : Type 0} (P : ℕ → X → Type 0) (xs : List X) (last : X) → ((i : ℕ) (x : X) → slice_get xs i ≡ Some x → P i x) → P (length xs) last
    → (i : ℕ) (x : X) → slice_get (xs ++ last ∷ []) i ≡ Some x → P i x
pushed P [] last each is zero x here = let same : last ≡ x = cc here in subst (P 0) same is
pushed P [] last each is (suc i) x here = absurd (grind (arith, here))
pushed P (y ∷ xs) last each is zero x here = each 0 x here
pushed P (y ∷ xs) last each is (suc i) x here = pushed (λ n z. P (suc n) z) xs last (λ n z at. each (suc n) z at) is i x here

-- ----------------------------------------------------------------------------------------------------------------
-- Where the lines of a section stand in their lane.

pub there : (script : List (List (List Line))) (lane k : ℕ) (section : List (List Line)) → slice_get script k ≡ Some section
    → AreThere script lane (length (lane_lines (take k script) lane)) k (section_lines section lane)
there [] lane k section at i line here = absurd (grind (arith, at))
there (s ∷ ss) lane zero section at i line here =
    let same : s ≡ section = cc at in
    let found : slice_get (section_lines s lane) i ≡ Some line = subst (λ (x : List (List Line)). slice_get (section_lines x lane) i ≡ Some line) (sym same) here in
    let e : 0 + i ≡ i = omega arith in (
      ap (slice_get (section_lines s lane ++ lane_lines ss lane)) e ∙ get_left (section_lines s lane) (lane_lines ss lane) i line found,
      ap (section_of (s ∷ ss) lane) e ∙ ap (λ (t : Bool). cond t 0 (suc (section_of ss lane (i - length (section_lines s lane))))) (lt-ltb i (length (section_lines s lane)) (slice_get_within (section_lines s lane) i line found)),
    )
there (s ∷ ss) lane (suc k) section at i line here =
    let rest = there ss lane k section at i line here in
    let whole : length (section_lines s lane ++ lane_lines (take k ss) lane) + i ≡ length (section_lines s lane) + (length (lane_lines (take k ss) lane) + i) =
    (let e = length-append (section_lines s lane) (lane_lines (take k ss) lane) in omega (arith, e)) in (
      ap (slice_get (section_lines s lane ++ lane_lines ss lane)) whole ∙ get_right (section_lines s lane) (lane_lines ss lane) (length (lane_lines (take k ss) lane) + i) ∙ rest.0,
      ap (section_of (s ∷ ss) lane) whole ∙ behind (length (section_lines s lane)) (length (lane_lines (take k ss) lane) + i) (section_of ss lane) ∙ ap suc rest.1,
    )
  where
    behind : (n i : ℕ) (f : ℕ → ℕ) → cond (nat_lt (n + i) n) 0 (suc (f (n + i - n))) ≡ suc (f i)
    behind n i f = by (nat_lt (n + i) n) refl
      where
        by : (t : Bool) → nat_lt (n + i) n ≡ t → cond t 0 (suc (f (n + i - n))) ≡ suc (f i)
        by true is = absurd (let low = ltb-true (n + i) n is in omega (arith, low))
        by false is = let e : n + i - n ≡ i = omega arith in ap (λ z. suc (f z)) e

-- the lines of one more section
pub one_more : (script : List (List (List Line))) (lane k : ℕ) (section : List (List Line)) → slice_get script k ≡ Some section
    → lane_lines (take (suc k) script) lane ≡ lane_lines (take k script) lane ++ section_lines section lane
one_more [] lane k section at = absurd (grind (arith, at))
one_more (s ∷ ss) lane zero section at = let same : s ≡ section = cc at in alone (section_lines s lane) ∙ ap (λ (x : List (List Line)). section_lines x lane) same
  where
    alone : (xs : List Line) → xs ++ [] ≡ xs
    alone [] = refl
    alone (x ∷ xs) = ap (λ l. x ∷ l) (alone xs)
one_more (s ∷ ss) lane (suc k) section at =
    ap (λ l. section_lines s lane ++ l) (one_more ss lane k section at) ∙ assoc (section_lines s lane) (lane_lines (take k ss) lane) (section_lines section lane)
  where
    assoc : (xs ys zs : List Line) → xs ++ (ys ++ zs) ≡ (xs ++ ys) ++ zs
    assoc [] ys zs = refl
    assoc (x ∷ xs) ys zs = ap (λ l. x ∷ l) (assoc xs ys zs)

-- ----------------------------------------------------------------------------------------------------------------
-- The requests of a lane.

-- the numbers of bytes that a write has
length_pattern : (b s size : ℕ) → IsBlockSize size → length (pattern b s size) ≡ size
unfolding pattern
length_pattern b s size is = length_groups b s (size / 8) ∙ (has_groups size is).whole

length_patterns : (size first count seed : ℕ) → IsBlockSize size → length (patterns size first count seed) ≡ count * size
length_patterns size first zero seed is = omega arith
length_patterns size first (suc count) seed is =
    let one = length_pattern first seed size is in
    let rest = length_patterns size (suc first) count seed is in
    length-append (pattern first seed size) (patterns size (suc first) count seed) ∙ omega (arith, one, rest)

length_written : (size first count seed : ℕ) → IsBlockSize size → length (written size first count seed) ≡ count * size
length_written size first count seed is = by (nat_le (first + count) 1048576)
  where
    by : (t : Bool) → length (cond t (patterns size first count seed) (replicate (count * size) 0)) ≡ count * size
    by true = length_patterns size first count seed is
    by false = length-replicate {A = ℕ} (count * size) 0

large : (size : ℕ) → IsBlockSize size → 512 ≤ size
large size is = grind (arith, is)

-- the device takes in what a line asks for
pub askable : (g : Geometry) (line : Line) → IsValid g → IsFitting line → IsAskable g (request_of g.block_size line)
askable g (lines.Write first count seed) valid fits = record { some = omega (arith, fits.1); few = fits.2; whole = length_written g.block_size first count seed valid.size }
askable g (lines.WriteHex first bytes) valid fits = record {
  some = omega arith;
  few = omega arith;
  whole = length-append bytes (replicate (g.block_size - length bytes) 0) ∙ (let zeros = length-replicate {A = ℕ} (g.block_size - length bytes) 0 in let size = large g.block_size valid.size in omega (arith, zeros, size, fits.2));
}
askable g (lines.Read first count) valid fits = (omega (arith, fits.1), fits.2)
askable g (lines.Discard first count) valid fits = tt
askable g lines.Flush valid fits = tt
askable g lines.Prepare valid fits = tt
askable g lines.Commit valid fits = tt

low : (size : ℕ) (line : Line) → IsFitting line → (extent_of (request_of size line)).first < 2 ^ 32
low size (lines.Write first count seed) fits = fits.0
low size (lines.WriteHex first bytes) fits = fits.0
low size (lines.Read first count) fits = fits.0
low size (lines.Discard first count) fits = fits.0
low size lines.Flush fits = omega arith
low size lines.Prepare fits = omega arith
low size lines.Commit fits = omega arith

-- one request more
pub next_is : (g : Geometry) (script : List (List (List Line))) (lane n section : ℕ) (line : Line) (a : Asked)
    → (slice_get (lane_lines script lane) n ≡ Some line) × (section_of script lane n ≡ section)
    → IsKeptFor g (request_of g.block_size line) a.buffer → IsValid g → IsFitting line → a.section ≡ section → IsNext (plan_of g script) lane n a
next_is g script lane n section line a at buffer valid fits same = record {
  asked = request_of g.block_size line;
  next = ap (option_map (request_of g.block_size)) at.0;
  buffer = buffer;
  askable = askable g line valid fits;
  section = same ∙ sym at.1;
  low = low g.block_size line fits;
}

-- a lane's first requests are the next ones, where there is none behind them
pub are_next : (plan : Plan) (lane n : ℕ) (pending : List Asked) → ((i : ℕ) (a : Asked) → slice_get pending i ≡ Some a → IsNext plan lane (n + i) a) → plan.request lane (n + length pending) ≡ None → AreNext plan lane n pending
are_next plan lane n [] each none = let e : n + 0 ≡ n = omega arith in subst (λ k. plan.request lane k ≡ None) e none
are_next plan lane n (a ∷ pending) each none =
    let e : n + 0 ≡ n = omega arith in
    let last : n + suc (length pending) ≡ suc n + length pending = omega arith in (
      subst (λ k. IsNext plan lane k a) e (each 0 a refl),
      are_next plan lane (suc n) pending (λ i x here. let f : n + suc i ≡ suc n + i = omega arith in subst (λ k. IsNext plan lane k x) f (each (suc i) x here)) (subst (λ k. plan.request lane k ≡ None) last none),
    )

pub no_next : (g : Geometry) (script : List (List (List Line))) (lane n : ℕ) → n ≡ requests_in script lane → (plan_of g script).request lane n ≡ None
no_next g script lane n is = ap (option_map (request_of g.block_size)) (slice_get_past (lane_lines script lane) n (omega (arith, is)))

-- ----------------------------------------------------------------------------------------------------------------
-- Numbers that fit.

left_of : {X : Type 0} (P : X → Type 0) (xs ys : List X) → AllByRecursion P (xs ++ ys) → AllByRecursion P xs
left_of P [] ys all = tt
left_of P (x ∷ xs) ys all = (all.0, left_of P xs ys all.1)

right_of : {X : Type 0} (P : X → Type 0) (xs ys : List X) → AllByRecursion P (xs ++ ys) → AllByRecursion P ys
right_of P [] ys all = all
right_of P (x ∷ xs) ys all = right_of P xs ys all.1

lane_fits : (section : List (List Line)) (lane : ℕ) → AllByRecursion IsFitting (concat section) → AllByRecursion IsFitting (section_lines section lane)
lane_fits [] lane all = tt
lane_fits (x ∷ xs) zero all = left_of IsFitting x (concat xs) all
lane_fits (x ∷ xs) (suc lane) all = lane_fits xs lane (right_of IsFitting x (concat xs) all)

section_fits : (script : List (List (List Line))) (lane k : ℕ) (section : List (List Line)) → slice_get script k ≡ Some section → AllByRecursion IsFitting (requests_of script) → AllByRecursion IsFitting (section_lines section lane)
section_fits [] lane k section at all = absurd (grind (arith, at))
section_fits (s ∷ ss) lane zero section at all = let same : s ≡ section = cc at in subst (λ (x : List (List Line)). AllByRecursion IsFitting (section_lines x lane)) same (lane_fits s lane (left_of IsFitting (concat s) (requests_of ss) all))
section_fits (s ∷ ss) lane (suc k) section at all = section_fits ss lane k section at (right_of IsFitting (concat s) (requests_of ss) all)

pub all_fit : (script : List (List (List Line))) (lane k : ℕ) (section : List (List Line)) → IsWellFormed script → slice_get script k ≡ Some section → All IsFitting (section_lines section lane)
all_fit script lane k section well at = All-from_recursion IsFitting (section_lines section lane) (section_fits script lane k section at (recursion_from_All IsFitting (requests_of script) well))

both_fit : (xs ys : List Line) → AllByRecursion IsFitting xs → AllByRecursion IsFitting ys → AllByRecursion IsFitting (xs ++ ys)
both_fit [] ys one other = other
both_fit (x ∷ xs) ys one other = (one.0, both_fit xs ys one.1 other)

whole_lane_fits : (script : List (List (List Line))) (lane : ℕ) → AllByRecursion IsFitting (requests_of script) → AllByRecursion IsFitting (lane_lines script lane)
whole_lane_fits [] lane all = tt
whole_lane_fits (s ∷ ss) lane all = both_fit (section_lines s lane) (lane_lines ss lane) (lane_fits s lane (left_of IsFitting (concat s) (requests_of ss) all)) (whole_lane_fits ss lane (right_of IsFitting (concat s) (requests_of ss) all))

one_fits : (xs : List Line) (n : ℕ) (line : Line) → AllByRecursion IsFitting xs → slice_get xs n ≡ Some line → IsFitting line
one_fits [] n line all here = absurd (grind (arith, here))
one_fits (x ∷ xs) zero line all here = let same : x ≡ line = cc here in subst IsFitting same all.0
one_fits (x ∷ xs) (suc n) line all here = one_fits xs n line all.1 here

-- each line of a lane
pub line_fits : (script : List (List (List Line))) (lane n : ℕ) (line : Line) → IsWellFormed script → slice_get (lane_lines script lane) n ≡ Some line → IsFitting line
line_fits script lane n line well here = one_fits (lane_lines script lane) n line (whole_lane_fits script lane (recursion_from_All IsFitting (requests_of script) well)) here

-- ----------------------------------------------------------------------------------------------------------------
-- How many.

part_of_section : (f : Line → ℕ) (section : List (List Line)) (lane : ℕ) → sum_by f (section_lines section lane) ≤ sum_by f (concat section)
part_of_section f [] lane = omega arith
part_of_section f (x ∷ xs) zero = let e = sum_by-append f x (concat xs) in omega (arith, e)
part_of_section f (x ∷ xs) (suc lane) = let e = sum_by-append f x (concat xs) in let rest = part_of_section f xs lane in omega (arith, e, rest)

part_of : (f : Line → ℕ) (script : List (List (List Line))) (lane : ℕ) → sum_by f (lane_lines script lane) ≤ sum_by f (requests_of script)
part_of f [] lane = omega arith
part_of f (s ∷ ss) lane =
    let a = sum_by-append f (section_lines s lane) (lane_lines ss lane) in
    let b = sum_by-append f (concat s) (requests_of ss) in
    let one = part_of_section f s lane in
    let rest = part_of f ss lane in
    omega (arith, a, b, one, rest)

items_are : (xs : List Line) → sum_by line_items xs ≡ sum_by blocks_of xs + length xs
items_are [] = refl
items_are (x ∷ xs) =
    let a = sum_by-cons line_items x xs in
    let b = sum_by-cons blocks_of x xs in
    let rest = items_are xs in
    omega (arith, a, b, rest)

abbrev ones : Line → ℕ
ones line = 1

count_is : (xs : List Line) → sum_by ones xs ≡ length xs
count_is [] = refl
count_is (x ∷ xs) = let a = sum_by-cons ones x xs in let rest = count_is xs in let one : ones x ≡ 1 = refl in omega (arith, a, rest, one)

pub few_requests : (script : List (List (List Line))) → IsWithinLimits script → (lane : ℕ) → requests_in script lane ≤ 65536
few_requests script k lane =
    let part = part_of ones script lane in
    let a = count_is (lane_lines script lane) in
    let b = count_is (requests_of script) in
    omega (arith, part, a, b, k.requests)

pub few_items : (script : List (List (List Line))) → IsWithinLimits script → (lane : ℕ) → lane_items script lane ≤ 131072
few_items script k lane =
    let part = part_of line_items script lane in
    let e = items_are (requests_of script) in
    omega (arith, part, e, k.requests, k.blocks)

pub few_lanes : (script : List (List (List Line))) → IsWithinLimits script → lanes_of script ≤ 16
few_lanes script k = by script (recursion_from_All (λ (section : List (List Line)). length section ≤ 16) script k.lanes)
  where
    by : (script : List (List (List Line))) → AllByRecursion (λ (section : List (List Line)). length section ≤ 16) script → lanes_of script ≤ 16
    by [] all = omega arith
    by (s ∷ ss) all = let rest = by ss all.1 in omega (arith, rest, all.0)

-- the items of one more section
pub more_items : (script : List (List (List Line))) (lane k : ℕ) (section : List (List Line)) → slice_get script k ≡ Some section
    → sum_by line_items (lane_lines (take (suc k) script) lane) ≡ sum_by line_items (lane_lines (take k script) lane) + sum_by line_items (section_lines section lane)
more_items script lane k section at = ap (sum_by line_items) (one_more script lane k section at) ∙ sum_by-append line_items (lane_lines (take k script) lane) (section_lines section lane)

pub part_below : (script : List (List (List Line))) (lane k : ℕ) → sum_by line_items (lane_lines (take k script) lane) ≤ sum_by line_items (lane_lines script lane)
part_below [] lane zero = omega arith
part_below [] lane (suc k) = omega arith
part_below (s ∷ ss) lane zero = omega arith
part_below (s ∷ ss) lane (suc k) =
    let a = sum_by-append line_items (section_lines s lane) (lane_lines ss lane) in
    let b = sum_by-append line_items (section_lines s lane) (lane_lines (take k ss) lane) in
    let rest = part_below ss lane k in
    omega (arith, a, b, rest)

pub lanes_below : (f : ℕ → ℕ) (n : ℕ) → ((lane : ℕ) → f lane ≤ 131072) → over_lanes f n ≤ n * 131072
lanes_below f zero few = omega arith
lanes_below f (suc n) few = let rest = lanes_below f n few in let one = few n in omega (arith, rest, one)

-- ----------------------------------------------------------------------------------------------------------------
-- The items that may come of a lane's requests.

items_of_line : (size : ℕ) (line : Line) → items_of (Some (request_of size line)) ≡ line_items line
items_of_line size (lines.Write first count seed) = refl
items_of_line size (lines.WriteHex first bytes) = refl
items_of_line size (lines.Read first count) = refl
items_of_line size (lines.Discard first count) = refl
items_of_line size lines.Flush = refl
items_of_line size lines.Prepare = refl
items_of_line size lines.Commit = refl

from_lines : (g : Geometry) (script : List (List (List Line))) (lane n : ℕ) (rest : List Line) → ((i : ℕ) → slice_get rest i ≡ slice_get (lane_lines script lane) (n + i)) → items_from (plan_of g script) lane n (length rest) ≡ sum_by line_items rest
from_lines g script lane n [] each = refl
from_lines g script lane n (line ∷ rest) each =
    let first : slice_get (lane_lines script lane) n ≡ Some line = (let e : n + 0 ≡ n = omega arith in sym (each 0 ∙ ap (slice_get (lane_lines script lane)) e)) in
    let one : items_of ((plan_of g script).request lane n) ≡ line_items line = ap (λ (o : Option Line). items_of (option_map (request_of g.block_size) o)) first ∙ items_of_line g.block_size line in
    let more = from_lines g script lane (suc n) rest (λ i. let e : n + suc i ≡ suc n + i = omega arith in each (suc i) ∙ ap (slice_get (lane_lines script lane)) e) in
    let sum = sum_by-cons line_items line rest in
    omega (arith, one, more, sum)

pub items_of_all : (g : Geometry) (script : List (List (List Line))) (lane : ℕ) → items_from (plan_of g script) lane 0 (requests_in script lane) ≡ lane_items script lane
items_of_all g script lane = from_lines g script lane 0 (lane_lines script lane) (λ i. let e : i ≡ 0 + i = omega arith in ap (slice_get (lane_lines script lane)) e)

-- what comes of the first sections, and of one more
pub few_with : (script items : List (List (List Line))) (lane k : ℕ) (section : List (List Line)) → items ≡ script → IsWithinLimits script → slice_get items k ≡ Some section
    → sum_by line_items (lane_lines (take k items) lane) + sum_by line_items (section_lines section lane) ≤ 131072
few_with script items lane k section same limits at =
    let more = more_items items lane k section at in
    let below = part_below items lane (suc k) in
    let all : lane_items items lane ≡ lane_items script lane = ap (λ s. lane_items s lane) same in
    let few = few_items script limits lane in
    omega (arith, more, below, all, few)

-- the whole of a list, once no element is left
pub taken_all : {X : Type 0} (xs : List X) (k : ℕ) → length xs ≤ k → take k xs ≡ xs
taken_all [] zero past = refl
taken_all [] (suc k) past = refl
taken_all (x ∷ xs) zero past = absurd (omega (arith, past))
taken_all (x ∷ xs) (suc k) past = ap (λ l. x ∷ l) (taken_all xs k (omega (arith, past)))

-- ----------------------------------------------------------------------------------------------------------------
-- A lane, line by line and section by section.

pub first_on : (g : Geometry) (script : List (List (List Line))) (lane section k : ℕ) (old pending new : List Asked) (lines : List Line) (line : Line) (a : Asked)
    → length pending ≡ length old + k → new ≡ pending ++ a ∷ [] → slice_get lines k ≡ Some line
    → IsKeptFor g (request_of g.block_size line) a.buffer → IsValid g → IsFitting line → a.section ≡ section
    → AreThere script lane (length old) section lines → AreFirst (plan_of g script) lane pending → AreFirst (plan_of g script) lane new
first_on g script lane section k old pending new lines line a long more here buffer valid fits same at first =
    let place = subst (λ n. (slice_get (lane_lines script lane) n ≡ Some line) × (section_of script lane n ≡ section)) (sym long) (at k line here) in
    subst (λ l. AreFirst (plan_of g script) lane l) (sym more)
    (pushed (λ n x. IsNext (plan_of g script) lane n x) pending a first (next_is g script lane (length pending) section line a place buffer valid fits same))

pub long_on : (k : ℕ) (old pending new : List Asked) (a : Asked) → length pending ≡ length old + k → new ≡ pending ++ a ∷ [] → length new ≡ length old + (k + 1)
long_on k old pending new a long more = let e = ap (λ (l : List Asked). length l) more in let f = length-append pending (a ∷ []) in omega (arith, long, e, f)

pub section_on : (g : Geometry) (items : List (List (List Line))) (lane k number : ℕ) (section : List (List Line)) (old new : List Asked) (lines : List Line)
    → slice_get items k ≡ Some section → number ≡ k → length old ≡ length (lane_lines (take k items) lane) → lines ≡ section_lines section lane → length new ≡ length old + length lines
    → ((script : List (List (List Line))) (lane : ℕ) → AreThere script lane (length old) number lines → AreFirst (plan_of g script) lane old → AreFirst (plan_of g script) lane new)
    → AreFirst (plan_of g items) lane old
    → (length new ≡ length (lane_lines (take (k + 1) items) lane)) × AreFirst (plan_of g items) lane new
section_on g items lane k number section old new lines here is long same count next first =
    let more = ap (λ (l : List Line). length l) (one_more items lane k section here) in
    let sum = length-append (lane_lines (take k items) lane) (section_lines section lane) in
    let len = ap (λ (l : List Line). length l) same in
    let plus : suc k ≡ k + 1 = omega arith in
    let whole : length new ≡ length (lane_lines (take (suc k) items) lane) = omega (arith, more, sum, len, long, count) in
    let a = there items lane k section here in
    let b = subst (λ n. AreThere items lane n k (section_lines section lane)) (sym long) a in
    let c = subst (λ n. AreThere items lane (length old) n (section_lines section lane)) (sym is) b in
    let d = subst (λ (l : List Line). AreThere items lane (length old) number l) (sym same) c in
    (whole ∙ ap (λ n. length (lane_lines (take n items) lane)) plus, next items lane d first)

pub lane_whole : (g : Geometry) (script items : List (List (List Line))) (lane k : ℕ) (pending : List Asked) → items ≡ script → length items ≤ k
    → length pending ≡ length (lane_lines (take k items) lane) → AreFirst (plan_of g items) lane pending
    → AreNext (plan_of g script) lane 0 pending × (length pending ≡ requests_in script lane)
lane_whole g script items lane k pending same past long first =
    let all : length pending ≡ requests_in script lane = long ∙ ap (λ s. length (lane_lines s lane)) (taken_all items k past ∙ same) in
    let firsts = subst (λ s. AreFirst (plan_of g s) lane pending) same first in
    let end : 0 + length pending ≡ requests_in script lane = omega (arith, all) in
    (are_next (plan_of g script) lane 0 pending (λ i a here. let e : i ≡ 0 + i = omega arith in subst (λ n. IsNext (plan_of g script) lane n a) e (firsts i a here)) (no_next g script lane (0 + length pending) end), all)
