-- What the script of a drill asks of a device.
use Rattle.std.proofs.Common.{◌≡◌, ℕ, zero, suc, ◌+◌, ◌-◌, ◌*◌, ◌%◌, ◌<◌, ◌≤◌, ◌==◌, ◌&&◌, nat_le, nat_lt, Bool, true, false, if◌then◌else◌, List, [], ◌∷◌, ◌++◌, length, map, Option, None, Some, arith, refl, sym, ap, ◌∙◌, subst}
use Rattle.std.specs.Prelude.{slice_get, slice_index_or}
use Rattle.std.specs.List.{AllByRecursion as Each, range_with_len}
use Rattle.std.specs.Option.{option_map}
use Rattle.bow_units.specs.declared.requests.Op.{Op}
use Rattle.bow_units.specs.declared.requests.Op.TheVariants as ops
use Rattle.bow_units.specs.declared.sizes.Extent.{Extent}
use Rattle.bow_units.specs.declared.sizes.Geometry.{Geometry}
use Rattle.bow_units.specs.Draws.{drawn_value, next_number}
use Rattle.bow_units.specs.Sizes.{IsInside}
use Rattle.bow_flat.specs.Flat.{after as after_event, count_below, discards, opening}
use Rattle.bow_flat.specs.Flat.Event.{Discards}
use Rattle.bow_script.specs.declared.scripts.Line.{Line}
use Rattle.bow_script.specs.declared.scripts.Line.TheVariants as lines
use Rattle.bow_script.specs.Drills.{after, drawn, drawn_lane, drawn_request, drawn_section, drill_script_of, request_of as request_drawn, used_blocks}
use Rattle.bow_session.specs.Requests.{lane_lines, plan_of, request_of, requests, section_lines, section_of}
use Rattle.bow_tool.proofs.Opened.{IsDrillPlan, two_there}

-- ----------------------------------------------------------------------------------------------------------------
-- No line commits.

abbrev Stays : Line → Type 0
Stays lines.Commit = ⊥
Stays line = Unit {0}

each_append : (xs ys : List Line) → Each Stays xs → Each Stays ys → Each Stays (xs ++ ys)
each_append [] ys front back = back
each_append (x ∷ xs) ys front back = (front.0, each_append xs ys front.1 back)

each_map : {A : Type 0} (f : A → Line) (xs : List A) → ((x : A) → Stays (f x)) → Each Stays (map f xs)
each_map f [] all = tt
each_map f (x ∷ xs) all = (all x, each_map f xs all)

each_lane : {A : Type 0} (f : A → List Line) (xs : List A) (lane : ℕ) → ((x : A) → Each Stays (f x)) → Each Stays (slice_index_or (map f xs) lane [])
each_lane f [] lane all = tt
each_lane f (x ∷ xs) zero all = all x
each_lane f (x ∷ xs) (suc lane) all = each_lane f xs lane all

either : (t : Bool) (a b : Line) → Stays a → Stays b → Stays (if t then a else b)
either true a b one other = one
either false a b one other = other

request_stays : (kind first count seed : ℕ) → Stays (request_drawn kind first count seed)
request_stays kind first count seed =
    either (nat_lt kind 5) (lines.Write first count seed) (if kind == 5 then lines.Read first count else (if kind == 6 then lines.Discard first count else lines.Flush)) tt
    (either (kind == 5) (lines.Read first count) (if kind == 6 then lines.Discard first count else lines.Flush) tt (either (kind == 6) (lines.Discard first count) lines.Flush tt tt))

lane_stays : (number : ℕ) → Each Stays (drawn_lane number)
unfolding drawn_lane
lane_stays number = each_map (λ place. drawn_request (after (3 * place) number) place) (range_with_len 0 256)
    (λ place. request_stays (drawn (after (3 * place) number) 8) (drawn (after 1 (after (3 * place) number)) 1021) (1 + drawn (after 2 (after (3 * place) number)) 4) place)

section_stays : (number lane : ℕ) → Each Stays (section_lines (drawn_section number) lane)
unfolding drawn_section
section_stays number lane = each_lane (λ l. drawn_lane (after (768 * l) number)) (range_with_len 0 4) lane (λ l. lane_stays (after (768 * l) number))

opening_stays : (first count lane : ℕ) → Each Stays (section_lines ((lines.Discard first count ∷ lines.Prepare ∷ []) ∷ []) lane)
opening_stays first count zero = (tt, (tt, tt))
opening_stays first count (suc lane) = tt

script_stays : (number lane : ℕ) → Each Stays (lane_lines (drill_script_of number) lane)
script_stays number lane =
    each_append (section_lines ((lines.Discard (used_blocks number) (1024 - used_blocks number) ∷ lines.Prepare ∷ []) ∷ []) lane) (section_lines (drawn_section (after 1 number)) lane ++ [])
    (opening_stays (used_blocks number) (1024 - used_blocks number) lane) (each_append (section_lines (drawn_section (after 1 number)) lane) [] (section_stays (after 1 number) lane) tt)

line_stays : (size : ℕ) (line : Line) → Stays line → Some (request_of size line) ≡ Some ops.Commit → ⊥
line_stays size (lines.Write first count seed) stays is = cc is
line_stays size (lines.WriteHex first bytes) stays is = cc is
line_stays size (lines.Read first count) stays is = cc is
line_stays size (lines.Discard first count) stays is = cc is
line_stays size lines.Flush stays is = cc is
line_stays size lines.Prepare stays is = cc is
line_stays size lines.Commit stays is = stays

none_commits : (size : ℕ) (some : List Line) (n : ℕ) → Each Stays some → option_map (request_of size) (slice_get some n) ≡ Some ops.Commit → ⊥
none_commits size [] n stays is = cc is
none_commits size (line ∷ some) zero stays is = line_stays size line stays.0 is
none_commits size (line ∷ some) (suc n) stays is = none_commits size some n stays.1 is

-- ----------------------------------------------------------------------------------------------------------------
-- The plan.

-- the blocks that are given away
abbrev pub given : ℕ → Extent
given number = record { first = used_blocks number; count = 1024 - used_blocks number }

first_alone : (number lane n : ℕ) → section_of (drill_script_of number) lane n ≡ 0 → (lane ≡ 0) × (n < 2)
first_alone number zero n is = (refl, by (nat_lt n 2) refl)
  where
    by : (t : Bool) → nat_lt n 2 ≡ t → n < 2
    by true few = grind (arith, few)
    by false many = absurd (grind (arith, many, is))
first_alone number (suc lane) n is = absurd (grind (arith, is))

pub drill_plan : (g : Geometry) (number : ℕ) (script : List (List (List Line))) → script ≡ drill_script_of number → IsDrillPlan (plan_of g script) (given number)
drill_plan g number script is = subst (λ s. IsDrillPlan (plan_of g s) (given number)) (sym is) (record {
  discard = refl;
  prepare = refl;
  first = refl;
  second = refl;
  alone = first_alone number;
  keeps = λ lane n committed. none_commits g.block_size (lane_lines (drill_script_of number) lane) n (script_stays number lane) committed;
})

pub few_used : (number : ℕ) → (512 ≤ used_blocks number) × (used_blocks number < 768)
few_used number = (omega arith, omega arith)

pub given_inside : (g : Geometry) (number : ℕ) → g.blocks ≡ 1024 → IsInside (given number) g
given_inside g number blocks = let few = few_used number in omega (arith, blocks, few.0, few.1)

given_there : (number b : ℕ) → 768 ≤ b → b < 1024 → discards (given number) b ≡ true
given_there number b above below =
    let few = few_used number in
    let high : used_blocks number ≤ b = omega (arith, few.1, above) in
    let end : b < used_blocks number + (1024 - used_blocks number) = omega (arith, below, few.1) in
    grind (arith, high, end, above)

pub two_given : (g : Geometry) (number : ℕ) → g.blocks ≡ 1024 → 2 ≤ count_below (after_event g.blocks (Discards (given number)) (opening [])).trim g.blocks
two_given g number blocks =
    subst (λ n. 2 ≤ count_below (after_event g.blocks (Discards (given number)) (opening [])).trim n) (sym blocks)
    (two_there (after_event g.blocks (Discards (given number)) (opening [])).trim 0 1024 1022 1023 (omega arith) (omega arith) (omega arith)
    (given_there number 1022 (omega arith) (omega arith)) (given_there number 1023 (omega arith) (omega arith)))
