-- Callers that make the calls of a script.
use Rattle.std.proofs.Common.{◌≡◌, ℕ, zero, suc, ◌+◌, ◌-◌, ◌<◌, ◌≤◌, ◌++◌, List, [], ◌∷◌, length, get_or, take, drop, arith, refl, sym, ap, ◌∙◌, subst, inl, inr, length-append}
use Rattle.std.specs.Prelude.{All, slice_get, slice_index_or, sum, Some, None, Result, Ok, Err, IfOk, IfErr}
use Rattle.std.proofs.lemmas.Bool.{cases_lt}
use Rattle.std.proofs.lemmas.List.{take_all}
use Rattle.std.proofs.lemmas.Option.{slice_get_read}
use Rattle.std.proofs.Math.Seq.{take-append_seam}
use Rattle.bow_units.specs.declared.sizes.Geometry.{Geometry}
use Rattle.bow_units.specs.declared.requests.Op.{Op}
use Rattle.bow_history.specs.Complete.{AreInOrder, IsComplete}
use Rattle.bow_history.specs.Ends.{over_lanes}
use Rattle.bow_history.specs.Journal.{Plan}
use Rattle.bow_history.specs.Sections.{BySections}
use Rattle.bow_history.specs.Sessions.{IsFor}
use Rattle.bow_history.specs.declared.items.Item.{Item}
use Rattle.bow_history.specs.declared.items.Item.TheVariants.{Wrote, Got, Answered}
use Rattle.bow_script.specs.declared.scripts.Line.{Line}
use Rattle.bow_script.specs.Scripts.{IsWithinLimits, concat, requests_of}
use Rattle.bow_session.specs.Requests.{lane_lines, lanes_of, plan_of, request_of, requests_in, section_lines, section_of}
use Rattle.bow_session.proofs.Loads.{no_next, one_more, there}
use Rattle.bow_tags.specs.declared.view.Entry.{Entry}
use Rattle.bow_tags.specs.Seats.{Numbered}
use Rattle.bow_receipts.specs.declared.asks.Answer.{Answer}
use Rattle.bow_receipts.specs.Asking.{given_of}
use Rattle.bow_receipts.specs.Called.{AreAllowed, AreCounts, AsksFor, GoesOn, HasCalled, HasMade, InOrder, MayMake, WentOn, requests_before}
use Rattle.bow_receipts.specs.Openings.{IsNewPass, may_of}
use Rattle.bow_receipts.specs.Passes.{Caller, after_call}
use Rattle.bow_receipts.specs.Sectioned.{Between}
use Rattle.bow_receipts.specs.Served.{answered_of}
use Rattle.bow_receipts.proofs.Ended.{some_at}
use Rattle.bow_receipts.proofs.Lists.{at_within, clash, index_within, more_at, over_equal, over_most}
use Rattle.bow_receipts.proofs.Passing.{elem_of, get_of}
use Rattle.bow_receipts.proofs.Sums.{over_shift, over_sum}

-- ----------------------------------------------------------------------------------------------------------------
-- One pass.

module _ (g : Geometry) (script : List (List (List Line))) where
  asks_more : (lane n : ℕ) (got : List (Entry Op Answer)) (line : Line) (x : Entry Op Answer) → AsksFor g script lane got → length got ≡ n → slice_get (lane_lines script lane) n ≡ Some line
      → IsFor g (request_of g.block_size line) x.ask → AsksFor g script lane (got ++ x ∷ [])
  asks_more lane n got line x before long at for k y here = elim (more_at got x y k here) [
    | inl old ↦ before k y old
    | inr new ↦ (line, ap (slice_get (lane_lines script lane)) (new.0 ∙ long) ∙ at, subst (λ (z : Entry Op Answer). IsFor g (request_of g.block_size line) z.ask) (sym new.1) for)
  ]

  pub goes_same : (old new : Caller) → new ≡ old → GoesOn g script old new
  goes_same old new is = record {
    lane = ap (λ (p : Caller). p.lane) is;
    may = ap (λ (p : Caller). p.may) is;
    asks = λ before. subst (λ (p : Caller). AsksFor g script p.lane p.got) (sym is) before;
  }

  pub goes_on : (old new : Caller) (op : Op) (answer : Answer) (line : Line) → new ≡ after_call old op answer → length old.got ≡ old.made → slice_get (lane_lines script old.lane) old.made ≡ Some line
      → IsFor g (request_of g.block_size line) op → GoesOn g script old new
  goes_on old new op answer line is long at for = record {
    lane = ap (λ (p : Caller). p.lane) is;
    may = ap (λ (p : Caller). p.may) is;
    asks = λ before. subst (λ (p : Caller). AsksFor g script p.lane p.got) (sym is)
        (asks_more old.lane old.made old.got line (record { lane = old.lane; number = old.made; ask = op; answer = answer }) before long at for);
  }

  -- whether the call was made or not
  pub goes_called : {E : Type 0} (Back : E → Type 0) (old new : Caller) (op : Op) (line : Line) (result : Result Answer E) → IfOk result (λ answer. new ≡ after_call old op answer) → IfErr result (λ e. Back e × (new ≡ old)) → length old.got ≡ old.made
      → slice_get (lane_lines script old.lane) old.made ≡ Some line → IsFor g (request_of g.block_size line) op → GoesOn g script old new
  goes_called Back old new op line (Ok answer) made back long at for = goes_on old new op answer line made long at for
  goes_called Back old new op line (Err e) made back long at for = goes_same old new back.1

  pub goes_further : (old mid new : Caller) → GoesOn g script old mid → GoesOn g script mid new → GoesOn g script old new
  goes_further old mid new one other = record {
    lane = other.lane ∙ one.lane;
    may = other.may ∙ one.may;
    asks = λ before. other.asks (one.asks before);
  }

-- ----------------------------------------------------------------------------------------------------------------
-- Requests, section by section.

pub before_most : (script : List (List (List Line))) (k lane : ℕ) → requests_before script k lane ≤ requests_in script lane
before_most [] zero lane = omega arith
before_most [] (suc k) lane = omega arith
before_most (s ∷ ss) zero lane = omega arith
before_most (s ∷ ss) (suc k) lane =
    let rest = before_most ss k lane in
    let a = length-append (section_lines s lane) (lane_lines (take k ss) lane) in
    let b = length-append (section_lines s lane) (lane_lines ss lane) in
    omega (arith, rest, a, b)

pub before_more : (script : List (List (List Line))) (k lane : ℕ) (section : List (List Line)) → slice_get script k ≡ Some section → requests_before script (k + 1) lane ≡ requests_before script k lane + length (section_lines section lane)
before_more script k lane section at =
    let e : k + 1 ≡ suc k = omega arith in
    ap (λ n. requests_before script n lane) e ∙ ap (λ (l : List Line). length l) (one_more script lane k section at) ∙ length-append (lane_lines (take k script) lane) (section_lines section lane)

pub before_all : (script : List (List (List Line))) (k lane : ℕ) → length script ≤ k → requests_before script k lane ≡ requests_in script lane
before_all script k lane past = ap (λ s. requests_in s lane) (take_all k script past)

pub in_section : (script : List (List (List Line))) (lane k : ℕ) (section : List (List Line)) → slice_get script k ≡ Some section → (n : ℕ) → requests_before script k lane ≤ n
    → n < requests_before script k lane + length (section_lines section lane) → section_of script lane n ≡ k
in_section script lane k section at n low high =
    let i : ℕ = n - requests_before script k lane in
    let line = some_at (section_lines section lane) i (omega (arith, low, high)) in
    let e : requests_before script k lane + i ≡ n = omega (arith, low) in
    ap (section_of script lane) (sym e) ∙ (there script lane k section at i line.0 line.1).1

-- the section that is read at an index
pub section_at : (items script : List (List (List Line))) (k : ℕ) (section : List (List Line)) → items ≡ script → k < length script → section ≡ get_or items k section → slice_get script k ≡ Some section
section_at items script k section is inside read = ap (λ (s : List (List (List Line))). slice_get s k) (sym is) ∙ slice_get_read items (length items) k section refl (subst (λ (s : List (List (List Line))). k < length s) (sym is) inside) read

-- where the sections are gone through one by one
pub here_more : (script : List (List (List Line))) (k lane : ℕ) (section : List (List Line)) → k < length script → section ≡ get_or script k section → requests_before script (k + 1) lane ≡ requests_before script k lane + length (section_lines section lane)
here_more script k lane section on is = before_more script k lane section (section_at script script k section refl on is)

pub all_counted : (items script : List (List (List Line))) (k lane total : ℕ) → length items ≤ k → items ≡ script → total ≡ requests_before items k lane → total ≡ requests_in script lane
all_counted items script k lane total past same is = is ∙ before_all items k lane past ∙ ap (λ s. requests_in s lane) same

-- a pass that has made all so far may make the calls of one more section
module _ (g : Geometry) (script : List (List (List Line))) (k : ℕ) (section : List (List Line)) (at : slice_get script k ≡ Some section) (p : Caller) (made : HasMade g script k p) (more : ℕ)
    (lines : more ≡ length (section_lines section p.lane)) where
  pub next_may : p.may + more ≡ requests_before script (k + 1) p.lane
  next_may = let e = (made.calls).may in let f = before_more script k p.lane section at in omega (arith, e, f, lines)

  pub next_most : p.may + more ≤ requests_in script p.lane
  next_most = let e = next_may in let f = before_most script (k + 1) p.lane in omega (arith, e, f)

  pub next_here : (n : ℕ) → p.may ≤ n → n < p.may + more → section_of script p.lane n ≡ k
  next_here n low high = let e = (made.calls).may in in_section script p.lane k section at n (omega (arith, e, low)) (omega (arith, e, high, lines))

  pub went_on : (mid new : Caller) → mid ≡ record p { may = p.may + more } → GoesOn g script mid new → WentOn g script (k + 1) p new
  went_on mid new is on =
      let lane : mid.lane ≡ p.lane = ap (λ (q : Caller). q.lane) is in
      let may : mid.may ≡ p.may + more = ap (λ (q : Caller). q.may) is in
      record {
        lane = on.lane ∙ lane;
        calls = record {
          may = on.may ∙ may ∙ next_may ∙ ap (λ l. requests_before script (k + 1) l) (sym (on.lane ∙ lane));
          asks = on.asks (subst (λ (q : Caller). AsksFor g script q.lane q.got) (sym is) (made.calls).asks);
        };
      }

-- ----------------------------------------------------------------------------------------------------------------
-- All passes.

at_index : (passes : List Caller) (i : ℕ) (p d : Caller) → slice_get passes i ≡ Some p → slice_index_or passes i d ≡ p
at_index [] i p d at = clash None p refl at
at_index (x ∷ xs) zero p d at = let same : x ≡ p = cc at in same
at_index (x ∷ xs) (suc i) p d at = at_index xs i p d at

module _ (g : Geometry) (script : List (List (List Line))) (k : ℕ) (old new : List Caller) (many : length new ≡ length old)
    (each : (i : ℕ) (d : Caller) → i < length old → WentOn g script k (slice_index_or old i d) (slice_index_or new i d)) where
  pub order_kept : InOrder old → InOrder new
  order_kept order i p at =
      let here = get_of new i p at in
      let inside : i < length old = (let e = at_within new i p here in omega (arith, e, many)) in
      let q = some_at old i inside in
      let went = each i p inside in
      let lane : p.lane ≡ (q.0).lane = sym (ap (λ (x : Caller). x.lane) (at_index new i p p here)) ∙ went.lane ∙ ap (λ (x : Caller). x.lane) (at_index old i q.0 p q.1) in
      lane ∙ order i q.0 (elem_of old i q.0 q.1)

  pub all_may : All (MayMake g script k) new
  all_may i d inside = (each i d (omega (arith, inside, many))).calls

pub made_all : (g : Geometry) (script : List (List (List Line))) (k : ℕ) (passes : List Caller) → All (MayMake g script k) passes → All (λ (p : Caller). p.made ≡ p.may) passes → All (HasMade g script k) passes
made_all g script k passes may all i d inside = record { calls = may i d inside; all = all i d inside }

pub called_all : (g : Geometry) (script : List (List (List Line))) (k : ℕ) (passes : List Caller) → All (MayMake g script k) passes → All (λ (p : Caller). length p.got ≡ p.made) passes → All (HasCalled g script) passes
called_all g script k passes may many i d inside = record { many = many i d inside; asks = (may i d inside).asks }

pub made_may : (g : Geometry) (script : List (List (List Line))) (k : ℕ) (passes : List Caller) → All (HasMade g script k) passes → All (MayMake g script k) passes
made_may g script k passes made i d inside = (made i d inside).calls

pub whole_all : (g : Geometry) (script : List (List (List Line))) (k : ℕ) (passes : List Caller) → length script ≤ k → All (HasMade g script k) passes → All (λ (p : Caller). p.made ≡ requests_in script p.lane) passes
whole_all g script k passes past made i d inside = let m = made i d inside in m.all ∙ (m.calls).may ∙ before_all script k (slice_index_or passes i d).lane past

-- what is written back where a slice of all passes was lent
pub written_back : (len : ℕ) (new old : List Caller) → length new ≡ len → take len (new ++ drop (length new) old) ≡ new
written_back len new old is = subst (λ n. take n (new ++ drop (length new) old) ≡ new) is (take-append_seam new (drop (length new) old))

-- passes before their first calls, which may make none yet
module _ (g : Geometry) (script : List (List (List Line))) (passes : List Caller) (new : Numbered (IsNewPass (λ lane. 0)) passes) where
  pub new_made : All (HasMade g script 0) passes
  new_made i d inside =
      let q = some_at passes i inside in
      let is = at_index passes i q.0 d q.1 ∙ new i q.0 (elem_of passes i q.0 q.1) in
      record {
        calls = record {
          may = ap (λ (p : Caller). p.may) is;
          asks = λ n x at. clash None x refl (sym (ap (λ (p : Caller). slice_get p.got n) is) ∙ at);
        };
        all = ap (λ (p : Caller). p.made) is ∙ sym (ap (λ (p : Caller). p.may) is);
      }

  pub new_order : InOrder passes
  new_order i p at = ap (λ (q : Caller). q.lane) (new i p at)

pub are_allowed : (script : List (List (List Line))) (callers : ℕ) (allowed : ℕ → ℕ) (calls : List ℕ) → AreCounts script calls → callers ≡ length calls → allowed ≡ may_of calls → AreAllowed script callers allowed
are_allowed script callers allowed calls counts many is lane below =
    let e : allowed lane ≡ requests_in script lane = ap (λ (f : ℕ → ℕ). f lane) is ∙ counts.each lane (omega (arith, below, many)) in
    omega (arith, e)

-- ----------------------------------------------------------------------------------------------------------------
-- How many requests all lanes have.

over_add : (f h : ℕ → ℕ) (n : ℕ) → over_lanes (λ l. f l + h l) n ≡ over_lanes f n + over_lanes h n
over_add f h zero = refl
over_add f h (suc n) = let rest = over_add f h n in omega (arith, rest)

over_none : (f : ℕ → ℕ) (n : ℕ) → ((l : ℕ) → f l ≡ 0) → over_lanes f n ≡ 0
over_none f zero none = refl
over_none f (suc n) none = let here = none n in let rest = over_none f n none in omega (arith, here, rest)

section_sum : (section : List (List Line)) (n : ℕ) → over_lanes (λ l. length (section_lines section l)) n ≤ length (concat section)
section_sum [] n = let none = over_none (λ l. length (section_lines [] l)) n (λ l. refl) in omega (arith, none)
section_sum (x ∷ xs) zero = omega arith
section_sum (x ∷ xs) (suc n) =
    let shift = over_shift (λ l. length (section_lines (x ∷ xs) l)) n in
    let rest = section_sum xs n in
    let parts = length-append x (concat xs) in
    omega (arith, shift, rest, parts)

script_sum : (script : List (List (List Line))) (n : ℕ) → over_lanes (requests_in script) n ≤ length (requests_of script)
script_sum [] n = let none = over_none (requests_in []) n (λ l. refl) in omega (arith, none)
script_sum (s ∷ ss) n =
    let parts = over_equal (λ l. length (section_lines s l) + requests_in ss l) (requests_in (s ∷ ss)) n (λ l. length-append (section_lines s l) (lane_lines ss l)) in
    let both = over_add (λ l. length (section_lines s l)) (requests_in ss) n in
    let first = section_sum s n in
    let rest = script_sum ss n in
    let whole = length-append (concat s) (requests_of ss) in
    omega (arith, parts, both, first, rest, whole)

-- the calls of all lanes are no more than a script may have
pub counts_few : (script : List (List (List Line))) (calls : List ℕ) → IsWithinLimits script → AreCounts script calls → sum calls ≤ 65536
counts_few script calls limits counts =
    let all = over_sum calls in
    let most = over_most (may_of calls) (requests_in script) (length calls) (λ l. elim (cases_lt l (length calls)) [
      | inl less ↦ (let e = counts.each l less in omega (arith, e))
      | inr past ↦ (let e = index_within calls l 0 past in omega (arith, e))
    ]) in
    let script_all = script_sum script (length calls) in
    let few = limits.requests in
    omega (arith, all, most, script_all, few)

-- ----------------------------------------------------------------------------------------------------------------
-- The whole script.

by_sections : (plan : Plan) (low : ℕ) (items : List Item) (high : ℕ) → Between plan.section low items high → BySections plan low items
by_sections plan low [] high h = tt
by_sections plan low (Wrote l n b ∷ items) high h = (h.0, by_sections plan (plan.section l n) items high h.1)
by_sections plan low (Got l n b ∷ items) high h = (h.0, by_sections plan (plan.section l n) items high h.1)
by_sections plan low (Answered l n o ∷ items) high h = (h.0, by_sections plan (plan.section l n) items high h.1)

pub is_complete : (g : Geometry) (script : List (List (List Line))) (callers : ℕ) (section : ℕ → ℕ → ℕ) (passes : List Caller) (journal : List Item) (calls : List (Entry Op Answer)) → callers ≡ lanes_of script → section ≡ section_of script
    → length passes ≡ callers → InOrder passes → All (HasCalled g script) passes → All (λ (p : Caller). p.made ≡ requests_in script p.lane) passes
    → ((i : ℕ) (p : Caller) → slice_get passes i ≡ Some p → given_of i calls ≡ p.got) → AreInOrder (λ caller. 0) journal (answered_of calls)
    → (high : ℕ) × Between section 0 journal high → IsComplete (plan_of g script) journal
is_complete g script callers section passes journal calls all is many order called made own in_order between = record {
  last = answered_of calls;
  in_order = in_order;
  none_left = λ lane below.
      let inside : lane < length passes = omega (arith, below, many, all) in
      let p = some_at passes lane inside in
      let here = at_index passes lane p.0 p.0 p.1 in
      let lane_is : (p.0).lane ≡ lane = order lane p.0 (elem_of passes lane p.0 p.1) in
      let got : length (p.0).got ≡ (p.0).made = subst (λ (q : Caller). length q.got ≡ q.made) here (called lane p.0 inside).many in
      let done : (p.0).made ≡ requests_in script (p.0).lane = subst (λ (q : Caller). q.made ≡ requests_in script q.lane) here (made lane p.0 inside) in
      let count : answered_of calls lane ≡ requests_in script lane = ap (λ (xs : List (Entry Op Answer)). length xs) (own lane p.0 p.1) ∙ got ∙ done ∙ ap (requests_in script) lane_is in
      no_next g script lane (answered_of calls lane) count;
  sections = by_sections (plan_of g script) 0 journal between.0 (subst (λ f. Between f 0 journal between.0) is between.1);
}
