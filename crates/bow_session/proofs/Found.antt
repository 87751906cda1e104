-- A line of a lane, section by section.
use Rattle.std.proofs.Common.{◌≡◌, ℕ, suc, ◌+◌, ◌-◌, ◌≤◌, ◌++◌, List, length, drop, Some, arith, sym, ap, ◌∙◌}
use Rattle.std.specs.Prelude.{slice_get}
use Rattle.bow_script.specs.declared.scripts.Line.{Line}
use Rattle.bow_session.specs.Requests.{lane_lines, section_lines}
use Rattle.bow_session.proofs.Lists.{drop-here}
use Rattle.bow_session.proofs.Loads.{get_left, get_right}

past_left : (xs ys : List Line) (i : ℕ) → length xs ≤ i → slice_get (xs ++ ys) i ≡ slice_get ys (i - length xs)
past_left xs ys i past = let e : i ≡ length xs + (i - length xs) = omega (arith, past) in ap (slice_get (xs ++ ys)) e ∙ get_right xs ys (i - length xs)

module _ (items : List (List (List Line))) (lane k left number : ℕ) (section : List (List Line)) (lines : List Line) (here : slice_get items k ≡ Some section)
    (at : slice_get (lane_lines (drop k items) lane) left ≡ slice_get (lane_lines items lane) number) (is : lines ≡ section_lines section lane) where
  parted : slice_get (lines ++ lane_lines (drop (suc k) items) lane) left ≡ slice_get (lane_lines items lane) number
  parted =
      ap (λ (l : List Line). slice_get (l ++ lane_lines (drop (suc k) items) lane) left) is
      ∙ sym (ap (λ (s : List (List (List Line))). slice_get (lane_lines s lane) left) (drop-here items k section here)) ∙ at

  pub found_line : (line : Line) → slice_get lines left ≡ Some line → Some line ≡ slice_get (lane_lines items lane) number
  found_line line found = sym (get_left lines (lane_lines (drop (suc k) items) lane) left line found) ∙ parted

  pub next_section : length lines ≤ left → slice_get (lane_lines (drop (k + 1) items) lane) (left - length lines) ≡ slice_get (lane_lines items lane) number
  next_section past =
      let e : k + 1 ≡ suc k = omega arith in
      ap (λ n. slice_get (lane_lines (drop n items) lane) (left - length lines)) e ∙ sym (past_left lines (lane_lines (drop (suc k) items) lane) left past) ∙ parted
