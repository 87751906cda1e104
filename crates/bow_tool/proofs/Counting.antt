-- The requests of a script, counted lane by lane and section by section.
use Rattle.std.proofs.Common.{◌≡◌, ◌+◌, ◌≤◌, ℕ, List, [], ◌∷◌, ◌++◌, Some, length, take, drop, sym, ap, ◌∙◌, subst, arith, length-append}
use Rattle.std.specs.Prelude.{slice_get}
use Rattle.std.specs.List.{All, flat_map}
use Rattle.std.proofs.lemmas.Grind.{flat_map-append}
use Rattle.std.proofs.lemmas.List.{append-nil, take-append-drop, take_all}
use Rattle.std.proofs.lemmas.List.Elements.{All-append, All-get_or, All-push}
use Rattle.std.proofs.lemmas.Option.{get_or_from_slice_get}
use Rattle.bow_receipts.proofs.Lists.{at_within}
use Rattle.bow_script.specs.declared.scripts.Line.{Line}
use Rattle.bow_script.proofs.Lasts.{all_parts}
use Rattle.bow_pair.specs.Pairs.{IsPlayed}
use Rattle.bow_tool.specs.PairScripts.{CountsPlayed}
use Rattle.bow_tool.proofs.Spelling.{front_more}

module _ {A : Type 0} (lines : A → List Line) (all : List A) (i : ℕ) (one : A) (at : slice_get all i ≡ Some one) where
  -- the lines of one element more
  lines_more : flat_map lines (take (i + 1) all) ≡ flat_map lines (take i all) ++ lines one
  lines_more =
      ap (flat_map lines) (front_more all i one at) ∙ flat_map-append lines (take i all) (one ∷ [])
      ∙ ap (λ (xs : List Line). flat_map lines (take i all) ++ xs) (append-nil (lines one))

  -- all lines, cut behind them
  lines_cut : flat_map lines all ≡ (flat_map lines (take i all) ++ lines one) ++ flat_map lines (drop (i + 1) all)
  lines_cut =
      ap (flat_map lines) (sym (take-append-drop (i + 1) all)) ∙ flat_map-append lines (take (i + 1) all) (drop (i + 1) all)
      ∙ ap (λ (xs : List Line). xs ++ flat_map lines (drop (i + 1) all)) lines_more

  -- there are no more of them than there are lines
  pub count_fits : (count more : ℕ) → CountsPlayed (flat_map lines (take i all)) (Some count) → CountsPlayed (lines one) (Some more) → count + more ≤ length (flat_map lines all)
  count_fits count more before here =
      let front = flat_map lines (take i all) in
      omega (arith, before.0, here.0, ap length lines_cut, length-append (front ++ lines one) (flat_map lines (drop (i + 1) all)), length-append front (lines one))

  pub part_fits : length (lines one) ≤ length (flat_map lines all)
  part_fits =
      let front = flat_map lines (take i all) in
      omega (arith, ap length lines_cut, length-append (front ++ lines one) (flat_map lines (drop (i + 1) all)), length-append front (lines one))

  -- so many they are, and each of them is played
  pub count_more : (count more : ℕ) → CountsPlayed (flat_map lines (take i all)) (Some count) → CountsPlayed (lines one) (Some more) → CountsPlayed (flat_map lines (take (i + 1) all)) (Some (count + more))
  count_more count more before here =
      let front = flat_map lines (take i all) in
      let many : count + more ≡ length (front ++ lines one) = omega (arith, before.0, here.0, length-append front (lines one)) in
      (many ∙ ap length (sym lines_more), subst (All IsPlayed) (sym lines_more) (All-append IsPlayed front (lines one) before.1 here.1))

  -- where one of them is not played, not all lines are
  pub not_all : (All IsPlayed (lines one) → ⊥) → All IsPlayed (flat_map lines all) → ⊥
  not_all none played =
      let front = flat_map lines (take i all) in
      let parts = all_parts IsPlayed (front ++ lines one) (flat_map lines (drop (i + 1) all)) (subst (All IsPlayed) lines_cut played) in
      none (all_parts IsPlayed front (lines one) parts.0).1

-- all are counted
pub count_all : {A : Type 0} (lines : A → List Line) (all : List A) (i count : ℕ) → length all ≤ i → CountsPlayed (flat_map lines (take i all)) (Some count) → CountsPlayed (flat_map lines all) (Some count)
count_all lines all i count past = subst (λ xs. CountsPlayed (flat_map lines xs) (Some count)) (take_all i all past)

-- one line more is played
pub played_more : (lines : List Line) (i : ℕ) (line : Line) → slice_get lines i ≡ Some line → All IsPlayed (take i lines) → IsPlayed line → All IsPlayed (take (i + 1) lines)
played_more lines i line at before here = subst (All IsPlayed) (sym (front_more lines i line at)) (All-push IsPlayed (take i lines) line before here)

-- each is, where all are
pub played_at : (lines : List Line) (i : ℕ) (line : Line) → slice_get lines i ≡ Some line → All IsPlayed lines → IsPlayed line
played_at lines i line at all = subst IsPlayed (get_or_from_slice_get lines i line line at) (All-get_or IsPlayed lines i line (at_within lines i line at) all)
