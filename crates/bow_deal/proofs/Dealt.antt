-- What dealing keeps of a script.
use Rattle.std.proofs.Common.{◌≡◌, ◌≤◌, ◌<◌, ◌+◌, ◌-◌, ◌*◌, ℕ, zero, suc, List, [], ◌∷◌, ◌++◌, length, drop, refl, sym, ap, ◌∙◌, subst, arith, length-append}
use Rattle.std.specs.Prelude.{slice_index_or, cond, ◌==◌, Bool, false}
use Rattle.std.proofs.lemmas.Bool.Decides.{nat_tests}
use Rattle.std.specs.List.{All, sum_by}
use Rattle.std.proofs.lemmas.List.Sums.{sum_by-append}
use Rattle.std.proofs.lemmas.List.Elements.{All-append, All-nil, All-cons, All-head, All-tail}
use Rattle.bow_script.specs.declared.scripts.Line.{Line}
use Rattle.bow_script.specs.declared.scripts.Line.TheVariants.{Prepare}
use Rattle.bow_script.specs.Grammar.{IsFitting}
use Rattle.bow_script.specs.Scripts.{concat, requests_of, blocks_of, IsWithinLimits, IsWellFormed}
use Rattle.bow_script.proofs.Lasts.{all_parts}
use Rattle.bow_deal.specs.Dealing.{every, dealt, preparing, opening_part, later_part, lane_in}

-- one more is skipped
skips : {A : Type 0} (count skip : ℕ) (one : A) (rest : List A) → every count (suc skip) (one ∷ rest) ≡ every count skip rest
skips {A = A} count skip one rest =
    let not : (suc skip == 0) ≡ false = grind (arith, nat_tests) in
    let less : suc skip - 1 ≡ skip = omega arith in
    ap (λ (b : Bool). cond {A = List A} b (one ∷ every count (count - 1) rest) (every count (suc skip - 1) rest)) not ∙ ap (λ (k : ℕ). every count k rest) less

-- where it stands
pub every_at : {A : Type 0} (d : A) (count skip k : ℕ) (xs : List A) → skip < count → slice_index_or (every count skip xs) k d ≡ slice_index_or xs (k * count + skip) d
every_at d count skip k [] less = refl
every_at d count zero zero (x ∷ xs) less = grind arith
every_at d count zero (suc k) (x ∷ xs) less =
    let at : suc k * count + 0 ≡ suc (k * count + (count - 1)) = grind arith in
    every_at d count (count - 1) k xs (omega (arith, less)) ∙ ap (λ n. slice_index_or (x ∷ xs) n d) (sym at)
every_at d count (suc skip) k (x ∷ xs) less =
    let at : k * count + suc skip ≡ suc (k * count + skip) = omega arith in
    ap (λ l. slice_index_or l k d) (skips count skip x xs) ∙ every_at d count skip k xs (omega (arith, less)) ∙ ap (λ n. slice_index_or (x ∷ xs) n d) (sym at)

-- no more of anything that adds up
module _ (m : List Line → ℕ) (adds : (a b : List Line) → m (a ++ b) ≡ m a + m b) where
  pub less_lanes : (count skip : ℕ) (lanes : List (List Line)) → m (concat (every count skip lanes)) ≤ m (concat lanes)
  less_lanes count skip [] = omega arith
  less_lanes count zero (lane ∷ lanes) = omega (arith, adds lane (concat lanes), adds lane (concat (every count (count - 1) lanes)), less_lanes count (count - 1) lanes)
  less_lanes count (suc skip) (lane ∷ lanes) = omega (arith, adds lane (concat lanes), ap (λ l. m (concat l)) (skips count skip lane lanes), less_lanes count skip lanes)

  pub less_sections : (device count : ℕ) (sections : List (List (List Line))) → m (requests_of (dealt device count sections)) ≤ m (requests_of sections)
  less_sections device count [] = omega arith
  less_sections device count (section ∷ sections) = omega (arith, adds (concat section) (requests_of sections), adds (concat (every count device section)) (requests_of (dealt device count sections)), less_lanes count device section, less_sections device count sections)

  pub less_first : (script : List (List (List Line))) → m (concat (slice_index_or script 0 [])) ≤ m (requests_of script)
  less_first [] = omega arith
  less_first (section ∷ sections) = omega (arith, adds (concat section) (requests_of sections))

  pub less_later : (script : List (List (List Line))) → m (requests_of (drop 1 script)) ≤ m (requests_of script)
  less_later [] = omega arith
  less_later (section ∷ sections) = omega (arith, adds (concat section) (requests_of sections))

-- what holds of all lines
pub all_lanes : (P : Line → Type 0) (count skip : ℕ) (lanes : List (List Line)) → All P (concat lanes) → All P (concat (every count skip lanes))
all_lanes P count skip [] all = all
all_lanes P count zero (lane ∷ lanes) all =
    let parts = all_parts P lane (concat lanes) all in
    All-append P lane (concat (every count (count - 1) lanes)) parts.0 (all_lanes P count (count - 1) lanes parts.1)
all_lanes P count (suc skip) (lane ∷ lanes) all =
    subst (λ l. All P (concat l)) (sym (skips count skip lane lanes)) (all_lanes P count skip lanes (all_parts P lane (concat lanes) all).1)

pub all_sections : (P : Line → Type 0) (device count : ℕ) (sections : List (List (List Line))) → All P (requests_of sections) → All P (requests_of (dealt device count sections))
all_sections P device count [] all = all
all_sections P device count (section ∷ sections) all =
    let parts = all_parts P (concat section) (requests_of sections) all in
    All-append P (concat (every count device section)) (requests_of (dealt device count sections)) (all_lanes P count device section parts.0) (all_sections P device count sections parts.1)

-- no more lanes
pub few_lanes : {A : Type 0} (count skip : ℕ) (lanes : List A) → length (every count skip lanes) ≤ length lanes
few_lanes count skip [] = omega arith
few_lanes count zero (lane ∷ lanes) = omega (arith, few_lanes count (count - 1) lanes)
few_lanes count (suc skip) (lane ∷ lanes) = omega (arith, ap (λ l. length l) (skips count skip lane lanes), few_lanes count skip lanes)

abbrev Few : List (List Line) → Type 0
Few section = length section ≤ 16

pub few_in_each : (device count : ℕ) (sections : List (List (List Line))) → All Few sections → All Few (dealt device count sections)
few_in_each device count [] all = All-nil Few
few_in_each device count (section ∷ sections) all =
    All-cons Few (every count device section) (dealt device count sections)
    (omega (arith, few_lanes count device section, All-head Few section sections all)) (few_in_each device count sections (All-tail Few section sections all))

pub few_first : (script : List (List (List Line))) → All Few script → length (slice_index_or script 0 []) ≤ 16
few_first [] all = omega arith
few_first (section ∷ sections) all = All-head Few section sections all

pub few_later : (script : List (List (List Line))) → All Few script → All Few (drop 1 script)
few_later [] all = all
few_later (section ∷ sections) all = All-tail Few section sections all

as_many : (device count : ℕ) (sections : List (List (List Line))) → length (dealt device count sections) ≡ length sections
as_many device count [] = refl
as_many device count (section ∷ sections) = omega (arith, as_many device count sections)

fewer : {A : Type 0} (xs : List A) → length (drop 1 xs) ≤ length xs
fewer [] = omega arith
fewer (x ∷ xs) = omega arith

-- a device's first part
add_up_first : (m : List Line → ℕ) (adds : (a b : List Line) → m (a ++ b) ≡ m a + m b) (device count : ℕ) (script : List (List (List Line))) → m (requests_of (opening_part device count script)) ≤ m (requests_of script) + m (Prepare ∷ [])
add_up_first m adds device count script =
    let lanes = every count device (slice_index_or script 0 []) in
    omega (arith, adds (concat lanes) (Prepare ∷ []), less_lanes m adds count device (slice_index_or script 0 []), less_first m adds script)

pub opening_within : (device count : ℕ) (script : List (List (List Line))) → IsWithinLimits script → length (requests_of script) < 65536 → IsWithinLimits (opening_part device count script)
opening_within device count script limits few = record {
  sections = omega arith;
  lanes = All-cons Few (every count device (slice_index_or script 0 [])) (preparing ∷ []) (omega (arith, few_lanes count device (slice_index_or script 0 []), few_first script limits.lanes)) (All-cons Few preparing [] (omega arith) (All-nil Few));
  requests = omega (arith, add_up_first length (λ a b. length-append a b) device count script, few);
  blocks = omega (arith, add_up_first (sum_by blocks_of) (λ a b. sum_by-append blocks_of a b) device count script, limits.blocks);
}

pub later_within : (device count : ℕ) (script : List (List (List Line))) → IsWithinLimits script → IsWithinLimits (later_part device count script)
later_within device count script limits = record {
  sections = omega (arith, as_many device count (drop 1 script), fewer script, limits.sections);
  lanes = few_in_each device count (drop 1 script) (few_later script limits.lanes);
  requests = omega (arith, less_sections length (λ a b. length-append a b) device count (drop 1 script), less_later length (λ a b. length-append a b) script, limits.requests);
  blocks = omega (arith, less_sections (sum_by blocks_of) (λ a b. sum_by-append blocks_of a b) device count (drop 1 script), less_later (sum_by blocks_of) (λ a b. sum_by-append blocks_of a b) script, limits.blocks);
}

all_first : (P : Line → Type 0) (script : List (List (List Line))) → All P (requests_of script) → All P (concat (slice_index_or script 0 []))
all_first P [] all = all
all_first P (section ∷ sections) all = (all_parts P (concat section) (requests_of sections) all).0

all_later : (P : Line → Type 0) (script : List (List (List Line))) → All P (requests_of script) → All P (requests_of (drop 1 script))
all_later P [] all = all
all_later P (section ∷ sections) all = (all_parts P (concat section) (requests_of sections) all).1

pub opening_formed : (device count : ℕ) (script : List (List (List Line))) → IsWellFormed script → IsWellFormed (opening_part device count script)
opening_formed device count script formed =
    All-append IsFitting (concat (every count device (slice_index_or script 0 []))) (Prepare ∷ []) (all_lanes IsFitting count device (slice_index_or script 0 []) (all_first IsFitting script formed)) (All-cons IsFitting Prepare [] tt (All-nil IsFitting))

pub later_formed : (device count : ℕ) (script : List (List (List Line))) → IsWellFormed script → IsWellFormed (later_part device count script)
later_formed device count script formed = all_sections IsFitting device count (drop 1 script) (all_later IsFitting script formed)

-- which lane of the script it is
pub opening_lane : (device count : ℕ) (script : List (List (List Line))) (lane : ℕ) → device < count → lane_in (opening_part device count script) 0 lane ≡ lane_in script 0 (lane * count + device)
opening_lane device count script lane on = every_at [] count device lane (slice_index_or script 0 []) on

later_at : (device count : ℕ) (sections : List (List (List Line))) (section lane : ℕ) → device < count → lane_in (dealt device count sections) section lane ≡ lane_in sections section (lane * count + device)
later_at device count [] section lane on = refl
later_at device count (one ∷ sections) zero lane on = every_at [] count device lane one on
later_at device count (one ∷ sections) (suc section) lane on = later_at device count sections section lane on

behind_first : (script : List (List (List Line))) (section : ℕ) → slice_index_or (drop 1 script) section [] ≡ slice_index_or script (suc section) []
behind_first [] section = refl
behind_first (one ∷ sections) section = refl

pub later_lane : (device count : ℕ) (script : List (List (List Line))) (section lane : ℕ) → device < count → lane_in (later_part device count script) section lane ≡ lane_in script (suc section) (lane * count + device)
later_lane device count script section lane on =
    later_at device count (drop 1 script) section lane on ∙ ap (λ (s : List (List Line)). slice_index_or s (lane * count + device) []) (behind_first script section)
