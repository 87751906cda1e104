-- What holds of each place that counts.
use Rattle.std.proofs.Common.{ℕ, ◌<◌, ◌≡◌, Bool, List, [], ◌∷◌, ◌++◌, length, Some, arith, refl, sym, ap, ap₂, ◌∙◌, subst}
use mathlib.Core.Path.{fun_ext}
use Rattle.std.specs.List.{AllByRecursion as Each}
use Rattle.bow_units.specs.declared.sizes.Geometry.{Geometry}
use Rattle.bow_units.specs.Sizes.{IsValid}
use Rattle.bow_log.specs.Generations.{Backup, Generation, IsBackup, IsGeneration}
use Rattle.bow_log.proofs.InBlocks.{block_gives}
use Rattle.bow_chain.specs.Contents.{Contents, run_of}
use Rattle.bow_chain.specs.Places.{pass, base}
use Rattle.bow_chain.specs.Sound.{log_in, sum_at, SumsHold, IsChain, StandsBehind, IsSound}
use Rattle.bow_chain.specs.Counting.{AtSums, AtLogs, AtPlaces}
use Rattle.bow_chain.proofs.Hops.{pass-append, pass_pos, pass_inside, log_inside, dest_pos, dest_inside}

pub entries_map : (P Q : ℕ → Type 0) (r s : ℕ → ℕ) → ((x : ℕ) → P (r x) → Q (s x)) → (es : List Backup) → AtSums P r es → AtSums Q s es
entries_map P Q r s f [] all = tt
entries_map P Q r s f (e ∷ es) all = ((λ x h. f (pass es x) (all.0 x h)), entries_map P Q r s f es all.1)

pub places_map : (P Q : ℕ → Type 0) (r s k : ℕ → ℕ) → ((x : ℕ) → P (r x) → Q (s x)) → (logs : List Generation) → AtLogs P (λ x. r (k x)) logs → AtLogs Q (λ x. s (k x)) logs
places_map P Q r s k f [] all = tt
places_map P Q r s k f (log ∷ older) all = (
  f (k 0) all.0,
  entries_map P Q (λ x. r (k x)) (λ x. s (k x)) (λ x. f (k x)) log.entries all.1,
  places_map P Q r s (λ x. k (pass log.entries x)) f older all.2,
)

-- what holds at each place that counts may be less
pub at_places_map : (g : Geometry) (used : ℕ → Bool) (P Q : ℕ → Type 0) (log : Generation) (older : List Generation) → ((x : ℕ) → P x → Q x) → AtPlaces g used P log older → AtPlaces g used Q log older
at_places_map g used P Q log older f all = record {
  sums = entries_map P Q (λ x. x) (λ x. x) f log.entries all.sums;
  logs = places_map P Q (λ x. x) (λ x. x) (pass log.entries) f older all.logs;
  bases = λ x on u. f _ (all.bases x on u);
}

-- the places of more backups at the end
pub entries_append : (P : ℕ → Type 0) (r : ℕ → ℕ) (es fs : List Backup) → AtSums P (λ x. r (pass fs x)) es → AtSums P r fs → AtSums P r (es ++ fs)
entries_append P r [] fs before after = after
entries_append P r (e ∷ es) fs before after = ((λ x h. subst (λ y. P (r y)) (sym (pass-append es fs x)) (before.0 x h)), entries_append P r es fs before.1 after)

pub entries_front : (P : ℕ → Type 0) (r : ℕ → ℕ) (es fs : List Backup) → AtSums P r (es ++ fs) → AtSums P (λ x. r (pass fs x)) es
entries_front P r [] fs all = tt
entries_front P r (e ∷ es) fs all = ((λ x h. subst (λ y. P (r y)) (pass-append es fs x) (all.0 x h)), entries_front P r es fs all.1)

pub entries_back : (P : ℕ → Type 0) (r : ℕ → ℕ) (es fs : List Backup) → AtSums P r (es ++ fs) → AtSums P r fs
entries_back P r [] fs all = all
entries_back P r (e ∷ es) fs all = entries_back P r es fs all.1

pub places_route : (P : ℕ → Type 0) (r s : ℕ → ℕ) (logs : List Generation) → ((x : ℕ) → r x ≡ s x) → AtLogs P r logs → AtLogs P s logs
places_route P r s logs same all = subst (λ route. AtLogs P route logs) (fun_ext same) all

pub entries_all : (P : ℕ → Type 0) (r : ℕ → ℕ) → ((x : ℕ) → P (r x)) → (es : List Backup) → AtSums P r es
entries_all P r all [] = tt
entries_all P r all (e ∷ es) = ((λ x h. all _), entries_all P r all es)

pub places_all : (P : ℕ → Type 0) (r : ℕ → ℕ) → ((x : ℕ) → P (r x)) → (logs : List Generation) → AtLogs P r logs
places_all P r all [] = tt
places_all P r all (log ∷ older) = (all 0, entries_all P r all log.entries, places_all P (λ x. r (pass log.entries x)) (λ x. all _) older)

-- two things that hold of each place hold together
pub entries_both : (P Q : ℕ → Type 0) (r : ℕ → ℕ) (es : List Backup) → AtSums P r es → AtSums Q r es → AtSums (λ x. P x × Q x) r es
entries_both P Q r [] a b = tt
entries_both P Q r (e ∷ es) a b = ((λ x h. (a.0 x h, b.0 x h)), entries_both P Q r es a.1 b.1)

pub places_both : (P Q : ℕ → Type 0) (r : ℕ → ℕ) (logs : List Generation) → AtLogs P r logs → AtLogs Q r logs → AtLogs (λ x. P x × Q x) r logs
places_both P Q r [] a b = tt
places_both P Q r (log ∷ older) a b = ((a.0, b.0), entries_both P Q r log.entries a.1 b.1, places_both P Q (λ x. r (pass log.entries x)) older a.2 b.2)

pub sums_append : (image : Contents) (r : ℕ → ℕ) (es fs : List Backup) → SumsHold image (λ x. r (pass fs x)) es → SumsHold image r fs → SumsHold image r (es ++ fs)
sums_append image r [] fs before after = after
sums_append image r (e ∷ es) fs before after = (
  subst (λ (f : ℕ → ℕ). sum_at e.source (run_of (λ x. image (r (f x))) e.dest e.count) ≡ e.sum) (fun_ext (λ x. sym (pass-append es fs x))) before.0,
  sums_append image r es fs before.1 after,
)

pub sums_front : (image : Contents) (r : ℕ → ℕ) (es fs : List Backup) → SumsHold image r (es ++ fs) → SumsHold image (λ x. r (pass fs x)) es
sums_front image r [] fs sums = tt
sums_front image r (e ∷ es) fs sums = (
  subst (λ (f : ℕ → ℕ). sum_at e.source (run_of (λ x. image (r (f x))) e.dest e.count) ≡ e.sum) (fun_ext (λ x. pass-append es fs x)) sums.0,
  sums_front image r es fs sums.1,
)

pub sums_back : (image : Contents) (r : ℕ → ℕ) (es fs : List Backup) → SumsHold image r (es ++ fs) → SumsHold image r fs
sums_back image r [] fs sums = sums
sums_back image r (e ∷ es) fs sums = sums_back image r es fs sums.1

pub some_inj : {A : Type 0} {a b : A} → Some a ≡ Some b → a ≡ b
some_inj e = cc

module _ (g : Geometry) where
  -- no place that counts is 0, but for that of the log in block 0
  pub entries_pos : (r : ℕ → ℕ) → ((x : ℕ) → 0 < x → 0 < r x) → (es : List Backup) → Each (IsBackup g) es → AtSums (λ x. 0 < x) r es
  entries_pos r pos [] ok = tt
  entries_pos r pos (e ∷ es) ok = ((λ x h. pos _ (pass_pos g es x ok.1 (dest_pos g e x ok.0 h))), entries_pos r pos es ok.1)

  pub places_pos : (r : ℕ → ℕ) → ((x : ℕ) → 0 < r x) → (logs : List Generation) → Each (IsGeneration g) logs → AtLogs (λ x. 0 < x) r logs
  places_pos r pos [] ok = tt
  places_pos r pos (log ∷ older) ok = (pos 0, entries_pos r (λ x h. pos x) log.entries (ok.0).each, places_pos (λ x. r (pass log.entries x)) (λ x. pos _) older ok.1)

  -- each place that counts is on the device
  pub entries_inside : (r : ℕ → ℕ) → ((x : ℕ) → x < g.blocks → r x < g.blocks) → (es : List Backup) → Each (IsBackup g) es → AtSums (λ x. x < g.blocks) r es
  entries_inside r inside [] ok = tt
  entries_inside r inside (e ∷ es) ok = ((λ x h. inside _ (pass_inside g es x ok.1 (dest_inside g e x ok.0 h))), entries_inside r inside es ok.1)

  pub places_inside : 0 < g.blocks → (r : ℕ → ℕ) → ((x : ℕ) → x < g.blocks → r x < g.blocks) → (logs : List Generation) → Each (IsGeneration g) logs → AtLogs (λ x. x < g.blocks) r logs
  places_inside some r inside [] ok = tt
  places_inside some r inside (log ∷ older) ok = (
    inside 0 some,
    entries_inside r inside log.entries (ok.0).each,
    places_inside some (λ x. r (pass log.entries x)) (λ x h. inside _ (log_inside g log x ok.0 h)) older ok.1,
  )

  -- where the content of a block at the checkpoint lies is on the device
  pub base_inside : (logs : List Generation) (x : ℕ) → Each (IsGeneration g) logs → x < g.blocks → base logs x < g.blocks
  base_inside [] x ok h = h
  base_inside (log ∷ older) x ok h = log_inside g log (base older x) ok.0 (base_inside older x ok.1 h)

  pub chain_route : (image : Contents) (r s : ℕ → ℕ) (logs : List Generation) → ((x : ℕ) → r x ≡ s x) → IsChain g image r logs → IsChain g image s logs
  chain_route image r s logs same chain = subst (λ route. IsChain g image route logs) (fun_ext same) chain

  -- what a block spells keeps the rules of a log
  pub spelled_ok : IsValid g → (block : List ℕ) (log : Generation) → log_in g block ≡ Some log → IsGeneration g log
  unfolding log_in
  spelled_ok valid block log is = block_gives g block log valid is

  -- and so does each log of a chain
  pub chain_ok : IsValid g → (image : Contents) (r : ℕ → ℕ) (logs : List Generation) → IsChain g image r logs → Each (IsGeneration g) logs
  chain_ok valid image r [] chain = tt
  chain_ok valid image r (log ∷ older) chain = (spelled_ok valid (image (r 0)) log chain.0, chain_ok valid image (λ x. r (pass log.entries x)) older chain.4)

  pub older_ok : IsValid g → (image : Contents) (log : Generation) (older : List Generation) → StandsBehind g image log older → Each (IsGeneration g) older
  older_ok valid image log older b = chain_ok valid image (pass log.entries) older b.chain

  -- an image has one chain of a length
  pub same_chain : (image : Contents) (r : ℕ → ℕ) (one two : List Generation) → length one ≡ length two → IsChain g image r one → IsChain g image r two → one ≡ two
  same_chain image r [] [] len a b = refl
  same_chain image r [] (m ∷ ms) len a b = absurd (omega arith)
  same_chain image r (l ∷ ls) [] len a b = absurd (omega arith)
  same_chain image r (l ∷ ls) (m ∷ ms) len a b =
      let same : l ≡ m = some_inj (sym a.0 ∙ b.0) in
      ap₂ ◌∷◌ same (same_chain image (λ x. r (pass l.entries x)) ls ms (omega arith) a.4 (subst (λ (n : Generation). IsChain g image (λ x. r (pass n.entries x)) ms) (sym same) b.4))

  -- an image is sound in one way
  pub same_sound : (image : Contents) (l m : Generation) (ls ms : List Generation) → IsSound g image l ls → IsSound g image m ms → (l ∷ ls) ≡ (m ∷ ms)
  same_sound image l m ls ms a b =
      let same : l ≡ m = some_inj (sym a.spelled ∙ b.spelled) in
      let long : length ls ≡ length ms = sym (a.behind).sequence ∙ ap (λ (n : Generation). n.sequence) same ∙ (b.behind).sequence in
      ap₂ ◌∷◌ same (same_chain image (pass l.entries) ls ms long (a.behind).chain (subst (λ (n : Generation). IsChain g image (pass n.entries) ms) (sym same) (b.behind).chain))
