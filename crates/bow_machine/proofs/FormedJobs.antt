-- What a batch that is formed for a head has ready: the current block 0 that moves, the full log, or the blocks to copy.
use Rattle.std.proofs.Common.{ℕ, zero, suc, ◌+◌, ◌-◌, ◌<◌, ◌≤◌, ◌≡◌, ◌≢◌, ◌⊎◌, min, Bool, true, false, cond, List, [], ◌∷◌, length, arith, refl, sym, ap, ◌∙◌, subst, inl, inr}
use Rattle.std.proofs.lemmas.Bool.{cases_lt, false≢true}
use Rattle.bow_units.specs.declared.sizes.Geometry.{Geometry}
use Rattle.bow_units.specs.declared.sizes.Extent.{Extent}
use Rattle.bow_units.specs.declared.statuses.Kind.{Kind}
use Rattle.bow_units.specs.declared.statuses.Kind.TheVariants.{Sector0, Current, Unchanged, Free, Changed, Backup, Saved}
use Rattle.bow_log.specs.Generations.{Generation, room}
use Rattle.bow_ranges.specs.Kinds.{kind_at, with_kind}
use Rattle.bow_ranges.specs.Picks.{IsPicked}
use Rattle.bow_machine.specs.Requests.{Request}
use Rattle.bow_machine.specs.Memory.{Memory, Empty, is_kind_current, may_be_written}
use Rattle.bow_machine.specs.Tasks.{is_source, alike_from, copied_from, spelling}
use Rattle.bow_machine.specs.MemoryIsSound.{IsTable, LogIsSound, LinkIsReady, CopyIsReady, MoveIsReady}
use Rattle.bow_machine.proofs.BatchStands.{working}
use Rattle.bow_machine.proofs.Tables.{kind_in}
use Rattle.bow_machine.proofs.FormedHeads.{IsHead, IsFreeRun, free_run, not_picked}

-- ----------------------------------------------------------------------------------------------------------------
-- The blocks that a copy backs up.

pub source_kind : (k other : Kind) → is_source k other ≡ true → (other ≡ Unchanged) ⊎ (other ≡ Backup)
source_kind k other is = grind arith

pub is_one : (k : Kind) → (k ≡ Unchanged) ⊎ (k ≡ Backup) → is_source k k ≡ true
is_one k h = grind arith

pub kept_kinds : (k : Kind) → may_be_written k ≡ false → k ≢ Sector0 → is_kind_current k ≡ false → k ≢ Saved
    → (k ≡ Unchanged) ⊎ (k ≡ Backup)
kept_kinds Sector0 held zeroth current saved = absurd (zeroth refl)
kept_kinds Current held zeroth current saved = absurd (false≢true (sym current))
kept_kinds Unchanged held zeroth current saved = inl refl
kept_kinds Free held zeroth current saved = absurd (false≢true (sym held))
kept_kinds Changed held zeroth current saved = absurd (false≢true (sym held))
kept_kinds Backup held zeroth current saved = inr refl
kept_kinds Saved held zeroth current saved = absurd (saved refl)

pub current_kind : (k : Kind) → is_kind_current k ≡ true → k ≡ Current
current_kind k is = grind arith

pub alike_most : (table : List Kind) (kind : Kind) (first most : ℕ) → alike_from table kind first most ≤ most
alike_most table kind first zero = omega arith
alike_most table kind first (suc most) =
    go (is_source kind (kind_at table first)) (alike_most table kind (suc first) most)
  where
    go : (t : Bool) → alike_from table kind (suc first) most ≤ most
        → cond t (suc (alike_from table kind (suc first) most)) 0 ≤ suc most
    go true rest = omega arith
    go false rest = omega arith

pub alike_some : (table : List Kind) (kind : Kind) (first most : ℕ) → 1 ≤ most → is_source kind (kind_at table first) ≡ true
    → 1 ≤ alike_from table kind first most
alike_some table kind first zero some is = absurd (omega arith)
alike_some table kind first (suc most) some is = rw is (omega arith)

pub alike_at : (table : List Kind) (kind : Kind) (most first j : ℕ) → j < alike_from table kind first most
    → is_source kind (kind_at table (first + j)) ≡ true
alike_at table kind zero first j below = absurd (omega arith)
alike_at table kind (suc most) first j below =
    go (is_source kind (kind_at table first)) refl (alike_at table kind most (suc first)) j below
  where
    go : (t : Bool) → is_source kind (kind_at table first) ≡ t
        → ((j : ℕ) → j < alike_from table kind (suc first) most → is_source kind (kind_at table (suc first + j)) ≡ true)
        → (j : ℕ) → j < cond t (suc (alike_from table kind (suc first) most)) 0
        → is_source kind (kind_at table (first + j)) ≡ true
    go true is rest zero below = let here : first + 0 ≡ first = omega arith in ap (λ b. is_source kind (kind_at table b)) here ∙ is
    go true is rest (suc j) below = let next : first + suc j ≡ suc first + j = omega arith in ap (λ b. is_source kind (kind_at table b)) next ∙ rest j (omega arith)
    go false is rest j below = absurd (omega arith)

-- two runs, one of free blocks and one of others
pub runs_apart : (kinds : List Kind) (s d n : ℕ) → ((j : ℕ) → j < n → kind_at kinds (s + j) ≢ Free)
    → ((j : ℕ) → j < n → kind_at kinds (d + j) ≡ Free) → (s + n ≤ d) ⊎ (d + n ≤ s)
runs_apart kinds s d n used free = elim (cases_lt s d) [
  | inl below ↦ elim (cases_lt d (s + n)) [
    | inl meets ↦ let there : s + (d - s) ≡ d + 0 = omega arith in absurd (used (d - s) (omega arith) (ap (kind_at kinds) there ∙ free 0 (omega arith)))
    | inr past ↦ inl past
  ]
  | inr above ↦ elim (cases_lt s (d + n)) [
    | inl meets ↦ let there : s + 0 ≡ d + (s - d) = omega arith in absurd (used 0 (omega arith) (ap (kind_at kinds) there ∙ free (s - d) (omega arith)))
    | inr past ↦ inr past
  ]
]

pub source_not_free : (k : Kind) → (k ≡ Unchanged) ⊎ (k ≡ Backup) → k ≢ Free
source_not_free k h is = grind arith

-- ----------------------------------------------------------------------------------------------------------------

module _ (g : Geometry) (m : Memory) (log : Generation) (r : Request) (e : Extent) (p : List ℕ) (head : IsHead g m r e p)
    (is_table : IsTable g m.kinds) (kept : LogIsSound g m.kinds m.clean m.trimmed 0 log) where
  abbrev pub next : ℕ
  next = e.first + r.done

  pub next_inside : next < g.blocks
  next_inside = omega (arith, head.inside, head.left)

  abbrev pub copied : Extent
  copied = copied_from (working m Empty log) r e

  pub one_picked : (d : Extent) → IsPicked m.kinds 1 d → record { first = d.first; count = 1 } ≡ d
  one_picked d is = let one : 1 ≡ d.count = omega (arith, is.some, is.most) in ap (λ n. let x : Extent = record { first = d.first; count = n } in x) one

  taken_kind : (d : Extent) → IsFreeRun g m.kinds d → (j : ℕ) → j < d.count → kind_at (with_kind m.kinds d Backup) (d.first + j) ≡ Backup
  taken_kind d run j below = kind_in m.kinds d Backup (d.first + j) (omega (arith, run.inside, is_table.size)) (omega arith) (omega (arith, below))

  taken_first : (d : Extent) → IsFreeRun g m.kinds d → kind_at (with_kind m.kinds d Backup) d.first ≡ Backup
  taken_first d run = kind_in m.kinds d Backup d.first (omega (arith, run.inside, is_table.size)) (omega arith) (omega (arith, run.some))

  pub move_ready : is_kind_current (kind_at m.kinds next) ≡ true → (d : Extent) → IsFreeRun g m.kinds d → MoveIsReady g (with_kind m.kinds d Backup) log next d.first 0 []
  move_ready is d run = record { from_current = kept.only_current next next_inside (current_kind _ is); inside = omega (arith, run.inside, run.some); kind = taken_first d run; buffer = refl }

  pub link_ready : length log.entries ≡ room g.block_size → (d : Extent) → IsFreeRun g m.kinds d → LinkIsReady g (with_kind m.kinds d Backup) log d.first (spelling g log ∷ [])
  link_ready full d run = record { inside = omega (arith, run.inside, run.some); kind = taken_first d run; full = full; buffer = refl }

  pub next_source : m.clean ≡ true → is_kind_current (kind_at m.kinds next) ≡ false → (kind_at m.kinds next ≡ Unchanged) ⊎ (kind_at m.kinds next ≡ Backup)
  next_source clean other = kept_kinds _ head.kept_back (λ is. head.not_0 (is_table.only_0 next next_inside is)) other (kept.none_saved clean next next_inside)

  pub copied_some : (kind_at m.kinds next ≡ Unchanged) ⊎ (kind_at m.kinds next ≡ Backup) → 1 ≤ copied.count
  copied_some h = alike_some m.kinds (kind_at m.kinds next) next (min 8 (e.count - r.done)) (omega (arith, head.left)) (is_one _ h)

  -- so many blocks are copied at most
  pub copied_most : copied.count ≤ min 8 (e.count - r.done)
  copied_most = alike_most m.kinds (kind_at m.kinds next) next (min 8 (e.count - r.done))

  pub copy_ready : (length log.entries ≡ room g.block_size → ⊥) → (d : Extent) → IsPicked m.kinds copied.count d → CopyIsReady g (with_kind m.kinds d Backup) log next d.first d.count 0 []
  copy_ready not_full d picked = record {
    some = run.some;
    few = omega (arith, picked.most, copied_most);
    not_full = omega (arith, kept.generation.few, not_full);
    source_inside = omega (arith, picked.most, copied_most, head.inside, head.left);
    dest_inside = run.inside;
    sources = λ j below. subst (λ k. (k ≡ Unchanged) ⊎ (k ≡ Backup)) (sym (not_picked g m.kinds d (next + j) is_table.size run (source_not_free _ (sources j below)))) (sources j below);
    dests = taken_kind d run;
    apart = runs_apart m.kinds next d.first d.count (λ j below. source_not_free _ (sources j below)) run.free;
    buffer = omega arith;
  }
    where
      run : IsFreeRun g m.kinds d
      run = free_run g m.kinds copied.count d is_table.size picked

      sources : (j : ℕ) → j < d.count → (kind_at m.kinds (next + j) ≡ Unchanged) ⊎ (kind_at m.kinds (next + j) ≡ Backup)
      sources j below = source_kind _ _ (alike_at m.kinds (kind_at m.kinds next) (min 8 (e.count - r.done)) next j (omega (arith, below, picked.most)))
