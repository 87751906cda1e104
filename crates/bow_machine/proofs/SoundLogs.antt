-- The log in memory and the kinds: what a batch picks and gives up, what each log write changes, and what the last flush cleans.
use Rattle.std.proofs.Common.{ℕ, zero, suc, ◌+◌, ◌-◌, ◌*◌, ◌^◌, ◌<◌, ◌≤◌, ◌≡◌, ◌≢◌, ◌⊎◌, Bool, true, false, cond, List, [], ◌∷◌, ◌++◌, length, map, arith, refl, sym, ap, ◌∙◌, subst, inl, inr, length-append}
use Rattle.std.proofs.lemmas.Bool.{cases_eq, cases_lt, false≢true}
use Rattle.std.proofs.lemmas.List.{length-map, length-replicate}
use Rattle.std.specs.Prelude.{flat_map}
use Rattle.bow_units.specs.declared.sizes.Geometry.{Geometry}
use Rattle.bow_units.specs.declared.sizes.Extent.{Extent}
use Rattle.bow_units.specs.Sizes.{IsValid}
use Rattle.bow_units.specs.declared.statuses.Kind.{Kind}
use Rattle.bow_units.specs.declared.statuses.Kind.TheVariants.{Sector0, Current, Unchanged, Free, Changed, Backup as BackupKind, Saved}
use Rattle.bow_log.specs.declared.entries.Entry.{Entry}
use Rattle.bow_log.specs.Spelling.{Fields, header, entry_text, spell}
use Rattle.bow_log.specs.Generations.{Backup, Generation, IsBackup, StartsWith0, room, entry_of, fields_of}
use Rattle.bow_log.proofs.Clean.{room_fits}
use Rattle.bow_copy.specs.declared.jobs.Job.{Job}
use Rattle.bow_copy.specs.declared.jobs.Job.TheVariants.{Rewrite, Link, Copy, Move}
use Rattle.bow_guard.specs.Device.{unsaved}
use Rattle.bow_ranges.specs.Kinds.{kind_at, with_kind, is_free, count_of}
use Rattle.bow_machine.specs.Memory.{may_be_written}
use Rattle.bow_machine.specs.Tasks.{spelling}
use Rattle.bow_machine.specs.Steps.{copy_entry, log_for, kinds_for, one_block}
use Rattle.bow_machine.specs.MemoryIsSound.{IsTable, is_touched}
use Rattle.bow_machine.specs.MemoryIsSound.{LogIsSound, LinkIsReady, CopyIsReady, MoveIsReady}
use Rattle.bow_machine.specs.Ties.{LogGoesOn}
use Rattle.bow_machine.proofs.Spelled.{sum_small}
use Rattle.bow_machine.proofs.RequestLists.{each_append}
use Rattle.bow_machine.proofs.Tables.{holds_cases, kind_in, kind_out, kind_one, kind_unsaved, length_with, count_with, count_part, count_one, count_unsaved, table_with, kind_other}

-- ----------------------------------------------------------------------------------------------------------------
-- The length of a log's block.

texts_length : (es : List Entry) → length (flat_map entry_text es) ≡ 24 * length es
texts_length [] = refl
texts_length (e ∷ es) = omega (arith, length-append (entry_text e) (flat_map entry_text es), texts_length es)

spell_length : (log : Fields) → 28 + 24 * length log.entries ≤ log.block_size → length (spell log) ≡ log.block_size
unfolding spell
spell_length log fits =
    let zeros = length-replicate {A = ℕ} (log.block_size - 28 - 24 * length log.entries) 0 in
    let texts = texts_length log.entries in
    let head : length (header log) ≡ 28 = refl in
    simp (length-append) (omega (arith, zeros, texts, fits, head))

-- the log in memory is one block
pub spelling_length : (g : Geometry) (log : Generation) → IsValid g → length log.entries ≤ room g.block_size → length (spelling g log) ≡ g.block_size
spelling_length g log sizes few =
    let same : length (map (entry_of g) log.entries) ≡ length log.entries = length-map log.entries (entry_of g) in
    spell_length (fields_of g log) (omega (arith, same, few, (room_fits g sizes).0))

-- ----------------------------------------------------------------------------------------------------------------
-- Blocks are picked, or given up.

-- the kinds of blocks that are picked and given up
abbrev pub IsSpare : Kind → Type 0
IsSpare kind = (kind ≡ Free) ⊎ (kind ≡ BackupKind)

pub spare_not_0 : (k : Kind) → IsSpare k → k ≢ Sector0
spare_not_0 k h = grind arith

pub spare_not_current : (k : Kind) → IsSpare k → k ≢ Current
spare_not_current k h = grind arith

pub spare_not_saved : (k : Kind) → IsSpare k → k ≢ Saved
spare_not_saved k h = grind arith

pub spare_untouched : (k : Kind) → IsSpare k → is_touched k ≡ false
spare_untouched k h = grind arith

pub spare_uncounted : (k : Kind) → IsSpare k → (n : ℕ) → n * cond (is_touched k) 1 0 ≡ 0
spare_uncounted k h n = rw (spare_untouched k h) (omega arith)

-- block 0 has a kind of its own
pub above_0 : (table : List Kind) (b : ℕ) → kind_at table 0 ≡ Sector0 → kind_at table b ≢ Sector0 → 0 < b
above_0 table zero zeroth ne = absurd (ne zeroth)
above_0 table (suc b) zeroth ne = omega arith

module _ (g : Geometry) (table : List Kind) (e : Extent) (old kind : Kind) (is_table : IsTable g table) (inside : e.first + e.count ≤ g.blocks)
    (was : (j : ℕ) → j < e.count → kind_at table (e.first + j) ≡ old) (spare_old : IsSpare old) (spare : IsSpare kind) where
  abbrev new : List Kind
  new = with_kind table e kind

  fits : e.first + e.count ≤ length table
  fits = omega (arith, inside, is_table.size)

  -- a block of the extent has the new kind, each other one its old kind
  pub respared : (x : ℕ) → ((kind_at table x ≡ old) × (kind_at new x ≡ kind)) ⊎ (kind_at new x ≡ kind_at table x)
  respared x = elim (holds_cases e x) [
    | inl (low, high, is) ↦ let there : e.first + (x - e.first) ≡ x = omega arith in inl (ap (kind_at table) (sym there) ∙ was (x - e.first) (omega arith), kind_in table e kind x fits low high)
    | inr (out, is) ↦ inr (kind_out table e kind x fits out)
  ]

  kept : (x : ℕ) (other : Kind) → kind_at table x ≡ other → other ≢ old → kind_at new x ≡ other
  kept x other is ne = elim (respared x) [ inl h ↦ absurd (ne (sym is ∙ h.0)) | inr h ↦ h ∙ is ]

  had : (x : ℕ) (other : Kind) → kind_at new x ≡ other → other ≢ kind → kind_at table x ≡ other
  had x other is ne = elim (respared x) [ inl h ↦ absurd (ne (sym is ∙ h.1)) | inr h ↦ sym h ∙ is ]

  pub spare_table : IsTable g new
  spare_table = table_with g table e kind (spare_not_0 kind spare) inside above is_table
    where
      above : (0 < e.first) ⊎ (e.count ≡ 0)
      above = elim (cases_lt 0 e.first) [
        | inl some ↦ inl some
        | inr none ↦ elim (cases_lt 0 e.count) [
          | inl some ↦ let first : e.first + 0 ≡ 0 = omega arith in absurd (spare_not_0 old spare_old (sym (was 0 some) ∙ ap (kind_at table) first ∙ is_table.zeroth))
          | inr empty ↦ inr (omega arith)
        ]
      ]

  pub spare_free : count_of is_free new + e.count * cond (is_free old) 1 0 ≡ count_of is_free table + e.count * cond (is_free kind) 1 0
  spare_free =
      let free = count_with table e kind is_free fits in
      let part = count_part table e.first e.count is_free (is_free old) fits (λ j below. ap is_free (was j below)) in
      omega (arith, free, part)

  -- the log is so over the new kinds, with more or fewer picked
  pub spare_log : (clean : Bool) (trimmed picked : ℕ) (log : Generation) → LogIsSound g table clean trimmed (picked + e.count * cond (is_free kind) 1 0) log
      → LogIsSound g new clean trimmed (picked + e.count * cond (is_free old) 1 0) log
  spare_log clean trimmed picked log k = record {
    own = k.own;
    generation = k.generation;
    fits = k.fits;
    current = kept log.current Current k.current (λ e. spare_not_current old spare_old (sym e));
    only_current = λ b on is. k.only_current b on (had b Current is (λ e. spare_not_current kind spare (sym e)));
    none_saved = λ c b on is. k.none_saved c b on (had b Saved is (λ e. spare_not_saved kind spare (sym e)));
    room =
        let touched = count_with table e kind is_touched fits in
        let part = count_part table e.first e.count is_touched false fits (λ j below. ap is_touched (was j below) ∙ spare_untouched old spare_old) in
        let none = spare_uncounted kind spare e.count in
        omega (arith, spare_free, touched, part, none, k.room);
    bounded = k.bounded;
  }

-- ----------------------------------------------------------------------------------------------------------------
-- What a log write changes.

pub starts_some : (entries : List Backup) → StartsWith0 entries → 1 ≤ length entries
starts_some [] h = absurd h
starts_some (b ∷ bs) h = omega arith

pub start_more : (entries : List Backup) (b : Backup) → 0 < b.source → StartsWith0 entries → StartsWith0 (entries ++ b ∷ [])
start_more [] b above h = absurd h
start_more (e ∷ es) b above h = (h.0, h.1, each_append (λ (other : Backup). 0 < other.source) es (b ∷ []) h.2 (above, tt))

-- a kind from which blocks are copied
pub source_not_0 : (k : Kind) → (k ≡ Unchanged) ⊎ (k ≡ BackupKind) → k ≢ Sector0
source_not_0 k h = grind arith

pub source_not_current : (k : Kind) → (k ≡ Unchanged) ⊎ (k ≡ BackupKind) → k ≢ Current
source_not_current k h = grind arith

pub source_not_free : (k : Kind) → (k ≡ Unchanged) ⊎ (k ≡ BackupKind) → is_free k ≡ false
source_not_free k h = grind arith

pub source_not_touched : (k : Kind) → (k ≡ Unchanged) ⊎ (k ≡ BackupKind) → is_touched k ≡ false
source_not_touched k h = grind arith

abbrev pub moved_table : List Kind → ℕ → ℕ → List Kind
moved_table table from to = with_kind (with_kind table (one_block to) Current) (one_block from) Saved

module _ (table : List Kind) (from to : ℕ) (inside : from < length table) (there : to < length table) where
  pub still_inside : from < length (with_kind table (one_block to) Current)
  still_inside = omega (arith, length_with table (one_block to) Current (omega (arith, there)))

  pub moved_from : kind_at (moved_table table from to) from ≡ Saved
  moved_from = kind_one (with_kind table (one_block to) Current) from Saved still_inside

  pub moved_to : to ≢ from → kind_at (moved_table table from to) to ≡ Current
  moved_to ne =
      kind_other (with_kind table (one_block to) Current) from Saved to still_inside ne
      ∙ kind_one table to Current there

  pub moved_other : (x : ℕ) → x ≢ from → x ≢ to → kind_at (moved_table table from to) x ≡ kind_at table x
  moved_other x not_from not_to =
      kind_other (with_kind table (one_block to) Current) from Saved x still_inside not_from
      ∙ kind_other table to Current x there not_to

  -- each block is one of the two, or as it was
  pub moved_cases : (P : ℕ → Kind → Type 0) → to ≢ from → P from Saved → P to Current
      → ((x : ℕ) → x ≢ from → x ≢ to → P x (kind_at table x)) → (x : ℕ) → P x (kind_at (moved_table table from to) x)
  moved_cases P ne at_from at_to other x = elim (cases_eq x from) [
    | inl is ↦ subst (λ y. P y (kind_at (moved_table table from to) y)) (sym is) (subst (P from) (sym moved_from) at_from)
    | inr not_from ↦ elim (cases_eq x to) [
      | inl is ↦ subst (λ y. P y (kind_at (moved_table table from to) y)) (sym is) (subst (P to) (sym (moved_to ne)) at_to)
      | inr not_to ↦ subst (P x) (sym (moved_other x not_from not_to)) (other x not_from not_to)
    ]
  ]

source_not_saved : (k : Kind) → (k ≡ Unchanged) ⊎ (k ≡ BackupKind) → k ≢ Saved
source_not_saved k h = grind arith

-- the blocks that a job saves
abbrev pub InSaved : Job → ℕ → Type 0
InSaved Rewrite x = ⊥
InSaved (Link dest) x = ⊥
InSaved (Copy source dest count) x = (source ≤ x) × (x < source + count)
InSaved (Move from to) x = x ≡ from

-- the log and the kinds just before a log write: the log can be written, and the kinds are a table
pub record LogChange (g : Geometry) (table : List Kind) (trimmed : ℕ) (log : Generation) (job : Job) (slots : List (List ℕ)) : Type 0 where
  pub sound : LogIsSound g (kinds_for job table) false trimmed 0 (log_for job slots log)
  pub is_table : IsTable g (kinds_for job table)
  pub kept_back : (b : ℕ) → may_be_written (kind_at table b) ≡ false → may_be_written (kind_at (kinds_for job table) b) ≡ false
  pub free : count_of is_free (kinds_for job table) ≡ count_of is_free table
  pub saved : (x : ℕ) → kind_at (kinds_for job table) x ≡ Saved → (kind_at table x ≡ Saved) ⊎ InSaved job x
  pub touched : (x : ℕ) → is_touched (kind_at (kinds_for job table) x) ≡ true → (is_touched (kind_at table x) ≡ true) ⊎ InSaved job x
  pub goes_on : LogGoesOn g table (kinds_for job table) log (log_for job slots log)
  pub stays : (x : ℕ) → is_touched (kind_at table x) ≡ true → kind_at (kinds_for job table) x ≡ kind_at table x

module _ (g : Geometry) (table : List Kind) (clean : Bool) (trimmed : ℕ) (log : Generation) (slots : List (List ℕ)) (sizes : IsValid g) (is_table : IsTable g table) where
  pub rewrite_change : LogIsSound g table clean trimmed 0 log → LogChange g table trimmed log Rewrite slots
  rewrite_change k = record {
    sound = record { own = k.own; generation = k.generation; fits = k.fits; current = k.current; only_current = k.only_current; none_saved = λ c. absurd (grind arith); room = k.room; bounded = k.bounded };
    is_table = is_table;
    kept_back = λ b kept. kept;
    free = refl;
    saved = λ x is. inl is;
    touched = λ x is. inl is;
    goes_on = record { sequence = inl refl; copies = inl refl };
    stays = λ x is. refl;
  }

  pub link_change : (dest : ℕ) → LinkIsReady g table log dest slots → LogIsSound g table clean trimmed 1 log → LogChange g table trimmed log (Link dest) slots
  link_change dest h k = record {
    sound = record {
      own = refl;
      generation = record {
        few = omega (arith, k.generation.few, starts_some log.entries k.generation.start);
        current_not_0 = k.generation.current_not_0;
        current_inside = k.generation.current_inside;
        each = (record { some = omega arith; source_inside = omega (arith, sizes.enough); dest_inside = omega (arith, h.inside); apart = inl (omega (arith, above)); dest_not_0 = above }, tt);
        start = (refl, refl, tt);
      };
      fits = record { sequence = omega (arith, k.room, k.bounded, sizes.few); sums = (sum_small 0 slots, tt) };
      current = k.current;
      only_current = k.only_current;
      none_saved = λ c. absurd (grind arith);
      room = omega (arith, k.room);
      bounded = k.bounded;
    };
    is_table = is_table;
    kept_back = λ b kept. kept;
    free = refl;
    saved = λ x is. inl is;
    touched = λ x is. inl is;
    goes_on = record { sequence = inr (refl, h.full); copies = inl (let split : (log.sequence + 1) * (room g.block_size - 1) ≡ log.sequence * (room g.block_size - 1) + (room g.block_size - 1) = omega arith in omega (arith, split, h.full)) };
    stays = λ x is. refl;
  }
    where
      above : 0 < dest
      above = above_0 table dest is_table.zeroth (λ is. let clash : BackupKind ≡ Sector0 = sym h.kind ∙ is in absurd (grind arith))

  module _ (source dest count : ℕ) (h : CopyIsReady g table log source dest count (2 * count + 1) slots) (k : LogIsSound g table clean trimmed count log) where
    abbrev from : Extent
    from = record { first = source; count = count }

    abbrev saved : List Kind
    saved = with_kind table from Saved

    source_fits : source + count ≤ length table
    source_fits = omega (arith, h.source_inside, is_table.size)

    first : (b : ℕ) → b + 0 ≡ b
    first b = omega arith

    source_above : 0 < source
    source_above = above_0 table source is_table.zeroth (λ is. source_not_0 _ (h.sources 0 h.some) (ap (kind_at table) (first source) ∙ is))

    dest_above : 0 < dest
    dest_above = above_0 table dest is_table.zeroth (λ is. let clash : BackupKind ≡ Sector0 = sym (h.dests 0 h.some) ∙ ap (kind_at table) (first dest) ∙ is in absurd (grind arith))

    -- a source is saved, and each other block has its old kind
    saved_cases : (x : ℕ) → (((kind_at table x ≡ Unchanged) ⊎ (kind_at table x ≡ BackupKind)) × (kind_at saved x ≡ Saved)) ⊎ (kind_at saved x ≡ kind_at table x)
    saved_cases x = elim (holds_cases from x) [
      | inl (low, high, held) ↦
          let there : source + (x - source) ≡ x = omega arith in
          inl (subst (λ y. (kind_at table y ≡ Unchanged) ⊎ (kind_at table y ≡ BackupKind)) there (h.sources (x - source) (omega arith)), kind_in table from Saved x source_fits low high)
      | inr (out, held) ↦ inr (kind_out table from Saved x source_fits out)
    ]

    abbrev entry : Backup
    entry = copy_entry source dest count slots

    pub copy_change : LogChange g table trimmed log (Copy source dest count) slots
    copy_change = record {
      sound = record {
        own = k.own;
        generation = record {
          few = omega (arith, h.not_full, length-append log.entries (entry ∷ []));
          current_not_0 = k.generation.current_not_0;
          current_inside = k.generation.current_inside;
          each = each_append (IsBackup g) log.entries (entry ∷ []) k.generation.each (record { some = h.some; source_inside = h.source_inside; dest_inside = h.dest_inside; apart = h.apart; dest_not_0 = dest_above }, tt);
          start = start_more log.entries entry source_above k.generation.start;
        };
        fits = record { sequence = k.fits.sequence; sums = each_append (λ (b : Backup). b.sum < 2 ^ 32) log.entries (entry ∷ []) k.fits.sums (sum_small source slots, tt) };
        current = elim (saved_cases log.current) [ inl was ↦ absurd (source_not_current _ was.0 k.current) | inr same ↦ same ∙ k.current ];
        only_current = λ b on is. elim (saved_cases b) [ inl was ↦ absurd (let n : Saved ≡ Current = sym was.1 ∙ is in grind arith) | inr same ↦ k.only_current b on (sym same ∙ is) ];
        none_saved = λ c. absurd (grind arith);
        room =
            let touched = count_with table from Saved is_touched source_fits in
            let part = count_part table source count is_touched false source_fits (λ j below. source_not_touched _ (h.sources j below)) in
            omega (arith, same_free, touched, part, k.room);
        bounded = k.bounded;
      };
      is_table = table_with g table from Saved (λ e. absurd (grind arith)) h.source_inside (inl source_above) is_table;
      kept_back = λ b kept. elim (saved_cases b) [ inl was ↦ ap may_be_written was.1 | inr same ↦ ap may_be_written same ∙ kept ];
      free = same_free;
      saved = λ x is. elim (holds_cases from x) [ inl (low, high, held) ↦ inr (low, high) | inr (out, held) ↦ inl (sym (kind_out table from Saved x source_fits out) ∙ is) ];
      touched = λ x is. elim (holds_cases from x) [ inl (low, high, held) ↦ inr (low, high) | inr (out, held) ↦ inl (ap is_touched (sym (kind_out table from Saved x source_fits out)) ∙ is) ];
      goes_on = record {
        sequence = inl refl;
        copies = inr (
          omega (arith, length-append log.entries (entry ∷ []), starts_some log.entries k.generation.start),
          (source, omega (arith, h.source_inside, h.some), (λ is. source_not_saved _ (h.sources 0 h.some) (ap (kind_at table) (first source) ∙ is)), kind_in table from Saved source source_fits (omega arith) (omega (arith, h.some))),
        );
      };
      stays = λ x is. elim (saved_cases x) [ inl was ↦ absurd (false≢true (sym (source_not_touched _ was.0) ∙ is)) | inr same ↦ same ];
    }
      where
        same_free : count_of is_free saved ≡ count_of is_free table
        same_free =
            let free = count_with table from Saved is_free source_fits in
            let part = count_part table source count is_free false source_fits (λ j below. source_not_free _ (h.sources j below)) in
            omega (arith, free, part)

  module _ (place to : ℕ) (h : MoveIsReady g table log place to 3 slots) (k : LogIsSound g table clean trimmed 1 log) where
    apart : place ≢ to
    apart is = let clash : Current ≡ BackupKind = sym k.current ∙ ap (kind_at table) (sym h.from_current ∙ is) ∙ h.kind in absurd (grind arith)

    place_kind : kind_at table place ≡ Current
    place_kind = ap (kind_at table) h.from_current ∙ k.current

    place_inside : place < length table
    place_inside = omega (arith, h.from_current, k.generation.current_inside, is_table.size)

    to_inside : to < length table
    to_inside = omega (arith, h.inside, is_table.size)

    each_kind : (P : ℕ → Kind → Type 0) → P place Saved → P to Current → ((x : ℕ) → x ≢ place → x ≢ to → P x (kind_at table x)) → (x : ℕ) → P x (kind_at (moved_table table place to) x)
    each_kind P = moved_cases table place to place_inside to_inside P (λ is. apart (sym is))

    to_above : 0 < to
    to_above = above_0 table to is_table.zeroth (λ is. let clash : BackupKind ≡ Sector0 = sym h.kind ∙ is in absurd (grind arith))

    place_above : 0 < place
    place_above = above_0 table place is_table.zeroth (λ is. let clash : Current ≡ Sector0 = sym place_kind ∙ is in absurd (grind arith))

    abbrev first_table : List Kind
    first_table = with_kind table (one_block to) Current

    at_place : kind_at first_table place ≡ Current
    at_place = kind_other table to Current place to_inside apart ∙ place_kind

    move_free : count_of is_free (moved_table table place to) ≡ count_of is_free table
    move_free =
        let one : Kind → ℕ = λ kind. cond (is_free kind) 1 0 in
        let first = count_one table to Current is_free to_inside in
        let second = count_one first_table place Saved is_free (still_inside table place to place_inside to_inside) in
        omega (arith, first, second, ap one h.kind, ap one at_place)

    move_touched : count_of is_touched (moved_table table place to) ≡ count_of is_touched table + 1
    move_touched =
        let one : Kind → ℕ = λ kind. cond (is_touched kind) 1 0 in
        let first = count_one table to Current is_touched to_inside in
        let second = count_one first_table place Saved is_touched (still_inside table place to place_inside to_inside) in
        omega (arith, first, second, ap one h.kind, ap one at_place)

    pub move_change : LogChange g table trimmed log (Move place to) slots
    move_change = record {
      sound = record {
        own = k.own;
        generation = record { few = k.generation.few; current_not_0 = to_above; current_inside = h.inside; each = k.generation.each; start = k.generation.start };
        fits = record { sequence = k.fits.sequence; sums = k.fits.sums };
        current = moved_to table place to place_inside to_inside (λ is. apart (sym is));
        only_current = each_kind (λ x kind. x < g.blocks → kind ≡ Current → x ≡ to) (λ on is. absurd (grind arith)) (λ on is. refl) (λ x no_from no_to on is. absurd (no_from (k.only_current x on is ∙ sym h.from_current)));
        none_saved = λ c. absurd (grind arith);
        room = omega (arith, move_free, move_touched, k.room);
        bounded = k.bounded;
      };
      is_table = table_with g first_table (one_block place) Saved (λ e. absurd (grind arith)) (omega (arith, place_inside, is_table.size)) (inl place_above)
          (table_with g table (one_block to) Current (λ e. absurd (grind arith)) (omega (arith, h.inside)) (inl to_above) is_table);
      kept_back = each_kind (λ x kind. may_be_written (kind_at table x) ≡ false → may_be_written kind ≡ false) (λ kept. refl) (λ kept. refl) (λ x no_from no_to kept. kept);
      free = move_free;
      saved = each_kind (λ x kind. kind ≡ Saved → (kind_at table x ≡ Saved) ⊎ (x ≡ place)) (λ is. inr refl) (λ is. absurd (grind arith)) (λ x no_from no_to is. inl is);
      touched = each_kind (λ x kind. is_touched kind ≡ true → (is_touched (kind_at table x) ≡ true) ⊎ (x ≡ place)) (λ is. inr refl) (λ is. absurd (false≢true is)) (λ x no_from no_to is. inl is);
      goes_on = record { sequence = inl refl; copies = inl refl };
      stays = each_kind (λ x kind. is_touched (kind_at table x) ≡ true → kind ≡ kind_at table x) (λ is. absurd (false≢true (ap is_touched (sym place_kind) ∙ is))) (λ is. absurd (false≢true (ap is_touched (sym h.kind) ∙ is))) (λ x no_from no_to is. refl);
    }

-- ----------------------------------------------------------------------------------------------------------------
-- The last flush.

pub not_unsaved : (k : Kind) → unsaved k ≢ Saved
not_unsaved Sector0 is = absurd (grind arith)
not_unsaved Current is = absurd (grind arith)
not_unsaved Unchanged is = absurd (grind arith)
not_unsaved Free is = absurd (grind arith)
not_unsaved Changed is = absurd (grind arith)
not_unsaved BackupKind is = absurd (grind arith)
not_unsaved Saved is = absurd (grind arith)

pub was_current : (k : Kind) → unsaved k ≡ Current → k ≡ Current
was_current Sector0 h = h
was_current Current h = h
was_current Unchanged h = h
was_current Free h = h
was_current Changed h = h
was_current BackupKind h = h
was_current Saved h = absurd (grind arith)

-- the log is clean over what was saved and is changed now
pub clean_log : (g : Geometry) (table : List Kind) (clean : Bool) (trimmed : ℕ) (log : Generation) → LogIsSound g table clean trimmed 0 log → LogIsSound g (map unsaved table) true trimmed 0 log
clean_log g table clean trimmed log k = record {
  own = k.own;
  generation = k.generation;
  fits = k.fits;
  current = kind_unsaved table log.current ∙ ap unsaved k.current;
  only_current = λ b on is. k.only_current b on (was_current (kind_at table b) (sym (kind_unsaved table b) ∙ is));
  none_saved = λ c b on is. not_unsaved (kind_at table b) (sym (kind_unsaved table b) ∙ is);
  room = let free = count_unsaved table is_free refl in let touched = count_unsaved table is_touched refl in omega (arith, k.room, free, touched);
  bounded = k.bounded;
}
