-- Sectors and blocks.
use Rattle.std.proofs.Common.{◌≡◌, ℕ, zero, suc, ◌+◌, ◌*◌, ◌/◌, ◌%◌, ◌^◌, ◌<◌, ◌≤◌, Bool, true, false, List, [], ◌∷◌, ◌++◌, length, map, Option, Some, None, refl, sym, ap, ap₂, subst, ◌∙◌, arith, inl, inr, length-append}
use Rattle.std.specs.Prelude.{◌==◌, ◌&&◌, ◌||◌, if◌then◌else◌, not, is_none, nat_lt, nat_le, ◌⊎◌}
use Rattle.std.specs.List.{AllByRecursion as Each}
use Rattle.std.proofs.Math.Nat.{mul-div_cancel, mul-mod_left}
use Rattle.std.proofs.lemmas.Nat.{div-add-mod', mul-lt}
use Rattle.std.proofs.lemmas.List.{length-map}
use Rattle.bow_units.specs.declared.sizes.Geometry.{Geometry}
use Rattle.bow_units.specs.Sizes.{IsValid}
use Rattle.bow_log.specs.declared.entries.Entry.{Entry}
use Rattle.bow_log.specs.declared.logs.Magic.{Magic}
use Rattle.bow_log.specs.declared.logs.Magic.TheVariants.{Log as LogMagic, Restoring}
use Rattle.bow_log.specs.declared.faults.LogFault.{LogFault}
use Rattle.bow_log.specs.declared.faults.LogFault.TheVariants.{NoMagic, Entry as BadEntry}
use Rattle.bow_log.specs.Spelling.{Fields, Fits, EntryFits, spell}
use Rattle.bow_log.specs.Generations.{Backup, Generation, sectors, backup_of, entry_of, is_restoring, magic_of, generation_of, fields_of, IsBackup, IsEntry, StartsWith0, IsGeneration, GenerationFits, room}
use Rattle.bow_log.specs.Rules.{begins_block, is_inside, are_apart, has_own_source, is_backup, keeps_rules, entry_fault, IsLog}
use Rattle.bow_log.specs.Faults.{begins_with, count_in, entries_at, fault_of, parts_of}
use Rattle.bow_log.specs.Spelled.{generation_in}
use Rattle.bow_log.specs.Laws.{BlockFits, NoMagicIsNone, SpelledHasMagic, PlainSpellsNone}
use Rattle.bow_log.proofs.Clean.{sized, both, either, number_is, clean, log_is, only_reading, room_fits, magic_tested, no_magic_is, spelled}
use Rattle.bow_log.proofs.Numbers.{IsBytes, below_4, bytes_at}

-- ---- tests

lt_is : (a b : ℕ) → nat_lt a b ≡ true → a < b
lt_is a b e = grind arith

le_is : (a b : ℕ) → nat_le a b ≡ true → a ≤ b
le_is a b e = grind arith

lt_test : (a b : ℕ) → a < b → nat_lt a b ≡ true
lt_test a b h = grind arith

le_test : (a b : ℕ) → a ≤ b → nat_le a b ≡ true
le_test a b h = grind arith

number_test : (a b : ℕ) → a ≡ b → (a == b) ≡ true
number_test a b h = grind arith

and_test : (a b : Bool) → a ≡ true → b ≡ true → (a && b) ≡ true
and_test a b ha hb = ap₂ (λ (x y : Bool). x && y) ha hb

or_right : (a b : Bool) → b ≡ true → (a || b) ≡ true
or_right true b h = refl
or_right false b h = h

-- ---- whole blocks

whole : (n m : ℕ) → n % m ≡ 0 → n / m * m ≡ n
whole n m e = omega (arith, div-add-mod' n m)

pub some_sectors : (g : Geometry) → IsValid g → 0 < sectors g
some_sectors g valid = let s = sized g.block_size valid.size in omega (arith, s.least)

some_bytes : (g : Geometry) → IsValid g → 0 < g.block_size
some_bytes g valid = let s = sized g.block_size valid.size in omega (arith, s.least)

-- ---- entries

pub record Kept (g : Geometry) (index : ℕ) (e : Entry) : Type 0 where
  pub source : e.source % sectors g ≡ 0
  pub dest : e.dest % sectors g ≡ 0
  pub size : e.size % g.block_size ≡ 0
  pub backup : IsBackup g (backup_of g e)
  pub own : has_own_source index (backup_of g e) ≡ true

backup_is : (g : Geometry) (index : ℕ) (b : Backup) → is_backup g index b ≡ true → IsBackup g b × (has_own_source index b ≡ true)
backup_is g index b e =
    let dest = both (nat_lt 0 b.count && is_inside g b.source b.count && is_inside g b.dest b.count && are_apart b.source b.dest b.count && has_own_source index b) (nat_lt 0 b.dest) e in
    let own = both (nat_lt 0 b.count && is_inside g b.source b.count && is_inside g b.dest b.count && are_apart b.source b.dest b.count) (has_own_source index b) dest.0 in
    let apart = both (nat_lt 0 b.count && is_inside g b.source b.count && is_inside g b.dest b.count) (are_apart b.source b.dest b.count) own.0 in
    let second = both (nat_lt 0 b.count && is_inside g b.source b.count) (is_inside g b.dest b.count) apart.0 in
    let first = both (nat_lt 0 b.count) (is_inside g b.source b.count) second.0 in (
      record {
        some = lt_is 0 b.count first.0;
        source_inside = le_is (b.source + b.count) g.blocks first.1;
        dest_inside = le_is (b.dest + b.count) g.blocks second.1;
        apart = elim (either (nat_le (b.source + b.count) b.dest) (nat_le (b.dest + b.count) b.source) apart.1) [ inl h ↦ inl (le_is (b.source + b.count) b.dest h) | inr h ↦ inr (le_is (b.dest + b.count) b.source h) ];
        dest_not_0 = lt_is 0 b.dest dest.1;
      },
      own.1,
    )

apart_test : (source dest count : ℕ) → (source + count ≤ dest) ⊎ (dest + count ≤ source) → are_apart source dest count ≡ true
apart_test source dest count (inl h) = ap (λ (x : Bool). x || nat_le (dest + count) source) (le_test (source + count) dest h)
apart_test source dest count (inr h) = or_right (nat_le (source + count) dest) (nat_le (dest + count) source) (le_test (dest + count) source h)

backup_test : (g : Geometry) (index : ℕ) (b : Backup) → IsBackup g b → has_own_source index b ≡ true → is_backup g index b ≡ true
backup_test g index b h own =
    and_test _ _ (and_test _ _ (and_test _ _ (and_test _ _ (and_test _ _ (lt_test 0 b.count h.some) (le_test (b.source + b.count) g.blocks h.source_inside)) (le_test (b.dest + b.count) g.blocks h.dest_inside)) (apart_test b.source b.dest b.count h.apart)) own)
    (lt_test 0 b.dest h.dest_not_0)

kept : (g : Geometry) (index : ℕ) (e : Entry) → keeps_rules g index e ≡ true → Kept g index e
kept g index e h =
    let backup = both (begins_block g e.source && begins_block g e.dest && (e.size % g.block_size == 0)) (is_backup g index (backup_of g e)) h in
    let size = both (begins_block g e.source && begins_block g e.dest) (e.size % g.block_size == 0) backup.0 in
    let begins = both (begins_block g e.source) (begins_block g e.dest) size.0 in
    let is = backup_is g index (backup_of g e) backup.1 in
    record { source = number_is (e.source % sectors g) 0 begins.0; dest = number_is (e.dest % sectors g) 0 begins.1; size = number_is (e.size % g.block_size) 0 size.1; backup = is.0; own = is.1 }

entry_back : (g : Geometry) (index : ℕ) (e : Entry) → Kept g index e → entry_of g (backup_of g e) ≡ e
entry_back g index e k =
    let source : e.source / sectors g * sectors g ≡ e.source = whole e.source (sectors g) k.source in
    let dest : e.dest / sectors g * sectors g ≡ e.dest = whole e.dest (sectors g) k.dest in
    let size : e.size / g.block_size * g.block_size ≡ e.size = whole e.size g.block_size k.size in
    λ i. record { source = source i; dest = dest i; size = size i; sum = e.sum }

backup_back : (g : Geometry) → IsValid g → (b : Backup) → backup_of g (entry_of g b) ≡ b
backup_back g valid b =
    let source : b.source * sectors g / sectors g ≡ b.source = mul-div_cancel b.source (some_sectors g valid) in
    let dest : b.dest * sectors g / sectors g ≡ b.dest = mul-div_cancel b.dest (some_sectors g valid) in
    let count : b.count * g.block_size / g.block_size ≡ b.count = mul-div_cancel b.count (some_bytes g valid) in
    λ i. record { source = source i; dest = dest i; count = count i; sum = b.sum }

kept_test : (g : Geometry) → IsValid g → (index : ℕ) (b : Backup) → IsBackup g b → has_own_source index b ≡ true → keeps_rules g index (entry_of g b) ≡ true
kept_test g valid index b h own =
    let source : b.source * sectors g % sectors g ≡ 0 = mul-mod_left b.source (sectors g) in
    let dest : b.dest * sectors g % sectors g ≡ 0 = mul-mod_left b.dest (sectors g) in
    let size : b.count * g.block_size % g.block_size ≡ 0 = mul-mod_left b.count g.block_size in
    and_test _ _ (and_test _ _ (and_test _ _ (number_test (b.source * sectors g % sectors g) 0 source) (number_test (b.dest * sectors g % sectors g) 0 dest)) (number_test (b.count * g.block_size % g.block_size) 0 size))
    (ap (is_backup g index) (backup_back g valid b) ∙ backup_test g index b h own)

-- ---- lists of entries

goes_on : (b : Bool) (f : LogFault) (rest : Option LogFault) → (if b then rest else Some f) ≡ None → (b ≡ true) × (rest ≡ None)
goes_on true f rest e = (refl, e)
goes_on false f rest e = absurd cc

keeps_on : (b : Bool) (f : LogFault) (rest : Option LogFault) → b ≡ true → rest ≡ None → (if b then rest else Some f) ≡ None
keeps_on b f rest h e = ap (λ (v : Bool). if v then rest else Some f) h ∙ e

not_first : (index : ℕ) → (index + 1 == 0) ≡ false
not_first index = grind arith

own_later : (index : ℕ) (b : Backup) → has_own_source (index + 1) b ≡ nat_lt 0 b.source
own_later index b = ap (λ (v : Bool). if v then (b.source == 0 && b.count == 1) else nat_lt 0 b.source) (not_first index)

pub record AreBackups (g : Geometry) (es : List Entry) : Type 0 where
  pub each : Each (IsBackup g) (map (backup_of g) es)
  pub back : map (entry_of g) (map (backup_of g) es) ≡ es

later_are : (g : Geometry) (index : ℕ) (es : List Entry) → entry_fault g (index + 1) es ≡ None → AreBackups g es × Each (λ b. 0 < b.source) (map (backup_of g) es)
later_are g index [] e = (record { each = tt; back = refl }, tt)
later_are g index (entry ∷ es) e =
    let p = goes_on (keeps_rules g (index + 1) entry) (BadEntry (index + 1)) (entry_fault g (index + 1 + 1) es) e in
    let k = kept g (index + 1) entry p.0 in
    let rest = later_are g (index + 1) es p.1 in (
      record { each = (k.backup, rest.0.each); back = ap₂ ◌∷◌ (entry_back g (index + 1) entry k) rest.0.back },
      (lt_is 0 _ (sym (own_later index (backup_of g entry)) ∙ k.own), rest.1),
    )

first_are : (g : Geometry) (es : List Entry) → 0 < length es → entry_fault g 0 es ≡ None → AreBackups g es × StartsWith0 (map (backup_of g) es)
first_are g [] some e = absurd (omega arith)
first_are g (entry ∷ es) some e =
    let p = goes_on (keeps_rules g 0 entry) (BadEntry 0) (entry_fault g 1 es) e in
    let k = kept g 0 entry p.0 in
    let rest = later_are g 0 es p.1 in
    let b = backup_of g entry in
    let own = both (b.source == 0) (b.count == 1) k.own in (
      record { each = (k.backup, rest.0.each); back = ap₂ ◌∷◌ (entry_back g 0 entry k) rest.0.back },
      (number_is b.source 0 own.0, number_is b.count 1 own.1, rest.1),
    )

later_keep : (g : Geometry) → IsValid g → (index : ℕ) (bs : List Backup) → Each (IsBackup g) bs → Each (λ b. 0 < b.source) bs → entry_fault g (index + 1) (map (entry_of g) bs) ≡ None
later_keep g valid index [] each own = refl
later_keep g valid index (b ∷ bs) each own =
    keeps_on _ (BadEntry (index + 1)) _ (kept_test g valid (index + 1) b each.0 (own_later index b ∙ lt_test 0 b.source own.0)) (later_keep g valid (index + 1) bs each.1 own.1)

first_keep : (g : Geometry) → IsValid g → (bs : List Backup) → Each (IsBackup g) bs → StartsWith0 bs → (0 < length bs) × (entry_fault g 0 (map (entry_of g) bs) ≡ None)
first_keep g valid [] each start = absurd start
first_keep g valid (b ∷ bs) each start =
    let own = and_test (b.source == 0) (b.count == 1) (number_test b.source 0 start.0) (number_test b.count 1 start.1) in
    (omega arith, keeps_on _ (BadEntry 0) _ (kept_test g valid 0 b each.0 own) (later_keep g valid 0 bs each.1 start.2))

backups_back : (g : Geometry) → IsValid g → (bs : List Backup) → map (backup_of g) (map (entry_of g) bs) ≡ bs
backups_back g valid [] = refl
backups_back g valid (b ∷ bs) = ap₂ ◌∷◌ (backup_back g valid b) (backups_back g valid bs)

-- ---- logs and generations

factor : (q m n : ℕ) → q * m ≡ n → 0 < n → 0 < q
factor zero m n e h = absurd (omega arith)
factor (suc q) m n e h = omega arith

product : (q m : ℕ) → 0 < q → 0 < m → 0 < q * m
product q m hq hm = mul-lt 0 0 q m hq hm

magic_back : (m : Magic) → magic_of (is_restoring m) ≡ m
magic_back LogMagic = refl
magic_back Restoring = refl

restoring_back : (b : Bool) → is_restoring (magic_of b) ≡ b
restoring_back true = refl
restoring_back false = refl

pub in_blocks : (g : Geometry) (log : Fields) → IsLog g log → IsGeneration g (generation_of g log) × (fields_of g (generation_of g log) ≡ log)
in_blocks g log v =
    let entries = first_are g log.entries v.some v.entries in
    let inside = both (nat_lt 0 log.sector0 && begins_block g log.sector0) (nat_lt (log.sector0 / sectors g) g.blocks) v.sector0 in
    let begins = both (nat_lt 0 log.sector0) (begins_block g log.sector0) inside.0 in
    let is : log.sector0 / sectors g * sectors g ≡ log.sector0 = whole log.sector0 (sectors g) (number_is (log.sector0 % sectors g) 0 begins.1) in (
      record {
        few = omega (arith, length-map log.entries (backup_of g), v.few);
        current_not_0 = factor (log.sector0 / sectors g) (sectors g) log.sector0 is (lt_is 0 log.sector0 begins.0);
        current_inside = lt_is (log.sector0 / sectors g) g.blocks inside.1;
        each = entries.0.each;
        start = entries.1;
      },
      λ i. record { magic = magic_back log.magic i; block_size = sym v.block_size i; sequence = log.sequence; sector0 = is i; entries = entries.0.back i },
    )

pub in_sectors : (g : Geometry) (x : Generation) → IsValid g → IsGeneration g x → IsLog g (fields_of g x) × (generation_of g (fields_of g x) ≡ x)
in_sectors g x valid h =
    let entries = first_keep g valid x.entries h.each h.start in
    let some = some_sectors g valid in
    let back : x.current * sectors g / sectors g ≡ x.current = mul-div_cancel x.current some in
    let begins : x.current * sectors g % sectors g ≡ 0 = mul-mod_left x.current (sectors g) in
    let count = length-map x.entries (entry_of g) in (
      record {
        device = valid;
        block_size = refl;
        some = omega (arith, count, entries.0);
        few = omega (arith, count, h.few);
        sector0 = and_test _ _ (and_test _ _ (lt_test 0 (x.current * sectors g) (product x.current (sectors g) h.current_not_0 some)) (number_test (x.current * sectors g % sectors g) 0 begins))
            (ap (λ (n : ℕ). nat_lt n g.blocks) back ∙ lt_test x.current g.blocks h.current_inside);
        entries = entries.1;
      },
      λ i. record { restoring = restoring_back x.restoring i; sequence = x.sequence; current = back i; entries = backups_back g valid x.entries i },
    )

-- ---- one entry more

-- the same, of an entry that is not the first
own_after : (index : ℕ) (b : Backup) → 0 < index → 0 < b.source → has_own_source index b ≡ true
own_after index b later above = grind arith

keeps_after : (g : Geometry) → IsValid g → (index : ℕ) (e : Entry) → 0 < index → IsEntry g e → 0 < (backup_of g e).source → keeps_rules g index e ≡ true
keeps_after g valid index e later is above =
    let b = backup_of g e in
    subst (λ x. keeps_rules g index x ≡ true) is.whole (kept_test g valid index b is.backup (own_after index b later above))

one_more : (g : Geometry) (index : ℕ) (es : List Entry) (e : Entry) → entry_fault g index es ≡ None → ((k : ℕ) → k ≡ index + length es → keeps_rules g k e ≡ true)
    → entry_fault g index (es ++ e ∷ []) ≡ None
one_more g index [] e good last = keeps_on (keeps_rules g index e) (BadEntry index) None (last index (omega arith)) refl
one_more g index (f ∷ es) e good last =
    let p = goes_on (keeps_rules g index f) (BadEntry index) (entry_fault g (index + 1) es) good in
    keeps_on (keeps_rules g index f) (BadEntry index) _ p.0 (one_more g (index + 1) es e p.1 (λ k is. last k (omega (arith, is))))

-- a log with one more entry
pub entry_added : (g : Geometry) (log : Fields) (e : Entry) (entries : List Entry) → IsLog g log → length log.entries < room g.block_size → IsEntry g e
    → 0 < (backup_of g e).source → entries ≡ log.entries ++ e ∷ [] → IsLog g (record log { entries = entries })
entry_added g log e entries v few is above so =
    subst (λ (es : List Entry). IsLog g (record log { entries = es })) (sym so) (record {
      device = v.device;
      block_size = v.block_size;
      some = omega (arith, length-append log.entries (e ∷ []));
      few = omega (arith, length-append log.entries (e ∷ []), few);
      sector0 = v.sector0;
      entries = one_more g 0 log.entries e v.entries (λ k at. keeps_after g v.device k e (omega (arith, at, v.some)) is above);
    })

-- ---- in a block

pub found : (o : Option LogFault) (v x : Generation) → (if is_none o then Some v else None) ≡ Some x → (o ≡ None) × (v ≡ x)
found None v x e = (refl, cc)
found (Some f) v x e = absurd cc

pub block_gives : (g : Geometry) (block : List ℕ) (x : Generation) → IsValid g → generation_in g block ≡ Some x → IsGeneration g x
block_gives g block x valid e =
    let p = found (fault_of g block) (generation_of g (parts_of block)) x e in
    subst (IsGeneration g) p.1 (in_blocks g (parts_of block) (log_is g block valid (clean g block p.0))).0

entry_fits : (g : Geometry) → IsValid g → (b : Backup) → IsBackup g b → b.sum < 2 ^ 32 → EntryFits (entry_of g b)
entry_fits g valid b h sum =
    let s = sized g.block_size valid.size in
    let small : sectors g < 9 = omega (arith, s.most) in
    let bytes : g.block_size < 4097 = omega (arith, s.most) in
    let source : b.source < 1048577 = omega (arith, valid.few, h.source_inside) in
    let dest : b.dest < 1048577 = omega (arith, valid.few, h.dest_inside) in
    let count : b.count < 524289 = omega (arith, valid.few, h.source_inside, h.dest_inside, h.apart) in
    record {
      source = omega (arith, mul-lt b.source (sectors g) 1048577 9 source small);
      dest = omega (arith, mul-lt b.dest (sectors g) 1048577 9 dest small);
      size = omega (arith, mul-lt b.count g.block_size 524289 4097 count bytes);
      sum = sum;
    }

entries_fit : (g : Geometry) → IsValid g → (bs : List Backup) → Each (IsBackup g) bs → Each (λ b. b.sum < 2 ^ 32) bs → Each EntryFits (map (entry_of g) bs)
entries_fit g valid [] each sums = tt
entries_fit g valid (b ∷ bs) each sums = (entry_fits g valid b each.0 sums.0, entries_fit g valid bs each.1 sums.1)

fits : (g : Geometry) (x : Generation) → IsValid g → IsGeneration g x → GenerationFits x → Fits (fields_of g x)
fits g x valid h f =
    let s = sized g.block_size valid.size in
    let small : sectors g < 9 = omega (arith, s.most) in
    let current : x.current < 1048577 = omega (arith, valid.few, h.current_inside) in
    record {
      block_size = omega (arith, s.most);
      count = omega (arith, length-map x.entries (entry_of g), h.few, (room_fits g valid).1);
      sequence = f.sequence;
      sector0 = omega (arith, mul-lt x.current (sectors g) 1048577 9 current small);
      entries = entries_fit g valid x.entries h.each f.sums;
    }

-- ---- with a magic, or without

first_of : (b : Bool) (rest : Option LogFault) → b ≡ false → (if not b then Some NoMagic else rest) ≡ Some NoMagic
first_of true rest e = absurd cc
first_of false rest e = refl

no_magic_from : (g : Geometry) (block : List ℕ) → (begins_with LogMagic block || begins_with Restoring block) ≡ false → fault_of g block ≡ Some NoMagic
unfolding fault_of
no_magic_from g block e = first_of (begins_with LogMagic block || begins_with Restoring block) _ e

either_way : (b : Bool) → (b ≡ true) ⊎ (b ≡ false)
either_way true = inl refl
either_way false = inr refl

pub no_magic_is_none : NoMagicIsNone
no_magic_is_none g block valid is =
    let s = sized g.block_size valid.size in
    let tested = magic_tested block (bytes_at g.block_size block is) (omega (arith, is.long, s.least)) in (
      λ e. (no_magic_is g block NoMagic (bytes_at g.block_size block is) (omega (arith, is.long, s.least)) e).0 refl,
      λ none. elim (either_way (begins_with LogMagic block || begins_with Restoring block)) [ inl t ↦ absurd (none (tested.1 t)) | inr f ↦ no_magic_from g block f ],
    )

pub spelled_has_magic : SpelledHasMagic
spelled_has_magic g block x valid is e =
    let s = sized g.block_size valid.size in
    let p = found (fault_of g block) (generation_of g (parts_of block)) x e in
    (magic_tested block (bytes_at g.block_size block is) (omega (arith, is.long, s.least))).1 (clean g block p.0).magic

pub plain_spells_none : PlainSpellsNone
plain_spells_none g block valid is none =
    let fault : fault_of g block ≡ Some NoMagic = (no_magic_is_none g block valid is).1 none in
    ap (λ (o : Option LogFault). if is_none o then Some (generation_of g (parts_of block)) else None) fault

sums_fit : (g : Geometry) (n at : ℕ) (block : List ℕ) → IsBytes block → at + 24 * n ≤ length block → Each (λ b. b.sum < 2 ^ 32) (map (backup_of g) (entries_at n at block))
sums_fit g zero at block bytes long = tt
sums_fit g (suc n) at block bytes long = (below_4 (at + 20) block bytes (omega arith), sums_fit g n (at + 24) block bytes (omega arith))

pub block_fits : BlockFits
block_fits g block x valid is e =
    let s = sized g.block_size valid.size in
    let bytes = bytes_at g.block_size block is in
    let p = found (fault_of g block) (generation_of g (parts_of block)) x e in
    let k = clean g block p.0 in
    let room = room_fits g valid in
    let fit : GenerationFits (generation_of g (parts_of block)) = record {
      sequence = below_4 16 block bytes (omega (arith, is.long, s.least));
      sums = sums_fit g (count_in block) 28 block bytes (omega (arith, room.0, k.few, is.long));
    } in
    let back : spell (fields_of g (generation_of g (parts_of block))) ≡ block = ap spell (in_blocks g (parts_of block) (log_is g block valid k)).1 ∙ sym (spelled g block valid bytes is.long k) in
    (subst GenerationFits p.1 fit, subst (λ y. spell (fields_of g y) ≡ block) p.1 back)

pub block_takes : (g : Geometry) (x : Generation) → IsValid g → IsGeneration g x → GenerationFits x → generation_in g (spell (fields_of g x)) ≡ Some x
block_takes g x valid h f =
    let log = fields_of g x in
    let back = in_sectors g x valid h in
    let p = only_reading g log (spell log) (fits g x valid h f) back.0 refl in
    let is : generation_of g (parts_of (spell log)) ≡ x = ap (generation_of g) p.1 ∙ back.1 in
    ap₂ (λ (o : Option LogFault) (v : Generation). if is_none o then Some v else None) p.0 is
