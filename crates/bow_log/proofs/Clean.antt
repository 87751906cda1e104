-- A block without a fault.
use Rattle.std.proofs.Common.{◌≡◌, ℕ, zero, suc, ◌+◌, ◌-◌, ◌*◌, ◌<◌, ◌≤◌, Bool, true, false, List, [], ◌∷◌, ◌++◌, length, take, drop, replicate, Option, Some, None, refl, sym, ap, ap₂, subst, ◌∙◌, arith, append_assoc, length-drop, inl, inr}
use Rattle.std.specs.Prelude.{flat_map, ◌==◌, ◌&&◌, ◌||◌, if◌then◌else◌, not, nat_lt, IsTrue, ◌⊎◌, ◌↔◌}
use Rattle.std.specs.Int.{w16, w32, w64, to_le_bytes}
use Rattle.std.proofs.Math.Seq.{take-add}
use Rattle.std.proofs.lemmas.List.{drop-drop, take-append-drop}
use Rattle.bow_units.specs.declared.sizes.Geometry.{Geometry}
use Rattle.bow_units.specs.Sizes.{IsBlockSize, IsValid}
use Rattle.bow_units.specs.Magics.{HasMagic, log_magic, restoring_magic}
use Rattle.bow_units.specs.Blocks.{are_zero}
use Rattle.bow_log.specs.declared.entries.Entry.{Entry}
use Rattle.bow_log.specs.declared.logs.Magic.{Magic}
use Rattle.bow_log.specs.declared.logs.Magic.TheVariants.{Log as LogMagic, Restoring}
use Rattle.bow_log.specs.declared.faults.LogFault.{LogFault}
use Rattle.bow_log.specs.declared.faults.LogFault.TheVariants.{NoMagic, Version, HeaderSize, BlockSize, Count, Tail, Sector0, Entry as BadEntry}
use Rattle.bow_log.specs.Spelling.{Fields, Fits, magic_number, header, entry_text, spell}
use Rattle.bow_log.specs.Generations.{room}
use Rattle.bow_log.specs.Rules.{is_current, keeps_rules, entry_fault, IsLog}
use Rattle.bow_log.specs.Faults.{number_at, entry_at, entries_at, count_in, begins_with, parts_of, fault_of}
use Rattle.bow_log.proofs.Numbers.{IsBytes, back_2, back_4, back_8, again_4}
use Rattle.bow_log.proofs.Spelled.{Reads, reads, either_magic, magic_again, parts_again}

-- no test of the table applies
pub record Clean (g : Geometry) (block : List ℕ) : Type 0 where
  pub magic : (begins_with LogMagic block || begins_with Restoring block) ≡ true
  pub version : number_at w16 4 block ≡ 0x0100
  pub header_size : number_at w16 6 block ≡ 28
  pub block_size : number_at w32 8 block ≡ g.block_size
  pub some : 0 < count_in block
  pub few : count_in block ≤ room g.block_size
  pub tail : are_zero (drop (28 + 24 * count_in block) block) ≡ true
  pub sector0 : is_current g (number_at w64 20 block) ≡ true
  pub entries : entry_fault g 0 (entries_at (count_in block) 28 block) ≡ None

passes : (b : Bool) (f : LogFault) (rest : Option LogFault) → (if b then Some f else rest) ≡ None → (b ≡ false) × (rest ≡ None)
passes true f rest e = absurd cc
passes false f rest e = (refl, e)

skips : (b : Bool) (f : LogFault) (rest : Option LogFault) → b ≡ false → rest ≡ None → (if b then Some f else rest) ≡ None
skips b f rest e h = ap (λ (v : Bool). if v then Some f else rest) e ∙ h

not_not : (b : Bool) → not b ≡ false → b ≡ true
not_not true e = refl
not_not false e = sym e

same_number : (a b : ℕ) → not (a == b) ≡ false → a ≡ b
same_number a b e = grind arith

within : (n m : ℕ) → (n == 0 || nat_lt m n) ≡ false → (0 < n) × (n ≤ m)
within n m e = (grind arith, grind arith)

within_back : (n m : ℕ) → 0 < n → n ≤ m → (n == 0 || nat_lt m n) ≡ false
within_back n m some few = grind arith

number_test : (a b : ℕ) → a ≡ b → not (a == b) ≡ false
number_test a b e = grind arith

pub clean : (g : Geometry) (block : List ℕ) → fault_of g block ≡ None → Clean g block
unfolding fault_of
clean g block e =
    let magic = passes _ NoMagic _ e in
    let version = passes _ Version _ magic.1 in
    let header_size = passes _ HeaderSize _ version.1 in
    let block_size = passes _ BlockSize _ header_size.1 in
    let count = passes _ Count _ block_size.1 in
    let tail = passes _ Tail _ count.1 in
    let sector0 = passes _ Sector0 _ tail.1 in
    let counted = within (count_in block) (room g.block_size) count.0 in
    record {
      magic = not_not _ magic.0;
      version = same_number (number_at w16 4 block) 0x0100 version.0;
      header_size = same_number (number_at w16 6 block) 28 header_size.0;
      block_size = same_number (number_at w32 8 block) g.block_size block_size.0;
      some = counted.0;
      few = counted.1;
      tail = not_not _ tail.0;
      sector0 = not_not _ sector0.0;
      entries = sector0.1;
    }

pub no_fault : (g : Geometry) (block : List ℕ) → Clean g block → fault_of g block ≡ None
unfolding fault_of
no_fault g block c =
    skips _ NoMagic _ (ap not c.magic) (skips _ Version _ (number_test (number_at w16 4 block) 0x0100 c.version) (skips _ HeaderSize _ (number_test (number_at w16 6 block) 28 c.header_size)
    (skips _ BlockSize _ (number_test (number_at w32 8 block) g.block_size c.block_size) (skips _ Count _ (within_back (count_in block) (room g.block_size) c.some c.few)
    (skips _ Tail _ (ap not c.tail) (skips _ Sector0 _ (ap not c.sector0) c.entries))))))

-- ---- the sizes of a block

pub record Sized (n : ℕ) : Type 0 where
  pub least : 512 ≤ n
  pub most : n ≤ 4096

pub sized : (n : ℕ) → IsBlockSize n → Sized n
sized n h = record { least = grind arith; most = grind arith }

pub room_fits : (g : Geometry) → IsValid g → (28 + 24 * room g.block_size ≤ g.block_size) × (room g.block_size ≤ 169)
room_fits g valid = let s = sized g.block_size valid.size in (omega (arith, s.least), omega (arith, s.most))

-- ---- a block without a fault spells its parts

pub both : (a b : Bool) → (a && b) ≡ true → (a ≡ true) × (b ≡ true)
both true b e = (refl, e)
both false b e = absurd cc

pub either : (a b : Bool) → (a || b) ≡ true → (a ≡ true) ⊎ (b ≡ true)
either true b e = inl refl
either false b e = inr e

pub number_is : (a b : ℕ) → (a == b) ≡ true → a ≡ b
number_is a b e = grind arith

all_zero : (bytes : List ℕ) → are_zero bytes ≡ true → bytes ≡ replicate (length bytes) 0
all_zero [] e = refl
all_zero (byte ∷ bytes) e = let p = both (byte == 0) (are_zero bytes) e in ap₂ ◌∷◌ (number_is byte 0 p.0) (all_zero bytes p.1)

pub entries_length : (n at : ℕ) (block : List ℕ) → length (entries_at n at block) ≡ n
entries_length zero at block = refl
entries_length (suc n) at block = ap suc (entries_length n (at + 24) block)

-- a part more of the block
grow : (k n m : ℕ) (block front part : List ℕ) → take k block ≡ front → part ≡ take n (drop k block) → k + n ≡ m → take m block ≡ front ++ part
grow k n m block front part is_front is_part is_m = ap (λ (j : ℕ). take j block) (sym is_m) ∙ take-add k n block ∙ ap₂ ◌++◌ is_front (sym is_part)

entry_taken : (at : ℕ) (block : List ℕ) → IsBytes block → at + 24 ≤ length block → take 24 (drop at block) ≡ entry_text (entry_at at block)
entry_taken at block bytes long =
    let d = drop at block in
    let e = entry_at at block in
    let at_8 : to_le_bytes w64 e.dest ≡ take 8 (drop 8 d) = back_8 (at + 8) block bytes (omega arith) ∙ ap (take 8) (sym (drop-drop 8 at block)) in
    let at_16 : to_le_bytes w32 e.size ≡ take 4 (drop 16 d) = back_4 (at + 16) block bytes (omega arith) ∙ ap (take 4) (sym (drop-drop 16 at block)) in
    let at_20 : to_le_bytes w32 e.sum ≡ take 4 (drop 20 d) = back_4 (at + 20) block bytes (omega arith) ∙ ap (take 4) (sym (drop-drop 20 at block)) in
    let to_8 : take 8 d ≡ to_le_bytes w64 e.source = sym (back_8 at block bytes (omega arith)) in
    let to_16 = grow 8 8 16 d (to_le_bytes w64 e.source) (to_le_bytes w64 e.dest) to_8 at_8 refl in
    let to_20 = grow 16 4 20 d (to_le_bytes w64 e.source ++ to_le_bytes w64 e.dest) (to_le_bytes w32 e.size) to_16 at_16 refl in
    grow 20 4 24 d (to_le_bytes w64 e.source ++ to_le_bytes w64 e.dest ++ to_le_bytes w32 e.size) (to_le_bytes w32 e.sum) to_20 at_20 refl

texts_taken : (n at : ℕ) (block : List ℕ) → IsBytes block → at + 24 * n ≤ length block → drop at block ≡ flat_map entry_text (entries_at n at block) ++ drop (at + 24 * n) block
texts_taken zero at block bytes long = ap (λ (k : ℕ). drop k block) (omega arith)
texts_taken (suc n) at block bytes long =
    let rest = texts_taken n (at + 24) block bytes (omega arith) in
    let last : at + 24 + 24 * n ≡ at + 24 * suc n = omega arith in
    sym (take-append-drop 24 (drop at block))
    ∙ ap₂ ◌++◌ (entry_taken at block bytes (omega arith)) (drop-drop 24 at block ∙ rest ∙ ap (λ (k : ℕ). flat_map entry_text (entries_at n (at + 24) block) ++ drop k block) last)

magic_back : (m : Magic) (n : ℕ) → n ≡ magic_number m → n ≡ magic_number (if n == magic_number Restoring then Restoring else LogMagic)
magic_back m n e = e ∙ ap magic_number (sym (magic_again m n e))

magic_number_is : (n : ℕ) → (n == magic_number LogMagic || n == magic_number Restoring) ≡ true → (n ≡ magic_number LogMagic) ⊎ (n ≡ magic_number Restoring)
magic_number_is n e = elim (either (n == magic_number LogMagic) (n == magic_number Restoring) e) [ inl h ↦ inl (number_is n (magic_number LogMagic) h) | inr h ↦ inr (number_is n (magic_number Restoring) h) ]

magic_read : (n : ℕ) → (n == magic_number LogMagic || n == magic_number Restoring) ≡ true → n ≡ magic_number (if n == magic_number Restoring then Restoring else LogMagic)
magic_read n e = elim (magic_number_is n e) [ inl h ↦ magic_back LogMagic n h | inr h ↦ magic_back Restoring n h ]

header_taken : (g : Geometry) (block : List ℕ) → IsBytes block → 28 ≤ length block → Clean g block → take 28 block ≡ header (parts_of block)
header_taken g block bytes long c =
    let log = parts_of block in
    let magic = to_le_bytes w32 (magic_number log.magic) in
    let version = to_le_bytes w16 0x0100 in
    let size = to_le_bytes w16 28 in
    let block_size = to_le_bytes w32 log.block_size in
    let count = to_le_bytes w32 (length log.entries) in
    let sequence = to_le_bytes w32 log.sequence in
    let to_4 : take 4 block ≡ magic = sym (back_4 0 block bytes (omega arith)) ∙ ap (to_le_bytes w32) (magic_read (number_at w32 0 block) c.magic) in
    let to_6 = grow 4 2 6 block magic version to_4 (ap (to_le_bytes w16) (sym c.version) ∙ back_2 4 block bytes (omega arith)) refl in
    let to_8 = grow 6 2 8 block (magic ++ version) size to_6 (ap (to_le_bytes w16) (sym c.header_size) ∙ back_2 6 block bytes (omega arith)) refl in
    let to_12 = grow 8 4 12 block (magic ++ version ++ size) block_size to_8 (back_4 8 block bytes (omega arith)) refl in
    let to_16 = grow 12 4 16 block (magic ++ version ++ size ++ block_size) count to_12 (ap (to_le_bytes w32) (entries_length (count_in block) 28 block) ∙ back_4 12 block bytes (omega arith)) refl in
    let to_20 = grow 16 4 20 block (magic ++ version ++ size ++ block_size ++ count) sequence to_16 (back_4 16 block bytes (omega arith)) refl in
    grow 20 8 28 block (magic ++ version ++ size ++ block_size ++ count ++ sequence) (to_le_bytes w64 log.sector0) to_20 (back_8 20 block bytes (omega arith)) refl

pub spelled : (g : Geometry) (block : List ℕ) → IsValid g → IsBytes block → length block ≡ g.block_size → Clean g block → block ≡ spell (parts_of block)
unfolding spell
spelled g block valid bytes one c =
    let log = parts_of block in
    let n = count_in block in
    let room = room_fits g valid in
    let long : 28 + 24 * n ≤ length block = omega (arith, room.0, c.few, one) in
    let rest = drop (28 + 24 * n) block in
    let texts = flat_map entry_text log.entries in
    let zeros : rest ≡ replicate (length rest) 0 = all_zero rest c.tail in
    let left : length rest ≡ log.block_size - 28 - 24 * length log.entries = omega (arith, length-drop (28 + 24 * n) block, entries_length n 28 block, one, c.block_size) in
    let tail : rest ≡ replicate (log.block_size - 28 - 24 * length log.entries) 0 = zeros ∙ ap (λ (k : ℕ). replicate k 0) left in
    sym (take-append-drop 28 block) ∙ ap₂ ◌++◌ (header_taken g block bytes (omega arith) c) (texts_taken n 28 block bytes long ∙ ap (λ (l : List ℕ). texts ++ l) tail)
    ∙ sym (append_assoc (header log) texts (replicate (log.block_size - 28 - 24 * length log.entries) 0))

pub log_is : (g : Geometry) (block : List ℕ) → IsValid g → Clean g block → IsLog g (parts_of block)
log_is g block valid c =
    let count = entries_length (count_in block) 28 block in
    record { device = valid; block_size = c.block_size; some = omega (arith, count, c.some); few = omega (arith, count, c.few); sector0 = c.sector0; entries = c.entries }

-- ---- a spelled log has no fault

pub clean_from : (g : Geometry) (log : Fields) (block : List ℕ) → IsLog g log → Reads log block → Clean g block
clean_from g log block v r = record {
  magic = either_magic log.magic (number_at w32 0 block) r.magic;
  version = r.version;
  header_size = r.header_size;
  block_size = r.block_size ∙ v.block_size;
  some = omega (arith, r.count, v.some);
  few = omega (arith, r.count, v.few);
  tail = ap (λ (n : ℕ). are_zero (drop (28 + 24 * n) block)) r.count ∙ r.tail;
  sector0 = ap (is_current g) r.sector0 ∙ v.sector0;
  entries = ap (λ (n : ℕ). entry_fault g 0 (entries_at n 28 block)) r.count ∙ ap (entry_fault g 0) r.entries ∙ v.entries;
}

pub valid_spelling : (g : Geometry) (log : Fields) → IsValid g → Fits log → IsLog g log ↔ (fault_of g (spell log) ≡ None)
valid_spelling g log valid fits = (
  λ v. no_fault g (spell log) (clean_from g log (spell log) v (reads log fits)),
  λ e. subst (IsLog g) (parts_again log (spell log) (reads log fits)) (log_is g (spell log) valid (clean g (spell log) e)),
)

pub only_reading : (g : Geometry) (log : Fields) (block : List ℕ) → Fits log → IsLog g log → block ≡ spell log → (fault_of g block ≡ None) × (parts_of block ≡ log)
only_reading g log block fits v is =
    let r : Reads log block = subst (Reads log) (sym is) (reads log fits) in
    (no_fault g block (clean_from g log block v r), parts_again log block r)

-- ---- the magic

pub magic_tested : (block : List ℕ) → IsBytes block → 4 ≤ length block → HasMagic block ↔ ((begins_with LogMagic block || begins_with Restoring block) ≡ true)
magic_tested block bytes long =
    let whole : (text : List ℕ) → take 4 block ≡ text → block ≡ text ++ drop 4 block = λ text h. sym (take-append-drop 4 block) ∙ ap (λ (l : List ℕ). l ++ drop 4 block) h in
    let back : (m : Magic) → number_at w32 0 block ≡ magic_number m → take 4 block ≡ to_le_bytes w32 (magic_number m) = λ m h. sym (back_4 0 block bytes (omega arith)) ∙ ap (to_le_bytes w32) h in (
      λ has. elim has [
        | inl h ↦ either_magic LogMagic (number_at w32 0 block) (again_4 0 (magic_number LogMagic) block (drop 4 block) (whole log_magic h) (omega arith))
        | inr h ↦ either_magic Restoring (number_at w32 0 block) (again_4 0 (magic_number Restoring) block (drop 4 block) (whole restoring_magic h) (omega arith))
      ],
      λ e. elim (magic_number_is (number_at w32 0 block) e) [ inl h ↦ inl (back LogMagic h) | inr h ↦ inr (back Restoring h) ],
    )

pub same_test : (a b : Bool) → (IsTrue a ↔ IsTrue b) → a ≡ b
same_test true true h = refl
same_test true false h = sym (h.0 refl)
same_test false true h = h.1 refl
same_test false false h = refl

other : (b : Bool) (fault : LogFault) (rest : Option LogFault) → (Some fault ≡ Some NoMagic → ⊥) → (rest ≡ Some NoMagic → ⊥) → (if b then Some fault else rest) ≡ Some NoMagic → ⊥
other true fault rest here later e = here e
other false fault rest here later e = later e

broken : (b : Bool) (index : ℕ) (rest : Option LogFault) → (rest ≡ Some NoMagic → ⊥) → (if b then rest else Some (BadEntry index)) ≡ Some NoMagic → ⊥
broken true index rest later e = later e
broken false index rest later e = absurd cc

some_is : (a b : LogFault) → Some a ≡ Some b → a ≡ b
some_is a b e = cc

no_entry : (g : Geometry) (index : ℕ) (es : List Entry) → entry_fault g index es ≡ Some NoMagic → ⊥
no_entry g index [] e = absurd cc
no_entry g index (entry ∷ es) e = broken (keeps_rules g index entry) index (entry_fault g (index + 1) es) (no_entry g (index + 1) es) e

first_row : (b : Bool) (f : LogFault) (rest : Option LogFault) → (rest ≡ Some NoMagic → ⊥) → (if not b then Some NoMagic else rest) ≡ Some f → (f ≡ NoMagic) ↔ ((b ≡ true) → ⊥)
first_row true f rest later e = (λ is _. later (e ∙ ap (λ (x : LogFault). Some x) is), λ no. absurd (no refl))
first_row false f rest later e = (λ is t. absurd cc, λ no. sym (some_is NoMagic f e))

no_magic_test : (g : Geometry) (block : List ℕ) (f : LogFault) → fault_of g block ≡ Some f → (f ≡ NoMagic) ↔ (((begins_with LogMagic block || begins_with Restoring block) ≡ true) → ⊥)
unfolding fault_of
no_magic_test g block f e =
    first_row (begins_with LogMagic block || begins_with Restoring block) f _
    (other _ Version _ (λ e. absurd cc) (other _ HeaderSize _ (λ e. absurd cc) (other _ BlockSize _ (λ e. absurd cc) (other _ Count _ (λ e. absurd cc)
    (other _ Tail _ (λ e. absurd cc) (other _ Sector0 _ (λ e. absurd cc) (no_entry g 0 (entries_at (count_in block) 28 block))))))))
    e

pub no_magic_is : (g : Geometry) (block : List ℕ) (f : LogFault) → IsBytes block → 4 ≤ length block → fault_of g block ≡ Some f → (f ≡ NoMagic) ↔ (HasMagic block → ⊥)
no_magic_is g block f bytes long e =
    let m = magic_tested block bytes long in
    let t = no_magic_test g block f e in
    (λ is has. t.0 is (m.0 has), λ no. t.1 (λ b. no (m.1 b)))
