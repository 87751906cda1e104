-- What a spelled log reads as.
use Rattle.std.proofs.Common.{◌≡◌, ℕ, zero, suc, ◌+◌, ◌-◌, ◌*◌, ◌^◌, ◌<◌, true, List, [], ◌∷◌, ◌++◌, length, drop, replicate, refl, sym, ap, ap₂, ◌∙◌, arith, append_assoc, length-append}
use Rattle.std.specs.Prelude.{flat_map, ◌==◌, ◌||◌, if◌then◌else◌}
use Rattle.std.specs.List.{AllByRecursion as Each}
use Rattle.std.specs.Int.{w16, w32, w64}
use Rattle.std.proofs.lemmas.List.{drop_at}
use Rattle.bow_units.specs.Blocks.{are_zero}
use Rattle.bow_log.specs.declared.entries.Entry.{Entry}
use Rattle.bow_log.specs.declared.logs.Magic.{Magic}
use Rattle.bow_log.specs.declared.logs.Magic.TheVariants.{Log as LogMagic, Restoring}
use Rattle.bow_log.specs.Spelling.{Fields, Fits, EntryFits, magic_number, header, entry_text, spell}
use Rattle.bow_log.specs.Faults.{number_at, entry_at, entries_at, count_in, parts_of}
use Rattle.bow_log.proofs.Numbers.{again_4, again_8, past}

entry_again : (e : Entry) (at : ℕ) (front more : List ℕ) → length front ≡ at → EntryFits e → entry_at at (front ++ (entry_text e ++ more)) ≡ e
entry_again e at front more long fits =
    let block = front ++ (entry_text e ++ more) in
    let source : number_at w64 at block ≡ e.source = again_8 at e.source block _ (drop_at front (entry_text e ++ more) at long) fits.source in
    let dest : number_at w64 (at + 8) block ≡ e.dest = again_8 (at + 8) e.dest block _ (past at 8 front (entry_text e ++ more) long) fits.dest in
    let size : number_at w32 (at + 16) block ≡ e.size = again_4 (at + 16) e.size block _ (past at 16 front (entry_text e ++ more) long) fits.size in
    let sum : number_at w32 (at + 20) block ≡ e.sum = again_4 (at + 20) e.sum block _ (past at 20 front (entry_text e ++ more) long) fits.sum in
    λ i. record { source = source i; dest = dest i; size = size i; sum = sum i }

pub entries_again : (es : List Entry) (at : ℕ) (front tail : List ℕ) → length front ≡ at → Each EntryFits es → entries_at (length es) at (front ++ (flat_map entry_text es ++ tail)) ≡ es
entries_again [] at front tail long fits = refl
entries_again (e ∷ es) at front tail long fits =
    let more = flat_map entry_text es ++ tail in
    ap₂ ◌∷◌ (entry_again e at front more long fits.0)
    (ap (entries_at (length es) (at + 24)) (sym (append_assoc front (entry_text e) more)) ∙ entries_again es (at + 24) (front ++ entry_text e) tail (omega (arith, length-append front (entry_text e))) fits.1)

zeros : (n : ℕ) → are_zero (replicate n 0) ≡ true
zeros zero = refl
zeros (suc n) = zeros n

texts_length : (es : List Entry) → length (flat_map entry_text es) ≡ 24 * length es
texts_length [] = refl
texts_length (e ∷ es) = omega (arith, texts_length es, length-append (entry_text e) (flat_map entry_text es))

magic_fits : (m : Magic) → magic_number m < 2 ^ 32
magic_fits LogMagic = omega arith
magic_fits Restoring = omega arith

-- what each place of a spelled log holds
pub record Reads (log : Fields) (block : List ℕ) : Type 0 where
  pub magic : number_at w32 0 block ≡ magic_number log.magic
  pub version : number_at w16 4 block ≡ 0x0100
  pub header_size : number_at w16 6 block ≡ 28
  pub block_size : number_at w32 8 block ≡ log.block_size
  pub count : count_in block ≡ length log.entries
  pub sequence : number_at w32 16 block ≡ log.sequence
  pub sector0 : number_at w64 20 block ≡ log.sector0
  pub entries : entries_at (length log.entries) 28 block ≡ log.entries
  pub tail : are_zero (drop (28 + 24 * length log.entries) block) ≡ true

pub reads : (log : Fields) → Fits log → Reads log (spell log)
unfolding spell number_at
reads log fits =
    let texts = flat_map entry_text log.entries in
    let tail = replicate (log.block_size - 28 - 24 * length log.entries) 0 in
    record {
      magic = again_4 0 (magic_number log.magic) (spell log) _ refl (magic_fits log.magic);
      version = refl;
      header_size = refl;
      block_size = again_4 8 log.block_size (spell log) _ refl fits.block_size;
      count = again_4 12 (length log.entries) (spell log) _ refl fits.count;
      sequence = again_4 16 log.sequence (spell log) _ refl fits.sequence;
      sector0 = again_8 20 log.sector0 (spell log) _ refl fits.sector0;
      entries = entries_again log.entries 28 (header log) tail refl fits.entries;
      tail = ap are_zero (drop_at (header log ++ texts) tail (28 + 24 * length log.entries) (omega (arith, texts_length log.entries, length-append (header log) texts))) ∙ zeros (log.block_size - 28 - 24 * length log.entries);
    }

pub either_magic : (m : Magic) (n : ℕ) → n ≡ magic_number m → (n == magic_number LogMagic || n == magic_number Restoring) ≡ true
either_magic LogMagic n e = ap (λ (k : ℕ). k == magic_number LogMagic || k == magic_number Restoring) e
either_magic Restoring n e = ap (λ (k : ℕ). k == magic_number LogMagic || k == magic_number Restoring) e

pub magic_again : (m : Magic) (n : ℕ) → n ≡ magic_number m → (if n == magic_number Restoring then Restoring else LogMagic) ≡ m
magic_again LogMagic n e = ap (λ (k : ℕ). if k == magic_number Restoring then Restoring else LogMagic) e
magic_again Restoring n e = ap (λ (k : ℕ). if k == magic_number Restoring then Restoring else LogMagic) e

-- a spelled log is read as itself
pub parts_again : (log : Fields) (block : List ℕ) → Reads log block → parts_of block ≡ log
parts_again log block r =
    let magic = magic_again log.magic (number_at w32 0 block) r.magic in
    let entries : entries_at (count_in block) 28 block ≡ log.entries = ap (λ (n : ℕ). entries_at n 28 block) r.count ∙ r.entries in
    λ i. record { magic = magic i; block_size = r.block_size i; sequence = r.sequence i; sector0 = r.sector0 i; entries = entries i }
