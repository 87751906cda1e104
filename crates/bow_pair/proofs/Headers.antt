-- The header of a log, and of what has none.
use Rattle.std.proofs.Common.{◌≡◌, ℕ, ◌<◌, ◌≤◌, Bool, true, false, List, Option, Some, None, refl, sym, ap, ◌∙◌, arith}
use Rattle.std.specs.Prelude.{◌==◌, ◌||◌, if◌then◌else◌, not, nat_lt}
use Rattle.bow_units.specs.declared.sizes.Geometry.{Geometry}
use Rattle.bow_units.specs.Blocks.{IsBlock}
use Rattle.bow_units.specs.Magics.{HasMagic}
use Rattle.bow_units.specs.Sizes.{IsValid}
use Rattle.bow_log.specs.declared.faults.LogFault.{LogFault}
use Rattle.bow_log.specs.declared.faults.LogFault.TheVariants.{NoMagic, Version, HeaderSize, BlockSize, Count, Sector0}
use Rattle.bow_log.specs.Faults.{count_in, current_in, fault_of, header_fault, parts_of}
use Rattle.bow_log.specs.Generations.{Generation, generation_of, room}
use Rattle.bow_log.proofs.Clean.{Clean, clean, magic_tested, sized}
use Rattle.bow_log.proofs.InBlocks.{found}
use Rattle.bow_log.proofs.Numbers.{bytes_at}
use Rattle.bow_chain.specs.Sound.{log_in}

passes : (b : Bool) (f : LogFault) (rest : Option LogFault) → (if b then Some f else rest) ≡ None → b ≡ false
passes true f rest e = absurd cc
passes false f rest e = refl

skips : (b : Bool) (f : LogFault) (rest : Option LogFault) → b ≡ false → rest ≡ None → (if b then Some f else rest) ≡ None
skips b f rest e h = ap (λ (v : Bool). if v then Some f else rest) e ∙ h

not_not : (b : Bool) → not b ≡ false → b ≡ true
not_not true e = refl
not_not false e = sym e

number_test : (a b : ℕ) → a ≡ b → not (a == b) ≡ false
number_test a b e = grind arith

count_test : (n m : ℕ) → 0 < n → n ≤ m → (n == 0 || nat_lt m n) ≡ false
count_test n m some few = grind arith

-- a block without a fault has none in its header
clean_header : (g : Geometry) (block : List ℕ) → Clean g block → header_fault g block ≡ None
clean_header g block c =
    skips _ NoMagic _ (ap not c.magic) (skips _ Version _ (number_test _ _ c.version) (skips _ HeaderSize _ (number_test _ _ c.header_size) (skips _ BlockSize _ (number_test _ _ c.block_size)
    (skips _ Count _ (count_test (count_in block) (room g.block_size) c.some c.few) (skips _ Sector0 _ (ap not c.sector0) refl)))))

-- the header of a log says where its current block 0 lies
pub log_header : (g : Geometry) (block : List ℕ) (log : Generation) → log_in g block ≡ Some log → (header_fault g block ≡ None) × (current_in g block ≡ log.current)
unfolding log_in
log_header g block log e =
    let p = found (fault_of g block) (generation_of g (parts_of block)) log e in
    (clean_header g block (clean g block p.0), ap (λ (x : Generation). x.current) p.1)

-- a good header begins with a magic
pub header_magic : (g : Geometry) (block : List ℕ) → IsValid g → IsBlock g.block_size block → header_fault g block ≡ None → HasMagic block
header_magic g block valid is none =
    let s = sized g.block_size valid.size in
    (magic_tested block (bytes_at g.block_size block is) (omega (arith, is.long, s.least))).1 (not_not _ (passes _ NoMagic _ none))
