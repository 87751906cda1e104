-- What follows from the definitions.
use Rattle.std.specs.Prelude.{◌≡◌, ◌↔◌, ℕ, List, Some, None}
use Rattle.bow_units.specs.declared.sizes.Geometry.{Geometry}
use Rattle.bow_units.specs.Sizes.{IsValid}
use Rattle.bow_units.specs.Blocks.{IsBlock}
use Rattle.bow_units.specs.Magics.{HasMagic}
use Rattle.bow_log.specs.declared.faults.LogFault.TheVariants.{NoMagic}
use Rattle.bow_log.specs.Spelling.{Fields, Fits, spell}
use Rattle.bow_log.specs.Generations.{Generation, IsGeneration, GenerationFits, generation_of, fields_of}
use Rattle.bow_log.specs.Rules.{IsLog}
use Rattle.bow_log.specs.Faults.{fault_of}
use Rattle.bow_log.specs.Spelled.{generation_in}

-- a log is valid exactly where its spelling has no fault
abbrev pub SpellingIsClean : Type 0
SpellingIsClean = (g : Geometry) (log : Fields) → IsValid g → Fits log → IsLog g log ↔ (fault_of g (spell log) ≡ None)

-- a valid log is a generation, and no other log is the same one
abbrev pub IsInBlocks : Type 0
IsInBlocks = (g : Geometry) (log : Fields) → IsLog g log
    → IsGeneration g (generation_of g log) × (fields_of g (generation_of g log) ≡ log)

-- a generation is a valid log, and no other generation is the same one
abbrev pub IsInSectors : Type 0
IsInSectors = (g : Geometry) (x : Generation) → IsValid g → IsGeneration g x
    → IsLog g (fields_of g x) × (generation_of g (fields_of g x) ≡ x)

-- what a block spells is a generation
abbrev pub BlockGives : Type 0
BlockGives = (g : Geometry) (block : List ℕ) (x : Generation) → IsValid g → generation_in g block ≡ Some x
    → IsGeneration g x

-- and each generation whose numbers fit is spelled
abbrev pub BlockTakes : Type 0
BlockTakes = (g : Geometry) (x : Generation) → IsValid g → IsGeneration g x → GenerationFits x
    → generation_in g (spell (fields_of g x)) ≡ Some x

-- the numbers of what a block of bytes spells fit their places, and it is the one spelling of that
abbrev pub BlockFits : Type 0
BlockFits = (g : Geometry) (block : List ℕ) (x : Generation) → IsValid g → IsBlock g.block_size block
    → generation_in g block ≡ Some x → GenerationFits x × (spell (fields_of g x) ≡ block)

-- the want of a magic is the first fault exactly of the blocks that begin with none
abbrev pub NoMagicIsNone : Type 0
NoMagicIsNone = (g : Geometry) (block : List ℕ) → IsValid g → IsBlock g.block_size block
    → (fault_of g block ≡ Some NoMagic) ↔ ¬ HasMagic block

-- so a block that spells a log begins with a magic
abbrev pub SpelledHasMagic : Type 0
SpelledHasMagic = (g : Geometry) (block : List ℕ) (x : Generation) → IsValid g → IsBlock g.block_size block
    → generation_in g block ≡ Some x → HasMagic block

-- and one that begins with none spells none
abbrev pub PlainSpellsNone : Type 0
PlainSpellsNone = (g : Geometry) (block : List ℕ) → IsValid g → IsBlock g.block_size block → (¬ HasMagic block)
    → generation_in g block ≡ None
