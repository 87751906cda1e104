-- What a loading and its steps answer.
use Rattle.std.specs.Prelude.{ℕ, ◌≡◌, ◌⊎◌, List}
use Rattle.bow_units.specs.declared.sizes.Geometry.{Geometry}
use Rattle.bow_units.specs.Magics.{HasMagic}
use Rattle.bow_log.specs.Generations.{Backup, Generation}
use Rattle.bow_chain.specs.Contents.{Contents}
use Rattle.bow_chain.specs.Faults.{IsLastBadSum, IsFaultBehind, IsFirstFault}
use Rattle.bow_chain.specs.declared.faults.ChainFault.{ChainFault}
use Rattle.bow_chain.specs.declared.faults.ChainFault.TheVariants.{NoLog, BadSum, DiskFault, NoMemory}

-- the answer speaks of the disk or of memory, and not of the image
abbrev pub IsOutside : ChainFault → Type 0
IsOutside DiskFault = Unit {0}
IsOutside NoMemory = Unit {0}
IsOutside fault = ⊥

-- it tells the first fault of the image, unless it speaks of the disk or of memory
abbrev pub TellsFirst : Geometry → Contents → ChainFault → Type 0
TellsFirst g image fault = IsFirstFault g image fault ⊎ IsOutside fault

-- it tells what is wrong behind these logs, unless it speaks of the disk or of memory
abbrev pub TellsBehind : Geometry → Contents → List Generation → ℕ → ChainFault → Type 0
TellsBehind g image above left fault = IsFaultBehind g image above left fault ⊎ IsOutside fault

-- it tells the last of these backups, those of the log at this depth, whose sum does not hold
abbrev pub TellsSum : Contents → (ℕ → ℕ) → List Backup → ℕ → ChainFault → Type 0
TellsSum image route backups depth (BadSum at index found stated) = (at ≡ depth)
    × IsLastBadSum image route backups index found stated
TellsSum image route backups depth fault = IsOutside fault

-- there is no log exactly where the block begins with neither magic
abbrev pub TellsMagic : List ℕ → ChainFault → Type 0
TellsMagic block NoLog = HasMagic block → ⊥
TellsMagic block DiskFault = Unit {0}
TellsMagic block NoMemory = Unit {0}
TellsMagic block fault = HasMagic block
