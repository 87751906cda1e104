-- What the answers of a restoration, and of giving a checkpoint up, are for one device of several.
use Rattle.std.specs.Prelude.{◌≡◌, ℕ, Bool, true, false, Result, Ok, Err}
use Rattle.bow_restore.specs.declared.answers.Forwarded.{Forwarded}
use Rattle.bow_restore.specs.declared.answers.Forwarded.TheVariants as forwarded
use Rattle.bow_restore.specs.declared.answers.Restored.{Restored}
use Rattle.bow_restore.specs.declared.answers.Restored.TheVariants as restored
use Rattle.bow_pair.specs.declared.boots.PairBootFault.{PairBootFault}
use Rattle.bow_pair.specs.declared.boots.PairBootFault.TheVariants.{BadChain, BadHeader, Reserved, DiskFault, NoMemory}

-- whether a log was restored, or why not
abbrev pub IsRestoreAnswer : ℕ → Restored → Result Bool PairBootFault → Type 0
IsRestoreAnswer device restored.Nothing r = r ≡ Ok false
IsRestoreAnswer device (restored.Done entries marks) r = r ≡ Ok true
IsRestoreAnswer device (restored.Stopped writes) r = r ≡ Ok true
IsRestoreAnswer device (restored.BadChain fault) r = r ≡ Err (BadChain device fault)
IsRestoreAnswer device restored.DiskFault r = r ≡ Err DiskFault
IsRestoreAnswer device restored.NoMemory r = r ≡ Err NoMemory

-- whether a log was given up, or why not
abbrev pub IsForwardAnswer : ℕ → Forwarded → Result Bool PairBootFault → Type 0
IsForwardAnswer device forwarded.Nothing r = r ≡ Ok false
IsForwardAnswer device forwarded.Done r = r ≡ Ok true
IsForwardAnswer device (forwarded.BadHeader fault) r = r ≡ Err (BadHeader device fault)
IsForwardAnswer device forwarded.Reserved r = r ≡ Err (Reserved device)
IsForwardAnswer device forwarded.DiskFault r = r ≡ Err DiskFault
IsForwardAnswer device forwarded.NoMemory r = r ≡ Err NoMemory
