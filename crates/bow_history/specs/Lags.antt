-- How the journal follows the machine: the machine arms and decides at an act, the journal at the command's answer, and
-- reads may come between.
use Rattle.std.specs.Prelude.{ℕ, ◌≡◌, ◌⊎◌, List}
use Rattle.bow_units.specs.declared.requests.Phase.TheVariants.{Checkpoint}
use Rattle.bow_flat.specs.Flat.{Flat, after, Allows}
use Rattle.bow_flat.specs.Flat.Event.{Arms, Decides}
use Rattle.bow_machine.specs.Memory.{Hand}
use Rattle.bow_machine.specs.Deeds.{Deed, NoDeed, MayHaveArmed, HasDecided, deed_of}

-- the machine has armed what the journal has not
abbrev pub IsArmed : ℕ → Flat → Flat → Type 0
IsArmed n f j = (saved : ℕ → List ℕ) × Allows n (Arms saved) j × (f ≡ after n (Arms saved) j)

-- the machine has decided what the journal has not
abbrev pub IsDecided : ℕ → Flat → Flat → Type 0
IsDecided n f j = (j.phase ≡ Checkpoint) × (f ≡ after n Decides j)

-- the state f of the machine and the state j of the journal, by what was done and not told
abbrev pub LagsBy : ℕ → Deed → Flat → Flat → Type 0
LagsBy n NoDeed f j = f ≡ j
LagsBy n MayHaveArmed f j = (f ≡ j) ⊎ IsArmed n f j
LagsBy n HasDecided f j = IsDecided n f j

-- by what is in hand
abbrev pub Lags : ℕ → Hand → Flat → Flat → Type 0
Lags n hand f j = LagsBy n (deed_of hand) f j
