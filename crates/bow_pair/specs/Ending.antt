-- How a boot of several devices ends once they are settled.
use Rattle.std.specs.Prelude.{◌≡◌, ◌⊎◌, ℕ, ◌≤◌, Bool, true, false, List, Option, None, Result, Ok, Err}
use Rattle.bow_units.specs.Causes.{Rose}
use Rattle.vold_meta.specs.Keeper.{Changes}
use Rattle.bow_pair.specs.declared.boots.PairBooted.{PairBooted}
use Rattle.bow_pair.specs.declared.boots.PairBooted.TheVariants.{Forwarded, RolledBack, Plain}
use Rattle.bow_pair.specs.declared.boots.PairBootFault.{PairBootFault}
use Rattle.bow_pair.specs.declared.boots.PairBootFault.TheVariants.{KeeperFault}

-- by the decision, and by whether there was a log in some block 0
abbrev pub EndsBy : Bool → Bool → Result PairBooted PairBootFault → Type 0
EndsBy true logged r = (r ≡ Ok Forwarded) ⊎ (r ≡ Err KeeperFault)
EndsBy false true r = r ≡ Ok RolledBack
EndsBy false false r = r ≡ Ok Plain

-- what it then keeps
abbrev pub KeepsBy : Bool → Result PairBooted PairBootFault → Option (List ℕ) → Option (List ℕ) → Type 0
KeepsBy true r old new = Changes r None old new
KeepsBy false r old new = new ≡ old

-- a fact that holds where the keeper failed
abbrev pub OnKeeperFault : Result PairBooted PairBootFault → Type 0 → Type 0
OnKeeperFault (Err KeeperFault) P = P
OnKeeperFault r P = Unit {0}

-- the keeper's count never falls, and its fault is answered only where it rose
pub record EndIsCaused (before now : ℕ) (result : Result PairBooted PairBootFault) : Type 0 where
  pub later : before ≤ now
  pub failed : OnKeeperFault result (Rose before now)
