-- What the parts of a run beside a reader keep.
use Rattle.std.specs.Prelude.{◌≡◌, ℕ, ◌+◌, List, [], Option, None, Some}
use Rattle.bow_units.specs.declared.sizes.Geometry.{Geometry}
use Rattle.bow_disk.specs.Disk.{Content}
use Rattle.bow_flat.specs.Flat.{Flat}
use Rattle.bow_core.specs.Standing.{StandsIn}
use Rattle.bow_core.specs.Views.{View}
use Rattle.bow_history.specs.declared.items.Actor.{Actor}
use Rattle.bow_session.specs.Sessions.{Run, plan_in, state_in}
use Rattle.bow_session.specs.Turns.{StepsBy}
use Rattle.bow_past.specs.Agreement.{Agrees}
use Rattle.bow_past.specs.Readings.{Reading}
use Rattle.bow_past.specs.Running.{PlaysBeside, first_from, is_reading, is_ready_at}

-- the reader agrees with the device, if there is one
abbrev pub MaybeAgrees : {D : Type 0} → (D → Option Content) → Option Reading → View D → Type 0
MaybeAgrees content None v = Unit {0}
MaybeAgrees content (Some p) v = Agrees content p v

-- a reader, if there is one, has ended no block yet
abbrev pub IsNew : Option Reading → Type 0
IsNew None = Unit {0}
IsNew (Some p) = p.ended ≡ []

-- A reader, if there is one, may run beside the session: it agrees with its device, whose disk states its sizes; and
-- where the disk tells its content the device stands for a flat state.
pub record IsBeside {D : Type 0} (stated : D → Option Geometry) (content : D → Option Content) (r : Option Reading)
    (v : Run D) : Type 0 where
  pub agrees : MaybeAgrees content r v.core
  pub sizes : stated v.core.disk ≡ Some v.core.geometry
  pub stands : (c : Content) → content v.core.disk ≡ Some c → (f : Flat) × StandsIn content v.core f

-- the number of the first actor from this one on that is ready beside this reader, going round once
abbrev pub first_ready_at : {D : Type 0} → Option Reading → Run D → ℕ → Option ℕ
first_ready_at r v k = first_from (is_ready_at (plan_in v) (state_in v) (is_reading r v.core.memory.phase))
    ((plan_in v).lanes + 3) k ((plan_in v).lanes + 3)

-- The reader's steps lead from the one session to the other, and then this actor's step is the next one; or there is
-- none, and no step more.
abbrev pub LeadsOn : {D : Type 0} (stated : D → Option Geometry) (content : D → Option Content) (moment : D → ℕ)
    (left : D → ℕ → List (List ℕ) → Type 0) (faults : D → ℕ) → ℕ → Option Reading → Run D → Option Actor → ℕ
    → Option Reading → Run D → Type 0
LeadsOn {D} stated content moment left faults x r old (Some actor) y s new = (m : ℕ) (t : Option Reading)
    (mid end : Run D) → StepsBy stated content moment left faults new actor mid
    → PlaysBeside stated content moment left faults m y s mid t end
    → (n : ℕ) × PlaysBeside stated content moment left faults n x r old t end
LeadsOn stated content moment left faults x r old None y s new =
    (n : ℕ) × PlaysBeside stated content moment left faults n x r old s new
