-- Whatever a cut leaves of a machine that stands for a flat state stands for it too.
use Rattle.std.proofs.Common.{ℕ, ◌≡◌, List, [], Option, Some, None, arith, refl, sym, subst}
use Rattle.bow_units.specs.declared.sizes.Geometry.{Geometry}
use Rattle.bow_units.specs.declared.requests.Phase.{Phase}
use Rattle.bow_units.specs.declared.requests.Phase.TheVariants.{Trim, Arming, Checkpoint, Deciding, Committed}
use Rattle.bow_log.specs.Generations.{Generation}
use Rattle.bow_chain.specs.Contents.{Contents}
use Rattle.bow_flat.specs.Flat.{Flat}
use Rattle.bow_guard.specs.Cuts.{Candidates, IsCut}
use Rattle.bow_guard.specs.Device.{Device}
use Rattle.bow_guard.specs.Phases.{Leaves}
use Rattle.bow_guard.proofs.Phases.{cut_stands}
use Rattle.bow_machine.specs.Memory.{Memory}
use Rattle.bow_machine.specs.Steps.{log_or_blank}
use Rattle.bow_machine.proofs.Held.{device_of, Kept}
use Rattle.bow_machine.specs.Laws.{CutStands}
use Rattle.bow_machine.proofs.Joined.{held}

-- a device whose candidates are these, and in a phase with a log the one that it is kept behind, leaves what it should
record LeftBy (g : Geometry) (may : Candidates) (f : Flat) (phase : Phase) : Type 0 where
  device : Device
  content : List ℕ
  same : device.may ≡ may
  leaves : Leaves g phase f content device

left_by : (g : Geometry) (m : Memory) (now : Contents) (may : Candidates) (f : Flat) (phase : Phase) (log : Option Generation)
    → Kept g m now may f phase log → LeftBy g may f phase
left_by g m now may f Trim None k = record { device = device_of m (log_or_blank None) [] (log_or_blank None) [] now may; content = []; same = refl; leaves = k.0 }
left_by g m now may f Trim (Some log) k = absurd k
left_by g m now may f Arming None k = absurd k
left_by g m now may f Arming (Some log) k = record { device = device_of m log k.older k.clean_log k.clean_older now may; content = now log.current; same = refl; leaves = k.leaves }
left_by g m now may f Checkpoint None k = absurd k
left_by g m now may f Checkpoint (Some log) k = record { device = device_of m log k.older k.clean_log k.clean_older now may; content = now log.current; same = refl; leaves = k.leaves }
left_by g m now may f Deciding None k = absurd k
left_by g m now may f Deciding (Some log) k = record { device = device_of m log k.older k.clean_log k.clean_older now may; content = now log.current; same = refl; leaves = k.leaves }
left_by g m now may f Committed None k = record { device = device_of m (log_or_blank None) [] (log_or_blank None) [] now may; content = []; same = refl; leaves = k.0 }
left_by g m now may f Committed (Some log) k = absurd k

pub machine_cut : CutStands
machine_cut g m now may f image s cut =
    let h = held g m now may f s in
    let left = left_by g m now may f m.phase m.log h.kept in
    cut_stands g f left.device image left.content (omega (arith, (h.memory.sizes).enough)) s.state (subst (λ p. Leaves g p f left.content left.device) (sym s.phases) left.leaves) (subst (λ c. IsCut g c image) (sym left.same) cut)
