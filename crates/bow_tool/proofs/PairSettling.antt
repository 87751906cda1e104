-- Settling several devices where nothing outside stands in the way: only want of memory refuses it.
use Rattle.std.proofs.Common.{List, ◌≡◌, inl, inr, ℕ, Bool, true, false, Option, Some, Result, Ok, Err, refl, sym, ap, ◌∙◌, subst}
use Rattle.bow_units.specs.declared.sizes.Geometry.{Geometry}
use Rattle.bow_units.specs.Causes.{Rose}
use Rattle.bow_disk.specs.Disk.{Content}
use Rattle.bow_chain.specs.Contents.{contents_of}
use Rattle.bow_chain.specs.Laws.{FaultyIsNotSound}
use Rattle.vold_meta.specs.Decisions.{text_of_decision}
use Rattle.vold_meta.specs.Keeper.{Same}
use Rattle.bow_pair.specs.Boot.{StopsBy}
use Rattle.bow_pair.specs.Settling.{IsRefused, StopsAt}
use Rattle.bow_pair.specs.declared.boots.PairBooted.{PairBooted}
use Rattle.bow_pair.specs.declared.boots.PairBootFault.{PairBootFault}
use Rattle.bow_pair.specs.declared.boots.PairBootFault.TheVariants as boots
use Rattle.bow_pair.proofs.Booting.{goes_on}
use Rattle.bow_pair.proofs.Rows.{element_at, there_too}
use Rattle.bow_tool.specs.declared.refusals.Refusal.{Refusal}
use Rattle.bow_tool.specs.declared.refusals.Refusal.TheVariants.{BadWords, BadScript, SourceFault, DiskFault, KeeperFault, NeedsRestore, BadChain, BadHeader, Reserved, BadAttempts, NoMemory, Stopped, BadGeometry}
use Rattle.bow_tool.specs.Refusals.{status_of}
use Rattle.bow_tool.specs.Outside.{KeeperView}
use Rattle.bow_tool.specs.PairCalls.{PairCall}
use Rattle.bow_tool.specs.PairBoots.{DecisionCause, IsPairBootRefusal, PairBootCause, PairUnsettled, SizesStop, WasPairBooted, refusal_of_pair_boot}
use Rattle.bow_tool.specs.PairCommands.{CanSettle, PairBootInOrder}
use Rattle.bow_tool.proofs.Imaging.{content_kept, rose_since}
use Rattle.bow_tool.proofs.Telling.{no_header, no_sizes_cause, none_some}

-- a text is that of one decision
one_decision : (a b : Bool) → text_of_decision a ≡ text_of_decision b → a ≡ b
one_decision true true is = refl
one_decision true false is = absurd (cc is)
one_decision false true is = absurd (cc is)
one_decision false false is = refl

-- a decision that is kept, and read, is no cause
no_decision_cause : {K : Type 0} (w : KeeperView K) (old new : K) (committed : Bool) (refusal : Refusal) → w.kept old ≡ Some (text_of_decision committed) → (Rose (w.faults old) (w.faults new) → ⊥) → DecisionCause w old new refusal → ⊥
no_decision_cause w old new committed BadWords kept holds cause = cause
no_decision_cause w old new committed (BadScript line) kept holds cause = cause
no_decision_cause w old new committed SourceFault kept holds cause = cause
no_decision_cause w old new committed DiskFault kept holds cause = cause
no_decision_cause w old new committed KeeperFault kept holds cause = holds cause
no_decision_cause w old new committed NeedsRestore kept holds cause = cause
no_decision_cause w old new committed (BadChain fault) kept holds cause = cause
no_decision_cause w old new committed (BadHeader fault) kept holds cause = cause
no_decision_cause w old new committed Reserved kept holds cause = cause
no_decision_cause w old new committed BadAttempts kept holds cause = cause (text_of_decision committed) kept committed refl
no_decision_cause w old new committed NoMemory kept holds cause = cause
no_decision_cause w old new committed (Stopped writes) kept holds cause = cause
no_decision_cause w old new committed (BadGeometry g) kept holds cause = cause

-- a device that can be settled, and whose disk did not fail, is refused for want of memory alone
only_memory : FaultyIsNotSound → {D : Type 0} (content : D → Option Content) (faults : D → ℕ) (committed : Bool) (device : ℕ) (g : Geometry) (old new : D) (c : Content) (fault : PairBootFault) → content old ≡ Some c → CanSettle committed g (contents_of c.now)
    → (Rose (faults old) (faults new) → ⊥) → IsRefused content faults committed device g old new fault → fault ≡ boots.NoMemory
only_memory law content faults true device g old new c (boots.BadChain at fault) told can holds is = absurd (cc is.0)
only_memory law content faults false device g old new c (boots.BadChain at fault) told can holds is = elim can [
  | inl s ↦ absurd (law g (contents_of c.now) fault s.0 s.1 (is.3 c told).1 s.2)
  | inr none ↦ absurd (none (is.3 c told).0)
]
only_memory law content faults true device g old new c (boots.BadHeader at fault) told can holds is = elim can [
  | inl none ↦ absurd (no_header fault is.2 (sym none ∙ (is.3 c told).1))
  | inr good ↦ absurd (none_some good.0 (is.3 c told).1)
]
only_memory law content faults false device g old new c (boots.BadHeader at fault) told can holds is = absurd (cc is.0)
only_memory law content faults true device g old new c (boots.Reserved at) told can holds is = elim can [
  | inl none ↦ absurd (none_some (is.2 c told).0 none)
  | inr good ↦ absurd (good.1 (is.2 c told).1)
]
only_memory law content faults false device g old new c (boots.Reserved at) told can holds is = absurd (cc is.0)
only_memory law content faults committed device g old new c boots.DiskFault told can holds is = absurd (holds is)
only_memory law content faults committed device g old new c boots.NoMemory told can holds is = refl
only_memory law content faults committed device g old new c boots.KeeperFault told can holds is = absurd is
only_memory law content faults committed device g old new c boots.BadDecision told can holds is = absurd is

module _ (law : FaultyIsNotSound) (c : PairCall) (order : PairBootInOrder c) where
  -- sizes are no cause
  no_sizes_stop : (refusal : Refusal) → SizesStop c.views c.disks c.disks_after refusal → ⊥
  no_sizes_stop refusal stop =
      no_sizes_cause (c.views.stated stop.is) (c.views.faults stop.was) (c.views.faults stop.is) refusal (λ g at. order.sizes stop.device stop.is stop.is_here g at) (λ rose. order.calls.disks stop.device stop.was stop.is stop.was_here stop.is_here rose) stop.cause

  module _ (r : Result PairBooted PairBootFault) (did : WasPairBooted c.views c.keepers c.disks c.disks_after c.keeper c.keeper_after r) where
    -- the decision is kept still as it is read once more
    kept_still : c.keepers.kept did.read ≡ Some (text_of_decision order.committed)
    kept_still = let on = goes_on Same (c.keepers.kept c.keeper) (c.keepers.kept did.read) (text_of_decision order.committed) order.kept did.only_read.kept in on.1 ∙ ap Some on.2

    -- settling stopped at a device
    stopped : (committed : Bool) (fault : PairBootFault) → text_of_decision order.committed ≡ text_of_decision committed → StopsAt c.views.content c.views.faults committed did.sizes did.asked c.disks_after fault → fault ≡ boots.NoMemory
    stopped committed fault decided stop =
        let size = element_at did.sizes stop.device stop.on in
        let asked = there_too did.sizes did.asked stop.device size.0 (sym did.many) size.1 in
        let after = there_too did.asked c.disks_after stop.device asked.0 did.left asked.1 in
        let was = there_too did.asked c.disks stop.device asked.0 (sym did.only_asked.many) asked.1 in
        let sizes = did.only_asked.each stop.device was.0 asked.0 was.1 asked.1 in
        let fine = order.fine stop.device was.0 after.0 was.1 after.1 in
        let can = fine.2 size.0 (did.booted.stated stop.device size.0 after.0 size.1 after.1) in
        only_memory law c.views.content c.views.faults committed stop.device size.0 asked.0 after.0 fine.0 fault (content_kept c.views was.0 asked.0 sizes ∙ fine.1) (subst (λ b. CanSettle b size.0 (contents_of fine.0.now)) (one_decision order.committed committed decided) can)
        (λ rose. order.calls.disks stop.device was.0 after.0 was.1 after.1 (rose_since (c.views.faults was.0) (c.views.faults asked.0) (c.views.faults after.0) sizes.faults rose)) (stop.refused stop.device size.0 asked.0 after.0 size.1 asked.1 after.1 refl)

  -- what the keeper keeps after it
  left : (fault : PairBootFault) → WasPairBooted c.views c.keepers c.disks c.disks_after c.keeper c.keeper_after (Err fault) → (kept : Option (List ℕ)) × (c.keepers.kept c.keeper_after ≡ Some kept)
  left fault did = did.booted.tells (text_of_decision order.committed) (kept_still (Err fault) did)

  stops : (fault : PairBootFault) (did : WasPairBooted c.views c.keepers c.disks c.disks_after c.keeper c.keeper_after (Err fault)) → StopsBy c.views.content c.views.faults did.sizes did.asked c.disks_after (text_of_decision order.committed) (left fault did).0 fault
  stops fault did = did.booted.stops (text_of_decision order.committed) (left fault did).0 (kept_still (Err fault) did) (left fault did).1

  -- a boot that did not end well found no memory
  found_none : (fault : PairBootFault) → WasPairBooted c.views c.keepers c.disks c.disks_after c.keeper c.keeper_after (Err fault) → fault ≡ boots.NoMemory
  found_none boots.KeeperFault did = absurd (order.calls.keeper (rose_since (c.keepers.faults c.keeper) (c.keepers.faults did.read) (c.keepers.faults c.keeper_after) did.only_read.faults did.booted.cause))
  found_none boots.BadDecision did = absurd ((stops boots.BadDecision did).0 order.committed refl)
  found_none (boots.BadChain device fault) did = let stop = stops (boots.BadChain device fault) did in stopped (Err (boots.BadChain device fault)) did stop.0 (boots.BadChain device fault) stop.1 stop.3
  found_none (boots.BadHeader device fault) did = let stop = stops (boots.BadHeader device fault) did in stopped (Err (boots.BadHeader device fault)) did stop.0 (boots.BadHeader device fault) stop.1 stop.3
  found_none (boots.Reserved device) did = let stop = stops (boots.Reserved device) did in stopped (Err (boots.Reserved device)) did stop.0 (boots.Reserved device) stop.1 stop.3
  found_none boots.DiskFault did = let stop = stops boots.DiskFault did in stopped (Err boots.DiskFault) did stop.0 boots.DiskFault stop.1 stop.3
  found_none boots.NoMemory did = refl

  ended : (refusal : Refusal) (r : Result PairBooted PairBootFault) → WasPairBooted c.views c.keepers c.disks c.disks_after c.keeper c.keeper_after r → IsPairBootRefusal r refusal → status_of refusal ≡ 11
  ended refusal (Ok booted) did told = ap status_of told
  ended refusal (Err fault) did told = ap status_of (told ∙ ap refusal_of_pair_boot (found_none fault did))

  unsettled : (refusal : Refusal) → PairUnsettled c.views c.keepers c.disks c.disks_after c.keeper c.keeper_after refusal → status_of refusal ≡ 11
  unsettled refusal (inl none) = absurd (no_decision_cause c.keepers c.keeper c.keeper_after order.committed refusal order.kept order.calls.keeper none.2)
  unsettled refusal (inr (inl none)) = elim none.3 [
    | inl memory ↦ ap status_of memory
    | inr stop ↦ absurd (no_sizes_stop refusal stop)
  ]
  unsettled refusal (inr (inr settled)) = ended refusal settled.0 settled.1 settled.2

-- where nothing outside stands in the way, only want of memory refuses it
pub pair_boot_ends : FaultyIsNotSound → (c : PairCall) (refusal : Refusal) → PairBootInOrder c → PairBootCause c refusal → status_of refusal ≡ 11
pair_boot_ends law c refusal order cause = unsettled law c order refusal cause.1
