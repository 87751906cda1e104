-- What settling several devices did: its line, and why it was refused.
use Rattle.std.specs.Prelude.{◌≡◌, ◌⊎◌, ℕ, ◌<◌, Bool, List, length, codes, slice_get, Option, Some, Result, Ok, Err, IfOk, IfErr}
use Rattle.bow_units.specs.declared.sizes.Geometry.{Geometry}
use Rattle.bow_units.specs.Causes.{Rose}
use Rattle.bow_disk.specs.Disk.{Content}
use Rattle.vold_meta.specs.Decisions.{text_of_decision}
use Rattle.bow_pair.specs.Boot.{AreTold, Ends, IsCaused, SettlesAs, StaysAgreed, StopsBy}
use Rattle.bow_pair.specs.Boots.{CutBoot}
use Rattle.bow_pair.specs.Joint.{IsJointCut}
use Rattle.bow_pair.specs.Settling.{AreStated, AreValid}
use Rattle.bow_pair.specs.declared.boots.PairBooted.{PairBooted}
use Rattle.bow_pair.specs.declared.boots.PairBooted.TheVariants.{Forwarded, RolledBack, Plain}
use Rattle.bow_pair.specs.declared.boots.PairBootFault.{PairBootFault}
use Rattle.bow_pair.specs.declared.boots.PairBootFault.TheVariants as faults
use Rattle.bow_tool.specs.declared.refusals.Refusal.{Refusal}
use Rattle.bow_tool.specs.declared.refusals.Refusal.TheVariants.{DiskFault, KeeperFault, BadChain, BadHeader, Reserved, BadAttempts, NoMemory}
use Rattle.bow_tool.specs.declared.outcomes.Outcome.{Outcome}
use Rattle.bow_tool.specs.declared.outcomes.Outcome.TheVariants as outcome
use Rattle.bow_tool.specs.Outside.{DiskView, KeeperView}
use Rattle.bow_tool.specs.PairCalls.{OnlyAsked, OnlyRead, PairCall, PairSourceLeft}
use Rattle.bow_tool.specs.Sizes.{HasSizes, SizesCause}

-- the keeper keeps a decision or nothing, where it tells what it keeps
abbrev pub KeepsDecision : {K : Type 0} → KeeperView K → K → Type 0
KeepsDecision w keeper = (kept : Option (List ℕ)) → w.kept keeper ≡ Some kept
    → (committed : Bool) × (kept ≡ text_of_decision committed)

-- A boot of devices of these sizes ended so: its causes; what it answers and leaves; that one that failed is one that
-- was cut; that devices and text that agreed go on agreeing; and that each device is settled as they agreed.
pub record IsPairBooted {D K : Type 0} (v : DiskView D) (w : KeeperView K) (sizes : List Geometry) (old new : List D)
    (from to : K) (r : Result PairBooted PairBootFault) : Type 0 where
  pub cause : IsCaused (w.faults from) (w.faults to) v.faults old new r
  pub ends : (told : ℕ → Content) → AreTold v.content old told → (text left : Option (List ℕ)) → w.kept from ≡ Some text
      → w.kept to ≡ Some left → IfOk r (Ends v.content sizes new told text left)
  pub stops : (text left : Option (List ℕ)) → w.kept from ≡ Some text → w.kept to ≡ Some left
      → IfErr r (StopsBy v.content v.faults sizes old new text left)
  pub is_cut : (told : ℕ → Content) → AreTold v.content old told → (text left : Option (List ℕ))
      → w.kept from ≡ Some text → w.kept to ≡ Some left → (j : ℕ → List (List ℕ)) → IsJointCut v.content new j
      → IfErr r (λ _. (i : ℕ → List (List ℕ)) × IsJointCut v.content old i × CutBoot sizes i text j left)
  pub agreed : (told : ℕ → Content) → AreTold v.content old told → (text left : Option (List ℕ))
      → w.kept from ≡ Some text → w.kept to ≡ Some left → StaysAgreed v.content sizes old new text left
  pub settles : (told : ℕ → Content) → AreTold v.content old told → (text : Option (List ℕ)) → w.kept from ≡ Some text
      → IfOk r (λ _. SettlesAs v.content sizes old new text)
  pub tells : (text : Option (List ℕ)) → w.kept from ≡ Some text → (left : Option (List ℕ)) × (w.kept to ≡ Some left)
  pub stated : AreStated v.stated sizes new

-- The decision was read, the sizes of all disks were asked, and devices of these sizes were settled from there, as many
-- as disks are left.
pub record WasPairBooted {D K : Type 0} (v : DiskView D) (w : KeeperView K) (old new : List D) (from to : K)
    (r : Result PairBooted PairBootFault) : Type 0 where
  pub read : K
  pub only_read : OnlyRead w from read
  pub decided : KeepsDecision w from
  pub asked : List D
  pub only_asked : OnlyAsked v old asked
  pub sizes : List Geometry
  pub many : length sizes ≡ length asked
  pub valid : AreValid sizes
  pub stated : AreStated v.stated sizes asked
  pub booted : IsPairBooted v w sizes asked new read to r
  pub left : length new ≡ length asked

-- the line of a boot that ended well
abbrev pub pair_booted_line : PairBooted → List ℕ
pair_booted_line Forwarded = codes "forwarded\n"
pair_booted_line RolledBack = codes "rolled back\n"
pair_booted_line Plain = codes "plain\n"

-- each fault as a refusal
abbrev pub refusal_of_pair_boot : PairBootFault → Refusal
refusal_of_pair_boot faults.KeeperFault = KeeperFault
refusal_of_pair_boot faults.BadDecision = BadAttempts
refusal_of_pair_boot (faults.BadChain device fault) = BadChain fault
refusal_of_pair_boot (faults.BadHeader device fault) = BadHeader fault
refusal_of_pair_boot (faults.Reserved device) = Reserved
refusal_of_pair_boot faults.DiskFault = DiskFault
refusal_of_pair_boot faults.NoMemory = NoMemory

-- so an answer that ends well is told
abbrev pub IsPairBootedLine : Result PairBooted PairBootFault → List ℕ → Type 0
IsPairBootedLine (Ok booted) text = text ≡ pair_booted_line booted
IsPairBootedLine (Err fault) text = ⊥

-- so an answer is refused; the line of one that ends well may find no memory
abbrev pub IsPairBootRefusal : Result PairBooted PairBootFault → Refusal → Type 0
IsPairBootRefusal (Ok booted) refusal = refusal ≡ NoMemory
IsPairBootRefusal (Err fault) refusal = refusal ≡ refusal_of_pair_boot fault

-- why there is no decision to settle by: the keeper's call failed, or it keeps another text
abbrev pub DecisionCause : {K : Type 0} → KeeperView K → K → K → Refusal → Type 0
DecisionCause w old new KeeperFault = Rose (w.faults old) (w.faults new)
DecisionCause w old new BadAttempts = (kept : Option (List ℕ)) → w.kept old ≡ Some kept → (committed : Bool)
    → kept ≡ text_of_decision committed → ⊥
DecisionCause w old new refusal = ⊥

-- The sizes of a disk are not those of a device, or its call failed, and each disk before it has sizes of a device.
pub record SizesStop {D : Type 0} (v : DiskView D) (old new : List D) (refusal : Refusal) : Type 0 where
  pub device : ℕ
  pub before : (k : ℕ) (disk : D) → k < device → slice_get new k ≡ Some disk → (g : Geometry) × HasSizes v disk g
  pub was : D
  pub is : D
  pub was_here : slice_get old device ≡ Some was
  pub is_here : slice_get new device ≡ Some is
  pub cause : SizesCause (v.stated is) (v.faults was) (v.faults is) refusal

-- devices were settled, and came to an answer of which this holds
abbrev pub PairSettled : {D K : Type 0} → DiskView D → KeeperView K → List D → List D → K → K
    → (Result PairBooted PairBootFault → Type 0) → Type 0
PairSettled v w old new from to P = (r : Result PairBooted PairBootFault) × WasPairBooted v w old new from to r × P r

-- there is no decision, and no disk was asked
abbrev pub HasNoDecision : {D K : Type 0} → KeeperView K → List D → List D → K → K → Refusal → Type 0
HasNoDecision w old new from to refusal = (new ≡ old) × OnlyRead w from to × DecisionCause w from to refusal

-- the sizes of all disks were not got, and nothing but sizes was asked of them
abbrev pub HasNoSizes : {D K : Type 0} → DiskView D → KeeperView K → List D → List D → K → K → Refusal → Type 0
HasNoSizes v w old new from to refusal = KeepsDecision w from × OnlyRead w from to × OnlyAsked v old new
    × ((refusal ≡ NoMemory) ⊎ SizesStop v old new refusal)

-- Why several devices are not settled, or that is not told; by the order of the tests.
abbrev pub PairUnsettled : {D K : Type 0} → DiskView D → KeeperView K → List D → List D → K → K → Refusal → Type 0
PairUnsettled v w old new from to refusal =
    HasNoDecision w old new from to refusal ⊎ (HasNoSizes v w old new from to refusal
    ⊎ PairSettled v w old new from to (λ r. IsPairBootRefusal r refusal))

-- several devices were settled in this call, and this is told
abbrev pub PairBootText : PairCall → List ℕ → Type 0
PairBootText c text = PairSourceLeft c × PairSettled c.views c.keepers c.disks c.disks_after c.keeper c.keeper_after
    (λ r. IsPairBootedLine r text)

-- they were not, for this cause
abbrev pub PairBootCause : PairCall → Refusal → Type 0
PairBootCause c refusal = PairSourceLeft c
    × PairUnsettled c.views c.keepers c.disks c.disks_after c.keeper c.keeper_after refusal

-- what it came to
abbrev pub PairBootCame : PairCall → Outcome → Type 0
PairBootCame c (outcome.Done text) = PairBootText c text.items
PairBootCame c (outcome.Refused refusal) = PairBootCause c refusal
PairBootCame c (outcome.Behind refusal text) = ⊥
