-- Several devices in a user's words: whatever a decision left, a boot that ends well settles all of them in one way.
use Rattle.std.specs.Prelude.{◌≡◌, ◌⊎◌, ℕ, true, false, List, Option, None}
use Rattle.bow_units.specs.declared.sizes.Geometry.{Geometry}
use Rattle.bow_units.specs.declared.requests.Phase.TheVariants.{Checkpoint}
use Rattle.bow_disk.specs.Disk.{Content}
use Rattle.bow_core.specs.Views.{View}
use Rattle.bow_pair.specs.Boots.{CutBoots, EndedBoot}
use Rattle.bow_pair.specs.BootLaws.{AreSizesOf}
use Rattle.bow_pair.specs.Deciding.{AgreesBy, TakesPart}
use Rattle.bow_pair.specs.Joint.{AreMembers, Each, IsMember, Member, Settled}
use Rattle.bow_pair.specs.declared.boots.PairBooted.{PairBooted}
use Rattle.bow_pair.specs.declared.deciding.Decided.{Decided}
use Rattle.bow_pair.specs.declared.deciding.Decided.TheVariants.{Committed, NotCommitted, Unfinished, KeeperFault}

-- A device that takes part, in the checkpoint, is a member as boots ask for it.
abbrev pub MembersTakePart : {D : Type 0} → (D → Option Content) → Type 0
MembersTakePart {D} content =
    (v : View D) (m : Member) → v.memory.phase ≡ Checkpoint → TakesPart content v m → IsMember m

-- What all devices have in the end, by what the decision answered: their committed data once it was kept, their
-- checkpoint where it was not, and after a fault of the keeper all the one or all the other.
abbrev pub SettlesBy : Decided → List Member → (ℕ → List (List ℕ)) → Type 0
SettlesBy Committed members last = Each (Settled true) members last
SettlesBy (NotCommitted device) members last = Each (Settled false) members last
SettlesBy (Unfinished device) members last = Each (Settled true) members last
SettlesBy KeeperFault members last = Each (Settled true) members last ⊎ Each (Settled false) members last

-- Cut the devices where a decision of them ended, in whatever way, and then boots, as often as may be, each anywhere:
-- the first boot that ends well leaves all devices with their committed data, or all with their checkpoint in place.
-- Which of the two the decision's answer says, but after a fault of the keeper.
abbrev pub DecisionsSettle : Type 0
DecisionsSettle = (answer : Decided) (members : List Member) (sizes : List Geometry) → AreMembers members
    → AreSizesOf members sizes
    → (boots : List ((ℕ → List (List ℕ)) × Option (List ℕ))) (i j last : ℕ → List (List ℕ))
    (text left kept : Option (List ℕ)) (booted : PairBooted) → AgreesBy answer text members i
    → CutBoots sizes boots i text j left → EndedBoot sizes j left booted last kept
    → SettlesBy answer members last × (kept ≡ None)
