-- What boots of several devices come to, one after another.
use Rattle.std.specs.Prelude.{◌≡◌, ◌⊎◌, ℕ, Bool, true, false, List, map, Option, None}
use Rattle.bow_units.specs.declared.sizes.Geometry.{Geometry}
use Rattle.bow_pair.specs.Joint.{Member, AreMembers, Each, AgreesOn, Settled}
use Rattle.bow_pair.specs.Boots.{CutBoots, EndedBoot}
use Rattle.bow_pair.specs.declared.boots.PairBooted.{PairBooted}
use Rattle.bow_pair.specs.declared.boots.PairBooted.TheVariants.{Forwarded, RolledBack, Plain}

-- these are the devices' sizes
abbrev pub AreSizesOf : List Member → List Geometry → Type 0
AreSizesOf members sizes = sizes ≡ map (λ m. m.sizes) members

-- However often boots are cut, devices and text that agree on committing, or on rolling back, agree on the same.
abbrev pub CutsStayAgreed : Type 0
CutsStayAgreed = (members : List Member) (sizes : List Geometry) → AreMembers members → AreSizesOf members sizes
    → (committed : Bool) (boots : List ((ℕ → List (List ℕ)) × Option (List ℕ))) (i j : ℕ → List (List ℕ))
    (text left : Option (List ℕ)) → AgreesOn committed text members i → CutBoots sizes boots i text j left
    → AgreesOn committed left members j

-- what a boot that ends well may answer to devices that agreed so
abbrev pub SettledAnswer : Bool → PairBooted → Type 0
SettledAnswer true answer = (answer ≡ Forwarded) ⊎ (answer ≡ Plain)
SettledAnswer false answer = (answer ≡ RolledBack) ⊎ (answer ≡ Plain)

-- A boot that ends well, however often one was cut before, leaves each device with its committed data where they agreed
-- on that, and else each with its checkpoint in place. No text is kept.
abbrev pub BootsSettle : Type 0
BootsSettle = (members : List Member) (sizes : List Geometry) → AreMembers members → AreSizesOf members sizes
    → (committed : Bool) (boots : List ((ℕ → List (List ℕ)) × Option (List ℕ))) (i j last : ℕ → List (List ℕ))
    (text left kept : Option (List ℕ)) (answer : PairBooted) → AgreesOn committed text members i
    → CutBoots sizes boots i text j left → EndedBoot sizes j left answer last kept
    → Each (Settled committed) members last × (kept ≡ None) × SettledAnswer committed answer
