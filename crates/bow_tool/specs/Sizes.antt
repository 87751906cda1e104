-- The sizes of the disk that a command works on.
use Rattle.std.specs.Prelude.{◌≡◌, ℕ, ◌≤◌, List, Option, Some}
use Rattle.bow_units.specs.declared.sizes.Geometry.{Geometry}
use Rattle.bow_units.specs.Sizes.{IsValid}
use Rattle.bow_units.specs.Causes.{Rose}
use Rattle.bow_disk.specs.Disk.{Goes, Same}
use Rattle.bow_tool.specs.declared.refusals.Refusal.{Refusal}
use Rattle.bow_tool.specs.declared.refusals.Refusal.TheVariants.{DiskFault, BadGeometry}
use Rattle.bow_tool.specs.Outside.{DiskView}

-- why a command gets no sizes: the disk states others than a device may have, or its call failed
abbrev pub SizesCause : Option Geometry → ℕ → ℕ → Refusal → Type 0
SizesCause stated faults now (BadGeometry g) = (stated ≡ Some g) × (IsValid g → ⊥)
SizesCause stated faults now DiskFault = Rose faults now
SizesCause stated faults now refusal = ⊥

-- the sizes were asked, and nothing else: no call that may change anything was made
pub record OnlySizes {D : Type 0} (v : DiskView D) (old new : D) : Type 0 where
  pub content : Goes Same (v.content old) (v.content new)
  pub moment : v.moment new ≡ v.moment old
  pub past : (t : ℕ) (cut : List (List ℕ)) → v.left_since new t cut → v.left_since old t cut
  pub keeps : (t : ℕ) (cut : List (List ℕ)) → v.left_since old t cut → v.left_since new t cut
  pub faults : v.faults old ≤ v.faults new

-- the disk states these sizes, which a device may have
abbrev pub HasSizes : {D : Type 0} → DiskView D → D → Geometry → Type 0
HasSizes v disk g = (v.stated disk ≡ Some g) × IsValid g
