-- What a boot did: its line, and why it was refused.
use Rattle.std.specs.Prelude.{◌≡◌, ◌⊎◌, ℕ, Bool, List, ◌++◌, codes, Option, Some, Result, Ok, Err, IfOk, IsOk}
use Rattle.std.specs.Fmt.{decimal}
use Rattle.bow_units.specs.declared.sizes.Geometry.{Geometry}
use Rattle.bow_disk.specs.Disk.{Content, IsCrash}
use Rattle.bow_disk.specs.Moments.{AddsCuts, Tells}
use Rattle.bow_chain.specs.Contents.{Contents, contents_of}
use Rattle.bow_chain.specs.Kept.{IsPlain, Holds}
use Rattle.bow_restore.specs.Rewinds.{PassesOn}
use Rattle.bow_restore.specs.Answers.{IsBack}
use Rattle.vold_commands.specs.Boot.{IsBootAnswer, IsBootCaused, BootLeaves, BootIsCut, IsPutBack, BootPuts, BootTime}
use Rattle.vold_commands.specs.declared.boots.Booted.{Booted}
use Rattle.vold_commands.specs.declared.boots.Booted.TheVariants.{Plain, Checkpointing, RolledBack}
use Rattle.vold_commands.specs.declared.boots.BootFault.{BootFault}
use Rattle.vold_commands.specs.declared.boots.BootFault.TheVariants as boots
use Rattle.bow_promise.specs.Cutting.{Play, IsCutOf}
use Rattle.bow_promise.specs.Recovering.{IsLeftOf, IsRecovered}
use Rattle.bow_tool.specs.declared.refusals.Refusal.{Refusal}
use Rattle.bow_tool.specs.declared.refusals.Refusal.TheVariants.{DiskFault, KeeperFault, BadChain, BadAttempts, NoMemory}
use Rattle.bow_tool.specs.Outside.{Call, DiskView, KeeperView, SourceLeft}
use Rattle.bow_tool.specs.Sizes.{HasSizes, OnlySizes, SizesCause}

-- A boot of a device of these sizes ended so: what it answers and leaves; that one that failed is one that was cut;
-- what a cut leaves of the text, and of the image. After a play that was cut, and restorations and boots that were, it
-- fulfils what is promised of that cut where it ends well; and what it leaves, cut or not, the next one may go on from.
pub record IsBooted {D K : Type 0} (v : DiskView D) (w : KeeperView K) (g : Geometry) (old new : D) (from to : K)
    (r : Result Booted BootFault) : Type 0 where
  pub answer : IfOk r IsBootAnswer
  pub cause : IsBootCaused (w.faults from) (w.faults to) (v.faults old) (v.faults new) r
  pub leaves : (c : Content) → v.content old ≡ Some c → (k : Option (List ℕ)) → w.kept from ≡ Some k
      → BootLeaves g v.content w.kept new to c k r
  pub is_cut : (c : Content) → v.content old ≡ Some c → (k : Option (List ℕ)) → w.kept from ≡ Some k
      → BootIsCut g v.content w.kept new to c k r
  pub texts : (k : Option (List ℕ)) → w.kept from ≡ Some k
      → BootTime (w.moment from) (w.moment to) (w.left_since from) (w.left_since to)
      (BootPuts (IsPutBack g v.content old new) k)
  pub cuts : (c : Content) → v.content old ≡ Some c → AddsCuts v.moment v.left_since (PassesOn g c.now) old new
  pub holds : (c : Content) → v.content old ≡ Some c → (used : ℕ → Bool) (saved : Contents) → IsPlain (saved 0)
      → ((image : List (List ℕ)) → IsCrash c.candidates image → Holds g used saved (contents_of image))
      → (cut : List (List ℕ)) → v.left_since new (v.moment old) cut → Holds g used saved (contents_of cut)
  pub in_place : (c : Content) → v.content old ≡ Some c → (used : ℕ → Bool) (saved : Contents) → IsPlain (saved 0)
      → ((image : List (List ℕ)) → IsCrash c.candidates image → Holds g used saved (contents_of image))
      → IfOk r (λ _. Tells v.content (IsBack g used saved) new)
  pub recovered : (c : Content) → v.content old ≡ Some c → (kept : Option (List ℕ)) → w.kept from ≡ Some kept
      → (p : Play) (n : ℕ) (first : List (List ℕ)) → (k : IsCutOf p n first) → p.plan.sizes ≡ g → IsLeftOf g first c
      → IsRecovered v.content v.moment v.left_since g p n first k (IsOk r) old new

-- the line of a boot that ended well
abbrev pub booted_line : Booted → List ℕ
booted_line Plain = codes "plain\n"
booted_line (Checkpointing left) = codes "checkpointing " ++ decimal left ++ codes "\n"
booted_line RolledBack = codes "rolled back\n"

-- each fault as a refusal
abbrev pub refusal_of_boot : BootFault → Refusal
refusal_of_boot boots.KeeperFault = KeeperFault
refusal_of_boot boots.BadAttempts = BadAttempts
refusal_of_boot (boots.BadChain fault) = BadChain fault
refusal_of_boot boots.DiskFault = DiskFault
refusal_of_boot boots.NoMemory = NoMemory

-- so an answer is refused; the line of one that ends well may find no memory
abbrev pub IsBootRefusal : Result Booted BootFault → Refusal → Type 0
IsBootRefusal (Ok booted) refusal = refusal ≡ NoMemory
IsBootRefusal (Err fault) refusal = refusal ≡ refusal_of_boot fault

-- so an answer that ends well is told
abbrev pub IsBootedLine : Result Booted BootFault → List ℕ → Type 0
IsBootedLine (Ok booted) text = text ≡ booted_line booted
IsBootedLine (Err fault) text = ⊥

-- a boot that was made, of a disk with these sizes, came to an answer of which this holds
abbrev pub BootWith : {D K : Type 0} → DiskView D → KeeperView K → D → D → K → K
    → (Result Booted BootFault → Type 0) → Type 0
BootWith v w old new from to P = (g : Geometry) × HasSizes v new g
    × ((r : Result Booted BootFault) × IsBooted v w g old new from to r × P r)

-- why a boot is refused: it got no sizes, and nothing changed; or by its answer
abbrev pub BootRefused : {D K : Type 0} → DiskView D → KeeperView K → D → D → K → K → Refusal → Type 0
BootRefused v w old new from to refusal =
    (SizesCause (v.stated new) (v.faults old) (v.faults new) refusal × OnlySizes v old new × (to ≡ from))
    ⊎ BootWith v w old new from to (λ r. IsBootRefusal r refusal)

-- a boot was made, as a call of the program, and the text is its line
abbrev pub BootText : Call → List ℕ → Type 0
BootText c text = SourceLeft c
    × BootWith c.disks c.keepers c.disk c.disk_after c.keeper c.keeper_after (λ r. IsBootedLine r text)

-- a boot was refused, for this cause
abbrev pub BootCause : Call → Refusal → Type 0
BootCause c refusal = SourceLeft c × BootRefused c.disks c.keepers c.disk c.disk_after c.keeper c.keeper_after refusal
