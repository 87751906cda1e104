-- What a restoration and giving the checkpoint up did: the line, and why it was refused.
use Rattle.std.specs.Prelude.{◌≡◌, ◌⊎◌, ℕ, Bool, List, ◌∷◌, ◌++◌, codes, Option, Some}
use Rattle.std.specs.Fmt.{decimal}
use Rattle.bow_units.specs.declared.sizes.Geometry.{Geometry}
use Rattle.bow_log.specs.Generations.{Generation}
use Rattle.bow_disk.specs.Disk.{Content, IsCrash, IsSettledOn}
use Rattle.bow_disk.specs.Moments.{AddsCuts, Tells}
use Rattle.bow_chain.specs.Contents.{Contents, contents_of}
use Rattle.bow_chain.specs.Sound.{IsSound}
use Rattle.bow_chain.specs.Kept.{IsPlain, Holds}
use Rattle.bow_chain.specs.Faults.{IsFirstFault}
use Rattle.bow_chain.specs.declared.faults.ChainFault.{ChainFault}
use Rattle.bow_restore.specs.Rewinds.{PassesOn}
use Rattle.bow_restore.specs.Answers.{IsCaused, TellsHead, TellsSound, TellsFault, LeftBy, Untouched, EndsBack}
use Rattle.bow_restore.specs.Forwarding.{HasReason, TellsForward, LeftAtForward, IsForwardCut}
use Rattle.bow_restore.specs.declared.answers.Restored.{Restored}
use Rattle.bow_restore.specs.declared.answers.Restored.TheVariants as restored
use Rattle.bow_restore.specs.declared.answers.Forwarded.{Forwarded}
use Rattle.bow_restore.specs.declared.answers.Forwarded.TheVariants as forwarded
use Rattle.bow_promise.specs.Cutting.{Play, IsCutOf}
use Rattle.bow_promise.specs.Recovering.{HasEndedWell, IsLeftOf, IsRecovered}
use Rattle.bow_tool.specs.declared.refusals.Refusal.{Refusal}
use Rattle.bow_tool.specs.declared.refusals.Refusal.TheVariants.{DiskFault, BadChain, BadHeader, Reserved, NoMemory, Stopped}
use Rattle.bow_tool.specs.Outside.{Call, DiskView, SourceLeft, KeeperLeft}
use Rattle.bow_tool.specs.Sizes.{HasSizes, OnlySizes, SizesCause}

-- A restoration of a device of these sizes came to this answer: which one, by the image at entry; what it leaves; and
-- what a cut in it leaves. After a play that was cut, and restorations and boots that were, it fulfils what is promised
-- of that cut where it ends well; and what it leaves, cut or not, the next one may go on from.
pub record IsRestored {D : Type 0} (v : DiskView D) (g : Geometry) (limit : Option ℕ) (old new : D)
    (answer : Restored) : Type 0 where
  pub cause : IsCaused limit (v.faults old) (v.faults new) answer
  pub head : (c : Content) → v.content old ≡ Some c → TellsHead (contents_of c.now 0) answer
  pub each_sound : (c : Content) → v.content old ≡ Some c → (log : Generation) (older : List Generation)
      → IsSound g (contents_of c.now) log older → TellsSound limit (log ∷ older) answer
  pub each_fault : (c : Content) → v.content old ≡ Some c → (first : ChainFault)
      → IsFirstFault g (contents_of c.now) first → TellsFault first answer
  pub left : (c : Content) → v.content old ≡ Some c → (log : Generation) (older : List Generation)
      → IsSound g (contents_of c.now) log older → LeftBy g (log ∷ older) v.content new c answer
  pub untouched : (c : Content) → v.content old ≡ Some c → (first : ChainFault)
      → IsFirstFault g (contents_of c.now) first → Tells v.content (Untouched answer c) new
  pub plain : (c : Content) → v.content old ≡ Some c → IsPlain (contents_of c.now 0)
      → Tells v.content (Untouched answer c) new
  pub cuts : (c : Content) → v.content old ≡ Some c → AddsCuts v.moment v.left_since (PassesOn g c.now) old new
  pub settled : (c : Content) → v.content old ≡ Some c → IsSettledOn c.now c → (cut : List (List ℕ))
      → v.left_since new (v.moment old) cut → PassesOn g c.now cut
  pub holds : (c : Content) → v.content old ≡ Some c → (used : ℕ → Bool) (saved : Contents) → IsPlain (saved 0)
      → ((image : List (List ℕ)) → IsCrash c.candidates image → Holds g used saved (contents_of image))
      → (cut : List (List ℕ)) → v.left_since new (v.moment old) cut → Holds g used saved (contents_of cut)
  pub back : (c : Content) → v.content old ≡ Some c → (used : ℕ → Bool) (saved : Contents) → IsPlain (saved 0)
      → ((image : List (List ℕ)) → IsCrash c.candidates image → Holds g used saved (contents_of image))
      → EndsBack g used saved v.content new answer
  pub recovered : (c : Content) → v.content old ≡ Some c → (p : Play) (n : ℕ) (first : List (List ℕ))
      → (k : IsCutOf p n first) → p.plan.sizes ≡ g → IsLeftOf g first c
      → IsRecovered v.content v.moment v.left_since g p n first k (HasEndedWell answer) old new

-- the line of a restoration with these counts
abbrev pub restored_line : ℕ → ℕ → List ℕ
restored_line entries marks = codes "restored entries "
    ++ (decimal entries ++ (codes " marks " ++ (decimal marks ++ codes "\n")))

-- the line of an answer that ends well
abbrev pub IsRestoredLine : Restored → List ℕ → Type 0
IsRestoredLine restored.Nothing text = text ≡ codes "nothing to restore\n"
IsRestoredLine (restored.Done entries marks) text = text ≡ restored_line entries marks
IsRestoredLine answer text = ⊥

-- each other answer as a refusal; the line of one that ends well may find no memory
abbrev pub IsRestoreRefusal : Restored → Refusal → Type 0
IsRestoreRefusal restored.Nothing refusal = refusal ≡ NoMemory
IsRestoreRefusal (restored.Done entries marks) refusal = refusal ≡ NoMemory
IsRestoreRefusal (restored.Stopped writes) refusal = refusal ≡ Stopped writes
IsRestoreRefusal (restored.BadChain fault) refusal = refusal ≡ BadChain fault
IsRestoreRefusal restored.DiskFault refusal = refusal ≡ DiskFault
IsRestoreRefusal restored.NoMemory refusal = refusal ≡ NoMemory

-- the checkpoint was given up on a device of these sizes, with this answer
pub record IsForwarded {D : Type 0} (v : DiskView D) (g : Geometry) (old new : D) (answer : Forwarded) : Type 0 where
  pub reason : HasReason (v.faults old) (v.faults new) answer
  pub memory : answer ≡ forwarded.NoMemory → OnlySizes v old new
  pub tells : (c : Content) → v.content old ≡ Some c → TellsForward g (contents_of c.now) answer
  pub left : (c : Content) → v.content old ≡ Some c → LeftAtForward g v.content new c answer
  pub cuts : (c : Content) → v.content old ≡ Some c → AddsCuts v.moment v.left_since (IsForwardCut g c.now) old new

-- so an answer that ends well is told
abbrev pub IsForwardedLine : Forwarded → List ℕ → Type 0
IsForwardedLine forwarded.Nothing text = text ≡ codes "nothing to forward\n"
IsForwardedLine forwarded.Done text = text ≡ codes "forwarded\n"
IsForwardedLine answer text = ⊥

-- so an answer is refused; the line of one that ends well may find no memory
abbrev pub IsForwardRefusal : Forwarded → Refusal → Type 0
IsForwardRefusal forwarded.Nothing refusal = refusal ≡ NoMemory
IsForwardRefusal forwarded.Done refusal = refusal ≡ NoMemory
IsForwardRefusal (forwarded.BadHeader fault) refusal = refusal ≡ BadHeader fault
IsForwardRefusal forwarded.Reserved refusal = refusal ≡ Reserved
IsForwardRefusal forwarded.DiskFault refusal = refusal ≡ DiskFault
IsForwardRefusal forwarded.NoMemory refusal = refusal ≡ NoMemory

-- the disk states valid sizes, and with them something was done that came to an answer of which this holds
abbrev pub WithSizes : {D A : Type 0} → DiskView D → D → (Geometry → A → Type 0) → (A → Type 0) → Type 0
WithSizes {D} {A} v new Did P = (g : Geometry) × HasSizes v new g × ((answer : A) × Did g answer × P answer)

-- why a command on the image is refused: it got no sizes, and nothing changed; or by its answer
abbrev pub ImageCause : {D A : Type 0} → DiskView D → D → D → (Geometry → A → Type 0) → (A → Refusal → Type 0) → Refusal
    → Type 0
ImageCause v old new Did IsRefusal refusal =
    (SizesCause (v.stated new) (v.faults old) (v.faults new) refusal × OnlySizes v old new)
    ⊎ WithSizes v new Did (λ answer. IsRefusal answer refusal)

-- the disk alone was asked
abbrev pub AsksDiskAlone : Call → Type 0
AsksDiskAlone c = SourceLeft c × KeeperLeft c

-- a restoration was made, as a call of the program, and the text is its line
abbrev pub RestoreText : Option ℕ → Call → List ℕ → Type 0
RestoreText limit c text = AsksDiskAlone c × WithSizes c.disks c.disk_after
    (λ g answer. IsRestored c.disks g limit c.disk c.disk_after answer) (λ answer. IsRestoredLine answer text)

-- a restoration was refused, for this cause
abbrev pub RestoreCause : Option ℕ → Call → Refusal → Type 0
RestoreCause limit c refusal = AsksDiskAlone c × ImageCause c.disks c.disk c.disk_after
    (λ g answer. IsRestored c.disks g limit c.disk c.disk_after answer) IsRestoreRefusal refusal

-- the checkpoint was given up, as a call of the program, and the text is its line
abbrev pub ForwardText : Call → List ℕ → Type 0
ForwardText c text = AsksDiskAlone c × WithSizes c.disks c.disk_after
    (λ g answer. IsForwarded c.disks g c.disk c.disk_after answer) (λ answer. IsForwardedLine answer text)

-- giving it up was refused, for this cause
abbrev pub ForwardCause : Call → Refusal → Type 0
ForwardCause c refusal = AsksDiskAlone c × ImageCause c.disks c.disk c.disk_after
    (λ g answer. IsForwarded c.disks g c.disk c.disk_after answer) IsForwardRefusal refusal
