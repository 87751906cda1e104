-- How the call `boot` goes: the restoration in it, its end, and the whole call over any disk and keeper, and over those
-- that tell what they hold.
use Rattle.std.specs.Prelude.{◌≡◌, ◌⊎◌, ℕ, ◌<◌, ◌≤◌, zero, suc, Bool, true, false, List, ◌∷◌, Option, None, Some, Result, Ok, Err}
use Rattle.bow_units.specs.declared.sizes.Geometry.{Geometry}
use Rattle.bow_units.specs.Causes.{Rose}
use Rattle.bow_log.specs.Generations.{Generation}
use Rattle.bow_disk.specs.Disk.{Content, IsCrash, IsImage}
use Rattle.bow_chain.specs.Contents.{contents_of}
use Rattle.bow_chain.specs.Places.{base}
use Rattle.bow_chain.specs.Sound.{IsSound}
use Rattle.bow_chain.specs.Faults.{IsFirstFault}
use Rattle.bow_restore.specs.Rewinds.{PassesOn}
use Rattle.bow_restore.specs.Replaying.{IsFlushed}
use Rattle.bow_disk.specs.Moments.{Tells as HoldsOf}
use Rattle.bow_restore.specs.Answers.{IsOfChain}
use Rattle.bow_restore.specs.declared.answers.Restored.{Restored}
use Rattle.bow_restore.specs.declared.answers.Restored.TheVariants as restored
use Rattle.vold_meta.specs.Keeper.{Changes, Elapses}
use Rattle.vold_meta.specs.Attempts.{most_attempts, text_of, Tells, IsBad}
use Rattle.vold_commands.specs.Attempts.{marked, Puts}
use Rattle.vold_commands.specs.Boots.{IsLogged, EndedBoot, CutBoot}
use Rattle.vold_commands.specs.declared.boots.Booted.{Booted}
use Rattle.vold_commands.specs.declared.boots.Booted.TheVariants.{Plain, Checkpointing, RolledBack}
use Rattle.vold_commands.specs.declared.boots.BootFault.{BootFault}
use Rattle.vold_commands.specs.declared.boots.BootFault.TheVariants.{KeeperFault, BadAttempts, BadChain, DiskFault, NoMemory}

-- what a restoration's answer is for a boot
abbrev pub IsToldAs : Restored → Result Bool BootFault → Type 0
IsToldAs restored.Nothing r = r ≡ Ok false
IsToldAs (restored.Done entries marks) r = r ≡ Ok true
IsToldAs (restored.Stopped writes) r = r ≡ Ok true
IsToldAs (restored.BadChain fault) r = r ≡ Err (BadChain fault)
IsToldAs restored.DiskFault r = r ≡ Err DiskFault
IsToldAs restored.NoMemory r = r ≡ Err NoMemory

-- a restoration that ended well made this image of a sound one: each block holds what was kept of it
pub record Whole (g : Geometry) (i j : List (List ℕ)) : Type 0 where
  pub log : Generation
  pub older : List Generation
  pub sound : IsSound g (contents_of i) log older
  pub image : IsImage g.block_size g.blocks j
  pub now : (x : ℕ) → x < g.blocks → contents_of j x ≡ contents_of i (base (log ∷ older) x)

-- nothing was changed, and all is flushed
abbrev pub StaysFlushed : Content → Content → Type 0
StaysFlushed old new = (new.now ≡ old.now) × IsFlushed new

-- a restoration ended well, where block 0 had begun with a magic or had not, and all is flushed
abbrev pub PutsBack : Geometry → Bool → Content → Content → Type 0
PutsBack g true old new = IsLogged old.now × Whole g old.now new.now × IsFlushed new
PutsBack g false old new = (IsLogged old.now → ⊥) × StaysFlushed old new

-- what stands after the restoration in a boot, by its answer; after a fault of the disk what a cut may leave
abbrev pub Backs : {T : Type 0} → Geometry → (T → Option Content) → T → Content → Result Bool BootFault → Type 0
Backs g content disk old (Ok logged) = HoldsOf content (PutsBack g logged old) disk
Backs g content disk old (Err KeeperFault) = ⊥
Backs g content disk old (Err BadAttempts) = ⊥
Backs g content disk old (Err (BadChain fault)) = IsLogged old.now × IsFirstFault g (contents_of old.now) fault
    × HoldsOf content (StaysFlushed old) disk
Backs g content disk old (Err DiskFault) = (new : Content) → content disk ≡ Some new
    → IsCrash old.candidates new.now ⊎ PassesOn g old.now new.now
Backs g content disk old (Err NoMemory) = HoldsOf content (StaysFlushed old) disk

-- the answer is one of the restoration's, whatever the disk tells: a fault of the disk comes only where its count rose
abbrev pub IsBackCaused : ℕ → ℕ → Result Bool BootFault → Type 0
IsBackCaused before now (Ok logged) = Unit {0}
IsBackCaused before now (Err KeeperFault) = ⊥
IsBackCaused before now (Err BadAttempts) = ⊥
IsBackCaused before now (Err (BadChain fault)) = IsOfChain fault
IsBackCaused before now (Err DiskFault) = Rose before now
IsBackCaused before now (Err NoMemory) = Unit {0}

-- how a boot ends by the marked attempts, and by whether block 0 had begun with a magic
abbrev pub EndsBy : Option ℕ → Bool → Result Booted BootFault → Type 0
EndsBy None true r = r ≡ Ok RolledBack
EndsBy None false r = r ≡ Ok Plain
EndsBy (Some zero) logged r = (r ≡ Ok RolledBack) ⊎ (r ≡ Err KeeperFault)
EndsBy (Some (suc m)) logged r = r ≡ Ok (Checkpointing (suc m))

-- what it then keeps
abbrev pub KeepsBy : Option ℕ → Result Booted BootFault → Option (List ℕ) → Option (List ℕ) → Type 0
KeepsBy None r old new = new ≡ old
KeepsBy (Some zero) r old new = Changes r None old new
KeepsBy (Some (suc m)) r old new = new ≡ old

-- in how many calls of the keeper
abbrev pub end_calls : Option ℕ → ℕ
end_calls None = 0
end_calls (Some zero) = 1
end_calls (Some (suc m)) = 0

-- a fault of the keeper, or of the disk, is answered only where its count rose in this call; a refused chain is told by
-- a fault of the chain
abbrev pub IsBootCaused : ℕ → ℕ → ℕ → ℕ → Result Booted BootFault → Type 0
IsBootCaused keeper_before keeper_now disk_before disk_now (Ok answer) = Unit {0}
IsBootCaused keeper_before keeper_now disk_before disk_now (Err KeeperFault) = Rose keeper_before keeper_now
IsBootCaused keeper_before keeper_now disk_before disk_now (Err BadAttempts) = Unit {0}
IsBootCaused keeper_before keeper_now disk_before disk_now (Err (BadChain fault)) = IsOfChain fault
IsBootCaused keeper_before keeper_now disk_before disk_now (Err DiskFault) = Rose disk_before disk_now
IsBootCaused keeper_before keeper_now disk_before disk_now (Err NoMemory) = Unit {0}

-- the marked attempts are kept
abbrev pub KeepsMarked : {U : Type 0} → (U → Option (Option (List ℕ))) → U → Option (List ℕ) → Type 0
KeepsMarked kept keeper k = (attempts : Option ℕ) × Tells k attempts × (kept keeper ≡ Some (text_of (marked attempts)))

-- what a boot leaves that ended so, by image and text at its entry: where it ended well it is a boot that ended,
-- with all flushed; a bad text has nothing changed; after each other fault but the keeper's the mark stands
abbrev pub BootLeaves : {T U : Type 0} → Geometry → (T → Option Content) → (U → Option (Option (List ℕ))) → T → U
    → Content → Option (List ℕ) → Result Booted BootFault → Type 0
BootLeaves g content kept disk keeper c k (Ok answer) = (l : Option (List ℕ)) × (kept keeper ≡ Some l)
    × HoldsOf content (λ new. IsFlushed new × EndedBoot (Whole g) c.now k answer new.now l) disk
BootLeaves g content kept disk keeper c k (Err KeeperFault) = Unit {0}
BootLeaves g content kept disk keeper c k (Err BadAttempts) = IsBad k × (kept keeper ≡ Some k)
    × (content disk ≡ Some c)
BootLeaves g content kept disk keeper c k (Err (BadChain fault)) = IsLogged c.now
    × IsFirstFault g (contents_of c.now) fault × HoldsOf content (StaysFlushed c) disk × KeepsMarked kept keeper k
BootLeaves g content kept disk keeper c k (Err DiskFault) = KeepsMarked kept keeper k
BootLeaves g content kept disk keeper c k (Err NoMemory) = HoldsOf content (StaysFlushed c) disk
    × KeepsMarked kept keeper k

-- a boot that fails is a boot that was cut: of an image that a cut might have left at its entry, it leaves what a cut
-- in the boot leaves
abbrev pub BootIsCut : {T U : Type 0} → Geometry → (T → Option Content) → (U → Option (Option (List ℕ))) → T → U
    → Content → Option (List ℕ) → Result Booted BootFault → Type 0
BootIsCut g content kept disk keeper c k (Ok answer) = Unit {0}
BootIsCut g content kept disk keeper c k (Err fault) = (l : Option (List ℕ)) × (kept keeper ≡ Some l)
    × ((new : Content) → content disk ≡ Some new
    → (i : List (List ℕ)) × IsCrash c.candidates i × CutBoot (Whole g) (PassesOn g) i k new.now l)

-- The disk holds what a restoration leaves that ended well, of what it held before.
abbrev pub IsPutBack : {T : Type 0} → Geometry → (T → Option Content) → T → T → Type 0
IsPutBack g content old new = (c : Content) → content old ≡ Some c
    → (logged : Bool) × HoldsOf content (PutsBack g logged c) new

-- what a boot may put, where this is kept at its entry: the marked attempts, or no text, and that only where the marked
-- attempts are 0 and the restoration has ended well
abbrev pub BootPuts : Type 0 → Option (List ℕ) → Option (List ℕ) → Type 0
BootPuts ended_well k c = Puts marked k c
    ⊎ ((c ≡ None) × ended_well × ((attempts : Option ℕ) × Tells k attempts × (marked attempts ≡ Some 0)))

-- so many calls of the keeper were made, at most three
pub record BootTime (before now : ℕ) (past since : ℕ → Option (List ℕ) → Type 0) (put : Option (List ℕ) → Type 0) :
    Type 0 where
  pub calls : ℕ
  pub few : calls ≤ 3
  pub time : Elapses calls before now past since put

-- what a boot answers that ended well, whatever disk and keeper tell: attempts that are left are more than 0, and fewer
-- than may be kept
abbrev pub IsBootAnswer : Booted → Type 0
IsBootAnswer Plain = Unit {0}
IsBootAnswer (Checkpointing left) = (0 < left) × (left < most_attempts)
IsBootAnswer RolledBack = Unit {0}
