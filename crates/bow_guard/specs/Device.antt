-- The device from the checkpoint on, as a cut sees it.
use Rattle.std.specs.Prelude.{ℕ, ◌≡◌, ◌≢◌, ◌<◌, ◌⊎◌, Bool, false, true, List, [], ◌∷◌, Some}
use Rattle.bow_units.specs.declared.sizes.Geometry.{Geometry}
use Rattle.bow_units.specs.declared.statuses.Kind.{Kind}
use Rattle.bow_units.specs.declared.statuses.Kind.TheVariants.{Current, Unchanged, Free, Changed, Backup as BackupKind, Saved}
use Rattle.bow_log.specs.Generations.{Backup, Generation}
pub use Rattle.bow_log.specs.Generations.{with_backup}
use Rattle.bow_chain.specs.Contents.{Contents}
use Rattle.bow_chain.specs.Places.{InSource, InDest}
use Rattle.bow_chain.specs.Sound.{log_in}
use Rattle.bow_guard.specs.Cuts.{Candidates, WriteGiven}

-- The device: what its disk holds and may hold after a cut, and what is in its memory.
pub record Device : Type 0 where
  pub now : Contents
  pub may : Candidates
  -- what each block is used for
  pub kind : ℕ → Kind
  -- the blocks that the batch in hand has picked, until its log is given to the disk
  pub picked : ℕ → Bool
  -- the log in memory, and its older ones, the newest first
  pub log : Generation
  pub older : List Generation
  -- the last log that is known to be durable, and its older ones
  pub clean_log : Generation
  pub clean_older : List Generation

-- a cut leaves this block of the device as it is, and no log that is yet to be given will have it as a dest
pub record Firm (g : Geometry) (d : Device) (b : ℕ) : Type 0 where
  pub on_device : b < g.blocks
  pub one : d.may b ≡ d.now b ∷ []
  pub not_picked : d.picked b ≡ false

-- a place where the log in memory may keep what it needs: it is not written before the log has changed
pub record Steady (g : Geometry) (d : Device) (b : ℕ) : Type 0 where
  pub firm : Firm g d b
  pub kind : (d.kind b ≡ Unchanged) ⊎ (d.kind b ≡ BackupKind)

-- a place where the last durable log may keep what it needs: it is not written before the log in memory is durable too
pub record Safe (g : Geometry) (d : Device) (b : ℕ) : Type 0 where
  pub firm : Firm g d b
  pub kind : ((d.kind b ≡ Unchanged) ⊎ (d.kind b ≡ BackupKind)) ⊎ (d.kind b ≡ Saved)

-- a block that may be written in place: a batch in hand has picked it, or it holds nothing that any log needs
abbrev pub IsLoose : Device → ℕ → Type 0
IsLoose d b = (d.picked b ≡ true) ⊎ (((d.kind b ≡ Changed) ⊎ (d.kind b ≡ Free)) ⊎ (d.kind b ≡ Current))

-- nothing but this block was written, if anything was
pub record Touches (b : ℕ) (d e : Device) : Type 0 where
  pub now : (x : ℕ) → x ≢ b → e.now x ≡ d.now x
  pub may : (x : ℕ) → x ≢ b → e.may x ≡ d.may x

-- the logs are the same
pub record SameLogs (d e : Device) : Type 0 where
  pub log : e.log ≡ d.log
  pub older : e.older ≡ d.older
  pub clean_log : e.clean_log ≡ d.clean_log
  pub clean_older : e.clean_older ≡ d.clean_older

-- the log in memory is known to be durable
pub record IsClean (d : Device) : Type 0 where
  pub log : d.clean_log ≡ d.log
  pub older : d.clean_older ≡ d.older

-- the device over these contents and candidates
abbrev pub over : Device → Contents → Candidates → Device
over d now may = record d { now = now; may = may }

-- once the log that backs it up is durable, what was saved may be written
abbrev pub unsaved : Kind → Kind
unsaved Saved = Changed
unsaved kind = kind

-- The log in memory has changed and was given to block 0, whether that write was done or failed. It has a backup more,
-- whose dest had been picked, was flushed, and is Backup; its sources are Saved, until the log is durable.
pub record LogGiven (g : Geometry) (b : Backup) (d e : Device) : Type 0 where
  pub block : List ℕ
  pub spelled : log_in g block ≡ Some e.log
  pub write : WriteGiven 0 block d.now e.now d.may e.may
  pub clean_log : e.clean_log ≡ d.clean_log
  pub clean_older : e.clean_older ≡ d.clean_older
  pub dest_picked : (x : ℕ) → InDest b x → d.picked x ≡ true
  pub dest_flushed : (x : ℕ) → InDest b x → d.may x ≡ d.now x ∷ []
  pub dest_given : (x : ℕ) → InDest b x → e.picked x ≡ false
  pub dest_kind : (x : ℕ) → InDest b x → e.kind x ≡ BackupKind
  pub others_picked : (x : ℕ) → (InDest b x → ⊥) → e.picked x ≡ d.picked x
  pub source_kind : (x : ℕ) → 0 < x → InSource b x → e.kind x ≡ Saved
  pub others_kind : (x : ℕ) → (InSource b x → ⊥) → (InDest b x → ⊥) → e.kind x ≡ d.kind x
  pub zeroth : e.kind 0 ≡ d.kind 0
