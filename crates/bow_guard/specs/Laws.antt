-- What follows from the definitions.
use Rattle.std.specs.Prelude.{ℕ, suc, ◌≡◌, ◌≢◌, ◌<◌, ◌⊎◌, ◌↔◌, Bool, false, true, not, List, [], ◌∷◌, length, Some, None, Contains}
use Rattle.bow_units.specs.declared.sizes.Geometry.{Geometry}
use Rattle.bow_units.specs.declared.sizes.Extent.{Extent}
use Rattle.bow_units.specs.declared.statuses.Kind.TheVariants.{Sector0, Current, Unchanged, Backup as BackupKind, Saved}
use Rattle.bow_units.specs.Sizes.{IsValid}
use Rattle.bow_flat.specs.Flat.{Flat, May, is_any, after}
use Rattle.bow_flat.specs.Flat.Event.{Writes, Fails, Reads, Discards, Flushes, Arms, Decides, Commits}
use Rattle.bow_flat.specs.Valid.{IsState}
use Rattle.bow_disk.specs.Disk.{Content, IsShaped, IsCrash, Same, Offered, Written, Flushed}
use Rattle.bow_log.specs.Generations.{Backup, Generation, IsGeneration}
use Rattle.bow_chain.specs.Contents.{Contents, contents_of, with_block, run_of}
use Rattle.bow_chain.specs.Places.{hop, InSource}
use Rattle.bow_chain.specs.Sound.{log_in, sum_at}
use Rattle.bow_chain.specs.Kept.{IsPlain, Keeps, Holds}
use Rattle.bow_guard.specs.Cuts.{Candidates, candidates_of, IsCut, IsFlushed, WriteGiven}
use Rattle.bow_guard.specs.Device.{Device, Safe, IsLoose, Touches, SameLogs, IsClean, LogGiven, over, with_backup}
use Rattle.bow_guard.specs.Guard.{KeptBehind, Guarded}
use Rattle.bow_guard.specs.Standing.{StandsFor, HasCheckpointIn, Ahead}
use Rattle.bow_guard.specs.Phases.{IsPending, IsArming, IsDeciding, Leaves}

-- Whatever a cut leaves of a guarded device is sound and keeps what was saved.
abbrev pub CutsKeep : Type 0
CutsKeep = (g : Geometry) (used : ℕ → Bool) (saved : Contents) (d : Device) (image : Contents)
    → Guarded g used saved d → IsCut g d.may image → Keeps g used saved image

-- Behind whichever log a cut leaves in block 0 all is kept at safe places, none of which is block 0: each has one
-- candidate, is Unchanged, Backup or Saved, and was picked by no batch.
abbrev pub KeptAtSafePlaces : Type 0
KeptAtSafePlaces =
    (g : Geometry) (used : ℕ → Bool) (saved : Contents) (d : Device) (v : List ℕ) (log : Generation)
    → Guarded g used saved d → Contains (d.may 0) v → log_in g v ≡ Some log
    → (older : List Generation) × KeptBehind g (λ x. (x ≢ 0) × Safe g d x) used saved d.now log older

-- No safe place may be written in place.
abbrev pub SafeIsNotLoose : Type 0
SafeIsNotLoose = (g : Geometry) (d : Device) (x : ℕ) → Safe g d x → IsLoose d x → ⊥

-- A write, done or failed, of a block that may be written in place keeps the guard; so the direct writes of requests
-- and the copies of a batch do.
abbrev pub LooseWrites : Type 0
LooseWrites = (g : Geometry) (used : ℕ → Bool) (saved : Contents) (d e : Device) (b : ℕ)
    → b ≢ 0 → IsLoose d b → Touches b d e → SameLogs d e
    → ((x : ℕ) → x ≢ b → (e.kind x ≡ d.kind x) × (e.picked x ≡ d.picked x))
    → Guarded g used saved d → Guarded g used saved e

-- Kinds and picks of blocks that may be written in place may change: a batch picks free blocks or gives them up, and a
-- discard frees changed ones. So may nothing at all, as in a read, or in a flush that fails.
abbrev pub LooseKinds : Type 0
LooseKinds = (g : Geometry) (used : ℕ → Bool) (saved : Contents) (d e : Device)
    → ((x : ℕ) → e.now x ≡ d.now x) → ((x : ℕ) → e.may x ≡ d.may x) → SameLogs d e
    → ((x : ℕ) → (IsLoose d x → ⊥) → (e.kind x ≡ d.kind x) × (e.picked x ≡ d.picked x)) → e.kind 0 ≡ Sector0
    → Guarded g used saved d → Guarded g used saved e

-- A flush keeps the guard.
abbrev pub FlushKeeps : Type 0
FlushKeeps = (g : Geometry) (used : ℕ → Bool) (saved : Contents) (d e : Device)
    → ((x : ℕ) → e.now x ≡ d.now x) → IsFlushed g d.now e.may → Contains (d.may 0) (d.now 0) → SameLogs d e
    → ((x : ℕ) → e.kind x ≡ d.kind x) → ((x : ℕ) → e.picked x ≡ d.picked x)
    → Guarded g used saved d → Guarded g used saved e

-- The last flush of a batch, with the log in memory in block 0, makes it the durable log, and what was saved changed.
abbrev pub LastFlush : Type 0
LastFlush = (g : Geometry) (used : ℕ → Bool) (saved : Contents) (d e : Device)
    → ((x : ℕ) → e.now x ≡ d.now x) → IsFlushed g d.now e.may → log_in g (d.now 0) ≡ Some d.log
    → e.log ≡ d.log → e.older ≡ d.older → IsClean e
    → ((x : ℕ) → d.kind x ≢ Saved → e.kind x ≡ d.kind x) → ((x : ℕ) → e.picked x ≡ d.picked x)
    → Guarded g used saved d → Guarded g used saved e

-- Copies of a run of blocks, unchanged ones or backups, whose log is given, the write done or failed.
abbrev pub CopiesLogged : Type 0
CopiesLogged = (g : Geometry) (used : ℕ → Bool) (saved : Contents) (d e : Device) (b : Backup)
    → LogGiven g b d e → IsClean d
    → e.log ≡ with_backup d.log b → e.older ≡ d.older → IsGeneration g e.log
    → ((x : ℕ) → InSource b x → d.now (hop b x) ≡ d.now x) → sum_at b.source (run_of d.now b.dest b.count) ≡ b.sum
    → Guarded g used saved d → Guarded g used saved e

-- A full log that was copied to the dest, and a new log, with that one backup, that is given, the write done or failed.
abbrev pub LinkLogged : Type 0
LinkLogged = (g : Geometry) (used : ℕ → Bool) (saved : Contents) (d e : Device) (b : Backup)
    → LogGiven g b d e → IsClean d
    → e.log.entries ≡ b ∷ [] → e.log.sequence ≡ suc d.log.sequence → e.older ≡ d.log ∷ d.older → IsGeneration g e.log
    → d.log.restoring ≡ false → log_in g (d.now b.dest) ≡ Some d.log
    → sum_at b.source (run_of d.now b.dest b.count) ≡ b.sum
    → Guarded g used saved d → Guarded g used saved e

-- The current block 0 moves to a picked block, and the log that names it is given, the write done or failed.
abbrev pub MoveLogged : Type 0
MoveLogged = (g : Geometry) (used : ℕ → Bool) (saved : Contents) (d e : Device) (from to : ℕ) (block : List ℕ)
    → WriteGiven 0 block d.now e.now d.may e.may → log_in g block ≡ Some e.log → IsClean d
    → e.log ≡ record d.log { current = to } → 0 < to → to < g.blocks
    → e.older ≡ d.older → e.clean_log ≡ d.clean_log → e.clean_older ≡ d.clean_older
    → d.kind from ≡ Current → d.picked to ≡ true
    → ((x : ℕ) → x ≢ from → x ≢ to → (e.kind x ≡ d.kind x) × (e.picked x ≡ d.picked x)) → e.kind 0 ≡ Sector0
    → Guarded g used saved d → Guarded g used saved e

-- The log in memory is written once more, or that write fails.
abbrev pub LogRewritten : Type 0
LogRewritten =
    (g : Geometry) (used : ℕ → Bool) (saved : Contents) (d : Device) (now : Contents) (may : Candidates)
    (block : List ℕ)
    → log_in g block ≡ Some d.log → WriteGiven 0 block d.now now d.may may
    → Guarded g used saved d → Guarded g used saved (over d now may)

-- Whatever a cut leaves stands for the flat state, in every phase.
abbrev pub CutsStand : Type 0
CutsStand = (g : Geometry) (f : Flat) (content : List ℕ) (d : Device) (image : Contents)
    → IsValid g → IsState f → Leaves g f.phase f content d → IsCut g d.may image → StandsFor g f image

-- In trim and once committed, a write in place, done or failed, adds what it writes to what is pending.
abbrev pub WritesInPlace : Type 0
WritesInPlace = (g : Geometry) (f : Flat) (n b : ℕ) (v : List ℕ) (now new_now : Contents) (may new_may : Candidates)
    → WriteGiven b v now new_now may new_may → IsPending g f may
    → IsPending g (after n (Writes b v) f) new_may × IsPending g (after n (Fails b v) f) new_may

-- The copies that a prepare makes of block 0 go where nothing is pending.
abbrev pub WritesToFree : Type 0
WritesToFree = (g : Geometry) (f : Flat) (b : ℕ) (v : List ℕ) (now new_now : Contents) (may new_may : Candidates)
    → f.pending b ≡ None → WriteGiven b v now new_now may new_may → IsPending g f may → IsPending g f new_may

-- A read changes nothing that is pending.
abbrev pub ReadsInPlace : Type 0
ReadsInPlace = (g : Geometry) (f : Flat) (n b : ℕ) (v : List ℕ) (may : Candidates)
    → IsPending g f may → IsPending g (after n (Reads b v) f) may

-- A flush that is done leaves pending what each block reads as.
abbrev pub FlushesInPlace : Type 0
FlushesInPlace = (g : Geometry) (f : Flat) (n : ℕ) (now : Contents) (may : Candidates)
    → ((b : ℕ) → b < g.blocks → May (f.current b) (now b)) → IsFlushed g now may → IsPending g (after n Flushes f) may

-- A discard makes no call, and leaves less pending.
abbrev pub DiscardsInPlace : Type 0
DiscardsInPlace = (g : Geometry) (f : Flat) (n : ℕ) (e : Extent) (may : Candidates)
    → IsPending g f may → IsPending g (after n (Discards e) f) may

-- The flush of a prepare, after its two copies of block 0, arms: with the first log in memory, which has the one backup
-- of block 0, each block of which something is known is unchanged, and what it holds is what is saved.
abbrev pub PrepareArms : Type 0
PrepareArms = (g : Geometry) (f : Flat) (n : ℕ) (d : Device) (b : Backup)
    → IsFlushed g d.now d.may → d.older ≡ [] → d.kind 0 ≡ Sector0
    → IsGeneration g d.log → d.log.entries ≡ b ∷ [] → d.log.sequence ≡ 0
    → b.source ≡ 0 → b.count ≡ 1 → sum_at b.source (run_of d.now b.dest b.count) ≡ b.sum
    → d.kind b.dest ≡ BackupKind → d.picked b.dest ≡ false → d.now b.dest ≡ d.now 0
    → ((x : ℕ) → 0 < x → x < g.blocks → not (is_any (f.current x)) ≡ true
    → (d.kind x ≡ Unchanged) × (d.picked x ≡ false))
    → IsArming g (after n (Arms d.now) f) d

-- Its log write, done or failed, keeps the device armed.
abbrev pub FirstLogGiven : Type 0
FirstLogGiven = (g : Geometry) (f : Flat) (d : Device) (now : Contents) (may : Candidates) (block : List ℕ)
    → log_in g block ≡ Some d.log → WriteGiven 0 block d.now now d.may may → IsArming g f d
    → IsArming g f (over d now may)

-- And so does a read.
abbrev pub ReadsArming : Type 0
ReadsArming = (g : Geometry) (f : Flat) (n b : ℕ) (v : List ℕ) (d : Device) → IsArming g f d
    → IsArming g (after n (Reads b v) f) d

-- Its last flush makes the first log durable, and the device guarded.
abbrev pub PrepareEnds : Type 0
PrepareEnds = (g : Geometry) (f : Flat) (d e : Device)
    → ((x : ℕ) → e.now x ≡ d.now x) → IsFlushed g d.now e.may → log_in g (d.now 0) ≡ Some d.log
    → e.log ≡ d.log → e.older ≡ d.older → IsClean e
    → ((x : ℕ) → d.kind x ≢ Saved → e.kind x ≡ d.kind x) → ((x : ℕ) → e.picked x ≡ d.picked x)
    → IsArming g f d → Guarded g f.used f.saved e

-- The deciding write, done or failed, decides, where a flush went before it and each block reads as it should.
abbrev pub CommitDecides : Type 0
CommitDecides = (g : Geometry) (f : Flat) (n : ℕ) (d : Device) (now : Contents) (may : Candidates) (content : List ℕ)
    → IsFlushed g d.now d.may → WriteGiven 0 content d.now now d.may may
    → IsPlain content → May (f.current 0) content → ((x : ℕ) → 0 < x → x < g.blocks → May (f.current x) (d.now x))
    → Guarded g f.used f.saved d → IsDeciding g (after n Decides f) content (over d now may)

-- In deciding that write may come again, done or failed.
abbrev pub DecidesAgain : Type 0
DecidesAgain = (g : Geometry) (f : Flat) (d : Device) (now : Contents) (may : Candidates) (content : List ℕ)
    → WriteGiven 0 content d.now now d.may may → IsDeciding g f content d → IsDeciding g f content (over d now may)

-- So may a flush that is done.
abbrev pub FlushesDeciding : Type 0
FlushesDeciding = (g : Geometry) (f : Flat) (d : Device) (may : Candidates) (content : List ℕ)
    → IsFlushed g d.now may → Contains (d.may 0) (d.now 0) → IsDeciding g f content d
    → IsDeciding g f content (over d d.now may)

-- And so may a read, of block 0 where its current content lies.
abbrev pub ReadsDeciding : Type 0
ReadsDeciding = (g : Geometry) (f : Flat) (n b : ℕ) (v content : List ℕ) (d : Device)
    → (b ≡ 0 → v ≡ content) → (0 < b → v ≡ d.now b) → IsDeciding g f content d
    → IsDeciding g (after n (Reads b v) f) content d

-- The last flush of a commit, with the deciding write done, leaves nothing but what is pending; and where the device
-- was deciding before the commit began, nothing but what each block reads as.
abbrev pub CommitEnds : Type 0
CommitEnds = (g : Geometry) (f : Flat) (n : ℕ) (d : Device) (may : Candidates) (content : List ℕ)
    → IsState f → d.now 0 ≡ content → IsFlushed g d.now may → IsDeciding g f content d
    → IsPending g (after n Commits f) may × IsPending g (after n Commits (after n Flushes f)) may

-- An image that holds the checkpoint of its flat state keeps it or has it in place, and block 0 was saved without a
-- magic.
abbrev pub Together : Type 0
Together = (g : Geometry) (f : Flat) (image : Contents)
    → IsState f → HasCheckpointIn g f.phase f image → Holds g f.used f.saved image × IsPlain (f.saved 0)

-- Where all that a cut may leave of a block is pending, and all that it may leave of a log's current block 0 is pending
-- of block 0, whatever a cut leaves is ahead.
abbrev pub CutsAreAhead : Type 0
CutsAreAhead = (g : Geometry) (f : Flat) (may : Candidates) (image : Contents)
    → IsValid g → IsState f
    → ((b : ℕ) → 0 < b → b < g.blocks → (v : List ℕ) → Contains (may b) v → May (f.pending b) v)
    → ((v : List ℕ) (log : Generation) → Contains (may 0) v → log_in g v ≡ Some log → (w : List ℕ)
    → Contains (may log.current) w → May (f.pending 0) w)
    → IsCut g may image → Ahead g f image

-- Of a disk that tells its content: the crash images are the images of as many blocks that a cut may leave.
abbrev pub CrashesAreCuts : Type 0
CrashesAreCuts = (g : Geometry) (size : ℕ) (c : Content) (image : List (List ℕ))
    → IsShaped size g.blocks c
    → IsCrash c.candidates image
    ↔ ((length image ≡ g.blocks) × IsCut g (candidates_of c.candidates) (contents_of image))

-- Of such a disk, a write that was done or failed was given.
abbrev pub WritesAreGiven : Type 0
WritesAreGiven = (size n b : ℕ) (v : List ℕ) (old new : Content)
    → IsShaped size n old → b < n → Same old new ⊎ (Offered b v old new ⊎ Written b v old new)
    → WriteGiven b v (contents_of old.now) (contents_of new.now)
    (candidates_of old.candidates) (candidates_of new.candidates)

-- A write that was done put its content into the block.
abbrev pub WritesArePut : Type 0
WritesArePut = (size n b : ℕ) (v : List ℕ) (old new : Content)
    → IsShaped size n old → b < n → Written b v old new → contents_of new.now ≡ with_block (contents_of old.now) b v

-- A flush that was done changes no content, and leaves each block of the device what it holds as its one candidate.
abbrev pub FlushesAreDone : Type 0
FlushesAreDone = (g : Geometry) (size : ℕ) (old new : Content)
    → IsShaped size g.blocks old → Flushed old new
    → (contents_of new.now ≡ contents_of old.now) × IsFlushed g (contents_of old.now) (candidates_of new.candidates)
