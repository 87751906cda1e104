-- What follows from the definitions.
use Rattle.std.specs.Prelude.{ℕ, ◌≡◌, ◌↔◌, Bool, IsTrue, List, ◌∷◌}
use Rattle.bow_units.specs.declared.sizes.Geometry.{Geometry}
use Rattle.bow_units.specs.Sizes.{IsValid}
use Rattle.bow_log.specs.Generations.{Backup, Generation, IsBackup}
use Rattle.bow_disk.specs.Disk.{IsImage}
use Rattle.bow_chain.specs.Contents.{Contents, contents_of}
use Rattle.bow_chain.specs.Places.{InSource, InDest}
use Rattle.bow_chain.specs.Sound.{IsSound}
use Rattle.bow_chain.specs.Kept.{IsPlain, kept, Holds}
use Rattle.bow_chain.specs.Chains.{IsSoundWith}
use Rattle.bow_restore.specs.Marks.{meets}
use Rattle.bow_restore.specs.Copies.{replayed, writes_of}
use Rattle.bow_restore.specs.Rewinds.{PassesOn, Reruns}

-- An image whose kept block 0 has no magic is passed on over any number of restorations, each cut anywhere.
abbrev pub RerunsPassOn : Type 0
RerunsPassOn = (g : Geometry) (image last : List (List ℕ)) (between : List (List (List ℕ)))
    → IsValid g → IsImage g.block_size g.blocks image
    → ((log : Generation) (older : List Generation) → IsSound g (contents_of image) log older
    → IsPlain (kept (contents_of image) (log ∷ older) 0))
    → Reruns g image between last → PassesOn g image last

-- However often restorations are cut and run again, the checkpoint is held.
abbrev pub RerunsHold : Type 0
RerunsHold = (g : Geometry) (used : ℕ → Bool) (saved : Contents) (image last : List (List ℕ))
    (between : List (List (List ℕ)))
    → IsValid g → IsImage g.block_size g.blocks image → IsPlain (saved 0)
    → Holds g used saved (contents_of image)
    → Reruns g image between last → Holds g used saved (contents_of last)

-- All copies of a sound image put into each block what was kept of it.
abbrev pub ReplayKeeps : Type 0
ReplayKeeps = (g : Geometry) (image : Contents) (logs : List Generation) (x : ℕ)
    → IsValid g → IsSoundWith g image logs → replayed image logs (writes_of logs) x ≡ kept image logs x

-- A block of the source of one backup was a dest of another exactly where the test says so.
abbrev pub MeetsIsExact : Type 0
MeetsIsExact = (g : Geometry) (b other : Backup) → IsBackup g b → IsBackup g other → IsTrue (meets b other) ↔ ((x : ℕ)
    × InSource b x × InDest other x)
