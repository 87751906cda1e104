-- The room, and the log in memory, by phase.
use Rattle.std.proofs.Common.{ℕ, ◌+◌, ◌≡◌, Bool, List, Option, Some, None, refl, sym, subst}
use Rattle.std.proofs.lemmas.Bool.{false≢true}
use Rattle.std.specs.Prelude.{IsSome, ◌↔◌}
use Rattle.bow_units.specs.declared.sizes.Geometry.{Geometry}
use Rattle.bow_units.specs.declared.requests.Phase.{Phase}
use Rattle.bow_units.specs.declared.requests.Phase.TheVariants.{Trim, Arming, Checkpoint, Deciding, Committed}
use Rattle.bow_units.specs.declared.statuses.Kind.{Kind}
use Rattle.bow_disk.specs.Disk.{Content}
use Rattle.bow_chain.specs.Contents.{contents_of}
use Rattle.bow_flat.specs.Flat.{Flat}
use Rattle.bow_guard.specs.Cuts.{candidates_of}
use Rattle.bow_log.specs.Generations.{Generation}
use Rattle.bow_ranges.specs.Kinds.{is_free, count_of}
use Rattle.bow_machine.specs.Memory.{Memory, reserved}
use Rattle.bow_machine.specs.MemoryIsSound.{LogIsHeld, LogIsSound, MemoryIsSound, is_touched}
use Rattle.bow_machine.specs.Shown.{sequence_of, status_of}
use Rattle.bow_machine.proofs.Consequences.{trimmed_is_kept}
use Rattle.bow_flat.specs.Valid.{HasCheckpoint}
use Rattle.bow_core.specs.Room.{IsExactRoom}
use Rattle.bow_core.specs.Standing.{StandsOver}

-- the log that the phases with one hold
log_held : (g : Geometry) (table : List Kind) (clean : Bool) (trimmed picked : ℕ) (phase : Phase) (log : Option Generation) → LogIsHeld g table clean trimmed picked phase log → HasCheckpoint phase → (l : Generation) × (log ≡ Some l) × LogIsSound g table clean trimmed picked l
log_held g table clean trimmed picked Trim log held has = absurd has
log_held g table clean trimmed picked Committed log held has = absurd has
log_held g table clean trimmed picked Arming None held has = absurd held
log_held g table clean trimmed picked Checkpoint None held has = absurd held
log_held g table clean trimmed picked Deciding None held has = absurd held
log_held g table clean trimmed picked Arming (Some l) held has = (l, refl, held.0)
log_held g table clean trimmed picked Checkpoint (Some l) held has = (l, refl, held)
log_held g table clean trimmed picked Deciding (Some l) held has = (l, refl, held)

log_has : (g : Geometry) (table : List Kind) (clean : Bool) (trimmed picked : ℕ) (phase : Phase) (log : Option Generation) → LogIsHeld g table clean trimmed picked phase log → IsSome log → HasCheckpoint phase
log_has g table clean trimmed picked Trim None held some = absurd (false≢true some)
log_has g table clean trimmed picked Trim (Some l) held some = absurd held
log_has g table clean trimmed picked Committed None held some = absurd (false≢true some)
log_has g table clean trimmed picked Committed (Some l) held some = absurd held
log_has g table clean trimmed picked Arming log held some = tt
log_has g table clean trimmed picked Checkpoint log held some = tt
log_has g table clean trimmed picked Deciding log held some = tt

module _ (g : Geometry) (m : Memory) (s : MemoryIsSound g m) where
  held : HasCheckpoint m.phase → (l : Generation) × (m.log ≡ Some l) × LogIsSound g m.kinds m.clean m.trimmed (reserved m.hand).count l
  held has = log_held g m.kinds m.clean m.trimmed (reserved m.hand).count m.phase m.log s.log has

  pub room_is : HasCheckpoint m.phase → IsExactRoom m (status_of m)
  room_is has =
      let l = held has in
      subst (λ o. count_of is_free m.kinds + 2 + sequence_of o + count_of is_touched m.kinds + (reserved m.hand).count ≡ m.trimmed) (sym l.1) l.2.room

  pub log_there : IsSome m.log ↔ HasCheckpoint m.phase
  log_there = (λ some. log_has g m.kinds m.clean m.trimmed (reserved m.hand).count m.phase m.log s.log some, λ has. subst IsSome (sym (held has).1) refl)

pub trimmed_is : (g : Geometry) (m : Memory) (f : Flat) → MemoryIsSound g m → HasCheckpoint m.phase → (o : Option Content) → StandsOver g m o f → f.trimmed ≡ m.trimmed
trimmed_is g m f s has None stands = absurd stands
trimmed_is g m f s has (Some c) stands =
    let l = held g m s has in
    trimmed_is_kept g m (contents_of c.now) (candidates_of c.candidates) f l.0 stands l.1
