-- As long as no call on the disk has failed, whatever a cut leaves is ahead: once what its log's current block 0 holds
-- is put into block 0, it stands as after a commit.
use Rattle.std.specs.Prelude.{ℕ, ◌<◌, ◌≡◌, ◌⊎◌, List, [], ◌∷◌, ◌++◌, slice_index_or, Option, Some, None, Contains}
use Rattle.bow_units.specs.declared.sizes.Geometry.{Geometry}
use Rattle.bow_units.specs.Magics.{HasMagic, IsPlain}
use Rattle.bow_units.specs.Sizes.{IsValid}
use Rattle.bow_units.specs.declared.requests.Phase.{Phase}
use Rattle.bow_units.specs.declared.requests.Phase.TheVariants.{Arming, Checkpoint, Deciding}
use Rattle.bow_units.specs.declared.statuses.Kind.{Kind}
use Rattle.bow_units.specs.declared.statuses.Kind.TheVariants.{Current, Saved}
use Rattle.bow_log.specs.Generations.{Generation}
use Rattle.bow_chain.specs.Contents.{Contents, contents_of}
use Rattle.bow_chain.specs.Sound.{log_in}
use Rattle.bow_flat.specs.Flat.{Flat, May, opening}
use Rattle.bow_guard.specs.Cuts.{Candidates, IsCut}
use Rattle.bow_guard.specs.Standing.{Ahead}
use Rattle.bow_ranges.specs.Kinds.{kind_at}
use Rattle.bow_machine.specs.Memory.{Memory}
use Rattle.bow_machine.specs.Requests.{Request}
use Rattle.bow_machine.specs.Calls.{Reply, Failed, DoesIt}
use Rattle.bow_machine.specs.Tasks.{Turn, task_of}
use Rattle.bow_machine.specs.Steps.{call_of, step_of}
use Rattle.bow_machine.specs.Standing.{IsStanding}
use Rattle.bow_machine.specs.Laws.{after_all, opened}

-- each candidate of this place is one of the contents that are pending of block 0
abbrev pub Shows0 : Candidates → (ℕ → Option (List (List ℕ))) → ℕ → Type 0
Shows0 may pending place = (v : List ℕ) → Contains (may place) v → May (pending 0) v

-- the kind of the place where the current block 0 lies, or of one from which it moved while the new log is not yet
-- known to be durable: no write in place of another block falls on a block of such a kind
abbrev pub IsPlace0 : Kind → Type 0
IsPlace0 kind = (kind ≡ Current) ⊎ (kind ≡ Saved)

-- In Checkpoint each candidate of block 0 is a log that the device wrote. In the other phases one is that begins with a
-- magic, as each block of bytes does that spells a log.
abbrev pub BeginsLog : Phase → List ℕ → Type 0
BeginsLog phase block = (phase ≡ Checkpoint) ⊎ HasMagic block

-- What leads a cut ahead: each candidate of a block other than 0 is pending; so is, of block 0, each one of the current
-- place of a log that a cut may leave in block 0, and of the log in memory. In Arming that place is settled; in
-- Checkpoint block 0 holds the log in memory; in Deciding a cut leaves no other log there.
pub record IsLedIn (g : Geometry) (phase : Phase) (kinds : List Kind) (log : Option Generation) (now : Contents)
    (may : Candidates) (pending : ℕ → Option (List (List ℕ))) : Type 0 where
  pub others : (b : ℕ) → 0 < b → b < g.blocks → (v : List ℕ) → Contains (may b) v → May (pending b) v
  pub heads : (v : List ℕ) (head : Generation) → Contains (may 0) v → BeginsLog phase v → log_in g v ≡ Some head
      → IsPlace0 (kind_at kinds head.current) × Shows0 may pending head.current
  pub current : (l : Generation) → log ≡ Some l → Shows0 may pending l.current
  pub arming : phase ≡ Arming → (l : Generation) → log ≡ Some l → may l.current ≡ now l.current ∷ []
  pub led : phase ≡ Checkpoint → (l : Generation) → log ≡ Some l → log_in g (now 0) ≡ Some l
  pub deciding : phase ≡ Deciding → (v : List ℕ) (head : Generation) → Contains (may 0) v → HasMagic v
      → log_in g v ≡ Some head → log ≡ Some head

-- the machine is so led, over what the disk holds and may hold after a cut, for a flat state
abbrev pub IsLed : Geometry → Memory → Contents → Candidates → Flat → Type 0
IsLed g m now may f = IsLedIn g m.phase m.kinds m.log now may f.pending

-- the block is of bytes
abbrev pub IsBytes : List ℕ → Type 0
IsBytes block = (i : ℕ) → slice_index_or block i 0 < 256

-- A machine that was opened on a disk that is settled on an image with no magic in block 0 is led.
abbrev pub OpeningIsLed : Type 0
OpeningIsLed = (g : Geometry) (image : List (List ℕ)) → IsValid g → IsPlain (contents_of image 0)
    → IsLed g (opened g.blocks) (contents_of image) (λ b. contents_of image b ∷ []) (opening image)

-- So is one that takes in a request.
abbrev pub AdmitIsLed : Type 0
AdmitIsLed =
    (g : Geometry) (m : Memory) (now : Contents) (may : Candidates) (f : Flat) (r : Request) → IsLed g m now may f
    → IsLed g (record m { requests = m.requests ++ r ∷ [] }) now may f

-- Each step whose call, if it makes one, does not fail leads from a machine that stands and is led to one that is led.
abbrev pub LedKeeps : Type 0
LedKeeps =
    (g : Geometry) (m : Memory) (turn : Turn) (reply : Reply) (now new_now : Contents) (may new_may : Candidates)
    (f : Flat)
    → IsStanding g m now may f → IsLed g m now may f → (reply ≡ Failed → call_of g m (task_of g m turn) ≡ None)
    → DoesIt g (call_of g m (task_of g m turn)) reply now may new_now new_may
    → let step = step_of g now m (task_of g m turn) reply in
    IsLed g step.memory new_now new_may (after_all g.blocks step.events f)

-- whatever a cut leaves, with a log in block 0, is ahead
abbrev pub AllAhead : Geometry → Phase → Candidates → Flat → Type 0
AllAhead g phase may f = (image : Contents) → IsCut g may image → BeginsLog phase (image 0) → Ahead g f image

-- Whatever a cut leaves of a machine that stands and is led is ahead.
abbrev pub LedIsAhead : Type 0
LedIsAhead = (g : Geometry) (m : Memory) (now : Contents) (may : Candidates) (f : Flat)
    → IsStanding g m now may f → IsLed g m now may f → AllAhead g m.phase may f

-- And so is each image of bytes.
abbrev pub BytesAreAhead : Type 0
BytesAreAhead = (g : Geometry) (m : Memory) (now : Contents) (may : Candidates) (f : Flat) (image : Contents)
    → IsStanding g m now may f → IsLed g m now may f → IsCut g may image → IsBytes (image 0) → Ahead g f image

-- A machine that is led for one state is led for each state for which it stands and whatever a cut leaves is ahead.
abbrev pub AheadIsLed : Type 0
AheadIsLed = (g : Geometry) (m : Memory) (now : Contents) (may : Candidates) (one f : Flat)
    → IsLed g m now may one → IsStanding g m now may f → AllAhead g m.phase may f → IsLed g m now may f

-- So for each state for which a machine that is led stands, and whatever a cut leaves is ahead, it is so after each
-- step whose call, if it makes one, does not fail.
abbrev pub AheadKeeps : Type 0
AheadKeeps =
    (g : Geometry) (m : Memory) (turn : Turn) (reply : Reply) (now new_now : Contents) (may new_may : Candidates)
    (one f : Flat)
    → IsLed g m now may one → IsStanding g m now may f → AllAhead g m.phase may f
    → (reply ≡ Failed → call_of g m (task_of g m turn) ≡ None)
    → DoesIt g (call_of g m (task_of g m turn)) reply now may new_now new_may
    → let step = step_of g now m (task_of g m turn) reply in
    AllAhead g step.memory.phase new_may (after_all g.blocks step.events f)
