-- The drill: a failed update on a disk of its own, cut and restored, and the five lines that tell of it.
use Rattle.std.specs.Prelude.{◌≡◌, ◌⊎◌, ◌==◌, ◌&&◌, ℕ, zero, suc, ◌*◌, ◌<◌, ◌≤◌, nat_lt, not, Bool, true, false, List, [], ◌∷◌, ◌++◌, length, count_by, codes, take, drop, Some}
use Rattle.std.specs.Fmt.{decimal}
use Rattle.bow_units.specs.declared.sizes.Geometry.{Geometry}
use Rattle.bow_units.specs.declared.statuses.Status.{Status}
use Rattle.bow_units.specs.declared.requests.Outcome.TheVariants as outcomes
use Rattle.bow_units.specs.declared.requests.Phase.TheVariants.{Checkpoint}
use Rattle.bow_units.specs.Pattern.{pattern}
use Rattle.bow_disk.specs.Bytes.{image_of}
use Rattle.bow_disk.specs.Disk.{IsCrash}
use Rattle.bow_disk.specs.Memory.{Memory, LeftSince, content, fresh}
use Rattle.bow_log.specs.Generations.{Generation}
use Rattle.bow_chain.specs.Contents.{Contents, contents_of}
use Rattle.bow_chain.specs.Kept.{Holds, IsPlain}
use Rattle.bow_chain.specs.Sound.{IsSound}
use Rattle.bow_flat.specs.Flat.{opening}
use Rattle.bow_guard.specs.Standing.{StandsFor}
use Rattle.bow_machine.specs.Shown.{status_of}
use Rattle.bow_core.specs.Views.{View}
use Rattle.bow_script.specs.Drills.{after, drawn, drill_script_of, used_blocks}
use Rattle.bow_history.specs.declared.items.Item.{Item}
use Rattle.bow_history.specs.declared.items.Item.TheVariants as items
use Rattle.bow_history.specs.Cuts.{NoneFails}
use Rattle.bow_history.specs.Histories.{session_after}
use Rattle.bow_history.specs.Journal.{Plan}
use Rattle.bow_history.specs.Schedule.{FollowsDraws}
use Rattle.bow_history.specs.Sessions.{Session, Turned, after_turn}
use Rattle.bow_session.specs.Leads.{LeadsFrom, WasLoaded}
use Rattle.bow_session.specs.Runs.{IsRun, begun_over}
use Rattle.bow_session.specs.Sessions.{Run, IsOver, plan_in}
use Rattle.bow_play.specs.Beginning.{HasBegun}
use Rattle.bow_report.specs.Texts.{status_text}
use Rattle.bow_restore.specs.Marks.{entries_of, marks_of}
use Rattle.bow_restore.specs.Rewinds.{Reruns}
use Rattle.bow_restore.specs.declared.answers.Restored.{Restored}
use Rattle.bow_restore.specs.declared.answers.Restored.TheVariants as restored
use Rattle.bow_tool.specs.Outside.{DiskView, disk_view}
use Rattle.bow_tool.specs.Restores.{IsRestoredLine}

-- ----------------------------------------------------------------------------------------------------------------
-- The disk and the numbers.

-- the sizes of the drill's disk
unfoldable pub drill_sizes : Geometry
drill_sizes = record { block_size = 512; blocks = 1024 }

-- so many blocks, each the pattern of its number with seed 0
unfoldable pub pattern_blocks : ℕ → List (List ℕ)
pattern_blocks zero = []
pattern_blocks (suc n) = pattern_blocks n ++ pattern n 0 512 ∷ []

-- how many writes a disk of the drill has room for
abbrev pub drill_room : ℕ
drill_room = 8192

-- a disk in memory as the drill makes it: of 1,024 blocks of 512 bytes, each the pattern of its number
abbrev pub IsDrillDisk : Memory → Type 0
IsDrillDisk disk = disk.state ≡ fresh drill_sizes (pattern_blocks 1024) drill_room

-- how many turns the second section gets at most
abbrev pub most_turns : ℕ → ℕ
most_turns number = drawn (after 3073 number) 4096

-- the number from which the schedule, and the first cut, draw
abbrev pub schedule_number : ℕ → ℕ
schedule_number number = drawn (after 3074 number) 2147483648

-- what a disk in memory tells
abbrev pub memory_view : DiskView Memory
memory_view = disk_view (λ d. Some d.state.geometry) (λ d. Some (content d.state)) (λ d. d.state.calls)
    (λ d t image. LeftSince d.state t image) (λ d. d.state.faults)

-- ----------------------------------------------------------------------------------------------------------------
-- The play.

-- before each of these turns the first section, which is two requests of lane 0, is not answered yet
abbrev pub Waits : Plan → Session → List Turned → Type 0
Waits plan s [] = Unit {0}
Waits plan s (turn ∷ turns) = (s.number 0 < 2) × Waits plan (after_turn plan s turn) turns

-- after these turns it is
abbrev pub IsAnswered : Plan → Session → List Turned → Type 0
IsAnswered plan s turns = 2 ≤ (session_after plan s turns).number 0

-- The session made these turns since it was loaded over this device, each of the actor whom the next draw from this
-- number names, and the number that is reached is told.
pub record IsDrawn {D : Type 0} (v : DiskView D) (seed : ℕ) (first : View D) (s : Run D) (number : ℕ) : Type 0 where
  pub turns : List Turned
  pub run : IsRun v.stated v.content v.faults first turns s
  pub loaded : WasLoaded v.stated v.content v.moment v.left_since v.faults first s
  pub drawn : FollowsDraws (plan_in s) (begun_over first) seed turns
  pub reached : number ≡ after (length turns) seed

-- the session went on by so many turns
pub record DrawsOn {D : Type 0} (v : DiskView D) (seed : ℕ) (first : View D) (turns : List Turned) (many : ℕ)
    (s : Run D) (number : ℕ) : Type 0 where
  pub drawn : IsDrawn v seed first s number
  pub more : List Turned
  pub all : drawn.turns ≡ turns ++ more
  pub count : length more ≡ many

-- The drill's session. It was loaded over a device that was opened on the disk, with the drill's script. Its turns are
-- of the actors whom the draws name: first until the first section is answered, then so many more, as many as were
-- drawn, or fewer where all is answered. No call failed. The journal is legal from the opening state of the image, and
-- the phase is the checkpoint.
pub record IsDrillSession (number : ℕ) (s : Run Memory) (turns : ℕ) : Type 0 where
  pub disk : Memory
  pub made : IsDrillDisk disk
  pub start : Run Memory
  pub begun : HasBegun memory_view.stated memory_view.content memory_view.moment memory_view.left_since
      memory_view.faults disk start
  pub script : s.script ≡ drill_script_of number
  pub opening_turns : List Turned
  pub reached : ℕ
  pub drawn : DrawsOn memory_view (schedule_number number) begun.first opening_turns turns s reached
  pub waits : Waits (plan_in s) (begun_over begun.first) opening_turns
  pub answered : IsAnswered (plan_in s) (begun_over begun.first) opening_turns
  pub enough : (turns ≡ most_turns number) ⊎ ((turns ≤ most_turns number) × IsOver s)
  pub none_fails : NoneFails (plan_in s) (begun_over begun.first) (drawn.drawn).turns
  pub leads : LeadsFrom memory_view.content memory_view.moment memory_view.left_since (StandsFor s.core.geometry)
      begun.first (opening (pattern_blocks 1024)) s
  pub phase : s.core.memory.phase ≡ Checkpoint

-- ----------------------------------------------------------------------------------------------------------------
-- The cuts.

-- The image is reached from one that a cut might leave of these candidates, over restorations that were cut.
pub record IsRerunFrom (g : Geometry) (candidates : List (List (List ℕ))) (last : List (List ℕ)) : Type 0 where
  pub first : List (List ℕ)
  pub crash : IsCrash candidates first
  pub between : List (List (List ℕ))
  pub reruns : Reruns g first between last

-- the image holds a checkpoint of these blocks, which held this then; block 0 held no log
abbrev pub IsHeldIn : Geometry → (ℕ → Bool) → Contents → List (List ℕ) → Type 0
IsHeldIn g used saved image = IsPlain (saved 0) × Holds g used saved (contents_of image)

-- each block that was in use at the checkpoint is as it was
abbrev pub AreBack : Geometry → (ℕ → Bool) → Contents → List (List ℕ) → Type 0
AreBack g used saved image = (b : ℕ) → b < g.blocks → used b ≡ true → contents_of image b ≡ saved b

-- the image holds a checkpoint that has, of each block that the drill keeps in use, the pattern of its number
abbrev pub HoldsUsed : ℕ → List (List ℕ) → Type 0
HoldsUsed number image = (used : ℕ → Bool) × (saved : Contents) × IsHeldIn drill_sizes used saved image
    × ((b : ℕ) → b < used_blocks number → (used b ≡ true) × (saved b ≡ pattern b 0 512))

-- what a restoration answers that ends well: both counts of the chain of the image, or that there is nothing to restore
-- where block 0 begins with no magic
abbrev pub EndedWell : Geometry → List (List ℕ) → Restored → Type 0
EndedWell g image (restored.Done entries marks) = (log : Generation) × (older : List Generation)
    × IsSound g (contents_of image) log older × (entries ≡ entries_of (log ∷ older)) × (marks ≡ marks_of (log ∷ older))
EndedWell g image restored.Nothing = IsPlain (contents_of image 0)
EndedWell g image answer = ⊥

-- it ended well
abbrev pub HasEnded : Restored → Type 0
HasEnded restored.Nothing = Unit {0}
HasEnded (restored.Done entries marks) = Unit {0}
HasEnded answer = ⊥

-- block b of these bytes is the pattern of its number
abbrev pub HoldsPattern : List ℕ → ℕ → Type 0
HoldsPattern bytes b = take 512 (drop (b * 512) bytes) ≡ pattern b 0 512

-- ----------------------------------------------------------------------------------------------------------------
-- The lines.

-- the request is one of the first section
abbrev pub is_opening : ℕ → ℕ → Bool
is_opening lane number = (lane == 0) && nat_lt number 2

-- the item answers a request of the second section
abbrev pub is_answer : Item → Bool
is_answer (items.Wrote lane number block) = false
is_answer (items.Got lane number block) = false
is_answer (items.Answered lane number outcome) = not (is_opening lane number)

-- the item answers one that found no space
abbrev pub is_full : Item → Bool
is_full (items.Answered lane number (outcomes.NoSpace done)) = not (is_opening lane number)
is_full item = false

-- the item tells of a call of the disk that failed
abbrev pub is_fault : Item → Bool
is_fault (items.Answered lane number (outcomes.DiskFault done)) = true
is_fault item = false

-- the line of the number that the drill was given
abbrev pub number_line : ℕ → List ℕ
number_line number = codes "drill " ++ (decimal number ++ codes "\n")

-- the line of the turns that were made, and of the requests that were answered, and that found no space
abbrev pub turns_line : ℕ → List Item → List ℕ
turns_line turns journal = codes "turns " ++ (decimal turns ++ (codes " answered "
    ++ (decimal (count_by is_answer journal) ++ (codes " no space " ++ (decimal (count_by is_full journal)
    ++ codes "\n")))))

-- the line of how many blocks were kept, of those that were used
abbrev pub kept_line : ℕ → ℕ → List ℕ
kept_line kept used = codes "kept " ++ (decimal kept ++ (codes " of " ++ (decimal used ++ codes "\n")))

-- The five lines: the number; the status before the cut; the turns of the second section, and of its requests how many
-- were answered and how many of these found no space; the last restoration; and the used blocks that were kept, all.
pub record IsDrillText (number : ℕ) (status : Status) (turns : ℕ) (journal : List Item) (answer : Restored)
    (used : ℕ) (text : List ℕ) : Type 0 where
  pub line : List ℕ
  pub tells : IsRestoredLine answer line
  pub is : text ≡ number_line number ++ (status_text status ++ (turns_line turns journal ++ (line
      ++ kept_line used used)))

-- a drill that was made, whole
pub record IsDrilled (number : ℕ) (s : Run Memory) (turns : ℕ) (last : List ℕ) (answer : Restored)
    (text : List ℕ) : Type 0 where
  pub session : IsDrillSession number s turns
  pub reruns : IsRerunFrom drill_sizes (content s.core.disk.state).candidates (image_of drill_sizes last)
  pub held : HoldsUsed number (image_of drill_sizes last)
  pub ended : EndedWell drill_sizes (image_of drill_sizes last) answer
  pub lines : IsDrillText number (status_of s.core.memory) turns s.journal answer (used_blocks number) text

-- the text of a drill of this number
abbrev pub TellsDrill : ℕ → List ℕ → Type 0
TellsDrill number text = (s : Run Memory) × (turns : ℕ) × (last : List ℕ) × (answer : Restored)
    × IsDrilled number s turns last answer text
