-- What callers see of devices that are joined in a pair, and when sessions may begin over them.
use Rattle.std.specs.Prelude.{◌≡◌, ℕ, ◌*◌, ◌<◌, ◌≤◌, ◌==◌, if◌then◌else◌, List, [], length, slice_get, All, Option, None, Some}
use Rattle.bow_units.specs.declared.requests.Phase.TheVariants.{Checkpoint}
use Rattle.bow_script.specs.Scripts.{IsWellFormed, IsWithinLimits, requests_of}
use Rattle.bow_script.specs.declared.scripts.Line.{Line}
use Rattle.bow_script.specs.declared.scripts.Line.TheVariants as lines
use Rattle.bow_core.specs.Views.{View}
use Rattle.bow_history.specs.declared.items.Item.{Item}
use Rattle.bow_session.specs.Contents.{data_of}
use Rattle.bow_session.specs.Parts.{Account}
use Rattle.bow_session.specs.Leads.{MayBeginAnew}

-- Devices in a pair: each of them, the script whose sections behind the first are still to be played, the number of the
-- generator, and what the first sessions left, and the second ones, once they are over.
pub record Joined (D : Type 0) : Type 0 where
  pub cores : List (View D)
  pub script : List (List (List Line))
  pub number : ℕ
  pub openings : List Account
  pub laters : List Account

-- what the first sessions left is part 0, and the second ones part 1
abbrev pub part_of : {D : Type 0} → Joined D → ℕ → List Account
part_of p part = if part == 0 then p.openings else p.laters

-- the journal of an account; where there is none, an empty one
abbrev pub journal_in : Option Account → List Item
journal_in None = []
journal_in (Some a) = a.journal

-- the bytes of an answered read in an account
abbrev pub data_in : Option Account → ℕ → ℕ → Option (List ℕ)
data_in None lane n = None
data_in (Some a) lane n = data_of a.lanes lane n

-- the line neither prepares nor commits
abbrev pub IsPlayed : Line → Type 0
IsPlayed lines.Prepare = ⊥
IsPlayed lines.Commit = ⊥
IsPlayed line = Unit {0}

-- A script that may be dealt out: it is within the limits, has room for one request more, and neither prepares nor
-- commits.
pub record MayBeDealt (script : List (List (List Line))) : Type 0 where
  pub limits : IsWithinLimits script
  pub numbers : IsWellFormed script
  pub few : length (requests_of script) < 65536
  pub played : All IsPlayed (requests_of script)

-- A session may be loaded over the device after so many: it has 16 places, no request waits in it, it has taken in no
-- more requests than so many sessions may have, and a session may begin over it.
pub record IsReady {D : Type 0} (sessions : ℕ) (v : View D) : Type 0 where
  pub idle : v.memory.requests ≡ []
  pub places : v.places ≡ 16
  pub admitted : v.admitted ≤ sessions * 2097152
  pub anew : MayBeginAnew v

-- so may it over each
abbrev pub AreReady : {D : Type 0} → ℕ → List (View D) → Type 0
AreReady {D} sessions cores = (k : ℕ) (v : View D) → slice_get cores k ≡ Some v → IsReady sessions v

-- a device that was prepared: it is in the checkpoint, in which nothing was touched yet
pub record WasPrepared {D : Type 0} (v : View D) : Type 0 where
  pub ready : IsReady 1 v
  pub checkpoint : v.memory.phase ≡ Checkpoint

-- so was each
abbrev pub WerePrepared : {D : Type 0} → List (View D) → Type 0
WerePrepared {D} cores = (k : ℕ) (v : View D) → slice_get cores k ≡ Some v → WasPrepared v
