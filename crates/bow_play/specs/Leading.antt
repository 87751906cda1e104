-- Where a play leads, and what cuts of it leave.
use Rattle.std.specs.Prelude.{◌≡◌, ◌⊎◌, ℕ, suc, ◌+◌, ◌-◌, ◌^◌, ◌<◌, ◌≤◌, List, length}
use Rattle.std.specs.Prelude.{slice_index_or, Option, None, Some}
use Rattle.bow_disk.specs.Disk.{Content, IsCrash, IsSettledOn}
use Rattle.bow_chain.specs.Contents.{Contents, contents_of}
use Rattle.bow_flat.specs.Flat.{Flat, opening}
use Rattle.bow_core.specs.Standing.{StandsIn}
use Rattle.bow_history.specs.Cuts.{IsOnTheWayBy}
use Rattle.bow_history.specs.Journal.{Buffers, Place, beginning, Legal}
use Rattle.bow_session.specs.Sessions.{Run, plan_in, state_in}

-- what the reads of a session have read, by lane and number
abbrev pub read_in : {D : Type 0} → Run D → Buffers
read_in s = (state_in s).kept

-- a cut may leave this image now, of a disk that tells its content
abbrev pub CanLeave : Option Content → List (List ℕ) → Type 0
CanLeave None image = ⊥
CanLeave (Some c) image = IsCrash c.candidates image

-- this is said of the image and a state midway of a place on the way of the session's journal, from the opening state
-- of that image on: after a front of it that has its first n items
abbrev pub IsOnWay : {D : Type 0} → (Flat → Contents → Type 0) → List (List ℕ) → Run D → Place → ℕ → List (List ℕ)
    → Type 0
IsOnWay says image s end n cut =
    IsOnTheWayBy says (plan_in s) (read_in s) s.journal (beginning (opening image)) end n (contents_of cut)

-- Where a play leads on a disk that told this content before it. Its journal is legal from the opening state of the
-- image to a place for whose state the device stands. Whatever a cut since an earlier moment might have left was left
-- then too, or is on the journal's way; since the moment of an item, counted in calls since the opening began, it is on
-- the way of one that has the item; and now it is said of the last state. Where the disk was settled on its image, all
-- is on the journal's way.
pub record PlayLeads {D : Type 0} (content : D → Option Content) (moment : D → ℕ) (left : D → ℕ → List (List ℕ)
    → Type 0) (says : Flat → Contents → Type 0) (old : D) (c : Content) (s : Run D) : Type 0 where
  pub end : Place
  pub legal : Legal (plan_in s) (read_in s) s.journal (beginning (opening c.now)) end
  pub stands : StandsIn content s.core end.flat
  pub phase : end.flat.phase ≡ s.core.memory.phase
  pub ever : (since : ℕ) (cut : List (List ℕ)) → since ≤ moment old → left s.core.disk since cut
      → left old since cut ⊎ IsOnWay says c.now s end 0 cut
  pub item : (i : ℕ) (cut : List (List ℕ)) → i < length s.journal → slice_index_or s.moments i 0 < 2 ^ 64 - 1
      → left s.core.disk (moment old + slice_index_or s.moments i 0) cut → IsOnWay says c.now s end (suc i) cut
  pub now : (cut : List (List ℕ)) → CanLeave (content s.core.disk) cut → says end.flat (contents_of cut)
  pub settled : IsSettledOn c.now c → (cut : List (List ℕ)) → left s.core.disk (moment old) cut
      → IsOnWay says c.now s end 0 cut
