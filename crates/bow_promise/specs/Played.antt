-- A play over a real disk is a play as the promises have it.
use Rattle.std.specs.Prelude.{◌≡◌, ℕ, suc, ◌+◌, ◌-◌, ◌^◌, ◌<◌, List, length, slice_index_or, [], Option, Some}
use Rattle.bow_units.specs.declared.sizes.Geometry.{Geometry}
use Rattle.bow_units.specs.Magics.{IsPlain}
use Rattle.bow_units.specs.Sizes.{IsValid}
use Rattle.bow_disk.specs.Disk.{Content, IsSettledOn}
use Rattle.bow_guard.specs.Standing.{StandsFor}
use Rattle.bow_history.specs.Journal.{Place}
use Rattle.bow_session.specs.Sessions.{Run, plan_in}
use Rattle.bow_play.specs.Leading.{CanLeave, PlayLeads, read_in}
use Rattle.bow_promise.specs.Cutting.{Play}
use Rattle.bow_promise.specs.Promises.{IsPromised}

-- the play of a session that began on this image, and led to this place
abbrev pub play_of : {D : Type 0} → List (List ℕ) → Run D → Place → Play
play_of image s end = record {
  plan = plan_in s;
  read = read_in s;
  image = image;
  journal = s.journal;
  end = end;
}

-- What is known of a session that `play` gave, on a disk that told this content before it.
pub record IsPlayed {D : Type 0} (stated : D → Option Geometry) (content : D → Option Content) (moment : D → ℕ)
    (left : D → ℕ → List (List ℕ) → Type 0) (old : D) (c : Content) (s : Run D) : Type 0 where
  pub sizes : stated s.core.disk ≡ Some s.core.geometry
  pub valid : IsValid s.core.geometry
  pub plain : IsPlain (slice_index_or c.now 0 [])
  pub leads : PlayLeads content moment left (StandsFor s.core.geometry) old c s

-- Each cut of a play is promised: whatever it leaves since the play began, of a disk that was settled before it; since
-- the moment of an item what it leaves of the play that has the item; and at the end of the play that has all.
pub record CutsArePromisedOf {D : Type 0} (content : D → Option Content) (moment : D → ℕ) (left : D → ℕ
    → List (List ℕ) → Type 0) (old : D) (c : Content) (s : Run D) (p : Play) : Type 0 where
  pub ever : IsSettledOn c.now c → (cut : List (List ℕ)) → left s.core.disk (moment old) cut → IsPromised p 0 cut
  pub item : (i : ℕ) → i < length s.journal → slice_index_or s.moments i 0 < 2 ^ 64 - 1 → (cut : List (List ℕ))
      → left s.core.disk (moment old + slice_index_or s.moments i 0) cut → IsPromised p (suc i) cut
  pub now : (cut : List (List ℕ)) → CanLeave (content s.core.disk) cut → IsPromised p (length s.journal) cut

-- So is each session that `play` gave.
abbrev pub PlaysArePromised : {D : Type 0} → (D → Option Geometry) → (D → Option Content) → (D → ℕ) → (D → ℕ
    → List (List ℕ) → Type 0) → Type 0
PlaysArePromised {D} stated content moment left = (old : D) (c : Content) (s : Run D)
    → (k : IsPlayed stated content moment left old c s)
    → CutsArePromisedOf content moment left old c s (play_of c.now s k.leads.end)
