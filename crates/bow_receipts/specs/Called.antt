-- Callers that make the calls of a script.
use Rattle.std.specs.Prelude.{◌≡◌, ℕ, ◌<◌, ◌≤◌, All, List, length, slice_get, slice_index_or, take, Option, Some}
use Rattle.bow_units.specs.declared.sizes.Geometry.{Geometry}
use Rattle.bow_units.specs.declared.requests.Op.{Op}
use Rattle.bow_disk.specs.Disk.{Content}
use Rattle.bow_core.specs.Views.{View}
use Rattle.bow_history.specs.Sessions.{IsFor}
use Rattle.bow_history.specs.declared.items.Item.{Item}
use Rattle.bow_script.specs.declared.scripts.Line.{Line}
use Rattle.bow_session.specs.Requests.{lane_lines, lanes_of, request_of, requests_in}
use Rattle.bow_tags.specs.declared.view.Entry.{Entry}
use Rattle.bow_tags.specs.Seats.{Numbered}
use Rattle.bow_receipts.specs.declared.asks.Answer.{Answer}
use Rattle.bow_receipts.specs.Closing.{IsClosed}
use Rattle.bow_receipts.specs.Passes.{Caller}

-- call n asks for request n of the lane
abbrev pub AsksFor : Geometry → List (List (List Line)) → ℕ → List (Entry Op Answer) → Type 0
AsksFor g script lane calls = (n : ℕ) (x : Entry Op Answer) → slice_get calls n ≡ Some x
    → (line : Line) × (slice_get (lane_lines script lane) n ≡ Some line) × IsFor g (request_of g.block_size line) x.ask

-- a pass goes on: it is of the same caller, and asks for the requests of its lane still
pub record GoesOn (g : Geometry) (script : List (List (List Line))) (old new : Caller) : Type 0 where
  pub lane : new.lane ≡ old.lane
  pub may : new.may ≡ old.may
  pub asks : AsksFor g script old.lane old.got → AsksFor g script new.lane new.got

-- how many requests a lane has in the first so many sections
abbrev pub requests_before : List (List (List Line)) → ℕ → ℕ → ℕ
requests_before script sections lane = requests_in (take sections script) lane

-- the pass may make the calls of its lane in the first so many sections, and asks for the requests of the script
pub record MayMake (g : Geometry) (script : List (List (List Line))) (sections : ℕ) (p : Caller) : Type 0 where
  pub may : p.may ≡ requests_before script sections p.lane
  pub asks : AsksFor g script p.lane p.got

-- and it has made them all
pub record HasMade (g : Geometry) (script : List (List (List Line))) (sections : ℕ) (p : Caller) : Type 0 where
  pub calls : MayMake g script sections p
  pub all : p.made ≡ p.may

-- what the pass is once it went through a section
pub record WentOn (g : Geometry) (script : List (List (List Line))) (sections : ℕ) (old new : Caller) : Type 0 where
  pub lane : new.lane ≡ old.lane
  pub calls : MayMake g script sections new

-- the passes of the callers 0, 1, 2 and so on
abbrev pub InOrder : List Caller → Type 0
InOrder passes = Numbered (λ i p. p.lane ≡ i) passes

-- each lane may make as many calls as it has requests
abbrev pub AreAllowed : List (List (List Line)) → ℕ → (ℕ → ℕ) → Type 0
AreAllowed script callers allowed = (lane : ℕ) → lane < callers → requests_in script lane ≤ allowed lane

-- so many calls of each lane as it has requests
pub record AreCounts (script : List (List (List Line))) (calls : List ℕ) : Type 0 where
  pub many : length calls ≡ lanes_of script
  pub each : (lane : ℕ) → lane < length calls → slice_index_or calls lane 0 ≡ requests_in script lane

-- the pass has all that its calls gave, and asked for the requests of the script
pub record HasCalled (g : Geometry) (script : List (List (List Line))) (p : Caller) : Type 0 where
  pub many : length p.got ≡ p.made
  pub asks : AsksFor g script p.lane p.got

-- What callers of a script leave: it is closed, for passes of which each has asked for requests of its lane, in order.
pub record IsCalled {D : Type 0} (content : D → Option Content) (moment : D → ℕ) (left : D → ℕ → List (List ℕ)
    → Type 0) (faults : D → ℕ) (g : Geometry) (callers : ℕ) (begins : View D → Type 0)
    (script : List (List (List Line))) (core : View D) (journal : List Item) (calls : List (Entry Op Answer))
    : Type 0 where
  pub passes : List Caller
  pub closed : IsClosed content moment left faults g callers begins passes core journal calls
  pub many : length passes ≡ callers
  pub order : InOrder passes
  pub called : All (HasCalled g script) passes
