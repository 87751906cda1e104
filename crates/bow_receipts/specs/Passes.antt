-- What contracts see of the callers.
use Rattle.std.specs.Prelude.{◌≡◌, ℕ, ◌+◌, ◌<◌, ◌≤◌, List, [], ◌∷◌, ◌++◌, length, slice_get, Some}
use Rattle.atomic_table.specs.Seated.{TableId}
use Rattle.bow_units.specs.declared.requests.Op.{Op}
use Rattle.bow_tags.specs.declared.view.Entry.{Entry}
use Rattle.bow_tags.specs.declared.view.Stance.TheVariants.{Idle}
use Rattle.bow_tags.specs.Seats.{Sitting}
use Rattle.bow_tags.specs.Steps.{entry, lane_of}
use Rattle.bow_receipts.specs.declared.asks.Answer.{Answer}

-- A pass: its caller's number, how many calls it has made and how many it may make, and of each call what was asked and
-- answered.
pub record Caller : Type 0 where
  pub lane : ℕ
  pub made : ℕ
  pub may : ℕ
  pub got : List (Entry Op Answer)

-- the calls are those of this caller, numbered from 0
pub record AreOwn (lane made : ℕ) (got : List (Entry Op Answer)) : Type 0 where
  pub many : length got ≡ made
  pub each : (n : ℕ) (x : Entry Op Answer) → slice_get got n ≡ Some x → (x.lane ≡ lane) × (x.number ≡ n)

-- the pass once it was given this answer to this ask
abbrev pub after_call : Caller → Op → Answer → Caller
after_call p ask answer = record p { made = p.made + 1; got = p.got ++ entry p.lane p.made ask answer ∷ [] }

-- A pass between its calls: its seat is idle, at the number of the next call; the calls that it may still make are of
-- its present section.
pub record IsPass (table : TableId) (size callers : ℕ) (allowed : ℕ → ℕ) (section : ℕ → ℕ → ℕ)
    (seat : Sitting Op Answer) (lane made may present : ℕ) : Type 0 where
  pub table_is : seat.table ≡ table
  pub size_is : seat.view.size ≡ size
  pub lane_is : (lane_of seat.view).lane ≡ lane
  pub number_is : (lane_of seat.view).number ≡ made
  pub idle : (lane_of seat.view).stance ≡ Idle
  pub inside : lane < callers
  pub most : may ≤ allowed lane
  pub within : made ≤ may
  pub few : may ≤ 65536
  pub here : (n : ℕ) → made ≤ n → n < may → section lane n ≡ present
  pub own : AreOwn lane made seat.view.got

-- these are the seats of these passes
pub record AreSeats (table : TableId) (size callers : ℕ) (allowed : ℕ → ℕ) (section : ℕ → ℕ → ℕ)
    (passes : List Caller) (seats : List (Sitting Op Answer)) : Type 0 where
  pub many : length seats ≡ length passes
  pub each : (i : ℕ) (p : Caller) (s : Sitting Op Answer) → slice_get passes i ≡ Some p → slice_get seats i ≡ Some s
      → (present : ℕ) × IsPass table size callers allowed section s p.lane p.made p.may present
      × (s.view.got ≡ p.got)

-- there is room for the seats of so many callers and of one server
pub record HaveRoom (callers : ℕ) (lanes servers : List (Sitting Op Answer)) (room one : ℕ) : Type 0 where
  pub no_lanes : lanes ≡ []
  pub no_servers : servers ≡ []
  pub lanes_fit : callers ≤ room
  pub server_fits : 1 ≤ one
