-- How a session is taken in, before its first turn.
use Rattle.std.specs.Prelude.{◌≡◌, ℕ, ◌+◌, List, [], length, replicate, slice_get, None, Some}
use Rattle.std.specs.List.{sum_by}
use Rattle.bow_core.specs.Views.{View}
use Rattle.bow_script.specs.declared.scripts.Line.{Line}
use Rattle.bow_script.specs.Scripts.{blocks_of}
use Rattle.bow_history.specs.Journal.{Plan}
use Rattle.bow_history.specs.Ends.{over_lanes}
use Rattle.bow_session.specs.declared.records.Records.{Records}
use Rattle.bow_session.specs.declared.seats.Asked.{Asked}
use Rattle.bow_session.specs.declared.seats.Seat.{Seat}
use Rattle.bow_session.specs.Buffers.{HasBuffers}
use Rattle.bow_session.specs.Requests.{lane_lines, section_of, lanes_of, requests_in}
use Rattle.bow_session.specs.Seats.{IsNext, AreNext}
use Rattle.bow_session.specs.Sessions.{Run, no_lane}

-- A session over this device before its first step: nothing is answered, no lane has a request in hand.
abbrev pub loaded : {D : Type 0} → View D → List (List (List Line)) → Run D
loaded core script = record {
  core = core;
  script = script;
  lanes = replicate (lanes_of script) no_lane;
  journal = [];
  moments = [];
}

-- the items of a line: one for each block that it reads or writes, and its answer
abbrev pub line_items : Line → ℕ
line_items line = blocks_of line + 1

-- the items of a lane
abbrev pub lane_items : List (List (List Line)) → ℕ → ℕ
lane_items script lane = sum_by line_items (lane_lines script lane)

-- these are the lane's first requests
abbrev pub AreFirst : Plan → ℕ → List Asked → Type 0
AreFirst plan lane pending = (n : ℕ) (a : Asked) → slice_get pending n ≡ Some a → IsNext plan lane n a

-- the lines stand in the lane from number n on, in the section of this number
abbrev pub AreThere : List (List (List Line)) → ℕ → ℕ → ℕ → List Line → Type 0
AreThere script lane n section lines = (i : ℕ) (line : Line) → slice_get lines i ≡ Some line
    → (slice_get (lane_lines script lane) (n + i) ≡ Some line) × (section_of script lane (n + i) ≡ section)

-- a lane before its first step: all its requests are to come, with room for their answers and a buffer for each write
pub record IsNewSeat (plan : Plan) (count lane : ℕ) (seat : Seat) : Type 0 where
  pub hand : seat.hand ≡ None
  pub answered : seat.answered.items ≡ []
  pub room : seat.answered.room ≡ count
  pub pending : AreNext plan lane 0 seat.pending.items
  pub many : length seat.pending.items ≡ count
  pub buffers : HasBuffers plan.sizes.block_size 0 seat.buffers.items

-- each lane is one
abbrev pub AreNewSeats : Plan → (ℕ → ℕ) → List Seat → Type 0
AreNewSeats plan counts seats =
    (lane : ℕ) (seat : Seat) → slice_get seats lane ≡ Some seat → IsNewSeat plan (counts lane) lane seat

-- what a session keeps of a script before its first step, with room for all items that may come
pub record AreNewRecords (plan : Plan) (script : List (List (List Line))) (r : Records) : Type 0 where
  pub seats : AreNewSeats plan (requests_in script) r.seats.items
  pub lanes : length r.seats.items ≡ lanes_of script
  pub journal : r.journal.items ≡ []
  pub moments : r.moments.items ≡ []
  pub room : r.journal.room ≡ over_lanes (lane_items script) (lanes_of script)
  pub room_of_moments : r.moments.room ≡ over_lanes (lane_items script) (lanes_of script)
