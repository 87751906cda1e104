-- How the parts of a session are seen, and what holds of them.
use Rattle.std.specs.Prelude.{◌≡◌, ℕ, ◌+◌, ◌-◌, ◌<◌, ◌≤◌, ◌^◌, List, length, map, slice_get, Some}
use Rattle.std.specs.List.{sum_by}
use Rattle.bow_script.specs.Scripts.{IsWellFormed}
use Rattle.bow_history.specs.Journal.{Plan}
use Rattle.bow_history.specs.SoundSessions.{IsSoundSession}
use Rattle.bow_history.specs.Ends.{items_left}
use Rattle.bow_session.specs.declared.desks.Desk.{Desk}
use Rattle.bow_session.specs.declared.seats.Seat.{Seat}
use Rattle.bow_session.specs.Requests.{lanes_of, requests_in, plan_of}
use Rattle.bow_session.specs.Seats.{lane_in, IsSeatFit}
use Rattle.bow_session.specs.Sessions.{Run, plan_in, state_in}

-- what callers see of them
abbrev pub run_of : {D R : Type 0} → Desk D R → Run D
run_of s = record {
  core = s.core;
  script = s.script;
  lanes = map lane_in s.records.seats.items;
  journal = s.records.journal.items;
  moments = s.records.moments.items;
}

-- each lane fits what the plan asks of it
abbrev pub AreFit : Plan → (ℕ → ℕ) → List Seat → Type 0
AreFit plan counts seats =
    (lane : ℕ) (seat : Seat) → slice_get seats lane ≡ Some seat → IsSeatFit plan (counts lane) lane seat

-- how many requests the device does not have yet
abbrev pub to_come : List Seat → ℕ
to_come seats = sum_by (λ (seat : Seat). length seat.pending.items) seats

-- The session is sound, with a place for each lane and a serial number for each request to come; the lanes fit the
-- script, whose numbers are small; and all items that may still come have room.
pub record Fits {D R : Type 0} (s : Desk D R) : Type 0 where
  pub sound : IsSoundSession (plan_in (run_of s)) (state_in (run_of s))
  pub places : s.core.places ≡ 16
  pub numbers : IsWellFormed s.script
  pub few : lanes_of s.script ≤ 16
  pub small : (lane : ℕ) → requests_in s.script lane ≤ 65536
  pub lanes : length s.records.seats.items ≡ lanes_of s.script
  pub seats : AreFit (plan_of s.core.geometry s.script) (requests_in s.script) s.records.seats.items
  pub serials : s.core.admitted + to_come s.records.seats.items < 2 ^ 64 - 1
  pub items : items_left (plan_in (run_of s)) (requests_in s.script) (state_in (run_of s)) ≤ s.records.journal.room
  pub moments : items_left (plan_in (run_of s)) (requests_in s.script) (state_in (run_of s)) ≤ s.records.moments.room
  pub paired : length s.records.moments.items ≡ length s.records.journal.items
