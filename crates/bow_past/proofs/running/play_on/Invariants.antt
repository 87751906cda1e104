use Rattle.std.proofs.Common.{◌≡◌, ℕ, Option}
use Rattle.bow_history.specs.Ends.{turns_left}
use Rattle.bow_session.specs.Requests.{requests_in}
use Rattle.bow_session.specs.Sessions.{Run, plan_in, state_in}
use Rattle.bow_past.specs.Beside.{IsBeside}
use Rattle.bow_past.specs.Readings.{Reading}
use Rattle.bow_past.specs.Running.{PlaysBeside}
use Rattle.bow_past.proofs.running.play_on.Given as goal

abbrev pub invariant-turns : goal.invariant-turns
invariant-turns g l = IsBeside g.D.Disk.stated g.D.Disk.content l.past l.session
    × ((l.session.script ≡ l.initial.session.script) × (l.session.core.geometry ≡ l.initial.session.core.geometry))
    × ((m : ℕ) (t : Option Reading) (end : Run g.row.D.Denot) → PlaysBeside g.D.Disk.stated g.D.Disk.content g.D.Disk.moment g.D.Disk.left_since g.D.Disk.faults m l.draws l.past l.session t end
    → (n : ℕ) × PlaysBeside g.D.Disk.stated g.D.Disk.content g.D.Disk.moment g.D.Disk.left_since g.D.Disk.faults n l.initial.draws l.initial.past l.initial.session t end)

abbrev pub decreases-turns : goal.decreases-turns
decreases-turns g l = turns_left (plan_in l.session) (requests_in l.session.script) (state_in l.session)
