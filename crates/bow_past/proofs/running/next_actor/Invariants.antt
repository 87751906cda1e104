use Rattle.std.proofs.Common.{◌≡◌, ℕ, Option}
use Rattle.bow_session.specs.Sessions.{Run}
use Rattle.bow_past.specs.Beside.{IsBeside}
use Rattle.bow_past.specs.Readings.{Reading}
use Rattle.bow_past.specs.Running.{PlaysBeside}
use Rattle.bow_past.proofs.Keeping.{reading_left}
use Rattle.bow_past.proofs.running.next_actor.Given as goal

abbrev pub invariant-reads : goal.invariant-reads
invariant-reads g l = IsBeside g.D.Disk.stated g.D.Disk.content l.past l.session
    × (l.session ≡ record l.initial.session { core = record l.initial.session.core { disk = l.session.core.disk; calls = l.session.core.calls } })
    × ((m : ℕ) (t : Option Reading) (end : Run g.row.D.Denot) → PlaysBeside g.D.Disk.stated g.D.Disk.content g.D.Disk.moment g.D.Disk.left_since g.D.Disk.faults m l.draws l.past l.session t end
    → (n : ℕ) × PlaysBeside g.D.Disk.stated g.D.Disk.content g.D.Disk.moment g.D.Disk.left_since g.D.Disk.faults n l.initial.draws l.initial.past l.initial.session t end)

abbrev pub decreases-reads : goal.decreases-reads
decreases-reads g l = reading_left l.past l.session.core.memory.log
