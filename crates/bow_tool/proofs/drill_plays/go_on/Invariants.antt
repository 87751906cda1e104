use Rattle.std.proofs.Common.{◌-◌, ◌≡◌, ◌≤◌, ℕ}
use Rattle.bow_core.specs.Views.{View}
use Rattle.bow_session.specs.Sessions.{plan_in}
use Rattle.bow_tool.specs.Outside.{disk_view}
use Rattle.bow_tool.specs.Drills.{DrawsOn, IsDrawn}
use Rattle.bow_tool.proofs.drill_plays.go_on.Given as goal

abbrev pub invariant-loop-turns : goal.invariant-loop-turns
invariant-loop-turns g l =
    let v = disk_view g.D.Disk.stated g.D.Disk.content g.D.Disk.moment g.D.Disk.left_since g.D.Disk.faults in
    record {
      draws : (first : View g.row.D.Denot) (seed : ℕ) → (k : IsDrawn v seed first l.fn.session l.fn.draws) → DrawsOn v seed first k.turns l.turns l.session l.draws;
      most : l.turns ≤ l.most;
      script : l.session.script ≡ l.fn.session.script;
      plan : plan_in l.session ≡ plan_in l.fn.session;
    }

abbrev pub decreases-loop-turns : goal.decreases-loop-turns
decreases-loop-turns g l = l.most - l.turns
