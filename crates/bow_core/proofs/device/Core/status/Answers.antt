use Rattle.std.proofs.Common.{◌≡◌, sym, subst}
use Rattle.bow_units.specs.declared.statuses.Status.{Status}
use Rattle.bow_machine.specs.Shown.{IsShown}
use Rattle.bow_machine.proofs.Shown.{status_is_shown}
use Rattle.bow_flat.specs.Valid.{HasCheckpoint}
use Rattle.bow_core.specs.Room.{IsExactRoom}
use Rattle.bow_core.specs.Standing.{StandsIn}
use Rattle.bow_core.specs.Views.{View}
use Rattle.bow_core.proofs.Rooms.{room_is, trimmed_is}
use Rattle.bow_core.proofs.device.Core.status.Goals as goal

pub returns-clause-shown : goal.returns-clause-shown
returns-clause-shown g c =
    let s = c.self.inside.state in
    let own = subst (IsShown s.geometry) (sym c.status.ensures) (status_is_shown s.geometry s.memory c.self.invariant.sound) in
    subst (λ (v : View g.row.D.Denot). IsShown v.geometry c.status.result) c.self.view_is own

pub returns-clause-room : goal.returns-clause-room
returns-clause-room g c has =
    let s = c.self.inside.state in
    let own = room_is s.geometry s.memory c.self.invariant.sound (subst (λ (r : Status). HasCheckpoint r.phase) c.status.ensures has) in
    subst (λ (v : View g.row.D.Denot). IsExactRoom v.memory c.status.result) c.self.view_is (subst (IsExactRoom s.memory) (sym c.status.ensures) own)

pub returns-clause-trimmed : goal.returns-clause-trimmed
returns-clause-trimmed g c f stands has =
    let i = c.self.inside in
    let before = subst (λ (v : View g.row.D.Denot). StandsIn g.D.Disk.content v f) (sym c.self.view_is) stands in
    let own = trimmed_is i.state.geometry i.state.memory f c.self.invariant.sound (subst (λ (r : Status). HasCheckpoint r.phase) c.status.ensures has) (g.D.Disk.content i.port.disk) before in
    subst (λ (v : View g.row.D.Denot). f.trimmed ≡ v.memory.trimmed) c.self.view_is own
