use Rattle.std.proofs.Common.{arith, ◌∙◌, sym, ap}
use Rattle.bow_core.specs.Views.{View}
use Rattle.bow_session.specs.Loading.{loaded}
use Rattle.bow_session.specs.Sessions.{Run}
use Rattle.bow_play.proofs.plays.load.Goals as goal

pub returns-in-Ok-load-clause-begun : goal.returns-in-Ok-load-clause-begun
returns-in-Ok-load-clause-begun g c =
    let core = c.in-Ok.opened.0 in
    let device = c.in-Ok.ensures.opened in
    let load = c.in-Ok-load.ensures in
    record {
      first = core;
      is = load.fresh ∙ ap (λ script. loaded core script) (sym (ap (λ (v : Run g.row.D.Denot). v.script) load.fresh));
      fresh = device.fresh;
      valid = device.valid;
      opened = device.opened;
      found = device.found;
      run = load.run;
      loaded_over = load.loaded;
    }

pub returns-in-Err-load-clause-clock : goal.returns-in-Err-load-clause-clock
returns-in-Err-load-clause-clock g c k is =
    let counted = ((c.in-Ok.ensures.opened).found k is).counted in
    let same = c.close.ensures.same ∙ ap (λ (v : View g.row.D.Denot). v.disk) c.in-Err-load.ensures.kept in
    let at = ap g.D.Disk.moment same in
    omega (arith, counted, at)
