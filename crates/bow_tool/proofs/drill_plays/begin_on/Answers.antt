use Rattle.std.proofs.Common.{◌∙◌, sym, ap}
use Rattle.bow_session.specs.Loading.{loaded}
use Rattle.bow_session.specs.Sessions.{Run}
use Rattle.bow_play.proofs.Runs.{bytes_before}
use Rattle.bow_tool.proofs.drill_plays.begin_on.Goals as goal

pub returns-in-Ok-load-clause-begun : goal.returns-in-Ok-load-clause-begun
returns-in-Ok-load-clause-begun g c =
    let device = c.in-Ok.ensures in
    let core = c.in-Ok.core in
    let load = c.in-Ok-load.ensures in
    record {
      first = core;
      is = load.fresh ∙ ap (λ script. loaded core script) (sym (ap (λ (v : Run g.row.D.Denot). v.script) load.fresh));
      fresh = record { memory = device.fresh.0; places = device.fresh.1; admitted = device.fresh.2; calls = device.fresh.3 };
      valid = device.valid;
      opened = device.kept;
      found = λ k is. record {
        plain = (device.stands k is).0;
        image = bytes_before g.D.Disk.stated g.D.Disk.content g.D.Disk.moment g.D.Disk.left_since g.D.Disk.faults g.met.D.Disk.shaped c.args.disk core k is device.kept device.opened;
        counted = device.clock k is;
        stands = (device.stands k is).1;
        led = device.led k is;
      };
      run = load.run;
      loaded_over = load.loaded;
    }
