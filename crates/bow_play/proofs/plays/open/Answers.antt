use Rattle.bow_play.proofs.Runs.{bytes_before}
use Rattle.bow_play.proofs.plays.open.Goals as goal

pub returns-in-Ok-open-clause-opened : goal.returns-in-Ok-open-clause-opened
returns-in-Ok-open-clause-opened g c =
    let device = c.in-Ok-open.ensures in
    let core = c.in-Ok-open.core in
    record {
      fresh = record { memory = device.fresh.0; places = device.fresh.1; admitted = device.fresh.2; calls = device.fresh.3 };
      valid = device.valid;
      sizes = device.opened.sizes;
      opened = device.kept;
      found = λ k is. record {
        plain = (device.stands k is).0;
        image = bytes_before g.D.Disk.stated g.D.Disk.content g.D.Disk.moment g.D.Disk.left_since g.D.Disk.faults g.met.D.Disk.shaped c.args.disk core k is device.kept device.opened;
        counted = device.clock k is;
        stands = (device.stands k is).1;
        led = device.led k is;
      };
    }
