use Rattle.bow_pair.proofs.Joins.{fresh_is_ready}
use Rattle.bow_pair.proofs.Sessions.{first_out}
use Rattle.bow_pair.proofs.joining.open_next.Goals as goal

pub returns-in-Ok-clause-opened : goal.returns-in-Ok-clause-opened
returns-in-Ok-clause-opened g c =
    let E = c.in-Ok.ensures in
    record {
      disk = c.remove-disk.result;
      core = c.in-Ok.core;
      opened = record {
        valid = E.valid;
        whole = E.opened;
        fresh = E.fresh.0;
        ready = fresh_is_ready c.in-Ok.core E.fresh.0 E.fresh.1 E.fresh.2;
        kept = E.kept;
        plain = λ told is. (E.stands told is).0;
        stands = λ told is. (E.stands told is).1;
        led = λ told is. E.led told is;
      };
      taken = first_out c.args.disks.now.items c.remove-disk.new.self.items c.remove-disk.result c.requires.some c.remove-disk.ensures.value c.remove-disk.ensures.items;
      added = c.push_reserved.ensures.items;
    }
