use Rattle.std.proofs.Common.{◌<◌, ◌∙◌, length, subst, sym}
use Rattle.bow_past.specs.Reach.{IsWanted}
use Rattle.bow_past.specs.Readings.{Reading}
use Rattle.bow_past.specs.declared.ended.Ended.TheVariants.{Strange}
use Rattle.bow_past.proofs.Stepping.{found_none, found_some, gives_up, keeps_log, next_same}
use Rattle.bow_past.proofs.readers.Past.read_log.Goals as goal

pub returns-in-Ok-Some : goal.returns-in-Ok-Some
returns-in-Ok-Some g c =
    let p = c.args.self.now in
    let grown = c.in_ok-make_place.ensures.grown in
    let found = found_some g.D.Disk.stated g.D.Disk.content g.D.Disk.moment g.D.Disk.left_since g.D.Disk.faults c.make_place.new.self.geometry c.args.wanted c.args.place c.args.session.now c.look.new.session c.in-Ok-Some.field-0 c.in-Ok-Some.log c.in-Ok-Some.ensures.found c.in-Ok-Some.field-0-is in
    record {
      looks = (
        found.0,
        c.in-Ok-Some.log,
        found.1,
        subst (λ (r : Reading). IsWanted r.geometry found.0 c.args.wanted c.in-Ok-Some.log) grown.1 found.2,
        keeps_log p c.make_place.new.self c.look.new.self c.keep.new.self grown.0 c.args.wanted c.in-Ok-Some.log grown.1 c.look.ensures.same
            (subst (λ (r : Reading). c.args.wanted < length r.kept) (sym c.look.ensures.same) c.in_ok-make_place.ensures.inside) c.keep.ensures.kept,
      );
    }

pub returns-in-Ok-None : goal.returns-in-Ok-None
returns-in-Ok-None g c =
    let p = c.args.self.now in
    let grown = c.in_ok-make_place.ensures.grown in
    let found = found_none g.D.Disk.stated g.D.Disk.content g.D.Disk.moment g.D.Disk.left_since g.D.Disk.faults c.make_place.new.self.geometry c.args.wanted c.args.place c.args.session.now c.look.new.session c.in-Ok-None.field-0 c.in-Ok-None.ensures.found c.in-Ok-None.field-0-is in
    record {
      looks = (
        c.give_up-block.ensures.block ∙ next_same p c.make_place.new.self c.look.new.self grown.0 grown.1 c.look.ensures.same,
        found.0,
        found.1,
        λ log is. found.2 log (subst (λ (r : Reading). IsWanted r.geometry found.0 c.args.wanted log) (sym grown.1) is),
        gives_up p c.make_place.new.self c.look.new.self c.give_up-block.new.self grown.0 c.places-before.result Strange grown.1 c.look.ensures.same c.places-before.ensures c.give_up-block.ensures.ended,
      );
    }
