use Rattle.std.proofs.Common.{ap, subst}
use Rattle.std.specs.Prelude.{vec_capacity}
use Rattle.bow_tags.proofs.Gathered.{middle}
use Rattle.bow_receipts.specs.Passes.{Caller, IsPass}
use Rattle.bow_receipts.proofs.Passing.{seats_more}
use Rattle.bow_receipts.proofs.Rests.{room_still}
use Rattle.bow_receipts.proofs.closing.seats_of.Goals as goal

pub loop-pass-preserved : goal.loop-pass-preserved
loop-pass-preserved g c =
    let l = c.loop-pass in
    let inv = l.invariant in
    let p = c.in-Some.pass in
    let seat = c.pass.inside.seat in
    let rest = l.pass-iterator.rest.items in
    let next = c.next.new.self.rest.items in
    let step = (c.in-Some.ensures).steps.0 in
    let items = c.push_reserved.ensures in
    record {
      split = middle l.yielded p rest next c.args.passes.items inv.split step;
      room = room_still rest next p l.seats.items c.push_reserved.new.self.items seat (vec_capacity l.seats) (vec_capacity c.push_reserved.new.self) step items.items items.capacity inv.room;
      seats = seats_more g.J.Naming.table g.J.Naming.sizes.block_size g.J.Naming.callers g.J.Naming.allowed g.J.Naming.section l.yielded l.seats.items c.push_reserved.new.self.items p seat inv.seats items.items c.pass.inside.section
          (subst (λ (q : Caller). IsPass g.J.Naming.table g.J.Naming.sizes.block_size g.J.Naming.callers g.J.Naming.allowed g.J.Naming.section seat q.lane q.made q.may c.pass.inside.section) c.pass.view_is c.pass.invariant)
          (ap (λ (q : Caller). q.got) c.pass.view_is);
    }
