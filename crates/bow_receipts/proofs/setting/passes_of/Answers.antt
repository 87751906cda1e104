use Rattle.std.proofs.Common.{ℕ, slice_index_or, ◌≡◌, ◌<◌, ◌∙◌, length, arith, ap, sym, subst, refl, rules}
use Rattle.bow_tags.proofs.Gathered.{middle, member}
use Rattle.bow_tags.proofs.Lists.{pushed}
use Rattle.bow_units.specs.declared.requests.Op.{Op}
use Rattle.bow_tags.specs.Seats.{IsFirstLane}
use Rattle.bow_tags.specs.declared.view.View.{View}
use Rattle.bow_receipts.specs.declared.asks.Answer.{Answer}
use Rattle.bow_receipts.specs.Openings.{IsNewPass, opened}
use Rattle.bow_receipts.specs.Passes.{Caller}
use Rattle.bow_receipts.proofs.Passing.{all_at_most, first_pass, new_pass, plain_at_first}
use Rattle.bow_receipts.proofs.Rests.{as_long, one_left, over}
use Rattle.bow_receipts.proofs.setting.passes_of.Given.{Over}
use Rattle.bow_receipts.proofs.setting.passes_of.Goals.{After-len-lane}
use Rattle.bow_receipts.proofs.setting.passes_of.Goals as goal

module _ (g : Over) (c : After-len-lane g) where
  at_end : c.len-lane.result ≡ length c.loop-seat.passes.items
  at_end = search rules

  -- the seat is the first of the next lane
  first : IsFirstLane g.J.Naming.table 1 g.J.Naming.sizes.block_size (length c.loop-seat.yielded) c.in-Some.seat
  first = c.requires.seats (length c.loop-seat.yielded) c.in-Some.seat
      (member c.loop-seat.yielded c.in-Some.seat c.loop-seat.seat-iterator.rest.items c.next.new.self.rest.items c.args.seats.items c.loop-seat.invariant.split (c.in-Some.ensures).steps.0)

pub invariant_of-push : goal.invariant_of-push
invariant_of-push g c =
    let k = (goal.at.invariant_of-push g c).After-len-lane in
    let l = c.loop-seat in
    let seat = c.in-Some.seat in
    let lane = c.len-lane.result in
    let place : length l.yielded ≡ lane = sym l.invariant.many ∙ sym (at_end g k) in
    let less : lane < length c.args.calls.now =
    let one = one_left l.yielded l.seat-iterator.rest.items c.next.new.self.rest.items seat (length c.args.seats.items) (c.in-Some.ensures).steps.0 l.invariant.count in omega (arith, one, place, c.requires.many) in
    first_pass g.J.Naming.table g.J.Naming.sizes.block_size g.J.Naming.callers g.J.Naming.allowed g.J.Naming.section c.args.calls.now seat lane _
    (subst (λ i. IsFirstLane g.J.Naming.table 1 g.J.Naming.sizes.block_size i seat) place (first g k)) less c.requires.callers c.requires.allowed c.requires.total (all_at_most c.args.full (slice_index_or c.args.calls.now lane 0) _ c.all_or_none.ensures) (plain_at_first g.J.Naming.section lane c.args.full (slice_index_or c.args.calls.now lane 0) _ c.all_or_none.ensures c.requires.plain)

pub loop-seat-preserved : goal.loop-seat-preserved
loop-seat-preserved g c =
    let k = (goal.at.loop-seat-preserved g c).After-len-lane in
    let l = c.loop-seat in
    let seat = c.in-Some.seat in
    let next = c.next.new.self.rest.items in
    let step = (c.in-Some.ensures).steps.0 in
    let p : Caller = record { lane = c.len-lane.result; made = 0; may = c.all_or_none.result; got = seat.view.got } in
    let items = (c.in_ok-push.ensures).items in
    let new : IsNewPass (opened c.args.full g.J.Naming.allowed) (length l.passes.items) p =
    new_pass (opened c.args.full g.J.Naming.allowed) c.len-lane.result (length l.passes.items) c.all_or_none.result seat.view.got (at_end g k) (c.all_or_none.ensures ∙ ap (λ (f : ℕ → ℕ). opened c.args.full f c.len-lane.result) (sym c.requires.allowed)) (ap (λ (v : View Op Answer). v.got) (first g k).1) in
    record {
      split = middle l.yielded seat l.seat-iterator.rest.items next c.args.seats.items l.invariant.split step;
      count = over l.yielded l.seat-iterator.rest.items next seat (length c.args.seats.items) step l.invariant.count;
      many = as_long l.yielded seat l.passes.items c.push.new.self.items p items l.invariant.many;
      each = (pushed (IsNewPass (opened c.args.full g.J.Naming.allowed)) l.passes.items p c.push.new.self.items (length l.passes.items) items refl l.invariant.each new).1;
    }
