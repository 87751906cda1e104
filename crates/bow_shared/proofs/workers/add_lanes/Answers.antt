use Rattle.std.proofs.Common.{◌≡◌, ◌++◌, ◌∷◌, [], All, length, subst, sym}
use Rattle.std.proofs.lemmas.List.Elements.{All-pop, All-push}
use Rattle.std.proofs.Common.{Some}
use Rattle.bow_status.specs.Rising.{IsFirstWatcher}
use Rattle.bow_tags.proofs.Gathered.{middle, member}
use Rattle.bow_shared.specs.declared.workers.Worker.{Worker}
use Rattle.bow_shared.specs.declared.workers.Worker.TheVariants.{Lane}
use Rattle.bow_shared.specs.Works.{MayBegin}
use Rattle.bow_shared.proofs.Beginning.{as_long, lane_begins, one_over, shorter}
use Rattle.bow_shared.proofs.workers.add_lanes.Goals as goal

pub loop-seat-preserved : goal.loop-seat-preserved
loop-seat-preserved g c =
    let l = c.loop-seat in
    let inv = l.invariant in
    let tags = c.args.tags.now in
    let cell = c.args.cell.now in
    let seat = c.in-Some.seat in
    let watcher = c.in-Some-pop.watcher in
    let rest = l.seat-iterator.rest.items in
    let next = c.next.new.self.rest.items in
    let step = (c.in-Some.ensures).steps.0 in
    let fresh = All-pop (IsFirstWatcher cell) l.watchers.items c.pop.new.self.items (Some watcher) (c.in-Some-pop.ensures).items inv.fresh in
    let w : Worker = Lane seat watcher c.len-lane.result c.requests-requests.result in
    let items : c.push.new.self.items ≡ l.workers.items ++ w ∷ [] = (c.in_ok-push.ensures).items in
    let first = c.requires.seats.1 (length l.yielded) seat (member l.yielded seat rest next c.args.seats.items inv.split step) in
    record {
      split = middle l.yielded seat rest next c.args.seats.items inv.split step;
      few = one_over l.yielded rest next seat step inv.few;
      many = as_long l.yielded seat l.workers.items c.push.new.self.items w items inv.many;
      may = subst (All (MayBegin tags cell)) (sym items) (All-push (MayBegin tags cell) l.workers.items w inv.may
          (lane_begins tags cell c.requires.seats.0 (length l.yielded) seat watcher c.len-lane.result c.requests-requests.result first fresh.1));
      left = shorter l.watchers.items c.pop.new.self.items watcher rest next seat (c.in-Some-pop.ensures).items step inv.left;
      fresh = fresh.0;
    }
