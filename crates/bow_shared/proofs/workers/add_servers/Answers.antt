use Rattle.std.proofs.Common.{◌≡◌, ◌<◌, ◌++◌, ◌∷◌, [], All, List, arith, length, length-append, subst, sym}
use Rattle.std.proofs.lemmas.List.Elements.{All-push}
use Rattle.bow_tags.proofs.Gathered.{middle, member}
use Rattle.bow_shared.specs.declared.workers.Worker.{Worker}
use Rattle.bow_shared.specs.declared.workers.Worker.TheVariants.{Server}
use Rattle.bow_shared.specs.Works.{MayBegin}
use Rattle.bow_shared.proofs.workers.add_servers.Goals as goal

pub loop-seat-preserved : goal.loop-seat-preserved
loop-seat-preserved c =
    let l = c.loop-seat in
    let inv = l.invariant in
    let tags = c.args.tags.now in
    let cell = c.args.cell.now in
    let seat = c.in-Some.seat in
    let rest = l.seat-iterator.rest.items in
    let next = c.next.new.self.rest.items in
    let step = (c.in-Some.ensures).steps.0 in
    let w : Worker = Server seat c.in_ok-jobs.jobs in
    let items : c.push.new.self.items ≡ l.workers.items ++ w ∷ [] = (c.in_ok-push.ensures).items in
    let first = c.requires.seats.1 (length l.yielded) seat (member l.yielded seat rest next c.args.seats.items inv.split step) in
    record {
      split = middle l.yielded seat rest next c.args.seats.items inv.split step;
      some = subst (λ (ws : List Worker). 0 < length ws) (sym items) (let n = length-append l.workers.items (w ∷ []) in omega arith);
      may = subst (All (MayBegin tags cell)) (sym items) (All-push (MayBegin tags cell) l.workers.items w inv.may (first.0, (c.in_ok-jobs.ensures).items));
    }
