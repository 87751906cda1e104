use Rattle.std.proofs.Common.{◌∷◌, ◌++◌, [], List, map, ap, ◌∙◌, append_assoc}
use Rattle.bow_core.specs.Views.{View}
use Rattle.bow_pair.proofs.Joins.{ready_opened, stops_so}
use Rattle.bow_pair.proofs.pairs.Pair.join_up.Goals as goal

pub returns-in-Err-clause-cause : goal.returns-in-Err-clause-cause
returns-in-Err-clause-cause g c =
    let D = g.D.Disk in
    let cores = c.open_each.new.cores.items in
    let rest = c.open_each.new.disks.items in
    let fronts = map (λ (v : View g.row.D.Denot). v.disk) cores in
    let closed = c.close_onto-all.ensures.disks ∙ ap (λ (l : List g.row.D.Denot). l ++ fronts) c.in-Ok-with_capacity.ensures.items in
    stops_so D.stated D.content D.moment D.left_since D.faults c.args.disks.items rest c.put_onto.result.items cores c.in-Err.refused c.in-Err.fault c.in-Err.ensures.stopped
    (c.put_onto.ensures.disks ∙ ap (λ (l : List g.row.D.Denot). l ++ rest) (c.push_reserved.ensures.items ∙ ap (λ (l : List g.row.D.Denot). l ++ c.in-Err.refused ∷ []) closed)
    ∙ append_assoc fronts (c.in-Err.refused ∷ []) rest)

pub returns-clause-ready : goal.returns-clause-ready
returns-clause-ready g c =
    let D = g.D.Disk in
    ready_opened D.stated D.content D.moment D.left_since D.faults c.args.disks.items c.open_each.new.cores.items c.in_default-open_each.ensures.opened
