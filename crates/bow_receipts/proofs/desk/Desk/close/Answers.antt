use Rattle.std.proofs.Common.{◌≡◌, ◌++◌, ◌∙◌, List, [], ◌∷◌, length, inl, ap, sym, subst, arith, refl}
use lib.ListN.{get_elem?}
use Rattle.bow_units.specs.declared.requests.Op.{Op}
use Rattle.bow_tags.specs.Seats.{AllGiven, AnsweredOnce, Sitting, lanes_of}
use Rattle.bow_receipts.specs.declared.asks.Answer.{Answer}
use Rattle.bow_receipts.specs.Closing.{IsClosed}
use Rattle.bow_receipts.proofs.Ended.{in_one, is_closed, own_of, seat_pass}
use Rattle.bow_receipts.proofs.desk.Desk.close.Goals as goal

pub close-requires-clause-lanes : goal.close-requires-clause-lanes
close-requires-clause-lanes g c =
    let are = c.seats_of-lanes.ensures in
    let k = c.into_parts-service.ensures.serves in
    let table = c.self.invariant in (
      are.many ∙ c.requires.all ∙ sym k.lanes_are ∙ ap lanes_of (sym table),
      λ i s at.
          let p = seat_pass g.J.Naming.table g.J.Naming.sizes.block_size g.J.Naming.callers g.J.Naming.allowed g.J.Naming.section c.args.passes.items c.seats_of-lanes.result.items are c.requires.order i s at in
          (p.2.table_is ∙ sym table, p.2.lane_is),
    )

pub close-requires-clause-servers : goal.close-requires-clause-servers
close-requires-clause-servers g c =
    let k = c.into_parts-service.ensures.serves in
    let server = c.into_parts-service.result.service.server in
    let items : c.push_reserved.new.self.items ≡ server ∷ [] = c.push_reserved.ensures.items ∙ ap (λ (xs : List (Sitting Op Answer)). xs ++ server ∷ []) c.into_parts-service.ensures.room.no_servers in
    let long = ap (λ (xs : List (Sitting Op Answer)). length xs) items in (
      omega (arith, long),
      λ i s at.
          let one = in_one c.push_reserved.new.self.items server s i items at in (
            ap (λ (z : Sitting Op Answer). z.table) (sym one.1) ∙ k.table_is ∙ sym c.self.invariant,
            ap (λ (z : Sitting Op Answer). z.view.speaks) (sym one.1) ∙ (k.kept).speaks ∙ ap (λ j. j ∷ []) (sym one.0),
            ap (λ (z : Sitting Op Answer). z.view.servers) (sym one.1) ∙ (k.kept).servers ∙ sym long,
          ),
    )

pub close-requires-clause-free : goal.close-requires-clause-free
close-requires-clause-free g c = inl (λ i s at.
    (seat_pass g.J.Naming.table g.J.Naming.sizes.block_size g.J.Naming.callers g.J.Naming.allowed g.J.Naming.section c.args.passes.items c.seats_of-lanes.result.items c.seats_of-lanes.ensures c.requires.order i s at).2.idle)

pub returns-clause-sections : goal.returns-clause-sections
returns-clause-sections g c = (c.into_parts-service.result.service.low, (c.into_parts-service.ensures.sections).between)

pub returns-clause-closed : goal.returns-clause-closed
returns-clause-closed g c =
    let k = c.into_parts-service.ensures.serves in
    let s = c.into_parts-service.result.service in
    let server = s.server in
    let close = c.close.ensures in
    let items : c.push_reserved.new.self.items ≡ server ∷ [] = c.push_reserved.ensures.items ∙ ap (λ (xs : List (Sitting Op Answer)). xs ++ server ∷ []) c.into_parts-service.ensures.room.no_servers in
    let free : server.view.jobs ≡ [] = close.free 0 server (ap (λ (xs : List (Sitting Op Answer)). get_elem? xs 0) items) in
    let callers : lanes_of c.self.inside.tags ≡ g.J.Naming.callers = ap lanes_of c.self.invariant ∙ k.lanes_are in
    let own = own_of g.J.Naming.table g.J.Naming.sizes.block_size g.J.Naming.callers g.J.Naming.allowed g.J.Naming.section server.view.given c.args.passes.items c.seats_of-lanes.result.items c.close.result.items server
    c.seats_of-lanes.ensures refl (close.words ∙ callers) c.requires.all c.requires.order close.last
    (subst (AllGiven c.seats_of-lanes.result.items) items close.got) (subst (AnsweredOnce c.close.result.items) items close.once) (k.kept).once (k.kept).numbers in
    subst (λ calls. IsClosed g.D.Disk.content g.D.Disk.moment g.D.Disk.left_since g.D.Disk.faults g.J.Naming.sizes g.J.Naming.callers g.J.Naming.begins c.args.passes.items s.core s.journal.items calls) (k.kept).entries
    (is_closed g.D.Disk.stated g.D.Disk.content g.D.Disk.moment g.D.Disk.left_since g.D.Disk.faults g.met.D.Disk.shaped g.met.D.Disk.only_now g.met.D.Disk.cuts_shaped
    g.J.Naming.sizes g.J.Naming.callers g.J.Naming.allowed g.J.Naming.table g.J.Naming.begins s k free c.args.passes.items own)
