use Rattle.std.proofs.Common.{arith, rules, ◌∙◌, ap, sym, subst, refl}
use Rattle.bow_tags.specs.Seats.{after_take}
use Rattle.bow_receipts.specs.Asking.{FitsSize}
use Rattle.bow_receipts.specs.declared.hands.Hand.{Hand}
use Rattle.bow_receipts.proofs.Admitting.{place, serials, serves_admitted, serves_looked, whole}
use Rattle.bow_receipts.proofs.Sectioning.{sectioned_admitted}
use Rattle.bow_receipts.proofs.service.Service.admit.Goals as goal

pub returns-in_default : goal.returns-in_default
returns-in_default g c = record {
  serves =
      let lost = c.in_default.ensures.lost in
      let same = c.in_default.ensures.same in
      serves_looked g.D.Disk.stated g.D.Disk.content g.D.Disk.moment g.D.Disk.left_since g.D.Disk.faults g.met.D.Disk.shaped g.met.D.Disk.only_now
      g.J.Naming.sizes g.J.Naming.callers g.J.Naming.allowed g.J.Naming.table g.J.Naming.begins c.args.self.now c.requires.serves
      c.args.lane c.in_default.field-0.found _ refl lost.1 same.0 refl refl refl;
  sections = c.requires.sections;
}

pub admit-ticket-requires-clause-place : goal.admit-ticket-requires-clause-place
admit-ticket-requires-clause-place g c =
    let ok = c.in-Ok.ensures.ok in
    let op = c.ask.inside.op in
    place g.D.Disk.stated g.D.Disk.content g.D.Disk.moment g.D.Disk.left_since g.D.Disk.faults g.met.D.Disk.shaped g.met.D.Disk.only_now
    g.J.Naming.sizes g.J.Naming.callers g.J.Naming.allowed g.J.Naming.table g.J.Naming.begins c.args.self.now c.requires.serves
    c.args.lane c.args.number c.requires.lane c.requires.may op (subst (FitsSize c.args.self.now.server.view.size) (sym c.ask.view_is) ok.2) ok.3 ok.4

pub admit-ticket-requires-clause-number : goal.admit-ticket-requires-clause-number
admit-ticket-requires-clause-number g c =
    let ok = c.in-Ok.ensures.ok in
    let op = c.ask.inside.op in
    serials g.D.Disk.stated g.D.Disk.content g.D.Disk.moment g.D.Disk.left_since g.D.Disk.faults g.met.D.Disk.shaped g.met.D.Disk.only_now
    g.J.Naming.sizes g.J.Naming.callers g.J.Naming.allowed g.J.Naming.table g.J.Naming.begins c.args.self.now c.requires.serves
    c.args.lane c.args.number c.requires.lane c.requires.may op (subst (FitsSize c.args.self.now.server.view.size) (sym c.ask.view_is) ok.2) ok.3 ok.4

pub admit-ticket-requires-clause-whole : goal.admit-ticket-requires-clause-whole
admit-ticket-requires-clause-whole g c =
    let ok = c.in-Ok.ensures.ok in
    let op = c.ask.inside.op in
    whole g.D.Disk.stated g.D.Disk.content g.D.Disk.moment g.D.Disk.left_since g.D.Disk.faults g.met.D.Disk.shaped g.met.D.Disk.only_now
    g.J.Naming.sizes g.J.Naming.callers g.J.Naming.allowed g.J.Naming.table g.J.Naming.begins c.args.self.now c.requires.serves
    c.args.lane c.args.number c.requires.lane c.requires.may op (subst (FitsSize c.args.self.now.server.view.size) (sym c.ask.view_is) ok.2) ok.3 ok.4

pub returns : goal.returns
returns g c = record {
  serves =
      let ok = c.in-Ok.ensures.ok in
      let same = c.in-Ok.ensures.same in
      let op = c.ask.inside.op in
      let hand : Hand = record { ticket = c.admit-ticket.result; job = c.in-Ok.job; first = c.first_block-first.result; copies = c.ask.inside.copies } in
      serves_admitted g.D.Disk.stated g.D.Disk.content g.D.Disk.moment g.D.Disk.left_since g.D.Disk.faults g.met.D.Disk.shaped g.met.D.Disk.only_now
      g.J.Naming.sizes g.J.Naming.callers g.J.Naming.allowed g.J.Naming.table g.J.Naming.begins c.args.self.now c.requires.serves
      c.args.lane c.args.number c.requires.lane c.requires.may op (subst (FitsSize c.args.self.now.server.view.size) (sym c.ask.view_is) ok.2) ok.3 ok.4
      c.admit-ticket.result c.admit-ticket.ensures.serial hand refl ok.0 ok.1 c.first_block-first.ensures c.ask.invariant _
      (ok.5 ∙ ap (after_take c.args.self.now.server.view c.args.lane c.args.number) (sym c.ask.view_is)) same.0 c.admit-ticket.ensures.waits refl refl refl;
  sections =
      let ok = c.in-Ok.ensures.ok in
      let hand : Hand = record { ticket = c.admit-ticket.result; job = c.in-Ok.job; first = c.first_block-first.result; copies = c.ask.inside.copies } in
      let s = c.args.self.now in
      let k = c.requires.serves in
      sectioned_admitted g.J.Naming.section s.hands.items s.journal.items s.low c.args.section c.args.lane hand c.requires.sections (c.may_begin.ensures (search rules))
      (let i = c.requires.lane in let e = (k.kept).seats in omega (arith, i, e))
      (ap (λ l. g.J.Naming.section l c.in-Ok.job.number) ok.0 ∙ ap (g.J.Naming.section c.args.lane) ok.1 ∙ sym c.requires.section);
}
