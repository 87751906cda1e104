use Rattle.bow_receipts.proofs.Serving.{told_has_room}
use Rattle.bow_receipts.proofs.Noting.{serves_after}
use Rattle.bow_receipts.proofs.Sectioning.{sectioned_noted}
use Rattle.bow_receipts.proofs.service.Service.step.Goals as goal

pub note-requires-clause-told : goal.note-requires-clause-told
note-requires-clause-told g c =
    told_has_room g.D.Disk.stated g.D.Disk.content g.D.Disk.moment g.D.Disk.left_since g.D.Disk.faults g.J.Naming.sizes g.J.Naming.callers g.J.Naming.allowed g.J.Naming.table g.J.Naming.begins
    c.args.self.now c.requires.serves c.next_turn-turn.result c.step-told.result c.step-told.new.self c.step-told.ensures.step c.next_turn-turn.ensures

pub returns : goal.returns
returns g c = record {
  serves = serves_after g.D.Disk.stated g.D.Disk.content g.D.Disk.moment g.D.Disk.left_since g.D.Disk.faults g.met.D.Disk.shaped g.met.D.Disk.only_now
      g.J.Naming.sizes g.J.Naming.callers g.J.Naming.allowed g.J.Naming.table g.J.Naming.begins
      c.args.self.now c.requires.serves c.next_turn-turn.result c.step-told.result c.step-told.new.self c.step-told.ensures.step c.next_turn-turn.ensures
      c.note.new.self c.note.ensures;
  sections = sectioned_noted g.J.Naming.section _ c.note.new.self c.requires.sections c.step-told.result (note-requires-clause-told g c.before) c.note.ensures;
}
