use Rattle.bow_past.proofs.Clauses.{fault_cause, image, memory, never_strange, reach, stands_on, still, still_agrees}
use Rattle.bow_past.proofs.readers.Past.step.Goals as goal

pub returns-clause-reach : goal.returns-clause-reach
returns-clause-reach g c = reach g.D.Disk.stated g.D.Disk.content g.D.Disk.moment g.D.Disk.left_since g.D.Disk.faults c.args.self.now c.args.session.now c.go_on.result c.go_on.new.self c.go_on.new.session c.requires.agrees c.go_on.ensures.step

pub returns-clause-told : goal.returns-clause-told
returns-clause-told g c = never_strange g.D.Disk.stated g.D.Disk.content g.D.Disk.moment g.D.Disk.left_since g.D.Disk.faults c.args.self.now c.args.session.now c.go_on.result c.go_on.new.self c.go_on.new.session c.requires.agrees c.go_on.ensures.step

pub returns-clause-cause : goal.returns-clause-cause
returns-clause-cause g c = fault_cause g.D.Disk.stated g.D.Disk.content g.D.Disk.moment g.D.Disk.left_since g.D.Disk.faults c.args.self.now c.args.session.now c.go_on.result c.go_on.new.self c.go_on.new.session c.go_on.ensures.step

pub returns-clause-still : goal.returns-clause-still
returns-clause-still g c = still g.D.Disk.stated g.D.Disk.content g.D.Disk.moment g.D.Disk.left_since g.D.Disk.faults c.args.self.now c.args.session.now c.go_on.result c.go_on.new.self c.go_on.new.session c.go_on.ensures.step

pub returns-clause-image : goal.returns-clause-image
returns-clause-image g c = image g.D.Disk.stated g.D.Disk.content g.D.Disk.moment g.D.Disk.left_since g.D.Disk.faults c.args.self.now c.args.session.now c.go_on.result c.go_on.new.self c.go_on.new.session c.go_on.ensures.step

pub returns-clause-stands : goal.returns-clause-stands
returns-clause-stands g c = stands_on g.D.Disk.stated g.D.Disk.content g.D.Disk.moment g.D.Disk.left_since g.D.Disk.faults c.args.self.now c.args.session.now c.go_on.result c.go_on.new.self c.go_on.new.session c.go_on.ensures.step

pub returns-clause-memory : goal.returns-clause-memory
returns-clause-memory g c = memory g.D.Disk.stated g.D.Disk.content g.D.Disk.moment g.D.Disk.left_since g.D.Disk.faults c.args.self.now c.args.session.now c.go_on.result c.go_on.new.self c.go_on.new.session c.go_on.ensures.step

pub returns-clause-agrees : goal.returns-clause-agrees
returns-clause-agrees g c = still_agrees g.D.Disk.stated g.D.Disk.content g.D.Disk.moment g.D.Disk.left_since g.D.Disk.faults c.args.self.now c.args.session.now c.go_on.result c.go_on.new.self c.go_on.new.session c.requires.agrees c.go_on.ensures.step
