use Rattle.bow_past.proofs.Turning.{turns_keep_agreement, turns_keep_standing}
use Rattle.bow_past.proofs.laws.agreement_law.Goals as goal

pub returns-clause-agreement : goal.returns-clause-agreement
returns-clause-agreement g c = turns_keep_agreement g.D.Disk.stated g.D.Disk.content g.D.Disk.moment g.D.Disk.left_since g.D.Disk.faults g.met.D.Disk.shaped

pub returns-clause-standing : goal.returns-clause-standing
returns-clause-standing g c = turns_keep_standing g.D.Disk.stated g.D.Disk.content g.D.Disk.moment g.D.Disk.left_since g.D.Disk.faults g.met.D.Disk.shaped
