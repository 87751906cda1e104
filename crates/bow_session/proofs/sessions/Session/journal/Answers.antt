use Rattle.bow_session.proofs.Leading.{leads_ahead, leads_from}
use Rattle.bow_session.proofs.Anew.{leads_on}
use Rattle.bow_session.proofs.sessions.Session.journal.Goals as goal

pub returns-clause-leads : goal.returns-clause-leads
returns-clause-leads g c first f k at =
    leads_from g.D.Disk.stated g.D.Disk.content g.D.Disk.moment g.D.Disk.left_since g.D.Disk.faults g.met.D.Disk.shaped g.met.D.Disk.only_now first f c.args.self.now k at

pub returns-clause-ahead : goal.returns-clause-ahead
returns-clause-ahead g c first f k at led low =
    leads_ahead g.D.Disk.stated g.D.Disk.content g.D.Disk.moment g.D.Disk.left_since g.D.Disk.faults g.met.D.Disk.shaped g.met.D.Disk.only_now g.met.D.Disk.cuts_shaped first f c.args.self.now k at led low

pub returns-clause-unfailed : goal.returns-clause-unfailed
returns-clause-unfailed g c first f k at led none =
    leads_on g.D.Disk.stated g.D.Disk.content g.D.Disk.moment g.D.Disk.left_since g.D.Disk.faults first c.args.self.now k g.met.D.Disk.shaped g.met.D.Disk.only_now g.met.D.Disk.cuts_shaped f at led none
