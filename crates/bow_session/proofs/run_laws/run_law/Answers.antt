use Rattle.bow_session.proofs.Cutting.{loaded_cuts, runs_lead, runs_lead_ahead, over_is_complete, over_is_idle}
use Rattle.bow_session.proofs.run_laws.run_law.Goals as goal

pub returns-clause-loaded : goal.returns-clause-loaded
returns-clause-loaded g c = loaded_cuts g.D.Disk.stated g.D.Disk.content g.D.Disk.moment g.D.Disk.left_since g.D.Disk.faults g.met.D.Disk.shaped g.met.D.Disk.only_now

pub returns-clause-leads : goal.returns-clause-leads
returns-clause-leads g c = runs_lead g.D.Disk.stated g.D.Disk.content g.D.Disk.moment g.D.Disk.left_since g.D.Disk.faults g.met.D.Disk.shaped g.met.D.Disk.only_now

pub returns-clause-ahead : goal.returns-clause-ahead
returns-clause-ahead g c = runs_lead_ahead g.D.Disk.stated g.D.Disk.content g.D.Disk.moment g.D.Disk.left_since g.D.Disk.faults g.met.D.Disk.shaped g.met.D.Disk.only_now g.met.D.Disk.cuts_shaped

pub returns-clause-complete : goal.returns-clause-complete
returns-clause-complete g c = over_is_complete g.D.Disk.stated g.D.Disk.content g.D.Disk.faults

pub returns-clause-idle : goal.returns-clause-idle
returns-clause-idle g c = over_is_idle g.D.Disk.stated g.D.Disk.content g.D.Disk.faults
