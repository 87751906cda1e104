use Rattle.bow_history.proofs.DiskCuts.{loaded_has_cuts, turns_have_cuts, cuts_of_disk, cuts_of_disk_are_ahead, moments_shift}
use Rattle.bow_history.proofs.laws.disk_cuts_law.Goals as goal

pub returns-clause-loaded : goal.returns-clause-loaded
returns-clause-loaded g c = loaded_has_cuts g.D.Disk.content g.D.Disk.moment g.D.Disk.left_since g.met.D.Disk.only_now

pub returns-clause-turns : goal.returns-clause-turns
returns-clause-turns g c = turns_have_cuts g.D.Disk.content g.D.Disk.moment g.D.Disk.left_since g.met.D.Disk.only_now

pub returns-clause-cuts : goal.returns-clause-cuts
returns-clause-cuts g c = cuts_of_disk g.D.Disk.content g.D.Disk.moment g.D.Disk.left_since g.met.D.Disk.only_now

pub returns-clause-moments : goal.returns-clause-moments
returns-clause-moments g c = moments_shift

pub returns-clause-ahead : goal.returns-clause-ahead
returns-clause-ahead g c = cuts_of_disk_are_ahead g.D.Disk.content g.D.Disk.moment g.D.Disk.left_since g.met.D.Disk.only_now g.D.Disk.stated g.met.D.Disk.shaped g.met.D.Disk.cuts_shaped
