use Rattle.bow_tool.proofs.plays.disk_law.Goals as goal

pub returns : goal.returns
returns g c = record { shaped = g.met.D.Disk.shaped; cuts_shaped = g.met.D.Disk.cuts_shaped; counts_now = g.met.D.Disk.counts_now; only_now = g.met.D.Disk.only_now }
