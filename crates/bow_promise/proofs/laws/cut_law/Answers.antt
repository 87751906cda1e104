use Rattle.bow_promise.proofs.Played.{plays_are_promised}
use Rattle.bow_promise.proofs.laws.cut_law.Goals as goal

pub returns : goal.returns
returns g c = plays_are_promised g.D.Disk.stated g.D.Disk.content g.D.Disk.moment g.D.Disk.left_since g.met.D.Disk.cuts_shaped g.met.D.Disk.counts_now
