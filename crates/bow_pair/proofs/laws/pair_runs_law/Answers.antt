use Rattle.bow_pair.proofs.Together.{pairs_end_together, prepared_roll_back, runs_roll_back}
use Rattle.bow_pair.proofs.laws.pair_runs_law.Goals as goal

pub returns-clause-prepared : goal.returns-clause-prepared
returns-clause-prepared g c =
    let D = g.D.Disk in
    prepared_roll_back D.stated D.content D.moment D.left_since D.faults g.met.D.Disk.shaped g.met.D.Disk.only_now g.met.D.Disk.cuts_shaped

pub returns-clause-ran : goal.returns-clause-ran
returns-clause-ran g c =
    let D = g.D.Disk in
    runs_roll_back D.stated D.content D.moment D.left_since D.faults g.met.D.Disk.shaped g.met.D.Disk.only_now g.met.D.Disk.cuts_shaped

pub returns-clause-decided : goal.returns-clause-decided
returns-clause-decided g c =
    let D = g.D.Disk in
    pairs_end_together D.stated D.content D.moment D.left_since D.faults g.met.D.Disk.shaped g.met.D.Disk.only_now g.met.D.Disk.cuts_shaped
