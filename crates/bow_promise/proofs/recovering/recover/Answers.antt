use Rattle.bow_promise.proofs.Recovered.{recovers, restoration_recovers}
use Rattle.bow_promise.proofs.recovering.recover.Goals as goal

pub returns-clause-recovered : goal.returns-clause-recovered
returns-clause-recovered g c content is p n first k sizes left =
    let D = g.D.Disk in
    let law = g.met.D.Disk in
    let done = c.restore.ensures in
    restoration_recovers D.stated D.content D.moment D.left_since law.shaped law.cuts_shaped law.counts_now law.only_now c.args.geometry c.args.disk.now c.restore.new.disk content is c.requires.sizes done.sizes p n first k sizes left c.restore.result
    (done.plain content is) done.back (done.cuts content is)

pub returns-clause-recovers : goal.returns-clause-recovers
returns-clause-recovers g c content is p n first k sizes left =
    let D = g.D.Disk in
    let law = g.met.D.Disk in
    let done = c.restore.ensures in
    recovers D.stated D.content D.moment D.left_since law.shaped law.cuts_shaped law.counts_now law.only_now c.args.geometry c.args.disk.now c.restore.new.disk content is c.requires.sizes done.sizes p n first k sizes left c.restore.result
    (done.plain content is) done.back
