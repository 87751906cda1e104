use Rattle.std.proofs.Common.{get_or}
use Rattle.bow_pair.specs.Deciding.{StillForward, WasCommitted}
use Rattle.bow_pair.proofs.Decisions.{forward_itself}
use Rattle.bow_pair.proofs.Loops.{all_done, begins, kept_then, more, next, stops}
use Rattle.bow_pair.proofs.deciding.commit_each.Goals as goal

pub loop-device-init : goal.loop-device-init
loop-device-init g c =
    let D = g.D.Disk in
    begins (StillForward D.stated D.content D.faults) (WasCommitted D.content) c.args.cores.now (λ k v at. forward_itself D.stated D.content D.faults (λ d t is geo size. g.met.D.Disk.shaped d t is geo size) v (c.requires.rests k v at))

pub commit-done-requires : goal.commit-done-requires
commit-done-requires g c =
    let D = g.D.Disk in
    c.requires.rests c.loop-device.device (get_or c.loop-device.cores c.loop-device.device c.index-cores-device.result)
    (next (StillForward D.stated D.content D.faults) (WasCommitted D.content) c.args.cores.now c.loop-device.cores c.loop-device.device c.index-cores-device.result c.loop-device.invariant c.loop-device.auto.cores c.loop-device-test.true)

pub returns-then-not-done-clause-kept : goal.returns-then-not-done-clause-kept
returns-then-not-done-clause-kept g c =
    let D = g.D.Disk in
    let E = c.commit-done.ensures in
    kept_then (StillForward D.stated D.content D.faults) (WasCommitted D.content) c.args.cores.now c.loop-device.cores c.loop-device.device c.index-cores-device.result c.commit-done.new.core c.loop-device.invariant c.loop-device.auto.cores c.loop-device-test.true (record { opened = E.opened; geometry = E.geometry; later = E.faults; images = λ f k. E.images f k })

pub returns-then-not-done-clause-failed : goal.returns-then-not-done-clause-failed
returns-then-not-done-clause-failed g c =
    let D = g.D.Disk in
    let E = c.commit-done.ensures in
    stops D.faults (StillForward D.stated D.content D.faults) (WasCommitted D.content) c.args.cores.now c.loop-device.cores c.loop-device.device c.index-cores-device.result c.commit-done.new.core c.loop-device.invariant c.loop-device.auto.cores c.loop-device-test.true (record { opened = E.opened; geometry = E.geometry; later = E.faults; images = λ f k. E.images f k }) (E.failed c.if-not-done.true)

pub loop-device-preserved : goal.loop-device-preserved
loop-device-preserved g c =
    let D = g.D.Disk in
    let E = c.commit-done.ensures in
    more (StillForward D.stated D.content D.faults) (WasCommitted D.content) c.args.cores.now c.loop-device.cores c.loop-device.device c.index-cores-device.result c.commit-done.new.core c.loop-device.invariant c.loop-device.auto.cores c.loop-device-test.true (record { opened = E.opened; geometry = E.geometry; later = E.faults; images = λ f k. E.images f k }) (E.done c.if-not-done.false)

pub returns-clause-committed : goal.returns-clause-committed
returns-clause-committed g c none =
    let D = g.D.Disk in
    all_done (StillForward D.stated D.content D.faults) (WasCommitted D.content) c.args.cores.now c.loop-device.cores c.loop-device.device c.loop-device.invariant c.loop-device-test.false
