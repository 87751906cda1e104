use Rattle.std.proofs.Common.{get_or, inl, inr}
use Rattle.bow_pair.specs.Deciding.{StillHolds, WasFlushed}
use Rattle.bow_pair.proofs.Decisions.{still_itself}
use Rattle.bow_pair.proofs.Loops.{all_done, begins, kept_then, more, next, stops}
use Rattle.bow_pair.proofs.deciding.flush_each.Goals as goal

pub loop-device-init : goal.loop-device-init
loop-device-init g c =
    let D = g.D.Disk in
    begins (StillHolds D.stated D.content D.faults) (WasFlushed D.content) c.args.cores.now (λ k v at. still_itself D.stated D.content D.faults (λ d t is geo size. g.met.D.Disk.shaped d t is geo size) v (c.requires.rests k v at))

pub flush-done-requires : goal.flush-done-requires
flush-done-requires g c =
    let D = g.D.Disk in
    c.requires.rests c.loop-device.device (get_or c.loop-device.cores c.loop-device.device c.index-cores-device.result)
    (next (StillHolds D.stated D.content D.faults) (WasFlushed D.content) c.args.cores.now c.loop-device.cores c.loop-device.device c.index-cores-device.result c.loop-device.invariant c.loop-device.auto.cores c.loop-device-test.true)

pub returns-then-not-done-clause-kept : goal.returns-then-not-done-clause-kept
returns-then-not-done-clause-kept g c =
    let D = g.D.Disk in
    let E = c.flush-done.ensures in
    kept_then (StillHolds D.stated D.content D.faults) (WasFlushed D.content) c.args.cores.now c.loop-device.cores c.loop-device.device c.index-cores-device.result c.flush-done.new.core c.loop-device.invariant c.loop-device.auto.cores c.loop-device-test.true (record { rests = E.rests; geometry = E.geometry; later = E.faults; stands = λ f s l. inl (E.stands c.if-not-done.true f s) })

pub returns-then-not-done-clause-failed : goal.returns-then-not-done-clause-failed
returns-then-not-done-clause-failed g c =
    let D = g.D.Disk in
    let E = c.flush-done.ensures in
    stops D.faults (StillHolds D.stated D.content D.faults) (WasFlushed D.content) c.args.cores.now c.loop-device.cores c.loop-device.device c.index-cores-device.result c.flush-done.new.core c.loop-device.invariant c.loop-device.auto.cores c.loop-device-test.true (record { rests = E.rests; geometry = E.geometry; later = E.faults; stands = λ f s l. inl (E.stands c.if-not-done.true f s) }) (E.failed c.if-not-done.true)

pub loop-device-preserved : goal.loop-device-preserved
loop-device-preserved g c =
    let D = g.D.Disk in
    let E = c.flush-done.ensures in
    more (StillHolds D.stated D.content D.faults) (WasFlushed D.content) c.args.cores.now c.loop-device.cores c.loop-device.device c.index-cores-device.result c.flush-done.new.core c.loop-device.invariant c.loop-device.auto.cores c.loop-device-test.true (record { rests = E.rests; geometry = E.geometry; later = E.faults; stands = λ f s l. inr (E.flushed c.if-not-done.false f s l).stands }) (E.flushed c.if-not-done.false)

pub returns-clause-flushed : goal.returns-clause-flushed
returns-clause-flushed g c none =
    let D = g.D.Disk in
    all_done (StillHolds D.stated D.content D.faults) (WasFlushed D.content) c.args.cores.now c.loop-device.cores c.loop-device.device c.loop-device.invariant c.loop-device-test.false
