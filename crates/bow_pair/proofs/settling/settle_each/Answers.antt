use Rattle.std.proofs.Common.{◌+◌, set, get_or, ◌∙◌, subst, arith}
use Rattle.std.proofs.lemmas.Option.{slice_get-get_or}
use Rattle.bow_units.specs.declared.sizes.Geometry.{Geometry}
use Rattle.bow_pair.proofs.Stages.{Kept, SoFar, Step, kept_put, or_false, or_true, so_far_first, so_far_logged, so_far_more, so_far_settled, so_far_stops, step_of}
use Rattle.bow_pair.proofs.settling.settle_each.Given.{Over}
use Rattle.bow_pair.proofs.settling.settle_each.Goals as goal
use Rattle.bow_pair.proofs.settling.settle_each.Goals.{After-settle, then-logged, else-logged}

-- sizes of none
abbrev none : Geometry
none = record { block_size = 0; blocks = 0 }

pub loop-device-init : goal.loop-device-init
loop-device-init g c = so_far_first g.D.Disk.stated g.D.Disk.content g.D.Disk.faults c.args.committed c.args.geometries.now c.args.disks.now c.requires.sizes

pub settle-requires-clause-valid : goal.settle-requires-clause-valid
settle-requires-clause-valid g c =
    let n = c.loop-device.device in
    c.requires.valid n (get_or c.args.geometries.now n none) (slice_get-get_or c.args.geometries.now n none (let test = c.loop-device-test.true in omega (arith, test, c.requires.many)))

pub settle-requires-clause-sizes : goal.settle-requires-clause-sizes
settle-requires-clause-sizes g c =
    let n = c.loop-device.device in
    let now = c.loop-device.disks in
    let x = c.index-disks-device.result in
    c.loop-device.invariant.kept.states n (get_or c.args.geometries.now n none) (get_or now n x) (slice_get-get_or c.args.geometries.now n none (let test = c.loop-device-test.true in omega (arith, test, c.requires.many)))
    (slice_get-get_or now n x (let test = c.loop-device-test.true in let long = c.loop-device.auto.disks in omega (arith, test, long)))

module _ (g : Over) where
  step : (c : After-settle g) → Step g.D.Disk.stated g.D.Disk.content g.D.Disk.faults c.args.committed c.args.geometries.now c.args.disks.now c.loop-device.disks c.loop-device.device (get_or c.args.geometries.now c.loop-device.device none) (get_or c.loop-device.disks c.loop-device.device c.index-disks-device.result) c.settle.new.disk
  step c =
      step_of g.D.Disk.stated g.D.Disk.content g.D.Disk.faults c.args.committed c.args.geometries.now c.args.disks.now c.loop-device.disks c.loop-device.device c.settle.new.disk c.index-disks-device.result none c.loop-device.logged c.loop-device.invariant c.loop-device.auto.disks c.requires.many c.loop-device-test.true
      c.settle.ensures.left c.settle.ensures.faults c.settle.ensures.sizes

pub loop-device-preserved : goal.loop-device-preserved
loop-device-preserved g c =
    let s = step g (goal.at.loop-device-preserved g c).After-settle in
    let D = g.D.Disk in
    let now = c.loop-device.disks in
    let n = c.loop-device.device in
    let e = c.settle.new.disk in
    let more = so_far_more D.stated D.content D.faults c.args.committed c.args.geometries.now c.args.disks.now now n (get_or c.args.geometries.now n none) (get_or now n c.index-disks-device.result) e c.loop-device.logged c.in-Ok.one c.loop-device.invariant s c.in-Ok.ensures.settled c.in-Ok.ensures.logged in
    elim c.if-logged.branch [
      | then-logged w ↦ subst (SoFar D.stated D.content D.faults c.args.committed c.args.geometries.now c.args.disks.now (set now n e) (n + 1)) (or_true c.loop-device.logged c.in-Ok.one c.if-logged.logged w.if-logged.true (w.logged-is ∙ w.if-logged.true)) more
      | else-logged w ↦ subst (SoFar D.stated D.content D.faults c.args.committed c.args.geometries.now c.args.disks.now (set now n e) (n + 1)) (or_false c.loop-device.logged c.in-Ok.one c.if-logged.logged w.if-logged.false w.logged-is) more
    ]

pub returns-in-Err-clause-stops : goal.returns-in-Err-clause-stops
returns-in-Err-clause-stops g c =
    let s = step g (goal.at.returns-in-Err-clause-stops g c).After-settle in
    let D = g.D.Disk in
    so_far_stops D.stated D.content D.faults c.args.committed c.args.geometries.now c.args.disks.now c.loop-device.disks c.loop-device.device (get_or c.args.geometries.now c.loop-device.device none) (get_or c.loop-device.disks c.loop-device.device c.index-disks-device.result) c.settle.new.disk c.loop-device.logged c.in-Err.fault c.loop-device.invariant s c.in-Err.ensures.refused

module _ (g : Over) where
  kept_after : (c : After-settle g) → Kept g.D.Disk.stated g.D.Disk.content g.D.Disk.faults c.args.committed c.args.geometries.now c.args.disks.now (set c.loop-device.disks c.loop-device.device c.settle.new.disk)
  kept_after c =
      let D = g.D.Disk in
      kept_put D.stated D.content D.faults c.args.committed c.args.geometries.now c.args.disks.now c.loop-device.disks c.loop-device.device (get_or c.args.geometries.now c.loop-device.device none) (get_or c.loop-device.disks c.loop-device.device c.index-disks-device.result) c.settle.new.disk c.loop-device.invariant.kept (step g c)

pub returns-in-Err-clause-left : goal.returns-in-Err-clause-left
returns-in-Err-clause-left g c = (kept_after g (goal.at.returns-in-Err-clause-left g c).After-settle).left

pub returns-in-Err-clause-sizes : goal.returns-in-Err-clause-sizes
returns-in-Err-clause-sizes g c = (kept_after g (goal.at.returns-in-Err-clause-sizes g c).After-settle).states

pub returns-in-Err-clause-faults : goal.returns-in-Err-clause-faults
returns-in-Err-clause-faults g c = (kept_after g (goal.at.returns-in-Err-clause-faults g c).After-settle).later

pub returns-clause-settled : goal.returns-clause-settled
returns-clause-settled g c =
    let D = g.D.Disk in
    so_far_settled D.stated D.content D.faults c.args.committed c.args.geometries.now c.args.disks.now c.loop-device.disks c.loop-device.device c.loop-device.logged c.loop-device.invariant (let test = c.loop-device-test.false in let far = c.loop-device.auto.device-end in omega (arith, test, far))

pub returns-clause-logged : goal.returns-clause-logged
returns-clause-logged g c =
    let D = g.D.Disk in
    so_far_logged D.stated D.content D.faults c.args.committed c.args.geometries.now c.args.disks.now c.loop-device.disks c.loop-device.device c.loop-device.logged c.loop-device.invariant (let test = c.loop-device-test.false in let far = c.loop-device.auto.device-end in omega (arith, test, far))

pub returns-clause-left : goal.returns-clause-left
returns-clause-left g c = c.loop-device.invariant.kept.left

pub returns-clause-sizes : goal.returns-clause-sizes
returns-clause-sizes g c = c.loop-device.invariant.kept.states

pub returns-clause-faults : goal.returns-clause-faults
returns-clause-faults g c = c.loop-device.invariant.kept.later
