use Rattle.std.proofs.Common.{◌≡◌, Some, ⊎_elim, inl, inr, arith}
use Rattle.bow_units.specs.Blocks.{IsBlock}
use Rattle.bow_disk.specs.Disk.{Content, IsImage}
use Rattle.bow_disk.specs.Shapes.{crash_image, now_image}
use Rattle.bow_chain.specs.Contents.{contents_of}
use Rattle.bow_restore.specs.Forwarding.{IsForwardCut}
use Rattle.bow_pair.proofs.Devices.{forwarded_logged, forwarded_refused, forwarded_settled, left_after}
use Rattle.bow_pair.proofs.settling.give_up.Given.{Over}
use Rattle.bow_pair.proofs.settling.give_up.Goals as goal
use Rattle.bow_pair.proofs.settling.give_up.Goals.{After-told_forwarded}

module _ (g : Over) where
  zeroth : (c : After-told_forwarded g) (k : Content) → g.D.Disk.content c.args.disk.now ≡ Some k → IsBlock c.args.geometry.block_size (contents_of k.now 0)
  zeroth c k is =
      let geo = c.args.geometry in
      let whole = now_image geo.block_size geo.blocks k (g.met.D.Disk.shaped c.args.disk.now k is geo c.requires.sizes) in
      let valid = c.requires.valid in
      whole.each 0 (omega (arith, valid.enough))

  after : (c : After-told_forwarded g) (k : Content) → g.D.Disk.content c.forward-answer.new.disk ≡ Some k → IsImage c.args.geometry.block_size c.args.geometry.blocks k.now
  after c k is =
      let geo = c.args.geometry in
      now_image geo.block_size geo.blocks k (g.met.D.Disk.shaped c.forward-answer.new.disk k is geo c.forward-answer.ensures.sizes)

pub returns-clause-settled : goal.returns-clause-settled
returns-clause-settled g c =
    forwarded_settled g.D.Disk.content c.args.disk.now c.forward-answer.new.disk c.args.geometry c.args.device g.D.Disk.faults c.requires.valid (λ k is. zeroth g c k is) (λ k is. after g c k is) c.forward-answer.result c.told_forwarded.result c.told_forwarded.ensures (λ k is. c.forward-answer.ensures.tells k is) (λ k is. c.forward-answer.ensures.left k is)

pub returns-clause-logged : goal.returns-clause-logged
returns-clause-logged g c =
    forwarded_logged g.D.Disk.content c.args.disk.now c.forward-answer.new.disk c.args.geometry c.args.device g.D.Disk.faults c.requires.valid (λ k is. zeroth g c k is) (λ k is. after g c k is) c.forward-answer.result c.told_forwarded.result c.told_forwarded.ensures (λ k is. c.forward-answer.ensures.tells k is)

pub returns-clause-refused : goal.returns-clause-refused
returns-clause-refused g c =
    forwarded_refused g.D.Disk.content c.args.disk.now c.forward-answer.new.disk c.args.geometry c.args.device g.D.Disk.faults c.forward-answer.result c.told_forwarded.result c.told_forwarded.ensures c.forward-answer.ensures.reason (λ k is. c.forward-answer.ensures.tells k is) (λ k is. c.forward-answer.ensures.left k is)

pub returns-clause-left : goal.returns-clause-left
returns-clause-left g c k is image cut =
    let D = g.D.Disk in
    let geo = c.args.geometry in
    let old = c.args.disk.now in
    let new = c.forward-answer.new.disk in
    let r = c.forward-answer.ensures in
    ⊎_elim (λ past. inl past) (λ on. inr (on, crash_image geo.block_size geo.blocks cut.0 image (g.met.D.Disk.shaped new cut.0 cut.1 geo r.sizes) cut.2))
    (left_after D.content old new D.moment D.left_since (IsForwardCut geo k.now) k (λ d at t img le crash. g.met.D.Disk.counts_now new d at t img le crash) (λ t img le left. g.met.D.Disk.only_now old k is t img le left) (r.cuts k is) image cut)
