use Rattle.std.proofs.Common.{◌≡◌, Some, ⊎_elim, inl, inr}
use Rattle.bow_disk.specs.Disk.{Content}
use Rattle.bow_disk.specs.Shapes.{crash_image, now_image}
use Rattle.bow_restore.proofs.Told.{Fits}
use Rattle.bow_restore.proofs.Backs.{now_is_crash}
use Rattle.bow_restore.specs.Rewinds.{PassesOn}
use Rattle.vold_commands.specs.Boot.{Backs}
use Rattle.vold_commands.proofs.Backing.{backs}
use Rattle.bow_pair.proofs.Devices.{left_after, restored_logged, restored_refused, restored_settled, vold_told, vold_told_is}
use Rattle.bow_pair.proofs.settling.put_back.Given.{Over}
use Rattle.bow_pair.proofs.settling.put_back.Goals as goal
use Rattle.bow_pair.proofs.settling.put_back.Goals.{After-told_restored}

module _ (g : Over) where
  back : (c : After-told_restored g) (k : Content) → g.D.Disk.content c.args.disk.now ≡ Some k
      → Backs c.args.geometry g.D.Disk.content c.restore-answer.new.disk k (vold_told c.restore-answer.result)
  back c k is =
      let D = g.D.Disk in
      let geo = c.args.geometry in
      let old = c.args.disk.now in
      let new = c.restore-answer.new.disk in
      let r = c.restore-answer.ensures in
      backs geo D.content new k c.requires.valid c.restore-answer.result (D.faults old) (D.faults new) (vold_told c.restore-answer.result) (vold_told_is c.restore-answer.result) r.cause (r.head k is) (r.each_sound k is) (r.each_fault k is) (r.left k is) (r.untouched k is) (r.plain k is)
      (λ (m : Content) told. now_image geo.block_size geo.blocks m (g.met.D.Disk.shaped new m told geo r.sizes))
      (λ (m : Content) told.
      let fit : Fits geo m = g.met.D.Disk.shaped new m told geo r.sizes in
      left_after D.content old new D.moment D.left_since (PassesOn geo k.now) k (λ d at t image le crash. g.met.D.Disk.counts_now new d at t image le crash) (λ t image le left. g.met.D.Disk.only_now old k is t image le left) (r.cuts k is) m.now (m, told, now_is_crash geo m fit))

pub returns-clause-settled : goal.returns-clause-settled
returns-clause-settled g c =
    restored_settled g.D.Disk.content c.args.disk.now c.restore-answer.new.disk c.args.geometry c.args.device g.D.Disk.faults c.restore-answer.result c.told_restored.result c.told_restored.ensures c.restore-answer.ensures.cause (λ k is. back g c k is)

pub returns-clause-logged : goal.returns-clause-logged
returns-clause-logged g c =
    restored_logged g.D.Disk.content c.args.disk.now c.restore-answer.new.disk c.args.geometry c.args.device g.D.Disk.faults c.restore-answer.result c.told_restored.result c.told_restored.ensures c.restore-answer.ensures.cause (λ k is. back g c k is)

pub returns-clause-refused : goal.returns-clause-refused
returns-clause-refused g c =
    restored_refused g.D.Disk.content c.args.disk.now c.restore-answer.new.disk c.args.geometry c.args.device g.D.Disk.faults c.restore-answer.result c.told_restored.result c.told_restored.ensures c.restore-answer.ensures.cause (λ k is. back g c k is)

pub returns-clause-left : goal.returns-clause-left
returns-clause-left g c k is image cut =
    let D = g.D.Disk in
    let geo = c.args.geometry in
    let old = c.args.disk.now in
    let new = c.restore-answer.new.disk in
    let r = c.restore-answer.ensures in
    ⊎_elim (λ past. inl past) (λ on. inr (on, crash_image geo.block_size geo.blocks cut.0 image (g.met.D.Disk.shaped new cut.0 cut.1 geo r.sizes) cut.2))
    (left_after D.content old new D.moment D.left_since (PassesOn geo k.now) k (λ d at t img le crash. g.met.D.Disk.counts_now new d at t img le crash) (λ t img le left. g.met.D.Disk.only_now old k is t img le left) (r.cuts k is) image cut)
