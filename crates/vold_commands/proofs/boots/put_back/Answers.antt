use Rattle.std.proofs.Common.{⊎_elim, inl, inr, arith}
use Rattle.bow_disk.specs.Disk.{Content}
use Rattle.bow_disk.specs.Shapes.{now_image}
use Rattle.bow_restore.proofs.Told.{Fits}
use Rattle.bow_restore.proofs.Backs.{now_is_crash}
use Rattle.vold_commands.proofs.Backing.{backs, in_place}
use Rattle.vold_commands.proofs.boots.put_back.Goals as goal

pub returns-clause-back : goal.returns-clause-back
returns-clause-back g c k is =
    let D = g.D.Disk in
    let geo = c.args.geometry in
    let old = c.args.disk.now in
    let new = c.restore-answer.new.disk in
    let r = c.restore-answer.ensures in
    backs geo D.content new k c.requires.valid c.restore-answer.result (D.faults old) (D.faults new) c.told.result c.told.ensures r.cause (r.head k is) (r.each_sound k is) (r.each_fault k is) (r.left k is) (r.untouched k is) (r.plain k is)
    (λ (m : Content) told. now_image geo.block_size geo.blocks m (g.met.D.Disk.shaped new m told geo r.sizes))
    (λ (m : Content) told.
    let fit : Fits geo m = g.met.D.Disk.shaped new m told geo r.sizes in
    let l = r.cuts k is in
    let later = l.time in
    ⊎_elim (λ past. inl (g.met.D.Disk.only_now old k is (D.moment old) m.now (omega arith) past)) (λ on. inr on)
    (l.only (D.moment old) m.now (omega arith) (g.met.D.Disk.counts_now new m told (D.moment old) m.now (omega (arith, later)) (now_is_crash geo m fit))))

pub returns-clause-in_place : goal.returns-clause-in_place
returns-clause-in_place g c k is used saved plain all =
    let D = g.D.Disk in
    let r = c.restore-answer.ensures in
    in_place c.args.geometry D.content c.restore-answer.new.disk used saved c.restore-answer.result (D.faults c.args.disk.now) (D.faults c.restore-answer.new.disk) c.told.result c.told.ensures r.cause (r.back k is used saved plain all)
