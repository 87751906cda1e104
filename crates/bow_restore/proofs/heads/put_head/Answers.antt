use Rattle.std.proofs.Common.{◌<◌, arith}
use Rattle.bow_disk.specs.Disk.{WriteStep, Flushed}
use Rattle.bow_disk.specs.Moments.{AddsCuts}
use Rattle.bow_restore.specs.Replaying.{IsHeadCut}
use Rattle.bow_restore.proofs.Told.{Fits, head_same_cut, head_given_cut}
use Rattle.bow_disk.proofs.Moments.{goes_told, adds_then, adds_call}
use Rattle.bow_restore.proofs.Moments.{keeps_stated, given}
use Rattle.bow_restore.proofs.heads.put_head.Goals as goal

pub returns-clause-cuts : goal.returns-clause-cuts
returns-clause-cuts g c k is =
    let geo = c.args.geometry in
    let v = c.args.block.now in
    let some : 0 < geo.blocks = omega (arith, c.requires.valid.enough) in
    let stated = keeps_stated geo _ _ c.requires.sizes c.flush.ensures.always in
    let stated_on = keeps_stated geo _ _ stated c.write.ensures.always in
    let m = goes_told g.D.Disk.content Flushed c.args.disk.now c.flush.new.self k is c.in_ok-flush.ensures.step in
    let d = goes_told g.D.Disk.content (WriteStep c.write.result 0 v) c.flush.new.self c.write.new.self m.told m.is c.write.ensures.step in
    let fits : Fits geo k = g.met.D.Disk.shaped c.args.disk.now k is geo c.requires.sizes in
    let fm : Fits geo m.told = g.met.D.Disk.shaped c.flush.new.self m.told m.is geo stated in
    let fd : Fits geo d.told = g.met.D.Disk.shaped c.write.new.self d.told d.is geo stated_on in
    let first : AddsCuts g.D.Disk.moment g.D.Disk.left_since (IsHeadCut geo v k.now) c.args.disk.now c.flush.new.self =
    adds_call g.D.Disk.content g.D.Disk.moment g.D.Disk.left_since (IsHeadCut geo v k.now) c.args.disk.now c.flush.new.self m.told m.is c.flush.ensures.time (λ cut crash. head_same_cut geo v k fits some m.told cut fm m.holds.1 crash) in
    let second : AddsCuts g.D.Disk.moment g.D.Disk.left_since (IsHeadCut geo v k.now) c.flush.new.self c.write.new.self =
    adds_call g.D.Disk.content g.D.Disk.moment g.D.Disk.left_since (IsHeadCut geo v k.now) c.flush.new.self c.write.new.self d.told d.is c.write.ensures.time (λ cut crash. head_given_cut geo v k fits some m.told d.told cut fd m.holds (given c.write.result 0 v m.told d.told d.holds) crash) in
    adds_then g.D.Disk.content g.D.Disk.moment g.D.Disk.left_since (IsHeadCut geo v k.now) c.args.disk.now c.flush.new.self c.write.new.self first second
