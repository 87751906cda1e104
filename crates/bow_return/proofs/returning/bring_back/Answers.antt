use Rattle.std.proofs.Common.{arith, ⊎_elim}
use Rattle.bow_restore.proofs.Told.{Fits}
use Rattle.bow_restore.proofs.Backs.{now_is_crash}
use Rattle.bow_return.proofs.Back.{held_from_any_cut, left_more}
use Rattle.bow_return.proofs.returning.bring_back.Goals as goal

pub returns-clause-back : goal.returns-clause-back
returns-clause-back g c k is f all =
    let geo = c.args.geometry in
    let fits : Fits geo k = g.met.D.Disk.shaped c.args.disk.now k is geo c.requires.sizes in
    let back = held_from_any_cut geo f k.now (all k.now (now_is_crash geo k fits)) in
    c.restore.ensures.back k is f.used f.saved back.plain (λ image crash. (held_from_any_cut geo f image (all image crash)).holds)

pub returns-clause-cuts : goal.returns-clause-cuts
returns-clause-cuts g c k new is told f all cut left =
    let geo = c.args.geometry in
    let D = g.D.Disk in
    let fits : Fits geo k = g.met.D.Disk.shaped c.args.disk.now k is geo c.requires.sizes in
    let adds = c.restore.ensures.cuts k is in
    ⊎_elim (λ past. all cut (g.met.D.Disk.only_now c.args.disk.now k is (D.moment c.args.disk.now) cut (omega arith) past))
    (λ on. left_more geo f k.now cut (all k.now (now_is_crash geo k fits)) on (g.met.D.Disk.cuts_shaped c.restore.new.disk new told geo c.restore.ensures.sizes (D.moment c.args.disk.now) cut left))
    (adds.only (D.moment c.args.disk.now) cut (omega arith) left)
