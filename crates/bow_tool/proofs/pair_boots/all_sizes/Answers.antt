use Rattle.std.proofs.Common.{◌≡◌, ◌<◌, [], ◌∷◌, List, Some, get_or, length, set, sym, ap, ◌∙◌, inr, subst, arith, length-append}
use Rattle.std.proofs.lemmas.List.{length-set}
use Rattle.std.specs.Prelude.{slice_get}
use Rattle.bow_units.specs.declared.sizes.Geometry.{Geometry}
use Rattle.bow_pair.specs.Settling.{AreStated, AreValid}
use Rattle.bow_pair.proofs.Loops.{kept_then, more, next}
use Rattle.bow_tool.specs.Outside.{DiskView, disk_view}
use Rattle.bow_tool.specs.Sizes.{OnlySizes}
use Rattle.bow_tool.proofs.PairBooting.{AnyTwo, stated_more, stopped, valid_more}
use Rattle.bow_tool.proofs.pair_boots.all_sizes.Given.{Over}
use Rattle.bow_tool.proofs.pair_boots.all_sizes.Goals as goal
use Rattle.bow_tool.proofs.pair_boots.all_sizes.Goals.{After-sizes_of}

module _ (g : Over) where
  abbrev view : DiskView g.row.D.Denot
  view = disk_view g.D.Disk.stated g.D.Disk.content g.D.Disk.moment g.D.Disk.left_since g.D.Disk.faults

  was : (c : After-sizes_of g) → slice_get c.args.disks.now c.loop-device.device ≡ Some (get_or c.loop-device.disks c.loop-device.device c.index-disks-device.result)
  was c = next (OnlySizes view) AnyTwo c.args.disks.now c.loop-device.disks c.loop-device.device c.index-disks-device.result c.loop-device.invariant.asked c.loop-device.auto.disks c.loop-device-test.true

  on : (c : After-sizes_of g) → c.loop-device.device < length c.loop-device.disks
  on c = let long = c.loop-device.auto.disks in let test = c.loop-device-test.true in omega (arith, long, test)

pub returns-in-Err-clause-asked : goal.returns-in-Err-clause-asked
returns-in-Err-clause-asked g c =
    record {
      many = length-set c.loop-device.disks c.loop-device.device c.sizes_of.new.disk ∙ c.loop-device.auto.disks;
      each = kept_then (OnlySizes (view g)) AnyTwo c.args.disks.now c.loop-device.disks c.loop-device.device c.index-disks-device.result c.sizes_of.new.disk c.loop-device.invariant.asked c.loop-device.auto.disks c.loop-device-test.true c.sizes_of.ensures.only;
    }

pub returns-in-Err-clause-cause : goal.returns-in-Err-clause-cause
returns-in-Err-clause-cause g c =
    let q = (goal.at.returns-in-Err-clause-cause g c).After-sizes_of in
    let i = c.loop-device.invariant in
    inr (stopped (view g) c.loop-device.geometries.items c.args.disks.now c.loop-device.disks c.loop-device.device (get_or c.loop-device.disks c.loop-device.device c.index-disks-device.result) c.sizes_of.new.disk c.in-Err.refusal i.stated i.valid i.many (on g q) (was g q) c.in-Err.ensures.cause)

pub loop-device-preserved : goal.loop-device-preserved
loop-device-preserved g c =
    let D = g.D.Disk in
    let q = (goal.at.loop-device-preserved g c).After-sizes_of in
    let i = c.loop-device.invariant in
    let n = c.loop-device.device in
    let sizes = c.loop-device.geometries.items in
    let pushed = c.push_reserved.ensures.items in
    record {
      asked = more (OnlySizes (view g)) AnyTwo c.args.disks.now c.loop-device.disks n c.index-disks-device.result c.sizes_of.new.disk i.asked c.loop-device.auto.disks c.loop-device-test.true c.sizes_of.ensures.only tt;
      stated = subst (λ (l : List Geometry). AreStated D.stated l (set c.loop-device.disks n c.sizes_of.new.disk)) (sym pushed) (stated_more (view g) sizes c.loop-device.disks n c.in-Ok-sizes_of.geometry c.sizes_of.new.disk i.many (on g q) i.stated c.in-Ok-sizes_of.ensures.sizes);
      valid = subst AreValid (sym pushed) (valid_more sizes c.in-Ok-sizes_of.geometry i.valid c.in-Ok-sizes_of.ensures.valid);
      many = ap (λ (l : List Geometry). length l) pushed ∙ (let longer = length-append sizes (c.in-Ok-sizes_of.geometry ∷ []) in let many = i.many in omega (arith, longer, many));
      room = let wide = c.push_reserved.ensures.capacity in let was = i.room in omega (arith, wide, was);
    }
