use Rattle.bow_tool.specs.Outside.{DiskView, KeeperView, disk_view, keeper_view}
use Rattle.bow_tool.specs.Boots.{IsBooted}
use Rattle.bow_tool.proofs.Booting.{boot_refusal, boot_text, booted_since}
use Rattle.bow_promise.proofs.Recovered.{boot_recovers}
use Rattle.bow_tool.proofs.boots.boot_image.Given.{Over}
use Rattle.bow_tool.proofs.boots.boot_image.Goals as goal
use Rattle.bow_tool.proofs.boots.boot_image.Goals.{After-boot-answer}

module _ (g : Over) where
  abbrev disks : DiskView g.row.D.Denot
  disks = disk_view g.D.Disk.stated g.D.Disk.content g.D.Disk.moment g.D.Disk.left_since g.D.Disk.faults

  abbrev keepers : KeeperView g.row.K.Denot
  keepers = keeper_view g.K.Keeper.kept g.K.Keeper.moment g.K.Keeper.left_since g.K.Keeper.faults

  -- what the boot did, since the disk was given
  did : (c : After-boot-answer g) → IsBooted disks keepers c.in-Ok.geometry c.args.disk.now c.boot-answer.new.disk c.args.keeper.now c.boot-answer.new.keeper c.boot-answer.result
  did c =
      let D = g.D.Disk in
      let law = g.met.D.Disk in
      let sizes = c.in-Ok.geometry in
      let mid = c.sizes_of.new.disk in
      let new = c.boot-answer.new.disk in
      let to = c.boot-answer.new.keeper in
      booted_since disks keepers sizes c.args.disk.now mid new c.args.keeper.now to c.boot-answer.result c.sizes_of.ensures.only (record { answer = c.boot-answer.ensures.answer; cause = c.boot-answer.ensures.cause; leaves = c.boot-answer.ensures.leaves; is_cut = c.boot-answer.ensures.is_cut; texts = c.boot-answer.ensures.texts; cuts = c.boot-answer.ensures.cuts; holds = c.boot-answer.ensures.holds; in_place = c.boot-answer.ensures.in_place; recovered = λ k is kept told p n first cut same left. boot_recovers D.stated D.content D.moment D.left_since law.shaped law.cuts_shaped law.counts_now law.only_now sizes mid new k is c.in-Ok.ensures.sizes c.boot-answer.ensures.sizes p n first cut same left g.K.Keeper.kept to kept c.boot-answer.result (c.boot-answer.ensures.leaves k is kept told) (c.boot-answer.ensures.cuts k is) })

pub returns-clause-done : goal.returns-clause-done
returns-clause-done g c =
    let q = (goal.at.returns-clause-done g c).After-boot-answer in
    boot_text (disks g) (keepers g) c.args.disk.now c.boot-answer.new.disk c.args.keeper.now c.boot-answer.new.keeper (λ text. text.items) c.in-Ok.geometry c.boot-answer.result c.told_boot.result (c.boot-answer.ensures.sizes, c.in-Ok.ensures.valid) (did g q) c.told_boot.ensures

pub returns-clause-cause : goal.returns-clause-cause
returns-clause-cause g c =
    let q = (goal.at.returns-clause-cause g c).After-boot-answer in
    boot_refusal (disks g) (keepers g) c.args.disk.now c.boot-answer.new.disk c.args.keeper.now c.boot-answer.new.keeper (λ text. text.items) c.in-Ok.geometry c.boot-answer.result c.told_boot.result (c.boot-answer.ensures.sizes, c.in-Ok.ensures.valid) (did g q) c.told_boot.ensures
