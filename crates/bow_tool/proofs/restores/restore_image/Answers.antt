use Rattle.bow_tool.specs.Outside.{DiskView, disk_view}
use Rattle.bow_tool.specs.Restores.{IsRestored, IsRestoredLine, IsRestoreRefusal}
use Rattle.bow_tool.proofs.Imaging.{restored_since, told_cause, told_text}
use Rattle.bow_promise.proofs.Recovered.{restoration_recovers}
use Rattle.bow_tool.proofs.restores.restore_image.Given.{Over}
use Rattle.bow_tool.proofs.restores.restore_image.Goals as goal
use Rattle.bow_tool.proofs.restores.restore_image.Goals.{After-restore-answer}

module _ (g : Over) where
  abbrev disks : DiskView g.row.D.Denot
  disks = disk_view g.D.Disk.stated g.D.Disk.content g.D.Disk.moment g.D.Disk.left_since g.D.Disk.faults

  -- what the restoration did, since the disk was given
  did : (c : After-restore-answer g) → IsRestored disks c.in-Ok.geometry c.args.limit c.args.disk.now c.restore-answer.new.disk c.restore-answer.result
  did c =
      let D = g.D.Disk in
      let law = g.met.D.Disk in
      let sizes = c.in-Ok.geometry in
      let mid = c.sizes_of.new.disk in
      let new = c.restore-answer.new.disk in
      restored_since disks sizes c.args.limit c.args.disk.now mid new c.restore-answer.result c.sizes_of.ensures.only (record { cause = c.restore-answer.ensures.cause; head = c.restore-answer.ensures.head; each_sound = c.restore-answer.ensures.each_sound; each_fault = c.restore-answer.ensures.each_fault; left = c.restore-answer.ensures.left; untouched = c.restore-answer.ensures.untouched; plain = c.restore-answer.ensures.plain; cuts = c.restore-answer.ensures.cuts; settled = c.restore-answer.ensures.settled; holds = c.restore-answer.ensures.holds; back = c.restore-answer.ensures.back; recovered = λ k is p n first cut same left. restoration_recovers D.stated D.content D.moment D.left_since law.shaped law.cuts_shaped law.counts_now law.only_now sizes mid new k is c.in-Ok.ensures.sizes c.restore-answer.ensures.sizes p n first cut same left c.restore-answer.result (c.restore-answer.ensures.plain k is) c.restore-answer.ensures.back (c.restore-answer.ensures.cuts k is) })

pub returns-clause-done : goal.returns-clause-done
returns-clause-done g c =
    let q = (goal.at.returns-clause-done g c).After-restore-answer in
    told_text (disks g) c.restore-answer.new.disk (λ s answer. IsRestored (disks g) s c.args.limit c.args.disk.now c.restore-answer.new.disk answer) IsRestoredLine IsRestoreRefusal (λ text. text.items) c.in-Ok.geometry c.restore-answer.result c.told_restored.result (c.restore-answer.ensures.sizes, c.in-Ok.ensures.valid) (did g q) c.told_restored.ensures

pub returns-clause-cause : goal.returns-clause-cause
returns-clause-cause g c =
    let q = (goal.at.returns-clause-cause g c).After-restore-answer in
    told_cause (disks g) c.args.disk.now c.restore-answer.new.disk (λ s answer. IsRestored (disks g) s c.args.limit c.args.disk.now c.restore-answer.new.disk answer) IsRestoredLine IsRestoreRefusal (λ text. text.items) c.in-Ok.geometry c.restore-answer.result c.told_restored.result (c.restore-answer.ensures.sizes, c.in-Ok.ensures.valid) (did g q) c.told_restored.ensures
