use Rattle.std.proofs.Common.{◌<◌, ◌≡◌, Some, map, take, arith}
use Rattle.bow_log.specs.Generations.{backup_of}
use Rattle.bow_disk.specs.Disk.{Content, FlushStep}
use Rattle.bow_disk.specs.Moments.{AddsCuts}
use Rattle.bow_restore.specs.Replaying.{IsHeadCut, IsMark, IsMarkCut}
use Rattle.bow_restore.proofs.Told.{Fits}
use Rattle.bow_restore.proofs.HeadWrites.{is_the_mark, flush_made, head_flush_cut}
use Rattle.bow_disk.proofs.Moments.{goes_told, adds_then, adds_map, adds_call}
use Rattle.bow_restore.proofs.Moments.{keeps_stated, flush_cases}
use Rattle.bow_restore.proofs.heads.mark.Given.{Over}
use Rattle.bow_restore.proofs.heads.mark.Goals as goal
use Rattle.bow_restore.proofs.heads.mark.Goals.{After-put_head}

module _ (g : Over) where
  -- the block is that of the mark
  is_mark : (c : After-put_head g) → IsMark c.args.geometry (map (backup_of c.args.geometry) (take c.args.count c.args.log.now.entries)) c.args.log.now.sequence c.write_log.new.into
  is_mark c = is_the_mark c.args.geometry c.args.log.now c.cut_to.result c.args.count c.write_log.new.into c.cut_to.ensures.log c.cut_to.ensures.fits c.cut_to.ensures.magic c.cut_to.ensures.sequence c.cut_to.ensures.entries c.write_log.ensures

  first : (c : After-put_head g) (k : Content) → g.D.Disk.content c.args.disk.now ≡ Some k
      → AddsCuts g.D.Disk.moment g.D.Disk.left_since (IsMarkCut c.args.geometry (map (backup_of c.args.geometry) (take c.args.count c.args.log.now.entries)) c.args.log.now.sequence k.now) c.args.disk.now c.put_head.new.disk
  first c k is = adds_map g.D.Disk.content g.D.Disk.moment g.D.Disk.left_since (IsHeadCut c.args.geometry c.write_log.new.into k.now) _ c.args.disk.now c.put_head.new.disk (λ cut left. record { block = c.write_log.new.into; is_mark = is_mark c; left = left }) (c.put_head.ensures.cuts k is)

pub returns-in_err-put_head-clause-cuts : goal.returns-in_err-put_head-clause-cuts
returns-in_err-put_head-clause-cuts g c k is = first g (goal.at.returns-in_err-put_head-clause-cuts g c).After-put_head k is

pub returns-clause-made : goal.returns-clause-made
returns-clause-made g c k is =
    let q = (goal.at.returns-clause-made g c).After-put_head in
    let put = c.in_ok-put_head.ensures.put k is in
    flush_made g.D.Disk.content _ c.put_head.new.disk c.flush.new.self c.write_log.new.into k put.told c.flush.result put.holds put.is
    (λ d now flushed. record { block = c.write_log.new.into; is_mark = is_mark g q; now = now; flushed = flushed }) c.flush.ensures.step

pub returns-clause-cuts : goal.returns-clause-cuts
returns-clause-cuts g c k is =
    let geo = c.args.geometry in
    let some : 0 < geo.blocks = omega (arith, c.requires.log.device.enough) in
    let q = (goal.at.returns-clause-cuts g c).After-put_head in
    let put = c.in_ok-put_head.ensures.put k is in
    let d = goes_told g.D.Disk.content (FlushStep c.flush.result) c.put_head.new.disk c.flush.new.self put.told put.is c.flush.ensures.step in
    let stated = keeps_stated geo _ _ c.put_head.ensures.sizes c.flush.ensures.always in
    let fits : Fits geo k = g.met.D.Disk.shaped c.args.disk.now k is geo c.requires.sizes in
    let fd : Fits geo d.told = g.met.D.Disk.shaped c.flush.new.self d.told d.is geo stated in
    adds_then g.D.Disk.content g.D.Disk.moment g.D.Disk.left_since _ c.args.disk.now c.put_head.new.disk c.flush.new.self (first g q k is)
    (adds_call g.D.Disk.content g.D.Disk.moment g.D.Disk.left_since _ c.put_head.new.disk c.flush.new.self d.told d.is c.flush.ensures.time
    (λ cut crash. record { block = c.write_log.new.into; is_mark = is_mark g q; left = head_flush_cut geo c.write_log.new.into k put.told d.told cut fits some fd put.holds (flush_cases c.flush.result put.told d.told d.holds) crash }))
