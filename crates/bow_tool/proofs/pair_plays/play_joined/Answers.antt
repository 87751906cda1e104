use Rattle.std.proofs.Common.{inl, List, refl, sym, subst}
use Rattle.bow_tool.specs.Outside.{DiskView, KeeperView, disk_view, keeper_view}
use Rattle.bow_tool.specs.PairPlays.{JoinedCame, StopsShort}
use Rattle.bow_tool.proofs.PairPlaying.{joined_told}
use Rattle.bow_tool.proofs.pair_plays.play_joined.Goals as goal

pub returns-in-Ok : goal.returns-in-Ok
returns-in-Ok g c =
    let v : DiskView g.row.D.Denot = disk_view g.D.Disk.stated g.D.Disk.content g.D.Disk.moment g.D.Disk.left_since g.D.Disk.faults in
    let w : KeeperView g.row.K.Denot = keeper_view g.K.Keeper.kept g.K.Keeper.moment g.K.Keeper.left_since g.K.Keeper.faults in
    let went = c.in-Ok.ensures.went in
    let left = c.play_parts.new.pair in
    let told = joined_told v w c.args.script c.args.pair.cores c.args.keeper c.play_parts.new.keeper _ c.args.count went.0 went.1.0 left.openings left.laters c.in-Ok.verdict (went.1.1, went.1.2, went.1.3) c.pair_lines-text.result c.told_pair.result c.pair_lines-text.ensures c.told_pair.ensures in
    subst (λ (l : List g.row.D.Denot). JoinedCame v w c.args.script c.args.pair.cores c.args.keeper c.play_parts.new.keeper l c.args.count c.told_pair.result) (sym c.close.ensures) told

pub returns-in-Err : goal.returns-in-Err
returns-in-Err g c =
    let v : DiskView g.row.D.Denot = disk_view g.D.Disk.stated g.D.Disk.content g.D.Disk.moment g.D.Disk.left_since g.D.Disk.faults in
    let w : KeeperView g.row.K.Denot = keeper_view g.K.Keeper.kept g.K.Keeper.moment g.K.Keeper.left_since g.K.Keeper.faults in
    (refl, inl (subst (λ (l : List g.row.D.Denot). StopsShort v w c.args.script c.args.pair.cores c.args.keeper c.play_parts.new.keeper l) (sym c.close-in-Err.ensures) c.in-Err.ensures.short))
