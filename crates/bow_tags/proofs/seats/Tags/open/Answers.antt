use Rattle.std.proofs.Common.{◌∙◌, subst}
use Rattle.atomic_table.specs.Seated.{TableId}
use Rattle.bow_tags.specs.Seats.{IsFirstLane, IsFirstServer, Numbered}
use Rattle.bow_tags.proofs.Lists.{by_index}
use Rattle.bow_tags.proofs.seats.Tags.open.Goals as goal

pub returns-clause-by_index : goal.returns-clause-by_index
returns-clause-by_index g c =
    let lanes = c.in_ok-lane_seats.lane_seats.items in
    let servers = c.in_ok-server_seats.server_seats.items in
    let z = c.in_ok-table.table.shared.table_id in
    let m = c.args.servers in
    let size = c.args.size in
    let same = (c.in_ok-table.ensures).seat.0 in
    let same' = (c.in_ok-lane_seats.ensures).first.0 ∙ same in (
      by_index (IsFirstLane z m size) lanes (subst (λ (y : TableId). Numbered (IsFirstLane y m size) lanes) same (c.in_ok-lane_seats.ensures).seats.1),
      by_index (IsFirstServer z m size) servers (subst (λ (y : TableId). Numbered (IsFirstServer y m size) servers) same' (c.in_ok-server_seats.ensures).1),
    )
