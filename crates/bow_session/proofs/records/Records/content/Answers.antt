use Rattle.std.proofs.Common.{Some, sym}
use Rattle.bow_session.proofs.Buffered.{answered_at, kept_there, kept_whole}
use Rattle.bow_session.proofs.records.Records.content.Goals as goal

pub block_in-requires-clause-whole : goal.block_in-requires-clause-whole
block_in-requires-clause-whole c =
    let bytes = c.in-Some.bytes.now in
    let seats = c.args.self.now.seats.items in
    let seat = answered_at seats c.in-Got.lane c.in-Got.number (Some bytes) (kept_there _ bytes (sym c.in-Some.ensures)) in
    let answer = (c.requires.fit c.in-Got.lane seat.0 seat.1).answers c.in-Got.number (Some bytes) seat.2 in
    kept_whole c.args.geometry answer.asked bytes answer.is
