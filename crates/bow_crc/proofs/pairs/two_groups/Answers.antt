use Rattle.bow_crc.proofs.Numbers.{two_are, joined}
use Rattle.bow_crc.proofs.pairs.two_groups.Goals as goal

pub returns : goal.returns
returns c =
    let front = c.split_at.result.0.now in
    let back = c.split_at.result.1.now in
    two_are c.group.result c.group-2.result front back c.args.bytes.now c.split_at.ensures.front_len (joined 8 c.args.bytes.now front back c.split_at.ensures.front c.split_at.ensures.back) c.group.ensures c.group-2.ensures
