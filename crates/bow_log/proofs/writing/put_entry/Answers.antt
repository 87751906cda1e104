use Rattle.std.proofs.Common.{◌+◌, [], ◌++◌, take, refl, sym, arith, append-nil}
use Rattle.std.specs.Int.{w32, w64, to_le_bytes}
use Rattle.bow_log.proofs.Puts.{next}
use Rattle.bow_log.proofs.writing.put_entry.Goals as goal

pub returns : goal.returns
returns c =
    let at = c.args.at in
    let e = c.args.entry in
    let front = take at c.args.into.now in
    let one = next at (at + 8) c.put.new.into c.args.into.now front [] c.to_le_bytes.result (to_le_bytes w64 e.source) c.put.ensures c.to_le_bytes.ensures refl (sym (append-nil front)) in
    let two = next (at + 8) (at + 16) c.put-2.new.into c.put.new.into front (to_le_bytes w64 e.source) c.to_le_bytes-2.result (to_le_bytes w64 e.dest) c.put-2.ensures c.to_le_bytes-2.ensures (omega arith) one in
    let three = next (at + 16) (at + 20) c.put-3.new.into c.put-2.new.into front (to_le_bytes w64 e.source ++ to_le_bytes w64 e.dest) c.to_le_bytes-3.result (to_le_bytes w32 e.size) c.put-3.ensures c.to_le_bytes-3.ensures (omega arith) two in
    next (at + 20) (at + 24) c.put-4.new.into c.put-3.new.into front (to_le_bytes w64 e.source ++ to_le_bytes w64 e.dest ++ to_le_bytes w32 e.size) c.to_le_bytes-4.result (to_le_bytes w32 e.sum) c.put-4.ensures c.to_le_bytes-4.ensures (omega arith) three
