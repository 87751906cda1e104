-- Room for the answer to a call.
use Rattle.std.specs.Prelude.{◌≡◌, ℕ, ◌*◌, List, [], length, take}
use Rattle.bow_units.specs.declared.requests.Op.{Op}
use Rattle.bow_units.specs.declared.requests.Op.TheVariants as ops
use Rattle.bow_units.specs.declared.requests.Outcome.{Outcome}
use Rattle.bow_units.specs.declared.requests.Outcome.TheVariants as outcomes
use Rattle.bow_receipts.specs.declared.asks.Copies.{Copies}

-- How many blocks a request has read, once it is answered so: a read all of its blocks, or those before the one at
-- which the disk failed; and else none.
abbrev pub blocks_read : Op → Outcome → ℕ
blocks_read (ops.Read e payload) outcomes.Data = e.count
blocks_read (ops.Read e payload) (outcomes.DiskFault done) = done
blocks_read op outcome = 0

-- the bytes that the answer hands out: of a read the blocks that were read, which its payload then holds; and else none
abbrev pub read_by : ℕ → Op → Outcome → List ℕ
read_by size (ops.Read e payload) outcomes.Data = payload
read_by size (ops.Read e payload) (outcomes.DiskFault done) = take (done * size) payload
read_by size op outcome = []

-- the payload into which a read is read; no other op has one
abbrev pub read_into : Op → List ℕ
read_into (ops.Read e payload) = payload
read_into (ops.Write e payload) = []
read_into (ops.Discard e) = []
read_into ops.Flush = []
read_into ops.Prepare = []
read_into ops.Commit = []

-- the copies have its length
abbrev pub HasRoomFor : Op → Copies → Type 0
HasRoomFor op copies = (length copies.answer ≡ length (read_into op))
    × (length copies.record ≡ length (read_into op))
