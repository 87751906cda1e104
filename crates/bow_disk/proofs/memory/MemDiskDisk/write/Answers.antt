use Rattle.std.proofs.Common.{arith}
use Rattle.bow_units.specs.Blocks.{IsBlock}
use Rattle.bow_units.proofs.Bytes.{bytes_from}
use Rattle.bow_disk.proofs.Calls.{write_content, write_time}
use Rattle.bow_disk.proofs.memory.MemDiskDisk.write.Goals as goal

-- what is written is the bytes of a block
block : (c : goal.After-try_write) → IsBlock c.args.self.now.state.geometry.block_size c.args.from.now
block c = record { are_bytes = bytes_from c.args.from.now (λ k. omega (arith, c.type_inv.from k)); long = c.requires.1 }

pub returns-clause-step : goal.returns-clause-step
returns-clause-step c =
    write_content c.args.self.now.state c.args.self.now.fit c.args.at c.args.from.now c.requires.0 (block c) c.try_write.result c.try_write.new.self.state c.try_write.ensures.fails c.try_write.ensures.state

pub returns-clause-time : goal.returns-clause-time
returns-clause-time c = write_time c.args.self.now.state c.args.self.now.fit c.args.at c.args.from.now c.requires.0 (block c) c.try_write.new.self.state c.try_write.ensures.state
