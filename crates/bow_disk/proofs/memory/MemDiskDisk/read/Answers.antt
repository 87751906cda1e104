use Rattle.bow_disk.specs.Memory.{failure}
use Rattle.bow_disk.proofs.Calls.{read_content, read_time}
use Rattle.bow_disk.proofs.memory.MemDiskDisk.read.Goals as goal

pub returns-clause-step : goal.returns-clause-step
returns-clause-step c = read_content c.args.self.now.state c.args.self.now.fit (failure c.args.self.now.state) c.try_read.new.self.state c.try_read.ensures.state

pub returns-clause-time : goal.returns-clause-time
returns-clause-time c = read_time c.args.self.now.state c.args.self.now.fit (failure c.args.self.now.state) c.try_read.new.self.state c.try_read.ensures.state
