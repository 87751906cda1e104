use Rattle.bow_disk.proofs.Calls.{flush_content, flush_time}
use Rattle.bow_disk.proofs.memory.MemDiskDisk.flush.Goals as goal

pub returns-clause-step : goal.returns-clause-step
returns-clause-step c = flush_content c.args.self.now.state c.args.self.now.fit c.try_flush.result c.try_flush.new.self.state c.try_flush.ensures.fails c.try_flush.ensures.state

pub returns-clause-time : goal.returns-clause-time
returns-clause-time c = flush_time c.args.self.now.state c.args.self.now.fit c.try_flush.new.self.state c.try_flush.ensures.state
