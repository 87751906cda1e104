use Rattle.std.proofs.Common.{ap}
use Rattle.bow_disk.specs.Memory.{Memory}
use Rattle.bow_disk.proofs.Picks.{cut_bytes, cut_crash}
use Rattle.bow_disk.proofs.memory.MemDisk.cut.Goals as goal

pub returns-clause-picked : goal.returns-clause-picked
returns-clause-picked c = cut_bytes c.args.self.now.state c.args.self.now.fit c.self.inside.history c.args.pick c.cut.result (ap (λ (m : Memory). m.state.geometry) c.self.view_is) (ap (λ (m : Memory). m.state.first) c.self.view_is) (ap (λ (m : Memory). m.state.writes) c.self.view_is) c.cut.ensures

pub returns-clause-crash : goal.returns-clause-crash
returns-clause-crash c = cut_crash c.args.self.now.state c.args.self.now.fit c.args.pick c.cut.result (returns-clause-picked c)
