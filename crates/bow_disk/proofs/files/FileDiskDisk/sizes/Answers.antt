use Rattle.std.proofs.Common.{◌∙◌, ap}
use Rattle.bow_disk.proofs.files.FileDiskDisk.sizes.Goals as goal

pub returns-in-Some-clause-given : goal.returns-in-Some-clause-given
returns-in-Some-clause-given g c = (c.self.invariant c.in-Some.sizes c.in-Some.is).size ∙ ap (λ d. d.block_size) c.self.view_is
