use Rattle.std.proofs.Common.{arith}
use Rattle.std.proofs.lemmas.Grind.{get_or_default_zero}
use Rattle.bow_disk.proofs.Fresh.{fresh_fit}
use Rattle.bow_disk.proofs.memory.MemDisk.new.Goals as goal

pub invariant_of-result : goal.invariant_of-result
invariant_of-result c = (
  rw (c.in_ok-new.ensures, c.new-2.ensures.items) (fresh_fit c.args.geometry c.args.image.items c.args.writes c.requires (λ k d within. omega (arith, get_or_default_zero c.args.image.items k d within))),
  tt,
)
