use Rattle.std.proofs.Common.{◌≡◌, ℕ, ◌+◌}
use Rattle.bow_pair.proofs.Commits.{Going}
use Rattle.bow_pair.proofs.committing.commit.Given as goal

abbrev pub invariant-loop-act : goal.invariant-loop-act
invariant-loop-act g l =
    (left : ℕ) × (left + l.act ≡ 4) × Going g.D.Disk.stated g.D.Disk.content g.D.Disk.moment g.D.Disk.left_since g.D.Disk.faults l.fn.core l.core left
