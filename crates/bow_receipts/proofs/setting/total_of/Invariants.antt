use Rattle.std.proofs.Common.{◌≡◌, take}
use Rattle.std.specs.Prelude.{sum}
use Rattle.bow_receipts.proofs.setting.total_of.Given as goal

abbrev pub invariant-loop-may : goal.invariant-loop-may
invariant-loop-may l = l.total ≡ sum (take l.may-index l.calls)
