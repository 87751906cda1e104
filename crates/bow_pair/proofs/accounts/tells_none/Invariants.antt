use Rattle.std.proofs.Common.{◌≡◌, drop}
use Rattle.std.specs.List.{sum_by}
use Rattle.bow_history.specs.Promises.{faults_in}
use Rattle.bow_pair.proofs.accounts.tells_none.Given as goal

abbrev pub invariant-loop-item : goal.invariant-loop-item
invariant-loop-item l = sum_by faults_in (drop l.item-index l.items) ≡ sum_by faults_in l.items
