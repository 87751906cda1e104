use Rattle.bow_ranges.proofs.KindLists.{count-with_kind}
use Rattle.bow_ranges.proofs.laws.set_counts_law.Goals as goal

pub returns : goal.returns
returns c = count-with_kind
