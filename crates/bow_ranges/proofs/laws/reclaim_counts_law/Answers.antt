use Rattle.bow_ranges.proofs.KindLists.{count-reclaimed}
use Rattle.bow_ranges.proofs.laws.reclaim_counts_law.Goals as goal

pub returns : goal.returns
returns c = count-reclaimed
