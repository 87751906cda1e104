use Rattle.bow_chain.proofs.Counting.{same_sound}
use Rattle.bow_chain.proofs.Together.{same_where_it_counts}
use Rattle.bow_chain.proofs.Bases.{chains_move}
use Rattle.bow_chain.proofs.laws.chain_law.Goals as goal

pub returns-clause-one : goal.returns-clause-one
returns-clause-one c g image log other older others a b = same_sound g image log other older others a b

pub returns-clause-same : goal.returns-clause-same
returns-clause-same c = same_where_it_counts

pub returns-clause-moved : goal.returns-clause-moved
returns-clause-moved c = chains_move
