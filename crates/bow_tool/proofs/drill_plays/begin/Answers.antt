use Rattle.bow_tool.proofs.Making.{begun_on}
use Rattle.bow_tool.proofs.drill_plays.begin.Goals as goal

pub returns-clause-begun : goal.returns-clause-begun
returns-clause-begun g c = begun_on c.in_ok-disk.disk c.in_ok-disk.ensures c.begin_on.result c.begin_on.ensures.begun
