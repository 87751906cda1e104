use Rattle.bow_queue.proofs.RequestLemmas.{sound_orderly}
use Rattle.bow_queue.proofs.queue.Queue.admitted.Goals as goal

pub returns-clause-orderly : goal.returns-clause-orderly
returns-clause-orderly c = sound_orderly _ _ _ _ _ _ c.self.view_is c.self.invariant
