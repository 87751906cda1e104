use Rattle.bow_promise.proofs.Spaced.{plays_find_no_space_truly, sessions_find_no_space_truly}
use Rattle.bow_promise.proofs.laws.space_law.Goals as goal

pub returns-clause-sessions : goal.returns-clause-sessions
returns-clause-sessions g c = sessions_find_no_space_truly

pub returns-clause-plays : goal.returns-clause-plays
returns-clause-plays g c = plays_find_no_space_truly g.D.Disk.stated g.D.Disk.content g.D.Disk.moment g.D.Disk.left_since g.D.Disk.faults
