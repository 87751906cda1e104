use Rattle.bow_shared.proofs.Ends.{begins_there}
use Rattle.bow_shared.proofs.runs.run.Goals as goal

pub returns-clause-complete : goal.returns-clause-complete
returns-clause-complete g c first k = let run = c.run_workers.ensures in run.played.complete first (run.loaded first k)

pub returns-clause-leads : goal.returns-clause-leads
returns-clause-leads g c first f k at =
    let run = c.run_workers.ensures in
    run.played.leads first f (run.loaded first k) (begins_there g.D.Disk.content c.args.session c.run_workers.result first f run.script.0 run.script.1 at)

pub returns-clause-ahead : goal.returns-clause-ahead
returns-clause-ahead g c first f k at led low =
    let run = c.run_workers.ensures in
    run.played.ahead first f (run.loaded first k) (begins_there g.D.Disk.content c.args.session c.run_workers.result first f run.script.0 run.script.1 at) led low
