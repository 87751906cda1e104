use Rattle.bow_shared.proofs.runs.over.Goals as goal

pub returns-then-over-clause-played : goal.returns-then-over-clause-played
returns-then-over-clause-played g c =
    let over = c.over.ensures in
    let journal = c.journal.ensures in
    let yes = c.if-over.true in
    record {
      over = over.over.0 yes;
      idle = over.idle yes;
      buffers = over.buffers yes;
      complete = λ first k. over.complete first k yes;
      counted = journal.faults;
      leads = journal.leads;
      ahead = journal.ahead;
    }
