-- What a hold of the lock does for a job.
use Rattle.std.specs.Prelude.{◌≡◌, List}
use Rattle.bow_units.specs.declared.requests.Outcome.{Outcome}
use Rattle.bow_history.specs.declared.items.Item.{Item}
use Rattle.bow_tags.specs.declared.job.Job.{Job}
use Rattle.bow_tags.specs.declared.view.View.{View}
use Rattle.bow_tags.specs.Steps.{after_answer}
use Rattle.bow_shared.specs.declared.desk.Served.{Served}
use Rattle.bow_shared.specs.declared.desk.Served.TheVariants.{Answered, Stepped, Waiting}
use Rattle.bow_shared.specs.Desks.{HasAnswer}

-- The seat has answered the job, with an outcome that the journal tells of its request; or the job comes back, and the
-- seat is as it was.
abbrev pub IsServed : Served → Job → View (Unit {0}) Outcome → View (Unit {0}) Outcome → List Item → Type 0
IsServed Answered job old new journal = (asked : Unit {0}) × (outcome : Outcome)
    × HasAnswer journal job.lane job.number outcome × (new ≡ after_answer old job.lane job.number asked outcome)
IsServed (Stepped back) job old new journal = (back ≡ job) × (new ≡ old)
IsServed (Waiting back) job old new journal = (back ≡ job) × (new ≡ old)
