-- Whether a session gave the checkpoint up.
use Rattle.std.specs.Prelude.{◌≡◌, List, Some, Contains}
use Rattle.bow_units.specs.declared.requests.Op.TheVariants as ops
use Rattle.bow_units.specs.declared.requests.Outcome.TheVariants.{Done}
use Rattle.bow_history.specs.declared.items.Item.{Item}
use Rattle.bow_history.specs.declared.items.Item.TheVariants.{Answered}
use Rattle.bow_history.specs.Journal.{Plan}

-- the item answers a commit with Done
abbrev pub IsCommitDone : Plan → Item → Type 0
IsCommitDone plan (Answered lane n Done) = plan.request lane n ≡ Some ops.Commit
IsCommitDone plan item = ⊥

-- a commit was answered Done
abbrev pub HasCommitted : Plan → List Item → Type 0
HasCommitted plan journal = (item : Item) × Contains journal item × IsCommitDone plan item
