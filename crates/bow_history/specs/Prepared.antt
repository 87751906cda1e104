-- What a journal says of a checkpoint in which nothing was written yet.
use Rattle.std.specs.Prelude.{ℕ, ◌≡◌, ◌⊎◌, List, [], ◌∷◌, Some}
use Rattle.std.specs.List.{AllByRecursion as Each}
use Rattle.bow_units.specs.declared.sizes.Extent.{Extent}
use Rattle.bow_units.specs.declared.requests.Op.TheVariants as ops
use Rattle.bow_units.specs.declared.requests.Outcome.TheVariants as outcomes
use Rattle.bow_history.specs.declared.items.Item.{Item}
use Rattle.bow_history.specs.declared.items.Item.TheVariants.{Answered}
use Rattle.bow_history.specs.Journal.{Plan}
use Rattle.bow_history.specs.Sessions.{Session, Turned}
use Rattle.bow_history.specs.Histories.{session_after, journal_of}
use Rattle.bow_history.specs.Legality.{StartsUntouched}
use Rattle.bow_history.specs.Sections.{SectionsRise}
use Rattle.bow_history.specs.SoundSessions.{IsSoundSession, MayRun}

-- the item answers a write
abbrev pub AnswersWrite : Plan → Item → Type 0
AnswersWrite plan (Answered lane number outcome) =
    (extent : Extent) × (payload : List ℕ) × (plan.request lane number ≡ Some (ops.Write extent payload))
AnswersWrite plan item = ⊥

-- the item answers a prepare done
abbrev pub AnswersPrepare : Plan → Item → Type 0
AnswersPrepare plan (Answered lane number outcomes.Done) = plan.request lane number ≡ Some ops.Prepare
AnswersPrepare plan item = ⊥

-- the journal has a prepare's Done after which no write was answered
abbrev pub IsPrepared : Plan → List Item → Type 0
IsPrepared plan [] = ⊥
IsPrepared plan (item ∷ items) =
    (AnswersPrepare plan item × Each (λ later. AnswersWrite plan later → ⊥) items) ⊎ IsPrepared plan items

-- A run with such a journal, at the end of which no request waits, leaves a checkpoint, if it is in one, in which no
-- block is changed or saved, and the log is the first one.
abbrev pub PreparedIsUntouched : Type 0
PreparedIsUntouched = (plan : Plan) (s : Session) (turns : List Turned) → SectionsRise plan → IsSoundSession plan s
    → MayRun plan s turns → IsPrepared plan (journal_of plan s turns)
    → let after = (session_after plan s turns).memory in
    after.requests ≡ [] → StartsUntouched plan after after.phase after.log
