-- What is answered once the first sessions are over, and once the second ones are.
use Rattle.std.specs.Prelude.{ℕ, List, length}
use Rattle.bow_core.specs.Views.{View}
use Rattle.bow_session.specs.Parts.{Account}
use Rattle.bow_pair.specs.Playing.{EachBelow, EndsClean, EndsPrepared, IsFirstNot}
use Rattle.bow_pair.specs.declared.pairs.Prepared.{Prepared}
use Rattle.bow_pair.specs.declared.pairs.Prepared.TheVariants.{All, NotAll}
use Rattle.bow_pair.specs.declared.pairs.Ran.{Ran}
use Rattle.bow_pair.specs.declared.pairs.Ran.TheVariants.{Clean, Faulty}

-- of so many sessions: all ended prepared, or this one is the first that did not
abbrev pub HowPrepared : ℕ → List Account → Prepared → Type 0
HowPrepared many accounts All = EachBelow EndsPrepared accounts many
HowPrepared many accounts (NotAll device) = IsFirstNot EndsPrepared accounts device

-- of so many sessions: all ended clean, or this one is the first that did not
abbrev pub HowRan : ℕ → List Account → Ran → Type 0
HowRan many accounts Clean = EachBelow EndsClean accounts many
HowRan many accounts (Faulty device) = IsFirstNot EndsClean accounts device

-- the first sessions over these devices left these accounts, and ended as it is answered
abbrev pub AnswersPrepared : {D : Type 0} → List (View D) → List Account → Prepared → Type 0
AnswersPrepared cores accounts answer = HowPrepared (length cores) accounts answer

-- and the second ones
abbrev pub AnswersRan : {D : Type 0} → List (View D) → List Account → Ran → Type 0
AnswersRan cores accounts answer = HowRan (length cores) accounts answer
