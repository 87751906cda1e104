-- What a command on the attempts did: its line, and why it was refused.
use Rattle.std.specs.Prelude.{◌≡◌, ℕ, ◌++◌, Bool, true, false, List, codes, Option, None, Some, Result, Ok, Err, IfOk}
use Rattle.std.specs.Fmt.{decimal}
use Rattle.bow_units.specs.Causes.{Rose}
use Rattle.vold_meta.specs.Keeper.{Goes, TimeGoes, Nothing}
use Rattle.vold_meta.specs.Attempts.{text_of, Tells}
use Rattle.vold_meta.specs.declared.attempts.AttemptFault.{AttemptFault}
use Rattle.vold_meta.specs.declared.attempts.AttemptFault.TheVariants as fault
use Rattle.vold_commands.specs.Attempts.{started, StartAnswers, Starts, start_calls, Runs, IsOfStep, Answers}
use Rattle.vold_commands.specs.declared.starting.StartFault.{StartFault}
use Rattle.vold_commands.specs.declared.starting.StartFault.TheVariants as starts
use Rattle.bow_tool.specs.declared.refusals.Refusal.{Refusal}
use Rattle.bow_tool.specs.declared.refusals.Refusal.TheVariants.{KeeperFault, BadAttempts, NoMemory}
use Rattle.bow_tool.specs.Outside.{Call, KeeperView, SourceLeft, DiskLeft}

-- the line of the attempts that are kept
abbrev pub attempts_line : Option ℕ → List ℕ
attempts_line None = codes "no attempts\n"
attempts_line (Some n) = codes "attempts " ++ decimal n ++ codes "\n"

-- the line of an answer
abbrev pub answer_line : Bool → List ℕ
answer_line true = codes "yes\n"
answer_line false = codes "no\n"

-- a keeper took the attempts a step on, with this answer
pub record RanStep {K : Type 0} (v : KeeperView K) (step : Option ℕ → Option ℕ) (old new : K)
    (r : Result (Option ℕ) AttemptFault) : Type 0 where
  pub runs : Goes (Runs step r (v.moment old) (v.moment new) (v.left_since old) (v.left_since new)) (v.kept old)
      (v.kept new)
  pub of_step : IfOk r (IsOfStep step)

-- a keeper was asked for the attempts, and this is the answer to a question on them: nothing changes
pub record WasAsked {K : Type 0} (v : KeeperView K) (question : Option ℕ → Bool) (old new : K)
    (r : Result Bool AttemptFault) : Type 0 where
  pub answers : Goes (λ kept now. (now ≡ kept) × Answers question kept r) (v.kept old) (v.kept new)
  pub time : TimeGoes (v.kept new) 1 (v.moment old) (v.moment new) (v.left_since old) (v.left_since new) Nothing

-- a keeper was to keep the attempts of a start with so many retries, with this answer
pub record WasStarted {K : Type 0} (v : KeeperView K) (retries : ℕ) (old new : K) (r : Result ℕ StartFault) : Type 0
  where
    pub answers : StartAnswers retries r
    pub step : Goes (Starts retries r) (v.kept old) (v.kept new)
    pub time : TimeGoes (v.kept new) (start_calls r) (v.moment old) (v.moment new) (v.left_since old) (v.left_since new)
        (λ c. c ≡ text_of (started retries))

-- something was done with an answer, and the text is its line
abbrev pub Said : {A F : Type 0} → (Result A F → Type 0) → (A → List ℕ) → List ℕ → Type 0
Said {A} Did line text = (answer : A) × Did (Ok answer) × (text ≡ line answer)

-- why it was refused, by the keeper's count of faults before and after; where the line finds no memory, it was done
abbrev pub AttemptCause : {A : Type 0} → (Result A AttemptFault → Type 0) → ℕ → ℕ → Refusal → Type 0
AttemptCause Did faults now KeeperFault = Did (Err fault.KeeperFault) × Rose faults now
AttemptCause Did faults now BadAttempts = Did (Err fault.BadAttempts)
AttemptCause {A} Did faults now NoMemory = (answer : A) × Did (Ok answer)
AttemptCause Did faults now refusal = ⊥

-- so of a start
abbrev pub StartCause : (Result ℕ StartFault → Type 0) → ℕ → ℕ → Refusal → Type 0
StartCause Did faults now KeeperFault = Did (Err starts.KeeperFault) × Rose faults now
StartCause Did faults now NoMemory = (attempts : ℕ) × Did (Ok attempts)
StartCause Did faults now refusal = ⊥

-- the keeper alone was asked
abbrev pub AsksKeeperAlone : Call → Type 0
AsksKeeperAlone c = SourceLeft c × DiskLeft c

-- a step of the attempts was made, as a call of the program, and the text is its line
abbrev pub StepText : (Option ℕ → Option ℕ) → Call → List ℕ → Type 0
StepText step c text = AsksKeeperAlone c × Said (RanStep c.keepers step c.keeper c.keeper_after) attempts_line text

-- it was refused, for this cause
abbrev pub StepCause : (Option ℕ → Option ℕ) → Call → Refusal → Type 0
StepCause step c refusal = AsksKeeperAlone c × AttemptCause (RanStep c.keepers step c.keeper c.keeper_after)
    (c.keepers.faults c.keeper) (c.keepers.faults c.keeper_after) refusal

-- a question on the attempts was answered, and the text is its line
abbrev pub QuestionText : (Option ℕ → Bool) → Call → List ℕ → Type 0
QuestionText question c text = AsksKeeperAlone c
    × Said (WasAsked c.keepers question c.keeper c.keeper_after) answer_line text

-- it was refused, for this cause
abbrev pub QuestionCause : (Option ℕ → Bool) → Call → Refusal → Type 0
QuestionCause question c refusal = AsksKeeperAlone c
    × AttemptCause (WasAsked c.keepers question c.keeper c.keeper_after) (c.keepers.faults c.keeper)
    (c.keepers.faults c.keeper_after) refusal

-- attempts were started, and the text is their line
abbrev pub StartText : ℕ → Call → List ℕ → Type 0
StartText retries c text = AsksKeeperAlone c
    × Said (WasStarted c.keepers retries c.keeper c.keeper_after) (λ n. attempts_line (Some n)) text

-- that was refused, for this cause
abbrev pub StartRefusal : ℕ → Call → Refusal → Type 0
StartRefusal retries c refusal = AsksKeeperAlone c
    × StartCause (WasStarted c.keepers retries c.keeper c.keeper_after) (c.keepers.faults c.keeper)
    (c.keepers.faults c.keeper_after) refusal

-- no call of the keeper fails
abbrev pub KeeperHolds : Call → Type 0
KeeperHolds c = Rose (c.keepers.faults c.keeper) (c.keepers.faults c.keeper_after) → ⊥

-- nothing stands in the way of a command that reads the attempts: the keeper tells a number of them, or none, and no
-- call of it fails
pub record AttemptsInOrder (c : Call) : Type 0 where
  pub kept : Option (List ℕ)
  pub attempts : Option ℕ
  pub told : c.keepers.kept c.keeper ≡ Some kept
  pub tells : Tells kept attempts
  pub holds : KeeperHolds c
