-- What a run beside a reader comes to.
use Rattle.std.proofs.Common.{◌≡◌, ◌⊎◌, inl, inr, ℕ, zero, suc, ◌≤◌, List, [], ◌++◌, Bool, true, false, Option, None, Some, Result, Ok, Err, IfOk, MatchResult, refl, sym, ap, ◌∙◌, subst, arith, Vec}
use Rattle.std.specs.declared.alloc.Global.{Global}
use Rattle.bow_units.specs.Draws.{next_number}
use Rattle.bow_units.specs.declared.failures.NoMemory.{NoMemory}
use Rattle.bow_units.specs.declared.sizes.Extent.{Extent}
use Rattle.bow_units.specs.declared.sizes.Geometry.{Geometry}
use Rattle.bow_disk.specs.Disk.{Content}
use Rattle.bow_session.specs.Sessions.{Run}
use Rattle.bow_past.specs.Readings.{Reading}
use Rattle.bow_past.specs.Running.{PlaysBeside, ReadsOn, StepsAt, reader_after}
use Rattle.bow_past.specs.Steps.{IsPastStep}
use Rattle.bow_past.specs.declared.ended.PastStep.{PastStep}
use Rattle.bow_past.specs.declared.ended.PastStep.TheVariants as steps
use Rattle.bow_words.specs.declared.commands.Command.TheVariants.{Past}
use Rattle.bow_tool.specs.Commands.{IsOutcome}
use Rattle.bow_tool.specs.Outcomes.{IsTranscriptTold}
use Rattle.bow_tool.specs.Outside.{Call}
use Rattle.bow_tool.specs.Pasts.{IsFirstReader, IsOfBlocks, IsTextBeside, IsToldBeside, PastNotCleared, PastRefused, PastText, WasRunBeside, blocks_from}
use Rattle.bow_tool.specs.Play.{ClearsAfter}
use Rattle.bow_tool.specs.declared.outcomes.Outcome.{Outcome}
use Rattle.bow_tool.specs.declared.outcomes.Outcome.TheVariants as outcome
use Rattle.bow_tool.specs.declared.refusals.Refusal.TheVariants.{KeeperFault, NoMemory as NoRoom}

-- ----------------------------------------------------------------------------------------------------------------
-- A reader is always of the blocks that it was begun for.

module _ {D : Type 0} (stated : D → Option Geometry) (content : D → Option Content) (moment : D → ℕ) (left : D → ℕ → List (List ℕ) → Type 0) (faults : D → ℕ) where
  step_blocks : (p : Reading) (old : Run D) (step : PastStep) (q : Reading) (new : Run D) → IsPastStep stated content moment left faults p old (Ok step) q new → q.extent ≡ p.extent
  step_blocks p old steps.Idle q new (can, same, still) = ap (λ (x : Reading). x.extent) same
  step_blocks p old steps.Working q new (can, looks, log, wanted, keeps) = ap (λ (x : Reading). x.extent) keeps.0
  step_blocks p old (steps.Got block) q new (can, is, bytes, gets, same) = ap (λ (x : Reading). x.extent) same
  step_blocks p old (steps.Failed block) q new (can, at, fails) = ap (λ (x : Reading). x.extent) fails.2
  step_blocks p old (steps.Strange block) q new (can, is, looks, none, same) = ap (λ (x : Reading). x.extent) same

  after_blocks : (e : Extent) (p : Reading) (old : Run D) (result : Result PastStep NoMemory) (q : Reading) (new : Run D) → p.extent ≡ e → IsPastStep stated content moment left faults p old result q new → IsOfBlocks e (reader_after result q)
  after_blocks e p old (Ok step) q new of did = step_blocks p old step q new did ∙ of
  after_blocks e p old (Err none) q new of did = tt

  turn_blocks : (e : Extent) (k : ℕ) (r : Option Reading) (old : Run D) (s : Option Reading) (new : Run D) → IsOfBlocks e r → StepsAt stated content moment left faults k r old s new → IsOfBlocks e s
  turn_blocks e k None old s new of (inl (is, reads)) = absurd reads
  turn_blocks e k (Some p) old s new of (inl (is, (result, q, did, same))) = subst (IsOfBlocks e) (sym same) (after_blocks e p old result q new of did)
  turn_blocks e k r old s new of (inr (same, by)) = subst (IsOfBlocks e) (sym same) of

  pub plays_blocks : (e : Extent) (n x : ℕ) (r : Option Reading) (old : Run D) (s : Option Reading) (new : Run D) → IsOfBlocks e r → PlaysBeside stated content moment left faults n x r old s new → IsOfBlocks e s
  plays_blocks e zero x r old s new of (same, is) = subst (IsOfBlocks e) (sym same) of
  plays_blocks e (suc n) x r old s new of (k, t, mid, drawn, step, rest) = plays_blocks e n (next_number x) t mid s new (turn_blocks e k r old t mid of step) rest

pub first_blocks : (g : Geometry) (e : Extent) (r : Option Reading) → IsFirstReader g e r → IsOfBlocks e r
first_blocks g e None first = tt
first_blocks g e (Some p) first = ap (λ (x : Reading). x.extent) first.1

-- ----------------------------------------------------------------------------------------------------------------
-- What is told of it.

-- the text was told, or found no memory
pub told_beside : {D E : Type 0} (e : Extent) (s : Run D) (r : Option Reading) (text : Result (Vec ℕ Global) E) (cleared : Bool) (o : Outcome) → IfOk text (λ t. IsTextBeside e s r t.items)
    → MatchResult text (λ t. IsTranscriptTold t.items cleared o) (λ _. o ≡ outcome.Refused NoRoom) → IsToldBeside e s r cleared o
told_beside e s r (Ok t) cleared o is told = inr (t.items, is, told)
told_beside e s r (Err none) cleared o is told = inl told

-- what such a run came to
abbrev pub PastCame : ℕ → Extent → Call → Outcome → Type 0
PastCame number e c (outcome.Done text) = PastText number e c text.items
PastCame number e c (outcome.Refused refusal) = PastRefused number e c refusal
PastCame number e c (outcome.Behind refusal text) = (refusal ≡ KeeperFault) × PastNotCleared number e c text.items

pub past_came : (number : ℕ) (e : Extent) (c : Call) (s : Run c.Disk) (r : Option Reading) (cleared : Bool) (o : Outcome) → WasRunBeside number e c r s → ClearsAfter c s cleared → IsToldBeside e s r cleared o → PastCame number e c o
past_came number e c s r cleared o was clears (inl none) = subst (PastCame number e c) (sym none) (inr (refl, (s, (r, was), (cleared, clears))))
past_came number e c s r true (outcome.Done told) was clears (inr (text, is, same)) = (s, r, was, clears, subst (IsTextBeside e s r) (sym same) is)
past_came number e c s r false (outcome.Done told) was clears (inr (text, is, same)) = absurd same
past_came number e c s r true (outcome.Behind refusal told) was clears (inr (text, is, same)) = absurd same
past_came number e c s r false (outcome.Behind refusal told) was clears (inr (text, is, same)) = (same.0, (s, r, was, clears, (text, is, same.1)))
past_came number e c s r cleared (outcome.Refused refusal) was clears (inr (text, is, none)) = inr (none, (s, (r, was), (cleared, clears)))

pub past_outcome : (number first count : ℕ) (c : Call) (o : Outcome) → PastCame number (blocks_from first count) c o → IsOutcome (Past number first count) c o
past_outcome number first count c (outcome.Done text) came = came
past_outcome number first count c (outcome.Refused refusal) came = came
past_outcome number first count c (outcome.Behind refusal text) came = came
