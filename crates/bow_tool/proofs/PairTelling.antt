-- What a call over several devices tells: where nothing stands in the way, only want of memory refuses it.
use Rattle.std.proofs.Common.{◌≡◌, inl, inr, ℕ, ◌+◌, List, ◌++◌, Option, None, Some, refl, ap, ◌∙◌, subst, append-nil}
use Rattle.std.specs.Prelude.{slice_get}
use Rattle.std.specs.Io.KnownBytes.{Consumes, IsAtEnd}
use Rattle.bow_disk.specs.Disk.{Goes}
use Rattle.bow_core.specs.Openings.{OpenCause}
use Rattle.bow_core.specs.declared.device.OpenFault.{OpenFault}
use Rattle.bow_core.specs.declared.device.OpenFault.TheVariants as opens
use Rattle.bow_chain.specs.Laws.{FaultyIsNotSound}
use Rattle.bow_script.specs.declared.scripts.Line.{Line}
use Rattle.bow_script.specs.Grammar.{lines_of}
use Rattle.bow_script.specs.Scripts.{IsScriptText}
use Rattle.bow_script.proofs.Spelled.{one_script}
use Rattle.bow_pair.specs.Joining.{fault_at}
use Rattle.bow_pair.specs.Pairs.{MayBeDealt}
use Rattle.bow_play.specs.Reading.{GaveNoScript, GaveScript, ScriptCause}
use Rattle.bow_play.specs.declared.faults.PlayFault.{PlayFault}
use Rattle.bow_play.specs.declared.faults.PlayFault.TheVariants as plays
use Rattle.bow_words.specs.declared.pair_words.PairCommand.{PairCommand}
use Rattle.bow_words.specs.declared.pair_words.PairCommand.TheVariants.{Pair, PairBoot}
use Rattle.bow_tool.specs.declared.outcomes.Outcome.{Outcome}
use Rattle.bow_tool.specs.declared.outcomes.Outcome.TheVariants as outcome
use Rattle.bow_tool.specs.declared.refusals.Refusal.{Refusal}
use Rattle.bow_tool.specs.declared.refusals.Refusal.TheVariants.{BadWords, BadScript, SourceFault, DiskFault, KeeperFault, NeedsRestore, BadChain, BadHeader, Reserved, BadAttempts, NoMemory, Stopped, BadGeometry}
use Rattle.bow_tool.specs.Commands.{IsOutcomePut, TellsOf}
use Rattle.bow_tool.specs.PairCalls.{PairCall, pair_source}
use Rattle.bow_tool.specs.PairCommands.{IsPairOutcome, pair_meaning}
use Rattle.bow_tool.specs.PairPlays.{HasNoScript, IsNotJoined, KeeperCause, PairBehind, PairCause, PairInOrder, TellsPairScript, refusal_of_pair}
use Rattle.bow_tool.specs.Play.{TellsScript, refusal_for}
use Rattle.bow_tool.specs.Refusals.{status_of}
use Rattle.bow_tool.proofs.PairSettling.{pair_boot_ends}
use Rattle.bow_tool.proofs.Playing.{no_other, plain_kept, whole_text}
use Rattle.bow_tool.proofs.PairKeeping.{never_failed}
use Rattle.bow_tool.proofs.Telling.{put_told, refusal_told, text_told}

-- a script that may be dealt out is a script
is_script : (left : Option (List ℕ)) → TellsPairScript left → TellsScript left
is_script None tells = tells
is_script (Some text) tells = (tells.0, tells.1)

-- and the source gives no other one
is_dealt : (left rest : Option (List ℕ)) (text : List ℕ) (script : List (List (List Line))) → TellsPairScript left → Consumes left rest text → IsAtEnd rest → IsScriptText text script → MayBeDealt script
is_dealt None rest text script tells bytes at_end spelled = absurd tells
is_dealt (Some xs) None text script tells bytes at_end spelled = absurd bytes
is_dealt (Some xs) (Some ys) text script tells bytes at_end spelled =
    let parts : xs ≡ text ++ ys = bytes in
    let same : xs ≡ text = parts ∙ ap (λ l. text ++ l) at_end ∙ append-nil text in
    let told : IsScriptText text tells.0 = subst (λ l. IsScriptText l tells.0) same tells.1 in
    subst MayBeDealt (one_script (lines_of text) tells.0 script told.spelled spelled.spelled) tells.2

no_script_ends : (c : PairCall) (refusal : Refusal) → PairInOrder c → HasNoScript c refusal → status_of refusal ≡ 11
no_script_ends c refusal order none = elim none.2 [
  | inl fault ↦ ap status_of fault.1 ∙ by_fault fault.0 fault.2
  | inr other ↦
      let gave : GaveScript (pair_source c) other.1.0 = other.1.1 in
      absurd (other.1.2 (is_dealt (pair_source c).left (pair_source c).rest gave.text other.1.0 order.script gave.bytes.0 gave.ended.0 gave.spelled))
]
  where
    by_fault : (fault : PlayFault) → ScriptCause (pair_source c) (c.sources.faults c.source) (c.sources.faults c.source_after) fault → status_of (refusal_for fault) ≡ 11
    by_fault plays.SourceFault cause = absurd (order.source cause)
    by_fault (plays.BadScript line) cause = let gave : GaveNoScript (pair_source c) line = cause in absurd (no_other (pair_source c).left (pair_source c).rest gave.text line (is_script (pair_source c).left order.script) gave.bytes.0 (whole_text (pair_source c) line gave) gave.fault)
    by_fault (plays.BadGeometry g) cause = absurd cause
    by_fault plays.DiskFault cause = absurd cause
    by_fault plays.NeedsRestore cause = absurd cause
    by_fault plays.NoMemory cause = refl

kept_ends : (c : PairCall) (refusal : Refusal) → PairInOrder c → KeeperCause c.keepers c.keeper c.keeper_after refusal → status_of refusal ≡ 11
kept_ends c BadWords order cause = absurd cause
kept_ends c (BadScript line) order cause = absurd cause
kept_ends c SourceFault order cause = absurd cause
kept_ends c DiskFault order cause = absurd cause
kept_ends c KeeperFault order cause = absurd (order.calls.keeper cause)
kept_ends c NeedsRestore order cause = absurd (cause None order.nothing refl)
kept_ends c (BadChain fault) order cause = absurd cause
kept_ends c (BadHeader fault) order cause = absurd cause
kept_ends c Reserved order cause = absurd cause
kept_ends c BadAttempts order cause = absurd cause
kept_ends c NoMemory order cause = refl
kept_ends c (Stopped writes) order cause = absurd cause
kept_ends c (BadGeometry g) order cause = absurd cause

not_joined_ends : (c : PairCall) (refusal : Refusal) → PairInOrder c → IsNotJoined c refusal → status_of refusal ≡ 11
not_joined_ends c refusal order none = elim none.3.2 [
  | inl memory ↦ ap status_of (none.3.1 ∙ ap refusal_of_pair memory.0)
  | inr stops ↦
      let here = stops.3.here in
      ap status_of (none.3.1 ∙ ap refusal_of_pair stops.2) ∙ by_fault stops.0 here.0 here.1 here.2 here.3 stops.1 here.4.image here.5
]
  where
    by_fault : (k : ℕ) (d e : c.Disk) → slice_get c.disks k ≡ Some d → slice_get c.disks_after k ≡ Some e → (why : OpenFault) → Goes (λ x y. y.now ≡ x.now) (c.views.content d) (c.views.content e)
        → OpenCause c.views.stated c.views.content c.views.moment c.views.faults d e why → status_of (refusal_of_pair (fault_at k why)) ≡ 11
    by_fault k d e was is (opens.BadGeometry g) image cause = absurd (cause.1 (order.sizes k e is g cause.0))
    by_fault k d e was is opens.NeedsRestore image cause =
        let plain = order.plain k d was in
        absurd (plain.2 (plain_kept (c.views.content d) (c.views.content e) plain.0 plain.1 image cause.1))
    by_fault k d e was is opens.DiskFault image cause = absurd (order.calls.disks k d e was is cause.0)
    by_fault k d e was is opens.NoMemory image cause = refl

pair_ends : (c : PairCall) (refusal : Refusal) → PairInOrder c → PairCause c refusal → status_of refusal ≡ 11
pair_ends c refusal order (inl none) = no_script_ends c refusal order none
pair_ends c refusal order (inr (inl kept)) = kept_ends c refusal order kept.3
pair_ends c refusal order (inr (inr (inl none))) = not_joined_ends c refusal order none
pair_ends c refusal order (inr (inr (inr memory))) = ap status_of memory.0

-- neither a device nor the keeper fails with the decision
pair_clears : (c : PairCall) (refusal : Refusal) (text : List ℕ) → PairInOrder c → PairBehind c refusal text → ⊥
pair_clears c refusal text order behind = never_failed c behind.0 behind.1 behind.2 order.calls (behind.1).prepared (behind.2).ended refusal behind.4

-- what a call tells over several devices, by the outcome that it put
pub pair_outcome_told : (law : FaultyIsNotSound) (command : PairCommand) (c : PairCall) (o : Outcome) (had has : Option (List ℕ)) (faults now status : ℕ) → IsPairOutcome command c o → IsOutcomePut o had has faults now status → TellsOf (pair_meaning c) command had has faults now status
pair_outcome_told law (Pair number images) c (outcome.Done text) had has faults now status did put = text_told _ _ _ _ _ text.items had has faults now status did put
pair_outcome_told law (Pair number images) c (outcome.Refused refusal) had has faults now status cause put = refusal_told _ _ _ _ _ refusal had has faults now status cause (λ order. inl (pair_ends c refusal order cause)) put
pair_outcome_told law (Pair number images) c (outcome.Behind refusal text) had has faults now status failed put = put_told _ _ _ _ _ refusal text.items had has faults now status (inr failed) (λ order is. absurd (pair_clears c refusal text.items order failed)) put
pair_outcome_told law (PairBoot images) c (outcome.Done text) had has faults now status did put = text_told _ _ _ _ _ text.items had has faults now status did put
pair_outcome_told law (PairBoot images) c (outcome.Refused refusal) had has faults now status cause put = refusal_told _ _ _ _ _ refusal had has faults now status cause (λ order. inl (pair_boot_ends law c refusal order cause)) put
pair_outcome_told law (PairBoot images) c (outcome.Behind refusal text) had has faults now status failed put = absurd failed
