-- What several devices came to, as it is told.
use Rattle.std.proofs.Common.{◌≡◌, ◌++◌, inr, ℕ, List, Result, Ok, Err, IfOk, MatchResult, Vec, length, refl, sym, ap, ◌∙◌, subst}
use Rattle.std.specs.declared.alloc.Global.{Global}
use Rattle.bow_core.specs.Views.{View}
use Rattle.bow_session.specs.Parts.{Account}
use Rattle.bow_script.specs.declared.scripts.Line.{Line}
use Rattle.bow_tool.specs.declared.outcomes.Outcome.{Outcome}
use Rattle.bow_tool.specs.declared.outcomes.Outcome.TheVariants as outcome
use Rattle.bow_tool.specs.declared.refusals.Refusal.TheVariants.{NoMemory}
use Rattle.bow_tool.specs.declared.verdicts.Verdict.{Verdict}
use Rattle.bow_tool.specs.declared.verdicts.Verdict.TheVariants.{Committed, NotPrepared, NotCommitted, Failed}
use Rattle.bow_tool.specs.Outside.{DiskView, KeeperView}
use Rattle.bow_tool.specs.PairCalls.{PairCall}
use Rattle.bow_tool.specs.PairLines.{PairRun, devices_text, pair_text, verdict_line}
use Rattle.bow_tool.specs.PairPlays.{EndsWell, IsPairTold, JoinedCame, PairCame, WentOn, WereJoined}
use Rattle.bow_tool.proofs.PairKeeping.{Laws, pair_keeps}

module _ {D K : Type 0} (v : DiskView D) (w : KeeperView K) (script : List (List (List Line))) (opened : List (View D)) (from to : K) (after : List D) where
  -- the text of devices that went so was told
  pair_told : (count : ℕ) (r : PairRun D) → WentOn v w script opened from to after r → (text : List ℕ) → text ≡ pair_text count r → (verdict : Verdict) → r.verdict ≡ verdict → (o : Outcome) → IsPairTold text verdict o → JoinedCame v w script opened from to after count o
  pair_told count r way text is Committed ended (outcome.Done told) so = (r, way, subst EndsWell (sym ended) tt, so ∙ is)
  pair_told count r way text is Committed ended (outcome.Refused refusal) so = absurd so
  pair_told count r way text is Committed ended (outcome.Behind refusal told) so = absurd so
  pair_told count r way text is (NotPrepared device) ended (outcome.Done told) so = (r, way, subst EndsWell (sym ended) tt, so ∙ is)
  pair_told count r way text is (NotPrepared device) ended (outcome.Refused refusal) so = absurd so
  pair_told count r way text is (NotPrepared device) ended (outcome.Behind refusal told) so = absurd so
  pair_told count r way text is (NotCommitted device) ended (outcome.Done told) so = (r, way, subst EndsWell (sym ended) tt, so ∙ is)
  pair_told count r way text is (NotCommitted device) ended (outcome.Refused refusal) so = absurd so
  pair_told count r way text is (NotCommitted device) ended (outcome.Behind refusal told) so = absurd so
  pair_told count r way text is (Failed why) ended (outcome.Done told) so = absurd so
  pair_told count r way text is (Failed why) ended (outcome.Refused refusal) so = absurd so
  pair_told count r way text is (Failed why) ended (outcome.Behind refusal told) so = (r, way, ended ∙ ap Failed (sym so.0), so.1 ∙ is)

  -- or there was no memory for it
  pub joined_told : {E : Type 0} (count : ℕ) (r : PairRun D) → WentOn v w script opened from to after r → (first second : List Account) (verdict : Verdict) → (r.verdict ≡ verdict) × (r.first ≡ first) × (r.second ≡ second) → (text : Result (Vec ℕ Global) E) (o : Outcome)
      → IfOk text (λ t. t.items ≡ devices_text count first second ++ verdict_line verdict) → MatchResult text (λ t. IsPairTold t.items verdict o) (λ _. o ≡ outcome.Refused NoMemory) → JoinedCame v w script opened from to after count o
  joined_told count r way first second verdict same (Ok t) o is told =
      let spelled : devices_text count first second ++ verdict_line verdict ≡ pair_text count r = ap (λ (l : List Account). devices_text count l second ++ verdict_line verdict) (sym same.1) ∙ ap (λ (l : List Account). devices_text count r.first l ++ verdict_line verdict) (sym same.2) ∙ ap (λ (x : Verdict). devices_text count r.first r.second ++ verdict_line x) (sym same.0) in
      pair_told count r way t.items (is ∙ spelled) verdict same.0 o told
  joined_told count r way first second verdict same (Err e) o is told = subst (JoinedCame v w script opened from to after count) (sym told) (refl, inr (r, way))

-- what joined devices came to, as a call over them, and what the laws of several devices promise of it
pub joined_came : (c : PairCall) → Laws c.views → (j : WereJoined c) (count : ℕ) → count ≡ length c.disks → (o : Outcome) → JoinedCame c.views c.keepers j.script j.opened j.read c.keeper_after c.disks_after count o → PairCame c o
joined_came c laws j count many (outcome.Done text) came = (j, came.0, came.1, pair_keeps c j came.0 came.1 laws, came.2, came.3 ∙ ap (λ n. pair_text n came.0) many)
joined_came c laws j count many (outcome.Refused refusal) came = inr (inr (inr (came.0, (j, came.1))))
joined_came c laws j count many (outcome.Behind refusal text) came = (j, came.0, came.1, pair_keeps c j came.0 came.1 laws, came.2, came.3 ∙ ap (λ n. pair_text n came.0) many)
