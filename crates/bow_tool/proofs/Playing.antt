-- Where nothing stands in the way of a play, only want of memory refuses it.
use Rattle.std.proofs.Common.{◌≡◌, ◌⊎◌, inl, inr, ℕ, ◌+◌, ◌≤◌, List, ◌++◌, length, Option, None, Some, refl, ap, ◌∙◌, subst, arith, length-append, append-nil}
use Rattle.bow_disk.specs.Disk.{Goes}
use Rattle.bow_disk.specs.Disk.{Content}
use Rattle.bow_core.specs.Openings.{BeginsMagic}
use Rattle.bow_script.specs.Scripts.{IsScriptText}
use Rattle.bow_script.proofs.Exact.{faultless}
use Rattle.std.specs.Io.KnownBytes.{Consumes, IsAtEnd}
use Rattle.bow_script.specs.Faults.{IsCause}
use Rattle.bow_script.specs.declared.faults.ScriptFault.TheVariants as scripts
use Rattle.bow_play.specs.Reading.{Taken, GaveNoScript}
use Rattle.bow_play.specs.declared.faults.PlayFault.{PlayFault}
use Rattle.bow_play.specs.declared.faults.PlayFault.TheVariants as plays
use Rattle.bow_tool.specs.declared.refusals.Refusal.{Refusal}
use Rattle.bow_tool.specs.Refusals.{status_of}
use Rattle.bow_tool.specs.Outside.{Call, from_source}
use Rattle.bow_session.specs.Sessions.{Run}
use Rattle.bow_units.specs.declared.sizes.Extent.{Extent}
use Rattle.bow_tool.specs.Callers.{CalledNotCleared, CallersRefused}
use Rattle.bow_tool.specs.Pasts.{PastNotCleared}
use Rattle.bow_tool.specs.Play.{PlayInOrder, RunNotCleared, RunRefused, TellsScript, WasNotPlayed, refusal_for}

-- a source that tells a script gives no other text
pub no_other : (left rest : Option (List ℕ)) (text : List ℕ) (line : ℕ) → TellsScript left → Consumes left rest text → IsAtEnd rest ⊎ (length text ≡ 4194305) → IsCause text (scripts.BadScript line) → ⊥
no_other None rest text line tells bytes whole fault = tells
no_other (Some xs) None text line tells bytes whole fault = bytes
no_other (Some xs) (Some ys) text line tells bytes whole fault =
    let few : length xs ≤ 4194304 = tells.1.short in
    let parts : xs ≡ text ++ ys = bytes in
    let long : length xs ≡ length text + length ys = ap length parts ∙ length-append text ys in
    elim whole [
      | inl at_end ↦
          let same : xs ≡ text = parts ∙ ap (λ l. text ++ l) at_end ∙ append-nil text in
          faultless text tells.0 line (subst (λ l. IsScriptText l tells.0) same tells.1) fault
      | inr limit ↦ omega (arith, few, long, limit)
    ]

pub whole_text : (t : Taken) (line : ℕ) (gave : GaveNoScript t line) → IsAtEnd t.rest ⊎ (length gave.text ≡ 4194305)
whole_text t line gave = elim gave.whole [ inl ended ↦ inl ended.0 | inr limit ↦ inr limit ]

-- a disk that told a plain block 0, and whose image was kept, begins with no magic
pub plain_kept : (old new : Option Content) (k : Content) → old ≡ Some k → Goes (λ c d. d.now ≡ c.now) old new → BeginsMagic new → BeginsMagic (Some k)
plain_kept None new k told goes magic = absurd (none_some told)
  where
    none_some : {x : Content} → None ≡ Some x → ⊥
    none_some is = cc
plain_kept (Some c) None k told goes magic = absurd goes
plain_kept (Some c) (Some d) k told goes magic = subst BeginsMagic told (magic_in c d goes magic)
  where
    magic_in : (c d : Content) → d.now ≡ c.now → BeginsMagic (Some d) → BeginsMagic (Some c)
    magic_in c d same magic = rw same at magic

not_played : (c : Call) (fault : PlayFault) → PlayInOrder c → WasNotPlayed c fault → status_of (refusal_for fault) ≡ 11
not_played c plays.SourceFault order none = absurd (order.source none.cause.0)
not_played c (plays.BadScript line) order none = let gave : GaveNoScript (from_source c) line = none.cause.0 in absurd (no_other (from_source c).left (from_source c).rest gave.text line order.script gave.bytes.0 (whole_text (from_source c) line gave) gave.fault)
not_played c (plays.BadGeometry g) order none = absurd (none.cause.1.1 (order.sizes g none.cause.1.0))
not_played c plays.DiskFault order none = absurd (order.disk none.cause.1.0)
not_played c plays.NeedsRestore order none = absurd (order.plain (plain_kept (c.disks.content c.disk) (c.disks.content c.disk_after) order.content order.told none.kept.image none.cause.1.1))
not_played c plays.NoMemory order none = refl

pub run_refused : (c : Call) (Was : Run c.Disk → Type 0) (refusal : Refusal) → PlayInOrder c → RunRefused c Was refusal → status_of refusal ≡ 11
run_refused c Was refusal order (inl none) = ap status_of none.1 ∙ not_played c none.0 order none.2
run_refused c Was refusal order (inr memory) = ap status_of memory.0

-- nor does the keeper fail
pub run_clears : (c : Call) (Was : Run c.Disk → Type 0) (text : List ℕ) → PlayInOrder c → RunNotCleared c Was text → ⊥
run_clears c Was text order failed = order.keeper failed.2.1.rose

-- nor beside a reader
pub past_clears : (number : ℕ) (e : Extent) (c : Call) (text : List ℕ) → PlayInOrder c → PastNotCleared number e c text → ⊥
past_clears number e c text order failed = order.keeper failed.3.1.rose

-- nor do the callers of a script find anything else, or the keeper fail after them
pub callers_refused : (c : Call) (refusal : Refusal) → PlayInOrder c → CallersRefused c refusal → status_of refusal ≡ 11
callers_refused c refusal order (inl none) = ap status_of none.1 ∙ not_played c none.0 order none.2
callers_refused c refusal order (inr memory) = ap status_of memory.0

pub callers_clear : (c : Call) (text : List ℕ) → PlayInOrder c → CalledNotCleared c text → ⊥
callers_clear c text order failed = order.keeper failed.3.1.rose
