-- What is told of several devices.
use Rattle.std.specs.Prelude.{ℕ, zero, suc, List, [], ◌++◌, codes, slice_get, Option, None, Some}
use Rattle.std.specs.Fmt.{decimal}
use Rattle.bow_report.specs.Texts.{transcript_text}
use Rattle.bow_core.specs.Views.{View}
use Rattle.bow_session.specs.Parts.{Account, buffers_in, plan_at}
use Rattle.bow_pair.specs.declared.deciding.Decided.{Decided}
use Rattle.bow_pair.specs.declared.deciding.Decided.TheVariants as decided
use Rattle.bow_pair.specs.declared.pairs.Prepared.{Prepared}
use Rattle.bow_tool.specs.declared.refusals.Refusal.TheVariants.{DiskFault, KeeperFault}
use Rattle.bow_tool.specs.declared.verdicts.Verdict.{Verdict}
use Rattle.bow_tool.specs.declared.verdicts.Verdict.TheVariants.{Committed, NotPrepared, NotCommitted, Failed}
use Rattle.bow_tool.specs.Refusals.{refusal_line}

-- the transcript of a session, by what it left
abbrev pub part_text : Account → List ℕ
part_text a = transcript_text (plan_at a) (buffers_in a) a.journal

-- where there was one
abbrev pub told_in : Option Account → List ℕ
told_in None = []
told_in (Some a) = part_text a

-- the lines of a device: its number, and the transcripts of its first session and of its second one
abbrev pub device_text : ℕ → List Account → List Account → List ℕ
device_text k first second = codes "device " ++ (decimal k ++ (codes "\n" ++ (told_in (slice_get first k)
    ++ told_in (slice_get second k))))

-- the lines of the first so many devices, by what their first sessions left, and their second ones
abbrev pub devices_text : ℕ → List Account → List Account → List ℕ
devices_text zero first second = []
devices_text (suc k) first second = devices_text k first second ++ device_text k first second

-- the line of how devices ended
abbrev pub verdict_line : Verdict → List ℕ
verdict_line Committed = codes "committed\n"
verdict_line (NotPrepared device) = codes "not prepared " ++ decimal device ++ codes "\n"
verdict_line (NotCommitted device) = codes "not committed " ++ decimal device ++ codes "\n"
verdict_line (Failed refusal) = refusal_line refusal

-- what a decision comes to
abbrev pub verdict_of : Decided → Verdict
verdict_of decided.Committed = Committed
verdict_of (decided.NotCommitted device) = NotCommitted device
verdict_of (decided.Unfinished device) = Failed DiskFault
verdict_of decided.KeeperFault = Failed KeeperFault

-- The way of devices that were to commit together, once they were opened: the devices as the first sessions left them,
-- and the second ones, and as they are left; what the sessions left beside them; how the first ones ended, and how all
-- did.
pub record PairRun (D : Type 0) : Type 0 where
  pub ready : List (View D)
  pub ran : List (View D)
  pub now : List (View D)
  pub first : List Account
  pub second : List Account
  pub prepared : Prepared
  pub verdict : Verdict

-- what is told of so many devices that went it
abbrev pub pair_text : {D : Type 0} → ℕ → PairRun D → List ℕ
pair_text count r = devices_text count r.first r.second ++ verdict_line r.verdict
