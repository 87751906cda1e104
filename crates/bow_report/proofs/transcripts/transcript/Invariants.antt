use Rattle.std.proofs.Common.{◌≡◌, take}
use Rattle.std.specs.String.{string_bytes}
use Rattle.bow_session.specs.Sessions.{plan_in, state_in}
use Rattle.bow_report.specs.Texts.{transcript_text}
use Rattle.bow_report.proofs.transcripts.transcript.Given as goal

abbrev pub invariant-loop-item : goal.invariant-loop-item
invariant-loop-item g l = string_bytes l.text ≡ transcript_text (plan_in l.session) (state_in l.session).kept (take l.item-index l.item-items)
