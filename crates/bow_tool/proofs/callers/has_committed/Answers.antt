use Rattle.std.proofs.Common.{false, length, refl}
use Rattle.std.proofs.lemmas.Option.{slice_get_read}
use Rattle.bow_tool.proofs.Spelling.{has_commit, no_commit, none_next, not_both}
use Rattle.bow_tool.proofs.callers.has_committed.Goals as goal

pub returns-then-is_commit_done : goal.returns-then-is_commit_done
returns-then-is_commit_done c =
    let calls = c.args.calls.now in
    let i = c.loop-call.call-index in
    let here = slice_get_read calls (length calls) i c.call-item.result refl c.loop-call-test.true c.call-item.is in
    (λ _. has_commit calls i c.call-item.result here (c.is_commit_done.ensures.0 c.if-is_commit_done.true), λ _. refl)

pub loop-call-preserved : goal.loop-call-preserved
loop-call-preserved c =
    let calls = c.args.calls.now in
    let i = c.loop-call.call-index in
    let here = slice_get_read calls (length calls) i c.call-item.result refl c.loop-call-test.true c.call-item.is in
    none_next calls i c.call-item.result here (λ is. not_both c.is_commit_done.result (c.is_commit_done.ensures.1 is) c.if-is_commit_done.false) c.loop-call.invariant

pub returns : goal.returns
returns c = (λ never. absurd (not_both false never refl), λ has. absurd (no_commit c.args.calls.now c.loop-call.call-index c.loop-call.invariant c.loop-call-test.false has))
