use Rattle.std.proofs.Common.{List, length, sym, ap, subst, ◌∙◌}
use Rattle.bow_tags.specs.Seats.{Numbered}
use Rattle.bow_receipts.specs.Called.{InOrder}
use Rattle.bow_receipts.specs.Closing.{IsClosed, entries_of}
use Rattle.bow_receipts.specs.Openings.{IsNewPass}
use Rattle.bow_receipts.specs.Passes.{Caller}
use Rattle.bow_receipts.proofs.Calling.{are_allowed, is_complete, new_made, new_order, written_back}
use Rattle.bow_receipts.proofs.runs.run_named.Goals as goal

pub run_sections-whole-requires-clause-made : goal.run_sections-whole-requires-clause-made
run_sections-whole-requires-clause-made g c κs within =
    new_made g.J.Naming.sizes c.args.script.now c.as_mut_slice.result.now (subst (Numbered (IsNewPass (λ lane. 0))) (sym c.as_mut_slice.ensures.value) c.in_ok-desk.ensures.passes.1)

pub run_sections-whole-requires-clause-order : goal.run_sections-whole-requires-clause-order
run_sections-whole-requires-clause-order g c κs within =
    new_order g.J.Naming.sizes c.args.script.now c.as_mut_slice.result.now (subst (Numbered (IsNewPass (λ lane. 0))) (sym c.as_mut_slice.ensures.value) c.in_ok-desk.ensures.passes.1)

pub run_sections-whole-requires-clause-allowed : goal.run_sections-whole-requires-clause-allowed
run_sections-whole-requires-clause-allowed g c κs within =
    are_allowed c.args.script.now g.J.Naming.callers g.J.Naming.allowed c.args.callers.calls c.requires.counts c.requires.named.2 c.requires.named.3

pub close-requires-clause-order : goal.close-requires-clause-order
close-requires-clause-order g c =
    let run = c.run_sections-whole.ensures in
    let back = written_back c.in_ok-desk.passes.len c.run_sections-whole.new.passes c.in_ok-desk.passes.items (run.many ∙ c.as_mut_slice.ensures.len) in
    subst InOrder (sym back) run.order

pub returns-clause-called : goal.returns-clause-called
returns-clause-called g c =
    let run = c.run_sections-whole.ensures in
    let new = c.run_sections-whole.new.passes in
    let closed = c.close.result in
    let back = written_back c.in_ok-desk.passes.len new c.in_ok-desk.passes.items (run.many ∙ c.as_mut_slice.ensures.len) in
    record {
      passes = new;
      closed = subst (λ (ps : List Caller). IsClosed g.D.Disk.content g.D.Disk.moment g.D.Disk.left_since g.D.Disk.faults g.J.Naming.sizes g.J.Naming.callers g.J.Naming.begins ps closed.core closed.journal.items (entries_of closed.calls.items)) back c.close.ensures.closed;
      many = run.many ∙ ap (λ (ps : List Caller). length ps) c.as_mut_slice.ensures.value ∙ c.in_ok-desk.ensures.passes.0;
      order = run.order;
      called = run.called;
    }

pub returns-clause-complete : goal.returns-clause-complete
unfolding returns-clause-called
returns-clause-complete g c whole =
    let run = c.run_sections-whole.ensures in
    let closed = c.close.result in
    let called = returns-clause-called g c in
    is_complete g.J.Naming.sizes c.args.script.now g.J.Naming.callers g.J.Naming.section c.run_sections-whole.new.passes closed.journal.items (entries_of closed.calls.items) (c.requires.named.2 ∙ c.requires.counts.many) c.requires.sections
    called.many called.order called.called (run.whole whole) (called.closed).own (called.closed).order c.close.ensures.sections
