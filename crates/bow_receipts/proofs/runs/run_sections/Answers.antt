use Rattle.std.proofs.Common.{◌+◌, ◌∙◌, rules}
use Rattle.bow_receipts.proofs.Calling.{all_may, made_all, order_kept}
use Rattle.bow_receipts.proofs.runs.run_sections.Goals as goal

pub loop-section-preserved : goal.loop-section-preserved
loop-section-preserved g c =
    let l = c.loop-section in
    let step = c.run_section.ensures in
    let new = c.run_section.new.passes in
    record {
      many = step.many ∙ l.invariant.many;
      order = order_kept g.J.Naming.sizes c.args.script.now (l.section + 1) l.passes new step.many step.each l.invariant.order;
      made = made_all g.J.Naming.sizes c.args.script.now (l.section + 1) new (all_may g.J.Naming.sizes c.args.script.now (l.section + 1) l.passes new step.many step.each) (c.have_made.ensures.all (search rules));
    }

pub returns-then-not-have_made-clause-order : goal.returns-then-not-have_made-clause-order
returns-then-not-have_made-clause-order g c =
    let l = c.loop-section in
    let step = c.run_section.ensures in
    order_kept g.J.Naming.sizes c.args.script.now (l.section + 1) l.passes c.run_section.new.passes step.many step.each l.invariant.order
