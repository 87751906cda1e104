use Rattle.std.proofs.Common.{◌≡◌, ◌≤◌, ◌+◌, ℕ, Some, List, length, arith, ap, ◌∙◌}
use Rattle.std.specs.Prelude.{slice_get}
use Rattle.bow_script.specs.declared.scripts.Line.{Line}
use Rattle.bow_session.specs.Requests.{requests_in, section_lines}
use Rattle.bow_session.proofs.Loads.{few_requests}
use Rattle.bow_receipts.proofs.Calling.{next_here, next_most, section_at, went_on}
use Rattle.bow_receipts.proofs.callers.call_section.Given.{Over}
use Rattle.bow_receipts.proofs.callers.call_section.Goals.{After-lines_of-more}
use Rattle.bow_receipts.proofs.callers.call_section.Goals as goal

-- the section, and the lines of the pass in it
module _ (g : Over) (c : After-lines_of-more g) where
  at : slice_get c.args.script.now c.args.section ≡ Some c.index.result.now
  at = section_at c.script.inside.sections.items c.args.script.now c.args.section c.index.result.now c.script.view_is c.requires.there c.index.ensures

  lines : length c.lines_of-more.result.now ≡ length (section_lines c.index.result.now c.args.pass.now.lane)
  lines = ap (λ (l : List Line). length l) (c.lines_of-more.ensures ∙ ap (section_lines c.index.result.now) c.lane.ensures.is)

  most : c.args.pass.now.may + length c.lines_of-more.result.now ≤ requests_in c.args.script.now c.args.pass.now.lane
  most = next_most g.J.Naming.sizes c.args.script.now c.args.section c.index.result.now at c.args.pass.now c.requires.made (length c.lines_of-more.result.now) lines

pub overflow_cast-more : goal.overflow_cast-more
overflow_cast-more g c =
    let all = most g (goal.at.overflow_cast-more g c).After-lines_of-more in
    let few = few_requests c.args.script.now c.requires.script.1 c.args.pass.now.lane in
    omega (arith, all, few)

pub enter-requires-clause-most : goal.enter-requires-clause-most
enter-requires-clause-most g c =
    let all = most g (goal.at.enter-requires-clause-most g c).After-lines_of-more in
    let allowed = c.requires.allowed c.args.pass.now.lane (let is = c.lane.ensures.is in let inside = c.lane.ensures.inside in omega (arith, is, inside)) in
    omega (arith, all, allowed)

pub enter-requires-clause-few : goal.enter-requires-clause-few
enter-requires-clause-few g c =
    let all = most g (goal.at.enter-requires-clause-few g c).After-lines_of-more in
    let few = few_requests c.args.script.now c.requires.script.1 c.args.pass.now.lane in
    omega (arith, all, few)

pub enter-requires-clause-here : goal.enter-requires-clause-here
enter-requires-clause-here g c n low high =
    let k = (goal.at.enter-requires-clause-here g c).After-lines_of-more in
    ap (λ (f : ℕ → ℕ → ℕ). f c.args.pass.now.lane n) c.requires.sections
    ∙ next_here g.J.Naming.sizes c.args.script.now c.args.section c.index.result.now (at g k) c.args.pass.now c.requires.made (length c.lines_of-more.result.now) (lines g k) n low high

pub returns : goal.returns
returns g c =
    let k = (goal.at.returns g c).After-lines_of-more in
    went_on g.J.Naming.sizes c.args.script.now c.args.section c.index.result.now (at g k) c.args.pass.now c.requires.made (length c.lines_of-more.result.now) (lines g k) c.enter.new.self c.call_all.new.pass c.enter.ensures c.call_all.ensures
