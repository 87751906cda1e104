use Rattle.std.proofs.Common.{◌≡◌, ◌∙◌, ap, sym, subst, rules, arith}
use Rattle.bow_disk.specs.Bytes.{image_of}
use Rattle.bow_tool.specs.Drills.{drill_sizes as sizes_of_drill}
use Rattle.bow_tool.proofs.Patterns.{drill_sizes_are}
use Rattle.bow_tool.proofs.Returning.{IsRestored, restored_last}
use Rattle.bow_tool.proofs.drill_cuts.restore_last.Goals.{In_ok-left}
use Rattle.bow_tool.proofs.drill_cuts.restore_last.Goals as goal

its_end : (c : In_ok-left) → IsRestored sizes_of_drill (image_of sizes_of_drill c.args.last.now) c.in_ok-ended.ended c.in_ok-left.left.items
its_end c =
    let same : c.in_ok-image.image.items ≡ c.args.last.now = search rules in
    let blocks = drill_sizes_are.1 in
    let held = c.requires.held in
    let is = c.in_ok-ended.ensures.is in
    let went = c.in_ok-ended.ensures.went in
    subst (λ answer. IsRestored sizes_of_drill (image_of sizes_of_drill c.args.last.now) answer c.in_ok-left.left.items) (sym is)
    (restored_last sizes_of_drill c.drill_sizes.result c.drill_sizes.ensures.is (omega (arith, blocks)) c.in_ok-disk.disk c.restore-answer.new.disk (image_of sizes_of_drill c.in_ok-image.image.items) (image_of sizes_of_drill c.args.last.now) c.restore-answer.result c.in_ok-left.left.items
    c.in_ok-disk.ensures.settled (ap (image_of sizes_of_drill) same) c.restore-answer.ensures.head c.restore-answer.ensures.each_sound c.restore-answer.ensures.back c.restore-answer.ensures.sizes c.in_ok-left.ensures held.0 held.1 held.2
    (λ memory. went.0 (is ∙ memory)) (λ fault. went.1 (is ∙ fault)))

pub returns-clause-head : goal.returns-clause-head
returns-clause-head c = (its_end (goal.at.returns-clause-head c).In_ok-left).head

pub returns-clause-counts : goal.returns-clause-counts
returns-clause-counts c = (its_end (goal.at.returns-clause-counts c).In_ok-left).counts

pub returns-clause-well : goal.returns-clause-well
returns-clause-well c = (its_end (goal.at.returns-clause-well c).In_ok-left).well

pub returns-clause-back : goal.returns-clause-back
returns-clause-back c = (its_end (goal.at.returns-clause-back c).In_ok-left).back
