use Rattle.std.proofs.Common.{refl, arith}
use Rattle.std.proofs.lemmas.Bool.{false≢true}
use Rattle.bow_ranges.proofs.RunEdits.{right_taken, right_put}
use Rattle.bow_ranges.proofs.runs.put_right.Goals as goal

pub returns-then-begins_with-clause-tail : goal.returns-then-begins_with-clause-tail
returns-then-begins_with-clause-tail c =
    let told = rw c.deref.ensures.value at c.if-begins_with.ensures in
    right_taken c.args.runs.now.items c.cut_out.new.runs.items c.args.low c.args.high c.args.start c.args.run.end c.args.run.kind c.requires.normal (omega arith) c.requires.some c.requires.above (told.0 refl) c.cut_out.ensures.items

pub returns-clause-tail : goal.returns-clause-tail
returns-clause-tail c =
    let told = rw c.deref.ensures.value at c.if-begins_with.ensures in
    right_put c.args.runs.now.items c.replace.new.runs.items c.args.low c.args.high c.args.start c.args.run c.requires.normal (omega arith) c.requires.some c.requires.above (λ begins. absurd (false≢true (told.1 begins))) c.replace.ensures.items
