use Rattle.std.proofs.Common.{rules, ◌≡◌, ◌≢◌, List, length, take, drop, None, sym, ap, ◌∙◌, subst, refl, arith, length-drop}
use Rattle.std.proofs.lemmas.List.{length-take-le}
use Rattle.bow_ranges.specs.declared.runs.Run.{Run}
use Rattle.bow_ranges.specs.Runs.{IsHead}
use Rattle.bow_ranges.proofs.RunLists.{long, head_longer, head_full}
use Rattle.bow_ranges.proofs.RunEdits.{in_parts_longer, shorter_at, full_at}
use Rattle.bow_ranges.proofs.runs.put_left.Goals as goal

pub replace-requires-clause-room : goal.replace-requires-clause-room
replace-requires-clause-room c =
    let from = rw c.deref.ensures.value at c.start_of.ensures in
    let sizes : length (take c.args.low c.args.runs.now.items) ≡ c.args.low = length-take-le c.args.low c.args.runs.now.items (omega arith) in
    omega (arith, from, sizes, long 0 None (take c.args.low c.args.runs.now.items) c.requires.normal, length-drop c.args.low c.args.runs.now.items, c.requires.room)

pub returns-then-start_of-start-clause-head : goal.returns-then-start_of-start-clause-head
returns-then-start_of-start-clause-head c =
    let from = rw c.deref.ensures.value at c.start_of.ensures in
    let other : c.args.left ≢ c.args.kind = search rules in
    let parts = in_parts_longer c.args.low c.args.runs.now.items c.replace.new.runs.items (record { end = c.args.start; kind = c.args.left }) (drop c.args.low c.args.runs.now.items) (omega arith) c.replace.ensures.items in
    subst (λ (l : List Run). IsHead c.args.start c.args.kind c.args.left (take c.args.low c.args.runs.now.items) l) (sym parts.0)
    (head_longer c.args.start c.args.kind c.args.left (record { end = c.args.start; kind = c.args.left }) (take c.args.low c.args.runs.now.items) c.requires.normal (omega (arith, from)) c.requires.last other refl refl)

pub returns-then-start_of-start-clause-tail : goal.returns-then-start_of-start-clause-tail
returns-then-start_of-start-clause-tail c =
    (in_parts_longer c.args.low c.args.runs.now.items c.replace.new.runs.items (record { end = c.args.start; kind = c.args.left }) (drop c.args.low c.args.runs.now.items) (omega arith) c.replace.ensures.items).1

pub returns-then-eq-2-clause-head : goal.returns-then-eq-2-clause-head
returns-then-eq-2-clause-head c =
    let from = rw c.deref.ensures.value at c.start_of.ensures in
    let same : c.index.result.now.kind ≡ c.args.kind = search rules in
    shorter_at c.args.runs.now.items c.cut_out.new.runs.items (drop c.args.low c.args.runs.now.items) c.args.low c.args.start c.args.kind c.args.left c.index.result.now c.requires.normal (omega (arith, from, c.requires.ends)) (omega arith) (omega arith) (ap (λ (r : Run). r.kind) (sym c.index.ensures) ∙ same) c.cut_out.ensures.items

pub returns-clause-head : goal.returns-clause-head
returns-clause-head c =
    let from = rw c.deref.ensures.value at c.start_of.ensures in
    let other : c.index.result.now.kind ≢ c.args.kind = search rules in
    head_full c.args.start c.args.kind c.args.left (take c.args.low c.args.runs.now.items) c.requires.normal (omega (arith, from, c.requires.ends))
    (full_at c.args.runs.now.items c.args.low c.args.kind c.index.result.now (omega arith) (omega arith) (λ e. other (ap (λ (r : Run). r.kind) c.index.ensures ∙ e)))
