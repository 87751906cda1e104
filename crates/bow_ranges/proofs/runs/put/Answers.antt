use Rattle.std.proofs.Common.{List, drop, None, Some, sym, ap, ◌∙◌, subst, arith}
use Rattle.bow_ranges.specs.declared.runs.Run.{Run}
use Rattle.bow_ranges.specs.Runs.{kind_of, IsNormal}
use Rattle.bow_ranges.proofs.RunEdits.{front, cut_inside, cut_order, right_room, tail_room, kind_before, put_is}
use Rattle.bow_ranges.proofs.runs.put.Goals as goal

pub put_right-requires-clause-within : goal.put_right-requires-clause-within
put_right-requires-clause-within c =
    let cut = rw c.deref.ensures.value at c.count_within-low.ensures in
    let cut_end = rw c.deref-2.ensures.value at c.count_within-high.ensures in
    cut_order c.args.runs.now.items c.args.start c.args.end c.count_within-low.result c.count_within-high.result c.index.result.now c.requires.normal cut cut_end c.requires.some

pub put_right-requires-clause-room : goal.put_right-requires-clause-room
put_right-requires-clause-room c =
    let cut = rw c.deref.ensures.value at c.count_within-low.ensures in
    let cut_end = rw c.deref-2.ensures.value at c.count_within-high.ensures in
    let order = cut_order c.args.runs.now.items c.args.start c.args.end c.count_within-low.result c.count_within-high.result c.index.result.now c.requires.normal cut cut_end c.requires.some in
    let room = right_room c.args.runs.now.items c.args.start c.args.end c.count_within-low.result c.count_within-high.result c.requires.normal cut cut_end c.requires.some c.requires.inside order in
    omega (arith, room, c.requires.room)

pub put_left-requires-clause-normal : goal.put_left-requires-clause-normal
put_left-requires-clause-normal c = subst (λ (l : List Run). IsNormal 0 None l) (sym c.put_right.ensures.head) (front c.args.runs.now.items c.count_within-low.result c.requires.normal)

pub put_left-requires-clause-last : goal.put_left-requires-clause-last
put_left-requires-clause-last c =
    let cut = rw c.deref.ensures.value at c.count_within-low.ensures in
    let cut_end = rw c.deref-2.ensures.value at c.count_within-high.ensures in
    let inside = cut_inside c.args.runs.now.items c.args.start c.count_within-low.result cut (omega (arith, c.requires.some, c.requires.inside)) in
    let before = kind_before c.args.runs.now.items c.count_within-low.result c.index.result.now c.requires.normal inside in
    λ e. before (ap (kind_of None) (sym c.put_right.ensures.head) ∙ e ∙ ap (λ (r : Run). Some r.kind) c.index.ensures)

pub put_left-requires-clause-room : goal.put_left-requires-clause-room
put_left-requires-clause-room c =
    let cut = rw c.deref.ensures.value at c.count_within-low.ensures in
    let cut_end = rw c.deref-2.ensures.value at c.count_within-high.ensures in
    let room = tail_room c.args.runs.now.items (drop c.count_within-low.result c.put_right.new.runs.items) c.args.start c.args.end c.count_within-high.result c.args.kind c.put_right.ensures.tail cut_end c.requires.inside in
    omega (arith, room, c.requires.room, c.put_right.ensures.room_stays)

pub returns-clause-put : goal.returns-clause-put
returns-clause-put c =
    let cut = rw c.deref.ensures.value at c.count_within-low.ensures in
    let cut_end = rw c.deref-2.ensures.value at c.count_within-high.ensures in
    put_is c.args.runs.now.items c.put_right.new.runs.items c.put_left.new.runs.items c.count_within-low.result c.count_within-high.result c.put_left.result c.args.start c.args.end c.args.kind c.index.result.now.kind c.index.result.now c.requires.normal cut cut_end c.requires.some c.requires.inside (ap (λ (r : Run). r.kind) c.index.ensures)
    c.put_right.ensures.head c.put_right.ensures.tail c.put_left.ensures.head c.put_left.ensures.tail
