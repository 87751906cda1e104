use Rattle.std.proofs.Common.{◌≡◌, ◌+◌, length, sym, ap, ◌∙◌, subst, arith}
use Rattle.std.specs.Vec.{with_items}
use Rattle.std.proofs.lemmas.List.{with_items_is}
use Rattle.bow_tree.specs.Rows.{put}
use Rattle.bow_tree.specs.Trees.{Store, kinds_in}
use Rattle.bow_tree.specs.Tables.{kinds_of, IsTable}
use Rattle.bow_tree.proofs.Pieces.{store, both}
use Rattle.bow_tree.proofs.Rooms.{fewer}
use Rattle.bow_tree.proofs.Tables.{view_size, table_few, table_changed, put_extent}
use Rattle.bow_tree.proofs.Puts.{put_length}
use Rattle.bow_tree.proofs.tree.RangeTreeRanges.set.Goals as goal

pub overflow_cast-from : goal.overflow_cast-from
overflow_cast-from c =
    let s = c.self.inside in
    let size = view_size s.blocks s.height s.known (s.parts.items, s.cells.items) c.args.self.now c.self.invariant c.self.view_is in
    omega (arith, size, table_few s.blocks s.height s.known (s.parts.items, s.cells.items) c.self.invariant, c.requires)

pub overflow_add-to : goal.overflow_add-to
overflow_add-to c =
    let s = c.self.inside in
    let size = view_size s.blocks s.height s.known (s.parts.items, s.cells.items) c.args.self.now c.self.invariant c.self.view_is in
    omega (arith, size, table_few s.blocks s.height s.known (s.parts.items, s.cells.items) c.self.invariant, c.requires)

pub overflow_cast-to : goal.overflow_cast-to
overflow_cast-to c =
    let s = c.self.inside in
    let size = view_size s.blocks s.height s.known (s.parts.items, s.cells.items) c.args.self.now c.self.invariant c.self.view_is in
    omega (arith, size, table_few s.blocks s.height s.known (s.parts.items, s.cells.items) c.self.invariant, c.requires)

pub set_in-self-inside-requires-clause-room : goal.set_in-self-inside-requires-clause-room
set_in-self-inside-requires-clause-room c =
    let s = c.self.inside in
    let tree : Store = (s.parts.items, s.cells.items) in
    let size = view_size s.blocks s.height s.known tree c.args.self.now c.self.invariant c.self.view_is in
    let to = c.args.extent.first + c.args.extent.count in
    rw (c.deref_mut.ensures.value, c.deref_mut-2.ensures.value) (fewer s.height to s.blocks tree (omega (arith, size, c.requires)) c.self.invariant.fits c.self.invariant.roomy)

-- the table is right, and has this kind from the extent's first block to its last
changed : (c : goal.After-self-3-1) → let s = c.self.inside in let call = c.set_in-self-inside in let first = c.args.extent.first in
    (IsTable s.blocks s.height call.result (call.new.parts, call.new.kinds))
    × (kinds_of s.blocks s.height call.result (call.new.parts, call.new.kinds) ≡ put first (first + c.args.extent.count) c.args.kind (kinds_of s.blocks s.height s.known (s.parts.items, s.cells.items)))
changed c =
    let s = c.self.inside in
    let call = c.set_in-self-inside in
    let first = c.args.extent.first in
    let to = first + c.args.extent.count in
    let size = view_size s.blocks s.height s.known (s.parts.items, s.cells.items) c.args.self.now c.self.invariant c.self.view_is in
    let tree : Store = (s.parts.items, s.cells.items) in
    let after : Store = (call.new.parts, call.new.kinds) in
    let lent = both c.deref_mut.ensures.value c.deref_mut-2.ensures.value in
    table_changed s.blocks s.height first to c.args.kind s.known call.result tree after c.self.invariant (omega (arith, size, c.requires)) call.ensures.tree
    (call.auto.parts ∙ ap length c.deref_mut.ensures.value) (call.auto.kinds ∙ ap length c.deref_mut-2.ensures.value) (call.ensures.put ∙ ap (λ l. put first to c.args.kind (kinds_in s.height s.known l)) lent)

-- what was lent is kept again
kept : (c : goal.After-self-3-1) → let s = c.self.inside in let call = c.set_in-self-inside in
    store (with_items s.parts call.new.parts).items (with_items s.cells call.new.kinds).items ≡ (call.new.parts, call.new.kinds)
kept c =
    let s = c.self.inside in
    let call = c.set_in-self-inside in
    both (with_items_is s.parts call.new.parts (call.auto.parts ∙ c.deref_mut.ensures.len)) (with_items_is s.cells call.new.kinds (call.auto.kinds ∙ c.deref_mut-2.ensures.len))

pub invariant_of-self : goal.invariant_of-self
invariant_of-self c =
    let s = c.self.inside in
    subst (λ l. IsTable s.blocks s.height c.set_in-self-inside.result l) (sym (kept c)) (changed c).0

-- the kinds of the device are changed so
told : (c : goal.After-self-3-1) → let s = c.self.inside in let first = c.args.extent.first in
    kinds_of s.blocks s.height c.set_in-self-inside.result (store (with_items s.parts c.set_in-self-inside.new.parts).items (with_items s.cells c.set_in-self-inside.new.kinds).items)
    ≡ put first (first + c.args.extent.count) c.args.kind c.args.self.now
told c =
    let s = c.self.inside in
    let first = c.args.extent.first in
    ap (λ l. kinds_of s.blocks s.height c.set_in-self-inside.result l) (kept c) ∙ (changed c).1 ∙ ap (put first (first + c.args.extent.count) c.args.kind) c.self.view_is

pub returns-clause-set : goal.returns-clause-set
returns-clause-set c = told c ∙ put_extent c.args.self.now c.args.extent c.args.kind c.requires

pub returns-clause-blocks : goal.returns-clause-blocks
returns-clause-blocks c = ap length (told c) ∙ put_length c.args.extent.first (c.args.extent.first + c.args.extent.count) c.args.kind c.args.self.now
