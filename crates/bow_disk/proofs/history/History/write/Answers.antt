use Rattle.std.proofs.Common.{◌≡◌, ◌+◌, ◌*◌, ◌++◌, [], ◌∷◌, length, take, drop, None, refl, ap, ◌∙◌, arith}
use Rattle.bow_disk.specs.declared.history.Mark.{Mark}
use Rattle.bow_disk.specs.Bytes.{image_of}
use Rattle.bow_disk.specs.Layout.{Past, changes}
use Rattle.bow_disk.proofs.Layouts.{with_writes, written_changes, written_layout, room_for_value, room_for_mark}
use Rattle.bow_disk.proofs.history.History.write.Goals as goal

pub push_reserved-requires : goal.push_reserved-requires
push_reserved-requires c =
    let h = c.self.inside in
    let spare = room_for_mark h.geometry (image_of h.geometry h.first.items) h.marks.items h.values.items h.room c.args.self.now c.self.view_is c.requires.spare in
    omega (arith, c.self.invariant.marks_room)

pub append-requires : goal.append-requires
append-requires c =
    let h = c.self.inside in
    let spare = room_for_mark h.geometry (image_of h.geometry h.first.items) h.marks.items h.values.items h.room c.args.self.now c.self.view_is c.requires.spare in
    let size = ap (λ (p : Past). p.geometry.block_size) c.self.view_is in
    omega (arith, c.requires.whole, room_for_value h.geometry.block_size (length h.marks.items) h.room (length h.values.items) _ c.self.invariant.values_len spare c.self.invariant.values_room)

pub invariant_of-self : goal.invariant_of-self
invariant_of-self c =
    let h = c.self.inside in
    let spare = room_for_mark h.geometry (image_of h.geometry h.first.items) h.marks.items h.values.items h.room c.args.self.now c.self.view_is c.requires.spare in
    let size = ap (λ (p : Past). p.geometry.block_size) c.self.view_is in
    let blocks = ap (λ (p : Past). p.geometry.blocks) c.self.view_is in
    let whole : length c.args.from.now ≡ h.geometry.block_size = omega (arith, c.requires.whole) in
    let at = c.args.at * h.geometry.block_size in
    let m : Mark = record { call = c.args.call; block = c.args.at; flushed = None } in
    written_layout h.geometry h.first.items h.bytes.items h.marks.items h.values.items h.room h.settled _ _ c.self.invariant m c.args.from.now (omega (arith, c.requires.within)) whole refl
    c.push_reserved.new.self.items c.append.new.values.items c.put.new.bytes.items _ _ c.push_reserved.ensures.items c.append.ensures.items
    (c.put.ensures ∙ ap (λ k. take at h.bytes.items ++ (c.args.from.now ++ drop (at + k) h.bytes.items)) whole) spare c.push_reserved.ensures.capacity c.append.ensures.capacity

pub returns : goal.returns
returns c =
    let h = c.self.inside in
    let size = ap (λ (p : Past). p.geometry.block_size) c.self.view_is in
    let blocks = ap (λ (p : Past). p.geometry.blocks) c.self.view_is in
    let whole : length c.args.from.now ≡ h.geometry.block_size = omega (arith, c.requires.whole) in
    let m : Mark = record { call = c.args.call; block = c.args.at; flushed = None } in
    with_writes h.geometry (image_of h.geometry h.first.items) (changes h.geometry.block_size h.marks.items h.values.items) (changes h.geometry.block_size c.push_reserved.new.self.items c.append.new.values.items) h.room c.args.self.now
    (λ ws. ws ++ record { call = c.args.call; block = c.args.at; value = c.args.from.now; flushed = None } ∷ []) c.self.view_is
    (written_changes h.geometry h.first.items h.bytes.items h.marks.items h.values.items h.room h.settled _ _ c.self.invariant m c.args.from.now (omega (arith, c.requires.within)) whole refl
    c.push_reserved.new.self.items c.append.new.values.items c.push_reserved.ensures.items c.append.ensures.items)
