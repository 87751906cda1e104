use Rattle.std.proofs.Common.{◌≡◌, length, arith, map, ap, ◌∙◌}
use Rattle.bow_disk.specs.Bytes.{image_of}
use Rattle.bow_disk.specs.Memory.{flush_change}
use Rattle.bow_disk.specs.Layout.{changes}
use Rattle.bow_disk.proofs.Blocks.{changes-flushed}
use Rattle.bow_disk.proofs.Layouts.{with_writes, flushed_after, flushed_layout}
use Rattle.bow_disk.proofs.history.History.flush.Goals as goal

pub invariant_of-self : goal.invariant_of-self
invariant_of-self c =
    let h = c.self.inside in
    let count : c.len-self-inside.result ≡ length c.flush_marks.new.marks.items = omega arith in
    rw count (flushed_layout h.geometry h.first.items h.bytes.items h.marks.items h.values.items h.room h.settled _ _ c.self.invariant c.args.call c.flush_marks.new.marks.items _ c.flush_marks.ensures.items c.flush_marks.ensures.capacity)

pub returns : goal.returns
returns c =
    let h = c.self.inside in
    let size = h.geometry.block_size in
    with_writes h.geometry (image_of h.geometry h.first.items) (changes size h.marks.items h.values.items) (changes size c.flush_marks.new.marks.items h.values.items) h.room c.args.self.now (map (flush_change c.args.call)) c.self.view_is
    (ap (λ l. changes size l h.values.items) (c.flush_marks.ensures.items ∙ flushed_after c.args.call h.settled h.marks.items c.self.invariant.flushed) ∙ changes-flushed size c.args.call h.marks.items h.values.items)
