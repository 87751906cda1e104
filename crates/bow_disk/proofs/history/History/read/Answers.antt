use Rattle.std.proofs.Common.{◌≡◌, ◌+◌, ◌*◌, ◌-◌, ◌<◌, [], take, drop, get_or, sym, ap, ◌∙◌, arith}
use Rattle.bow_disk.specs.Layout.{Past}
use Rattle.bow_disk.proofs.Blocks.{get_or-blocks_of}
use Rattle.bow_disk.proofs.history.History.read.Goals as goal

pub returns : goal.returns
returns c =
    let h = c.self.inside in
    let size = h.geometry.block_size in
    let at = c.args.at * size in
    let num : at + size - at ≡ size = omega arith in
    let blocks = ap (λ (p : Past). p.geometry.blocks) c.self.view_is in
    let within : c.args.at < h.geometry.blocks = omega (arith, c.requires.within) in
    rw (← c.self.view_is) (
    c.copy_from_slice.ensures.after ∙ ap (λ l. take (at + size - at) (drop at l)) c.deref.ensures.value ∙ ap (λ k. take k (drop at h.bytes.items)) num
    ∙ sym (get_or-blocks_of size h.geometry.blocks c.args.at h.bytes.items within) ∙ ap (λ l. get_or l c.args.at []) c.self.invariant.now)
