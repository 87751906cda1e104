use Rattle.std.proofs.Common.{◌≡◌, length, nat_le, ap, arith}
use Rattle.bow_disk.specs.Layout.{changes}
use Rattle.bow_disk.proofs.Blocks.{length-changes}
use Rattle.bow_disk.proofs.history.History.is_full.Goals as goal

pub returns : goal.returns
returns c =
    let h = c.self.inside in
    let count : c.len.result ≡ length (changes h.geometry.block_size h.marks.items h.values.items) = omega (arith, length-changes h.geometry.block_size h.marks.items h.values.items) in
    rw (← c.self.view_is) (ap (nat_le h.room) count)
