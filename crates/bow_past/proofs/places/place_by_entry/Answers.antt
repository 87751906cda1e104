use Rattle.std.proofs.Common.{arith, sym}
use Rattle.bow_log.specs.Generations.{backup_of}
use Rattle.bow_chain.proofs.Hops.{hop_in, hop_out}
use Rattle.bow_past.proofs.places.place_by_entry.Goals.{then-block-source-via-then-block-source, then-block-source-via-else-block-source+then-block-source-2}
use Rattle.bow_past.proofs.places.place_by_entry.Goals as goal

pub returns-then-block-source-clause-is : goal.returns-then-block-source-clause-is
returns-then-block-source-clause-is c =
    let source = c.source_blocks-source.ensures in
    elim c.then-block-source.branch [
      | then-block-source-via-then-block-source w ↦ sym (hop_out (backup_of c.args.geometry c.args.entry) c.args.block (λ h. omega (arith, w.if-block-source, source.first, source.count, h.above)))
      | then-block-source-via-else-block-source+then-block-source-2 w ↦ sym (hop_out (backup_of c.args.geometry c.args.entry) c.args.block (λ h. omega (arith, w.if-block-source.false, w.if-block-source-2, source.first, source.count, h.above, h.below)))
    ]

pub returns-clause-is : goal.returns-clause-is
returns-clause-is c =
    let source = c.source_blocks-source.ensures in
    omega (
      arith,
      c.dest_blocks.ensures.first,
      source.first,
      hop_in (backup_of c.args.geometry c.args.entry) c.args.block (record {
        above = omega (arith, c.if-block-source.false, source.first);
        below = omega (arith, c.if-block-source.false, c.if-block-source-2.false, source.first, source.count);
      }),
    )
