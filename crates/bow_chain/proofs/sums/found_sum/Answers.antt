use Rattle.std.proofs.Common.{◌≡◌, ◌+◌, ◌*◌, arith, sym, ap, ap₂, ◌∙◌, take}
use Rattle.bow_log.specs.Generations.{backup_of}
use Rattle.bow_log.proofs.Clean.{sized}
use Rattle.bow_chain.specs.Contents.{Contents, contents_of, run_of}
use Rattle.bow_chain.specs.Tables.{place_in}
use Rattle.bow_chain.specs.Runs.{IsRun}
use Rattle.bow_chain.specs.Sound.{sum_at}
use Rattle.bow_chain.proofs.Quiet.{quiet, quiet_then, as_first}
use Rattle.bow_chain.proofs.SumRuns.{no_sum, sum_on}
use Rattle.bow_chain.proofs.sums.found_sum.Goals as goal

pub loop-offset-init : goal.loop-offset-init
loop-offset-init g c = record {
  long = c.requires.eight;
  within = omega arith;
  so_far = λ k is. sym (no_sum (λ x. contents_of k.now x) c.source_blocks-source.result.first c.dest_blocks-dest.result.first);
  quiet = quiet c.args.geometry g.D.Disk.stated g.D.Disk.content g.D.Disk.moment g.D.Disk.left_since g.D.Disk.faults c.args.disk.now c.requires.sizes;
}

pub loop-offset-preserved : goal.loop-offset-preserved
loop-offset-preserved g c =
    let i = c.loop-offset.invariant in
    let size = c.args.geometry.block_size in
    record {
      long = c.read_run.auto.blocks ∙ i.long;
      within = omega (arith, c.min-more.ensures, c.loop-offset-test.true);
      so_far = λ k is.
          let f : Contents = λ x. contents_of k.now (place_in c.args.places.now x) in
          let source = c.source_blocks-source.result.first in
          let dest = c.dest_blocks-dest.result.first in
          let n = c.loop-offset.offset in
          let more = c.min-more.result in
          let bytes = take (size * more) c.read_run.new.blocks in
          let run = as_first (λ blocks. IsRun size bytes (run_of (λ x. contents_of blocks (place_in c.args.places.now x)) (dest + n) more)) (g.D.Disk.content c.args.disk.now) (g.D.Disk.content c.loop-offset.disk) i.quiet.step c.in_ok-read_run.ensures.run k is in
          sum_on f source dest n more size c.loop-offset.sum c.entry_sum-sum.result bytes (omega (arith, (sized size c.requires.valid.size).least)) run (i.so_far k is) c.entry_sum-sum.ensures;
      quiet = quiet_then c.args.geometry _ _ _ _ _ _ _ _ i.quiet c.read_run.ensures.sizes c.read_run.ensures.step c.read_run.ensures.time c.read_run.ensures.cause.later;
    }

pub returns-clause-sum : goal.returns-clause-sum
returns-clause-sum g c k is =
    let b = backup_of c.args.geometry c.args.entry in
    let count : c.loop-offset.offset ≡ b.count = omega (arith, c.loop-offset.invariant.within, c.dest_blocks-dest.ensures.count) in
    let f : Contents = λ x. contents_of k.now (place_in c.args.places.now x) in
    c.loop-offset.invariant.so_far k is
    ∙ ap₂ (λ s d. sum_at s (run_of f d c.loop-offset.offset)) c.source_blocks-source.ensures.first c.dest_blocks-dest.ensures.first
    ∙ ap (λ n. sum_at b.source (run_of f b.dest n)) count
