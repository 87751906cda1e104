use Rattle.std.proofs.Common.{◌≡◌, ◌+◌, ◌-◌, ◌*◌, length, arith, rules, sym, ◌∙◌}
use Rattle.bow_chain.specs.Contents.{Contents, contents_of}
use Rattle.bow_chain.specs.Tables.{place_in}
use Rattle.bow_chain.proofs.Quiet.{quiet_read, read_gives}
use Rattle.bow_chain.proofs.SumRuns.{room, read_on, read_length}
use Rattle.bow_chain.proofs.sums.read_run.Goals as goal

pub loop-index-preserved : goal.loop-index-preserved
loop-index-preserved g c =
    let i = c.loop-index.invariant in
    let size = c.args.geometry.block_size in
    let n = c.loop-index.index in
    let most = room size n (omega (arith, c.requires.few)) in
    let whole : length c.read.new.into ≡ size = search rules in
    record {
      long = read_length (size * n) (size * n + size - size * n) c.loop-index.blocks c.read.new.into (omega (arith, whole)) (omega (arith, most, i.long)) ∙ i.long;
      so_far = λ k is.
          let f : Contents = λ x. contents_of k.now (place_in c.args.places.now x) in
          read_on f c.args.first n size c.loop-index.blocks c.read.new.into i.long (omega (arith, c.requires.few)) (i.so_far k is) whole
          (read_gives (g.D.Disk.content c.args.disk.now) (g.D.Disk.content c.loop-index.disk) (place_in c.args.places.now (c.args.first + n)) c.read.new.into i.quiet.step c.in_ok-read.ensures.gives k is);
      quiet = quiet_read c.args.geometry _ _ _ _ _ _ _ _ i.quiet c.read.ensures.always c.read.ensures.step c.read.ensures.time (g.met.D.Disk.counts_now c.loop-index.disk) c.read.ensures.cause.later;
    }

pub returns-clause-run : goal.returns-clause-run
returns-clause-run g c k is = let count : c.loop-index.index ≡ c.args.count = omega arith in rw (sym count) (c.loop-index.invariant.so_far k is)
