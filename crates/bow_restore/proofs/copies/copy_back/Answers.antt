use Rattle.std.proofs.Common.{◌≡◌, ◌+◌, ◌∙◌, Some, sym, ap, subst, arith, rules}
use Rattle.bow_log.specs.Generations.{backup_of}
use Rattle.bow_disk.specs.Disk.{Content, Same, WriteStep}
use Rattle.bow_restore.specs.Limits.{IsLimit, GoesOn, StopsWithin, spent}
use Rattle.bow_disk.specs.Moments.{AddsCuts, Tells}
use Rattle.bow_restore.specs.Replaying.{CopiedBack, IsCutBeside}
use Rattle.bow_restore.proofs.Limits.{goes_none, spent_none, goes_more, spent_more, is_left, stops_at, stops_more, stops_fewer, stops_last}
use Rattle.bow_restore.proofs.Told.{Fits}
use Rattle.bow_restore.proofs.CopiesBack.{copied_none, copied_read, block_back, cut_read, cut_written}
use Rattle.bow_disk.proofs.Moments.{goes_told, adds_none, adds_then, adds_call}
use Rattle.bow_restore.proofs.Moments.{keeps_stated, given, has_block}
use Rattle.bow_restore.proofs.copies.copy_back.Given.{Over}
use Rattle.bow_restore.proofs.copies.copy_back.Goals as goal
use Rattle.bow_restore.proofs.copies.copy_back.Goals.{After-read, After-write}

pub loop-offset-init : goal.loop-offset-init
loop-offset-init g c = record {
  limit = goes_none c.args.left.now c.requires.limit;
  rest = spent_none c.args.left.now;
  sizes = c.requires.sizes;
  faults = omega arith;
  copied = λ k is. record { told = k; is = is; holds = copied_none (backup_of c.args.geometry c.args.entry) k };
  cuts = λ k is. adds_none g.D.Disk.content g.D.Disk.moment g.D.Disk.left_since _ c.args.disk.now;
}

module _ (g : Over) where
  -- after the read of an iteration
  read_stated : (c : After-read g) → g.D.Disk.stated c.read.new.self ≡ Some c.args.geometry
  read_stated c = keeps_stated c.args.geometry _ _ c.loop-offset.invariant.sizes c.read.ensures.always

  read_copied : (c : After-read g) (k : Content) → g.D.Disk.content c.args.disk.now ≡ Some k → Tells g.D.Disk.content (CopiedBack (backup_of c.args.geometry c.args.entry) c.loop-offset.offset k) c.read.new.self
  read_copied c k is =
      let before = c.loop-offset.invariant.copied k is in
      let now = goes_told g.D.Disk.content Same c.loop-offset.disk c.read.new.self before.told before.is c.read.ensures.step in
      record { told = now.told; is = now.is; holds = copied_read (backup_of c.args.geometry c.args.entry) c.loop-offset.offset k before.told now.told before.holds now.holds }

  read_cuts : (c : After-read g) (k : Content) → g.D.Disk.content c.args.disk.now ≡ Some k → AddsCuts g.D.Disk.moment g.D.Disk.left_since (IsCutBeside c.args.geometry (backup_of c.args.geometry c.args.entry) k) c.args.disk.now c.read.new.self
  read_cuts c k is =
      let now = read_copied c k is in
      let fits : Fits c.args.geometry now.told = g.met.D.Disk.shaped c.read.new.self now.told now.is c.args.geometry (read_stated c) in
      adds_then g.D.Disk.content g.D.Disk.moment g.D.Disk.left_since _ c.args.disk.now c.loop-offset.disk c.read.new.self (c.loop-offset.invariant.cuts k is)
      (adds_call g.D.Disk.content g.D.Disk.moment g.D.Disk.left_since _ c.loop-offset.disk c.read.new.self now.told now.is c.read.ensures.time
      (λ cut crash. cut_read c.args.geometry (backup_of c.args.geometry c.args.entry) c.loop-offset.offset k now.told cut fits now.holds crash))

  -- after its write
  write_cuts : (c : After-write g) (k : Content) → g.D.Disk.stated c.read.new.self ≡ Some c.args.geometry
      → Tells g.D.Disk.content (CopiedBack (backup_of c.args.geometry c.args.entry) c.loop-offset.offset k) c.read.new.self
      → AddsCuts g.D.Disk.moment g.D.Disk.left_since (IsCutBeside c.args.geometry (backup_of c.args.geometry c.args.entry) k) c.args.disk.now c.read.new.self
      → AddsCuts g.D.Disk.moment g.D.Disk.left_since (IsCutBeside c.args.geometry (backup_of c.args.geometry c.args.entry) k) c.args.disk.now c.write.new.self
  write_cuts c k stated before cuts =
      let b = backup_of c.args.geometry c.args.entry in
      let now = goes_told g.D.Disk.content (WriteStep c.write.result (c.run_of-run.result.source + c.loop-offset.offset) c.read.new.into) c.read.new.self c.write.new.self before.told before.is c.write.ensures.step in
      let fits : Fits c.args.geometry now.told = g.met.D.Disk.shaped c.write.new.self now.told now.is c.args.geometry (keeps_stated c.args.geometry _ _ stated c.write.ensures.always) in
      adds_then g.D.Disk.content g.D.Disk.moment g.D.Disk.left_since _ c.args.disk.now c.read.new.self c.write.new.self cuts
      (adds_call g.D.Disk.content g.D.Disk.moment g.D.Disk.left_since _ c.read.new.self c.write.new.self now.told now.is c.write.ensures.time
      (λ cut crash. cut_written c.args.geometry b c.loop-offset.offset (c.run_of-run.result.source + c.loop-offset.offset) c.read.new.into k before.told now.told cut fits (omega (arith, c.run_of-run.ensures.count)) (omega (arith, c.run_of-run.ensures.source)) before.holds (given c.write.result _ _ _ _ now.holds) crash))

pub returns-in_err-read-clause-cuts : goal.returns-in_err-read-clause-cuts
returns-in_err-read-clause-cuts g c k is = read_cuts g (goal.at.returns-in_err-read-clause-cuts g c).After-read k is

pub returns-in_err-write-clause-cuts : goal.returns-in_err-write-clause-cuts
returns-in_err-write-clause-cuts g c k is = let q = goal.at.returns-in_err-write-clause-cuts g c in let r = q.After-read in write_cuts g q.After-write k (read_stated g r) (read_copied g r k is) (read_cuts g r k is)

pub read-requires : goal.read-requires
read-requires g c = has_block c.args.geometry _ _ _ c.loop-offset.invariant.sizes (omega (arith, c.run_of-run.ensures.count, c.run_of-run.ensures.dest, c.requires.entry.backup.dest_inside)) (omega arith)

pub write-requires : goal.write-requires
write-requires g c = has_block c.args.geometry _ _ _ (keeps_stated c.args.geometry _ _ c.loop-offset.invariant.sizes c.read.ensures.always) (omega (arith, c.run_of-run.ensures.count, c.run_of-run.ensures.source, c.requires.entry.backup.source_inside)) (omega arith)

pub spend-requires : goal.spend-requires
spend-requires g c = subst IsLimit (sym c.loop-offset.invariant.rest) (is_left c.args.left.now c.loop-offset.offset c.loop-offset.invariant.limit)

pub returns-in_err-spend-clause-stops : goal.returns-in_err-spend-clause-stops
returns-in_err-spend-clause-stops g c =
    let inv = c.loop-offset.invariant in
    let b = backup_of c.args.geometry c.args.entry in
    let one : StopsWithin (spent c.args.left.now c.loop-offset.offset) 1 = stops_last _ (sym inv.rest ∙ c.in_err-spend.ensures.last) in
    let here : StopsWithin c.args.left.now b.count = stops_fewer c.args.left.now (c.loop-offset.offset + 1) b.count (omega (arith, c.run_of-run.ensures.count)) (stops_more c.args.left.now c.loop-offset.offset 1 inv.limit one) in
    search rules

pub returns-in_err-spend-clause-part : goal.returns-in_err-spend-clause-part
returns-in_err-spend-clause-part g c k is n limit =
    let inv = c.loop-offset.invariant in
    let b = backup_of c.args.geometry c.args.entry in
    let all : n ≡ c.loop-offset.offset + 1 = stops_at c.args.left.now c.loop-offset.offset 1 n inv.limit (sym inv.rest ∙ c.in_err-spend.ensures.last) limit in
    let here : Tells g.D.Disk.content (CopiedBack b n k) c.write.new.self =
    subst (λ m. Tells g.D.Disk.content (CopiedBack b m k) c.write.new.self) (sym all)
    (block_back g.D.Disk.content c.args.geometry b c.loop-offset.offset (c.run_of-run.result.dest + c.loop-offset.offset) (c.run_of-run.result.source + c.loop-offset.offset) c.read.new.into k c.loop-offset.disk c.read.new.self c.write.new.self
    (λ m at. g.met.D.Disk.shaped c.read.new.self m at c.args.geometry (keeps_stated c.args.geometry _ _ inv.sizes c.read.ensures.always)) c.requires.entry.backup (omega (arith, c.run_of-run.ensures.count)) (omega (arith, c.run_of-run.ensures.dest)) (omega (arith, c.run_of-run.ensures.source))
    (inv.copied k is) c.read.ensures.step c.in_ok-read.ensures.gives c.in_ok-write.ensures.step) in
    search rules

pub returns-in_err-spend-clause-cuts : goal.returns-in_err-spend-clause-cuts
returns-in_err-spend-clause-cuts g c k is = let q = goal.at.returns-in_err-spend-clause-cuts g c in let r = q.After-read in write_cuts g q.After-write k (read_stated g r) (read_copied g r k is) (read_cuts g r k is)

pub loop-offset-preserved : goal.loop-offset-preserved
loop-offset-preserved g c =
    let q = goal.at.loop-offset-preserved g c in
    let r = q.After-read in
    let inv = c.loop-offset.invariant in
    let b = backup_of c.args.geometry c.args.entry in
    record {
      limit = goes_more c.args.left.now c.loop-offset.offset 1 inv.limit (subst (λ o. GoesOn o 1) inv.rest c.in_ok-spend.ensures.going);
      rest = c.in_ok-spend.ensures.rest ∙ ap (λ o. spent o 1) inv.rest ∙ spent_more c.args.left.now c.loop-offset.offset 1;
      sizes = keeps_stated c.args.geometry _ _ (read_stated g r) c.write.ensures.always;
      faults = omega (arith, inv.faults, c.read.ensures.cause.later, c.write.ensures.cause.later);
      copied = λ k is. block_back g.D.Disk.content c.args.geometry b c.loop-offset.offset (c.run_of-run.result.dest + c.loop-offset.offset) (c.run_of-run.result.source + c.loop-offset.offset) c.read.new.into k c.loop-offset.disk c.read.new.self c.write.new.self
          (λ m at. g.met.D.Disk.shaped c.read.new.self m at c.args.geometry (keeps_stated c.args.geometry _ _ inv.sizes c.read.ensures.always)) c.requires.entry.backup (omega (arith, c.run_of-run.ensures.count)) (omega (arith, c.run_of-run.ensures.dest)) (omega (arith, c.run_of-run.ensures.source))
          (inv.copied k is) c.read.ensures.step c.in_ok-read.ensures.gives c.in_ok-write.ensures.step;
      cuts = λ k is. write_cuts g q.After-write k (read_stated g r) (read_copied g r k is) (read_cuts g r k is);
    }
