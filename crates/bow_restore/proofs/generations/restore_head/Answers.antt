use Rattle.std.proofs.Common.{ℕ, ◌≡◌, ◌<◌, ◌∙◌, List, Some, get_or, set, ap, ap₂, subst₂, arith, rules}
use Rattle.bow_log.specs.declared.entries.Entry.{Entry}
use Rattle.bow_log.specs.Spelling.{Fields}
use Rattle.bow_log.specs.Generations.{backup_of}
use Rattle.bow_disk.specs.Disk.{Content, Same, FlushStep, Flushed}
use Rattle.bow_chain.specs.Contents.{contents_of}
use Rattle.bow_restore.specs.Loops.{source_at}
use Rattle.bow_disk.specs.Moments.{AddsCuts, Tells}
use Rattle.bow_restore.specs.Replaying.{HeadPut, HeadBack, IsHeadCut}
use Rattle.bow_restore.proofs.Told.{Fits}
use Rattle.bow_restore.proofs.HeadWrites.{head_then_flush, head_flush_cut}
use Rattle.bow_disk.proofs.Moments.{goes_told, adds_same, adds_then, adds_map, adds_call}
use Rattle.bow_restore.proofs.Moments.{keeps_stated, read_told, flush_cases}
use Rattle.bow_restore.proofs.generations.restore_head.Given.{Over}
use Rattle.bow_restore.proofs.generations.restore_head.Goals as goal
use Rattle.bow_restore.proofs.generations.restore_head.Goals.{After-put_head, After-flush}

module _ (g : Over) where
  stated : (c : After-put_head g) → g.D.Disk.stated c.read.new.self ≡ Some c.args.geometry
  stated c = keeps_stated c.args.geometry _ _ c.requires.sizes c.read.ensures.always

  -- the block is what the first dest held
  read_is : (c : After-put_head g) (k : Content) → g.D.Disk.content c.args.disk.now ≡ Some k → c.read.new.into ≡ contents_of k.now (source_at c.args.geometry c.args.log.now 0).dest
  read_is c k is =
      let same : c.deref.result.now ≡ c.args.log.now.entries = c.deref.ensures.0 ∙ ap (λ (l : Fields). l.entries) c.log.view_is in
      read_told (g.D.Disk.content c.args.disk.now) c.run_of-run.result.dest c.read.new.into k is c.in_ok-read.ensures.gives
      ∙ ap (contents_of k.now) (c.run_of-run.ensures.dest ∙ ap (λ (es : List Entry). (backup_of c.args.geometry (get_or es 0 (record { source = 0; dest = 0; size = 0; sum = 0 }))).dest) same)

  seen : (c : After-put_head g) (k : Content) → g.D.Disk.content c.args.disk.now ≡ Some k → Tells g.D.Disk.content (Same k) c.read.new.self
  seen c k is = goes_told g.D.Disk.content Same c.args.disk.now c.read.new.self k is c.read.ensures.step

  put_cuts : (c : After-put_head g) (k : Content) → g.D.Disk.content c.args.disk.now ≡ Some k
      → AddsCuts g.D.Disk.moment g.D.Disk.left_since (IsHeadCut c.args.geometry (contents_of k.now (source_at c.args.geometry c.args.log.now 0).dest) k.now) c.args.disk.now c.put_head.new.disk
  put_cuts c k is =
      let r = seen c k is in
      adds_then g.D.Disk.content g.D.Disk.moment g.D.Disk.left_since _ c.args.disk.now c.read.new.self c.put_head.new.disk
      (adds_same g.D.Disk.content g.D.Disk.moment g.D.Disk.left_since _ c.args.disk.now c.read.new.self k r.told r.is r.holds.1 c.read.ensures.time (λ t image le crash. g.met.D.Disk.counts_now c.args.disk.now k is t image le crash))
      (adds_map g.D.Disk.content g.D.Disk.moment g.D.Disk.left_since (IsHeadCut c.args.geometry c.read.new.into r.told.now) _ c.read.new.self c.put_head.new.disk
      (λ cut left. subst₂ (λ (v : List ℕ) (now : List (List ℕ)). IsHeadCut c.args.geometry v now cut) (read_is c k is) r.holds.0 left) (c.put_head.ensures.cuts r.told r.is))

  head_back : (c : After-put_head g) (k d : Content) (is : g.D.Disk.content c.args.disk.now ≡ Some k) → d.now ≡ set (seen c k is).told.now 0 c.read.new.into → HeadBack (source_at c.args.geometry c.args.log.now 0) k d
  head_back c k d is now = record { now = now ∙ ap₂ (λ (l : List (List ℕ)) (v : List ℕ). set l 0 v) (seen c k is).holds.0 (read_is c k is) }

  flush_cuts : (q : After-put_head g) (c : After-flush g) (k : Content) → g.D.Disk.content c.args.disk.now ≡ Some k
      → (m : Tells g.D.Disk.content (Same k) c.read.new.self) → Tells g.D.Disk.content (HeadPut c.read.new.into m.told) c.put_head.new.disk → c.read.new.into ≡ contents_of k.now (source_at c.args.geometry c.args.log.now 0).dest
      → AddsCuts g.D.Disk.moment g.D.Disk.left_since (IsHeadCut c.args.geometry (contents_of k.now (source_at c.args.geometry c.args.log.now 0).dest) k.now) c.args.disk.now c.put_head.new.disk
      → AddsCuts g.D.Disk.moment g.D.Disk.left_since (IsHeadCut c.args.geometry (contents_of k.now (source_at c.args.geometry c.args.log.now 0).dest) k.now) c.args.disk.now c.flush.new.self
  flush_cuts q c k is m put read so_far =
      let geo = c.args.geometry in
      let some : 0 < geo.blocks = omega (arith, c.requires.log.device.enough) in
      let d = goes_told g.D.Disk.content (FlushStep c.flush.result) c.put_head.new.disk c.flush.new.self put.told put.is c.flush.ensures.step in
      let fm : Fits geo m.told = g.met.D.Disk.shaped c.read.new.self m.told m.is geo (keeps_stated geo _ _ c.requires.sizes c.read.ensures.always) in
      let fd : Fits geo d.told = g.met.D.Disk.shaped c.flush.new.self d.told d.is geo (keeps_stated geo _ _ c.put_head.ensures.sizes c.flush.ensures.always) in
      adds_then g.D.Disk.content g.D.Disk.moment g.D.Disk.left_since _ c.args.disk.now c.put_head.new.disk c.flush.new.self so_far
      (adds_call g.D.Disk.content g.D.Disk.moment g.D.Disk.left_since _ c.put_head.new.disk c.flush.new.self d.told d.is c.flush.ensures.time
      (λ cut crash. subst₂ (λ (v : List ℕ) (now : List (List ℕ)). IsHeadCut geo v now cut) read m.holds.0 (head_flush_cut geo c.read.new.into m.told put.told d.told cut fm some fd put.holds (flush_cases c.flush.result put.told d.told d.holds) crash)))

pub returns-in_err-put_head-clause-cuts : goal.returns-in_err-put_head-clause-cuts
returns-in_err-put_head-clause-cuts g c k is = put_cuts g (goal.at.returns-in_err-put_head-clause-cuts g c).After-put_head k is

pub returns-in_err-spend_unless-clause-cuts : goal.returns-in_err-spend_unless-clause-cuts
returns-in_err-spend_unless-clause-cuts g c k is = put_cuts g (goal.at.returns-in_err-spend_unless-clause-cuts g c).After-put_head k is

pub returns-in_err-spend_unless-clause-part : goal.returns-in_err-spend_unless-clause-part
returns-in_err-spend_unless-clause-part g c k is =
    let q = (goal.at.returns-in_err-spend_unless-clause-part g c).After-put_head in
    let r = seen g q k is in
    let put = c.in_ok-put_head.ensures.put r.told r.is in
    let here : Tells g.D.Disk.content (HeadBack (source_at c.args.geometry c.args.log.now 0) k) c.put_head.new.disk = record { told = put.told; is = put.is; holds = head_back g q k put.told is put.holds.now } in
    search rules

pub returns-in_err-flush-clause-cuts : goal.returns-in_err-flush-clause-cuts
returns-in_err-flush-clause-cuts g c k is =
    let at = goal.at.returns-in_err-flush-clause-cuts g c in
    let q = at.After-put_head in
    let r = seen g q k is in
    flush_cuts g q at.After-flush k is r (c.in_ok-put_head.ensures.put r.told r.is) (read_is g q k is) (put_cuts g q k is)

pub returns-clause-cuts : goal.returns-clause-cuts
returns-clause-cuts g c k is =
    let at = goal.at.returns-clause-cuts g c in
    let q = at.After-put_head in
    let r = seen g q k is in
    flush_cuts g q at.After-flush k is r (c.in_ok-put_head.ensures.put r.told r.is) (read_is g q k is) (put_cuts g q k is)

pub returns-clause-back : goal.returns-clause-back
returns-clause-back g c k is =
    let q = (goal.at.returns-clause-back g c).After-put_head in
    let r = seen g q k is in
    let put = c.in_ok-put_head.ensures.put r.told r.is in
    let d = goes_told g.D.Disk.content Flushed c.put_head.new.disk c.flush.new.self put.told put.is c.in_ok-flush.ensures.step in
    let h = head_then_flush c.read.new.into r.told put.told d.told put.holds d.holds in
    record { told = d.told; is = d.is; holds = (head_back g q k d.told is h.0, h.1) }
