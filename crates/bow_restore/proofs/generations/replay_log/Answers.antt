use Rattle.std.proofs.Common.{◌≡◌, ◌+◌, ◌∙◌, ◌∷◌, [], List, Some, take, drop, if◌then◌else◌, sym, refl, ap, subst, arith, rules, inl}
use Rattle.bow_log.specs.Generations.{Backup, Generation, generation_of}
use Rattle.bow_disk.specs.Disk.{Content}
use Rattle.bow_chain.specs.Contents.{contents_of}
use Rattle.bow_chain.specs.Kept.{kept, Keeps, Holds}
use Rattle.bow_restore.specs.Marks.{since_mark}
use Rattle.bow_restore.specs.Copies.{log_copies, writes_in}
use Rattle.bow_restore.specs.Limits.{StopsWithin}
use Rattle.bow_restore.specs.Loops.{source_at}
use Rattle.bow_restore.specs.Rewinds.{every}
use Rattle.bow_disk.specs.Moments.{AddsCuts, Tells}
use Rattle.bow_restore.specs.Replaying.{IsFlushed, Replayed, Holding, LogReplayed, AreMade, HeadBack, IsHeadCut, stops_in}
use Rattle.bow_restore.specs.declared.halts.Halt.TheVariants.{Limit}
use Rattle.bow_restore.proofs.Limits.{goes_step, spent_step, stops_step, stops_fewer, stops_at, stops_last}
use Rattle.bow_restore.proofs.Told.{Fits}
use Rattle.bow_restore.proofs.Cuts.{head_cut}
use Rattle.bow_restore.proofs.LogSteps.{begins, marks_all, stops_all, entries_fewer, log_done, log_part}
use Rattle.bow_disk.proofs.Moments.{tells_map, adds_then, adds_map}
use Rattle.bow_restore.proofs.generations.replay_log.Given.{Over}
use Rattle.bow_restore.proofs.generations.replay_log.Goals as goal
use Rattle.bow_restore.proofs.generations.replay_log.Goals.{After-restore_head}

pub returns-clause-marks : goal.returns-clause-marks
returns-clause-marks g c = let geo = c.args.geometry in let bs = (generation_of geo c.args.log.now).entries in
    c.in_ok-marks.ensures.marks ∙ marks_all geo bs (drop 1 bs) (source_at geo c.args.log.now 0) (begins geo c.args.log.now c.requires.log)

pub returns-clause-going : goal.returns-clause-going
returns-clause-going g c = let geo = c.args.geometry in let bs = (generation_of geo c.args.log.now).entries in
    goes_step c.args.left.now c.replay_entries.new.left (writes_in (drop 1 bs)) (if c.args.is_last then 0 else 1) (stops_in c.args.is_last bs) c.in_ok-marks.ensures.rest (stops_all geo bs (drop 1 bs) (source_at geo c.args.log.now 0) c.args.is_last (begins geo c.args.log.now c.requires.log)) c.in_ok-marks.ensures.going c.in_ok-restore_head.ensures.going

pub returns-clause-rest : goal.returns-clause-rest
returns-clause-rest g c = let geo = c.args.geometry in let bs = (generation_of geo c.args.log.now).entries in
    spent_step c.args.left.now c.replay_entries.new.left c.restore_head.new.left (writes_in (drop 1 bs)) (if c.args.is_last then 0 else 1) (stops_in c.args.is_last bs) c.in_ok-marks.ensures.rest (stops_all geo bs (drop 1 bs) (source_at geo c.args.log.now 0) c.args.is_last (begins geo c.args.log.now c.requires.log)) c.in_ok-restore_head.ensures.rest

pub returns-clause-whole : goal.returns-clause-whole
returns-clause-whole g c k is older h =
    let geo = c.args.geometry in
    let log = generation_of geo c.args.log.now in
    let b = source_at geo c.args.log.now 0 in
    let start = begins geo c.args.log.now c.requires.log in
    let m = c.in_ok-marks.ensures.state k is older h in
    let fits : Fits geo m.told = g.met.D.Disk.shaped c.replay_entries.new.disk m.told m.is geo c.replay_entries.ensures.sizes in
    tells_map g.D.Disk.content (λ d. HeadBack b m.told d × IsFlushed d) (LogReplayed geo log k) c.restore_head.new.disk
    (λ d at back. log_done geo c.requires.log.device log.entries (drop 1 log.entries) b start k m.told fits m.holds.others log d refl back.0 back.1)
    (c.in_ok-restore_head.ensures.back m.told m.is)

module _ (g : Over) where
  head_cuts : (c : After-restore_head g) (k : Content) → g.D.Disk.content c.args.disk.now ≡ Some k → (older : List Generation) → Holding c.args.geometry (generation_of c.args.geometry c.args.log.now) older k
      → AddsCuts g.D.Disk.moment g.D.Disk.left_since (λ image. Holds c.args.geometry every (kept (contents_of k.now) (generation_of c.args.geometry c.args.log.now ∷ older)) (contents_of image)) c.args.disk.now c.restore_head.new.disk
  head_cuts c k is older h =
      let geo = c.args.geometry in
      let log = generation_of geo c.args.log.now in
      let b = source_at geo c.args.log.now 0 in
      let start = begins geo c.args.log.now c.requires.log in
      let m = c.in_ok-marks.ensures.state k is older h in
      let fits : Fits geo m.told = g.met.D.Disk.shaped c.replay_entries.new.disk m.told m.is geo c.replay_entries.ensures.sizes in
      let one : take 1 log.entries ≡ b ∷ [] = ap (take 1) start.split in
      adds_then g.D.Disk.content g.D.Disk.moment g.D.Disk.left_since _ c.args.disk.now c.replay_entries.new.disk c.restore_head.new.disk
      (adds_map g.D.Disk.content g.D.Disk.moment g.D.Disk.left_since (λ image. Keeps geo every (kept (contents_of k.now) (log ∷ older)) (contents_of image)) _ c.args.disk.now c.replay_entries.new.disk (λ cut keeps. inl keeps) (c.replay_entries.ensures.cuts k is older h))
      (adds_map g.D.Disk.content g.D.Disk.moment g.D.Disk.left_since (IsHeadCut geo (contents_of m.told.now b.dest) m.told.now) _ c.replay_entries.new.disk c.restore_head.new.disk
      (λ cut left. head_cut geo c.requires.log.device (kept (contents_of k.now) (log ∷ older)) older (since_mark (drop 1 log.entries)) b m.told cut fits start.first start.source start.count
      (subst (λ (fs : List Backup). Replayed geo (kept (contents_of k.now) (log ∷ older)) older fs (since_mark (drop 1 log.entries)) m.told) one m.holds.state) left)
      (c.restore_head.ensures.cuts m.told m.is))

pub returns-clause-cuts : goal.returns-clause-cuts
returns-clause-cuts g c k is older h = head_cuts g (goal.at.returns-clause-cuts g c).After-restore_head k is older h

pub returns-in_err-restore_head-clause-cuts : goal.returns-in_err-restore_head-clause-cuts
returns-in_err-restore_head-clause-cuts g c k is older h = head_cuts g (goal.at.returns-in_err-restore_head-clause-cuts g c).After-restore_head k is older h

pub returns-in_err-restore_head-clause-stops : goal.returns-in_err-restore_head-clause-stops
returns-in_err-restore_head-clause-stops g c =
    let geo = c.args.geometry in
    let bs = (generation_of geo c.args.log.now).entries in
    let all = stops_all geo bs (drop 1 bs) (source_at geo c.args.log.now 0) c.args.is_last (begins geo c.args.log.now c.requires.log) in
    let here : c.in_err-restore_head.field-0.0 ≡ Limit → StopsWithin c.args.left.now (stops_in c.args.is_last bs) = λ e.
    (let last = c.in_err-restore_head.ensures.stops e in
    let one : writes_in (drop 1 bs) + 1 ≡ stops_in c.args.is_last bs = ap (λ t. writes_in (drop 1 bs) + (if t then 0 else 1)) (sym last.0) ∙ all in
    stops_step c.args.left.now c.replay_entries.new.left (writes_in (drop 1 bs)) 1 (stops_in c.args.is_last bs) (stops_in c.args.is_last bs) c.in_ok-marks.ensures.rest one (omega arith) c.in_ok-marks.ensures.going (stops_last _ last.1)) in
    search rules

pub returns-in_err-restore_head-clause-part : goal.returns-in_err-restore_head-clause-part
returns-in_err-restore_head-clause-part g c k is older h n limit =
    let geo = c.args.geometry in
    let log = generation_of geo c.args.log.now in
    let b = source_at geo c.args.log.now 0 in
    let m = c.in_ok-marks.ensures.state k is older h in
    let fits : Fits geo m.told = g.met.D.Disk.shaped c.replay_entries.new.disk m.told m.is geo c.replay_entries.ensures.sizes in
    let here : c.in_err-restore_head.field-0.0 ≡ Limit → Tells g.D.Disk.content (AreMade geo (log_copies log.entries) n k) c.restore_head.new.disk = λ e.
    (let last = c.in_err-restore_head.ensures.stops e in
    let total = stops_at c.args.left.now (writes_in (drop 1 log.entries)) 1 n c.in_ok-marks.ensures.going (sym c.in_ok-marks.ensures.rest ∙ last.1) limit in
    tells_map g.D.Disk.content (HeadBack b m.told) (AreMade geo (log_copies log.entries) n k) c.restore_head.new.disk
    (λ d at back. log_part geo c.requires.log.device log.entries (drop 1 log.entries) b (begins geo c.args.log.now c.requires.log) k m.told fits m.holds.others n d total back)
    (c.in_err-restore_head.ensures.part m.told m.is e)) in
    search rules

pub returns-in_err-marks-clause-stops : goal.returns-in_err-marks-clause-stops
returns-in_err-marks-clause-stops g c =
    let geo = c.args.geometry in
    let bs = (generation_of geo c.args.log.now).entries in
    let here : c.in_err-marks.field-0.0 ≡ Limit → StopsWithin c.args.left.now (stops_in c.args.is_last bs) = λ e.
    stops_fewer c.args.left.now (writes_in (drop 1 bs)) (stops_in c.args.is_last bs) (entries_fewer geo bs (drop 1 bs) (source_at geo c.args.log.now 0) c.args.is_last (begins geo c.args.log.now c.requires.log)) (c.in_err-marks.ensures.stops e) in
    search rules

pub returns-in_err-marks-clause-part : goal.returns-in_err-marks-clause-part
returns-in_err-marks-clause-part g c k is older h n limit = let e = c.in_err-marks.ensures.part k is older h n limit in search rules

pub returns-in_err-marks-clause-cuts : goal.returns-in_err-marks-clause-cuts
returns-in_err-marks-clause-cuts g c k is older h =
    adds_map g.D.Disk.content g.D.Disk.moment g.D.Disk.left_since (λ image. Keeps c.args.geometry every (kept (contents_of k.now) (generation_of c.args.geometry c.args.log.now ∷ older)) (contents_of image)) _ c.args.disk.now c.replay_entries.new.disk (λ cut keeps. inl keeps) (c.replay_entries.ensures.cuts k is older h)
