use Rattle.std.proofs.Common.{◌≡◌, ◌+◌, ◌-◌, ◌∙◌, true, false, List, length, map, take, drop, refl, sym, ap, subst, arith, inl, inr}
use Rattle.std.specs.List.{AllByRecursion as Each}
use Rattle.bow_log.specs.declared.entries.Entry.{Entry}
use Rattle.bow_log.specs.Spelling.{Fields}
use Rattle.bow_log.specs.Generations.{Backup, backup_of}
use Rattle.bow_chain.specs.Contents.{contents_of}
use Rattle.bow_chain.specs.Chains.{IsEntry}
use Rattle.bow_chain.proofs.Sectors.{entry_in}
use Rattle.bow_restore.specs.Dests.{AreNoted}
use Rattle.bow_restore.specs.Marks.{overlaps}
use Rattle.bow_restore.specs.Replaying.{Replayed, MarkMade, IsMarkCut, SameOthers, still_since}
use Rattle.bow_restore.specs.Loops.{since_in, source_at}
use Rattle.bow_restore.proofs.Told.{Fits, now_put}
use Rattle.bow_restore.proofs.Copied.{put_other}
use Rattle.bow_restore.proofs.Cuts.{mark_made, mark_cut}
use Rattle.bow_restore.proofs.EntryLoop.{due_is, entries_since, still_none, still_all, front_map}
use Rattle.bow_disk.proofs.Moments.{tells_map, adds_map}
use Rattle.bow_restore.proofs.Moments.{on_ok}
use Rattle.bow_restore.proofs.generations.mark_before.Given.{Over}
use Rattle.bow_restore.proofs.generations.mark_before.Goals as goal
use Rattle.bow_restore.proofs.generations.mark_before.Goals.{After-is_due}

module _ (g : Over) where
  same : (c : After-is_due g) → c.deref-entries.result.now ≡ c.args.log.now.entries
  same c = c.deref-entries.ensures.0 ∙ ap (λ (l : Fields). l.entries) c.log.view_is

  is : (c : After-is_due g) → c.is_due.result ≡ overlaps (source_at c.args.geometry c.args.log.now c.args.index) (since_in c.args.geometry c.args.log.now (c.args.index + 1) c.args.marks.now.end)
  is c = due_is c.args.geometry c.args.log.now c.deref-entries.result.now c.args.index c.args.marks.now.end c.args.dests.now c.is_due.result (same c) c.requires.log c.is_due.ensures c.requires.noted

  miss : (c : After-is_due g) → c.is_due.result ≡ false → overlaps (source_at c.args.geometry c.args.log.now c.args.index) (since_in c.args.geometry c.args.log.now (c.args.index + 1) c.args.marks.now.end) ≡ false
  miss c false_is = sym (is c) ∙ false_is

  hit : (c : After-is_due g) → c.is_due.result ≡ true → overlaps (source_at c.args.geometry c.args.log.now c.args.index) (since_in c.args.geometry c.args.log.now (c.args.index + 1) c.args.marks.now.end) ≡ true
  hit c true_is = sym (is c) ∙ true_is

pub is_due-requires-clause-entry : goal.is_due-requires-clause-entry
is_due-requires-clause-entry g c =
    let all : c.deref-entries.result.now ≡ c.args.log.now.entries = c.deref-entries.ensures.0 ∙ ap (λ (l : Fields). l.entries) c.log.view_is in
    entry_in c.args.geometry c.args.log.now c.deref-entries.result.now c.args.index (record { source = 0; dest = 0; size = 0; sum = 0 }) all c.requires.log (omega (arith, ap (λ (es : List Entry). length es) all))

pub returns-then-not-is_due-clause-marks : goal.returns-then-not-is_due-clause-marks
returns-then-not-is_due-clause-marks g c = inr (miss g (goal.at.returns-then-not-is_due-clause-marks g c).After-is_due c.if-not-is_due.true, refl, refl)

pub returns-then-not-is_due-clause-noted : goal.returns-then-not-is_due-clause-noted
returns-then-not-is_due-clause-noted g c =
    subst (λ (bs : List Backup). AreNoted c.args.geometry bs c.args.dests.now) (sym (still_all (source_at c.args.geometry c.args.log.now c.args.index) (since_in c.args.geometry c.args.log.now (c.args.index + 1) c.args.marks.now.end) (miss g (goal.at.returns-then-not-is_due-clause-noted g c).After-is_due c.if-not-is_due.true))) c.requires.noted

pub returns-then-not-is_due-clause-state : goal.returns-then-not-is_due-clause-state
returns-then-not-is_due-clause-state g c k at saved older long state =
    let geo = c.args.geometry in
    let all = sym (still_all (source_at c.args.geometry c.args.log.now c.args.index) (since_in c.args.geometry c.args.log.now (c.args.index + 1) c.args.marks.now.end) (miss g (goal.at.returns-then-not-is_due-clause-state g c).After-is_due c.if-not-is_due.true)) in
    record { told = k; is = at; holds = (subst (λ (bs : List Backup). Replayed geo saved older (take (c.args.index + 1) (map (backup_of geo) c.args.log.now.entries)) bs k) all state, record { same = λ x above on. refl }) }

pub forget-requires-clause-entries : goal.forget-requires-clause-entries
forget-requires-clause-entries g c =
    let all : c.deref-entries.result.now ≡ c.args.log.now.entries = c.deref-entries.ensures.0 ∙ ap (λ (l : Fields). l.entries) c.log.view_is in
    subst (λ (es : List Entry). Each (IsEntry c.args.geometry) (take (c.args.marks.now.end - (c.args.index + 1)) (drop (c.args.index + 1) es))) (sym all) (entries_since c.args.geometry c.args.log.now (c.args.index + 1) c.args.marks.now.end c.requires.log)

pub returns-clause-marks : goal.returns-clause-marks
returns-clause-marks g c = inl (hit g (goal.at.returns-clause-marks g c).After-is_due c.if-not-is_due.false, refl, refl)

pub returns-clause-noted : goal.returns-clause-noted
returns-clause-noted g c =
    subst (λ (bs : List Backup). AreNoted c.args.geometry bs c.forget.new.dests) (sym (still_none (source_at c.args.geometry c.args.log.now c.args.index) (since_in c.args.geometry c.args.log.now (c.args.index + 1) c.args.marks.now.end) (hit g (goal.at.returns-clause-noted g c).After-is_due c.if-not-is_due.false))) c.forget.ensures

pub returns-clause-state : goal.returns-clause-state
returns-clause-state g c k at saved older long state =
    let geo = c.args.geometry in
    let log = c.args.log.now in
    let rest = take (c.args.index + 1) (map (backup_of geo) log.entries) in
    let since = since_in geo log (c.args.index + 1) c.args.marks.now.end in
    let b = source_at geo log c.args.index in
    let due = still_none b since (hit g (goal.at.returns-clause-state g c).After-is_due c.if-not-is_due.false) in
    let front : map (backup_of geo) (take (c.args.index + 1) log.entries) ≡ rest = front_map geo (c.args.index + 1) log.entries in
    let fits : Fits geo k = g.met.D.Disk.shaped c.args.disk.now k at geo c.requires.sizes in
    on_ok _ _ c.mark.result
    (tells_map g.D.Disk.content (MarkMade geo (map (backup_of geo) (take (c.args.index + 1) log.entries)) log.sequence k) (λ d. Replayed geo saved older rest (still_since b since) d × SameOthers geo (contents_of d.now) (contents_of k.now)) c.mark.new.disk
    (λ d there made.
    let fd : Fits geo d = g.met.D.Disk.shaped c.mark.new.disk d there geo c.mark.ensures.sizes in (
      subst (λ s. Replayed geo saved older rest s d) (sym due) (mark_made geo c.requires.log.device saved older rest since k d made.block (made.is_mark).log fits fd state (made.is_mark).spelled (made.is_mark).valid ((made.is_mark).entries_are ∙ front) ((made.is_mark).sequence_is ∙ sym long) made.now made.flushed),
      record { same = λ x above on. now_put 0 made.block k.now d.now (omega (arith, fits.blocks, c.requires.log.device.enough)) made.now x ∙ put_other (contents_of k.now) 0 made.block x (λ z. omega arith) },
    )))
    (c.mark.ensures.made k at)

pub returns-clause-cuts : goal.returns-clause-cuts
returns-clause-cuts g c k is saved older long state =
    let geo = c.args.geometry in
    let log = c.args.log.now in
    let rest = take (c.args.index + 1) (map (backup_of geo) log.entries) in
    let since = since_in geo log (c.args.index + 1) c.args.marks.now.end in
    let front : map (backup_of geo) (take (c.args.index + 1) log.entries) ≡ rest = front_map geo (c.args.index + 1) log.entries in
    let fits : Fits geo k = g.met.D.Disk.shaped c.args.disk.now k is geo c.requires.sizes in
    adds_map g.D.Disk.content g.D.Disk.moment g.D.Disk.left_since (IsMarkCut geo (map (backup_of geo) (take (c.args.index + 1) log.entries)) log.sequence k.now) _ c.args.disk.now c.mark.new.disk
    (λ cut left. mark_cut geo c.requires.log.device saved older rest since k left.block (left.is_mark).log cut fits state (left.is_mark).spelled (left.is_mark).valid ((left.is_mark).entries_are ∙ front) ((left.is_mark).sequence_is ∙ sym long) left.left)
    (c.mark.ensures.cuts k is)
