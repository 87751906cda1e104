use Rattle.std.proofs.Common.{◌≡◌, ◌∙◌, ℕ, List, Option, Some, refl, sym, ap, subst}
use Rattle.bow_disk.specs.Disk.{Content, IsCrash}
use Rattle.bow_disk.specs.Shapes.{now_image}
use Rattle.bow_restore.proofs.Backs.{now_is_crash}
use Rattle.bow_restore.specs.Rewinds.{PassesOn}
use Rattle.vold_meta.specs.Attempts.{text_of, Tells}
use Rattle.vold_commands.specs.Attempts.{marked}
use Rattle.vold_commands.specs.Boots.{CutBoot}
use Rattle.vold_commands.specs.Boot.{Whole, KeepsMarked, KeepsBy, IsPutBack}
use Rattle.vold_commands.proofs.Ways.{cut_at_entry}
use Rattle.vold_commands.proofs.Times.{whole_time}
use Rattle.vold_commands.proofs.Backing.{same_content, marks_kept, bad_kept, fault_kept, fault_cuts, steps, end_leaves, end_cuts, ends_in_place, boot_answers}
use Rattle.vold_commands.proofs.boots.boot.Given.{Over}
use Rattle.vold_commands.proofs.boots.boot.Goals as goal
use Rattle.vold_commands.proofs.boots.boot.Goals.{After-mark, After-put_back, After-end}

module _ (g : Over) where
  -- what the disk held at entry, a cut might have left
  at_entry : (c : After-mark g) (d : Content) → g.D.Disk.content c.args.disk.now ≡ Some d → IsCrash d.candidates d.now
  at_entry c d told = now_is_crash c.args.geometry d (g.met.D.Disk.shaped c.args.disk.now d told c.args.geometry c.requires.sizes)

  -- what was read and marked
  read : (c : After-put_back g) (k : Option (List ℕ)) → g.K.Keeper.kept c.args.keeper.now ≡ Some k
      → (a : Option ℕ) × Tells k a × (c.in-Ok.attempts ≡ marked a) × (g.K.Keeper.kept c.mark.new.keeper ≡ Some (text_of c.in-Ok.attempts))
  read c k is =
      let K = g.K.Keeper in
      let old = c.args.keeper.now in
      let mid = c.mark.new.keeper in
      marks_kept (K.kept old) (K.kept mid) (K.moment old) (K.moment mid) (K.left_since old) (K.left_since mid) c.in-Ok.attempts k is c.in-Ok.ensures.runs

  -- what the end left
  last : (c : After-end g) (k : Option (List ℕ)) → g.K.Keeper.kept c.args.keeper.now ≡ Some k
      → (new : Option (List ℕ)) × (g.K.Keeper.kept c.end.new.keeper ≡ Some new) × KeepsBy c.in-Ok.attempts c.end.result (text_of c.in-Ok.attempts) new
  last c k is =
      let K = g.K.Keeper in
      let old = c.args.keeper.now in
      let mid = c.mark.new.keeper in
      let m = marks_kept (K.kept old) (K.kept mid) (K.moment old) (K.moment mid) (K.left_since old) (K.left_since mid) c.in-Ok.attempts k is c.in-Ok.ensures.runs in
      steps K.kept c.end.new.keeper (KeepsBy c.in-Ok.attempts c.end.result) (K.kept mid) (text_of c.in-Ok.attempts) m.3 c.end.ensures.step

pub returns-in-Err-KeeperFault-clause-is_cut : goal.returns-in-Err-KeeperFault-clause-is_cut
returns-in-Err-KeeperFault-clause-is_cut g c d told k is =
    let K = g.K.Keeper in
    let old = c.args.keeper.now in
    let new = c.mark.new.keeper in
    let geo = c.args.geometry in
    let left = fault_kept (Whole geo) (PassesOn geo) d.now (K.kept old) (K.kept new) (K.moment old) (K.moment new) (K.left_since old) (K.left_since new) k is (rw c.in-Err-KeeperFault.field-0-is at c.in-Err-KeeperFault.ensures.runs) in (
      left.0,
      left.1,
      λ (x : Content) at. (
        d.now,
        at_entry g (goal.at.returns-in-Err-KeeperFault-clause-is_cut g c).After-mark d told,
        subst (λ (y : Content). CutBoot (Whole geo) (PassesOn geo) d.now k y.now left.0) (same_content d x (sym told ∙ at)) left.2,
      ),
    )

pub returns-in-Err-clause-is_cut : goal.returns-in-Err-clause-is_cut
returns-in-Err-clause-is_cut g c d told k is =
    let K = g.K.Keeper in
    let q = (goal.at.returns-in-Err-clause-is_cut g c).After-put_back in
    let m = read g q k is in
    let keeps : KeepsMarked K.kept c.mark.new.keeper k = (m.0, m.1, m.3 ∙ ap (λ (x : Option ℕ). Some (text_of x)) m.2) in
    fault_cuts c.args.geometry g.D.Disk.content K.kept c.put_back.new.disk c.mark.new.keeper d k c.requires.valid (now_image c.args.geometry.block_size c.args.geometry.blocks d (g.met.D.Disk.shaped c.args.disk.now d told c.args.geometry c.requires.sizes)) (at_entry g (goal.at.returns-in-Err-clause-is_cut g c).After-mark d told) c.in-Err.fault (c.in-Err.ensures.back d told) keeps

pub returns-clause-leaves : goal.returns-clause-leaves
returns-clause-leaves g c d told k is =
    let m = read g (goal.at.returns-clause-leaves g c).After-put_back k is in
    let l = last g (goal.at.returns-clause-leaves g c).After-end k is in
    end_leaves c.args.geometry g.D.Disk.content g.K.Keeper.kept c.put_back.new.disk c.end.new.keeper d k m.0 c.in-Ok.attempts c.in-Ok-put_back.logged c.end.result (text_of c.in-Ok.attempts) l.0 m.1 m.2 refl (c.in-Ok-put_back.ensures.back d told) c.end.ensures.answer l.2 l.1

pub returns-clause-is_cut : goal.returns-clause-is_cut
returns-clause-is_cut g c d told k is =
    let m = read g (goal.at.returns-clause-is_cut g c).After-put_back k is in
    let l = last g (goal.at.returns-clause-is_cut g c).After-end k is in
    end_cuts c.args.geometry g.D.Disk.content g.K.Keeper.kept c.put_back.new.disk c.end.new.keeper d k (at_entry g (goal.at.returns-clause-is_cut g c).After-mark d told) m.0 c.in-Ok.attempts c.in-Ok-put_back.logged c.end.result (text_of c.in-Ok.attempts) l.0 m.1 m.2 refl (c.in-Ok-put_back.ensures.back d told) c.end.ensures.answer l.2 l.1

pub returns-clause-texts : goal.returns-clause-texts
returns-clause-texts g c k is =
    let K = g.K.Keeper in
    let old = c.args.keeper.now in
    let mid = c.mark.new.keeper in
    let new = c.end.new.keeper in
    let geo = c.args.geometry in
    let back : IsPutBack geo g.D.Disk.content c.args.disk.now c.put_back.new.disk = (λ d told. (c.in-Ok-put_back.logged, c.in-Ok-put_back.ensures.back d told)) in
    whole_time (K.kept old) (K.kept mid) (K.kept new) (K.moment old) (K.moment mid) (K.moment new) (K.left_since old) (K.left_since mid) (K.left_since new) c.in-Ok.attempts c.end.result
    (IsPutBack geo g.D.Disk.content c.args.disk.now c.put_back.new.disk) back k is c.in-Ok.ensures.runs c.end.ensures.step c.end.ensures.time

pub returns-clause-in_place : goal.returns-clause-in_place
returns-clause-in_place g c d told used saved plain all = ends_in_place c.end.result (c.in-Ok-put_back.ensures.in_place d told used saved plain all)

pub returns-clause-answer : goal.returns-clause-answer
returns-clause-answer g c = boot_answers c.in-Ok.attempts c.in-Ok-put_back.logged c.end.result c.in-Ok.ensures.answer c.end.ensures.answer

pub returns-in-Err-BadAttempts-clause-is_cut : goal.returns-in-Err-BadAttempts-clause-is_cut
returns-in-Err-BadAttempts-clause-is_cut g c d told k is =
    let K = g.K.Keeper in
    let old = c.args.keeper.now in
    let new = c.mark.new.keeper in
    let geo = c.args.geometry in
    let bad = bad_kept (K.kept old) (K.kept new) (K.moment old) (K.moment new) (K.left_since old) (K.left_since new) k is (rw c.in-Err-BadAttempts.field-0-is at c.in-Err-BadAttempts.ensures.runs) in (
      k,
      bad.1,
      λ (x : Content) at. (
        d.now,
        at_entry g (goal.at.returns-in-Err-BadAttempts-clause-is_cut g c).After-mark d told,
        subst (λ (y : Content). CutBoot (Whole geo) (PassesOn geo) d.now k y.now k) (same_content d x (sym told ∙ at)) (cut_at_entry (Whole geo) (PassesOn geo) d.now k k refl),
      ),
    )
