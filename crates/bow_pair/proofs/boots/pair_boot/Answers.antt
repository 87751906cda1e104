use Rattle.std.proofs.Common.{◌≡◌, ℕ, List, Option, Some, ◌∙◌}
use Rattle.std.specs.Prelude.{IfOk, IfErr}
use Rattle.bow_disk.specs.Disk.{Content}
use Rattle.vold_meta.specs.Decisions.{ReadsDecision, text_of_decision}
use Rattle.bow_pair.specs.Boot.{AreTold, Ends}
use Rattle.bow_pair.specs.Boots.{CutBoot}
use Rattle.bow_pair.specs.Ending.{KeepsBy}
use Rattle.bow_pair.specs.Joint.{IsJointCut}
use Rattle.bow_pair.proofs.Booting.{cut_stays, either_settles, either_stays, end_ends, end_is_cut, goes_on, goes_told, is_cut_kept, still_is_cut, stops_by, stops_caused}
use Rattle.bow_pair.proofs.boots.pair_boot.Given.{Over}
use Rattle.bow_pair.proofs.boots.pair_boot.Goals as goal
use Rattle.bow_pair.proofs.boots.pair_boot.Goals.{After-end, After-settle_each, In-Err}

pub returns-in-Err-KeeperFault-clause-is_cut : goal.returns-in-Err-KeeperFault-clause-is_cut
returns-in-Err-KeeperFault-clause-is_cut g c told are text left was is images joint =
    let K = g.K.Keeper in
    still_is_cut g.D.Disk.content c.args.geometries.now c.args.disks.now text left (goes_told (λ old new. (new ≡ old) × ReadsDecision old c.read_decision.result) (K.kept c.args.keeper.now) (K.kept c.read_decision.new.keeper) text left was is c.read_decision.ensures.reads).0 images joint

pub returns-in-Err-BadDecision-clause-is_cut : goal.returns-in-Err-BadDecision-clause-is_cut
returns-in-Err-BadDecision-clause-is_cut g c told are text left was is images joint =
    let K = g.K.Keeper in
    still_is_cut g.D.Disk.content c.args.geometries.now c.args.disks.now text left (goes_told (λ old new. (new ≡ old) × ReadsDecision old c.read_decision.result) (K.kept c.args.keeper.now) (K.kept c.read_decision.new.keeper) text left was is c.read_decision.ensures.reads).0 images joint

module _ (g : Over) where
  -- the text that was read, and is still kept
  read : (c : After-settle_each g) (text : Option (List ℕ)) → g.K.Keeper.kept c.args.keeper.now ≡ Some text → (text ≡ text_of_decision c.in-Ok.committed) × (g.K.Keeper.kept c.read_decision.new.keeper ≡ Some text)
  read c text was =
      let K = g.K.Keeper in
      let on = goes_on (λ old new. (new ≡ old) × (old ≡ text_of_decision c.in-Ok.committed)) (K.kept c.args.keeper.now) (K.kept c.read_decision.new.keeper) text was c.in-Ok.ensures.reads in
      (on.2.1, on.1 ∙ (λ i. Some (on.2.0 i)))

  same : (c : After-settle_each g) (text left : Option (List ℕ)) → g.K.Keeper.kept c.args.keeper.now ≡ Some text → g.K.Keeper.kept c.read_decision.new.keeper ≡ Some left → left ≡ text
  same c text left was is =
      let K = g.K.Keeper in
      (goes_told (λ old new. (new ≡ old) × (old ≡ text_of_decision c.in-Ok.committed)) (K.kept c.args.keeper.now) (K.kept c.read_decision.new.keeper) text left was is c.in-Ok.ensures.reads).0

  stopped_cut : (c : In-Err g) → After-settle_each g → (told : ℕ → Content) → AreTold g.D.Disk.content c.args.disks.now told → (text left : Option (List ℕ)) → text ≡ text_of_decision c.in-Ok.committed → left ≡ text → (images : ℕ → List (List ℕ)) → IsJointCut g.D.Disk.content c.settle_each.new.disks images
      → (i : ℕ → List (List ℕ)) × IsJointCut g.D.Disk.content c.args.disks.now i × CutBoot c.args.geometries.now i text images left
  stopped_cut c q told are text left decided kept images joint =
      let D = g.D.Disk in
      is_cut_kept D.content D.stated D.faults c.args.geometries.now c.args.disks.now c.settle_each.new.disks (λ d k at geo size. g.met.D.Disk.shaped d k at geo size) c.requires.sizes c.requires.many c.settle_each.auto.disks c.in-Ok.committed text left decided kept told are c.settle_each.ensures.left images joint

pub returns-in-Err-clause-cause : goal.returns-in-Err-clause-cause
returns-in-Err-clause-cause g c =
    let D = g.D.Disk in
    let K = g.K.Keeper in
    stops_caused D.content D.stated D.faults c.args.geometries.now c.args.disks.now c.settle_each.new.disks (λ d k at geo size. g.met.D.Disk.shaped d k at geo size) c.requires.sizes c.requires.many c.settle_each.auto.disks c.in-Ok.committed (K.faults c.args.keeper.now) (K.faults c.read_decision.new.keeper) c.in-Err.fault c.in-Err.ensures.stops

pub returns-in-Err-clause-stops : goal.returns-in-Err-clause-stops
returns-in-Err-clause-stops g c text left was is =
    let D = g.D.Disk in
    let q = (goal.at.returns-in-Err-clause-stops g c).After-settle_each in
    stops_by D.content D.stated D.faults c.args.geometries.now c.args.disks.now c.settle_each.new.disks (λ d k at geo size. g.met.D.Disk.shaped d k at geo size) c.requires.sizes c.requires.many c.settle_each.auto.disks c.in-Ok.committed text left (read g q text was).0 (same g q text left was is) c.in-Err.fault c.in-Err.ensures.stops

pub returns-in-Err-clause-is_cut : goal.returns-in-Err-clause-is_cut
returns-in-Err-clause-is_cut g c told are text left was is images joint =
    let q = (goal.at.returns-in-Err-clause-is_cut g c).After-settle_each in
    stopped_cut g c q told are text left (read g q text was).0 (same g q text left was is) images joint

pub returns-in-Err-clause-agreed : goal.returns-in-Err-clause-agreed
returns-in-Err-clause-agreed g c told are text left was is =
    let D = g.D.Disk in
    let q = (goal.at.returns-in-Err-clause-agreed g c).After-settle_each in
    cut_stays D.content D.stated D.faults c.args.geometries.now c.args.disks.now c.settle_each.new.disks (λ d k at geo size. g.met.D.Disk.shaped d k at geo size) c.requires.sizes c.requires.many c.settle_each.auto.disks text left
    (λ images joint. stopped_cut g c q told are text left (read g q text was).0 (same g q text left was is) images joint)

module _ (g : Over) where
  keeps : (c : After-end g) → After-settle_each g → (text left : Option (List ℕ)) → g.K.Keeper.kept c.read_decision.new.keeper ≡ Some text → g.K.Keeper.kept c.end.new.keeper ≡ Some left → KeepsBy c.in-Ok.committed c.end.result text left
  keeps c q text left was is =
      let K = g.K.Keeper in
      goes_told (KeepsBy c.in-Ok.committed c.end.result) (K.kept c.read_decision.new.keeper) (K.kept c.end.new.keeper) text left was is c.end.ensures.step

  done : (c : After-end g) → (told : ℕ → Content) → AreTold g.D.Disk.content c.args.disks.now told → (text left : Option (List ℕ)) → text ≡ text_of_decision c.in-Ok.committed → KeepsBy c.in-Ok.committed c.end.result text left
      → IfOk c.end.result (Ends g.D.Disk.content c.args.geometries.now c.settle_each.new.disks told text left)
  done c told are text left decided k =
      let D = g.D.Disk in
      end_ends D.content D.stated D.faults c.args.geometries.now c.args.disks.now c.settle_each.new.disks (λ d k at geo size. g.met.D.Disk.shaped d k at geo size) c.requires.sizes c.requires.many c.settle_each.auto.disks c.in-Ok.committed c.in-Ok-settle_each.logged text left decided told are c.in-Ok-settle_each.ensures.settled
      c.in-Ok-settle_each.ensures.logged c.end.result c.end.ensures.answer k

  done_cut : (c : After-end g) → (told : ℕ → Content) → AreTold g.D.Disk.content c.args.disks.now told → (text left : Option (List ℕ)) → text ≡ text_of_decision c.in-Ok.committed → KeepsBy c.in-Ok.committed c.end.result text left
      → (images : ℕ → List (List ℕ)) → IsJointCut g.D.Disk.content c.settle_each.new.disks images → IfErr c.end.result (λ fault. (i : ℕ → List (List ℕ)) × IsJointCut g.D.Disk.content c.args.disks.now i × CutBoot c.args.geometries.now i text images left)
  done_cut c told are text left decided k images joint =
      let D = g.D.Disk in
      end_is_cut D.content D.stated D.faults c.args.geometries.now c.args.disks.now c.settle_each.new.disks (λ d k at geo size. g.met.D.Disk.shaped d k at geo size) c.requires.sizes c.requires.many c.settle_each.auto.disks c.in-Ok.committed c.in-Ok-settle_each.logged text left decided told are c.in-Ok-settle_each.ensures.settled
      c.in-Ok-settle_each.ensures.left c.end.result c.end.ensures.answer k images joint

pub returns-clause-ends : goal.returns-clause-ends
returns-clause-ends g c told are text left was is =
    let q = (goal.at.returns-clause-ends g c).After-settle_each in
    let r = read g q text was in
    done g c told are text left r.0 (keeps g c q text left r.1 is)

pub returns-clause-is_cut : goal.returns-clause-is_cut
returns-clause-is_cut g c told are text left was is images joint =
    let q = (goal.at.returns-clause-is_cut g c).After-settle_each in
    let r = read g q text was in
    done_cut g c told are text left r.0 (keeps g c q text left r.1 is) images joint

pub returns-clause-agreed : goal.returns-clause-agreed
returns-clause-agreed g c told are text left was is =
    let D = g.D.Disk in
    let q = (goal.at.returns-clause-agreed g c).After-settle_each in
    let r = read g q text was in
    let k = keeps g c q text left r.1 is in
    either_stays D.content D.stated D.faults c.args.geometries.now c.args.disks.now c.settle_each.new.disks (λ d k at geo size. g.met.D.Disk.shaped d k at geo size) c.requires.sizes c.requires.many c.settle_each.auto.disks told text left are c.end.result (done g c told are text left r.0 k)
    (λ images joint. done_cut g c told are text left r.0 k images joint)

pub returns-clause-settles : goal.returns-clause-settles
returns-clause-settles g c told are text was =
    let D = g.D.Disk in
    let K = g.K.Keeper in
    let q = (goal.at.returns-clause-settles g c).After-settle_each in
    let r = read g q text was in
    let on = goes_on (KeepsBy c.in-Ok.committed c.end.result) (K.kept c.read_decision.new.keeper) (K.kept c.end.new.keeper) text r.1 c.end.ensures.step in
    either_settles D.content D.stated D.faults c.args.geometries.now c.args.disks.now c.settle_each.new.disks (λ d k at geo size. g.met.D.Disk.shaped d k at geo size) c.requires.sizes c.requires.many c.settle_each.auto.disks told text on.0 are c.end.result (done g c told are text on.0 r.0 on.2)

pub returns-in-Err-KeeperFault-clause-tells : goal.returns-in-Err-KeeperFault-clause-tells
returns-in-Err-KeeperFault-clause-tells g c text was =
    let K = g.K.Keeper in
    let on = goes_on (λ old new. (new ≡ old) × ReadsDecision old c.read_decision.result) (K.kept c.args.keeper.now) (K.kept c.read_decision.new.keeper) text was c.read_decision.ensures.reads in
    (on.0, on.1)

pub returns-in-Err-BadDecision-clause-tells : goal.returns-in-Err-BadDecision-clause-tells
returns-in-Err-BadDecision-clause-tells g c text was =
    let K = g.K.Keeper in
    let on = goes_on (λ old new. (new ≡ old) × ReadsDecision old c.read_decision.result) (K.kept c.args.keeper.now) (K.kept c.read_decision.new.keeper) text was c.read_decision.ensures.reads in
    (on.0, on.1)

pub returns-in-Err-clause-tells : goal.returns-in-Err-clause-tells
returns-in-Err-clause-tells g c text was = (text, (read g (goal.at.returns-in-Err-clause-tells g c).After-settle_each text was).1)

pub returns-clause-tells : goal.returns-clause-tells
returns-clause-tells g c text was =
    let K = g.K.Keeper in
    let r = read g (goal.at.returns-clause-tells g c).After-settle_each text was in
    let on = goes_on (KeepsBy c.in-Ok.committed c.end.result) (K.kept c.read_decision.new.keeper) (K.kept c.end.new.keeper) text r.1 c.end.ensures.step in
    (on.0, on.1)
