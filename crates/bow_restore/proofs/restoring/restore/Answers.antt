use Rattle.std.proofs.Common.{ℕ, ◌≡◌, ◌∙◌, List, ◌∷◌, Some, sym, subst, arith, ⊎_elim}
use Rattle.bow_log.specs.Generations.{Generation}
use Rattle.bow_disk.specs.Disk.{Content, FlushStep, Flushed, IsCrash}
use Rattle.bow_chain.specs.Contents.{contents_of}
use Rattle.bow_chain.specs.Sound.{IsSound}
use Rattle.bow_chain.specs.Kept.{IsPlain}
use Rattle.bow_chain.specs.Faults.{IsFirstFault}
use Rattle.bow_restore.specs.Rewinds.{PassesOn}
use Rattle.bow_disk.specs.Moments.{AddsCuts, Tells}
use Rattle.bow_restore.specs.Answers.{TellsHead, TellsSound, LeftBy, Untouched}
use Rattle.bow_restore.proofs.Told.{Fits}
use Rattle.bow_restore.proofs.Backs.{now_is_crash, passed_holds, ends_back, flushed_is, flushed_crash, left_same, untouched_same}
use Rattle.bow_disk.specs.Shapes.{now_image}
use Rattle.bow_disk.proofs.Settling.{cut_settled}
use Rattle.bow_restore.proofs.Proved.{passes_self}
use Rattle.bow_disk.proofs.Moments.{goes_told, tells_map, adds_fewer, adds_then}
use Rattle.bow_restore.proofs.Moments.{flush_ok, flush_cases}
use Rattle.bow_restore.proofs.restoring.restore.Given.{Over}
use Rattle.bow_restore.proofs.restoring.restore.Goals as goal
use Rattle.bow_restore.proofs.restoring.restore.Goals.{After-restore_flushed}

module _ (g : Over) where
  -- what the flush left
  flushed : (c : After-restore_flushed g) (k : Content) → g.D.Disk.content c.args.disk.now ≡ Some k → Tells g.D.Disk.content (Flushed k) c.flush.new.self
  flushed c k is =
      tells_map g.D.Disk.content (FlushStep c.flush.result k) (Flushed k) c.flush.new.self (λ d at step. flush_ok c.flush.result k d (sym c.is_err.ensures.value ∙ c.if-is_err.false) step)
      (goes_told g.D.Disk.content (FlushStep c.flush.result) c.args.disk.now c.flush.new.self k is c.flush.ensures.step)

  fits : (c : After-restore_flushed g) (k : Content) → g.D.Disk.content c.args.disk.now ≡ Some k → Fits c.args.geometry k
  fits c k is = g.met.D.Disk.shaped c.args.disk.now k is c.args.geometry c.requires.sizes

  head : (c : After-restore_flushed g) (k : Content) → g.D.Disk.content c.args.disk.now ≡ Some k → TellsHead (contents_of k.now 0) c.restore_flushed.result
  head c k is = let m = flushed c k is in subst (λ (l : List (List ℕ)). TellsHead (contents_of l 0) c.restore_flushed.result) m.holds.0 (c.restore_flushed.ensures.head m.told m.is)

  sound : (c : After-restore_flushed g) (k : Content) → g.D.Disk.content c.args.disk.now ≡ Some k → (log : Generation) (older : List Generation) → IsSound c.args.geometry (contents_of k.now) log older → TellsSound c.args.limit (log ∷ older) c.restore_flushed.result
  sound c k is log older s = let m = flushed c k is in c.restore_flushed.ensures.each_sound m.told m.is log older (subst (λ (l : List (List ℕ)). IsSound c.args.geometry (contents_of l) log older) (sym m.holds.0) s)

  left : (c : After-restore_flushed g) (k : Content) → g.D.Disk.content c.args.disk.now ≡ Some k → (log : Generation) (older : List Generation) → IsSound c.args.geometry (contents_of k.now) log older
      → LeftBy c.args.geometry (log ∷ older) g.D.Disk.content c.restore_flushed.new.disk k c.restore_flushed.result
  left c k is log older s =
      let m = flushed c k is in
      left_same c.args.geometry (log ∷ older) g.D.Disk.content c.restore_flushed.new.disk k m.told c.restore_flushed.result m.holds.0
      (c.restore_flushed.ensures.left m.told m.is (flushed_is k m.told m.holds) log older (subst (λ (l : List (List ℕ)). IsSound c.args.geometry (contents_of l) log older) (sym m.holds.0) s))

  plain : (c : After-restore_flushed g) (k : Content) → g.D.Disk.content c.args.disk.now ≡ Some k → IsPlain (contents_of k.now 0) → Tells g.D.Disk.content (Untouched c.restore_flushed.result k) c.restore_flushed.new.disk
  plain c k is p =
      let m = flushed c k is in
      tells_map g.D.Disk.content (Untouched c.restore_flushed.result m.told) (Untouched c.restore_flushed.result k) c.restore_flushed.new.disk (λ d at h. untouched_same c.restore_flushed.result k m.told d m.holds.0 h)
      (c.restore_flushed.ensures.plain m.told m.is (flushed_is k m.told m.holds) (subst (λ (l : List (List ℕ)). IsPlain (contents_of l 0)) (sym m.holds.0) p))

  cuts : (c : After-restore_flushed g) (k : Content) → g.D.Disk.content c.args.disk.now ≡ Some k → AddsCuts g.D.Disk.moment g.D.Disk.left_since (PassesOn c.args.geometry k.now) c.args.disk.now c.restore_flushed.new.disk
  cuts c k is =
      let m = flushed c k is in
      adds_then g.D.Disk.content g.D.Disk.moment g.D.Disk.left_since (PassesOn c.args.geometry k.now) c.args.disk.now c.flush.new.self c.restore_flushed.new.disk
      (adds_fewer g.D.Disk.content g.D.Disk.moment g.D.Disk.left_since (PassesOn c.args.geometry k.now) c.args.disk.now c.flush.new.self k m.told m.is (flushed_crash c.args.geometry k m.told (fits c k is) m.holds) c.flush.ensures.time
      (λ t image le crash. g.met.D.Disk.counts_now c.args.disk.now k is t image le crash))
      (subst (λ (l : List (List ℕ)). AddsCuts g.D.Disk.moment g.D.Disk.left_since (PassesOn c.args.geometry l) c.flush.new.self c.restore_flushed.new.disk) m.holds.0 (c.restore_flushed.ensures.cuts m.told m.is (flushed_is k m.told m.holds)))

pub returns-clause-head : goal.returns-clause-head
returns-clause-head g c k is = head g (goal.at.returns-clause-head g c).After-restore_flushed k is

pub returns-clause-each_sound : goal.returns-clause-each_sound
returns-clause-each_sound g c k is log older s = sound g (goal.at.returns-clause-each_sound g c).After-restore_flushed k is log older s

pub returns-clause-each_fault : goal.returns-clause-each_fault
returns-clause-each_fault g c k is first fault =
    let m = flushed g (goal.at.returns-clause-each_fault g c).After-restore_flushed k is in
    c.restore_flushed.ensures.each_fault m.told m.is first (subst (λ (l : List (List ℕ)). IsFirstFault c.args.geometry (contents_of l) first) (sym m.holds.0) fault)

pub returns-clause-left : goal.returns-clause-left
returns-clause-left g c k is log older s = left g (goal.at.returns-clause-left g c).After-restore_flushed k is log older s

pub returns-clause-untouched : goal.returns-clause-untouched
returns-clause-untouched g c k is first fault =
    let m = flushed g (goal.at.returns-clause-untouched g c).After-restore_flushed k is in
    tells_map g.D.Disk.content (Untouched c.restore_flushed.result m.told) (Untouched c.restore_flushed.result k) c.restore_flushed.new.disk (λ d at h. untouched_same c.restore_flushed.result k m.told d m.holds.0 h)
    (c.restore_flushed.ensures.untouched m.told m.is (flushed_is k m.told m.holds) first (subst (λ (l : List (List ℕ)). IsFirstFault c.args.geometry (contents_of l) first) (sym m.holds.0) fault))

pub returns-clause-plain : goal.returns-clause-plain
returns-clause-plain g c k is p = plain g (goal.at.returns-clause-plain g c).After-restore_flushed k is p

pub returns-clause-cuts : goal.returns-clause-cuts
returns-clause-cuts g c k is = cuts g (goal.at.returns-clause-cuts g c).After-restore_flushed k is

pub returns-clause-holds : goal.returns-clause-holds
returns-clause-holds g c k is used saved p all cut left =
    let q = (goal.at.returns-clause-holds g c).After-restore_flushed in
    ⊎_elim (λ past. all cut (g.met.D.Disk.only_now c.args.disk.now k is (g.D.Disk.moment c.args.disk.now) cut (omega arith) past))
    (λ on. passed_holds c.args.geometry c.requires.valid used saved p k.now cut (now_image c.args.geometry.block_size c.args.geometry.blocks k (fits g q k is)) on (all k.now (now_is_crash c.args.geometry k (fits g q k is)))) ((cuts g q k is).only (g.D.Disk.moment c.args.disk.now) cut (omega arith) left)

pub returns-clause-back : goal.returns-clause-back
returns-clause-back g c k is used saved p all =
    let q = (goal.at.returns-clause-back g c).After-restore_flushed in
    ends_back c.args.geometry c.requires.valid used saved p g.D.Disk.content c.restore_flushed.new.disk k c.args.limit c.restore_flushed.result
    (sound g q k is) (left g q k is) (head g q k is) (plain g q k is) (all k.now (now_is_crash c.args.geometry k (fits g q k is)))

pub returns-clause-settled : goal.returns-clause-settled
returns-clause-settled g c k is settled cut left =
    let q = (goal.at.returns-clause-settled g c).After-restore_flushed in
    ⊎_elim (λ past. subst (λ (l : List (List ℕ)). PassesOn c.args.geometry k.now l) (sym (cut_settled k.now k settled cut (g.met.D.Disk.only_now c.args.disk.now k is (g.D.Disk.moment c.args.disk.now) cut (omega arith) past))) (passes_self c.args.geometry k.now))
    (λ on. on) ((cuts g q k is).only (g.D.Disk.moment c.args.disk.now) cut (omega arith) left)

pub returns-then-is_err-clause-settled : goal.returns-then-is_err-clause-settled
returns-then-is_err-clause-settled g c k is settled cut left =
    let geo = c.args.geometry in
    let fit : Fits geo k = g.met.D.Disk.shaped c.args.disk.now k is geo c.requires.sizes in
    let d = goes_told g.D.Disk.content (FlushStep c.flush.result) c.args.disk.now c.flush.new.self k is c.flush.ensures.step in
    let l : AddsCuts g.D.Disk.moment g.D.Disk.left_since (PassesOn geo k.now) c.args.disk.now c.flush.new.self =
    adds_fewer g.D.Disk.content g.D.Disk.moment g.D.Disk.left_since (PassesOn geo k.now) c.args.disk.now c.flush.new.self k d.told d.is
    (λ image crash. ⊎_elim (λ f. flushed_crash geo k d.told fit f image crash) (λ s. subst (λ cs. IsCrash cs image) s.1 crash) (flush_cases c.flush.result k d.told d.holds)) c.flush.ensures.time
    (λ t image le crash. g.met.D.Disk.counts_now c.args.disk.now k is t image le crash) in
    ⊎_elim (λ past. subst (λ (x : List (List ℕ)). PassesOn geo k.now x) (sym (cut_settled k.now k settled cut (g.met.D.Disk.only_now c.args.disk.now k is (g.D.Disk.moment c.args.disk.now) cut (omega arith) past))) (passes_self geo k.now))
    (λ on. on) (l.only (g.D.Disk.moment c.args.disk.now) cut (omega arith) left)
