use Rattle.std.proofs.Common.{◌≡◌, List, length, take, drop, ◌++◌, sym, ap, ◌∙◌, subst, arith}
use Rattle.std.specs.Prelude.{slice_get}
use Rattle.std.proofs.lemmas.List.{with_items_is}
use Rattle.bow_core.specs.Views.{View}
use Rattle.bow_pair.specs.Deciding.{IsDecidedCaused, NoneFell, TakePart, disks_of}
use Rattle.bow_pair.specs.Joint.{IsJointCut}
use Rattle.bow_pair.specs.Pairs.{Joined}
use Rattle.bow_pair.proofs.pairs.Pair.decide.Given.{Over}
use Rattle.bow_pair.proofs.pairs.Pair.decide.Goals as goal
use Rattle.bow_pair.proofs.pairs.Pair.decide.Goals.{After-deref_mut, After-decide}

module _ (g : Over) where
  lent : (c : After-deref_mut g) → c.deref_mut.result.now ≡ c.args.self.now.cores
  lent c = c.deref_mut.ensures.value ∙ ap (λ (p : Joined g.row.D.Denot). p.cores) c.self.view_is

  put_back : (c : After-decide g) → take c.self.inside.cores.len (c.decide.new.cores ++ drop (length c.decide.new.cores) c.self.inside.cores.items) ≡ c.decide.new.cores
  put_back c = with_items_is c.self.inside.cores c.decide.new.cores (c.decide.auto.cores ∙ c.deref_mut.ensures.len)

pub decide-requires-clause-rests : goal.decide-requires-clause-rests
decide-requires-clause-rests g c k v at =
    let q = (goal.at.decide-requires-clause-rests g c).After-deref_mut in
    c.requires.rests k v (ap (λ (l : List (View g.row.D.Denot)). slice_get l k) (sym (lent g q)) ∙ at)

pub invariant_of-self : goal.invariant_of-self
invariant_of-self g c =
    let q = (goal.at.invariant_of-self g c).After-decide in
    let i = c.self.invariant in
    let same : length (take c.self.inside.cores.len (c.decide.new.cores ++ drop (length c.decide.new.cores) c.self.inside.cores.items)) ≡ length c.self.inside.cores.items =
    ap (λ (l : List (View g.row.D.Denot)). length l) (put_back g q) ∙ c.decide.auto.cores ∙ ap (λ (l : List (View g.row.D.Denot)). length l) c.deref_mut.ensures.value in (
      i.0,
      (let one = i.1 in omega (arith, same, one)),
      (let two = i.2 in omega (arith, same, two)),
      (let three = i.3 in omega (arith, same, three)),
      (let four = i.4 in omega (arith, same, four)),
    )

pub returns-clause-cause : goal.returns-clause-cause
returns-clause-cause g c =
    let D = g.D.Disk in
    let K = g.K.Keeper in
    let q = (goal.at.returns-clause-cause g c).After-decide in
    let before = (goal.at.returns-clause-cause g c).After-deref_mut in
    subst (λ (l : List (View g.row.D.Denot)). IsDecidedCaused (K.faults c.args.keeper.now) (K.faults c.decide.new.keeper) D.faults c.args.self.now.cores l c.decide.result) (sym (put_back g q))
    (subst (λ (l : List (View g.row.D.Denot)). IsDecidedCaused (K.faults c.args.keeper.now) (K.faults c.decide.new.keeper) D.faults l c.decide.new.cores c.decide.result) (lent g before) c.decide.ensures.cause)

pub returns-clause-counts : goal.returns-clause-counts
returns-clause-counts g c =
    let D = g.D.Disk in
    let q = (goal.at.returns-clause-counts g c).After-decide in
    let before = (goal.at.returns-clause-counts g c).After-deref_mut in
    subst (λ (l : List (View g.row.D.Denot)). NoneFell D.faults c.args.self.now.cores l) (sym (put_back g q))
    (subst (λ (l : List (View g.row.D.Denot)). NoneFell D.faults l c.decide.new.cores) (lent g before) c.decide.ensures.counts)

pub returns-clause-agreed : goal.returns-clause-agreed
returns-clause-agreed g c left none is members part images joint =
    let D = g.D.Disk in
    let q = (goal.at.returns-clause-agreed g c).After-decide in
    let before = (goal.at.returns-clause-agreed g c).After-deref_mut in
    c.decide.ensures.agreed left none is members (subst (λ (l : List (View g.row.D.Denot)). TakePart D.content l members) (sym (lent g before)) part) images
    (subst (λ (l : List (View g.row.D.Denot)). IsJointCut D.content (disks_of l) images) (put_back g q) joint)
