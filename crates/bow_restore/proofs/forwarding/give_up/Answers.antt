use Rattle.std.proofs.Common.{ℕ, ◌≡◌, ◌<◌, ◌∙◌, Bool, true, false, List, ◌∷◌, [], set, Some, None, refl, ap, subst, arith, ◌⊎◌, inl, inr}
use Rattle.bow_units.specs.Magics.{HasMagic}
use Rattle.bow_log.specs.Faults.{header_fault, current_in, IsOfHeader}
use Rattle.bow_log.specs.declared.faults.LogFault.TheVariants.{NoMagic}
use Rattle.bow_disk.specs.Disk.{Content, Flushed, FlushStep, WriteStep, Written, IsCrash}
use Rattle.bow_chain.specs.Contents.{contents_of}
use Rattle.bow_chain.specs.Kept.{IsPlain}
use Rattle.bow_disk.specs.Moments.{AddsCuts, Tells}
use Rattle.bow_restore.specs.Replaying.{HeadPut, IsHeadCut}
use Rattle.bow_restore.specs.Forwarding.{IsForwardCut, named_by}
use Rattle.bow_restore.proofs.Told.{Fits, head_given_cut}
use Rattle.bow_restore.proofs.HeadWrites.{head_flush_cut, head_then_flush}
use Rattle.bow_restore.proofs.Backs.{flushed_crash, flushed_is}
use Rattle.bow_restore.proofs.Forwards.{Refused, flushed_read, put_after, refused_is}
use Rattle.bow_disk.proofs.Moments.{goes_told, adds_call, adds_then}
use Rattle.bow_restore.proofs.Moments.{keeps_stated, given, read_told, flush_cases}
use Rattle.bow_restore.proofs.forwarding.give_up.Given.{Over}
use Rattle.bow_restore.proofs.forwarding.give_up.Goals as goal
use Rattle.bow_restore.proofs.forwarding.give_up.Goals.{After-read, After-refused, After-read-2, After-write, After-flush-2}

module _ (g : Over) where
  -- ---- after the first read

  seen : (c : After-read g) (k : Content) → g.D.Disk.content c.args.disk.now ≡ Some k → Tells g.D.Disk.content (Flushed k) c.read.new.self
  seen c k is = flushed_read g.D.Disk.content c.flush.new.self c.read.new.self k (goes_told g.D.Disk.content Flushed c.args.disk.now c.flush.new.self k is c.in_ok-flush.ensures.step) c.read.ensures.step

  read_cuts : (c : After-read g) (k : Content) → g.D.Disk.content c.args.disk.now ≡ Some k → AddsCuts g.D.Disk.moment g.D.Disk.left_since (λ image. IsCrash k.candidates image ⊎ IsForwardCut c.args.geometry k.now image) c.args.disk.now c.read.new.self
  read_cuts c k is =
      let geo = c.args.geometry in
      let fits : Fits geo k = g.met.D.Disk.shaped c.args.disk.now k is geo c.requires.sizes in
      let m = goes_told g.D.Disk.content Flushed c.args.disk.now c.flush.new.self k is c.in_ok-flush.ensures.step in
      let n = seen c k is in
      adds_then g.D.Disk.content g.D.Disk.moment g.D.Disk.left_since _ c.args.disk.now c.flush.new.self c.read.new.self
      (adds_call g.D.Disk.content g.D.Disk.moment g.D.Disk.left_since _ c.args.disk.now c.flush.new.self m.told m.is c.flush.ensures.time (λ cut crash. inl (flushed_crash geo k m.told fits m.holds cut crash)))
      (adds_call g.D.Disk.content g.D.Disk.moment g.D.Disk.left_since _ c.flush.new.self c.read.new.self n.told n.is c.read.ensures.time (λ cut crash. inl (flushed_crash geo k n.told fits n.holds cut crash)))

pub returns-in_err-read-clause-cuts : goal.returns-in_err-read-clause-cuts
returns-in_err-read-clause-cuts g c k is = read_cuts g (goal.at.returns-in_err-read-clause-cuts g c).After-read k is

pub returns-in-Err-clause-cuts : goal.returns-in-Err-clause-cuts
returns-in-Err-clause-cuts g c k is = read_cuts g (goal.at.returns-in-Err-clause-cuts g c).After-read k is

module _ (g : Over) where
  block_0 : (c : After-refused g) (k : Content) → g.D.Disk.content c.args.disk.now ≡ Some k → c.read.new.into ≡ contents_of k.now 0
  block_0 c k is =
      let m = goes_told g.D.Disk.content Flushed c.args.disk.now c.flush.new.self k is c.in_ok-flush.ensures.step in
      read_told (g.D.Disk.content c.flush.new.self) 0 c.read.new.into m.told m.is c.in_ok-read.ensures.gives ∙ ap (λ (l : List (List ℕ)). contents_of l 0) m.holds.0

  seen_there : (c : After-refused g) (k : Content) → g.D.Disk.content c.args.disk.now ≡ Some k → Tells g.D.Disk.content (Flushed k) c.read.new.self
  seen_there c k is = flushed_read g.D.Disk.content c.flush.new.self c.read.new.self k (goes_told g.D.Disk.content Flushed c.args.disk.now c.flush.new.self k is c.in_ok-flush.ensures.step) c.read.ensures.step

  is_refused : (c : After-refused g) (k : Content) (is : g.D.Disk.content c.args.disk.now ≡ Some k) → Refused c.args.geometry (g.D.Disk.faults c.args.disk.now) (g.D.Disk.faults c.read.new.self) k (seen_there c k is).told c.refused.result
  is_refused c k is =
      refused_is c.args.geometry (g.D.Disk.faults c.args.disk.now) (g.D.Disk.faults c.read.new.self) k (seen_there c k is).told c.in-Err.fault c.refused.result c.refused.ensures
      (subst (λ (b : List ℕ). ((c.in-Err.fault ≡ NoMagic) × (HasMagic b → ⊥)) ⊎ (IsOfHeader c.in-Err.fault × HasMagic b)) (block_0 c k is) c.in-Err.ensures.magic)
      (subst (λ (b : List ℕ). header_fault c.args.geometry b ≡ Some c.in-Err.fault) (block_0 c k is) c.in-Err.ensures.exact) (seen_there c k is).holds

pub returns-in-Err-clause-tells : goal.returns-in-Err-clause-tells
returns-in-Err-clause-tells g c k is = (is_refused g c k is).tells

pub returns-in-Err-clause-left : goal.returns-in-Err-clause-left
returns-in-Err-clause-left g c k is = record { told = (seen_there g c k is).told; is = (seen_there g c k is).is; holds = (is_refused g c k is).left }

-- a disk that holds this one block, and is flushed
one_block : List ℕ → Content
one_block v = record { now = v ∷ []; candidates = (v ∷ []) ∷ [] }

pub returns-in-Err-clause-reason : goal.returns-in-Err-clause-reason
unfolding one_block
returns-in-Err-clause-reason g c =
    let r = refused_is c.args.geometry (g.D.Disk.faults c.args.disk.now) (g.D.Disk.faults c.read.new.self) (one_block c.read.new.into) (one_block c.read.new.into) c.in-Err.fault c.refused.result c.refused.ensures c.in-Err.ensures.magic c.in-Err.ensures.exact (refl, refl) in
    (r.reason, r.memory)

module _ (g : Over) where
  -- ---- after the second read

  seen_2 : (c : After-read-2 g) (k : Content) → g.D.Disk.content c.args.disk.now ≡ Some k → Tells g.D.Disk.content (Flushed k) c.read-2.new.self
  seen_2 c k is =
      flushed_read g.D.Disk.content c.read.new.self c.read-2.new.self k (flushed_read g.D.Disk.content c.flush.new.self c.read.new.self k (goes_told g.D.Disk.content Flushed c.args.disk.now c.flush.new.self k is c.in_ok-flush.ensures.step) c.read.ensures.step) c.read-2.ensures.step

  read_2_cuts : (c : After-read-2 g) (k : Content) → g.D.Disk.content c.args.disk.now ≡ Some k
      → AddsCuts g.D.Disk.moment g.D.Disk.left_since (λ image. IsCrash k.candidates image ⊎ IsForwardCut c.args.geometry k.now image) c.args.disk.now c.read.new.self
      → AddsCuts g.D.Disk.moment g.D.Disk.left_since (λ image. IsCrash k.candidates image ⊎ IsForwardCut c.args.geometry k.now image) c.args.disk.now c.read-2.new.self
  read_2_cuts c k is so_far =
      let geo = c.args.geometry in
      let fits : Fits geo k = g.met.D.Disk.shaped c.args.disk.now k is geo c.requires.sizes in
      let n = seen_2 c k is in
      adds_then g.D.Disk.content g.D.Disk.moment g.D.Disk.left_since _ c.args.disk.now c.read.new.self c.read-2.new.self so_far
      (adds_call g.D.Disk.content g.D.Disk.moment g.D.Disk.left_since _ c.read.new.self c.read-2.new.self n.told n.is c.read-2.ensures.time (λ cut crash. inl (flushed_crash geo k n.told fits n.holds cut crash)))

pub returns-in_err-read-2-clause-cuts : goal.returns-in_err-read-2-clause-cuts
returns-in_err-read-2-clause-cuts g c k is = let q = goal.at.returns-in_err-read-2-clause-cuts g c in read_2_cuts g q.After-read-2 k is (read_cuts g q.After-read k is)

pub returns-then-has_magic-clause-cuts : goal.returns-then-has_magic-clause-cuts
returns-then-has_magic-clause-cuts g c k is = let q = goal.at.returns-then-has_magic-clause-cuts g c in read_2_cuts g q.After-read-2 k is (read_cuts g q.After-read k is)

pub returns-then-has_magic-clause-tells : goal.returns-then-has_magic-clause-tells
returns-then-has_magic-clause-tells g c k is =
    let geo = c.args.geometry in
    let m = goes_told g.D.Disk.content Flushed c.args.disk.now c.flush.new.self k is c.in_ok-flush.ensures.step in
    let n = flushed_read g.D.Disk.content c.flush.new.self c.read.new.self k m c.read.ensures.step in
    let zeroth : c.read.new.into ≡ contents_of k.now 0 = read_told (g.D.Disk.content c.flush.new.self) 0 c.read.new.into m.told m.is c.in_ok-read.ensures.gives ∙ ap (λ (l : List (List ℕ)). contents_of l 0) m.holds.0 in
    let named : c.read-2.new.into ≡ named_by geo (contents_of k.now) = read_told (g.D.Disk.content c.read.new.self) c.in-Ok.at c.read-2.new.into n.told n.is c.in_ok-read-2.ensures.gives ∙ ap (λ (l : List (List ℕ)). contents_of l c.in-Ok.at) n.holds.0 ∙ ap (contents_of k.now) (c.in-Ok.ensures.at ∙ ap (current_in geo) zeroth) in
    (subst (λ (b : List ℕ). header_fault geo b ≡ None) zeroth c.in-Ok.ensures.exact, subst HasMagic named (c.has_magic.ensures.0 c.if-has_magic.true))

pub returns-then-has_magic-clause-left : goal.returns-then-has_magic-clause-left
returns-then-has_magic-clause-left g c k is = let q = goal.at.returns-then-has_magic-clause-left g c in let n = seen_2 g q.After-read-2 k is in record { told = n.told; is = n.is; holds = (n.holds.0, flushed_is k n.told n.holds) }

-- ---- the write

not_magic : (r : Bool) (P : Type 0) → r ≡ false → (P → r ≡ true) → P → ⊥
not_magic r P is_not yields p = let t = yields p in cc

module _ (g : Over) where
  zeroth_is : (c : After-write g) (k : Content) → g.D.Disk.content c.args.disk.now ≡ Some k → c.read.new.into ≡ contents_of k.now 0
  zeroth_is c k is =
      let m = goes_told g.D.Disk.content Flushed c.args.disk.now c.flush.new.self k is c.in_ok-flush.ensures.step in
      read_told (g.D.Disk.content c.flush.new.self) 0 c.read.new.into m.told m.is c.in_ok-read.ensures.gives ∙ ap (λ (l : List (List ℕ)). contents_of l 0) m.holds.0

  named_is : (c : After-write g) (k : Content) → g.D.Disk.content c.args.disk.now ≡ Some k → c.read-2.new.into ≡ named_by c.args.geometry (contents_of k.now)
  named_is c k is =
      let m = goes_told g.D.Disk.content Flushed c.args.disk.now c.flush.new.self k is c.in_ok-flush.ensures.step in
      let n = flushed_read g.D.Disk.content c.flush.new.self c.read.new.self k m c.read.ensures.step in
      read_told (g.D.Disk.content c.read.new.self) c.in-Ok.at c.read-2.new.into n.told n.is c.in_ok-read-2.ensures.gives ∙ ap (λ (l : List (List ℕ)). contents_of l c.in-Ok.at) n.holds.0 ∙ ap (contents_of k.now) (c.in-Ok.ensures.at ∙ ap (current_in c.args.geometry) (zeroth_is c k is))

  good : (c : After-write g) (k : Content) → g.D.Disk.content c.args.disk.now ≡ Some k → header_fault c.args.geometry (contents_of k.now 0) ≡ None
  good c k is = subst (λ (b : List ℕ). header_fault c.args.geometry b ≡ None) (zeroth_is c k is) c.in-Ok.ensures.exact

  plain : (c : After-write g) (k : Content) → g.D.Disk.content c.args.disk.now ≡ Some k → IsPlain (named_by c.args.geometry (contents_of k.now))
  plain c k is = subst (λ (b : List ℕ). HasMagic b → ⊥) (named_is c k is) (not_magic c.has_magic.result (HasMagic c.read-2.new.into) c.if-has_magic.false c.has_magic.ensures.1)

  seen_3 : (c : After-write g) (k : Content) → g.D.Disk.content c.args.disk.now ≡ Some k → Tells g.D.Disk.content (Flushed k) c.read-2.new.self
  seen_3 c k is =
      flushed_read g.D.Disk.content c.read.new.self c.read-2.new.self k (flushed_read g.D.Disk.content c.flush.new.self c.read.new.self k (goes_told g.D.Disk.content Flushed c.args.disk.now c.flush.new.self k is c.in_ok-flush.ensures.step) c.read.ensures.step) c.read-2.ensures.step

  read_2_stated : (c : After-write g) → g.D.Disk.stated c.read-2.new.self ≡ Some c.args.geometry
  read_2_stated c = let geo = c.args.geometry in keeps_stated geo _ _ (keeps_stated geo _ _ (keeps_stated geo _ _ c.requires.sizes c.flush.ensures.always) c.read.ensures.always) c.read-2.ensures.always

  write_cuts : (c : After-write g) (k : Content) → g.D.Disk.content c.args.disk.now ≡ Some k
      → AddsCuts g.D.Disk.moment g.D.Disk.left_since (λ image. IsCrash k.candidates image ⊎ IsForwardCut c.args.geometry k.now image) c.args.disk.now c.read-2.new.self
      → AddsCuts g.D.Disk.moment g.D.Disk.left_since (λ image. IsCrash k.candidates image ⊎ IsForwardCut c.args.geometry k.now image) c.args.disk.now c.write.new.self
  write_cuts c k is so_far =
      let geo = c.args.geometry in
      let some : 0 < geo.blocks = omega (arith, c.requires.valid.enough) in
      let fits : Fits geo k = g.met.D.Disk.shaped c.args.disk.now k is geo c.requires.sizes in
      let n = seen_3 c k is in
      let d = goes_told g.D.Disk.content (WriteStep c.write.result 0 c.read-2.new.into) c.read-2.new.self c.write.new.self n.told n.is c.write.ensures.step in
      let fd : Fits geo d.told = g.met.D.Disk.shaped c.write.new.self d.told d.is geo (keeps_stated geo _ _ (read_2_stated c) c.write.ensures.always) in
      adds_then g.D.Disk.content g.D.Disk.moment g.D.Disk.left_since _ c.args.disk.now c.read-2.new.self c.write.new.self so_far
      (adds_call g.D.Disk.content g.D.Disk.moment g.D.Disk.left_since _ c.read-2.new.self c.write.new.self d.told d.is c.write.ensures.time
      (λ cut crash. inr (record {
        header = good c k is;
        plain = plain c k is;
        left = subst (λ (v : List ℕ). IsHeadCut geo v k.now cut) (named_is c k is) (head_given_cut geo c.read-2.new.into k fits some n.told d.told cut fd n.holds (given c.write.result 0 c.read-2.new.into n.told d.told d.holds) crash);
      })))

  put_told : (c : After-flush-2 g) (k : Content) → g.D.Disk.content c.args.disk.now ≡ Some k → Tells g.D.Disk.content (Flushed k) c.read-2.new.self → Tells g.D.Disk.content (HeadPut c.read-2.new.into k) c.write.new.self
  put_told c k is n =
      let d = goes_told g.D.Disk.content (Written 0 c.read-2.new.into) c.read-2.new.self c.write.new.self n.told n.is c.in_ok-write.ensures.step in
      record { told = d.told; is = d.is; holds = put_after c.read-2.new.into k n.told d.told n.holds d.holds }

  flush_cuts : (c : After-flush-2 g) (k : Content) → g.D.Disk.content c.args.disk.now ≡ Some k
      → Tells g.D.Disk.content (Flushed k) c.read-2.new.self → header_fault c.args.geometry (contents_of k.now 0) ≡ None → IsPlain (named_by c.args.geometry (contents_of k.now)) → c.read-2.new.into ≡ named_by c.args.geometry (contents_of k.now)
      → g.D.Disk.stated c.read-2.new.self ≡ Some c.args.geometry
      → AddsCuts g.D.Disk.moment g.D.Disk.left_since (λ image. IsCrash k.candidates image ⊎ IsForwardCut c.args.geometry k.now image) c.args.disk.now c.write.new.self
      → AddsCuts g.D.Disk.moment g.D.Disk.left_since (λ image. IsCrash k.candidates image ⊎ IsForwardCut c.args.geometry k.now image) c.args.disk.now c.flush-2.new.self
  flush_cuts c k is n header no_magic named stated so_far =
      let geo = c.args.geometry in
      let some : 0 < geo.blocks = omega (arith, c.requires.valid.enough) in
      let fits : Fits geo k = g.met.D.Disk.shaped c.args.disk.now k is geo c.requires.sizes in
      let put = put_told c k is n in
      let e = goes_told g.D.Disk.content (FlushStep c.flush-2.result) c.write.new.self c.flush-2.new.self put.told put.is c.flush-2.ensures.step in
      let fe : Fits geo e.told = g.met.D.Disk.shaped c.flush-2.new.self e.told e.is geo (keeps_stated geo _ _ (keeps_stated geo _ _ stated c.write.ensures.always) c.flush-2.ensures.always) in
      adds_then g.D.Disk.content g.D.Disk.moment g.D.Disk.left_since _ c.args.disk.now c.write.new.self c.flush-2.new.self so_far
      (adds_call g.D.Disk.content g.D.Disk.moment g.D.Disk.left_since _ c.write.new.self c.flush-2.new.self e.told e.is c.flush-2.ensures.time
      (λ cut crash. inr (record {
        header = header;
        plain = no_magic;
        left = subst (λ (v : List ℕ). IsHeadCut geo v k.now cut) named (head_flush_cut geo c.read-2.new.into k put.told e.told cut fits some fe put.holds (flush_cases c.flush-2.result put.told e.told e.holds) crash);
      })))

pub returns-in_err-write-clause-cuts : goal.returns-in_err-write-clause-cuts
returns-in_err-write-clause-cuts g c k is = let q = goal.at.returns-in_err-write-clause-cuts g c in write_cuts g q.After-write k is (read_2_cuts g q.After-read-2 k is (read_cuts g q.After-read k is))

pub returns-in_err-flush-2-clause-cuts : goal.returns-in_err-flush-2-clause-cuts
returns-in_err-flush-2-clause-cuts g c k is =
    let q = goal.at.returns-in_err-flush-2-clause-cuts g c in
    let w = q.After-write in
    flush_cuts g q.After-flush-2 k is (seen_3 g w k is) (good g w k is) (plain g w k is) (named_is g w k is) (read_2_stated g w) (write_cuts g w k is (read_2_cuts g q.After-read-2 k is (read_cuts g q.After-read k is)))

pub returns-clause-cuts : goal.returns-clause-cuts
returns-clause-cuts g c k is =
    let q = goal.at.returns-clause-cuts g c in
    let w = q.After-write in
    flush_cuts g q.After-flush-2 k is (seen_3 g w k is) (good g w k is) (plain g w k is) (named_is g w k is) (read_2_stated g w) (write_cuts g w k is (read_2_cuts g q.After-read-2 k is (read_cuts g q.After-read k is)))

pub returns-clause-tells : goal.returns-clause-tells
returns-clause-tells g c k is = let w = (goal.at.returns-clause-tells g c).After-write in (good g w k is, plain g w k is)

pub returns-clause-left : goal.returns-clause-left
returns-clause-left g c k is =
    let q = goal.at.returns-clause-left g c in
    let w = q.After-write in
    let put = put_told g q.After-flush-2 k is (seen_3 g w k is) in
    let e = goes_told g.D.Disk.content Flushed c.write.new.self c.flush-2.new.self put.told put.is c.in_ok-flush-2.ensures.step in
    let h = head_then_flush c.read-2.new.into k put.told e.told put.holds e.holds in
    record { told = e.told; is = e.is; holds = (h.0 ∙ ap (λ (v : List ℕ). set k.now 0 v) (named_is g w k is), h.1) }
