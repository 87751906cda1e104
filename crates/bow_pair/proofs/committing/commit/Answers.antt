use Rattle.std.proofs.Common.{◌≡◌, ◌+◌, Bool, Some, refl, sym, ap, ◌∙◌, arith}
use Rattle.bow_units.specs.Causes.{Rose}
use Rattle.bow_core.specs.Turns.{told_of}
use Rattle.bow_pair.specs.Committing.{answer_in}
use Rattle.bow_pair.proofs.Commits.{going_done, going_fault, going_first, going_images, going_on, none_left_over}
use Rattle.bow_pair.proofs.committing.commit.Given.{Over}
use Rattle.bow_pair.proofs.committing.commit.Goals as goal
use Rattle.bow_pair.proofs.committing.commit.Goals.{After-loop-act, In-Some, In_default}

pub loop-act-init : goal.loop-act-init
loop-act-init g c =
    let D = g.D.Disk in
    let E = c.admit-ticket.ensures in
    (4, refl, going_first D.stated D.content D.moment D.left_since D.faults c.args.core.now c.admit-ticket.new.self c.admit-ticket.result c.requires E.waits E.opened (λ f s. E.stands f s) (λ f s. E.forward f s))

pub loop-act-preserved : goal.loop-act-preserved
loop-act-preserved g c =
    let D = g.D.Disk in
    let E = c.step-told.ensures in
    let i = c.loop-act.invariant in
    let on = going_on D.stated D.content D.moment D.left_since D.faults c.args.core.now c.loop-act.core c.step-told.new.self i.0 c.step-told.result i.2 E.step E.opened E.faults (λ f s. E.leads f s) (λ f s t. E.forward f s t) (sym c.answer_of.ensures ∙ c.in_default.is) in
    (on.0, (let e : on.0 + (c.loop-act.act + 1) ≡ 4 = omega (arith, on.1, i.1) in e), on.2)

module _ (g : Over) where
  told : (c : In-Some g) → answer_in (told_of c.step-told.result) ≡ Some c.in-Some.done
  told c = sym c.answer_of.ensures ∙ c.in-Some.is

pub returns-in-Some-clause-done : goal.returns-in-Some-clause-done
returns-in-Some-clause-done g c yes_ f k =
    let D = g.D.Disk in
    let E = c.step-told.ensures in
    let i = c.loop-act.invariant in
    going_done D.stated D.content D.moment D.left_since D.faults c.args.core.now c.loop-act.core c.step-told.new.self i.0 c.step-told.result i.2 E.step E.opened E.faults (λ h s. E.leads h s) (λ h s t. E.forward h s t) (λ d k at geo size. g.met.D.Disk.shaped d k at geo size) (told g c ∙ ap (λ (b : Bool). Some b) yes_) f k

pub returns-in-Some-clause-failed : goal.returns-in-Some-clause-failed
returns-in-Some-clause-failed g c no_ =
    let D = g.D.Disk in
    let E = c.step-told.ensures in
    let i = c.loop-act.invariant in
    let before = (i.2).later in
    let rose : Rose (D.faults c.loop-act.core.disk) (D.faults c.step-told.new.self.disk) = E.cause (going_fault D.stated D.content D.moment D.left_since D.faults c.args.core.now c.loop-act.core c.step-told.new.self i.0 c.step-told.result i.2 E.step (told g c ∙ ap (λ (b : Bool). Some b) no_)) in
    omega (arith, before, rose)

pub returns-in-Some-clause-images : goal.returns-in-Some-clause-images
returns-in-Some-clause-images g c f k =
    let D = g.D.Disk in
    let E = c.step-told.ensures in
    let i = c.loop-act.invariant in
    going_images D.stated D.content D.moment D.left_since D.faults c.args.core.now c.loop-act.core c.step-told.new.self i.0 c.step-told.result i.2 E.step E.opened E.faults (λ h s. E.leads h s) (λ h s t. E.forward h s t) f k

pub returns-in-Some-clause-geometry : goal.returns-in-Some-clause-geometry
returns-in-Some-clause-geometry g c = let i = c.loop-act.invariant in (c.step-told.ensures.step).geometry ∙ (i.2).geometry

pub returns-in-Some-clause-faults : goal.returns-in-Some-clause-faults
returns-in-Some-clause-faults g c =
    let i = c.loop-act.invariant in
    let before = (i.2).later in
    let now = c.step-told.ensures.faults in
    omega (arith, before, now)

module _ (g : Over) where
  -- there is no act after the last one
  never : (c : After-loop-act g) → ⊥
  never c =
      let i = c.loop-act.invariant in
      let out = c.loop-act-test.false in
      let far = c.loop-act.auto.act-end in
      none_left_over i.0 c.loop-act.core.memory (omega (arith, i.1, out, far)) (i.2).commits

pub returns-clause-opened : goal.returns-clause-opened
returns-clause-opened g c = (c.loop-act.invariant.2).opened

pub returns-clause-done : goal.returns-clause-done
returns-clause-done g c = absurd (never g c)

pub returns-clause-failed : goal.returns-clause-failed
returns-clause-failed g c = absurd (never g c)

pub returns-clause-images : goal.returns-clause-images
returns-clause-images g c = absurd (never g c)

pub returns-clause-geometry : goal.returns-clause-geometry
returns-clause-geometry g c = (c.loop-act.invariant.2).geometry

pub returns-clause-faults : goal.returns-clause-faults
returns-clause-faults g c = (c.loop-act.invariant.2).later
