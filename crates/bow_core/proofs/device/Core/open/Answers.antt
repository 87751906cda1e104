use Rattle.std.proofs.Common.{◌≡◌, Some, ap, sym, subst, ◌∙◌}
use Rattle.std.specs.Prelude.{IfOk, Ok, slice_index_or, []}
use Rattle.bow_units.specs.Magics.{IsPlain}
use Rattle.bow_disk.specs.Disk.{Content}
use Rattle.bow_flat.specs.Flat.{opening}
use Rattle.bow_machine.specs.Laws.{opened}
use Rattle.bow_core.specs.Further.{LedOver}
use Rattle.bow_core.specs.Held.{Held}
use Rattle.bow_core.specs.Openings.{LeftBy, OpenedBy}
use Rattle.bow_core.specs.Standing.{StandsOver}
use Rattle.bow_core.proofs.Opened.{keeps_sizes, keeps_then, opened_so}
use Rattle.bow_core.proofs.device.Core.open.Given.{Over}
use Rattle.bow_core.proofs.device.Core.open.Goals as goal
use Rattle.bow_core.proofs.device.Core.open.Goals.{In-Ok-settle}

module _ (g : Over) (c : In-Ok-settle g) where
  opens : c.in-Ok-open.state ≡ record { geometry = c.in-Ok.geometry; places = c.args.places; admitted = 0; memory = opened c.in-Ok.geometry.blocks }
  opens = subst (λ r. IfOk r (λ (s : Held). s ≡ record { geometry = c.in-Ok.geometry; places = c.args.places; admitted = 0; memory = opened c.in-Ok.geometry.blocks })) c.in-Ok-open.is c.open.ensures

module _ (g : Over) (c : In-Ok-settle g) (k : Content) (is : g.D.Disk.content c.args.disk ≡ Some k) where
  abbrev state : Held
  state = c.settle.new.state

  so : IsPlain (slice_index_or k.now 0 []) × StandsOver state.geometry state.memory (g.D.Disk.content c.settle.new.port.disk) (opening k.now) × LedOver state.geometry state.memory (g.D.Disk.content c.settle.new.port.disk) (opening k.now)
  so =
      let g0 = c.in-Ok.geometry in
      let b = c.sizes.new.self in
      let d = c.settle.new.port.disk in
      let state_is = c.settle.ensures.state ∙ opens g c in
      let made = subst (λ r. LeftBy g.D.Disk.stated g.D.Disk.content g.D.Disk.moment g.D.Disk.left_since g.D.Disk.faults c.in-Ok-open.state.geometry r b d) c.in-Ok-settle.is c.settle.ensures.left in
      let made_so = subst (λ x. LeftBy g.D.Disk.stated g.D.Disk.content g.D.Disk.moment g.D.Disk.left_since g.D.Disk.faults x (Ok c.in-Ok-settle.field-0) b d) (ap (λ (h : Held). h.geometry) (opens g c)) made in
      let all = opened_so g.D.Disk.stated g.D.Disk.content g.D.Disk.moment g.D.Disk.left_since g.D.Disk.faults g.met.D.Disk.shaped g.met.D.Disk.counts_now g0 c.in-Ok-settle.field-0 c.args.disk b d k is (c.valid.ensures.0 c.if-not-valid.false) c.sizes.ensures.step c.sizes.ensures.count made_so in (
        all.0,
        subst (λ (h : Held). StandsOver h.geometry h.memory (g.D.Disk.content d) (opening k.now)) (sym state_is) all.1,
        subst (λ (h : Held). LedOver h.geometry h.memory (g.D.Disk.content d) (opening k.now)) (sym state_is) all.2,
      )

pub returns-in-Ok-settle-clause-stands : goal.returns-in-Ok-settle-clause-stands
returns-in-Ok-settle-clause-stands g c k is = let all = so g (goal.at.returns-in-Ok-settle-clause-stands g c).In-Ok-settle k is in (all.0, all.1)

pub returns-in-Ok-settle-clause-led : goal.returns-in-Ok-settle-clause-led
returns-in-Ok-settle-clause-led g c k is = (so g (goal.at.returns-in-Ok-settle-clause-led g c).In-Ok-settle k is).2

pub returns-in-Ok-settle-clause-unfailed : goal.returns-in-Ok-settle-clause-unfailed
returns-in-Ok-settle-clause-unfailed g c =
    let k = (goal.at.returns-in-Ok-settle-clause-unfailed g c).In-Ok-settle in
    let d = k.settle.new.port.disk in
    let b = k.sizes.new.self in
    let g0 = k.in-Ok.geometry in
    let made = subst (λ r. LeftBy g.D.Disk.stated g.D.Disk.content g.D.Disk.moment g.D.Disk.left_since g.D.Disk.faults k.in-Ok-open.state.geometry r b d) k.in-Ok-settle.is k.settle.ensures.left in
    let own = subst (λ x. LeftBy g.D.Disk.stated g.D.Disk.content g.D.Disk.moment g.D.Disk.left_since g.D.Disk.faults x (Ok k.in-Ok-settle.field-0) b d) (ap (λ (h : Held). h.geometry) (opens g k)) made in
    let state_is = k.settle.ensures.state ∙ opens g k in
    subst (λ (h : Held). OpenedBy g.D.Disk.stated g.D.Disk.content g.D.Disk.moment g.D.Disk.left_since g.D.Disk.faults h.geometry c.args.disk d) (sym state_is)
    (record { asked = b; sizes = k.in-Ok.ensures.gives; same = (k.sizes.ensures.count, k.sizes.ensures.step); done = own.done })

pub returns-in-Ok-settle-clause-kept : goal.returns-in-Ok-settle-clause-kept
returns-in-Ok-settle-clause-kept g c =
    let k = (goal.at.returns-in-Ok-settle-clause-kept g c).In-Ok-settle in
    let a = c.args.disk in
    let b = k.sizes.new.self in
    let d = k.settle.new.port.disk in
    let e = k.sizes.ensures in
    keeps_then g.D.Disk.stated g.D.Disk.content g.D.Disk.moment g.D.Disk.left_since g.D.Disk.faults g.met.D.Disk.shaped g.met.D.Disk.counts_now a b d
    (keeps_sizes g.D.Disk.stated g.D.Disk.content g.D.Disk.moment g.D.Disk.left_since g.D.Disk.faults g.met.D.Disk.shaped g.met.D.Disk.counts_now a b e.always e.step e.count e.past e.keeps e.cause.later) k.settle.ensures.left.kept
