use Rattle.std.proofs.Common.{◌≡◌, ℕ, ◌+◌, ◌*◌, ◌<◌, [], ◌∷◌, sym, ap, ◌∙◌, subst, refl, arith, eqb}
use mathlib.Core.Option.{none}
use prog.Atomic.{either}
use Rattle.atomic_table.specs.Table.{Me, Allows, step, rest}
use Rattle.bow_tags.specs.declared.view.Slot.{Slot}
use Rattle.bow_tags.specs.declared.view.Slot.TheVariants.{Empty, Answer}
use Rattle.bow_tags.specs.declared.view.View.{View}
use Rattle.bow_tags.specs.Rule.{Rule}
use Rattle.bow_tags.specs.Steps.{retires, lane_of, looked, entry}
use Rattle.bow_tags.proofs.Keeps.{poll_allowed, retire_allowed}
use Rattle.bow_tags.proofs.seats.Tags.poll.Goals as goal

pub load-requires : goal.load-requires
load-requires g c =
    let sit = c.seat.invariant.1 in
    let own = ap (λ z. z.table) c.seat.view_is ∙ (c.requires.own ∙ sym c.self.view_is) in
    let near : c.seat.inside.lane < c.self.inside.table.shared.table_id.slots = subst (λ z. c.seat.inside.lane < z.slots) own sit.near in (
      own,
      subst (λ (z : ℕ). c.seat.inside.lane < z) (sym c.self.invariant.0) near,
      poll_allowed g.P.Fits.fits c.self.inside.table.shared.table_id.slots c.seat.inside.seat.id c.seat.inside.lane c.seat.inside.seat.me.0 c.seat.inside.seat.me.1
          near sit.one sit.lane (ap (λ z. (lane_of z.view).stance) c.seat.view_is ∙ c.requires.posted) sit.empty,
    )

pub exchange-requires : goal.exchange-requires
exchange-requires g c =
    let own = ap (λ z. z.table) c.seat.view_is ∙ (c.requires.own ∙ sym c.self.view_is) in
    let did = c.load.ensures.2.0 (c.if-load-ne3.false) in
    (c.load.ensures.0 ∙ own, (Answer did.1, ap (λ m. m.1) did.4 ∙ ap (λ (m : Me (Slot g.row.P.Denot g.row.Q.Denot) (View g.row.P.Denot g.row.Q.Denot)). (c.seat.inside.lane, Answer did.1) ∷ rest m.1) (sym did.4)))

pub compare_exchange-requires : goal.compare_exchange-requires
compare_exchange-requires g c =
    let sit = c.seat.invariant.1 in
    let own = ap (λ z. z.table) c.seat.view_is ∙ (c.requires.own ∙ sym c.self.view_is) in
    let near : c.seat.inside.lane < c.self.inside.table.shared.table_id.slots = subst (λ z. c.seat.inside.lane < z.slots) own sit.near in
    let slots : ℕ = c.self.inside.table.shared.table_id.slots in
    let l : ℕ = c.seat.inside.lane in
    let k : ℕ = c.seat.inside.number in
    let v0 = c.seat.inside.seat.me.0 in
    let did = c.load.ensures.2.0 (c.if-load-ne3.false) in
    let x = entry l (lane_of v0).number did.0 did.1 in
    let v = record (looked l c.load.result v0) { hand = x ∷ [] } in
    let is : c.exchange.new.seat.me ≡ (v, (l, Empty) ∷ []) = c.exchange.ensures.3 ∙ ap (λ m. (m.0, (l, Empty) ∷ rest m.1)) (did.4 ∙ ap (λ cs. (v, (l, Answer did.1) ∷ cs)) c.seat.invariant.0) in
    let number : k ≡ (lane_of v0).number = sym sit.number in (
      c.exchange.ensures.0 ∙ (c.load.ensures.0 ∙ own),
      subst (λ (z : ℕ). l < z) (sym c.self.invariant.0) near,
      subst (λ m. Allows (Rule g.P.Fits.fits) slots c.exchange.new.seat.id m l (λ y. either (eqb y (4 * k + 3)) (4 * k + 3 + 1) y) (retires (step slots l (4 * k + 3) (4 * k + 3 + 1) none) m)) (sym is)
          (retire_allowed g.P.Fits.fits slots c.exchange.new.seat.id l (4 * k + 3) (4 * k + 3 + 1) v [] x near sit.one sit.lane refl refl (ap (λ (z : ℕ). 4 * z + 3) number) (omega arith)),
    )
