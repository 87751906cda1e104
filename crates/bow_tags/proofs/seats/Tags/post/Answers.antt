use Rattle.std.proofs.Common.{◌++◌, ◌≡◌, ℕ, ◌+◌, ◌*◌, ◌<◌, [], ◌∷◌, sym, ap, ◌∙◌, subst, refl, arith, eqb}
use mathlib.Core.Option.{none}
use prog.Atomic.{either}
use Rattle.atomic_table.specs.Table.{Me, Allows, step, rest}
use Rattle.bow_tags.specs.declared.view.Slot.TheVariants.{Empty, Ask}
use Rattle.bow_tags.specs.declared.view.Stance.TheVariants.{Holding}
use Rattle.bow_tags.specs.Rule.{Rule}
use Rattle.bow_tags.specs.Steps.{posts, with_lane, lane_of}
use Rattle.bow_tags.specs.declared.view.Slot.{Slot}
use Rattle.bow_tags.specs.declared.view.View.{View}
use Rattle.bow_tags.proofs.Tally.{asked_last, same_ask}
use Rattle.bow_tags.proofs.Keeps.{hold_allowed, post_allowed}
use Rattle.bow_tags.proofs.seats.Tags.post.Given.{Over}
use Rattle.bow_tags.proofs.seats.Tags.post.Goals as goal
use Rattle.bow_tags.proofs.seats.Tags.post.Goals.{After-exchange}

module _ (g : Over) where
  -- the seat is holding, and carries the lane's slot with the ask in it
  carries : (c : After-exchange g) → c.exchange.new.seat.me ≡ (with_lane (record (lane_of c.seat.inside.seat.me.0) { stance = Holding }) c.seat.inside.seat.me.0, (c.seat.inside.lane, Ask c.args.ask) ∷ [])
  carries c =
      let M : Type 0 = Me (Slot g.row.P.Denot g.row.Q.Denot) (View g.row.P.Denot g.row.Q.Denot) in
      let l : ℕ = c.seat.inside.lane in
      let v = with_lane (record (lane_of c.seat.inside.seat.me.0) { stance = Holding }) c.seat.inside.seat.me.0 in
      c.exchange.ensures.3 ∙ ap (λ (m : M). (m.0, (l, Ask c.args.ask) ∷ rest m.1)) (c.load.ensures.2 ∙ ap (λ cs. (v, (l, Empty) ∷ cs)) c.seat.invariant.0)

pub load-requires : goal.load-requires
load-requires g c =
    let sit = c.seat.invariant.1 in
    let own = ap (λ z. z.table) c.seat.view_is ∙ (c.requires.own ∙ sym c.self.view_is) in
    let near : c.seat.inside.lane < c.self.inside.table.shared.table_id.slots = subst (λ z. c.seat.inside.lane < z.slots) own sit.near in (
      own,
      subst (λ (z : ℕ). c.seat.inside.lane < z) (sym c.self.invariant.0) near,
      hold_allowed g.P.Fits.fits c.self.inside.table.shared.table_id.slots c.seat.inside.seat.id c.seat.inside.lane c.seat.inside.seat.me.0 c.seat.inside.seat.me.1
          near sit.one sit.lane (ap (λ z. (lane_of z.view).stance) c.seat.view_is ∙ c.requires.idle) sit.empty,
    )

pub compare_exchange-requires : goal.compare_exchange-requires
compare_exchange-requires g c =
    let sit = c.seat.invariant.1 in
    let own = ap (λ z. z.table) c.seat.view_is ∙ (c.requires.own ∙ sym c.self.view_is) in
    let near : c.seat.inside.lane < c.self.inside.table.shared.table_id.slots = subst (λ z. c.seat.inside.lane < z.slots) own sit.near in
    let slots : ℕ = c.self.inside.table.shared.table_id.slots in
    let l : ℕ = c.seat.inside.lane in
    let k : ℕ = c.seat.inside.number in
    let v0 = c.seat.inside.seat.me.0 in
    let v = with_lane (record (lane_of v0) { stance = Holding }) v0 in
    let is = carries g (goal.at.compare_exchange-requires g c).After-exchange in
    let number : 4 * k ≡ 4 * (lane_of v0).number = ap (λ (z : ℕ). 4 * z) (sym sit.number) in (
      c.exchange.ensures.0 ∙ (c.load.ensures.0 ∙ own),
      subst (λ (z : ℕ). l < z) (sym c.self.invariant.0) near,
      subst (λ m. Allows (Rule g.P.Fits.fits) slots c.exchange.new.seat.id m l (λ y. either (eqb y (4 * k)) (4 * k + 1) y) (posts (step slots l (4 * k) (4 * k + 1) none) m)) (sym is)
          (post_allowed g.P.Fits.fits slots c.exchange.new.seat.id l (4 * k) (4 * k + 1) v c.args.ask [] near refl sit.lane refl sit.empty sit.live number (ap (λ (z : ℕ). z + 1) number)
          (let r = c.requires.room in let e = ap (λ z. (lane_of z.view).number) c.seat.view_is in omega arith)
          (subst (λ z. g.P.Fits.fits z.view.size c.args.ask) (sym c.seat.view_is) c.requires.fits)),
    )

pub returns-clause-asks : goal.returns-clause-asks
returns-clause-asks g c =
    let v0 = c.seat.inside.seat.me.0 in
    let l : ℕ = c.seat.inside.lane in
    let did = c.compare_exchange.ensures.2 in
    let M : Type 0 = Me (Slot g.row.P.Denot g.row.Q.Denot) (View g.row.P.Denot g.row.Q.Denot) in
    let is = carries g (goal.at.returns-clause-asks g c).After-exchange in
    let slots_are : (l, Ask c.args.ask) ∷ [] ≡ (l, Ask did.0) ∷ rest c.exchange.new.seat.me.1 = sym (ap (λ (m : M). m.1) is) ∙ did.1 in
    let same : did.0 ≡ c.args.ask = same_ask l c.args.ask did.0 [] (rest c.exchange.new.seat.me.1) slots_are in
    asked_last v0 c.compare_exchange.new.seat.me.0 l c.seat.inside.number c.seat.inside.posted c.seat.inside.seat.table_id.slots c.args.ask c.seat.invariant.1
    (ap (λ z. (lane_of z.view).stance) c.seat.view_is ∙ c.requires.idle)
    (ap (λ (m : M). (lane_of m.0).asked) did.2 ∙ (ap (λ (m : M). (lane_of m.0).asked ++ did.0 ∷ []) is ∙ ap (λ a. (lane_of v0).asked ++ a ∷ []) same))
    (ap (λ (m : M). (lane_of m.0).number) did.2 ∙ ap (λ (m : M). (lane_of m.0).number) is)
