use Rattle.std.proofs.Common.{◌≡◌, ◌+◌, ◌*◌, ℕ, ◌+◌, ◌*◌, ◌<◌, [], ◌∷◌, ◌++◌, sym, ap, ◌∙◌, subst, refl, arith}
use Rattle.atomic_table.specs.Table.{Me, rest, turned}
use Rattle.bow_tags.specs.declared.view.Slot.{Slot}
use Rattle.bow_tags.specs.declared.view.Slot.TheVariants.{Empty, Ask}
use Rattle.bow_tags.specs.declared.view.View.{View}
use Rattle.bow_tags.specs.Steps.{looked, held}
use Rattle.bow_tags.proofs.Serves.{take_allowed}
use Rattle.bow_tags.proofs.Tally.{room_for_one, holds_one_more, server_sits, job_at_end}
use Rattle.bow_tags.proofs.seats.Tags.take.Goals as goal

pub compare_exchange-found-requires : goal.compare_exchange-found-requires
compare_exchange-found-requires g c =
    let own = ap (λ z. z.table) c.seat.view_is ∙ (c.requires.own ∙ sym c.self.view_is) in
    let near = subst (λ z. c.args.lane < z.slots) (sym c.self.view_is) c.requires.lane in (
      own,
      subst (λ (z : ℕ). c.args.lane < z) (sym c.self.invariant.0) near,
      take_allowed g.P.Fits.fits c.self.inside.table.shared.table_id.slots c.seat.inside.seat.id c.args.lane (4 * c.args.number + 1) (4 * c.args.number + 1 + 1) c.args.number c.seat.inside.seat.me.0 c.seat.inside.seat.me.1 near c.seat.invariant.live refl (omega arith),
    )

pub exchange-requires : goal.exchange-requires
exchange-requires g c =
    let own = ap (λ z. z.table) c.seat.view_is ∙ (c.requires.own ∙ sym c.self.view_is) in
    let did = c.compare_exchange-found.ensures.2.0 (c.if-found-word.false) in
    (c.compare_exchange-found.ensures.0 ∙ own, (Ask did.1, ap (λ m. m.1) did.6 ∙ ap (λ (m : Me (Slot g.row.P.Denot g.row.Q.Denot) (View g.row.P.Denot g.row.Q.Denot)). (c.args.lane, Ask did.1) ∷ rest m.1) (sym did.6)))

pub push-requires : goal.push-requires
push-requires g c =
    let own = ap (λ z. z.table) c.seat.view_is ∙ (c.requires.own ∙ sym c.self.view_is) in
    let did = c.compare_exchange-found.ensures.2.0 (c.if-found-word.false) in
    let sit = c.seat.invariant in
    let near = subst (λ z. c.args.lane < z.slots) (sym own) (subst (λ z. c.args.lane < z.slots) (sym c.self.view_is) c.requires.lane) in
    let less = room_for_one c.seat.inside.seat.table_id.slots c.args.lane c.seat.inside.held.items c.seat.inside.seat.me.1 c.seat.inside.seat.me.0 sit near did.4 in
    let few = sit.few in (omega arith, omega arith)

pub invariant_of-seat-2 : goal.invariant_of-seat-2
invariant_of-seat-2 g c =
    let own = ap (λ z. z.table) c.seat.view_is ∙ (c.requires.own ∙ sym c.self.view_is) in
    let did = c.compare_exchange-found.ensures.2.0 (c.if-found-word.false) in
    let sit = c.seat.invariant in
    let near = subst (λ z. c.args.lane < z.slots) (sym own) (subst (λ z. c.args.lane < z.slots) (sym c.self.view_is) c.requires.lane) in
    let ls = c.seat.inside.held.items in
    let cs = c.seat.inside.seat.me.1 in
    let v = c.seat.inside.seat.me.0 in
    server_sits c.seat.inside.seat.table_id.slots c.turn.new.self.table_id.slots (ls ++ c.args.lane ∷ []) c.push.new.self.items c.turn.new.self.me (cs ++ (c.args.lane, Empty) ∷ []) (record (looked c.args.lane c.compare_exchange-found.result v) { jobs = v.jobs ++ held c.args.lane did.0 did.1 ∷ [] })
    (ap (λ z. z.slots) (c.turn.ensures.0 ∙ (c.exchange.ensures.0 ∙ c.compare_exchange-found.ensures.0))) c.push.ensures.items
    (c.turn.ensures.2 ∙ ap (λ (m : Me (Slot g.row.P.Denot g.row.Q.Denot) (View g.row.P.Denot g.row.Q.Denot)). (m.0, turned m.1)) (c.exchange.ensures.3 ∙ ap (λ (m : Me (Slot g.row.P.Denot g.row.Q.Denot) (View g.row.P.Denot g.row.Q.Denot)). (m.0, (c.args.lane, Empty) ∷ rest m.1)) did.6))
    (holds_one_more c.seat.inside.seat.table_id.slots c.args.lane did.0 c.compare_exchange-found.result did.1 ls cs v sit near did.4)

pub returns-clause-held : goal.returns-clause-held
returns-clause-held g c =
    let did = c.compare_exchange-found.ensures.2.0 (c.if-found-word.false) in
    let v = c.seat.inside.seat.me.0 in
    let M : Type 0 = Me (Slot g.row.P.Denot g.row.Q.Denot) (View g.row.P.Denot g.row.Q.Denot) in
    job_at_end v c.turn.new.self.me.0 c.args.lane c.args.number did.0 did.1
    (ap (λ (m : M). m.0.jobs) (c.turn.ensures.2 ∙ ap (λ (m : M). (m.0, turned m.1)) (c.exchange.ensures.3 ∙ ap (λ (m : M). (m.0, (c.args.lane, Empty) ∷ rest m.1)) did.6)))
    (let e : 4 * c.args.number + 1 ≡ 4 * did.0 + 1 = did.2 in omega arith)
