use Rattle.std.proofs.Common.{◌≡◌, ℕ, ◌+◌, ◌*◌, ◌<◌, ◌∷◌, List, drop, sym, ap, ◌∙◌, subst, refl, arith, eqb, ◌==◌}
use mathlib.Core.Option.{none}
use prog.Atomic.{either}
use Rattle.atomic_table.specs.Table.{Me, Allows, step, rest}
use Rattle.bow_tags.specs.declared.view.Slot.{Slot}
use Rattle.bow_tags.specs.declared.view.Slot.TheVariants.{Answer}
use Rattle.bow_tags.specs.declared.view.View.{View}
use Rattle.bow_tags.specs.Rule.{Rule}
use Rattle.bow_tags.specs.Steps.{after_answer, answers, held, HoldsJob}
use Rattle.bow_tags.specs.Seats.{with_empty}
use Rattle.bow_tags.proofs.Keeps.{is_here}
use Rattle.bow_tags.proofs.Lists.{times_at}
use Rattle.bow_tags.proofs.Serves.{answer_allowed}
use Rattle.bow_tags.proofs.Tally.{job_counts, job_near, holds_one_less, server_sits}
use Rattle.bow_tags.proofs.seats.Tags.answer.Goals as goal

pub bring-requires-clause-has : goal.bring-requires-clause-has
bring-requires-clause-has g c = job_counts c.seat.inside.seat.table_id.slots c.args.job.lane c.args.job.number c.seat.inside.held.items c.seat.inside.seat.me.1 c.seat.inside.seat.me.0 c.seat.invariant
    (subst (λ z. HoldsJob z.view c.args.job.lane c.args.job.number) (sym c.seat.view_is) c.requires.holds)

pub compare_exchange-requires : goal.compare_exchange-requires
compare_exchange-requires g c =
    let own = ap (λ z. z.table) c.seat.view_is ∙ (c.requires.own ∙ sym c.self.view_is) in
    let slots : ℕ = c.self.inside.table.shared.table_id.slots in
    let l : ℕ = c.args.job.lane in
    let k : ℕ = c.args.job.number in
    let v = c.seat.inside.seat.me.0 in
    let is : c.exchange.new.seat.me ≡ (v, (l, Answer c.args.outcome) ∷ rest c.bring.new.seat.me.1) = c.exchange.ensures.3 ∙ ap (λ (m : Me (Slot g.row.P.Denot g.row.Q.Denot) (View g.row.P.Denot g.row.Q.Denot)). (m.0, (l, Answer c.args.outcome) ∷ rest c.bring.new.seat.me.1)) c.bring.ensures.same.2 in
    let holds = subst (λ z. HoldsJob z.view l k) (sym c.seat.view_is) c.requires.holds in
    let near = subst (λ z. l < z.slots) own (job_near c.seat.inside.seat.table_id.slots l c.seat.inside.held.items c.bring.new.held.items (drop 1 c.bring.new.held.items) c.seat.inside.seat.me.1 v c.seat.invariant c.bring.ensures.turned c.bring.ensures.first) in (
      c.exchange.ensures.0 ∙ (c.bring.ensures.same.0 ∙ own),
      subst (λ (z : ℕ). l < z) (sym c.self.invariant.0) near,
      subst (λ m. Allows (Rule g.P.Fits.fits) slots c.exchange.new.seat.id m l (λ y. either (eqb y (4 * k + 2)) (4 * k + 2 + 1) y) (answers (step slots l (4 * k + 2) (4 * k + 2 + 1) none) m)) (sym is)
          (answer_allowed g.P.Fits.fits slots c.exchange.new.seat.id l (4 * k + 2) (4 * k + 2 + 1) k holds.0 v holds.1 c.args.outcome (rest c.bring.new.seat.me.1) near holds.2 c.seat.invariant.speaks refl (omega arith)),
    )

pub invariant_of-seat : goal.invariant_of-seat
invariant_of-seat g c =
    let l : ℕ = c.args.job.lane in
    let k : ℕ = c.args.job.number in
    let v = c.seat.inside.seat.me.0 in
    let holds = subst (λ z. HoldsJob z.view l k) (sym c.seat.view_is) c.requires.holds in
    let did = c.compare_exchange.ensures.2 in
    let M : Type 0 = Me (Slot g.row.P.Denot g.row.Q.Denot) (View g.row.P.Denot g.row.Q.Denot) in
    let rest' : List ℕ = drop 1 c.bring.new.held.items in
    server_sits c.seat.inside.seat.table_id.slots c.compare_exchange.new.seat.table_id.slots rest' c.remove.new.self.items c.compare_exchange.new.seat.me (with_empty rest') (after_answer v l did.0 did.1 did.2)
    (ap (λ z. z.slots) (c.compare_exchange.ensures.0 ∙ (c.exchange.ensures.0 ∙ c.bring.ensures.same.0))) c.remove.ensures.items
    (did.5 ∙ ap (λ (m : M). (after_answer m.0 l did.0 did.1 did.2, rest m.1)) (c.exchange.ensures.3 ∙ ap (λ (m : M). (m.0, (l, Answer c.args.outcome) ∷ rest m.1)) (c.bring.ensures.same.2 ∙ ap (λ (z : List ℕ). (v, with_empty {P = g.row.P.Denot} {Q = g.row.Q.Denot} z)) c.bring.ensures.first)))
    (holds_one_less c.seat.inside.seat.table_id.slots l did.0 did.1 did.2 c.seat.inside.held.items c.bring.new.held.items rest' c.seat.inside.seat.me.1 v c.seat.invariant c.bring.ensures.turned c.bring.ensures.first
    (times_at (λ j. j.lane == l) v.jobs holds.0 (held l k holds.1) holds.2 (is_here l)))
