use Rattle.std.proofs.Common.{◌≡◌, ℕ, ◌<◌, ◌==◌, List, [], ◌∷◌, ◌++◌, drop, ap, sym, ◌∙◌, subst, slice_index_or}
use Rattle.atomic_table.specs.Table.{Me, turned}
use Rattle.bow_tags.specs.declared.view.Slot.{Slot}
use Rattle.bow_tags.specs.declared.view.Slot.TheVariants.{Empty}
use Rattle.bow_tags.specs.declared.view.View.{View}
use Rattle.bow_tags.specs.Rule.{times}
use Rattle.bow_tags.specs.Seats.{before, with_empty, IsTurn}
use Rattle.bow_tags.proofs.Tally.{front_moves, next_turn, shape, map_snoc}
use Rattle.bow_tags.proofs.calls.bring.Given.{Over}
use Rattle.bow_tags.proofs.calls.bring.Goals as goal
use Rattle.bow_tags.proofs.calls.bring.Goals.{After-push}

turned_empty : {P Q : Type 0} (hs : List ℕ) (x : ℕ) (new : List ℕ) → hs ≡ x ∷ drop 1 hs → new ≡ drop 1 hs ++ x ∷ [] → turned (with_empty {P = P} {Q = Q} hs) ≡ with_empty {P = P} {Q = Q} new
turned_empty {P = P} {Q = Q} hs x new is is' = subst (λ (z : List ℕ × List ℕ). turned (with_empty {P = P} {Q = Q} z.0) ≡ with_empty {P = P} {Q = Q} z.1) (λ k. (sym is k, sym is' k)) (sym (map_snoc (λ (l : ℕ). (l, Empty)) (drop 1 hs) x))

module _ (g : Over) where
  front : (c : After-push g) → c.loop-seat.held.items ≡ c.remove-first.result ∷ drop 1 c.loop-seat.held.items
  front c = shape c.args.lane c.loop-seat.held.items c.remove-first.result c.loop-seat.invariant.has c.remove-first.ensures.value

  behind : (c : After-push g) → c.push.new.self.items ≡ drop 1 c.loop-seat.held.items ++ c.remove-first.result ∷ []
  behind c = c.push.ensures.items ∙ ap (λ (z : List ℕ). z ++ c.remove-first.result ∷ []) c.remove-first.ensures.items

  -- the lane has come nearer to the front, and is still there
  moves : (c : After-push g) → (before c.args.lane c.push.new.self.items < before c.args.lane c.loop-seat.held.items) × (0 < times (λ y. y == c.args.lane) c.push.new.self.items)
  moves c =
      let hs = c.loop-seat.held.items in
      let x = c.remove-first.result in
      let ne = λ (e : x ≡ c.args.lane). c.loop-seat-test.true (ap (λ (z : List ℕ). slice_index_or z 0 0) (c.deref.ensures.0 ∙ front c) ∙ e) in
      let step = front_moves c.args.lane x (drop 1 hs) ne (subst (λ (z : List ℕ). 0 < times (λ y. y == c.args.lane) z) (front c) c.loop-seat.invariant.has) in (
        subst (λ (z : List ℕ × List ℕ). before c.args.lane z.0 < before c.args.lane z.1) (λ k. (sym (behind c) k, sym (front c) k)) step.0,
        subst (λ (z : List ℕ). 0 < times (λ y. y == c.args.lane) z) (sym (behind c)) step.1,
      )

pub loop-seat-smaller : goal.loop-seat-smaller
loop-seat-smaller g c =
    (moves g (goal.at.loop-seat-smaller g c).After-push).0

pub loop-seat-preserved : goal.loop-seat-preserved
loop-seat-preserved g c =
    let hs = c.loop-seat.held.items in
    let x = c.remove-first.result in
    let was = (goal.at.loop-seat-preserved g c).After-push in
    record {
      table = c.turn.ensures.0 ∙ c.loop-seat.invariant.table;
      id = c.turn.ensures.1 ∙ c.loop-seat.invariant.id;
      me = c.turn.ensures.2 ∙ (ap (λ (m : Me (Slot g.row.P.Denot g.row.Q.Denot) (View g.row.P.Denot g.row.Q.Denot)). (m.0, turned m.1)) c.loop-seat.invariant.me ∙ ap (λ (cs : List (ℕ × Slot g.row.P.Denot g.row.Q.Denot)). (c.args.seat.now.me.0, cs)) (turned_empty {P = g.row.P.Denot} {Q = g.row.Q.Denot} hs x c.push.new.self.items (front g was) (behind g was)));
      turned = subst (IsTurn c.args.held.now.items) (sym (behind g was)) (next_turn c.args.held.now.items hs x (drop 1 hs) (front g was) c.loop-seat.invariant.turned);
      has = (moves g was).1;
    }
