use Rattle.std.proofs.Common.{◌≡◌, ℕ, false, [], ◌∷◌, ap, sym, ◌∙◌, subst}
use Rattle.atomic_table.specs.Table.{Me}
use Rattle.bow_tags.specs.declared.view.Slot.{Slot}
use Rattle.bow_tags.specs.declared.view.View.{View}
use Rattle.bow_tags.specs.Rule.{fresh_lane, new_view}
use Rattle.bow_tags.specs.Steps.{with_first_lane, without_first_lane}
use Rattle.bow_tags.specs.Seats.{Sitting, IsLaneSeat, IsFirstLane}
use Rattle.bow_tags.proofs.Lists.{pushed}
use Rattle.bow_tags.proofs.Seating.{lane_splits}
use Rattle.bow_tags.proofs.Start.{first_goes, first_given, sits_first}
use Rattle.bow_tags.proofs.opening.lane_seats.Given.{Over}
use Rattle.bow_tags.proofs.opening.lane_seats.Goals as goal
use Rattle.bow_tags.proofs.opening.lane_seats.Goals.{After-split_seat-seat}

module _ (g : Over) where
  -- what the new seat knows
  view_is : (c : After-split_seat-seat g) → c.split_seat-seat.result.me ≡ (new_view c.args.opening.lanes c.args.opening.servers c.args.opening.size (fresh_lane c.loop-lane.lane ∷ []) [], [])
  view_is c =
      let P : Type 0 = g.row.P.Denot in
      let Q : Type 0 = g.row.Q.Denot in
      c.split_seat-seat.ensures.4 ∙ (ap (λ (z : Me (Slot P Q) (View P Q)). (with_first_lane z.0, [])) c.loop-lane.invariant.me
      ∙ ap (λ (v : View P Q). (v, [])) (first_given P Q c.args.opening.lanes c.args.opening.servers c.args.opening.size c.loop-lane.lane c.loop-lane-test.true))

pub split_seat-seat-requires : goal.split_seat-seat-requires
split_seat-seat-requires g c =
    let inv = c.loop-lane.invariant in
    (inv.table ∙ c.requires.own.0, c.requires.own.2, lane_splits g.P.Fits.fits c.loop-lane.first.id c.loop-lane.first.me.0 (ap (λ m. m.0.hand) inv.me))

pub invariant_of-push : goal.invariant_of-push
invariant_of-push g c =
    let inv = c.loop-lane.invariant in
    let P : Type 0 = g.row.P.Denot in
    let Q : Type 0 = g.row.Q.Denot in
    let M : Type 0 = Me (Slot P Q) (View P Q) in
    let n : ℕ = c.args.opening.lanes in
    let m : ℕ = c.args.opening.servers in
    let size : ℕ = c.args.opening.size in
    let l : ℕ = c.loop-lane.lane in
    let slots : c.split_seat-seat.result.table_id.slots ≡ n = ap (λ z. z.slots) (c.split_seat-seat.ensures.3 ∙ (inv.table ∙ c.requires.own.0)) ∙ sym c.requires.own.1 in
    let me = view_is g (goal.at.invariant_of-push g c).After-split_seat-seat in (
      ap (λ (z : M). z.1) me,
      subst (λ (z : ℕ × M). IsLaneSeat z.0 l 0 false z.1.0) (λ k. (sym slots k, sym me k)) (sits_first P Q n m size l c.loop-lane-test.true),
    )

pub loop-lane-preserved : goal.loop-lane-preserved
loop-lane-preserved g c =
    let inv = c.loop-lane.invariant in
    let P : Type 0 = g.row.P.Denot in
    let Q : Type 0 = g.row.Q.Denot in
    let M : Type 0 = Me (Slot P Q) (View P Q) in
    let n : ℕ = c.args.opening.lanes in
    let m : ℕ = c.args.opening.servers in
    let size : ℕ = c.args.opening.size in
    let l : ℕ = c.loop-lane.lane in
    let mine : Sitting P Q = record { table = c.split_seat-seat.result.table_id; id = c.split_seat-seat.result.id; view = c.split_seat-seat.result.me.0 } in
    let me = view_is g (goal.at.loop-lane-preserved g c).After-split_seat-seat in
    let slots : n ≡ c.args.first.now.table_id.slots = c.requires.own.1 ∙ sym (ap (λ z. z.slots) c.requires.own.0) in
    let view : mine.view ≡ new_view c.args.first.now.table_id.slots m size (fresh_lane l ∷ []) [] = ap (λ (z : M). z.0) me ∙ ap (λ (k : ℕ). new_view k m size (fresh_lane l ∷ []) []) slots in
    let first : IsFirstLane c.args.first.now.table_id m size l mine = (c.split_seat-seat.ensures.3 ∙ inv.table, view) in
    let more = pushed (IsFirstLane c.args.first.now.table_id m size) c.loop-lane.seats.items mine c.push.new.self.items l (c.in_ok-push.ensures).items inv.many inv.each first in
    record {
      table = c.split_seat-seat.ensures.0 ∙ inv.table;
      me = c.split_seat-seat.ensures.2 ∙ (ap (λ (z : M). (without_first_lane z.0, z.1)) inv.me ∙ ap (λ (v : View P Q). (v, [])) (first_goes n m size l c.loop-lane-test.true));
      many = more.0;
      each = more.1;
    }
