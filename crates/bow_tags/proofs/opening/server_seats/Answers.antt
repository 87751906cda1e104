use Rattle.std.proofs.Common.{◌≡◌, ℕ, [], ◌∷◌, ap, sym, ◌∙◌}
use Rattle.atomic_table.specs.Table.{Me}
use Rattle.bow_tags.specs.declared.view.Slot.{Slot}
use Rattle.bow_tags.specs.declared.view.View.{View}
use Rattle.bow_tags.specs.Rule.{new_view}
use Rattle.bow_tags.specs.Steps.{with_first_server, without_first_server}
use Rattle.bow_tags.specs.Seats.{Sitting, IsFirstServer}
use Rattle.bow_tags.proofs.Lists.{pushed}
use Rattle.bow_tags.proofs.Seating.{server_splits}
use Rattle.bow_tags.proofs.Tally.{server_sits}
use Rattle.bow_tags.proofs.Start.{server_goes, server_given, sits_server}
use Rattle.bow_tags.proofs.opening.server_seats.Given.{Over}
use Rattle.bow_tags.proofs.opening.server_seats.Goals as goal
use Rattle.bow_tags.proofs.opening.server_seats.Goals.{After-split_seat-seat}

module _ (g : Over) where
  -- what the new seat knows
  view_is : (c : After-split_seat-seat g) → c.split_seat-seat.result.me ≡ (new_view c.args.opening.lanes c.args.opening.servers c.args.opening.size [] (c.loop-server._server ∷ []), [])
  view_is c =
      let P : Type 0 = g.row.P.Denot in
      let Q : Type 0 = g.row.Q.Denot in
      c.split_seat-seat.ensures.4 ∙ (ap (λ (z : Me (Slot P Q) (View P Q)). (with_first_server z.0, [])) c.loop-server.invariant.me
      ∙ ap (λ (v : View P Q). (v, [])) (server_given P Q c.args.opening.lanes c.args.opening.servers c.args.opening.size c.loop-server._server c.loop-server-test.true))

pub split_seat-seat-requires : goal.split_seat-seat-requires
split_seat-seat-requires g c =
    let inv = c.loop-server.invariant in
    (inv.table ∙ c.requires.own.0, c.requires.own.2, server_splits g.P.Fits.fits c.loop-server.first.id c.loop-server.first.me.0 (ap (λ m. m.0.given) inv.me))

pub invariant_of-push : goal.invariant_of-push
invariant_of-push g c =
    let inv = c.loop-server.invariant in
    let P : Type 0 = g.row.P.Denot in
    let Q : Type 0 = g.row.Q.Denot in
    let n : ℕ = c.args.opening.lanes in
    let m : ℕ = c.args.opening.servers in
    let size : ℕ = c.args.opening.size in
    let l : ℕ = c.loop-server._server in
    let slots : c.split_seat-seat.result.table_id.slots ≡ n = ap (λ z. z.slots) (c.split_seat-seat.ensures.3 ∙ (inv.table ∙ c.requires.own.0)) ∙ sym c.requires.own.1 in
    let me = view_is g (goal.at.invariant_of-push g c).After-split_seat-seat in
    server_sits n c.split_seat-seat.result.table_id.slots [] c.new.result.items c.split_seat-seat.result.me [] (new_view n m size [] (l ∷ [])) slots c.new.ensures me (sits_server P Q n m size l c.requires.few)

pub loop-server-preserved : goal.loop-server-preserved
loop-server-preserved g c =
    let inv = c.loop-server.invariant in
    let P : Type 0 = g.row.P.Denot in
    let Q : Type 0 = g.row.Q.Denot in
    let M : Type 0 = Me (Slot P Q) (View P Q) in
    let n : ℕ = c.args.opening.lanes in
    let m : ℕ = c.args.opening.servers in
    let size : ℕ = c.args.opening.size in
    let l : ℕ = c.loop-server._server in
    let mine : Sitting P Q = record { table = c.split_seat-seat.result.table_id; id = c.split_seat-seat.result.id; view = c.split_seat-seat.result.me.0 } in
    let me = view_is g (goal.at.loop-server-preserved g c).After-split_seat-seat in
    let slots : n ≡ c.args.first.now.table_id.slots = c.requires.own.1 ∙ sym (ap (λ z. z.slots) c.requires.own.0) in
    let view : mine.view ≡ new_view c.args.first.now.table_id.slots m size [] (l ∷ []) = ap (λ (z : M). z.0) me ∙ ap (λ (k : ℕ). new_view k m size [] (l ∷ [])) slots in
    let first : IsFirstServer c.args.first.now.table_id m size l mine = (c.split_seat-seat.ensures.3 ∙ inv.table, view) in
    let more = pushed (IsFirstServer c.args.first.now.table_id m size) c.loop-server.seats.items mine c.push.new.self.items l (c.in_ok-push.ensures).items inv.many inv.each first in
    record {
      table = c.split_seat-seat.ensures.0 ∙ inv.table;
      me = c.split_seat-seat.ensures.2 ∙ (ap (λ (z : M). (without_first_server z.0, z.1)) inv.me ∙ ap (λ (v : View P Q). (v, [])) (server_goes P Q n m size n l c.loop-server-test.true));
      many = more.0;
      each = more.1;
    }
