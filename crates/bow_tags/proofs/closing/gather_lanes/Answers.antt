use Rattle.std.proofs.Common.{◌≡◌, [], ◌∷◌, ◌++◌, length, ap, sym, ◌∙◌, subst}
use mathlib.Core.Option.{some-ne-none}
use Rattle.atomic_table.specs.Table.{Me}
use Rattle.bow_tags.specs.declared.view.Slot.{Slot}
use Rattle.bow_tags.specs.declared.view.View.{View}
use Rattle.bow_tags.specs.Steps.{joined}
use Rattle.bow_tags.specs.Seats.{Sitting, IsLaneSeat}
use Rattle.bow_tags.specs.Gathering.{HasLane, HasLanes, Gathers}
use Rattle.bow_tags.proofs.Seating.{joins}
use Rattle.bow_tags.proofs.Gathered.{middle, member, gathers_start, gathers_into, has_more, has_new, in_left, nothing_new, numbered_more}
use Rattle.bow_tags.proofs.closing.gather_lanes.Goals as goal

pub join_seat-requires : goal.join_seat-requires
join_seat-requires g c =
    let inv = c.loop-lane.invariant in
    let theirs = c.requires.theirs (length c.loop-lane.yielded) c.in-Some.lane (member c.loop-lane.yielded c.in-Some.lane c.loop-lane.lane-iterator.rest.items c.next.new.self.rest.items c.args.lanes.items inv.split (c.in-Some.ensures).steps.0) in (
      inv.table ∙ c.requires.own.0,
      ap (λ z. z.table) c.lane.view_is ∙ theirs,
      c.lane.invariant.0,
      c.requires.own.1,
      joins g.P.Fits.fits c.loop-lane.into.id c.loop-lane.into.me.0 c.lane.inside.seat.id c.lane.inside.seat.me.0 inv.gathers.bare c.lane.invariant.1.empty,
    )

pub loop-lane-init : goal.loop-lane-init
loop-lane-init g c = record {
  table = search;
  carried = search;
  split = search;
  gathers = gathers_start c.args.into.now.me.0 c.requires.live.0 c.requires.live.1;
  lanes = record { each = λ i s at. absurd (some-ne-none s (sym at)) };
  given = search;
  jobs = search;
  servers = search;
}

pub loop-lane-preserved : goal.loop-lane-preserved
loop-lane-preserved g c =
    let inv = c.loop-lane.invariant in
    let V : Type 0 = View g.row.P.Denot g.row.Q.Denot in
    let M : Type 0 = Me (Slot g.row.P.Denot g.row.Q.Denot) V in
    let t : Sitting g.row.P.Denot g.row.Q.Denot = c.in-Some.lane in
    let u : V = c.args.into.now.me.0 in
    let v : V = c.loop-lane.into.me.0 in
    let done = c.loop-lane.yielded in
    let same : c.lane.inside.seat.me.0 ≡ t.view = ap (λ z. z.view) c.lane.view_is in
    let me : c.join_seat.new.seat.me ≡ (joined v t.view, c.loop-lane.into.me.1) = c.join_seat.ensures.2 ∙ ap (λ (w : V). (joined v w, c.loop-lane.into.me.1)) same in
    let view : c.join_seat.new.seat.me.0 ≡ joined v t.view = ap (λ (m : M). m.0) me in
    let sit : IsLaneSeat c.lane.inside.seat.table_id.slots c.lane.inside.lane c.lane.inside.number c.lane.inside.posted t.view = subst (IsLaneSeat c.lane.inside.seat.table_id.slots c.lane.inside.lane c.lane.inside.number c.lane.inside.posted) same c.lane.invariant.1 in
    record {
      table = c.join_seat.ensures.0 ∙ inv.table;
      carried = ap (λ (m : M). m.1) me ∙ inv.carried;
      split = middle done t c.loop-lane.lane-iterator.rest.items c.next.new.self.rest.items c.args.lanes.items inv.split (c.in-Some.ensures).steps.0;
      gathers = subst (Gathers u (done ++ t ∷ [])) (sym view) (gathers_into u done t v inv.gathers sit.empty);
      lanes = subst (HasLanes (done ++ t ∷ [])) (sym view) record {
        each = numbered_more (HasLane (joined v t.view)) done t (λ i s at. has_more v (joined v t.view) s (λ e. in_left e v.lanes t.view.lanes) (inv.lanes.each i s at))
            (has_new c.lane.inside.seat.table_id.slots c.lane.inside.lane c.lane.inside.number c.lane.inside.posted t v sit);
      };
      given = ap (λ (w : V). w.given) view ∙ nothing_new v.given t.view.given u.given sit.gives inv.given;
      jobs = ap (λ (w : V). w.jobs) view ∙ nothing_new v.jobs t.view.jobs u.jobs sit.holds inv.jobs;
      servers = ap (λ (w : V). w.servers) view ∙ inv.servers;
    }
