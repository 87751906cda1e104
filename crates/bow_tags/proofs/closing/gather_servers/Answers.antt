use Rattle.std.proofs.Common.{◌≡◌, ℕ, ◌<◌, inl, inr, ⊎_elim, [], ◌∷◌, ◌++◌, length, ap, sym, ◌∙◌, subst}
use Rattle.atomic_table.specs.Table.{Me}
use Rattle.bow_tags.specs.declared.view.Slot.{Slot}
use Rattle.bow_tags.specs.declared.view.View.{View}
use Rattle.bow_tags.specs.Steps.{joined, looked, SpeaksForIdle}
use Rattle.bow_tags.specs.Seats.{Sitting, NoJobs}
use Rattle.bow_tags.specs.Gathering.{Gathers, CountsGiven}
use Rattle.bow_tags.proofs.Seating.{joins}
use Rattle.bow_tags.proofs.Tally.{carries_none}
use Rattle.bow_tags.proofs.Gathered.{middle, member, gathers_start, gathers_under, counts_start, counts_under, idle_kept, in_left, in_right, in_none, nothing_new}
use Rattle.bow_tags.proofs.closing.gather_servers.Goals as goal

pub loop-server-init : goal.loop-server-init
loop-server-init g c = record {
  table = search;
  split = search;
  gathers = gathers_start c.args.first.me.0 c.requires.live.0 c.requires.live.1;
  counts = counts_start c.args.first.me.0;
  servers = search;
  jobs = search;
  carried = search;
}

pub join_seat-requires : goal.join_seat-requires
join_seat-requires g c =
    let inv = c.loop-server.invariant in
    let theirs = c.requires.theirs (length c.loop-server.yielded) c.in-Some.server (member c.loop-server.yielded c.in-Some.server c.loop-server.server-iterator.rest.items c.next.new.self.rest.items c.args.servers.items inv.split (c.in-Some.ensures).steps.0) in (
      ap (λ z. z.table) c.server.view_is ∙ theirs.0,
      inv.table,
      inv.carried,
      subst (λ (z : ℕ). 0 < z) (sym c.requires.own.2) c.requires.own.1,
      joins g.P.Fits.fits c.server.inside.seat.id c.server.inside.seat.me.0 c.loop-server.gathered.id c.loop-server.gathered.me.0 c.server.invariant.bare inv.gathers.bare,
    )

pub settle-requires-clause-own : goal.settle-requires-clause-own
settle-requires-clause-own g c =
    let inv = c.loop-server.invariant in
    let theirs = c.requires.theirs (length c.loop-server.yielded) c.in-Some.server (member c.loop-server.yielded c.in-Some.server c.loop-server.server-iterator.rest.items c.next.new.self.rest.items c.args.servers.items inv.split (c.in-Some.ensures).steps.0) in
    (c.join_seat.ensures.0 ∙ (ap (λ z. z.table) c.server.view_is ∙ theirs.0), c.requires.own.1, c.requires.own.2)

pub settle-requires-clause-free : goal.settle-requires-clause-free
settle-requires-clause-free g c =
    let inv = c.loop-server.invariant in
    let V : Type 0 = View g.row.P.Denot g.row.Q.Denot in
    let M : Type 0 = Me (Slot g.row.P.Denot g.row.Q.Denot) V in
    let n : ℕ = c.args.table.now.shared.table_id.slots in
    let done = c.loop-server.yielded in
    let at = member done c.in-Some.server c.loop-server.server-iterator.rest.items c.next.new.self.rest.items c.args.servers.items inv.split (c.in-Some.ensures).steps.0 in
    let u : V = c.args.first.me.0 in
    let v : V = c.loop-server.gathered.me.0 in
    let w : V = c.server.inside.seat.me.0 in
    let view : c.join_seat.new.seat.me.0 ≡ joined w v = ap (λ (m : M). m.0) c.join_seat.ensures.2 in
    ⊎_elim
    (λ (idle_all : SpeaksForIdle n u). inl (subst (SpeaksForIdle n) (sym view) (idle_kept n v (joined w v) (λ e. in_right e w.lanes v.lanes) (idle_kept n u v (λ e h. inv.gathers.lanes e (inl h)) idle_all))))
    (λ (none : NoJobs c.args.servers.items). inr (ap (λ (z : V). z.jobs) view ∙ nothing_new w.jobs v.jobs [] inv.jobs (ap (λ z. z.view.jobs) c.server.view_is ∙ none (length done) c.in-Some.server at)))
    c.requires.free

pub loop-server-preserved : goal.loop-server-preserved
loop-server-preserved g c =
    let inv = c.loop-server.invariant in
    let P : Type 0 = g.row.P.Denot in
    let Q : Type 0 = g.row.Q.Denot in
    let V : Type 0 = View P Q in
    let M : Type 0 = Me (Slot P Q) V in
    let t : Sitting P Q = c.in-Some.server in
    let done = c.loop-server.yielded in
    let theirs = c.requires.theirs (length done) t (member done t c.loop-server.server-iterator.rest.items c.next.new.self.rest.items c.args.servers.items inv.split (c.in-Some.ensures).steps.0) in
    let u : V = c.args.first.me.0 in
    let v : V = c.loop-server.gathered.me.0 in
    let w : V = c.server.inside.seat.me.0 in
    let same : w ≡ t.view = ap (λ z. z.view) c.server.view_is in
    let word : ℕ = c.settle.ensures.looked.0 in
    let settled : c.settle.new.seat.me.0 ≡ looked 0 word (joined w v) = c.settle.ensures.looked.1 ∙ ap (λ (m : M). looked 0 word m.0) c.join_seat.ensures.2 in
    let view : c.settle.new.seat.me.0 ≡ looked 0 word (joined t.view v) = settled ∙ ap (λ (z : V). looked 0 word (joined z v)) same in
    let alive = ap (λ (z : V). z.live) (sym same) ∙ c.server.invariant.live in
    let bare = ap (λ (z : V). z.hand) (sym same) ∙ c.server.invariant.bare in
    let none_held : w.jobs ++ v.jobs ≡ [] = ap (λ (z : V). z.jobs) (sym settled) ∙ c.settle.ensures.free in
    let free : w.jobs ≡ [] = in_none w.jobs (w.jobs ++ v.jobs) none_held (λ x. in_left x w.jobs v.jobs) in
    record {
      table = c.settle.ensures.same.0 ∙ (c.join_seat.ensures.0 ∙ (ap (λ z. z.table) c.server.view_is ∙ theirs.0));
      split = middle done t c.loop-server.server-iterator.rest.items c.next.new.self.rest.items c.args.servers.items inv.split (c.in-Some.ensures).steps.0;
      gathers = subst (Gathers u (done ++ t ∷ [])) (sym view) (gathers_under 0 word u done t v inv.gathers alive bare);
      counts = subst (CountsGiven u (done ++ t ∷ [])) (sym view) (counts_under 0 word u done t v inv.counts);
      servers = ap (λ (z : V). z.servers) view ∙ theirs.1;
      jobs = c.settle.ensures.free;
      carried = c.settle.ensures.same.1 ∙ (ap (λ (m : M). m.1) c.join_seat.ensures.2 ∙ carries_none c.server.inside.seat.table_id.slots c.server.inside.held.items c.server.inside.seat.me.1 w c.server.invariant free);
    }
