use Rattle.std.proofs.Common.{◌≡◌, ℕ, ◌<◌, inl, inr, ⊎_elim, List, [], ◌∷◌, length, ap, sym, ◌∙◌, subst, refl}
use mathlib.Core.Option.{some}
use lib.ListN.{get_elem?}
use Rattle.std.specs.Mem.Slots.{slots_items}
use Rattle.atomic_table.proofs.Lists.{at_longer}
use Rattle.bow_tags.specs.declared.view.View.{View}
use Rattle.bow_tags.specs.Steps.{looked, SpeaksForIdle}
use Rattle.bow_tags.specs.Seats.{Sitting, IsServerAt, AllIdle, NoJobs}
use Rattle.bow_tags.specs.Gathering.{Gathers, CountsGiven}
use Rattle.bow_tags.proofs.Tally.{carries_none}
use Rattle.bow_tags.proofs.Gathered.{member, idle_lanes}
use Rattle.bow_tags.proofs.Ending.{AtEnd, last_server, ends}
use Rattle.bow_tags.proofs.seats.Tags.close.Given.{Over}
use Rattle.bow_tags.proofs.seats.Tags.close.Goals as goal
use Rattle.bow_tags.proofs.seats.Tags.close.Goals.{In-Some, After-gather_lanes, After-words_of-words}

module _ (g : Over) where
  last_is : (c : In-Some g) → IsServerAt c.args.self (length c.args.servers.items) (length c.pop.new.self.items) c.in-Some.last
  last_is c = last_server c.args.self c.pop.new.self.items c.args.servers.items c.in-Some.last (c.in-Some.ensures).items c.requires.servers.1

  -- a server's seat that is not the last stands at its place among all
  other_at : (c : In-Some g) (j : ℕ) (s : Sitting g.row.P.Denot g.row.Q.Denot) → get_elem? c.pop.new.self.items j ≡ some s → get_elem? c.args.servers.items j ≡ some s
  other_at c j s at = subst (λ (z : List (Sitting g.row.P.Denot g.row.Q.Denot)). get_elem? z j ≡ some s) (sym (c.in-Some.ensures).items) (at_longer c.pop.new.self.items (c.in-Some.last ∷ []) j s at)

  idle_all : (c : After-gather_lanes g) → AllIdle c.args.lanes.items → SpeaksForIdle c.self.inside.table.shared.table_id.slots c.gather_lanes.new.into.me.0
  idle_all c = idle_lanes c.self.inside.table.shared.table_id.slots c.args.lanes.items c.gather_lanes.new.into.me.0 (ap (λ z. z.slots) c.self.view_is ∙ sym c.requires.lanes.0)
      c.gather_lanes.ensures.lanes.each (λ i s at. (c.requires.lanes.1 i s at).1)

  own : (c : After-gather_lanes g) → c.gather_lanes.new.into.table_id ≡ c.self.inside.table.shared.table_id
  own c = c.gather_lanes.ensures.same.0 ∙ (ap (λ z. z.table) c.last.view_is
      ∙ ((last_server c.args.self c.pop.new.self.items c.args.servers.items c.in-Some.last (c.in-Some.ensures).items c.requires.servers.1).0 ∙ sym c.self.view_is))

  -- the words that are read agree with all the seats
  at_end : (c : After-words_of-words g) → AtEnd c.words_of-words.result.items c.args.lanes.items c.args.servers.items
  at_end c =
      let V : Type 0 = View g.row.P.Denot g.row.Q.Denot in
      let init : List (Sitting g.row.P.Denot g.row.Q.Denot) = c.pop.new.self.items in
      let word : ℕ = c.settle.ensures.looked.0 in
      let first : V = c.gather_lanes.new.into.me.0 in
      let v : V = c.gather_servers-seat.result.me.0 in
      let was : c.last.inside.seat.me.0 ≡ c.in-Some.last.view = ap (λ z. z.view) c.last.view_is in
      let lane_seats : Gathers c.in-Some.last.view c.args.lanes.items first = subst (λ (z : V). Gathers z c.args.lanes.items first) was c.gather_lanes.ensures.gathers in
      let same : (first.given ≡ c.in-Some.last.view.given) × (first.servers ≡ c.in-Some.last.view.servers) = (c.gather_lanes.ensures.kept.0 ∙ ap (λ (z : V). z.given) was, c.gather_lanes.ensures.kept.2 ∙ ap (λ (z : V). z.servers) was) in
      let server_seats : Gathers (looked 0 word first) init v = subst (λ (z : V). Gathers z init v) c.settle.ensures.looked.1 c.gather_servers-seat.ensures.gathers in
      let counts : CountsGiven (looked 0 word first) init v = subst (λ (z : V). CountsGiven z init v) c.settle.ensures.looked.1 c.gather_servers-seat.ensures.counts in
      let servers : v.servers ≡ first.servers = c.gather_servers-seat.ensures.servers ∙ ap (λ (z : V). z.servers) c.settle.ensures.looked.1 in
      subst (λ (ws : List ℕ). AtEnd ws c.args.lanes.items c.args.servers.items) (sym c.words_of-words.ensures)
      (ends g.P.Fits.fits c.args.self (slots_items c.close_with-closed.result.words) (slots_items c.close_with-closed.result.slots) c.gather_servers-seat.result.id word c.args.lanes.items init c.args.servers.items c.in-Some.last first v
      c.close_with-closed.ensures.values.2 (c.in-Some.ensures).items lane_seats same server_seats counts servers c.requires.servers.1
      c.gather_lanes.ensures.lanes.each (λ i s at. (c.requires.lanes.1 i s at).1) c.gather_servers-seat.ensures.bare.0)

pub gather_lanes-requires-clause-own : goal.gather_lanes-requires-clause-own
gather_lanes-requires-clause-own g c = (ap (λ z. z.table) c.last.view_is ∙ ((last_is g (goal.at.gather_lanes-requires-clause-own g c).In-Some).0 ∙ sym c.self.view_is), subst (λ (z : ℕ). 0 < z) (sym c.self.invariant.0) c.self.invariant.1)

pub gather_lanes-requires-clause-theirs : goal.gather_lanes-requires-clause-theirs
gather_lanes-requires-clause-theirs g c = λ i s at. (c.requires.lanes.1 i s at).0 ∙ sym c.self.view_is

pub settle-requires-clause-own : goal.settle-requires-clause-own
settle-requires-clause-own g c = (own g (goal.at.settle-requires-clause-own g c).After-gather_lanes, c.self.invariant.1, c.self.invariant.0)

pub settle-requires-clause-free : goal.settle-requires-clause-free
settle-requires-clause-free g c = ⊎_elim (λ (h : AllIdle c.args.lanes.items). inl (idle_all g (goal.at.settle-requires-clause-free g c).After-gather_lanes h))
    (λ (none : NoJobs c.args.servers.items). inr (c.gather_lanes.ensures.kept.1 ∙ (ap (λ z. z.view.jobs) c.last.view_is
    ∙ none (length c.pop.new.self.items) c.in-Some.last (member c.pop.new.self.items c.in-Some.last (c.in-Some.last ∷ []) [] c.args.servers.items (sym (c.in-Some.ensures).items) refl))))
    c.requires.free

pub gather_servers-seat-requires-clause-own : goal.gather_servers-seat-requires-clause-own
gather_servers-seat-requires-clause-own g c = (c.settle.ensures.same.0 ∙ own g (goal.at.gather_servers-seat-requires-clause-own g c).After-gather_lanes, c.self.invariant.1, c.self.invariant.0)

pub gather_servers-seat-requires-clause-theirs : goal.gather_servers-seat-requires-clause-theirs
gather_servers-seat-requires-clause-theirs g c =
    let V : Type 0 = View g.row.P.Denot g.row.Q.Denot in
    let some' = (goal.at.gather_servers-seat-requires-clause-theirs g c).In-Some in
    let count = ap (λ (z : V). z.servers) c.settle.ensures.looked.1 ∙ (c.gather_lanes.ensures.kept.2 ∙ (ap (λ z. z.view.servers) c.last.view_is ∙ (last_is g some').2)) in
    λ i s at. let k = c.requires.servers.1 i s (other_at g some' i s at) in (k.0 ∙ sym c.self.view_is, k.2 ∙ sym count)

pub gather_servers-seat-requires-clause-bare : goal.gather_servers-seat-requires-clause-bare
gather_servers-seat-requires-clause-bare g c =
    let V : Type 0 = View g.row.P.Denot g.row.Q.Denot in
    let free : c.last.inside.seat.me.0.jobs ≡ [] = sym c.gather_lanes.ensures.kept.1 ∙ (ap (λ (z : V). z.jobs) (sym c.settle.ensures.looked.1) ∙ c.settle.ensures.free) in
    (c.settle.ensures.free, c.settle.ensures.same.1 ∙ (c.gather_lanes.ensures.same.1 ∙ carries_none c.last.inside.seat.table_id.slots c.last.inside.held.items c.last.inside.seat.me.1 c.last.inside.seat.me.0 c.last.invariant free))

pub gather_servers-seat-requires-clause-free : goal.gather_servers-seat-requires-clause-free
gather_servers-seat-requires-clause-free g c =
    let was = goal.at.gather_servers-seat-requires-clause-free g c in
    ⊎_elim (λ (h : AllIdle c.args.lanes.items). inl (subst (SpeaksForIdle c.self.inside.table.shared.table_id.slots) (sym c.settle.ensures.looked.1) (idle_all g was.After-gather_lanes h)))
    (λ (none : NoJobs c.args.servers.items). inr (λ j s at. none j s (other_at g was.In-Some j s at)))
    c.requires.free

pub returns-clause-last : goal.returns-clause-last
returns-clause-last g c = (at_end g (goal.at.returns-clause-last g c).After-words_of-words).last

pub returns-clause-free : goal.returns-clause-free
returns-clause-free g c = (at_end g (goal.at.returns-clause-free g c).After-words_of-words).free

pub returns-clause-got : goal.returns-clause-got
returns-clause-got g c = (at_end g (goal.at.returns-clause-got g c).After-words_of-words).got

pub returns-clause-once : goal.returns-clause-once
returns-clause-once g c = (at_end g (goal.at.returns-clause-once g c).After-words_of-words).once
