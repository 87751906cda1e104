use Rattle.std.proofs.Common.{◌≡◌, ◌+◌, ◌-◌, ◌<◌, ◌≤◌, ◌%◌, inl, inr, ℕ, suc, Bool, true, false, Some, arith, refl, sym, ap, ◌∙◌, subst}
use Rattle.std.proofs.lemmas.Bool.{cases_Bool, false≢true}
use Rattle.bow_units.specs.Draws.{drawn_value, next_number}
use Rattle.bow_history.specs.declared.items.Actor.{Actor}
use Rattle.bow_history.specs.Ready.{is_actor_ready}
use Rattle.bow_session.specs.Requests.{lanes_of}
use Rattle.bow_session.specs.Sessions.{Run, plan_in, state_in}
use Rattle.bow_session.specs.Turns.{StepsBy}
use Rattle.bow_past.specs.Running.{PlaysBeside, first_from, is_reading, is_ready_at}
use Rattle.bow_past.proofs.Choosing.{first_ready, none_left, reader_at, session_at}
use Rattle.bow_past.proofs.Keeping.{reading_left, reads_less, reads_still}
use Rattle.bow_past.proofs.running.next_actor.Given.{Over}
use Rattle.bow_past.proofs.running.next_actor.Goals.{After-chosen}
use Rattle.bow_past.proofs.running.next_actor.Goals as goal

module _ (g : Over) (c : After-chosen g) where
  abbrev lanes : ℕ
  lanes = lanes_of c.reads.session.script

  abbrev ready : ℕ → Bool
  ready = is_ready_at (plan_in c.reads.session) (state_in c.reads.session) (is_reading c.reads.past c.reads.session.core.memory.phase)

  same_lanes : lanes ≡ c.lanes-lanes.result
  same_lanes = sym c.lanes-lanes.ensures.is

  below : c.draw-drawn.result < lanes + 3
  below = omega (arith, c.draw-drawn.ensures.value, same_lanes)

  -- the draw
  value : c.draw-drawn.result ≡ drawn_value (next_number c.reads.draws) % (lanes + 3)
  value = c.draw-drawn.ensures.value ∙ ap (λ n. drawn_value n % (c.lanes-lanes.result + 3)) c.draw-drawn.ensures.number ∙ ap (λ l. drawn_value (next_number c.reads.draws) % (l + 3)) c.lanes-lanes.ensures.is

  -- the number that was chosen
  module _ (n : ℕ) (is : first_from ready (lanes + 3) c.draw-drawn.result (lanes + 3) ≡ Some n) where
    first : (ready n ≡ true) × (n < lanes + 3)
    first = first_ready ready (lanes + 3) c.draw-drawn.result (lanes + 3) n below is

    -- past those of the session it is the reader's
    last : c.lanes-lanes.result + 2 ≤ n → n ≡ lanes + 2
    last past = omega (arith, past, same_lanes, first.1)

    can : c.lanes-lanes.result + 2 ≤ n → is_reading c.reads.past c.reads.session.core.memory.phase ≡ true
    can past = sym (reader_at (plan_in c.reads.session) (state_in c.reads.session) (is_reading c.reads.past c.reads.session.core.memory.phase) n (last past)) ∙ first.0

pub returns-in_default-clause-none : goal.returns-in_default-clause-none
returns-in_default-clause-none g c =
    let k = (goal.at.returns-in_default-clause-none g c).After-chosen in
    let none = none_left (plan_in c.reads.session) (state_in c.reads.session) (is_reading c.reads.past c.reads.session.core.memory.phase) c.draw-drawn.result (below g k) (sym c.in_default.ensures.first) in (
      elim (cases_Bool c.over.result) [
        | inl all ↦ c.over.ensures.over.0 all
        | inr some ↦ absurd (false≢true (sym none.0 ∙ c.over.ensures.ready some 0 (omega arith)))
      ],
      none.1,
    )

pub returns-in_default-clause-leads : goal.returns-in_default-clause-leads
returns-in_default-clause-leads g c = c.reads.invariant.2 0 c.reads.past c.reads.session (refl, refl)

pub returns-then-number-lanes-clause-ready : goal.returns-then-number-lanes-clause-ready
returns-then-number-lanes-clause-ready g c =
    let k = (goal.at.returns-then-number-lanes-clause-ready g c).After-chosen in
    let v = c.reads.session in
    let chosen = first g k c.in-Some.number (sym c.in-Some.ensures.first) in
    let same = same_lanes g k in
    let low : c.in-Some.number < lanes g k + 2 = omega (arith, c.if-number-lanes.true, same) in
    ap (is_actor_ready (plan_in v) (state_in v)) (c.actor_at.ensures (plan_in v) (same_lanes g k))
    ∙ sym (session_at (plan_in v) (state_in v) (is_reading c.reads.past v.core.memory.phase) c.in-Some.number low) ∙ chosen.0

pub returns-then-number-lanes-clause-leads : goal.returns-then-number-lanes-clause-leads
returns-then-number-lanes-clause-leads g c m t mid end steps plays =
    let k = (goal.at.returns-then-number-lanes-clause-leads g c).After-chosen in
    let v = c.reads.session in
    c.reads.invariant.2 (suc m) t end (
      c.in-Some.number,
      c.reads.past,
      mid,
      ap (λ j. first_from (ready g k) (lanes g k + 3) j (lanes g k + 3)) (sym (value g k)) ∙ sym c.in-Some.ensures.first,
      inr (refl, subst (λ (a : Actor). StepsBy g.D.Disk.stated g.D.Disk.content g.D.Disk.moment g.D.Disk.left_since g.D.Disk.faults v a mid) (c.actor_at.ensures (plan_in v) (same_lanes g k)) steps),
      subst (λ y. PlaysBeside g.D.Disk.stated g.D.Disk.content g.D.Disk.moment g.D.Disk.left_since g.D.Disk.faults m y c.reads.past mid t end) c.draw-drawn.ensures.number plays,
    )

pub read_once-requires-clause-ready : goal.read_once-requires-clause-ready
read_once-requires-clause-ready g c =
    let k = (goal.at.read_once-requires-clause-ready g c).After-chosen in
    can g k c.in-Some.number (sym c.in-Some.ensures.first) c.if-number-lanes.false

pub reads-smaller : goal.reads-smaller
reads-smaller g c =
    let k = (goal.at.reads-smaller g c).After-chosen in
    let v = c.reads.session in
    let w = c.read_once.new.session in
    let less = reads_less g.D.Disk.stated g.D.Disk.content g.D.Disk.moment g.D.Disk.left_since g.D.Disk.faults c.reads.past v c.read_once.new.past w (can g k c.in-Some.number (sym c.in-Some.ensures.first) c.if-number-lanes.false) c.read_once.ensures.reads in
    let still = reads_still g.D.Disk.stated g.D.Disk.content g.D.Disk.moment g.D.Disk.left_since g.D.Disk.faults c.reads.past v c.read_once.new.past w c.read_once.ensures.reads in
    subst (λ l. reading_left c.read_once.new.past l < reading_left c.reads.past v.core.memory.log) (sym (ap (λ (x : Run g.row.D.Denot). x.core.memory.log) still)) less

pub reads-preserved : goal.reads-preserved
reads-preserved g c =
    let k = (goal.at.reads-preserved g c).After-chosen in
    let v = c.reads.session in
    let w = c.read_once.new.session in
    let still = reads_still g.D.Disk.stated g.D.Disk.content g.D.Disk.moment g.D.Disk.left_since g.D.Disk.faults c.reads.past v c.read_once.new.past w c.read_once.ensures.reads in (
      c.read_once.ensures.beside,
      still ∙ ap (λ (x : Run g.row.D.Denot). record x { core = record x.core { disk = w.core.disk; calls = w.core.calls } }) c.reads.invariant.1,
      λ m t end plays. c.reads.invariant.2 (suc m) t end (
        c.in-Some.number,
        c.read_once.new.past,
        w,
        ap (λ j. first_from (ready g k) (lanes g k + 3) j (lanes g k + 3)) (sym (value g k)) ∙ sym c.in-Some.ensures.first,
        inl (last g k c.in-Some.number (sym c.in-Some.ensures.first) c.if-number-lanes.false, c.read_once.ensures.reads),
        subst (λ y. PlaysBeside g.D.Disk.stated g.D.Disk.content g.D.Disk.moment g.D.Disk.left_since g.D.Disk.faults m y c.read_once.new.past w t end) c.draw-drawn.ensures.number plays,
      ),
    )
