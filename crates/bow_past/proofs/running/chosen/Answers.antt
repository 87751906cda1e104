use Rattle.std.proofs.Common.{◌≡◌, ◌+◌, ◌-◌, ℕ, Bool, arith, sym, ap, ◌∙◌}
use Rattle.bow_session.specs.Requests.{lanes_of}
use Rattle.bow_session.specs.Sessions.{plan_in, state_in}
use Rattle.bow_past.specs.Running.{first_from, is_reading, is_ready_at, next_below}
use Rattle.bow_past.proofs.Choosing.{first_here, first_there}
use Rattle.bow_past.proofs.running.chosen.Goals as goal

pub returns-then-is_ready : goal.returns-then-is_ready
returns-then-is_ready g c =
    let s = c.args.session.now in
    let ready : ℕ → Bool = is_ready_at (plan_in s) (state_in s) (is_reading c.args.past.now s.core.memory.phase) in
    record { first = sym (first_here ready (lanes_of s.script + 3) c.loop-left.number c.loop-left.left c.loop-left-test.true (sym c.is_ready.ensures ∙ c.if-is_ready.true)) ∙ c.loop-left.invariant.1 }

pub loop-left-preserved : goal.loop-left-preserved
loop-left-preserved g c =
    let s = c.args.session.now in
    let ready : ℕ → Bool = is_ready_at (plan_in s) (state_in s) (is_reading c.args.past.now s.core.memory.phase) in
    let many : c.lanes-actors.result + 3 ≡ lanes_of s.script + 3 = ap (λ n. n + 3) c.lanes-actors.ensures.is in
    let to = c.next_round-number.ensures.next ∙ ap (λ n. next_below n c.loop-left.number) many in (
      omega (arith, c.next_round-number.ensures.inside, many),
      ap (λ k. first_from ready (lanes_of s.script + 3) k (c.loop-left.left - 1)) to
          ∙ sym (first_there ready (lanes_of s.script + 3) c.loop-left.number c.loop-left.left c.loop-left-test.true (sym c.is_ready.ensures ∙ c.if-is_ready.false)) ∙ c.loop-left.invariant.1,
    )
