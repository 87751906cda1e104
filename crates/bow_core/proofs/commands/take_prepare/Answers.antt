use Rattle.std.proofs.Common.{◌≡◌, [], ap, sym, subst, ◌∙◌, rules}
use Rattle.bow_queue.specs.declared.tickets.Ticket.{Ticket}
use Rattle.bow_units.specs.declared.requests.Outcome.TheVariants as outcomes
use Rattle.bow_machine.specs.Requests.{request_of}
use Rattle.bow_machine.specs.Memory.{Preparing, ReadsBlock0}
use Rattle.bow_machine.specs.Steps.{answered_for}
use Rattle.bow_machine.specs.Tasks.{Acts, command_task}
use Rattle.bow_machine.proofs.RequestLists.{found_ticket}
use Rattle.bow_core.specs.Held.{Held}
use Rattle.bow_queue.specs.Requests.{the_request}
use Rattle.bow_core.specs.Turns.{told_of}
use Rattle.bow_core.proofs.MapDone.{the_found, answers_done}
use Rattle.bow_core.proofs.Picked.{two_taken, none_taken}
use Rattle.bow_core.proofs.commands.take_prepare.Goals as goal

pub begin_prepare-requires-clause-task : goal.begin_prepare-requires-clause-task
begin_prepare-requires-clause-task g c =
    let s = c.args.state.now in
    let t = c.args.ticket in
    let r = the_request t s.memory.requests in
    let found = the_found t s.memory.requests c.requires.waits in
    let task = c.requires.task ∙ two_taken s.memory r c.in-Some.current c.in-Some.backup (sym c.pick_two.ensures.picked ∙ c.in-Some.is)
    ∙ ap (λ (u : Ticket). Acts (record s.memory { hand = Preparing u c.in-Some.current c.in-Some.backup ReadsBlock0 })) (found_ticket t s.memory.requests r found) in
    subst (λ (h : Held). command_task h.memory h.memory.hand ≡ Acts (record h.memory { hand = Preparing t c.in-Some.current c.in-Some.backup ReadsBlock0 })) (sym c.pick_two.ensures.kept) task

pub returns-in-None : goal.returns-in-None
returns-in-None g c = record {
  done =
      let s = c.args.state.now in
      let t = c.args.ticket in
      let r = the_request t s.memory.requests in
      let kept = c.pick_two.ensures.kept in
      let told = subst (λ (h : Held). told_of c.answer.result ≡ (answered_for h.memory (request_of t h.memory.requests) (λ x. outcomes.NoSpace 0) (λ x. [])).told) kept c.answer.ensures.told in
      let memory = subst (λ (h : Held). c.answer.new.self.memory ≡ (answered_for h.memory (request_of t h.memory.requests) (λ x. outcomes.NoSpace 0) (λ x. [])).memory) kept (ap (λ (h : Held). h.memory) c.answer.ensures.memory) in
      answers_done g.D.Disk.stated g.D.Disk.content g.D.Disk.moment g.D.Disk.left_since g.D.Disk.faults s.geometry s.memory c.args.port.now.disk c.args.port.now.calls c.requires.order.sizes _ t r (outcomes.NoSpace 0) c.answer.result c.answer.new.self.memory
      (c.requires.task ∙ none_taken s.memory r (sym c.pick_two.ensures.picked ∙ c.in-None.is)) (the_found t s.memory.requests c.requires.waits) told memory;
  kept = search rules;
}
