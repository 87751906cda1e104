use Rattle.std.proofs.Common.{◌≡◌, ap, sym, ◌∙◌, Some, rules}
use Rattle.std.specs.Option.{option_copied}
use Rattle.bow_machine.specs.Requests.{request_of}
use Rattle.bow_machine.specs.Steps.{kinds_discarded}
use Rattle.bow_machine.specs.Tasks.{map_task}
use Rattle.bow_machine.proofs.SoundLists.{found_waiting}
use Rattle.bow_core.specs.Held.{Held}
use Rattle.bow_core.specs.Tasks.{task_of_request}
use Rattle.bow_core.proofs.MapDone.{waits_done, answers_done, discards_done}
use Rattle.bow_core.proofs.mapping.map_step.Goals as goal

pub task-task-requires : goal.task-task-requires
task-task-requires g c =
    let s = c.args.state.now in
    let e : request_of c.args.ticket s.memory.requests ≡ Some c.in-Some.request.now = sym (ap option_copied (sym c.in-Some.is) ∙ c.request.ensures ∙ ap (λ (h : Held). request_of c.args.ticket h.memory.requests) c.state.view_is) in
    record { waiting = found_waiting s.geometry c.args.ticket s.memory.requests c.in-Some.request.now c.requires.order.sound.requests e }

pub returns-in-Waits : goal.returns-in-Waits
returns-in-Waits g c = record {
  done =
      let s = c.args.state.now in
      let r = c.in-Some.request.now in
      let e : request_of c.args.ticket s.memory.requests ≡ Some r = sym (ap option_copied (sym c.in-Some.is) ∙ c.request.ensures ∙ ap (λ (h : Held). request_of c.args.ticket h.memory.requests) c.state.view_is) in
      waits_done g.D.Disk.stated g.D.Disk.content g.D.Disk.moment g.D.Disk.left_since g.D.Disk.faults s.geometry s.memory c.args.port.now.disk c.args.port.now.calls c.requires.order.sizes
      _ (ap (map_task s.geometry s.memory) e ∙ sym c.task-task.ensures ∙ ap (task_of_request r) c.in-Waits.is);
  kept = search rules;
}

pub returns-in-Answers : goal.returns-in-Answers
returns-in-Answers g c = record {
  done =
      let s = c.args.state.now in
      let r = c.in-Some.request.now in
      let e : request_of c.args.ticket s.memory.requests ≡ Some r = sym (ap option_copied (sym c.in-Some.is) ∙ c.request.ensures ∙ ap (λ (h : Held). request_of c.args.ticket h.memory.requests) c.state.view_is) in
      answers_done g.D.Disk.stated g.D.Disk.content g.D.Disk.moment g.D.Disk.left_since g.D.Disk.faults s.geometry s.memory c.args.port.now.disk c.args.port.now.calls c.requires.order.sizes
      _ c.args.ticket r c.in-Answers.outcome c.answer.result c.answer.new.self.memory (ap (map_task s.geometry s.memory) e ∙ sym c.task-task.ensures ∙ ap (task_of_request r) c.in-Answers.is) e c.answer.ensures.told (ap (λ (h : Held). h.memory) c.answer.ensures.memory);
  kept = search rules;
}

pub returns-in-Discards : goal.returns-in-Discards
returns-in-Discards g c = record {
  done =
      let s = c.args.state.now in
      let r = c.in-Some.request.now in
      let e : request_of c.args.ticket s.memory.requests ≡ Some r = sym (ap option_copied (sym c.in-Some.is) ∙ c.request.ensures ∙ ap (λ (h : Held). request_of c.args.ticket h.memory.requests) c.state.view_is) in
      let extent = c.extent_of-extent.ensures in
      let freed = ap (λ (h : Held). h.memory) c.discard.ensures ∙ ap (λ x. record s.memory { kinds = kinds_discarded s.geometry s.memory x s.memory.phase }) extent in
      discards_done g.D.Disk.stated g.D.Disk.content g.D.Disk.moment g.D.Disk.left_since g.D.Disk.faults s.geometry s.memory c.args.port.now.disk c.args.port.now.calls c.requires.order.sizes
      _ c.args.ticket r c.answer-in-Discards.result c.discard.new.self.memory c.answer-in-Discards.new.self.memory (ap (map_task s.geometry s.memory) e ∙ sym c.task-task.ensures ∙ ap (task_of_request r) c.in-Discards.is) e
      freed c.answer-in-Discards.ensures.told (ap (λ (h : Held). h.memory) c.answer-in-Discards.ensures.memory);
  kept = search rules;
}
