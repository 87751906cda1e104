use Rattle.std.proofs.Common.{◌≡◌, [], Some, ap, refl, sym, subst, ◌∙◌, rules}
use Rattle.std.specs.Option.{option_copied}
use Rattle.std.specs.Prelude.{OnOk, OnErr}
use Rattle.bow_units.specs.declared.requests.Outcome.TheVariants as outcomes
use Rattle.bow_machine.specs.MemoryIsSound.{MemoryIsSound}
use Rattle.bow_machine.specs.Requests.{Request, request_of}
use Rattle.bow_machine.specs.Steps.{answered_for, extent_of}
use Rattle.bow_machine.specs.Tasks.{Answers, head, needs_worker, task_of}
use Rattle.bow_machine.specs.declared.turns.Turn.TheVariants.{Worker}
use Rattle.bow_machine.proofs.SoundTasks.{TaskIsSound}
use Rattle.bow_machine.proofs.SoundTurns.{worker_sound}
use Rattle.bow_core.specs.Batches.{IsBatching, IsFormed}
use Rattle.bow_core.specs.Held.{Held}
use Rattle.bow_queue.specs.Requests.{the_request}
use Rattle.bow_core.specs.Turns.{told_of}
use Rattle.bow_core.proofs.Formed.{the_found, found_waits}
use Rattle.bow_core.proofs.MapDone.{answers_done}
use Rattle.bow_core.proofs.workers.serve.Goals as goal

pub form-requires : goal.form-requires
form-requires g c =
    let s = c.args.state.now in
    let m = s.memory in
    let r = c.in-Some.request.now in
    let found : head s.geometry m ≡ Some r = sym (ap option_copied (sym c.in-Some.is) ∙ c.head.ensures) in
    let is = the_found (λ q. needs_worker s.geometry m q q.op) s.geometry m c.requires.order.sound c.in-Some.request.now.ticket r found refl in
    record {
      served = record {
        sound = c.requires.order.sound;
        empty = c.requires.empty;
        phase = ap (λ (h : Held). h.memory.phase) (sym c.state.view_is) ∙ c.in-Checkpoint.is;
        is_head = found ∙ ap (λ q. Some q) (sym is);
        extent = ap (λ (q : Request). extent_of q.op) is ∙ sym c.extent_of.ensures;
        done = ap (λ (q : Request). q.done) is;
      };
    }

pub act_of_batch-requires-clause-order : goal.act_of_batch-requires-clause-order
act_of_batch-requires-clause-order g c = record {
  sizes = search rules;
  sound =
      let s = c.args.state.now in
      let m = s.memory in
      let formed = subst (λ x. IsFormed (task_of s.geometry m Worker) (the_request c.in-Some.request.now.ticket m.requests) x c.form.new.self.memory) c.in-Ok.is c.form.ensures.formed in
      let acts = subst (TaskIsSound s.geometry m) formed (worker_sound s.geometry m c.requires.order.sound) in
      subst (λ (h : Held). MemoryIsSound h.geometry h.memory) (sym c.form.ensures.kept) acts.sound;
}

pub act_of_batch-requires-clause-held : goal.act_of_batch-requires-clause-held
act_of_batch-requires-clause-held g c = (subst (λ x. OnOk x (IsBatching c.form.new.self.memory.hand c.in-Some.request.now.ticket)) c.in-Ok.is c.form.ensures.held).held

pub act_of_batch-requires-clause-own : goal.act_of_batch-requires-clause-own
act_of_batch-requires-clause-own g c = (subst (λ x. OnOk x (IsBatching c.form.new.self.memory.hand c.in-Some.request.now.ticket)) c.in-Ok.is c.form.ensures.held).own

pub returns-in-Err : goal.returns-in-Err
returns-in-Err g c = record {
  done =
      let s = c.args.state.now in
      let m = s.memory in
      let r = c.in-Some.request.now in
      let found : head s.geometry m ≡ Some r = sym (ap option_copied (sym c.in-Some.is) ∙ c.head.ensures) in
      let is = the_found (λ q. needs_worker s.geometry m q q.op) s.geometry m c.requires.order.sound c.in-Some.request.now.ticket r found refl in
      let t = c.in-Some.request.now.ticket in
      let formed = subst (λ x. IsFormed (task_of s.geometry m Worker) (the_request t m.requests) x c.form.new.self.memory) c.in-Err.is c.form.ensures.formed in
      let same = subst (λ x. OnErr x (c.form.new.self ≡ s)) c.in-Err.is c.form.ensures.same in
      let done = ap (λ (q : Request). q.done) is in
      let task = formed ∙ ap (λ n. Answers (the_request t m.requests) (outcomes.NoSpace n)) done in
      let told = subst (λ (h : Held). told_of c.answer.result ≡ (answered_for h.memory (request_of t h.memory.requests) (λ x. outcomes.NoSpace c.in-Some.request.now.done) (λ x. [])).told) same c.answer.ensures.told in
      let memory = subst (λ (h : Held). c.answer.new.self.memory ≡ (answered_for h.memory (request_of t h.memory.requests) (λ x. outcomes.NoSpace c.in-Some.request.now.done) (λ x. [])).memory) same (ap (λ (h : Held). h.memory) c.answer.ensures.memory) in
      answers_done g.D.Disk.stated g.D.Disk.content g.D.Disk.moment g.D.Disk.left_since g.D.Disk.faults s.geometry m c.args.port.now.disk c.args.port.now.calls c.requires.order.sizes _ t (the_request t m.requests) (outcomes.NoSpace c.in-Some.request.now.done) c.answer.result c.answer.new.self.memory
      task (found_waits (λ q. needs_worker s.geometry m q q.op) s.geometry m c.requires.order.sound t r found refl) told memory;
  kept = search rules;
}
