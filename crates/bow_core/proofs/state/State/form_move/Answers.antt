use Rattle.std.proofs.Common.{false, [], Some, None, refl, ap, sym, ◌∙◌}
use Rattle.bow_copy.specs.declared.jobs.Job.TheVariants.{Move}
use Rattle.bow_machine.specs.Memory.{Batching}
use Rattle.bow_machine.specs.Tasks.{Acts}
use Rattle.bow_core.specs.Held.{Held, slots_of}
use Rattle.bow_core.proofs.Formed.{moves, in_hand, next, batch_eq, taken_view}
use Rattle.bow_core.proofs.state.State.form_move.Goals as goal

pub returns-in_default-clause-formed : goal.returns-in_default-clause-formed
returns-in_default-clause-formed g c =
    let s = c.args.self.now in
    moves s.geometry s.memory c.args.head c.requires.served c.requires.clean c.requires.current None (sym c.in_default.is ∙ c.take_free.ensures.picked)

pub returns-clause-formed : goal.returns-clause-formed
returns-clause-formed g c =
    let s = c.args.self.now in
    let m = s.memory in
    let v = c.requires.served in
    let i = c.self.inside in
    let job = Move (next s.geometry m c.args.head v) c.in-Some.to.first in
    let progress = c.new.ensures ∙ ap (λ n. record { job = Move n c.in-Some.to.first; done = 0; failed = false }) c.next.ensures in
    let batch = batch_eq i.geometry.block_size i.buffer.items c.new.result (record { job = job; done = 0; failed = false }) c.args.head.ticket [] progress refl in
    moves s.geometry m c.args.head v c.requires.clean c.requires.current (Some c.in-Some.to) (sym c.in-Some.is ∙ c.take_free.ensures.picked)
    ∙ ap Acts (taken_view m c.take_free.new.self.memory c.take_free.result c.in-Some.to _ (in_hand s.geometry m c.args.head v job []) (ap (λ (h : Held). h.memory) c.take_free.ensures.taken) c.in-Some.is batch
    ∙ sym (ap (λ (h : Held). record h.memory { hand = Batching (record { progress = c.new.result; slots = slots_of i.geometry.block_size i.buffer.items c.new.result; ticket = c.args.head.ticket }) }) c.self.view_is))
