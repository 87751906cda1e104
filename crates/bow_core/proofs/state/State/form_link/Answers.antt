use Rattle.std.proofs.Common.{◌≡◌, ◌∷◌, false, [], Some, None, ap, sym, ◌∙◌}
use Rattle.bow_copy.specs.declared.jobs.Job.TheVariants.{Link}
use Rattle.bow_machine.specs.Memory.{Batching}
use Rattle.bow_machine.specs.Tasks.{Acts}
use Rattle.bow_core.specs.Held.{Held, slots_of}
use Rattle.bow_log.specs.Generations.{generation_of}
use Rattle.std.specs.Option.{option_map}
use Rattle.bow_machine.specs.Steps.{log_of_memory}
use Rattle.bow_machine.specs.Tasks.{spelling}
use Rattle.bow_core.proofs.Armed.{spelled_is}
use Rattle.bow_core.proofs.Formed.{links, some_log, in_hand, batch_eq, taken_view}
use Rattle.bow_core.proofs.state.State.form_link.Goals as goal

pub returns-in_default-clause-formed : goal.returns-in_default-clause-formed
returns-in_default-clause-formed g c =
    let s = c.args.self.now in
    links s.geometry s.memory c.args.head c.requires.served c.requires.clean c.requires.other c.requires.full None (sym c.in_default.is ∙ c.take_free.ensures.picked)

pub unreachable-requires : goal.unreachable-requires
unreachable-requires g c =
    let s = c.args.self.now in
    let m = s.memory in
    let view = ap (option_map (generation_of c.self.inside.geometry)) (sym c.in_default-log.is) ∙ ap (λ (h : Held). h.memory.log) (c.self.view_is ∙ c.take_free.ensures.taken) in
    let clash : None ≡ Some (log_of_memory m) = view ∙ some_log s.geometry m c.args.head c.requires.served in
    absurd (cc clash)

pub returns-clause-formed : goal.returns-clause-formed
returns-clause-formed g c =
    let s = c.args.self.now in
    let m = s.memory in
    let v = c.requires.served in
    let i = c.self.inside in
    let buffer = c.spell_slot.new.buffer.items in
    let size = i.geometry.block_size in
    let job = Link c.in-Some.dest.first in
    let spelled = c.spell_slot.ensures.spelled ∙ spelled_is i.geometry i.log c.in-Some-log.log c.self.invariant.log c.in-Some-log.is
    ∙ ap (λ (h : Held). spelling h.geometry (log_of_memory h.memory)) (c.self.view_is ∙ c.take_free.ensures.taken) in
    let batch = batch_eq size buffer c.new.result (record { job = job; done = 0; failed = false }) c.args.head.ticket (spelling s.geometry (log_of_memory m) ∷ []) c.new.ensures (ap (λ x. x ∷ []) spelled) in
    links s.geometry m c.args.head v c.requires.clean c.requires.other c.requires.full (Some c.in-Some.dest) (sym c.in-Some.is ∙ c.take_free.ensures.picked)
    ∙ ap Acts (taken_view m c.take_free.new.self.memory c.take_free.result c.in-Some.dest _ (in_hand s.geometry m c.args.head v job (spelling s.geometry (log_of_memory m) ∷ [])) (ap (λ (h : Held). h.memory) c.take_free.ensures.taken) c.in-Some.is batch
    ∙ sym (ap (λ (h : Held). record h.memory { hand = Batching (record { progress = c.new.result; slots = slots_of size buffer c.new.result; ticket = c.args.head.ticket }) }) c.self.view_is))
