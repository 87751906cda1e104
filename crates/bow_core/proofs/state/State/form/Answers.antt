use Rattle.std.proofs.Common.{false, [], refl, ap, sym, ◌∙◌, arith}
use Rattle.bow_copy.specs.declared.jobs.Job.TheVariants.{Rewrite}
use Rattle.bow_machine.specs.Memory.{Batch, Batching}
use Rattle.bow_machine.specs.Tasks.{Acts}
use Rattle.bow_core.specs.Held.{Held, slots_of}
use Rattle.bow_core.proofs.Formed.{rewrites, inside, batch_eq}
use Rattle.bow_core.proofs.state.State.form.Goals as goal

pub next-requires : goal.next-requires
next-requires g c =
    let s = c.args.self.now in
    let fits = inside s.geometry s.memory c.args.head c.requires.served in
    omega (arith, fits.0, fits.1, fits.2)

pub kind-requires : goal.kind-requires
kind-requires g c =
    let s = c.args.self.now in
    let fits = inside s.geometry s.memory c.args.head c.requires.served in
    let size = ap (λ (h : Held). h.geometry.blocks) c.self.view_is in
    omega (arith, fits.0, fits.1, c.next.ensures, c.self.invariant.whole, size)

pub returns-then-not-self-clause-formed : goal.returns-then-not-self-clause-formed
returns-then-not-self-clause-formed g c =
    let s = c.args.self.now in
    let m = s.memory in
    let i = c.self.inside in
    let dirty = ap (λ (h : Held). h.memory.clean) (sym c.self.view_is) ∙ c.if-not-self.true in
    let batch = batch_eq i.geometry.block_size i.buffer.items c.new.result (record { job = Rewrite; done = 0; failed = false }) c.args.head.ticket [] c.new.ensures refl in
    rewrites s.geometry m c.args.head c.requires.served dirty
    ∙ ap Acts (sym (ap (λ (h : Held). record h.memory { hand = Batching (record { progress = c.new.result; slots = slots_of i.geometry.block_size i.buffer.items c.new.result; ticket = c.args.head.ticket }) }) c.self.view_is
    ∙ ap (λ (b : Batch). record m { hand = Batching b }) batch))
