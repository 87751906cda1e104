use Rattle.std.proofs.Common.{ℕ, ◌≡◌, ◌+◌, ◌-◌, ◌≤◌, min, false, true, [], Some, None, ap, sym, subst, ◌∙◌, arith}
use Rattle.bow_copy.specs.declared.jobs.Job.TheVariants.{Copy}
use Rattle.bow_machine.specs.Memory.{Memory, Batching}
use Rattle.bow_machine.specs.Tasks.{Acts}
use Rattle.bow_core.specs.Held.{Held, slots_of}
use Rattle.bow_crc.specs.Sums.{first_blocks}
use Rattle.bow_units.specs.declared.sizes.Geometry.{Geometry}
use Rattle.bow_units.specs.declared.sizes.Extent.{Extent}
use Rattle.bow_ranges.specs.Kinds.{kind_at}
use Rattle.bow_ranges.specs.Picks.{picked}
use Rattle.bow_machine.specs.Memory.{is_kind_current}
use Rattle.bow_machine.specs.Tasks.{alike_from, is_source}
use Rattle.bow_core.specs.Batches.{IsServed}
use Rattle.bow_core.specs.declared.tasks.Head.{Head}
use Rattle.bow_core.proofs.Formed.{copies, in_hand, next, inside, wanted, wanted_few, wanted_some, next_source, batch_eq, taken_view}
use Rattle.bow_core.proofs.Picking.{picked_one}
use Rattle.bow_core.proofs.state.State.form_copy.Goals as goal

pub next-source-requires : goal.next-source-requires
next-source-requires g c =
    let s = c.args.self.now in
    let fits = inside s.geometry s.memory c.args.head c.requires.served in
    omega (arith, fits.0, fits.1, fits.2)

pub overflow_sub-head : goal.overflow_sub-head
overflow_sub-head g c =
    let s = c.args.self.now in
    let fits = inside s.geometry s.memory c.args.head c.requires.served in
    omega (arith, fits.0)

pub count_alike-want-requires-clause-inside : goal.count_alike-want-requires-clause-inside
count_alike-want-requires-clause-inside g c =
    let s = c.args.self.now in
    let v = c.requires.served in
    let fits = inside s.geometry s.memory c.args.head v in
    omega (arith, fits.0, fits.1, c.next-source.ensures, c.min-most.ensures, v.sound.table.size)

pub count_alike-want-requires-clause-some : goal.count_alike-want-requires-clause-some
count_alike-want-requires-clause-some g c =
    let s = c.args.self.now in
    let fits = inside s.geometry s.memory c.args.head c.requires.served in
    omega (arith, fits.0, c.min-most.ensures)

pub count_alike-want-requires-clause-source : goal.count_alike-want-requires-clause-source
count_alike-want-requires-clause-source g c =
    let s = c.args.self.now in
    subst (λ n. is_source (kind_at s.memory.kinds n) (kind_at s.memory.kinds n) ≡ true) (sym c.next-source.ensures) (next_source s.geometry s.memory c.args.head c.requires.served c.requires.clean c.requires.other)

pub take_free-requires-clause-some : goal.take_free-requires-clause-some
take_free-requires-clause-some g c =
    let s = c.args.self.now in
    let m = s.memory in
    let most : c.min-most.result ≡ min 8 (c.args.head.extent.count - c.args.head.done) = omega (arith, c.min-most.ensures) in
    let want = c.count_alike-want.ensures ∙ ap (λ n. alike_from m.kinds (kind_at m.kinds n) n c.min-most.result) c.next-source.ensures ∙ ap (alike_from m.kinds (kind_at m.kinds (c.args.head.extent.first + c.args.head.done)) (c.args.head.extent.first + c.args.head.done)) most in
    omega (arith, want, wanted_some s.geometry m c.args.head c.requires.served c.requires.clean c.requires.other)

pub returns-in_default-clause-formed : goal.returns-in_default-clause-formed
returns-in_default-clause-formed g c =
    let s = c.args.self.now in
    let m = s.memory in
    let most : c.min-most.result ≡ min 8 (c.args.head.extent.count - c.args.head.done) = omega (arith, c.min-most.ensures) in
    let want = c.count_alike-want.ensures ∙ ap (λ n. alike_from m.kinds (kind_at m.kinds n) n c.min-most.result) c.next-source.ensures ∙ ap (alike_from m.kinds (kind_at m.kinds (c.args.head.extent.first + c.args.head.done)) (c.args.head.extent.first + c.args.head.done)) most in
    copies s.geometry m c.args.head c.requires.served c.requires.clean c.requires.other c.requires.not_full None (sym c.in_default.is ∙ c.take_free.ensures.picked ∙ ap (picked m.kinds) want)

few_picked : (g : Geometry) (m : Memory) (head : Head) (v : IsServed g m head) → m.clean ≡ true → is_kind_current (kind_at m.kinds (head.extent.first + head.done)) ≡ false → (want : ℕ) (e : Extent) → want ≡ wanted g m head v → Some e ≡ picked m.kinds want → (1 ≤ e.count) × (e.count ≤ 8)
few_picked g m head v clean other want e want_is is =
    let most = wanted_few g m head v in
    let some = wanted_some g m head v clean other in
    let one = picked_one m.kinds want e (omega (arith, want_is, some)) (sym is) in
    (one.some, omega (arith, one.most, want_is, most))

pub overflow_cast-job : goal.overflow_cast-job
overflow_cast-job g c =
    let s = c.args.self.now in
    let m = s.memory in
    let most : c.min-most.result ≡ min 8 (c.args.head.extent.count - c.args.head.done) = omega (arith, c.min-most.ensures) in
    let want = c.count_alike-want.ensures ∙ ap (λ n. alike_from m.kinds (kind_at m.kinds n) n c.min-most.result) c.next-source.ensures ∙ ap (alike_from m.kinds (kind_at m.kinds (c.args.head.extent.first + c.args.head.done)) (c.args.head.extent.first + c.args.head.done)) most in
    omega (arith, (few_picked s.geometry m c.args.head c.requires.served c.requires.clean c.requires.other c.count_alike-want.result c.in-Some.dest want (sym c.in-Some.is ∙ c.take_free.ensures.picked)).1)

pub new-requires : goal.new-requires
new-requires g c =
    let s = c.args.self.now in
    let m = s.memory in
    let most : c.min-most.result ≡ min 8 (c.args.head.extent.count - c.args.head.done) = omega (arith, c.min-most.ensures) in
    let want = c.count_alike-want.ensures ∙ ap (λ n. alike_from m.kinds (kind_at m.kinds n) n c.min-most.result) c.next-source.ensures ∙ ap (alike_from m.kinds (kind_at m.kinds (c.args.head.extent.first + c.args.head.done)) (c.args.head.extent.first + c.args.head.done)) most in
    few_picked s.geometry m c.args.head c.requires.served c.requires.clean c.requires.other c.count_alike-want.result c.in-Some.dest want (sym c.in-Some.is ∙ c.take_free.ensures.picked)

pub returns-clause-formed : goal.returns-clause-formed
returns-clause-formed g c =
    let s = c.args.self.now in
    let m = s.memory in
    let v = c.requires.served in
    let i = c.self.inside in
    let dest = c.in-Some.dest in
    let most : c.min-most.result ≡ min 8 (c.args.head.extent.count - c.args.head.done) = omega (arith, c.min-most.ensures) in
    let want = c.count_alike-want.ensures ∙ ap (λ n. alike_from m.kinds (kind_at m.kinds n) n c.min-most.result) c.next-source.ensures ∙ ap (alike_from m.kinds (kind_at m.kinds (c.args.head.extent.first + c.args.head.done)) (c.args.head.extent.first + c.args.head.done)) most in
    let job = Copy (next s.geometry m c.args.head v) dest.first dest.count in
    let progress = c.new.ensures ∙ ap (λ n. record { job = Copy n dest.first dest.count; done = 0; failed = false }) c.next-source.ensures in
    let none : min 0 dest.count ≡ 0 = omega arith in
    let batch = batch_eq i.geometry.block_size i.buffer.items c.new.result (record { job = job; done = 0; failed = false }) c.args.head.ticket [] progress (ap (λ n. first_blocks n i.geometry.block_size i.buffer.items) none) in
    copies s.geometry m c.args.head v c.requires.clean c.requires.other c.requires.not_full (Some dest) (sym c.in-Some.is ∙ c.take_free.ensures.picked ∙ ap (picked m.kinds) want)
    ∙ ap Acts (taken_view m c.take_free.new.self.memory c.take_free.result dest _ (in_hand s.geometry m c.args.head v job []) (ap (λ (h : Held). h.memory) c.take_free.ensures.taken) c.in-Some.is batch
    ∙ sym (ap (λ (h : Held). record h.memory { hand = Batching (record { progress = c.new.result; slots = slots_of i.geometry.block_size i.buffer.items c.new.result; ticket = c.args.head.ticket }) }) c.self.view_is))
