use Rattle.std.proofs.Common.{◌≡◌, ap, sym, ◌∙◌, inl, inr, rules}
use Rattle.bow_machine.specs.Tasks.{Waits, worker_task}
use Rattle.bow_core.specs.Held.{Held, hand_of}
use Rattle.bow_core.proofs.MapDone.{waits_done}
use Rattle.bow_core.proofs.batches.step_worker.Goals as goal

pub returns-in-Preparing : goal.returns-in-Preparing
returns-in-Preparing g c = record {
  done =
      let s = c.args.state.now in
      let i = c.state.inside in
      let view = ap (λ (h : Held). h.memory.hand) (sym c.state.view_is) in
      let task : worker_task s.geometry s.memory s.memory.hand s.memory.phase ≡ Waits = elim c.in-Preparing.is [
        | inl prepare ↦ ap (λ h. worker_task s.geometry s.memory h s.memory.phase) (view ∙ ap (hand_of i.geometry.block_size i.buffer.items) prepare.1)
        | inr commit ↦ ap (λ h. worker_task s.geometry s.memory h s.memory.phase) (view ∙ ap (hand_of i.geometry.block_size i.buffer.items) commit.1)
      ] in
      waits_done g.D.Disk.stated g.D.Disk.content g.D.Disk.moment g.D.Disk.left_since g.D.Disk.faults s.geometry s.memory c.args.port.now.disk c.args.port.now.calls c.requires.order.sizes _ task;
  kept = search rules;
}
