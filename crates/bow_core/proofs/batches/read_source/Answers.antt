use Rattle.std.proofs.Common.{◌*◌, ◌≡◌, take, drop, ap, refl, sym, subst, ◌∙◌, rules}
use Rattle.bow_disk.specs.Disk.{HasBlock}
use Rattle.bow_copy.specs.declared.jobs.Act.TheVariants.{Read}
use Rattle.bow_machine.specs.Memory.{Memory, Hand}
use Rattle.bow_machine.specs.Steps.{is_log_write}
use Rattle.bow_machine.specs.Tasks.{Acts}
use Rattle.bow_core.specs.Batches.{batch_in_hand, let_go}
use Rattle.bow_core.specs.Calls.{read_reply}
use Rattle.bow_core.specs.Held.{Held, hand_of}
use Rattle.bow_core.specs.Steps.{IsDone}
use Rattle.bow_core.specs.declared.turns.Step.TheVariants as inside
use Rattle.bow_core.specs.declared.hands.Hand.TheVariants as kept
use Rattle.bow_core.proofs.ActRows.{row_of, still_picked, read_on, read_goes_on, runs_on}
use Rattle.bow_core.proofs.BatchDone.{read_done, act_fails, let_go_is, hand_read}
use Rattle.bow_core.proofs.SlotActs.{FailsIn, PickedIn, read_unseen, size_in, slot_room}
use Rattle.bow_core.proofs.batches.read_source.Goals as goal

pub read_slot-requires-clause-on : goal.read_slot-requires-clause-on
read_slot-requires-clause-on g c =
    let s = c.args.state.now in
    subst (λ o. HasBlock o c.args.block c.size-size.result) (sym c.requires.order.sizes) (read_on s.geometry s.memory (batch_in_hand s.memory.hand) c.requires.order.sound c.requires.held c.args.block c.args.slot c.requires.act, c.size-size.ensures.size)

pub read_slot-requires-clause-few : goal.read_slot-requires-clause-few
read_slot-requires-clause-few g c =
    let s = c.args.state.now in
    (row_of s.geometry s.memory (batch_in_hand s.memory.hand) c.requires.order.sound c.requires.held (Read c.args.block c.args.slot) c.requires.act).2

pub read_slot-requires-clause-room : goal.read_slot-requires-clause-room
read_slot-requires-clause-room g c =
    let s = c.args.state.now in
    let row = row_of s.geometry s.memory (batch_in_hand s.memory.hand) c.requires.order.sound c.requires.held (Read c.args.block c.args.slot) c.requires.act in
    slot_room s _ c.state.view_is c.size-size.result c.size-size.ensures.size c.args.slot _ row.2 c.state.invariant.eight

pub fail-requires-clause-picked : goal.fail-requires-clause-picked
fail-requires-clause-picked g c =
    let s = c.args.state.now in
    let i = c.state.inside in
    let same = read_unseen s _ c.state.view_is c.size-size.result c.size-size.ensures.size c.requires.order.sound c.requires.held c.args.block c.args.slot c.requires.act i.buffer.items c.read_slot.new.buffer.items i.hand refl c.read_slot.ensures.front in
    subst PickedIn (sym same) (still_picked s.geometry s.memory (batch_in_hand s.memory.hand) c.requires.order.sound c.requires.held)

pub returns-in-Batching : goal.returns-in-Batching
returns-in-Batching g c = record {
  done =
      let s = c.args.state.now in
      let m = s.memory in
      let b = batch_in_hand m.hand in
      let i = c.state.inside in
      let size = size_in s _ c.state.view_is c.size-size.result c.size-size.ensures.size in
      let row = row_of s.geometry m b c.requires.order.sound c.requires.held (Read c.args.block c.args.slot) c.requires.act in
      let new = c.read_slot.new.buffer.items in
      let front = subst (λ n. take (c.args.slot * n) new ≡ take (c.args.slot * n) i.buffer.items) size c.read_slot.ensures.front in
      let view = ap (λ (h : Held). h.memory.hand) c.state.view_is in
      let v = take c.size-size.result (drop (c.args.slot * c.size-size.result) new) in
      let read = hand_read i.geometry.block_size i.buffer.items new c.in-Batching.batch c.done.new.batch c.in-Batching.field-1 m.hand (ap (hand_of i.geometry.block_size i.buffer.items) (sym c.in-Batching.is) ∙ view) c.args.slot v
      (runs_on s.geometry m b c.requires.order.sound c.requires.held) c.done.ensures.step row.0 row.1 front (ap (λ n. take n (drop (c.args.slot * n) new)) size) in
      let memory = ap (λ (h : Held). record h.memory { hand = hand_of i.geometry.block_size new (kept.Batching c.done.new.batch c.in-Batching.field-1) }) c.state.view_is ∙ ap (λ (x : Hand). record m { hand = x }) read in
      subst (λ (n : Memory). IsDone g.D.Disk.stated g.D.Disk.content g.D.Disk.moment g.D.Disk.left_since g.D.Disk.faults s.geometry m (Acts m) inside.Moved n c.args.port.now.disk c.read_slot.new.port.disk c.args.port.now.calls c.read_slot.new.port.calls) (sym memory)
      (read_done g.D.Disk.stated g.D.Disk.content g.D.Disk.moment g.D.Disk.left_since g.D.Disk.faults s.geometry m c.args.port.now.disk c.read_slot.new.port.disk c.args.port.now.calls c.read_slot.new.port.calls b c.requires.held c.read_slot.result _ c.in-Ok.is c.args.block c.args.slot v c.requires.act
      (read_goes_on s.geometry m b c.requires.order.sound c.requires.held c.args.block c.args.slot c.requires.act) (c.read_slot.ensures.made s.geometry c.requires.order.sizes));
  kept = search rules;
}

pub returns-in-Err : goal.returns-in-Err
returns-in-Err g c = record {
  done =
      let s = c.args.state.now in
      let m = s.memory in
      let b = batch_in_hand m.hand in
      let i = c.state.inside in
      let new = c.read_slot.new.buffer.items in
      let v = take c.size-size.result (drop (c.args.slot * c.size-size.result) new) in
      let same = read_unseen s _ c.state.view_is c.size-size.result c.size-size.ensures.size c.requires.order.sound c.requires.held c.args.block c.args.slot c.requires.act i.buffer.items new i.hand refl c.read_slot.ensures.front in
      let failed = subst (λ (h : Held). FailsIn h c.args.ticket c.fail.result c.fail.new.self) same (c.fail.ensures.told, c.fail.ensures.memory) in
      act_fails g.D.Disk.stated g.D.Disk.content g.D.Disk.moment g.D.Disk.left_since g.D.Disk.faults s.geometry m c.args.port.now.disk c.read_slot.new.port.disk c.args.port.now.calls c.read_slot.new.port.calls b c.requires.held c.args.ticket c.requires.own (Read c.args.block c.args.slot) c.requires.act
      (let_go m b) (let_go_is m b (ap is_log_write c.requires.act)) c.fail.result c.fail.new.self.memory failed.0 (ap (λ (h : Held). h.memory) failed.1)
      (read_reply c.read_slot.result v) (ap (λ r. read_reply r v) c.in-Err.is) (c.read_slot.ensures.made s.geometry c.requires.order.sizes);
  kept = search rules;
}
