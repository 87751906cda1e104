use Rattle.std.proofs.Common.{[], Some, ap, refl, sym, subst, ◌∙◌, rules}
use Rattle.std.specs.Prelude.{slice_index_or}
use Rattle.bow_disk.specs.Disk.{HasBlock}
use Rattle.bow_copy.specs.Acts.{is_write_log}
use Rattle.bow_copy.specs.declared.jobs.Act.TheVariants.{Write}
use Rattle.bow_machine.specs.Calls.{WriteCall}
use Rattle.bow_machine.specs.Steps.{is_log_write}
use Rattle.bow_core.specs.Batches.{batch_in_hand, let_go}
use Rattle.bow_core.specs.Calls.{reply_of}
use Rattle.bow_core.specs.Held.{Held}
use Rattle.bow_core.specs.Ports.{Makes}
use Rattle.bow_core.proofs.ActRows.{row_of, still_picked, write_on}
use Rattle.bow_core.proofs.BatchDone.{act_goes, act_fails, gone_on_is, let_go_is}
use Rattle.bow_core.proofs.SlotActs.{slot_given, slot_room}
use Rattle.bow_core.proofs.batches.write_dest.Given.{Over}
use Rattle.bow_core.proofs.batches.write_dest.Goals.{After-write_slot}
use Rattle.bow_core.proofs.batches.write_dest.Goals as goal

pub write_slot-requires-clause-on : goal.write_slot-requires-clause-on
write_slot-requires-clause-on g c =
    let s = c.args.state.now in
    subst (λ o. HasBlock o c.args.block c.size-size.result) (sym c.requires.order.sizes) (write_on s.geometry s.memory (batch_in_hand s.memory.hand) c.requires.order.sound c.requires.held c.args.block c.args.slot c.requires.act, c.size-size.ensures.size)

pub write_slot-requires-clause-few : goal.write_slot-requires-clause-few
write_slot-requires-clause-few g c =
    let s = c.args.state.now in
    (row_of s.geometry s.memory (batch_in_hand s.memory.hand) c.requires.order.sound c.requires.held (Write c.args.block c.args.slot) c.requires.act).2

pub write_slot-requires-clause-room : goal.write_slot-requires-clause-room
write_slot-requires-clause-room g c =
    let s = c.args.state.now in
    let row = row_of s.geometry s.memory (batch_in_hand s.memory.hand) c.requires.order.sound c.requires.held (Write c.args.block c.args.slot) c.requires.act in
    slot_room s _ c.state.view_is c.size-size.result c.size-size.ensures.size c.args.slot _ row.2 c.state.invariant.eight

pub act_done-requires-clause-same : goal.act_done-requires-clause-same
act_done-requires-clause-same g c =
    let s = c.args.state.now in
    (row_of s.geometry s.memory (batch_in_hand s.memory.hand) c.requires.order.sound c.requires.held (Write c.args.block c.args.slot) c.requires.act).1

pub fail-requires-clause-picked : goal.fail-requires-clause-picked
fail-requires-clause-picked g c =
    let m = c.args.state.now.memory in
    still_picked c.args.state.now.geometry m (batch_in_hand m.hand) c.requires.order.sound c.requires.held

-- what is written is the slot that the batch holds
given : (g : Over) (c : After-write_slot g) → Makes g.D.Disk.stated g.D.Disk.content g.D.Disk.moment g.D.Disk.left_since g.D.Disk.faults c.args.state.now.geometry (Some (WriteCall c.args.block (slice_index_or (batch_in_hand c.args.state.now.memory.hand).slots c.args.slot []))) (reply_of c.write_slot.result)
    c.args.port.now.disk c.write_slot.new.port.disk c.args.port.now.calls c.write_slot.new.port.calls
given g c =
    slot_given c.args.state.now _ c.state.view_is c.size-size.result c.size-size.ensures.size c.requires.order.sound c.requires.held c.args.block c.args.slot g.D.Disk.stated g.D.Disk.content g.D.Disk.moment g.D.Disk.left_since g.D.Disk.faults c.args.port.now.disk c.write_slot.new.port.disk c.args.port.now.calls c.write_slot.new.port.calls (reply_of c.write_slot.result)
    c.requires.act c.state.inside.buffer.items c.state.inside.hand refl (c.write_slot.ensures c.args.state.now.geometry c.requires.order.sizes)

pub returns-in-Ok : goal.returns-in-Ok
returns-in-Ok g c = record {
  done =
      let s = c.args.state.now in
      let m = s.memory in
      let b = batch_in_hand m.hand in
      let made = given g (goal.at.returns-in-Ok g c).After-write_slot in
      act_goes g.D.Disk.stated g.D.Disk.content g.D.Disk.moment g.D.Disk.left_since g.D.Disk.faults s.geometry m c.args.port.now.disk c.write_slot.new.port.disk c.args.port.now.calls c.write_slot.new.port.calls b c.requires.held (Write c.args.block c.args.slot) c.requires.act
      c.act_done.new.self.memory (ap (λ (h : Held). h.memory) c.act_done.ensures.memory ∙ sym (gone_on_is m b (ap is_write_log c.requires.act))) c.act_done.result c.act_done.ensures.told
      (reply_of c.write_slot.result) (ap reply_of c.in-Ok.is) made;
  kept = search rules;
}

pub returns-in-Err : goal.returns-in-Err
returns-in-Err g c = record {
  done =
      let s = c.args.state.now in
      let m = s.memory in
      let b = batch_in_hand m.hand in
      let made = given g (goal.at.returns-in-Err g c).After-write_slot in
      act_fails g.D.Disk.stated g.D.Disk.content g.D.Disk.moment g.D.Disk.left_since g.D.Disk.faults s.geometry m c.args.port.now.disk c.write_slot.new.port.disk c.args.port.now.calls c.write_slot.new.port.calls b c.requires.held c.args.ticket c.requires.own (Write c.args.block c.args.slot) c.requires.act
      (let_go m b) (let_go_is m b (ap is_log_write c.requires.act)) c.fail.result c.fail.new.self.memory c.fail.ensures.told (ap (λ (h : Held). h.memory) c.fail.ensures.memory)
      (reply_of c.write_slot.result) (ap reply_of c.in-Err.is) made;
  kept = search rules;
}
