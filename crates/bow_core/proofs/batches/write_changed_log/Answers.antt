use Rattle.std.proofs.Common.{◌≡◌, ◌+◌, Some, true, ap, sym, subst, ◌∙◌, rules}
use Rattle.std.proofs.lemmas.Bool.{false≢true}
use Rattle.bow_copy.specs.Acts.{after_act}
use Rattle.bow_copy.specs.declared.jobs.Act.TheVariants.{WriteLog}
use Rattle.bow_machine.specs.Calls.{WriteCall}
use Rattle.bow_machine.specs.Steps.{changed, log_of_memory}
use Rattle.bow_machine.specs.Tasks.{spelling}
use Rattle.bow_core.specs.Batches.{batch_in_hand, gone_on, let_go}
use Rattle.bow_core.specs.Calls.{reply_of}
use Rattle.bow_core.specs.Held.{Held, slots_in}
use Rattle.bow_core.specs.Ports.{Makes}
use Rattle.bow_core.proofs.ActRows.{row_of, log_stage}
use Rattle.bow_core.proofs.BatchDone.{act_goes, act_fails, log_let_go, log_gone_on, tried_at}
use Rattle.bow_core.proofs.SlotActs.{FailsIn, PickedIn}
use Rattle.bow_core.proofs.batches.write_changed_log.Goals as goal

pub act_done-requires-clause-same : goal.act_done-requires-clause-same
act_done-requires-clause-same g c =
    let s = c.args.state.now in
    let m = s.memory in
    let b = batch_in_hand m.hand in
    let same = c.give_log.ensures.kept ∙ c.change.ensures in
    subst (λ (h : Held). slots_in (batch_in_hand h.memory.hand).progress.job ((batch_in_hand h.memory.hand).progress.done + 1) ≡ slots_in (batch_in_hand h.memory.hand).progress.job (batch_in_hand h.memory.hand).progress.done) (sym same)
    (row_of s.geometry m b c.requires.order.sound c.requires.held WriteLog c.requires.act)

pub fail-requires-clause-picked : goal.fail-requires-clause-picked
fail-requires-clause-picked g c =
    let s = c.args.state.now in
    let m = s.memory in
    let b = batch_in_hand m.hand in
    let tried = tried_at b (log_stage s.geometry m b c.requires.order.sound c.requires.held c.requires.act) in
    subst PickedIn (sym (c.give_log.ensures.kept ∙ c.change.ensures)) (λ untried. absurd (false≢true (sym untried ∙ tried)))

pub returns-in-Ok : goal.returns-in-Ok
returns-in-Ok g c = record {
  done =
      let s = c.args.state.now in
      let m = s.memory in
      let b = batch_in_hand m.hand in
      let same = c.give_log.ensures.kept ∙ c.change.ensures in
      let memory = subst (λ (h : Held). c.act_done.new.self.memory ≡ gone_on h.memory (batch_in_hand h.memory.hand) (after_act (batch_in_hand h.memory.hand).progress true)) same (ap (λ (h : Held). h.memory) c.act_done.ensures.memory) in
      let made = subst (λ (h : Held). Makes g.D.Disk.stated g.D.Disk.content g.D.Disk.moment g.D.Disk.left_since g.D.Disk.faults h.geometry (Some (WriteCall 0 (spelling h.geometry (log_of_memory h.memory)))) (reply_of c.give_log.result) c.args.port.now.disk c.give_log.new.port.disk c.args.port.now.calls c.give_log.new.port.calls) c.change.ensures c.give_log.ensures.made in
      act_goes g.D.Disk.stated g.D.Disk.content g.D.Disk.moment g.D.Disk.left_since g.D.Disk.faults s.geometry m c.args.port.now.disk c.give_log.new.port.disk c.args.port.now.calls c.give_log.new.port.calls b c.requires.held WriteLog c.requires.act
      c.act_done.new.self.memory (memory ∙ sym (log_gone_on m b c.requires.act)) c.act_done.result c.act_done.ensures.told (reply_of c.give_log.result) (ap reply_of c.in-Ok.is) made;
  kept = search rules;
}

pub returns-in-Err : goal.returns-in-Err
returns-in-Err g c = record {
  done =
      let s = c.args.state.now in
      let m = s.memory in
      let b = batch_in_hand m.hand in
      let same = c.give_log.ensures.kept ∙ c.change.ensures in
      let failed = subst (λ (h : Held). FailsIn h c.args.ticket c.fail.result c.fail.new.self) same (c.fail.ensures.told, c.fail.ensures.memory) in
      let made = subst (λ (h : Held). Makes g.D.Disk.stated g.D.Disk.content g.D.Disk.moment g.D.Disk.left_since g.D.Disk.faults h.geometry (Some (WriteCall 0 (spelling h.geometry (log_of_memory h.memory)))) (reply_of c.give_log.result) c.args.port.now.disk c.give_log.new.port.disk c.args.port.now.calls c.give_log.new.port.calls) c.change.ensures c.give_log.ensures.made in
      act_fails g.D.Disk.stated g.D.Disk.content g.D.Disk.moment g.D.Disk.left_since g.D.Disk.faults s.geometry m c.args.port.now.disk c.give_log.new.port.disk c.args.port.now.calls c.give_log.new.port.calls b c.requires.held c.args.ticket c.requires.own WriteLog c.requires.act
      (let_go (changed m b) b) (log_let_go m b c.requires.act (log_stage s.geometry m b c.requires.order.sound c.requires.held c.requires.act)) c.fail.result c.fail.new.self.memory failed.0 (ap (λ (h : Held). h.memory) failed.1)
      (reply_of c.give_log.result) (ap reply_of c.in-Err.is) made;
  kept = search rules;
}
