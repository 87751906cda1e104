use Rattle.std.proofs.Common.{◌≡◌, ◌∙◌, ap, subst, sym, false, List, None, ◌∷◌}
use Rattle.std.specs.List.{list_any}
use Rattle.bow_units.specs.declared.statuses.Status.{Status}
use Rattle.bow_disk.specs.Bytes.{image_of}
use Rattle.bow_disk.specs.Memory.{Memory, content}
use Rattle.bow_log.specs.Generations.{Generation}
use Rattle.bow_chain.specs.Contents.{contents_of}
use Rattle.bow_chain.specs.Sound.{IsSound}
use Rattle.bow_machine.specs.Shown.{status_of}
use Rattle.bow_restore.specs.Answers.{TellsHead, TellsSound}
use Rattle.bow_script.specs.Drills.{after, drill_script_of, used_blocks}
use Rattle.bow_tool.specs.Drills.{HoldsUsed, IsDrillSession, IsHeldIn, IsRerunFrom, drill_sizes, is_fault}
use Rattle.bow_tool.proofs.Making.{disk_sizes, drawn_numbers, drill_ended, drill_held, drill_kept, drill_session, drill_text, loaded_of}
use Rattle.bow_tool.proofs.Patterns.{drill_bytes_long}
use Rattle.bow_tool.proofs.drills.drill.Given.{Over}
use Rattle.bow_tool.proofs.drills.drill.Goals.{In_ok-last}
use Rattle.bow_tool.proofs.drills.drill.Goals as goal

pub cut_thrice-requires-clause-sizes : goal.cut_thrice-requires-clause-sizes
cut_thrice-requires-clause-sizes g c =
    let b = c.in_ok-session.ensures.begun in
    ap (λ (d : Memory). d.state.geometry) c.disk.ensures ∙ disk_sizes b.0 b.1 c.in_ok-session.session b.2 c.play-turns.new.session (loaded_of b.0 c.in_ok-session.session b.2 c.play-turns.new.session c.draw-seed.result c.play-turns.result c.play-turns.ensures.turns)

pub count_kept-kept-requires-clause-whole : goal.count_kept-kept-requires-clause-whole
count_kept-kept-requires-clause-whole g c = drill_bytes_long c.in_ok-restored.image.items c.deref-2.result.now c.deref-2.ensures.value c.in_ok-restored.ensures.whole

-- no item of the journal tells a fault
quiet : (g : Over) (c : In_ok-last g) → list_any is_fault c.play-turns.new.session.journal ≡ false
quiet g c = ap (list_any is_fault) (sym c.journal-journal.ensures.is) ∙ sym c.tells_fault.ensures ∙ c.if-tells_fault.false

-- so the session is one of the drill
the_session : (g : Over) (c : In_ok-last g) → IsDrillSession c.args.number c.play-turns.new.session c.play-turns.result
the_session g c =
    let b = c.in_ok-session.ensures.begun in
    let number = c.args.number in
    let script : c.in_ok-session.session.script ≡ drill_script_of number = c.in_ok-session.ensures.script ∙ c.in_ok-script.ensures.script ∙ ap drill_script_of c.new-draws.ensures in
    let numbers = drawn_numbers number c.drill_script.new.draws c.draw-most.new.self c.draw-seed.new.self c.draw-most.result c.draw-seed.result (c.in_ok-script.ensures.draws ∙ ap (after 3073) c.new-draws.ensures) c.draw-most.ensures.number c.draw-most.ensures.value c.draw-seed.ensures.number c.draw-seed.ensures.value in
    drill_session number c.draw-seed.result c.draw-most.result c.play-turns.result b.0 b.1 c.in_ok-session.session b.2 c.play-turns.new.session script c.play-turns.ensures.script numbers.0 numbers.1 c.play-turns.ensures.turns c.play-turns.ensures.enough (quiet g c) c.journal-journal.ensures.leads

reruns : (g : Over) (c : In_ok-last g) → IsRerunFrom drill_sizes (content c.play-turns.new.session.core.disk.state).candidates (image_of drill_sizes c.in_ok-last.last.items)
reruns g c = subst (λ (d : Memory). IsRerunFrom drill_sizes (content d.state).candidates (image_of drill_sizes c.in_ok-last.last.items)) c.disk.ensures c.in_ok-last.ensures.reruns

-- the image before the last restoration
held : (g : Over) (c : In_ok-last g) → HoldsUsed c.args.number (image_of drill_sizes c.in_ok-last.last.items)
held g c = drill_held c.args.number c.play-turns.result c.play-turns.new.session (the_session g c) (image_of drill_sizes c.in_ok-last.last.items) (reruns g c) (quiet g c)

pub restore_last-requires-clause-held : goal.restore_last-requires-clause-held
restore_last-requires-clause-held g c =
    let there = held g (goal.at.restore_last-requires-clause-held g c).In_ok-last in
    (there.0, there.1, subst (λ bytes. IsHeldIn drill_sizes there.0 there.1 (image_of drill_sizes bytes)) (sym c.deref.ensures.value) there.2)

pub drill_lines-requires : goal.drill_lines-requires
drill_lines-requires g c =
    drill_kept c.args.number c.count_kept-kept.result c.used_blocks.result c.in_ok-last.last.items c.deref.result.now c.in_ok-restored.image.items c.deref-2.result.now (held g (goal.at.drill_lines-requires g c).In_ok-last)
    c.deref.ensures.value c.in_ok-restored.ensures.back c.deref-2.ensures.value c.used_blocks.ensures.is c.count_kept-kept.ensures.all

pub returns : goal.returns
returns g c =
    let s = c.play-turns.new.session in
    let number = c.args.number in
    let last = image_of drill_sizes c.in_ok-last.last.items in
    let at = (goal.at.returns g c).In_ok-last in
    let session = the_session g at in
    let there = c.deref.ensures.value in
    let head = subst (λ bytes. TellsHead (contents_of (image_of drill_sizes bytes) 0) c.in_ok-restored.restored) there c.in_ok-restored.ensures.head in
    let counts = subst (λ bytes. (log : Generation) (older : List Generation) → IsSound drill_sizes (contents_of (image_of drill_sizes bytes)) log older → TellsSound None (log ∷ older) c.in_ok-restored.restored) there c.in_ok-restored.ensures.counts in
    let all = drill_kept number c.count_kept-kept.result c.used_blocks.result c.in_ok-last.last.items c.deref.result.now c.in_ok-restored.image.items c.deref-2.result.now (held g at) there c.in_ok-restored.ensures.back c.deref-2.ensures.value c.used_blocks.ensures.is c.count_kept-kept.ensures.all in
    record {
      session = session;
      reruns = reruns g at;
      held = held g at;
      ended = drill_ended number c.play-turns.result s session last c.in_ok-restored.restored (reruns g at) head counts c.in_ok-restored.ensures.well;
      lines = drill_text number c.status-status.result (status_of s.core.memory) c.play-turns.result c.journal-journal.result.now s.journal c.in_ok-restored.restored c.count_kept-kept.result (used_blocks number) c.in_ok-text.text.items c.status-status.ensures.is c.journal-journal.ensures.is all c.in_ok-text.ensures;
    }
