use Rattle.std.proofs.Common.{◌∷◌, [], ap, sym, subst, take}
use Rattle.bow_units.specs.declared.sizes.Geometry.{Geometry}
use Rattle.bow_log.specs.Generations.{IsBackup}
use Rattle.bow_machine.specs.Steps.{copy_entry}
use Rattle.bow_core.specs.Batches.{batch_in_hand}
use Rattle.bow_core.specs.Held.{Held}
use Rattle.bow_core.proofs.Changing.{link_backup}
use Rattle.bow_core.proofs.state.State.begin_log.Goals as goal

pub entry_of_slots-entry-requires-clause-backup : goal.entry_of_slots-entry-requires-clause-backup
entry_of_slots-entry-requires-clause-backup g c =
    let s = c.args.self.now in
    let i = c.self.inside in
    let slots = take i.geometry.block_size i.buffer.items ∷ [] in
    subst (λ (x : Geometry). IsBackup x (copy_entry 0 c.args.dest 1 slots)) (sym (ap (λ (h : Held). h.geometry) c.self.view_is))
    (link_backup s.geometry s.memory (batch_in_hand s.memory.hand) c.requires.sound c.requires.held c.requires.act c.args.dest slots c.requires.job)
