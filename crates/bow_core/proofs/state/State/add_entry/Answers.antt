use Rattle.std.proofs.Common.{◌≡◌, ◌*◌, ◌<◌, ◌≤◌, List, Option, Some, false, length, ap, sym, subst, ◌∙◌, arith}
use Rattle.std.proofs.Math.Nat.{mul-le-mul_right}
use Rattle.std.specs.Option.{option_map}
use Rattle.bow_units.specs.declared.sizes.Geometry.{Geometry}
use Rattle.bow_units.specs.declared.statuses.Kind.{Kind}
use Rattle.bow_crc.specs.Sums.{first_blocks}
use Rattle.bow_log.specs.Generations.{Generation, IsBackup, generation_of, room, with_backup}
use Rattle.bow_machine.specs.Memory.{Batch}
use Rattle.bow_machine.specs.Steps.{copy_entry, kinds_for}
use Rattle.bow_core.specs.Batches.{batch_in_hand}
use Rattle.bow_core.specs.Held.{Held, with_memory}
use Rattle.bow_core.specs.Inside.{SavedIs}
use Rattle.bow_core.proofs.BatchDone.{held_slots}
use Rattle.bow_core.proofs.Changing.{copy_backup, copy_inside, copy_log, copy_room, copy_saved, copy_slots}
use Rattle.bow_core.proofs.Saved.{kept_with}
use Rattle.bow_core.proofs.state.State.add_entry.Given.{Over}
use Rattle.bow_core.proofs.state.State.add_entry.Goals.{After-self, In-Some, After-set}
use Rattle.bow_core.proofs.state.State.add_entry.Goals as goal

module _ (g : Over) (c : After-self g) where
  abbrev s : Held
  s = c.args.self.now

  abbrev b : Batch
  b = batch_in_hand s.memory.hand

  same : c.self.inside.geometry ≡ s.geometry
  same = ap (λ (h : Held). h.geometry) c.self.view_is

  -- what was read of the sources
  slots : first_blocks c.args.count c.self.inside.geometry.block_size c.self.inside.buffer.items ≡ b.slots
  slots =
      let i = c.self.inside in
      let count = copy_slots s.geometry s.memory b c.requires.sound c.requires.held c.requires.act c.args.source c.args.dest c.args.count c.requires.job in
      sym (held_slots i.geometry.block_size i.buffer.items i.hand s.memory.hand (ap (λ (h : Held). h.memory.hand) c.self.view_is) c.requires.held ∙ ap (λ n. first_blocks n i.geometry.block_size i.buffer.items) count)

-- the log that is kept is the one in memory
kept : (g : Over) (c : In-Some g) → Some (generation_of c.args.self.now.geometry c.in-Some.log) ≡ c.args.self.now.memory.log
kept g c = subst (λ x. Some (generation_of x c.in-Some.log) ≡ c.args.self.now.memory.log) (ap (λ (h : Held). h.geometry) c.self.view_is) (ap (option_map (generation_of c.self.inside.geometry)) (sym c.in-Some.is) ∙ ap (λ (h : Held). h.memory.log) c.self.view_is)

saves : (g : Over) (c : After-set g) → SavedIs (g.R.Ranges.kinds c.set.new.self) c.run-self-inside.result × (g.R.Ranges.kinds c.set.new.self ≡ kinds_for (batch_in_hand c.args.self.now.memory.hand).progress.job c.args.self.now.memory.kinds)
saves g c =
    let s = c.args.self.now in
    copy_saved s.geometry s.memory (batch_in_hand s.memory.hand) c.requires.sound c.requires.held c.requires.act c.args.source c.args.dest c.args.count c.requires.job (g.R.Ranges.kinds c.self.inside.table) (g.R.Ranges.kinds c.set.new.self) c.run-self-inside.result
    (ap (λ (h : Held). h.memory.kinds) c.self.view_is) c.run-self-inside.ensures.first c.run-self-inside.ensures.count c.set.ensures.set

pub entry_of_slots-entry-requires-clause-room : goal.entry_of_slots-entry-requires-clause-room
entry_of_slots-entry-requires-clause-room g c =
    let s = c.args.self.now in
    let few = (copy_inside s.geometry s.memory (batch_in_hand s.memory.hand) c.requires.sound c.requires.held c.requires.act c.args.source c.args.dest c.args.count c.requires.job).1 in
    let wide : c.args.count * c.self.inside.geometry.block_size ≤ 8 * c.self.inside.geometry.block_size = mul-le-mul_right c.self.inside.geometry.block_size few in
    omega (arith, wide, c.self.invariant.eight)

pub entry_of_slots-entry-requires-clause-backup : goal.entry_of_slots-entry-requires-clause-backup
entry_of_slots-entry-requires-clause-backup g c =
    let s = c.args.self.now in
    let i = c.self.inside in
    let slots = first_blocks c.args.count i.geometry.block_size i.buffer.items in
    subst (λ (x : Geometry). IsBackup x (copy_entry c.args.source c.args.dest c.args.count slots)) (sym (ap (λ (h : Held). h.geometry) c.self.view_is))
    (copy_backup s.geometry s.memory (batch_in_hand s.memory.hand) c.requires.sound c.requires.held c.requires.act c.args.source c.args.dest c.args.count slots c.requires.job)

pub add-requires-clause-room : goal.add-requires-clause-room
add-requires-clause-room g c =
    let s = c.args.self.now in
    subst (λ (x : Geometry). length c.in-Some.log.entries < room x.block_size) (sym (ap (λ (h : Held). h.geometry) c.self.view_is))
    (copy_room s.geometry s.memory (batch_in_hand s.memory.hand) c.requires.sound c.requires.held c.requires.act c.in-Some.log c.in-Some.log (kept g (goal.at.add-requires-clause-room g c).In-Some) c.args.source c.args.dest c.args.count c.requires.job)

pub invariant_of-self : goal.invariant_of-self
invariant_of-self g c =
    let k = c.self.invariant in
    kept_with k c.set.ensures.blocks c.add.ensures.log (saves g (goal.at.invariant_of-self g c).After-set).0

pub returns : goal.returns
returns g c =
    let s = c.args.self.now in
    let m = s.memory in
    let b = batch_in_hand m.hand in
    let i = c.self.inside in
    let read = first_blocks c.args.count i.geometry.block_size i.buffer.items in
    let geo : i.geometry ≡ s.geometry = ap (λ (h : Held). h.geometry) c.self.view_is in
    let added = c.add.ensures.is ∙ ap (with_backup (generation_of i.geometry c.in-Some.log)) c.entry_of_slots-entry.ensures.backup in
    let own : generation_of s.geometry c.add.new.self ≡ with_backup (generation_of s.geometry c.in-Some.log) (copy_entry c.args.source c.args.dest c.args.count read) =
    subst (λ (x : Geometry). generation_of x c.add.new.self ≡ with_backup (generation_of x c.in-Some.log) (copy_entry c.args.source c.args.dest c.args.count read)) geo added in
    let log = ap (λ (x : Geometry). Some (generation_of x c.add.new.self)) geo
    ∙ copy_log s.geometry m b c.requires.sound c.requires.held c.requires.act c.in-Some.log c.add.new.self (kept g (goal.at.returns g c).In-Some) c.args.source c.args.dest c.args.count read c.requires.job (slots g (goal.at.returns g c).After-self) own in
    ap (λ (h : Held). with_memory h (record h.memory { kinds = g.R.Ranges.kinds c.set.new.self; log = Some (generation_of i.geometry c.add.new.self); clean = false })) c.self.view_is
    ∙ ap (λ (t : List Kind). with_memory s (record m { kinds = t; log = Some (generation_of i.geometry c.add.new.self); clean = false })) (saves g (goal.at.returns g c).After-set).1
    ∙ ap (λ (o : Option Generation). with_memory s (record m { kinds = kinds_for b.progress.job m.kinds; log = o; clean = false })) log
