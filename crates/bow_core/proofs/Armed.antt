-- The first log of a checkpoint, and the table as it is armed.
use Rattle.std.proofs.Common.{ℕ, ◌≡◌, List, length, take, Option, Some, None, refl, sym, ap, ◌∙◌, subst, arith, false}
use Rattle.std.specs.Option.{option_map}
use Rattle.bow_units.specs.declared.sizes.Geometry.{Geometry}
use Rattle.bow_units.specs.declared.sizes.Extent.{Extent}
use Rattle.bow_units.specs.declared.statuses.Kind.{Kind}
use Rattle.bow_units.specs.declared.statuses.Kind.TheVariants.{Current, Backup, Free}
use Rattle.bow_queue.specs.declared.tickets.Ticket.{Ticket}
use Rattle.bow_log.specs.Generations.{generation_of, fields_of}
use Rattle.bow_log.specs.Spelling.{Fields, spell}
use Rattle.bow_log.specs.Rules.{IsLog}
use Rattle.bow_log.proofs.InBlocks.{in_blocks, in_sectors}
use Rattle.bow_crc.specs.Sums.{sum_of}
use Rattle.bow_chain.specs.Sound.{sum_at}
use Rattle.bow_ranges.specs.Kinds.{kind_at, with_kind}
use Rattle.bow_machine.specs.Memory.{Memory, Preparing, FlushesCopies}
use Rattle.bow_machine.specs.MemoryIsSound.{MemoryIsSound, HandIsSound}
use Rattle.bow_machine.specs.MemoryLaws.{CanHaveIt}
use Rattle.bow_machine.specs.MemoryIsSound.{PicksHeld}
use Rattle.bow_machine.specs.Calls.{Succeeded}
use Rattle.bow_machine.specs.Steps.{first_log, copy_entry, log_or_blank, act_step, call_in_hand, call_of, step_of}
use Rattle.bow_machine.specs.Tasks.{Acts, command_task, spelling}
use Rattle.bow_machine.specs.declared.turns.Turn.TheVariants.{Command}
use Rattle.bow_machine.proofs.SoundSteps.{step_keeps_sound}
use Rattle.bow_machine.specs.Steps.{unknown}
use Rattle.bow_core.specs.Held.{hand_of, prepare_of}
use Rattle.bow_core.specs.Inside.{LogFits, SavedIs, is_saved}
use Rattle.bow_core.proofs.Saved.{saved_to}
use Rattle.bow_core.specs.declared.hands.Hand.{Hand as Kept}
use Rattle.bow_core.specs.declared.hands.Hand.TheVariants as kept
use Rattle.bow_core.specs.declared.hands.PrepareAct.{PrepareAct as NextOfPrepare}
use Rattle.bow_core.specs.declared.hands.PrepareAct.TheVariants as prepares

-- the log that is kept spells the log in memory
pub spelled_is : (g : Geometry) (o : Option Fields) (l : Fields) → LogFits g o → o ≡ Some l → spell l ≡ spelling g (log_or_blank (option_map (generation_of g) o))
spelled_is g o l fits is =
    let own : IsLog g l = subst (LogFits g) is fits in
    sym (ap (λ x. spelling g (log_or_blank (option_map (generation_of g) x))) is ∙ ap spell (in_blocks g l own).1)

-- a log that is kept is that of its generation
pub fields_again : (g : Geometry) (o : Option Fields) → LogFits g o → o ≡ option_map (fields_of g) (option_map (generation_of g) o)
fields_again g None fits = refl
fields_again g (Some l) fits = ap (λ x. Some x) (sym ((in_blocks g l fits).1))

-- a backup with the sum of some slots
pub copy_is : (source dest count sum : ℕ) (slots : List (List ℕ)) → sum ≡ sum_of source slots → record { source = source; dest = dest; count = count; sum = sum } ≡ copy_entry source dest count slots
unfolding sum_at
copy_is source dest count sum slots is = ap (λ (n : ℕ). record { source = source; dest = dest; count = count; sum = n }) is

-- what the prepare in hand has read lies in the buffer
pub held_block : (size : ℕ) (buffer : List ℕ) (h : Kept) (t : Ticket) (c b : ℕ) (v : List ℕ) → hand_of size buffer h ≡ Preparing t c b (FlushesCopies v) → take size buffer ≡ v
held_block size buffer kept.Empty t c b v is = absurd (cc is)
held_block size buffer (kept.Batching batch ticket) t c b v is = absurd (cc is)
held_block size buffer (kept.Committing commit) t c b v is = absurd (cc is)
held_block size buffer (kept.Preparing p) t c b v is = go p.act is
  where
    go : (act : NextOfPrepare) → Preparing p.ticket p.current p.backup (prepare_of (take size buffer) act) ≡ Preparing t c b (FlushesCopies v) → take size buffer ≡ v
    go prepares.ReadBlock0 is = absurd (cc is)
    go prepares.WriteCurrent is = absurd (cc is)
    go prepares.WriteBackup is = absurd (cc is)
    go prepares.FlushCopies is = cc is
    go prepares.WriteFirstLog is = absurd (cc is)
    go prepares.FlushFirstLog is = absurd (cc is)

module _ (g : Geometry) (m : Memory) (s : MemoryIsSound g m) (t : Ticket) (c b : ℕ) (v : List ℕ) (is : m.hand ≡ Preparing t c b (FlushesCopies v)) where
  pub picks : PicksHeld g m c b
  picks = (subst (λ h. HandIsSound g m h m.log) is s.in_hand).0.0

  after : MemoryIsSound g (act_step g unknown m (Preparing t c b (FlushesCopies v)) Succeeded).memory
  after =
      let task : command_task m m.hand ≡ Acts m = ap (command_task m) is in
      let may : CanHaveIt g (call_in_hand g m m.hand) Succeeded = subst (λ h. CanHaveIt g (call_in_hand g m h) Succeeded) (sym is) tt in
      let may_too : CanHaveIt g (call_of g m (command_task m m.hand)) Succeeded = subst (λ k. CanHaveIt g (call_of g m k) Succeeded) (sym task) may in
      let sound : MemoryIsSound g (step_of g unknown m (command_task m m.hand) Succeeded).memory = step_keeps_sound g m Command Succeeded unknown s may_too in
      let own : MemoryIsSound g (act_step g unknown m m.hand Succeeded).memory = subst (λ k. MemoryIsSound g (step_of g unknown m k Succeeded).memory) task sound in
      subst (λ h. MemoryIsSound g (act_step g unknown m h Succeeded).memory) is own

  pub armed_log : IsLog g (fields_of g (first_log c b v))
  armed_log = (in_sectors g (first_log c b v) s.sizes after.log.0.generation).0

  pub armed_saved : (table one two : List Kind) (first second saved : Extent) → table ≡ m.kinds → first.first ≡ c → first.count ≡ 1 → second.first ≡ b → second.count ≡ 1
      → one ≡ with_kind table first Current → length one ≡ length table → two ≡ with_kind one second Backup → SavedIs table saved → SavedIs two saved
  armed_saved table one two first second saved same at_c one_c at_b one_b set long set_too kept =
      let size : length table ≡ g.blocks = ap (λ l. length l) same ∙ s.table.size in
      let free : (x y : ℕ) → kind_at m.kinds x ≡ Free → x ≡ y → is_saved (kind_at table y) ≡ false = λ x y free e. ap (λ l. is_saved (kind_at l y)) same ∙ ap (λ z. is_saved (kind_at m.kinds z)) (sym e) ∙ ap is_saved free in
      let before = saved_to table one first saved Current set (omega (arith, picks.c_inside, at_c, one_c, size)) (λ x low high. free c x picks.c_free (omega (arith, low, high, at_c, one_c))) refl kept in
      saved_to one two second saved Backup set_too (omega (arith, picks.b_inside, at_b, one_b, size, long))
      (λ x low high. before.each x (omega (arith, picks.b_inside, at_b, one_b, size, long, high)) ∙ sym (kept.each x (omega (arith, picks.b_inside, at_b, one_b, size, high))) ∙ free b x picks.b_free (omega (arith, low, high, at_b, one_b)))
      refl before
