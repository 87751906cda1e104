-- What is in hand, where the requests change, or blocks that may be written in place.
use Rattle.std.proofs.Common.{ℕ, ◌<◌, ◌≡◌, Bool, true, false, List, Option, Some, None, refl, sym, ap, ◌∙◌, subst, inl, inr, length, ◌≤◌}
use Rattle.std.specs.List.{AllByRecursion as Each}
use Rattle.bow_units.specs.declared.sizes.Geometry.{Geometry}
use Rattle.bow_units.specs.declared.statuses.Kind.{Kind}
use Rattle.bow_log.specs.Generations.{Generation}
use Rattle.bow_copy.specs.declared.jobs.Job.{Job}
use Rattle.bow_queue.specs.declared.tickets.Ticket.{Ticket}
use Rattle.bow_ranges.specs.Kinds.{kind_at}
use Rattle.bow_machine.specs.Requests.{Request, request_of, refusal}
use Rattle.bow_machine.specs.Memory.{Memory, Batch, Hand, Empty, Batching, Preparing, Committing, PrepareAct, ReadsBlock0, WritesCurrent, WritesBackup, FlushesCopies, WritesFirstLog, FlushesFirstLog, CommitAct, FlushesAll, ReadsCurrent, WritesBlock0, FlushesDecision, has_command, may_be_written}
use Rattle.bow_machine.specs.MemoryIsSound.{ForWrite, PicksHeld, FoundIn}
use Rattle.bow_machine.specs.MemoryIsSound.{IsWaiting, Rising, IsForWrite, BatchIsSound, PrepareIsSound, CommitIsSound, HandIsSound, MemoryIsSound}
use Rattle.bow_machine.proofs.Mapped.{StillWaits, job_in, OpenChange, open_change_same, not_open}
use Rattle.bow_machine.proofs.MappedTests.{for_inside}

-- The write of a batch still waits, in another memory.
pub for_write_in : (g : Geometry) (m n : Memory) (job : Job) (t : Ticket) → n.phase ≡ m.phase → ((w : ForWrite g m t) → request_of t n.requests ≡ Some w.write)
    → ((b : ℕ) → b < g.blocks → may_be_written (kind_at m.kinds b) ≡ false → may_be_written (kind_at n.kinds b) ≡ false) → IsForWrite g m job t → IsForWrite g n job t
for_write_in g m n job t phase waits kinds h = record {
  waits = let w = h.waits in record {
    write = w.write;
    waits = waits w;
    extent = w.extent;
    payload = w.payload;
    op = w.op;
    passed = subst (λ p. refusal g p w.write.op ≡ None) (sym phase) w.passed;
    left = w.left;
    not_0 = w.not_0;
    kept_back = kinds _ (for_inside g m t w) w.kept_back;
  };
  next = h.next;
}

module _ (g : Geometry) (m n : Memory) (phase : n.phase ≡ m.phase) (clean : n.clean ≡ m.clean) (change : OpenChange g m.kinds n.kinds) where
  kept_back : (b : ℕ) → b < g.blocks → may_be_written (kind_at m.kinds b) ≡ false → may_be_written (kind_at n.kinds b) ≡ false
  kept_back b on held = elim (change b on) [ inl same ↦ ap may_be_written same ∙ held | inr (was, is) ↦ absurd (not_open (kind_at m.kinds b) held was) ]

  batch_in : (b : Batch) (log : Generation) → ((w : ForWrite g m b.ticket) → request_of b.ticket n.requests ≡ Some w.write) → BatchIsSound g m b log → BatchIsSound g n b log
  batch_in b log waits h = record {
    phase = phase ∙ h.phase;
    for_write = for_write_in g m n b.progress.job b.ticket phase waits kept_back h.for_write;
    runs = h.runs;
    so_far = h.so_far;
    blocks = h.blocks;
    before = λ early. job_in g m.kinds n.kinds change m.clean n.clean clean log b.progress.job b.progress.done b.slots (h.before early);
    after = λ is. clean ∙ h.after is;
  }

  module _ (same : (x : ℕ) → x < g.blocks → kind_at n.kinds x ≡ kind_at m.kinds x) where
    picks_in : (c b : ℕ) → PicksHeld g m c b → PicksHeld g n c b
    picks_in c b h = record { phase = phase ∙ h.phase; apart = h.apart; c_inside = h.c_inside; b_inside = h.b_inside; c_free = same c h.c_inside ∙ h.c_free; b_free = same b h.b_inside ∙ h.b_free }

    prepare_in : (c b : ℕ) (act : PrepareAct) → PrepareIsSound g m c b act → PrepareIsSound g n c b act
    prepare_in c b ReadsBlock0 h = picks_in c b h
    prepare_in c b (WritesCurrent v) (h, long) = (picks_in c b h, long)
    prepare_in c b (WritesBackup v) (h, long) = (picks_in c b h, long)
    prepare_in c b (FlushesCopies v) (h, long) = (picks_in c b h, long)
    prepare_in c b WritesFirstLog h = phase ∙ h
    prepare_in c b FlushesFirstLog h = phase ∙ h

  found_in : (again : Bool) → FoundIn m again → FoundIn n again
  found_in true h = phase ∙ h
  found_in false h = phase ∙ h

  commit_in : (again : Bool) (act : CommitAct) → CommitIsSound g m again act → CommitIsSound g n again act
  commit_in again FlushesAll h = found_in again h
  commit_in again ReadsCurrent h = found_in again h
  commit_in again (WritesBlock0 v) (h, long) = (found_in again h, long)
  commit_in again FlushesDecision h = phase ∙ h

  -- What is in hand is so in the other memory: its request still waits, and with a command in hand no kind has changed.
  pub hand_in : (hand : Hand) (log : Option Generation) → (has_command hand ≡ true → (x : ℕ) → x < g.blocks → kind_at n.kinds x ≡ kind_at m.kinds x) → StillWaits g m n.requests hand
      → HandIsSound g m hand log → HandIsSound g n hand log
  hand_in Empty log same waits h = tt
  hand_in (Batching b) None same waits h = absurd h
  hand_in (Batching b) (Some log) same waits h = batch_in b log waits h
  hand_in (Preparing t c b act) log same waits h = (prepare_in (same refl) c b act h.0, waits h.1)
  hand_in (Committing t again act) log same waits h = (commit_in again act h.0, waits h.1)

-- ----------------------------------------------------------------------------------------------------------------
-- The requests change alone.

abbrev pub same_kinds : (table : List Kind) (x : ℕ) → kind_at table x ≡ kind_at table x
same_kinds table x = refl

module _ (g : Geometry) (m : Memory) (requests : List Request) where
  pub sound_requests : length requests ≤ 16 → Each (IsWaiting g) requests → Rising requests → StillWaits g m requests m.hand → MemoryIsSound g m → MemoryIsSound g (record m { requests = requests })
  sound_requests few each rising waits s = record {
    sizes = s.sizes;
    table = s.table;
    few = few;
    requests = each;
    rising = rising;
    log = s.log;
    in_hand = hand_in g m (record m { requests = requests }) refl refl (open_change_same g m.kinds) m.hand m.log (λ command x on. refl) waits s.in_hand;
  }
