-- What a turn of a request leaves as it was: the requests change alone; or blocks that no log needs change.
use Rattle.std.proofs.Common.{length, slice_index_or, ℕ, ◌+◌, ◌*◌, ◌<◌, ◌≡◌, ◌≢◌, ◌⊎◌, Bool, true, false, List, [], ◌∷◌, ◌++◌, Option, Some, None, arith, refl, sym, ap, ◌∙◌, subst, subst₂, inl, inr}
use Rattle.std.specs.List.{AllByRecursion as Each}
use Rattle.bow_units.specs.declared.sizes.Geometry.{Geometry}
use Rattle.bow_units.specs.declared.requests.Phase.TheVariants.{Checkpoint}
use Rattle.bow_units.specs.declared.statuses.Kind.{Kind}
use Rattle.bow_units.specs.declared.statuses.Kind.TheVariants.{Sector0, Current, Unchanged, Free, Changed, Backup, Saved}
use Rattle.bow_log.specs.Generations.{Generation}
use Rattle.bow_chain.specs.Contents.{Contents}
use Rattle.bow_chain.specs.Sound.{log_in}
use Rattle.bow_copy.specs.declared.jobs.Job.{Job}
use Rattle.bow_copy.specs.declared.jobs.Job.TheVariants as jobs
use Rattle.bow_flat.specs.Flat.{Flat}
use Rattle.bow_guard.specs.Cuts.{Candidates}
use Rattle.bow_guard.specs.Phases.{Leaves}
use Rattle.bow_queue.specs.declared.tickets.Ticket.{Ticket}
use Rattle.bow_ranges.specs.Kinds.{kind_at, is_free, count_of}
use Rattle.bow_machine.specs.Requests.{Request, request_of, without_request, with_request, refusal}
use Rattle.bow_machine.specs.Memory.{Memory, Batch, Hand, Empty, Batching, Preparing, Committing, PrepareAct, ReadsBlock0, WritesCurrent, WritesBackup, FlushesCopies, WritesFirstLog, FlushesFirstLog, CommitAct, FlushesAll, ReadsCurrent, WritesBlock0, FlushesDecision, has_command, has_move, is_move, may_be_written, reserved}
use Rattle.bow_machine.specs.Steps.{without_waiting}
use Rattle.bow_machine.specs.MemoryIsSound.{IsRequest, IsForCommand, ForWrite, PicksHeld, JobIsReady, LogIsSound, is_touched}
use Rattle.bow_machine.proofs.Held.{device_of, IsKept, IsHidden, Room, JobHeld, BatchHeld, PrepareHeld, CommitHeld, OwnTickets, HandHeld, IsHeld}
use Rattle.bow_machine.proofs.Hands.{stands_handed}
use Rattle.bow_machine.proofs.RequestLists.{of_without, of_with_other, of_push_found, each_without, each_with, each_append}
use Rattle.bow_machine.proofs.Tickets.{own_without, own_with, own_push}
use Rattle.bow_machine.proofs.SoundLists.{for_command_without, for_command_with, for_command_push}
use Rattle.bow_units.specs.declared.requests.Op.TheVariants.{Prepare, Commit}

-- ----------------------------------------------------------------------------------------------------------------
-- The requests change, and nothing else.

abbrev pub with_requests : Memory → List Request → Memory
with_requests m requests = record m { requests = requests }

-- the ticket of the request for which something is in hand
abbrev pub ticket_in : Hand → Option Ticket
ticket_in Empty = None
ticket_in (Batching b) = Some b.ticket
ticket_in (Preparing t c b act) = Some t
ticket_in (Committing t again act) = Some t

-- nothing is in hand for the request of this ticket
abbrev pub NotInHand : Hand → Ticket → Type 0
NotInHand hand t = ticket_in hand ≢ Some t

pub empty_not_in_hand : (hand : Hand) (t : Ticket) → hand ≡ Empty → NotInHand hand t
empty_not_in_hand hand t is e = absurd (let none : None ≡ Some t = sym (ap ticket_in is) ∙ e in grind arith)

-- the request of what is in hand waits as before
abbrev pub StillWaits : Geometry → Memory → List Request → Hand → Type 0
StillWaits g m requests Empty = Unit {0}
StillWaits g m requests (Batching b) = (w : ForWrite g m b.ticket) → request_of b.ticket requests ≡ Some w.write
StillWaits g m requests (Preparing t c b act) = IsForCommand m.requests t Prepare → IsForCommand requests t Prepare
StillWaits g m requests (Committing t again act) = IsForCommand m.requests t Commit → IsForCommand requests t Commit

-- nothing is in hand for a request that is answered, or goes on
pub waits_without : (g : Geometry) (m : Memory) (t : Ticket) (hand : Hand) → NotInHand hand t → StillWaits g m (without_request t m.requests) hand
waits_without g m t Empty other = tt
waits_without g m t (Batching b) other = λ w. of_without t b.ticket m.requests (λ e. other (ap Some e)) ∙ w.waits
waits_without g m t (Preparing s c b act) other = for_command_without t s Prepare m.requests (λ e. other (ap Some e))
waits_without g m t (Committing s again act) other = for_command_without t s Commit m.requests (λ e. other (ap Some e))

pub waits_with : (g : Geometry) (m : Memory) (r : Request) (hand : Hand) → NotInHand hand r.ticket → StillWaits g m (with_request r m.requests) hand
waits_with g m r Empty other = tt
waits_with g m r (Batching b) other = λ w. of_with_other r b.ticket m.requests (λ e. other (ap Some e)) ∙ w.waits
waits_with g m r (Preparing s c b act) other = for_command_with r s Prepare m.requests (λ e. other (ap Some e))
waits_with g m r (Committing s again act) other = for_command_with r s Commit m.requests (λ e. other (ap Some e))

pub waits_push : (g : Geometry) (m : Memory) (r : Request) (hand : Hand) → StillWaits g m (m.requests ++ r ∷ []) hand
waits_push g m r Empty = tt
waits_push g m r (Batching b) = λ w. of_push_found r b.ticket m.requests w.write w.waits
waits_push g m r (Preparing s c b act) = for_command_push r s Prepare m.requests
waits_push g m r (Committing s again act) = for_command_push r s Commit m.requests

module _ (g : Geometry) (m : Memory) (requests : List Request) (now : Contents) (may : Candidates) where
  job_so : (log : Generation) (job : Job) (done : ℕ) (slots : List (List ℕ)) → JobHeld g m log job done slots now may
      → JobHeld g (with_requests m requests) log job done slots now may
  job_so log jobs.Rewrite done slots h = tt
  job_so log (jobs.Link dest) done slots (h, clean) = (record { ready = h.ready; wrote = h.wrote; durable = h.durable }, clean)
  job_so log (jobs.Copy source dest count) done slots (h, clean) = (record { ready = h.ready; read = h.read; wrote = h.wrote; durable = h.durable }, clean)
  job_so log (jobs.Move from to) done slots (h, clean) = (record { ready = h.ready; read = h.read; wrote = h.wrote; durable = h.durable }, clean)

  picks_so : (c b : ℕ) → PicksHeld g m c b → PicksHeld g (with_requests m requests) c b
  picks_so c b h = record { phase = h.phase; apart = h.apart; c_inside = h.c_inside; b_inside = h.b_inside; c_free = h.c_free; b_free = h.b_free }

  prepare_so : (c b : ℕ) (act : PrepareAct) → PrepareHeld g m c b act now → PrepareHeld g (with_requests m requests) c b act now
  prepare_so c b ReadsBlock0 h = picks_so c b h
  prepare_so c b (WritesCurrent content) (h, read) = (picks_so c b h, read)
  prepare_so c b (WritesBackup content) (h, read, current) = (picks_so c b h, read, current)
  prepare_so c b (FlushesCopies content) (h, read, current, backup) = (picks_so c b h, read, current, backup)
  prepare_so c b WritesFirstLog h = h
  prepare_so c b FlushesFirstLog h = h

  commit_so : (again : Bool) (act : CommitAct) → CommitHeld g m again act now may → CommitHeld g (with_requests m requests) again act now may
  commit_so true FlushesAll h = h
  commit_so false FlushesAll h = h
  commit_so true ReadsCurrent h = h
  commit_so false ReadsCurrent h = h
  commit_so true (WritesBlock0 content) h = h
  commit_so false (WritesBlock0 content) h = h
  commit_so again FlushesDecision h = h

  batch_so : (b : Batch) (log : Generation) → ((w : ForWrite g m b.ticket) → request_of b.ticket requests ≡ Some w.write)
      → BatchHeld g m b now may log → BatchHeld g (with_requests m requests) b now may log
  batch_so b log waits h = record {
    phase = h.phase;
    for_write = let w = h.for_write in record { write = w.write; waits = waits w; extent = w.extent; payload = w.payload; op = w.op; passed = w.passed; left = w.left; not_0 = w.not_0; kept_back = w.kept_back };
    runs = h.runs;
    so_far = h.so_far;
    before = λ below. job_so log b.progress.job b.progress.done b.slots (h.before below);
    after = h.after;
  }

  hand_so : (hand : Hand) (log : Option Generation) → StillWaits g m requests hand → HandHeld g m hand now may log → HandHeld g (with_requests m requests) hand now may log
  hand_so Empty log waits h = tt
  hand_so (Batching b) None waits h = absurd h
  hand_so (Batching b) (Some log) waits h = batch_so b log waits h
  hand_so (Preparing t c b act) log waits h = (prepare_so c b act h.0, waits h.1)
  hand_so (Committing t again act) log waits h = (commit_so again act h.0, waits h.1)

  -- The requests change, and that of what is in hand still waits.
  pub standing_requests : (f : Flat) → Each IsRequest requests → OwnTickets requests → StillWaits g m requests m.hand → IsHeld g m now may f
      → IsHeld g (with_requests m requests) now may f
  standing_requests f each own waits s = stands_handed g now may f m requests m.hand refl each own (hand_so m.hand m.log waits s.in_hand) s

-- A request for which nothing is in hand is answered.
pub standing_without : (g : Geometry) (m : Memory) (t : Ticket) (now : Contents) (may : Candidates) (f : Flat) → NotInHand m.hand t
    → IsHeld g m now may f → IsHeld g (without_waiting m t) now may f
standing_without g m t now may f other s = standing_requests g m (without_request t m.requests) now may f (each_without t m.requests s.memory.requests) (own_without t m.requests s.memory.tickets) (waits_without g m t m.hand other) s

-- A request for which nothing is in hand goes on.
pub standing_with : (g : Geometry) (m : Memory) (r : Request) (now : Contents) (may : Candidates) (f : Flat) → NotInHand m.hand r.ticket → IsRequest r
    → IsHeld g m now may f → IsHeld g (with_requests m (with_request r m.requests)) now may f
standing_with g m r now may f other one s = standing_requests g m (with_request r m.requests) now may f (each_with r m.requests one s.memory.requests) (own_with r m.requests s.memory.tickets) (waits_with g m r m.hand other) s

-- A request of a new ticket is taken in.
pub standing_push : (g : Geometry) (m : Memory) (r : Request) (now : Contents) (may : Candidates) (f : Flat) → request_of r.ticket m.requests ≡ None
    → IsRequest r → IsHeld g m now may f → IsHeld g (with_requests m (m.requests ++ r ∷ [])) now may f
standing_push g m r now may f new one s = standing_requests g m (m.requests ++ r ∷ []) now may f (each_append IsRequest m.requests (r ∷ []) s.memory.requests (one, tt)) (own_push r m.requests new s.memory.tickets) (waits_push g m r m.hand) s

-- ----------------------------------------------------------------------------------------------------------------
-- Blocks that no log needs are written, freed or flushed.

-- a block of this kind may be written in place
abbrev pub IsOpen : Kind → Type 0
IsOpen kind = (kind ≡ Changed) ⊎ (kind ≡ Free)

-- each block keeps its kind, or is open before and after
abbrev pub OpenChange : Geometry → List Kind → List Kind → Type 0
OpenChange g old new = (x : ℕ) → x < g.blocks → (kind_at new x ≡ kind_at old x) ⊎ (IsOpen (kind_at old x) × IsOpen (kind_at new x))

pub open_change_same : (g : Geometry) (table : List Kind) → OpenChange g table table
open_change_same g table x on = inl refl

pub not_open : (k : Kind) → may_be_written k ≡ false → IsOpen k → ⊥
not_open Changed h is = absurd (grind arith)
not_open Free h is = absurd (grind arith)
not_open Sector0 h is = grind arith
not_open Current h is = grind arith
not_open Unchanged h is = grind arith
not_open Backup h is = grind arith
not_open Saved h is = grind arith

-- a block that is not open keeps its kind, and one that is not open afterwards had it
pub kept_kind : (g : Geometry) (old new : List Kind) (x : ℕ) (kind : Kind) → x < g.blocks → OpenChange g old new → (IsOpen kind → ⊥)
    → kind_at old x ≡ kind → kind_at new x ≡ kind
kept_kind g old new x kind on change closed is = elim (change x on) [ inl same ↦ same ∙ is | inr (was, now) ↦ absurd (closed (subst IsOpen is was)) ]

pub had_kind : (g : Geometry) (old new : List Kind) (x : ℕ) (kind : Kind) → x < g.blocks → OpenChange g old new → (IsOpen kind → ⊥)
    → kind_at new x ≡ kind → kind_at old x ≡ kind
had_kind g old new x kind on change closed is = elim (change x on) [ inl same ↦ sym same ∙ is | inr (was, now) ↦ absurd (closed (subst IsOpen is now)) ]

pub closed_current : IsOpen Current → ⊥
closed_current h = grind arith

pub closed_saved : IsOpen Saved → ⊥
closed_saved h = grind arith

pub closed_backup : IsOpen Backup → ⊥
closed_backup h = grind arith

pub closed_unchanged : IsOpen Unchanged → ⊥
closed_unchanged h = grind arith

-- A job before its log is ready over other open kinds.
module _ (g : Geometry) (old new : List Kind) (change : OpenChange g old new) (clean_old clean_new : Bool) (clean : clean_new ≡ clean_old) where
  pub job_in : (log : Generation) (job : Job) (done : ℕ) (slots : List (List ℕ)) → JobIsReady g old clean_old log job done slots → JobIsReady g new clean_new log job done slots
  job_in log jobs.Rewrite done slots h = clean ∙ h
  job_in log (jobs.Link dest) done slots (h, c) = (record { inside = h.inside; kind = kept_kind g old new dest Backup h.inside change closed_backup h.kind; full = h.full; buffer = h.buffer }, clean ∙ c)
  job_in log (jobs.Copy source dest count) done slots (h, c) = (
    record {
      some = h.some;
      few = h.few;
      not_full = h.not_full;
      source_inside = h.source_inside;
      dest_inside = h.dest_inside;
      sources = λ j below. let on : source + j < g.blocks = omega (arith, h.source_inside) in elim (h.sources j below) [
        | inl is ↦ inl (kept_kind g old new (source + j) Unchanged on change closed_unchanged is)
        | inr is ↦ inr (kept_kind g old new (source + j) Backup on change closed_backup is)
      ];
      dests = λ j below. kept_kind g old new (dest + j) Backup (omega (arith, h.dest_inside)) change closed_backup (h.dests j below);
      apart = h.apart;
      buffer = h.buffer;
    },
    clean ∙ c,
  )
  job_in log (jobs.Move from to) done slots (h, c) = (record { from_current = h.from_current; inside = h.inside; kind = kept_kind g old new to Backup h.inside change closed_backup h.kind; buffer = h.buffer }, clean ∙ c)

-- The log is so over kinds that differ at open blocks alone, where the room is exact.
pub log_open : (g : Geometry) (old new : List Kind) (clean : Bool) (trimmed picked more : ℕ) (log : Generation) → OpenChange g old new
    → count_of is_free new + 2 + log.sequence + count_of is_touched new + more ≡ trimmed → LogIsSound g old clean trimmed picked log → LogIsSound g new clean trimmed more log
log_open g old new clean trimmed picked more log change room k = record {
  own = k.own;
  generation = k.generation;
  fits = k.fits;
  current = kept_kind g old new log.current Current k.generation.current_inside change closed_current k.current;
  only_current = λ b on is. k.only_current b on (had_kind g old new b Current on change closed_current is);
  none_saved = λ is b on saved. k.none_saved is b on (had_kind g old new b Saved on change closed_saved saved);
  room = room;
  bounded = k.bounded;
}

-- In Checkpoint with a log, m becomes n with other open kinds: what is kept behind the log is given, and the rest follows.
pub kept_open : (g : Geometry) (m n : Memory) (now new_now : Contents) (may new_may : Candidates) (f e : Flat) (log : Generation)
    → OpenChange g m.kinds n.kinds → n.clean ≡ m.clean → Room n log → e.trimmed ≡ n.trimmed → n.trimmed ≡ m.trimmed
    → ((older : List Generation) (clean_log : Generation) (clean_older : List Generation) → Leaves g Checkpoint f (now log.current) (device_of m log older clean_log clean_older now may) → Leaves g Checkpoint e (new_now log.current) (device_of n log older clean_log clean_older new_now new_may))
    → ((b : ℕ) → b < g.blocks → IsHidden (kind_at n.kinds b) → (e.current b ≡ None) × (e.pending b ≡ None))
    → IsKept g m now may f Checkpoint log → IsKept g n new_now new_may e Checkpoint log
kept_open g m n now new_now may new_may f e log change same room trimmed at_prepare leaves hidden k = record {
  older = k.older;
  clean_log = k.clean_log;
  clean_older = k.clean_older;
  leaves = leaves k.older k.clean_log k.clean_older k.leaves;
  clean = λ is. let c = k.clean (sym same ∙ is) in record { log = c.log; older = c.older };
  arming = λ is. absurd (grind arith);
  sound = subst₂ (λ c t. LogIsSound g n.kinds c t (reserved n.hand).count log) (sym same) (sym at_prepare) (log_open g m.kinds n.kinds m.clean m.trimmed (reserved m.hand).count (reserved n.hand).count log change (room ∙ at_prepare) k.sound);
  hidden = hidden;
  trimmed = trimmed;
}

-- what is in hand needs these blocks as they are: those of its copies, block 0, and the current one where that is moved
pub record StillHeld (g : Geometry) (m : Memory) (log : Generation) (now new_now : Contents) (may new_may : Candidates) : Type 0 where
  pub copies : (x : ℕ) → x < g.blocks → (kind_at m.kinds x ≡ Unchanged) ⊎ (kind_at m.kinds x ≡ Backup) → new_now x ≡ now x
  pub zeroth : new_now 0 ≡ now 0
  pub moved : has_move m.hand ≡ true → new_now log.current ≡ now log.current
  pub durable : (x : ℕ) → x < g.blocks → kind_at m.kinds x ≡ Backup → may x ≡ now x ∷ [] → new_may x ≡ new_now x ∷ []

module _ (g : Geometry) (m n : Memory) (log : Generation) (now new_now : Contents) (may new_may : Candidates) (change : OpenChange g m.kinds n.kinds)
    (same : n.clean ≡ m.clean) (still : StillHeld g m log now new_now may new_may) (inside : log.current < g.blocks) where
  job_open : (job : Job) (done : ℕ) (slots : List (List ℕ)) → (is_move job ≡ true → has_move m.hand ≡ true) → JobHeld g m log job done slots now may
      → JobHeld g n log job done slots new_now new_may
  job_open jobs.Rewrite done slots moves h = tt
  job_open (jobs.Link dest) done slots moves (h, clean) =
      let r = (job_in g m.kinds n.kinds change m.clean n.clean same log (jobs.Link dest) done slots (h.ready, clean)) in
      (record { ready = r.0; wrote = λ some. still.copies dest h.ready.inside (inr h.ready.kind) ∙ h.wrote some; durable = λ some. still.durable dest h.ready.inside h.ready.kind (h.durable some) }, r.1)
  job_open (jobs.Copy source dest count) done slots moves (h, clean) =
      let r = (job_in g m.kinds n.kinds change m.clean n.clean same log (jobs.Copy source dest count) done slots (h.ready, clean)) in
      (record { ready = r.0; read = read; wrote = wrote; durable = durable }, r.1)
    where
      source_on : (j : ℕ) → j < count → source + j < g.blocks
      source_on j below = omega (arith, h.ready.source_inside)

      dest_on : (j : ℕ) → j < count → dest + j < g.blocks
      dest_on j below = omega (arith, h.ready.dest_inside)

      read : (j : ℕ) → j < length slots → new_now (source + j) ≡ slice_index_or slots j []
      read j below = let few : j < count = omega (arith, h.ready.buffer) in still.copies (source + j) (source_on j few) (h.ready.sources j few) ∙ h.read j below

      wrote : (j : ℕ) → j < count → count + j < done → new_now (dest + j) ≡ slice_index_or slots j []
      wrote j below past = still.copies (dest + j) (dest_on j below) (inr (h.ready.dests j below)) ∙ h.wrote j below past

      durable : 2 * count < done → (j : ℕ) → j < count → new_may (dest + j) ≡ new_now (dest + j) ∷ []
      durable past j below = still.durable (dest + j) (dest_on j below) (h.ready.dests j below) (h.durable past j below)
  job_open (jobs.Move from to) done slots moves (h, clean) =
      let r = (job_in g m.kinds n.kinds change m.clean n.clean same log (jobs.Move from to) done slots (h.ready, clean)) in
      let current : new_now from ≡ now from = subst (λ x. new_now x ≡ now x) (sym h.ready.from_current) (still.moved (moves refl)) in
      (record { ready = r.0; read = λ some. h.read some ∙ ap (λ v. v ∷ []) (sym current); wrote = λ some. still.copies to h.ready.inside (inr h.ready.kind) ∙ h.wrote some ∙ sym current; durable = λ some. still.durable to h.ready.inside h.ready.kind (h.durable some) }, r.1)

  -- the batch in hand is as it was
  batch_open : (b : Batch) → m.hand ≡ Batching b → n.phase ≡ m.phase
      → ((w : ForWrite g m b.ticket) → (request_of b.ticket n.requests ≡ Some w.write) × (w.extent.first + w.write.done < g.blocks))
      → BatchHeld g m b now may log → BatchHeld g n b new_now new_may log
  batch_open b in_hand phases waits h = record {
    phase = phases ∙ h.phase;
    for_write = let w = h.for_write in record {
      write = w.write;
      waits = (waits w).0;
      extent = w.extent;
      payload = w.payload;
      op = w.op;
      passed = subst (λ p. refusal g p w.write.op ≡ None) (sym phases) w.passed;
      left = w.left;
      not_0 = w.not_0;
      kept_back = elim (change (w.extent.first + w.write.done) (waits w).1) [ inl k ↦ ap may_be_written k ∙ w.kept_back | inr (was, is) ↦ absurd (not_open (kind_at m.kinds (w.extent.first + w.write.done)) w.kept_back was) ];
    };
    runs = h.runs;
    so_far = h.so_far;
    before = λ below. job_open b.progress.job b.progress.done b.slots (λ is. ap has_move in_hand ∙ is) (h.before below);
    after = λ is. (ap (log_in g) still.zeroth ∙ (h.after is).0, same ∙ (h.after is).1);
  }

  -- with no command in hand
  pub hand_open : (hand : Hand) → m.hand ≡ hand → has_command hand ≡ false → n.phase ≡ m.phase
      → ((b : Batch) (w : ForWrite g m b.ticket) → m.hand ≡ Batching b → (request_of b.ticket n.requests ≡ Some w.write) × (w.extent.first + w.write.done < g.blocks))
      → HandHeld g m hand now may (Some log) → HandHeld g n hand new_now new_may (Some log)
  hand_open Empty is command phases waits h = tt
  hand_open (Batching b) is command phases waits h = batch_open b is phases (λ w. waits b w is) h
  hand_open (Preparing t c b act) is command phases waits h = absurd (grind arith)
  hand_open (Committing t again act) is command phases waits h = absurd (grind arith)

-- with no command in hand, and in another phase than Checkpoint, nothing is in hand
pub hand_empty : (g : Geometry) (m : Memory) (hand : Hand) (now : Contents) (may : Candidates) (log : Option Generation) → has_command hand ≡ false
    → m.phase ≢ Checkpoint → HandHeld g m hand now may log → hand ≡ Empty
hand_empty g m Empty now may log command other h = refl
hand_empty g m (Batching b) now may None command other h = absurd h
hand_empty g m (Batching b) now may (Some log) command other h = absurd (other h.phase)
hand_empty g m (Preparing t c b act) now may log command other h = absurd (grind arith)
hand_empty g m (Committing t again act) now may log command other h = absurd (grind arith)
