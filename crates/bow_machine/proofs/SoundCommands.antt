-- Each act of a prepare or a commit, done or failed, keeps memory sound, and leaves less.
use Rattle.std.proofs.Common.{ℕ, ◌-◌, ◌<◌, ◌≡◌, ◌≢◌, ◌⊎◌, Bool, true, false, cond, List, [], ◌∷◌, length, Option, Some, None, arith, refl, sym, ap, ◌∙◌, subst, subst₂, inl, inr}
use Rattle.std.proofs.lemmas.Bool.{cases_eq, false≢true}
use Rattle.bow_units.specs.declared.sizes.Geometry.{Geometry}
use Rattle.bow_units.specs.declared.requests.Op.TheVariants.{Prepare, Commit}
use Rattle.bow_units.specs.declared.requests.Phase.{Phase}
use Rattle.bow_units.specs.declared.requests.Phase.TheVariants.{Committed, Trim, Arming, Checkpoint, Deciding}
use Rattle.bow_units.specs.declared.requests.Outcome.{Outcome}
use Rattle.bow_units.specs.declared.requests.Outcome.TheVariants as outcomes
use Rattle.bow_units.specs.declared.statuses.Kind.{Kind}
use Rattle.bow_units.specs.declared.statuses.Kind.TheVariants as kinds
use Rattle.bow_log.specs.Generations.{Generation}
use Rattle.bow_chain.specs.Contents.{Contents}
use Rattle.bow_flat.specs.Flat.{Event}
use Rattle.bow_flat.specs.Flat.Event.{Arms, Prepares}
use Rattle.bow_queue.specs.declared.tickets.Ticket.{Ticket}
use Rattle.bow_ranges.specs.Kinds.{kind_at}
use Rattle.bow_machine.specs.Requests.{Request, request_of}
use Rattle.bow_machine.specs.Memory.{Batching, Memory, Batch, Hand, Empty, Preparing, Committing, PrepareAct, ReadsBlock0, WritesCurrent, WritesBackup, FlushesCopies, WritesFirstLog, FlushesFirstLog, CommitAct, FlushesAll, ReadsCurrent, WritesBlock0, FlushesDecision, has_command, reserved}
use Rattle.bow_machine.specs.Calls.{Reply, Failed, Succeeded, Gave}
use Rattle.bow_machine.specs.Steps.{Step, moved, answered_for, armed, released, call_of_prepare, call_of_commit, commit_failed, deciding_events, committing_events, prepare_step, commit_step}
use Rattle.bow_machine.specs.MemoryIsSound.{is_touched, PicksHeld, FoundIn}
use Rattle.bow_machine.specs.MemoryIsSound.{LogIsHeld, PrepareIsSound, CommitIsSound, IsForCommand, HandIsSound, MemoryIsSound}
use Rattle.bow_machine.specs.MemoryLaws.{CanHave}
use Rattle.bow_machine.specs.Ends.{left_in, acts_left}
use Rattle.bow_machine.proofs.Less.{IsLess, fewer_acts}
use Rattle.bow_machine.proofs.Counts.{none_counted, two_taken, taken_c, taken_b, taken_other}
use Rattle.bow_machine.proofs.Tables.{kind_in, table_with}
use Rattle.bow_machine.specs.Ties.{IsNextOf, IsLeftOf, LogGoesOn, IsTouchedStill}
use Rattle.bow_machine.proofs.FirstLogs.{free, untouched, still_untouched, armed_log, armed_table}
use Rattle.bow_machine.proofs.SoundBatches.{same_log, same_is, WritesNow}

-- the batch in hand writes this log at its next act
abbrev pub WritesLog : Memory → Generation → Generation → Type 0
WritesLog m old new = (b : Batch) × (m.hand ≡ Batching b) × WritesNow b old new

-- What an act may leave of the kinds and the log, in this phase: what it saves and touches are next blocks of its write;
-- the log goes on, and is another only where the batch in hand writes it; what is touched stays so.
pub record LeavesSo (g : Geometry) (m : Memory) (phase : Phase) (table : List Kind) (log : Option Generation) : Type 0 where
  pub saved : (x : ℕ) → x < g.blocks → kind_at table x ≡ kinds.Saved → (kind_at m.kinds x ≡ kinds.Saved) ⊎ IsNextOf g m x
  pub touched : (x : ℕ) → x < g.blocks → is_touched (kind_at table x) ≡ true → (is_touched (kind_at m.kinds x) ≡ true) ⊎ IsLeftOf g m x
  pub goes_on : (old new : Generation) → m.log ≡ Some old → log ≡ Some new → LogGoesOn g m.kinds table old new
  pub written : (old new : Generation) → m.log ≡ Some old → log ≡ Some new → (new ≡ old) ⊎ WritesLog m old new
  pub stays : phase ≢ Committed → (x : ℕ) → x < g.blocks → is_touched (kind_at m.kinds x) ≡ true → IsTouchedStill (kind_at m.kinds x) (kind_at table x)

-- the kinds and the log are left as they are
pub leaves_same : (g : Geometry) (m : Memory) (phase : Phase) → LeavesSo g m phase m.kinds m.log
leaves_same g m phase = record {
  saved = λ x on is. inl is;
  touched = λ x on is. inl is;
  goes_on = same_log g m.kinds m.kinds m.log;
  written = λ old new was is. inl (same_is m.log old new was is);
  stays = λ going x on is. inl refl;
}

-- An act ends what was in hand: with nothing in hand, the request of this ticket is answered.
pub record ActEnds (g : Geometry) (m : Memory) (t : Ticket) (step : Step) : Type 0 where
  pub left : Memory
  pub outcome : Request → Outcome
  pub happens : Request → List Event
  pub is : step ≡ answered_for left (request_of t m.requests) outcome happens
  pub sound : MemoryIsSound g left
  pub empty : left.hand ≡ Empty
  pub requests : left.requests ≡ m.requests
  pub leaves : LeavesSo g m left.phase left.kinds left.log

-- An act goes on: less is left.
pub record ActGoes (g : Geometry) (m : Memory) (step : Step) : Type 0 where
  pub left : Memory
  pub happens : List Event
  pub is : step ≡ moved left happens
  pub sound : MemoryIsSound g left
  pub less : IsLess (left_in left) (left_in m)
  pub leaves : LeavesSo g m left.phase left.kinds left.log

-- The call failed: the request is answered with a fault.
pub record ActFails (g : Geometry) (m : Memory) (t : Ticket) (step : Step) : Type 0 where
  pub ends : ActEnds g m t step
  pub fault : (r : Request) → request_of t m.requests ≡ Some r → r.done ≡ 0 → ends.outcome r ≡ outcomes.DiskFault r.done

-- The call was done: it ends with Done, or goes on.
pub record ActAnswers (g : Geometry) (m : Memory) (t : Ticket) (step : Step) : Type 0 where
  pub ends : ActEnds g m t step
  pub done : (r : Request) → ends.outcome r ≡ outcomes.Done

abbrev pub ActIsDone : Geometry → Memory → Ticket → Step → Type 0
ActIsDone g m t step = ActAnswers g m t step ⊎ ActGoes g m step

-- ----------------------------------------------------------------------------------------------------------------

-- with another hand that has reserved as many, and nothing else
pub rehanded : (g : Geometry) (m : Memory) (hand : Hand) → (reserved hand).count ≡ (reserved m.hand).count → HandIsSound g (record m { hand = hand }) hand m.log → MemoryIsSound g m → MemoryIsSound g (record m { hand = hand })
rehanded g m hand same held s = record {
  sizes = s.sizes;
  table = s.table;
  few = s.few;
  requests = s.requests;
  rising = s.rising;
  log = subst (λ n. LogIsHeld g m.kinds m.clean m.trimmed n m.phase m.log) (sym same) s.log;
  in_hand = held;
}

-- ----------------------------------------------------------------------------------------------------------------
-- A prepare.

module _ (g : Geometry) (m : Memory) (t : Ticket) (c b : ℕ) (s : MemoryIsSound g m) where
  -- with a prepare in hand, nothing is reserved
  module _ (act : PrepareAct) (is : m.hand ≡ Preparing t c b act) where
    none : (reserved m.hand).count ≡ 0
    none = ap (λ (h : Hand). (reserved h).count) is

    prepare_held : PrepareIsSound g m c b act × IsForCommand m.requests t Prepare
    prepare_held = subst (λ h. HandIsSound g m h m.log) is s.in_hand

    pub prepare_fails : (now : Contents) → ActFails g m t (prepare_step now m t c b act Failed)
    prepare_fails now = record {
      ends = record { left = record m { hand = Empty }; outcome = λ r. outcomes.DiskFault 0; happens = λ r. []; is = refl; sound = rehanded g m Empty (sym none) tt s; empty = refl; requests = refl; leaves = leaves_same g m m.phase };
      fault = λ r found zeroth. ap outcomes.DiskFault (sym zeroth);
    }

    -- the next act, with nothing else changed
    prepare_goes : (now : Contents) (reply : Reply) (next : PrepareAct) → prepare_step now m t c b act reply ≡ moved (record m { hand = Preparing t c b next }) []
        → PrepareIsSound g (record m { hand = Preparing t c b next }) c b next → acts_left (Preparing t c b next) m.clean < acts_left (Preparing t c b act) m.clean → ActGoes g m (prepare_step now m t c b act reply)
    prepare_goes now reply next same held acts = record {
      left = record m { hand = Preparing t c b next };
      happens = [];
      is = same;
      sound = rehanded g m (Preparing t c b next) (sym none) (held, prepare_held.1) s;
      less = fewer_acts m (record m { hand = Preparing t c b next }) (Preparing t c b act) is refl refl refl acts;
      leaves = leaves_same g m m.phase;
    }

  picks_again : (act : PrepareAct) → PicksHeld g m c b → PicksHeld g (record m { hand = Preparing t c b act }) c b
  picks_again act p = record { phase = p.phase; apart = p.apart; c_inside = p.c_inside; b_inside = p.b_inside; c_free = p.c_free; b_free = p.b_free }

  -- The copies of block 0 are durable: the phase is Arming, and the first log is in memory.
  module _ (v : List ℕ) (is : m.hand ≡ Preparing t c b (FlushesCopies v)) where
    p : PicksHeld g m c b
    p = (prepare_held (FlushesCopies v) is).0.0

    abbrev new : List Kind
    new = two_taken m.kinds c b

    trimmed : (x : ℕ) → 0 < x → x < g.blocks → (kind_at m.kinds x ≡ kinds.Free) ⊎ (kind_at m.kinds x ≡ kinds.Unchanged)
    trimmed = go m.log (subst (λ q. LogIsHeld g m.kinds m.clean m.trimmed (reserved m.hand).count q m.log) p.phase s.log)
      where
        go : (l : Option Generation) → LogIsHeld g m.kinds m.clean m.trimmed (reserved m.hand).count Trim l → (x : ℕ) → 0 < x → x < g.blocks → (kind_at m.kinds x ≡ kinds.Free) ⊎ (kind_at m.kinds x ≡ kinds.Unchanged)
        go None k = k
        go (Some l) k = absurd k

    c_long : c < length m.kinds
    c_long = omega (arith, p.c_inside, s.table.size)

    b_long : b < length m.kinds
    b_long = omega (arith, p.b_inside, s.table.size)

    armed_sound : MemoryIsSound g (armed m t c b v)
    armed_sound = record {
      sizes = s.sizes;
      table = armed_table g m c b s.sizes s.table trimmed p;
      few = s.few;
      requests = s.requests;
      rising = s.rising;
      log = (armed_log g m c b s.sizes s.table trimmed p v, refl, still_untouched g m c b s.sizes s.table trimmed p);
      in_hand = (refl, (prepare_held (FlushesCopies v) is).1);
    }

    prepare_arms : (now : Contents) → ActGoes g m (prepare_step now m t c b (FlushesCopies v) Succeeded)
    prepare_arms now = record {
      left = armed m t c b v;
      happens = Arms now ∷ [];
      is = refl;
      sound = armed_sound;
      less =
          let one : Hand → ℕ = λ h. cond (has_command h) 1 0 in
          let mine = ap one is in
          inr (refl, inr (omega (arith, mine), inl (omega (arith, free g m c b s.sizes s.table trimmed p))));
      leaves = record {
        saved = λ x on is. elim (cases_eq x c) [
          | inl at_c ↦ absurd (let clash : kinds.Current ≡ kinds.Saved = sym (taken_c m.kinds c b c_long b_long p.apart p.c_free p.b_free) ∙ ap (kind_at new) (sym at_c) ∙ is in grind arith)
          | inr not_c ↦ elim (cases_eq x b) [
            | inl at_b ↦ absurd (let clash : kinds.Backup ≡ kinds.Saved = sym (taken_b m.kinds c b c_long b_long p.apart p.c_free p.b_free) ∙ ap (kind_at new) (sym at_b) ∙ is in grind arith)
            | inr not_b ↦ inl (sym (taken_other m.kinds c b c_long b_long p.apart p.c_free p.b_free x not_c not_b) ∙ is)
          ]
        ];
        touched = λ x on is. elim (cases_eq x c) [
          | inl at_c ↦ absurd (false≢true (ap is_touched (sym (taken_c m.kinds c b c_long b_long p.apart p.c_free p.b_free)) ∙ ap (λ y. is_touched (kind_at new y)) (sym at_c) ∙ is))
          | inr not_c ↦ elim (cases_eq x b) [
            | inl at_b ↦ absurd (false≢true (ap is_touched (sym (taken_b m.kinds c b c_long b_long p.apart p.c_free p.b_free)) ∙ ap (λ y. is_touched (kind_at new y)) (sym at_b) ∙ is))
            | inr not_b ↦ inl (ap is_touched (sym (taken_other m.kinds c b c_long b_long p.apart p.c_free p.b_free x not_c not_b)) ∙ is)
          ]
        ];
        goes_on = λ old new was is. absurd (subst₂ (λ q l. LogIsHeld g m.kinds m.clean m.trimmed (reserved m.hand).count q l) p.phase was s.log);
        written = λ old new was is. absurd (subst₂ (λ q l. LogIsHeld g m.kinds m.clean m.trimmed (reserved m.hand).count q l) p.phase was s.log);
        stays = λ going x on is. absurd (false≢true (sym (none_counted is_touched m.kinds x (untouched g m c b s.sizes s.table trimmed p) (omega (arith, on, s.table.size))) ∙ is));
      };
    }

  -- the checkpoint begins
  prepare_ends : (is : m.hand ≡ Preparing t c b FlushesFirstLog) (now : Contents) → ActAnswers g m t (prepare_step now m t c b FlushesFirstLog Succeeded)
  prepare_ends is now = record {
    ends = record {
      left = record m { phase = Checkpoint; hand = Empty; clean = true };
      outcome = λ r. outcomes.Done;
      happens = λ r. Prepares ∷ [];
      is = refl;
      sound = record {
        sizes = s.sizes;
        table = s.table;
        few = s.few;
        requests = s.requests;
        rising = s.rising;
        log = subst (λ n. LogIsHeld g m.kinds true m.trimmed n Checkpoint m.log) (none FlushesFirstLog is) (begins m.log (subst (λ q. LogIsHeld g m.kinds m.clean m.trimmed (reserved m.hand).count q m.log) (prepare_held FlushesFirstLog is).0 s.log));
        in_hand = tt;
      };
      empty = refl;
      requests = refl;
      leaves = leaves_same g m Checkpoint;
    };
    done = λ r. refl;
  }
    where
      begins : (l : Option Generation) → LogIsHeld g m.kinds m.clean m.trimmed (reserved m.hand).count Arming l → LogIsHeld g m.kinds true m.trimmed (reserved m.hand).count Checkpoint l
      begins None k = absurd k
      begins (Some log) k = record {
        own = k.0.own;
        generation = k.0.generation;
        fits = k.0.fits;
        current = k.0.current;
        only_current = k.0.only_current;
        none_saved = λ clean x on saved.
            let no : is_touched (kind_at m.kinds x) ≡ false = none_counted is_touched m.kinds x k.2 (omega (arith, on, s.table.size)) in
            absurd (let clash : true ≡ false = ap is_touched (sym saved) ∙ no in grind arith);
        room = k.0.room;
        bounded = k.0.bounded;
      }

  -- An act of a prepare that was done.
  pub prepare_done : (act : PrepareAct) (is : m.hand ≡ Preparing t c b act) (now : Contents) (reply : Reply) → CanHave g (call_of_prepare g m c b act) reply → reply ≢ Failed → ActIsDone g m t (prepare_step now m t c b act reply)
  prepare_done act is now Failed can ok = absurd (ok refl)
  prepare_done ReadsBlock0 is now Succeeded can ok = absurd can
  prepare_done ReadsBlock0 is now (Gave v) can ok = inr (prepare_goes ReadsBlock0 is now (Gave v) (WritesCurrent v) refl (picks_again (WritesCurrent v) (prepare_held ReadsBlock0 is).0, can) (omega arith))
  prepare_done (WritesCurrent v) is now Succeeded can ok = let h = (prepare_held (WritesCurrent v) is).0 in inr (prepare_goes (WritesCurrent v) is now Succeeded (WritesBackup v) refl (picks_again (WritesBackup v) h.0, h.1) (omega arith))
  prepare_done (WritesCurrent v) is now (Gave w) can ok = absurd can
  prepare_done (WritesBackup v) is now Succeeded can ok = let h = (prepare_held (WritesBackup v) is).0 in inr (prepare_goes (WritesBackup v) is now Succeeded (FlushesCopies v) refl (picks_again (FlushesCopies v) h.0, h.1) (omega arith))
  prepare_done (WritesBackup v) is now (Gave w) can ok = absurd can
  prepare_done (FlushesCopies v) is now Succeeded can ok = inr (prepare_arms v is now)
  prepare_done (FlushesCopies v) is now (Gave w) can ok = absurd can
  prepare_done WritesFirstLog is now Succeeded can ok = inr (prepare_goes WritesFirstLog is now Succeeded FlushesFirstLog refl (prepare_held WritesFirstLog is).0 (omega arith))
  prepare_done WritesFirstLog is now (Gave w) can ok = absurd can
  prepare_done FlushesFirstLog is now Succeeded can ok = inl (prepare_ends is now)
  prepare_done FlushesFirstLog is now (Gave w) can ok = absurd can

-- ----------------------------------------------------------------------------------------------------------------
-- A commit.

module _ (g : Geometry) (m : Memory) (t : Ticket) (again : Bool) (s : MemoryIsSound g m) where
  module _ (act : CommitAct) (is : m.hand ≡ Committing t again act) where
    commit_none : (reserved m.hand).count ≡ 0
    commit_none = ap (λ (h : Hand). (reserved h).count) is

    commit_held : CommitIsSound g m again act × IsForCommand m.requests t Commit
    commit_held = subst (λ h. HandIsSound g m h m.log) is s.in_hand

    -- the next act, with nothing else changed
    commit_goes : (reply : Reply) (next : CommitAct) → commit_step m t again act reply ≡ moved (record m { hand = Committing t again next }) []
        → CommitIsSound g (record m { hand = Committing t again next }) again next → acts_left (Committing t again next) m.clean < acts_left (Committing t again act) m.clean → ActGoes g m (commit_step m t again act reply)
    commit_goes reply next same held acts = record {
      left = record m { hand = Committing t again next };
      happens = [];
      is = same;
      sound = rehanded g m (Committing t again next) (sym commit_none) (held, commit_held.1) s;
      less = fewer_acts m (record m { hand = Committing t again next }) (Committing t again act) is refl refl refl acts;
      leaves = leaves_same g m m.phase;
    }

  found_again : (hand : Hand) (found : Bool) → FoundIn m found → FoundIn (record m { hand = hand }) found
  found_again hand true h = h
  found_again hand false h = h

  -- In Deciding the log is held as in Checkpoint.
  decided : (found : Bool) → FoundIn m found → LogIsHeld g m.kinds m.clean m.trimmed (reserved m.hand).count Deciding m.log
  decided true h = subst (λ q. LogIsHeld g m.kinds m.clean m.trimmed (reserved m.hand).count q m.log) h s.log
  decided false h = go m.log (subst (λ q. LogIsHeld g m.kinds m.clean m.trimmed (reserved m.hand).count q m.log) h s.log)
    where
      go : (l : Option Generation) → LogIsHeld g m.kinds m.clean m.trimmed (reserved m.hand).count Checkpoint l → LogIsHeld g m.kinds m.clean m.trimmed (reserved m.hand).count Deciding l
      go None k = absurd k
      go (Some log) k = k

  deciding_sound : (v : List ℕ) (is : m.hand ≡ Committing t again (WritesBlock0 v)) (hand : Hand) → (reserved hand).count ≡ 0 → HandIsSound g (record m { phase = Deciding; hand = hand }) hand m.log
      → MemoryIsSound g (record m { phase = Deciding; hand = hand })
  deciding_sound v is hand nothing held = record {
    sizes = s.sizes;
    table = s.table;
    few = s.few;
    requests = s.requests;
    rising = s.rising;
    log = subst (λ n. LogIsHeld g m.kinds m.clean m.trimmed n Deciding m.log) (commit_none (WritesBlock0 v) is ∙ sym nothing) (decided again (commit_held (WritesBlock0 v) is).0.0);
    in_hand = held;
  }

  pub commit_fails : (act : CommitAct) (is : m.hand ≡ Committing t again act) → ActFails g m t (commit_step m t again act Failed)
  commit_fails act is = record {
    ends = record { left = commit_failed m act; outcome = λ r. outcomes.DiskFault 0; happens = λ r. deciding_events again act; is = refl; sound = left_sound act is; empty = left_empty act; requests = left_requests act; leaves = left_same act };
    fault = λ r found zeroth. ap outcomes.DiskFault (sym zeroth);
  }
    where
      left_sound : (act : CommitAct) → m.hand ≡ Committing t again act → MemoryIsSound g (commit_failed m act)
      left_sound FlushesAll is = rehanded g m Empty (sym (commit_none FlushesAll is)) tt s
      left_sound ReadsCurrent is = rehanded g m Empty (sym (commit_none ReadsCurrent is)) tt s
      left_sound (WritesBlock0 v) is = deciding_sound v is Empty refl tt
      left_sound FlushesDecision is = rehanded g m Empty (sym (commit_none FlushesDecision is)) tt s

      left_empty : (act : CommitAct) → (commit_failed m act).hand ≡ Empty
      left_empty FlushesAll = refl
      left_empty ReadsCurrent = refl
      left_empty (WritesBlock0 v) = refl
      left_empty FlushesDecision = refl

      left_requests : (act : CommitAct) → (commit_failed m act).requests ≡ m.requests
      left_requests FlushesAll = refl
      left_requests ReadsCurrent = refl
      left_requests (WritesBlock0 v) = refl
      left_requests FlushesDecision = refl

      left_same : (act : CommitAct) → LeavesSo g m (commit_failed m act).phase (commit_failed m act).kinds (commit_failed m act).log
      left_same FlushesAll = leaves_same g m m.phase
      left_same ReadsCurrent = leaves_same g m m.phase
      left_same (WritesBlock0 v) = leaves_same g m Deciding
      left_same FlushesDecision = leaves_same g m m.phase

  released_sound : MemoryIsSound g (released m)
  released_sound = record {
    sizes = s.sizes;
    table = table_with g m.kinds (record { first = 1; count = length m.kinds - 1 }) kinds.Unchanged (λ e. absurd (grind arith)) (omega (arith, s.table.size, s.sizes.enough)) (inl (omega arith)) s.table;
    few = s.few;
    requests = s.requests;
    rising = s.rising;
    log = λ x above on. kind_in m.kinds (record { first = 1; count = length m.kinds - 1 }) kinds.Unchanged x (omega (arith, s.table.size, s.sizes.enough)) (omega (arith, above)) (omega (arith, s.table.size, on));
    in_hand = tt;
  }

  -- no block that is released is touched
  released_untouched : (x : ℕ) → x < g.blocks → is_touched (kind_at (released m).kinds x) ≡ false
  released_untouched x on = elim (cases_eq x 0) [
    | inl zeroth ↦ let r : MemoryIsSound g (released m) = released_sound in ap (λ y. is_touched (kind_at (released m).kinds y)) zeroth ∙ ap is_touched r.table.zeroth
    | inr above ↦ ap is_touched (kind_in m.kinds (record { first = 1; count = length m.kinds - 1 }) kinds.Unchanged x (omega (arith, s.table.size, s.sizes.enough)) (omega (arith, above)) (omega (arith, s.table.size, on)))
  ]

  -- An act of a commit that was done.
  pub commit_done : (act : CommitAct) (is : m.hand ≡ Committing t again act) (reply : Reply) → CanHave g (call_of_commit m act) reply → reply ≢ Failed → ActIsDone g m t (commit_step m t again act reply)
  commit_done act is Failed can ok = absurd (ok refl)
  commit_done FlushesAll is Succeeded can ok = inr (commit_goes FlushesAll is Succeeded ReadsCurrent (no_events FlushesAll refl) (found_again (Committing t again ReadsCurrent) again (commit_held FlushesAll is).0) (omega arith))
    where
      no_events : (act : CommitAct) → act ≡ FlushesAll → commit_step m t again FlushesAll Succeeded ≡ moved (record m { hand = Committing t again ReadsCurrent }) []
      no_events act e = events again
        where
          events : (found : Bool) → moved (record m { hand = Committing t again ReadsCurrent }) (deciding_events found FlushesAll) ≡ moved (record m { hand = Committing t again ReadsCurrent }) []
          events true = refl
          events false = refl
  commit_done FlushesAll is (Gave w) can ok = absurd can
  commit_done ReadsCurrent is Succeeded can ok = absurd can
  commit_done ReadsCurrent is (Gave v) can ok = inr (commit_goes ReadsCurrent is (Gave v) (WritesBlock0 v) (events again) (found_again (Committing t again (WritesBlock0 v)) again (commit_held ReadsCurrent is).0, can) (omega arith))
    where
      events : (found : Bool) → moved (record m { hand = Committing t again (WritesBlock0 v) }) (deciding_events found ReadsCurrent) ≡ moved (record m { hand = Committing t again (WritesBlock0 v) }) []
      events true = refl
      events false = refl
  commit_done (WritesBlock0 v) is Succeeded can ok = inr (record {
    left = record m { phase = Deciding; hand = Committing t again FlushesDecision };
    happens = deciding_events again (WritesBlock0 v);
    is = refl;
    sound = deciding_sound v is (Committing t again FlushesDecision) refl (refl, (commit_held (WritesBlock0 v) is).1);
    less = fewer_acts m (record m { phase = Deciding; hand = Committing t again FlushesDecision }) (Committing t again (WritesBlock0 v)) is refl refl refl (omega arith);
    leaves = leaves_same g m Deciding;
  })
  commit_done (WritesBlock0 v) is (Gave w) can ok = absurd can
  commit_done FlushesDecision is Succeeded can ok = inl (record {
    ends = record { left = released m; outcome = λ r. outcomes.Done; happens = λ r. committing_events again; is = refl; sound = released_sound; empty = refl; requests = refl; leaves = record { saved = λ x on is. absurd (false≢true (sym (released_untouched x on) ∙ ap is_touched is)); touched = λ x on is. absurd (false≢true (sym (released_untouched x on) ∙ is)); goes_on = λ old new was is. absurd (grind arith); written = λ old new was is. absurd (grind arith); stays = λ going x on is. absurd (going refl) } };
    done = λ r. refl;
  })
  commit_done FlushesDecision is (Gave w) can ok = absurd can
