-- The head, and the blocks that are picked for its batch.
use Rattle.std.proofs.Common.{ℕ, ◌+◌, ◌-◌, ◌<◌, ◌≤◌, ◌≡◌, ◌≢◌, ◌==◌, ◌&&◌, Bool, true, false, cond, List, [], length, Option, Some, None, arith, refl, sym, ap, ◌∙◌, inl, inr}
use Rattle.std.proofs.lemmas.Bool.{and_parts, or_parts, and_cases, eqb-false, ltb-true, leb-true, not-true, false≢true}
use Rattle.std.specs.Prelude.{MatchOption, is_none}
use Rattle.bow_units.specs.declared.sizes.Geometry.{Geometry}
use Rattle.bow_units.specs.declared.sizes.Extent.{Extent}
use Rattle.bow_units.specs.declared.requests.Op.{Op}
use Rattle.bow_units.specs.declared.requests.Op.TheVariants.{Read, Write, Discard, Flush, Prepare, Commit}
use Rattle.bow_units.specs.declared.requests.Outcome.{Outcome}
use Rattle.bow_units.specs.declared.requests.Outcome.TheVariants as outcomes
use Rattle.bow_units.specs.declared.requests.Phase.TheVariants.{Checkpoint}
use Rattle.bow_units.specs.declared.statuses.Kind.{Kind}
use Rattle.bow_units.specs.declared.statuses.Kind.TheVariants.{Free, Backup}
use Rattle.bow_flat.specs.Flat.{Flat}
use Rattle.bow_log.specs.Generations.{Generation}
use Rattle.bow_chain.specs.Contents.{Contents}
use Rattle.bow_guard.specs.Cuts.{Candidates}
use Rattle.bow_queue.specs.Extents.{is_on_device}
use Rattle.bow_ranges.specs.Kinds.{kind_at, with_kind, is_free, count_of}
use Rattle.bow_ranges.specs.Picks.{picked, IsPicked}
use Rattle.bow_ranges.proofs.PickLaws.{picked_is}
use Rattle.bow_machine.specs.Requests.{Request, request_of, refusal}
use Rattle.bow_machine.specs.Memory.{Memory, Batch, Hand, Empty, Batching, may_be_written}
use Rattle.bow_machine.specs.Calls.{Reply, DoesIt}
use Rattle.bow_machine.specs.Tasks.{Task, needs_worker, head, on_picked}
use Rattle.bow_machine.specs.Steps.{call_of, step_of, answered}
use Rattle.bow_machine.specs.MemoryIsSound.{ForWrite}
use Rattle.bow_machine.proofs.Held.{OwnTickets, IsHeld}
use Rattle.bow_machine.proofs.RequestLists.{find_passes}
use Rattle.bow_machine.proofs.Tickets.{found_own}
use Rattle.bow_machine.proofs.Tables.{holds_cases, kind_out}
use Rattle.bow_machine.proofs.Hands.{answered_stands, Keeps}
use Rattle.bow_machine.proofs.BatchStands.{working, Working, to_standing}
use Rattle.bow_machine.proofs.BatchAnswers.{keeps_same}
use Rattle.bow_machine.proofs.Batches.{batch_keeps}

-- the head: a write that passed the tests, and whose next block needs the worker
pub record IsHead (g : Geometry) (m : Memory) (r : Request) (e : Extent) (p : List ℕ) : Type 0 where
  pub op : r.op ≡ Write e p
  pub waits : request_of r.ticket m.requests ≡ Some r
  pub passed : refusal g Checkpoint (Write e p) ≡ None
  pub inside : e.first + e.count ≤ g.blocks
  pub left : r.done < e.count
  pub not_0 : e.first + r.done ≢ 0
  pub kept_back : may_be_written (kind_at m.kinds (e.first + r.done)) ≡ false

pub passes : {A : Type 0} (o : Option A) → is_none o ≡ true → o ≡ None
passes None is = refl
passes (Some x) is = absurd (false≢true is)

on_device : (t : Bool) (o : Option Outcome) → cond t o (Some outcomes.OutOfRange) ≡ None → t ≡ true
on_device true o is = refl
on_device false o is = absurd (grind arith)

not_zeroth : (b : ℕ) → (b == 0 && true) ≡ false → b ≢ 0
not_zeroth b is z = elim (and_cases (b == 0) true is) [ inl unequal ↦ eqb-false b 0 unequal z | inr never ↦ false≢true (sym never) ]

module _ (g : Geometry) (m : Memory) (log : Generation) where
  write_needs : (r : Request) (e : Extent) (p : List ℕ) → r.op ≡ Write e p → request_of r.ticket m.requests ≡ Some r
      → needs_worker g (working m Empty log) r (Write e p) ≡ true → IsHead g m r e p
  write_needs r e p op waits needs =
      let parts = and_parts _ _ needs in
      let direct = or_parts _ _ (not-true _ parts.1) in
      let before = and_parts _ _ parts.0 in
      let first = and_parts _ _ before.0 in
      let passed : refusal g Checkpoint (Write e p) ≡ None = passes (refusal g Checkpoint (Write e p)) first.0 in
      record {
        op = op;
        waits = waits;
        passed = passed;
        inside = leb-true (e.first + e.count) g.blocks (on_device (is_on_device g.blocks e) _ passed);
        left = ltb-true r.done e.count before.1;
        not_0 = not_zeroth (e.first + r.done) direct.1;
        kept_back = direct.0;
      }

  -- what is found as the head is one
  pub head_is : (r : Request) → OwnTickets m.requests → head g (working m Empty log) ≡ Some r
      → (e : Extent) × (p : List ℕ) × IsHead g m r e p
  head_is r own found = go r.op refl (find_passes (λ r. needs_worker g (working m Empty log) r r.op) m.requests r found)
    where
      waits : request_of r.ticket m.requests ≡ Some r
      waits = found_own (λ r. needs_worker g (working m Empty log) r r.op) m.requests r own found

      go : (op : Op) → r.op ≡ op → needs_worker g (working m Empty log) r op ≡ true
          → (e : Extent) × (p : List ℕ) × IsHead g m r e p
      go (Write e p) is needs = (e, p, write_needs r e p is waits needs)
      go (Read e p) is needs = absurd (false≢true needs)
      go (Discard e) is needs = absurd (false≢true needs)
      go Flush is needs = absurd (false≢true needs)
      go Prepare is needs = absurd (false≢true needs)
      go Commit is needs = absurd (false≢true needs)

  -- a batch that is formed for it is for a write that waits
  pub for_head : (hand : Hand) (kinds : List Kind) (r : Request) (e : Extent) (p : List ℕ) → IsHead g m r e p
      → kind_at kinds (e.first + r.done) ≡ kind_at m.kinds (e.first + r.done)
      → ForWrite g (working (record m { kinds = kinds }) hand log) r.ticket
  for_head hand kinds r e p h same = record {
    write = r;
    waits = h.waits;
    extent = e;
    payload = p;
    op = h.op;
    passed = ap (refusal g Checkpoint) h.op ∙ h.passed;
    left = h.left;
    not_0 = h.not_0;
    kept_back = ap may_be_written same ∙ h.kept_back;
  }

-- ----------------------------------------------------------------------------------------------------------------
-- What is picked.

-- the picked blocks are on the device and free
pub record IsFreeRun (g : Geometry) (kinds : List Kind) (e : Extent) : Type 0 where
  pub some : 1 ≤ e.count
  pub inside : e.first + e.count ≤ g.blocks
  pub free : (j : ℕ) → j < e.count → kind_at kinds (e.first + j) ≡ Free

pub free_run : (g : Geometry) (kinds : List Kind) (want : ℕ) (e : Extent) → length kinds ≡ g.blocks
    → IsPicked kinds want e → IsFreeRun g kinds e
free_run g kinds want e size p = record {
  some = omega (arith, p.some);
  inside = omega (arith, p.is_run.inside, p.first, p.within, size);
  free = λ j below. p.is_run.alike (e.first + j) (omega (arith, p.first)) (omega (arith, p.first, p.within, below)) ∙ p.free;
}

-- a block that has to be kept back is none of them
pub not_picked : (g : Geometry) (kinds : List Kind) (e : Extent) (b : ℕ) → length kinds ≡ g.blocks → IsFreeRun g kinds e
    → kind_at kinds b ≢ Free → kind_at (with_kind kinds e Backup) b ≡ kind_at kinds b
not_picked g kinds e b size p ne = elim (holds_cases e b) [
  | inl (low, high, held) ↦ let there : e.first + (b - e.first) ≡ b = omega arith in absurd (ne (ap (kind_at kinds) (sym there) ∙ p.free (b - e.first) (omega arith)))
  | inr (out, held) ↦ kind_out kinds e Backup b (omega (arith, p.inside, size)) out
]

pub kept_not_free : (k : Kind) → may_be_written k ≡ false → k ≢ Free
kept_not_free k held is = grind arith

module _ (g : Geometry) (m : Memory) (log : Generation) (f : Flat) (now new_now : Contents) (may new_may : Candidates)
    (reply : Reply) where
  -- the step of a task keeps what the machine stands for
  abbrev pub TaskKeeps : Task → Type 0
  TaskKeeps task = DoesIt g (call_of g (working m Empty log) task) reply now may new_now new_may → Keeps g new_now new_may f (step_of g now (working m Empty log) task reply)

  pub on_picked_keeps : (r : Request) (batch : Extent → Batch) (want : ℕ) → 1 ≤ want → Working g m Empty log now may f
      → ((e : Extent) → IsPicked m.kinds want e → IsHeld g (working (record m { kinds = with_kind m.kinds e Backup }) (Batching (batch e)) log) now may f)
      → TaskKeeps (on_picked (working m Empty log) r batch (picked m.kinds want))
  on_picked_keeps r batch want some w stands = go (picked m.kinds want) (picked_is m.kinds want some)
    where
      go : (o : Option Extent) → MatchOption o (count_of is_free m.kinds ≡ 0) (IsPicked m.kinds want)
          → TaskKeeps (on_picked (working m Empty log) r batch o)
      go None none does =
          keeps_same g now new_now may new_may f (answered (working m Empty log) r (outcomes.NoSpace r.done) []) does.0 does.1
          (tt, answered_stands g now may f (working m Empty log) r.ticket (to_standing g m Empty log now may f w tt))
      go (Some e) is does =
          batch_keeps g (record m { kinds = with_kind m.kinds e Backup }) log f now new_now may new_may reply (batch e)
          (stands e is) does
