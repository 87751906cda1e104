-- Where a request waits some turn is ready.
use Rattle.std.proofs.Common.{ℕ, ◌+◌, ◌<◌, ◌≤◌, ◌≡◌, ◌≢◌, ◌==◌, ◌||◌, nat_lt, Bool, true, false, not, cond, List, [], ◌∷◌, Option, Some, None, arith, refl, sym, ap, ◌∙◌, subst, inl, inr}
use Rattle.std.proofs.lemmas.Bool.{cases_Bool}
use Rattle.std.specs.Prelude.{find, is_none}
use Rattle.std.specs.List.{AllByRecursion as Each}
use Rattle.std.specs.Option.{option_map, option_and_then}
use Rattle.bow_units.specs.declared.sizes.Geometry.{Geometry}
use Rattle.bow_units.specs.declared.sizes.Extent.{Extent}
use Rattle.bow_units.specs.declared.requests.Op.{Op}
use Rattle.bow_units.specs.declared.requests.Op.TheVariants.{Read, Write, Discard, Flush, Prepare, Commit}
use Rattle.bow_units.specs.declared.requests.Phase.{Phase}
use Rattle.bow_units.specs.declared.requests.Phase.TheVariants.{Trim, Arming, Checkpoint, Deciding, Committed}
use Rattle.bow_units.specs.declared.requests.Outcome.{Outcome}
use Rattle.bow_queue.specs.Requests.{written, is_command, is_earlier_overlap, first_ticket, waits_on, op_of}
use Rattle.bow_machine.specs.Requests.{Request, request_of, refusal}
use Rattle.bow_machine.specs.Memory.{Memory, Hand, Empty, Batching, Preparing, Committing, has_command, is_direct}
use Rattle.bow_machine.specs.Tasks.{Turn, Map, Worker, Command, is_waiting, needs_worker, head, first_of}
use Rattle.bow_machine.specs.Ready.{is_ready_for, is_map_ready, is_worker_ready, is_command_ready, is_ready}
use Rattle.bow_machine.specs.MemoryIsSound.{IsWaiting, Rising, MemoryIsSound}
use Rattle.bow_machine.specs.Steps.{extent_of}
use Rattle.bow_machine.specs.Ends.{SomeTurnIsReady}
use Rattle.bow_machine.proofs.RequestLists.{same_itself}
use Rattle.bow_machine.proofs.MappedTests.{write_inside, settled_phase}
use Rattle.bow_machine.proofs.MappedTurn.{less}

is_below : (a b : ℕ) → a < b → nat_lt a b ≡ true
is_below a b h = grind arith

-- no request of a serial number as high, or higher, is an earlier one
none_earlier : (serial : ℕ) (extent : Extent) (requests : List Request) → Each (λ q. serial ≤ q.ticket.serial) requests → find (is_earlier_overlap serial extent) requests ≡ None
none_earlier serial extent [] each = refl
none_earlier serial extent (q ∷ qs) each =
    let later : nat_lt q.ticket.serial serial ≡ false = let h = each.0 in grind arith in
    rw later (none_earlier serial extent qs each.1)

each_later : (serial : ℕ) (requests : List Request) → Each (λ q. serial < q.ticket.serial) requests → Each (λ q. serial ≤ q.ticket.serial) requests
each_later serial [] each = tt
each_later serial (q ∷ qs) each = (let h = each.0 in omega arith, each_later serial qs each.1)

then_none : {A B : Type 0} (f : A → Option B) (o : Option A) → ((a : A) → f a ≡ None) → option_and_then f o ≡ None
then_none f None none = refl
then_none f (Some a) none = none a

-- the first request waits on none
first_free : (m : Memory) (r : Request) (rest : List Request) → m.requests ≡ r ∷ rest → Each (λ q. r.ticket.serial < q.ticket.serial) rest → is_waiting m r ≡ false
first_free m r rest is above =
    let each : Each (λ q. r.ticket.serial ≤ q.ticket.serial) (r ∷ rest) = (omega arith, each_later r.ticket.serial rest above) in
    let later : Each (λ q. r.ticket.serial ≤ q.ticket.serial) m.requests = subst (λ (rs : List Request). Each (λ q. r.ticket.serial ≤ q.ticket.serial) rs) (sym is) each in
    let none : waits_on r.ticket m.requests ≡ None = then_none (λ extent. first_ticket (is_earlier_overlap r.ticket.serial extent) m.requests) (option_and_then written (op_of r.ticket m.requests))
    (λ extent. ap (λ (o : Option Request). option_map (λ w. w.ticket) o) (none_earlier r.ticket.serial extent m.requests later)) in
    ap (λ o. not (is_none o)) none

-- where none is found, the first does not pass
none_first : {A : Type 0} (p : A → Bool) (x : A) (xs : List A) → find p (x ∷ xs) ≡ None → p x ≡ false
none_first p x xs none = go (p x) none
  where
    go : (t : Bool) → cond t (Some x) (find p xs) ≡ None → t ≡ false
    go true some = absurd (grind arith)
    go false rest = refl

-- where the first passes, one is found
some_first : {A : Type 0} (p : A → Bool) (x : A) (xs : List A) → p x ≡ true → is_none (find p (x ∷ xs)) ≡ false
some_first p x xs is = rw is refl

module _ (g : Geometry) (m : Memory) (s : MemoryIsSound g m) (empty : m.hand ≡ Empty) (r : Request) (rest : List Request) (is : m.requests ≡ r ∷ rest) where
  found : request_of r.ticket m.requests ≡ Some r
  found = ap (request_of r.ticket) is ∙ rw (same_itself r.ticket) refl

  no_command : not (has_command m.hand) ≡ true
  no_command = ap (λ h. not (has_command h)) empty

  at_map : (op : Op) → r.op ≡ op → is_ready_for g m r op ≡ true → (turn : Turn) × (is_ready g m turn ≡ true)
  at_map op same ready = (Map r.ticket, ap (is_map_ready g m) found ∙ ap (is_ready_for g m r) same ∙ ready)

  rising : Rising (r ∷ rest)
  rising = subst Rising is s.rising

  waits_on_none : is_waiting m r ≡ false
  waits_on_none = first_free m r rest is rising.0

  -- a write that passed the tests and is not direct, in a phase that is settled, is in Checkpoint
  in_checkpoint : (b : ℕ) (phase : Phase) → (phase ≢ Arming) × (phase ≢ Deciding) → is_direct m phase b ≡ false → phase ≡ Checkpoint
  in_checkpoint b Trim settled direct = absurd (grind arith)
  in_checkpoint b Arming settled direct = absurd (settled.0 refl)
  in_checkpoint b Checkpoint settled direct = refl
  in_checkpoint b Deciding settled direct = absurd (settled.1 refl)
  in_checkpoint b Committed settled direct = absurd (grind arith)

  write_ready : (e : Extent) (p : List ℕ) → r.op ≡ Write e p → (turn : Turn) × (is_ready g m turn ≡ true)
  write_ready e p op = go (refusal g m.phase (Write e p)) refl
    where
      ready_for : (refused full direct : Bool) → is_none (refusal g m.phase (Write e p)) ≡ not refused → (r.done == e.count) ≡ full → is_direct m m.phase (e.first + r.done) ≡ direct → (refused || (full || direct)) ≡ true → is_ready_for g m r (Write e p) ≡ true
      ready_for refused full direct a b c ready = rw (no_command, a, waits_on_none, b, c) (tests refused full direct ready)
        where
          tests : (refused full direct : Bool) → (refused || (full || direct)) ≡ true → (not (not refused) || (full || direct)) ≡ true
          tests true full direct h = refl
          tests false full direct h = h

      worker : refusal g m.phase (Write e p) ≡ None → (r.done == e.count) ≡ false → is_direct m m.phase (e.first + r.done) ≡ false → (turn : Turn) × (is_ready g m turn ≡ true)
      worker passed more held =
          let done : IsWaiting g r = (subst (Each (IsWaiting g)) is s.requests).0 in
          let below : r.done < e.count = less r.done e.count more (subst (λ o. r.done ≤ (extent_of o).count) op done.done) in
          let under : nat_lt r.done e.count ≡ true = is_below r.done e.count below in
          let needs : needs_worker g m r (Write e p) ≡ true = rw (passed, waits_on_none, under, held) refl in
          let there : is_none (head g m) ≡ false = ap (λ rs. is_none (find (λ q. needs_worker g m q q.op) rs)) is ∙ some_first (λ q. needs_worker g m q q.op) r rest (ap (needs_worker g m r) op ∙ needs) in
          let at = in_checkpoint (e.first + r.done) m.phase (settled_phase m.phase (write_inside g m.phase e p passed).2) held in
          (Worker, ap (λ h. is_worker_ready g m h m.phase) empty ∙ ap (is_worker_ready g m Empty) at ∙ ap not there)

      go : (o : Option Outcome) → refusal g m.phase (Write e p) ≡ o → (turn : Turn) × (is_ready g m turn ≡ true)
      go (Some outcome) refused = at_map (Write e p) op (ready_for true (r.done == e.count) (is_direct m m.phase (e.first + r.done)) (ap is_none refused) refl refl refl)
      go None passed = elim (cases_Bool (r.done == e.count)) [
        | inl full ↦ at_map (Write e p) op (ready_for false true (is_direct m m.phase (e.first + r.done)) (ap is_none passed) full refl refl)
        | inr more ↦ elim (cases_Bool (is_direct m m.phase (e.first + r.done))) [
          | inl direct ↦ at_map (Write e p) op (ready_for false false true (ap is_none passed) more direct refl)
          | inr held ↦ worker passed more held
        ]
      ]

  -- the first request, which is no command
  first_ready : (op : Op) → r.op ≡ op → is_command op ≡ false → (turn : Turn) × (is_ready g m turn ≡ true)
  first_ready (Read e p) op plain = at_map (Read e p) op refl
  first_ready (Write e p) op plain = write_ready e p op
  first_ready (Discard e) op plain = at_map (Discard e) op no_command
  first_ready Flush op plain = at_map Flush op no_command
  first_ready Prepare op plain = absurd (grind arith)
  first_ready Commit op plain = absurd (grind arith)

pub some_turn_is_ready : SomeTurnIsReady
some_turn_is_ready g m s some = go m.hand refl
  where
    waiting : m.hand ≡ Empty → (rs : List Request) → m.requests ≡ rs → first_of m.requests ≡ None → (turn : Turn) × (is_ready g m turn ≡ true)
    waiting empty [] is none = absurd (some is)
    waiting empty (r ∷ rest) is none = first_ready g m s empty r rest is r.op refl (none_first (λ q. is_command q.op) r rest (ap first_of (sym is) ∙ none))

    commands : m.hand ≡ Empty → (found : Option Request) → first_of m.requests ≡ found → (turn : Turn) × (is_ready g m turn ≡ true)
    commands empty (Some r) found = (Command, ap (is_command_ready m) empty ∙ ap (λ o. not (is_none o)) found)
    commands empty None found = waiting empty m.requests refl found

    go : (hand : Hand) → m.hand ≡ hand → (turn : Turn) × (is_ready g m turn ≡ true)
    go Empty is = commands is (first_of m.requests) refl
    go (Batching b) is = (Worker, ap (λ h. is_worker_ready g m h m.phase) is)
    go (Preparing t c b act) is = (Command, ap (is_command_ready m) is)
    go (Committing t again act) is = (Command, ap (is_command_ready m) is)
