-- A step tells of no space exactly where its turn finds none.
use Rattle.std.proofs.Common.{ℕ, ◌+◌, ◌≡◌, ◌⊎◌, ◌==◌, Bool, true, false, List, Option, Some, None, arith, refl, sym, ap, ◌∙◌, subst, inl, inr}
use Rattle.std.specs.Prelude.{◌↔◌}
use Rattle.std.proofs.lemmas.Bool.{cond_both, false≢true}
use Rattle.bow_units.specs.declared.sizes.Geometry.{Geometry}
use Rattle.bow_units.specs.declared.requests.Op.{Op}
use Rattle.bow_units.specs.declared.requests.Op.TheVariants.{Read, Write, Discard, Flush, Prepare, Commit}
use Rattle.bow_units.specs.declared.requests.Outcome.{Outcome}
use Rattle.bow_units.specs.declared.requests.Outcome.TheVariants as outcomes
use Rattle.bow_units.specs.declared.requests.Phase.{Phase}
use Rattle.bow_units.specs.declared.requests.Phase.TheVariants.{Trim, Arming, Checkpoint, Deciding, Committed}
use Rattle.bow_flat.specs.Flat.{Event}
use Rattle.bow_queue.specs.Extents.{is_on_device}
use Rattle.bow_queue.specs.Requests.{is_command}
use Rattle.bow_queue.specs.declared.tickets.Ticket.{Ticket}
use Rattle.bow_machine.specs.Requests.{Request, request_of, is_reserved, unsettled, refusal}
use Rattle.bow_machine.specs.Memory.{Memory, Empty, Committing, FlushesAll, has_command, is_direct}
use Rattle.bow_machine.specs.Calls.{Reply}
use Rattle.bow_machine.specs.Tasks.{Task, Waits, Answers, WritesBlock, ReadsBlock, FlushesFor, DiscardsFor, Acts, task_of, task_for, map_task, take_first, taken, command_task, worker_task, first_of, is_waiting, unless_refused, unless_command}
use Rattle.bow_machine.specs.declared.turns.Turn.TheVariants.{Worker, Command}
use Rattle.bow_machine.specs.Steps.{Told, Answered, call_of, extent_of}
use Rattle.bow_machine.specs.MemoryIsSound.{IsWaiting, MemoryIsSound}
use Rattle.bow_machine.specs.MemoryLaws.{CanHaveIt, HasNoBlock, HasNoTwo}
use Rattle.bow_machine.specs.Told.{AnswerRow, ServedRow, ToldRow}
use Rattle.bow_machine.proofs.RequestLists.{find_has, found_ticket}
use Rattle.bow_machine.proofs.SoundSpace.{no_space_is_exact, prepare_space_is_exact}
use Rattle.bow_machine.proofs.SoundTold.{steps_tell_so}
use Rattle.bow_core.specs.Room.{FindsNoSpace}
use Rattle.bow_core.specs.Steps.{done_by}
use Rattle.bow_machine.specs.Steps.{unknown}
use Rattle.bow_machine.specs.declared.turns.Turn.{Turn}
use Rattle.bow_machine.specs.declared.turns.Turn.TheVariants as turns
use Rattle.bow_core.proofs.Telling.{may_call, calls_tell}

-- it tells of no space
abbrev tells_none : Told → Bool
tells_none (Answered t op (outcomes.NoSpace n)) = true
tells_none told = false

-- an outcome, if there is one, other than no space
abbrev Other : Option Outcome → Type 0
Other None = Unit {0}
Other (Some outcome) = (t : Ticket) (op : Op) → tells_none (Answered t op outcome) ≡ false

unsettled_other : (p : Phase) → Other (unsettled p)
unsettled_other Trim = tt
unsettled_other Arming = λ t op. refl
unsettled_other Checkpoint = tt
unsettled_other Deciding = λ t op. refl
unsettled_other Committed = tt

-- no test refuses for want of space
refusal_other : (g : Geometry) (p : Phase) (op : Op) → Other (refusal g p op)
refusal_other g p (Read e q) = cond_both (is_on_device g.blocks e) None (Some outcomes.OutOfRange) Other (λ h. tt) (λ h t op. refl)
refusal_other g p (Write e q) = cond_both (is_on_device g.blocks e) _ (Some outcomes.OutOfRange) Other (λ h. cond_both (is_reserved e q) (Some outcomes.ReservedMagic) (unsettled p) Other (λ r t op. refl) (λ r. unsettled_other p)) (λ h t op. refl)
refusal_other g p (Discard e) = cond_both (is_on_device g.blocks e) (unsettled p) (Some outcomes.OutOfRange) Other (λ h. unsettled_other p) (λ h t op. refl)
refusal_other g p Flush = unsettled_other p
refusal_other g p Prepare = tt
refusal_other g p Commit = tt

module _ (g : Geometry) (m : Memory) (reply : Reply) where
  abbrev Spared : Task → Type 0
  Spared task = tells_none (done_by g m task reply).told ≡ false

  calls_spared : (task : Task) → may_call task ≡ true → Spared task
  calls_spared task calls = calls_tell (λ told. tells_none told ≡ false) refl (λ r n. refl) (λ r. refl) (λ t i. refl) (λ t i. refl) g m task reply calls

  -- a request's own turn finds space, or is refused for another cause
  unless_spared : (r : Request) (o : Option Outcome) (task : Task) → Other o → Spared task → Spared (unless_refused r o task)
  unless_spared r None task other spared = spared
  unless_spared r (Some outcome) task other spared = other r.ticket r.op

  free_spared : (task : Task) → Spared task → Spared (unless_command m task)
  free_spared task spared = cond_both (has_command m.hand) Waits task Spared (λ busy. refl) (λ free. spared)

  request_spared : (r : Request) (op : Op) → Spared (task_for g m r op)
  request_spared r (Read e p) = unless_spared r (refusal g m.phase (Read e p)) _ (refusal_other g m.phase (Read e p)) (cond_both (r.done == e.count) (Answers r outcomes.Data) (ReadsBlock r (e.first + r.done)) Spared (λ full. refl) (λ more. calls_spared (ReadsBlock r (e.first + r.done)) refl))
  request_spared r (Write e p) = free_spared _ (unless_spared r (refusal g m.phase (Write e p)) _ (refusal_other g m.phase (Write e p)) (cond_both (is_waiting m r) Waits _ Spared (λ waits. refl) (λ first.
      cond_both (r.done == e.count) (Answers r outcomes.Done) _ Spared (λ full. refl) (λ more.
      cond_both (is_direct m m.phase (e.first + r.done)) (WritesBlock r (e.first + r.done)) Waits Spared (λ direct. calls_spared (WritesBlock r (e.first + r.done)) refl) (λ held. refl)))))
  request_spared r (Discard e) = free_spared _ (unless_spared r (refusal g m.phase (Discard e)) (DiscardsFor r) (refusal_other g m.phase (Discard e)) refl)
  request_spared r Flush = free_spared _ (unless_spared r (refusal g m.phase Flush) (FlushesFor r) (refusal_other g m.phase Flush) (calls_spared (FlushesFor r) refl))
  request_spared r Prepare = refl
  request_spared r Commit = refl

  map_spared : (found : Option Request) → Spared (map_task g m found)
  map_spared None = refl
  map_spared (Some r) = request_spared r r.op

  -- in Checkpoint no command finds no space
  taken_spared : (r : Request) (op : Op) → Spared (taken m r op Checkpoint)
  taken_spared r Prepare = refl
  taken_spared r Commit = calls_spared (Acts (record m { hand = Committing r.ticket false FlushesAll })) refl
  taken_spared r (Read e p) = refl
  taken_spared r (Write e p) = refl
  taken_spared r (Discard e) = refl
  taken_spared r Flush = refl

  first_spared : (found : Option Request) → m.phase ≡ Checkpoint → Spared (take_first m found)
  first_spared None at = refl
  first_spared (Some r) at = subst (λ p. Spared (taken m r r.op p)) (sym at) (taken_spared r r.op)

  -- with nothing in hand the commands' turn finds space in Checkpoint, and the worker's in Trim
  command_spared : m.hand ≡ Empty → m.phase ≡ Checkpoint → Spared (task_of g m Command)
  command_spared empty at = subst (λ h. Spared (command_task m h)) (sym empty) (first_spared (first_of m.requests) at)

  worker_spared : m.hand ≡ Empty → m.phase ≡ Trim → Spared (task_of g m Worker)
  worker_spared empty at = subst (λ h. Spared (worker_task g m h m.phase)) (sym empty) (subst (λ p. Spared (worker_task g m Empty p)) (sym at) refl)

-- an outcome of no space, and the blocks that it tells of
abbrev says_none : Outcome → Bool
says_none (outcomes.NoSpace n) = true
says_none outcome = false

abbrev blocks_said : Outcome → ℕ
blocks_said (outcomes.NoSpace n) = n
blocks_said outcome = 0

not_none : {A : Type 0} (n : ℕ) (o : Outcome) → says_none o ≡ false → outcomes.NoSpace n ≡ o → A
not_none n o other is = absurd (false≢true (sym other ∙ sym (ap says_none is)))

same_request : (q r : Request) → q.ticket ≡ r.ticket → q.op ≡ r.op → q.done ≡ r.done → q ≡ r
same_request q r ticket op done = put q.ticket q.op q.done ticket op done
  where
    put : (t : Ticket) (o : Op) (n : ℕ) → t ≡ r.ticket → o ≡ r.op → n ≡ r.done → record { ticket = t; op = o; done = n } ≡ r
    put t o n a b c = rw (a, b, c) refl

module _ (g : Geometry) (m : Memory) (reply : Reply) (s : MemoryIsSound g m) where
  -- the two rows of no space
  none_served : (q : Request) (op : Op) (n : ℕ) (events : List Event) → ServedRow g m q op (outcomes.NoSpace n) events → ((n ≡ q.done) × HasNoBlock g m q) ⊎ ((n ≡ 0) × HasNoTwo m q)
  none_served q (Write e p) n events row = elim row [
    | inl done ↦ not_none n outcomes.Done refl done.0
    | inr other ↦ elim other [
      | inl fault ↦ not_none n (outcomes.DiskFault q.done) refl fault.0
      | inr none ↦ inl (ap blocks_said none.0, none.1)
    ]
  ]
  none_served q (Read e p) n events row = elim row [
    | inl read ↦ not_none n outcomes.Data refl read.0
    | inr fault ↦ not_none n (outcomes.DiskFault q.done) refl fault.0
  ]
  none_served q (Discard e) n events row = not_none n outcomes.Done refl row.0
  none_served q Flush n events row = elim row [
    | inl done ↦ not_none n outcomes.Done refl done.0
    | inr fault ↦ not_none n (outcomes.DiskFault 0) refl fault.0
  ]
  none_served q Prepare n events row = elim row [
    | inl done ↦ not_none n outcomes.Done refl done.0
    | inr other ↦ elim other [
      | inl fault ↦ not_none n (outcomes.DiskFault 0) refl fault.0
      | inr more ↦ elim more [
        | inl none ↦ inr (ap blocks_said none.0, none.1)
        | inr wrong ↦ not_none n (outcomes.WrongPhase m.phase) refl wrong.0
      ]
    ]
  ]
  none_served q Commit n events row = elim row [
    | inl done ↦ not_none n outcomes.Done refl done.0
    | inr other ↦ elim other [
      | inl fault ↦ not_none n (outcomes.DiskFault 0) refl fault.0
      | inr wrong ↦ not_none n (outcomes.WrongPhase m.phase) refl wrong.0
    ]
  ]

  none_row : (q : Request) (op : Op) (n : ℕ) (events : List Event) → AnswerRow g m q op (outcomes.NoSpace n) events → ((n ≡ q.done) × HasNoBlock g m q) ⊎ ((n ≡ 0) × HasNoTwo m q)
  none_row q op n events row = elim row [
    | inl refused ↦ absurd (false≢true (sym (subst Other refused.0 (refusal_other g m.phase op) q.ticket op)))
    | inr served ↦ none_served q op n events served.1
  ]

  done_is : (q : Request) → IsWaiting g q → q.op ≡ Prepare → q.done ≡ 0
  done_is q waiting is =
      let count = ap (λ (op : Op). (extent_of op).count) is in
      omega (arith, waiting.done, count)

  -- of a prepare that waits nothing is done
  none_done : (t : Ticket) (q : Request) → request_of t m.requests ≡ Some q → q.op ≡ Prepare → q.done ≡ 0
  none_done t q found is = done_is q (find_has (IsWaiting g) _ m.requests q s.requests found) is

  module _ (turn : Turn) (can : CanHaveIt g (call_of g m (task_of g m turn)) reply) (r : Request) where
    abbrev TellsNone : Type 0
    TellsNone = (done_by g m (task_of g m turn) reply).told ≡ Answered r.ticket r.op (outcomes.NoSpace r.done)

    -- for one request or the other, whatever the turn
    which : TellsNone → HasNoBlock g m r ⊎ HasNoTwo m r
    which tells =
        let after = done_by g m (task_of g m turn) reply in
        let row = subst (λ told. ToldRow g unknown m told after.events after.memory.requests) tells (steps_tell_so g m turn reply unknown s can) in
        let q : Request = row.0 in
        let ticket : q.ticket ≡ r.ticket = found_ticket r.ticket m.requests q row.1 in
        elim (none_row q r.op r.done after.events (row.2).1) [
          | inl block ↦ inl (subst (HasNoBlock g m) (same_request q r ticket ((row.2).0) (sym block.0)) block.1)
          | inr two ↦ inr (subst (HasNoTwo m) (same_request q r ticket ((row.2).0) (none_done r.ticket q row.1 two.1.is_prepare ∙ sym two.0)) two.1)
        ]

  -- a step tells of no space exactly where its turn finds none
  pub finds_none : (turn : Turn) (r : Request) → CanHaveIt g (call_of g m (task_of g m turn)) reply
      → ((done_by g m (task_of g m turn) reply).told ≡ Answered r.ticket r.op (outcomes.NoSpace r.done)) ↔ FindsNoSpace g m turn r
  finds_none turns.Worker r can = (
    λ tells. elim (which turns.Worker can r tells) [
      | inl block ↦ block
      | inr two ↦ absurd (false≢true (sym (worker_spared g m reply two.hand two.phase) ∙ ap tells_none tells))
    ],
    λ block. ap (λ task. (done_by g m task reply).told) ((no_space_is_exact g m r s).1 block),
  )
  finds_none turns.Command r can = (
    λ tells. elim (which turns.Command can r tells) [
      | inl block ↦ absurd (false≢true (sym (command_spared g m reply block.hand block.phase) ∙ ap tells_none tells))
      | inr two ↦ two
    ],
    λ two. ap (λ task. (done_by g m task reply).told) ((prepare_space_is_exact g m r s).1 two) ∙ ap (λ n. Answered r.ticket r.op (outcomes.NoSpace n)) (sym (first_done two)),
  )
    where
      first_done : HasNoTwo m r → r.done ≡ 0
      first_done two =
          let waiting : IsWaiting g r = find_has (IsWaiting g) (λ q. is_command q.op) m.requests r s.requests two.is_first in
          done_is r waiting two.is_prepare
  finds_none (turns.Map ticket) r can = (λ tells. absurd (false≢true (sym (map_spared g m reply (request_of ticket m.requests)) ∙ ap tells_none tells)), λ none. absurd none)
