-- An act of what is in hand, done: what the code made of the disk and of memory is the machine's step.
use Rattle.std.specs.Prelude.{Result, Ok, drop}
use Rattle.std.proofs.Common.{ℕ, ◌*◌, ◌≡◌, List, [], take, Option, Some, None, refl, sym, ap, ◌∙◌, subst, arith}
use Rattle.bow_units.specs.declared.sizes.Geometry.{Geometry}
use Rattle.bow_units.specs.declared.requests.Outcome.{Outcome}
use Rattle.bow_queue.specs.declared.tickets.Ticket.{Ticket}
use Rattle.bow_flat.specs.Flat.{Event}
use Rattle.bow_disk.specs.Disk.{Content}
use Rattle.bow_machine.specs.Requests.{Request, request_of}
use Rattle.bow_machine.specs.Memory.{Memory, Hand, Preparing, Committing}
use Rattle.bow_machine.specs.Calls.{ReadCall, Reply, Gave}
use Rattle.bow_core.specs.Calls.{read_reply}
use Rattle.bow_machine.specs.Steps.{Step, moved, answered_for, act_step, call_in_hand}
use Rattle.bow_machine.specs.Tasks.{Task, Acts}
use Rattle.bow_core.specs.Held.{hand_of, prepare_of, commit_of}
use Rattle.bow_core.specs.Ports.{Makes}
use Rattle.bow_core.specs.Steps.{IsDone}
use Rattle.bow_machine.specs.Steps.{unknown}
use Rattle.bow_core.specs.Turns.{told_of}
use Rattle.bow_core.specs.declared.turns.Step.{Step as Inside}
use Rattle.bow_core.specs.declared.turns.Step.TheVariants as inside
use Rattle.bow_core.specs.declared.hands.Hand.{Hand as Kept}
use Rattle.bow_core.specs.declared.hands.Hand.TheVariants as kept
use Rattle.bow_core.specs.declared.hands.Preparing.{Preparing as KeptPrepare}
use Rattle.bow_core.specs.declared.hands.Committing.{Committing as KeptCommit}
use Rattle.bow_core.specs.declared.hands.PrepareAct.{PrepareAct as NextOfPrepare}
use Rattle.bow_core.specs.declared.hands.PrepareAct.TheVariants as prepares
use Rattle.bow_core.specs.declared.hands.CommitAct.{CommitAct as NextOfCommit}
use Rattle.bow_core.specs.declared.hands.CommitAct.TheVariants as commits
use Rattle.bow_core.specs.Commands.{block_in_hand, block_of_prepare, block_of_commit}

-- what is told, and memory, do not depend on the events
told_same : (m : Memory) (r : Option Request) (o : Outcome) (happens : Request → List Event) → (answered_for m r (λ x. o) (λ x. [])).told ≡ (answered_for m r (λ x. o) happens).told
told_same m None o happens = refl
told_same m (Some r) o happens = refl

memory_same : (m : Memory) (r : Option Request) (o : Outcome) (happens : Request → List Event) → (answered_for m r (λ x. o) (λ x. [])).memory ≡ (answered_for m r (λ x. o) happens).memory
memory_same m None o happens = refl
memory_same m (Some r) o happens = refl

module _ {D : Type 0} (stated : D → Option Geometry) (content : D → Option Content) (moment : D → ℕ) (left : D → ℕ → List (List ℕ) → Type 0) (faults : D → ℕ)
    (g : Geometry) (m : Memory) (old new : D) (before now : ℕ) (hand : Hand) (is : m.hand ≡ hand) (reply : Reply)
    (made : Makes stated content moment left faults g (call_in_hand g m hand) reply old new before now) where
  made_in : Makes stated content moment left faults g (call_in_hand g m m.hand) reply old new before now
  made_in = subst (λ h. Makes stated content moment left faults g (call_in_hand g m h) reply old new before now) (sym is) made

  -- an act that goes on
  pub goes_is : (after : Memory) (happens : List Event) → act_step g unknown m hand reply ≡ moved after happens → IsDone stated content moment left faults g m (Acts m) inside.Moved after old new before now
  goes_is after happens step =
      let e : act_step g unknown m m.hand reply ≡ moved after happens = ap (λ h. act_step g unknown m h reply) is ∙ step in
      record { reply = reply; made = made_in; memory = sym (ap (λ (s : Step). s.memory) e); told = sym (ap (λ (s : Step). s.told) e) }

  -- an act that ends with an answer
  pub ends_is : (rest : Memory) (t : Ticket) (o : Outcome) (happens : Request → List Event) (tells : Inside) (after : Memory) → act_step g unknown m hand reply ≡ answered_for rest (request_of t m.requests) (λ r. o) happens
      → told_of tells ≡ (answered_for rest (request_of t m.requests) (λ r. o) (λ r. [])).told → after ≡ (answered_for rest (request_of t m.requests) (λ r. o) (λ r. [])).memory
      → IsDone stated content moment left faults g m (Acts m) tells after old new before now
  ends_is rest t o happens tells after step told memory =
      let e : act_step g unknown m m.hand reply ≡ answered_for rest (request_of t m.requests) (λ r. o) happens = ap (λ h. act_step g unknown m h reply) is ∙ step in
      record {
        reply = reply;
        made = made_in;
        memory = memory ∙ memory_same rest (request_of t m.requests) o happens ∙ sym (ap (λ (s : Step). s.memory) e);
        told = told ∙ told_same rest (request_of t m.requests) o happens ∙ sym (ap (λ (s : Step). s.told) e);
      }

-- what a read of one block into the first slot gave
pub read_made : {D : Type 0} (stated : D → Option Geometry) (content : D → Option Content) (moment : D → ℕ) (left : D → ℕ → List (List ℕ) → Type 0) (faults : D → ℕ) (g : Geometry) (old new : D) (before now : ℕ)
    {T E : Type 0} (result : Result T E) (x : T) → result ≡ Ok x → (place at size whole : ℕ) (buffer : List ℕ) → place ≡ at → size ≡ whole
    → Makes stated content moment left faults g (Some (ReadCall place)) (read_reply result (take size (drop (0 * size) buffer))) old new before now → Makes stated content moment left faults g (Some (ReadCall at)) (Gave (take whole buffer)) old new before now
read_made stated content moment left faults g old new before now result x ok place at size whole buffer here same made =
    let first : 0 * size ≡ 0 = omega arith in
    let made : Makes stated content moment left faults g (Some (ReadCall place)) (read_reply result (take size buffer)) old new before now = subst (λ n. Makes stated content moment left faults g (Some (ReadCall place)) (read_reply result (take size (drop n buffer))) old new before now) first made in
    subst (λ n. Makes stated content moment left faults g (Some (ReadCall at)) (Gave (take n buffer)) old new before now) same
    (subst (λ p. Makes stated content moment left faults g (Some (ReadCall p)) (Gave (take size buffer)) old new before now) here
    (subst (λ q. Makes stated content moment left faults g (Some (ReadCall place)) q old new before now) (ap (λ r. read_reply r (take size buffer)) ok) made))

-- what was taken in hand in this turn
pub taken_done : {D : Type 0} (stated : D → Option Geometry) (content : D → Option Content) (moment : D → ℕ) (left : D → ℕ → List (List ℕ) → Type 0) (faults : D → ℕ) (g : Geometry) (m taken : Memory) (task : Task) (tells : Inside) (after : Memory) (old new : D) (before now : ℕ)
    → task ≡ Acts taken → IsDone stated content moment left faults g taken (Acts taken) tells after old new before now → IsDone stated content moment left faults g m task tells after old new before now
taken_done stated content moment left faults g m taken task tells after old new before now is done =
    subst (λ k. IsDone stated content moment left faults g m k tells after old new before now) (sym is) (record { reply = done.reply; made = done.made; memory = done.memory; told = done.told })

-- what is in hand, with the block that it has read
prepare_again : (v : List ℕ) (act : NextOfPrepare) → prepare_of v act ≡ prepare_of (block_of_prepare (prepare_of v act)) act
prepare_again v prepares.ReadBlock0 = refl
prepare_again v prepares.WriteCurrent = refl
prepare_again v prepares.WriteBackup = refl
prepare_again v prepares.FlushCopies = refl
prepare_again v prepares.WriteFirstLog = refl
prepare_again v prepares.FlushFirstLog = refl

commit_again : (v : List ℕ) (act : NextOfCommit) → commit_of v act ≡ commit_of (block_of_commit (commit_of v act)) act
commit_again v commits.FlushAll = refl
commit_again v commits.ReadCurrent = refl
commit_again v commits.WriteBlock0 = refl
commit_again v commits.FlushDecision = refl

pub prepare_held : (size : ℕ) (buffer : List ℕ) (h : Kept) (hand : Hand) (p : KeptPrepare) → hand_of size buffer h ≡ hand → h ≡ kept.Preparing p → hand ≡ Preparing p.ticket p.current p.backup (prepare_of (block_in_hand hand) p.act)
prepare_held size buffer h hand p view is =
    let e : Preparing p.ticket p.current p.backup (prepare_of (take size buffer) p.act) ≡ hand = ap (hand_of size buffer) (sym is) ∙ view in
    subst (λ x. x ≡ Preparing p.ticket p.current p.backup (prepare_of (block_in_hand x) p.act)) e (ap (Preparing p.ticket p.current p.backup) (prepare_again (take size buffer) p.act))

pub commit_held : (size : ℕ) (buffer : List ℕ) (h : Kept) (hand : Hand) (p : KeptCommit) → hand_of size buffer h ≡ hand → h ≡ kept.Committing p → hand ≡ Committing p.ticket p.again (commit_of (block_in_hand hand) p.act)
commit_held size buffer h hand p view is =
    let e : Committing p.ticket p.again (commit_of (take size buffer) p.act) ≡ hand = ap (hand_of size buffer) (sym is) ∙ view in
    subst (λ x. x ≡ Committing p.ticket p.again (commit_of (block_in_hand x) p.act)) e (ap (Committing p.ticket p.again) (commit_again (take size buffer) p.act))
