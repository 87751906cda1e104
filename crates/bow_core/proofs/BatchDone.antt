-- An act of a batch, done: what the code made of the disk and of memory is the machine's step.
use Rattle.std.specs.Prelude.{Result, Ok, drop, slice_index_or}
use Rattle.std.proofs.Common.{ℕ, ◌+◌, ◌*◌, ◌≡◌, ◌<◌, ◌==◌, List, [], ◌∷◌, ◌++◌, take, length, Bool, true, false, cond, Option, Some, None, refl, sym, ap, ◌∙◌, subst, arith}
use Rattle.std.proofs.lemmas.Bool.{false≢true}
use Rattle.bow_units.specs.declared.sizes.Geometry.{Geometry}
use Rattle.bow_queue.specs.declared.tickets.Ticket.{Ticket}
use Rattle.bow_crc.specs.Sums.{first_blocks}
use Rattle.bow_flat.specs.Flat.{Event}
use Rattle.bow_disk.specs.Disk.{Content}
use Rattle.bow_copy.specs.Acts.{Progress, acts, next_act, after_act, is_write_log, log_tried, step_of}
use Rattle.bow_copy.specs.declared.jobs.Act.{Act}
use Rattle.bow_copy.specs.declared.jobs.Act.TheVariants.{Read, WriteLog}
use Rattle.bow_copy.specs.declared.jobs.After.{After}
use Rattle.bow_copy.specs.declared.jobs.After.TheVariants.{Going, LogGiven, Clean}
use Rattle.bow_machine.specs.Requests.{Request, request_of}
use Rattle.bow_machine.specs.Memory.{Memory, Batch, Hand, Empty, Batching}
use Rattle.bow_machine.specs.Calls.{ReadCall, Reply, Failed, Succeeded, Gave}
use Rattle.bow_machine.specs.Steps.{Step, Moved, moved, answered_for, act_step, call_in_hand, call_of_act, batch_after, went_on, changed, is_log_write, fault_after, fault_events, given_up}
use Rattle.bow_machine.specs.Tasks.{Acts}
use Rattle.bow_core.specs.Batches.{batch_in_hand, gone_on, let_go}
use Rattle.bow_core.specs.Calls.{read_reply}
use Rattle.bow_core.specs.Held.{hand_of, slots_in, slots_of}
use Rattle.bow_core.specs.Ports.{Makes}
use Rattle.bow_core.specs.Steps.{IsDone}
use Rattle.bow_machine.specs.Steps.{unknown}
use Rattle.bow_core.specs.Turns.{told_of}
use Rattle.bow_core.specs.declared.turns.Step.{Step as Inside}
use Rattle.bow_core.specs.declared.turns.Step.TheVariants as inside
use Rattle.bow_core.specs.declared.hands.Hand.{Hand as Kept}
use Rattle.bow_core.specs.declared.hands.Hand.TheVariants as kept
use Rattle.bow_machine.proofs.BatchActs.{lead, tried}
use Rattle.bow_core.proofs.ActsDone.{goes_is}
use Rattle.bow_core.proofs.FirstSlots.{same_slots, slot_more, slot_is}

-- the batch in hand, as it is kept
pub held_slots : (size : ℕ) (buffer : List ℕ) (h : Kept) (hand : Hand) → hand_of size buffer h ≡ hand → hand ≡ Batching (batch_in_hand hand) → (batch_in_hand hand).slots ≡ slots_of size buffer (batch_in_hand hand).progress
held_slots size buffer kept.Empty hand view held = absurd (let clash : Empty ≡ Batching (batch_in_hand hand) = view ∙ held in cc clash)
held_slots size buffer (kept.Preparing p) hand view held = absurd (let clash = view ∙ held in cc clash)
held_slots size buffer (kept.Committing p) hand view held = absurd (let clash = view ∙ held in cc clash)
held_slots size buffer (kept.Batching batch ticket) hand view held = subst (λ x. (batch_in_hand x).slots ≡ slots_of size buffer (batch_in_hand x).progress) view refl

-- a slot of it
pub slot_held : (size : ℕ) (buffer : List ℕ) (h : Kept) (hand : Hand) → hand_of size buffer h ≡ hand → hand ≡ Batching (batch_in_hand hand) → (slot : ℕ)
    → slot < slots_in (batch_in_hand hand).progress.job (batch_in_hand hand).progress.done → (n : ℕ) → n ≡ size → take n (drop (slot * n) buffer) ≡ slice_index_or (batch_in_hand hand).slots slot []
slot_held size buffer h hand view held slot below n same =
    let p = (batch_in_hand hand).progress in
    ap (λ k. take k (drop (slot * k) buffer)) same ∙ sym (ap (λ l. slice_index_or l slot []) (held_slots size buffer h hand view held) ∙ slot_is (slots_in p.job p.done) size slot buffer below)

-- it stays as it is where a buffer changes from the next slot on
pub hand_stays : (size : ℕ) (buffer new : List ℕ) (h : Kept) (hand : Hand) → hand_of size buffer h ≡ hand → hand ≡ Batching (batch_in_hand hand) → (slot : ℕ)
    → slot ≡ slots_in (batch_in_hand hand).progress.job (batch_in_hand hand).progress.done → take (slot * size) new ≡ take (slot * size) buffer → hand_of size new h ≡ hand
hand_stays size buffer new kept.Empty hand view held slot at front = absurd (let clash : Empty ≡ Batching (batch_in_hand hand) = view ∙ held in cc clash)
hand_stays size buffer new (kept.Preparing p) hand view held slot at front = absurd (let clash = view ∙ held in cc clash)
hand_stays size buffer new (kept.Committing p) hand view held slot at front = absurd (let clash = view ∙ held in cc clash)
hand_stays size buffer new (kept.Batching batch ticket) hand view held slot at front =
    let own = ap (λ x. (batch_in_hand x).progress) (sym view) in
    let count : slot ≡ slots_in batch.job batch.done = at ∙ ap (λ (p : Progress). slots_in p.job p.done) own in
    ap (λ l. Batching (record { progress = batch; slots = l; ticket = ticket })) (ap (λ n. first_blocks n size new) (sym count) ∙ same_slots slot size buffer new front ∙ ap (λ n. first_blocks n size buffer) count) ∙ view

-- a slot more
pub hand_read : (size : ℕ) (buffer new : List ℕ) (batch after : Progress) (ticket : Ticket) (hand : Hand) → hand_of size buffer (kept.Batching batch ticket) ≡ hand → (slot : ℕ) (v : List ℕ)
    → (batch_in_hand hand).progress.failed ≡ false → after ≡ step_of batch true
    → slot ≡ slots_in (batch_in_hand hand).progress.job (batch_in_hand hand).progress.done → slots_in (batch_in_hand hand).progress.job ((batch_in_hand hand).progress.done + 1) ≡ slot + 1
    → take (slot * size) new ≡ take (slot * size) buffer → v ≡ take size (drop (slot * size) new)
    → hand_of size new (kept.Batching after ticket) ≡ Batching (went_on (batch_in_hand hand) (Gave v))
hand_read size buffer new batch after ticket hand view slot v runs goes at more front is =
    let own = ap (λ x. (batch_in_hand x).progress) (sym view) in
    let count : slot ≡ slots_in batch.job batch.done = at ∙ ap (λ (p : Progress). slots_in p.job p.done) own in
    let next : slots_in batch.job (batch.done + 1) ≡ slot + 1 = ap (λ (p : Progress). slots_in p.job (p.done + 1)) (sym own) ∙ more in
    let slots : first_blocks (slots_in batch.job (batch.done + 1)) size new ≡ first_blocks (slots_in batch.job batch.done) size buffer ++ v ∷ [] =
    ap (λ n. first_blocks n size new) next ∙ slot_more slot size new ∙ ap (λ l. l ++ take size (drop (slot * size) new) ∷ []) (same_slots slot size buffer new front ∙ ap (λ n. first_blocks n size buffer) count)
    ∙ ap (λ x. first_blocks (slots_in batch.job batch.done) size buffer ++ x ∷ []) (sym is) in
    let never : batch.failed ≡ false = ap (λ (p : Progress). p.failed) (sym own) ∙ runs in
    let stepped : Batching (record { progress = step_of batch true; slots = slots_of size new (step_of batch true); ticket = ticket }) ≡ Batching (went_on (record { progress = batch; slots = slots_of size buffer batch; ticket = ticket }) (Gave v)) =
    ap (λ l. Batching (record { progress = record { job = batch.job; done = batch.done + 1; failed = batch.failed }; slots = l; ticket = ticket })) slots
    ∙ ap (λ t. Batching (record { progress = record { job = batch.job; done = batch.done + 1; failed = t }; slots = first_blocks (slots_in batch.job batch.done) size buffer ++ v ∷ []; ticket = ticket })) never in
    ap (λ (p : Progress). Batching (record { progress = p; slots = slots_of size new p; ticket = ticket })) goes ∙ stepped ∙ ap (λ x. Batching (went_on (batch_in_hand x) (Gave v))) view

-- what is told, and memory, do not depend on the events
fault_told : (left : Memory) (r : Option Request) (happens : Request → List Event) → (answered_for left r fault_after (λ x. [])).told ≡ (answered_for left r fault_after happens).told
fault_told left None happens = refl
fault_told left (Some r) happens = refl

fault_memory : (left : Memory) (r : Option Request) (happens : Request → List Event) → (answered_for left r fault_after (λ x. [])).memory ≡ (answered_for left r fault_after happens).memory
fault_memory left None happens = refl
fault_memory left (Some r) happens = refl

-- an act other than writing the log leads on, or ends the batch
pub gone_on_is : (m : Memory) (b : Batch) → is_write_log (next_act b.progress) ≡ false → batch_after m b Succeeded (after_act b.progress true) ≡ gone_on m b (after_act b.progress true)
gone_on_is m b other = both (is_write_log (next_act b.progress)) other (b.progress.done + 1 == length (acts b.progress.job))
  where
    both : (log : Bool) → log ≡ false → (last : Bool) → batch_after m b Succeeded (cond log LogGiven (cond last Clean Going)) ≡ gone_on m b (cond log LogGiven (cond last Clean Going))
    both true is last = absurd (false≢true (sym is))
    both false is true = refl
    both false is false = refl

pub let_go_is : (m : Memory) (b : Batch) → is_log_write (next_act b.progress) ≡ false → batch_after m b Failed (after_act b.progress false) ≡ let_go m b
let_go_is m b other =
    let given = log_tried b.progress.job (b.progress.done + 1) in
    let failed : Bool → Memory = λ log. cond given (let n : Memory = cond log (changed m b) m in record n { hand = Empty }) (given_up m b.progress.job) in
    ap failed other

pub tried_at : (b : Batch) → b.progress.done ≡ lead b.progress.job → log_tried b.progress.job (b.progress.done + 1) ≡ true
tried_at b at = tried b.progress.job b.progress.done (omega (arith, at))

-- the log was given
pub log_gone_on : (m : Memory) (b : Batch) → next_act b.progress ≡ WriteLog → batch_after m b Succeeded (after_act b.progress true) ≡ gone_on (changed m b) b (after_act b.progress true)
log_gone_on m b is =
    let given : after_act b.progress true ≡ LogGiven = ap (λ (l : Bool). cond l LogGiven (cond (b.progress.done + 1 == length (acts b.progress.job)) Clean Going)) (ap is_write_log is) in
    ap (batch_after m b Succeeded) given ∙ sym (ap (gone_on (changed m b) b) given)

-- writing the log was tried
pub log_let_go : (m : Memory) (b : Batch) → next_act b.progress ≡ WriteLog → b.progress.done ≡ lead b.progress.job → batch_after m b Failed (after_act b.progress false) ≡ let_go (changed m b) b
log_let_go m b is at =
    let has : log_tried b.progress.job (b.progress.done + 1) ≡ true = tried b.progress.job b.progress.done (omega (arith, at)) in
    let given = log_tried b.progress.job (b.progress.done + 1) in
    let e : is_log_write (next_act b.progress) ≡ true = ap is_log_write is in
    let failed : Bool → Bool → Memory = λ log tried_so. cond tried_so (let n : Memory = cond log (changed m b) m in record n { hand = Empty }) (given_up m b.progress.job) in
    let wanted : Bool → Memory = λ tried_so. cond tried_so (let n : Memory = changed m b in record n { hand = Empty }) (given_up (changed m b) b.progress.job) in
    ap (λ l. failed l given) e ∙ ap (failed true) has ∙ sym (ap wanted has)

module _ {D : Type 0} (stated : D → Option Geometry) (content : D → Option Content) (moment : D → ℕ) (left : D → ℕ → List (List ℕ) → Type 0) (faults : D → ℕ)
    (g : Geometry) (m : Memory) (old new : D) (before now : ℕ) (b : Batch) (held : m.hand ≡ Batching b) where
  -- the call of the next act
  made_act : (act : Act) (reply : Reply) → next_act b.progress ≡ act → Makes stated content moment left faults g (Some (call_of_act g m b act)) reply old new before now
      → Makes stated content moment left faults g (call_in_hand g m (Batching b)) reply old new before now
  made_act act reply is made = subst (λ a. Makes stated content moment left faults g (Some (call_of_act g m b a)) reply old new before now) (sym is) made

  -- the call in hand, by what it replied
  made_in_hand : (act : Act) → next_act b.progress ≡ act → (reply known : Reply) → reply ≡ known → Makes stated content moment left faults g (Some (call_of_act g m b act)) reply old new before now
      → Makes stated content moment left faults g (call_in_hand g m m.hand) known old new before now
  made_in_hand act is reply known same made =
      subst (λ h. Makes stated content moment left faults g (call_in_hand g m h) known old new before now) (sym held)
      (made_act act known is (subst (λ r. Makes stated content moment left faults g (Some (call_of_act g m b act)) r old new before now) same made))

  -- a read, which fills a slot
  pub read_done : {T E : Type 0} (result : Result T E) (x : T) → result ≡ Ok x → (block slot : ℕ) (v : List ℕ) → next_act b.progress ≡ Read block slot → after_act b.progress true ≡ Going
      → Makes stated content moment left faults g (Some (ReadCall block)) (read_reply result v) old new before now
      → IsDone stated content moment left faults g m (Acts m) inside.Moved (record m { hand = Batching (went_on b (Gave v)) }) old new before now
  read_done result x ok block slot v is goes made =
      goes_is stated content moment left faults g m old new before now (Batching b) held (Gave v)
      (made_act (Read block slot) (Gave v) is (subst (λ r. Makes stated content moment left faults g (Some (ReadCall block)) (read_reply r v) old new before now) ok made))
      (record m { hand = Batching (went_on b (Gave v)) }) [] (ap (λ (a : After). moved (batch_after m b (Gave v) a) []) goes)

  -- another act, by the memory that follows
  pub act_goes : (act : Act) → next_act b.progress ≡ act → (after : Memory) → after ≡ batch_after m b Succeeded (after_act b.progress true) → (tells : Inside) → told_of tells ≡ Moved
      → (reply : Reply) → reply ≡ Succeeded → Makes stated content moment left faults g (Some (call_of_act g m b act)) reply old new before now
      → IsDone stated content moment left faults g m (Acts m) tells after old new before now
  act_goes act is after leads tells told reply goes made =
      let e : act_step g unknown m m.hand Succeeded ≡ moved (batch_after m b Succeeded (after_act b.progress true)) [] = ap (λ h. act_step g unknown m h Succeeded) held in
      record {
        reply = Succeeded;
        made = made_in_hand act is reply Succeeded goes made;
        memory = leads ∙ sym (ap (λ (s : Step). s.memory) e);
        told = told ∙ sym (ap (λ (s : Step). s.told) e);
      }

  -- an act that failed, for the write of this ticket
  pub act_fails : (ticket : Ticket) → b.ticket ≡ ticket → (act : Act) → next_act b.progress ≡ act → (rest : Memory) → batch_after m b Failed (after_act b.progress false) ≡ rest → (tells : Inside) (after : Memory)
      → told_of tells ≡ (answered_for rest (request_of ticket m.requests) fault_after (λ r. [])).told → after ≡ (answered_for rest (request_of ticket m.requests) fault_after (λ r. [])).memory
      → (reply : Reply) → reply ≡ Failed → Makes stated content moment left faults g (Some (call_of_act g m b act)) reply old new before now
      → IsDone stated content moment left faults g m (Acts m) tells after old new before now
  act_fails ticket own act is rest leads tells after told memory reply fails made =
      let found = request_of b.ticket m.requests in
      let fault : Ticket → Step = λ t. answered_for rest (request_of t m.requests) fault_after (λ r. []) in
      let e : act_step g unknown m m.hand Failed ≡ answered_for rest found fault_after (fault_events g) = ap (λ h. act_step g unknown m h Failed) held ∙ ap (λ (n : Memory). answered_for n found fault_after (fault_events g)) leads in
      record {
        reply = Failed;
        made = made_in_hand act is reply Failed fails made;
        memory = memory ∙ ap (λ t. (fault t).memory) (sym own) ∙ fault_memory rest found (fault_events g) ∙ sym (ap (λ (s : Step). s.memory) e);
        told = told ∙ ap (λ t. (fault t).told) (sym own) ∙ fault_told rest found (fault_events g) ∙ sym (ap (λ (s : Step). s.told) e);
      }
