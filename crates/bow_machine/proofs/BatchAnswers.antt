-- The write for which a batch was formed: it still waits, or the batch has failed and it is answered.
use Rattle.std.proofs.Common.{ℕ, ◌+◌, ◌≡◌, ◌≢◌, false, List, [], ◌∷◌, Option, Some, None, arith, refl, sym, ap, ◌∙◌, subst, inl, inr}
use Rattle.std.proofs.lemmas.Bool.{cases_eq}
use Rattle.std.proofs.lemmas.List.Elements.{Contains-append_left}
use Rattle.bow_units.specs.declared.sizes.Geometry.{Geometry}
use Rattle.bow_units.specs.declared.requests.Phase.{Phase}
use Rattle.bow_units.specs.declared.requests.Phase.TheVariants.{Arming, Checkpoint, Deciding}
use Rattle.bow_flat.specs.Flat.{Flat, May, added, put, after}
use Rattle.bow_flat.specs.Flat.Event.{Fails}
use Rattle.bow_flat.proofs.Valid.{stays_valid}
use Rattle.bow_log.specs.Generations.{Generation}
use Rattle.bow_chain.specs.Contents.{Contents}
use Rattle.bow_guard.specs.Cuts.{Candidates}
use Rattle.bow_queue.specs.declared.tickets.Ticket.{Ticket}
use Rattle.bow_ranges.specs.Kinds.{kind_at}
use Rattle.bow_machine.specs.Requests.{Request, request_of, without_request, refusal}
use Rattle.bow_machine.specs.Memory.{Memory, Empty, place_with, may_be_written}
use Rattle.bow_machine.specs.Steps.{Step, extent_of, next_block, fault_events, fault_after, answered, answered_for}
use Rattle.bow_machine.specs.MemoryIsSound.{ForWrite}
use Rattle.bow_machine.proofs.Held.{IsKept}
use Rattle.bow_machine.proofs.RequestLists.{each_without}
use Rattle.bow_machine.proofs.Tickets.{own_without}
use Rattle.bow_machine.proofs.Hands.{kept_handed, kept_over, Keeps}
use Rattle.bow_machine.proofs.MappedWrites.{put_here, put_there}
use Rattle.bow_machine.proofs.BatchStands.{working, Working}

-- the disk holds the same
pub keeps_same : (g : Geometry) (now new_now : Contents) (may new_may : Candidates) (f : Flat) (step : Step)
    → new_now ≡ now → new_may ≡ may → Keeps g now may f step → Keeps g new_now new_may f step
keeps_same g now new_now may new_may f step same_now same_may k =
    subst (λ i. Keeps g i new_may f step) (sym same_now) (subst (λ j. Keeps g now j f step) (sym same_may) k)

-- in another memory, in which each block that had to be kept back still has to be
pub for_write_kept : (g : Geometry) (m n : Memory) (t : Ticket) → n.phase ≡ m.phase → n.requests ≡ m.requests
    → ((b : ℕ) → may_be_written (kind_at m.kinds b) ≡ false → may_be_written (kind_at n.kinds b) ≡ false)
    → ForWrite g m t → ForWrite g n t
for_write_kept g m n t phase requests kinds h = record {
  write = h.write;
  waits = ap (request_of t) requests ∙ h.waits;
  extent = h.extent;
  payload = h.payload;
  op = h.op;
  passed = ap (λ p. refusal g p h.write.op) phase ∙ h.passed;
  left = h.left;
  not_0 = h.not_0;
  kept_back = kinds _ h.kept_back;
}

-- what is unknown stays unknown
added_none : (c : Option (List (List ℕ))) (v : List ℕ) → c ≡ None → added c v ≡ None
added_none None v is = refl
added_none (Some cs) v is = absurd (grind arith)

may_added : (c : Option (List (List ℕ))) (v w : List ℕ) → May c w → May (added c v) w
may_added None v w h = tt
may_added (Some cs) v w h = Contains-append_left cs (v ∷ []) w h

put_at : {A : Type 0} (P : A → Type 0) (f : ℕ → A) (b : ℕ) (v : A) (x : ℕ) → (x ≡ b → P v) → (x ≢ b → P (f x))
    → P (put f b v x)
put_at P f b v x here there = elim (cases_eq x b) [
  | inl is ↦ subst P (sym (put_here f b v x is)) (here is)
  | inr ne ↦ subst P (sym (put_there f b v x ne)) (there ne)
]

module _ (g : Geometry) (m : Memory) (log : Generation) (now : Contents) (may : Candidates) where
  -- With nothing in hand, a write is answered with a fault at a block other than block 0.
  pub faulted : (f : Flat) (r : Request) → (extent_of r.op).first + r.done ≢ 0 → Working g m Empty log now may f
      → Keeps g now may f (answered (working m Empty log) r (fault_after r) (fault_events g r))
  faulted f r not_0 w = (
    (tt, tt),
    record {
      memory = record { sizes = w.memory.sizes; table = w.memory.table; requests = each_without r.ticket m.requests w.memory.requests; tickets = own_without r.ticket m.requests w.memory.tickets };
      state =
          stays_valid g.blocks (Fails block content) f w.state tt
          (phase_not Arming (λ e. absurd (grind arith)), phase_not Deciding (λ e. absurd (grind arith)), λ z. absurd (not_0 z));
      phases = w.phases;
      held = w.held;
      shown = λ x on. put_at (λ c. May c (now (place_with (Some log) x))) f.current block (added (f.current block) content) x
          (λ is. may_added (f.current block) content _ (subst (λ y. May (f.current y) (now (place_with (Some log) x))) is (w.shown x on)))
          (λ ne. w.shown x on);
      kept =
          kept_over g (record (working m Empty log) { requests = without_request r.ticket m.requests }) log now now may may f
          (after g.blocks (Fails block content) f) Checkpoint Checkpoint Checkpoint (λ is. is)
          (λ x none. (unknown f.current x none.0, unknown f.pending x none.1)) refl waiting waiting.leaves;
      in_hand = tt;
    },
  )
    where
      block : ℕ
      block = (extent_of r.op).first + r.done

      content : List ℕ
      content = next_block g r

      waiting : IsKept g (record (working m Empty log) { requests = without_request r.ticket m.requests }) now may f Checkpoint log
      waiting =
          kept_handed g now may f (working m Empty log) (without_request r.ticket m.requests) Empty refl Checkpoint
          (Some log) w.kept

      phase_not : (p : Phase) → p ≢ Checkpoint → f.phase ≢ p
      phase_not p ne is = ne (sym is ∙ w.phases)

      unknown : (known : ℕ → Option (List (List ℕ))) (x : ℕ) → known x ≡ None
          → put known block (added (known block) content) x ≡ None
      unknown known x none =
          put_at (λ c. c ≡ None) known block (added (known block) content) x
          (λ is. added_none (known block) content (ap known (sym is) ∙ none)) (λ ne. none)

  -- The batch has failed: with nothing in hand, the write for which it was formed is answered.
  pub batch_failed : (f : Flat) (t : Ticket) (before : Memory) → m.requests ≡ before.requests → ForWrite g before t
      → Working g m Empty log now may f
      → Keeps g now may f (answered_for (working m Empty log) (request_of t m.requests) fault_after (fault_events g))
  batch_failed f t before same h w =
      subst (λ o. Keeps g now may f (answered_for (working m Empty log) o fault_after (fault_events g)))
      (sym (ap (request_of t) same ∙ h.waits))
      (faulted f h.write (λ z. h.not_0 (ap (λ e. e.first + h.write.done) (sym (ap extent_of h.op)) ∙ z)) w)
