-- The acts of a batch over the buffer: a read fills the next slot, and a write takes what a slot holds.
use Rattle.std.specs.Prelude.{take, drop, slice_index_or}
use Rattle.std.proofs.Common.{ℕ, ◌+◌, ◌*◌, ◌≡◌, ◌<◌, ◌≤◌, List, [], false, Option, Some, sym, ap, ◌∙◌, subst, arith}
use Rattle.std.proofs.Math.Nat.{mul-le-mul_right}
use Rattle.bow_units.specs.declared.sizes.Geometry.{Geometry}
use Rattle.bow_queue.specs.declared.tickets.Ticket.{Ticket}
use Rattle.bow_disk.specs.Disk.{Content}
use Rattle.bow_copy.specs.Acts.{next_act, log_tried}
use Rattle.bow_copy.specs.declared.jobs.Act.TheVariants.{Read, Write}
use Rattle.bow_machine.specs.Calls.{WriteCall, Reply}
use Rattle.bow_machine.specs.Memory.{Batch, Hand, Batching, picks}
use Rattle.bow_machine.specs.MemoryIsSound.{MemoryIsSound}
use Rattle.bow_machine.specs.Requests.{request_of}
use Rattle.bow_machine.specs.Steps.{Step, answered_for, fault_after}
use Rattle.bow_core.specs.Batches.{ArePicked, batch_in_hand, let_go}
use Rattle.bow_core.specs.Held.{Held, with_memory, hand_of}
use Rattle.bow_core.specs.Ports.{Makes}
use Rattle.bow_core.specs.Turns.{told_of}
use Rattle.bow_core.specs.declared.hands.Hand.{Hand as Kept}
use Rattle.bow_core.specs.declared.turns.Step.{Step as Inside}
use Rattle.bow_core.proofs.ActRows.{row_of}
use Rattle.bow_core.proofs.BatchDone.{hand_stays, slot_held}

-- unless writing the log was tried, the picked blocks hold backups
abbrev pub PickedIn : Held → Type 0
PickedIn s = log_tried (batch_in_hand s.memory.hand).progress.job ((batch_in_hand s.memory.hand).progress.done + 1) ≡ false → ArePicked s.memory.kinds (picks (batch_in_hand s.memory.hand).progress.job)

-- what is left of a batch that failed, and what that tells
abbrev pub fault_of : Held → Ticket → Step
fault_of s ticket = answered_for (let_go s.memory (batch_in_hand s.memory.hand)) (request_of ticket s.memory.requests) fault_after (λ r. [])

abbrev pub FailsIn : Held → Ticket → Inside → Held → Type 0
FailsIn s ticket tells now = (told_of tells ≡ (fault_of s ticket).told) × (now ≡ with_memory s (fault_of s ticket).memory)

-- the state as its parts show it, and the size of its blocks
module _ (s shown : Held) (view : shown ≡ s) (n : ℕ) (sized : n ≡ s.geometry.block_size) where
  pub size_in : n ≡ shown.geometry.block_size
  size_in = sized ∙ ap (λ (h : Held). h.geometry.block_size) (sym view)

  -- a slot lies in the buffer of eight blocks
  pub slot_room : (slot room : ℕ) → slot < 8 → room ≡ 8 * shown.geometry.block_size → (slot + 1) * n ≤ room
  slot_room slot room few eight =
      let wide : (slot + 1) * n ≤ 8 * n = mul-le-mul_right n (omega (arith, few)) in
      let same : 8 * n ≡ 8 * shown.geometry.block_size = ap (λ k. 8 * k) size_in in
      omega (arith, wide, same, eight)

  module _ (sound : MemoryIsSound s.geometry s.memory) (held : s.memory.hand ≡ Batching (batch_in_hand s.memory.hand)) (block slot : ℕ) where
    abbrev b : Batch
    b = batch_in_hand s.memory.hand

    -- a read fills the next slot, which is no part of the state before the act is done
    pub read_unseen : next_act b.progress ≡ Read block slot → (buffer new : List ℕ) (h : Kept) → hand_of shown.geometry.block_size buffer h ≡ shown.memory.hand → take (slot * n) new ≡ take (slot * n) buffer
        → with_memory shown (record shown.memory { hand = hand_of shown.geometry.block_size new h }) ≡ s
    read_unseen is buffer new h hand front =
        let size = shown.geometry.block_size in
        let own = hand ∙ ap (λ (x : Held). x.memory.hand) view in
        let same = subst (λ k. take (slot * k) new ≡ take (slot * k) buffer) size_in front in
        let row = row_of s.geometry s.memory b sound held (Read block slot) is in
        ap (λ (x : Held). with_memory x (record x.memory { hand = hand_of size new h })) view
        ∙ ap (λ (x : Hand). with_memory s (record s.memory { hand = x })) (hand_stays size buffer new h s.memory.hand own held slot row.0 same)

    -- a write gives what the batch holds in the slot
    pub slot_given : {D : Type 0} (stated : D → Option Geometry) (content : D → Option Content) (moment : D → ℕ) (left : D → ℕ → List (List ℕ) → Type 0) (faults : D → ℕ) (old new : D) (before now : ℕ) (reply : Reply)
        → next_act b.progress ≡ Write block slot → (buffer : List ℕ) (h : Kept) → hand_of shown.geometry.block_size buffer h ≡ shown.memory.hand
        → Makes stated content moment left faults s.geometry (Some (WriteCall block (take n (drop (slot * n) buffer)))) reply old new before now
        → Makes stated content moment left faults s.geometry (Some (WriteCall block (slice_index_or b.slots slot []))) reply old new before now
    slot_given stated content moment left faults old new before now reply is buffer h hand made =
        let own = hand ∙ ap (λ (x : Held). x.memory.hand) view in
        let row = row_of s.geometry s.memory b sound held (Write block slot) is in
        subst (λ v. Makes stated content moment left faults s.geometry (Some (WriteCall block v)) reply old new before now) (slot_held shown.geometry.block_size buffer h s.memory.hand own held slot row.0 n size_in) made
