-- What a step of the device tells, as a step of a journal: which request, which row, and the state after it.
use Rattle.std.proofs.Common.{ℕ, ◌+◌, ◌<◌, ◌≤◌, ◌≡◌, ◌⊎◌, List, [], ◌∷◌, Some, arith, refl, sym, ap, ◌∙◌, subst, subst₂, inl, inr}
use Rattle.bow_units.specs.declared.requests.Op.{Op}
use Rattle.bow_units.specs.declared.requests.Outcome.{Outcome}
use Rattle.bow_units.specs.declared.requests.Phase.TheVariants.{Deciding}
use Rattle.bow_flat.specs.Flat.{Flat, Event, Allows, after, block_at}
use Rattle.bow_flat.specs.Flat.Event.{Writes, Reads, Arms, Decides, Flushes}
use Rattle.bow_queue.specs.declared.tickets.Ticket.{Ticket}
use Rattle.bow_machine.specs.Requests.{Request, request_of, without_request, refusal}
use Rattle.bow_machine.specs.Memory.{Memory}
use Rattle.bow_machine.specs.Calls.{Reply, DoesIt}
use Rattle.bow_machine.specs.Tasks.{task_of}
use Rattle.bow_machine.specs.declared.turns.Turn.{Turn}
use Rattle.bow_machine.specs.Steps.{Told, Idle, Moved, Wrote, Got, Answered, Step, call_of, step_of}
use Rattle.bow_machine.specs.Laws.{after_all, AllowsAll}
use Rattle.bow_machine.specs.MemoryLaws.{HasNoBlock}
use Rattle.bow_machine.specs.Standing.{IsStanding}
use Rattle.bow_machine.specs.Told.{IsWritten, IsGot, MovedRow, ToldRow}
use Rattle.bow_machine.specs.Deeds.{Deed, NoDeed, MayHaveArmed, HasDecided, deed_of, MovedDeed, DeedRow}
use Rattle.bow_machine.proofs.Blocks.{blocks_reply}
use Rattle.bow_machine.proofs.MappedTests.{read_inside}
use Rattle.bow_machine.proofs.Orders.{reads_before_arms, reads_before_decides, deciding_is_flushed}
use Rattle.bow_machine.proofs.SoundDeeds.{deeds_go_on}
use Rattle.bow_machine.proofs.SoundTold.{steps_tell_so}
use Rattle.bow_machine.proofs.Whole.{step_keeps}
use Rattle.bow_history.specs.Journal.{Plan, Place, Row, MayBeFull}
use Rattle.bow_history.specs.Lags.{Lags, LagsBy, IsDecided}
use Rattle.bow_history.specs.Histories.{Disk}
use Rattle.bow_history.proofs.Answers.{decided_phase, answer_row}

-- the state after the step's events, or in Deciding that with what is read as all that is pending
abbrev pub IsWay : ℕ → Flat → Step → Flat → Type 0
IsWay n f step flat = (flat ≡ after_all n step.events f) ⊎ ((step.memory.phase ≡ Deciding) × (flat ≡ after n Flushes (after_all n step.events f)))

module _ (plan : Plan) (m : Memory) (e : Disk) (f : Flat) (p : Place) (step : Step) where
  -- the machine after the step stands for a state which the journal's follows so
  pub record Settles (j : Flat) : Type 0 where
    pub flat : Flat
    pub stands : IsStanding plan.sizes step.memory e.now e.may flat
    pub lags : Lags plan.sizes.blocks step.memory.hand flat j
    pub way : IsWay plan.sizes.blocks f step flat

  -- a block of a write was written
  pub record DidWrite (t : Ticket) (i : ℕ) : Type 0 where
    pub request : Request
    pub waits : request_of t m.requests ≡ Some request
    pub row : IsWritten plan.sizes m request i step.events step.memory.requests
    pub same : m.phase ≡ p.flat.phase
    pub settles : Settles (after plan.sizes.blocks (Writes (row.extent.first + i) (block_at plan.sizes.block_size row.payload i)) p.flat)

  -- a block of a read was read
  pub record DidRead (t : Ticket) (i : ℕ) : Type 0 where
    pub request : Request
    pub waits : request_of t m.requests ≡ Some request
    pub row : IsGot plan.sizes m request i step.events step.memory.requests
    pub inside : row.extent.first + row.extent.count ≤ plan.sizes.blocks
    pub allowed : Allows plan.sizes.blocks (Reads (row.extent.first + i) row.content) p.flat
    pub settles : Settles (after plan.sizes.blocks (Reads (row.extent.first + i) row.content) p.flat)

  -- a request was answered
  pub record DidAnswer (t : Ticket) (op : Op) (outcome : Outcome) : Type 0 where
    pub request : Request
    pub waits : request_of t m.requests ≡ Some request
    pub is : op ≡ request.op
    pub requests : step.memory.requests ≡ without_request t m.requests
    pub flat : Flat
    pub row : Row plan p request.op outcome request.done flat
    pub settles : Settles flat

  -- by what was told
  abbrev pub Leads : Told → Type 0
  Leads Idle = (step.memory.requests ≡ m.requests) × Settles p.flat
  Leads Moved = (step.memory.requests ≡ m.requests) × Settles p.flat
  Leads (Wrote t i) = DidWrite t i
  Leads (Got t i) = DidRead t i
  Leads (Answered t op outcome) = DidAnswer t op outcome

-- ----------------------------------------------------------------------------------------------------------------

module _ (plan : Plan) (m : Memory) (d e : Disk) (f : Flat) (p : Place) (s : IsStanding plan.sizes m d.now d.may f)
    (lags : Lags plan.sizes.blocks m.hand f p.flat) (full : (r : Request) → HasNoBlock plan.sizes m r → MayBeFull plan p) (turn : Turn) (reply : Reply)
    (does : DoesIt plan.sizes (call_of plan.sizes m (task_of plan.sizes m turn)) reply d.now d.may e.now e.may) where
  abbrev n : ℕ
  n = plan.sizes.blocks

  abbrev step : Step
  step = step_of plan.sizes d.now m (task_of plan.sizes m turn) reply

  abbrev old : Deed
  old = deed_of m.hand

  abbrev new : Deed
  new = deed_of step.memory.hand

  keeps : AllowsAll n step.events f × IsStanding plan.sizes step.memory e.now e.may (after_all n step.events f)
  keeps = step_keeps plan.sizes m turn reply d.now e.now d.may e.may f s does

  -- the state after the step's events follows so
  settle : (j : Flat) → LagsBy n new (after_all n step.events f) j → Settles plan m e f p step j
  settle j l = record { flat = after_all n step.events f; stands = keeps.1; lags = l; way = inl refl }

  -- the same, by the events and by what is untold
  settle_by : (events : List Event) (deed : Deed) (j : Flat) → step.events ≡ events → new ≡ deed → LagsBy n deed (after_all n events f) j → Settles plan m e f p step j
  settle_by events deed j happens is l = settle j (subst₂ (λ d es. LagsBy n d (after_all n es f) j) (sym is) (sym happens) l)

  -- with nothing untold the journal is where the machine is
  same_if : old ≡ NoDeed → f ≡ p.flat
  same_if none = subst (λ deed. LagsBy n deed f p.flat) none lags

  -- ----------------------------------------------------------------------------------------------------------------
  -- An act.

  act_settles : MovedRow d.now m step.events → MovedDeed step.events old new → Settles plan m e f p step p.flat
  act_settles (inl quiet) deed = elim (subst (λ es. MovedDeed es old new) quiet deed) [
    | inl same ↦ settle_by [] old p.flat quiet same lags
    | inr (none, armed) ↦ settle_by [] MayHaveArmed p.flat quiet armed (inl (same_if none))
  ]
  act_settles (inr (inl (trim, act, arms))) deed =
      let goes = subst (λ es. MovedDeed es old new) arms deed in
      let same = same_if goes.0 in
      settle_by (Arms d.now ∷ []) MayHaveArmed p.flat arms goes.1
      (inr (d.now, subst (λ h. Allows n (Arms d.now) h) same (subst (λ es. AllowsAll n es f) arms keeps.0).0, ap (after n (Arms d.now)) same))
  act_settles (inr (inr (checkpoint, act, decides))) deed =
      let goes = subst (λ es. MovedDeed es old new) decides deed in
      let same = same_if goes.0 in
      settle_by (Decides ∷ []) HasDecided p.flat decides goes.1 (ap (λ (h : Flat). h.phase) (sym same) ∙ s.phases ∙ checkpoint, ap (after n Decides) same)

  -- ----------------------------------------------------------------------------------------------------------------
  -- A read, which a command in hand may come before.

  module _ (b : ℕ) (v : List ℕ) (reads : step.events ≡ Reads b v ∷ []) (below : b < n) (still : new ≡ old) where
    allowed : Allows n (Reads b v) f
    allowed = (subst (λ es. AllowsAll n es f) reads keeps.0).0

    abbrev Read : Type 0
    Read = Allows n (Reads b v) p.flat × Settles plan m e f p step (after n (Reads b v) p.flat)

    -- where the journal is where the machine is
    plain : (deed : Deed) → old ≡ deed → f ≡ p.flat → LagsBy n deed (after n (Reads b v) f) (after n (Reads b v) p.flat) → Read
    plain deed is same l = (subst (λ h. Allows n (Reads b v) h) same allowed, settle_by (Reads b v ∷ []) deed (after n (Reads b v) p.flat) reads (still ∙ is) l)

    decided : old ≡ HasDecided → IsDecided n f p.flat → Read
    decided is l =
        let moves = reads_before_decides n b v p.flat l.0 (subst (λ h. Allows n (Reads b v) h) l.1 allowed) in
        let at : step.memory.phase ≡ Deciding = sym keeps.1.phases ∙ ap (λ es. (after_all n es f).phase) reads ∙ decided_phase n f p.flat l in
        let way : after n Flushes (after_all n step.events f) ≡ after n Decides (after n (Reads b v) p.flat) = ap (λ es. after n Flushes (after_all n es f)) reads ∙ ap (λ h. after n Flushes (after n (Reads b v) h)) l.1 ∙ sym moves.2 in (
          moves.0,
          record {
            flat = after n Decides (after n (Reads b v) p.flat);
            stands = subst (IsStanding plan.sizes step.memory e.now e.may) way (deciding_is_flushed plan.sizes step.memory e.now e.may (after_all n step.events f) keeps.1 at);
            lags = subst (λ deed. LagsBy n deed (after n Decides (after n (Reads b v) p.flat)) (after n (Reads b v) p.flat)) (sym (still ∙ is)) (l.0, refl);
            way = inr (at, sym way);
          },
        )

    read_settles : Read
    read_settles = go old refl lags
      where
        go : (deed : Deed) → old ≡ deed → LagsBy n deed f p.flat → Read
        go NoDeed is l = plain NoDeed is l (ap (after n (Reads b v)) l)
        go MayHaveArmed is (inl l) = plain MayHaveArmed is l (inl (ap (after n (Reads b v)) l))
        go MayHaveArmed is (inr a) =
            let moves = reads_before_arms n b v a.0 p.flat below a.1 (subst (λ h. Allows n (Reads b v) h) a.2 allowed) in
            (moves.0, settle_by (Reads b v ∷ []) MayHaveArmed (after n (Reads b v) p.flat) reads (still ∙ is) (inr (a.0, moves.1, ap (after n (Reads b v)) a.2 ∙ sym moves.2)))
        go HasDecided is l = decided is l

  -- ----------------------------------------------------------------------------------------------------------------

  told_leads : (told : Told) → ToldRow plan.sizes d.now m told step.events step.memory.requests → DeedRow told step.events old new → Leads plan m e f p step told
  told_leads Idle row deed = (row.1, settle_by [] old p.flat row.0 deed lags)
  told_leads Moved row deed = (row.1, act_settles row.0 deed)
  told_leads (Wrote t i) (r, waits, row) deed =
      let same = same_if deed.0 in
      let event = Writes (row.extent.first + i) (block_at plan.sizes.block_size row.payload i) in
      record { request = r; waits = waits; row = row; same = sym s.phases ∙ ap (λ (h : Flat). h.phase) same; settles = settle_by (event ∷ []) NoDeed (after n event p.flat) row.happens deed.1 (ap (after n event) same) }
  told_leads (Got t i) (r, waits, row) deed =
      let inside = read_inside plan.sizes m.phase row.extent row.payload (ap (refusal plan.sizes m.phase) (sym row.op) ∙ row.passed) in
      let read = read_settles (row.extent.first + i) row.content row.happens (omega (arith, inside, row.left)) deed in
      record { request = r; waits = waits; row = row; inside = inside; allowed = read.0; settles = read.1 }
  told_leads (Answered t op outcome) (r, waits, (is, row, gone)) deed =
      let a = answer_row plan m d.now d.may f p s new op r outcome step.events is (full r) lags deed row in
      record { request = r; waits = waits; is = sym is; requests = gone; flat = a.flat; row = subst (λ o. Row plan p o outcome r.done a.flat) (sym is) a.row; settles = settle a.flat a.lags }

  -- Each step leads on so.
  pub step_leads : Leads plan m e f p step step.told
  step_leads = told_leads step.told (steps_tell_so plan.sizes m turn reply d.now s.sound (blocks_reply plan.sizes m turn reply d.now e.now d.may e.may s.sound s.blocks does).0)
      (deeds_go_on plan.sizes m turn reply d.now s.sound)
