-- A session finds no space only where there is none.
use Rattle.std.proofs.Common.{◌≡◌, inl, inr, ℕ, Bool, true, false, if◌then◌else◌, List, [], ◌∷◌, Option, None, Some, sym, ap, ◌∙◌, subst}
use Rattle.bow_units.specs.declared.sizes.Geometry.{Geometry}
use Rattle.bow_units.specs.declared.requests.Op.{Op}
use Rattle.bow_units.specs.declared.requests.Op.TheVariants as ops
use Rattle.bow_units.specs.declared.requests.Outcome.TheVariants as outcomes
use Rattle.bow_units.specs.declared.requests.Phase.{Phase}
use Rattle.bow_units.specs.declared.requests.Phase.TheVariants.{Trim, Arming, Checkpoint, Deciding, Committed}
use Rattle.bow_flat.specs.Flat.{Event}
use Rattle.bow_queue.specs.Extents.{is_on_device}
use Rattle.bow_queue.specs.declared.tickets.Ticket.{Ticket}
use Rattle.bow_machine.specs.Calls.{Reply}
use Rattle.bow_disk.specs.Disk.{Content}
use Rattle.bow_machine.specs.Laws.{opened}
use Rattle.bow_machine.specs.Memory.{Memory}
use Rattle.bow_machine.specs.MemoryIsSound.{MemoryIsSound}
use Rattle.bow_machine.proofs.SoundOpenings.{opening_is_sound}
use Rattle.bow_machine.specs.MemoryLaws.{CanHaveIt}
use Rattle.bow_machine.specs.Requests.{Request, is_reserved, refusal, request_of, unsettled}
use Rattle.bow_machine.specs.Steps.{Told, Idle, Moved, Wrote, Got, Answered, call_of}
use Rattle.bow_machine.specs.Tasks.{task_of}
use Rattle.bow_machine.specs.declared.turns.Turn.{Turn}
use Rattle.bow_machine.specs.Told.{AnswerRow, ServedRow, ToldRow}
use Rattle.bow_history.specs.Journal.{Plan}
use Rattle.bow_history.specs.Sessions.{Session, Turned, Admits, Steps, IsFor, IsTurn, after_turn, call_of_turn, device_step, item_in, item_of, item_of_turn, lane_of, turn_of}
use Rattle.bow_machine.specs.Steps.{unknown}
use Rattle.bow_history.specs.SoundSessions.{IsSoundSession}
use Rattle.bow_history.proofs.Lists.{one_of}
use Rattle.bow_history.proofs.Turns.{for_write}
use Rattle.bow_history.proofs.SoundTurns as told
use Rattle.bow_session.specs.Runs.{begun_over}
use Rattle.bow_session.specs.Sessions.{plan_in}
use Rattle.bow_promise.specs.Space.{HasNoSpaceFor, TellsNoSpace, PlaysFindNoSpaceTruly, SessionsFindNoSpaceTruly}

-- no test refuses for want of space
unsettled_other : (phase : Phase) (n : ℕ) → unsettled phase ≡ Some (outcomes.NoSpace n) → ⊥
unsettled_other Trim n is = cc is
unsettled_other Arming n is = cc is
unsettled_other Checkpoint n is = cc is
unsettled_other Deciding n is = cc is
unsettled_other Committed n is = cc is

refuses_other : (g : Geometry) (phase : Phase) (op : Op) (n : ℕ) → refusal g phase op ≡ Some (outcomes.NoSpace n) → ⊥
refuses_other g phase (ops.Read e p) n is = by (is_on_device g.blocks e) is
  where
    by : (t : Bool) → (if t then None else Some outcomes.OutOfRange) ≡ Some (outcomes.NoSpace n) → ⊥
    by true same = cc same
    by false same = cc same
refuses_other g phase (ops.Write e p) n is = by (is_on_device g.blocks e) (is_reserved e p) is
  where
    by : (t u : Bool) → (if t then (if u then Some outcomes.ReservedMagic else unsettled phase) else Some outcomes.OutOfRange) ≡ Some (outcomes.NoSpace n) → ⊥
    by true true same = cc same
    by true false same = unsettled_other phase n same
    by false u same = cc same
refuses_other g phase (ops.Discard e) n is = by (is_on_device g.blocks e) is
  where
    by : (t : Bool) → (if t then unsettled phase else Some outcomes.OutOfRange) ≡ Some (outcomes.NoSpace n) → ⊥
    by true same = unsettled_other phase n same
    by false same = cc same
refuses_other g phase ops.Flush n is = unsettled_other phase n is
refuses_other g phase ops.Prepare n is = cc is
refuses_other g phase ops.Commit n is = cc is

-- the row of an answer that tells of no space
served_none : (g : Geometry) (m : Memory) (r : Request) (op : Op) (n : ℕ) (events : List Event) → r.op ≡ op → ServedRow g m r op (outcomes.NoSpace n) events → HasNoSpaceFor g m op
served_none g m r (ops.Write e p) n events is (inl done) = absurd (cc done.0)
served_none g m r (ops.Write e p) n events is (inr (inl fault)) = absurd (cc fault.0)
served_none g m r (ops.Write e p) n events is (inr (inr none)) = (r, is, none.1)
served_none g m r (ops.Read e p) n events is (inl done) = absurd (cc done.0)
served_none g m r (ops.Read e p) n events is (inr fault) = absurd (cc fault.0)
served_none g m r (ops.Discard e) n events is done = absurd (cc done.0)
served_none g m r ops.Flush n events is (inl done) = absurd (cc done.0)
served_none g m r ops.Flush n events is (inr fault) = absurd (cc fault.0)
served_none g m r ops.Prepare n events is (inl done) = absurd (cc done.0)
served_none g m r ops.Prepare n events is (inr (inl fault)) = absurd (cc fault.0)
served_none g m r ops.Prepare n events is (inr (inr (inl none))) = (r, none.1)
served_none g m r ops.Prepare n events is (inr (inr (inr wrong))) = absurd (cc wrong.0)
served_none g m r ops.Commit n events is (inl done) = absurd (cc done.0)
served_none g m r ops.Commit n events is (inr (inl fault)) = absurd (cc fault.0)
served_none g m r ops.Commit n events is (inr (inr wrong)) = absurd (cc wrong.0)

answers_none : (g : Geometry) (m : Memory) (r : Request) (op : Op) (n : ℕ) (events : List Event) → r.op ≡ op → AnswerRow g m r op (outcomes.NoSpace n) events → HasNoSpaceFor g m op
answers_none g m r op n events is (inl refused) = absurd (refuses_other g m.phase op n refused.0)
answers_none g m r op n events is (inr served) = served_none g m r op n events is served.1

-- what was asked for is such a request too
asked_none : (g : Geometry) (m : Memory) (asked op : Op) → IsFor g asked op → HasNoSpaceFor g m op → HasNoSpaceFor g m asked
asked_none g m asked (ops.Write e p) is none = subst (HasNoSpaceFor g m) (sym (for_write g asked e p is)) none
asked_none g m (ops.Read e p) ops.Prepare is none = absurd is
asked_none g m (ops.Write e p) ops.Prepare is none = absurd (cc is)
asked_none g m (ops.Discard e) ops.Prepare is none = absurd (cc is)
asked_none g m ops.Flush ops.Prepare is none = absurd (cc is)
asked_none g m ops.Prepare ops.Prepare is none = none
asked_none g m ops.Commit ops.Prepare is none = absurd (cc is)
asked_none g m asked (ops.Read e p) is none = absurd none
asked_none g m asked (ops.Discard e) is none = absurd none
asked_none g m asked ops.Flush is none = absurd none
asked_none g m asked ops.Commit is none = absurd none

module _ (plan : Plan) (s : Session) (k : IsSoundSession plan s) where
  module _ (turn : Turn) (reply : Reply) (can : CanHaveIt plan.sizes (call_of plan.sizes s.memory (task_of plan.sizes s.memory turn)) reply) where
    answered_none : (t : Ticket) (op : Op) (r : Request) (n : ℕ) (events : List Event) → request_of t s.memory.requests ≡ Some r → r.op ≡ op → AnswerRow plan.sizes s.memory r op (outcomes.NoSpace n) events
        → (asked : Op) × (plan.request (lane_of s.hand t plan.lanes) (s.number (lane_of s.hand t plan.lanes)) ≡ Some asked) × HasNoSpaceFor plan.sizes s.memory asked
    answered_none t op r n events waits is row =
        let seat = k.seated.each (lane_of s.hand t plan.lanes) t (told.lane_has plan s k turn reply can t r waits) in
        let same : seat.request ≡ r = one_of (request_of t s.memory.requests) seat.request r seat.waits waits in
        let asked : IsFor plan.sizes seat.asked op = subst (IsFor plan.sizes seat.asked) (ap (λ (q : Request). q.op) same ∙ is) seat.is in
        (seat.asked, seat.next, asked_none plan.sizes s.memory seat.asked op asked (answers_none plan.sizes s.memory r op n events is row))

    told_none : (t : Told) (events : List Event) (after : List Request) → ToldRow plan.sizes unknown s.memory t events after → TellsNoSpace plan s (item_of plan s t)
    told_none Idle events after row = tt
    told_none Moved events after row = tt
    told_none (Wrote t i) events after row = tt
    told_none (Got t i) events after row = tt
    told_none (Answered t op (outcomes.NoSpace n)) events after (r, waits, row) = answered_none t op r n events waits row.0 row.1
    told_none (Answered t op outcomes.Done) events after row = tt
    told_none (Answered t op outcomes.Data) events after row = tt
    told_none (Answered t op (outcomes.DiskFault n)) events after row = tt
    told_none (Answered t op outcomes.OutOfRange) events after row = tt
    told_none (Answered t op outcomes.ReservedMagic) events after row = tt
    told_none (Answered t op (outcomes.WrongPhase phase)) events after row = tt
    told_none (Answered t op (outcomes.Unsettled phase)) events after row = tt

  turn_none : (turn : Turned) → IsTurn plan s turn → TellsNoSpace plan s (item_in plan s turn)
  turn_none (Admits lane ticket op) may = tt
  turn_none (Steps actor reply) may = by (turn_of s actor) may.1
    where
      by : (o : Option Turn) → CanHaveIt plan.sizes (call_of_turn plan s o) reply → TellsNoSpace plan s (item_of_turn plan s o reply)
      by None can = tt
      by (Some turn) can =
          let step = device_step plan.sizes s.memory turn reply in
          told_none turn reply can step.told step.events step.memory.requests (told.row plan s k turn reply can)

pub sessions_find_no_space_truly : SessionsFindNoSpaceTruly
sessions_find_no_space_truly plan s [] rise k may = tt
sessions_find_no_space_truly plan s (turn ∷ turns) rise k may =
    (turn_none plan s k turn may.0, sessions_find_no_space_truly plan (after_turn plan s turn) turns rise (told.turns_keep_sound plan s turn rise k may.0) may.1)

-- a play's device is opened over sound memory
pub plays_find_no_space_truly : {D : Type 0} (stated : D → Option Geometry) (content : D → Option Content) (moment : D → ℕ) (left : D → ℕ → List (List ℕ) → Type 0) (faults : D → ℕ) → PlaysFindNoSpaceTruly stated content moment left faults
plays_find_no_space_truly stated content moment left faults old s valid ran =
    let session = (ran.run).session in
    let memory : (ran.first).memory ≡ opened s.core.geometry.blocks = (ran.fresh).memory ∙ ap (λ (g : Geometry). opened g.blocks) ran.sizes in
    let sound : MemoryIsSound s.core.geometry (ran.first).memory = subst (MemoryIsSound s.core.geometry) (sym memory) (opening_is_sound s.core.geometry valid) in
    let begins = told.beginning_is_sound (plan_in s) (ran.first).memory (ran.first).admitted sound (ap (λ (m : Memory). m.requests) memory) in
    sessions_find_no_space_truly (plan_in s) (begun_over ran.first) ran.turns session.rise begins session.may
