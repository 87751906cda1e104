-- A turn leads from a place of the journal to the next, by the item that it makes.
use Rattle.std.proofs.Common.{ℕ, suc, ◌+◌, ◌*◌, ◌<◌, ◌≡◌, ◌≢◌, true, false, List, length, take, Option, Some, None, arith, refl, sym, ap, ◌∙◌, subst, inl, inr}
use Rattle.std.proofs.lemmas.Bool.{cases_eq, cases_lt, cases_Bool, false≢true}
use Rattle.bow_units.specs.declared.requests.Op.{Op}
use Rattle.bow_units.specs.declared.requests.Op.TheVariants as ops
use Rattle.bow_units.specs.declared.requests.Outcome.{Outcome}
use Rattle.bow_units.specs.declared.sizes.Extent.{Extent}
use Rattle.bow_units.specs.declared.sizes.Geometry.{Geometry}
use Rattle.bow_flat.specs.Flat.{Flat, Allows, put, after, block_at}
use Rattle.bow_flat.specs.Flat.Event.{Writes, Reads}
use Rattle.bow_queue.specs.declared.tickets.Ticket.{Ticket}
use Rattle.bow_ranges.specs.Kinds.{holds}
use Rattle.bow_machine.specs.Requests.{Request, request_of, with_request, without_request, filled, refusal}
use Rattle.bow_machine.specs.Memory.{Memory}
use Rattle.bow_machine.specs.Tasks.{is_waiting}
use Rattle.bow_machine.specs.Steps.{Told, Idle, Moved, Wrote, Got, Answered, Step, payload_of}
use Rattle.bow_machine.proofs.RequestLists.{found_ticket, ticket_cases, of_without, of_with_other, of_with}
use Rattle.bow_machine.proofs.MappedWrites.{put_here, put_there}
use Rattle.bow_machine.proofs.MappedTests.{write_inside}
use Rattle.bow_machine.specs.Ahead.{IsLed}
use Rattle.bow_machine.specs.Laws.{after_all}
use Rattle.bow_machine.specs.Standing.{IsStanding}
use Rattle.bow_machine.proofs.Forward.{deciding_stays_led}
use Rattle.bow_history.specs.declared.items.Item.{Item}
use Rattle.bow_history.specs.declared.items.Item.TheVariants as items
use Rattle.bow_history.specs.Journal.{Plan, Buffers, Place, IsOpenPhase, IsAlone, writes, ReadRow, Row, block_done, answered, ItemStep}
use Rattle.bow_history.specs.Sessions.{Session, IsFor, lane_of, first_in, item_of, answered_in, told_to}
use Rattle.bow_history.specs.Histories.{Disk}
use Rattle.bow_history.specs.Fits.{done_of, done_in, AreSeated, AreApart, AreInTurn, HasTally, IsAt, AgreesThere, AgreesInHand, Agrees}
use Rattle.bow_history.proofs.Leads.{Settles, DidWrite, DidRead, DidAnswer, Leads}
use Rattle.bow_history.proofs.Lists.{one_of}
use Rattle.bow_history.proofs.Buffers.{less_front, front_block, filled_front, filled_block, filled_long}
use Rattle.bow_history.proofs.Rows.{proper_write, open_phase}
use Rattle.bow_history.proofs.Seats.{lane_is, seated_with, in_turn_with, seated_without, in_turn_without, not_waiting}

-- an item, if there is one, from a place to the next
abbrev pub MaybeStep : Plan → Buffers → Option Item → Place → Place → Type 0
MaybeStep plan buffer None p q = q ≡ p
MaybeStep plan buffer (Some item) p q = ItemStep plan buffer item p q

-- the lane of an item
abbrev pub item_lane : Item → ℕ
item_lane (items.Wrote lane n b) = lane
item_lane (items.Got lane n b) = lane
item_lane (items.Answered lane n outcome) = lane

-- the item is of a lane with a request in hand
abbrev pub IsInHand : Session → Option Item → Type 0
IsInHand s None = Unit {0}
IsInHand s (Some item) = (t : Ticket) × (s.hand (item_lane item) ≡ Some t)

-- the session after it is at the next place, and buffers that agree with it agree with the one before it
pub record Advances (plan : Plan) (old new : Session) (d : Disk) (item : Option Item) (p : Place) (before : Disk) (f : Flat) (fine : Type 0) : Type 0 where
  pub place : Place
  pub step : (buffer : Buffers) → Agrees plan new buffer → MaybeStep plan buffer item p place
  pub agrees : (buffer : Buffers) → Agrees plan new buffer → Agrees plan old buffer
  pub in_hand : IsInHand old item
  pub at : IsAt plan new d place
  -- where the turn's call did not fail, what was led is led
  pub led : fine → IsLed plan.sizes old.memory before.now before.may f → IsLed plan.sizes new.memory d.now d.may at.flat

-- ----------------------------------------------------------------------------------------------------------------
-- What was asked for, and what is in hand.

pub for_write : (g : Geometry) (asked : Op) (e : Extent) (payload : List ℕ) → IsFor g asked (ops.Write e payload) → asked ≡ ops.Write e payload
for_write g (ops.Read x q) e payload is = absurd is
for_write g (ops.Write x q) e payload is = sym is
for_write g (ops.Discard x) e payload is = sym is
for_write g ops.Flush e payload is = sym is
for_write g ops.Prepare e payload is = sym is
for_write g ops.Commit e payload is = sym is

pub for_read : (g : Geometry) (asked : Op) (e : Extent) (payload : List ℕ) → IsFor g asked (ops.Read e payload) → (q : List ℕ) × (asked ≡ ops.Read e q) × (length payload ≡ e.count * g.block_size)
for_read g (ops.Read x q) e payload is = (q, ap (λ y. ops.Read y q) (sym is.0), is.1 ∙ ap (λ (y : Extent). y.count * g.block_size) (sym is.0))
for_read g (ops.Write x q) e payload is = absurd (let clash : ops.Read e payload ≡ ops.Write x q = is in grind arith)
for_read g (ops.Discard x) e payload is = absurd (let clash : ops.Read e payload ≡ ops.Discard x = is in grind arith)
for_read g ops.Flush e payload is = absurd (let clash : ops.Read e payload ≡ ops.Flush = is in grind arith)
for_read g ops.Prepare e payload is = absurd (let clash : ops.Read e payload ≡ ops.Prepare = is in grind arith)
for_read g ops.Commit e payload is = absurd (let clash : ops.Read e payload ≡ ops.Commit = is in grind arith)

-- a read with another buffer of its length is for the same
pub for_buffer : (g : Geometry) (asked : Op) (e : Extent) (old new : List ℕ) → length new ≡ e.count * g.block_size → IsFor g asked (ops.Read e old) → IsFor g asked (ops.Read e new)
for_buffer g (ops.Read x q) e old new long is = (is.0, long ∙ ap (λ (y : Extent). y.count * g.block_size) is.0)
for_buffer g (ops.Write x q) e old new long is = absurd (let clash : ops.Read e old ≡ ops.Write x q = is in grind arith)
for_buffer g (ops.Discard x) e old new long is = absurd (let clash : ops.Read e old ≡ ops.Discard x = is in grind arith)
for_buffer g ops.Flush e old new long is = absurd (let clash : ops.Read e old ≡ ops.Flush = is in grind arith)
for_buffer g ops.Prepare e old new long is = absurd (let clash : ops.Read e old ≡ ops.Prepare = is in grind arith)
for_buffer g ops.Commit e old new long is = absurd (let clash : ops.Read e old ≡ ops.Commit = is in grind arith)

-- it writes the same blocks
pub same_writes : (g : Geometry) (asked op : Op) (b : ℕ) → IsFor g asked op → writes op b ≡ writes asked b
same_writes g (ops.Read x q) (ops.Read y p) b is = refl
same_writes g (ops.Read x q) (ops.Write y p) b is = absurd is
same_writes g (ops.Read x q) (ops.Discard y) b is = absurd is
same_writes g (ops.Read x q) ops.Flush b is = absurd is
same_writes g (ops.Read x q) ops.Prepare b is = absurd is
same_writes g (ops.Read x q) ops.Commit b is = absurd is
same_writes g (ops.Write x q) op b is = ap (λ o. writes o b) is
same_writes g (ops.Discard x) op b is = ap (λ o. writes o b) is
same_writes g ops.Flush op b is = ap (λ o. writes o b) is
same_writes g ops.Prepare op b is = ap (λ o. writes o b) is
same_writes g ops.Commit op b is = ap (λ o. writes o b) is

-- and is answered by the same rows
pub row_for : (plan : Plan) (p : Place) (asked op : Op) (outcome : Outcome) (k : ℕ) (h : Flat) → IsFor plan.sizes asked op → Row plan p op outcome k h → Row plan p asked outcome k h
row_for plan p (ops.Read x q) (ops.Read y r) outcome k h is row = subst (λ z. ReadRow plan p z outcome k h) is.0 row
row_for plan p (ops.Read x q) (ops.Write y r) outcome k h is row = absurd is
row_for plan p (ops.Read x q) (ops.Discard y) outcome k h is row = absurd is
row_for plan p (ops.Read x q) ops.Flush outcome k h is row = absurd is
row_for plan p (ops.Read x q) ops.Prepare outcome k h is row = absurd is
row_for plan p (ops.Read x q) ops.Commit outcome k h is row = absurd is
row_for plan p (ops.Write x q) op outcome k h is row = subst (λ o. Row plan p o outcome k h) is row
row_for plan p (ops.Discard x) op outcome k h is row = subst (λ o. Row plan p o outcome k h) is row
row_for plan p ops.Flush op outcome k h is row = subst (λ o. Row plan p o outcome k h) is row
row_for plan p ops.Prepare op outcome k h is row = subst (λ o. Row plan p o outcome k h) is row
row_for plan p ops.Commit op outcome k h is row = subst (λ o. Row plan p o outcome k h) is row

pub holds_next : (e : Extent) (k : ℕ) → k < e.count → holds e (e.first + k) ≡ true
holds_next e k below = grind (arith, below)

-- ----------------------------------------------------------------------------------------------------------------
-- A step of the device.

module _ (plan : Plan) (s : Session) (d e : Disk) (p : Place) (k : IsAt plan s d p) (step : Step) (fine : Type 0)
    (keeps : IsStanding plan.sizes step.memory e.now e.may (after_all plan.sizes.blocks step.events k.flat))
    (led_step : fine → IsLed plan.sizes s.memory d.now d.may k.flat → IsLed plan.sizes step.memory e.now e.may (after_all plan.sizes.blocks step.events k.flat)) where
  abbrev pub n : ℕ
  n = plan.sizes.blocks

  abbrev pub size : ℕ
  size = plan.sizes.block_size

  abbrev pub m : Memory
  m = s.memory

  -- the lane that holds the ticket of a request
  pub record Holder (t : Ticket) (r : Request) : Type 0 where
    pub lane : ℕ
    pub has : s.hand lane ≡ Some t
    pub asked : Op
    pub next : plan.request lane (s.number lane) ≡ Some asked
    pub is : IsFor plan.sizes asked r.op
    pub found : lane_of s.hand t plan.lanes ≡ lane
    pub done : p.done lane ≡ r.done

  pub holder : (t : Ticket) (r : Request) → request_of t m.requests ≡ Some r → Holder t r
  holder t r waits =
      let l = k.seated.lanes t r waits in
      let seat = k.seated.each l.0 t l.1 in
      record {
        lane = l.0;
        has = l.1;
        asked = seat.asked;
        next = seat.next;
        is = subst (λ (x : Request). IsFor plan.sizes seat.asked x.op) (one_of (request_of t m.requests) seat.request r seat.waits waits) seat.is;
        found = lane_is s.hand t l.0 plan.lanes seat.inside l.1 (λ other has. k.seated.own l.0 other t l.1 has);
        done = k.done l.0 ∙ ap (done_in m.requests) l.1 ∙ ap done_of waits;
      }

  -- the session after a step of the device that told of no answer
  abbrev pub went : Session
  went = record s { memory = step.memory }

  -- what is still to be shown of the tally
  pub record Owes (q : Place) (hand : ℕ → Option Ticket) : Type 0 where
    pub tally : HasTally plan step.memory.kinds hand q step.memory.phase step.memory.log

  abbrev pub Goal : Told → Type 0
  Goal told = Advances plan s (told_to plan went told) e (item_of plan s told) p d k.flat fine

  -- what was led stays led
  settled_led : (j : Flat) (st : Settles plan m e k.flat p step j) → fine → IsLed plan.sizes s.memory d.now d.may k.flat → IsLed plan.sizes step.memory e.now e.may st.flat
  settled_led j st is led = elim (st.way) [
    | inl same ↦ subst (IsLed plan.sizes step.memory e.now e.may) (sym same) (led_step is led)
    | inr (at, same) ↦ subst (IsLed plan.sizes step.memory e.now e.may) (sym same) (deciding_stays_led plan.sizes step.memory e.now e.may (after_all n step.events k.flat) keeps at (led_step is led))
  ]

  -- a step that tells nothing
  abbrev quiet : step.memory.requests ≡ m.requests → Settles plan m e k.flat p step p.flat → Owes p s.hand → IsAt plan went e p
  quiet same settles owes = record {
    flat = settles.flat;
    stands = settles.stands;
    lags = settles.lags;
    number = k.number;
    done = λ lane. k.done lane ∙ ap (λ rs. done_in rs (s.hand lane)) (sym same);
    seated = subst (λ rs. AreSeated plan rs s.admitted s.number s.hand) (sym same) k.seated;
    in_turn = subst AreInTurn (sym same) k.in_turn;
    tally = owes.tally;
  }

  -- a request goes on: one block more of it is done
  module _ (t : Ticket) (r old : Request) (waits : request_of t m.requests ≡ Some old) (ticket : r.ticket ≡ old.ticket) (one : r.done ≡ old.done + 1) (requests : step.memory.requests ≡ with_request r m.requests)
      (same_for : (asked : Op) → IsFor plan.sizes asked old.op → IsFor plan.sizes asked r.op) (same_writes : (b : ℕ) → writes r.op b ≡ writes old.op b)
      (first : (u : Ticket) (q : Request) → request_of u m.requests ≡ Some q → u.serial < r.ticket.serial → AreApart q.op r.op) where
    mine : r.ticket ≡ t
    mine = ticket ∙ found_ticket t m.requests old waits

    was : request_of r.ticket m.requests ≡ Some old
    was = ap (λ u. request_of u m.requests) mine ∙ waits

    abbrev goes_on : (h : Holder t old) (j : Flat) → Settles plan m e k.flat p step j → Owes (record p { flat = j; done = put p.done h.lane (suc (p.done h.lane)) }) s.hand
        → IsAt plan went e (record p { flat = j; done = put p.done h.lane (suc (p.done h.lane)) })
    goes_on h j settles owes = record {
      flat = settles.flat;
      stands = settles.stands;
      lags = settles.lags;
      number = k.number;
      done = done;
      seated = subst (λ rs. AreSeated plan rs s.admitted s.number s.hand) (sym requests) (seated_with plan m.requests s.admitted s.number s.hand k.seated r old was same_for);
      in_turn = subst AreInTurn (sym requests) (in_turn_with plan m.requests s.admitted s.number s.hand k.seated r old was same_for same_writes first k.in_turn);
      tally = owes.tally;
    }
      where
        other : (lane : ℕ) → lane ≢ h.lane → (o : Option Ticket) → s.hand lane ≡ o → done_in m.requests o ≡ done_in (with_request r m.requests) o
        other lane ne None is = refl
        other lane ne (Some u) is = ap done_of (sym (of_with_other r u m.requests (λ same. ne (k.seated.own lane h.lane t (is ∙ ap Some (same ∙ mine)) h.has))))

        done : (lane : ℕ) → put p.done h.lane (suc (p.done h.lane)) lane ≡ done_in step.memory.requests (s.hand lane)
        done lane = elim (cases_eq lane h.lane) [
          | inl is ↦
              let here : done_in step.memory.requests (s.hand lane) ≡ r.done = ap (λ rs. done_in rs (s.hand lane)) requests ∙ ap (λ l. done_in (with_request r m.requests) (s.hand l)) is ∙ ap (done_in (with_request r m.requests)) (h.has ∙ ap Some (sym mine)) ∙ ap done_of (of_with r m.requests old was) in
              put_here p.done h.lane (suc (p.done h.lane)) lane is ∙ omega (arith, h.done, one) ∙ sym here
          | inr ne ↦ put_there p.done h.lane (suc (p.done h.lane)) lane ne ∙ k.done lane ∙ other lane ne (s.hand lane) refl ∙ ap (λ rs. done_in rs (s.hand lane)) (sym requests)
        ]

  -- no other lane is in the midst of a write of a block of this write
  alone : (t : Ticket) (r : Request) (extent : Extent) (payload : List ℕ) (h : Holder t r) → request_of t m.requests ≡ Some r → r.op ≡ ops.Write extent payload → is_waiting m r ≡ false
      → (b : ℕ) → holds extent b ≡ true → IsAlone plan p h.lane b
  alone t r extent payload h waits op first b here other ne begun asked next = elim (cases_Bool (writes asked b)) [ inl both ↦ absurd (go (s.hand other) refl both) | inr none ↦ none ]
    where
      mine : r.ticket ≡ t
      mine = found_ticket t m.requests r waits

      own : request_of r.ticket m.requests ≡ Some r
      own = ap (λ u. request_of u m.requests) mine ∙ waits

      go : (o : Option Ticket) → s.hand other ≡ o → writes asked b ≡ true → ⊥
      go None is both = absurd (let none = k.done other ∙ ap (done_in m.requests) is in omega (arith, none, begun))
      go (Some u) is both =
          let seat = k.seated.each other u is in
          let q = seat.request in
          let same : seat.asked ≡ asked = one_of (plan.request other (s.number other)) seat.asked asked seat.next (ap (plan.request other) (sym (k.number other)) ∙ next) in
          let its : writes q.op b ≡ true = same_writes plan.sizes seat.asked q.op b seat.is ∙ ap (λ o. writes o b) same ∙ both in
          let my : writes r.op b ≡ true = ap (λ o. writes o b) op ∙ here in
          let done : p.done other ≡ q.done = k.done other ∙ ap (done_in m.requests) is ∙ ap done_of seat.waits in
          let ticket : q.ticket ≡ u = found_ticket u m.requests q seat.waits in
          elim (cases_lt t.serial u.serial) [
            | inl before ↦ k.in_turn t u r q waits seat.waits before (omega (arith, done, begun)) b my its
            | inr not_before ↦ elim (cases_lt u.serial t.serial) [
              | inl after ↦ not_waiting m r q extent payload u own op first seat.waits (let e1 = ap (λ (v : Ticket). v.serial) ticket in let e2 = ap (λ (v : Ticket). v.serial) mine in omega (arith, after, e1, e2)) b its my
              | inr not_after ↦ ne (k.seated.own other h.lane t (is ∙ ap Some (k.seated.apart u t q r seat.waits waits (omega (arith, not_before, not_after)))) h.has)
            ]
          ]

  -- ----------------------------------------------------------------------------------------------------------------
  -- The buffers.

  agrees_quiet : step.memory.requests ≡ m.requests → (buffer : Buffers) → Agrees plan went buffer → Agrees plan s buffer
  agrees_quiet same buffer a = record { before = a.before; there = λ lane. subst (λ rs. AgreesInHand plan.sizes rs (buffer lane (s.number lane)) (s.hand lane)) same (a.there lane) }

  agrees_going : (t : Ticket) (r old : Request) (waits : request_of t m.requests ≡ Some old) → r.ticket ≡ old.ticket → step.memory.requests ≡ with_request r m.requests
      → ((bytes : List ℕ) → take (r.done * size) bytes ≡ take (r.done * size) (payload_of r.op) → take (old.done * size) bytes ≡ take (old.done * size) (payload_of old.op))
      → (buffer : Buffers) → Agrees plan went buffer → Agrees plan s buffer
  agrees_going t r old waits ticket requests front buffer a = record { before = a.before; there = λ lane. go lane (s.hand lane) (subst (λ rs. AgreesInHand plan.sizes rs (buffer lane (s.number lane)) (s.hand lane)) requests (a.there lane)) }
    where
      mine : r.ticket ≡ t
      mine = ticket ∙ found_ticket t m.requests old waits

      was : request_of r.ticket m.requests ≡ Some old
      was = ap (λ u. request_of u m.requests) mine ∙ waits

      go : (lane : ℕ) (o : Option Ticket) → AgreesInHand plan.sizes (with_request r m.requests) (buffer lane (s.number lane)) o → AgreesInHand plan.sizes m.requests (buffer lane (s.number lane)) o
      go lane None there = tt
      go lane (Some u) there = elim (ticket_cases u r.ticket) [
        | inl is ↦
            let new : request_of u (with_request r m.requests) ≡ Some r = ap (λ v. request_of v (with_request r m.requests)) is ∙ of_with r m.requests old was in
            let before : request_of u m.requests ≡ Some old = ap (λ v. request_of v m.requests) is ∙ was in
            subst (AgreesThere plan.sizes (buffer lane (s.number lane))) (sym before) (front (buffer lane (s.number lane)) (subst (AgreesThere plan.sizes (buffer lane (s.number lane))) new there))
        | inr ne ↦ subst (AgreesThere plan.sizes (buffer lane (s.number lane))) (of_with_other r u m.requests ne) there
      ]

  -- ----------------------------------------------------------------------------------------------------------------
  -- By what was told.

  module _ (t : Ticket) (i : ℕ) (w : DidWrite plan m e k.flat p step t i) where
    abbrev pub h : Holder t w.request
    h = holder t w.request w.waits

    abbrev extent : Extent
    extent = w.row.extent

    abbrev payload : List ℕ
    payload = w.row.payload

    abbrev pub wrote_to : Place
    wrote_to = record p { flat = after n (Writes (extent.first + i) (block_at size payload i)) p.flat; done = put p.done h.lane (suc (p.done h.lane)) }

    next_write : plan.request h.lane (s.number h.lane) ≡ Some (ops.Write extent payload)
    next_write = h.next ∙ ap Some (for_write plan.sizes h.asked extent payload (subst (IsFor plan.sizes h.asked) w.row.op h.is))

    passed : refusal plan.sizes m.phase (ops.Write extent payload) ≡ None
    passed = ap (refusal plan.sizes m.phase) (sym w.row.op) ∙ w.row.passed

    -- the block is the lane's next one
    is_next : i ≡ p.done h.lane
    is_next = w.row.next ∙ sym h.done

    wrote_item : (buffer : Buffers) → ItemStep plan buffer (items.Wrote h.lane (s.number h.lane) (first_in (plan.request h.lane (s.number h.lane)) + i)) p wrote_to
    wrote_item buffer = subst (λ o. ItemStep plan buffer (items.Wrote h.lane (s.number h.lane) (first_in o + i)) p wrote_to) (sym next_write) (
      sym (k.number h.lane),
      ops.Write extent payload,
      next_write,
      (
        proper_write plan.sizes m.phase extent payload passed,
        subst IsOpenPhase w.same (open_phase m.phase (write_inside plan.sizes m.phase extent payload passed).2),
        omega (arith, w.row.left, is_next),
        ap (λ k. extent.first + k) is_next,
        alone t w.request extent payload h w.waits w.row.op w.row.first (extent.first + i) (holds_next extent i w.row.left),
        ap (λ k. block_done plan h.lane (Writes (extent.first + i) (block_at size payload k)) p) is_next,
      ),
    )

    first_now : (u : Ticket) (q : Request) → request_of u m.requests ≡ Some q → u.serial < w.request.ticket.serial → AreApart q.op w.request.op
    first_now u q found less =
        let own : request_of w.request.ticket m.requests ≡ Some w.request = ap (λ u. request_of u m.requests) (found_ticket t m.requests w.request w.waits) ∙ w.waits in
        let ticket = ap (λ (v : Ticket). v.serial) (found_ticket u m.requests q found) in
        not_waiting m w.request q extent payload u own w.row.op w.row.first found (omega (arith, ticket, less))

    wrote_advances : Owes wrote_to s.hand → Goal (Wrote t i)
    wrote_advances owes = record {
      place = wrote_to;
      step = λ buffer agrees. subst (λ l. ItemStep plan buffer (items.Wrote l (s.number l) (first_in (plan.request l (s.number l)) + i)) p wrote_to) (sym h.found) (wrote_item buffer);
      agrees = λ buffer agrees. agrees_going t (record w.request { done = w.request.done + 1 }) w.request w.waits refl w.row.goes_on (λ bytes same. less_front size w.request.done bytes (payload_of w.request.op) same) buffer agrees;
      in_hand = (t, ap s.hand h.found ∙ h.has);
      at = goes_on t (record w.request { done = w.request.done + 1 }) w.request w.waits refl refl w.row.goes_on (λ asked is. is) (λ b. refl) first_now h _ w.settles owes;
      led = settled_led _ w.settles;
    }

  module _ (t : Ticket) (i : ℕ) (w : DidRead plan m e k.flat p step t i) where
    abbrev pub r : Request
    r = w.request

    abbrev pub hr : Holder t w.request
    hr = holder t w.request w.waits

    abbrev from : Extent
    from = w.row.extent

    abbrev content : List ℕ
    content = w.row.content

    -- the buffer with what was read
    abbrev with_content : List ℕ
    with_content = filled size w.row.payload i content

    abbrev read : Request
    read = record w.request { op = ops.Read from with_content; done = w.request.done + 1 }

    abbrev pub got_to : Place
    got_to = record p { flat = after n (Reads (from.first + i) content) p.flat; done = put p.done hr.lane (suc (p.done hr.lane)) }

    asked_read : (q : List ℕ) × (hr.asked ≡ ops.Read from q) × (length w.row.payload ≡ from.count * size)
    asked_read = for_read plan.sizes hr.asked from w.row.payload (subst (IsFor plan.sizes hr.asked) w.row.op hr.is)

    next_read : plan.request hr.lane (s.number hr.lane) ≡ Some (ops.Read from asked_read.0)
    next_read = hr.next ∙ ap Some asked_read.1

    is_next_read : i ≡ p.done hr.lane
    is_next_read = w.row.next ∙ sym hr.done

    in_buffer : (buffer : List ℕ) → take ((r.done + 1) * size) buffer ≡ take ((r.done + 1) * size) with_content → block_at size buffer r.done ≡ content
    in_buffer buffer same = front_block size r.done buffer with_content same ∙ ap (block_at size with_content) (sym w.row.next) ∙ filled_block size from.count i w.row.payload content asked_read.2 w.row.left w.row.whole

    found_read : request_of t step.memory.requests ≡ Some read
    found_read =
        let mine : r.ticket ≡ t = found_ticket t m.requests r w.waits in
        ap (request_of t) w.row.goes_on ∙ ap (λ u. request_of u (with_request read m.requests)) (sym mine) ∙ of_with read m.requests r (ap (λ u. request_of u m.requests) mine ∙ w.waits)

    agrees_read : (buffer : List ℕ) → AgreesInHand plan.sizes step.memory.requests buffer (s.hand hr.lane) → take ((r.done + 1) * size) buffer ≡ take ((r.done + 1) * size) with_content
    agrees_read buffer a = subst (AgreesThere plan.sizes buffer) found_read (subst (AgreesInHand plan.sizes step.memory.requests buffer) hr.has a)

    got_item : (buffer : Buffers) → Agrees plan went buffer → ItemStep plan buffer (items.Got hr.lane (s.number hr.lane) (first_in (plan.request hr.lane (s.number hr.lane)) + i)) p got_to
    got_item buffer agrees =
        let has : block_at size (buffer hr.lane (p.number hr.lane)) (p.done hr.lane) ≡ content =
        ap (λ x. block_at size (buffer hr.lane x) (p.done hr.lane)) (k.number hr.lane) ∙ ap (block_at size (buffer hr.lane (s.number hr.lane))) hr.done ∙ in_buffer (buffer hr.lane (s.number hr.lane)) (agrees_read _ (agrees.there hr.lane)) in
        subst (λ o. ItemStep plan buffer (items.Got hr.lane (s.number hr.lane) (first_in o + i)) p got_to) (sym next_read) (
          sym (k.number hr.lane),
          ops.Read from asked_read.0,
          next_read,
          (
            w.inside,
            omega (arith, w.row.left, is_next_read),
            ap (λ k. from.first + k) is_next_read,
            subst (λ v. Allows n (Reads (from.first + i) v) p.flat) (sym has) w.allowed,
            ap (λ v. block_done plan hr.lane (Reads (from.first + i) v) p) (sym has),
          ),
        )

    same_read : (asked : Op) → IsFor plan.sizes asked r.op → IsFor plan.sizes asked read.op
    same_read asked is = for_buffer plan.sizes asked from w.row.payload with_content (filled_long size from.count i w.row.payload content asked_read.2 w.row.left w.row.whole) (subst (IsFor plan.sizes asked) w.row.op is)

    read_front : (bytes : List ℕ) → take ((r.done + 1) * size) bytes ≡ take ((r.done + 1) * size) with_content → take (r.done * size) bytes ≡ take (r.done * size) (payload_of r.op)
    read_front bytes same = less_front size r.done bytes with_content same
        ∙ subst (λ k. take (k * size) with_content ≡ take (k * size) w.row.payload) w.row.next (filled_front size from.count i w.row.payload content asked_read.2 w.row.left w.row.whole) ∙ ap (λ o. take (r.done * size) (payload_of o)) (sym w.row.op)

    got_advances : Owes got_to s.hand → Goal (Got t i)
    got_advances owes = record {
      place = got_to;
      step = λ buffer agrees. subst (λ l. ItemStep plan buffer (items.Got l (s.number l) (first_in (plan.request l (s.number l)) + i)) p got_to) (sym hr.found) (got_item buffer agrees);
      agrees = λ buffer agrees. agrees_going t read r w.waits refl w.row.goes_on read_front buffer agrees;
      in_hand = (t, ap s.hand hr.found ∙ hr.has);
      at = goes_on t read r w.waits refl refl w.row.goes_on same_read (λ b. sym (ap (λ o. writes o b) w.row.op)) (λ u q found less b one two. false≢true two) hr _ w.settles owes;
      led = settled_led _ w.settles;
    }

  module _ (t : Ticket) (op : Op) (outcome : Outcome) (w : DidAnswer plan m e k.flat p step t op outcome) where
    abbrev pub ha : Holder t w.request
    ha = holder t w.request w.waits

    abbrev pub answered_to : Place
    answered_to = answered plan ha.lane ha.asked outcome w.flat p

    answered_item : (buffer : Buffers) → ItemStep plan buffer (items.Answered ha.lane (s.number ha.lane) outcome) p answered_to
    answered_item buffer = (
      sym (k.number ha.lane),
      ha.asked,
      ha.next,
      w.flat,
      subst (λ x. Row plan p ha.asked outcome x w.flat) (sym ha.done) (row_for plan p ha.asked w.request.op outcome w.request.done w.flat ha.is w.row),
      refl,
    )

    abbrev answered_at : Owes answered_to (put s.hand ha.lane None) → IsAt plan (answered_in went ha.lane op) e answered_to
    answered_at owes = record {
      flat = w.settles.flat;
      stands = w.settles.stands;
      lags = w.settles.lags;
      number = number;
      done = done;
      seated = subst (λ rs. AreSeated plan rs s.admitted (put s.number ha.lane (suc (s.number ha.lane))) (put s.hand ha.lane None)) (sym w.requests) (seated_without plan m.requests s.admitted s.number s.hand k.seated t ha.lane ha.has);
      in_turn = subst AreInTurn (sym w.requests) (in_turn_without plan m.requests s.admitted s.number s.hand k.seated t ha.lane ha.has k.in_turn);
      tally = owes.tally;
    }
      where
        number : (lane : ℕ) → put p.number ha.lane (suc (p.number ha.lane)) lane ≡ put s.number ha.lane (suc (s.number ha.lane)) lane
        number lane = elim (cases_eq lane ha.lane) [
          | inl is ↦ put_here p.number ha.lane (suc (p.number ha.lane)) lane is ∙ ap suc (k.number ha.lane) ∙ sym (put_here s.number ha.lane (suc (s.number ha.lane)) lane is)
          | inr ne ↦ put_there p.number ha.lane (suc (p.number ha.lane)) lane ne ∙ k.number lane ∙ sym (put_there s.number ha.lane (suc (s.number ha.lane)) lane ne)
        ]

        other : (lane : ℕ) → lane ≢ ha.lane → (o : Option Ticket) → s.hand lane ≡ o → done_in m.requests o ≡ done_in (without_request t m.requests) o
        other lane ne None is = refl
        other lane ne (Some u) is = ap done_of (sym (of_without t u m.requests (λ same. ne (k.seated.own lane ha.lane t (is ∙ ap Some same) ha.has))))

        done : (lane : ℕ) → put p.done ha.lane 0 lane ≡ done_in step.memory.requests (put s.hand ha.lane None lane)
        done lane = elim (cases_eq lane ha.lane) [
          | inl is ↦ put_here p.done ha.lane 0 lane is ∙ ap (done_in step.memory.requests) (sym (put_here s.hand ha.lane None lane is))
          | inr ne ↦ put_there p.done ha.lane 0 lane ne ∙ k.done lane ∙ other lane ne (s.hand lane) refl ∙ ap (λ rs. done_in rs (s.hand lane)) (sym w.requests) ∙ ap (done_in step.memory.requests) (sym (put_there s.hand ha.lane None lane ne))
        ]

    agrees_answered : (buffer : Buffers) → Agrees plan (answered_in went ha.lane op) buffer → Agrees plan s buffer
    agrees_answered buffer a = record { before = before; there = λ lane. elim (cases_eq lane ha.lane) [ inl is ↦ subst (λ l. AgreesInHand plan.sizes m.requests (buffer l (s.number l)) (s.hand l)) (sym is) here | inr ne ↦ there lane ne ] }
      where
        number : ℕ → ℕ
        number = put s.number ha.lane (suc (s.number ha.lane))

        kept : ℕ → ℕ → List ℕ
        kept = put s.kept ha.lane (put (s.kept ha.lane) (s.number ha.lane) (payload_of op))

        before : (lane x : ℕ) → x < s.number lane → buffer lane x ≡ s.kept lane x
        before lane x below = elim (cases_eq lane ha.lane) [
          | inl is ↦
              let new : put s.number ha.lane (suc (s.number ha.lane)) lane ≡ suc (s.number ha.lane) = put_here s.number ha.lane (suc (s.number ha.lane)) lane is in
              let old : s.number lane ≡ s.number ha.lane = ap s.number is in
              a.before lane x (omega (arith, below, new, old))
              ∙ ap (λ (f : ℕ → List ℕ). f x) (put_here s.kept ha.lane (put (s.kept ha.lane) (s.number ha.lane) (payload_of op)) lane is)
              ∙ put_there (s.kept ha.lane) (s.number ha.lane) (payload_of op) x (λ same. omega (arith, same, below, old)) ∙ ap (λ l. s.kept l x) (sym is)
          | inr ne ↦
              a.before lane x (subst (λ y. x < y) (sym (put_there s.number ha.lane (suc (s.number ha.lane)) lane ne)) below)
              ∙ ap (λ (f : ℕ → List ℕ). f x) (put_there s.kept ha.lane (put (s.kept ha.lane) (s.number ha.lane) (payload_of op)) lane ne)
        ]

        whole : buffer ha.lane (s.number ha.lane) ≡ payload_of w.request.op
        whole =
            let new : put s.number ha.lane (suc (s.number ha.lane)) ha.lane ≡ suc (s.number ha.lane) = put_here s.number ha.lane (suc (s.number ha.lane)) ha.lane refl in
            a.before ha.lane (s.number ha.lane) (omega (arith, new))
            ∙ ap (λ (f : ℕ → List ℕ). f (s.number ha.lane)) (put_here s.kept ha.lane (put (s.kept ha.lane) (s.number ha.lane) (payload_of op)) ha.lane refl)
            ∙ put_here (s.kept ha.lane) (s.number ha.lane) (payload_of op) (s.number ha.lane) refl ∙ ap payload_of w.is

        here : AgreesInHand plan.sizes m.requests (buffer ha.lane (s.number ha.lane)) (s.hand ha.lane)
        here = subst (AgreesInHand plan.sizes m.requests (buffer ha.lane (s.number ha.lane))) (sym ha.has) (subst (AgreesThere plan.sizes (buffer ha.lane (s.number ha.lane))) (sym w.waits) (ap (take (w.request.done * size)) whole))

        still : (lane : ℕ) → lane ≢ ha.lane → (o : Option Ticket) → s.hand lane ≡ o → (bytes : List ℕ) → AgreesInHand plan.sizes (without_request t m.requests) bytes o → AgreesInHand plan.sizes m.requests bytes o
        still lane ne None is bytes h = tt
        still lane ne (Some u) is bytes h = subst (AgreesThere plan.sizes bytes) (of_without t u m.requests (λ same. ne (k.seated.own lane ha.lane t (is ∙ ap Some same) ha.has))) h

        there : (lane : ℕ) → lane ≢ ha.lane → AgreesInHand plan.sizes m.requests (buffer lane (s.number lane)) (s.hand lane)
        there lane ne = still lane ne (s.hand lane) refl (buffer lane (s.number lane))
            (subst (λ x. AgreesInHand plan.sizes (without_request t m.requests) (buffer lane x) (s.hand lane)) (put_there s.number ha.lane (suc (s.number ha.lane)) lane ne)
            (subst (AgreesInHand plan.sizes (without_request t m.requests) (buffer lane (put s.number ha.lane (suc (s.number ha.lane)) lane))) (put_there s.hand ha.lane None lane ne)
            (subst (λ rs. AgreesInHand plan.sizes rs (buffer lane (put s.number ha.lane (suc (s.number ha.lane)) lane)) (put s.hand ha.lane None lane)) w.requests (a.there lane))))

    answered_advances : Owes answered_to (put s.hand ha.lane None) → Goal (Answered t op outcome)
    answered_advances owes =
        subst (λ l. Advances plan s (answered_in went l op) e (Some (items.Answered l (s.number l) outcome)) p d k.flat fine) (sym ha.found)
        (record { place = answered_to; step = λ buffer agrees. answered_item buffer; agrees = agrees_answered; in_hand = (t, ha.has); at = answered_at owes; led = settled_led w.flat w.settles })

  -- what is still to be shown, by what was told
  abbrev pub OwesFor : (told : Told) → Leads plan m e k.flat p step told → Type 0
  OwesFor Idle w = Owes p s.hand
  OwesFor Moved w = Owes p s.hand
  OwesFor (Wrote t i) w = Owes (wrote_to t i w) s.hand
  OwesFor (Got t i) w = Owes (got_to t i w) s.hand
  OwesFor (Answered t op outcome) w = Owes (answered_to t op outcome w) (put s.hand (ha t op outcome w).lane None)

  pub advances : (told : Told) (w : Leads plan m e k.flat p step told) → OwesFor told w → Goal told
  advances Idle w owes = record { place = p; step = λ buffer agrees. refl; agrees = agrees_quiet w.0; in_hand = tt; at = quiet w.0 w.1 owes; led = settled_led p.flat w.1 }
  advances Moved w owes = record { place = p; step = λ buffer agrees. refl; agrees = agrees_quiet w.0; in_hand = tt; at = quiet w.0 w.1 owes; led = settled_led p.flat w.1 }
  advances (Wrote t i) w owes = wrote_advances t i w owes
  advances (Got t i) w owes = got_advances t i w owes
  advances (Answered t op outcome) w owes = answered_advances t op outcome w owes
