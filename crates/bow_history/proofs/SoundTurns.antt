-- Each turn keeps a session sound, over any disk; and its journal goes in order and section by section.
use Rattle.std.specs.List.{AllByRecursion as Each}
use Rattle.std.proofs.Common.{ℕ, suc, ◌+◌, ◌*◌, ◌≡◌, List, [], ◌∷◌, length, Option, Some, None, arith, refl, sym, ap, ◌∙◌}
use Rattle.std.proofs.Common.{cond, subst}
use Rattle.bow_units.specs.declared.requests.Op.{Op}
use Rattle.bow_units.specs.declared.requests.Op.TheVariants as ops
use Rattle.bow_flat.specs.Flat.{Event, put}
use Rattle.bow_queue.specs.declared.tickets.Ticket.{Ticket}
use Rattle.bow_machine.specs.Requests.{Request, request_of, filled}
use Rattle.bow_machine.specs.Memory.{Memory}
use Rattle.bow_machine.specs.Calls.{Reply}
use Rattle.bow_machine.specs.Tasks.{task_of}
use Rattle.bow_machine.specs.declared.turns.Turn.{Turn}
use Rattle.bow_machine.specs.Steps.{Told, Idle, Moved, Wrote, Got, Answered, Step, call_of}
use Rattle.bow_machine.specs.MemoryIsSound.{IsWaiting, MemoryIsSound}
use Rattle.bow_machine.specs.MemoryLaws.{CanHaveIt}
use Rattle.bow_machine.specs.Told.{IsGot, ToldRow}
use Rattle.bow_machine.proofs.RequestLists.{same_itself, found_ticket, of_with}
use Rattle.bow_machine.proofs.SoundLists.{found_waiting, own_tickets}
use Rattle.bow_machine.proofs.SoundOpenings.{admit_keeps_sound}
use Rattle.bow_machine.proofs.SoundSteps.{step_keeps_sound}
use Rattle.bow_machine.proofs.SoundTold.{steps_tell_so}
use Rattle.bow_history.specs.declared.items.Item.{Item}
use Rattle.bow_history.specs.Journal.{Plan}
use Rattle.bow_history.specs.Sessions.{Session, begun, Turned, Admits, Steps, turn_of, device_step, lane_of, item_of, item_of_turn}
use Rattle.bow_machine.specs.Steps.{unknown}
use Rattle.bow_history.specs.Sessions.{item_in, told_to, after_step, after_turn_of, after_turn, IsFor, IsTurn}
use Rattle.bow_history.specs.Sessions.{call_of_turn}
use Rattle.bow_history.specs.Histories.{session_after, journal_of, with_items}
use Rattle.bow_history.specs.Fits.{AreSeated}
use Rattle.bow_history.specs.Sections.{SectionsRise, InSections, IsFrom}
use Rattle.bow_history.specs.SoundSessions.{IsSoundSession, BeginningIsSound, TurnsKeepSound, RunsKeepSound}
use Rattle.bow_history.specs.Complete.{AreInOrder, RunsGoInOrder, OverIsEmpty, RunsAreComplete}
use Rattle.bow_history.proofs.Lists.{none_some, serials_below}
use Rattle.bow_history.proofs.Seats.{lane_is, seated_push, seated_with, seated_without}
use Rattle.bow_history.proofs.Sectioned.{low_after, GoesOn, turn_goes, then_sections}
use Rattle.bow_history.proofs.Turns.{IsInHand, for_buffer}

-- ----------------------------------------------------------------------------------------------------------------
-- A step of the device.

module _ (plan : Plan) (s : Session) (k : IsSoundSession plan s) (turn : Turn) (reply : Reply)
    (can : CanHaveIt plan.sizes (call_of plan.sizes s.memory (task_of plan.sizes s.memory turn)) reply) where
  abbrev step : Step
  step = device_step plan.sizes s.memory turn reply

  pub row : ToldRow plan.sizes unknown s.memory step.told step.events step.memory.requests
  row = steps_tell_so plan.sizes s.memory turn reply unknown k.memory can

  pub sound_memory : MemoryIsSound plan.sizes step.memory
  sound_memory = step_keeps_sound plan.sizes s.memory turn reply unknown k.memory can

  abbrev requests : List Request
  requests = s.memory.requests

  -- the lane of a request that waits
  pub lane_has : (t : Ticket) (r : Request) → request_of t requests ≡ Some r → s.hand (lane_of s.hand t plan.lanes) ≡ Some t
  lane_has t r waits =
      let l = k.seated.lanes t r waits in
      let found = lane_is s.hand t l.0 plan.lanes (k.seated.each l.0 t l.1).inside l.1 (λ other has. k.seated.own l.0 other t l.1 has) in
      ap s.hand found ∙ l.1

  -- seated, after this was told
  abbrev SeatedTo : Told → Memory → Type 0
  SeatedTo told m = AreSeated plan (told_to plan (record s { memory = m }) told).memory.requests (told_to plan (record s { memory = m }) told).admitted (told_to plan (record s { memory = m }) told).number (told_to plan (record s { memory = m }) told).hand

  module _ (t : Ticket) (r : Request) (waits : request_of t requests ≡ Some r) where
    mine : request_of r.ticket requests ≡ Some r
    mine = ap (λ u. request_of u requests) (found_ticket t requests r waits) ∙ waits

    -- a read goes on with a buffer of its length
    read_for : (i : ℕ) (events : List Event) (after : List Request) → Each (IsWaiting plan.sizes) after → (w : IsGot plan.sizes s.memory r i events after)
        → (asked : Op) → IsFor plan.sizes asked r.op → IsFor plan.sizes asked (ops.Read w.extent (filled plan.sizes.block_size w.payload i w.content))
    read_for i events after each w asked is = for_buffer plan.sizes asked w.extent w.payload new_buffer whole (subst (IsFor plan.sizes asked) w.op is)
      where
        new_buffer : List ℕ
        new_buffer = filled plan.sizes.block_size w.payload i w.content

        new : Request
        new = record r { op = ops.Read w.extent (filled plan.sizes.block_size w.payload i w.content); done = r.done + 1 }

        found : request_of r.ticket after ≡ Some new
        found = ap (request_of r.ticket) w.goes_on ∙ of_with new requests r mine

        whole : length (filled plan.sizes.block_size w.payload i w.content) ≡ w.extent.count * plan.sizes.block_size
        whole = (found_waiting plan.sizes r.ticket after new each found).op.whole

  told_seated : (told : Told) (events : List Event) (m : Memory) → Each (IsWaiting plan.sizes) m.requests
      → ToldRow plan.sizes unknown s.memory told events m.requests → SeatedTo told m
  told_seated Idle events m each same = subst (λ rs. AreSeated plan rs s.admitted s.number s.hand) (sym same.1) k.seated
  told_seated Moved events m each same = subst (λ rs. AreSeated plan rs s.admitted s.number s.hand) (sym same.1) k.seated
  told_seated (Wrote t i) events m each (r, waits, w) =
      subst (λ rs. AreSeated plan rs s.admitted s.number s.hand) (sym w.goes_on)
      (seated_with plan requests s.admitted s.number s.hand k.seated (record r { done = r.done + 1 }) r (mine t r waits) (λ asked is. is))
  told_seated (Got t i) events m each (r, waits, w) =
      subst (λ rs. AreSeated plan rs s.admitted s.number s.hand) (sym w.goes_on)
      (seated_with plan requests s.admitted s.number s.hand k.seated (record r { op = ops.Read w.extent (filled plan.sizes.block_size w.payload i w.content); done = r.done + 1 }) r (mine t r waits)
      (read_for t r waits i events m.requests each w))
  told_seated (Answered t op outcome) events m each (r, waits, of_it) =
      let lane = lane_of s.hand t plan.lanes in
      let gone = of_it.2 in
      subst (λ rs. AreSeated plan rs s.admitted (put s.number lane (suc (s.number lane))) (put s.hand lane None)) (sym gone)
      (seated_without plan requests s.admitted s.number s.hand k.seated t lane (lane_has t r waits))

  told_in_hand : (told : Told) (events : List Event) (after : List Request) → ToldRow plan.sizes unknown s.memory told events after
      → IsInHand s (item_of plan s told)
  told_in_hand Idle events after same = tt
  told_in_hand Moved events after same = tt
  told_in_hand (Wrote t i) events after (r, waits, w) = (t, lane_has t r waits)
  told_in_hand (Got t i) events after (r, waits, w) = (t, lane_has t r waits)
  told_in_hand (Answered t op outcome) events after (r, waits, w) = (t, lane_has t r waits)

  pub in_hand : IsInHand s (item_of plan s step.told)
  in_hand = told_in_hand step.told step.events step.memory.requests row

  told_memory : (m : Memory) (told : Told) → (told_to plan (record s { memory = m }) told).memory ≡ m
  told_memory m Idle = refl
  told_memory m Moved = refl
  told_memory m (Wrote t i) = refl
  told_memory m (Got t i) = refl
  told_memory m (Answered t op outcome) = refl

  pub after_sound : MemoryIsSound plan.sizes (after_step plan s step).memory
  after_sound = subst (MemoryIsSound plan.sizes) (sym (told_memory step.memory step.told)) sound_memory

  pub after_seated : AreSeated plan (after_step plan s step).memory.requests (after_step plan s step).admitted (after_step plan s step).number (after_step plan s step).hand
  after_seated = told_seated step.told step.events step.memory sound_memory.requests row

-- ----------------------------------------------------------------------------------------------------------------
-- A turn.

module _ (plan : Plan) (s : Session) (rise : SectionsRise plan) (k : IsSoundSession plan s) where
  turn_in_hand : (turn : Turned) → IsTurn plan s turn → IsInHand s (item_in plan s turn)
  turn_in_hand (Admits lane ticket op) is = tt
  turn_in_hand (Steps actor reply) is = go (turn_of s actor) is.1
    where
      go : (o : Option Turn) → CanHaveIt plan.sizes (call_of_turn plan s o) reply → IsInHand s (item_of_turn plan s o reply)
      go None can = tt
      go (Some turn) can = in_hand plan s k turn reply can

  goes_from : (low : ℕ) → IsFrom plan s low → (turn : Turned) → IsTurn plan s turn → GoesOn plan (after_turn plan s turn) low (item_in plan s turn)
  goes_from low from turn is = turn_goes plan rise s k.seated low k.present from turn is (turn_in_hand turn is)

  turn_keeps : (turn : Turned) → IsTurn plan s turn → IsSoundSession plan (after_turn plan s turn)
  turn_keeps (Admits lane ticket op) is = record {
    memory = admit_keeps_sound plan.sizes s.memory (record { ticket = ticket; op = op; done = 0 }) is.whole refl
        (serials_below s.memory.requests ticket (λ t r found. let low = k.seated.serials t r found in omega (arith, low, is.serial)) (own_tickets s.memory.requests k.memory.rising))
        is.place k.memory;
    seated = seated_push plan s.memory.requests s.admitted s.number s.hand k.seated (record { ticket = ticket; op = op; done = 0 }) lane is.asked is.inside is.free is.next is.is is.serial;
    present = (goes_from 0 (λ l o next. omega arith) (Admits lane ticket op) is).sections;
  }
  turn_keeps (Steps actor reply) is = go (turn_of s actor) is.1 (goes_from 0 (λ l o next. omega arith) (Steps actor reply) is).sections
    where
      go : (o : Option Turn) → CanHaveIt plan.sizes (call_of_turn plan s o) reply → InSections plan (after_turn_of plan s o reply) → IsSoundSession plan (after_turn_of plan s o reply)
      go None can present = k
      go (Some turn) can present = record { memory = after_sound plan s k turn reply can; seated = after_seated plan s k turn reply can; present = present }

pub turns_keep_sound : TurnsKeepSound
turns_keep_sound plan s turn rise k is = turn_keeps plan s rise k turn is

pub runs_keep_sound : RunsKeepSound
runs_keep_sound plan s [] rise k may = k
runs_keep_sound plan s (turn ∷ turns) rise k may = runs_keep_sound plan (after_turn plan s turn) turns rise (turn_keeps plan s rise k turn may.0) may.1

pub beginning_is_sound : BeginningIsSound
beginning_is_sound plan m admitted sound none = record {
  memory = sound;
  seated = record {
    each = λ lane t has. absurd (grind (arith, has));
    own = λ lane other t has both. absurd (grind (arith, has));
    lanes = λ t r found. absurd (none_some (request_of t m.requests) r (nothing t) found);
    serials = λ t r found. absurd (none_some (request_of t m.requests) r (nothing t) found);
    apart = λ t u r q found both same. absurd (none_some (request_of t m.requests) r (nothing t) found);
  };
  present = λ lane some. absurd (some refl);
}
  where
    nothing : (t : Ticket) → request_of t m.requests ≡ None
    nothing t = ap (request_of t) none

-- ----------------------------------------------------------------------------------------------------------------
-- In order.

-- the numbers after a turn, by the item that it made
item_in_order : (plan : Plan) (s : Session) (m : Memory) (told : Told) (later : List Item) (last : ℕ → ℕ)
    → AreInOrder (told_to plan (record s { memory = m }) told).number later last
    → AreInOrder s.number (with_items (item_of plan s told) later) last
item_in_order plan s m Idle later last rest = rest
item_in_order plan s m Moved later last rest = rest
item_in_order plan s m (Wrote t i) later last rest = (refl, rest)
item_in_order plan s m (Got t i) later last rest = (refl, rest)
item_in_order plan s m (Answered t op outcome) later last rest = (refl, rest)

turn_in_order : (plan : Plan) (s : Session) (turn : Turned) (later : List Item) (last : ℕ → ℕ)
    → AreInOrder (after_turn plan s turn).number later last
    → AreInOrder s.number (with_items (item_in plan s turn) later) last
turn_in_order plan s (Admits lane ticket op) later last rest = rest
turn_in_order plan s (Steps actor reply) later last rest = go (turn_of s actor) rest
  where
    go : (o : Option Turn) → AreInOrder (after_turn_of plan s o reply).number later last → AreInOrder s.number (with_items (item_of_turn plan s o reply) later) last
    go None rest = rest
    go (Some turn) rest = item_in_order plan s (device_step plan.sizes s.memory turn reply).memory (device_step plan.sizes s.memory turn reply).told later last rest

pub runs_go_in_order : RunsGoInOrder
runs_go_in_order plan s [] low rise k may from = ((λ lane. refl), tt)
runs_go_in_order plan s (turn ∷ turns) low rise k may from =
    let goes = goes_from plan s rise k low from turn may.0 in
    let rest = runs_go_in_order plan (after_turn plan s turn) turns (low_after plan low (item_in plan s turn)) rise (turn_keeps plan s rise k turn may.0) may.1 goes.from in (
      turn_in_order plan s turn (journal_of plan (after_turn plan s turn) turns) (session_after plan s (turn ∷ turns)).number rest.0,
      then_sections plan low (item_in plan s turn) (journal_of plan (after_turn plan s turn) turns) goes.not_before rest.1,
    )

pub over_is_empty : OverIsEmpty
over_is_empty plan s k over = go s.memory.requests refl
  where
    go : (rs : List Request) → s.memory.requests ≡ rs → s.memory.requests ≡ []
    go [] is = is
    go (x ∷ xs) is =
        let found : request_of x.ticket s.memory.requests ≡ Some x = ap (request_of x.ticket) is ∙ ap (λ t. cond t (Some x) (request_of x.ticket xs)) (same_itself x.ticket) in
        let l = k.seated.lanes x.ticket x found in
        let seat = k.seated.each l.0 x.ticket l.1 in
        absurd (none_some (plan.request l.0 (s.number l.0)) seat.asked (over l.0 seat.inside) seat.next)

pub runs_are_complete : RunsAreComplete
runs_are_complete plan m admitted turns rise sound none may over =
    let start = begun m admitted in
    let order = runs_go_in_order plan start turns 0 rise (beginning_is_sound plan m admitted sound none) may (λ lane op next. omega arith) in
    record { last = (session_after plan start turns).number; in_order = order.0; none_left = over; sections = order.1 }
