-- A desk takes the next request of a ready lane in: what its calls want, and the desk that is left.
use Rattle.std.proofs.Common.{◌≡◌, ℕ, ◌+◌, ◌<◌, List, ◌∷◌, length, Option, Some, None, true, arith, sym, ap, ◌∙◌, subst}
use Rattle.std.specs.Prelude.{get_or, slice_get, slice_set}
use Rattle.std.specs.Option.{option_map}
use Rattle.bow_units.specs.declared.sizes.Geometry.{Geometry}
use Rattle.bow_units.specs.declared.requests.Op.{Op}
use Rattle.bow_disk.specs.Disk.{Content}
use Rattle.bow_queue.specs.declared.tickets.Ticket.{Ticket}
use Rattle.bow_machine.specs.MemoryIsSound.{IsAdmissible}
use Rattle.bow_machine.specs.Steps.{extent_of}
use Rattle.bow_core.specs.Views.{View}
use Rattle.bow_script.specs.declared.scripts.Line.{Line}
use Rattle.bow_history.specs.declared.items.Actor.TheVariants.{Lane as LaneActor}
use Rattle.bow_history.specs.Ready.{is_actor_ready}
use Rattle.bow_history.specs.Sessions.{taken_in}
use Rattle.bow_history.proofs.Lists.{one_of}
use Rattle.bow_session.specs.declared.desks.Desk.{Desk}
use Rattle.bow_session.specs.declared.records.Records.{Records}
use Rattle.bow_session.specs.declared.seats.Asked.{Asked}
use Rattle.bow_session.specs.declared.seats.Hand.{Hand}
use Rattle.bow_session.specs.declared.seats.Seat.{Seat}
use Rattle.bow_session.specs.Buffers.{HasBuffers, IsAskable, IsKeptFor, lent_to, with_buffer, without_lent}
use Rattle.bow_session.specs.Desks.{Fits, run_of}
use Rattle.bow_session.specs.Requests.{lane_lines, request_of, requests_in}
use Rattle.bow_session.specs.Seats.{IsNext, lent_with}
use Rattle.bow_session.specs.Sessions.{plan_in, state_in}
use Rattle.bow_session.specs.Turns.{StepsBy}
use Rattle.bow_session.proofs.Admitted.{admit_fits, admit_turn, has_room, next, no_hand, none_left, not_empty, seat_here}
use Rattle.bow_session.proofs.Filled.{made_whole}

module _ {D R : Type 0} (s : Desk D R) (k : Fits s) (lane : ℕ) (ready : is_actor_ready (plan_in (run_of s)) (state_in (run_of s)) (LaneActor lane) ≡ true) (free : (state_in (run_of s)).hand lane ≡ None)
    (seat : Seat) (value : seat ≡ get_or s.records.seats.items lane seat) where
  seated : slice_get s.records.seats.items lane ≡ Some seat
  seated = seat_here s k lane ready seat value

  -- a request is left
  pub never_empty : length seat.pending.items ≡ 0 → ⊥
  never_empty none = not_empty s.core.geometry s.script s.core.memory s.core.admitted s.records.seats.items lane seat k.sound seated ready free (requests_in s.script) k.seats (none_left seat.pending.items none)

  -- the device has a place for it
  pub has_place : length s.core.memory.requests < s.core.places
  has_place =
      let room = has_room s.core.geometry s.script s.core.memory s.core.admitted s.records.seats.items lane seat k.sound seated ready free k.few in
      omega (arith, room, k.places)

  -- and the seat has all buffers of its writes
  pub own_buffers : (z : Geometry) → z ≡ s.core.geometry → HasBuffers z.block_size 0 seat.buffers.items
  own_buffers z z_is =
      let none = no_hand s.core.geometry s.script s.core.memory s.core.admitted s.records.seats.items lane seat k.sound seated ready free in
      subst (λ (w : Geometry). HasBuffers w.block_size 0 seat.buffers.items) (sym z_is) (subst (λ o. HasBuffers s.core.geometry.block_size (lent_with o) seat.buffers.items) none (k.seats lane seat seated).buffers)

  module _ (z : Geometry) (z_is : z ≡ s.core.geometry) (line : Line) (n : ℕ) (found : Some line ≡ slice_get (lane_lines s.script lane) n) (n_is : n ≡ length seat.answered.items)
      (asked : Asked) (rest : List Asked) (pending : seat.pending.items ≡ asked ∷ rest) where
    abbrev wanted : Op
    wanted = request_of s.core.geometry.block_size line

    wanted_is : (plan_in (run_of s)).request lane (length seat.answered.items) ≡ Some wanted
    wanted_is = ap (option_map (request_of s.core.geometry.block_size)) (sym (found ∙ ap (slice_get (lane_lines s.script lane)) n_is))

    is_next : IsNext (plan_in (run_of s)) lane (length seat.answered.items) asked
    is_next = (next s.core.geometry s.script s.core.memory s.core.admitted s.records.seats.items lane seat k.sound seated ready free (requests_in s.script) k.seats asked rest pending).0

    same_op : is_next.asked ≡ wanted
    same_op = one_of _ is_next.asked wanted is_next.next wanted_is

    has_own : IsKeptFor s.core.geometry wanted asked.buffer
    has_own = subst (λ w. IsKeptFor s.core.geometry w asked.buffer) same_op is_next.buffer

    pub own_buffer : IsKeptFor z (request_of z.block_size line) asked.buffer
    own_buffer = subst (λ (w : Geometry). IsKeptFor w (request_of w.block_size line) asked.buffer) (sym z_is) has_own

    module _ (op : Op) (op_is : op ≡ with_buffer (request_of z.block_size line) asked.buffer) where
      op_made : op ≡ with_buffer wanted asked.buffer
      op_made = op_is ∙ ap (λ (w : Geometry). with_buffer (request_of w.block_size line) asked.buffer) z_is

      pub is_whole : IsAdmissible s.core.geometry op
      is_whole = subst (IsAdmissible s.core.geometry) (sym op_made) (made_whole s.core.geometry wanted asked.buffer has_own (subst (IsAskable s.core.geometry) same_op is_next.askable))

      -- the device took it in, and the seat has it in hand
      module _ (ticket : Ticket) (serial : ticket.serial ≡ s.core.admitted) (new : Seat) (hand : Hand) (has : new.hand ≡ Some hand) (is : hand.ticket ≡ ticket) (section : hand.section ≡ asked.section)
          (first : hand.first ≡ (extent_of op).first) (lent : hand.lent ≡ lent_to op) (coming : new.pending.items ≡ rest) (same : new.answered ≡ seat.answered)
          (lends : new.buffers.items ≡ without_lent (request_of z.block_size line) seat.buffers.items)
          (rec : Records) (seats : rec.seats.items ≡ slice_set s.records.seats.items lane new) (journal : rec.journal ≡ s.records.journal) (moments : rec.moments ≡ s.records.moments)
          (core : View D) (waits : core ≡ record s.core { memory = taken_in s.core.memory ticket op; admitted = s.core.admitted + 1 }) where
        abbrev desk : View D → Desk D R
        desk = λ x. record { core = x; script = s.script; records = rec }

        lends_wanted : new.buffers.items ≡ without_lent wanted seat.buffers.items
        lends_wanted = lends ∙ ap (λ (w : Geometry). without_lent (request_of w.block_size line) seat.buffers.items) z_is

        pub entered : (stated : D → Option Geometry) (content : D → Option Content) (moment : D → ℕ) (left : D → ℕ → List (List ℕ) → Type 0) (faults : D → ℕ)
            → Fits (desk core) × StepsBy stated content moment left faults (run_of s) (LaneActor lane) (run_of (desk core))
        entered stated content moment left faults = subst (λ (x : View D). Fits (desk x) × StepsBy stated content moment left faults (run_of s) (LaneActor lane) (run_of (desk x))) (sym waits) (
          admit_fits s k lane seat seated ready free asked rest pending wanted wanted_is op op_made ticket serial new hand has is section first lent coming same lends_wanted rec seats journal moments,
          admit_turn s k lane seat seated ready free asked rest pending wanted wanted_is op op_made ticket serial new hand has is section first lent coming same lends_wanted rec seats journal moments stated content moment left faults,
        )
