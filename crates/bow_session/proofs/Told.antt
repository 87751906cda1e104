-- The lanes after a step that told something, as the theory has them.
use Rattle.std.proofs.Common.{◌≡◌, ◌≢◌, ℕ, zero, suc, ◌++◌, List, [], ◌∷◌, length, map, Option, Some, None, arith, refl, sym, ap, ◌∙◌, inl, inr, length-append, subst}
use Rattle.std.specs.Prelude.{slice_get}
use Rattle.std.proofs.lemmas.Bool.{cases_eq}
use mathlib.Core.Path.{fun_ext}
use Rattle.bow_units.specs.declared.sizes.Geometry.{Geometry}
use Rattle.bow_units.specs.declared.requests.Op.{Op}
use Rattle.bow_units.specs.declared.requests.Op.TheVariants as ops
use Rattle.bow_units.specs.declared.requests.Outcome.{Outcome}
use Rattle.bow_flat.specs.Flat.{put}
use Rattle.bow_queue.specs.declared.tickets.Ticket.{Ticket}
use Rattle.bow_machine.specs.Memory.{Memory}
use Rattle.bow_machine.specs.Steps.{payload_of}
use Rattle.bow_machine.proofs.MappedWrites.{put_here, put_there}
use Rattle.bow_core.specs.declared.turns.Step.{Step}
use Rattle.bow_core.specs.declared.turns.Step.TheVariants.{Idle, Moved, Wrote, Got, Answered}
use Rattle.bow_core.specs.Turns.{told_of}
use Rattle.bow_history.specs.Journal.{Plan}
use Rattle.bow_history.specs.Sessions.{lane_of, answered_in, told_to, IsFor}
use Rattle.bow_session.specs.declared.seats.Seat.{Seat}
use Rattle.bow_session.specs.Buffers.{buffer_kept, kept_of}
use Rattle.bow_session.specs.Seats.{lane_in, ticket_in, hands_of}
use Rattle.bow_session.specs.Sessions.{Lane, no_lane, lane_at, seated}
use Rattle.bow_session.specs.Records.{lane_with, HasAnswered, SeatsAfter, number_in}

-- the lane of a seat
pub lane_found : (seats : List Seat) (lane : ℕ) (seat : Seat) → slice_get seats lane ≡ Some seat → lane_at (map lane_in seats) lane ≡ lane_in seat
lane_found [] lane seat here = absurd (grind (arith, here))
lane_found (x ∷ xs) zero seat here = let same : x ≡ seat = cc here in ap lane_in same
lane_found (x ∷ xs) (suc lane) seat here = lane_found xs lane seat here

-- beyond the last one there is none
pub lane_same : (old new : List Seat) (lane : ℕ) → slice_get new lane ≡ slice_get old lane → lane_at (map lane_in new) lane ≡ lane_at (map lane_in old) lane
lane_same old new lane same = by (slice_get old lane) refl
  where
    past : (seats : List Seat) (lane : ℕ) → slice_get seats lane ≡ None → lane_at (map lane_in seats) lane ≡ no_lane
    past [] lane none = refl
    past (x ∷ xs) zero none = absurd (grind (arith, none))
    past (x ∷ xs) (suc lane) none = past xs lane none

    by : (o : Option Seat) → slice_get old lane ≡ o → lane_at (map lane_in new) lane ≡ lane_at (map lane_in old) lane
    by None is = past new lane (same ∙ is) ∙ sym (past old lane is)
    by (Some seat) is = lane_found new lane seat (same ∙ is) ∙ sym (lane_found old lane seat is)

-- the tickets in hand, both ways
pub hand_is : (seats : List Seat) (lane : ℕ) → (lane_at (map lane_in seats) lane).hand ≡ hands_of seats lane
hand_is [] lane = refl
hand_is (x ∷ xs) zero = refl
hand_is (x ∷ xs) (suc lane) = hand_is xs lane

pub number_is : (seats : List Seat) (lane : ℕ) → length ((lane_at (map lane_in seats) lane).answered) ≡ number_in (slice_get seats lane)
number_is [] lane = refl
number_is (x ∷ xs) zero = refl
number_is (x ∷ xs) (suc lane) = number_is xs lane

pub lane_with_is : (seats : List Seat) (t : Ticket) → lane_of (λ lane. (lane_at (map lane_in seats) lane).hand) t (length seats) ≡ lane_with seats t
lane_with_is seats t = ap (λ (f : ℕ → Option Ticket). lane_of f t (length seats)) (fun_ext (hand_is seats))

-- one more answer
last_at : (answered : List (Option (List ℕ))) (kept : Option (List ℕ)) (n : ℕ) → n ≡ length answered → slice_get (answered ++ kept ∷ []) n ≡ Some kept
last_at [] kept zero is = refl
last_at [] kept (suc n) is = absurd (omega (arith, is))
last_at (x ∷ xs) kept zero is = absurd (omega (arith, is))
last_at (x ∷ xs) kept (suc n) is = last_at xs kept n (omega (arith, is))

other_at : (answered : List (Option (List ℕ))) (kept : Option (List ℕ)) (n : ℕ) → n ≢ length answered → slice_get (answered ++ kept ∷ []) n ≡ slice_get answered n
other_at [] kept zero apart = absurd (apart refl)
other_at [] kept (suc n) apart = refl
other_at (x ∷ xs) kept zero apart = refl
other_at (x ∷ xs) kept (suc n) apart = other_at xs kept n (λ e. apart (ap suc e))

-- what is kept of a request has its buffer, where that is of a read, and else it is what was asked for
kept_buffer : (g : Geometry) (asked op : Op) → IsFor g asked op → buffer_kept (Some asked) (Some (kept_of op)) ≡ payload_of op
kept_buffer g (ops.Read e p) (ops.Read x q) is = refl
kept_buffer g (ops.Read e p) (ops.Write x q) is = absurd is
kept_buffer g (ops.Read e p) (ops.Discard x) is = absurd is
kept_buffer g (ops.Read e p) ops.Flush is = absurd is
kept_buffer g (ops.Read e p) ops.Prepare is = absurd is
kept_buffer g (ops.Read e p) ops.Commit is = absurd is
kept_buffer g (ops.Write e p) op is = sym (ap payload_of is)
kept_buffer g (ops.Discard e) op is = subst (λ o. buffer_kept (Some (ops.Discard e)) (Some (kept_of o)) ≡ payload_of o) (sym is) refl
kept_buffer g ops.Flush op is = subst (λ o. buffer_kept (Some ops.Flush) (Some (kept_of o)) ≡ payload_of o) (sym is) refl
kept_buffer g ops.Prepare op is = subst (λ o. buffer_kept (Some ops.Prepare) (Some (kept_of o)) ≡ payload_of o) (sym is) refl
kept_buffer g ops.Commit op is = subst (λ o. buffer_kept (Some ops.Commit) (Some (kept_of o)) ≡ payload_of o) (sym is) refl

more_at : (plan : Plan) (lane : ℕ) (xs : List (Option (List ℕ))) (asked op : Op) → plan.request lane (length xs) ≡ Some asked → IsFor plan.sizes asked op → (n : ℕ)
    → buffer_kept (plan.request lane n) (slice_get (xs ++ kept_of op ∷ []) n) ≡ put (λ k. buffer_kept (plan.request lane k) (slice_get xs k)) (length xs) (payload_of op) n
more_at plan lane xs asked op next for n = elim (cases_eq n (length xs)) [
  | inl is ↦
      ap (buffer_kept (plan.request lane n)) (last_at xs (kept_of op) n is) ∙ ap (λ o. buffer_kept o (Some (kept_of op))) (ap (plan.request lane) is ∙ next)
      ∙ kept_buffer plan.sizes asked op for ∙ sym (put_here (λ k. buffer_kept (plan.request lane k) (slice_get xs k)) (length xs) (payload_of op) n is)
  | inr apart ↦ ap (buffer_kept (plan.request lane n)) (other_at xs (kept_of op) n apart) ∙ sym (put_there (λ k. buffer_kept (plan.request lane k) (slice_get xs k)) (length xs) (payload_of op) n apart)
]

module _ (plan : Plan) (lane : ℕ) (asked op : Op) (old new : List Seat) (seat : Seat) (here : slice_get old lane ≡ Some seat) (next : plan.request lane (length seat.answered.items) ≡ Some asked)
    (for : IsFor plan.sizes asked op) (k : HasAnswered lane op old new) where
  after : Seat
  after = ((k.here seat here).0)

  abbrev old_lanes : List Lane
  old_lanes = map lane_in old

  abbrev new_lanes : List Lane
  new_lanes = map lane_in new

  now : lane_at new_lanes lane ≡ lane_in ((k.here seat here).0)
  now = lane_found new lane ((k.here seat here).0) ((k.here seat here).1)

  before : lane_at old_lanes lane ≡ lane_in seat
  before = lane_found old lane seat here

  answers : (lane_at new_lanes lane).answered ≡ (lane_at old_lanes lane).answered ++ kept_of op ∷ []
  answers = ap (λ (l : Lane). l.answered) now ∙ ((k.here seat here).2).answered ∙ ap (λ (l : Lane). l.answered ++ kept_of op ∷ []) (sym before)

  other_lane : (other : ℕ) → other ≢ lane → lane_at new_lanes other ≡ lane_at old_lanes other
  other_lane other apart = lane_same old new other (k.others other apart)

  numbers : (other : ℕ) → length ((lane_at new_lanes other).answered) ≡ put (λ l. length ((lane_at old_lanes l).answered)) lane (suc (length ((lane_at old_lanes lane).answered))) other
  numbers other = elim (cases_eq other lane) [
    | inl is ↦ ap (λ l. length ((lane_at new_lanes l).answered)) is ∙ ap length answers ∙ length-append ((lane_at old_lanes lane).answered) (kept_of op ∷ []) ∙ omega arith ∙ sym (put_here (λ l. length ((lane_at old_lanes l).answered)) lane (suc (length ((lane_at old_lanes lane).answered))) other is)
    | inr apart ↦ ap (λ (l : Lane). length l.answered) (other_lane other apart) ∙ sym (put_there (λ l. length ((lane_at old_lanes l).answered)) lane (suc (length ((lane_at old_lanes lane).answered))) other apart)
  ]

  hands : (other : ℕ) → (lane_at new_lanes other).hand ≡ put (λ l. (lane_at old_lanes l).hand) lane None other
  hands other = elim (cases_eq other lane) [
    | inl is ↦ ap (λ l. (lane_at new_lanes l).hand) is ∙ ap (λ (l : Lane). l.hand) now ∙ ap ticket_in ((k.here seat here).2).hand ∙ sym (put_here (λ l. (lane_at old_lanes l).hand) lane None other is)
    | inr apart ↦ ap (λ (l : Lane). l.hand) (other_lane other apart) ∙ sym (put_there (λ l. (lane_at old_lanes l).hand) lane None other apart)
  ]

  abbrev kept_by : List Lane → ℕ → ℕ → List ℕ
  kept_by lanes l n = buffer_kept (plan.request l n) (slice_get ((lane_at lanes l).answered) n)

  keeps : (other : ℕ) → kept_by new_lanes other ≡ put (kept_by old_lanes) lane (put (kept_by old_lanes lane) (length ((lane_at old_lanes lane).answered)) (payload_of op)) other
  keeps other = elim (cases_eq other lane) [
    | inl is ↦ ap (kept_by new_lanes) is ∙ fun_ext (λ n. ap (λ (xs : List (Option (List ℕ))). buffer_kept (plan.request lane n) (slice_get xs n)) answers
        ∙ more_at plan lane ((lane_at old_lanes lane).answered) asked op (ap (λ (l : Lane). plan.request lane (length l.answered)) before ∙ next) for n)
        ∙ sym (put_here (kept_by old_lanes) lane (put (kept_by old_lanes lane) (length ((lane_at old_lanes lane).answered)) (payload_of op)) other is)
    | inr apart ↦ ap (λ (l : Lane). λ n. buffer_kept (plan.request other n) (slice_get l.answered n)) (other_lane other apart) ∙ sym (put_there (kept_by old_lanes) lane (put (kept_by old_lanes lane) (length ((lane_at old_lanes lane).answered)) (payload_of op)) other apart)
  ]

  pub answered_lanes : (m : Memory) (admitted : ℕ) → seated plan m admitted new_lanes ≡ answered_in (seated plan m admitted old_lanes) lane op
  answered_lanes m admitted = cc (fun_ext numbers, fun_ext hands, fun_ext keeps)

-- the lanes after what was told
pub told_lanes : (plan : Plan) (m : Memory) (admitted : ℕ) (old new : List Seat) (tells : Step) → plan.lanes ≡ length old
    → ((t : Ticket) (op : Op) (outcome : Outcome) → tells ≡ Answered t op outcome → (seat : Seat) × (asked : Op) × (slice_get old (lane_with old t) ≡ Some seat) × (plan.request (lane_with old t) (length seat.answered.items) ≡ Some asked) × IsFor plan.sizes asked op)
    → SeatsAfter tells old new
    → seated plan m admitted (map lane_in new) ≡ told_to plan (seated plan m admitted (map lane_in old)) (told_of tells)
told_lanes plan m admitted old new Idle lanes some same = ap (λ (s : List Seat). seated plan m admitted (map lane_in s)) same
told_lanes plan m admitted old new Moved lanes some same = ap (λ (s : List Seat). seated plan m admitted (map lane_in s)) same
told_lanes plan m admitted old new (Wrote t i) lanes some same = ap (λ (s : List Seat). seated plan m admitted (map lane_in s)) same
told_lanes plan m admitted old new (Got t i) lanes some same = ap (λ (s : List Seat). seated plan m admitted (map lane_in s)) same
told_lanes plan m admitted old new (Answered t op outcome) lanes some after =
    let found = some t op outcome refl in
    answered_lanes plan (lane_with old t) found.1 op old new found.0 found.2 found.3 found.4 after m admitted
    ∙ ap (λ l. answered_in (seated plan m admitted (map lane_in old)) l op) (sym (lane_with_is old t) ∙ ap (lane_of (λ lane. (lane_at (map lane_in old) lane).hand) t) (sym lanes))
