-- Each turn goes on from the section of its item.
use Rattle.std.proofs.Common.{ℕ, suc, ◌≤◌, ◌≡◌, List, Option, Some, None, arith, sym, ap, ◌∙◌, subst, inl, inr}
use Rattle.std.proofs.lemmas.Bool.{cases_eq}
use Rattle.bow_units.specs.declared.requests.Op.{Op}
use Rattle.bow_flat.specs.Flat.{put}
use Rattle.bow_queue.specs.declared.tickets.Ticket.{Ticket}
use Rattle.bow_machine.specs.Memory.{Memory}
use Rattle.bow_machine.specs.declared.turns.Turn.{Turn}
use Rattle.bow_machine.specs.Steps.{Told, Idle, Moved, Wrote, Got, Answered}
use Rattle.bow_machine.proofs.MappedWrites.{put_here, put_there}
use Rattle.bow_history.specs.declared.items.Item.{Item}
use Rattle.bow_history.specs.Journal.{Plan}
use Rattle.bow_history.specs.Sessions.{Session, Turned, Admits, Steps, turn_of, device_step, lane_of, item_of, item_of_turn, item_in, answered_in, told_to, after_turn_of, after_turn, IsTurn, IsPresent}
use Rattle.bow_history.specs.Histories.{with_items}
use Rattle.bow_history.specs.Fits.{AreSeated}
use Rattle.bow_history.specs.Sections.{section_of, BySections, SectionsRise, InSections, IsFrom}
use Rattle.bow_history.proofs.Lists.{none_some}
use Rattle.bow_history.proofs.Turns.{IsInHand}

-- ----------------------------------------------------------------------------------------------------------------
-- Sections.

-- the lowest section after an item
abbrev pub low_after : Plan → ℕ → Option Item → ℕ
low_after plan low None = low
low_after plan low (Some item) = section_of plan item

-- the item is of no earlier section
abbrev pub IsNotBefore : Plan → ℕ → Option Item → Type 0
IsNotBefore plan low None = Unit {0}
IsNotBefore plan low (Some item) = low ≤ section_of plan item

-- a turn goes on from the section of its item
pub record GoesOn (plan : Plan) (new : Session) (low : ℕ) (item : Option Item) : Type 0 where
  pub not_before : IsNotBefore plan low item
  pub sections : InSections plan new
  pub from : IsFrom plan new (low_after plan low item)

module _ (plan : Plan) (rise : SectionsRise plan) (s : Session) (seated : AreSeated plan s.memory.requests s.admitted s.number s.hand) (low : ℕ) (sections : InSections plan s) (from : IsFrom plan s low) where
  -- a lane with a request in hand has an unanswered one, and is in the present section
  next_of : (lane : ℕ) (t : Ticket) → s.hand lane ≡ Some t → (op : Op) × (plan.request lane (s.number lane) ≡ Some op)
  next_of lane t has = let seat = seated.each lane t has in (seat.asked, seat.next)

  present : (lane : ℕ) (t : Ticket) → s.hand lane ≡ Some t → IsPresent plan s lane
  present lane t has = sections lane (λ none. none_some (s.hand lane) t none has)

  module _ (lane : ℕ) (t : Ticket) (has : s.hand lane ≡ Some t) where
    not_earlier : low ≤ plan.section lane (s.number lane)
    not_earlier = let next = next_of lane t has in from lane next.0 next.1

    rest_from : IsFrom plan s (plan.section lane (s.number lane))
    rest_from other op next = present lane t has other op next

    answered_sections : (op : Op) → InSections plan (answered_in s lane op)
    answered_sections op l some = λ other asked next. elim (cases_eq l lane) [
      | inl is ↦ absurd (some (put_here s.hand lane None l is))
      | inr ne ↦
          let mine : s.hand l ≡ None → ⊥ = λ none. some (put_there s.hand lane None l ne ∙ none) in
          let own : put s.number lane (suc (s.number lane)) l ≡ s.number l = put_there s.number lane (suc (s.number lane)) l ne in
          subst (λ x. plan.section l x ≤ plan.section other (put s.number lane (suc (s.number lane)) other)) (sym own) (elim (cases_eq other lane) [
            | inl is ↦
                let n = next_of lane t has in
                let below = sections l mine lane n.0 n.1 in
                let up = rise lane (s.number lane) in
                let e : plan.section other (put s.number lane (suc (s.number lane)) other) ≡ plan.section lane (suc (s.number lane)) = ap (plan.section other) (put_here s.number lane (suc (s.number lane)) other is) ∙ ap (λ x. plan.section x (suc (s.number lane))) is in
                omega (arith, below, up, e)
            | inr other_ne ↦
                let e : put s.number lane (suc (s.number lane)) other ≡ s.number other = put_there s.number lane (suc (s.number lane)) other other_ne in
                subst (λ x. plan.section l (s.number l) ≤ plan.section other x) (sym e) (sections l mine other asked (ap (plan.request other) (sym e) ∙ next))
          ])
    ]

    answered_from : (op : Op) → IsFrom plan (answered_in s lane op) (plan.section lane (s.number lane))
    answered_from op other asked next = elim (cases_eq other lane) [
      | inl is ↦
          let up = rise lane (s.number lane) in
          let e : plan.section other (put s.number lane (suc (s.number lane)) other) ≡ plan.section lane (suc (s.number lane)) = ap (plan.section other) (put_here s.number lane (suc (s.number lane)) other is) ∙ ap (λ x. plan.section x (suc (s.number lane))) is in
          omega (arith, up, e)
      | inr ne ↦
          let e : put s.number lane (suc (s.number lane)) other ≡ s.number other = put_there s.number lane (suc (s.number lane)) other ne in
          subst (λ x. plan.section lane (s.number lane) ≤ plan.section other x) (sym e) (rest_from other asked (ap (plan.request other) (sym e) ∙ next))
    ]

  -- after a step of the device that told this
  told_goes : (m : Memory) (told : Told) → IsInHand s (item_of plan s told) → GoesOn plan (told_to plan (record s { memory = m }) told) low (item_of plan s told)
  told_goes m Idle in_hand = record { not_before = tt; sections = sections; from = from }
  told_goes m Moved in_hand = record { not_before = tt; sections = sections; from = from }
  told_goes m (Wrote t i) in_hand = record { not_before = not_earlier (lane_of s.hand t plan.lanes) in_hand.0 in_hand.1; sections = sections; from = rest_from (lane_of s.hand t plan.lanes) in_hand.0 in_hand.1 }
  told_goes m (Got t i) in_hand = record { not_before = not_earlier (lane_of s.hand t plan.lanes) in_hand.0 in_hand.1; sections = sections; from = rest_from (lane_of s.hand t plan.lanes) in_hand.0 in_hand.1 }
  told_goes m (Answered t op outcome) in_hand = record {
    not_before = not_earlier (lane_of s.hand t plan.lanes) in_hand.0 in_hand.1;
    sections = answered_sections (lane_of s.hand t plan.lanes) in_hand.0 in_hand.1 op;
    from = answered_from (lane_of s.hand t plan.lanes) in_hand.0 in_hand.1 op;
  }

  pub turn_goes : (turn : Turned) → IsTurn plan s turn → IsInHand s (item_in plan s turn) → GoesOn plan (after_turn plan s turn) low (item_in plan s turn)
  turn_goes (Admits lane ticket op) is in_hand = record {
    not_before = tt;
    sections = λ l some. elim (cases_eq l lane) [
      | inl same ↦ subst (IsPresent plan s) (sym same) is.present
      | inr ne ↦ sections l (λ none. some (put_there s.hand lane (Some ticket) l ne ∙ none))
    ];
    from = from;
  }
  turn_goes (Steps actor reply) is in_hand = go (turn_of s actor) in_hand
    where
      go : (o : Option Turn) → IsInHand s (item_of_turn plan s o reply) → GoesOn plan (after_turn_of plan s o reply) low (item_of_turn plan s o reply)
      go None in_hand = record { not_before = tt; sections = sections; from = from }
      go (Some turn) in_hand = told_goes (device_step plan.sizes s.memory turn reply).memory (device_step plan.sizes s.memory turn reply).told in_hand

pub then_sections : (plan : Plan) (low : ℕ) (item : Option Item) (items : List Item) → IsNotBefore plan low item → BySections plan (low_after plan low item) items → BySections plan low (with_items item items)
then_sections plan low None items not_before rest = rest
then_sections plan low (Some item) items not_before rest = (not_before, rest)
