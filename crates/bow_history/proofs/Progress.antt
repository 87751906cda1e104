-- Some actor is ready where a request is unanswered.
use Rattle.std.proofs.Common.{ℕ, zero, suc, ◌<◌, ◌≤◌, ◌≡◌, ◌⊎◌, ◌&&◌, ◌||◌, nat_lt, nat_le, not, Bool, true, false, List, [], ◌∷◌}
use Rattle.std.proofs.Common.{Option, Some, None, is_none, arith, refl, sym, ap, ◌∙◌, subst, inl, inr}
use Rattle.std.proofs.lemmas.Bool.{cases_eq, cases_lt, false≢true, and_parts, leb-true}
use Rattle.bow_units.specs.declared.requests.Op.{Op}
use Rattle.bow_queue.specs.declared.tickets.Ticket.{Ticket}
use Rattle.bow_machine.specs.Requests.{Request, request_of}
use Rattle.bow_machine.specs.Ready.{is_ready, is_map_ready}
use Rattle.bow_machine.specs.declared.turns.Turn.{Turn}
use Rattle.bow_machine.specs.declared.turns.Turn.TheVariants.{Map, Worker as WorkerTurn, Command as CommandTurn}
use Rattle.bow_machine.proofs.SoundReady.{some_turn_is_ready}
use Rattle.bow_history.specs.declared.items.Actor.{Actor}
use Rattle.bow_history.specs.declared.items.Actor.TheVariants.{Lane, Worker, Command}
use Rattle.bow_history.specs.Journal.{Plan}
use Rattle.bow_history.specs.Sessions.{Session}
use Rattle.bow_history.specs.Ready.{is_from, is_lane_ready, is_actor_ready}
use Rattle.bow_history.specs.SoundSessions.{SomeIsReady}
use Rattle.bow_history.proofs.Lists.{none_some}

own_low : (n : ℕ) → nat_le n n ≡ true
own_low n = grind arith

le_low : (a b : ℕ) → a ≤ b → nat_le a b ≡ true
le_low a b h = grind (arith, h)

or_all : (x : Bool) {rest : Bool} → rest ≡ true → ((x || true) && rest) ≡ true
or_all true h = h
or_all false h = h

-- ----------------------------------------------------------------------------------------------------------------
-- No request waits: a lane of the present section takes one in.

module _ (plan : Plan) (s : Session) where
  -- none before a section: none before a lower one
  from_lower : (low high n : ℕ) → low ≤ high → is_from plan s high n ≡ true → is_from plan s low n ≡ true
  from_lower low high zero le h = refl
  from_lower low high (suc n) le h =
      let parts = and_parts _ _ h in
      go (is_none (plan.request n (s.number n))) parts.0 (from_lower low high n le parts.1)
    where
      go : (t : Bool) → (t || nat_le high (plan.section n (s.number n))) ≡ true → is_from plan s low n ≡ true → ((t || nat_le low (plan.section n (s.number n))) && is_from plan s low n) ≡ true
      go true here rest = rest
      go false here rest = rw (le_low low (plan.section n (s.number n)) (let up = leb-true high (plan.section n (s.number n)) here in omega (arith, up, le))) rest

  -- of the first so many lanes, one with a request of the lowest section, or none has a request
  record IsLowest (n lane : ℕ) : Type 0 where
    below : lane < n
    op : Op
    next : plan.request lane (s.number lane) ≡ Some op
    from : is_from plan s (plan.section lane (s.number lane)) n ≡ true

  lowest : (n : ℕ) → ((lane : ℕ) × IsLowest n lane) ⊎ ((low : ℕ) → is_from plan s low n ≡ true)
  lowest zero = inr (λ low. refl)
  lowest (suc n) = go (plan.request n (s.number n)) refl (lowest n)
    where
      go : (o : Option Op) → plan.request n (s.number n) ≡ o → ((lane : ℕ) × IsLowest n lane) ⊎ ((low : ℕ) → is_from plan s low n ≡ true) → ((lane : ℕ) × IsLowest (suc n) lane) ⊎ ((low : ℕ) → is_from plan s low (suc n) ≡ true)
      go None is (inl l) = inl (l.0, record { below = let b = (l.1).below in omega (arith, b); op = (l.1).op; next = (l.1).next; from = ap (λ o. (is_none o || nat_le (plan.section l.0 (s.number l.0)) (plan.section n (s.number n))) && is_from plan s (plan.section l.0 (s.number l.0)) n) is ∙ (l.1).from })
      go None is (inr all) = inr (λ low. ap (λ o. (is_none o || nat_le low (plan.section n (s.number n))) && is_from plan s low n) is ∙ all low)
      go (Some op) is (inr all) = inl (n, record { below = omega arith; op = op; next = is; from = rw (own_low (plan.section n (s.number n))) (or_all (is_none (plan.request n (s.number n))) (all (plan.section n (s.number n)))) })
      go (Some op) is (inl l) = elim (cases_lt (plan.section n (s.number n)) (plan.section l.0 (s.number l.0))) [
        | inl lower ↦ inl (n, record { below = omega arith; op = op; next = is; from = rw (own_low (plan.section n (s.number n))) (or_all (is_none (plan.request n (s.number n))) (from_lower (plan.section n (s.number n)) (plan.section l.0 (s.number l.0)) n (omega (arith, lower)) (l.1).from)) })
        | inr not_lower ↦ inl (l.0, record { below = let b = (l.1).below in omega (arith, b); op = (l.1).op; next = (l.1).next; from = rw (le_low (plan.section l.0 (s.number l.0)) (plan.section n (s.number n)) (omega (arith, not_lower))) (or_all (is_none (plan.request n (s.number n))) (l.1).from) })
      ]

is_more : (a b : ℕ) → a < b → nat_lt a b ≡ true
is_more a b h = grind (arith, h)

-- ----------------------------------------------------------------------------------------------------------------

-- a lane whose next request is not before this section
pub from_member : (plan : Plan) (s : Session) (low lane n : ℕ) (op : Op) → lane < n → plan.request lane (s.number lane) ≡ Some op → is_from plan s low n ≡ true → low ≤ plan.section lane (s.number lane)
from_member plan s low lane zero op below next h = absurd (omega (arith, below))
from_member plan s low lane (suc n) op below next h =
    let parts = and_parts _ _ h in
    elim (cases_eq lane n) [
      | inl is ↦
          let here : nat_le low (plan.section n (s.number n)) ≡ true = ap (λ o. is_none o || nat_le low (plan.section n (s.number n))) (sym (ap (λ l. plan.request l (s.number l)) (sym is) ∙ next)) ∙ parts.0 in
          let up = leb-true low (plan.section n (s.number n)) here in
          subst (λ l. low ≤ plan.section l (s.number l)) (sym is) up
      | inr ne ↦ from_member plan s low lane n op (omega (arith, below, ne)) next parts.1
    ]

-- ----------------------------------------------------------------------------------------------------------------

pub some_is_ready : SomeIsReady
some_is_ready plan s lane op k below next = go s.memory.requests refl
  where
    -- a turn of the device that is ready is that of an actor
    by_turn : (turn : Turn) → is_ready plan.sizes s.memory turn ≡ true → (actor : Actor) × (is_actor_ready plan s actor ≡ true)
    by_turn WorkerTurn ready = (Worker, ready)
    by_turn CommandTurn ready = (Command, ready)
    by_turn (Map ticket) ready = found (request_of ticket s.memory.requests) refl
      where
        found : (o : Option Request) → request_of ticket s.memory.requests ≡ o → (actor : Actor) × (is_actor_ready plan s actor ≡ true)
        found None is = absurd (false≢true (ap (is_map_ready plan.sizes s.memory) (sym is) ∙ ready))
        found (Some r) is =
            let l = k.seated.lanes ticket r is in
            let inside : nat_lt l.0 plan.lanes ≡ true = is_more l.0 plan.lanes (k.seated.each l.0 ticket l.1).inside in
            (Lane l.0, ap (λ t. t && is_lane_ready plan s l.0 (s.hand l.0)) inside ∙ ap (is_lane_ready plan s l.0) l.1 ∙ ready)

    no_hand : (l : ℕ) (o : Option Ticket) → s.hand l ≡ o → s.memory.requests ≡ [] → s.hand l ≡ None
    no_hand l None is nothing = is
    no_hand l (Some t) is nothing = absurd (let seat = k.seated.each l t is in none_some (request_of t s.memory.requests) seat.request (ap (request_of t) nothing) seat.waits)

    go : (rs : List Request) → s.memory.requests ≡ rs → (actor : Actor) × (is_actor_ready plan s actor ≡ true)
    go [] nothing = elim (lowest plan s plan.lanes) [
      | inl l ↦
          let inside : nat_lt l.0 plan.lanes ≡ true = is_more l.0 plan.lanes (l.1).below in
          let hand : s.hand l.0 ≡ None = no_hand l.0 (s.hand l.0) refl nothing in
          (Lane l.0, ap (λ t. t && is_lane_ready plan s l.0 (s.hand l.0)) inside ∙ ap (is_lane_ready plan s l.0) hand ∙ ap (λ o. not (is_none o) && is_from plan s (plan.section l.0 (s.number l.0)) plan.lanes) (l.1).next ∙ (l.1).from)
      | inr all ↦ absurd (let clash = from_member plan s (suc (plan.section lane (s.number lane))) lane plan.lanes op below next (all (suc (plan.section lane (s.number lane)))) in omega (arith, clash))
    ]
    go (x ∷ xs) is =
        let turn = some_turn_is_ready plan.sizes s.memory k.memory (λ none. let clash : x ∷ xs ≡ [] = sym is ∙ none in absurd (grind arith)) in
        by_turn turn.0 turn.1
