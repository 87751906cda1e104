-- While a lane has nothing in hand, fewer requests wait than there are lanes.
use Rattle.std.proofs.Common.{ℕ, zero, suc, ◌<◌, ◌≤◌, ◌≡◌, not, Bool, true, false, cond, List, [], ◌∷◌, length, Option, Some, None}
use Rattle.std.proofs.Common.{is_none, arith, refl, sym, ap, ◌∙◌}
use Rattle.bow_flat.specs.Flat.{count_from}
use Rattle.bow_queue.specs.declared.tickets.Ticket.{Ticket}
use Rattle.bow_queue.specs.Requests.{same_ticket}
use Rattle.bow_machine.specs.Requests.{Request, request_of}
use Rattle.bow_machine.proofs.Held.{OwnTickets}
use Rattle.bow_machine.proofs.RequestLists.{same_itself, same_is}
use Rattle.bow_machine.proofs.SoundLists.{own_tickets}
use Rattle.bow_history.specs.SoundSessions.{HasPlace}
use Rattle.bow_history.proofs.Lists.{none_some}
use Rattle.bow_history.proofs.Tally.{count_less}

-- the ticket in this hand is of one of the requests
abbrev is_among : List Request → Option Ticket → Bool
is_among requests None = false
is_among requests (Some t) = not (is_none (request_of t requests))

-- the same of one request more
among_more : (x : Request) (xs : List Request) (o : Option Ticket) → is_among xs o ≡ true → is_among (x ∷ xs) o ≡ true
among_more x xs None h = h
among_more x xs (Some t) h = go (same_ticket x.ticket t)
  where
    go : (b : Bool) → not (is_none (cond b (Some x) (request_of t xs))) ≡ true
    go true = refl
    go false = h

-- each request has a lane of its own, of so many
fewer : (hand : ℕ → Option Ticket) (n : ℕ) (requests : List Request) → OwnTickets requests
    → ((t : Ticket) (r : Request) → request_of t requests ≡ Some r → (lane : ℕ) × (lane < n) × (hand lane ≡ Some t))
    → length requests ≤ count_from (λ lane. is_among requests (hand lane)) 0 n
fewer hand n [] own lanes = omega arith
fewer hand n (x ∷ xs) own lanes =
    let here : request_of x.ticket (x ∷ xs) ≡ Some x = ap (λ b. cond b (Some x) (request_of x.ticket xs)) (same_itself x.ticket) in
    let l = lanes x.ticket x here in
    let rest = fewer hand n xs own.1 (λ t r found. lanes t r (later t r found (same_ticket x.ticket t) refl)) in
    let less = count_less (λ lane. is_among xs (hand lane)) (λ lane. is_among (x ∷ xs) (hand lane)) 0 n
    (λ b low high h. among_more x xs (hand b) h) l.0 (omega arith) (omega (arith, l.1))
    (ap (is_among xs) l.2 ∙ ap (λ (o : Option Request). not (is_none o)) own.0)
    (ap (is_among (x ∷ xs)) l.2 ∙ ap (λ (o : Option Request). not (is_none o)) here) in
    omega (arith, rest, less)
  where
    later : (t : Ticket) (r : Request) → request_of t xs ≡ Some r → (b : Bool) → same_ticket x.ticket t ≡ b → cond b (Some x) (request_of t xs) ≡ Some r
    later t r found true is = absurd (none_some (request_of t xs) r (ap (λ u. request_of u xs) (sym (same_is x.ticket t is)) ∙ own.0) found)
    later t r found false is = found

-- all of so many are counted
all_counted : (first n : ℕ) → count_from (λ lane. true) first n ≡ n
all_counted first zero = refl
all_counted first (suc n) = let rest = all_counted (suc first) n in omega (arith, rest)

pub has_place : HasPlace
has_place plan s lane k inside free =
    let most = fewer s.hand plan.lanes s.memory.requests (own_tickets s.memory.requests k.memory.rising)
    (λ t r found. let l = k.seated.lanes t r found in (l.0, (k.seated.each l.0 t l.1).inside, l.1)) in
    let less = count_less (λ l. is_among s.memory.requests (s.hand l)) (λ l. true) 0 plan.lanes (λ b low high h. refl) lane (omega arith) (omega (arith, inside))
    (ap (is_among s.memory.requests) free) refl in
    let all = all_counted 0 plan.lanes in
    omega (arith, most, less, all)
