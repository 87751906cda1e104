-- Each waiting request has a ticket of its own, and so it stays.
use Rattle.std.proofs.Common.{◌≡◌, ◌≢◌, Bool, true, false, not, cond, List, [], ◌∷◌, ◌++◌, Some, None, arith, refl, sym, ap, ◌∙◌, subst, inl, inr}
use Rattle.std.specs.Prelude.{find}
use Rattle.std.proofs.lemmas.Bool.{cases_Bool}
use Rattle.bow_queue.specs.declared.tickets.Ticket.{Ticket}
use Rattle.bow_queue.specs.Requests.{same_ticket}
use Rattle.bow_machine.specs.Requests.{Request, request_of, without_request, with_request}
use Rattle.bow_machine.proofs.Held.{OwnTickets}
use Rattle.bow_machine.proofs.RequestLists.{same_itself, same_is, is_same, differs, ticket_cases, gone_without, of_without}

-- what is found is the request of its ticket
pub found_own : (p : Request → Bool) (requests : List Request) (r : Request) → OwnTickets requests → find p requests ≡ Some r → request_of r.ticket requests ≡ Some r
found_own p [] r own found = absurd (grind arith)
found_own p (x ∷ xs) r own found = go (p x) (found_own p xs r own.1) found
  where
    go : (t : Bool) → (find p xs ≡ Some r → request_of r.ticket xs ≡ Some r) → cond t (Some x) (find p xs) ≡ Some r → request_of r.ticket (x ∷ xs) ≡ Some r
    go true more here = let e : x ≡ r = cc here in subst (λ y. request_of y.ticket (x ∷ xs) ≡ Some y) e (rw (same_itself x.ticket) refl)
    go false more later =
        let rest : request_of r.ticket xs ≡ Some r = more later in
        let other : same_ticket x.ticket r.ticket ≡ false = differs x.ticket r.ticket (λ e. let clash : None ≡ Some r = sym own.0 ∙ ap (λ t. request_of t xs) e ∙ rest in absurd (grind arith)) in
        rw other rest

none_without : (s t : Ticket) (requests : List Request) → request_of s requests ≡ None → request_of s (without_request t requests) ≡ None
none_without s t requests none = elim (ticket_cases s t) [
  | inl is ↦ subst (λ u. request_of u (without_request t requests) ≡ None) (sym is) (gone_without t requests)
  | inr ne ↦ of_without t s requests ne ∙ none
]

pub own_without : (t : Ticket) (requests : List Request) → OwnTickets requests → OwnTickets (without_request t requests)
own_without t [] own = tt
own_without t (x ∷ xs) own = go (not (same_ticket x.ticket t)) (own_without t xs own.1)
  where
    go : (stays : Bool) → OwnTickets (without_request t xs) → OwnTickets (cond stays (x ∷ without_request t xs) (without_request t xs))
    go true rest = (none_without x.ticket t xs own.0, rest)
    go false rest = rest

none_with : (r : Request) (s : Ticket) (requests : List Request) → request_of s requests ≡ None → request_of s (with_request r requests) ≡ None
none_with r s [] none = refl
none_with r s (x ∷ xs) none = elim (cases_Bool (same_ticket x.ticket s)) [
  | inl here ↦ let clash : Some x ≡ None = rw here at none in absurd (grind arith)
  | inr past ↦ elim (cases_Bool (same_ticket x.ticket r.ticket)) [
    | inl is ↦ rw (is, ap (λ t. same_ticket t s) (sym (same_is x.ticket r.ticket is)) ∙ past) (none_with r s xs (rw past at none))
    | inr other ↦ rw (other, past) (none_with r s xs (rw past at none))
  ]
]

pub own_with : (r : Request) (requests : List Request) → OwnTickets requests → OwnTickets (with_request r requests)
own_with r [] own = tt
own_with r (x ∷ xs) own = elim (cases_Bool (same_ticket x.ticket r.ticket)) [
  | inl is ↦
      let here : request_of r.ticket (with_request r xs) ≡ None = ap (λ t. request_of t (with_request r xs)) (sym (same_is x.ticket r.ticket is)) ∙ none_with r x.ticket xs own.0 in
      subst (λ t. OwnTickets (cond t r x ∷ with_request r xs)) (sym is) (here, own_with r xs own.1)
  | inr other ↦ subst (λ t. OwnTickets (cond t r x ∷ with_request r xs)) (sym other) (none_with r x.ticket xs own.0, own_with r xs own.1)
]

none_push : (r : Request) (s : Ticket) (requests : List Request) → r.ticket ≢ s → request_of s requests ≡ None → request_of s (requests ++ r ∷ []) ≡ None
none_push r s [] ne none = rw (differs r.ticket s ne) refl
none_push r s (x ∷ xs) ne none = elim (cases_Bool (same_ticket x.ticket s)) [
  | inl here ↦ let clash : Some x ≡ None = rw here at none in absurd (grind arith)
  | inr past ↦ rw past (none_push r s xs ne (rw past at none))
]

pub own_push : (r : Request) (requests : List Request) → request_of r.ticket requests ≡ None → OwnTickets requests → OwnTickets (requests ++ r ∷ [])
own_push r [] none own = (refl, tt)
own_push r (x ∷ xs) none own = elim (cases_Bool (same_ticket x.ticket r.ticket)) [
  | inl here ↦ let clash : Some x ≡ None = rw here at none in absurd (grind arith)
  | inr past ↦ (none_push r x.ticket xs (λ e. let clash : true ≡ false = sym (is_same x.ticket r.ticket (sym e)) ∙ past in absurd (grind arith)) own.0, own_push r xs (rw past at none) own.1)
]
