-- What is found in a list of requests after a change of it.
use Rattle.std.specs.List.{AllByRecursion as Each}
use Rattle.std.proofs.Common.{◌<◌, ◌≡◌, ◌≢◌, ◌⊎◌, ◌++◌, Bool, true, false, cond, List, [], ◌∷◌, Option, Some, None, arith, refl, sym, ap, ◌∙◌, subst, inl, inr}
use Rattle.std.specs.Prelude.{find}
use Rattle.bow_queue.specs.declared.tickets.Ticket.{Ticket}
use Rattle.bow_queue.specs.Requests.{same_ticket}
use Rattle.bow_machine.specs.Requests.{Request, request_of, with_request, without_request}
use Rattle.bow_machine.proofs.Held.{OwnTickets}
use Rattle.bow_machine.proofs.RequestLists.{same_itself, same_is, ticket_cases, of_without, gone_without, of_with_other, of_with, of_push_other}

pub none_some : {A : Type 0} (o : Option A) (x : A) → o ≡ None → o ≡ Some x → ⊥
none_some o x none some = let clash : None ≡ Some x = sym none ∙ some in absurd (grind arith)

pub one_of : {A : Type 0} (o : Option A) (x y : A) → o ≡ Some x → o ≡ Some y → x ≡ y
one_of o x y here there = let e : Some x ≡ Some y = sym here ∙ there in cc e

pub found_with : (r old : Request) (requests : List Request) (u : Ticket) (q : Request) → request_of r.ticket requests ≡ Some old → request_of u (with_request r requests) ≡ Some q
    → ((u ≡ r.ticket) × (q ≡ r)) ⊎ ((u ≢ r.ticket) × (request_of u requests ≡ Some q))
found_with r old requests u q was found = elim (ticket_cases u r.ticket) [
  | inl is ↦ inl (is, one_of (request_of u (with_request r requests)) q r found (ap (λ t. request_of t (with_request r requests)) is ∙ of_with r requests old was))
  | inr ne ↦ inr (ne, sym (of_with_other r u requests ne) ∙ found)
]

pub found_without : (t u : Ticket) (requests : List Request) (q : Request) → request_of u (without_request t requests) ≡ Some q → (u ≢ t) × (request_of u requests ≡ Some q)
found_without t u requests q found = elim (ticket_cases u t) [
  | inl is ↦ absurd (none_some (request_of u (without_request t requests)) q (ap (λ v. request_of v (without_request t requests)) is ∙ gone_without t requests) found)
  | inr ne ↦ (ne, sym (of_without t u requests ne) ∙ found)
]

pub of_push_here : (r : Request) (requests : List Request) → request_of r.ticket requests ≡ None → request_of r.ticket (requests ++ r ∷ []) ≡ Some r
of_push_here r [] none = rw (same_itself r.ticket) refl
of_push_here r (x ∷ xs) none = go (same_ticket x.ticket r.ticket) none (of_push_here r xs)
  where
    go : (t : Bool) → cond t (Some x) (request_of r.ticket xs) ≡ None → (request_of r.ticket xs ≡ None → request_of r.ticket (xs ++ r ∷ []) ≡ Some r)
        → cond t (Some x) (request_of r.ticket (xs ++ r ∷ [])) ≡ Some r
    go true none rest = absurd (grind arith)
    go false none rest = rest none

pub found_push : (r : Request) (requests : List Request) (u : Ticket) (q : Request) → request_of r.ticket requests ≡ None → request_of u (requests ++ r ∷ []) ≡ Some q
    → ((u ≡ r.ticket) × (q ≡ r)) ⊎ ((u ≢ r.ticket) × (request_of u requests ≡ Some q))
found_push r requests u q none found = elim (ticket_cases u r.ticket) [
  | inl is ↦ inl (is, one_of (request_of u (requests ++ r ∷ [])) q r found (ap (λ t. request_of t (requests ++ r ∷ [])) is ∙ of_push_here r requests none))
  | inr ne ↦ inr (ne, sym (of_push_other r u requests ne) ∙ found)
]

-- none passes a test: what is found by another one does not
pub none_passes : {A : Type 0} (p other : A → Bool) (xs : List A) (x : A) → find p xs ≡ None → find other xs ≡ Some x → p x ≡ false
none_passes p other [] x none found = absurd (grind arith)
none_passes p other (y ∷ ys) x none found = go (p y) refl none (other y) found (none_passes p other ys x)
  where
    go : (t : Bool) → p y ≡ t → cond t (Some y) (find p ys) ≡ None → (o : Bool) → cond o (Some y) (find other ys) ≡ Some x → (find p ys ≡ None → find other ys ≡ Some x → p x ≡ false) → p x ≡ false
    go true is none o found rest = absurd (grind arith)
    go false is none true found rest = let e : y ≡ x = cc found in subst (λ z. p z ≡ false) e is
    go false is none false found rest = rest none found

-- where each request that is found is below, all are
pub serials_below : (requests : List Request) (ticket : Ticket)
    → ((t : Ticket) (r : Request) → request_of t requests ≡ Some r → t.serial < ticket.serial) → OwnTickets requests
    → Each (λ other. other.ticket.serial < ticket.serial) requests
serials_below [] ticket low own = tt
serials_below (x ∷ xs) ticket low own = (
  low x.ticket x (ap (λ b. cond b (Some x) (request_of x.ticket xs)) (same_itself x.ticket)),
  serials_below xs ticket (λ t r found. low t r (later t r found (same_ticket x.ticket t) refl)) own.1,
)
  where
    later : (t : Ticket) (r : Request) → request_of t xs ≡ Some r → (b : Bool) → same_ticket x.ticket t ≡ b → cond b (Some x) (request_of t xs) ≡ Some r
    later t r found true is = absurd (none_some (request_of t xs) r (ap (λ u. request_of u xs) (sym (same_is x.ticket t is)) ∙ own.0) found)
    later t r found false is = found
