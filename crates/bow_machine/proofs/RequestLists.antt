-- The requests that wait: one is found by its ticket, is answered and waits no more, or goes on.
use Rattle.std.proofs.Common.{ℕ, ◌≡◌, ◌≢◌, ◌⊎◌, Bool, true, false, not, cond, List, [], ◌∷◌, ◌++◌, Some, None, arith, refl, sym, ap, ◌∙◌, subst, inl, inr}
use Rattle.std.specs.Prelude.{filter, find}
use Rattle.std.specs.List.{AllByRecursion as Each}
use Rattle.std.proofs.lemmas.Bool.{cases_Bool, and_parts, eqb-true, eq-eqb, false≢true}
use Rattle.bow_queue.specs.declared.tickets.Ticket.{Ticket}
use Rattle.bow_queue.specs.Requests.{same_ticket}
use Rattle.bow_machine.specs.Requests.{Request, request_of, without_request, with_request}
use Rattle.bow_machine.specs.MemoryIsSound.{IsRequest}

-- ----------------------------------------------------------------------------------------------------------------
-- Tickets.

pub same_itself : (t : Ticket) → same_ticket t t ≡ true
same_itself t = rw (eq-eqb t.key t.key refl, eq-eqb t.serial t.serial refl) refl

abbrev ticket_of : ℕ → ℕ → Ticket
ticket_of key serial = record { key = key; serial = serial }

pub same_is : (one other : Ticket) → same_ticket one other ≡ true → one ≡ other
same_is one other same =
    let parts = and_parts _ _ same in
    let key : one.key ≡ other.key = eqb-true _ _ parts.0 in
    let serial : one.serial ≡ other.serial = eqb-true _ _ parts.1 in
    ap (λ n. ticket_of n one.serial) key ∙ ap (ticket_of other.key) serial

pub is_same : (one other : Ticket) → one ≡ other → same_ticket one other ≡ true
is_same one other e = subst (λ t. same_ticket one t ≡ true) e (same_itself one)

pub differs : (one other : Ticket) → one ≢ other → same_ticket one other ≡ false
differs one other ne = elim (cases_Bool (same_ticket one other)) [ inl same ↦ absurd (ne (same_is one other same)) | inr other ↦ other ]

pub not_same : (one other : Ticket) → same_ticket one other ≡ false → one ≢ other
not_same one other unlike e = false≢true (sym unlike ∙ is_same one other e)

pub ticket_cases : (one other : Ticket) → (one ≡ other) ⊎ (one ≢ other)
ticket_cases one other = elim (cases_Bool (same_ticket one other)) [ inl same ↦ inl (same_is one other same) | inr unlike ↦ inr (not_same one other unlike) ]

-- ----------------------------------------------------------------------------------------------------------------
-- What is found.

-- what is found passes the test
pub find_passes : {A : Type 0} (p : A → Bool) (xs : List A) (x : A) → find p xs ≡ Some x → p x ≡ true
find_passes p [] x found = absurd (grind arith)
find_passes p (y ∷ ys) x found = go (p y) refl found (find_passes p ys x)
  where
    go : (t : Bool) → p y ≡ t → cond t (Some y) (find p ys) ≡ Some x → (find p ys ≡ Some x → p x ≡ true) → p x ≡ true
    go true is found rest = let e : y ≡ x = cc found in subst (λ z. p z ≡ true) e is
    go false is found rest = rest found

-- and has what all have
pub find_has : {A : Type 0} (P : A → Type 0) (p : A → Bool) (xs : List A) (x : A) → Each P xs → find p xs ≡ Some x → P x
find_has P p [] x each found = absurd (grind arith)
find_has P p (y ∷ ys) x each found = go (p y) found (find_has P p ys x each.1)
  where
    go : (t : Bool) → cond t (Some y) (find p ys) ≡ Some x → (find p ys ≡ Some x → P x) → P x
    go true found rest = let e : y ≡ x = cc found in subst P e each.0
    go false found rest = rest found

pub found_ticket : (t : Ticket) (requests : List Request) (r : Request) → request_of t requests ≡ Some r → r.ticket ≡ t
found_ticket t requests r found = same_is r.ticket t (find_passes (λ r. same_ticket r.ticket t) requests r found)

pub found_request : (t : Ticket) (requests : List Request) (r : Request) → Each IsRequest requests → request_of t requests ≡ Some r → IsRequest r
found_request t requests r each found = find_has IsRequest (λ r. same_ticket r.ticket t) requests r each found

-- ----------------------------------------------------------------------------------------------------------------
-- Each of a list, after a change of it.

pub each_filter : {A : Type 0} (P : A → Type 0) (p : A → Bool) (xs : List A) → Each P xs → Each P (filter p xs)
each_filter P p [] each = tt
each_filter P p (x ∷ xs) each = go (p x) (each_filter P p xs each.1)
  where
    go : (t : Bool) → Each P (filter p xs) → Each P (cond t (x ∷ filter p xs) (filter p xs))
    go true rest = (each.0, rest)
    go false rest = rest

pub each_append : {A : Type 0} (P : A → Type 0) (xs ys : List A) → Each P xs → Each P ys → Each P (xs ++ ys)
each_append P [] ys left right = right
each_append P (x ∷ xs) ys left right = (left.0, each_append P xs ys left.1 right)

pub each_without : (t : Ticket) (requests : List Request) → Each IsRequest requests → Each IsRequest (without_request t requests)
each_without t requests each = each_filter IsRequest (λ r. not (same_ticket r.ticket t)) requests each

pub each_with : (r : Request) (requests : List Request) → IsRequest r → Each IsRequest requests → Each IsRequest (with_request r requests)
each_with r [] one each = tt
each_with r (x ∷ xs) one each = (go (same_ticket x.ticket r.ticket), each_with r xs one each.1)
  where
    go : (t : Bool) → IsRequest (cond t r x)
    go true = one
    go false = each.0

-- ----------------------------------------------------------------------------------------------------------------
-- The request of a ticket, after a change of the list.

-- the request of another ticket is answered
pub of_without : (s t : Ticket) (requests : List Request) → t ≢ s → request_of t (without_request s requests) ≡ request_of t requests
of_without s t [] ne = refl
of_without s t (x ∷ xs) ne = elim (ticket_cases x.ticket t) [
  | inl is ↦
      let other : same_ticket x.ticket s ≡ false = differs x.ticket s (λ e. ne (sym is ∙ e)) in
      let here : same_ticket x.ticket t ≡ true = is_same x.ticket t is in
      rw (other, here) refl
  | inr unlike ↦
      let past : same_ticket x.ticket t ≡ false = differs x.ticket t unlike in
      elim (cases_Bool (same_ticket x.ticket s)) [
        | inl gone ↦ rw (gone, past) (of_without s t xs ne)
        | inr stays ↦ rw (stays, past) (of_without s t xs ne)
      ]
]

-- what was answered is found no more
pub gone_without : (t : Ticket) (requests : List Request) → request_of t (without_request t requests) ≡ None
gone_without t [] = refl
gone_without t (x ∷ xs) = elim (cases_Bool (same_ticket x.ticket t)) [
  | inl gone ↦ rw gone (gone_without t xs)
  | inr stays ↦ rw (stays, stays) (gone_without t xs)
]

-- a request goes on: it is found as it is now, and each other one as it was
pub of_with_other : (r : Request) (t : Ticket) (requests : List Request) → t ≢ r.ticket → request_of t (with_request r requests) ≡ request_of t requests
of_with_other r t [] ne = refl
of_with_other r t (x ∷ xs) ne = elim (ticket_cases x.ticket r.ticket) [
  | inl is ↦
      let mine : same_ticket x.ticket r.ticket ≡ true = is_same x.ticket r.ticket is in
      let new : same_ticket r.ticket t ≡ false = differs r.ticket t (λ e. ne (sym e)) in
      let old : same_ticket x.ticket t ≡ false = differs x.ticket t (λ e. ne (sym e ∙ is)) in
      rw (mine, new, old) (of_with_other r t xs ne)
  | inr unlike ↦
      let other : same_ticket x.ticket r.ticket ≡ false = differs x.ticket r.ticket unlike in
      elim (cases_Bool (same_ticket x.ticket t)) [
        | inl here ↦ rw (other, here) refl
        | inr past ↦ rw (other, past) (of_with_other r t xs ne)
      ]
]

pub of_with : (r : Request) (requests : List Request) (old : Request) → request_of r.ticket requests ≡ Some old
    → request_of r.ticket (with_request r requests) ≡ Some r
of_with r [] old found = absurd (grind arith)
of_with r (x ∷ xs) old found = elim (cases_Bool (same_ticket x.ticket r.ticket)) [
  | inl is ↦ rw (is, same_itself r.ticket) refl
  | inr unlike ↦ rw (unlike, unlike) (of_with r xs old (rw unlike at found))
]

-- one more request, of a ticket that none had
pub of_push_other : (r : Request) (t : Ticket) (requests : List Request) → t ≢ r.ticket → request_of t (requests ++ r ∷ []) ≡ request_of t requests
of_push_other r t [] ne = rw (differs r.ticket t (λ e. ne (sym e))) refl
of_push_other r t (x ∷ xs) ne = elim (cases_Bool (same_ticket x.ticket t)) [
  | inl here ↦ rw here refl
  | inr past ↦ rw past (of_push_other r t xs ne)
]

pub of_push_found : (r : Request) (t : Ticket) (requests : List Request) (found : Request) → request_of t requests ≡ Some found
    → request_of t (requests ++ r ∷ []) ≡ Some found
of_push_found r t [] found is = absurd (grind arith)
of_push_found r t (x ∷ xs) found is = elim (cases_Bool (same_ticket x.ticket t)) [
  | inl here ↦ rw here (rw here at is)
  | inr past ↦ rw past (of_push_found r t xs found (rw past at is))
]
