-- The requests that wait by rising serial number, and the command in hand, after a change of the list.
use Rattle.std.proofs.Common.{ℕ, ◌+◌, ◌<◌, ◌≤◌, ◌≡◌, ◌≢◌, Bool, true, false, not, cond, List, [], ◌∷◌, ◌++◌, Some, None, arith, refl, sym, ap, ◌∙◌, subst, inl, inr, length, length-append}
use Rattle.std.specs.Prelude.{find}
use Rattle.std.specs.List.{AllByRecursion as Each, count_by}
use Rattle.std.proofs.lemmas.Bool.{cases_Bool}
use Rattle.std.proofs.lemmas.List.{length-map}
use Rattle.std.proofs.lemmas.List.Sums.{sum_by-cons}
use Rattle.bow_units.specs.declared.sizes.Geometry.{Geometry}
use Rattle.bow_units.specs.declared.requests.Op.{Op}
use Rattle.bow_queue.specs.declared.tickets.Ticket.{Ticket}
use Rattle.bow_queue.specs.Requests.{same_ticket, is_command}
use Rattle.bow_machine.specs.Requests.{Request, request_of, without_request, with_request}
use Rattle.bow_machine.proofs.Held.{OwnTickets}
use Rattle.bow_machine.specs.MemoryIsSound.{IsWaiting, Rising, IsForCommand}
use Rattle.bow_machine.proofs.RequestLists.{same_is, differs, find_has, each_filter, each_append, of_without, of_with_other, of_push_found}

-- ----------------------------------------------------------------------------------------------------------------
-- Rising serial numbers.

-- each of these waits under a serial number above this one
abbrev pub Above : ℕ → List Request → Type 0
Above serial requests = Each (λ other. serial < other.ticket.serial) requests

above_without : (serial : ℕ) (t : Ticket) (requests : List Request) → Above serial requests → Above serial (without_request t requests)
above_without serial t requests above = each_filter (λ (other : Request). serial < other.ticket.serial) (λ r. not (same_ticket r.ticket t)) requests above

pub rising_without : (t : Ticket) (requests : List Request) → Rising requests → Rising (without_request t requests)
rising_without t [] rising = tt
rising_without t (x ∷ xs) rising = go (not (same_ticket x.ticket t)) (rising_without t xs rising.1)
  where
    go : (stays : Bool) → Rising (without_request t xs) → Rising (cond stays (x ∷ without_request t xs) (without_request t xs))
    go true rest = (above_without x.ticket.serial t xs rising.0, rest)
    go false rest = rest

above_with : (serial : ℕ) (r : Request) (requests : List Request) → Above serial requests → Above serial (with_request r requests)
above_with serial r [] above = tt
above_with serial r (x ∷ xs) above = (
  elim (cases_Bool (same_ticket x.ticket r.ticket)) [
    | inl is ↦ rw is (subst (λ (t : Ticket). serial < t.serial) (same_is x.ticket r.ticket is) above.0)
    | inr other ↦ rw other above.0
  ],
  above_with serial r xs above.1,
)

pub rising_with : (r : Request) (requests : List Request) → Rising requests → Rising (with_request r requests)
rising_with r [] rising = tt
rising_with r (x ∷ xs) rising = (
  elim (cases_Bool (same_ticket x.ticket r.ticket)) [
    | inl is ↦ rw is (subst (λ (t : Ticket). Above t.serial (with_request r xs)) (same_is x.ticket r.ticket is) (above_with x.ticket.serial r xs rising.0))
    | inr other ↦ rw other (above_with x.ticket.serial r xs rising.0)
  ],
  rising_with r xs rising.1,
)

pub rising_push : (r : Request) (requests : List Request) → Each (λ other. other.ticket.serial < r.ticket.serial) requests → Rising requests → Rising (requests ++ r ∷ [])
rising_push r [] below rising = (tt, tt)
rising_push r (x ∷ xs) below rising = (each_append (λ (other : Request). x.ticket.serial < other.ticket.serial) xs (r ∷ []) rising.0 (below.0, tt), rising_push r xs below.1 rising.1)

-- no request above this serial number has it
none_above : (t : Ticket) (requests : List Request) → Above t.serial requests → request_of t requests ≡ None
none_above t [] above = refl
none_above t (x ∷ xs) above =
    let other : same_ticket x.ticket t ≡ false = differs x.ticket t (λ e. let same = ap (λ (u : Ticket). u.serial) e in absurd (omega (arith, same, above.0))) in
    rw other (none_above t xs above.1)

-- no request below it has it
pub none_below : (t : Ticket) (requests : List Request) → Each (λ other. other.ticket.serial < t.serial) requests
    → request_of t requests ≡ None
none_below t [] below = refl
none_below t (x ∷ xs) below =
    let other : same_ticket x.ticket t ≡ false = differs x.ticket t (λ e. let same = ap (λ (u : Ticket). u.serial) e in absurd (omega (arith, same, below.0))) in
    rw other (none_below t xs below.1)

-- so each waits under a ticket of its own
pub own_tickets : (requests : List Request) → Rising requests → OwnTickets requests
own_tickets [] rising = tt
own_tickets (x ∷ xs) rising = (none_above x.ticket xs rising.0, own_tickets xs rising.1)

-- ----------------------------------------------------------------------------------------------------------------
-- Each request was taken in.

module _ (g : Geometry) where
  pub waiting_without : (t : Ticket) (requests : List Request) → Each (IsWaiting g) requests → Each (IsWaiting g) (without_request t requests)
  waiting_without t requests each = each_filter (IsWaiting g) (λ r. not (same_ticket r.ticket t)) requests each

  pub waiting_with : (r : Request) (requests : List Request) → IsWaiting g r → Each (IsWaiting g) requests → Each (IsWaiting g) (with_request r requests)
  waiting_with r [] one each = tt
  waiting_with r (x ∷ xs) one each = (go (same_ticket x.ticket r.ticket), waiting_with r xs one each.1)
    where
      go : (t : Bool) → IsWaiting g (cond t r x)
      go true = one
      go false = each.0

  pub found_waiting : (t : Ticket) (requests : List Request) (r : Request) → Each (IsWaiting g) requests → request_of t requests ≡ Some r → IsWaiting g r
  found_waiting t requests r each found = find_has (IsWaiting g) (λ r. same_ticket r.ticket t) requests r each found

-- ----------------------------------------------------------------------------------------------------------------
-- The command in hand.

pub for_command_without : (s t : Ticket) (op : Op) (requests : List Request) → t ≢ s → IsForCommand requests t op → IsForCommand (without_request s requests) t op
for_command_without s t op requests ne h = record { command = h.command; waits = of_without s t requests ne ∙ h.waits; asks = h.asks }

pub for_command_with : (r : Request) (t : Ticket) (op : Op) (requests : List Request) → t ≢ r.ticket → IsForCommand requests t op → IsForCommand (with_request r requests) t op
for_command_with r t op requests ne h = record { command = h.command; waits = of_with_other r t requests ne ∙ h.waits; asks = h.asks }

pub for_command_push : (r : Request) (t : Ticket) (op : Op) (requests : List Request) → IsForCommand requests t op → IsForCommand (requests ++ r ∷ []) t op
for_command_push r t op requests h = record { command = h.command; waits = of_push_found r t requests h.command h.waits; asks = h.asks }

-- a request that waits, and asks for something else, is another one
pub other_command : (r : Request) (t : Ticket) (op : Op) (requests : List Request) → request_of r.ticket requests ≡ Some r → is_command op ≡ true → is_command r.op ≡ false
    → IsForCommand requests t op → t ≢ r.ticket
other_command r t op requests found one other h is =
    let same : Some h.command ≡ Some r = sym h.waits ∙ ap (λ u. request_of u requests) is ∙ found in
    let e : h.command ≡ r = cc same in
    let clash : true ≡ false = sym one ∙ ap is_command (sym h.asks ∙ ap (λ (q : Request). q.op) e) ∙ other in
    absurd (grind arith)

-- ----------------------------------------------------------------------------------------------------------------
-- How many of a list pass a test.

pub count_cons : {A : Type 0} (p : A → Bool) (x : A) (xs : List A) → count_by p (x ∷ xs) ≡ cond (p x) 1 0 + count_by p xs
count_cons p x xs = sum_by-cons (λ y. cond (p y) 1 0) x xs

-- where one is found, some are counted
pub found_counts : {A : Type 0} (p : A → Bool) (xs : List A) (x : A) → find p xs ≡ Some x → 1 ≤ count_by p xs
found_counts p [] x found = absurd (grind arith)
found_counts p (y ∷ ys) x found = subst (λ n. 1 ≤ n) (sym (count_cons p y ys)) (go (p y) found (found_counts p ys x))
  where
    go : (t : Bool) → cond t (Some y) (find p ys) ≡ Some x → (find p ys ≡ Some x → 1 ≤ count_by p ys) → 1 ≤ cond t 1 0 + count_by p ys
    go true found rest = omega arith
    go false found rest = let some = rest found in omega (arith, some)

-- ----------------------------------------------------------------------------------------------------------------
-- How many requests wait.

-- a request is answered: as many wait, or fewer
pub without_no_more : (t : Ticket) (requests : List Request) → length (without_request t requests) ≤ length requests
without_no_more t [] = omega arith
without_no_more t (x ∷ xs) = go (not (same_ticket x.ticket t)) (without_no_more t xs)
  where
    go : (stays : Bool) → length (without_request t xs) ≤ length xs → length (cond stays (x ∷ without_request t xs) (without_request t xs)) ≤ length (x ∷ xs)
    go true rest = omega (arith, rest)
    go false rest = omega (arith, rest)

pub few_without : (t : Ticket) (requests : List Request) → length requests ≤ 16 → length (without_request t requests) ≤ 16
few_without t requests few = let no_more = without_no_more t requests in omega (arith, no_more, few)

pub few_with : (r : Request) (requests : List Request) → length requests ≤ 16 → length (with_request r requests) ≤ 16
few_with r requests few = let same = length-map requests (λ other. cond (same_ticket other.ticket r.ticket) r other) in omega (arith, same, few)

pub few_push : (r : Request) (requests : List Request) → length requests < 16 → length (requests ++ r ∷ []) ≤ 16
few_push r requests few = let all = length-append requests (r ∷ []) in omega (arith, all, few)
