-- The lanes and the requests that wait, after each turn; and writes that are no single event do not mix.
use Rattle.std.proofs.Common.{ℕ, zero, suc, ◌+◌, ◌<◌, ◌≡◌, ◌≢◌, ◌⊎◌, ◌&&◌, nat_lt, ◌++◌, Bool, true, false, not, cond, List, [], ◌∷◌, Option, Some, None, is_none, arith, refl, sym, ap, ◌∙◌, subst, inl, inr}
use Rattle.std.specs.Prelude.{find}
use Rattle.std.specs.Option.{option_map, option_map_or, option_and_then}
use Rattle.std.proofs.lemmas.Bool.{cases_eq, false≢true}
use Rattle.bow_units.specs.declared.requests.Op.{Op}
use Rattle.bow_units.specs.declared.requests.Op.TheVariants as ops
use Rattle.bow_units.specs.declared.sizes.Extent.{Extent}
use Rattle.bow_flat.specs.Flat.{put}
use Rattle.bow_queue.specs.declared.tickets.Ticket.{Ticket}
use Rattle.bow_queue.specs.Extents.{overlaps}
use Rattle.bow_queue.specs.Requests.{same_ticket, written, op_of, first_ticket, is_earlier_overlap, waits_on}
use Rattle.bow_ranges.specs.Kinds.{holds}
use Rattle.bow_machine.specs.Requests.{Request, request_of, with_request, without_request}
use Rattle.bow_machine.specs.Memory.{Memory}
use Rattle.bow_machine.specs.Tasks.{is_waiting}
use Rattle.bow_machine.proofs.RequestLists.{same_itself, same_is, ticket_cases, of_without, of_with_other, of_with, of_push_found}
use Rattle.bow_machine.proofs.MappedWrites.{put_here, put_there}
use Rattle.bow_history.specs.Journal.{Plan, writes}
use Rattle.bow_history.specs.Sessions.{IsFor, has_ticket, lane_of}
use Rattle.bow_history.specs.Fits.{AreSeated, AreApart, AreInTurn}
use Rattle.bow_history.proofs.Lists.{none_some, one_of, found_with, found_without, of_push_here, found_push, none_passes}

-- ----------------------------------------------------------------------------------------------------------------
-- The lane that has a ticket in hand.

has_it : (t : Ticket) (o : Option Ticket) → has_ticket t o ≡ true → o ≡ Some t
has_it t None h = absurd (false≢true h)
has_it t (Some u) h = ap Some (same_is u t h)

pub lane_is : (hand : ℕ → Option Ticket) (t : Ticket) (lane n : ℕ) → lane < n → hand lane ≡ Some t → ((other : ℕ) → hand other ≡ Some t → lane ≡ other) → lane_of hand t n ≡ lane
lane_is hand t lane zero below has own = absurd (omega (arith, below))
lane_is hand t lane (suc n) below has own = go (has_ticket t (hand n)) refl (lane_is hand t lane n)
  where
    go : (b : Bool) → has_ticket t (hand n) ≡ b → (lane < n → hand lane ≡ Some t → ((other : ℕ) → hand other ≡ Some t → lane ≡ other) → lane_of hand t n ≡ lane)
        → cond b n (lane_of hand t n) ≡ lane
    go true is rest = sym (own n (has_it t (hand n) is))
    go false is rest = elim (cases_eq lane n) [
      | inl same ↦ absurd (false≢true (sym is ∙ ap (λ l. has_ticket t (hand l)) (sym same) ∙ ap (has_ticket t) has ∙ same_itself t))
      | inr ne ↦ rest (omega (arith, below, ne)) has own
    ]

module _ (plan : Plan) (requests : List Request) (admitted : ℕ) (number : ℕ → ℕ) (hand : ℕ → Option Ticket) (s : AreSeated plan requests admitted number hand) where
  -- ----------------------------------------------------------------------------------------------------------------
  -- A request is taken in.

  module _ (r : Request) (lane : ℕ) (asked : Op) (inside : lane < plan.lanes) (free : hand lane ≡ None) (next : plan.request lane (number lane) ≡ Some asked) (is_for : IsFor plan.sizes asked r.op)
      (serial : r.ticket.serial ≡ admitted) where
    pub new_ticket : request_of r.ticket requests ≡ None
    new_ticket = go (request_of r.ticket requests) refl
      where
        go : (o : Option Request) → request_of r.ticket requests ≡ o → request_of r.ticket requests ≡ None
        go None is = is
        go (Some q) is = absurd (let low = s.serials r.ticket q is in omega (arith, low, serial))

    hands : ℕ → Option Ticket
    hands = put hand lane (Some r.ticket)

    other_hand : (l : ℕ) (t : Ticket) → put hand lane (Some r.ticket) l ≡ Some t → ((l ≡ lane) × (t ≡ r.ticket)) ⊎ ((l ≢ lane) × (hand l ≡ Some t))
    other_hand l t has = elim (cases_eq l lane) [
      | inl is ↦ inl (is, one_of (put hand lane (Some r.ticket) l) t r.ticket has (put_here hand lane (Some r.ticket) l is))
      | inr ne ↦ inr (ne, sym (put_there hand lane (Some r.ticket) l ne) ∙ has)
    ]

    not_new : (l : ℕ) (t : Ticket) → hand l ≡ Some t → t ≢ r.ticket
    not_new l t has is = let seat = s.each l t has in none_some (request_of r.ticket requests) seat.request new_ticket (ap (λ u. request_of u requests) (sym is) ∙ seat.waits)

    older : (t : Ticket) (q : Request) → request_of t requests ≡ Some q → t.serial < r.ticket.serial
    older t q found = let low = s.serials t q found in omega (arith, low, serial)

    pub seated_push : AreSeated plan (requests ++ r ∷ []) (admitted + 1) number (put hand lane (Some r.ticket))
    seated_push = record {
      each = λ l t has. elim (other_hand l t has) [
        | inl new ↦ record { inside = subst (λ x. x < plan.lanes) (sym new.0) inside; request = r; waits = ap (λ u. request_of u (requests ++ r ∷ [])) new.1 ∙ of_push_here r requests new_ticket; asked = asked; next = ap (λ x. plan.request x (number x)) new.0 ∙ next; is = is_for }
        | inr old ↦ let seat = s.each l t old.1 in record { inside = seat.inside; request = seat.request; waits = of_push_found r t requests seat.request seat.waits; asked = seat.asked; next = seat.next; is = seat.is }
      ];
      own = λ l m t one two. elim (other_hand l t one) [
        | inl new ↦ elim (other_hand m t two) [ inl same ↦ new.0 ∙ sym same.0 | inr old ↦ absurd (not_new m t old.1 new.1) ]
        | inr old ↦ elim (other_hand m t two) [ inl new ↦ absurd (not_new l t old.1 new.1) | inr same ↦ s.own l m t old.1 same.1 ]
      ];
      lanes = λ t q found. elim (found_push r requests t q new_ticket found) [
        | inl new ↦ (lane, put_here hand lane (Some r.ticket) lane refl ∙ ap Some (sym new.0))
        | inr old ↦ let l = s.lanes t q old.1 in (l.0, put_there hand lane (Some r.ticket) l.0 (λ e. none_some (hand lane) t free (ap hand (sym e) ∙ l.1)) ∙ l.1)
      ];
      serials = λ t q found. elim (found_push r requests t q new_ticket found) [
        | inl new ↦ let same = ap (λ (u : Ticket). u.serial) new.0 in omega (arith, same, serial)
        | inr old ↦ let low = s.serials t q old.1 in omega (arith, low)
      ];
      apart = λ t u q x first second same. elim (found_push r requests t q new_ticket first) [
        | inl new ↦ elim (found_push r requests u x new_ticket second) [
          | inl both ↦ new.0 ∙ sym both.0
          | inr old ↦ absurd (let low = older u x old.1 in let e = ap (λ (v : Ticket). v.serial) new.0 in omega (arith, low, e, same))
        ]
        | inr old ↦ elim (found_push r requests u x new_ticket second) [
          | inl new ↦ absurd (let low = older t q old.1 in let e = ap (λ (v : Ticket). v.serial) new.0 in omega (arith, low, e, same))
          | inr both ↦ s.apart t u q x old.1 both.1 same
        ]
      ];
    }

    pub in_turn_push : r.done ≡ 0 → AreInTurn requests → AreInTurn (requests ++ r ∷ [])
    in_turn_push none in_turn t u q x first second less begun = elim (found_push r requests u x new_ticket second) [
      | inl new ↦ absurd (let e = ap (λ (y : Request). y.done) new.1 in omega (arith, e, none, begun))
      | inr old ↦ elim (found_push r requests t q new_ticket first) [
        | inl new ↦ absurd (let low = older u x old.1 in let e = ap (λ (v : Ticket). v.serial) new.0 in omega (arith, low, e, less))
        | inr both ↦ in_turn t u q x both.1 old.1 less begun
      ]
    ]

  -- ----------------------------------------------------------------------------------------------------------------
  -- A request goes on.

  module _ (r old : Request) (was : request_of r.ticket requests ≡ Some old) (same_for : (asked : Op) → IsFor plan.sizes asked old.op → IsFor plan.sizes asked r.op) where
    found_before : (t : Ticket) (q : Request) → request_of t (with_request r requests) ≡ Some q → (x : Request) × (request_of t requests ≡ Some x)
    found_before t q found = elim (found_with r old requests t q was found) [
      | inl here ↦ (old, ap (λ u. request_of u requests) here.0 ∙ was)
      | inr other ↦ (q, other.1)
    ]

    pub seated_with : AreSeated plan (with_request r requests) admitted number hand
    seated_with = record {
      each = λ l t has. let seat = s.each l t has in elim (ticket_cases t r.ticket) [
        | inl is ↦ record {
          inside = seat.inside;
          request = r;
          waits = ap (λ u. request_of u (with_request r requests)) is ∙ of_with r requests old was;
          asked = seat.asked;
          next = seat.next;
          is = same_for seat.asked (subst (λ (x : Request). IsFor plan.sizes seat.asked x.op) (one_of (request_of r.ticket requests) seat.request old (ap (λ u. request_of u requests) (sym is) ∙ seat.waits) was) seat.is);
        }
        | inr ne ↦ record { inside = seat.inside; request = seat.request; waits = of_with_other r t requests ne ∙ seat.waits; asked = seat.asked; next = seat.next; is = seat.is }
      ];
      own = s.own;
      lanes = λ t q found. let x = found_before t q found in s.lanes t x.0 x.1;
      serials = λ t q found. let x = found_before t q found in s.serials t x.0 x.1;
      apart = λ t u q x first second same. let y = found_before t q first in let z = found_before u x second in s.apart t u y.0 z.0 y.1 z.1 same;
    }

    pub in_turn_with : ((b : ℕ) → writes r.op b ≡ writes old.op b) → ((t : Ticket) (q : Request) → request_of t requests ≡ Some q → t.serial < r.ticket.serial → AreApart q.op r.op)
        → AreInTurn requests → AreInTurn (with_request r requests)
    in_turn_with same first in_turn t u q x one two less begun = elim (found_with r old requests u x was two) [
      | inl here ↦ elim (found_with r old requests t q was one) [
        | inl both ↦ absurd (let e = ap (λ (v : Ticket). v.serial) (both.0 ∙ sym here.0) in omega (arith, e, less))
        | inr other ↦ subst (λ (y : Request). AreApart q.op y.op) (sym here.1) (first t q other.1 (let e = ap (λ (v : Ticket). v.serial) here.0 in omega (arith, e, less)))
      ]
      | inr there ↦ elim (found_with r old requests t q was one) [
        | inl here ↦ λ b mine its. in_turn r.ticket u old x was there.1 (let e = ap (λ (v : Ticket). v.serial) here.0 in omega (arith, e, less)) begun b (sym (same b) ∙ ap (λ (y : Request). writes y.op b) (sym here.1) ∙ mine) its
        | inr other ↦ in_turn t u q x other.1 there.1 less begun
      ]
    ]

  -- ----------------------------------------------------------------------------------------------------------------
  -- A request is answered.

  module _ (t : Ticket) (lane : ℕ) (has : hand lane ≡ Some t) where
    still_has : (l : ℕ) (u : Ticket) → put hand lane None l ≡ Some u → (l ≢ lane) × (hand l ≡ Some u)
    still_has l u h = elim (cases_eq l lane) [
      | inl is ↦ absurd (none_some (put hand lane None l) u (put_here hand lane None l is) h)
      | inr ne ↦ (ne, sym (put_there hand lane None l ne) ∙ h)
    ]

    pub seated_without : AreSeated plan (without_request t requests) admitted (put number lane (suc (number lane))) (put hand lane None)
    seated_without = record {
      each = λ l u h.
          let still = still_has l u h in
          let seat = s.each l u still.1 in
          record {
            inside = seat.inside;
            request = seat.request;
            waits = of_without t u requests (λ e. still.0 (s.own l lane t (still.1 ∙ ap Some e) has)) ∙ seat.waits;
            asked = seat.asked;
            next = ap (plan.request l) (put_there number lane (suc (number lane)) l still.0) ∙ seat.next;
            is = seat.is;
          };
      own = λ l m u one two. s.own l m u (still_has l u one).1 (still_has m u two).1;
      lanes = λ u q found.
          let before = found_without t u requests q found in
          let l = s.lanes u q before.1 in
          (l.0, put_there hand lane None l.0 (λ e. before.0 (one_of (hand lane) u t (ap hand (sym e) ∙ l.1) has)) ∙ l.1);
      serials = λ u q found. s.serials u q (found_without t u requests q found).1;
      apart = λ u v q x first second same. s.apart u v q x (found_without t u requests q first).1 (found_without t v requests x second).1 same;
    }

    pub in_turn_without : AreInTurn requests → AreInTurn (without_request t requests)
    in_turn_without in_turn u v q x one two less begun = in_turn u v q x (found_without t u requests q one).1 (found_without t v requests x two).1 less begun

-- ----------------------------------------------------------------------------------------------------------------
-- Writes that overlap wait for each other.

pub op_is : (t : Ticket) (requests : List Request) (r : Request) → request_of t requests ≡ Some r → op_of t requests ≡ Some r.op
op_is t [] r found = absurd (grind arith)
op_is t (x ∷ xs) r found = go (same_ticket x.ticket t) found (op_is t xs r)
  where
    go : (b : Bool) → cond b (Some x) (request_of t xs) ≡ Some r → (request_of t xs ≡ Some r → op_of t xs ≡ Some r.op)
        → option_map (λ (w : Request). w.op) (cond b (Some x) (find (λ w. same_ticket w.ticket t) xs)) ≡ Some r.op
    go true found rest = let e : x ≡ r = cc found in ap (λ (y : Request). Some y.op) e
    go false found rest = rest found

no_overlap : (e x : Extent) (b : ℕ) → overlaps e x ≡ false → holds e b ≡ true → holds x b ≡ true → ⊥
no_overlap e x b none one two = grind (arith, none, one, two)

no_ticket : {A B : Type 0} (f : A → B) (o : Option A) → option_map f o ≡ None → o ≡ None
no_ticket f None h = refl
no_ticket f (Some x) h = absurd (grind arith)

-- a write that does not wait overlaps no write of a smaller serial number
pub not_waiting : (m : Memory) (r q : Request) (e : Extent) (payload : List ℕ) (t : Ticket) → request_of r.ticket m.requests ≡ Some r → r.op ≡ ops.Write e payload → is_waiting m r ≡ false
    → request_of t m.requests ≡ Some q → q.ticket.serial < r.ticket.serial → AreApart q.op r.op
not_waiting m r q e payload t mine op free its less b one two = go q.op refl
  where
    ticket : waits_on r.ticket m.requests ≡ None
    ticket = none_is (waits_on r.ticket m.requests) free
      where
        none_is : (o : Option Ticket) → not (is_none o) ≡ false → o ≡ None
        none_is None h = refl
        none_is (Some u) h = absurd (grind arith)

    first : first_ticket (is_earlier_overlap r.ticket.serial e) m.requests ≡ None
    first = ap (λ o. option_and_then (λ extent. first_ticket (is_earlier_overlap r.ticket.serial extent) m.requests) (option_and_then written o)) (sym (op_is r.ticket m.requests r mine ∙ ap Some op)) ∙ ticket

    passed : is_earlier_overlap r.ticket.serial e q ≡ false
    passed = none_passes (is_earlier_overlap r.ticket.serial e) (λ x. same_ticket x.ticket t) m.requests q (no_ticket _ _ first) its

    go : (o : Op) → q.op ≡ o → ⊥
    go (ops.Write x p) is =
        let under : nat_lt q.ticket.serial r.ticket.serial ≡ true = grind (arith, less) in
        let apart : overlaps e x ≡ false = subst (λ z. (z && option_map_or (overlaps e) (written (ops.Write x p)) false) ≡ false) under (subst (λ o. (nat_lt q.ticket.serial r.ticket.serial && option_map_or (overlaps e) (written o) false) ≡ false) is passed) in
        no_overlap e x b apart (subst (λ o. writes o b ≡ true) op two) (subst (λ o. writes o b ≡ true) is one)
    go (ops.Read x p) is = false≢true (subst (λ o. writes o b ≡ true) is one)
    go (ops.Discard x) is = false≢true (subst (λ o. writes o b ≡ true) is one)
    go ops.Flush is = false≢true (subst (λ o. writes o b ≡ true) is one)
    go ops.Prepare is = false≢true (subst (λ o. writes o b ≡ true) is one)
    go ops.Commit is = false≢true (subst (λ o. writes o b ≡ true) is one)
