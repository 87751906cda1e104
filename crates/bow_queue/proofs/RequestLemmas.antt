-- What the waiting requests are after each change of the tickets and the slab.
use Rattle.std.proofs.Common.{◌≡◌, ◌≢◌, ℕ, zero, suc, ◌+◌, ◌<◌, true, false, not, List, [], ◌∷◌, ◌++◌, map, length, get_or, take, drop, Option, Some, None, IsSome, is_some, cond, unwrap_or, refl, sym, ap, subst, ◌∙◌, inl, inr, arith}
use Rattle.std.specs.List.{All, AllPairs, Contains, remove}
use Rattle.std.specs.Option.{OnSome, option_map}
use Rattle.std.proofs.lemmas.Bool.{cases_Bool, cases_eq, cases_lt, and_parts, eqb-true, eq-eqb, false≢true}
use Rattle.std.proofs.lemmas.List.Sums.{sum_by-set}
use Rattle.std.proofs.lemmas.List.{length-map, get_or_past, get_or_default, length_push, map-append, get_or_append_left, get_or_at}
use Rattle.std.proofs.lemmas.List.Edits.{length-remove}
use Rattle.std.proofs.lemmas.List.Elements.{All-append, All-cons, All-drop, All-map, All-push, All-take}
use Rattle.std.proofs.lemmas.List.Quantifiers.{all_pairs_push, all_pairs_remove}
use Rattle.std.proofs.lemmas.Option.{same_Some, none-some}
use Rattle.slab.specs.Slab.{Slab, get, slab_len, with_value, Updates}
use Rattle.slab.proofs.SlabLemmas.{Updates-with_value}
use Rattle.bow_units.specs.declared.requests.Op.TheVariants.{Flush}
use Rattle.bow_queue.specs.declared.tickets.Ticket.{Ticket}
use Rattle.bow_queue.specs.declared.requests.Request.{Request}
use Rattle.bow_queue.specs.Requests.{Requests, IsOrderly, Precedes, same_ticket, request_of, the_request, without_request, with_request, fresh_request}
use Rattle.bow_queue.specs.Insides.{QueueIsSound, AreStored, HoldsNoOther, request_at, requests_at, ticket_at}

-- the requests, and the numbers beside them
abbrev pub requests_of : List Request → ℕ → ℕ → ℕ → Requests
requests_of waiting places blocks admitted = record { waiting = waiting; places = places; blocks = blocks; admitted = admitted }

-- the test of tickets is their equality
same_ticket_itself : (ticket : Ticket) → same_ticket ticket ticket ≡ true
same_ticket_itself ticket = rw (eq-eqb ticket.key ticket.key refl, eq-eqb ticket.serial ticket.serial refl) refl

abbrev ticket_of : ℕ → ℕ → Ticket
ticket_of key serial = record { key = key; serial = serial }

pub same_ticket-true : (one other : Ticket) → same_ticket one other ≡ true → one ≡ other
same_ticket-true one other same =
    let parts = and_parts _ _ same in
    let key : one.key ≡ other.key = eqb-true _ _ parts.0 in
    let serial : one.serial ≡ other.serial = eqb-true _ _ parts.1 in
    ap (λ n. ticket_of n one.serial) key ∙ ap (ticket_of other.key) serial

same_ticket-false : (one other : Ticket) → one ≢ other → same_ticket one other ≡ false
same_ticket-false one other differ =
    elim (cases_Bool (same_ticket one other)) [
      | inl same ↦ absurd (differ (same_ticket-true one other same))
      | inr differs ↦ differs
    ]

-- where the test says so, they are two
pub not_same : (one other : Ticket) → not (same_ticket one other) ≡ true → one ≢ other
not_same one other differ same =
    let yes : same_ticket one other ≡ true = rw same (same_ticket_itself other) in
    false≢true (rw yes at differ)

-- what has this ticket is something, and it has this ticket
ticket_found : (slot : Option Request) (ticket : Ticket) (d : Request) → option_map (λ r. r.ticket) slot ≡ Some ticket → (slot ≡ Some (unwrap_or slot d)) × ((unwrap_or slot d).ticket ≡ ticket)
ticket_found None ticket d is = absurd (none-some ticket is)
ticket_found (Some r) ticket d is = (refl, same_Some _ _ is)

-- a stored request lies at its key, under its ticket
pub held : (slots : Slab Request) (ticket : Ticket) → ticket_at slots ticket.key ≡ Some ticket → get slots ticket.key ≡ Some (request_at slots ticket)
held slots ticket is = (ticket_found (get slots ticket.key) ticket (fresh_request ticket Flush) is).0

pub held_ticket : (slots : Slab Request) (ticket : Ticket) → ticket_at slots ticket.key ≡ Some ticket → (request_at slots ticket).ticket ≡ ticket
held_ticket slots ticket is = (ticket_found (get slots ticket.key) ticket (fresh_request ticket Flush) is).1

-- the tickets of the requests are the tickets that they were made of
tickets_of : (slots : Slab Request) (tickets : List Ticket) → AreStored slots tickets → map (λ r. r.ticket) (requests_at slots tickets) ≡ tickets
tickets_of slots [] stored = refl
tickets_of slots (t ∷ ts) stored =
    let here : (request_at slots t).ticket ≡ t = held_ticket slots t (stored 0 t (omega arith)) in
    let rest : map (λ r. r.ticket) (requests_at slots ts) ≡ ts = tickets_of slots ts (λ k d within. stored (suc k) d (omega arith)) in
    rw (here, rest) refl

-- what the queue keeps of its tickets is what callers learn of its requests
pub sound_orderly : (requests : Requests) (tickets : List Ticket) (slots : Slab Request) (places blocks admitted : ℕ) → requests_of (requests_at slots tickets) places blocks admitted ≡ requests → QueueIsSound tickets slots places admitted → IsOrderly requests
sound_orderly requests tickets slots places blocks admitted is sound =
    rw (← is) (record {
      apart = rw (tickets_of slots tickets sound.stored) sound.apart;
      given_out = All-map (λ r. r.ticket.serial < admitted) (request_at slots) tickets (λ k d within. rw (held_ticket slots _ (sound.stored k d within)) (sound.given_out k d within));
      fit = rw (length-map tickets (request_at slots)) sound.fit;
      few = sound.few;
    })

-- the requests stay where the slab has what it had at their keys
requests_same : (slots later : Slab Request) (tickets : List Ticket) → All (λ t. get later t.key ≡ get slots t.key) tickets → requests_at later tickets ≡ requests_at slots tickets
requests_same slots later [] same = refl
requests_same slots later (t ∷ ts) same =
    let here : get later t.key ≡ get slots t.key = same 0 t (omega arith) in
    let rest : requests_at later ts ≡ requests_at slots ts = requests_same slots later ts (λ k d within. same (suc k) d (omega arith)) in
    rw (here, rest) refl

-- a key that is vacant is no waiting ticket's
vacant_differs : (slots : Slab Request) (key : ℕ) (ticket : Ticket) → get slots key ≡ None → ticket_at slots ticket.key ≡ Some ticket → ticket.key ≢ key
vacant_differs slots key ticket vacant stored same =
    none-some ticket (sym (ap (option_map (λ r. r.ticket)) (ap (get slots) same ∙ vacant)) ∙ stored)

-- a request is taken in: a ticket at the end, and its request at a vacant key
module _ (tickets : List Ticket) (slots later : Slab Request) (request : Request) (stored : AreStored slots tickets) (vacant : get slots request.ticket.key ≡ None) (updates : Updates slots later request.ticket.key (Some request)) where
  others_same : All (λ t. get later t.key ≡ get slots t.key) tickets
  others_same k d within = updates.others _ (vacant_differs slots _ _ vacant (stored k d within))

  requests_pushed : requests_at later (tickets ++ request.ticket ∷ []) ≡ requests_at slots tickets ++ request ∷ []
  requests_pushed = rw (map-append (request_at later) tickets (request.ticket ∷ []), requests_same slots later tickets others_same, updates.changed) refl

  pub admitted_requests : (old : Requests) (added : List Ticket) (places blocks admitted : ℕ) → requests_of (requests_at slots tickets) places blocks admitted ≡ old → added ≡ tickets ++ request.ticket ∷ [] → requests_of (requests_at later added) places blocks (admitted + 1) ≡ record old { waiting = old.waiting ++ request ∷ []; admitted = old.admitted + 1 }
  admitted_requests old added places blocks admitted is put =
      rw (← is, put) (ap (λ waiting. requests_of waiting places blocks (admitted + 1)) requests_pushed)

  -- what the slab has besides is what it had
  older : HoldsNoOther slots tickets → (key : ℕ) (t : Ticket) → key ≢ request.ticket.key → ticket_at later key ≡ Some t → (t.key ≡ key) × Contains (tickets ++ request.ticket ∷ []) t
  older no_other key t differs is =
      let before : ticket_at slots key ≡ Some t = ap (option_map (λ r. r.ticket)) (sym (updates.others key differs)) ∙ is in
      let found = no_other key t before in
      (found.0, (found.1.0, omega (arith, found.1.1, length_push tickets request.ticket), get_or_append_left tickets (request.ticket ∷ []) t found.1.0 found.1.1 ∙ found.1.2))

  newest : (key : ℕ) (t : Ticket) → key ≡ request.ticket.key → ticket_at later key ≡ Some t → (t.key ≡ key) × Contains (tickets ++ request.ticket ∷ []) t
  newest key t same is =
      let its : request.ticket ≡ t = same_Some _ _ (ap (option_map (λ r. r.ticket)) (sym (ap (get later) same ∙ updates.changed)) ∙ is) in
      (ap (λ x. x.key) (sym its) ∙ sym same, (length tickets, omega (arith, length_push tickets request.ticket), get_or_at tickets request.ticket [] t (length tickets) refl ∙ its))

  pub admitted_sound : (old : Requests) (added : List Ticket) (places blocks admitted : ℕ) → requests_of (requests_at slots tickets) places blocks admitted ≡ old → QueueIsSound tickets slots places admitted → length old.waiting < old.places → slab_len later ≡ slab_len slots + 1 → later.capacity ≡ slots.capacity → request.ticket.serial ≡ admitted → added ≡ tickets ++ request.ticket ∷ [] → QueueIsSound added later places (admitted + 1)
  admitted_sound old added places blocks admitted is sound spare count capacity serial put =
      let a_place : length tickets < places = rw (length-map tickets (request_at slots)) at (rw (← is) at spare) in
      rw put (record {
        apart = all_pairs_push Precedes tickets request.ticket sound.apart (λ k d within. record {
          serials = omega (arith, sound.given_out k d within);
          keys = vacant_differs slots _ _ vacant (stored k d within);
        });
        given_out = All-push (λ t. t.serial < admitted + 1) tickets request.ticket (λ k d within. omega (arith, sound.given_out k d within)) (omega arith);
        stored = All-push (λ t. ticket_at later t.key ≡ Some t) tickets request.ticket (λ k d within. rw (others_same k d within) (stored k d within)) (rw updates.changed refl);
        no_other = λ key t is. elim (cases_eq key request.ticket.key) [
          | inl same ↦ newest key t same is
          | inr differs ↦ older sound.no_other key t differs is
        ];
        as_many = omega (arith, length_push tickets request.ticket, sound.as_many);
        fit = omega (arith, length_push tickets request.ticket);
        few = sound.few;
        room = rw capacity sound.room;
        keys_fit = rw capacity sound.keys_fit;
      })

-- ----------------------------------------------------------------------------------------------------------------
-- Look-ups.

-- a ticket that is not waiting has no request
missing : (slots : Slab Request) (tickets : List Ticket) (ticket : Ticket) → AreStored slots tickets → All (λ t. t ≢ ticket) tickets → request_of ticket (requests_at slots tickets) ≡ None
missing slots [] ticket stored differ = refl
missing slots (t ∷ ts) ticket stored differ =
    let here : (request_at slots t).ticket ≡ t = held_ticket slots t (stored 0 t (omega arith)) in
    let first : same_ticket (request_at slots t).ticket ticket ≡ false = rw here (same_ticket-false t ticket (differ 0 t (omega arith))) in
    rw first (missing slots ts ticket (λ k d within. stored (suc k) d (omega arith)) (λ k d within. differ (suc k) d (omega arith)))

without_missing : (slots : Slab Request) (tickets : List Ticket) (ticket : Ticket) → AreStored slots tickets → All (λ t. t ≢ ticket) tickets → requests_at slots tickets ≡ without_request ticket (requests_at slots tickets)
without_missing slots [] ticket stored differ = refl
without_missing slots (t ∷ ts) ticket stored differ =
    let here : (request_at slots t).ticket ≡ t = held_ticket slots t (stored 0 t (omega arith)) in
    let first : same_ticket (request_at slots t).ticket ticket ≡ false = rw here (same_ticket-false t ticket (differ 0 t (omega arith))) in
    rw first (ap (λ xs. request_at slots t ∷ xs) (without_missing slots ts ticket (λ k d within. stored (suc k) d (omega arith)) (λ k d within. differ (suc k) d (omega arith))))

-- the first ticket's request lies at its key
found_here : (slots : Slab Request) (tickets : List Ticket) (ticket : Ticket) → ticket_at slots ticket.key ≡ Some ticket → request_of ticket (requests_at slots (ticket ∷ tickets)) ≡ get slots ticket.key
found_here slots tickets ticket stored =
    let here : same_ticket (request_at slots ticket).ticket ticket ≡ true = rw (held_ticket slots ticket stored) (same_ticket_itself ticket) in
    rw here (sym (held slots ticket stored))

-- the request of a waiting ticket lies at its key
found_at : (slots : Slab Request) (tickets : List Ticket) (i : ℕ) (ticket : Ticket) → AreStored slots tickets → i < length tickets → get_or tickets i ticket ≡ ticket → request_of ticket (requests_at slots tickets) ≡ get slots ticket.key
found_at slots [] i ticket stored within at = absurd (omega arith)
found_at slots (t ∷ ts) zero ticket stored within at = rw at (found_here slots ts ticket (rw at at (stored 0 t (omega arith))))
found_at slots (t ∷ ts) (suc i) ticket stored within at =
    elim (cases_Bool (same_ticket t ticket)) [
      | inl same ↦ rw (same_ticket-true t ticket same) (found_here slots ts ticket (rw (same_ticket-true t ticket same) at (stored 0 t (omega arith))))
      | inr differs ↦
          let here : same_ticket (request_at slots t).ticket ticket ≡ false = rw (held_ticket slots t (stored 0 t (omega arith))) differs in
          rw here (found_at slots ts i ticket (λ k d inside. stored (suc k) d (omega arith)) (omega arith) at)
    ]

-- one look-up in the slab decides: what lies at the key and has the ticket is its request
module _ (tickets : List Ticket) (slots : Slab Request) (places admitted : ℕ) (sound : QueueIsSound tickets slots places admitted) (ticket : Ticket) where
  pub looked_up : (r : Request) → get slots ticket.key ≡ Some r → r.ticket ≡ ticket → request_of ticket (requests_at slots tickets) ≡ Some r
  looked_up r there its =
      let has : ticket_at slots ticket.key ≡ Some ticket = rw (there, its) refl in
      let waits = (sound.no_other ticket.key ticket has).1 in
      found_at slots tickets waits.0 ticket sound.stored waits.1 waits.2 ∙ there

  pub not_there : (ticket_at slots ticket.key ≡ Some ticket → ⊥) → request_of ticket (requests_at slots tickets) ≡ None
  not_there none = missing slots tickets ticket sound.stored (λ k d within same. none (rw same at (sound.stored k d within)))

-- ----------------------------------------------------------------------------------------------------------------
-- A request that changes in its place.

-- what lies at a key lies within the slots
within_slots : (slots : Slab Request) (key : ℕ) (r : Request) → get slots key ≡ Some r → key < length slots.slots
within_slots slots key r there = elim (cases_lt key (length slots.slots)) [
  | inl below ↦ below
  | inr above ↦ absurd (none-some r (sym (get_or_past slots.slots key None above) ∙ there))
]

-- a write over what lies at a key keeps how many there are
pub same_len : (slots : Slab Request) (key : ℕ) (r changed : Request) → get slots key ≡ Some r → slab_len (with_value slots key changed) ≡ slab_len slots
same_len slots key r changed there =
    let counted : slab_len (with_value slots key changed) + cond (is_some (get slots key)) 1 0 ≡ slab_len slots + 1 = sum_by-set (λ o. cond (is_some o) 1 0) slots.slots key (Some changed) None (within_slots slots key r there) in
    omega (arith, rw there at counted)

-- what it is after such a write
pub updated : (slots : Slab Request) (key : ℕ) (r changed : Request) → get slots key ≡ Some r → Updates slots (with_value slots key changed) key (Some changed)
updated slots key r changed there = Updates-with_value slots key changed (rw there refl)

-- a request that was put at a vacant key, and then written over
pub put_twice : (slots middle : Slab Request) (key : ℕ) (r changed : Request) → Updates slots middle key (Some r) → Updates slots (with_value middle key changed) key (Some changed)
put_twice slots middle key r changed first =
    let second = updated middle key r changed first.changed in
    record {
      changed = second.changed;
      others = λ other differs. second.others other differs ∙ first.others other differs;
    }

-- a stored request changes, and keeps its ticket
module _ (slots later : Slab Request) (before changed : Request) (there : get slots changed.ticket.key ≡ Some before) (its : before.ticket ≡ changed.ticket) (updates : Updates slots later changed.ticket.key (Some changed)) where
  same_tickets : (key : ℕ) → ticket_at later key ≡ ticket_at slots key
  same_tickets key = elim (cases_eq key changed.ticket.key) [
    | inl same ↦
        ap (λ n. ticket_at later n) same
        ∙ ap (option_map (λ r. r.ticket)) updates.changed
        ∙ ap Some (sym its)
        ∙ sym (ap (option_map (λ r. r.ticket)) there)
        ∙ sym (ap (λ n. ticket_at slots n) same)
    | inr differs ↦ ap (option_map (λ r. r.ticket)) (updates.others key differs)
  ]

  other_key : (t : Ticket) → ticket_at slots t.key ≡ Some t → t ≢ changed.ticket → t.key ≢ changed.ticket.key
  other_key t stored differs same =
      differs (same_Some _ _ (sym stored ∙ ap (λ n. ticket_at slots n) same ∙ ap (option_map (λ r. r.ticket)) there ∙ ap Some its))

  put_here : (t : Ticket) → t ≡ changed.ticket → request_at later t ≡ changed
  put_here t same = rw (same, updates.changed) refl

  pub changed_all : (tickets : List Ticket) → AreStored slots tickets → requests_at later tickets ≡ with_request changed (requests_at slots tickets)
  changed_all [] stored = refl
  changed_all (t ∷ ts) stored =
      let mine : ticket_at slots t.key ≡ Some t = stored 0 t (omega arith) in
      let here : (request_at slots t).ticket ≡ t = held_ticket slots t mine in
      let rest : requests_at later ts ≡ with_request changed (requests_at slots ts) = changed_all ts (λ k d within. stored (suc k) d (omega arith)) in
      elim (cases_Bool (same_ticket t changed.ticket)) [
        | inl same ↦
            let yes : same_ticket (request_at slots t).ticket changed.ticket ≡ true = rw here same in
            rw (yes, rest, put_here t (same_ticket-true t changed.ticket same)) refl
        | inr differs ↦
            let no : same_ticket (request_at slots t).ticket changed.ticket ≡ false = rw here differs in
            let not_it : t ≢ changed.ticket = λ same. false≢true (sym differs ∙ rw (← same) (same_ticket_itself t)) in
            let kept : get later t.key ≡ get slots t.key = updates.others t.key (other_key t mine not_it) in
            rw (no, rest, kept) refl
      ]

  pub changed_sound : (tickets : List Ticket) (places admitted : ℕ) → QueueIsSound tickets slots places admitted → slab_len later ≡ slab_len slots → later.capacity ≡ slots.capacity → QueueIsSound tickets later places admitted
  changed_sound tickets places admitted sound count capacity =
      record {
        apart = sound.apart;
        given_out = sound.given_out;
        stored = λ k d within. same_tickets _ ∙ sound.stored k d within;
        no_other = λ key t is. sound.no_other key t (sym (same_tickets key) ∙ is);
        as_many = count ∙ sound.as_many;
        fit = sound.fit;
        few = sound.few;
        room = rw capacity sound.room;
        keys_fit = rw capacity sound.keys_fit;
      }

-- a ticket over a sound queue
module _ (old : Requests) (tickets : List Ticket) (slots : Slab Request) (places blocks admitted : ℕ) (is : requests_of (requests_at slots tickets) places blocks admitted ≡ old) (sound : QueueIsSound tickets slots places admitted) (ticket : Ticket) where
  -- what waits under it lies at its key
  pub found : (r : Request) → get slots ticket.key ≡ Some r → r.ticket ≡ ticket → request_of ticket old.waiting ≡ Some r
  found r there its = rw (← is) (looked_up tickets slots places admitted sound ticket r there its)

  pub not_found : (ticket_at slots ticket.key ≡ Some ticket → ⊥) → request_of ticket old.waiting ≡ None
  not_found none = rw (← is) (not_there tickets slots places admitted sound ticket none)

  module _ (waits : IsSome (request_of ticket old.waiting)) where
    in_slot : (slot : Option Request) → get slots ticket.key ≡ slot → (slot ≡ Some (the_request ticket old.waiting)) × ((the_request ticket old.waiting).ticket ≡ ticket)
    in_slot None empty =
        let none : request_of ticket old.waiting ≡ None = not_found (λ has. none-some ticket (sym (ap (option_map (λ r. r.ticket)) empty) ∙ has)) in
        absurd (false≢true (rw none at waits))
    in_slot (Some r) there = elim (cases_Bool (same_ticket r.ticket ticket)) [
      | inl same ↦
          let its : r.ticket ≡ ticket = same_ticket-true r.ticket ticket same in
          let it_is : the_request ticket old.waiting ≡ r = rw (found r there its) refl in
          (ap Some (sym it_is), ap (λ x. x.ticket) it_is ∙ its)
      | inr differs ↦
          let none : request_of ticket old.waiting ≡ None = not_found (λ has. false≢true (sym differs ∙ rw (same_Some _ _ (sym (ap (option_map (λ x. x.ticket)) there) ∙ has)) (same_ticket_itself ticket))) in
          absurd (false≢true (rw none at waits))
    ]

    pub lies_there : get slots ticket.key ≡ Some (the_request ticket old.waiting)
    lies_there = (in_slot (get slots ticket.key) refl).0

    pub has_ticket : (the_request ticket old.waiting).ticket ≡ ticket
    has_ticket = (in_slot (get slots ticket.key) refl).1

    pub some_there : IsSome (get slots ticket.key)
    some_there = rw lies_there refl

    -- it changes in its place, and keeps its ticket
    module _ (changed : Request) (mine : changed.ticket ≡ ticket) where
      there : get slots changed.ticket.key ≡ Some (the_request ticket old.waiting)
      there = rw mine lies_there

      its : (the_request ticket old.waiting).ticket ≡ changed.ticket
      its = has_ticket ∙ sym mine

      writes : Updates slots (with_value slots ticket.key changed) changed.ticket.key (Some changed)
      writes = subst (λ (key : ℕ). Updates slots (with_value slots ticket.key changed) key (Some changed)) (sym (ap (λ t. t.key) mine)) (updated slots ticket.key (the_request ticket old.waiting) changed lies_there)

      pub changed_requests : requests_of (requests_at (with_value slots ticket.key changed) tickets) places blocks admitted ≡ record old { waiting = with_request changed old.waiting }
      changed_requests = rw (← is) (ap (λ waiting. requests_of waiting places blocks admitted) (changed_all slots (with_value slots ticket.key changed) (the_request ticket old.waiting) changed there its writes tickets sound.stored))

      pub changed_is_sound : QueueIsSound tickets (with_value slots ticket.key changed) places admitted
      changed_is_sound = changed_sound slots (with_value slots ticket.key changed) (the_request ticket old.waiting) changed there its writes tickets places admitted sound (same_len slots ticket.key (the_request ticket old.waiting) changed lies_there) refl

-- ----------------------------------------------------------------------------------------------------------------
-- A request that waits no more.

-- no other ticket has the key of the one at this index
others_differ : (tickets : List Ticket) (i : ℕ) (ticket : Ticket) → i < length tickets → get_or tickets i ticket ≡ ticket → AllPairs Precedes tickets → All (λ t. t.key ≢ ticket.key) (remove tickets i)
others_differ [] i ticket within at apart = absurd (omega arith)
others_differ (t ∷ ts) zero ticket within at apart =
    λ k d inside same. (apart 0 (suc k) d (omega arith) (omega arith)).keys (ap (λ x. x.key) at ∙ sym same)
others_differ (t ∷ ts) (suc i) ticket within at apart =
    All-cons (λ x. x.key ≢ ticket.key) t (remove ts i) (λ same. (apart 0 (suc i) ticket (omega arith) (omega arith)).keys (same ∙ sym (ap (λ x. x.key) at))) (others_differ ts i ticket (omega arith) at (λ a b d before inside. apart (suc a) (suc b) d (omega arith) (omega arith)))

-- the requests without the ticket at this index are those of the other tickets
without_one : (slots : Slab Request) (tickets : List Ticket) (i : ℕ) (ticket : Ticket) → AreStored slots tickets → i < length tickets → get_or tickets i ticket ≡ ticket → AllPairs Precedes tickets → requests_at slots (remove tickets i) ≡ without_request ticket (requests_at slots tickets)
without_one slots [] i ticket stored within at apart = absurd (omega arith)
without_one slots (t ∷ ts) zero ticket stored within at apart =
    let here : (request_at slots t).ticket ≡ t = held_ticket slots t (stored 0 t (omega arith)) in
    let it_is : same_ticket (request_at slots t).ticket ticket ≡ true = rw (here, at) (same_ticket_itself ticket) in
    rw it_is (without_missing slots ts ticket (λ k d inside. stored (suc k) d (omega arith)) (λ k d inside same. (apart 0 (suc k) d (omega arith) (omega arith)).keys (ap (λ x. x.key) (at ∙ sym same))))
without_one slots (t ∷ ts) (suc i) ticket stored within at apart =
    let here : (request_at slots t).ticket ≡ t = held_ticket slots t (stored 0 t (omega arith)) in
    let first : t ≢ ticket = λ same. (apart 0 (suc i) ticket (omega arith) (omega arith)).keys (ap (λ x. x.key) (same ∙ sym at)) in
    let other : same_ticket (request_at slots t).ticket ticket ≡ false = rw here (same_ticket-false t ticket first) in
    rw other (ap (λ xs. request_at slots t ∷ xs) (without_one slots ts i ticket (λ k d inside. stored (suc k) d (omega arith)) (omega arith) at (λ a b d before inside. apart (suc a) (suc b) d (omega arith) (omega arith))))

-- one of the tickets that is not the one at this index is among the others
still_among : (tickets : List Ticket) (i j : ℕ) (t : Ticket) → i < length tickets → j < length tickets → j ≢ i → get_or tickets j t ≡ t → Contains (remove tickets i) t
still_among [] i j t within inside differs at = absurd (omega arith)
still_among (x ∷ xs) zero zero t within inside differs at = absurd (differs refl)
still_among (x ∷ xs) zero (suc j) t within inside differs at = (j, omega arith, at)
still_among (x ∷ xs) (suc i) zero t within inside differs at = (0, omega arith, at)
still_among (x ∷ xs) (suc i) (suc j) t within inside differs at =
    let rest = still_among xs i j t (omega arith) (omega arith) (λ same. differs (ap suc same)) at in
    (suc rest.0, omega (arith, rest.1), rest.2)

-- a ticket over a sound queue: it may be missing, or wait at an index and be removed there
module _ (old : Requests) (tickets : List Ticket) (slots : Slab Request) (places blocks admitted : ℕ) (is : requests_of (requests_at slots tickets) places blocks admitted ≡ old) (sound : QueueIsSound tickets slots places admitted) (ticket : Ticket) where
  module _ (differ : All (λ t. t ≢ ticket) tickets) where
    pub missing_request : request_of ticket old.waiting ≡ None
    missing_request = rw (← is) (missing slots tickets ticket sound.stored differ)

    pub missing_requests : old ≡ record old { waiting = without_request ticket old.waiting }
    missing_requests = rw (← is) (ap (λ waiting. requests_of waiting places blocks admitted) (without_missing slots tickets ticket sound.stored differ))

  module _ (i : ℕ) (within : i < length tickets) (at : get_or tickets i ticket ≡ ticket) where
    pub stored_there : ticket_at slots ticket.key ≡ Some ticket
    stored_there = rw at at (sound.stored i ticket within)

    pub found_request : request_of ticket old.waiting ≡ get slots ticket.key
    found_request = rw (← is) (found_at slots tickets i ticket sound.stored within at)

    pub some_request : IsSome (get slots ticket.key)
    some_request = rw (held slots ticket stored_there) refl

    module _ (later : Slab Request) (rest : List Ticket) (updates : Updates slots later ticket.key None) (removed : rest ≡ remove tickets i) where
      others_kept : All (λ t. get later t.key ≡ get slots t.key) (remove tickets i)
      others_kept k d inside = updates.others _ (others_differ tickets i ticket within at sound.apart k d inside)

      pub removed_requests : requests_of (requests_at later rest) places blocks admitted ≡ record old { waiting = without_request ticket old.waiting }
      removed_requests = rw (← is, removed) (ap (λ waiting. requests_of waiting places blocks admitted) (requests_same slots later (remove tickets i) others_kept ∙ without_one slots tickets i ticket sound.stored within at sound.apart))

      kept : (P : Ticket → Type 0) → All P tickets → All P (remove tickets i)
      kept P all = All-append P (take i tickets) (drop (suc i) tickets) (All-take P i tickets all) (All-drop P (suc i) tickets all)

      -- what the slab has left is no other than the rest
      left : (key : ℕ) (t : Ticket) → ticket_at later key ≡ Some t → (t.key ≡ key) × Contains (remove tickets i) t
      left key t has = elim (cases_eq key ticket.key) [
        | inl same ↦ absurd (none-some t (sym (ap (option_map (λ r. r.ticket)) (ap (get later) same ∙ updates.changed)) ∙ has))
        | inr differs ↦
            let before : ticket_at slots key ≡ Some t = sym (ap (option_map (λ r. r.ticket)) (updates.others key differs)) ∙ has in
            let among = sound.no_other key t before in
            let other : among.1.0 ≢ i = λ same. differs (sym among.0 ∙ ap (λ x. x.key) (sym among.1.2 ∙ get_or_default tickets among.1.0 t ticket among.1.1 ∙ ap (λ n. get_or tickets n ticket) same ∙ at)) in
            (among.0, still_among tickets i among.1.0 t within among.1.1 other among.1.2)
      ]

      pub removed_sound : slab_len later + 1 ≡ slab_len slots → later.capacity ≡ slots.capacity → QueueIsSound rest later places admitted
      removed_sound count capacity =
          rw removed (record {
            apart = all_pairs_remove Precedes tickets i within sound.apart;
            given_out = kept (λ t. t.serial < admitted) sound.given_out;
            stored = λ k d inside. rw (others_kept k d inside) (kept (λ t. ticket_at slots t.key ≡ Some t) sound.stored k d inside);
            no_other = left;
            as_many = omega (arith, length-remove tickets i within, sound.as_many);
            fit = omega (arith, length-remove tickets i within, sound.fit);
            few = sound.few;
            room = rw capacity sound.room;
            keys_fit = rw capacity sound.keys_fit;
          })

-- a fact for some value holds where there is one
pub held_fact : {T : Type 0} {P : Type 0} (found slot : Option T) → found ≡ slot → IsSome slot → OnSome found P → P
held_fact None slot is held fact = absurd (false≢true (rw (← is) at held))
held_fact (Some x) slot is held fact = fact
