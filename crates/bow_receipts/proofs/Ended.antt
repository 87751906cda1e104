-- A desk is closed.
use Rattle.std.proofs.Common.{◌≡◌, ◌≢◌, ℕ, zero, suc, ◌+◌, ◌*◌, ◌<◌, ◌≤◌, ◌==◌, List, [], ◌∷◌, ◌++◌, length, map, take, drop, Option, Some, None, arith, refl, sym, ap, ◌∙◌, subst, inl, inr, eq-eqb, mul-le-mul_right}
use Rattle.std.specs.Prelude.{slice_get, slice_index}
use Rattle.std.proofs.lemmas.Bool.{cases_eq}
use Rattle.std.proofs.lemmas.List.{append-nil, take-take}
use mathlib.Core.Option.{some, some-injective, some-ne-none}
use mathlib.Core.Path.{fun_ext}
use lib.ListN.{get_elem?}
use Rattle.atomic_table.specs.Seated.{TableId}
use Rattle.bow_units.specs.declared.sizes.Geometry.{Geometry}
use Rattle.bow_units.specs.declared.sizes.Extent.{Extent}
use Rattle.bow_units.specs.declared.requests.Op.{Op}
use Rattle.bow_units.specs.declared.requests.Op.TheVariants as ops
use Rattle.bow_units.specs.declared.requests.Outcome.{Outcome}
use Rattle.bow_units.specs.declared.requests.Outcome.TheVariants as outcomes
use Rattle.bow_units.specs.Sizes.{IsInside}
use Rattle.bow_disk.specs.Disk.{Content, IsCrash, IsShaped, IsImage}
use Rattle.bow_chain.specs.Contents.{Contents, contents_of}
use Rattle.bow_guard.specs.Cuts.{candidates_of}
use Rattle.bow_flat.specs.Flat.{Flat, Event, Allows, block_at, put}
use Rattle.bow_flat.specs.Flat.Event.{Reads, Writes}
use Rattle.bow_guard.specs.Standing.{StandsFor}
use Rattle.bow_machine.specs.Ahead.{IsLed}
use Rattle.bow_machine.specs.Memory.{Memory}
use Rattle.bow_machine.specs.Standing.{IsStanding}
use Rattle.bow_machine.proofs.MappedWrites.{put_here, put_there}
use Rattle.bow_core.specs.Further.{LedIn, LedOver}
use Rattle.bow_core.specs.Standing.{StandsOver}
use Rattle.bow_core.specs.Views.{View}
use Rattle.bow_history.specs.Complete.{AreInOrder}
use Rattle.bow_history.specs.Cuts.{IsOnTheWayBy}
use Rattle.bow_history.specs.DiskCuts.{disk_of, DiskLeads, StandsAheadToo}
use Rattle.bow_history.specs.Fits.{Agrees, AgreesInHand}
use Rattle.bow_history.specs.Histories.{session_after, journal_of}
use Rattle.bow_history.specs.Journal.{Plan, Buffers, Place, beginning, answered, block_done, IsGot, IsWrote, Legal, ReadRow, Row}
use Rattle.bow_history.specs.Legality.{IsReadyFor}
use Rattle.bow_history.specs.Sessions.{Session}
use Rattle.bow_history.specs.declared.items.Item.{Item}
use Rattle.bow_history.specs.declared.items.Item.TheVariants.{Wrote, Got, Answered}
use Rattle.bow_history.proofs.Buffers.{front_block}
use Rattle.bow_history.proofs.DiskCuts.{cuts_of_disk, cuts_of_disk_are_ahead}
use Rattle.bow_history.proofs.Runs.{beginning_is_at, nothing_lags}
use Rattle.bow_history.proofs.SoundTurns.{over_is_empty}
use Rattle.bow_session.specs.Leads.{BeginsAt, StaysBelow}
use Rattle.bow_session.specs.Runs.{begun_over}
use Rattle.bow_tags.specs.declared.view.Entry.{Entry}
use Rattle.bow_tags.specs.Rule.{given_times}
use Rattle.bow_tags.specs.Seats.{AllGiven, AnsweredOnce, IsLastWord, Numbered, Sitting, times_given}
use Rattle.bow_tags.specs.Steps.{lane_of}
use Rattle.bow_receipts.specs.declared.asks.Answer.{Answer}
use Rattle.bow_receipts.specs.declared.hands.Hand.{Hand}
use Rattle.bow_receipts.specs.declared.service.Service.{Service}
use Rattle.bow_receipts.specs.Asking.{Asked, AsksAtLeast, asked_of, given_of, plan_of, request_of}
use Rattle.bow_receipts.specs.Closing.{CallsLead, HoldsReads, IsClosed}
use Rattle.bow_receipts.specs.Copies.{blocks_read}
use Rattle.bow_receipts.specs.Hands.{IsHeld, IsInHand, hand_at, ticket_in}
use Rattle.bow_receipts.specs.Passes.{AreOwn, AreSeats, Caller, IsPass}
use Rattle.bow_receipts.specs.Served.{IsSeated, Serves, answered_of, held_of, view_under}
use Rattle.bow_receipts.proofs.Calls.{answer_of}
use Rattle.bow_receipts.proofs.Histories.{histories_go_in_order}
use Rattle.bow_receipts.proofs.Lists.{Below, at_within, below_one, clash, filter_at, map_length, one_of}
use Rattle.bow_receipts.proofs.Passing.{elem_of, get_of}
use Rattle.bow_receipts.proofs.Serving.{asks_itself}

-- ----------------------------------------------------------------------------------------------------------------
-- Where a read ends in a journal.

-- these items have this answer
abbrev HasAnswer : List Item → ℕ → ℕ → Outcome → Type 0
HasAnswer items lane n outcome = (k : ℕ) × (slice_get items k ≡ Some (Answered lane n outcome))

halves : {A : Type 0} (n : ℕ) (xs : List A) → take n xs ++ drop n xs ≡ xs
halves zero xs = refl
halves (suc n) [] = refl
halves (suc n) (x ∷ xs) = ap (λ ys. x ∷ ys) (halves n xs)

has_behind : (items more : List Item) (lane n : ℕ) (outcome : Outcome) → HasAnswer more lane n outcome → HasAnswer (items ++ more) lane n outcome
has_behind [] more lane n outcome has = has
has_behind (item ∷ items) more lane n outcome has = let r = has_behind items more lane n outcome has in (suc r.0, r.1)

-- the answer to the read of a lane, of which so many blocks are done: it tells as many at least
record Ends (items : List Item) (lane n many : ℕ) (asked : Op) : Type 0 where
  outcome : Outcome
  has : HasAnswer items lane n outcome
  within : many ≤ blocks_read asked outcome

row_read : (plan : Plan) (p : Place) (e : Extent) (payload : List ℕ) (outcome : Outcome) (k : ℕ) (h : Flat) → IsInside e plan.sizes → ReadRow plan p e outcome k h → k ≤ blocks_read (ops.Read e payload) outcome
row_read plan p e payload outcomes.Done k h inside row = absurd row
row_read plan p e payload outcomes.Data k h inside row = let all = row.1 in omega (arith, all)
row_read plan p e payload (outcomes.NoSpace n) k h inside row = absurd row
row_read plan p e payload (outcomes.DiskFault n) k h inside row = let all = row.1 in omega (arith, all)
row_read plan p e payload outcomes.OutOfRange k h inside row = absurd (row.0 inside)
row_read plan p e payload outcomes.ReservedMagic k h inside row = absurd row
row_read plan p e payload (outcomes.WrongPhase phase) k h inside row = absurd row
row_read plan p e payload (outcomes.Unsettled phase) k h inside row = absurd row

-- the next request of a lane is the same at two places, and as much of it is done at the second at least
record Stays (lane : ℕ) (p q : Place) : Type 0 where
  number : q.number lane ≡ p.number lane
  grows : p.done lane ≤ q.done lane

one_more : (f : ℕ → ℕ) (l lane : ℕ) → f lane ≤ put f l (suc (f l)) lane
one_more f l lane = elim (cases_eq lane l) [
  | inl is ↦ let here = put_here f l (suc (f l)) lane is in let same = ap f is in omega (arith, here, same)
  | inr apart ↦ let there = put_there f l (suc (f l)) lane apart in omega (arith, there)
]

block_stays : (plan : Plan) (l lane : ℕ) (event : Event) (p q : Place) → q ≡ block_done plan l event p → Stays lane p q
block_stays plan l lane event p q is = record {
  number = ap (λ (z : Place). z.number lane) is;
  grows = (let e = ap (λ (z : Place). z.done lane) is in let more = one_more p.done l lane in omega (arith, e, more));
}

wrote_stays : (plan : Plan) (l lane b : ℕ) (op : Op) (p q : Place) → IsWrote plan l b op p q → Stays lane p q
wrote_stays plan l lane b (ops.Read e payload) p q is = absurd is
wrote_stays plan l lane b (ops.Write e payload) p q is = block_stays plan l lane (Writes b (block_at plan.sizes.block_size payload (p.done l))) p q is.5
wrote_stays plan l lane b (ops.Discard e) p q is = absurd is
wrote_stays plan l lane b ops.Flush p q is = absurd is
wrote_stays plan l lane b ops.Prepare p q is = absurd is
wrote_stays plan l lane b ops.Commit p q is = absurd is

got_stays : (plan : Plan) (buffer : Buffers) (l lane b : ℕ) (op : Op) (p q : Place) → IsGot plan buffer l b op p q → Stays lane p q
got_stays plan buffer l lane b (ops.Read e payload) p q is = block_stays plan l lane (Reads b (block_at plan.sizes.block_size (buffer l (p.number l)) (p.done l))) p q is.4
got_stays plan buffer l lane b (ops.Write e payload) p q is = absurd is
got_stays plan buffer l lane b (ops.Discard e) p q is = absurd is
got_stays plan buffer l lane b ops.Flush p q is = absurd is
got_stays plan buffer l lane b ops.Prepare p q is = absurd is
got_stays plan buffer l lane b ops.Commit p q is = absurd is

answer_stays : (plan : Plan) (l lane : ℕ) (op : Op) (outcome : Outcome) (flat : Flat) (p q : Place) → lane ≢ l → q ≡ answered plan l op outcome flat p → Stays lane p q
answer_stays plan l lane op outcome flat p q apart is = record {
  number = ap (λ (z : Place). z.number lane) is ∙ put_there p.number l (suc (p.number l)) lane apart;
  grows = (let e = ap (λ (z : Place). z.done lane) is ∙ put_there p.done l 0 lane apart in omega (arith, e));
}

module _ (plan : Plan) (buffer : Buffers) (lane : ℕ) (e : Extent) (payload : List ℕ) (inside : IsInside e plan.sizes) (q : Place) (over : plan.request lane (q.number lane) ≡ None) where
  before_it : (item : Item) (items : List Item) (p mid : Place) → Stays lane p mid → (plan.request lane (mid.number lane) ≡ Some (ops.Read e payload) → Ends items lane (mid.number lane) (mid.done lane) (ops.Read e payload))
      → plan.request lane (p.number lane) ≡ Some (ops.Read e payload) → Ends (item ∷ items) lane (p.number lane) (p.done lane) (ops.Read e payload)
  before_it item items p mid stays later next =
      let r = later (ap (plan.request lane) stays.number ∙ next) in
      record {
        outcome = r.outcome;
        has = (suc r.has.0, r.has.1 ∙ ap (λ n. Some (Answered lane n r.outcome)) stays.number);
        within = (let low = r.within in let up = stays.grows in omega (arith, low, up));
      }

  answer_here : (items : List Item) (p : Place) (l n : ℕ) (op : Op) (outcome : Outcome) (flat : Flat) → lane ≡ l → n ≡ p.number l → plan.request l n ≡ Some op → Row plan p op outcome (p.done l) flat
      → plan.request lane (p.number lane) ≡ Some (ops.Read e payload) → Ends (Answered l n outcome ∷ items) lane (p.number lane) (p.done lane) (ops.Read e payload)
  answer_here items p l n op outcome flat lanes numbers is row next =
      let here : n ≡ p.number lane = numbers ∙ ap p.number (sym lanes) in
      let same : op ≡ ops.Read e payload = one_of (plan.request lane (p.number lane)) op (ops.Read e payload) (ap (λ k. plan.request lane k) (sym here) ∙ ap (λ k. plan.request k n) lanes ∙ is) next in
      record {
        outcome = outcome;
        has = (0, ap (λ k. Some (Answered k n outcome)) (sym lanes) ∙ ap (λ k. Some (Answered lane k outcome)) here);
        within = row_read plan p e payload outcome (p.done lane) flat inside (subst (λ k. ReadRow plan p e outcome (p.done k) flat) (sym lanes) (subst (λ o. Row plan p o outcome (p.done l) flat) same row));
      }

  -- A read that is a lane's next request has its answer later on, where no request is left in the end.
  read_ends : (items : List Item) (p : Place) → Legal plan buffer items p q → plan.request lane (p.number lane) ≡ Some (ops.Read e payload)
      → Ends items lane (p.number lane) (p.done lane) (ops.Read e payload)
  read_ends [] p legal next = clash (plan.request lane (q.number lane)) (ops.Read e payload) over (ap (λ (z : Place). plan.request lane (z.number lane)) legal ∙ next)
  read_ends (Wrote l n b ∷ items) p (mid, step, rest) next = before_it (Wrote l n b) items p mid (wrote_stays plan l lane b step.1 p mid step.3) (read_ends items mid rest) next
  read_ends (Got l n b ∷ items) p (mid, step, rest) next = before_it (Got l n b) items p mid (got_stays plan buffer l lane b step.1 p mid step.3) (read_ends items mid rest) next
  read_ends (Answered l n outcome ∷ items) p (mid, step, rest) next = elim (cases_eq lane l) [
    | inl is ↦ answer_here items p l n step.1 outcome step.3 is step.0 step.2 step.4 next
    | inr apart ↦ before_it (Answered l n outcome) items p mid (answer_stays plan l lane step.1 outcome step.3 p mid apart step.5) (read_ends items mid rest) next
  ]

-- ----------------------------------------------------------------------------------------------------------------
-- Buffers that hold the same of each read, as far as its answer tells.

legal_append : (plan : Plan) (buffer : Buffers) (front back : List Item) (p mid q : Place) → Legal plan buffer front p mid → Legal plan buffer back mid q → Legal plan buffer (front ++ back) p q
legal_append plan buffer [] back p mid q legal rest = subst (λ z. Legal plan buffer back z q) legal rest
legal_append plan buffer (item ∷ front) back p mid q (next, step, legal) rest = (next, step, legal_append plan buffer front back next mid q legal rest)

front_less : (k n : ℕ) (xs ys : List ℕ) → k ≤ n → take n xs ≡ take n ys → take k xs ≡ take k ys
front_less k n xs ys low same = sym (take-take k n xs low) ∙ ap (take k) same ∙ take-take k n ys low

module _ (plan : Plan) (one other : Buffers) (journal : List Item) (q : Place) (over : (lane : ℕ) → plan.request lane (q.number lane) ≡ None)
    (same : (lane n : ℕ) (e : Extent) (p : List ℕ) (outcome : Outcome) → plan.request lane n ≡ Some (ops.Read e p) → HasAnswer journal lane n outcome
    → take (blocks_read (ops.Read e p) outcome * plan.sizes.block_size) (one lane n) ≡ take (blocks_read (ops.Read e p) outcome * plan.sizes.block_size) (other lane n)) where
  -- the block that is read next
  block_same : (lane n : ℕ) (e : Extent) (payload : List ℕ) (done : ℕ) → plan.request lane n ≡ Some (ops.Read e payload) → Ends journal lane n (suc done) (ops.Read e payload)
      → block_at plan.sizes.block_size (one lane n) done ≡ block_at plan.sizes.block_size (other lane n) done
  block_same lane n e payload done next ends =
      let size = plan.sizes.block_size in
      let low : (done + 1) * size ≤ blocks_read (ops.Read e payload) ends.outcome * size = mul-le-mul_right size (let w = ends.within in omega (arith, w)) in
      front_block size done (one lane n) (other lane n) (front_less ((done + 1) * size) (blocks_read (ops.Read e payload) ends.outcome * size) (one lane n) (other lane n) low (same lane n e payload ends.outcome next ends.has))

  got_same : (lane n b : ℕ) (op : Op) (p mid : Place) (items : List Item) → n ≡ p.number lane → plan.request lane n ≡ Some op → IsGot plan one lane b op p mid → Legal plan one items mid q
      → ((l m : ℕ) (outcome : Outcome) → HasAnswer items l m outcome → HasAnswer journal l m outcome) → IsGot plan other lane b op p mid
  got_same lane n b (ops.Read e payload) p mid items is next got rest among =
      let next_here : plan.request lane (p.number lane) ≡ Some (ops.Read e payload) = ap (plan.request lane) (sym is) ∙ next in
      let number : mid.number lane ≡ p.number lane = ap (λ (z : Place). z.number lane) got.4 in
      let done : mid.done lane ≡ suc (p.done lane) = ap (λ (z : Place). z.done lane) got.4 ∙ put_here p.done lane (suc (p.done lane)) lane refl in
      let r = read_ends plan one lane e payload got.0 q (over lane) items mid rest (ap (plan.request lane) number ∙ next_here) in
      let there : HasAnswer journal lane (p.number lane) r.outcome = subst (λ k. HasAnswer journal lane k r.outcome) number (among lane (mid.number lane) r.outcome r.has) in
      let block = block_same lane (p.number lane) e payload (p.done lane) next_here (record { outcome = r.outcome; has = there; within = (let w = r.within in omega (arith, w, done)) }) in
      subst (λ (bytes : List ℕ). IsInside e plan.sizes × (p.done lane < e.count) × (b ≡ e.first + p.done lane) × Allows plan.sizes.blocks (Reads b bytes) p.flat × (mid ≡ block_done plan lane (Reads b bytes) p)) block got
  got_same lane n b (ops.Write e payload) p mid items is next got rest among = got
  got_same lane n b (ops.Discard e) p mid items is next got rest among = got
  got_same lane n b ops.Flush p mid items is next got rest among = got
  got_same lane n b ops.Prepare p mid items is next got rest among = got
  got_same lane n b ops.Commit p mid items is next got rest among = got

  -- Items of the journal that are legal with the one are legal with the other, where those behind them lead to the end.
  pub legal_same : (items behind : List Item) (p mid : Place) → Legal plan one items p mid → Legal plan one behind mid q → ((l m : ℕ) (outcome : Outcome) → HasAnswer (items ++ behind) l m outcome → HasAnswer journal l m outcome)
      → Legal plan other items p mid
  legal_same [] behind p mid legal rest among = legal
  legal_same (Wrote lane n b ∷ items) behind p mid (next, step, legal) rest among = (next, step, legal_same items behind next mid legal rest (λ l m o h. among l m o (suc h.0, h.1)))
  legal_same (Got lane n b ∷ items) behind p mid (next, step, legal) rest among = (
    next,
    (step.0, step.1, step.2, got_same lane n b step.1 p next (items ++ behind) step.0 step.2 step.3 (legal_append plan one items behind next mid q legal rest) (λ l m o h. among l m o (suc h.0, h.1))),
    legal_same items behind next mid legal rest (λ l m o h. among l m o (suc h.0, h.1)),
  )
  legal_same (Answered lane n outcome ∷ items) behind p mid (next, step, legal) rest among = (next, step, legal_same items behind next mid legal rest (λ l m o h. among l m o (suc h.0, h.1)))

  -- the whole journal
  pub whole_same : (p : Place) → Legal plan one journal p q → Legal plan other journal p q
  whole_same p legal = legal_same journal [] p q legal refl (λ l m o h. subst (λ xs. HasAnswer xs l m o) (append-nil journal) h)

  pub way_same : (says : Flat → Contents → Type 0) (p : Place) (n : ℕ) (image : Contents) → IsOnTheWayBy says plan one journal p q n image → IsOnTheWayBy says plan other journal p q n image
  way_same says p n image w =
      let parts : take w.front journal ++ drop w.front journal ≡ journal = halves w.front journal in
      record {
        front = w.front;
        has = w.has;
        within = w.within;
        place = w.place;
        before = legal_same (take w.front journal) (drop w.front journal) p w.place w.before w.after (λ l m o h. subst (λ xs. HasAnswer xs l m o) parts h);
        after = legal_same (drop w.front journal) [] w.place q w.after refl
            (λ l m o h. subst (λ xs. HasAnswer xs l m o) parts (has_behind (take w.front journal) (drop w.front journal) l m o (subst (λ xs. HasAnswer xs l m o) (append-nil (drop w.front journal)) h)));
        flat = w.flat;
        midway = w.midway;
        stands = w.stands;
      }

-- ----------------------------------------------------------------------------------------------------------------
-- Lists of the same elements.

pub same_list : {A : Type 0} (xs ys : List A) → length xs ≡ length ys → ((n : ℕ) (y : A) → slice_get ys n ≡ Some y → slice_get xs n ≡ Some y) → xs ≡ ys
same_list [] [] long each = refl
same_list [] (y ∷ ys) long each = absurd (omega (arith, long))
same_list (x ∷ xs) [] long each = absurd (omega (arith, long))
same_list (x ∷ xs) (y ∷ ys) long each =
    let first : x ≡ y = (let e = each 0 y refl in cc e) in
    let rest = same_list xs ys (omega (arith, long)) (λ n z at. each (suc n) z at) in
    ap (λ z. z ∷ xs) first ∙ ap (λ zs. y ∷ zs) rest

-- what is asked, of answered calls and others
ask_at : (xs : List (Entry Op Answer)) (more : List Op) (n : ℕ) (x : Entry Op Answer) → slice_get xs n ≡ Some x → slice_get (map (λ y. y.ask) xs ++ more) n ≡ Some x.ask
ask_at [] more n x at = clash None x refl at
ask_at (y ∷ xs) more zero x at = let same : y ≡ x = cc at in ap (λ (z : Entry Op Answer). Some z.ask) same
ask_at (y ∷ xs) more (suc n) x at = ask_at xs more n x at

-- The calls of a caller are exactly those of its pass.
pub own_calls : (given got : List (Entry Op Answer)) (lane made : ℕ) → Below given lane (answered_of given lane) → Below given lane made
    → ((n : ℕ) (x : Entry Op Answer) → slice_get (given_of lane given) n ≡ Some x → x.number ≡ n) → AreOwn lane made got
    → ((n : ℕ) (x : Entry Op Answer) → slice_get got n ≡ Some x → (m : ℕ) × (slice_get given m ≡ Some x)) → given_of lane given ≡ got
own_calls given got lane made once made_once numbers own among =
    let many : answered_of given lane ≡ made = below_one given lane (answered_of given lane) made once made_once in
    same_list (given_of lane given) got (many ∙ sym own.many) (λ n x at.
    let of = own.each n x at in
    let there = among n x at in
    let kept = filter_at (λ (y : Entry Op Answer). y.lane == lane) given there.0 x there.1 (eq-eqb x.lane lane of.0) in
    let number = numbers kept.0 x kept.1 in
    subst (λ k. slice_get (given_of lane given) k ≡ Some x) (sym number ∙ of.1) kept.1)

-- ----------------------------------------------------------------------------------------------------------------
-- Where the calls lead.

module _ {D R : Type 0} (stated : D → Option Geometry) (content : D → Option Content) (moment : D → ℕ) (left : D → ℕ → List (List ℕ) → Type 0) (faults : D → ℕ)
    (shaped : (d : D) (c : Content) → content d ≡ Some c → (z : Geometry) → stated d ≡ Some z → IsShaped z.block_size z.blocks c)
    (only_now : (d : D) (c : Content) → content d ≡ Some c → (t : ℕ) (image : List (List ℕ)) → moment d ≤ t → left d t image → IsCrash c.candidates image)
    (cuts_shaped : (d : D) (c : Content) → content d ≡ Some c → (z : Geometry) → stated d ≡ Some z → (t : ℕ) (image : List (List ℕ)) → left d t image → IsImage z.block_size z.blocks image)
    (g : Geometry) (lanes : ℕ) (allowed : ℕ → ℕ) (table : TableId) (begins : View D → Type 0) (s : Service D R) (k : Serves stated content moment left faults g lanes allowed table begins s)
    (no_jobs : s.server.view.jobs ≡ []) where
  abbrev given : List (Entry Op Answer)
  given = s.server.view.given

  abbrev asked : Asked
  asked = asked_of lanes s.server.view.given []

  abbrev plan : Plan
  plan = plan_of g (asked_of lanes s.server.view.given [])

  abbrev st : Session
  st = session_after (plan_of g (asked_of lanes s.server.view.given [])) (begun_over k.first) (k.served).turns

  asks : AsksAtLeast g (asked_of lanes s.server.view.given s.server.view.jobs) (plan_of g (asked_of lanes s.server.view.given []))
  asks = subst (λ js. AsksAtLeast g (asked_of lanes s.server.view.given js) (plan_of g (asked_of lanes s.server.view.given []))) (sym no_jobs) (asks_itself g (asked_of lanes s.server.view.given []))

  seated : IsSeated (view_under content faults k.first s.core (k.served).turns s.journal.items (k.served).moments plan) given s.hands.items
  seated = (k.served).seated plan asks

  no_hand : (lane : ℕ) → st.hand lane ≡ None
  no_hand lane = seated.tickets lane ∙ by (hand_at s.hands.items lane) refl (subst (λ js. IsInHand lane (answered_of given lane) (hand_at s.hands.items lane) (held_of lane js)) no_jobs ((k.kept).in_hand lane))
    where
      by : (o : Option Hand) → hand_at s.hands.items lane ≡ o → IsInHand lane (answered_of given lane) (hand_at s.hands.items lane) [] → ticket_in (hand_at s.hands.items lane) ≡ None
      by None is kept = ap ticket_in is
      by (Some h) is kept = absurd (let has : IsHeld lane (answered_of given lane) h [] = subst (λ o. IsInHand lane (answered_of given lane) o []) is kept in let e = has.job in grind arith)

  past_end : {A : Type 0} (xs : List A) → slice_get xs (length xs) ≡ None
  past_end [] = refl
  past_end (x ∷ xs) = past_end xs

  none_left : (lane : ℕ) → plan.request lane (st.number lane) ≡ None
  none_left lane = ap (request_of asked lane) (seated.number lane) ∙ ap (λ (xs : List Op). slice_get xs (answered_of given lane)) (append-nil (map (λ (x : Entry Op Answer). x.ask) (given_of lane given)))
      ∙ ap (slice_get (map (λ (x : Entry Op Answer). x.ask) (given_of lane given))) (sym (map_length (λ (x : Entry Op Answer). x.ask) (given_of lane given))) ∙ past_end (map (λ (x : Entry Op Answer). x.ask) (given_of lane given))

  pub idle : s.core.memory.requests ≡ []
  idle = ap (λ (m : Memory). m.requests) (sym (seated.session).memory) ∙ over_is_empty plan st (seated.session).sound (λ lane below. none_left lane)

  -- buffers that hold what was read
  own : Buffers
  own lane n = st.kept lane n

  own_agrees : Agrees plan st (λ lane n. st.kept lane n)
  own_agrees = record { before = λ lane n below. refl; there = λ lane. subst (AgreesInHand plan.sizes st.memory.requests (st.kept lane (st.number lane))) (sym (no_hand lane)) tt }

  -- what the calls were given is what the session kept
  holds_same : (buffer : Buffers) → HoldsReads given buffer → (lane n : ℕ) (e : Extent) (p : List ℕ) (outcome : Outcome) → plan.request lane n ≡ Some (ops.Read e p) → HasAnswer s.journal.items lane n outcome
      → take (blocks_read (ops.Read e p) outcome * g.block_size) (st.kept lane n) ≡ take (blocks_read (ops.Read e p) outcome * g.block_size) (buffer lane n)
  holds_same buffer holds lane n e p outcome next has =
      let c = answer_of 0 s.journal.items given (k.kept).of_journal has.0 lane n outcome has.1 in
      let x = c.call in
      let mine = filter_at (λ (y : Entry Op Answer). y.lane == lane) given c.at x c.is (eq-eqb x.lane lane c.lane_is) in
      let number : mine.0 ≡ n = sym ((k.kept).numbers lane mine.0 x mine.1) ∙ c.number_is in
      let asks_it : request_of asked lane n ≡ Some x.ask = subst (λ m. request_of asked lane m ≡ Some x.ask) number (ask_at (given_of lane given) [] mine.0 x mine.1) in
      let ask : x.ask ≡ ops.Read e p = one_of (request_of asked lane n) x.ask (ops.Read e p) asks_it next in
      let both : take (length x.answer.bytes) (st.kept x.lane x.number) ≡ take (length x.answer.bytes) (buffer x.lane x.number) = seated.bytes c.at x c.is ∙ sym (holds c.at x c.is) in
      let long : length x.answer.bytes ≡ blocks_read (ops.Read e p) outcome * g.block_size =
      (k.kept).blocks c.at x c.is ∙ ap (λ a. blocks_read a x.answer.outcome * g.block_size) ask ∙ ap (λ o. blocks_read (ops.Read e p) o * g.block_size) c.outcome_is in
      subst (λ m. take m (st.kept lane n) ≡ take m (buffer lane n)) long
      (subst (λ l. take (length x.answer.bytes) (st.kept l n) ≡ take (length x.answer.bytes) (buffer l n)) c.lane_is
      (subst (λ m. take (length x.answer.bytes) (st.kept x.lane m) ≡ take (length x.answer.bytes) (buffer x.lane m)) c.number_is both))

  leads_by : (says : Flat → Contents → Type 0) (f : Flat) → DiskLeads content moment left says (k.first).disk s.core.disk plan (begun_over k.first) (k.served).turns (beginning f)
      → CallsLead content moment left says plan k.first f s.core (k.served).turns s.journal.items given
  leads_by says f d =
      let journal : s.journal.items ≡ journal_of plan (begun_over k.first) (k.served).turns = (seated.session).journal in
      let end_all : (lane : ℕ) → plan.request lane ((d.place).number lane) ≡ None = λ lane. ap (plan.request lane) ((d.at).number lane) ∙ none_left lane in
      let none : st.memory.requests ≡ [] = ap (λ (m : Memory). m.requests) (seated.session).memory ∙ idle in
      record {
        place = d.place;
        legal = λ buffer holds. whole_same plan (λ lane n. st.kept lane n) buffer s.journal.items d.place end_all (holds_same buffer holds) (beginning f)
            (subst (λ xs. Legal plan (λ lane n. st.kept lane n) xs (beginning f) d.place) (sym journal) (d.legal (λ lane n. st.kept lane n) own_agrees));
        stands = (
            let there = subst (λ (m : Memory). IsStanding g m (contents_of (d.last).now) (candidates_of (d.last).candidates) ((d.at).flat)) (seated.session).memory (d.at).stands in
            let here = subst (IsStanding g s.core.memory (contents_of (d.last).now) (candidates_of (d.last).candidates)) (nothing_lags plan st (disk_of d.last) d.place d.at none) there in
            subst (λ z. StandsOver z s.core.memory (content s.core.disk) (d.place).flat) (sym k.sizes) (subst (λ o. StandsOver g s.core.memory o (d.place).flat) (sym d.tells) here));
        end = λ c is image crash. (let same : d.last ≡ c = one_of (content s.core.disk) d.last c d.tells is in d.end none image (subst (λ (z : Content). IsCrash z.candidates image) (sym same) crash));
        ever = λ buffer holds since image later was. way_same plan (λ lane n. st.kept lane n) buffer s.journal.items d.place end_all (holds_same buffer holds) says (beginning f) 0 (contents_of image)
            (subst (λ xs. IsOnTheWayBy says plan (λ lane n. st.kept lane n) xs (beginning f) d.place 0 (contents_of image)) (sym journal) (d.ever (λ lane n. st.kept lane n) own_agrees since image later was));
        early = λ buffer holds since image earlier was. elim (d.early (λ lane n. st.kept lane n) own_agrees since image earlier was) [
          | inl before ↦ inl before
          | inr on ↦ inr (way_same plan (λ lane n. st.kept lane n) buffer s.journal.items d.place end_all (holds_same buffer holds) says (beginning f) 0 (contents_of image)
              (subst (λ xs. IsOnTheWayBy says plan (λ lane n. st.kept lane n) xs (beginning f) d.place 0 (contents_of image)) (sym journal) on))
        ];
        item = λ buffer holds i image inside was. way_same plan (λ lane n. st.kept lane n) buffer s.journal.items d.place end_all (holds_same buffer holds) says (beginning f) (suc i) (contents_of image)
            (subst (λ xs. IsOnTheWayBy says plan (λ lane n. st.kept lane n) xs (beginning f) d.place (suc i) (contents_of image)) (sym journal)
            (d.item (λ lane n. st.kept lane n) own_agrees i image (let same = ap length journal in omega (arith, inside, same)) was));
      }

  begins_at : (f : Flat) → BeginsAt content plan k.first f → (c : Content) × (content (k.first).disk ≡ Some c) × IsReadyFor plan (k.first).memory (disk_of c) f
  begins_at f at = by (content (k.first).disk) refl at.0
    where
      by : (o : Option Content) → content (k.first).disk ≡ o → StandsOver (k.first).geometry (k.first).memory o f → (c : Content) × (content (k.first).disk ≡ Some c) × IsReadyFor plan (k.first).memory (disk_of c) f
      by None is stands = absurd stands
      by (Some c) is stands = (
        c,
        is,
        record {
          stands = subst (λ z. IsStanding z (k.first).memory (contents_of c.now) (candidates_of c.candidates) f) (k.begun).sizes stands;
          none = (k.begun).idle;
          untouched = at.1;
        },
      )

  pub leads : (f : Flat) → BeginsAt content plan k.first f → CallsLead content moment left (StandsFor g) plan k.first f s.core (k.served).turns s.journal.items given
  leads f at =
      let b = begins_at f at in
      leads_by (StandsFor g) f (cuts_of_disk content moment left only_now (k.first).disk s.core.disk plan (begun_over k.first) (k.served).turns (disk_of b.0) _ ((k.served).cuts plan asks b.0 b.1)
      (beginning_is_at plan (k.first).memory (k.first).admitted (disk_of b.0) f b.2).0)

  led_there : (f : Flat) (c : Content) → content (k.first).disk ≡ Some c → LedIn content k.first f → IsLed g (k.first).memory (contents_of c.now) (candidates_of c.candidates) f
  led_there f c is led = subst (λ (h : Geometry). LedOver h (k.first).memory (Some c) f) (k.begun).sizes (subst (λ o. LedOver (k.first).geometry (k.first).memory o f) is led)

  pub leads_ahead : (f : Flat) → BeginsAt content plan k.first f → LedIn content k.first f → StaysBelow (faults (k.first).disk) (faults s.core.disk)
      → CallsLead content moment left (StandsAheadToo g) plan k.first f s.core (k.served).turns s.journal.items given
  leads_ahead f at led low =
      let b = begins_at f at in
      let start = beginning_is_at plan (k.first).memory (k.first).admitted (disk_of b.0) f b.2 in
      leads_by (StandsAheadToo g) f (cuts_of_disk_are_ahead content moment left only_now stated shaped cuts_shaped (k.first).disk s.core.disk plan (begun_over k.first) (k.served).turns (disk_of b.0) _ ((k.served).cuts plan asks b.0 b.1)
      k.stated_is start.0 (subst (IsLed g (k.first).memory (contents_of (b.0).now) (candidates_of (b.0).candidates)) (sym start.1) (led_there f b.0 b.1 led)) ((k.served).fine plan asks low))

  order : AreInOrder (λ caller. 0) s.journal.items (answered_of given)
  order = subst (λ (f : ℕ → ℕ). AreInOrder (λ caller. 0) s.journal.items f) (fun_ext seated.number)
      (histories_go_in_order g (asked_of lanes s.server.view.given s.server.view.jobs) (view_under content faults k.first s.core (k.served).turns s.journal.items (k.served).moments plan)
      (λ p a. ((k.served).seated p a).session) (k.begun).sound (k.begun).idle)

  -- once each pass has its calls among those that were answered
  pub is_closed : (passes : List Caller) → ((i : ℕ) (p : Caller) → slice_get passes i ≡ Some p → given_of i given ≡ p.got)
      → IsClosed content moment left faults g lanes begins passes s.core s.journal.items given
  is_closed passes mine = record {
    first = k.first;
    is = k.is;
    turns = (k.served).turns;
    moments = (k.served).moments;
    session = seated.session;
    of_journal = (k.kept).of_journal;
    own = mine;
    order = order;
    blocks = (k.kept).blocks;
    sizes = k.sizes;
    idle = idle;
    counted = (seated.session).faults;
    leads = leads;
    ahead = leads_ahead;
  }

-- The seat of a pass, with the seat of the server, at the end of the tags: its calls are those of its caller.
pub own_of : (table : TableId) (size callers : ℕ) (allowed : ℕ → ℕ) (section : ℕ → ℕ → ℕ) (given : List (Entry Op Answer)) (passes : List Caller) (seats : List (Sitting Op Answer)) (words : List ℕ) (server : Sitting Op Answer)
    → AreSeats table size callers allowed section passes seats → server.view.given ≡ given → length words ≡ callers → length passes ≡ callers
    → Numbered (λ i (p : Caller). p.lane ≡ i) passes
    → Numbered (λ i (s : Sitting Op Answer). IsLastWord (slice_index words i) (lane_of s.view)) seats → AllGiven seats (server ∷ []) → AnsweredOnce words (server ∷ [])
    → ((lane : ℕ) → Below given lane (answered_of given lane)) → ((lane n : ℕ) (x : Entry Op Answer) → slice_get (given_of lane given) n ≡ Some x → x.number ≡ n)
    → (i : ℕ) (p : Caller) → slice_get passes i ≡ Some p → given_of i given ≡ p.got
own_of table size callers allowed section given passes seats words server are is many all placed last among once below numbers i p at =
    let inside = at_within passes i p at in
    let found = seat_at seats i (let e = are.many in omega (arith, inside, e)) in
    let seat = found.0 in
    let both = are.each i p seat at found.1 in
    let lane : p.lane ≡ i = placed i p (elem_of passes i p at) in
    let word = last i seat (elem_of seats i seat found.1) in
    let zeroth : word.0 ≡ 0 = word.3 both.1.idle in
    let word_is : slice_index words i ≡ 4 * p.made = (let e = word.2 in let n = both.1.number_is in omega (arith, e, n, zeroth)) in
    let made : Below given i p.made = λ n. (
    let o = once i n (omega (arith, inside, many, all)) in
    let one : times_given i n (server ∷ []) ≡ given_times i n given = (let e = ap (given_times i n) is in omega (arith, e)) in (
      (λ less. sym one ∙ o.0 (omega (arith, word_is, less))),
      (λ past. sym one ∙ o.1 (let low : p.made ≤ n = omega (arith, past) in omega (arith, word_is, low))),
    )) in
    let own : AreOwn i p.made p.got = subst (λ l. AreOwn l p.made p.got) lane (subst (AreOwn p.lane p.made) both.2 both.1.own) in
    own_calls given p.got i p.made (below i) made (numbers i) own (λ n x got_at.
    let had : slice_get seat.view.got n ≡ Some x = ap (λ (xs : List (Entry Op Answer)). slice_get xs n) both.2 ∙ got_at in
    let a = among i seat n x (elem_of seats i seat found.1) (elem_of seat.view.got n x had) in
    (a.2, ap (λ (xs : List (Entry Op Answer)). slice_get xs a.2) (sym is) ∙ only a.0 a.1 a.2 x a.3 a.4))
  where
    seat_at : (xs : List (Sitting Op Answer)) (j : ℕ) → j < length xs → (s : Sitting Op Answer) × (slice_get xs j ≡ Some s)
    seat_at [] j less = absurd (omega (arith, less))
    seat_at (x ∷ xs) zero less = (x, refl)
    seat_at (x ∷ xs) (suc j) less = seat_at xs j (omega (arith, less))

    only : (j : ℕ) (t : Sitting Op Answer) (m : ℕ) (x : Entry Op Answer) → get_elem? (server ∷ []) j ≡ some t → get_elem? t.view.given m ≡ some x → slice_get server.view.given m ≡ Some x
    only zero t m x here there = let same : server ≡ t = some-injective server t here in get_of server.view.given m x (ap (λ (z : Sitting Op Answer). get_elem? z.view.given m) same ∙ there)
    only (suc j) t m x here there = absurd (some-ne-none t (sym here))

pub some_at : {A : Type 0} (xs : List A) (j : ℕ) → j < length xs → (x : A) × (slice_get xs j ≡ Some x)
some_at [] j less = absurd (omega (arith, less))
some_at (x ∷ xs) zero less = (x, refl)
some_at (x ∷ xs) (suc j) less = some_at xs j (omega (arith, less))

-- the pass of each seat
pub seat_pass : (table : TableId) (size callers : ℕ) (allowed : ℕ → ℕ) (section : ℕ → ℕ → ℕ) (passes : List Caller) (seats : List (Sitting Op Answer)) → AreSeats table size callers allowed section passes seats → Numbered (λ i (p : Caller). p.lane ≡ i) passes
    → (i : ℕ) (s : Sitting Op Answer) → get_elem? seats i ≡ some s → (p : Caller) × (present : ℕ) × IsPass table size callers allowed section s i p.made p.may present
seat_pass table size callers allowed section passes seats are placed i s at =
    let here = get_of seats i s at in
    let inside = at_within seats i s here in
    let p = some_at passes i (let e = are.many in omega (arith, inside, e)) in
    let both = are.each i p.0 s p.1 here in
    (p.0, both.0, subst (λ l. IsPass table size callers allowed section s l (p.0).made (p.0).may both.0) (placed i p.0 (elem_of passes i p.0 p.1)) both.1)

-- the one of a list of one
pub in_one : {A : Type 0} (xs : List A) (x y : A) (i : ℕ) → xs ≡ x ∷ [] → get_elem? xs i ≡ some y → (i ≡ 0) × (x ≡ y)
in_one {A} xs x y i is at = by i (ap (λ (zs : List A). get_elem? zs i) (sym is) ∙ at)
  where
    by : (i : ℕ) → get_elem? (x ∷ []) i ≡ some y → (i ≡ 0) × (x ≡ y)
    by zero here = (refl, some-injective x y here)
    by (suc i) here = absurd (some-ne-none y (sym here))
