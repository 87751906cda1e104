-- The tally: what the writes that count have taken, after the table, the log or the place has changed.
use Rattle.std.proofs.Common.{ℕ, zero, suc, ◌+◌, ◌-◌, ◌*◌, ◌<◌, ◌≤◌, ◌≡◌, ◌≢◌, ◌⊎◌, ◌&&◌, ◌||◌, nat_lt, ◌++◌, Bool, true, false, cond, List, [], ◌∷◌, length, Option, Some, None, arith, refl, sym, ap, ◌∙◌, subst, inl, inr}
use Rattle.std.specs.List.{sum_by, list_any}
use Rattle.std.proofs.lemmas.Bool.{cases_eq, false≢true, and_parts, or_cases, or_right}
use Rattle.std.proofs.lemmas.List.Folds.{list_any-append}
use Rattle.std.proofs.lemmas.List.Sums.{sum_by-append, sum_by-cons}
use Rattle.std.proofs.lemmas.Nat.{le-div}
use Rattle.bow_units.specs.declared.sizes.Geometry.{Geometry}
use Rattle.bow_units.specs.Sizes.{IsBlockSize, IsValid}
use Rattle.bow_units.specs.declared.requests.Op.{Op}
use Rattle.bow_units.specs.declared.requests.Op.TheVariants as ops
use Rattle.bow_units.specs.declared.requests.Outcome.{Outcome}
use Rattle.bow_units.specs.declared.statuses.Kind.{Kind}
use Rattle.bow_log.specs.Generations.{Generation, room}
use Rattle.bow_flat.specs.Flat.{Flat, put, count_from}
use Rattle.bow_queue.specs.declared.tickets.Ticket.{Ticket}
use Rattle.bow_ranges.specs.Kinds.{kind_at, count_of}
use Rattle.bow_machine.specs.Requests.{Request, request_of}
use Rattle.bow_machine.specs.MemoryIsSound.{is_touched}
use Rattle.bow_machine.proofs.MappedWrites.{put_there}
use Rattle.bow_history.specs.Journal.{Plan, Place, writes, writes_above_0, counts, if_counts, next_writes, counting, size_in, counted_after, answered}
use Rattle.bow_history.specs.Sessions.{IsFor}
use Rattle.bow_history.specs.Fits.{touched_by, spent_by, spent_in, IsTallied, AreSeated}
use Rattle.bow_history.specs.Legality.{IsUntouched}
use Rattle.bow_machine.specs.Ties.{copies_in}
use Rattle.bow_history.proofs.Lists.{one_of}
use Rattle.bow_history.proofs.Turns.{same_writes}

-- ----------------------------------------------------------------------------------------------------------------
-- Counts of blocks.

abbrev one : Bool → ℕ
one t = cond t 1 0

one_le : (a b : Bool) → (a ≡ true → b ≡ true) → cond a 1 0 ≤ cond b 1 0
one_le true b h = let e : cond b 1 0 ≡ 1 = ap one (h refl) in omega (arith, e)
one_le false b h = omega arith

pub count_le : (p q : ℕ → Bool) (first n : ℕ) → ((b : ℕ) → first ≤ b → b < first + n → p b ≡ true → q b ≡ true) → count_from p first n ≤ count_from q first n
count_le p q first zero h = omega arith
count_le p q first (suc n) h =
    let here = one_le (p first) (q first) (h first (omega arith) (omega arith)) in
    let rest = count_le p q (suc first) n (λ b low high. h b (omega (arith, low)) (omega (arith, high))) in
    omega (arith, here, rest)

pub count_less : (p q : ℕ → Bool) (first n : ℕ) → ((b : ℕ) → first ≤ b → b < first + n → p b ≡ true → q b ≡ true) → (x : ℕ) → first ≤ x → x < first + n → p x ≡ false → q x ≡ true
    → count_from p first n + 1 ≤ count_from q first n
count_less p q first zero h x low high out in_it = absurd (omega (arith, low, high))
count_less p q first (suc n) h x low high out in_it = elim (cases_eq x first) [
  | inl is ↦
      let none : one (p first) ≡ 0 = ap one (ap p (sym is) ∙ out) in
      let some : one (q first) ≡ 1 = ap one (ap q (sym is) ∙ in_it) in
      let rest = count_le p q (suc first) n (λ b low high. h b (omega (arith, low)) (omega (arith, high))) in
      omega (arith, none, some, rest)
  | inr ne ↦
      let here = one_le (p first) (q first) (h first (omega arith) (omega arith)) in
      let rest = count_less p q (suc first) n (λ b low high. h b (omega (arith, low)) (omega (arith, high))) x (omega (arith, low, ne)) (omega (arith, high)) out in_it in
      omega (arith, here, rest)
]

-- what is counted in a table is counted among its places
pub count_table : (sort : Kind → Bool) (p : ℕ → Bool) (table : List Kind) (first : ℕ) → ((i : ℕ) → i < length table → sort (kind_at table i) ≡ true → p (first + i) ≡ true) → count_of sort table ≤ count_from p first (length table)
count_table sort p [] first h = omega arith
count_table sort p (kind ∷ table) first h =
    let zeroth : first + 0 ≡ first = omega arith in
    let here = one_le (sort kind) (p first) (λ e. ap p (sym zeroth) ∙ h 0 (omega arith) e) in
    let rest = count_table sort p table (suc first) (λ i below e. let next : suc first + i ≡ first + suc i = omega arith in ap p next ∙ h (suc i) (omega (arith, below)) e) in
    let split = sum_by-cons (λ k. cond (sort k) 1 0) kind table in
    omega (arith, here, rest, split)

-- ----------------------------------------------------------------------------------------------------------------
-- The writes that count.

pub any_left : {X : Type 0} (p : X → Bool) (xs ys : List X) → list_any p xs ≡ true → list_any p (xs ++ ys) ≡ true
any_left p xs ys h = list_any-append p xs ys ∙ ap (λ t. t || list_any p ys) h

pub any_right : {X : Type 0} (p : X → Bool) (xs ys : List X) → list_any p ys ≡ true → list_any p (xs ++ ys) ≡ true
any_right p xs ys h = list_any-append p xs ys ∙ or_right (list_any p xs) (list_any p ys) h

pub any_cases : {X : Type 0} (p : X → Bool) (xs ys : List X) → list_any p (xs ++ ys) ≡ true → (list_any p xs ≡ true) ⊎ (list_any p ys ≡ true)
any_cases p xs ys h = or_cases (list_any p xs) (list_any p ys) (sym (list_any-append p xs ys) ∙ h)

-- a next request that counts and writes the block
pub record IsOne (plan : Plan) (number : ℕ → ℕ) (b lane : ℕ) : Type 0 where
  pub op : Op
  pub next : plan.request lane (number lane) ≡ Some op
  pub counts_so : counts plan.sizes op ≡ true
  pub writes_it : writes op b ≡ true

if_counts_has : (g : Geometry) (o : Option Op) (op : Op) (b : ℕ) → o ≡ Some op → counts g op ≡ true → writes op b ≡ true → list_any (λ x. writes x b) (if_counts g o) ≡ true
if_counts_has g o op b is c w =
    subst (λ o. list_any (λ x. writes x b) (if_counts g o) ≡ true) (sym is)
    (subst (λ t. list_any (λ x. writes x b) (cond t (op ∷ []) []) ≡ true) (sym c) (ap (λ t. t || false) w))

if_counts_is : (g : Geometry) (o : Option Op) (b : ℕ) → list_any (λ x. writes x b) (if_counts g o) ≡ true → (op : Op) × (o ≡ Some op) × (counts g op ≡ true) × (writes op b ≡ true)
if_counts_is g None b h = absurd (false≢true h)
if_counts_is g (Some op) b h = go (counts g op) refl h
  where
    go : (t : Bool) → counts g op ≡ t → list_any (λ x. writes x b) (cond t (op ∷ []) []) ≡ true → (other : Op) × (Some op ≡ Some other) × (counts g other ≡ true) × (writes other b ≡ true)
    go true is h = (op, refl, is, elim (or_cases (writes op b) false h) [ inl so ↦ so | inr never ↦ absurd (false≢true never) ])
    go false is h = absurd (false≢true h)

pub next_has : (plan : Plan) (p : Place) (b lane lanes : ℕ) → lane < lanes → IsOne plan p.number b lane → list_any (λ op. writes op b) (next_writes plan p lanes) ≡ true
next_has plan p b lane zero below one = absurd (omega (arith, below))
next_has plan p b lane (suc lanes) below one = elim (cases_eq lane lanes) [
  | inl is ↦ any_left (λ op. writes op b) (if_counts plan.sizes (plan.request lanes (p.number lanes))) (next_writes plan p lanes) (if_counts_has plan.sizes (plan.request lanes (p.number lanes)) one.op b (ap (λ l. plan.request l (p.number l)) (sym is) ∙ one.next) one.counts_so one.writes_it)
  | inr ne ↦ any_right (λ op. writes op b) (if_counts plan.sizes (plan.request lanes (p.number lanes))) (next_writes plan p lanes) (next_has plan p b lane lanes (omega (arith, below, ne)) one)
]

pub next_is : (plan : Plan) (p : Place) (b lanes : ℕ) → list_any (λ op. writes op b) (next_writes plan p lanes) ≡ true → (lane : ℕ) × (lane < lanes) × IsOne plan p.number b lane
next_is plan p b zero h = absurd (false≢true h)
next_is plan p b (suc lanes) h = elim (any_cases (λ op. writes op b) (if_counts plan.sizes (plan.request lanes (p.number lanes))) (next_writes plan p lanes) h) [
  | inl here ↦ let is = if_counts_is plan.sizes (plan.request lanes (p.number lanes)) b here in (lanes, omega arith, record { op = is.0; next = is.1; counts_so = is.2; writes_it = is.3 })
  | inr rest ↦ let is = next_is plan p b lanes rest in (is.0, omega (arith, is.1), is.2)
]

-- ----------------------------------------------------------------------------------------------------------------
-- What is spent, lane by lane.

pub spent_le : (plan : Plan) (one other : List Kind) (number others : ℕ → ℕ) (hand hands : ℕ → Option Ticket) (lanes : ℕ)
    → ((lane : ℕ) → lane < lanes → spent_by plan.sizes one (hand lane) (plan.request lane (number lane)) ≤ spent_by plan.sizes other (hands lane) (plan.request lane (others lane)))
    → spent_in plan one number hand lanes ≤ spent_in plan other others hands lanes
spent_le plan one other number others hand hands zero h = omega arith
spent_le plan one other number others hand hands (suc lanes) h =
    let here = h lanes (omega arith) in
    let rest = spent_le plan one other number others hand hands lanes (λ l below. h l (omega (arith, below))) in
    omega (arith, here, rest)

-- more in one lane
pub spent_less : (plan : Plan) (one other : List Kind) (number others : ℕ → ℕ) (hand hands : ℕ → Option Ticket) (lanes : ℕ)
    → ((lane : ℕ) → lane < lanes → spent_by plan.sizes one (hand lane) (plan.request lane (number lane)) ≤ spent_by plan.sizes other (hands lane) (plan.request lane (others lane)))
    → (x : ℕ) → x < lanes → spent_by plan.sizes one (hand x) (plan.request x (number x)) + 1 ≤ spent_by plan.sizes other (hands x) (plan.request x (others x))
    → spent_in plan one number hand lanes + 1 ≤ spent_in plan other others hands lanes
spent_less plan one other number others hand hands zero h x below more = absurd (omega (arith, below))
spent_less plan one other number others hand hands (suc lanes) h x below more = elim (cases_eq x lanes) [
  | inl is ↦
      let rest = spent_le plan one other number others hand hands lanes (λ l under. h l (omega (arith, under))) in
      let here = subst (λ l. spent_by plan.sizes one (hand l) (plan.request l (number l)) + 1 ≤ spent_by plan.sizes other (hands l) (plan.request l (others l))) is more in
      omega (arith, rest, here)
  | inr ne ↦
      let here = h lanes (omega arith) in
      let rest = spent_less plan one other number others hand hands lanes (λ l under. h l (omega (arith, under))) x (omega (arith, below, ne)) more in
      omega (arith, here, rest)
]

-- less in one lane, by so much at most
pub spent_but : (plan : Plan) (kinds : List Kind) (number others : ℕ → ℕ) (hand hands : ℕ → Option Ticket) (lanes x most : ℕ)
    → ((lane : ℕ) → lane ≢ x → spent_by plan.sizes kinds (hand lane) (plan.request lane (number lane)) ≤ spent_by plan.sizes kinds (hands lane) (plan.request lane (others lane)))
    → spent_by plan.sizes kinds (hand x) (plan.request x (number x)) ≤ most
    → spent_in plan kinds number hand lanes ≤ spent_in plan kinds others hands lanes + most
spent_but plan kinds number others hand hands zero x most h at = omega arith
spent_but plan kinds number others hand hands (suc lanes) x most h at = elim (cases_eq lanes x) [
  | inl is ↦
      let here = subst (λ l. spent_by plan.sizes kinds (hand l) (plan.request l (number l)) ≤ most) (sym is) at in
      let rest = spent_le plan kinds kinds number others hand hands lanes (λ l under. h l (λ same. omega (arith, same, is, under))) in
      omega (arith, here, rest)
  | inr ne ↦
      let here = h lanes ne in
      let rest = spent_but plan kinds number others hand hands lanes x most h at in
      omega (arith, here, rest)
]

abbrev size_of : Geometry → Option Op → ℕ
size_of g o = sum_by (size_in g.blocks) (if_counts g o)

count_all : (n : ℕ) (kinds : List Kind) (op : Op) → touched_by n kinds op ≤ size_in n op
count_all n kinds op = count_le (λ b. writes_above_0 op b && is_touched (kind_at kinds b)) (writes_above_0 op) 0 n (λ b low high h. (and_parts _ _ h).0)

spent_size : (g : Geometry) (kinds : List Kind) (hand : Option Ticket) (o : Option Op) → spent_by g kinds hand o ≤ size_of g o
spent_size g kinds None o = omega arith
spent_size g kinds (Some t) None = omega arith
spent_size g kinds (Some t) (Some op) = go (counts g op)
  where
    go : (c : Bool) → cond c (touched_by g.blocks kinds op) 0 ≤ sum_by (size_in g.blocks) (cond c (op ∷ []) [])
    go true = let most = count_all g.blocks kinds op in let split = sum_by-cons (size_in g.blocks) op [] in omega (arith, most, split)
    go false = omega arith

pub spent_sizes : (plan : Plan) (kinds : List Kind) (p : Place) (hand : ℕ → Option Ticket) (lanes : ℕ) → spent_in plan kinds p.number hand lanes ≤ sum_by (size_in plan.sizes.blocks) (next_writes plan p lanes)
spent_sizes plan kinds p hand zero = omega arith
spent_sizes plan kinds p hand (suc lanes) =
    let here = spent_size plan.sizes kinds (hand lanes) (plan.request lanes (p.number lanes)) in
    let rest = spent_sizes plan kinds p hand lanes in
    let split = sum_by-append (size_in plan.sizes.blocks) (if_counts plan.sizes (plan.request lanes (p.number lanes))) (next_writes plan p lanes) in
    omega (arith, here, rest, split)

-- it counts as what was asked for does
same_counts : (g : Geometry) (asked op : Op) → IsFor g asked op → counts g op ≡ counts g asked
same_counts g (ops.Read x q) (ops.Read y p) is = refl
same_counts g (ops.Read x q) (ops.Write y p) is = absurd is
same_counts g (ops.Read x q) (ops.Discard y) is = absurd is
same_counts g (ops.Read x q) ops.Flush is = absurd is
same_counts g (ops.Read x q) ops.Prepare is = absurd is
same_counts g (ops.Read x q) ops.Commit is = absurd is
same_counts g (ops.Write x q) op is = ap (counts g) is
same_counts g (ops.Discard x) op is = ap (counts g) is
same_counts g ops.Flush op is = ap (counts g) is
same_counts g ops.Prepare op is = ap (counts g) is
same_counts g ops.Commit op is = ap (counts g) is

-- a log has room for some entries
block_512 : (n : ℕ) → IsBlockSize n → 512 ≤ n
block_512 n is = grind (arith, is)

pub room_some : (g : Geometry) → IsValid g → 2 ≤ room g.block_size
room_some g sizes = let big = block_512 g.block_size sizes.size in le-div 2 (g.block_size - 28) 24 (omega arith) (omega (arith, big))

-- ----------------------------------------------------------------------------------------------------------------
-- The table and the log change.

abbrev pub is_touched_at : List Kind → ℕ → Bool
is_touched_at kinds b = is_touched (kind_at kinds b)

-- a write that waits and counts writes the block
pub record WritesIt (g : Geometry) (requests : List Request) (b : ℕ) : Type 0 where
  pub ticket : Ticket
  pub request : Request
  pub waits : request_of ticket requests ≡ Some request
  pub counts_so : counts g request.op ≡ true
  pub writes_it : writes request.op b ≡ true

-- a block that a waiting write writes is touched now and was not before
pub record IsOneMore (g : Geometry) (requests : List Request) (old new : List Kind) : Type 0 where
  pub block : ℕ
  pub above : 0 < block
  pub inside : block < g.blocks
  pub for_it : WritesIt g requests block
  pub was : is_touched_at old block ≡ false
  pub is : is_touched_at new block ≡ true

-- What is touched now was touched before, or a waiting write writes it; what a waiting write writes stays touched; and the
-- copies have made an entry more for one block more.
pub record Grows (g : Geometry) (requests : List Request) (old new : List Kind) (log next : Generation) : Type 0 where
  pub new_ones : (b : ℕ) → 0 < b → b < g.blocks → is_touched_at new b ≡ true → (is_touched_at old b ≡ true) ⊎ WritesIt g requests b
  pub stays : (t : Ticket) (r : Request) → request_of t requests ≡ Some r → counts g r.op ≡ true → (b : ℕ) → 0 < b → b < g.blocks → writes r.op b ≡ true → is_touched_at old b ≡ true → is_touched_at new b ≡ true
  pub copies : (copies_in g next ≡ copies_in g log)
      ⊎ ((copies_in g next ≡ copies_in g log + 1) × IsOneMore g requests old new)

and_false : (a : Bool) → (a && false) ≡ false
and_false true = refl
and_false false = refl

pub and_both : (a b : Bool) → a ≡ true → b ≡ true → (a && b) ≡ true
and_both a b one two = rw (one, two) refl

module _ (plan : Plan) (requests : List Request) (admitted : ℕ) (number : ℕ → ℕ) (hand : ℕ → Option Ticket) (s : AreSeated plan requests admitted number hand) (p : Place) (same : (lane : ℕ) → p.number lane ≡ number lane) where
  abbrev n : ℕ
  n = plan.sizes.blocks

  -- the lane of a write that waits
  pub one_of_lane : (b : ℕ) → (w : WritesIt plan.sizes requests b) → (lane : ℕ) × (lane < plan.lanes) × (hand lane ≡ Some w.ticket) × IsOne plan p.number b lane
  one_of_lane b w =
      let l = s.lanes w.ticket w.request w.waits in
      let seat = s.each l.0 w.ticket l.1 in
      let is : IsFor plan.sizes seat.asked w.request.op = subst (λ (x : Request). IsFor plan.sizes seat.asked x.op) (one_of (request_of w.ticket requests) seat.request w.request seat.waits w.waits) seat.is in (
        l.0,
        seat.inside,
        l.1,
        record {
          op = seat.asked;
          next = ap (plan.request l.0) (same l.0) ∙ seat.next;
          counts_so = sym (same_counts plan.sizes seat.asked w.request.op is) ∙ w.counts_so;
          writes_it = sym (same_writes plan.sizes seat.asked w.request.op b is) ∙ w.writes_it;
        },
      )

  module _ (old new : List Kind) (log next : Generation) (g : Grows plan.sizes requests old new log next) where
    -- what is touched of a write in hand stays touched
    op_le : (lane : ℕ) → {t : Ticket} → hand lane ≡ Some t → (op : Op) → plan.request lane (p.number lane) ≡ Some op → counts plan.sizes op ≡ true
        → (b : ℕ) → 0 ≤ b → b < 0 + n → (writes_above_0 op b && is_touched_at old b) ≡ true → (writes_above_0 op b && is_touched_at new b) ≡ true
    op_le lane {t = t} has op is so b low high h =
        let seat = s.each lane t has in
        let asked : seat.asked ≡ op = one_of (plan.request lane (p.number lane)) seat.asked op (ap (plan.request lane) (same lane) ∙ seat.next) is in
        let parts = and_parts (writes_above_0 op b) (is_touched_at old b) h in
        let above = and_parts (nat_lt 0 b) (writes op b) parts.0 in
        let positive : 0 < b = grind (arith, above.0) in
        let mine : counts plan.sizes seat.request.op ≡ true = same_counts plan.sizes seat.asked seat.request.op seat.is ∙ ap (counts plan.sizes) asked ∙ so in
        let its : writes seat.request.op b ≡ true = same_writes plan.sizes seat.asked seat.request.op b seat.is ∙ ap (λ o. writes o b) asked ∙ above.1 in
        and_both (writes_above_0 op b) (is_touched_at new b) parts.0 (g.stays t seat.request seat.waits mine b positive (omega (arith, high)) its parts.1)

    -- what a lane has spent grows
    lane_le : (lane : ℕ) → lane < plan.lanes → spent_by plan.sizes old (hand lane) (plan.request lane (p.number lane)) ≤ spent_by plan.sizes new (hand lane) (plan.request lane (p.number lane))
    lane_le lane below = go (hand lane) refl (plan.request lane (p.number lane)) refl
      where
        by_count : (t : Ticket) → hand lane ≡ Some t → (op : Op) → plan.request lane (p.number lane) ≡ Some op → (c : Bool) → counts plan.sizes op ≡ c → cond c (touched_by n old op) 0 ≤ cond c (touched_by n new op) 0
        by_count t has op is false not_so = omega arith
        by_count t has op is true so = count_le (λ b. writes_above_0 op b && is_touched_at old b) (λ b. writes_above_0 op b && is_touched_at new b) 0 n (op_le lane has op is so)

        go : (h : Option Ticket) → hand lane ≡ h → (o : Option Op) → plan.request lane (p.number lane) ≡ o → spent_by plan.sizes old h o ≤ spent_by plan.sizes new h o
        go None has o is = omega arith
        go (Some t) has None is = omega arith
        go (Some t) has (Some op) is = by_count t has op is (counts plan.sizes op) refl

    covered : ((b : ℕ) → 0 < b → b < n → is_touched_at old b ≡ true → list_any (λ op. writes op b) (counting plan p) ≡ true)
        → (b : ℕ) → 0 < b → b < n → is_touched_at new b ≡ true → list_any (λ op. writes op b) (counting plan p) ≡ true
    covered before b above below touched = elim (g.new_ones b above below touched) [
      | inl was ↦ before b above below was
      | inr w ↦ let l = one_of_lane b w in any_left (λ op. writes op b) (next_writes plan p plan.lanes) p.counted (next_has plan p b l.0 plan.lanes l.1 l.3)
    ]

    -- a block more in the lane of a write that waits
    lane_less : (c : IsOneMore plan.sizes requests old new) → spent_in plan old p.number hand plan.lanes + 1 ≤ spent_in plan new p.number hand plan.lanes
    lane_less c =
        let l = one_of_lane c.block c.for_it in
        spent_less plan old new p.number p.number hand hand plan.lanes lane_le l.0 l.1
        (subst (λ h. spent_by plan.sizes old h (plan.request l.0 (p.number l.0)) + 1 ≤ spent_by plan.sizes new h (plan.request l.0 (p.number l.0))) (sym l.2)
        (subst (λ o. spent_by plan.sizes old (Some c.for_it.ticket) o + 1 ≤ spent_by plan.sizes new (Some c.for_it.ticket) o) (sym (l.3).next)
        (subst (λ t. cond t (touched_by n old (l.3).op) 0 + 1 ≤ cond t (touched_by n new (l.3).op) 0) (sym (l.3).counts_so)
        (count_less (λ b. writes_above_0 (l.3).op b && is_touched_at old b) (λ b. writes_above_0 (l.3).op b && is_touched_at new b) 0 n (op_le l.0 l.2 (l.3).op (l.3).next (l.3).counts_so) c.block (omega arith) (omega (arith, c.inside))
        (ap (λ t. writes_above_0 (l.3).op c.block && t) c.was ∙ and_false (writes_above_0 (l.3).op c.block))
        (and_both (writes_above_0 (l.3).op c.block) (is_touched_at new c.block) (and_both (nat_lt 0 c.block) (writes (l.3).op c.block) (grind (arith, c.above)) (l.3).writes_it) c.is)))))

    tallied : copies_in plan.sizes log ≤ spent_in plan old p.number hand plan.lanes + sum_by (size_in n) p.counted + (room plan.sizes.block_size - 1)
        → copies_in plan.sizes next ≤ spent_in plan new p.number hand plan.lanes + sum_by (size_in n) p.counted + (room plan.sizes.block_size - 1)
    tallied before = elim g.copies [
      | inl same ↦
          let all = spent_le plan old new p.number p.number hand hand plan.lanes lane_le in
          omega (arith, before, all, same)
      | inr (more, one) ↦
          let all = lane_less one in
          omega (arith, before, all, more)
    ]

    pub grown : IsTallied plan old hand p log → IsTallied plan new hand p next
    grown t = record { covered = covered t.covered; tally = tallied t.tally }

-- ----------------------------------------------------------------------------------------------------------------
-- Where nothing was touched, whatever the place.

pub untouched_tallied : (plan : Plan) (kinds : List Kind) (hand : ℕ → Option Ticket) (p : Place) (log : Generation)
    → length log.entries ≤ room plan.sizes.block_size → IsUntouched plan.sizes kinds log → IsTallied plan kinds hand p log
untouched_tallied plan kinds hand p log few u = record {
  covered = λ b above below touched. absurd (false≢true (sym (u.none b below) ∙ touched));
  tally =
      let z : log.sequence * (room plan.sizes.block_size - 1) ≡ 0 * (room plan.sizes.block_size - 1) = ap (λ x. x * (room plan.sizes.block_size - 1)) u.first in
      omega (arith, z, few);
}

-- ----------------------------------------------------------------------------------------------------------------
-- A lane takes a request in.

pub admitted_tallied : (plan : Plan) (kinds : List Kind) (hand : ℕ → Option Ticket) (p : Place) (log : Generation) (lane : ℕ) (t : Ticket) → hand lane ≡ None → IsTallied plan kinds hand p log → IsTallied plan kinds (put hand lane (Some t)) p log
admitted_tallied plan kinds hand p log lane t free tallied = record {
  covered = tallied.covered;
  tally = let more = spent_le plan kinds kinds p.number p.number hand (put hand lane (Some t)) plan.lanes grows in omega (arith, tallied.tally, more);
}
  where
    grows : (l : ℕ) → l < plan.lanes → spent_by plan.sizes kinds (hand l) (plan.request l (p.number l)) ≤ spent_by plan.sizes kinds (put hand lane (Some t) l) (plan.request l (p.number l))
    grows l below = elim (cases_eq l lane) [
      | inl is ↦
          let none : spent_by plan.sizes kinds (hand l) (plan.request l (p.number l)) ≡ 0 = ap (λ h. spent_by plan.sizes kinds h (plan.request l (p.number l))) (ap hand is ∙ free) in
          omega (arith, none)
      | inr ne ↦
          let e : spent_by plan.sizes kinds (hand l) (plan.request l (p.number l)) ≡ spent_by plan.sizes kinds (put hand lane (Some t) l) (plan.request l (p.number l)) = ap (λ h. spent_by plan.sizes kinds h (plan.request l (p.number l))) (sym (put_there hand lane (Some t) l ne)) in
          omega (arith, e)
    ]

-- ----------------------------------------------------------------------------------------------------------------
-- A request is answered.

module _ (plan : Plan) (kinds : List Kind) (hand : ℕ → Option Ticket) (p : Place) (log : Generation) (lane : ℕ) (asked : Op) (outcome : Outcome) (flat : Flat) (next : plan.request lane (p.number lane) ≡ Some asked)
    (counted : counted_after plan.sizes asked outcome p.counted ≡ if_counts plan.sizes (Some asked) ++ p.counted) where
  abbrev q : Place
  q = answered plan lane asked outcome flat p

  answered_covers : (b : ℕ) → list_any (λ op. writes op b) (counting plan p) ≡ true → list_any (λ op. writes op b) (counting plan q) ≡ true
  answered_covers b h = elim (any_cases (λ op. writes op b) (next_writes plan p plan.lanes) p.counted h) [
    | inl before ↦ let one = next_is plan p b plan.lanes before in elim (cases_eq one.0 lane) [
      | inl is ↦
          let same : (one.2).op ≡ asked = one_of (plan.request lane (p.number lane)) (one.2).op asked (ap (λ l. plan.request l (p.number l)) (sym is) ∙ (one.2).next) next in
          now_counted (any_left (λ op. writes op b) (if_counts plan.sizes (Some asked)) p.counted
          (if_counts_has plan.sizes (Some asked) asked b refl (ap (counts plan.sizes) (sym same) ∙ (one.2).counts_so) (ap (λ o. writes o b) (sym same) ∙ (one.2).writes_it)))
      | inr ne ↦ any_left (λ op. writes op b) (next_writes plan q plan.lanes) q.counted (next_has plan q b one.0 plan.lanes one.1 (record {
        op = (one.2).op;
        next = ap (plan.request one.0) (put_there p.number lane (suc (p.number lane)) one.0 ne) ∙ (one.2).next;
        counts_so = (one.2).counts_so;
        writes_it = (one.2).writes_it;
      }))
    ]
    | inr old ↦ now_counted (any_right (λ op. writes op b) (if_counts plan.sizes (Some asked)) p.counted old)
  ]
    where
      now_counted : list_any (λ op. writes op b) (if_counts plan.sizes (Some asked) ++ p.counted) ≡ true → list_any (λ op. writes op b) (counting plan q) ≡ true
      now_counted has = any_right (λ op. writes op b) (next_writes plan q plan.lanes) q.counted (ap (list_any (λ op. writes op b)) counted ∙ has)

  pub answered_tallied : IsTallied plan kinds hand p log → IsTallied plan kinds (put hand lane None) q log
  answered_tallied t = record {
    covered = λ b above below touched. answered_covers b (t.covered b above below touched);
    tally =
        let less = spent_but plan kinds p.number q.number hand (put hand lane None) plan.lanes lane (size_of plan.sizes (Some asked)) others mine in
        let sum : sum_by (size_in plan.sizes.blocks) q.counted ≡ size_of plan.sizes (Some asked) + sum_by (size_in plan.sizes.blocks) p.counted =
        ap (sum_by (size_in plan.sizes.blocks)) counted ∙ sum_by-append (size_in plan.sizes.blocks) (if_counts plan.sizes (Some asked)) p.counted in
        omega (arith, t.tally, less, sum);
  }
    where
      others : (l : ℕ) → l ≢ lane → spent_by plan.sizes kinds (hand l) (plan.request l (p.number l)) ≤ spent_by plan.sizes kinds (put hand lane None l) (plan.request l (put p.number lane (suc (p.number lane)) l))
      others l ne =
          let e : spent_by plan.sizes kinds (hand l) (plan.request l (p.number l)) ≡ spent_by plan.sizes kinds (put hand lane None l) (plan.request l (put p.number lane (suc (p.number lane)) l)) =
          ap (λ h. spent_by plan.sizes kinds h (plan.request l (p.number l))) (sym (put_there hand lane None l ne)) ∙ ap (λ x. spent_by plan.sizes kinds (put hand lane None l) (plan.request l x)) (sym (put_there p.number lane (suc (p.number lane)) l ne)) in
          omega (arith, e)

      mine : spent_by plan.sizes kinds (hand lane) (plan.request lane (p.number lane)) ≤ size_of plan.sizes (Some asked)
      mine = subst (λ o. spent_by plan.sizes kinds (hand lane) o ≤ size_of plan.sizes (Some asked)) (sym next) (spent_size plan.sizes kinds (hand lane) (Some asked))
