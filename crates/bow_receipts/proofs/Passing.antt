-- Passes between their calls.
use Rattle.std.proofs.Common.{◌≡◌, ℕ, zero, suc, ◌+◌, ◌<◌, ◌≤◌, ◌++◌, Bool, true, false, List, [], ◌∷◌, length, Some, None, arith, refl, sym, ap, ◌∙◌, subst, inl, inr, length-append}
use Rattle.std.specs.Prelude.{slice_get, slice_index_or, sum}
use mathlib.Core.Option.{some, some-injective, some-ne-none}
use lib.ListN.{get_elem?}
use Rattle.atomic_table.specs.Seated.{TableId}
use Rattle.bow_units.specs.declared.requests.Op.{Op}
use Rattle.bow_tags.specs.declared.view.Entry.{Entry}
use Rattle.bow_tags.specs.declared.view.View.{View as SeatView}
use Rattle.bow_tags.specs.declared.view.Stance.TheVariants.{Idle}
use Rattle.bow_tags.specs.Seats.{Sitting, IsFirstLane, after_post, Numbered}
use Rattle.bow_tags.specs.Steps.{entry, lane_of}
use Rattle.bow_receipts.specs.declared.asks.Answer.{Answer}
use Rattle.bow_receipts.specs.Openings.{all_or_none, may_of}
use Rattle.bow_receipts.specs.Passes.{AreSeats, Caller, IsPass}
use Rattle.bow_receipts.proofs.Lists.{at_within, clash, more_at}
use Rattle.bow_receipts.proofs.Sums.{sum_at}

-- a caller's seat once it has posted an ask, and then once its reply was got
pub called : (table : TableId) (size callers : ℕ) (allowed : ℕ → ℕ) (section : ℕ → ℕ → ℕ) (seat mid new : Sitting Op Answer) (lane made may present : ℕ) → IsPass table size callers allowed section seat lane made may present → made < may
    → (ask : Op) → mid.table ≡ seat.table → mid.view ≡ after_post seat.view ask
    → new.table ≡ mid.table → new.view.size ≡ mid.view.size → (lane_of new.view).stance ≡ Idle → (lane_of new.view).lane ≡ (lane_of mid.view).lane → (lane_of new.view).number ≡ (lane_of mid.view).number + 1
    → (answer : Answer) → ((asked : Op) × (get_elem? (lane_of mid.view).asked (lane_of mid.view).number ≡ some asked) × (new.view.got ≡ mid.view.got ++ entry (lane_of mid.view).lane (lane_of mid.view).number asked answer ∷ []))
    → IsPass table size callers allowed section new lane (made + 1) may present
called table size callers allowed section seat mid new lane made may present h less ask table_mid view_mid table_new size_new idle lane_new number_new answer got =
    let lane_mid : (lane_of mid.view).lane ≡ lane = ap (λ (v : SeatView Op Answer). (lane_of v).lane) view_mid ∙ h.lane_is in
    let number_mid : (lane_of mid.view).number ≡ made = ap (λ (v : SeatView Op Answer). (lane_of v).number) view_mid ∙ h.number_is in
    let got_mid : mid.view.got ≡ seat.view.got = ap (λ (v : SeatView Op Answer). v.got) view_mid in
    let last : Entry Op Answer = entry (lane_of mid.view).lane (lane_of mid.view).number got.0 answer in
    let got_new : new.view.got ≡ seat.view.got ++ entry (lane_of mid.view).lane (lane_of mid.view).number got.0 answer ∷ [] = got.2 ∙ ap (λ (xs : List (Entry Op Answer)). xs ++ entry (lane_of mid.view).lane (lane_of mid.view).number got.0 answer ∷ []) got_mid in
    record {
      table_is = table_new ∙ table_mid ∙ h.table_is;
      size_is = size_new ∙ ap (λ (v : SeatView Op Answer). v.size) view_mid ∙ h.size_is;
      lane_is = lane_new ∙ lane_mid;
      number_is = number_new ∙ ap (λ n. n + 1) number_mid;
      idle = idle;
      inside = h.inside;
      most = h.most;
      within = omega (arith, less);
      few = h.few;
      here = λ n low up. h.here n (omega (arith, low)) up;
      own = record {
        many = ap length got_new ∙ length-append seat.view.got (entry (lane_of mid.view).lane (lane_of mid.view).number got.0 answer ∷ []) ∙ ap (λ n. n + 1) (h.own).many;
        each = λ n x at. elim (more_at seat.view.got (entry (lane_of mid.view).lane (lane_of mid.view).number got.0 answer) x n (subst (λ (xs : List (Entry Op Answer)). slice_get xs n ≡ Some x) got_new at)) [
          | inl before ↦ (h.own).each n x before
          | inr now ↦ (ap (λ (y : Entry Op Answer). y.lane) now.1 ∙ lane_mid, ap (λ (y : Entry Op Answer). y.number) now.1 ∙ number_mid ∙ sym (h.own).many ∙ sym now.0)
        ];
      };
    }

-- the first seat of a caller is that of a pass that may make so many calls of section 0
pub first_pass : (table : TableId) (size callers : ℕ) (allowed : ℕ → ℕ) (section : ℕ → ℕ → ℕ) (calls : List ℕ) (seat : Sitting Op Answer) (lane may : ℕ) → IsFirstLane table 1 size lane seat → lane < length calls → callers ≡ length calls → allowed ≡ may_of calls → sum calls ≤ 65536
    → may ≤ slice_index_or calls lane 0 → ((n : ℕ) → n < may → section lane n ≡ 0) → IsPass table size callers allowed section seat lane 0 may 0
first_pass table size callers allowed section calls seat lane may first inside many allows total most plain = record {
  table_is = first.0;
  size_is = ap (λ (v : SeatView Op Answer). v.size) first.1;
  lane_is = ap (λ (v : SeatView Op Answer). (lane_of v).lane) first.1;
  number_is = ap (λ (v : SeatView Op Answer). (lane_of v).number) first.1;
  idle = ap (λ (v : SeatView Op Answer). (lane_of v).stance) first.1;
  inside = omega (arith, inside, many);
  most = (let is = ap (λ (f : ℕ → ℕ). f lane) allows in omega (arith, is, most));
  within = omega arith;
  few = (let at = sum_at calls lane inside in omega (arith, at, total, most));
  here = λ n low up. plain n up;
  own = record {
    many = ap (λ (v : SeatView Op Answer). length v.got) first.1;
    each = λ n x at. clash None x refl (ap (λ (v : SeatView Op Answer). slice_get v.got n) (sym first.1) ∙ at);
  };
}

pub get_of : {A : Type 0} (xs : List A) (i : ℕ) (x : A) → get_elem? xs i ≡ some x → slice_get xs i ≡ Some x
get_of [] i x at = absurd (some-ne-none x (sym at))
get_of (y ∷ xs) zero x at = ap Some (some-injective y x at)
get_of (y ∷ xs) (suc i) x at = get_of xs i x at

pub elem_of : {A : Type 0} (xs : List A) (i : ℕ) (x : A) → slice_get xs i ≡ Some x → get_elem? xs i ≡ some x
elem_of [] i x at = clash None x refl at
elem_of (y ∷ xs) zero x at = let same : y ≡ x = cc at in ap some same
elem_of (y ∷ xs) (suc i) x at = elem_of xs i x at

-- one seat more, of the next pass
pub seats_more : (table : TableId) (size callers : ℕ) (allowed : ℕ → ℕ) (section : ℕ → ℕ → ℕ) (passes : List Caller) (seats now : List (Sitting Op Answer)) (p : Caller) (s : Sitting Op Answer) → AreSeats table size callers allowed section passes seats
    → now ≡ seats ++ s ∷ [] → (present : ℕ) → IsPass table size callers allowed section s p.lane p.made p.may present → s.view.got ≡ p.got → AreSeats table size callers allowed section (passes ++ p ∷ []) now
seats_more table size callers allowed section passes seats now p s h is present pass got = record {
  many = ap length is ∙ length-append seats (s ∷ []) ∙ ap (λ n. n + 1) h.many ∙ sym (length-append passes (p ∷ []));
  each = λ i q t at_q at_t. elim (more_at passes p q i at_q) [
    | inl before ↦ elim (more_at seats s t i (subst (λ (xs : List (Sitting Op Answer)). slice_get xs i ≡ Some t) is at_t)) [
      | inl old ↦ h.each i q t before old
      | inr new ↦ absurd (let within = at_within passes i q before in let many = h.many in let e = new.0 in omega (arith, within, many, e))
    ]
    | inr last ↦ elim (more_at seats s t i (subst (λ (xs : List (Sitting Op Answer)). slice_get xs i ≡ Some t) is at_t)) [
      | inl old ↦ absurd (let within = at_within seats i t old in let many = h.many in let e = last.0 in omega (arith, within, many, e))
      | inr new ↦ subst (λ (z : Caller). (now_in : ℕ) × IsPass table size callers allowed section t z.lane z.made z.may now_in × (t.view.got ≡ z.got)) (sym last.1)
          (subst (λ (z : Sitting Op Answer). (now_in : ℕ) × IsPass table size callers allowed section z p.lane p.made p.may now_in × (z.view.got ≡ p.got)) (sym new.1) (present, pass, got))
    ]
  ];
}

abbrev SameCaller : Caller → Caller → Type 0
SameCaller p q = p ≡ q

-- it is the pass of its caller before the first call
pub new_pass : (allowed : ℕ → ℕ) (lane n may : ℕ) (got : List (Entry Op Answer)) → lane ≡ n → may ≡ allowed lane → got ≡ []
    → SameCaller (record { lane = lane; made = 0; may = may; got = got }) (record { lane = n; made = 0; may = allowed n; got = [] })
new_pass allowed lane n may got is allows none =
    let made_of : ℕ → ℕ → List (Entry Op Answer) → Caller = λ k m xs. record { lane = k; made = 0; may = m; got = xs } in
    ap (λ k. made_of k may got) is ∙ ap (λ m. made_of n m got) (allows ∙ ap allowed is) ∙ ap (made_of n (allowed n)) none

-- the last of one is the first
pub only_one : {A : Type 0} (xs ys : List A) (x : A) → xs ≡ ys ++ x ∷ [] → length xs ≡ 1 → get_elem? xs 0 ≡ some x
only_one {A} xs [] x is one = ap (λ (zs : List A). get_elem? zs 0) is
only_one xs (y ∷ ys) x is one = absurd (let l = ap length is in let m = length-append (y ∷ ys) (x ∷ []) in omega (arith, l, m, one))

-- all or none are at most all
pub all_at_most : (full : Bool) (n m : ℕ) → m ≡ all_or_none full n → m ≤ n
all_at_most true n m is = omega (arith, is)
all_at_most false n m is = omega (arith, is)

-- where all are to be made at first, they are of section 0
pub plain_at_first : (section : ℕ → ℕ → ℕ) (lane : ℕ) (full : Bool) (n m : ℕ) → m ≡ all_or_none full n → (full ≡ true → (l k : ℕ) → section l k ≡ 0) → (k : ℕ) → k < m → section lane k ≡ 0
plain_at_first section lane true n m is plain k less = plain refl lane k
plain_at_first section lane false n m is plain k less = absurd (omega (arith, is, less))

-- two passes, in their order
pub two_in_order : (xs ys zs : List Caller) (a b : Caller) → xs ≡ [] → ys ≡ xs ++ a ∷ [] → zs ≡ ys ++ b ∷ [] → a.lane ≡ 0 → b.lane ≡ 1 → Numbered (λ i (p : Caller). p.lane ≡ i) zs
two_in_order xs ys zs a b none one two zeroth first i p at =
    let all : zs ≡ a ∷ (b ∷ []) = two ∙ ap (λ (l : List Caller). l ++ b ∷ []) (one ∙ ap (λ (l : List Caller). l ++ a ∷ []) none) in
    by i (ap (λ (l : List Caller). get_elem? l i) (sym all) ∙ at)
  where
    by : (i : ℕ) → get_elem? (a ∷ (b ∷ [])) i ≡ some p → p.lane ≡ i
    by zero here = ap (λ (q : Caller). q.lane) (sym (some-injective a p here)) ∙ zeroth
    by (suc zero) here = ap (λ (q : Caller). q.lane) (sym (some-injective b p here)) ∙ first
    by (suc (suc i)) here = absurd (some-ne-none p (sym here))
