-- What is told of the calls of a script's callers.
use Rattle.std.proofs.Common.{◌≡◌, ◌⊎◌, inl, inr, ℕ, zero, suc, ◌+◌, ◌%◌, ◌<◌, ◌≤◌, ◌==◌, Bool, true, false, cond, List, [], ◌∷◌, ◌++◌, length, map, filter, take, drop, Option, Some, None, arith, refl, sym, ap, ◌∙◌, subst, append_assoc, append-nil, eq-eqb}
use Rattle.std.specs.Prelude.{slice_get}
use Rattle.std.specs.List.{flat_map}
use Rattle.std.specs.Option.{option_map}
use Rattle.std.proofs.lemmas.Grind.{flat_map-append}
use Rattle.std.proofs.lemmas.List.{flat_map_more, map-append, take_more}
use Rattle.std.proofs.lemmas.List.Elements.{filter-append}
use Rattle.std.proofs.lemmas.Option.{get_or_from_slice_get, slice_get-get_or, slice_get-map}
use Rattle.std.proofs.lemmas.Bool.{cases_lt, eqb-true}
use Rattle.std.proofs.Math.Nat.{mul-mod_left}
use Rattle.bow_units.specs.declared.requests.Op.{Op}
use Rattle.bow_units.specs.declared.sizes.Geometry.{Geometry}
use Rattle.bow_session.specs.Contents.{block_read, content_in}
use Rattle.bow_history.specs.declared.items.Item.TheVariants.{Got}
use Rattle.bow_tags.specs.declared.view.Entry.{Entry}
use Rattle.bow_receipts.specs.declared.asks.Answer.{Answer}
use Rattle.bow_receipts.specs.declared.asks.Call.{Call}
use Rattle.bow_receipts.specs.Asking.{given_of}
use Rattle.bow_receipts.specs.Closing.{entries_of, plan_by}
use Rattle.bow_receipts.specs.Copies.{blocks_read}
use Rattle.bow_receipts.specs.Served.{HaveBlocksRead, entry_of}
use Rattle.bow_receipts.proofs.Lists.{at_within, clash, filter_at, one_of}
use Rattle.bow_promise.proofs.Flushed.{get_drop, get_take}
use Rattle.bow_tool.specs.CallLines.{AreNumbered, IsCallIn, bytes_by, bytes_in, receipt_line}
use Rattle.bow_tool.specs.Callers.{HasCommitted, IsCommitCall}

-- ----------------------------------------------------------------------------------------------------------------
-- One element more.

pub front_more : {A : Type 0} (xs : List A) (i : ℕ) (x : A) → slice_get xs i ≡ Some x → take (i + 1) xs ≡ take i xs ++ x ∷ []
front_more xs i x at = take_more xs i x (at_within xs i x at) ∙ ap (λ y. take i xs ++ y ∷ []) (get_or_from_slice_get xs i x x at)

-- what is told of one item more
pub told_next : {A : Type 0} (f : A → List ℕ) (before text now : List ℕ) (items : List A) (i : ℕ) (item : A) → slice_get items i ≡ Some item
    → text ≡ before ++ flat_map f (take i items) → now ≡ text ++ f item → now ≡ before ++ flat_map f (take (i + 1) items)
told_next f before text now items i item at so_far more =
    more ∙ ap (λ t. t ++ f item) so_far ∙ flat_map_more f before (take i items) item ∙ ap (λ xs. before ++ flat_map f xs) (sym (front_more items i item at))

-- the receipts of a lane, with one call more
pub receipts_next : (lane : ℕ) (before text now : List ℕ) (calls : List Call) (i : ℕ) (call : Call) → slice_get calls i ≡ Some call
    → text ≡ before ++ flat_map receipt_line (given_of lane (entries_of (take i calls))) → now ≡ text ++ flat_map receipt_line (given_of lane (entry_of call ∷ []))
    → now ≡ before ++ flat_map receipt_line (given_of lane (entries_of (take (i + 1) calls)))
receipts_next lane before text now calls i call at so_far more =
    let some : List (Entry Op Answer) = given_of lane (entries_of (take i calls)) in
    let last : List (Entry Op Answer) = given_of lane (entry_of call ∷ []) in
    let all : given_of lane (entries_of (take (i + 1) calls)) ≡ some ++ last =
    ap (λ (xs : List Call). given_of lane (entries_of xs)) (front_more calls i call at) ∙ ap (given_of lane) (map-append entry_of (take i calls) (call ∷ []))
    ∙ filter-append (λ (x : Entry Op Answer). x.lane == lane) (entries_of (take i calls)) (entry_of call ∷ []) in
    more ∙ ap (λ t. t ++ flat_map receipt_line last) so_far ∙ append_assoc before (flat_map receipt_line some) (flat_map receipt_line last)
    ∙ ap (λ t. before ++ t) (sym (flat_map-append receipt_line some last)) ∙ ap (λ xs. before ++ flat_map receipt_line xs) (sym all)

-- what is told of one more, where all are told in turn
pub turn_next : (all one : ℕ → List ℕ) → ((k : ℕ) → all (suc k) ≡ all k ++ one k) → (before text now : List ℕ) (k : ℕ) → text ≡ before ++ all k → now ≡ text ++ one k → now ≡ before ++ all (k + 1)
turn_next all one step before text now k so_far more =
    more ∙ ap (λ t. t ++ one k) so_far ∙ append_assoc before (all k) (one k) ∙ ap (λ t. before ++ t) (sym (step k))
    ∙ ap (λ n. before ++ all n) (let e : suc k ≡ k + 1 = omega arith in e)

-- the receipt of a call, where it is of the lane
pub of_lane : (lane : ℕ) (call : Call) → call.lane ≡ lane → given_of lane (entry_of call ∷ []) ≡ entry_of call ∷ []
of_lane lane call is = ap (λ b. cond b (entry_of call ∷ []) []) (eq-eqb call.lane lane is)

pub not_of_lane : (lane : ℕ) (call : Call) → (call.lane ≡ lane → ⊥) → given_of lane (entry_of call ∷ []) ≡ []
not_of_lane lane call apart = by (call.lane == lane) refl
  where
    by : (b : Bool) → (call.lane == lane) ≡ b → cond b (entry_of call ∷ []) [] ≡ []
    by true is = absurd (apart (eqb-true call.lane lane is))
    by false is = refl

-- ----------------------------------------------------------------------------------------------------------------
-- The call of a request.

-- what a test keeps stands in the list, and passes it
kept_with : {A : Type 0} (p : A → Bool) (xs : List A) (n : ℕ) (x : A) → slice_get (filter p xs) n ≡ Some x → (i : ℕ) × (slice_get xs i ≡ Some x) × (p x ≡ true)
kept_with p [] n x at = clash None x refl at
kept_with {A} p (y ∷ xs) n x at = by (p y) refl n at (kept_with p xs)
  where
    by : (b : Bool) → p y ≡ b → (n : ℕ) → slice_get (cond b (y ∷ filter p xs) (filter p xs)) n ≡ Some x → ((n : ℕ) (x : A) → slice_get (filter p xs) n ≡ Some x → (i : ℕ) × (slice_get xs i ≡ Some x) × (p x ≡ true)) → (i : ℕ) × (slice_get (y ∷ xs) i ≡ Some x) × (p x ≡ true)
    by true is zero at later = (0, at, (let same : y ≡ x = cc at in ap p (sym same) ∙ is))
    by true is (suc n) at later = let r = later n x at in (suc r.0, r.1, r.2)
    by false is n at later = let r = later n x at in (suc r.0, r.1, r.2)

-- a call that is among these is the one of its lane with its number
pub call_found : (calls : List Call) (lane number : ℕ) (call : Call) → AreNumbered (entries_of calls) → IsCallIn calls lane number call → slice_get (given_of lane (entries_of calls)) number ≡ Some (entry_of call)
call_found calls lane number call numbers is =
    let there : slice_get (entries_of calls) is.at ≡ Some (entry_of call) = slice_get-map entry_of calls is.at ∙ ap (option_map entry_of) is.here in
    let kept = filter_at (λ (x : Entry Op Answer). x.lane == lane) (entries_of calls) is.at (entry_of call) there (eq-eqb call.lane lane is.lane_is) in
    let place : number ≡ kept.0 = sym is.number_is ∙ numbers lane kept.0 (entry_of call) kept.1 in
    ap (slice_get (given_of lane (entries_of calls))) place ∙ kept.1

unmap : (xs : List Call) (i : ℕ) (x : Entry Op Answer) → slice_get (map entry_of xs) i ≡ Some x → (call : Call) × (slice_get xs i ≡ Some call) × (entry_of call ≡ x)
unmap [] i x at = clash None x refl at
unmap (call ∷ xs) zero x at = let same : entry_of call ≡ x = cc at in (call, refl, same)
unmap (call ∷ xs) (suc i) x at = unmap xs i x at

-- and where none is, there is none
pub call_missed : (calls : List Call) (lane number : ℕ) → AreNumbered (entries_of calls) → ((call : Call) → IsCallIn calls lane number call → ⊥) → slice_get (given_of lane (entries_of calls)) number ≡ None
call_missed calls lane number numbers none = by (slice_get (given_of lane (entries_of calls)) number) refl
  where
    by : (o : Option (Entry Op Answer)) → slice_get (given_of lane (entries_of calls)) number ≡ o → o ≡ None
    by None is = refl
    by (Some x) is = absurd (
        let kept = kept_with (λ (y : Entry Op Answer). y.lane == lane) (entries_of calls) number x is in
        let found = unmap calls kept.0 x kept.1 in
        let lane_is : (found.0).lane ≡ lane = ap (λ (y : Entry Op Answer). y.lane) found.2 ∙ eqb-true x.lane lane kept.2 in
        let number_is : (found.0).number ≡ number = ap (λ (y : Entry Op Answer). y.number) found.2 ∙ numbers lane number x is in
        none found.0 (record { at = kept.0; here = found.1; lane_is = lane_is; number_is = number_is }))

-- what was asked is what the call asked
asked_there : (calls : List (Entry Op Answer)) (lane number : ℕ) → slice_get (map (λ (y : Entry Op Answer). y.ask) (given_of lane calls) ++ []) number ≡ option_map (λ (y : Entry Op Answer). y.ask) (slice_get (given_of lane calls) number)
asked_there calls lane number = ap (λ (xs : List Op). slice_get xs number) (append-nil (map (λ (y : Entry Op Answer). y.ask) (given_of lane calls))) ∙ slice_get-map (λ (y : Entry Op Answer). y.ask) (given_of lane calls) number

-- a call in a part is among all
pub in_front : (calls : List Call) (n lane number : ℕ) (call : Call) → IsCallIn (take n calls) lane number call → IsCallIn calls lane number call
in_front calls n lane number call is = record { at = is.at; here = (get_take calls n is.at call is.here).1; lane_is = is.lane_is; number_is = is.number_is }

pub in_rest : (calls : List Call) (n lane number : ℕ) (call : Call) → IsCallIn (drop n calls) lane number call → IsCallIn calls lane number call
in_rest calls n lane number call is = record { at = n + is.at; here = get_drop calls n is.at call is.here; lane_is = is.lane_is; number_is = is.number_is }

-- what stands in a list stands in its front or in the rest
split_get : {A : Type 0} (xs : List A) (n i : ℕ) (x : A) → slice_get xs i ≡ Some x → ((j : ℕ) × (slice_get (take n xs) j ≡ Some x)) ⊎ ((j : ℕ) × (slice_get (drop n xs) j ≡ Some x))
split_get xs zero i x at = inr (i, at)
split_get [] (suc n) i x at = clash None x refl at
split_get (y ∷ xs) (suc n) zero x at = inl (0, at)
split_get (y ∷ xs) (suc n) (suc i) x at = elim (split_get xs n i x at) [ inl front ↦ inl (suc front.0, front.1) | inr rest ↦ inr rest ]

-- the call that is found in the front, where none is in the rest
pub call_in_front : (calls : List Call) (n lane number : ℕ) (r : Option Call) → AreNumbered (entries_of calls) → ((call : Call) → r ≡ Some call → IsCallIn (take n calls) lane number call)
    → (r ≡ None → (call : Call) → IsCallIn (take n calls) lane number call → ⊥) → ((call : Call) → IsCallIn (drop n calls) lane number call → ⊥)
    → option_map entry_of r ≡ slice_get (given_of lane (entries_of calls)) number
call_in_front calls n lane number (Some call) numbers found none rest = sym (call_found calls lane number call numbers (in_front calls n lane number call (found call refl)))
call_in_front calls n lane number None numbers found none rest = sym (call_missed calls lane number numbers (λ call is. elim (split_get calls n is.at call is.here) [
  | inl there ↦ none refl call (record { at = there.0; here = there.1; lane_is = is.lane_is; number_is = is.number_is })
  | inr there ↦ rest call (record { at = there.0; here = there.1; lane_is = is.lane_is; number_is = is.number_is })
]))

-- it was given whole blocks
pub whole_blocks : (size : ℕ) (calls : List (Entry Op Answer)) (lane number : ℕ) (x : Entry Op Answer) → HaveBlocksRead size calls → slice_get (given_of lane calls) number ≡ Some x → length x.answer.bytes % size ≡ 0
whole_blocks size calls lane number x blocks at =
    let kept = kept_with (λ (y : Entry Op Answer). y.lane == lane) calls number x at in
    ap (λ n. n % size) (blocks kept.0 x kept.1) ∙ mul-mod_left (blocks_read x.ask x.answer.outcome) size

-- what an item of a read has read, by its call
pub content_found : (g : Geometry) (callers : ℕ) (calls : List (Entry Op Answer)) (lane number b : ℕ) (x : Entry Op Answer) → slice_get (given_of lane calls) number ≡ Some x
    → content_in (plan_by g callers calls) (bytes_by calls) (Got lane number b) ≡ block_read g.block_size (Some x.ask) x.answer.bytes b
content_found g callers calls lane number b x at =
    ap (λ o. block_read g.block_size o (bytes_by calls lane number) b) (asked_there calls lane number ∙ ap (option_map (λ (y : Entry Op Answer). y.ask)) at)
    ∙ ap (λ (o : Option (Entry Op Answer)). block_read g.block_size (Some x.ask) (bytes_in o) b) at

-- and where there is none
pub content_missed : (g : Geometry) (callers : ℕ) (calls : List (Entry Op Answer)) (lane number b : ℕ) → slice_get (given_of lane calls) number ≡ None → content_in (plan_by g callers calls) (bytes_by calls) (Got lane number b) ≡ []
content_missed g callers calls lane number b none =
    ap (λ o. block_read g.block_size o (bytes_by calls lane number) b) (asked_there calls lane number ∙ ap (option_map (λ (y : Entry Op Answer). y.ask)) none)

-- ----------------------------------------------------------------------------------------------------------------
-- A commit among the calls.

pub has_commit : (calls : List Call) (i : ℕ) (call : Call) → slice_get calls i ≡ Some call → IsCommitCall (entry_of call) → HasCommitted (entries_of calls)
has_commit calls i call at is =
    let there : slice_get (entries_of calls) i ≡ Some (entry_of call) = slice_get-map entry_of calls i ∙ ap (option_map entry_of) at in
    (entry_of call, (i, at_within (entries_of calls) i (entry_of call) there, get_or_from_slice_get (entries_of calls) i (entry_of call) (entry_of call) there), is)

pub not_both : (b : Bool) → b ≡ true → b ≡ false → ⊥
not_both b is not_it = let e : true ≡ false = sym is ∙ not_it in grind arith

-- none of the first calls, and not the next
pub none_next : (calls : List Call) (i : ℕ) (item : Call) → slice_get calls i ≡ Some item → (IsCommitCall (entry_of item) → ⊥) → ((k : ℕ) (call : Call) → k < i → slice_get calls k ≡ Some call → IsCommitCall (entry_of call) → ⊥)
    → (k : ℕ) (call : Call) → k < i + 1 → slice_get calls k ≡ Some call → IsCommitCall (entry_of call) → ⊥
none_next calls i item here other before k call less at is = elim (cases_lt k i) [
  | inl low ↦ before k call low at is
  | inr past ↦
      let same : k ≡ i = omega (arith, less, past) in
      let one : item ≡ call = one_of (slice_get calls i) item call here (ap (slice_get calls) (sym same) ∙ at) in
      other (subst (λ (z : Call). IsCommitCall (entry_of z)) (sym one) is)
]

pub no_commit : (calls : List Call) (n : ℕ) → ((k : ℕ) (call : Call) → k < n → slice_get calls k ≡ Some call → IsCommitCall (entry_of call) → ⊥) → length calls ≤ n → HasCommitted (entries_of calls) → ⊥
no_commit calls n none all has =
    let x = has.0 in
    let k = has.1.0 in
    let there : slice_get (entries_of calls) k ≡ Some x = slice_get-get_or (entries_of calls) k x has.1.1 ∙ ap (λ y. Some y) has.1.2 in
    let found = unmap calls k x there in
    let inside = at_within calls k found.0 found.1 in
    none k found.0 (omega (arith, inside, all)) found.1 (subst IsCommitCall (sym found.2) has.2)
