-- Workers that may begin.
use Rattle.std.proofs.Common.{◌≡◌, ap, arith, ℕ, ◌+◌, ◌≤◌, List, [], ◌∷◌, ◌++◌, length, length-append}
use Rattle.atomic_table.specs.Seated.{TableId}
use Rattle.bow_units.specs.declared.requests.Outcome.{Outcome}
use Rattle.bow_status.specs.Rising.{IsFirstWatcher, Watching}
use Rattle.bow_tags.specs.declared.view.View.{View}
use Rattle.bow_tags.specs.Seats.{Sitting, IsFirstLane}
use Rattle.bow_tags.specs.Steps.{lane_of}
use Rattle.bow_shared.specs.declared.workers.Worker.TheVariants.{Lane}
use Rattle.bow_shared.specs.Works.{MayBegin}

-- a lane may, with its first seat and a fresh watcher
pub lane_begins : (tags cell : TableId) (servers i : ℕ) (seat : Sitting (Unit {0}) Outcome) (watcher : Watching)
    (lane requests : ℕ) → IsFirstLane tags servers 0 i seat → IsFirstWatcher cell watcher
    → MayBegin tags cell (Lane seat watcher lane requests)
lane_begins tags cell servers i seat watcher lane requests first fresh = (
  first.0,
  fresh.0,
  ap (λ (v : View (Unit {0}) Outcome). (lane_of v).stance) first.1,
  ap (λ (v : View (Unit {0}) Outcome). (lane_of v).number) first.1,
)

-- two lists of one length, the first without its last and the second without its first, are of one length
pub shorter : {A B : Type 0} (ws us : List A) (w : A) (xs ys : List B) (x : B) → ws ≡ us ++ w ∷ [] → xs ≡ x ∷ ys
    → length ws ≡ length xs → length us ≡ length ys
shorter {A = A} {B = B} ws us w xs ys x a b e =
    let p : length ws ≡ length (us ++ w ∷ []) = ap (λ (l : List A). length l) a in
    let q : length xs ≡ length (x ∷ ys) = ap (λ (l : List B). length l) b in
    let l = length-append us (w ∷ []) in omega arith

-- a list one longer, and one shorter, have together as many as before
pub one_over : {A : Type 0} (done xs ys : List A) (x : A) → xs ≡ x ∷ ys → length done + length xs ≤ 16
    → length (done ++ x ∷ []) + length ys ≤ 16
one_over {A = A} done xs ys x b few =
    let q : length xs ≡ length (x ∷ ys) = ap (λ (l : List A). length l) b in
    let l = length-append done (x ∷ []) in omega arith

-- what is one longer stays as long as what is one longer
pub as_long : {A B : Type 0} (done : List A) (x : A) (ws us : List B) (w : B) → us ≡ ws ++ w ∷ []
    → length ws ≡ length done → length us ≡ length (done ++ x ∷ [])
as_long {A = A} {B = B} done x ws us w a e =
    let p : length us ≡ length (ws ++ w ∷ []) = ap (λ (l : List B). length l) a in
    let l = length-append done (x ∷ []) in
    let m = length-append ws (w ∷ []) in omega arith
