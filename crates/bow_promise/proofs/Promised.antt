-- What is promised of cuts.
use Rattle.std.proofs.Common.{◌≡◌, inl, inr, ℕ, zero, suc, ◌<◌, ◌≤◌, Bool, true, not, List, [], ◌∷◌, take, drop, Option, Some, arith, refl, sym, ap, ◌∙◌, subst}
use Rattle.std.specs.Prelude.{slice_get}
use Rattle.std.proofs.lemmas.List.{take-take}
use Rattle.bow_units.specs.declared.requests.Op.{Op}
use Rattle.bow_units.specs.declared.requests.Op.TheVariants as ops
use Rattle.bow_units.specs.declared.requests.Outcome.TheVariants.{Done}
use Rattle.bow_units.specs.declared.requests.Phase.{Phase}
use Rattle.bow_units.specs.declared.requests.Phase.TheVariants.{Trim, Arming, Checkpoint, Deciding, Committed}
use Rattle.bow_units.specs.declared.sizes.Geometry.{Geometry}
use Rattle.bow_units.specs.Sizes.{IsValid}
use Rattle.bow_disk.specs.Disk.{IsImage}
use Rattle.bow_chain.specs.Contents.{contents_of}
use Rattle.bow_flat.specs.Flat.{Flat, Event, May, is_any, after, opening}
use Rattle.bow_flat.specs.Flat.Event.{Arms, Prepares}
use Rattle.bow_flat.specs.Valid.{IsState}
use Rattle.bow_flat.proofs.Valid.{opening_valid}
use Rattle.bow_guard.specs.Standing.{Shows, StandsInPhase, HasCheckpointIn}
use Rattle.bow_restore.specs.Rewinds.{Reruns}
use Rattle.bow_restore.proofs.Backs.{plain_unsound}
use Rattle.bow_restore.proofs.Proved.{reruns_pass_on}
use Rattle.bow_return.specs.Laws.{ComesBack}
use Rattle.bow_return.proofs.Back.{held_from_the_checkpoint}
use Rattle.bow_history.specs.declared.items.Item.{Item}
use Rattle.bow_history.specs.declared.items.Item.TheVariants.{Answered}
use Rattle.bow_history.specs.Journal.{Place, Legal, ItemStep, Row, PrepareRow, CommitRow, beginning}
use Rattle.bow_history.proofs.Lists.{one_of}
use Rattle.bow_promise.specs.Cutting.{Play, IsCutOf, IsPast, IsShown, EndsAs}
use Rattle.bow_promise.specs.Promises.{CutsEndWell, CheckpointsStay, CommitsStay}
use Rattle.bow_promise.proofs.Ways.{StaysPast, Through, keeps_valid, keeps_past, keeps_committed, legal_happens, midway_happens, through}

-- ----------------------------------------------------------------------------------------------------------------
-- The images.

module _ (g : Geometry) (valid : IsValid g) (f : Flat) (state : IsState f) (first last : List (List ℕ)) (between : List (List (List ℕ)))
    (whole : IsImage g.block_size g.blocks first) (runs : Reruns g first between last) where
  -- a plain image is no chain of logs, and restorations leave it
  shown : (known : ℕ → Option (List (List ℕ))) → Shows g known (contents_of first) → IsShown g known first last
  shown known shows =
      let unsound = plain_unsound g valid first whole shows.plain in
      record { same = (reruns_pass_on g first last between valid whole (λ log older sound. absurd (unsound log older sound)) runs).unsound unsound; shows = shows }

  pub back : HasCheckpointIn g f.phase f (contents_of first) → ComesBack g f (contents_of last)
  back has = held_from_the_checkpoint g f first last between valid whole state has runs

  ends_as : (phase : Phase) → f.phase ≡ phase → StandsInPhase g phase f (contents_of first) → EndsAs g phase f first last
  ends_as Trim is stands = shown f.pending stands
  ends_as Arming is stands = back (subst (λ x. HasCheckpointIn g x f (contents_of first)) (sym is) stands)
  ends_as Checkpoint is stands = back (subst (λ x. HasCheckpointIn g x f (contents_of first)) (sym is) stands)
  ends_as Deciding is (inl keeps) = inl (back (subst (λ x. HasCheckpointIn g x f (contents_of first)) (sym is) keeps))
  ends_as Deciding is (inr shows) = inr (shown f.current shows)
  ends_as Committed is stands = shown f.pending stands

-- ----------------------------------------------------------------------------------------------------------------
-- The play.

-- an item in a front of a list
in_front : {A : Type 0} (xs : List A) (i n : ℕ) → i < n → slice_get (take n xs) i ≡ slice_get xs i
in_front [] i zero below = absurd (omega (arith, below))
in_front [] i (suc n) below = refl
in_front (x ∷ xs) i zero below = absurd (omega (arith, below))
in_front (x ∷ xs) zero (suc n) below = refl
in_front (x ∷ xs) (suc i) (suc n) below = in_front xs i n (omega (arith, below))

-- of an event of which nothing is asked
abbrev AnyEvent : Event → Type 0
AnyEvent event = Unit {0}

block_size_4 : (g : Geometry) → IsValid g → 4 ≤ g.block_size
block_size_4 g valid = grind (arith, valid.size)

module _ (p : Play) (n : ℕ) (first : List (List ℕ)) (k : IsCutOf p n first) where
  pub enough : 4 ≤ p.plan.sizes.block_size
  enough = block_size_4 p.plan.sizes k.sizes

  -- each state on the way is valid
  place_valid : (items : List Item) (q : Place) → Legal p.plan p.read items (beginning (opening p.image)) q → IsState q.flat
  place_valid items q legal =
      let happens = legal_happens p.plan enough AnyEvent p.read items (beginning (opening p.image)) q (λ i item here event of. tt) legal in
      keeps_valid p.plan.sizes.blocks AnyEvent happens.0 (opening p.image) q.flat happens.1 (opening_valid p.image k.plain)

  pub flat_valid : IsState k.way.flat
  flat_valid =
      let happens = midway_happens p.plan enough AnyEvent (λ saved. tt) tt k.way.place k.way.flat k.way.midway in
      keeps_valid p.plan.sizes.blocks AnyEvent happens.0 k.way.place.flat k.way.flat happens.1 (place_valid (take k.way.front p.journal) k.way.place k.way.before)

  module _ (i : ℕ) (has : suc i ≤ n) where
    -- the way to the item, and on to the place
    pub at : (item : Item) → slice_get p.journal i ≡ Some item → Through p.plan enough p.read (take k.way.front p.journal) i item (beginning (opening p.image)) k.way.place
    at item here = through p.plan enough p.read (take k.way.front p.journal) i item (beginning (opening p.image)) k.way.place k.way.before
        (in_front p.journal i k.way.front (omega (arith, has, k.way.has)) ∙ here)

    -- the place before the item is on the journal's way
    pub way : (item : Item) (here : slice_get p.journal i ≡ Some item) → Legal p.plan p.read (take i p.journal) (beginning (opening p.image)) (at item here).before
    way item here = subst (λ items. Legal p.plan p.read items (beginning (opening p.image)) (at item here).before) (take-take i k.way.front p.journal (omega (arith, has, k.way.has))) (at item here).way

    -- what holds of the state right behind the item holds further on, by any events
    past_behind : (item : Item) (here : slice_get p.journal i ≡ Some item) → IsPast (at item here).behind.flat.phase → StaysPast (at item here).behind.flat k.way.flat
    past_behind item here past =
        let t = at item here in
        let on = legal_happens p.plan enough AnyEvent p.read (drop (suc i) (take k.way.front p.journal)) t.behind k.way.place (λ j item here event of. tt) t.rest in
        let more = midway_happens p.plan enough AnyEvent (λ saved. tt) tt k.way.place k.way.flat k.way.midway in
        let one = keeps_past p.plan.sizes.blocks AnyEvent on.0 t.behind.flat k.way.place.flat on.1 past in
        let two = keeps_past p.plan.sizes.blocks AnyEvent more.0 k.way.place.flat k.way.flat more.1 one.past in
        record { past = two.past; used = two.used ∙ one.used; saved = two.saved ∙ one.saved }

    pub committed_behind : (item : Item) (here : slice_get p.journal i ≡ Some item) → (at item here).behind.flat.phase ≡ Committed → k.way.flat.phase ≡ Committed
    committed_behind item here done =
        let t = at item here in
        let on = legal_happens p.plan enough AnyEvent p.read (drop (suc i) (take k.way.front p.journal)) t.behind k.way.place (λ j item here event of. tt) t.rest in
        let more = midway_happens p.plan enough AnyEvent (λ saved. tt) tt k.way.place k.way.flat k.way.midway in
        keeps_committed p.plan.sizes.blocks AnyEvent more.0 k.way.place.flat k.way.flat more.1 (keeps_committed p.plan.sizes.blocks AnyEvent on.0 t.behind.flat k.way.place.flat on.1 done)

-- the row of an answer to a request that is known
pub row_of : (p : Play) (lane number : ℕ) (op : Op) (before behind : Place) → p.plan.request lane number ≡ Some op → ItemStep p.plan p.read (Answered lane number Done) before behind
    → Row p.plan before op Done (before.done lane) behind.flat
row_of p lane number op before behind asked (is, other, next, flat, row, to) =
    let same : other ≡ op = one_of (p.plan.request lane number) other op next asked in
    subst (λ (x : Place). Row p.plan before op Done (before.done lane) x.flat) (sym to) (subst (λ o. Row p.plan before o Done (before.done lane) flat) same row)

-- what a prepare's Done took
record Takes (n : ℕ) (f h : Flat) : Type 0 where
  past : IsPast h.phase
  used : (b : ℕ) → h.used b ≡ not (is_any (f.current b))
  saved : (b : ℕ) → b < n → h.used b ≡ true → May (f.current b) (h.saved b)

prepared : (p : Play) (before : Place) (h : Flat) → IsState before.flat → PrepareRow p.plan before Done h → Takes p.plan.sizes.blocks before.flat h
prepared p before h state (inl (saved, (mid, arms, prepares))) =
    let n = p.plan.sizes.blocks in
    let is : h ≡ after n Prepares (after n (Arms saved) before.flat) = prepares.1 ∙ ap (after n Prepares) arms.1 in
    subst (Takes n before.flat) (sym is) (record { past = tt; used = λ b. refl; saved = λ b below in_use. (arms.0).2 b below })
prepared p before h state (inr prepares) =
    let n = p.plan.sizes.blocks in
    subst (Takes n before.flat) (sym prepares.1) (record {
      past = tt;
      used = state.arming_used prepares.0;
      saved = λ b below in_use. subst (λ c. May c (before.flat.saved b)) (sym (state.arming_saved prepares.0 b in_use)) (0, omega arith, refl);
    })

pub committed : (p : Play) (before : Place) (h : Flat) → CommitRow p.plan before Done h → h.phase ≡ Committed
committed p before h (inl (mid, decides, commits)) = ap (λ (x : Flat). x.phase) commits.1
committed p before h (inr (phase, (mid, flushes, commits))) = ap (λ (x : Flat). x.phase) commits.1

-- ----------------------------------------------------------------------------------------------------------------

pub cuts_end_well : CutsEndWell
cuts_end_well p n first last between k runs =
    ends_as p.plan.sizes k.sizes k.way.flat (flat_valid p n first k) first last between k.whole runs k.way.flat.phase refl k.way.stands

pub checkpoints_stay : CheckpointsStay
checkpoints_stay p i first (lane, number, here, asked) k =
    let t = at p (suc i) first k i (omega arith) (Answered lane number Done) here in
    let on_way = way p (suc i) first k i (omega arith) (Answered lane number Done) here in
    let took = prepared p t.before t.behind.flat (place_valid p (suc i) first k (take i p.journal) t.before on_way) (row_of p lane number ops.Prepare t.before t.behind asked t.step) in
    let stays = past_behind p (suc i) first k i (omega arith) (Answered lane number Done) here took.past in (
      stays.past,
      record {
        then = t.before;
        way = on_way;
        used = λ b. ap (λ (u : ℕ → Bool). u b) stays.used ∙ took.used b;
        saved = λ b below in_use. subst (λ (s : ℕ → List ℕ). May (t.before.flat.current b) (s b)) (sym stays.saved) (took.saved b below (ap (λ (u : ℕ → Bool). u b) (sym stays.used) ∙ in_use));
      },
    )

pub commits_stay : CommitsStay
commits_stay p i first last between (lane, number, here, asked) k runs =
    let t = at p (suc i) first k i (omega arith) (Answered lane number Done) here in
    let done = committed p t.before t.behind.flat (row_of p lane number ops.Commit t.before t.behind asked t.step) in
    let phase = committed_behind p (suc i) first k i (omega arith) (Answered lane number Done) here done in
    (phase, subst (λ x. EndsAs p.plan.sizes x k.way.flat first last) phase (cuts_end_well p (suc i) first last between k runs))
