-- What was flushed and not changed since is left as it might have been read then.
use Rattle.std.proofs.Common.{◌≡◌, ◌≢◌, ◌⊎◌, inl, inr, ℕ, zero, suc, ◌+◌, ◌<◌, Bool, true, false, if◌then◌else◌, List, [], ◌∷◌, take, drop, Option, Some, None, arith, refl, sym, ap, ◌∙◌, subst}
use Rattle.std.specs.Prelude.{slice_get, Contains}
use Rattle.std.proofs.lemmas.Bool.{cases_eq}
use Rattle.std.proofs.lemmas.List.Elements.{Contains-push_cases}
use Rattle.bow_units.specs.declared.requests.Op.TheVariants as ops
use Rattle.bow_units.specs.declared.requests.Outcome.TheVariants.{Done}
use Rattle.bow_units.specs.declared.requests.Phase.{Phase}
use Rattle.bow_units.specs.declared.requests.Phase.TheVariants.{Trim, Arming, Checkpoint, Deciding, Committed}
use Rattle.bow_units.specs.declared.sizes.Geometry.{Geometry}
use Rattle.bow_units.specs.Magics.{IsPlain}
use Rattle.bow_units.specs.Sizes.{IsValid}
use Rattle.bow_disk.specs.Disk.{IsImage}
use Rattle.bow_chain.specs.Contents.{contents_of}
use Rattle.bow_chain.specs.Kept.{Keeps}
use Rattle.bow_flat.specs.Flat.{Flat, Event, May, narrowed, put, after, discards, Allows, opening}
use Rattle.bow_flat.specs.Flat.Event.{Writes, Fails, Reads, Discards, Flushes, Arms, Prepares, Decides, Commits, Rests}
use Rattle.bow_guard.specs.Standing.{StandsInPhase}
use Rattle.bow_machine.proofs.MappedWrites.{put_here, put_there}
use Rattle.bow_restore.proofs.Backs.{plain_unsound}
use Rattle.bow_history.specs.declared.items.Item.{Item}
use Rattle.bow_history.specs.declared.items.Item.TheVariants.{Answered}
use Rattle.bow_history.specs.Journal.{Plan, Buffers, Place, Legal, ItemStep, FlushRow, CommitRow, beginning}
use Rattle.bow_promise.specs.Cutting.{Play, IsCutOf, IsDoneAt}
use Rattle.bow_promise.specs.Flushing.{Changes, IsUnchanged, IsAsBehind}
use Rattle.bow_promise.proofs.Promised.{enough, at, way, row_of}
use Rattle.bow_promise.proofs.Ways.{Happen, IsOf, AllFit, legal_happens, midway_happens}

-- ----------------------------------------------------------------------------------------------------------------
-- One block, by events that leave it alone.

-- the event does not change the block
abbrev Spares : ℕ → Event → Type 0
Spares b (Writes x v) = b ≢ x
Spares b (Fails x v) = b ≢ x
Spares b (Discards e) = discards e b ≡ false
Spares b (Reads x v) = Unit {0}
Spares b Flushes = Unit {0}
Spares b (Arms saved) = Unit {0}
Spares b Prepares = Unit {0}
Spares b Decides = Unit {0}
Spares b Commits = Unit {0}
Spares b Rests = Unit {0}

-- whatever is known of one may also be what is known of the other
abbrev IsAmong : Option (List (List ℕ)) → Option (List (List ℕ)) → Type 0
IsAmong one other = (v : List ℕ) → May one v → May other v

-- what the block may be read as, and what a cut may leave of it, are among these
record IsReadable (known : Option (List (List ℕ))) (b : ℕ) (f : Flat) : Type 0 where
  current : IsAmong (f.current b) known
  pending : IsAmong (f.pending b) known

narrowed_among : (c : Option (List (List ℕ))) (v : List ℕ) → May c v → IsAmong (narrowed c v) c
narrowed_among None v may w one = tt
narrowed_among (Some cs) v may w one = elim (Contains-push_cases [] v w one) [
  | inl none ↦ absurd (omega (arith, none.1))
  | inr same ↦ subst (Contains cs) same may
]

among_put : (known : Option (List (List ℕ))) (c : ℕ → Option (List (List ℕ))) (x b : ℕ) (v : Option (List (List ℕ))) → b ≢ x → IsAmong (c b) known → IsAmong (put c x v b) known
among_put known c x b v ne k = subst (λ o. IsAmong o known) (sym (put_there c x v b ne)) k

module _ (known : Option (List (List ℕ))) (n b : ℕ) (below : b < n) where
  event_readable : (event : Event) (f : Flat) → Allows n event f → Spares b event → IsReadable known b f → IsReadable known b (after n event f)
  event_readable (Writes x v) f may ne k = record { current = among_put known f.current x b _ ne k.current; pending = among_put known f.pending x b _ ne k.pending }
  event_readable (Fails x v) f may ne k = record { current = among_put known f.current x b _ ne k.current; pending = among_put known f.pending x b _ ne k.pending }
  event_readable (Reads x v) f may spare k = record {
    current = elim (cases_eq b x) [
      | inl is ↦ λ w one. k.current w (subst (λ y. May (f.current y) w) (sym is) (narrowed_among (f.current x) v may w (subst (λ o. May o w) (put_here f.current x (narrowed (f.current x) v) b is) one)))
      | inr ne ↦ among_put known f.current x b _ ne k.current
    ];
    pending = k.pending;
  }
  event_readable (Discards e) f may spare k = record {
    current = subst (λ t. IsAmong ((if t then None else f.current b)) known) (sym spare) k.current;
    pending = subst (λ t. IsAmong ((if t then None else f.pending b)) known) (sym spare) k.pending;
  }
  event_readable Flushes f may spare k = record { current = k.current; pending = k.current }
  event_readable (Arms saved) f may spare k = record {
    current = λ w one. k.current w (narrowed_among (f.current b) (saved b) (may.2 b below) w one);
    pending = λ w one. k.current w (narrowed_among (f.current b) (saved b) (may.2 b below) w one);
  }
  event_readable Prepares f may spare k = record { current = k.current; pending = k.pending }
  event_readable Decides f may spare k = record { current = k.current; pending = k.current }
  event_readable Commits f may spare k = record { current = k.current; pending = k.pending }
  event_readable Rests f may spare k = k

  stays_readable : (events : List Event) (f h : Flat) → Happen n (Spares b) events f h → IsReadable known b f → IsReadable known b h
  stays_readable [] f h is k = subst (IsReadable known b) (sym is) k
  stays_readable (event ∷ events) f h (may, orderly, spares, more) k = stays_readable events (after n event f) h more (event_readable event f may spares k)

-- ----------------------------------------------------------------------------------------------------------------
-- Items that leave it alone.

spared : (plan : Plan) (b : ℕ) (item : Item) → (Changes plan b item → ⊥) → (event : Event) → IsOf plan item event → Spares b event
spared plan b item unchanged (Writes x v) of = λ is. unchanged (subst (λ y. Changes plan y item) (sym is) of)
spared plan b item unchanged (Fails x v) of = λ is. unchanged (subst (λ y. Changes plan y item) (sym is) of)
spared plan b item unchanged (Discards e) of = by (discards e b) refl
  where
    by : (t : Bool) → discards e b ≡ t → discards e b ≡ false
    by true is = absurd (unchanged (of b is))
    by false is = is
spared plan b item unchanged (Reads x v) of = tt
spared plan b item unchanged Flushes of = tt
spared plan b item unchanged (Arms saved) of = tt
spared plan b item unchanged Prepares of = tt
spared plan b item unchanged Decides of = tt
spared plan b item unchanged Commits of = tt
spared plan b item unchanged Rests of = tt

pub get_drop : {A : Type 0} (xs : List A) (n j : ℕ) (x : A) → slice_get (drop n xs) j ≡ Some x → slice_get xs (n + j) ≡ Some x
get_drop [] zero j x here = absurd (grind (arith, here))
get_drop [] (suc n) j x here = absurd (grind (arith, here))
get_drop (y ∷ xs) zero j x here = let e : 0 + j ≡ j = omega arith in subst (λ m. slice_get (y ∷ xs) m ≡ Some x) (sym e) here
get_drop (y ∷ xs) (suc n) j x here = let e : suc n + j ≡ suc (n + j) = omega arith in subst (λ m. slice_get (y ∷ xs) m ≡ Some x) (sym e) (get_drop xs n j x here)

pub get_take : {A : Type 0} (xs : List A) (n j : ℕ) (x : A) → slice_get (take n xs) j ≡ Some x → (j < n) × (slice_get xs j ≡ Some x)
get_take [] zero j x here = absurd (grind (arith, here))
get_take [] (suc n) j x here = absurd (grind (arith, here))
get_take (y ∷ xs) zero j x here = absurd (grind (arith, here))
get_take (y ∷ xs) (suc n) zero x here = (omega arith, here)
get_take (y ∷ xs) (suc n) (suc j) x here = let rest = get_take xs n j x here in (omega (arith, rest.0), rest.1)

all_spare : (p : Play) (b i front : ℕ) → IsUnchanged p b i front → AllFit p.plan (Spares b) (drop (suc i) (take front p.journal))
all_spare p b i front unchanged j item here =
    let found = get_take p.journal front (suc i + j) item (get_drop (take front p.journal) (suc i) j item here) in
    spared p.plan b item (unchanged (suc i + j) item (omega arith) found.0 found.1)

-- ----------------------------------------------------------------------------------------------------------------

-- right behind a flush's or a commit's Done a cut leaves what is read
flushed_row : (plan : Plan) (before : Place) (h : Flat) → FlushRow plan before Done h → h.pending ≡ h.current
flushed_row plan before h row = ap (λ (x : Flat). x.pending) (row.1).1 ∙ ap (λ (x : Flat). x.current) (sym (row.1).1)

committed_row : (plan : Plan) (before : Place) (h : Flat) → CommitRow plan before Done h → h.pending ≡ h.current
committed_row plan before h (inl (mid, decides, commits)) =
    ap (λ (x : Flat). x.pending) commits.1 ∙ ap (λ (x : Flat). x.pending) decides.1 ∙ ap (λ (x : Flat). x.current) (sym decides.1) ∙ ap (λ (x : Flat). x.current) (sym commits.1)
committed_row plan before h (inr (phase, (mid, flushes, commits))) =
    ap (λ (x : Flat). x.pending) commits.1 ∙ ap (λ (x : Flat). x.pending) flushes.1 ∙ ap (λ (x : Flat). x.current) (sym flushes.1) ∙ ap (λ (x : Flat). x.current) (sym commits.1)

-- one item more
way_on : (plan : Plan) (buffer : Buffers) (items : List Item) (i : ℕ) (item : Item) (p before behind : Place) → slice_get items i ≡ Some item → Legal plan buffer (take i items) p before → ItemStep plan buffer item before behind
    → Legal plan buffer (take (suc i) items) p behind
way_on plan buffer [] i item p before behind none legal step = absurd (grind (arith, none))
way_on plan buffer (x ∷ items) zero item p before behind here legal step =
    let same : item ≡ x = cc here in
    (behind, subst (λ y. ItemStep plan buffer y p behind) same (subst (λ q. ItemStep plan buffer item q behind) legal step), refl)
way_on plan buffer (x ∷ items) (suc i) item p before behind there (mid, first, rest) step = (mid, first, way_on plan buffer items i item mid before behind there rest step)

-- where nothing is to restore, the image shows what a cut may leave
module _ (g : Geometry) (valid : IsValid g) (f : Flat) (image : List (List ℕ)) (whole : IsImage g.block_size g.blocks image) (plain : IsPlain (contents_of image 0)) (b : ℕ) (below : b < g.blocks)
    (known : Option (List (List ℕ))) (k : IsReadable known b f) where
  no_keeps : Keeps g f.used f.saved (contents_of image) → May known (contents_of image b)
  no_keeps keeps = absurd (plain_unsound g valid image whole plain keeps.log keeps.older keeps.sound)

  left_readable : (phase : Phase) → StandsInPhase g phase f (contents_of image) → May known (contents_of image b)
  left_readable Trim shows = k.pending (contents_of image b) (shows.each b below)
  left_readable Arming (inl shows) = k.pending (contents_of image b) (shows.each b below)
  left_readable Arming (inr keeps) = no_keeps keeps
  left_readable Checkpoint keeps = no_keeps keeps
  left_readable Deciding (inl keeps) = no_keeps keeps
  left_readable Deciding (inr shows) = k.current (contents_of image b) (shows.each b below)
  left_readable Committed shows = k.pending (contents_of image b) (shows.each b below)

module _ (p : Play) (i : ℕ) (first : List (List ℕ)) (k : IsCutOf p (suc i) first) (plain : IsPlain (contents_of first 0)) where
  behind_item : (item : Item) (here : slice_get p.journal i ≡ Some item) → (at p (suc i) first k i (omega arith) item here).behind.flat.pending ≡ (at p (suc i) first k i (omega arith) item here).behind.flat.current
      → IsAsBehind p i k.way.front first
  behind_item item here flushed =
      let t = at p (suc i) first k i (omega arith) item here in
      record {
        then = t.behind;
        way = way_on p.plan p.read p.journal i item (beginning (opening p.image)) t.before t.behind here (way p (suc i) first k i (omega arith) item here) t.step;
        each = λ b below unchanged. (
            let known = t.behind.flat.current b in
            let begin : IsReadable known b t.behind.flat = record { current = λ v may. may; pending = λ v may. subst (λ (c : ℕ → Option (List (List ℕ))). May (c b) v) flushed may } in
            let on = legal_happens p.plan (enough p (suc i) first k) (Spares b) p.read (drop (suc i) (take k.way.front p.journal)) t.behind k.way.place (all_spare p b i k.way.front unchanged) t.rest in
            let more = midway_happens p.plan (enough p (suc i) first k) (Spares b) (λ saved. tt) tt k.way.place k.way.flat k.way.midway in
            let readable = stays_readable known p.plan.sizes.blocks b below more.0 k.way.place.flat k.way.flat more.1 (stays_readable known p.plan.sizes.blocks b below on.0 t.behind.flat k.way.place.flat on.1 begin) in
            left_readable p.plan.sizes k.sizes k.way.flat first k.whole plain b below known readable k.way.flat.phase k.way.stands
            );
      }

  pub flushed_stay : IsDoneAt p i ops.Flush ⊎ IsDoneAt p i ops.Commit → IsAsBehind p i k.way.front first
  flushed_stay (inl (lane, number, here, asked)) =
      let t = at p (suc i) first k i (omega arith) (Answered lane number Done) here in
      behind_item (Answered lane number Done) here (flushed_row p.plan t.before t.behind.flat (row_of p lane number ops.Flush t.before t.behind asked t.step))
  flushed_stay (inr (lane, number, here, asked)) =
      let t = at p (suc i) first k i (omega arith) (Answered lane number Done) here in
      behind_item (Answered lane number Done) here (committed_row p.plan t.before t.behind.flat (row_of p lane number ops.Commit t.before t.behind asked t.step))
