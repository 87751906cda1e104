-- What the items of a legal journal do to the flat state.
use Rattle.std.proofs.Common.{true, ◌≡◌, ◌≢◌, inl, inr, ℕ, zero, suc, ◌+◌, ◌*◌, ◌≤◌, List, [], ◌∷◌, take, drop, Some, arith, refl, sym, ap, ◌∙◌, subst}
use Rattle.std.specs.Prelude.{slice_get}
use Rattle.std.proofs.lemmas.List.{take-take}
use Rattle.bow_units.specs.declared.requests.Op.{Op}
use Rattle.bow_units.specs.declared.requests.Op.TheVariants as ops
use Rattle.bow_units.specs.declared.requests.Outcome.{Outcome}
use Rattle.bow_units.specs.declared.requests.Outcome.TheVariants as outcomes
use Rattle.bow_units.specs.declared.requests.Phase.{Phase}
use Rattle.bow_units.specs.declared.requests.Phase.TheVariants.{Trim, Arming, Checkpoint, Deciding, Committed}
use Rattle.bow_units.specs.declared.sizes.Extent.{Extent}
use Rattle.bow_units.specs.declared.sizes.Geometry.{Geometry}
use Rattle.bow_units.specs.Magics.{HasMagic, IsPlain}
use Rattle.bow_flat.specs.Flat.{Flat, Event, after, discards, Allows, block_at}
use Rattle.bow_flat.specs.Flat.Event.{Writes, Fails, Reads, Discards, Flushes, Arms, Prepares, Decides, Commits, Rests}
use Rattle.bow_flat.specs.Valid.{IsState, IsOrderly}
use Rattle.bow_flat.proofs.Valid.{stays_valid}
use Rattle.bow_history.specs.declared.items.Item.{Item}
use Rattle.bow_history.specs.declared.items.Item.TheVariants.{Wrote, Got, Answered}
use Rattle.bow_history.specs.Journal.{Plan, Buffers, Place, Legal, ItemStep, IsWrote, IsGot, IsMidway, IsOpenPhase, IsProper, Row, WriteRow, ReadRow, DiscardRow, FlushRow, PrepareRow, CommitRow}
use Rattle.bow_promise.specs.Cutting.{IsPast}
use Rattle.bow_promise.specs.Flushing.{Changes}

-- from one state to another by these events, each of which may be and is in order; and this holds of each
abbrev pub Happen : ℕ → (Event → Type 0) → List Event → Flat → Flat → Type 0
Happen n Q [] f h = h ≡ f
Happen n Q (event ∷ events) f h = Allows n event f × IsOrderly event f × Q event × Happen n Q events (after n event f) h

-- by some of them
abbrev pub Happens : ℕ → (Event → Type 0) → Flat → Flat → Type 0
Happens n Q f h = (events : List Event) × Happen n Q events f h

-- the item answers such a request
abbrev pub Asked : Plan → Op → Item → Type 0
Asked plan op (Answered lane n outcome) = plan.request lane n ≡ Some op
Asked plan op (Wrote lane n b) = ⊥
Asked plan op (Got lane n b) = ⊥

-- the item tells of this event
abbrev pub IsOf : Plan → Item → Event → Type 0
IsOf plan item (Writes b v) = Changes plan b item
IsOf plan item (Fails b v) = Changes plan b item
IsOf plan item (Discards e) = (b : ℕ) → discards e b ≡ true → Changes plan b item
IsOf plan item (Reads b v) = Unit {0}
IsOf plan item Flushes = Unit {0}
IsOf plan item (Arms saved) = Asked plan ops.Prepare item
IsOf plan item Prepares = Unit {0}
IsOf plan item Decides = Asked plan ops.Commit item
IsOf plan item Commits = Unit {0}
IsOf plan item Rests = Unit {0}

-- each of these items tells of such events alone
abbrev pub AllFit : Plan → (Event → Type 0) → List Item → Type 0
AllFit plan Q items = (i : ℕ) (item : Item) → slice_get items i ≡ Some item → (event : Event) → IsOf plan item event → Q event

-- ----------------------------------------------------------------------------------------------------------------
-- What stays.

pub keeps_valid : (n : ℕ) (Q : Event → Type 0) (events : List Event) (f h : Flat) → Happen n Q events f h → IsState f → IsState h
keeps_valid n Q [] f h is k = subst IsState (sym is) k
keeps_valid n Q (event ∷ events) f h (may, orderly, of, more) k = keeps_valid n Q events (after n event f) h more (stays_valid n event f k may orderly)

-- the checkpoint of a state, after what came later
pub record StaysPast (f h : Flat) : Type 0 where
  pub past : IsPast h.phase
  pub used : h.used ≡ f.used
  pub saved : h.saved ≡ f.saved

not_past : (phase other : Phase) → IsPast phase → phase ≡ other → IsPast other
not_past phase other past is = subst IsPast is past

event_past : (n : ℕ) (event : Event) (f : Flat) → IsPast f.phase → Allows n event f → StaysPast f (after n event f)
event_past n (Writes b v) f past may = record { past = past; used = refl; saved = refl }
event_past n (Fails b v) f past may = record { past = past; used = refl; saved = refl }
event_past n (Reads b v) f past may = record { past = past; used = refl; saved = refl }
event_past n (Discards e) f past may = record { past = past; used = refl; saved = refl }
event_past n Flushes f past may = record { past = past; used = refl; saved = refl }
event_past n (Arms saved) f past may = absurd (not_past f.phase Trim past may.0)
event_past n Prepares f past may = absurd (not_past f.phase Arming past may)
event_past n Decides f past may = record { past = tt; used = refl; saved = refl }
event_past n Commits f past may = record { past = tt; used = refl; saved = refl }
event_past n Rests f past may = record { past = past; used = refl; saved = refl }

pub keeps_past : (n : ℕ) (Q : Event → Type 0) (events : List Event) (f h : Flat) → Happen n Q events f h → IsPast f.phase → StaysPast f h
keeps_past n Q [] f h is past = record { past = subst (λ (x : Flat). IsPast x.phase) (sym is) past; used = ap (λ (x : Flat). x.used) is; saved = ap (λ (x : Flat). x.saved) is }
keeps_past n Q (event ∷ events) f h (may, orderly, of, more) past =
    let one = event_past n event f past may in
    let rest = keeps_past n Q events (after n event f) h more one.past in
    record { past = rest.past; used = rest.used ∙ one.used; saved = rest.saved ∙ one.saved }

-- once the checkpoint is given up it stays so
event_committed : (n : ℕ) (event : Event) (f : Flat) → f.phase ≡ Committed → Allows n event f → (after n event f).phase ≡ Committed
event_committed n (Writes b v) f is may = is
event_committed n (Fails b v) f is may = is
event_committed n (Reads b v) f is may = is
event_committed n (Discards e) f is may = is
event_committed n Flushes f is may = is
event_committed n (Arms saved) f is may = absurd (let clash : Committed ≡ Trim = sym is ∙ may.0 in grind (arith, clash))
event_committed n Prepares f is may = absurd (let clash : Committed ≡ Arming = sym is ∙ may in grind (arith, clash))
event_committed n Decides f is may = absurd (let clash : Committed ≡ Checkpoint = sym is ∙ may in grind (arith, clash))
event_committed n Commits f is may = refl
event_committed n Rests f is may = is

pub keeps_committed : (n : ℕ) (Q : Event → Type 0) (events : List Event) (f h : Flat) → Happen n Q events f h → f.phase ≡ Committed → h.phase ≡ Committed
keeps_committed n Q [] f h is done = ap (λ (x : Flat). x.phase) is ∙ done
keeps_committed n Q (event ∷ events) f h (may, orderly, of, more) done = keeps_committed n Q events (after n event f) h more (event_committed n event f done may)

-- ----------------------------------------------------------------------------------------------------------------
-- What an item does.

open_phases : (phase : Phase) → IsOpenPhase phase → (phase ≢ Arming) × (phase ≢ Deciding)
open_phases Trim opened = (λ e. absurd (grind (arith, e)), λ e. absurd (grind (arith, e)))
open_phases Arming opened = absurd opened
open_phases Checkpoint opened = (λ e. absurd (grind (arith, e)), λ e. absurd (grind (arith, e)))
open_phases Deciding opened = absurd opened
open_phases Committed opened = (λ e. absurd (grind (arith, e)), λ e. absurd (grind (arith, e)))

-- what a proper write writes to block 0 is plain
proper_plain : (g : Geometry) (e : Extent) (payload : List ℕ) (k : ℕ) → 4 ≤ g.block_size → IsProper g e payload → e.first + k ≡ 0 → IsPlain (block_at g.block_size payload k)
proper_plain g e payload k enough proper zeroth magic = proper.1 (omega (arith, zeroth), whole)
  where
    front : take 4 (block_at g.block_size payload k) ≡ take 4 payload
    front =
        let none : k ≡ 0 = omega (arith, zeroth) in
        let z : 0 * g.block_size ≡ 0 = omega arith in
        ap (λ n. take 4 (take g.block_size (drop (n * g.block_size) payload))) none ∙ ap (λ n. take 4 (take g.block_size (drop n payload))) z ∙ take-take 4 g.block_size payload enough

    whole : HasMagic payload
    whole = elim magic [ inl is ↦ inl (sym front ∙ is) | inr is ↦ inr (sym front ∙ is) ]

none : (n : ℕ) (Q : Event → Type 0) (f h : Flat) → h ≡ f → Happens n Q f h
none n Q f h is = ([], is)

one : (n : ℕ) (Q : Event → Type 0) (event : Event) (f h : Flat) → Allows n event f → IsOrderly event f → Q event → h ≡ after n event f → Happens n Q f h
one n Q event f h may orderly of is = (event ∷ [], (may, orderly, of, is))

two : (n : ℕ) (Q : Event → Type 0) (first second : Event) (f mid h : Flat) → Allows n first f → IsOrderly first f → Q first → mid ≡ after n first f → Allows n second mid → IsOrderly second mid → Q second → h ≡ after n second mid → Happens n Q f h
two n Q first second f mid h may orderly of is may_2 orderly_2 of_2 is_2 = (
  first ∷ (second ∷ []),
  (may, orderly, of, subst (λ x. Allows n second x × IsOrderly second x × Q second × (h ≡ after n second x)) is (may_2, orderly_2, of_2, is_2)),
)

module _ (plan : Plan) (enough : 4 ≤ plan.sizes.block_size) where
  abbrev blocks : ℕ
  blocks = plan.sizes.blocks

  module _ (lane number : ℕ) where
    -- of the item that answers the lane's request
    abbrev Of : Outcome → Event → Type 0
    Of outcome = IsOf plan (Answered lane number outcome)

    write_happens : (p : Place) (e : Extent) (payload : List ℕ) → plan.request lane number ≡ Some (ops.Write e payload) → (outcome : Outcome) (k : ℕ) (h : Flat) → WriteRow plan p e payload outcome k h → Happens blocks (Of outcome) p.flat h
    write_happens p e payload asked outcomes.Done k h row = none blocks (Of outcomes.Done) p.flat h row.2
    write_happens p e payload asked (outcomes.DiskFault n) k h row =
        let phases = open_phases p.flat.phase row.1 in
        one blocks (Of (outcomes.DiskFault n)) (Fails (e.first + k) (block_at plan.sizes.block_size payload k)) p.flat h (row.4).0 (phases.0, phases.1, proper_plain plan.sizes e payload k enough row.0)
        (e, payload, asked, ap (λ x. e.first + x) (sym row.2)) (row.4).1
    write_happens p e payload asked (outcomes.NoSpace n) k h row = none blocks (Of (outcomes.NoSpace n)) p.flat h row.6
    write_happens p e payload asked outcomes.OutOfRange k h row = none blocks (Of outcomes.OutOfRange) p.flat h row.1
    write_happens p e payload asked outcomes.ReservedMagic k h row = none blocks (Of outcomes.ReservedMagic) p.flat h row.2
    write_happens p e payload asked (outcomes.Unsettled phase) k h row = none blocks (Of (outcomes.Unsettled phase)) p.flat h row.3
    write_happens p e payload asked outcomes.Data k h row = absurd row
    write_happens p e payload asked (outcomes.WrongPhase phase) k h row = absurd row

    read_happens : (p : Place) (e : Extent) (outcome : Outcome) (k : ℕ) (h : Flat) → ReadRow plan p e outcome k h → Happens blocks (Of outcome) p.flat h
    read_happens p e outcomes.Data k h row = none blocks (Of outcomes.Data) p.flat h row.2
    read_happens p e (outcomes.DiskFault n) k h row = none blocks (Of (outcomes.DiskFault n)) p.flat h row.3
    read_happens p e outcomes.OutOfRange k h row = none blocks (Of outcomes.OutOfRange) p.flat h row.1
    read_happens p e outcomes.Done k h row = absurd row
    read_happens p e (outcomes.NoSpace n) k h row = absurd row
    read_happens p e outcomes.ReservedMagic k h row = absurd row
    read_happens p e (outcomes.WrongPhase phase) k h row = absurd row
    read_happens p e (outcomes.Unsettled phase) k h row = absurd row

    discard_happens : (p : Place) (e : Extent) → plan.request lane number ≡ Some (ops.Discard e) → (outcome : Outcome) (h : Flat) → DiscardRow plan p e outcome h → Happens blocks (Of outcome) p.flat h
    discard_happens p e asked outcomes.Done h row = one blocks (Of outcomes.Done) (Discards e) p.flat h (row.2).0 (open_phases p.flat.phase row.1) (λ b has. (e, asked, has)) (row.2).1
    discard_happens p e asked outcomes.OutOfRange h row = none blocks (Of outcomes.OutOfRange) p.flat h row.1
    discard_happens p e asked (outcomes.Unsettled phase) h row = none blocks (Of (outcomes.Unsettled phase)) p.flat h row.3
    discard_happens p e asked outcomes.Data h row = absurd row
    discard_happens p e asked (outcomes.NoSpace n) h row = absurd row
    discard_happens p e asked (outcomes.DiskFault n) h row = absurd row
    discard_happens p e asked outcomes.ReservedMagic h row = absurd row
    discard_happens p e asked (outcomes.WrongPhase phase) h row = absurd row

    flush_happens : (p : Place) (outcome : Outcome) (h : Flat) → FlushRow plan p outcome h → Happens blocks (Of outcome) p.flat h
    flush_happens p outcomes.Done h row = one blocks (Of outcomes.Done) Flushes p.flat h tt tt tt (row.1).1
    flush_happens p (outcomes.DiskFault n) h row = none blocks (Of (outcomes.DiskFault n)) p.flat h row.1
    flush_happens p (outcomes.Unsettled phase) h row = none blocks (Of (outcomes.Unsettled phase)) p.flat h row.2
    flush_happens p outcomes.Data h row = absurd row
    flush_happens p (outcomes.NoSpace n) h row = absurd row
    flush_happens p outcomes.OutOfRange h row = absurd row
    flush_happens p outcomes.ReservedMagic h row = absurd row
    flush_happens p (outcomes.WrongPhase phase) h row = absurd row

    prepare_happens : (p : Place) → plan.request lane number ≡ Some ops.Prepare → (outcome : Outcome) (h : Flat) → PrepareRow plan p outcome h → Happens blocks (Of outcome) p.flat h
    prepare_happens p asked outcomes.Done h (inl (saved, (mid, arms, prepares))) = two blocks (Of outcomes.Done) (Arms saved) Prepares p.flat mid h arms.0 tt asked arms.1 prepares.0 tt tt prepares.1
    prepare_happens p asked outcomes.Done h (inr prepares) = one blocks (Of outcomes.Done) Prepares p.flat h prepares.0 tt tt prepares.1
    prepare_happens p asked (outcomes.DiskFault n) h (is, phase, inl same) = none blocks (Of (outcomes.DiskFault n)) p.flat h same
    prepare_happens p asked (outcomes.DiskFault n) h (is, phase, inr (saved, arms)) = one blocks (Of (outcomes.DiskFault n)) (Arms saved) p.flat h arms.0 tt asked arms.1
    prepare_happens p asked (outcomes.NoSpace n) h row = none blocks (Of (outcomes.NoSpace n)) p.flat h row.3
    prepare_happens p asked (outcomes.WrongPhase phase) h row = none blocks (Of (outcomes.WrongPhase phase)) p.flat h row.3
    prepare_happens p asked outcomes.Data h row = absurd row
    prepare_happens p asked outcomes.OutOfRange h row = absurd row
    prepare_happens p asked outcomes.ReservedMagic h row = absurd row
    prepare_happens p asked (outcomes.Unsettled phase) h row = absurd row

    commit_happens : (p : Place) → plan.request lane number ≡ Some ops.Commit → (outcome : Outcome) (h : Flat) → CommitRow plan p outcome h → Happens blocks (Of outcome) p.flat h
    commit_happens p asked outcomes.Done h (inl (mid, decides, commits)) = two blocks (Of outcomes.Done) Decides Commits p.flat mid h decides.0 tt asked decides.1 commits.0 tt tt commits.1
    commit_happens p asked outcomes.Done h (inr (phase, (mid, flushes, commits))) = two blocks (Of outcomes.Done) Flushes Commits p.flat mid h tt tt tt flushes.1 commits.0 tt tt commits.1
    commit_happens p asked (outcomes.DiskFault n) h (is, phase, inl same) = none blocks (Of (outcomes.DiskFault n)) p.flat h same
    commit_happens p asked (outcomes.DiskFault n) h (is, phase, inr decides) = one blocks (Of (outcomes.DiskFault n)) Decides p.flat h decides.0 tt asked decides.1
    commit_happens p asked (outcomes.WrongPhase phase) h row = none blocks (Of (outcomes.WrongPhase phase)) p.flat h row.3
    commit_happens p asked (outcomes.NoSpace n) h row = absurd row
    commit_happens p asked outcomes.Data h row = absurd row
    commit_happens p asked outcomes.OutOfRange h row = absurd row
    commit_happens p asked outcomes.ReservedMagic h row = absurd row
    commit_happens p asked (outcomes.Unsettled phase) h row = absurd row

    row_happens : (p : Place) (op : Op) → plan.request lane number ≡ Some op → (outcome : Outcome) (k : ℕ) (h : Flat) → Row plan p op outcome k h → Happens blocks (Of outcome) p.flat h
    row_happens p (ops.Write e payload) asked outcome k h row = write_happens p e payload asked outcome k h row
    row_happens p (ops.Read e payload) asked outcome k h row = read_happens p e outcome k h row
    row_happens p (ops.Discard e) asked outcome k h row = discard_happens p e asked outcome h row
    row_happens p ops.Flush asked outcome k h row = flush_happens p outcome h row
    row_happens p ops.Prepare asked outcome k h row = prepare_happens p asked outcome h row
    row_happens p ops.Commit asked outcome k h row = commit_happens p asked outcome h row

  wrote_happens : (lane n b : ℕ) (op : Op) (p q : Place) → IsWrote plan lane b op p q → Happens blocks (IsOf plan (Wrote lane n b)) p.flat q.flat
  wrote_happens lane n b (ops.Write e payload) p q (proper, opened, below, is, alone, next) =
      let phases = open_phases p.flat.phase opened in
      one blocks (IsOf plan (Wrote lane n b)) (Writes b (block_at plan.sizes.block_size payload (p.done lane))) p.flat q.flat tt
      (phases.0, phases.1, λ zeroth. proper_plain plan.sizes e payload (p.done lane) enough proper (sym is ∙ zeroth)) refl (ap (λ (x : Place). x.flat) next)
  wrote_happens lane n b (ops.Read e payload) p q k = absurd k
  wrote_happens lane n b (ops.Discard e) p q k = absurd k
  wrote_happens lane n b ops.Flush p q k = absurd k
  wrote_happens lane n b ops.Prepare p q k = absurd k
  wrote_happens lane n b ops.Commit p q k = absurd k

  got_happens : (buffer : Buffers) (lane n b : ℕ) (op : Op) (p q : Place) → IsGot plan buffer lane b op p q → Happens blocks (IsOf plan (Got lane n b)) p.flat q.flat
  got_happens buffer lane n b (ops.Read e payload) p q (inside, below, is, may, next) =
      one blocks (IsOf plan (Got lane n b)) (Reads b (block_at plan.sizes.block_size (buffer lane (p.number lane)) (p.done lane))) p.flat q.flat may tt tt (ap (λ (x : Place). x.flat) next)
  got_happens buffer lane n b (ops.Write e payload) p q k = absurd k
  got_happens buffer lane n b (ops.Discard e) p q k = absurd k
  got_happens buffer lane n b ops.Flush p q k = absurd k
  got_happens buffer lane n b ops.Prepare p q k = absurd k
  got_happens buffer lane n b ops.Commit p q k = absurd k

  pub item_happens : (buffer : Buffers) (item : Item) (p q : Place) → ItemStep plan buffer item p q → Happens blocks (IsOf plan item) p.flat q.flat
  item_happens buffer (Wrote lane n b) p q (is, op, next, wrote) = wrote_happens lane n b op p q wrote
  item_happens buffer (Got lane n b) p q (is, op, next, got) = got_happens buffer lane n b op p q got
  item_happens buffer (Answered lane n outcome) p q (is, op, next, flat, row, to) =
      subst (λ (x : Place). Happens blocks (IsOf plan (Answered lane n outcome)) p.flat x.flat) (sym to) (row_happens lane n p op next outcome (p.done lane) flat row)

  -- what a cut shows beside the place's state
  pub midway_happens : (Q : Event → Type 0) → ((saved : ℕ → List ℕ) → Q (Arms saved)) → Q Decides → (p : Place) (f : Flat) → IsMidway plan p f → Happens blocks Q p.flat f
  midway_happens Q of_arms of_decides p f (inl same) = none blocks Q p.flat f same
  midway_happens Q of_arms of_decides p f (inr (inl (lane, next, saved, arms))) = one blocks Q (Arms saved) p.flat f arms.0 tt (of_arms saved) arms.1
  midway_happens Q of_arms of_decides p f (inr (inr (lane, next, decides))) = one blocks Q Decides p.flat f decides.0 tt of_decides decides.1

  -- ----------------------------------------------------------------------------------------------------------------
  -- What a legal journal does.

  -- the events of an item, and then further ones
  join : (n : ℕ) (P Q : Event → Type 0) → ((event : Event) → P event → Q event) → (events : List Event) (f mid h : Flat) → Happen n P events f mid → Happens n Q mid h → Happens n Q f h
  join n P Q fits [] f mid h is more = subst (λ x. Happens n Q x h) is more
  join n P Q fits (event ∷ events) f mid h (may, orderly, of, rest) more =
      let all = join n P Q fits events (after n event f) mid h rest more in (event ∷ all.0, (may, orderly, fits event of, all.1))

  pub legal_happens : (Q : Event → Type 0) (buffer : Buffers) (items : List Item) (p q : Place) → AllFit plan Q items → Legal plan buffer items p q → Happens blocks Q p.flat q.flat
  legal_happens Q buffer [] p q fits is = none blocks Q p.flat q.flat (ap (λ (x : Place). x.flat) is)
  legal_happens Q buffer (item ∷ items) p q fits (mid, step, rest) =
      let here = item_happens buffer item p mid step in
      join blocks (IsOf plan item) Q (fits 0 item refl) here.0 p.flat mid.flat q.flat here.1 (legal_happens Q buffer items mid q (λ i other there. fits (suc i) other there) rest)

  -- the way to an item, its step, and the way behind it
  pub record Through (buffer : Buffers) (items : List Item) (i : ℕ) (item : Item) (p q : Place) : Type 0 where
    pub before : Place
    pub behind : Place
    pub way : Legal plan buffer (take i items) p before
    pub step : ItemStep plan buffer item before behind
    pub rest : Legal plan buffer (drop (suc i) items) behind q

  pub through : (buffer : Buffers) (items : List Item) (i : ℕ) (item : Item) (p q : Place) → Legal plan buffer items p q → slice_get items i ≡ Some item → Through buffer items i item p q
  through buffer [] i item p q legal none = absurd (grind (arith, none))
  through buffer (x ∷ items) zero item p q (mid, step, rest) here =
      let same : x ≡ item = cc here in
      record { before = p; behind = mid; way = refl; step = subst (λ y. ItemStep plan buffer y p mid) same step; rest = rest }
  through buffer (x ∷ items) (suc i) item p q (mid, step, rest) there =
      let t = through buffer items i item mid q rest there in
      record { before = t.before; behind = t.behind; way = (mid, step, t.way); step = t.step; rest = t.rest }
