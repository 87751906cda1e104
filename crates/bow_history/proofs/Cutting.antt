-- What cuts of a run leave is on the way of its journal.
use Rattle.std.proofs.Common.{ℕ, zero, suc, ◌+◌, ◌<◌, ◌≤◌, ◌≡◌, ◌⊎◌, true, false, List, [], ◌∷◌, length, Option, Some, None, arith, refl, sym, ap, ◌∙◌, subst, inl, inr}
use Rattle.std.specs.Prelude.{slice_index_or}
use Rattle.bow_units.specs.declared.requests.Op.{Op}
use Rattle.bow_units.specs.declared.requests.Op.TheVariants as ops
use Rattle.bow_units.specs.declared.sizes.Geometry.{Geometry}
use Rattle.bow_chain.specs.Contents.{Contents}
use Rattle.bow_flat.specs.Flat.{Flat, after}
use Rattle.bow_guard.specs.Cuts.{IsCut}
use Rattle.bow_guard.specs.Standing.{StandsFor}
use Rattle.bow_machine.specs.Calls.{Failed}
use Rattle.bow_machine.specs.Ahead.{IsLed}
use Rattle.bow_machine.proofs.Ahead.{led_is_ahead}
use Rattle.bow_queue.specs.declared.tickets.Ticket.{Ticket}
use Rattle.bow_machine.specs.Requests.{Request, request_of}
use Rattle.bow_machine.specs.Memory.{Hand, Empty, Batching, Preparing, Committing, ReadsBlock0, WritesCurrent, WritesBackup, FlushesCopies, WritesFirstLog, FlushesFirstLog, FlushesAll, ReadsCurrent, WritesBlock0, FlushesDecision}
use Rattle.bow_machine.specs.MemoryIsSound.{IsForCommand, HandIsSound}
use Rattle.bow_machine.specs.Deeds.{MayHaveArmed}
use Rattle.bow_machine.proofs.Cuts.{machine_cut}
use Rattle.bow_history.specs.declared.items.Item.{Item}
use Rattle.bow_history.specs.Journal.{Plan, Buffers, Place, Legal, IsNext, IsMidway}
use Rattle.bow_history.specs.Lags.{Lags, LagsBy}
use Rattle.bow_history.specs.Sessions.{Session, Turned, IsFor, IsTurn, after_turn, item_in, call_in, reply_in}
use Rattle.bow_history.specs.Histories.{Disk, session_after, journal_of, with_item, with_items, calls_in, moments_of, DoesTurn, Runs, LeftSince}
use Rattle.bow_history.specs.Fits.{IsAt, Agrees}
use Rattle.bow_history.specs.Cuts.{IsOnTheWayBy, RunLeads, CutsAreOnTheWay, NoneFails, StandsAhead, CutsAreAhead}
use Rattle.bow_history.proofs.Lists.{one_of}
use Rattle.bow_history.proofs.Runs.{turn_advances, agrees_back, nothing_lags}
use Rattle.bow_history.proofs.Turns.{MaybeStep}

-- ----------------------------------------------------------------------------------------------------------------
-- The machine is midway of the journal's place.

for_prepare : (g : Geometry) (asked : Op) → IsFor g asked ops.Prepare → asked ≡ ops.Prepare
for_prepare g (ops.Read x q) is = absurd is
for_prepare g (ops.Write x q) is = sym is
for_prepare g (ops.Discard x) is = sym is
for_prepare g ops.Flush is = sym is
for_prepare g ops.Prepare is = refl
for_prepare g ops.Commit is = sym is

for_commit : (g : Geometry) (asked : Op) → IsFor g asked ops.Commit → asked ≡ ops.Commit
for_commit g (ops.Read x q) is = absurd is
for_commit g (ops.Write x q) is = sym is
for_commit g (ops.Discard x) is = sym is
for_commit g ops.Flush is = sym is
for_commit g ops.Prepare is = sym is
for_commit g ops.Commit is = refl

module _ (plan : Plan) (s : Session) (d : Disk) (p : Place) (k : IsAt plan s d p) where
  -- the lane of a request that waits asks for it next
  next_of : (t : Ticket) (r : Request) → request_of t s.memory.requests ≡ Some r → (lane : ℕ) × (asked : Op) × IsNext plan p lane asked × IsFor plan.sizes asked r.op
  next_of t r waits =
      let l = k.seated.lanes t r waits in
      let seat = k.seated.each l.0 t l.1 in
      (l.0, seat.asked, ap (plan.request l.0) (k.number l.0) ∙ seat.next, subst (λ (x : Request). IsFor plan.sizes seat.asked x.op) (one_of (request_of t s.memory.requests) seat.request r seat.waits waits) seat.is)

  -- the lane of the command in hand asks for it next
  lane_of_command : (t : Ticket) (op : Op) → IsForCommand s.memory.requests t op → ((asked : Op) → IsFor plan.sizes asked op → asked ≡ op) → (lane : ℕ) × IsNext plan p lane op
  lane_of_command t op w only =
      let next = next_of t w.command w.waits in
      (next.0, next.2 ∙ ap Some (only next.1 (subst (IsFor plan.sizes next.1) w.asks next.3)))

  pub midway : IsMidway plan p k.flat
  midway = go s.memory.hand k.lags k.stands.sound.in_hand
    where
      armed : (t : Ticket) → IsForCommand s.memory.requests t ops.Prepare → LagsBy plan.sizes.blocks MayHaveArmed k.flat p.flat → IsMidway plan p k.flat
      armed t w (inl same) = inl same
      armed t w (inr a) = let next = lane_of_command t ops.Prepare w (for_prepare plan.sizes) in inr (inl (next.0, next.1, a.0, (a.1, a.2)))

      go : (hand : Hand) → Lags plan.sizes.blocks hand k.flat p.flat → HandIsSound plan.sizes s.memory hand s.memory.log → IsMidway plan p k.flat
      go Empty lags h = inl lags
      go (Batching b) lags h = inl lags
      go (Preparing t c b ReadsBlock0) lags h = inl lags
      go (Preparing t c b (WritesCurrent x)) lags h = inl lags
      go (Preparing t c b (WritesBackup x)) lags h = inl lags
      go (Preparing t c b (FlushesCopies x)) lags h = inl lags
      go (Preparing t c b WritesFirstLog) lags h = armed t h.1 lags
      go (Preparing t c b FlushesFirstLog) lags h = armed t h.1 lags
      go (Committing t again FlushesAll) lags h = inl lags
      go (Committing t again ReadsCurrent) lags h = inl lags
      go (Committing t again (WritesBlock0 x)) lags h = inl lags
      go (Committing t true FlushesDecision) lags h = inl lags
      go (Committing t false FlushesDecision) lags h = let next = lane_of_command t ops.Commit h.1 (for_commit plan.sizes) in inr (inr (next.0, next.1, (lags.0, lags.1)))

  -- what a cut leaves now stands at the front of what is still to come
  abbrev pub here : (says : Flat → Contents → Type 0) (buffer : Buffers) (journal : List Item) (last : Place) (image : Contents)
      → Legal plan buffer journal p last → says k.flat image → IsOnTheWayBy says plan buffer journal p last 0 image
  here says buffer journal last image legal holds = record {
    front = 0;
    has = omega arith;
    within = omega arith;
    place = p;
    before = refl;
    after = legal;
    flat = k.flat;
    midway = midway;
    stands = holds;
  }

-- ----------------------------------------------------------------------------------------------------------------
-- Moments.

-- each item's moment is at least this count of calls
pub low_moments : (plan : Plan) (s : Session) (turns : List Turned) (calls i : ℕ) → i < length (journal_of plan s turns) → calls ≤ slice_index_or (moments_of plan s calls turns) i 0
low_moments plan s [] calls i below = absurd (omega (arith, below))
low_moments plan s (turn ∷ turns) calls i below = go (item_in plan s turn) i below (low_moments plan (after_turn plan s turn) turns (calls + calls_in (call_in plan s turn)))
  where
    later : ℕ
    later = calls + calls_in (call_in plan s turn)

    go : (item : Option Item) (i : ℕ) → i < length (with_items item (journal_of plan (after_turn plan s turn) turns))
        → ((i : ℕ) → i < length (journal_of plan (after_turn plan s turn) turns) → calls + calls_in (call_in plan s turn) ≤ slice_index_or (moments_of plan (after_turn plan s turn) (calls + calls_in (call_in plan s turn)) turns) i 0)
        → calls ≤ slice_index_or (with_item item (calls + calls_in (call_in plan s turn)) (moments_of plan (after_turn plan s turn) (calls + calls_in (call_in plan s turn)) turns)) i 0
    go None i below rest = omega (arith, rest i below)
    go (Some item) zero below rest = omega arith
    go (Some item) (suc i) below rest = omega (arith, rest i (omega (arith, below)))

module _ (says : Flat → Contents → Type 0) (plan : Plan) (buffer : Buffers) (last : Place) where
  -- an image on the way of what comes after a turn is on the way from before it
  on_the_way : (item : Option Item) (items : List Item) (p mid : Place) (n : ℕ) (image : Contents) → MaybeStep plan buffer item p mid → IsOnTheWayBy says plan buffer items mid last n image → IsOnTheWayBy says plan buffer (with_items item items) p last n image
  on_the_way None items p mid n image step w = subst (λ x. IsOnTheWayBy says plan buffer items x last n image) step w
  on_the_way (Some item) items p mid n image step w = record {
    front = suc w.front;
    has = omega (arith, w.has);
    within = omega (arith, w.within);
    place = w.place;
    before = (mid, step, w.before);
    after = w.after;
    flat = w.flat;
    midway = w.midway;
    stands = w.stands;
  }

  -- and has one item more, if the turn made one
  on_with : (item : Item) (items : List Item) (p mid : Place) (n : ℕ) (image : Contents) → MaybeStep plan buffer (Some item) p mid → IsOnTheWayBy says plan buffer items mid last n image → IsOnTheWayBy says plan buffer (item ∷ items) p last (suc n) image
  on_with item items p mid n image step w = record { front = suc w.front; has = omega (arith, w.has); within = omega (arith, w.within); place = w.place; before = (mid, step, w.before); after = w.after; flat = w.flat; midway = w.midway; stands = w.stands }

  -- the first turn of a run, with so many calls before it, and the turns after it
  module _ (s : Session) (calls : ℕ) (d e : Disk) (turn : Turned) (turns : List Turned) (run : Runs plan s d (turn ∷ turns) e) where
    abbrev next : Session
    next = after_turn plan s turn

    abbrev later : ℕ
    later = calls + calls_in (call_in plan s turn)

    abbrev to_come : List Item
    to_come = journal_of plan next turns

    abbrev moments : List ℕ
    moments = moments_of plan next later turns

    -- what a cut of the turns after it leaves is on the way
    record RestLeads (mid : Place) : Type 0 where
      ever : (since : ℕ) (image : Contents) → LeftSince plan next later run.1 turns e run.3 since image → IsOnTheWayBy says plan buffer to_come mid last 0 image
      item : (i : ℕ) (image : Contents) → i < length to_come → LeftSince plan next later run.1 turns e run.3 (slice_index_or moments i 0) image
          → IsOnTheWayBy says plan buffer to_come mid last (suc i) image

    -- an image that was left by a cut since then: just before its call, or after it
    abbrev IsLeft : ℕ → Contents → Type 0
    IsLeft since image = ((since ≤ calls) × (calls_in (call_in plan s turn) ≡ 1) × IsCut plan.sizes d.may image) ⊎ LeftSince plan next later run.1 turns e run.3 since image

    -- a cut since the moment of an item is on the way of a journal that has the item
    split : (p mid : Place) (made : Option Item) → MaybeStep plan buffer made p mid → RestLeads mid → (i : ℕ) (image : Contents) → i < length (with_items made to_come)
        → IsLeft (slice_index_or (with_item made later moments) i 0) image → IsOnTheWayBy says plan buffer (with_items made to_come) p last (suc i) image
    split p mid None step rest i image below (inl now) = absurd (let low = low_moments plan next turns later i below in omega (arith, low, now.0, now.1))
    split p mid None step rest i image below (inr after) = subst (λ x. IsOnTheWayBy says plan buffer to_come x last (suc i) image) step (rest.item i image below after)
    split p mid (Some made) step rest zero image below (inl now) = absurd (omega (arith, now.0, now.1))
    split p mid (Some made) step rest (suc i) image below (inl now) = absurd (let low = low_moments plan next turns later i (omega (arith, below)) in omega (arith, low, now.0, now.1))
    split p mid (Some made) step rest zero image below (inr after) = on_with made to_come p mid 0 image step (rest.ever _ image after)
    split p mid (Some made) step rest (suc i) image below (inr after) = on_with made to_come p mid (suc i) image step (rest.item i image (omega (arith, below)) after)

pub with_step : (plan : Plan) (made : Option Item) (buffer : Buffers) (p mid q : Place) (items : List Item) → MaybeStep plan buffer made p mid → Legal plan buffer items mid q → Legal plan buffer (with_items made items) p q
with_step plan None buffer p mid q items step legal = subst (λ x. Legal plan buffer items x q) step legal
with_step plan (Some made) buffer p mid q items step legal = (mid, step, legal)

-- ----------------------------------------------------------------------------------------------------------------
-- A run.

module _ (plan : Plan) (says : Flat → Contents → Type 0) (IsGood : Session → Disk → Flat → Type 0) (IsFine : Session → Turned → Type 0)
    (now : (s : Session) (d : Disk) (p : Place) (k : IsAt plan s d p) → IsGood s d k.flat → (image : Contents) → IsCut plan.sizes d.may image → says k.flat image)
    (on : (s : Session) (d e : Disk) (p : Place) (k : IsAt plan s d p) (turn : Turned) (is : IsTurn plan s turn) (does : DoesTurn plan s turn d e)
    → IsFine s turn → IsGood s d k.flat → IsGood (after_turn plan s turn) e (turn_advances plan s d e p k turn is does).at.flat) where
  abbrev pub AreFine : Session → List Turned → Type 0
  AreFine s [] = Unit {0}
  AreFine s (turn ∷ turns) = IsFine s turn × AreFine (after_turn plan s turn) turns

  pub run_leads : (s : Session) (calls : ℕ) (d e : Disk) (turns : List Turned) (p : Place) (k : IsAt plan s d p) → IsGood s d k.flat
      → (run : Runs plan s d turns e) → AreFine s turns → RunLeads says plan s calls d e turns p run
  run_leads s calls d e [] p k good run fine = record {
    place = p;
    at = subst (λ x. IsAt plan s x p) (sym run) k;
    legal = λ buffer agrees. refl;
    ever = λ buffer agrees since image cut. here plan s d p k says buffer [] p image refl (now s d p k good image cut);
    item = λ buffer agrees i image below cut. absurd (omega (arith, below));
    end = λ none image cut.
        let same : k.flat ≡ p.flat = nothing_lags plan s d p k none in
        subst (λ f. says f image) same (now s d p k good image (subst (λ (x : Disk). IsCut plan.sizes x.may image) run cut));
  }
  run_leads s calls d e (turn ∷ turns) p k good run fine =
      let step = turn_advances plan s d run.1 p k turn run.0 run.2 in
      let rest = run_leads (after_turn plan s turn) (calls + calls_in (call_in plan s turn)) run.1 e turns step.place step.at (on s d run.1 p k turn run.0 run.2 fine.0 good) run.3 fine.1 in
      let back = agrees_back plan (after_turn plan s turn) run.1 e turns step.place step.at run.3 in
      let later = journal_of plan (after_turn plan s turn) turns in
      let legal = λ (buffer : Buffers) (agrees : Agrees plan (session_after plan (after_turn plan s turn) turns) buffer). with_step plan (item_in plan s turn) buffer p step.place rest.place later (step.step buffer (back buffer agrees)) (rest.legal buffer agrees) in
      record {
        place = rest.place;
        at = rest.at;
        legal = legal;
        ever = λ buffer agrees since image cut. elim cut [
          | inl before ↦ here plan s d p k says buffer (journal_of plan s (turn ∷ turns)) rest.place image (legal buffer agrees) (now s d p k good image before.2)
          | inr after ↦ on_the_way says plan buffer rest.place (item_in plan s turn) later p step.place 0 image (step.step buffer (back buffer agrees)) (rest.ever buffer agrees since image after)
        ];
        item = λ buffer agrees i image below cut. split says plan buffer rest.place s calls d e turn turns run p step.place (item_in plan s turn) (step.step buffer (back buffer agrees)) (record { ever = rest.ever buffer agrees; item = rest.item buffer agrees }) i image below cut;
        end = rest.end;
      }

-- ----------------------------------------------------------------------------------------------------------------

-- nothing is to be shown of a turn
stands_now : (plan : Plan) (s : Session) (d : Disk) (p : Place) (k : IsAt plan s d p) → Unit {0} → (image : Contents)
    → IsCut plan.sizes d.may image → StandsFor plan.sizes k.flat image
stands_now plan s d p k good image cut = machine_cut plan.sizes s.memory d.now d.may k.flat image k.stands cut

ahead_now : (plan : Plan) (s : Session) (d : Disk) (p : Place) (k : IsAt plan s d p) → IsLed plan.sizes s.memory d.now d.may k.flat
    → (image : Contents) → IsCut plan.sizes d.may image → StandsAhead plan.sizes k.flat image
ahead_now plan s d p k led image cut = (
  machine_cut plan.sizes s.memory d.now d.may k.flat image k.stands cut,
  λ magic. led_is_ahead plan.sizes s.memory d.now d.may k.flat k.stands led image cut (inr magic),
)

led_on : (plan : Plan) (s : Session) (d e : Disk) (p : Place) (k : IsAt plan s d p) (turn : Turned) (is : IsTurn plan s turn)
    (does : DoesTurn plan s turn d e) → (reply_in turn ≡ Failed → call_in plan s turn ≡ None)
    → IsLed plan.sizes s.memory d.now d.may k.flat
    → IsLed plan.sizes (after_turn plan s turn).memory e.now e.may (turn_advances plan s d e p k turn is does).at.flat
led_on plan s d e p k turn is does fine led = (turn_advances plan s d e p k turn is does).led fine led

are_fine : (plan : Plan) (s : Session) (turns : List Turned) → NoneFails plan s turns
    → AreFine plan (StandsAhead plan.sizes) (λ s d f. IsLed plan.sizes s.memory d.now d.may f) (λ s turn. reply_in turn ≡ Failed → call_in plan s turn ≡ None) (ahead_now plan) (led_on plan) s turns
are_fine plan s [] fine = tt
are_fine plan s (turn ∷ turns) fine = (fine.0, are_fine plan (after_turn plan s turn) turns fine.1)

always_fine : (plan : Plan) (s : Session) (turns : List Turned) → AreFine plan (StandsFor plan.sizes) (λ s d f. Unit {0}) (λ s turn. Unit {0}) (stands_now plan) (λ s d e p k turn is does fine good. tt) s turns
always_fine plan s [] = tt
always_fine plan s (turn ∷ turns) = (tt, always_fine plan (after_turn plan s turn) turns)

pub cuts_are_on_the_way : CutsAreOnTheWay
cuts_are_on_the_way plan s calls d e turns p k run =
    run_leads plan (StandsFor plan.sizes) (λ s d f. Unit {0}) (λ s turn. Unit {0}) (stands_now plan) (λ s d e p k turn is does fine good. tt) s calls d e turns p k tt run (always_fine plan s turns)

pub cuts_are_ahead : CutsAreAhead
cuts_are_ahead plan s calls d e turns p k led run fine =
    run_leads plan (StandsAhead plan.sizes) (λ s d f. IsLed plan.sizes s.memory d.now d.may f) (λ s turn. reply_in turn ≡ Failed → call_in plan s turn ≡ None)
    (ahead_now plan) (led_on plan) s calls d e turns p k led run (are_fine plan s turns fine)
