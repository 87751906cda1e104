-- Where a session leads that was loaded over a device, in what its callers see of it.
use Rattle.std.proofs.Common.{◌≡◌, ℕ, zero, suc, ◌+◌, ◌-◌, ◌^◌, ◌<◌, ◌≤◌, ◌++◌, List, [], ◌∷◌, length, map, Option, Some, None, arith, refl, sym, ap, ◌∙◌, subst, inl, inr}
use Rattle.std.specs.Prelude.{slice_index_or}
use Rattle.bow_units.specs.Causes.{Rose}
use Rattle.bow_units.specs.Draws.{next_number}
use Rattle.bow_units.specs.declared.sizes.Geometry.{Geometry}
use Rattle.bow_disk.specs.Disk.{Content, IsCrash, IsShaped, IsImage}
use Rattle.bow_chain.specs.Contents.{Contents, contents_of}
use Rattle.bow_flat.specs.Flat.{Flat}
use Rattle.bow_guard.specs.Cuts.{candidates_of}
use Rattle.bow_guard.specs.Standing.{StandsFor}
use Rattle.bow_queue.specs.declared.tickets.Ticket.{Ticket}
use Rattle.bow_machine.specs.Ahead.{IsLed}
use Rattle.bow_machine.specs.Calls.{Call, Reply, Failed}
use Rattle.bow_machine.specs.Memory.{Memory}
use Rattle.bow_machine.specs.MemoryIsSound.{MemoryIsSound}
use Rattle.bow_machine.specs.Standing.{IsStanding}
use Rattle.bow_core.specs.Calls.{HasFault}
use Rattle.bow_core.specs.Further.{LedIn, LedOver}
use Rattle.bow_core.specs.Standing.{StandsOver}
use Rattle.bow_core.specs.Views.{View}
use Rattle.bow_history.specs.declared.items.Item.{Item}
use Rattle.bow_history.specs.Cuts.{IsOnTheWayBy, NoneFails}
use Rattle.bow_history.specs.DiskCuts.{disk_of, DiskLeads, StandsAheadToo}
use Rattle.bow_history.specs.Fits.{Agrees, AgreesInHand}
use Rattle.bow_history.specs.Histories.{session_after, journal_of, moments_of, with_item, with_items, calls_in}
use Rattle.bow_history.specs.Journal.{Plan, Buffers, beginning, Legal}
use Rattle.bow_history.specs.Legality.{IsReadyFor}
use Rattle.bow_history.specs.Promises.{held}
use Rattle.bow_history.specs.Sessions.{Session, Turned, Admits, Steps, after_turn, call_in, reply_in, item_in}
use Rattle.bow_history.specs.SoundSessions.{IsSoundSession}
use Rattle.bow_history.proofs.Cutting.{midway}
use Rattle.bow_history.proofs.DiskCuts.{moments_shift}
use Rattle.bow_history.proofs.Runs.{nothing_lags}
use Rattle.bow_script.specs.declared.scripts.Line.{Line}
use Rattle.bow_session.specs.Loading.{loaded}
use Rattle.bow_session.specs.Leads.{StaysBelow, WasLoaded, BeginsAt, LeadsFrom, taken_by}
use Rattle.bow_session.specs.Requests.{lanes_of}
use Rattle.bow_session.specs.Plays.{Plays}
use Rattle.bow_session.specs.Runs.{IsRun, begun_over}
use Rattle.bow_session.specs.Sessions.{Run, IsOver, plan_in, state_in}
use Rattle.bow_session.specs.Turns.{IsOneTurn, PassesTurn}
use Rattle.bow_session.proofs.Loaded.{loaded_is_run}
use Rattle.bow_session.proofs.Cutting.{plan_stays, loaded_cuts, cuts_on, runs_lead, runs_lead_ahead, nothing_left}
use Rattle.bow_session.proofs.Running.{run_on}
use Rattle.bow_session.proofs.Taking.{turn_takes}

-- ----------------------------------------------------------------------------------------------------------------
-- Calls that fail.

pub none_fails_push : (plan : Plan) (s : Session) (turns : List Turned) (turn : Turned) → NoneFails plan s turns
    → (reply_in turn ≡ Failed → call_in plan (session_after plan s turns) turn ≡ None) → NoneFails plan s (turns ++ turn ∷ [])
none_fails_push plan s [] turn fine last = (last, tt)
none_fails_push plan s (t ∷ turns) turn fine last = (fine.0, none_fails_push plan (after_turn plan s t) turns turn fine.1 last)

-- where the count did not rise, a call that failed was none
pub no_call : (call : Option Call) (reply : Reply) (before now : ℕ) → HasFault call reply before now → StaysBelow before now → reply ≡ Failed → call ≡ None
no_call None reply before now h low failed = refl
no_call (Some c) reply before now h low failed = absurd (low (subst (λ r. HasFault (Some c) r before now) failed h))

pub rose_later : (first before now : ℕ) → first ≤ before → Rose before now → Rose first now
rose_later first before now low rose = omega (arith, low, rose)

pub rose_then : (first before now : ℕ) → before ≤ now → Rose first before → Rose first now
rose_then first before now low rose = omega (arith, low, rose)

module _ {D : Type 0} (stated : D → Option Geometry) (content : D → Option Content) (moment : D → ℕ) (left : D → ℕ → List (List ℕ) → Type 0) (faults : D → ℕ) where
  faults_later : (old : Run D) (turn : Turned) (core : View D) → PassesTurn stated content moment left faults old turn core → faults old.core.disk ≤ faults core.disk
  faults_later old (Admits lane ticket op) core passes = let same = ap faults passes.0 in omega (arith, same)
  faults_later old (Steps actor reply) core made = made.later

  fine_turn : (old : Run D) (turn : Turned) (core : View D) → PassesTurn stated content moment left faults old turn core → StaysBelow (faults old.core.disk) (faults core.disk)
      → reply_in turn ≡ Failed → call_in (plan_in old) (state_in old) turn ≡ None
  fine_turn old (Admits lane ticket op) core passes low failed = refl
  fine_turn old (Steps actor reply) core made low failed = no_call (call_in (plan_in old) (state_in old) (Steps actor reply)) reply (faults old.core.disk) (faults core.disk) made.cause low failed

  module _ (shaped : (d : D) (c : Content) → content d ≡ Some c → (g : Geometry) → stated d ≡ Some g → IsShaped g.block_size g.blocks c)
      (only_now : (d : D) (c : Content) → content d ≡ Some c → (t : ℕ) (image : List (List ℕ)) → moment d ≤ t → left d t image → IsCrash c.candidates image) where
    -- a session before its first turn
    pub loaded_fresh : (core : View D) (script : List (List (List Line))) → MemoryIsSound core.geometry core.memory → core.memory.requests ≡ [] → core.calls ≤ 2 ^ 64 - 1 → stated core.disk ≡ Some core.geometry
        → WasLoaded stated content moment left faults core (loaded core script)
    loaded_fresh core script sound idle early sizes = record {
      turns = [];
      run = loaded_is_run stated content faults core script sound idle early sizes;
      cuts = loaded_cuts stated content moment left faults shaped only_now (loaded core script) sizes;
      sizes = refl;
      sound = sound;
      idle = idle;
      later = omega arith;
      fine = λ low. tt;
      admitted = omega arith;
    }

    -- what was loaded stays so with one turn
    pub loaded_on : (first : View D) (old : Run D) (turn : Turned) (new : Run D) → WasLoaded stated content moment left faults first old → IsOneTurn stated content moment left faults old turn new
        → WasLoaded stated content moment left faults first new
    loaded_on first old turn new k one = record {
      turns = k.turns ++ turn ∷ [];
      run = run_on stated content moment left faults shaped first k.turns old turn new k.run one;
      cuts = cuts_on stated content moment left faults shaped only_now first k.turns old turn new k.run one k.cuts;
      sizes = k.sizes ∙ sym one.geometry;
      sound = subst (λ g. MemoryIsSound g first.memory) (sym one.geometry) k.sound;
      idle = k.idle;
      later = omega (arith, k.later, later);
      fine = λ low. subst (λ p. NoneFails p (begun_over first) (k.turns ++ turn ∷ [])) (sym (plan_stays stated content moment left faults old turn new one)) (
          none_fails_push (plan_in old) (begun_over first) k.turns turn (k.fine (λ rose. low (rose_then (faults first.disk) (faults old.core.disk) (faults new.core.disk) later rose)))
          (subst (λ s. reply_in turn ≡ Failed → call_in (plan_in old) s turn ≡ None) (sym (k.run).state)
          (fine_turn old turn new.core one.passes (λ rose. low (rose_later (faults first.disk) (faults old.core.disk) (faults new.core.disk) k.later rose))))
          );
      admitted =
          let taken = turn_takes (plan_in old) (state_in old) turn first.admitted one.may k.admitted in
          let state : state_in new ≡ after_turn (plan_in old) (state_in old) turn = one.state in
          subst (λ (s : List (List (List Line))). new.core.admitted ≤ first.admitted + taken_by (state_in new) (lanes_of s)) (sym one.script)
          (subst (λ (s : Session). s.admitted ≤ first.admitted + taken_by s (lanes_of old.script)) (sym state) taken);
    }
      where
        later : faults old.core.disk ≤ faults new.core.disk
        later = faults_later old turn new.core one.passes

    -- and with all turns of a schedule
    pub loaded_plays : (first : View D) (x : ℕ) (old : Run D) (more : List Turned) (new : Run D) → WasLoaded stated content moment left faults first old → Plays stated content moment left faults x old more new
        → WasLoaded stated content moment left faults first new
    loaded_plays first x old [] new k plays = subst (WasLoaded stated content moment left faults first) (sym plays) k
    loaded_plays first x old (turn ∷ more) new k plays =
        loaded_plays first (next_number x) plays.0 more new (loaded_on first old turn plays.0 k plays.2) plays.3

-- ----------------------------------------------------------------------------------------------------------------
-- Moments.

slice_map : (f : ℕ → ℕ) (xs : List ℕ) (i : ℕ) → i < length xs → slice_index_or (map f xs) i 0 ≡ f (slice_index_or xs i 0)
slice_map f [] i inside = absurd (omega (arith, inside))
slice_map f (x ∷ xs) zero inside = refl
slice_map f (x ∷ xs) (suc i) inside = slice_map f xs i (omega (arith, inside))

-- each item has a moment
pub as_many : (plan : Plan) (s : Session) (calls : ℕ) (turns : List Turned) → length (moments_of plan s calls turns) ≡ length (journal_of plan s turns)
as_many plan s calls [] = refl
as_many plan s calls (turn ∷ turns) = by (item_in plan s turn) (as_many plan (after_turn plan s turn) (calls + calls_in (call_in plan s turn)) turns)
  where
    by : (item : Option Item) → length (moments_of plan (after_turn plan s turn) (calls + calls_in (call_in plan s turn)) turns) ≡ length (journal_of plan (after_turn plan s turn) turns)
        → length (with_item item (calls + calls_in (call_in plan s turn)) (moments_of plan (after_turn plan s turn) (calls + calls_in (call_in plan s turn)) turns)) ≡ length (with_items item (journal_of plan (after_turn plan s turn) turns))
    by None rest = rest
    by (Some item) rest = ap suc rest

-- the moment of an item by the disk's clock, where the device's count was not at its last value
by_clock : (plan : Plan) (s : Session) (turns : List Turned) (moments : List ℕ) (clock before calls i : ℕ) → clock ≡ before + calls → moments ≡ map held (moments_of plan s calls turns)
    → i < length (journal_of plan s turns) → slice_index_or moments i 0 < 2 ^ 64 - 1
    → before + slice_index_or moments i 0 ≡ slice_index_or (moments_of plan s clock turns) i 0
by_clock plan s turns moments clock before calls i is kept inside low =
    let many = as_many plan s calls turns in
    let below : i < length (moments_of plan s calls turns) = omega (arith, inside, many) in
    let here : slice_index_or moments i 0 ≡ held (slice_index_or (moments_of plan s calls turns) i 0) = ap (λ (l : List ℕ). slice_index_or l i 0) kept ∙ slice_map held (moments_of plan s calls turns) i below in
    let not_last : slice_index_or moments i 0 ≡ slice_index_or (moments_of plan s calls turns) i 0 = omega (arith, here, low) in
    let shifted : slice_index_or (moments_of plan s clock turns) i 0 ≡ before + slice_index_or (moments_of plan s calls turns) i 0 =
    ap (λ (n : ℕ). slice_index_or (moments_of plan s n turns) i 0) is ∙ ap (λ (l : List ℕ). slice_index_or l i 0) (moments_shift plan s before calls turns) ∙ slice_map (λ n. before + n) (moments_of plan s calls turns) i below in
    omega (arith, not_last, shifted)

-- ----------------------------------------------------------------------------------------------------------------
-- Where it leads.

pub same_content : (o : Option Content) (x y : Content) → o ≡ Some x → o ≡ Some y → x ≡ y
same_content o x y here there = let e : Some x ≡ Some y = sym here ∙ there in cc e

module _ {D : Type 0} (stated : D → Option Geometry) (content : D → Option Content) (moment : D → ℕ) (left : D → ℕ → List (List ℕ) → Type 0) (faults : D → ℕ) where
  -- what a run over the disk leads to, as the session keeps it
  module _ (says : Flat → Contents → Type 0) (first : View D) (f : Flat) (v : Run D) (turns : List Turned) (run : IsRun stated content faults first turns v)
      (w : DiskLeads content moment left says first.disk v.core.disk (plan_in v) (begun_over first) turns (beginning f)) where
    own : (buffer : Buffers) → Agrees (plan_in v) (state_in v) buffer → Agrees (plan_in v) (session_after (plan_in v) (begun_over first) turns) buffer
    own buffer agrees = subst (λ s. Agrees (plan_in v) s buffer) (sym run.state) agrees

    journal_is : journal_of (plan_in v) (begun_over first) turns ≡ v.journal
    journal_is = sym (run.session).journal

    memory_is : (session_after (plan_in v) (begun_over first) turns).memory ≡ v.core.memory
    memory_is = ap (λ (s : Session). s.memory) run.state

    none_there : v.core.memory.requests ≡ [] → (session_after (plan_in v) (begun_over first) turns).memory.requests ≡ []
    none_there none = ap (λ (m : Memory). m.requests) memory_is ∙ none

    stands_now : IsStanding v.core.geometry v.core.memory (contents_of (w.last).now) (candidates_of (w.last).candidates) ((w.at).flat)
    stands_now = subst (λ (m : Memory). IsStanding v.core.geometry m (contents_of (w.last).now) (candidates_of (w.last).candidates) ((w.at).flat)) memory_is (w.at).stands

    standing : v.core.memory.requests ≡ [] → IsStanding v.core.geometry v.core.memory (contents_of (w.last).now) (candidates_of (w.last).candidates) (w.place).flat
    standing none =
        subst (IsStanding v.core.geometry v.core.memory (contents_of (w.last).now) (candidates_of (w.last).candidates)) (nothing_lags (plan_in v) (session_after (plan_in v) (begun_over first) turns) (disk_of w.last) w.place w.at (none_there none))
        stands_now

    way : (buffer : Buffers) (n : ℕ) (image : Contents) → IsOnTheWayBy says (plan_in v) buffer (journal_of (plan_in v) (begun_over first) turns) (beginning f) w.place n image
        → IsOnTheWayBy says (plan_in v) buffer v.journal (beginning f) w.place n image
    way buffer n image on = subst (λ (j : List Item). IsOnTheWayBy says (plan_in v) buffer j (beginning f) w.place n image) journal_is on

    pub from_run : LeadsFrom content moment left says first f v
    from_run = record {
      place = w.place;
      legal = λ buffer agrees. subst (λ (j : List Item). Legal (plan_in v) buffer j (beginning f) w.place) journal_is (w.legal buffer (own buffer agrees));
      state = (w.at).flat;
      device = subst (λ o. StandsOver v.core.geometry v.core.memory o ((w.at).flat)) (sym w.tells) stands_now;
      midway = midway (plan_in v) (session_after (plan_in v) (begun_over first) turns) (disk_of w.last) w.place w.at;
      stands = λ none. subst (λ o. StandsOver v.core.geometry v.core.memory o (w.place).flat) (sym w.tells) (standing none);
      end = λ none c is image crash. w.end (none_there none) image (subst (λ (x : Content). IsCrash x.candidates image) (same_content (content v.core.disk) c w.last is w.tells) crash);
      ever = λ buffer agrees since image late now. way buffer 0 (contents_of image) (w.ever buffer (own buffer agrees) since image late now);
      early = λ buffer agrees since image low now. elim (w.early buffer (own buffer agrees) since image low now) [
        | inl before ↦ inl before
        | inr on ↦ inr (way buffer 0 (contents_of image) on)
      ];
      item = λ buffer agrees before i image clock inside low now.
          let there : i < length (journal_of (plan_in v) (begun_over first) turns) = (let e = ap (λ (j : List Item). length j) journal_is in omega (arith, inside, e)) in
          way buffer (suc i) (contents_of image) (w.item buffer (own buffer agrees) i image there
          (subst (λ t. left v.core.disk t image) (by_clock (plan_in v) (begun_over first) turns v.moments (moment first.disk) before first.calls i clock (run.session).moments there low) now));
    }

  -- the device with which the journal begins
  pub begins : (first : View D) (f : Flat) (v : Run D) → WasLoaded stated content moment left faults first v → BeginsAt content (plan_in v) first f
      → (c : Content) × (content first.disk ≡ Some c) × IsReadyFor (plan_in v) first.memory (disk_of c) f
  begins first f v k at = by (content first.disk) refl at.0
    where
      by : (o : Option Content) → content first.disk ≡ o → StandsOver first.geometry first.memory o f → (c : Content) × (content first.disk ≡ Some c) × IsReadyFor (plan_in v) first.memory (disk_of c) f
      by None is stands = absurd stands
      by (Some c) is stands = (
        c,
        is,
        record {
          stands = subst (λ g. IsStanding g first.memory (contents_of c.now) (candidates_of c.candidates) f) k.sizes stands;
          none = k.idle;
          untouched = at.1;
        },
      )

  pub led_there : (first : View D) (f : Flat) (g : Geometry) (c : Content) → first.geometry ≡ g → content first.disk ≡ Some c → LedIn content first f → IsLed g first.memory (contents_of c.now) (candidates_of c.candidates) f
  led_there first f g c sizes is led = subst (λ (h : Geometry). LedOver h first.memory (Some c) f) sizes (subst (λ o. LedOver first.geometry first.memory o f) is led)

  module _ (shaped : (d : D) (c : Content) → content d ≡ Some c → (g : Geometry) → stated d ≡ Some g → IsShaped g.block_size g.blocks c)
      (only_now : (d : D) (c : Content) → content d ≡ Some c → (t : ℕ) (image : List (List ℕ)) → moment d ≤ t → left d t image → IsCrash c.candidates image) where
    pub leads_from : (first : View D) (f : Flat) (v : Run D) → WasLoaded stated content moment left faults first v → BeginsAt content (plan_in v) first f
        → LeadsFrom content moment left (StandsFor v.core.geometry) first f v
    leads_from first f v k at =
        let b = begins first f v k at in
        from_run (StandsFor v.core.geometry) first f v k.turns k.run (runs_lead stated content moment left faults shaped only_now first k.turns v b.0 f k.cuts b.1 b.2)

    pub leads_unfailed : (cuts_shaped : (d : D) (c : Content) → content d ≡ Some c → (g : Geometry) → stated d ≡ Some g → (t : ℕ) (image : List (List ℕ)) → left d t image → IsImage g.block_size g.blocks image)
        → (first : View D) (f : Flat) (v : Run D) (k : WasLoaded stated content moment left faults first v) → BeginsAt content (plan_in v) first f → LedIn content first f
        → NoneFails (plan_in v) (begun_over first) k.turns → LeadsFrom content moment left (StandsAheadToo v.core.geometry) first f v
    leads_unfailed cuts_shaped first f v k at led fine =
        let b = begins first f v k at in
        from_run (StandsAheadToo v.core.geometry) first f v k.turns k.run
        (runs_lead_ahead stated content moment left faults shaped only_now cuts_shaped first k.turns v b.0 f k.run k.cuts b.1 b.2 (led_there first f v.core.geometry b.0 k.sizes b.1 led) fine)

    pub leads_ahead : (cuts_shaped : (d : D) (c : Content) → content d ≡ Some c → (g : Geometry) → stated d ≡ Some g → (t : ℕ) (image : List (List ℕ)) → left d t image → IsImage g.block_size g.blocks image)
        → (first : View D) (f : Flat) (v : Run D) → WasLoaded stated content moment left faults first v → BeginsAt content (plan_in v) first f → LedIn content first f
        → StaysBelow (faults first.disk) (faults v.core.disk) → LeadsFrom content moment left (StandsAheadToo v.core.geometry) first f v
    leads_ahead cuts_shaped first f v k at led low = leads_unfailed cuts_shaped first f v k at led (k.fine low)

-- ----------------------------------------------------------------------------------------------------------------
-- At the end.

-- the buffers are those of the answered requests alone
pub kept_agrees : {D : Type 0} (v : Run D) → IsSoundSession (plan_in v) (state_in v) → IsOver v → Agrees (plan_in v) (state_in v) (state_in v).kept
kept_agrees {D} v sound over = record {
  before = λ lane n below. refl;
  there = λ lane. subst (AgreesInHand v.core.geometry v.core.memory.requests ((state_in v).kept lane ((state_in v).number lane))) (sym (free lane ((state_in v).hand lane) refl)) tt;
}
  where
    free : (lane : ℕ) (o : Option Ticket) → (state_in v).hand lane ≡ o → (state_in v).hand lane ≡ None
    free lane None is = is
    free lane (Some t) is =
        let seat = (sound.seated).each lane t is in
        absurd (let none = nothing_left v over lane in let clash : None ≡ Some (seat.asked) = sym none ∙ seat.next in grind (arith, clash))
