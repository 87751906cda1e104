-- Where a play has led, and what cuts of it leave: what follows for a session that is over from how it began.
use Rattle.std.proofs.Common.{◌≡◌, ◌⊎◌, inl, inr, ℕ, suc, ◌+◌, ◌-◌, ◌^◌, ◌<◌, ◌≤◌, min, max, zero, List, [], ◌∷◌, length, map, Option, Some, None, arith, refl, sym, ap, ◌∙◌, subst}
use Rattle.std.specs.Prelude.{slice_index_or}
use Rattle.std.specs.List.{sum_by}
use Rattle.bow_units.proofs.Bytes.{byte_at}
use Rattle.bow_units.specs.Causes.{Rose}
use Rattle.bow_units.specs.Magics.{IsPlain}
use Rattle.bow_units.specs.Sizes.{IsValid}
use Rattle.bow_units.specs.declared.sizes.Geometry.{Geometry}
use Rattle.bow_disk.specs.Disk.{Content, IsCrash, IsImage, IsShaped}
use Rattle.bow_disk.specs.Moments.{Tells}
use Rattle.bow_disk.proofs.Moments.{goes_told}
use Rattle.bow_disk.proofs.Settling.{cut_settled}
use Rattle.bow_chain.specs.Contents.{Contents, contents_of}
use Rattle.bow_flat.specs.Flat.{Flat, opening}
use Rattle.bow_guard.specs.Standing.{StandsFor}
use Rattle.bow_guard.specs.Cuts.{candidates_of}
use Rattle.bow_machine.specs.Standing.{IsStanding}
use Rattle.bow_machine.proofs.Ahead.{log_has_magic}
use Rattle.bow_core.specs.Openings.{KeepsImage}
use Rattle.bow_core.specs.Standing.{StandsIn, StandsOver}
use Rattle.bow_core.specs.Views.{View}
use Rattle.bow_history.specs.DiskCuts.{HasCuts, StandsAheadToo, disk_of}
use Rattle.bow_history.specs.Fits.{Agrees}
use Rattle.bow_history.specs.Histories.{Disk, LeftSince, Runs, calls_in, journal_of, moments_of}
use Rattle.bow_history.specs.Journal.{Legal, Place, Plan, beginning}
use Rattle.bow_history.specs.Promises.{faults_in, held}
use Rattle.bow_history.specs.Sessions.{Session, Turned, after_turn, call_in}
use Rattle.bow_history.proofs.Cutting.{low_moments}
use Rattle.bow_session.specs.Leads.{BeginsAt, LeadsFrom, StaysBelow, WasLoaded}
use Rattle.bow_session.specs.Runs.{begun_over}
use Rattle.bow_session.specs.Sessions.{Run, plan_in, state_in}
use Rattle.bow_session.proofs.Leading.{leads_ahead, leads_from}
use Rattle.bow_play.specs.Beginning.{HasBegun, OpenedOn}
use Rattle.bow_play.specs.Leading.{PlayLeads, IsOnWay, CanLeave, read_in}
use Rattle.bow_play.specs.Playing.{IsRunOn}
use Rattle.bow_play.proofs.Runs.{begins_at}

-- the clock of an opened disk went on by two, or stands at its last value
clock_of : (before now : ℕ) → now ≡ max before (min (before + 2) (2 ^ 64 - 1)) → (at : ℕ) × (now ≡ at + 2) × (at ≤ before)
clock_of before now counted = (now - 2, omega (arith, counted), omega (arith, counted))

-- the count of faults was lower before the opening
pub rose_before : (a b d : ℕ) → a ≤ b → Rose b d → Rose a d
rose_before a b d le rose = omega (arith, le, rose)

pub faults_more : (before first told now : ℕ) → before ≤ first → held (first + told) ≤ now → held (before + told) ≤ now
faults_more before first told now le most = omega (arith, le, most)

-- ----------------------------------------------------------------------------------------------------------------
-- The image of the opening.

-- it stands for the opening state
pub stands_opened : (g : Geometry) (image : List (List ℕ)) → IsPlain (slice_index_or image 0 []) → StandsFor g (opening image) (contents_of image)
stands_opened g image plain = record { plain = plain; each = λ b below. (0, omega arith, refl) }

-- and is ahead for it
pub ahead_opened : (g : Geometry) (image : List (List ℕ)) → 0 < g.blocks → IsImage g.block_size g.blocks image → IsPlain (slice_index_or image 0 []) → StandsAheadToo g (opening image) (contents_of image)
ahead_opened g image some bytes plain = (
  stands_opened g image plain,
  λ log spells. absurd (plain (log_has_magic g (contents_of image 0) log (λ i. byte_at (slice_index_or image 0 []) (bytes.each 0 some).are_bytes i) spells)),
)

-- ----------------------------------------------------------------------------------------------------------------
-- A device that stands.

-- its disk tells its content
pub standing_told : {D : Type 0} (content : D → Option Content) (v : View D) (f : Flat) → StandsIn content v f → Tells content (λ e. IsStanding v.geometry v.memory (contents_of e.now) (candidates_of e.candidates) f) v.disk
standing_told content v f stands = by (content v.disk) refl stands
  where
    by : (o : Option Content) → content v.disk ≡ o → StandsOver v.geometry v.memory o f → Tells content (λ e. IsStanding v.geometry v.memory (contents_of e.now) (candidates_of e.candidates) f) v.disk
    by None at none = absurd none
    by (Some e) at standing = record { told = e; is = at; holds = standing }

-- it leads from the opening, by what its cuts leave
pub leads_on : {D : Type 0} (content : D → Option Content) (moment : D → ℕ) (left : D → ℕ → List (List ℕ) → Type 0)
    (only_now : (d : D) (c : Content) → content d ≡ Some c → (t : ℕ) (image : List (List ℕ)) → moment d ≤ t → left d t image → IsCrash c.candidates image)
    (says : Flat → Contents → Type 0) (old : D) (c : Content) → content old ≡ Some c → (s : Run D) (place : Place) → says (opening c.now) (contents_of c.now)
    → Legal (plan_in s) (read_in s) s.journal (beginning (opening c.now)) place → StandsIn content s.core place.flat
    → ((since : ℕ) (cut : List (List ℕ)) → since ≤ moment old → left s.core.disk since cut → left old since cut ⊎ IsOnWay says c.now s place 0 cut)
    → ((i : ℕ) (cut : List (List ℕ)) → i < length s.journal → slice_index_or s.moments i 0 < 2 ^ 64 - 1 → left s.core.disk (moment old + slice_index_or s.moments i 0) cut → IsOnWay says c.now s place (suc i) cut)
    → ((cut : List (List ℕ)) → CanLeave (content s.core.disk) cut → says place.flat (contents_of cut)) → PlayLeads content moment left says old c s
leads_on content moment left only_now says old c is s place at_first legal stands ever item now = record {
  end = place;
  legal = legal;
  stands = stands;
  phase = ((standing_told content s.core place.flat stands).holds).phases;
  ever = ever;
  item = item;
  now = now;
  settled = λ on cut since_left. elim (ever (moment old) cut (omega arith) since_left) [
    | inl before ↦ at_start cut (cut_settled c.now c on cut (only_now old c is (moment old) cut (omega arith) before))
    | inr way ↦ way
  ];
}
  where
    at_start : (cut : List (List ℕ)) → cut ≡ c.now → IsOnWay says c.now s place 0 cut
    at_start cut same = record {
      front = 0;
      has = omega arith;
      within = omega arith;
      place = beginning (opening c.now);
      before = refl;
      after = legal;
      flat = opening c.now;
      midway = inl refl;
      stands = subst (λ i. says (opening c.now) (contents_of i)) (sym same) at_first;
    }

-- ----------------------------------------------------------------------------------------------------------------
-- The session that is over.

held_at : (ms : List ℕ) (i : ℕ) → slice_index_or (map held ms) i 0 ≡ held (slice_index_or ms i 0)
held_at [] i = refl
held_at (m ∷ ms) zero = refl
held_at (m ∷ ms) (suc i) = held_at ms i

-- a cut since a later moment is one since an earlier one
left_before : (plan : Plan) (s : Session) (calls : ℕ) (d : Disk) (turns : List Turned) (e : Disk) (run : Runs plan s d turns e) (since later : ℕ) (image : Contents) → since ≤ later
    → LeftSince plan s calls d turns e run later image → LeftSince plan s calls d turns e run since image
left_before plan s calls d [] e run since later image low left = left
left_before plan s calls d (turn ∷ turns) e run since later image low (inl now) = inl (omega (arith, low, now.0), now.1, now.2)
left_before plan s calls d (turn ∷ turns) e run since later image low (inr rest) =
    inr (left_before plan (after_turn plan s turn) (calls + calls_in (call_in plan s turn)) run.1 turns e run.3 since later image low rest)

-- what the disk told once the device was opened
opened_told : {D : Type 0} (stated : D → Option Geometry) (content : D → Option Content) (moment : D → ℕ) (left : D → ℕ → List (List ℕ) → Type 0) (faults : D → ℕ) (old new : D) (c : Content) → content old ≡ Some c
    → KeepsImage stated content moment left faults old new → Tells content (λ d. d.now ≡ c.now) new
opened_told stated content moment left faults old new c is kept = goes_told content (λ c d. d.now ≡ c.now) old new c is kept.image

module _ {D : Type 0} (stated : D → Option Geometry) (content : D → Option Content) (moment : D → ℕ) (left : D → ℕ → List (List ℕ) → Type 0) (faults : D → ℕ)
    (old : D) (begun : Run D) (b : HasBegun stated content moment left faults old begun) (s : Run D) (k : WasLoaded stated content moment left faults b.first s) where
  abbrev first : View D
  first = b.first

  pub ran_on : IsRunOn stated content moment left faults old s
  ran_on = record { first = b.first; turns = k.turns; fresh = b.fresh; opened = b.opened; sizes = k.sizes; run = k.run }

  pub sizes_told : (stated s.core.disk ≡ Some s.core.geometry) × IsValid s.core.geometry
  sizes_told = ((k.run).sizes, subst IsValid k.sizes b.valid)

  pub faults_told : held (faults old + sum_by faults_in s.journal) ≤ faults s.core.disk
  faults_told = faults_more (faults old) (faults first.disk) (sum_by faults_in s.journal) (faults s.core.disk) (b.opened).later ((k.run).session).faults

  -- each item's moment is after the opening's two calls
  moment_low : (i : ℕ) → i < length s.journal → 2 ≤ slice_index_or s.moments i 0
  moment_low i below =
      let run = k.run in
      let inside : i < length (journal_of (plan_in s) (begun_over first) k.turns) = subst (λ j. i < length j) (run.session).journal below in
      let high = low_moments (plan_in s) (begun_over first) k.turns first.calls i inside in
      let one : slice_index_or s.moments i 0 ≡ held (slice_index_or (moments_of (plan_in s) (begun_over first) first.calls k.turns) i 0) =
      ap (λ ms. slice_index_or ms i 0) (run.session).moments ∙ held_at (moments_of (plan_in s) (begun_over first) first.calls k.turns) i in
      omega (arith, one, high, (b.fresh).calls)

  -- the disk's clock may stand at its last value: since the opening, what was left since a later moment counts as left
  -- since an earlier one
  abbrev left_too : D → ℕ → List (List ℕ) → Type 0
  left_too d t image = left d t image ⊎ ((moment first.disk ≤ t) × ((later : ℕ) × (t ≤ later) × left d later image))

  cuts_too : (c : Content) → HasCuts content moment left first.disk s.core.disk (plan_in s) (begun_over first) k.turns (disk_of c) → HasCuts content moment left_too first.disk s.core.disk (plan_in s) (begun_over first) k.turns (disk_of c)
  cuts_too c h = record {
    last = h.last;
    tells = h.tells;
    listed = h.listed;
    run = h.run;
    counted = h.counted;
    later = h.later;
    left = λ since image late now. elim now [
      | inl here ↦ h.left since image late here
      | inr past ↦ before since past.1.0 image past.1.1 (h.left past.1.0 image (omega (arith, late, past.1.1)) past.1.2)
    ];
    early = λ since image low now. elim now [
      | inl here ↦ elim (h.early since image low here) [ inl was ↦ inl (inl was) | inr run ↦ inr run ]
      | inr past ↦ inr (before (moment first.disk) past.1.0 image (omega (arith, past.0, past.1.1)) (h.left past.1.0 image (omega (arith, past.0, past.1.1)) past.1.2))
    ];
  }
    where
      before : (since later : ℕ) (image : List (List ℕ)) → since ≤ later → LeftSince (plan_in s) (begun_over first) (moment first.disk) (disk_of c) k.turns (disk_of h.last) h.run later (contents_of image)
          → LeftSince (plan_in s) (begun_over first) (moment first.disk) (disk_of c) k.turns (disk_of h.last) h.run since (contents_of image)
      before since later image low was = left_before (plan_in s) (begun_over first) (moment first.disk) (disk_of c) k.turns (disk_of h.last) h.run since later (contents_of image) low was

  loaded_too : WasLoaded stated content moment left_too faults first s
  loaded_too = record {
    turns = k.turns;
    run = k.run;
    cuts = λ c is. cuts_too c (k.cuts c is);
    sizes = k.sizes;
    sound = k.sound;
    idle = k.idle;
    later = k.later;
    fine = k.fine;
    admitted = k.admitted;
  }

  module _ (shaped : (d : D) (c : Content) → content d ≡ Some c → (g : Geometry) → stated d ≡ Some g → IsShaped g.block_size g.blocks c)
      (cuts_shaped : (d : D) (c : Content) → content d ≡ Some c → (g : Geometry) → stated d ≡ Some g → (t : ℕ) (image : List (List ℕ)) → left d t image → IsImage g.block_size g.blocks image)
      (counts_now : (d : D) (c : Content) → content d ≡ Some c → (t : ℕ) (image : List (List ℕ)) → t ≤ moment d → IsCrash c.candidates image → left d t image)
      (only_now : (d : D) (c : Content) → content d ≡ Some c → (t : ℕ) (image : List (List ℕ)) → moment d ≤ t → left d t image → IsCrash c.candidates image)
      (idle : s.core.memory.requests ≡ []) (buffers : Agrees (plan_in s) (state_in s) (read_in s))
      (c : Content) (is : content old ≡ Some c) where
    found : OpenedOn content moment old c first
    found = b.found c is

    only_now_too : (d : D) (e : Content) → content d ≡ Some e → (t : ℕ) (image : List (List ℕ)) → moment d ≤ t → left_too d t image → IsCrash e.candidates image
    only_now_too d e at t image past (inl here) = only_now d e at t image past here
    only_now_too d e at t image old_one (inr past) = only_now d e at past.1.0 image (omega (arith, old_one, past.1.1)) past.1.2

    shaped_too : (d : D) (e : Content) → content d ≡ Some e → (g : Geometry) → stated d ≡ Some g → (t : ℕ) (image : List (List ℕ)) → left_too d t image → IsImage g.block_size g.blocks image
    shaped_too d e at g sizes t image (inl here) = cuts_shaped d e at g sizes t image here
    shaped_too d e at g sizes t image (inr past) = cuts_shaped d e at g sizes past.1.0 image past.1.2

    -- what might have been left of the opened device since a moment before then
    left_first : (since : ℕ) (image : List (List ℕ)) → since ≤ moment first.disk → left_too first.disk since image → left first.disk since image
    left_first since image low (inl here) = here
    left_first since image low (inr past) =
        let told = opened_told stated content moment left faults old first.disk c is b.opened in
        counts_now first.disk told.told told.is since image low (only_now first.disk told.told told.is past.1.0 image (omega (arith, past.0, past.1.1)) past.1.2)

    begins : BeginsAt content (plan_in s) first (opening c.now)
    begins = begins_at content (plan_in s) first c.now b.fresh found.stands

    leads_for : LeadsFrom content moment left_too (StandsFor s.core.geometry) first (opening c.now) s
    leads_for = leads_from stated content moment left_too faults shaped only_now_too first (opening c.now) s loaded_too begins

    -- what is said of images on the way that the session leads
    module _ (says : Flat → Contents → Type 0) (w : LeadsFrom content moment left_too says first (opening c.now) s) (at_first : says (opening c.now) (contents_of c.now)) where
      legal : Legal (plan_in s) (read_in s) s.journal (beginning (opening c.now)) (w.place)
      legal = w.legal (read_in s) buffers

      stands : StandsIn content s.core (w.place).flat
      stands = w.stands idle

      -- the disk tells its content
      told : Tells content (λ e. IsStanding s.core.geometry s.core.memory (contents_of e.now) (candidates_of e.candidates) (w.place).flat) s.core.disk
      told = standing_told content s.core (w.place).flat stands

      now_says : (cut : List (List ℕ)) → CanLeave (content s.core.disk) cut → says (w.place).flat (contents_of cut)
      now_says cut can = w.end idle told.told told.is cut (subst (λ o. CanLeave o cut) told.is can)

      ever : (since : ℕ) (cut : List (List ℕ)) → since ≤ moment old → left s.core.disk since cut → left old since cut ⊎ IsOnWay says c.now s w.place 0 cut
      ever since cut low since_left =
          let kept = (b.opened).cuts c is in
          let early : since ≤ moment first.disk = omega (arith, low, kept.time) in
          elim (w.early (read_in s) buffers since cut early (inl since_left)) [
            | inl before ↦ elim (kept.only since cut low (left_first since cut early before)) [ inl was ↦ inl was | inr none ↦ absurd none ]
            | inr way ↦ inr way
          ]

      item : (i : ℕ) (cut : List (List ℕ)) → i < length s.journal → slice_index_or s.moments i 0 < 2 ^ 64 - 1
          → left s.core.disk (moment old + slice_index_or s.moments i 0) cut → IsOnWay says c.now s w.place (suc i) cut
      item i cut below low since_left =
          let clock = clock_of (moment old) (moment first.disk) found.counted in
          let after : 2 ≤ slice_index_or s.moments i 0 = moment_low i below in
          w.item (read_in s) buffers clock.0 i cut (clock.1 ∙ ap (λ n. clock.0 + n) (sym (b.fresh).calls)) below low
          (inr (omega (arith, clock.1, after), (moment old + slice_index_or s.moments i 0, omega (arith, clock.2), since_left)))

      leads_by : PlayLeads content moment left says old c s
      leads_by = leads_on content moment left only_now says old c is s w.place at_first legal stands ever item now_says

    pub plain : IsPlain (slice_index_or c.now 0 [])
    plain = found.plain

    pub leads : PlayLeads content moment left (StandsFor s.core.geometry) old c s
    leads = leads_by (StandsFor s.core.geometry) leads_for (stands_opened s.core.geometry c.now plain)

    pub ahead : (Rose (faults old) (faults s.core.disk) → ⊥) → PlayLeads content moment left (StandsAheadToo s.core.geometry) old c s
    ahead none =
        let low : StaysBelow (faults first.disk) (faults s.core.disk) = λ rose. none (rose_before (faults old) (faults first.disk) (faults s.core.disk) (b.opened).later rose) in
        let w = leads_ahead stated content moment left_too faults shaped only_now_too shaped_too first (opening c.now) s loaded_too begins found.led low in
        let image : IsImage s.core.geometry.block_size s.core.geometry.blocks c.now = subst (λ (g : Geometry). IsImage g.block_size g.blocks c.now) k.sizes found.image in
        let standing = (told (StandsFor s.core.geometry) leads_for (stands_opened s.core.geometry c.now plain)).holds in
        leads_by (StandsAheadToo s.core.geometry) w (ahead_opened s.core.geometry c.now (omega (arith, (standing.sound).sizes.enough)) image plain)
