-- What a disk tells of cuts since a moment is what a cut of the run leaves.
use Rattle.std.proofs.Common.{ℕ, suc, ◌+◌, ◌-◌, ◌^◌, ◌<◌, ◌≤◌, ◌≡◌, ◌⊎◌, ◌++◌, min, max, List, [], ◌∷◌, length, Option, Some, None, arith, refl, sym, subst, inl, inr, map, ap, ◌∙◌}
use Rattle.std.specs.Prelude.{slice_index_or}
use Rattle.std.proofs.lemmas.Bool.{cases_lt}
use Rattle.bow_units.specs.declared.sizes.Geometry.{Geometry}
use Rattle.bow_units.proofs.Bytes.{byte_at}
use Rattle.bow_disk.specs.Disk.{Content, IsCrash, IsImage, IsShaped, Elapses, TimeGoes}
use Rattle.bow_disk.specs.Shapes.{crash_image}
use Rattle.bow_flat.specs.Flat.{Flat}
use Rattle.bow_guard.specs.Standing.{StandsFor}
use Rattle.bow_machine.proofs.Ahead.{log_has_magic}
use Rattle.bow_chain.specs.Contents.{Contents, contents_of}
use Rattle.bow_guard.specs.Cuts.{candidates_of, IsCut}
use Rattle.bow_machine.specs.Calls.{Call, DoesIt}
use Rattle.bow_history.specs.declared.items.Item.{Item}
use Rattle.bow_history.specs.Journal.{Plan, Buffers, Place}
use Rattle.bow_history.specs.Sessions.{Session, Turned, after_turn, call_in, reply_in, IsTurn, item_in}
use Rattle.bow_history.specs.Histories.{Disk, session_after, journal_of, calls_in, calls_after, moments_of, DoesTurn, Runs, LeftSince, with_item}
use Rattle.bow_history.specs.Cuts.{IsOnTheWayBy, RunLeads, StandsAhead}
use Rattle.bow_history.specs.DiskCuts.{disk_of, Passes, HasCuts, DiskLeads, StandsAheadToo, LoadedHasCuts, TurnsHaveCuts, CutsOfDisk}
use Rattle.bow_history.specs.DiskCuts.{CutsOfDiskAreAhead, MomentsShift}
use Rattle.bow_history.proofs.Cutting.{cuts_are_on_the_way, cuts_are_ahead, low_moments}
use Rattle.bow_history.proofs.Lists.{one_of}
use Rattle.bow_history.proofs.Sessions.{calls_push}

-- a run, and one turn more
abbrev pub run_push : (plan : Plan) (s : Session) (d e x : Disk) (turns : List Turned) (turn : Turned) → Runs plan s d turns e → IsTurn plan (session_after plan s turns) turn → DoesTurn plan (session_after plan s turns) turn e x
    → Runs plan s d (turns ++ turn ∷ []) x
run_push plan s d e x [] turn run is does = (is, x, subst (λ y. DoesTurn plan s turn y x) run does, refl)
run_push plan s d e x (t ∷ turns) turn run is does = (run.0, run.1, run.2, run_push plan (after_turn plan s t) run.1 e x turns turn run.3 is does)

crash_is_cut : (plan : Plan) (c : Content) (image : List (List ℕ)) → length c.candidates ≡ plan.sizes.blocks → IsCrash c.candidates image → IsCut plan.sizes (candidates_of c.candidates) (contents_of image)
crash_is_cut plan c image listed crash b below = crash.each b (omega (arith, listed, below))

-- a turn more, after a run
module _ (plan : Plan) (turn : Turned) (e x : Disk) where
  -- it may be made after these turns, and leads from the one disk to the other
  abbrev IsMore : Session → List Turned → Type 0
  IsMore s turns = IsTurn plan (session_after plan s turns) turn × DoesTurn plan (session_after plan s turns) turn e x

  -- what a cut leaves at the end of the longer run
  left_end : (s : Session) (calls : ℕ) (d : Disk) (turns : List Turned) (run : Runs plan s d turns e) (more : IsMore s turns) (since : ℕ) (image : Contents) → IsCut plan.sizes x.may image
      → LeftSince plan s calls d (turns ++ turn ∷ []) x (run_push plan s d e x turns turn run more.0 more.1) since image
  left_end s calls d [] run more since image cut = inr cut
  left_end s calls d (t ∷ turns) run more since image cut = inr (left_end (after_turn plan s t) (calls + calls_in (call_in plan s t)) run.1 turns run.3 more since image cut)

  -- what it left of the shorter run it leaves of the longer one
  left_push : (s : Session) (calls : ℕ) (d : Disk) (turns : List Turned) (run : Runs plan s d turns e) (more : IsMore s turns) (since : ℕ) (image : Contents)
      → since ≤ calls_after plan s calls turns → LeftSince plan s calls d turns e run since image
      → LeftSince plan s calls d (turns ++ turn ∷ []) x (run_push plan s d e x turns turn run more.0 more.1) since image
  left_push s calls d [] run more since image early cut = go (call_in plan s turn) more.1
    where
      go : (call : Option Call) → DoesIt plan.sizes call (reply_in turn) e.now e.may x.now x.may → ((since ≤ calls) × (calls_in call ≡ 1) × IsCut plan.sizes d.may image) ⊎ IsCut plan.sizes x.may image
      go None does = inr (subst (λ m. IsCut plan.sizes m image) (sym does.1) (subst (λ (y : Disk). IsCut plan.sizes y.may image) (sym run) cut))
      go (Some call) does = inl (early, refl, cut)
  left_push s calls d (t ∷ turns) run more since image early (inl now) = inl now
  left_push s calls d (t ∷ turns) run more since image early (inr later) = inr (left_push (after_turn plan s t) (calls + calls_in (call_in plan s t)) run.1 turns run.3 more since image early later)

module _ {D : Type 0} (content : D → Option Content) (moment : D → ℕ) (left_since : D → ℕ → List (List ℕ) → Type 0)
    (only_now : (d : D) (c : Content) → content d ≡ Some c → (t : ℕ) (image : List (List ℕ)) → moment d ≤ t → left_since d t image → IsCrash c.candidates image) where
  pub loaded_has_cuts : LoadedHasCuts content moment left_since
  loaded_has_cuts first c plan s tells listed = record {
    last = c;
    tells = tells;
    listed = listed;
    run = refl;
    counted = omega arith;
    later = omega arith;
    early = λ since image before left. inl left;
    left = λ since image late left. crash_is_cut plan c image listed (only_now first c tells since image late left);
  }

  pub turns_have_cuts : TurnsHaveCuts content moment left_since
  turns_have_cuts first before after c e plan s turns turn d has tells_c tells_e listed is does passes = record {
    last = e;
    tells = tells_e;
    listed = listed;
    run = run_push plan s d (disk_of has.last) (disk_of e) turns turn has.run is does_it;
    counted = subst (λ x. moment after ≤ x) (sym (calls_push plan s (moment first) turns turn)) (counted (call_in plan (session_after plan s turns) turn) passes);
    later = later (call_in plan (session_after plan s turns) turn) passes;
    left = left;
    early = early;
  }
    where
      same : c ≡ has.last
      same = one_of (content before) c has.last tells_c has.tells

      does_it : DoesTurn plan (session_after plan s turns) turn (disk_of has.last) (disk_of e)
      does_it = subst (λ x. DoesTurn plan (session_after plan s turns) turn (disk_of x) (disk_of e)) same does

      goes : Passes 1 (content after) (moment before) (moment after) (left_since before) (left_since after) → Elapses (moment before) (moment after) (left_since before) (left_since after) (IsCrash e.candidates)
      goes time = subst (λ o. TimeGoes o (moment before) (moment after) (left_since before) (left_since after)) tells_e time

      one_more : (before now last : ℕ) → now ≡ max before (min (before + 1) last) → now ≤ before + 1
      one_more before now last e = omega (arith, e)

      counted : (call : Option Call) → Passes (calls_in call) (content after) (moment before) (moment after) (left_since before) (left_since after) → moment after ≤ calls_after plan s (moment first) turns + calls_in call
      counted None passes = omega (arith, passes.0, has.counted)
      counted (Some call) passes = let one = one_more (moment before) (moment after) (2 ^ 64 - 1) (goes passes).count in omega (arith, one, has.counted)

      at_end : (since : ℕ) (image : List (List ℕ)) → IsCrash e.candidates image → LeftSince plan s (moment first) d (turns ++ turn ∷ []) (disk_of e) (run_push plan s d (disk_of has.last) (disk_of e) turns turn has.run is does_it) since (contents_of image)
      at_end since image crash = left_end plan turn (disk_of has.last) (disk_of e) s (moment first) d turns has.run (is, does_it) since (contents_of image) (crash_is_cut plan e image listed crash)

      before_it : (since : ℕ) (image : List (List ℕ)) → moment first ≤ since → since ≤ moment before → left_since before since image
          → LeftSince plan s (moment first) d (turns ++ turn ∷ []) (disk_of e) (run_push plan s d (disk_of has.last) (disk_of e) turns turn has.run is does_it) since (contents_of image)
      before_it since image late early past = left_push plan turn (disk_of has.last) (disk_of e) s (moment first) d turns has.run (is, does_it) since (contents_of image) (omega (arith, early, has.counted)) (has.left since image late past)

      by_call : (call : Option Call) → Passes (calls_in call) (content after) (moment before) (moment after) (left_since before) (left_since after)
          → (moment after ≤ moment before + 1) × ((since : ℕ) (image : List (List ℕ)) → since ≤ moment before → left_since after since image → left_since before since image ⊎ IsCrash e.candidates image)
      by_call None passes = (omega (arith, passes.0), λ since image early now. inl (passes.1 since image now))
      by_call (Some call) passes = (one_more (moment before) (moment after) (2 ^ 64 - 1) (goes passes).count, λ since image early now. (goes passes).nothing_else since image early now)

      left : (since : ℕ) (image : List (List ℕ)) → moment first ≤ since → left_since after since image
          → LeftSince plan s (moment first) d (turns ++ turn ∷ []) (disk_of e) (run_push plan s d (disk_of has.last) (disk_of e) turns turn has.run is does_it) since (contents_of image)
      left since image late now =
          let passed = by_call (call_in plan (session_after plan s turns) turn) passes in
          elim (cases_lt (moment before) since) [
            | inl past ↦ at_end since image (only_now after e tells_e since image (omega (arith, passed.0, past)) now)
            | inr early ↦ elim (passed.1 since image (omega (arith, early)) now) [ inl was ↦ before_it since image late (omega (arith, early)) was | inr new ↦ at_end since image new ]
          ]

      at_most : (before now last : ℕ) → now ≡ max before (min (before + 1) last) → before ≤ now
      at_most before now last e = omega (arith, e)

      later : (call : Option Call) → Passes (calls_in call) (content after) (moment before) (moment after) (left_since before) (left_since after) → moment first ≤ moment after
      later None passes = omega (arith, passes.0, has.later)
      later (Some call) passes = let up = at_most (moment before) (moment after) (2 ^ 64 - 1) (goes passes).count in omega (arith, up, has.later)

      early : (since : ℕ) (image : List (List ℕ)) → since ≤ moment first → left_since after since image
          → left_since first since image
          ⊎ LeftSince plan s (moment first) d (turns ++ turn ∷ []) (disk_of e) (run_push plan s d (disk_of has.last) (disk_of e) turns turn has.run is does_it) (moment first) (contents_of image)
      early since image low now = elim ((by_call (call_in plan (session_after plan s turns) turn) passes).1 since image (omega (arith, low, has.later)) now) [
        | inr new ↦ inr (at_end (moment first) image new)
        | inl was ↦ elim (has.early since image low was) [
          | inl first_one ↦ inl first_one
          | inr run_one ↦ inr (left_push plan turn (disk_of has.last) (disk_of e) s (moment first) d turns has.run (is, does_it) (moment first) (contents_of image) (omega (arith, has.later, has.counted)) run_one)
        ]
      ]

  -- what a run leads to, as its disk tells it
  module _ (says now_says : Flat → Contents → Type 0) (first now : D) (plan : Plan) (s : Session) (turns : List Turned) (d : Disk) (p : Place)
      (has : HasCuts content moment left_since first now plan s turns d)
      (given : (since : ℕ) (image : List (List ℕ)) → left_since now since image → (f : Flat) → says f (contents_of image) → now_says f (contents_of image))
      (crashed : (image : List (List ℕ)) → IsCrash has.last.candidates image → (f : Flat) → says f (contents_of image) → now_says f (contents_of image))
      (w : RunLeads says plan s (moment first) d (disk_of has.last) turns p has.run) where
    way : (buffer : Buffers) (n : ℕ) (since : ℕ) (image : List (List ℕ)) → left_since now since image
        → IsOnTheWayBy says plan buffer (journal_of plan s turns) p w.place n (contents_of image)
        → IsOnTheWayBy now_says plan buffer (journal_of plan s turns) p w.place n (contents_of image)
    way buffer n since image left on = record {
      front = on.front;
      has = on.has;
      within = on.within;
      place = on.place;
      before = on.before;
      after = on.after;
      flat = on.flat;
      midway = on.midway;
      stands = given since image left on.flat on.stands;
    }

    leads : DiskLeads content moment left_since now_says first now plan s turns p
    leads = record {
      last = has.last;
      tells = has.tells;
      place = w.place;
      at = w.at;
      legal = w.legal;
      ever = λ buffer agrees since image late left. way buffer 0 since image left (w.ever buffer agrees since (contents_of image) (has.left since image late left));
      early = λ buffer agrees since image low left. elim (has.early since image low left) [
        | inl before ↦ inl before
        | inr run_one ↦ inr (way buffer 0 since image left (w.ever buffer agrees (moment first) (contents_of image) run_one))
      ];
      item = λ buffer agrees i image below left. way buffer (suc i) _ image left
          (w.item buffer agrees i (contents_of image) below (has.left (slice_index_or (moments_of plan s (moment first) turns) i 0) image (low_moments plan s turns (moment first) i below) left));
      end = λ none image crash. crashed image crash w.place.flat (w.end none (contents_of image) (crash_is_cut plan has.last image has.listed crash));
    }

  pub cuts_of_disk : CutsOfDisk content moment left_since
  cuts_of_disk first now plan s turns d p has k =
      leads (StandsFor plan.sizes) (StandsFor plan.sizes) first now plan s turns d p has (λ since image left f stands. stands) (λ image crash f stands. stands)
      (cuts_are_on_the_way plan s (moment first) d (disk_of has.last) turns p k has.run)

  module _ (stated : D → Option Geometry)
      (shaped : (d : D) (c : Content) → content d ≡ Some c → (g : Geometry) → stated d ≡ Some g → IsShaped g.block_size g.blocks c)
      (cuts_shaped : (d : D) (c : Content) → content d ≡ Some c → (g : Geometry) → stated d ≡ Some g → (t : ℕ) (image : List (List ℕ)) → left_since d t image → IsImage g.block_size g.blocks image) where
    -- an image of bytes whose magic leads it ahead is ahead
    ahead_too : (g : Geometry) (image : List (List ℕ)) → 0 < g.blocks → IsImage g.block_size g.blocks image → (f : Flat)
        → StandsAhead g f (contents_of image) → StandsAheadToo g f (contents_of image)
    ahead_too g image some bytes f stands = (
      stands.0,
      λ log spells. stands.1 (log_has_magic g (contents_of image 0) log (λ i. byte_at (slice_index_or image 0 []) (bytes.each 0 some).are_bytes i) spells) log spells,
    )

    pub cuts_of_disk_are_ahead : CutsOfDiskAreAhead stated content moment left_since
    cuts_of_disk_are_ahead first now plan s turns d p has sizes k led fine =
        let some : 0 < plan.sizes.blocks = omega (arith, k.stands.sound.sizes.enough) in
        leads (StandsAhead plan.sizes) (StandsAheadToo plan.sizes) first now plan s turns d p has
        (λ since image left f stands. ahead_too plan.sizes image some (cuts_shaped now has.last has.tells plan.sizes sizes since image left) f stands)
        (λ image crash f stands. ahead_too plan.sizes image some (crash_image plan.sizes.block_size plan.sizes.blocks has.last image (shaped now has.last has.tells plan.sizes sizes) crash) f stands)
        (cuts_are_ahead plan s (moment first) d (disk_of has.last) turns p k led has.run fine)

-- ----------------------------------------------------------------------------------------------------------------
-- Moments by another count.

map_item : (item : Option Item) (f : ℕ → ℕ) (x : ℕ) (xs : List ℕ) → with_item item (f x) (map f xs) ≡ map f (with_item item x xs)
map_item None f x xs = refl
map_item (Some item) f x xs = refl

pub moments_shift : MomentsShift
moments_shift plan s before calls [] = refl
moments_shift plan s before calls (turn ∷ turns) =
    let more : ℕ = calls_in (call_in plan s turn) in
    let e : before + calls + calls_in (call_in plan s turn) ≡ before + (calls + calls_in (call_in plan s turn)) = omega arith in
    ap (λ x. with_item (item_in plan s turn) x (moments_of plan (after_turn plan s turn) x turns)) e
    ∙ ap (with_item (item_in plan s turn) (before + (calls + calls_in (call_in plan s turn)))) (moments_shift plan (after_turn plan s turn) before (calls + calls_in (call_in plan s turn)) turns)
    ∙ map_item (item_in plan s turn) (λ n. before + n) (calls + calls_in (call_in plan s turn)) (moments_of plan (after_turn plan s turn) (calls + calls_in (call_in plan s turn)) turns)
