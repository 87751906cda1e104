-- What is promised of a cut is fulfilled.
use Rattle.std.proofs.Common.{◌≡◌, inl, inr, ℕ, suc, ◌+◌, ◌<◌, ◌≤◌, Bool, true, not, List, take, drop, Option, Some, None, arith, refl, sym, ap, ◌∙◌, subst}
use Rattle.std.specs.Prelude.{slice_get}
use Rattle.std.proofs.lemmas.List.{take-take}
use Rattle.bow_units.specs.declared.requests.Op.TheVariants as ops
use Rattle.bow_units.specs.declared.requests.Outcome.{Outcome}
use Rattle.bow_units.specs.declared.requests.Outcome.TheVariants.{Done}
use Rattle.bow_units.specs.declared.requests.Phase.{Phase}
use Rattle.bow_units.specs.declared.requests.Phase.TheVariants.{Trim, Arming, Checkpoint, Deciding, Committed}
use Rattle.bow_units.specs.Magics.{HasMagic, IsPlain}
use Rattle.bow_chain.specs.Contents.{contents_of}
use Rattle.bow_flat.specs.Flat.{Flat, May, is_any, opening}
use Rattle.bow_guard.specs.Standing.{StandsInPhase}
use Rattle.bow_restore.specs.Rewinds.{Reruns}
use Rattle.bow_restore.proofs.Backs.{plain_unsound}
use Rattle.bow_restore.proofs.Proved.{reruns_pass_on}
use Rattle.bow_return.specs.Laws.{ComesBack}
use Rattle.vold_commands.specs.Boot.{Whole}
use Rattle.vold_commands.proofs.Backing.{magic_or_plain}
use Rattle.vold_commands.proofs.Rebooting.{boots_end}
use Rattle.bow_history.specs.declared.items.Item.{Item}
use Rattle.bow_history.specs.declared.items.Item.TheVariants.{Wrote, Got, Answered}
use Rattle.bow_history.specs.Journal.{Plan, Place, Legal, PrepareRow, beginning}
use Rattle.bow_promise.specs.Cutting.{Play, IsCutOf, IsDoneAt, IsTakenAt, EndsAs}
use Rattle.bow_promise.specs.Flushing.{IsAsBefore, IsAsBehind}
use Rattle.bow_promise.specs.Promises.{IsNotBegun, IsFulfilled, IsPrepareAt, CutsArePromised}
use Rattle.bow_promise.specs.Recoveries.{Recoveries, EndsWell}
use Rattle.bow_promise.proofs.Ways.{Asked, AllFit, legal_happens}
use Rattle.bow_promise.proofs.Armed.{IsArmed, NoArms, NoDecides, TakenIn, arms_none, arms_take, armed_at, decides_none, keeps_checkpoint, keeps_trim}
use Rattle.bow_promise.proofs.Promised.{enough, at, row_of, committed, committed_behind, cuts_end_well, checkpoints_stay}
use Rattle.bow_promise.proofs.Flushed.{get_drop, get_take, flushed_stay}
use Rattle.bow_promise.proofs.Rerunning.{boots_are_reruns, reruns_image, ended_of, reads, ends_same}

-- a cut that has so many items has fewer
abbrev pub fewer : (p : Play) (n m : ℕ) (first : List (List ℕ)) → m ≤ n → IsCutOf p n first → IsCutOf p m first
fewer p n m first less k = record {
  sizes = k.sizes;
  plain = k.plain;
  whole = k.whole;
  way = record {
    front = k.way.front;
    has = omega (arith, less, k.way.has);
    within = k.way.within;
    place = k.way.place;
    before = k.way.before;
    after = k.way.after;
    flat = k.way.flat;
    midway = k.way.midway;
    stands = k.way.stands;
  };
}

-- ----------------------------------------------------------------------------------------------------------------
-- Phases, where no prepare or no commit was begun.

-- the phase that a prepare's Done leads to
prepared_phase : (plan : Plan) (before : Place) (h : Flat) → PrepareRow plan before Done h → h.phase ≡ Checkpoint
prepared_phase plan before h (inl (saved, (mid, arms, prepares))) = ap (λ (x : Flat). x.phase) prepares.1
prepared_phase plan before h (inr prepares) = ap (λ (x : Flat). x.phase) prepares.1

module _ (p : Play) (n : ℕ) (first : List (List ℕ)) (k : IsCutOf p n first) where
  -- the phase of what is midway of a place
  midway_trim : k.way.place.flat.phase ≡ Trim → ((lane : ℕ) → p.plan.request lane (k.way.place.number lane) ≡ Some ops.Prepare → ⊥) → k.way.flat.phase ≡ Trim
  midway_trim is none = elim k.way.midway [
    | inl same ↦ ap (λ (x : Flat). x.phase) same ∙ is
    | inr (inl arms) ↦ absurd (none arms.0 arms.1)
    | inr (inr decides) ↦ absurd (let clash : Trim ≡ Checkpoint = sym is ∙ (decides.2).0 in grind (arith, clash))
  ]

  midway_checkpoint : k.way.place.flat.phase ≡ Checkpoint → ((lane : ℕ) → p.plan.request lane (k.way.place.number lane) ≡ Some ops.Commit → ⊥) → k.way.flat.phase ≡ Checkpoint
  midway_checkpoint is none = elim k.way.midway [
    | inl same ↦ ap (λ (x : Flat). x.phase) same ∙ is
    | inr (inl arms) ↦ absurd (let clash : Checkpoint ≡ Trim = sym is ∙ ((arms.3).0).0 in grind (arith, clash))
    | inr (inr decides) ↦ absurd (none decides.0 decides.1)
  ]

  phase_stands : (phase : Phase) → k.way.flat.phase ≡ phase → StandsInPhase p.plan.sizes phase k.way.flat (contents_of first)
  phase_stands phase is = subst (λ x. StandsInPhase p.plan.sizes x k.way.flat (contents_of first)) is k.way.stands

  -- until a prepare is begun
  pub unprepared : IsNotBegun p ops.Prepare k.way.front k.way.place → IsPlain (contents_of first 0)
  unprepared none =
      let fits : AllFit p.plan NoArms (take k.way.front p.journal) = λ j item here. (
      let found = get_take p.journal k.way.front j item here in
      arms_none p.plan item (λ lane number outcome is. none.none j lane number outcome found.0 (found.1 ∙ ap Some is))
      ) in
      let happens = legal_happens p.plan (enough p n first k) NoArms p.read (take k.way.front p.journal) (beginning (opening p.image)) k.way.place fits k.way.before in
      let trim = midway_trim (keeps_trim p.plan.sizes.blocks happens.0 (opening p.image) k.way.place.flat happens.1 refl) none.next in
      (phase_stands Trim trim).plain

  -- from a prepare's Done on, until a commit is begun
  pub undecided : (i : ℕ) → i < n → IsDoneAt p i ops.Prepare → IsNotBegun p ops.Commit k.way.front k.way.place → HasMagic (contents_of first 0)
  undecided i below (lane, number, here, asked) none =
      let t = at p n first k i (omega (arith, below)) (Answered lane number Done) here in
      let begins = prepared_phase p.plan t.before t.behind.flat (row_of p lane number ops.Prepare t.before t.behind asked t.step) in
      let fits : AllFit p.plan NoDecides (drop (suc i) (take k.way.front p.journal)) = λ j item there. (
      let found = get_take p.journal k.way.front (suc i + j) item (get_drop (take k.way.front p.journal) (suc i) j item there) in
      decides_none p.plan item (λ other m outcome is. none.none (suc i + j) other m outcome found.0 (found.1 ∙ ap Some is))
      ) in
      let happens = legal_happens p.plan (enough p n first k) NoDecides p.read (drop (suc i) (take k.way.front p.journal)) t.behind k.way.place fits t.rest in
      let checkpoint = midway_checkpoint (keeps_checkpoint p.plan.sizes.blocks happens.0 t.behind.flat k.way.place.flat happens.1 begins) none.next in
      let keeps = phase_stands Checkpoint checkpoint in
      elim (magic_or_plain (contents_of first 0)) [
        | inl magic ↦ magic
        | inr plain ↦ absurd (plain_unsound p.plan.sizes k.sizes first k.whole plain keeps.log keeps.older keeps.sound)
      ]

  -- from a commit's Done on
  pub given_up : (i : ℕ) → i < n → IsDoneAt p i ops.Commit → IsPlain (contents_of first 0)
  given_up i below (lane, number, here, asked) =
      let t = at p n first k i (omega (arith, below)) (Answered lane number Done) here in
      let done = committed p t.before t.behind.flat (row_of p lane number ops.Commit t.before t.behind asked t.step) in
      (phase_stands Committed (committed_behind p n first k i (omega (arith, below)) (Answered lane number Done) here done)).plain

  -- ----------------------------------------------------------------------------------------------------------------
  -- The end.

  -- where nothing was to restore, and the image is left as it was
  pub fulfilled_plain : (final : List (List ℕ)) → IsPlain (contents_of first 0) → final ≡ first → IsFulfilled p n first k final
  fulfilled_plain final plain same = record {
    plain = subst (λ i. IsPlain (contents_of i 0)) (sym same) plain;
    back = λ magic. absurd (plain magic);
    checkpoint = λ i below done magic. absurd (plain magic);
    same = λ none. same;
    flushed = λ i below done none. subst (IsAsBehind p i k.way.front) (sym same) (flushed_stay p i first (fewer p n (suc i) first (omega (arith, below)) k) plain done);
  }

  -- a block that is unused, or as it was saved, is as it might have been read
  as_saved : (i : ℕ) (final : List (List ℕ)) → ((b : ℕ) → b < p.plan.sizes.blocks → k.way.flat.used b ≡ true → contents_of final b ≡ k.way.flat.saved b) → IsTakenAt p i k.way.flat → IsAsBefore p i final
  as_saved i final blocks taken = record { then = taken.then; way = taken.way; each = λ b below. each b below (taken.then.flat.current b) refl }
    where
      each : (b : ℕ) → b < p.plan.sizes.blocks → (known : Option (List (List ℕ))) → taken.then.flat.current b ≡ known → May (taken.then.flat.current b) (contents_of final b)
      each b below None is = subst (λ c. May c (contents_of final b)) (sym is) tt
      each b below (Some some) is =
          let in_use : k.way.flat.used b ≡ true = taken.used b ∙ ap (λ c. not (is_any c)) is in
          subst (May (taken.then.flat.current b)) (sym (blocks b below in_use)) (taken.saved b below in_use)

  armed_phase : HasMagic (contents_of first 0) → (phase : Phase) → StandsInPhase p.plan.sizes phase k.way.flat (contents_of first) → IsArmed phase
  armed_phase magic Trim stands = absurd (stands.plain magic)
  armed_phase magic Arming stands = tt
  armed_phase magic Checkpoint stands = tt
  armed_phase magic Deciding stands = tt
  armed_phase magic Committed stands = tt

  -- the moment at which a prepare armed
  prepared_in : IsArmed k.way.place.flat.phase → k.way.flat.used ≡ k.way.place.flat.used → k.way.flat.saved ≡ k.way.place.flat.saved
      → (i : ℕ) × IsPrepareAt p k.way.front k.way.place i × IsTakenAt p i k.way.flat
  prepared_in armed used saved =
      let at = armed_at p.plan (enough p n first k) p.read (take k.way.front p.journal) (beginning (opening p.image)) k.way.place k.way.before refl armed in
      let found = get_take p.journal k.way.front at.index at.item at.here in
      let less : at.index ≤ k.way.front = omega (arith, found.0) in (
        at.index,
        inl (found.0, answers at.item at.index found.1 at.asked),
        record {
          then = at.then;
          way = subst (λ items. Legal p.plan p.read items (beginning (opening p.image)) at.then) (take-take at.index k.way.front p.journal less) at.way;
          used = λ b. ap (λ (u : ℕ → Bool). u b) used ∙ at.taken.used b;
          saved = λ b below in_use. subst (λ (s : ℕ → List ℕ). May (at.then.flat.current b) (s b)) (sym saved) (at.taken.saved b below (ap (λ (u : ℕ → Bool). u b) (sym used) ∙ in_use));
        },
      )
    where
      answers : (item : Item) (i : ℕ) → slice_get p.journal i ≡ Some item → Asked p.plan ops.Prepare item
          → (lane number : ℕ) × (outcome : Outcome) × (slice_get p.journal i ≡ Some (Answered lane number outcome)) × (p.plan.request lane number ≡ Some ops.Prepare)
      answers (Answered lane number outcome) i here asked = (lane, number, outcome, here, asked)
      answers (Wrote lane number b) i here asked = absurd asked
      answers (Got lane number b) i here asked = absurd asked

  prepared_at : HasMagic (contents_of first 0) → (i : ℕ) × IsPrepareAt p k.way.front k.way.place i × IsTakenAt p i k.way.flat
  prepared_at magic =
      let armed = armed_phase magic k.way.flat.phase k.way.stands in
      elim k.way.midway [
        | inl same ↦ prepared_in (subst (λ (x : Flat). IsArmed x.phase) same armed) (ap (λ (x : Flat). x.used) same) (ap (λ (x : Flat). x.saved) same)
        | inr (inl (lane, next, saved, arms)) ↦
            let taken : TakenIn p.plan.sizes.blocks k.way.place.flat k.way.flat = subst (TakenIn p.plan.sizes.blocks k.way.place.flat) (sym arms.1) (arms_take p.plan.sizes.blocks saved k.way.place.flat arms.0) in
            (k.way.front, inr (refl, (lane, next)), record { then = k.way.place; way = k.way.before; used = taken.used; saved = taken.saved })
        | inr (inr (lane, next, decides)) ↦ prepared_in (subst IsArmed (sym decides.0) tt) (ap (λ (x : Flat). x.used) decides.1) (ap (λ (x : Flat). x.saved) decides.1)
      ]

  -- where a log was in block 0, and the checkpoint is in place
  pub fulfilled_back : (final : List (List ℕ)) → HasMagic (contents_of first 0) → IsPlain (contents_of final 0)
      → ((b : ℕ) → b < p.plan.sizes.blocks → k.way.flat.used b ≡ true → contents_of final b ≡ k.way.flat.saved b) → IsFulfilled p n first k final
  fulfilled_back final magic plain blocks = record {
    plain = plain;
    back = λ logged. (let armed = prepared_at logged in (armed.0, armed.1, as_saved armed.0 final blocks armed.2));
    checkpoint = λ i below done logged. as_saved i final blocks (checkpoints_stay p i first done (fewer p n (suc i) first (omega (arith, below)) k)).1;
    same = λ none. absurd (none magic);
    flushed = λ i below done none. absurd (none magic);
  }

  -- over restorations that are cut, a log in block 0 has the checkpoint come back
  pub comes_back : (last : List (List ℕ)) (phase : Phase) → HasMagic (contents_of first 0) → EndsAs p.plan.sizes phase k.way.flat first last → ComesBack p.plan.sizes k.way.flat (contents_of last)
  comes_back last Trim magic ends = absurd (ends.shows.plain magic)
  comes_back last Arming magic ends = ends
  comes_back last Checkpoint magic ends = ends
  comes_back last Deciding magic (inl back) = back
  comes_back last Deciding magic (inr shown) = absurd (shown.shows.plain magic)
  comes_back last Committed magic ends = absurd (ends.shows.plain magic)

  -- and a plain block 0 has nothing changed
  pub stays_same : (last : List (List ℕ)) (between : List (List (List ℕ))) → IsPlain (contents_of first 0) → Reruns p.plan.sizes first between last → last ≡ first
  stays_same last between plain runs =
      let unsound = plain_unsound p.plan.sizes k.sizes first k.whole plain in
      (reruns_pass_on p.plan.sizes first last between k.sizes k.whole (λ log older sound. absurd (unsound log older sound)) runs).unsound unsound

  pub ends : (recoveries : List (List (List ℕ))) (last final : List (List ℕ)) → Recoveries p.plan.sizes first recoveries last → EndsWell p.plan.sizes last final → IsFulfilled p n first k final
  ends recoveries last final all well =
      let runs = boots_are_reruns p.plan.sizes first last recoveries k.whole all in
      let boot = ended_of p.plan.sizes last final well in
      elim (magic_or_plain (contents_of first 0)) [
        | inr plain ↦
            let still = stays_same last runs.0 plain runs.1 in
            fulfilled_plain final plain (ends_same p.plan.sizes last final (subst (λ i. IsPlain (contents_of i 0)) (sym still) plain) boot ∙ still)
        | inl magic ↦
            let f = k.way.flat in
            let back = comes_back last f.phase magic (cuts_end_well p n first last runs.0 k runs.1) in
            let attempts = reads (λ i j. Whole p.plan.sizes i j) last final boot.0 boot.1 boot.2 boot.3 in
            let done = (boots_end p.plan.sizes f.used f.saved (record { valid = k.sizes; plain = back.plain }) last final boot.0 boot.1 attempts.0 boot.2 (reruns_image p.plan.sizes first last runs.0 k.whole runs.1, back.holds) attempts.1 boot.3).0 in
            fulfilled_back final magic done.1 (λ b on used. done.0 b on (inr used))
      ]

pub cuts_are_promised : CutsArePromised
cuts_are_promised p n first k = record {
  cut = k;
  unprepared = unprepared p n first k;
  undecided = undecided p n first k;
  committed = given_up p n first k;
  ends = ends p n first k;
}
