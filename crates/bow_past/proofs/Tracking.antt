-- The way of the journal beside a reader, and what the reader got on it.
use Rattle.std.proofs.Common.{◌≡◌, ◌⊎◌, inl, inr, ℕ, zero, suc, ◌+◌, ◌-◌, ◌≤◌, ◌++◌, cond, List, [], ◌∷◌, length, Option, Some, None, Result, Ok, Err, arith, refl, sym, ap, ◌∙◌, subst}
use Rattle.std.specs.Prelude.{nat_le, slice_get}
use Rattle.std.proofs.lemmas.Bool.{cases_Bool}
use Rattle.std.proofs.lemmas.List.{append-nil, append_assoc}
use Rattle.bow_units.specs.declared.failures.NoMemory.{NoMemory}
use Rattle.bow_units.specs.declared.requests.Phase.TheVariants.{Checkpoint}
use Rattle.bow_units.specs.declared.sizes.Geometry.{Geometry}
use Rattle.bow_disk.specs.Disk.{Content, IsShaped}
use Rattle.bow_chain.proofs.Counting.{some_inj}
use Rattle.bow_flat.specs.Flat.{Flat}
use Rattle.bow_machine.specs.Deeds.{deed_of}
use Rattle.bow_core.specs.Standing.{StandsIn, StandsOver}
use Rattle.bow_history.specs.declared.items.Item.{Item}
use Rattle.bow_history.specs.DiskCuts.{disk_of}
use Rattle.bow_history.specs.Fits.{Agrees, IsAt}
use Rattle.bow_history.specs.Histories.{Disk}
use Rattle.bow_history.specs.Journal.{Buffers, ItemStep, Legal, Place, Plan}
use Rattle.bow_history.specs.Promises.{items}
use Rattle.bow_history.specs.Sessions.{Session, Turned, after_turn, item_in}
use Rattle.bow_history.specs.SoundSessions.{IsSoundSession}
use Rattle.bow_history.proofs.Answers.{lags_none}
use Rattle.bow_history.proofs.Runs.{turn_advances}
use Rattle.bow_history.proofs.Turns.{Advances, MaybeStep}
use Rattle.bow_session.specs.Sessions.{Run, plan_in, state_in}
use Rattle.bow_session.specs.Turns.{IsOneTurn}
use Rattle.bow_session.proofs.Cutting.{did_told, plan_stays}
use Rattle.bow_past.specs.Agreement.{Agrees as AgreesWith}
use Rattle.bow_past.specs.Readings.{Reading, bytes_got, bytes_of, next_block, with_ended}
use Rattle.bow_past.specs.Running.{IsOnWayTo, IsSavedAt, got_of, reader_after}
use Rattle.bow_past.specs.Steps.{IsPastStep}
use Rattle.bow_past.specs.declared.ended.Ended.{Ended}
use Rattle.bow_past.specs.declared.ended.Ended.TheVariants.{Got, Failed, Strange}
use Rattle.bow_past.specs.declared.ended.PastStep.{PastStep}
use Rattle.bow_past.specs.declared.ended.PastStep.TheVariants as steps
use Rattle.bow_past.proofs.Clauses.{image, reach, still}
use Rattle.bow_past.proofs.Stepping.{can_parts}

-- ----------------------------------------------------------------------------------------------------------------
-- An item more.

legal_push : (plan : Plan) (buffer : Buffers) (journal : List Item) (item : Option Item) (p q r : Place) → Legal plan buffer journal p q → MaybeStep plan buffer item q r → Legal plan buffer (journal ++ items item) p r
legal_push plan buffer [] None p q r same step = step ∙ same
legal_push plan buffer [] (Some item) p q r same step = (r, subst (λ x. ItemStep plan buffer item x r) same step, refl)
legal_push plan buffer (x ∷ xs) item p q r (mid, first, rest) step = (mid, first, legal_push plan buffer xs item mid q r rest step)

way_push : (plan : Plan) (buffer : Buffers) (journal : List Item) (item : Option Item) (begin point q r : Place) → IsOnWayTo plan buffer journal begin q point → MaybeStep plan buffer item q r → IsOnWayTo plan buffer (journal ++ items item) begin r point
way_push plan buffer journal item begin point q r w step = record {
  front = w.front;
  rest = w.rest ++ items item;
  is = ap (λ (l : List Item). l ++ items item) w.is ∙ append_assoc w.front w.rest (items item);
  before = w.before;
  after = legal_push plan buffer w.rest item point q r w.after step;
}

-- ----------------------------------------------------------------------------------------------------------------
-- What the reader got.

-- what is got of a block once one more has ended is what was got before, but for that one
got_push : (ended : List Ended) (e : Ended) (n : ℕ) (bytes : List ℕ) → bytes_got (slice_get (ended ++ e ∷ []) n) ≡ Some bytes → (bytes_got (slice_get ended n) ≡ Some bytes) ⊎ ((n ≡ length ended) × (bytes_got (Some e) ≡ Some bytes))
got_push [] e zero bytes is = inr (refl, is)
got_push [] e (suc n) bytes is = absurd (cc is)
got_push (x ∷ xs) e zero bytes is = inl is
got_push (x ∷ xs) e (suc n) bytes is = elim (got_push xs e n bytes is) [ inl was ↦ inl was | inr (same, new) ↦ inr (omega (arith, same), new) ]

bytes_push : (p : Reading) (e : Ended) (b : ℕ) (bytes : List ℕ) → bytes_of (with_ended p e) b ≡ Some bytes → (bytes_of p b ≡ Some bytes) ⊎ ((b ≡ next_block p) × (bytes_got (Some e) ≡ Some bytes))
bytes_push p e b bytes is = elim (cases_Bool (nat_le p.extent.first b)) [
  | inr low ↦ absurd (let clash : None ≡ Some bytes = sym (ap (λ t. cond t (bytes_got (slice_get (p.ended ++ e ∷ []) (b - p.extent.first))) None) low) ∙ is in cc clash)
  | inl high ↦
      let there : bytes_got (slice_get (p.ended ++ e ∷ []) (b - p.extent.first)) ≡ Some bytes = sym (ap (λ t. cond t (bytes_got (slice_get (p.ended ++ e ∷ []) (b - p.extent.first))) None) high) ∙ is in
      elim (got_push p.ended e (b - p.extent.first) bytes there) [
        | inl was ↦ inl (ap (λ t. cond t (bytes_got (slice_get p.ended (b - p.extent.first))) None) high ∙ was)
        | inr (same, new) ↦ inr ((let up : p.extent.first ≤ b = grind (arith, high) in omega (arith, same, up)), new)
      ]
]

-- ----------------------------------------------------------------------------------------------------------------

-- Where a session is on its journal's way, and for each block that the reader got a point on that way at which it was
-- read.
pub record TracksBy (plan : Plan) (s : Session) (journal : List Item) (d : Disk) (begin : Place) (r : Option Reading) : Type 0 where
  pub place : Place
  pub at : IsAt plan s d place
  pub legal : (buffer : Buffers) → Agrees plan s buffer → Legal plan buffer journal begin place
  pub got : (b : ℕ) (bytes : List ℕ) → got_of r b ≡ Some bytes → (point : Place)
      × ((buffer : Buffers) → Agrees plan s buffer → IsOnWayTo plan buffer journal begin place point) × IsSavedAt b bytes point

module _ {D : Type 0} (stated : D → Option Geometry) (content : D → Option Content) (moment : D → ℕ) (left : D → ℕ → List (List ℕ) → Type 0) (faults : D → ℕ)
    (begin : Place) where
  abbrev pub Tracks : Option Reading → Run D → Content → Type 0
  Tracks r v c = TracksBy (plan_in v) (state_in v) v.journal (disk_of c) begin r

  -- a turn of the session
  module _ (shaped : (d : D) (c : Content) → content d ≡ Some c → (g : Geometry) → stated d ≡ Some g → IsShaped g.block_size g.blocks c)
      (r : Option Reading) (old : Run D) (turn : Turned) (new : Run D) (c : Content) (is : content old.core.disk ≡ Some c) (sizes : stated old.core.disk ≡ Some old.core.geometry)
      (sound : IsSoundSession (plan_in old) (state_in old)) (one : IsOneTurn stated content moment left faults old turn new) (t : Tracks r old c) where
    pub tracks_turn : (e : Content) × (content new.core.disk ≡ Some e) × Tracks r new e
    tracks_turn =
        let did = did_told stated content moment left faults shaped old turn new.core c is sizes sound one.passes in
        let to : Advances (plan_in old) (state_in old) (after_turn (plan_in old) (state_in old) turn) (disk_of did.told) (item_in (plan_in old) (state_in old) turn) t.place (disk_of c) (t.at).flat _ = turn_advances (plan_in old) (state_in old) (disk_of c) (disk_of did.told) t.place t.at turn one.may did.does in
        let item = item_in (plan_in old) (state_in old) turn in
        let there : TracksBy (plan_in old) (after_turn (plan_in old) (state_in old) turn) (old.journal ++ items item) (disk_of did.told) begin r = record {
          place = to.place;
          at = to.at;
          legal = λ buffer agrees. legal_push (plan_in old) buffer old.journal item begin t.place to.place (t.legal buffer (to.agrees buffer agrees)) (to.step buffer agrees);
          got = λ b bytes has. let g = t.got b bytes has in (g.0, λ buffer agrees. way_push (plan_in old) buffer old.journal item begin g.0 t.place to.place (g.1 buffer (to.agrees buffer agrees)) (to.step buffer agrees), g.2);
        } in (
          did.told,
          did.tells,
          subst (λ j. TracksBy (plan_in new) (state_in new) j (disk_of did.told) begin r) (sym one.journal)
              (subst (λ (p : Plan). TracksBy p (state_in new) (old.journal ++ items item) (disk_of did.told) begin r) (sym (plan_stays stated content moment left faults old turn new one))
              (subst (λ (s : Session). TracksBy (plan_in old) s (old.journal ++ items item) (disk_of did.told) begin r) (sym one.state) there)),
        )

  -- ----------------------------------------------------------------------------------------------------------------
  -- A step of the reader.

  module _ (p : Reading) (v : Run D) (c : Content) (is : content v.core.disk ≡ Some c) (agrees : AgreesWith content p v.core) (t : Tracks (Some p) v c) where
    -- with what else was got
    with_got : (q : Reading) → ((b : ℕ) (bytes : List ℕ) → bytes_of q b ≡ Some bytes → (bytes_of p b ≡ Some bytes) ⊎ IsSavedAt b bytes t.place) → Tracks (Some q) v c
    with_got q new = record {
      place = t.place;
      at = t.at;
      legal = t.legal;
      got = λ b bytes has. elim (new b bytes has) [
        | inl was ↦ t.got b bytes was
        | inr saved ↦ (t.place, λ buffer a. record { front = v.journal; rest = []; is = sym (append-nil v.journal); before = t.legal buffer a; after = refl }, saved)
      ];
    }

    stands : StandsIn content v.core (t.at).flat
    stands = subst (λ o. StandsOver v.core.geometry v.core.memory o (t.at).flat) (sym is) (t.at).stands

    -- in the checkpoint the journal is where the device is
    same_flat : v.core.memory.phase ≡ Checkpoint → (t.at).flat ≡ t.place.flat
    same_flat phase = lags_none (plan_in v).sizes.blocks (deed_of v.core.memory.hand) (t.at).flat t.place.flat Checkpoint ((t.at).stands.phases ∙ phase) (λ e. grind arith) (λ e. grind arith) (t.at).lags

    -- the block that was got is what was saved
    now_saved : (b : ℕ) (q : Reading) (w : Run D) (step : IsPastStep stated content moment left faults p v (Ok (steps.Got b)) q w) (bytes : List ℕ) → bytes_of q b ≡ Some bytes → IsSavedAt b bytes t.place
    now_saved b q w step bytes has =
        let phase = (can_parts p v.core.memory.phase step.0).0 in
        let k = reach stated content moment left faults p v (Ok (steps.Got b)) q w agrees step (t.at).flat stands in
        let same = same_flat phase in
        let own : k.0 ≡ bytes = some_inj (sym k.1 ∙ has) in
        record {
          phase = ap (λ (f : Flat). f.phase) (sym same) ∙ (t.at).stands.phases ∙ phase;
          saved = λ used. sym own ∙ k.2 (ap (λ (f : Flat). f.used b) same ∙ used) ∙ ap (λ (f : Flat). f.saved b) same;
        }

    no_bytes : (e : Ended) (bytes : List ℕ) → bytes_got (Some e) ≡ None → bytes_got (Some e) ≡ Some bytes → ⊥
    no_bytes e bytes none some = cc (sym none ∙ some)

    -- what the reader has then, of the session before
    got_then : (result : Result PastStep NoMemory) (q : Reading) (w : Run D) → IsPastStep stated content moment left faults p v result q w → Tracks (reader_after result q) v c
    got_then (Ok steps.Idle) q w step = with_got q (λ b bytes has. inl (ap (λ (x : Reading). bytes_of x b) (sym step.1) ∙ has))
    got_then (Ok steps.Working) q w step = with_got q (λ b bytes has. inl (ap (λ (x : Reading). bytes_of x b) (sym step.4.0) ∙ has))
    got_then (Ok (steps.Got n)) q w step = with_got q (λ b bytes has. elim (bytes_push p (Got step.2) b bytes (ap (λ (x : Reading). bytes_of x b) (sym step.4) ∙ has)) [
      | inl was ↦ inl was
      | inr (same, new) ↦ inr (let at : b ≡ n = same ∙ sym step.1 in subst (λ x. IsSavedAt x bytes t.place) (sym at) (now_saved n q w step bytes (ap (bytes_of q) (sym at) ∙ has)))
    ])
    got_then (Ok (steps.Failed n)) q w step = with_got q (λ b bytes has. elim (bytes_push p Failed b bytes (ap (λ (x : Reading). bytes_of x b) (sym step.2.2) ∙ has)) [ inl was ↦ inl was | inr (same, new) ↦ absurd (no_bytes Failed bytes refl new) ])
    got_then (Ok (steps.Strange n)) q w step = with_got q (λ b bytes has. elim (bytes_push p Strange b bytes (ap (λ (x : Reading). bytes_of x b) (sym step.4) ∙ has)) [ inl was ↦ inl was | inr (same, new) ↦ absurd (no_bytes Strange bytes refl new) ])
    got_then (Err none) q w step = record { place = t.place; at = t.at; legal = t.legal; got = λ b bytes has. absurd (cc has) }

    pub tracks_reads : (result : Result PastStep NoMemory) (q : Reading) (w : Run D) → IsPastStep stated content moment left faults p v result q w → (content w.core.disk ≡ Some c) × Tracks (reader_after result q) w c
    tracks_reads result q w step =
        let same = still stated content moment left faults p v result q w step in (
          image stated content moment left faults p v result q w step ∙ is,
          subst (λ (x : Run D). Tracks (reader_after result q) x c) (sym same) (got_then result q w step),
        )
