-- A run beside a reader, from its beginning to its end.
use Rattle.std.proofs.Common.{◌≡◌, inl, inr, ℕ, zero, suc, ◌-◌, cond, List, [], Option, Some, None, Result, Ok, Err, ◌≤◌, refl, sym, ap, ◌∙◌, subst}
use Rattle.std.specs.Prelude.{nat_le, slice_get}
use Rattle.std.proofs.lemmas.Bool.{cases_Bool}
use Rattle.bow_units.specs.Draws.{next_number}
use Rattle.bow_units.specs.declared.failures.NoMemory.{NoMemory}
use Rattle.bow_units.specs.declared.sizes.Geometry.{Geometry}
use Rattle.bow_disk.specs.Disk.{Content, IsCrash, IsImage, IsShaped}
use Rattle.bow_flat.specs.Flat.{Flat, opening}
use Rattle.bow_core.specs.Standing.{StandsIn, StandsOver}
use Rattle.bow_core.specs.Views.{View}
use Rattle.bow_history.specs.declared.items.Item.{Item}
use Rattle.bow_history.specs.DiskCuts.{disk_of}
use Rattle.bow_history.specs.Fits.{Agrees, IsAt}
use Rattle.bow_history.specs.Journal.{Legal, Place, beginning}
use Rattle.bow_history.specs.Sessions.{Session, Turned}
use Rattle.bow_history.specs.SoundSessions.{IsSoundSession}
use Rattle.bow_history.proofs.Runs.{beginning_is_at, nothing_lags}
use Rattle.bow_session.specs.Sessions.{IsOver, Run, plan_in, state_in}
use Rattle.bow_session.specs.Turns.{IsOneTurn}
use Rattle.bow_session.proofs.Cutting.{sound_is_idle}
use Rattle.bow_session.proofs.Leading.{begins, kept_agrees}
use Rattle.bow_play.specs.Beginning.{HasBegun}
use Rattle.bow_play.specs.Leading.{read_in}
use Rattle.bow_play.proofs.Runs.{begins_at}
use Rattle.bow_past.specs.Agreement.{Agrees as AgreesWith}
use Rattle.bow_past.specs.Beside.{IsBeside, IsNew, MaybeAgrees}
use Rattle.bow_past.specs.Readings.{Reading, bytes_got}
use Rattle.bow_past.specs.Running.{PlaysBeside, ReadsTheCheckpoint, StepsAt, failures_of, got_of, reader_after}
use Rattle.bow_past.specs.declared.ended.Ended.{Ended}
use Rattle.bow_past.specs.declared.ended.PastStep.{PastStep}
use Rattle.bow_past.proofs.Clauses.{still_agrees}
use Rattle.bow_past.proofs.Playing.{begun_twin, plays_twin, step_twin}
use Rattle.bow_past.proofs.Tracking.{Tracks, tracks_reads, tracks_turn}
use Rattle.bow_past.proofs.Turning.{turns_keep_agreement}
use Rattle.bow_past.proofs.Twinned.{HasTwin, told_before}

-- a reader that has ended no block has got none
none_got : (r : Option Reading) → IsNew r → (b : ℕ) (bytes : List ℕ) → got_of r b ≡ Some bytes → ⊥
none_got None new b bytes has = cc has
none_got (Some p) new b bytes has = elim (cases_Bool (nat_le p.extent.first b)) [
  | inr low ↦ (let clash : None ≡ Some bytes = sym (ap (λ t. cond t (bytes_got (slice_get p.ended (b - p.extent.first))) None) low) ∙ has in cc clash)
  | inl high ↦ (let clash : None ≡ Some bytes = sym (ap (λ t. cond t (bytes_got (slice_get p.ended (b - p.extent.first))) None) high ∙ ap (λ (l : List Ended). bytes_got (slice_get l (b - p.extent.first))) new) ∙ has in cc clash)
]

pub none_failed : (r : Option Reading) → IsNew r → failures_of r ≡ 0
none_failed None new = refl
none_failed (Some p) new = ap (λ (l : List Ended). failures_of (Some (record p { ended = l }))) new

module _ {D : Type 0} (stated : D → Option Geometry) (content : D → Option Content) (moment : D → ℕ) (left : D → ℕ → List (List ℕ) → Type 0) (faults : D → ℕ) where
  -- a session that is seen so is sound
  pub sound_by : (first : View D) (base lost : ℕ) (v : Run D) → HasTwin stated content moment left faults first base lost v → IsSoundSession (plan_in v) (state_in v)
  sound_by first base lost v k = let run = (k.loaded_by).run in subst (IsSoundSession (plan_in v)) run.state (run.session).sound

  -- a session that began as a play does may run beside a reader that agrees with it
  pub begun_beside : (old : D) (v : Run D) (b : HasBegun stated content moment left faults old v) (r : Option Reading) → MaybeAgrees content r v.core → IsBeside stated content r v
  begun_beside old v b r agrees = record {
    agrees = agrees;
    sizes = (b.run).sizes;
    stands = λ c is.
        let core : v.core ≡ b.first = ap (λ (x : Run D). x.core) b.is in
        let before = told_before (λ c d. d.now ≡ c.now) (content old) (content (b.first).disk) c (sym (ap (λ (x : View D). content x.disk) core) ∙ is) (b.opened).image in
        (opening (before.0).now, subst (λ (x : View D). StandsIn content x (opening (before.0).now)) (sym core) (b.found before.0 before.1).stands);
  }

  module _ (shaped : (d : D) (c : Content) → content d ≡ Some c → (g : Geometry) → stated d ≡ Some g → IsShaped g.block_size g.blocks c)
      (cuts_shaped : (d : D) (c : Content) → content d ≡ Some c → (g : Geometry) → stated d ≡ Some g → (t : ℕ) (image : List (List ℕ)) → left d t image → IsImage g.block_size g.blocks image)
      (counts_now : (d : D) (c : Content) → content d ≡ Some c → (t : ℕ) (image : List (List ℕ)) → t ≤ moment d → IsCrash c.candidates image → left d t image)
      (only_now : (d : D) (c : Content) → content d ≡ Some c → (t : ℕ) (image : List (List ℕ)) → moment d ≤ t → left d t image → IsCrash c.candidates image) where
    module _ (first : View D) (base : ℕ) (begin : Place) where
      -- a session on its way, beside a reader that agrees with it
      pub record Follows (r : Option Reading) (v : Run D) : Type 0 where
        pub has : HasTwin stated content moment left faults first base (failures_of r) v
        pub agrees : MaybeAgrees content r v.core
        pub c : Content
        pub is : content v.core.disk ≡ Some c
        pub tracks : Tracks stated content moment left faults begin r v c

      follows_turn : (r : Option Reading) (v : Run D) (turn : Turned) (w : Run D) → Follows r v → HasTwin stated content moment left faults first base (failures_of r) w → IsOneTurn stated content moment left faults v turn w → Follows r w
      follows_turn r v turn w k has one =
          let sizes = (((k.has).loaded_by).run).sizes in
          let t = tracks_turn stated content moment left faults begin shaped r v turn w k.c k.is sizes (sound_by first base (failures_of r) v k.has) one k.tracks in
          record { has = has; agrees = agrees r k.agrees sizes ((k.tracks).at.flat) stands; c = t.0; is = t.1; tracks = t.2 }
        where
          stands : StandsIn content v.core (k.tracks).at.flat
          stands = subst (λ o. StandsOver v.core.geometry v.core.memory o (k.tracks).at.flat) (sym k.is) (k.tracks).at.stands

          agrees : (r : Option Reading) → MaybeAgrees content r v.core → stated v.core.disk ≡ Some v.core.geometry → (f : Flat) → StandsIn content v.core f → MaybeAgrees content r w.core
          agrees None a sizes f stands = tt
          agrees (Some p) a sizes f stands = turns_keep_agreement stated content moment left faults shaped p v w turn f stands sizes one a

      follows_step : (at : ℕ) (r : Option Reading) (v : Run D) (s : Option Reading) (w : Run D) → Follows r v → StepsAt stated content moment left faults at r v s w → Follows s w
      follows_step at None v s w k (inl (is, reads)) = absurd reads
      follows_step at (Some p) v s w k (inl (is, (result, q, step, same))) =
          let has = step_twin stated content moment left faults shaped cuts_shaped counts_now only_now first base at (Some p) v s w k.has (inl (is, (result, q, step, same))) in
          let t = tracks_reads stated content moment left faults begin p v k.c k.is k.agrees k.tracks result q w step in
          record {
            has = has;
            agrees = subst (λ (o : Option Reading). MaybeAgrees content o w.core) (sym same) (agrees_after result (still_agrees stated content moment left faults p v result q w k.agrees step));
            c = k.c;
            is = t.0;
            tracks = subst (λ (o : Option Reading). Tracks stated content moment left faults begin o w k.c) (sym same) t.1;
          }
        where
          agrees_after : (result : Result PastStep NoMemory) → AgreesWith content q w.core → MaybeAgrees content (reader_after result q) w.core
          agrees_after (Ok one) a = a
          agrees_after (Err none) a = tt
      follows_step at r v s w k (inr (same, by)) =
          let has = step_twin stated content moment left faults shaped cuts_shaped counts_now only_now first base at r v s w k.has (inr (same, by)) in
          subst (λ (o : Option Reading). Follows o w) (sym same) (follows_turn r v by.0 w k (subst (λ (o : Option Reading). HasTwin stated content moment left faults first base (failures_of o) w) same has) by.2)

      pub follows_plays : (n x : ℕ) (r : Option Reading) (v : Run D) (s : Option Reading) (w : Run D) → Follows r v → PlaysBeside stated content moment left faults n x r v s w → Follows s w
      follows_plays zero x r v s w k (same, is) = subst (λ (y : Run D). Follows s y) (sym is) (subst (λ (o : Option Reading). Follows o v) (sym same) k)
      follows_plays (suc n) x r v s w k (at, t, mid, drawn, step, rest) = follows_plays n (next_number x) t mid s w (follows_step at r v t mid k step) rest

    -- what its writers see of a run that began as a play does
    pub plays_has : (n x : ℕ) (r : Option Reading) (v : Run D) (s : Option Reading) (w : Run D) (old : D) (b : HasBegun stated content moment left faults old v) → IsNew r → PlaysBeside stated content moment left faults n x r v s w
        → HasTwin stated content moment left faults b.first (moment old) (failures_of s) w
    plays_has n x r v s w old b new plays =
        plays_twin stated content moment left faults shaped cuts_shaped counts_now only_now b.first (moment old) n x r v s w
        (subst (λ n. HasTwin stated content moment left faults b.first (moment old) n v) (sym (none_failed r new)) (begun_twin stated content moment left faults shaped cuts_shaped counts_now only_now old v b)) plays

    -- at the beginning
    pub follows_begun : (old : D) (v : Run D) (b : HasBegun stated content moment left faults old v) (k : Content) → content old ≡ Some k → (r : Option Reading) → IsNew r → MaybeAgrees content r v.core
        → Follows b.first (moment old) (beginning (opening k.now)) r v
    follows_begun old v b k told r new agrees =
        let first = b.first in
        let found = b.found k told in
        let ready = begins stated content moment left faults first (opening k.now) v b.loaded_over (begins_at content (plan_in v) first k.now b.fresh found.stands) in
        let at = (beginning_is_at (plan_in v) first.memory first.admitted (disk_of ready.0) (opening k.now) ready.2).0 in
        let core : v.core ≡ first = ap (λ (x : Run D). x.core) b.is in
        let journal : v.journal ≡ [] = ap (λ (x : Run D). x.journal) b.is in
        let here : IsAt (plan_in v) (state_in v) (disk_of ready.0) (beginning (opening k.now)) = subst (λ (s : Session). IsAt (plan_in v) s (disk_of ready.0) (beginning (opening k.now))) (b.run).state at in
        record {
          has = subst (λ n. HasTwin stated content moment left faults first (moment old) n v) (sym (none_failed r new)) (begun_twin stated content moment left faults shaped cuts_shaped counts_now only_now old v b);
          agrees = agrees;
          c = ready.0;
          is = ap (λ (x : View D). content x.disk) core ∙ ready.1;
          tracks = record {
            place = beginning (opening k.now);
            at = here;
            legal = λ buffer agree. subst (λ (l : List Item). Legal (plan_in v) buffer l (beginning (opening k.now)) (beginning (opening k.now))) (sym journal) refl;
            got = λ c bytes has. absurd (none_got r new c bytes has);
          };
        }

    -- and at the end
    pub follows_over : (first : View D) (base : ℕ) (image : List (List ℕ)) (r : Option Reading) (v : Run D) → Follows first base (beginning (opening image)) r v → IsOver v → ReadsTheCheckpoint content image r v
    follows_over first base image r v k over =
        let sound = sound_by first base (failures_of r) v k.has in
        let idle = sound_is_idle v sound over in
        let buffers : Agrees (plan_in v) (state_in v) (read_in v) = kept_agrees v sound over in
        let t = k.tracks in
        let flat = nothing_lags (plan_in v) (state_in v) (disk_of k.c) t.place t.at idle in
        let stands : StandsIn content v.core (t.at).flat = subst (λ o. StandsOver v.core.geometry v.core.memory o (t.at).flat) (sym k.is) (t.at).stands in
        record {
          end = t.place;
          legal = t.legal (read_in v) buffers;
          stands = subst (StandsIn content v.core) flat stands;
          got = λ b bytes has. let g = t.got b bytes has in (g.0, g.1 (read_in v) buffers, g.2);
        }
