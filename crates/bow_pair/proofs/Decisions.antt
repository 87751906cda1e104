-- What the decision of several devices leaves.
use Rattle.std.proofs.Common.{◌≡◌, ◌⊎◌, inl, inr, ℕ, Bool, true, false, List, Option, Some, length, refl, sym, ap, ◌∙◌, subst, arith}
use Rattle.std.specs.Prelude.{slice_get, Result, Ok, Err, is_err}
use Rattle.std.specs.Option.{option_map}
use Rattle.std.proofs.lemmas.Option.{slice_get-map, slice_get_cases, slice_get_within}
use Rattle.bow_units.specs.Causes.{HasCause, Rose}
use Rattle.vold_meta.specs.Keeper.{Changes}
use Rattle.bow_units.specs.declared.sizes.Geometry.{Geometry}
use Rattle.bow_units.specs.declared.requests.Phase.{Phase}
use Rattle.bow_units.specs.declared.requests.Phase.TheVariants.{Checkpoint}
use Rattle.bow_disk.specs.Disk.{Content, IsCrash, IsImage, IsShaped}
use Rattle.bow_disk.specs.Shapes.{crash_image}
use Rattle.bow_chain.specs.Contents.{contents_of}
use Rattle.bow_chain.specs.Kept.{Holds, Keeps}
use Rattle.bow_flat.specs.Flat.{Flat, after}
use Rattle.bow_flat.specs.Flat.Event.{Flushes}
use Rattle.bow_guard.specs.Cuts.{candidates_of}
use Rattle.bow_guard.specs.Standing.{Forwardable, Shows}
use Rattle.bow_guard.specs.Standing.{StandsInPhase}
use Rattle.bow_guard.proofs.Joined.{crashes_are_cuts}
use Rattle.bow_machine.specs.Memory.{Memory}
use Rattle.bow_machine.specs.Standing.{IsStanding}
use Rattle.bow_machine.proofs.Cuts.{machine_cut}
use Rattle.bow_core.specs.Standing.{StandsIn, StandsOver}
use Rattle.bow_core.specs.Views.{IsOpened, View}
use Rattle.bow_pair.specs.Committing.{IsAtRest, IsFlushedFor}
use Rattle.bow_pair.specs.Deciding.{AreAtRest, EachPair, NoneFell, RoseAt, StillForward, StillHolds, TakePart, TakesPart, WasCommitted, WasFlushed, disks_of}
use Rattle.bow_pair.specs.Joint.{Each, HasCurrent, HoldsSaved, IsCutOf, IsForwardable, IsJointCut, Member}
use Rattle.bow_pair.proofs.Rows.{there_too}

pub fewer : {D : Type 0} (stated : D → Option Geometry) (v : View D) → IsAtRest stated 2 v → IsAtRest stated 1 v
fewer stated v r = let serials = r.serials in record { opened = r.opened; checkpoint = r.checkpoint; idle = r.idle; places = r.places; serials = omega (arith, serials) }

-- an image that a cut leaves of a device that stands for the state, in the checkpoint
held_by : (g : Geometry) (m : Memory) (c : Content) (image : List (List ℕ)) (f : Flat) → IsShaped g.block_size g.blocks c → IsCrash c.candidates image → IsStanding g m (contents_of c.now) (candidates_of c.candidates) f → m.phase ≡ Checkpoint → Keeps g f.used f.saved (contents_of image)
held_by g m c image f shaped crash standing phase =
    let cut = ((crashes_are_cuts g g.block_size c image shaped).0 crash).1 in
    subst (λ (p : Phase). StandsInPhase g p f (contents_of image)) (standing.phases ∙ phase) (machine_cut g m (contents_of c.now) (candidates_of c.candidates) f (contents_of image) standing cut)

module _ {D : Type 0} (stated : D → Option Geometry) (content : D → Option Content) (faults : D → ℕ)
    (shaped : (d : D) (c : Content) → content d ≡ Some c → (g : Geometry) → stated d ≡ Some g → IsShaped g.block_size g.blocks c) where
  pub still_itself : (v : View D) → IsAtRest stated 2 v → StillHolds stated content faults v v
  still_itself v r = record { rests = fewer stated v r; geometry = refl; later = omega arith; stands = λ f s l. inl s }

  pub forward_itself : (v : View D) → IsAtRest stated 1 v → StillForward stated content faults v v
  forward_itself v r = record { opened = r.opened; geometry = refl; later = omega arith; images = λ f k. (k.forward).images }

  pub all_rest : (old new : List (View D)) → length new ≡ length old → EachPair (StillHolds stated content faults) old new → AreAtRest stated 1 new
  all_rest old new long all k w at = let v = there_too new old k w (sym long) at in (all k v.0 w v.1 at).rests

  -- the image of a device's disk
  pub cut_at : (cores : List (View D)) (images : ℕ → List (List ℕ)) → IsJointCut content (disks_of cores) images → (k : ℕ) (w : View D) → slice_get cores k ≡ Some w → IsCutOf content w.disk (images k)
  cut_at cores images joint k w at = joint k w.disk (slice_get-map (λ (v : View D). v.disk) cores k ∙ ap (option_map (λ (v : View D). v.disk)) at)

  -- the image of a device that stands, in the checkpoint, for a state with what the member has in use and saved
  pub held_in : (w : View D) (m : Member) (f : Flat) (image : List (List ℕ)) → m.sizes ≡ w.geometry → m.state.used ≡ f.used → m.state.saved ≡ f.saved → IsOpened stated w → w.memory.phase ≡ Checkpoint → StandsIn content w f → IsCutOf content w.disk image
      → HoldsSaved m image
  held_in w m f image sizes used saved opened phase stands (c, told, crash) =
      let shape = shaped w.disk c told w.geometry opened.sizes in
      let whole : IsImage w.geometry.block_size w.geometry.blocks image = crash_image w.geometry.block_size w.geometry.blocks c image shape crash in
      let keeps = held_by w.geometry w.memory c image f shape crash (subst (λ (o : Option Content). StandsOver w.geometry w.memory o f) told stands) phase in
      subst (λ (g : Geometry). IsImage g.block_size g.blocks image × Holds g m.state.used m.state.saved (contents_of image)) (sym sizes)
      (whole, inl (subst (λ (u : ℕ → Bool). Keeps w.geometry u m.state.saved (contents_of image)) (sym used) (subst (λ (s : ℕ → List ℕ). Keeps w.geometry f.used s (contents_of image)) (sym saved) keeps)))

  held_of : (v w : View D) (m : Member) (image : List (List ℕ)) → TakesPart content v m → StillHolds stated content faults v w → IsCutOf content w.disk image → HoldsSaved m image
  held_of v w m image part holds cut =
      let used : m.state.used ≡ (part.before).used = ap (λ (f : Flat). f.used) part.state in
      let saved : m.state.saved ≡ (part.before).saved = ap (λ (f : Flat). f.saved) part.state in
      let by : (f : Flat) → m.state.used ≡ f.used → m.state.saved ≡ f.saved → StandsIn content w f → HoldsSaved m image =
      λ f u s stands. held_in w m f image (part.sizes ∙ sym holds.geometry) u s (holds.rests).opened (holds.rests).checkpoint stands cut in
      elim (holds.stands part.before part.stands part.led) [ inl s ↦ by part.before used saved s | inr s ↦ by (after v.geometry.blocks Flushes part.before) used saved s ]

  forward_of : (w : View D) (m : Member) (image : List (List ℕ)) → m.sizes ≡ w.geometry → IsOpened stated w → ((c : Content) → content w.disk ≡ Some c → (i : List (List ℕ)) → IsCrash c.candidates i → Forwardable w.geometry m.state (contents_of i)) → IsCutOf content w.disk image → IsForwardable m image
  forward_of w m image sizes opened images (c, told, crash) =
      subst (λ (g : Geometry). IsImage g.block_size g.blocks image × Forwardable g m.state (contents_of image)) (sym sizes)
      (crash_image w.geometry.block_size w.geometry.blocks c image (shaped w.disk c told w.geometry opened.sizes) crash, images c told image crash)

  module _ (old : List (View D)) (members : List Member) (part : TakePart content old members) where
    -- before the decision
    pub all_held : (new : List (View D)) → length new ≡ length old → EachPair (StillHolds stated content faults) old new → (images : ℕ → List (List ℕ)) → IsJointCut content (disks_of new) images → Each HoldsSaved members images
    all_held new long kept images joint k m at =
        let p = part k m at in
        let w = there_too old new k p.0 long p.1 in
        held_of p.0 w.0 m (images k) p.2 (kept k p.0 w.0 p.1 w.1) (cut_at new images joint k w.0 w.1)

    -- once all are flushed
    flushed_of : (v w : View D) (m : Member) → TakesPart content v m → WasFlushed content v w → IsFlushedFor content w m.state
    flushed_of v w m p was = subst (IsFlushedFor content w) (sym p.state) (was p.before p.stands p.led)

    pub all_flushed : (new : List (View D)) → length new ≡ length old → EachPair (StillHolds stated content faults) old new → EachPair (WasFlushed content) old new → (images : ℕ → List (List ℕ)) → IsJointCut content (disks_of new) images → Each IsForwardable members images
    all_flushed new long kept flushed images joint k m at =
        let p = part k m at in
        let w = there_too old new k p.0 long p.1 in
        let holds = kept k p.0 w.0 p.1 w.1 in
        forward_of w.0 m (images k) ((p.2).sizes ∙ sym holds.geometry) (holds.rests).opened ((flushed_of p.0 w.0 m p.2 (flushed k p.0 w.0 p.1 w.1)).forward).images (cut_at new images joint k w.0 w.1)

    -- while they are committed
    pub all_forward : (mid new : List (View D)) → length mid ≡ length old → length new ≡ length mid → EachPair (StillHolds stated content faults) old mid → EachPair (WasFlushed content) old mid → EachPair (StillForward stated content faults) mid new
        → (images : ℕ → List (List ℕ)) → IsJointCut content (disks_of new) images → Each IsForwardable members images
    all_forward mid new long longer kept flushed still images joint k m at =
        let p = part k m at in
        let w = there_too old mid k p.0 long p.1 in
        let u = there_too mid new k w.0 longer w.1 in
        let holds = kept k p.0 w.0 p.1 w.1 in
        let on = still k w.0 u.0 w.1 u.1 in
        forward_of u.0 m (images k) ((p.2).sizes ∙ sym (on.geometry ∙ holds.geometry)) on.opened (on.images m.state (flushed_of p.0 w.0 m p.2 (flushed k p.0 w.0 p.1 w.1))) (cut_at new images joint k u.0 u.1)

    pub all_current : (mid new : List (View D)) → length mid ≡ length old → length new ≡ length mid → EachPair (StillHolds stated content faults) old mid → EachPair (WasFlushed content) old mid → EachPair (StillForward stated content faults) mid new → EachPair (WasCommitted content) mid new
        → (images : ℕ → List (List ℕ)) → IsJointCut content (disks_of new) images → Each HasCurrent members images
    all_current mid new long longer kept flushed still committed images joint k m at =
        let p = part k m at in
        let w = there_too old mid k p.0 long p.1 in
        let u = there_too mid new k w.0 longer w.1 in
        let holds = kept k p.0 w.0 p.1 w.1 in
        let on = still k w.0 u.0 w.1 u.1 in
        let sizes : m.sizes ≡ (u.0).geometry = (p.2).sizes ∙ sym (on.geometry ∙ holds.geometry) in
        let can = forward_of u.0 m (images k) sizes on.opened (λ c told i crash. inl (committed k w.0 u.0 w.1 u.1 m.state (flushed_of p.0 w.0 m p.2 (flushed k p.0 w.0 p.1 w.1)) c told i crash)) (cut_at new images joint k u.0 u.1) in
        let cut = cut_at new images joint k u.0 u.1 in
        (can.0, subst (λ (g : Geometry). Shows g m.state.current (contents_of (images k))) (sym sizes) (committed k w.0 u.0 w.1 u.1 m.state (flushed_of p.0 w.0 m p.2 (flushed k p.0 w.0 p.1 w.1)) cut.0 cut.1 (images k) cut.2))

  pub rose_later : (device : ℕ) (old mid new : List (View D)) → length mid ≡ length old → EachPair (StillHolds stated content faults) old mid → RoseAt faults device mid new → RoseAt faults device old new
  rose_later device old mid new long kept rose =
      let v = there_too mid old device rose.0 (sym long) rose.2 in
      let later = (kept device v.0 rose.0 v.1 rose.2).later in
      (v.0, rose.1, v.1, rose.3, (let r : Rose (faults (v.0).disk) (faults (rose.1).disk) = omega (arith, later, rose.4) in r))

  -- no count fell in the flushes, nor in the commits behind them
  pub flushed_count : (old new : List (View D)) → length new ≡ length old → EachPair (StillHolds stated content faults) old new → NoneFell faults old new
  flushed_count old new long kept = record { many = long; later = λ k v w at is. (kept k v w at is).later }

  pub committed_count : (old mid new : List (View D)) → length mid ≡ length old → length new ≡ length mid → EachPair (StillHolds stated content faults) old mid → EachPair (StillForward stated content faults) mid new → NoneFell faults old new
  committed_count old mid new long again kept forward = record {
    many = again ∙ long;
    later = λ k v w at is.
        let u = there_too old mid k v long at in
        let one = (kept k v u.0 at u.1).later in
        let other = (forward k u.0 w u.1 is).later in
        omega (arith, one, other);
  }

pub err_changes : {T E : Type 0} (r : Result T E) (asked old new : Option (List ℕ)) → is_err r ≡ true → Changes r asked old new → (new ≡ old) ⊎ (new ≡ asked)
err_changes (Ok x) asked old new is c = absurd (cc is)
err_changes (Err e) asked old new is c = c

pub ok_changes : {T E : Type 0} (r : Result T E) (asked old new : Option (List ℕ)) → is_err r ≡ false → Changes r asked old new → new ≡ asked
ok_changes (Ok x) asked old new is c = c
ok_changes (Err e) asked old new is c = absurd (cc is)

pub err_rose : {T E : Type 0} (r : Result T E) (before now : ℕ) → is_err r ≡ true → HasCause before now r → Rose before now
err_rose (Ok x) before now is c = absurd (cc is)
err_rose (Err e) before now is c = c.failed
