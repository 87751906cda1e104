-- What the calls of an opening leave, and the state for which an opened device stands.
use Rattle.std.proofs.Common.{ℕ, ◌≡◌, ◌+◌, ◌≤◌, List, [], ◌∷◌, length, get_or, Option, Some, None, refl, sym, ap, ◌∙◌, subst, arith, inl, inr}
use Rattle.std.specs.Prelude.{Contains}
use Rattle.std.proofs.lemmas.List.{get_or-map, length-map}
use Rattle.std.proofs.lemmas.List.Elements.{Contains-push_cases}
use Rattle.bow_units.specs.declared.sizes.Geometry.{Geometry}
use Rattle.bow_units.specs.Sizes.{IsValid}
use Rattle.bow_units.specs.declared.requests.Op.TheVariants.{Flush}
use Rattle.bow_disk.specs.Disk.{Content, IsShaped, IsCrash, Goes, Same, Flushed, KeepsSizes, TimeGoes}
use Rattle.bow_disk.proofs.Moments.{goes_told, adds_then, adds_fewer, no_cut_sizes}
use Rattle.bow_chain.specs.Contents.{contents_of}
use Rattle.bow_flat.specs.Flat.{opening}
use Rattle.bow_guard.specs.Cuts.{Candidates, IsFlushed, candidates_of}
use Rattle.bow_machine.specs.Requests.{Request}
use Rattle.bow_machine.specs.Memory.{Memory}
use Rattle.bow_machine.specs.Calls.{Call, ReadCall, WriteCall, FlushCall, Reply, Failed, Succeeded, Gave}
use Rattle.bow_machine.specs.Laws.{opened}
use Rattle.bow_machine.specs.Standing.{IsStanding, HasBlocks}
use Rattle.bow_machine.specs.declared.turns.Turn.TheVariants.{Map}
use Rattle.bow_machine.specs.Ahead.{IsLed}
use Rattle.bow_machine.proofs.Ahead.{admit_is_led, opening_is_led, led_keeps}
use Rattle.bow_core.specs.Further.{LedOver}
use Rattle.bow_machine.proofs.Whole.{opening_stands, admit_stands, step_keeps}
use Rattle.std.specs.Prelude.{Ok, Err, Result, slice_index_or}
use Rattle.bow_core.specs.declared.device.OpenFault.{OpenFault}
use Rattle.bow_core.specs.Standing.{StandsOver}
use Rattle.bow_disk.specs.Shapes.{now_image}
use Rattle.bow_units.specs.Causes.{Rose}
use Rattle.bow_units.specs.Magics.{HasMagic, IsPlain}
use Rattle.bow_core.specs.declared.device.OpenFault.TheVariants as faults
use Rattle.bow_core.specs.Calls.{DoesCall, Counted, HasFault, read_reply, reply_of}
use Rattle.bow_core.specs.Openings.{KeepsImage, LeftBy, BeginsMagic, SettledBy}
use Rattle.bow_core.specs.Ports.{Makes}

rose_before : (a b d : ℕ) → a ≤ b → Rose b d → Rose a d
rose_before a b d le rose = omega (arith, le, rose)

-- a flush leaves nothing to a cut that might not have been left before
flushed_crash : (size n : ℕ) (c d : Content) → IsShaped size n c → Flushed c d → (image : List (List ℕ)) → IsCrash d.candidates image → IsCrash c.candidates image
flushed_crash size n c d shaped step image crash =
    let long : length d.candidates ≡ length c.candidates = ap length step.1 ∙ length-map c.now (λ (x : List ℕ). x ∷ []) ∙ shaped.blocks ∙ sym shaped.listed in
    record {
      size = crash.size ∙ long;
      each = λ b within.
          let is : get_or d.candidates b [] ≡ get_or c.now b [] ∷ [] = ap (λ (l : List (List (List ℕ))). get_or l b []) step.1 ∙ get_or-map (λ (x : List ℕ). x ∷ []) c.now b [] [] (omega (arith, shaped.blocks, shaped.listed)) in
          let one : Contains (get_or c.now b [] ∷ []) (get_or image b []) = rw is at (crash.each b (omega (arith, long))) in
          let held : Contains (get_or c.candidates b []) (get_or c.now b []) = shaped.held b (omega (arith, shaped.listed)) in
          elim (Contains-push_cases [] (get_or c.now b []) (get_or image b []) one) [
            | inl none ↦ absurd (omega (arith, none.1))
            | inr same ↦ subst (Contains (get_or c.candidates b [])) same held
          ];
    }

-- a request for a flush, which changes nothing but that it waits
flush_request : Request
flush_request = record { ticket = record { key = 0; serial = 0 }; op = Flush; done = 0 }

-- A device opened on a disk whose blocks each have one candidate stands for the opening state of what they hold, and
-- whatever a cut leaves of it is ahead.
pub opened_stands : (g : Geometry) (image : List (List ℕ)) (may : Candidates) → IsValid g → HasBlocks g (contents_of image) → IsPlain (contents_of image 0) → IsFlushed g (contents_of image) may
    → IsStanding g (opened g.blocks) (contents_of image) may (opening image) × IsLed g (opened g.blocks) (contents_of image) may (opening image)
unfolding flush_request
opened_stands g image may valid blocks plain flushed =
    let now = contents_of image in
    let settled : Candidates = λ b. now b ∷ [] in
    let waits : Memory = record (opened g.blocks) { requests = flush_request ∷ [] } in
    let first : IsStanding g waits now settled (opening image) = admit_stands g (opened g.blocks) now settled (opening image) flush_request tt refl tt (omega arith) (opening_stands g image valid blocks plain) in
    let led : IsLed g waits now settled (opening image) = admit_is_led g (opened g.blocks) now settled (opening image) flush_request (opening_is_led g image valid plain) in (
      (step_keeps g waits (Map flush_request.ticket) Succeeded now now settled may (opening image) first (refl, flushed)).1,
      led_keeps g waits (Map flush_request.ticket) Succeeded now now settled may (opening image) first led (λ fails. absurd (cc fails)) (refl, flushed),
    )

-- ----------------------------------------------------------------------------------------------------------------
-- A flush or a read keeps the image.

abbrev IsQuiet : Call → Type 0
IsQuiet (ReadCall b) = Unit {0}
IsQuiet (WriteCall b v) = ⊥
IsQuiet FlushCall = Unit {0}

same_now : (call : Call) (reply : Reply) (c d : Content) → IsQuiet call → DoesCall call reply c d → d.now ≡ c.now
same_now (ReadCall b) (Gave v) c d quiet does = (does.0).0
same_now (ReadCall b) Failed c d quiet does = does.0
same_now (ReadCall b) Succeeded c d quiet does = absurd does
same_now (WriteCall b v) reply c d quiet does = absurd quiet
same_now FlushCall Succeeded c d quiet does = does.0
same_now FlushCall Failed c d quiet does = does.0
same_now FlushCall (Gave v) c d quiet does = absurd does

crash_same : (c d : Content) → Same c d → (image : List (List ℕ)) → IsCrash d.candidates image → IsCrash c.candidates image
crash_same c d same image crash = subst (λ l. IsCrash l image) same.1 crash

fewer : (size n : ℕ) (call : Call) (reply : Reply) (c d : Content) → IsQuiet call → IsShaped size n c → DoesCall call reply c d → (image : List (List ℕ)) → IsCrash d.candidates image → IsCrash c.candidates image
fewer size n (ReadCall b) (Gave v) c d quiet shaped does image crash = crash_same c d does.0 image crash
fewer size n (ReadCall b) Failed c d quiet shaped does image crash = crash_same c d does image crash
fewer size n (ReadCall b) Succeeded c d quiet shaped does image crash = absurd does
fewer size n (WriteCall b v) reply c d quiet shaped does image crash = absurd quiet
fewer size n FlushCall Succeeded c d quiet shaped does image crash = flushed_crash size n c d shaped does image crash
fewer size n FlushCall Failed c d quiet shaped does image crash = crash_same c d does image crash
fewer size n FlushCall (Gave v) c d quiet shaped does image crash = absurd does

goes_by : (step other : Content → Content → Type 0) → ((c d : Content) → step c d → other c d) → (o n : Option Content) → Goes step o n → Goes other o n
goes_by step other f None None goes = tt
goes_by step other f None (Some d) goes = absurd goes
goes_by step other f (Some c) None goes = absurd goes
goes_by step other f (Some c) (Some d) goes = f c d goes

sizes_then : (o p q : Option Geometry) → KeepsSizes o p → KeepsSizes p q → KeepsSizes o q
sizes_then None p q first second = tt
sizes_then (Some g) p q first second = subst (λ x. KeepsSizes x q) first second

image_then : (o p q : Option Content) → Goes (λ c d. d.now ≡ c.now) o p → Goes (λ c d. d.now ≡ c.now) p q → Goes (λ c d. d.now ≡ c.now) o q
image_then None None None first second = tt
image_then None None (Some e) first second = absurd second
image_then None (Some d) q first second = absurd first
image_then (Some c) None q first second = absurd first
image_then (Some c) (Some d) None first second = absurd second
image_then (Some c) (Some d) (Some e) first second = second ∙ first

time_of : (o : Option Content) (d : Content) (before now : ℕ) (past since : ℕ → List (List ℕ) → Type 0) → o ≡ Some d → TimeGoes o before now past since → Counted 1 before now
time_of None d before now past since is time = absurd (cc is)
time_of (Some c) d before now past since is time = time.count

module _ {D : Type 0} (stated : D → Option Geometry) (content : D → Option Content) (moment : D → ℕ) (left : D → ℕ → List (List ℕ) → Type 0) (faults_of : D → ℕ)
    (shaped : (d : D) (c : Content) → content d ≡ Some c → (g : Geometry) → stated d ≡ Some g → IsShaped g.block_size g.blocks c)
    (counts : (d : D) (c : Content) → content d ≡ Some c → (t : ℕ) (image : List (List ℕ)) → t ≤ moment d → IsCrash c.candidates image → left d t image) where
  pub keeps_then : (a b d : D) → KeepsImage stated content moment left faults_of a b → KeepsImage stated content moment left faults_of b d → KeepsImage stated content moment left faults_of a d
  keeps_then a b d first second = record {
    sizes = sizes_then (stated a) (stated b) (stated d) first.sizes second.sizes;
    image = image_then (content a) (content b) (content d) first.image second.image;
    cuts = λ c is.
        let told = goes_told content (λ c d. d.now ≡ c.now) a b c is first.image in
        adds_then content moment left (λ image. ⊥) a b d (first.cuts c is) (second.cuts told.told told.is);
    later = omega (arith, first.later, second.later);
  }

  pub keeps_sizes : (a b : D) → KeepsSizes (stated a) (stated b) → Goes Same (content a) (content b) → moment b ≡ moment a → ((t : ℕ) (image : List (List ℕ)) → left b t image → left a t image)
      → ((t : ℕ) (image : List (List ℕ)) → left a t image → left b t image) → faults_of a ≤ faults_of b → KeepsImage stated content moment left faults_of a b
  keeps_sizes a b sizes same count past keeps later = record {
    sizes = sizes;
    image = goes_by Same (λ c d. d.now ≡ c.now) (λ c d s. s.0) (content a) (content b) same;
    cuts = no_cut_sizes content moment left a b count past keeps;
    later = later;
  }

  module _ (g : Geometry) where
    keeps_call : (call : Call) (reply : Reply) (a b : D) (before now : ℕ) → IsQuiet call → stated a ≡ Some g → Makes stated content moment left faults_of g (Some call) reply a b before now → KeepsImage stated content moment left faults_of a b
    keeps_call call reply a b before now quiet sizes made = record {
      sizes = subst (λ o. KeepsSizes o (stated b)) (sym sizes) made.sizes;
      image = goes_by (DoesCall call reply) (λ c d. d.now ≡ c.now) (λ c d does. same_now call reply c d quiet does) (content a) (content b) made.disk;
      cuts = λ c is.
          let told = goes_told content (DoesCall call reply) a b c is made.disk in
          adds_fewer content moment left (λ image. ⊥) a b c told.told told.is (λ image crash. fewer g.block_size g.blocks call reply c told.told quiet (shaped a c is g sizes) told.holds image crash) made.time (counts a c is);
      later = made.later;
    }

    one_tick : (call : Call) (reply : Reply) (a b : D) (before now : ℕ) (c : Content) → content a ≡ Some c → Makes stated content moment left faults_of g (Some call) reply a b before now → Counted 1 (moment a) (moment b)
    one_tick call reply a b before now c is made =
        let told = goes_told content (DoesCall call reply) a b c is made.disk in
        time_of (content b) told.told (moment a) (moment b) (left a) (left b) told.is made.time

    pub flush_failed : (a b : D) (before now : ℕ) → stated a ≡ Some g → Makes stated content moment left faults_of g (Some FlushCall) Failed a b before now
        → {T : Type 0} → LeftBy {T = T} stated content moment left faults_of g (Err faults.DiskFault) a b
    flush_failed a b before now sizes made = record {
      sizes = made.sizes;
      kept = keeps_call FlushCall Failed a b before now tt sizes made;
      settled = tt;
      done = tt;
      clock = λ c is. let tick = one_tick FlushCall Failed a b before now c is made in omega (arith, tick);
      cause = made.cause;
    }

    -- both calls were made, and the flush was done
    module _ {A E B F : Type 0} (a b d : D) (before middle now : ℕ) (flushed : Result A E) (y : A) (got : Result B F) (v : List ℕ) (sizes : stated a ≡ Some g) (is_flushed : flushed ≡ Ok y)
        (flushes : (k : Geometry) → stated a ≡ Some k → Makes stated content moment left faults_of k (Some FlushCall) (reply_of flushed) a b before middle)
        (reads : (k : Geometry) → stated b ≡ Some k → Makes stated content moment left faults_of k (Some (ReadCall 0)) (read_reply got v) b d middle now) where
      first : Makes stated content moment left faults_of g (Some FlushCall) Succeeded a b before middle
      first = subst (λ r. Makes stated content moment left faults_of g (Some FlushCall) r a b before middle) (ap reply_of is_flushed) (flushes g sizes)

      second : Makes stated content moment left faults_of g (Some (ReadCall 0)) (read_reply got v) b d middle now
      second = reads g first.sizes

      kept : KeepsImage stated content moment left faults_of a d
      kept = keeps_then a b d (keeps_call FlushCall Succeeded a b before middle tt sizes first) (keeps_call (ReadCall 0) (read_reply got v) b d middle now tt first.sizes second)

      ticks : (c : Content) → content a ≡ Some c → Counted 2 (moment a) (moment d)
      ticks c is =
          let told = goes_told content (DoesCall FlushCall Succeeded) a b c is first.disk in
          let one = one_tick FlushCall Succeeded a b before middle c is first in
          let two = one_tick (ReadCall 0) (read_reply got v) b d middle now told.told told.is second in
          omega (arith, one, two)

      pub read_failed : read_reply got v ≡ Failed → {T : Type 0} → LeftBy {T = T} stated content moment left faults_of g (Err faults.DiskFault) a d
      read_failed is = record {
        sizes = second.sizes;
        kept = kept;
        settled = tt;
        done = tt;
        clock = λ c told. let tick = ticks c told in omega (arith, tick);
        cause = rose_before (faults_of a) (faults_of b) (faults_of d) first.later (subst (λ r. HasFault (Some (ReadCall 0)) r (faults_of b) (faults_of d)) is second.cause);
      }

      pub magic_found : read_reply got v ≡ Gave v → HasMagic v → {T : Type 0} → LeftBy {T = T} stated content moment left faults_of g (Err faults.NeedsRestore) a d
      magic_found is magic = record {
        sizes = second.sizes;
        kept = kept;
        settled = tt;
        done = tt;
        clock = λ c told. let tick = ticks c told in omega (arith, tick);
        cause = found (content b) (content d) (subst (λ r. Goes (DoesCall (ReadCall 0) r) (content b) (content d)) is second.disk);
      }
        where
          found : (o n : Option Content) → Goes (DoesCall (ReadCall 0) (Gave v)) o n → BeginsMagic n
          found None None goes = tt
          found None (Some e) goes = absurd goes
          found (Some c) None goes = absurd goes
          found (Some c) (Some e) goes = subst HasMagic (sym (goes.1) ∙ sym (ap (λ (l : List (List ℕ)). get_or l 0 []) (goes.0).0)) magic

      pub all_settled : read_reply got v ≡ Gave v → (HasMagic v → ⊥) → {T : Type 0} (x : T) → LeftBy stated content moment left faults_of g (Ok x) a d
      all_settled is plain x = record {
        sizes = second.sizes;
        kept = kept;
        settled = go (content a) refl (content b) (content d) first.disk (subst (λ r. Goes (DoesCall (ReadCall 0) r) (content b) (content d)) is second.disk);
        done = record {
          between = b;
          block = v;
          first = before;
          second = middle;
          third = now;
          flush = first;
          read = subst (λ r. Makes stated content moment left faults_of g (Some (ReadCall 0)) r b d middle now) is second;
        };
        clock = λ c told. let tick = ticks c told in omega (arith, tick);
        cause = tt;
      }
        where
          go : (o : Option Content) → content a ≡ o → (n p : Option Content) → Goes (DoesCall FlushCall Succeeded) o n → Goes (DoesCall (ReadCall 0) (Gave v)) n p → SettledBy o p (moment a) (moment d)
          go None at None None one two = tt
          go None at None (Some e) one two = tt
          go None at (Some c) p one two = absurd one
          go (Some c) at None p one two = absurd one
          go (Some c) at (Some e) None one two = absurd two
          go (Some c) at (Some e) (Some f) one two = (
            ((two.0).0 ∙ one.0, (two.0).1 ∙ one.1),
            λ magic. plain (subst HasMagic (ap (λ (l : List (List ℕ)). get_or l 0 []) (sym one.0) ∙ two.1) magic),
            ticks c at,
          )

    -- the sizes were asked before
    pub opened_kept : {T : Type 0} (result : Result T OpenFault) (a b d : D) → KeepsImage stated content moment left faults_of a b → LeftBy stated content moment left faults_of g result b d → KeepsImage stated content moment left faults_of a d
    opened_kept result a b d asked made = keeps_then a b d asked made.kept

    pub opened_clock : {T : Type 0} (result : Result T OpenFault) (a b d : D) (c : Content) → content a ≡ Some c → Goes Same (content a) (content b) → moment b ≡ moment a → LeftBy stated content moment left faults_of g result b d → moment d ≤ moment a + 2
    opened_clock result a b d c is same count made =
        let told = goes_told content Same a b c is same in
        omega (arith, count, made.clock told.told told.is)

    -- an opened device over a disk that tells its content
    module _ {T : Type 0} (x : T) (a b d : D) (c : Content) (is : content a ≡ Some c) (valid : IsValid g) (same : Goes Same (content a) (content b)) (count : moment b ≡ moment a) (made : LeftBy {T = T} stated content moment left faults_of g (Ok x) b d) where
      found : (o n p : Option Content) → o ≡ Some c → content d ≡ p → Goes Same o n → SettledBy n p (moment b) (moment d)
          → IsPlain (slice_index_or c.now 0 []) × StandsOver g (opened g.blocks) p (opening c.now) × LedOver g (opened g.blocks) p (opening c.now) × Counted 2 (moment b) (moment d)
      found None n p told at same settled = absurd (cc told)
      found (Some o) None p told at same settled = absurd same
      found (Some o) (Some e) None told at same settled = absurd settled
      found (Some o) (Some e) (Some f) told at same settled =
          let own : o ≡ c = cc told in
          let image : f.now ≡ c.now = (settled.0).0 ∙ same.0 ∙ ap (λ (k : Content). k.now) own in
          let first : e.now ≡ c.now = same.0 ∙ ap (λ (k : Content). k.now) own in
          let plain : IsPlain (slice_index_or c.now 0 []) = subst (λ (l : List (List ℕ)). IsPlain (get_or l 0 [])) first settled.1 in
          let is_shaped = shaped d f at g made.sizes in
          let blocks : HasBlocks g (contents_of f.now) = λ x within. ((now_image g.block_size g.blocks f is_shaped).each x within).long in
          let flushed : IsFlushed g (contents_of f.now) (candidates_of f.candidates) = λ x within.
          ap (λ (l : List (List (List ℕ))). get_or l x []) ((settled.0).1) ∙ get_or-map (λ (y : List ℕ). y ∷ []) e.now x [] [] (omega (arith, within, ap (λ (l : List (List ℕ)). length l) (sym ((settled.0).0)), is_shaped.blocks))
          ∙ ap (λ (l : List (List ℕ)). get_or l x [] ∷ []) (sym ((settled.0).0)) in
          let stands = opened_stands g f.now (candidates_of f.candidates) valid blocks (subst (λ (l : List (List ℕ)). IsPlain (get_or l 0 [])) (sym image) plain) flushed in (
            plain,
            subst (λ (l : List (List ℕ)). IsStanding g (opened g.blocks) (contents_of f.now) (candidates_of f.candidates) (opening l)) image stands.0,
            subst (λ (l : List (List ℕ)). IsLed g (opened g.blocks) (contents_of f.now) (candidates_of f.candidates) (opening l)) image stands.1,
            settled.2,
          )

      pub opened_so : IsPlain (slice_index_or c.now 0 []) × StandsOver g (opened g.blocks) (content d) (opening c.now) × LedOver g (opened g.blocks) (content d) (opening c.now) × Counted 2 (moment a) (moment d)
      opened_so =
          let both = found (content a) (content b) (content d) is refl same made.settled in
          (both.0, both.1, both.2, subst (λ n. Counted 2 n (moment d)) count both.3)
