-- What its writers see of a session beside a reader is a session that was loaded: their clock counts their calls alone.
use Rattle.std.proofs.Common.{◌≡◌, ℕ, ◌+◌, ◌-◌, ◌^◌, ◌<◌, ◌≤◌, min, max, suc, zero, List, [], ◌∷◌, ◌++◌, length, Option, Some, None, arith, refl, sym, ap, ◌∙◌, subst, inl, inr}
use Rattle.std.specs.Prelude.{slice_index_or}
use Rattle.std.specs.Option.{option_map}
use Rattle.std.proofs.lemmas.Bool.{cases_lt}
use Rattle.bow_units.specs.declared.sizes.Geometry.{Geometry}
use Rattle.bow_disk.specs.Disk.{Content, Goes, IsCrash, IsShaped, IsImage, Elapses, TimeGoes}
use Rattle.bow_machine.specs.Calls.{Call, Reply, ReadCall, Failed, Succeeded, Gave}
use Rattle.bow_core.specs.Calls.{Counted, DoesOne, HasFault}
use Rattle.bow_core.specs.Ports.{Makes}
use Rattle.bow_core.specs.Views.{View}
use Rattle.bow_history.specs.declared.items.Item.{Item}
use Rattle.bow_history.specs.DiskCuts.{HasCuts, disk_of}
use Rattle.bow_history.specs.Promises.{IsSession, RunsOver, more}
use Rattle.bow_history.specs.Sessions.{Turned, Admits, Steps, call_in, item_in}
use Rattle.bow_script.specs.declared.scripts.Line.{Line}
use Rattle.bow_session.specs.Leads.{WasLoaded}
use Rattle.bow_session.specs.Loading.{loaded}
use Rattle.bow_session.specs.Runs.{begun_over, view_of}
use Rattle.bow_session.specs.Sessions.{Run, plan_in, state_in}
use Rattle.bow_session.specs.Turns.{IsOneTurn, PassesTurn}
use Rattle.bow_session.proofs.Leading.{loaded_fresh, loaded_on}
use Rattle.bow_past.specs.Steps.{ReadsBeside}
use Rattle.bow_past.proofs.Twin.{Twin, IsTwin, at_from, at_high, at_low, beside_left, beside_twin, first_twin, left_by, next_goes, next_twin, one_more, one_more_is, only_now_by, shaped_by}

-- what the disk told before a call, where it tells a content after it
pub told_before : (P : Content → Content → Type 0) (o n : Option Content) (f : Content) → n ≡ Some f → Goes P o n → (c : Content) × (o ≡ Some c)
told_before P None None f is goes = absurd (cc is)
told_before P None (Some x) f is goes = absurd goes
told_before P (Some c) n f is goes = (c, refl)

-- ----------------------------------------------------------------------------------------------------------------
-- Calls that fail.

-- a reply of failure counts as one
abbrev pub failed_by : Reply → ℕ
failed_by Failed = 1
failed_by Succeeded = 0
failed_by (Gave v) = 0

-- the count of failed calls, after this reply
abbrev pub with_failed : Reply → ℕ → ℕ
with_failed Failed n = one_more n
with_failed Succeeded n = n
with_failed (Gave v) n = n

failed_later : (reply : Reply) (n : ℕ) → n ≤ with_failed reply n
failed_later Failed n = let m = one_more_is n in omega (arith, m)
failed_later Succeeded n = omega arith
failed_later (Gave v) n = omega arith

failed_cause : (call : Call) (reply : Reply) (n : ℕ) → HasFault (Some call) reply n (with_failed reply n)
failed_cause call Failed n = let m = one_more_is n in omega (arith, m)
failed_cause call Succeeded n = tt
failed_cause call (Gave v) n = tt

failed_all : (call : Call) (reply : Reply) (n lost old new : ℕ) → min (n + lost) (2 ^ 64 - 1) ≤ old → old ≤ new → HasFault (Some call) reply old new → min (with_failed reply n + lost) (2 ^ 64 - 1) ≤ new
failed_all call Failed n lost old new all later rose = let m = one_more_is n in omega (arith, m, all, later, rose)
failed_all call Succeeded n lost old new all later rose = omega (arith, all, later)
failed_all call (Gave v) n lost old new all later rose = omega (arith, all, later)

read_all : (call : Call) (reply : Reply) (n lost old new : ℕ) → min (n + lost) (2 ^ 64 - 1) ≤ old → old ≤ new → HasFault (Some call) reply old new → min (n + (lost + failed_by reply)) (2 ^ 64 - 1) ≤ new
read_all call Failed n lost old new all later rose = omega (arith, all, later, rose)
read_all call Succeeded n lost old new all later rose = omega (arith, all, later)
read_all call (Gave v) n lost old new all later rose = omega (arith, all, later)

module _ {D : Type 0} (stated : D → Option Geometry) (content : D → Option Content) (moment : D → ℕ) (left : D → ℕ → List (List ℕ) → Type 0) (faults : D → ℕ)
    (first : View D) (base : ℕ) where
  abbrev pub start : ℕ
  start = moment first.disk

  abbrev pub stated_by : Twin D → Option Geometry
  stated_by tw = stated tw.disk

  abbrev pub content_by : Twin D → Option Content
  content_by tw = content tw.disk

  abbrev pub moment_by : Twin D → ℕ
  moment_by tw = tw.clock

  abbrev pub since_by : Twin D → ℕ → List (List ℕ) → Type 0
  since_by = left_by stated content moment left start

  abbrev pub faults_by : Twin D → ℕ
  faults_by tw = tw.faults

  -- a session as its writers see it
  abbrev pub run_by : Run D → D → ℕ → (ℕ → ℕ) → ℕ → ℕ → List ℕ → Run (Twin D)
  run_by v d clock at count calls moments = record {
    core = record {
      disk = record { disk = d; clock = clock; at = at; faults = count };
      geometry = v.core.geometry;
      places = v.core.places;
      memory = v.core.memory;
      admitted = v.core.admitted;
      calls = calls;
    };
    script = v.script;
    lanes = v.lanes;
    journal = v.journal;
    moments = moments;
  }

  -- the device with which they began
  abbrev pub first_by : View (Twin D)
  first_by = record {
    disk = record { disk = first.disk; clock = start; at = λ t. min t start; faults = faults first.disk };
    geometry = first.geometry;
    places = first.places;
    memory = first.memory;
    admitted = first.admitted;
    calls = first.calls;
  }

  abbrev pub WasLoadedBy : Run (Twin D) → Type 0
  WasLoadedBy v = WasLoaded stated_by content_by moment_by since_by faults_by first_by v

  -- at the moment of an item, by the device's count m, their clock had come as far as their own count n
  pub record IsPair (at : ℕ → ℕ) (m n : ℕ) : Type 0 where
    pub low : n < 2 ^ 64 - 1
    pub after : 2 ≤ n
    pub up : max start (min (start - 2 + n) (2 ^ 64 - 1)) ≤ at (base + m)

  -- so at the moment of each, where the device's count was not at its last value
  abbrev pub ArePairs : (ℕ → ℕ) → List ℕ → List ℕ → Type 0
  ArePairs at [] [] = Unit {0}
  ArePairs at (m ∷ ms) (n ∷ ns) = (m < 2 ^ 64 - 1 → IsPair at m n) × ArePairs at ms ns
  ArePairs at ms ns = ⊥

  -- where the disk tells this content
  pub record IsTold (v : Run D) (clock : ℕ) (at : ℕ → ℕ) (count calls : ℕ) (moments : List ℕ) (c : Content) : Type 0 where
    pub twin : IsTwin stated content moment left start (record { disk = v.core.disk; clock = clock; at = at; faults = count }) c
    pub clock_is : clock ≡ max start (min (start - 2 + calls) (2 ^ 64 - 1))
    pub low : v.core.calls < 2 ^ 64 - 1 → moment v.core.disk ≤ base + v.core.calls
    pub pairs : ArePairs at v.moments moments

  -- The session as its writers see it was loaded over that device; and this many reads beside it failed.
  pub record HasTwin (lost : ℕ) (v : Run D) : Type 0 where
    pub clock : ℕ
    pub at : ℕ → ℕ
    pub count : ℕ
    pub calls : ℕ
    pub moments : List ℕ
    pub loaded_by : WasLoadedBy (run_by v v.core.disk clock at count calls moments)
    pub fewer : calls ≤ v.core.calls
    pub some : 2 ≤ calls
    pub faults_all : min (count + lost) (2 ^ 64 - 1) ≤ faults v.core.disk
    pub told : (c : Content) → content v.core.disk ≡ Some c → IsTold v clock at count calls moments c

  -- ----------------------------------------------------------------------------------------------------------------
  -- Pairs of moments.

  pairs_later : (at now : ℕ → ℕ) (ms ns : List ℕ) → ((t : ℕ) → at t ≤ now t) → ArePairs at ms ns → ArePairs now ms ns
  pairs_later at now [] [] up pairs = tt
  pairs_later at now (m ∷ ms) (n ∷ ns) up pairs = (
    λ below. let p = pairs.0 below in let u = up (base + m) in record { low = p.low; after = p.after; up = omega (arith, p.up, u) },
    pairs_later at now ms ns up pairs.1,
  )
  pairs_later at now [] (n ∷ ns) up pairs = absurd pairs
  pairs_later at now (m ∷ ms) [] up pairs = absurd pairs

  pairs_push : (at : ℕ → ℕ) (ms ns : List ℕ) (item : Option Item) (m n : ℕ) → ArePairs at ms ns → (m < 2 ^ 64 - 1 → IsPair at m n) → ArePairs at (ms ++ more item m) (ns ++ more item n)
  pairs_push at [] [] None m n pairs one = tt
  pairs_push at [] [] (Some item) m n pairs one = (one, tt)
  pairs_push at (x ∷ ms) (y ∷ ns) item m n pairs one = (pairs.0, pairs_push at ms ns item m n pairs.1 one)
  pairs_push at [] (y ∷ ns) item m n pairs one = absurd pairs
  pairs_push at (x ∷ ms) [] item m n pairs one = absurd pairs

  pub pair_at : (at : ℕ → ℕ) (ms ns : List ℕ) (i : ℕ) → ArePairs at ms ns → i < length ns → slice_index_or ms i 0 < 2 ^ 64 - 1 → IsPair at (slice_index_or ms i 0) (slice_index_or ns i 0)
  pair_at at [] [] i pairs inside below = absurd (omega (arith, inside))
  pair_at at (m ∷ ms) (n ∷ ns) zero pairs inside below = pairs.0 below
  pair_at at (m ∷ ms) (n ∷ ns) (suc i) pairs inside below = pair_at at ms ns i pairs.1 (omega (arith, inside)) below
  pair_at at [] (n ∷ ns) i pairs inside below = absurd pairs
  pair_at at (m ∷ ms) [] i pairs inside below = absurd pairs

  -- ----------------------------------------------------------------------------------------------------------------
  -- Another disk under the same session.

  over_same : (v : Run D) (d e : D) (clock : ℕ) (at : ℕ → ℕ) (count calls : ℕ) (moments : List ℕ) → WasLoadedBy (run_by v d clock at count calls moments) → stated e ≡ Some v.core.geometry → content e ≡ content d
      → ((c : Content) → content d ≡ Some c → (t : ℕ) (image : List (List ℕ)) → since_by (record { disk = e; clock = clock; at = at; faults = count }) t image → since_by (record { disk = d; clock = clock; at = at; faults = count }) t image)
      → WasLoadedBy (run_by v e clock at count calls moments)
  over_same v d e clock at count calls moments k sizes same fewer = record {
    turns = k.turns;
    run = record { session = session; state = (k.run).state; sizes = sizes };
    cuts = λ c is. cuts c (k.cuts c is);
    sizes = k.sizes;
    sound = k.sound;
    idle = k.idle;
    later = k.later;
    fine = k.fine;
    admitted = k.admitted;
  }
    where
      session : IsSession (view_of content_by faults_by first_by k.turns (run_by v e clock at count calls moments))
      session =
          let s = (k.run).session in
          record {
            sizes = s.sizes;
            rise = s.rise;
            sound = s.sound;
            may = s.may;
            memory = s.memory;
            admitted = s.admitted;
            journal = s.journal;
            calls = s.calls;
            moments = s.moments;
            faults = s.faults;
            runs = subst (λ o. RunsOver (plan_in v) (begun_over first_by) k.turns (option_map disk_of (content first.disk)) (option_map disk_of o)) (sym same) s.runs;
          }

      cuts : (c : Content) → HasCuts content_by moment_by since_by first_by.disk (record { disk = d; clock = clock; at = at; faults = count }) (plan_in v) (begun_over first_by) k.turns (disk_of c)
          → HasCuts content_by moment_by since_by first_by.disk (record { disk = e; clock = clock; at = at; faults = count }) (plan_in v) (begun_over first_by) k.turns (disk_of c)
      cuts c h = record {
        last = h.last;
        tells = same ∙ h.tells;
        listed = h.listed;
        run = h.run;
        counted = h.counted;
        later = h.later;
        left = λ since image late now. h.left since image late (fewer h.last h.tells since image now);
        early = λ since image low now. h.early since image low (fewer h.last h.tells since image now);
      }

  module _ (shaped : (d : D) (c : Content) → content d ≡ Some c → (g : Geometry) → stated d ≡ Some g → IsShaped g.block_size g.blocks c)
      (cuts_shaped : (d : D) (c : Content) → content d ≡ Some c → (g : Geometry) → stated d ≡ Some g → (t : ℕ) (image : List (List ℕ)) → left d t image → IsImage g.block_size g.blocks image)
      (counts_now : (d : D) (c : Content) → content d ≡ Some c → (t : ℕ) (image : List (List ℕ)) → t ≤ moment d → IsCrash c.candidates image → left d t image)
      (only_now : (d : D) (c : Content) → content d ≡ Some c → (t : ℕ) (image : List (List ℕ)) → moment d ≤ t → left d t image → IsCrash c.candidates image) where
    -- ----------------------------------------------------------------------------------------------------------------
    -- A turn of the session.

    -- the new moment's pair
    new_pair : (at : ℕ → ℕ) (clock calls m before : ℕ) → calls ≤ m → 2 ≤ calls → clock ≡ max start (min (start - 2 + calls) (2 ^ 64 - 1)) → (m < 2 ^ 64 - 1 → before ≤ base + m)
        → ((t : ℕ) → before ≤ t → clock ≤ at t) → m < 2 ^ 64 - 1 → IsPair at m calls
    new_pair at clock calls m before fewer some is low full below =
        let u = full (base + m) (low below) in
        record { low = omega (arith, fewer, below); after = some; up = omega (arith, is, u) }

    -- without a call nothing went on
    module _ (lost : ℕ) (old new : Run D) (turn : Turned) (k : HasTwin lost old) (disk : new.core.disk ≡ old.core.disk) (calls : new.core.calls ≡ old.core.calls)
        (moments : new.moments ≡ old.moments ++ more (item_in (plan_in old) (state_in old) turn) new.core.calls) where
      still_told : (c : Content) → content new.core.disk ≡ Some c → IsTold new k.clock k.at k.count k.calls (k.moments ++ more (item_in (plan_in old) (state_in old) turn) k.calls) c
      still_told c is =
          let t = k.told c (sym (ap content disk) ∙ is) in
          let twin = subst (λ d. IsTwin stated content moment left start (record { disk = d; clock = k.clock; at = k.at; faults = k.count }) c) (sym disk) t.twin in
          let low : new.core.calls < 2 ^ 64 - 1 → moment new.core.disk ≤ base + new.core.calls = λ below. (let same = ap moment disk in let one = t.low (omega (arith, below, calls)) in omega (arith, one, same, calls)) in
          record {
            twin = twin;
            clock_is = t.clock_is;
            low = low;
            pairs = subst (λ ms. ArePairs k.at ms (k.moments ++ more (item_in (plan_in old) (state_in old) turn) k.calls)) (sym moments)
                (pairs_push k.at old.moments k.moments (item_in (plan_in old) (state_in old) turn) new.core.calls k.calls t.pairs
                (new_pair k.at k.clock k.calls new.core.calls (moment new.core.disk) (omega (arith, k.fewer, calls)) k.some t.clock_is low twin.full));
          }

      still : WasLoadedBy (run_by new new.core.disk k.clock k.at k.count k.calls (k.moments ++ more (item_in (plan_in old) (state_in old) turn) k.calls)) → HasTwin lost new
      still loaded_by = record {
        clock = k.clock;
        at = k.at;
        count = k.count;
        calls = k.calls;
        moments = k.moments ++ more (item_in (plan_in old) (state_in old) turn) k.calls;
        loaded_by = loaded_by;
        fewer = omega (arith, k.fewer, calls);
        some = k.some;
        faults_all = (let same = ap faults disk in let all = k.faults_all in omega (arith, same, all));
        told = still_told;
      }

    -- the turn of what the writers see
    on_by : (lost : ℕ) (old new : Run D) (turn : Turned) (k : HasTwin lost old) → IsOneTurn stated content moment left faults old turn new → (clock : ℕ) (at : ℕ → ℕ) (count calls : ℕ)
        → PassesTurn stated_by content_by moment_by since_by faults_by (run_by old old.core.disk k.clock k.at k.count k.calls k.moments) turn (run_by new new.core.disk clock at count calls []).core
        → WasLoadedBy (run_by new new.core.disk clock at count calls (k.moments ++ more (item_in (plan_in old) (state_in old) turn) calls))
    on_by lost old new turn k one clock at count calls passes =
        loaded_on stated_by content_by moment_by since_by faults_by (shaped_by stated content moment left start shaped cuts_shaped counts_now only_now) (only_now_by stated content moment left start shaped cuts_shaped counts_now only_now)
        first_by (run_by old old.core.disk k.clock k.at k.count k.calls k.moments) turn (run_by new new.core.disk clock at count calls (k.moments ++ more (item_in (plan_in old) (state_in old) turn) calls)) k.loaded_by
        (record {
          may = one.may;
          state = one.state;
          journal = one.journal;
          moments = refl;
          passes = passes;
          script = one.script;
          geometry = one.geometry;
          places = one.places;
        })

    -- a call of the writers
    module _ (lost : ℕ) (old new : Run D) (turn : Turned) (k : HasTwin lost old) (call : Call) (reply : Reply)
        (made : Makes stated content moment left faults old.core.geometry (Some call) reply old.core.disk new.core.disk old.core.calls new.core.calls)
        (moments : new.moments ≡ old.moments ++ more (item_in (plan_in old) (state_in old) turn) new.core.calls) where
      abbrev clock : ℕ
      clock = one_more k.clock

      abbrev at : ℕ → ℕ
      at = at_from (moment new.core.disk) clock k.at

      abbrev calls : ℕ
      calls = one_more k.calls

      abbrev count : ℕ
      count = with_failed reply k.count

      went : (f : Content) → content new.core.disk ≡ Some f → Elapses (moment old.core.disk) (moment new.core.disk) (left old.core.disk) (left new.core.disk) (IsCrash f.candidates)
      went f is = subst (λ o. TimeGoes o (moment old.core.disk) (moment new.core.disk) (left old.core.disk) (left new.core.disk)) is made.time

      told_old : (f : Content) → content new.core.disk ≡ Some f → (c : Content) × (content old.core.disk ≡ Some c)
      told_old f is = told_before (DoesOne (Some call) reply) (content old.core.disk) (content new.core.disk) f is made.disk

      goes_by : (o : Option Content) → content new.core.disk ≡ o → TimeGoes o k.clock clock (since_by (record { disk = old.core.disk; clock = k.clock; at = k.at; faults = k.count })) (since_by (record { disk = new.core.disk; clock = clock; at = at; faults = count }))
      goes_by None is = tt
      goes_by (Some f) is =
          let c = told_old f is in
          next_goes stated content moment left start shaped cuts_shaped counts_now only_now (record { disk = old.core.disk; clock = k.clock; at = k.at; faults = k.count }) c.0 c.1 (k.told c.0 c.1).twin new.core.disk f is (went f is) count

      made_by : Makes stated_by content_by moment_by since_by faults_by old.core.geometry (Some call) reply (record { disk = old.core.disk; clock = k.clock; at = k.at; faults = k.count }) (record { disk = new.core.disk; clock = clock; at = at; faults = count }) k.calls calls
      made_by = record {
        may = made.may;
        disk = made.disk;
        time = goes_by (content new.core.disk) refl;
        counted = one_more_is k.calls;
        sizes = made.sizes;
        later = failed_later reply k.count;
        cause = failed_cause call reply k.count;
        stays = tt;
      }

      up : (f : Content) → content new.core.disk ≡ Some f → (t : ℕ) → k.at t ≤ at t
      up f is t = elim (cases_lt t (moment new.core.disk)) [
        | inl one ↦ (let a = at_low (moment new.core.disk) clock k.at t one in omega (arith, a))
        | inr none ↦
            let a = at_high (moment new.core.disk) clock k.at t (omega (arith, none)) in
            let c = told_old f is in
            let w = ((k.told c.0 c.1).twin).within t in
            let m = one_more_is k.clock in
            omega (arith, a, w, m)
      ]

      told_new : (f : Content) → content new.core.disk ≡ Some f → IsTold new clock at count calls (k.moments ++ more (item_in (plan_in old) (state_in old) turn) calls) f
      told_new f is =
          let c = told_old f is in
          let t = k.told c.0 c.1 in
          let twin = next_twin stated content moment left start shaped cuts_shaped counts_now only_now (record { disk = old.core.disk; clock = k.clock; at = k.at; faults = k.count }) c.0 c.1 t.twin new.core.disk f is (went f is) count in
          let one = one_more_is k.clock in
          let two = one_more_is k.calls in
          let counted : new.core.calls ≡ max old.core.calls (min (old.core.calls + 1) (2 ^ 64 - 1)) = made.counted in
          let time = (went f is).count in
          let clock_is : clock ≡ max start (min (start - 2 + calls) (2 ^ 64 - 1)) = omega (arith, one, two, t.clock_is, k.some) in
          let low : new.core.calls < 2 ^ 64 - 1 → moment new.core.disk ≤ base + new.core.calls = λ below. (let before = t.low (omega (arith, below, counted)) in omega (arith, before, below, counted, time)) in
          record {
            twin = twin;
            clock_is = clock_is;
            low = low;
            pairs = subst (λ ms. ArePairs at ms (k.moments ++ more (item_in (plan_in old) (state_in old) turn) calls)) (sym moments)
                (pairs_push at old.moments k.moments (item_in (plan_in old) (state_in old) turn) new.core.calls calls (pairs_later k.at at old.moments k.moments (up f is) t.pairs)
                (new_pair at clock calls new.core.calls (moment new.core.disk) (omega (arith, k.fewer, counted, two)) (omega (arith, k.some, two)) clock_is low twin.full));
          }

      went_on : WasLoadedBy (run_by new new.core.disk clock at count calls (k.moments ++ more (item_in (plan_in old) (state_in old) turn) calls)) → HasTwin lost new
      went_on loaded_by =
          let two = one_more_is k.calls in
          let counted : new.core.calls ≡ max old.core.calls (min (old.core.calls + 1) (2 ^ 64 - 1)) = made.counted in
          record {
            clock = clock;
            at = at;
            count = count;
            calls = calls;
            moments = k.moments ++ more (item_in (plan_in old) (state_in old) turn) calls;
            loaded_by = loaded_by;
            fewer = omega (arith, k.fewer, counted, two);
            some = omega (arith, k.some, two);
            faults_all = failed_all call reply k.count lost (faults old.core.disk) (faults new.core.disk) k.faults_all made.later made.cause;
            told = told_new;
          }

    same_count : (n m last : ℕ) → m ≡ max n (min (n + 0) last) → m ≡ n
    same_count n m last is = omega (arith, is)

    count_stays : (n last : ℕ) → n ≡ max n (min (n + 0) last)
    count_stays n last = omega arith

    pub has_turned : (lost : ℕ) (old : Run D) (turn : Turned) (new : Run D) → HasTwin lost old → IsOneTurn stated content moment left faults old turn new → HasTwin lost new
    has_turned lost old (Admits lane ticket op) new k one =
        let disk = (one.passes).0 in
        still lost old new (Admits lane ticket op) k disk (one.passes).1 one.moments
        (on_by lost old new (Admits lane ticket op) k one k.clock k.at k.count k.calls (ap (λ d. let tw : Twin D = record { disk = d; clock = k.clock; at = k.at; faults = k.count } in tw) disk, refl))
    has_turned lost old (Steps actor reply) new k one = by (call_in (plan_in old) (state_in old) (Steps actor reply)) refl one.passes
      where
        by : (o : Option Call) → call_in (plan_in old) (state_in old) (Steps actor reply) ≡ o
            → Makes stated content moment left faults old.core.geometry o reply old.core.disk new.core.disk old.core.calls new.core.calls → HasTwin lost new
        by None is made =
            let disk : new.core.disk ≡ old.core.disk = made.stays in
            let calls = same_count old.core.calls new.core.calls (2 ^ 64 - 1) made.counted in
            still lost old new (Steps actor reply) k disk calls one.moments
            (on_by lost old new (Steps actor reply) k one k.clock k.at k.count k.calls
            (subst (λ o. Makes stated_by content_by moment_by since_by faults_by old.core.geometry o reply (record { disk = old.core.disk; clock = k.clock; at = k.at; faults = k.count }) (record { disk = new.core.disk; clock = k.clock; at = k.at; faults = k.count }) k.calls k.calls) (sym is) (record {
              may = made.may;
              disk = made.disk;
              time = (refl, λ t image now. subst (λ d. since_by (record { disk = d; clock = k.clock; at = k.at; faults = k.count }) t image) disk now);
              counted = count_stays k.calls (2 ^ 64 - 1);
              sizes = made.sizes;
              later = omega arith;
              cause = tt;
              stays = ap (λ d. let tw : Twin D = record { disk = d; clock = k.clock; at = k.at; faults = k.count } in tw) disk;
            })))
        by (Some call) is made =
            went_on lost old new (Steps actor reply) k call reply made one.moments
            (on_by lost old new (Steps actor reply) k one (one_more k.clock) (at_from (moment new.core.disk) (one_more k.clock) k.at) (with_failed reply k.count) (one_more k.calls)
            (subst (λ o. Makes stated_by content_by moment_by since_by faults_by old.core.geometry o reply (record { disk = old.core.disk; clock = k.clock; at = k.at; faults = k.count }) (record { disk = new.core.disk; clock = one_more k.clock; at = at_from (moment new.core.disk) (one_more k.clock) k.at; faults = with_failed reply k.count }) k.calls (one_more k.calls)) (sym is)
            (made_by lost old new (Steps actor reply) k call reply made one.moments)))

    -- ----------------------------------------------------------------------------------------------------------------
    -- A read beside it.

    -- the session with its disk and the device's count of calls as they are after the read
    abbrev read_by : Run D → D → ℕ → Run D
    read_by old e n = record old { core = record old.core { disk = e; calls = n } }

    read_goes : (lost : ℕ) (old : Run D) (e : D) (n at : ℕ) (reply : Reply) → HasTwin lost old → Makes stated content moment left faults old.core.geometry (Some (ReadCall at)) reply old.core.disk e old.core.calls n → content e ≡ content old.core.disk
        → HasTwin (lost + failed_by reply) (read_by old e n)
    read_goes lost old e n at reply k made image = record {
      clock = k.clock;
      at = k.at;
      count = k.count;
      calls = k.calls;
      moments = k.moments;
      loaded_by = over_same old old.core.disk e k.clock k.at k.count k.calls k.moments k.loaded_by made.sizes image
          (λ c is. beside_left stated content moment left start shaped cuts_shaped counts_now only_now (record { disk = old.core.disk; clock = k.clock; at = k.at; faults = k.count }) c is (k.told c is).twin e (image ∙ is) (went c (image ∙ is)));
      fewer = omega (arith, k.fewer, counted);
      some = k.some;
      faults_all = read_all (ReadCall at) reply k.count lost (faults old.core.disk) (faults e) k.faults_all made.later made.cause;
      told = λ c is.
          let was : content old.core.disk ≡ Some c = sym image ∙ is in
          let t = k.told c was in
          let time = (went c is).count in
          record {
            twin = beside_twin stated content moment left start shaped cuts_shaped counts_now only_now (record { disk = old.core.disk; clock = k.clock; at = k.at; faults = k.count }) c was t.twin e is (went c is);
            clock_is = t.clock_is;
            low = λ below. (let before = t.low (omega (arith, below, counted)) in omega (arith, before, below, counted, time));
            pairs = t.pairs;
          };
    }
      where
        counted : n ≡ max old.core.calls (min (old.core.calls + 1) (2 ^ 64 - 1))
        counted = made.counted

        went : (c : Content) → content e ≡ Some c → Elapses (moment old.core.disk) (moment e) (left old.core.disk) (left e) (IsCrash c.candidates)
        went c is = subst (λ o. TimeGoes o (moment old.core.disk) (moment e) (left old.core.disk) (left e)) is made.time

    pub has_read : (lost : ℕ) (old new : Run D) (at : ℕ) (reply : Reply) → HasTwin lost old → ReadsBeside stated content moment left faults at reply old new → content new.core.disk ≡ content old.core.disk
        → HasTwin (lost + failed_by reply) new
    has_read lost old new at reply k reads image = subst (HasTwin (lost + failed_by reply)) (sym reads.kept) (read_goes lost old new.core.disk new.core.calls at reply k reads.made image)

    -- ----------------------------------------------------------------------------------------------------------------
    -- The beginning.

    pub loaded_twin : (script : List (List (List Line))) → WasLoaded stated content moment left faults first (loaded first script) → first.calls ≡ 2
        → ((c : Content) → content first.disk ≡ Some c → Counted 2 base start) → HasTwin 0 (loaded first script)
    loaded_twin script k two counted = record {
      clock = start;
      at = λ t. min t start;
      count = faults first.disk;
      calls = first.calls;
      moments = [];
      loaded_by = loaded_fresh stated_by content_by moment_by since_by faults_by (shaped_by stated content moment left start shaped cuts_shaped counts_now only_now) (only_now_by stated content moment left start shaped cuts_shaped counts_now only_now)
          first_by script k.sound k.idle (omega (arith, two)) (k.run).sizes;
      fewer = omega arith;
      some = omega (arith, two);
      faults_all = omega arith;
      told = λ c is.
          let since : start ≡ max base (min (base + 2) (2 ^ 64 - 1)) = counted c is in
          record {
            twin = first_twin stated content moment left start shaped cuts_shaped counts_now only_now first.disk c (faults first.disk) is refl;
            clock_is = omega (arith, since, two);
            low = λ below. omega (arith, since, two);
            pairs = tt;
          };
    }
