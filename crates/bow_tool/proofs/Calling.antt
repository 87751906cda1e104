-- What callers of a script leave, from how their device was opened.
use Rattle.std.proofs.Common.{◌≡◌, ◌⊎◌, inl, inr, ℕ, zero, suc, ◌+◌, ◌≤◌, ◌==◌, Bool, true, false, cond, List, [], ◌∷◌, length, take, drop, Option, Some, None, arith, refl, sym, ap, ◌∙◌, subst, eq-eqb, ne_eqb}
use Rattle.std.specs.Prelude.{slice_get, slice_index_or}
use Rattle.std.specs.List.{sum_by}
use Rattle.std.proofs.lemmas.Bool.{cases_eq, eqb-true}
use Rattle.std.proofs.Math.Seq.{drop-length, take-length}
use Rattle.bow_units.specs.declared.requests.Op.{Op}
use Rattle.bow_units.specs.declared.sizes.Geometry.{Geometry}
use Rattle.bow_units.specs.Sizes.{IsValid}
use Rattle.bow_units.specs.Causes.{Rose}
use Rattle.bow_units.specs.Magics.{IsPlain}
use Rattle.bow_disk.specs.Disk.{Content, IsCrash, IsImage, IsSettledOn, IsShaped}
use Rattle.bow_disk.specs.Moments.{Tells}
use Rattle.bow_disk.proofs.Settling.{cut_settled}
use Rattle.bow_chain.specs.Contents.{Contents, contents_of}
use Rattle.bow_flat.specs.Flat.{Flat, opening, put}
use Rattle.bow_guard.specs.Cuts.{candidates_of}
use Rattle.bow_guard.specs.Standing.{StandsFor}
use Rattle.bow_machine.specs.Laws.{opened}
use Rattle.bow_machine.specs.Memory.{Memory}
use Rattle.bow_machine.specs.MemoryIsSound.{MemoryIsSound}
use Rattle.bow_machine.specs.Standing.{IsStanding}
use Rattle.bow_machine.proofs.SoundOpenings.{opening_is_sound}
use Rattle.bow_machine.proofs.MappedWrites.{put_here, put_there}
use Rattle.bow_core.specs.Further.{LedIn}
use Rattle.bow_core.specs.Openings.{KeepsImage}
use Rattle.bow_core.specs.Standing.{StandsIn, StandsOver}
use Rattle.bow_core.specs.Views.{View}
use Rattle.bow_history.specs.declared.items.Item.{Item}
use Rattle.bow_history.specs.declared.items.Item.TheVariants.{Wrote, Got, Answered}
use Rattle.bow_history.specs.Complete.{AreInOrder}
use Rattle.bow_history.specs.DiskCuts.{StandsAheadToo}
use Rattle.bow_history.specs.Journal.{Buffers, Legal, Place, Plan, beginning}
use Rattle.bow_history.specs.Promises.{faults_in, held}
use Rattle.bow_history.specs.Sessions.{Turned}
use Rattle.bow_history.specs.SoundSessions.{MayRun}
use Rattle.bow_history.proofs.SoundTurns.{beginning_is_sound}
use Rattle.bow_session.specs.Leads.{BeginsAt, StaysBelow}
use Rattle.bow_session.specs.Requests.{lanes_of}
use Rattle.bow_session.specs.Runs.{begun_over}
use Rattle.bow_play.specs.Beginning.{HasOpened, OpenedOn}
use Rattle.bow_play.specs.Leading.{CanLeave}
use Rattle.bow_play.specs.Reading.{GaveScript}
use Rattle.bow_play.specs.declared.faults.PlayFault.TheVariants as plays
use Rattle.bow_play.proofs.Ends.{ahead_opened, stands_opened}
use Rattle.bow_play.proofs.Runs.{begins_at}
use Rattle.bow_promise.specs.Cutting.{IsCutOf}
use Rattle.bow_promise.proofs.Fulfilled.{cuts_are_promised}
use Rattle.bow_promise.proofs.Spaced.{sessions_find_no_space_truly}
use Rattle.bow_tags.specs.declared.view.Entry.{Entry}
use Rattle.bow_receipts.specs.declared.asks.Answer.{Answer}
use Rattle.bow_receipts.specs.Asking.{given_of}
use Rattle.bow_receipts.specs.Called.{IsCalled}
use Rattle.bow_receipts.specs.Calls.{AreCallsFrom}
use Rattle.bow_receipts.specs.Closing.{CallsLead, HoldsReads, moments_in}
use Rattle.bow_receipts.specs.Served.{answered_of}
use Rattle.bow_receipts.proofs.Lists.{clash, filter_at}
use Rattle.bow_tool.specs.CallLines.{AreNumbered, bytes_by, bytes_in}
use Rattle.bow_tool.specs.Callers.{CallersArePromised, CallersLead, CallersRun, IsOnCalledWay, WasCalled, plan_called, play_called}
use Rattle.bow_tool.specs.Outside.{Call, KeeperLeft, from_source}
use Rattle.bow_tool.specs.Play.{WasNotPlayed}

-- ----------------------------------------------------------------------------------------------------------------
-- The numbers of the calls.

apart_by : (a b : ℕ) → (a == b) ≡ false → a ≡ b → ⊥
apart_by a b is same = let e : true ≡ false = sym (eq-eqb a b same) ∙ is in grind arith

-- the calls of a lane have the numbers from its next one on
numbers_from : (before : ℕ) (next last : ℕ → ℕ) (journal : List Item) (calls : List (Entry Op Answer)) → AreInOrder next journal last → AreCallsFrom before journal calls
    → (lane n : ℕ) (x : Entry Op Answer) → slice_get (given_of lane calls) n ≡ Some x → x.number ≡ next lane + n
numbers_from before next last [] [] order are lane n x at = clash None x refl at
numbers_from before next last [] (y ∷ calls) order are lane n x at = absurd are
numbers_from before next last (Wrote l k b ∷ items) calls order are lane n x at = numbers_from (suc before) next last items calls order.1 are lane n x at
numbers_from before next last (Got l k b ∷ items) calls order are lane n x at = numbers_from (suc before) next last items calls order.1 are lane n x at
numbers_from before next last (Answered l k outcome ∷ items) [] order are lane n x at = absurd are
numbers_from before next last (Answered l k outcome ∷ items) (y ∷ calls) order are lane n x at =
    by (y.lane == lane) refl n at (λ m there. numbers_from (suc before) (put next l (suc (next l))) last items calls order.1 are.4 lane m x there)
  where
    by : (b : Bool) → (y.lane == lane) ≡ b → (n : ℕ) → slice_get (cond b (y ∷ given_of lane calls) (given_of lane calls)) n ≡ Some x
        → ((m : ℕ) → slice_get (given_of lane calls) m ≡ Some x → x.number ≡ put next l (suc (next l)) lane + m) → x.number ≡ next lane + n
    by true is zero at later =
        let same : y ≡ x = cc at in
        let here : l ≡ lane = sym are.0 ∙ eqb-true y.lane lane is in
        let number : x.number ≡ next l = ap (λ (z : Entry Op Answer). z.number) (sym same) ∙ are.1 ∙ order.0 in
        let there : next l ≡ next lane = ap next here in
        omega (arith, number, there)
    by true is (suc m) at later =
        let here : lane ≡ l = sym (eqb-true y.lane lane is) ∙ are.0 in
        let number = later m at in
        let one : put next l (suc (next l)) lane ≡ suc (next l) = put_here next l (suc (next l)) lane here in
        let there : next l ≡ next lane = ap next (sym here) in
        omega (arith, number, one, there)
    by false is n at later =
        let number = later n at in
        let other : put next l (suc (next l)) lane ≡ next lane = put_there next l (suc (next l)) lane (λ same. apart_by y.lane lane is (are.0 ∙ sym same)) in
        omega (arith, number, other)

pub numbered : (journal : List Item) (calls : List (Entry Op Answer)) → AreInOrder (λ lane. 0) journal (answered_of calls) → AreCallsFrom 0 journal calls → AreNumbered calls
numbered journal calls order are lane n x at = let number = numbers_from 0 (λ lane. 0) (answered_of calls) journal calls order are lane n x at in omega (arith, number)

-- the bytes of each call are found by its lane and number
bytes_found : (calls : List (Entry Op Answer)) → AreNumbered calls → (i : ℕ) (x : Entry Op Answer) → slice_get calls i ≡ Some x → bytes_by calls x.lane x.number ≡ x.answer.bytes
bytes_found calls numbers i x at =
    let kept = filter_at (λ (y : Entry Op Answer). y.lane == x.lane) calls i x at (eq-eqb x.lane x.lane refl) in
    let here : slice_get (given_of x.lane calls) x.number ≡ Some x = ap (slice_get (given_of x.lane calls)) (numbers x.lane kept.0 x kept.1) ∙ kept.1 in
    ap bytes_in here

pub holds_reads : (calls : List (Entry Op Answer)) → AreNumbered calls → HoldsReads calls (bytes_by calls)
holds_reads calls numbers i x at = ap (take (length x.answer.bytes)) (bytes_found calls numbers i x at) ∙ take-length x.answer.bytes

-- ----------------------------------------------------------------------------------------------------------------
-- Where the calls lead.

-- the count of faults was lower before the opening
rose_before : (a b d : ℕ) → a ≤ b → Rose b d → Rose a d
rose_before a b d le rose = omega (arith, le, rose)

faults_more : (before first told now : ℕ) → before ≤ first → held (first + told) ≤ now → held (before + told) ≤ now
faults_more before first told now le most = omega (arith, le, most)

module _ {D : Type 0} (stated : D → Option Geometry) (content : D → Option Content) (moment : D → ℕ) (left : D → ℕ → List (List ℕ) → Type 0) (faults : D → ℕ)
    (cuts_shaped : (d : D) (c : Content) → content d ≡ Some c → (g : Geometry) → stated d ≡ Some g → (t : ℕ) (image : List (List ℕ)) → left d t image → IsImage g.block_size g.blocks image)
    (counts_now : (d : D) (c : Content) → content d ≡ Some c → (t : ℕ) (image : List (List ℕ)) → t ≤ moment d → IsCrash c.candidates image → left d t image)
    (only_now : (d : D) (c : Content) → content d ≡ Some c → (t : ℕ) (image : List (List ℕ)) → moment d ≤ t → left d t image → IsCrash c.candidates image)
    (old : D) (r : CallersRun D) (first : View D) (b : HasOpened stated content moment left faults old first) (same : first.geometry ≡ r.core.geometry) (sizes : stated r.core.disk ≡ Some r.core.geometry)
    (turns : List Turned) (reads : HoldsReads r.calls (bytes_by r.calls)) (c : Content) (is : content old ≡ Some c) where
  found : OpenedOn content moment old c first
  found = b.found c is

  -- what is said of images on the way that the calls lead
  module _ (says : Flat → Contents → Type 0) (w : CallsLead content moment left says (plan_called r) first (opening c.now) r.core turns r.journal r.calls) (at_first : says (opening c.now) (contents_of c.now)) where
    legal : Legal (plan_called r) (bytes_by r.calls) r.journal (beginning (opening c.now)) w.place
    legal = w.legal (bytes_by r.calls) reads

    -- the disk tells its content
    told : Tells content (λ e. IsStanding r.core.geometry r.core.memory (contents_of e.now) (candidates_of e.candidates) (w.place).flat) r.core.disk
    told = by (content r.core.disk) refl w.stands
      where
        by : (o : Option Content) → content r.core.disk ≡ o → StandsOver r.core.geometry r.core.memory o (w.place).flat
            → Tells content (λ e. IsStanding r.core.geometry r.core.memory (contents_of e.now) (candidates_of e.candidates) (w.place).flat) r.core.disk
        by None at none = absurd none
        by (Some e) at standing = record { told = e; is = at; holds = standing }

    at_start : (cut : List (List ℕ)) → cut ≡ c.now → IsOnCalledWay says c.now r w.place 0 cut
    at_start cut same = record {
      front = 0;
      has = omega arith;
      within = omega arith;
      place = beginning (opening c.now);
      before = refl;
      after = legal;
      flat = opening c.now;
      midway = inl refl;
      stands = subst (λ i. says (opening c.now) (contents_of i)) (sym same) at_first;
    }

    ever : (since : ℕ) (cut : List (List ℕ)) → since ≤ moment old → left r.core.disk since cut → left old since cut ⊎ IsOnCalledWay says c.now r w.place 0 cut
    ever since cut low since_left =
        let kept = (b.opened).cuts c is in
        elim (w.early (bytes_by r.calls) reads since cut (omega (arith, low, kept.time)) since_left) [
          | inl before ↦ elim (kept.only since cut low before) [ inl was ↦ inl was | inr none ↦ absurd none ]
          | inr way ↦ inr way
        ]

    leads_by : CallersLead content moment left says old c first turns r
    leads_by = record {
      end = w.place;
      legal = legal;
      stands = w.stands;
      phase = (told.holds).phases;
      ever = ever;
      item = λ i cut below since_left. w.item (bytes_by r.calls) reads i cut below since_left;
      now = λ cut can. w.end told.told told.is cut (subst (λ o. CanLeave o cut) told.is can);
      settled = λ on cut since_left. elim (ever (moment old) cut (omega arith) since_left) [
        | inl before ↦ at_start cut (cut_settled c.now c on cut (only_now old c is (moment old) cut (omega arith) before))
        | inr way ↦ way
      ];
    }

  module _ (f : Flat) (stands : StandsIn content r.core f) where
    -- what a cut leaves is an image
    whole : (since : ℕ) (cut : List (List ℕ)) → left r.core.disk since cut → IsImage r.core.geometry.block_size r.core.geometry.blocks cut
    whole since cut since_left = by (content r.core.disk) refl stands
      where
        by : (o : Option Content) → content r.core.disk ≡ o → StandsOver r.core.geometry r.core.memory o f → IsImage r.core.geometry.block_size r.core.geometry.blocks cut
        by None at none = absurd none
        by (Some e) at standing = cuts_shaped r.core.disk e at r.core.geometry sizes since cut since_left

    -- what a cut may leave now, it may leave since the last moment
    left_now : (cut : List (List ℕ)) → CanLeave (content r.core.disk) cut → left r.core.disk (moment r.core.disk) cut
    left_now cut can = by (content r.core.disk) refl can
      where
        by : (o : Option Content) → content r.core.disk ≡ o → CanLeave o cut → left r.core.disk (moment r.core.disk) cut
        by None at none = absurd none
        by (Some e) at crash = counts_now r.core.disk e at (moment r.core.disk) cut (omega arith) crash

  pub promised : (l : CallersLead content moment left (StandsFor r.core.geometry) old c first turns r) → IsValid r.core.geometry → CallersArePromised content moment left old c first turns r (play_called c.now r l.end)
  promised l valid = record {
    ever = λ on cut since_left. cuts_are_promised (play_called c.now r l.end) 0 cut (record {
      sizes = valid;
      plain = found.plain;
      whole = whole l.end.flat l.stands (moment old) cut since_left;
      way = l.settled on cut since_left;
    });
    item = λ i below cut since_left. cuts_are_promised (play_called c.now r l.end) (suc i) cut (record {
      sizes = valid;
      plain = found.plain;
      whole = whole l.end.flat l.stands (slice_index_or (moments_in moment (plan_called r) first turns) i 0) cut since_left;
      way = l.item i cut below since_left;
    });
    now = λ cut can. cuts_are_promised (play_called c.now r l.end) (length r.journal) cut (record {
      sizes = valid;
      plain = found.plain;
      whole = whole l.end.flat l.stands (moment r.core.disk) cut (left_now l.end.flat l.stands cut can);
      way = record {
        front = length r.journal;
        has = omega arith;
        within = omega arith;
        place = l.end;
        before = subst (λ items. Legal (plan_called r) (bytes_by r.calls) items (beginning (opening c.now)) l.end) (sym (take-length r.journal)) l.legal;
        after = subst (λ items. Legal (plan_called r) (bytes_by r.calls) items l.end l.end) (sym (drop-length r.journal)) refl;
        flat = l.end.flat;
        midway = inl refl;
        stands = l.now cut can;
      };
    });
  }

  module _ (begins_with : View D) (begins_is : begins_with ≡ first) (w : CallsLead content moment left (StandsFor r.core.geometry) (plan_called r) begins_with (opening c.now) r.core turns r.journal r.calls) where
    leads_for : CallsLead content moment left (StandsFor r.core.geometry) (plan_called r) first (opening c.now) r.core turns r.journal r.calls
    leads_for = subst (λ (v : View D). CallsLead content moment left (StandsFor r.core.geometry) (plan_called r) v (opening c.now) r.core turns r.journal r.calls) begins_is w

    pub leads : CallersLead content moment left (StandsFor r.core.geometry) old c first turns r
    leads = leads_by (StandsFor r.core.geometry) leads_for (stands_opened r.core.geometry c.now found.plain)

    pub ahead : CallsLead content moment left (StandsAheadToo r.core.geometry) (plan_called r) begins_with (opening c.now) r.core turns r.journal r.calls → CallersLead content moment left (StandsAheadToo r.core.geometry) old c first turns r
    ahead further =
        let w = subst (λ (v : View D). CallsLead content moment left (StandsAheadToo r.core.geometry) (plan_called r) v (opening c.now) r.core turns r.journal r.calls) begins_is further in
        let image : IsImage r.core.geometry.block_size r.core.geometry.blocks c.now = subst (λ (g : Geometry). IsImage g.block_size g.blocks c.now) same found.image in
        let standing = (told (StandsFor r.core.geometry) leads_for (stands_opened r.core.geometry c.now found.plain)).holds in
        leads_by (StandsAheadToo r.core.geometry) w (ahead_opened r.core.geometry c.now (omega (arith, (standing.sound).sizes.enough)) image found.plain)

-- ----------------------------------------------------------------------------------------------------------------
-- The callers of a script, in a call of the program.

module _ (c : Call) (first : View c.Disk) (b : HasOpened c.disks.stated c.disks.content c.disks.moment c.disks.left_since c.disks.faults c.disk first) where
  pub was_called : (r : CallersRun c.Disk) → GaveScript (from_source c) r.script → c.disk_after ≡ r.core.disk → c.disks.stated r.core.disk ≡ Some r.core.geometry → first.geometry ≡ r.core.geometry
      → IsCalled c.disks.content c.disks.moment c.disks.left_since c.disks.faults r.core.geometry (lanes_of r.script) (λ v. v ≡ first) r.script r.core r.journal r.calls
      → ((d : c.Disk) (k : Content) → c.disks.content d ≡ Some k → (g : Geometry) → c.disks.stated d ≡ Some g → (t : ℕ) (image : List (List ℕ)) → c.disks.left_since d t image → IsImage g.block_size g.blocks image)
      → ((d : c.Disk) (k : Content) → c.disks.content d ≡ Some k → (t : ℕ) (image : List (List ℕ)) → t ≤ c.disks.moment d → IsCrash k.candidates image → c.disks.left_since d t image)
      → ((d : c.Disk) (k : Content) → c.disks.content d ≡ Some k → (t : ℕ) (image : List (List ℕ)) → c.disks.moment d ≤ t → c.disks.left_since d t image → IsCrash k.candidates image)
      → WasCalled c r
  was_called r given disk sizes same called cuts_shaped counts_now only_now =
      let closed = called.closed in
      let turns : List Turned = closed.turns in
      let reads : HoldsReads r.calls (bytes_by r.calls) = holds_reads r.calls (numbered r.journal r.calls closed.order closed.of_journal) in
      let valid : IsValid r.core.geometry = subst IsValid same b.valid in
      let there : (k : Content) → c.disks.content c.disk ≡ Some k → BeginsAt c.disks.content (plan_called r) closed.first (opening k.now) =
      λ k is. subst (λ (v : View c.Disk). BeginsAt c.disks.content (plan_called r) v (opening k.now)) (sym closed.is) (begins_at c.disks.content (plan_called r) first k.now b.fresh (b.found k is).stands) in
      let led : (k : Content) → c.disks.content c.disk ≡ Some k → CallersLead c.disks.content c.disks.moment c.disks.left_since (StandsFor r.core.geometry) c.disk k first turns r =
      λ k is. leads c.disks.stated c.disks.content c.disks.moment c.disks.left_since c.disks.faults cuts_shaped counts_now only_now c.disk r first b same sizes turns reads k is closed.first closed.is (closed.leads (opening k.now) (there k is)) in
      record {
        given = given;
        disk = disk;
        sizes = (sizes, valid);
        first = first;
        opened = b;
        called = called;
        reads = reads;
        faults = faults_more (c.disks.faults c.disk) (c.disks.faults first.disk) (sum_by faults_in r.journal) (c.disks.faults r.core.disk) (b.opened).later
            (subst (λ (v : View c.Disk). held (c.disks.faults v.disk + sum_by faults_in r.journal) ≤ c.disks.faults r.core.disk) closed.is closed.counted);
        plain = λ k is. (b.found k is).plain;
        leads = led;
        ahead = λ k is none.
            let low : StaysBelow (c.disks.faults (closed.first).disk) (c.disks.faults r.core.disk) = subst (λ (v : View c.Disk). StaysBelow (c.disks.faults v.disk) (c.disks.faults r.core.disk)) (sym closed.is)
            (λ rose. none (rose_before (c.disks.faults c.disk) (c.disks.faults first.disk) (c.disks.faults r.core.disk) (b.opened).later rose)) in
            let on : LedIn c.disks.content closed.first (opening k.now) = subst (λ (v : View c.Disk). LedIn c.disks.content v (opening k.now)) (sym closed.is) (b.found k is).led in
            ahead c.disks.stated c.disks.content c.disks.moment c.disks.left_since c.disks.faults cuts_shaped counts_now only_now c.disk r first b same sizes turns reads k is closed.first closed.is (closed.leads (opening k.now) (there k is)) (closed.ahead (opening k.now) (there k is) on low);
        space =
            let memory : first.memory ≡ opened r.core.geometry.blocks = (b.fresh).memory ∙ ap (λ (g : Geometry). opened g.blocks) same in
            let sound : MemoryIsSound r.core.geometry first.memory = subst (MemoryIsSound r.core.geometry) (sym memory) (opening_is_sound r.core.geometry valid) in
            let begins = beginning_is_sound (plan_called r) first.memory first.admitted sound (ap (λ (m : Memory). m.requests) memory) in
            let may : MayRun (plan_called r) (begun_over first) turns = subst (λ (v : View c.Disk). MayRun (plan_called r) (begun_over v) turns) closed.is (closed.session).may in
            sessions_find_no_space_truly (plan_called r) (begun_over first) turns (closed.session).rise begins may;
        promised = λ k is. promised c.disks.stated c.disks.content c.disks.moment c.disks.left_since c.disks.faults cuts_shaped counts_now only_now c.disk r first b same sizes turns reads k is (led k is) valid;
      }

  -- callers that made no call: the disk is as the opening left it
  pub not_called : KeeperLeft c → c.disk_after ≡ first.disk → WasNotPlayed c plays.NoMemory
  not_called keeper disk = record {
    keeper = keeper;
    cause = tt;
    kept = subst (λ d. KeepsImage c.disks.stated c.disks.content c.disks.moment c.disks.left_since c.disks.faults c.disk d) (sym disk) b.opened;
    clock = λ k is. (let counted = (b.found k is).counted in let at = ap c.disks.moment disk in omega (arith, counted, at));
  }
