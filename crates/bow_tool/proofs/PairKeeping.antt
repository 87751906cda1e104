-- What is promised of devices over which a script was played, from how they went and what the laws of several devices say.
use Rattle.std.proofs.Common.{◌≡◌, inl, inr, ℕ, zero, suc, false, ◌+◌, ◌≤◌, List, [], Option, None, Some, length, refl, sym, ap, ◌∙◌, subst, arith}
use Rattle.std.specs.Prelude.{slice_get}
use Rattle.std.specs.List.{sum_by}
use Rattle.std.specs.Option.{option_map}
use Rattle.std.proofs.lemmas.Option.{slice_get-map, slice_get_within}
use Rattle.bow_units.specs.Causes.{Rose}
use Rattle.bow_disk.specs.Disk.{Content}
use Rattle.bow_flat.specs.Flat.{opening}
use Rattle.bow_core.specs.Views.{View}
use Rattle.bow_deal.specs.Dealing.{later_part, opening_part}
use Rattle.bow_history.specs.Promises.{faults_in, held}
use Rattle.bow_script.specs.declared.scripts.Line.{Line}
use Rattle.bow_session.specs.Leads.{MayBeginAnew}
use Rattle.bow_session.specs.Parts.{Account}
use Rattle.vold_meta.specs.Keeper.{Same}
use Rattle.bow_pair.specs.Boot.{AreTold}
use Rattle.bow_pair.specs.Deciding.{IsDecidedCaused, RoseAt, disks_of}
use Rattle.bow_pair.specs.Joining.{OpenedOver}
use Rattle.bow_pair.specs.Joint.{Each, Member, Settled}
use Rattle.bow_pair.specs.Laws.{SettlesBy}
use Rattle.bow_pair.specs.PairLaws.{AreLedTo, ArePreparedTo, EndsIn, HavePrepared, HaveRun, LeavesAgreed, PairsEndTogether, PreparedRollBack, RunsRollBack}
use Rattle.bow_pair.specs.Playing.{EndsClean, EndsPrepared as IsPreparedAtEnd, HasPlayed}
use Rattle.bow_pair.specs.Preparing.{AnswersPrepared, AnswersRan}
use Rattle.bow_pair.specs.SessionLaws.{SessionsAreComplete, SessionsCountFaults, SessionsGoLegally, SessionsPrepare}
use Rattle.bow_pair.specs.declared.deciding.Decided.{Decided}
use Rattle.bow_pair.specs.declared.deciding.Decided.TheVariants as decided
use Rattle.bow_pair.specs.declared.pairs.Prepared.{Prepared}
use Rattle.bow_pair.specs.declared.pairs.Prepared.TheVariants.{All, NotAll}
use Rattle.bow_pair.specs.declared.pairs.Ran.{Ran}
use Rattle.bow_pair.specs.declared.pairs.Ran.TheVariants.{Clean, Faulty}
use Rattle.bow_pair.proofs.Booting.{goes_on}
use Rattle.bow_pair.proofs.Played.{anew_after}
use Rattle.bow_pair.proofs.Rows.{there_too}
use Rattle.bow_pair.proofs.Sessions.{mapped}
use Rattle.bow_tool.specs.declared.refusals.Refusal.{Refusal}
use Rattle.bow_tool.specs.declared.verdicts.Verdict.TheVariants as verdict
use Rattle.bow_tool.specs.Outside.{DiskView}
use Rattle.bow_tool.specs.PairCalls.{NoneFails, PairCall}
use Rattle.bow_tool.specs.PairLines.{PairRun, verdict_of}
use Rattle.bow_tool.specs.PairPlays.{EndsPrepared, EndsRan, Played, WentOn, WereJoined}
use Rattle.bow_tool.specs.PairPromises.{AreWhole, DeviceGoes, EachHasRoom, GoesLegally, HasInTheEnd, PairKeeps, StayTogether, faults_told}
use Rattle.bow_tool.proofs.Imaging.{rose_since}

-- a count that did not rise tells no fault: n of them were counted from `old` on, which is not before `first`
none_told : (first old now last n : ℕ) → first ≤ old → held (old + n) ≤ now → now ≤ last → (Rose first last → ⊥) → n ≡ 0
none_told first old now last zero later counted after still = refl
none_told first old now last (suc n) later counted after still = absurd (still (let r : Rose first last = omega (arith, later, counted, after) in r))

-- what the laws of several devices say of these meanings of a disk
pub record Laws {D : Type 0} (v : DiskView D) : Type 0 where
  pub complete : SessionsAreComplete v.stated v.content v.moment v.left_since v.faults
  pub legal : SessionsGoLegally v.stated v.content v.moment v.left_since v.faults
  pub faults : SessionsCountFaults v.stated v.content v.moment v.left_since v.faults
  pub prepares : SessionsPrepare v.stated v.content v.moment v.left_since v.faults
  pub prepared : PreparedRollBack v.stated v.content v.moment v.left_since v.faults
  pub ran : RunsRollBack v.stated v.content v.moment v.left_since v.faults
  pub decided : PairsEndTogether v.stated v.content v.moment v.left_since v.faults

module _ (c : PairCall) (j : WereJoined c) (r : PairRun c.Disk) (way : WentOn c.views c.keepers j.script j.opened j.read c.keeper_after c.disks_after r) where
  abbrev v : DiskView c.Disk
  v = c.views

  abbrev script : List (List (List Line))
  script = j.script

  abbrev PlayedBy : List (List (List Line)) → View c.Disk → View c.Disk → Account → Type 0
  PlayedBy part old new a = HasPlayed v.stated v.content v.moment v.left_since v.faults part old new a

  abbrev Ended : Prepared → Type 0
  Ended p = EndsPrepared v c.keepers script j.opened j.read c.keeper_after c.disks_after r p

  -- ----------------------------------------------------------------------------------------------------------------
  -- A device through its first session.

  -- the disk of this number, the device that was opened on it, and what its first session left
  record First (k : ℕ) (ready : View c.Disk) : Type 0 where
    disk : c.Disk
    disk_is : slice_get c.disks k ≡ Some disk
    before : View c.Disk
    before_is : slice_get j.opened k ≡ Some before
    account : Account
    account_is : slice_get r.first k ≡ Some account
    over : OpenedOver v.stated v.content v.moment v.left_since v.faults disk before
    played : PlayedBy (opening_part k (length j.opened) script) before ready account

  first_of : (k : ℕ) (ready : View c.Disk) → slice_get r.ready k ≡ Some ready → First k ready
  first_of k ready at =
      let x = there_too r.ready j.opened k ready (sym way.first.many) at in
      let a = there_too j.opened r.first k x.0 way.first.as_many x.1 in
      let d = there_too j.opened c.disks k x.0 (let e = j.over.within in let same : length c.disks ≡ length j.opened = omega (arith, e) in same) x.1 in
      record {
        disk = d.0;
        disk_is = d.1;
        before = x.0;
        before_is = x.1;
        account = a.0;
        account_is = a.1;
        over = j.over.each k d.0 x.0 d.1 x.1;
        played = way.first.each k x.0 ready a.0 x.1 at a.1;
      }

  -- since the disk was given, no count fell, and these faults were counted
  first_later : (k : ℕ) (ready : View c.Disk) (f : First k ready) → v.faults f.disk ≤ v.faults ready.disk
  first_later k ready f =
      let kept = f.over.kept.later in
      let later = f.played.loaded.later in
      let same : v.faults (f.played.session.core).disk ≡ v.faults ready.disk = ap (λ (x : View c.Disk). v.faults x.disk) f.played.device in
      omega (arith, kept, later, same)

  -- ----------------------------------------------------------------------------------------------------------------
  -- And through its second one.

  record Second (k : ℕ) (ran : View c.Disk) : Type 0 where
    ready : View c.Disk
    ready_is : slice_get r.ready k ≡ Some ready
    account : Account
    account_is : slice_get r.second k ≡ Some account
    played : PlayedBy (later_part k (length r.ready) script) ready ran account

  abbrev PlayedOn : Type 0
  PlayedOn = Played v (λ device. later_part device (length r.ready) script) r.ready r.ran r.second

  second_of : PlayedOn → (k : ℕ) (ran : View c.Disk) → slice_get r.ran k ≡ Some ran → Second k ran
  second_of on k ran at =
      let y = there_too r.ran r.ready k ran (sym on.many) at in
      let b = there_too r.ready r.second k y.0 on.as_many y.1 in
      record { ready = y.0; ready_is = y.1; account = b.0; account_is = b.1; played = on.each k y.0 ran b.0 y.1 at b.1 }

  second_later : (k : ℕ) (ran : View c.Disk) (s : Second k ran) → v.faults (s.ready).disk ≤ v.faults ran.disk
  second_later k ran s =
      let later = s.played.loaded.later in
      let same : v.faults (s.played.session.core).disk ≡ v.faults ran.disk = ap (λ (x : View c.Disk). v.faults x.disk) s.played.device in
      omega (arith, later, same)

  -- ----------------------------------------------------------------------------------------------------------------
  -- Where a disk is left.

  -- the device that had this disk, in a list of devices whose disks are left
  had : (cores : List (View c.Disk)) → c.disks_after ≡ disks_of cores → (k : ℕ) (e : c.Disk) → slice_get c.disks_after k ≡ Some e → (x : View c.Disk) × (slice_get cores k ≡ Some x) × (x.disk ≡ e)
  had cores are k e at = mapped (λ (x : View c.Disk). x.disk) cores k e (ap (λ (l : List c.Disk). slice_get l k) (sym are) ∙ at)

  has : (cores : List (View c.Disk)) → c.disks_after ≡ disks_of cores → (k : ℕ) (x : View c.Disk) → slice_get cores k ≡ Some x → slice_get c.disks_after k ≡ Some x.disk
  has cores are k x at = ap (λ (l : List c.Disk). slice_get l k) are ∙ slice_get-map (λ (x : View c.Disk). x.disk) cores k ∙ ap (option_map (λ (x : View c.Disk). x.disk)) at

  -- the devices as they are left, where the call went on no further
  left_as : (cores : List (View c.Disk)) → r.now ≡ cores → c.disks_after ≡ disks_of cores
  left_as cores now = way.disks ∙ ap (λ (l : List (View c.Disk)). disks_of l) now

  -- since the second sessions no count fell
  last_later : (answer : Ran) → EndsRan v c.keepers script j.opened j.read c.keeper_after c.disks_after r answer → (k : ℕ) (ran : View c.Disk) (e : c.Disk) → slice_get r.ran k ≡ Some ran → slice_get c.disks_after k ≡ Some e → v.faults ran.disk ≤ v.faults e
  last_later (Faulty device) ended k ran e at is =
      let same = has r.ran (left_as r.ran ended.1) k ran at in
      let one : ran.disk ≡ e = (let both : Some ran.disk ≡ Some e = sym same ∙ is in cc both) in
      let same_count : v.faults ran.disk ≡ v.faults e = ap v.faults one in
      omega (arith, same_count)
  last_later Clean ended k ran e at is =
      let x = had r.now way.disks k e is in
      let later = ended.counts.later k ran x.0 at x.1 in
      let same_count : v.faults (x.0).disk ≡ v.faults e = ap v.faults x.2 in
      omega (arith, later, same_count)

  -- ----------------------------------------------------------------------------------------------------------------
  -- Where no call fails.

  module _ (none : NoneFails c) where
    -- no count of a disk rose in the decision
    none_rose : PlayedOn → (device : ℕ) → RoseAt v.faults device r.ran r.now → ⊥
    none_rose on device (w, x, at, is, rose) =
        let s = second_of on device w at in
        let f = first_of device s.ready s.ready_is in
        let one = first_later device s.ready f in
        let other = second_later device w s in
        none.disks device f.disk x.disk f.disk_is (has r.now way.disks device x is) (rose_since (v.faults f.disk) (v.faults w.disk) (v.faults x.disk) (omega (arith, one, other)) rose)

    -- so the decision committed
    decided_so : PlayedOn → (answer : Decided) → IsDecidedCaused (c.keepers.faults j.read) (c.keepers.faults c.keeper_after) v.faults r.ran r.now answer → verdict_of answer ≡ verdict.Committed
    decided_so on decided.Committed cause = refl
    decided_so on (decided.NotCommitted device) cause = absurd (none_rose on device cause.rose)
    decided_so on (decided.Unfinished device) cause = absurd (none_rose on device cause)
    decided_so on decided.KeeperFault cause = absurd (none.keeper (rose_since (c.keepers.faults c.keeper) (c.keepers.faults j.read) (c.keepers.faults c.keeper_after) j.only_read.faults cause))

    -- and neither a device nor the keeper fails with it
    pub never_failed : (p : Prepared) → Ended p → (refusal : Refusal) → r.verdict ≡ verdict.Failed refusal → ⊥
    never_failed (NotAll device) ended refusal is = let clash : verdict.NotPrepared device ≡ verdict.Failed refusal = sym ended.0 ∙ is in grind (arith, clash)
    never_failed All (on, (Faulty device, answers, ended)) refusal is = let clash : verdict.NotCommitted device ≡ verdict.Failed refusal = sym ended.0 ∙ is in grind (arith, clash)
    never_failed All (on, (Clean, answers, ended)) refusal is = let clash : verdict.Committed ≡ verdict.Failed refusal = sym (decided_so on ended.answer ended.cause) ∙ sym ended.verdict ∙ is in grind (arith, clash)

  -- ----------------------------------------------------------------------------------------------------------------
  -- What the laws of several devices say.

  module _ (laws : Laws c.views) where
    first_counted : (k : ℕ) (ready : View c.Disk) (f : First k ready) → held (v.faults f.disk + sum_by faults_in (f.account).journal) ≤ v.faults ready.disk
    first_counted k ready f =
        let kept = f.over.kept.later in
        let counted = laws.faults (opening_part k (length j.opened) script) f.before ready f.account f.played in
        omega (arith, kept, counted)

    second_counted : (k : ℕ) (ran : View c.Disk) (s : Second k ran) → held (v.faults (s.ready).disk + sum_by faults_in (s.account).journal) ≤ v.faults ran.disk
    second_counted k ran s = laws.faults (later_part k (length r.ready) script) s.ready ran s.account s.played

    -- each session is told whole
    first_whole : AreWhole (λ device. opening_part device (length j.opened) script) j.opened r.first
    first_whole k before a at is =
        let y = there_too j.opened r.ready k before way.first.many at in
        let told = laws.complete (opening_part k (length j.opened) script) before y.0 a (way.first.each k before y.0 a at y.1 is) in
        record { script = told.0; sizes = told.1; complete = told.3 }

    second_whole : (p : Prepared) → Ended p → AreWhole (λ device. later_part device (length r.ready) script) r.ready r.second
    second_whole (NotAll device) ended k ready b at is = absurd (let e : None ≡ Some b = ap (λ (l : List Account). slice_get l k) (sym ended.1) ∙ is in grind (arith, e))
    second_whole All ended k ready b at is =
        let on = ended.0 in
        let z = there_too r.ready r.ran k ready on.many at in
        let told = laws.complete (later_part k (length r.ready) script) ready z.0 b (on.each k ready z.0 b at z.1 is) in
        record { script = told.0; sizes = told.1; complete = told.3 }

    -- --------------------------------------------------------------------------------------------------------------
    -- Faults are counted.

    told_none : (k : ℕ) → r.second ≡ [] → faults_told (slice_get r.second k) ≡ 0
    told_none k none = ap (λ (l : List Account). faults_told (slice_get l k)) none

    counted : (p : Prepared) → Ended p → (k : ℕ) (d e : c.Disk) → slice_get c.disks k ≡ Some d → slice_get c.disks_after k ≡ Some e
        → held (v.faults d + (faults_told (slice_get r.first k) + faults_told (slice_get r.second k))) ≤ v.faults e
    counted (NotAll device) ended k d e at is =
        let y = had r.ready (left_as r.ready ended.2) k e is in
        let f = first_of k y.0 y.1 in
        let same : v.faults f.disk ≡ v.faults d = (let both : Some f.disk ≡ Some d = sym f.disk_is ∙ at in ap v.faults (cc both)) in
        let told : faults_told (slice_get r.first k) ≡ sum_by faults_in (f.account).journal = ap faults_told f.account_is in
        let none = told_none k ended.1 in
        let count = first_counted k y.0 f in
        let end : v.faults (y.0).disk ≡ v.faults e = ap v.faults y.2 in
        omega (arith, same, told, none, count, end)
    counted All (on, (answer, answers, ended)) k d e at is =
        let x = there_too c.disks j.opened k d (let e = j.over.within in let same : length j.opened ≡ length c.disks = omega (arith, e) in same) at in
        let y = there_too j.opened r.ready k x.0 way.first.many x.1 in
        let z = there_too r.ready r.ran k y.0 on.many y.1 in
        let s = second_of on k z.0 z.1 in
        let f = first_of k s.ready s.ready_is in
        let same : v.faults f.disk ≡ v.faults d = (let both : Some f.disk ≡ Some d = sym f.disk_is ∙ at in ap v.faults (cc both)) in
        let told : faults_told (slice_get r.first k) ≡ sum_by faults_in (f.account).journal = ap faults_told f.account_is in
        let too : faults_told (slice_get r.second k) ≡ sum_by faults_in (s.account).journal = ap faults_told s.account_is in
        let one = first_counted k s.ready f in
        let other = second_counted k z.0 s in
        let last = last_later answer ended k z.0 e z.1 is in
        omega (arith, same, told, too, one, other, last)

    -- --------------------------------------------------------------------------------------------------------------
    -- Each device goes legally.

    -- a device that ended prepared may begin anew
    anew : (k : ℕ) (ready : View c.Disk) (f : First k ready) → IsPreparedAtEnd f.account → MayBeginAnew ready
    anew k ready f = anew_after v.stated v.content v.moment v.left_since v.faults (opening_part k (length j.opened) script) f.before ready f.account f.played

    all_prepared : AnswersPrepared r.ready r.first All → (k : ℕ) (ready : View c.Disk) → slice_get r.ready k ≡ Some ready → MayBeginAnew ready
    all_prepared prepared k ready at = let f = first_of k ready at in anew k ready f (prepared k f.account (slice_get_within r.ready k ready at) f.account_is)

    goes : (p : Prepared) → AnswersPrepared r.ready r.first p → Ended p → (k : ℕ) (d : c.Disk) (told : Content) (before ready : View c.Disk) (a : Account) → slice_get c.disks k ≡ Some d → v.content d ≡ Some told → slice_get j.opened k ≡ Some before
        → slice_get r.ready k ≡ Some ready → slice_get r.first k ≡ Some a → DeviceGoes v told r k before ready a
    goes p prepared ended k d told before ready a disk tells opened at is =
        let over = j.over.each k d before disk opened in
        let one = way.first.each k before ready a opened at is in
        let first : GoesLegally v (opening told.now) before ready a = record {
          session = one.session;
          loaded = one.loaded;
          goes = laws.legal (opening_part k (length j.opened) script) before ready a (opening told.now) one over.ready.anew (over.stands told tells);
        } in
        record { first = first; second = λ ran b there given. on p prepared ended first ran b there given }
      where
        on : (p : Prepared) → AnswersPrepared r.ready r.first p → Ended p → (first : GoesLegally v (opening told.now) before ready a) → (ran : View c.Disk) (b : Account) → slice_get r.ran k ≡ Some ran → slice_get r.second k ≡ Some b → GoesLegally v (first.goes.leads.place).flat ready ran b
        on (NotAll device) prepared ended first ran b there given = absurd (let e : None ≡ Some b = ap (λ (l : List Account). slice_get l k) (sym ended.1) ∙ given in grind (arith, e))
        on All prepared ended first ran b there given =
            let two = ended.0.each k ready ran b at there given in
            record {
              session = two.session;
              loaded = two.loaded;
              goes = laws.legal (later_part k (length r.ready) script) ready ran b (first.goes.leads.place).flat two (all_prepared prepared k ready at) first.goes.stands;
            }

    -- --------------------------------------------------------------------------------------------------------------
    -- Devices that were all prepared stay together.

    module _ (told : ℕ → Content) (tells : AreTold v.content c.disks told) where
      abbrev began : AnswersPrepared r.ready r.first All → HavePrepared v.stated v.content v.moment v.left_since v.faults c.disks told script r.ready r.first
      began prepared = record { tells = tells; opened = j.opened; over = j.over; dealt = j.dealt; played = way.first; prepared = prepared }

      abbrev ran_on : AnswersPrepared r.ready r.first All → PlayedOn → HaveRun v.stated v.content v.moment v.left_since v.faults c.disks told r.ran r.first r.second
      ran_on prepared on = record { script = script; ready = r.ready; began = began prepared; played = on }

      -- nothing was kept as the sessions were over
      nothing_read : c.keepers.kept c.keeper ≡ Some None → c.keepers.kept j.read ≡ Some None
      nothing_read none = let on = goes_on Same (c.keepers.kept c.keeper) (c.keepers.kept j.read) None none j.only_read.kept in on.1 ∙ ap Some on.2

      abbrev RollsBack : List Member → Type 0
      RollsBack members = EndsIn v.content r.ran r.ran None (Each (Settled false) members)

      -- how it ends by what the decision answered
      by_answer : (answer : Decided) (text : Option (List ℕ)) (members : List Member) → AreLedTo v.content told r.ran r.first r.second members
          → ((answer : Decided) (now : List (View c.Disk)) (text : Option (List ℕ)) → LeavesAgreed v.content r.ran now text answer → EndsIn v.content r.ran now text (SettlesBy answer members))
          → LeavesAgreed v.content r.ran r.now text answer → HasInTheEnd v told r text (verdict_of answer)
      by_answer decided.Committed text members lead after agreed = (members, lead, after decided.Committed r.now text agreed)
      by_answer (decided.NotCommitted device) text members lead after agreed = (members, inr lead, after (decided.NotCommitted device) r.now text agreed)
      by_answer (decided.Unfinished device) text members lead after agreed = (members, lead, after (decided.Unfinished device) r.now text agreed)
      by_answer decided.KeeperFault text members lead after agreed = (members, lead, after decided.KeeperFault r.now text agreed)

      in_the_end : (answer : Ran) → AnswersRan r.ran r.second answer → EndsRan v c.keepers script j.opened j.read c.keeper_after c.disks_after r answer → HaveRun v.stated v.content v.moment v.left_since v.faults c.disks told r.ran r.first r.second
          → (members : List Member) → ArePreparedTo v.content told r.ready r.first members → RollsBack members → (text : Option (List ℕ)) → c.keepers.kept c.keeper ≡ Some None → c.keepers.kept c.keeper_after ≡ Some text → HasInTheEnd v told r text r.verdict
      in_the_end (Faulty device) answers ended run members lead back text none left =
          let same : None ≡ text = (let both : Some None ≡ Some text = sym (nothing_read none) ∙ ap c.keepers.kept (sym ended.2) ∙ left in cc both) in
          subst (HasInTheEnd v told r text) (sym ended.0)
          (members, inl lead, subst (λ (t : Option (List ℕ)). EndsIn v.content r.ran r.now t (Each (Settled false) members)) same (subst (λ (l : List (View c.Disk)). EndsIn v.content r.ran l None (Each (Settled false) members)) (sym ended.1) back))
      in_the_end Clean answers ended run members lead back text none left =
          let all = laws.decided c.disks told r.ran r.first r.second run answers in
          subst (HasInTheEnd v told r text) (sym ended.verdict) (by_answer ended.answer text all.0 all.1 all.2.after (ended.agreed text (nothing_read none) left))

      together : (p : Prepared) → p ≡ All → AnswersPrepared r.ready r.first p → Ended p → StayTogether v c.keepers told r c.keeper c.keeper_after
      together (NotAll device) is prepared ended = absurd (grind (arith, is))
      together All is prepared (on, (answer, answers, ended)) =
          let run = ran_on prepared on in
          let was = laws.prepared c.disks told script r.ready r.first (began prepared) in
          let back = laws.ran c.disks told r.ran r.first r.second run was.0 was.1 in
          record { members = was.0; lead = was.1; prepared = was.2; ran = back; left = in_the_end answer answers ended run was.0 was.1 back }

      -- --------------------------------------------------------------------------------------------------------------
      -- Where no call fails and each prepare finds room, they are committed.

      module _ (none : NoneFails c) (room : EachHasRoom told r) where
        -- a first session ended prepared
        ends_prepared : (k : ℕ) (ready : View c.Disk) (e : c.Disk) → (f : First k ready) → slice_get c.disks_after k ≡ Some e → v.faults ready.disk ≤ v.faults e → IsPreparedAtEnd f.account
        ends_prepared k ready e f left later =
            let clean : EndsClean f.account = none_told (v.faults f.disk) (v.faults f.disk) (v.faults ready.disk) (v.faults e) (sum_by faults_in (f.account).journal) (omega arith) (first_counted k ready f) later (none.disks k f.disk e f.disk_is left) in
            let tell = tells k f.disk f.disk_is in
            elim (laws.prepares script k (length j.opened) f.before ready f.account (opening (told k).now) j.dealt f.played (f.over.stands (told k) tell) refl clean) [
              | inl prepared ↦ prepared
              | inr full ↦ absurd (room k f.account f.account_is full)
            ]

        -- and a second one clean
        ends_clean : (answer : Ran) → EndsRan v c.keepers script j.opened j.read c.keeper_after c.disks_after r answer → (k : ℕ) (ran : View c.Disk) → (s : Second k ran) → slice_get r.ran k ≡ Some ran → (e : c.Disk) → slice_get c.disks_after k ≡ Some e → EndsClean s.account
        ends_clean answer ended k ran s at e left =
            let f = first_of k s.ready s.ready_is in
            none_told (v.faults f.disk) (v.faults (s.ready).disk) (v.faults ran.disk) (v.faults e) (sum_by faults_in (s.account).journal) (first_later k s.ready f) (second_counted k ran s) (last_later answer ended k ran e at left) (none.disks k f.disk e f.disk_is left)

        ran_so : PlayedOn → (answer : Ran) → AnswersRan r.ran r.second answer → EndsRan v c.keepers script j.opened j.read c.keeper_after c.disks_after r answer → r.verdict ≡ verdict.Committed
        ran_so on (Faulty device) answers ended =
            let y = there_too r.second r.ready device answers.account (sym on.as_many) answers.account_is in
            let z = there_too r.ready r.ran device y.0 on.many y.1 in
            let s = second_of on device z.0 z.1 in
            let same : s.account ≡ answers.account = (let both : Some s.account ≡ Some answers.account = sym s.account_is ∙ answers.account_is in cc both) in
            absurd (answers.fails (subst EndsClean same (ends_clean (Faulty device) ended device z.0 s z.1 (z.0).disk (has r.ran (left_as r.ran ended.1) device z.0 z.1))))
        ran_so on Clean answers ended = ended.verdict ∙ decided_so none on ended.answer ended.cause

        committed : (p : Prepared) → AnswersPrepared r.ready r.first p → Ended p → r.verdict ≡ verdict.Committed
        committed (NotAll device) prepared ended =
            let x = there_too r.first j.opened device prepared.account (sym way.first.as_many) prepared.account_is in
            let y = there_too j.opened r.ready device x.0 way.first.many x.1 in
            let f = first_of device y.0 y.1 in
            let same : f.account ≡ prepared.account = (let both : Some f.account ≡ Some prepared.account = sym f.account_is ∙ prepared.account_is in cc both) in
            absurd (prepared.fails (subst IsPreparedAtEnd same (ends_prepared device y.0 (y.0).disk f (has r.ready (left_as r.ready ended.2) device y.0 y.1) (omega arith))))
        committed All prepared (on, (answer, answers, ended)) = ran_so on answer answers ended

    -- all that is promised
    pub pair_keeps : PairKeeps c script j.opened r
    pair_keeps = record {
      first = first_whole;
      second = second_whole r.prepared way.ended;
      faults = counted r.prepared way.ended;
      legal = goes r.prepared way.prepared way.ended;
      together = λ told tells is. together told tells r.prepared is way.prepared way.ended;
      committed = λ told tells none room. committed told tells none room r.prepared way.prepared way.ended;
    }
