-- The boot of several devices: what its answer says of the joint cuts before it and after it.
use Rattle.std.proofs.Common.{◌≡◌, inl, inr, ℕ, ◌<◌, Bool, true, false, List, Option, Some, None, Result, Ok, Err, length, refl, sym, ap, ◌∙◌, subst, arith}
use Rattle.std.specs.Prelude.{slice_get, IfOk, IfErr}
use Rattle.std.proofs.lemmas.Option.{slice_get_cases, slice_get_within}
use Rattle.bow_units.specs.declared.sizes.Geometry.{Geometry}
use Rattle.bow_disk.specs.Disk.{Content, IsCrash, IsShaped}
use Rattle.bow_disk.proofs.Settling.{cut_settled}
use Rattle.bow_restore.specs.Replaying.{IsFlushed}
use Rattle.bow_restore.proofs.Backs.{now_is_crash}
use Rattle.vold_meta.specs.Keeper.{Goes}
use Rattle.vold_meta.specs.Decisions.{text_of_decision}
use Rattle.bow_pair.specs.Boot.{AreTold, Ends, IsCaused, SettlesAs, StaysAgreed, StopsBy}
use Rattle.bow_pair.specs.Boots.{Answers, CutBoot, CutBy, CutFrom, WholeBy}
use Rattle.bow_pair.specs.BootLaws.{AreSizesOf}
use Rattle.bow_pair.specs.Ending.{EndsBy, KeepsBy}
use Rattle.bow_pair.specs.Joint.{Member, AreMembers, IsCutOf, IsJointCut, Settled}
use Rattle.bow_pair.specs.Settling.{AreStated, EachDisk, IsLeft, IsRefused, IsSettled, StopsAt, TellsSome}
use Rattle.bow_pair.specs.declared.boots.PairBooted.{PairBooted}
use Rattle.bow_pair.specs.declared.boots.PairBootFault.{PairBootFault}
use Rattle.bow_pair.specs.declared.boots.PairBootFault.TheVariants.{KeeperFault, BadDecision, BadChain, BadHeader, Reserved, DiskFault, NoMemory}
use Rattle.bow_pair.proofs.Agreeing.{cut_agrees, ended, size_of, stays}
use Rattle.bow_pair.proofs.Stages.{some_is}

-- ---- the text

told_text : (a c : Option (List ℕ)) → Some a ≡ Some c → a ≡ c
told_text a c is = cc is

-- a step from the text that was told to the one that is
pub goes_told : (step : Option (List ℕ) → Option (List ℕ) → Type 0) (k0 k1 : Option (Option (List ℕ))) (text left : Option (List ℕ)) → k0 ≡ Some text → k1 ≡ Some left → Goes step k0 k1 → step text left
goes_told step None k1 text left was is goes = absurd (cc was)
goes_told step (Some old) None text left was is goes = absurd goes
goes_told step (Some old) (Some new) text left was is goes = subst (λ (x : Option (List ℕ)). step text x) (told_text new left is) (subst (λ (x : Option (List ℕ)). step x new) (told_text old text was) goes)

-- the text that is told after a step
pub goes_on : (step : Option (List ℕ) → Option (List ℕ) → Type 0) (k0 k1 : Option (Option (List ℕ))) (text : Option (List ℕ)) → k0 ≡ Some text → Goes step k0 k1 → (left : Option (List ℕ)) × (k1 ≡ Some left) × step text left
goes_on step None k1 text was goes = absurd (cc was)
goes_on step (Some old) None text was goes = absurd goes
goes_on step (Some old) (Some new) text was goes = (new, refl, subst (λ (x : Option (List ℕ)). step x new) (told_text old text was) goes)

-- ---- lists of one length

there : {X Y : Type 0} (xs : List X) (ys : List Y) (k : ℕ) (x : X) → length xs ≡ length ys → slice_get xs k ≡ Some x → (y : Y) × (slice_get ys k ≡ Some y)
there xs ys k x same at = elim (slice_get_cases ys k).1 [
  | inl found ↦ (found.0, found.2)
  | inr past ↦ let low = slice_get_within xs k x at in absurd (omega (arith, low, past.0))
]

flushed_now : (c : Content) → IsFlushed c → (image : List (List ℕ)) → IsCrash c.candidates image → image ≡ c.now
flushed_now c is image crash = cut_settled c.now c (record { now = refl; candidates = is }) image crash

module _ {T : Type 0} (content : T → Option Content) (stated : T → Option Geometry) (faults : T → ℕ) (sizes : List Geometry) (old new : List T)
    (shaped : (d : T) (c : Content) → content d ≡ Some c → (g : Geometry) → stated d ≡ Some g → IsShaped g.block_size g.blocks c)
    (states : AreStated stated sizes old) (many : length old ≡ length sizes) (kept : length new ≡ length old) where
  -- what the disks held is a joint cut
  pub now_joint : (told : ℕ → Content) → AreTold content old told → IsJointCut content old (λ k. (told k).now)
  now_joint told are k d at =
      let size = there old sizes k d many at in
      (told k, are k d at, now_is_crash size.0 (told k) (shaped d (told k) (are k d at) size.0 (states k size.0 d size.1 at)))

  -- one device's image before the call, of one that a cut may leave after it
  record Before (text : Option (List ℕ)) (k : ℕ) (image : List (List ℕ)) : Type 0 where
    before : List (List ℕ)
    cut : (d : T) → slice_get old k ≡ Some d → IsCutOf content d before
    from : (g : Geometry) → slice_get sizes k ≡ Some g → CutFrom text g before image

  before_one : (committed : Bool) (text : Option (List ℕ)) → text ≡ text_of_decision committed → (told : ℕ → Content) → AreTold content old told → EachDisk (λ k g a b. IsLeft content committed g a b) sizes old new
      → (images : ℕ → List (List ℕ)) → IsJointCut content new images → (k : ℕ) → Before text k (images k)
  before_one committed text decided told are left images joint k = elim (slice_get_cases old k).1 [
    | inr past ↦ record {
      before = images k;
      cut = λ d at. absurd (cc (at, past.1));
      from = λ g at. inl refl;
    }
    | inl found ↦ by found.0 found.2
  ]
    where
      by : (d : T) → slice_get old k ≡ Some d → Before text k (images k)
      by d at =
          let size = there old sizes k d many at in
          let now = there old new k d (sym kept) at in
          elim (left k size.0 d now.0 size.1 at now.1 (told k) (are k d at) (images k) (joint k now.0 now.1)) [
            | inl crash ↦ record {
              before = images k;
              cut = λ e is. subst (λ (x : T). IsCutOf content x (images k)) (some_is d e (sym at ∙ is)) (told k, are k d at, crash);
              from = λ g is. inl refl;
            }
            | inr cut ↦ record {
              before = (told k).now;
              cut = λ e is. now_joint told are k e is;
              from = λ g is. inr (committed, decided, subst (λ (x : Geometry). CutBy committed x (told k).now (images k)) (some_is size.0 g (sym size.1 ∙ is)) cut);
            }
          ]

  -- a call that left the text is a boot that was cut
  pub is_cut_kept : (committed : Bool) (text left : Option (List ℕ)) → text ≡ text_of_decision committed → left ≡ text → (told : ℕ → Content) → AreTold content old told → EachDisk (λ k g a b. IsLeft content committed g a b) sizes old new
      → (images : ℕ → List (List ℕ)) → IsJointCut content new images → (i : ℕ → List (List ℕ)) × IsJointCut content old i × CutBoot sizes i text images left
  is_cut_kept committed text left decided same told are by images joint =
      let one = before_one committed text decided told are by images joint in
      (λ k. (one k).before, λ k d at. (one k).cut d at, inl (same, λ k g at. (one k).from g at))

  -- one device after it was settled whole
  record After (committed : Bool) (told : ℕ → Content) (k : ℕ) : Type 0 where
    now : Content
    tells : (e : T) → slice_get new k ≡ Some e → content e ≡ Some now
    flushed : (e : T) → slice_get new k ≡ Some e → IsFlushed now
    whole : (g : Geometry) → slice_get sizes k ≡ Some g → WholeBy committed g (told k).now now.now

  after_one : (committed : Bool) (told : ℕ → Content) → AreTold content old told → EachDisk (λ k g a b. IsSettled content committed g a b) sizes old new → (k : ℕ) → After committed told k
  after_one committed told are settled k = elim (slice_get_cases new k).1 [
    | inr past ↦ record {
      now = told k;
      tells = λ e at. absurd (cc (at, past.1));
      flushed = λ e at. absurd (cc (at, past.1));
      whole = λ g at. let low = slice_get_within sizes k g at in absurd (omega (arith, low, past.0, many, kept));
    }
    | inl found ↦ by found.0 found.2
  ]
    where
      by : (e : T) → slice_get new k ≡ Some e → After committed told k
      by e at =
          let was = there new old k e kept at in
          let size = there old sizes k was.0 many was.1 in
          let t = settled k size.0 was.0 e size.1 was.1 at (told k) (are k was.0 was.1) in
          record {
            now = t.told;
            tells = λ x is. ap content (some_is x e (sym is ∙ at)) ∙ t.is;
            flushed = λ x is. (t.holds).0;
            whole = λ g is. subst (λ (y : Geometry). WholeBy committed y (told k).now (t.told).now) (some_is size.0 g (sym size.1 ∙ is)) (t.holds).1;
          }

  answers_by : (committed logged : Bool) (told : ℕ → Content) → AreTold content old told → TellsSome content old logged → (answer : PairBooted) → EndsBy committed logged (Ok answer) → Answers committed sizes (λ k. (told k).now) answer
  answers_by true logged told are some answer (inl is) = cc is
  answers_by true logged told are some answer (inr is) = absurd (cc is)
  answers_by false true told are some answer is =
      let k = some.0 in
      let size = there old sizes k some.1 many some.2 in
      inl (cc is, (k, size.0, size.1, some.3 (told k) (are k some.1 some.2)))
  answers_by false false told are some answer is =
      inr (cc is, λ k g at. let disk = there sizes old k g (sym many) at in some k disk.0 disk.1 (told k) (are k disk.0 disk.1))

  none_left : (committed : Bool) (answer : PairBooted) (text left : Option (List ℕ)) → text ≡ text_of_decision committed → KeepsBy committed (Ok answer) text left → left ≡ None
  none_left true answer text left decided keeps = keeps
  none_left false answer text left decided keeps = keeps ∙ decided

  -- a call that ended well
  pub ends : (committed logged : Bool) (text left : Option (List ℕ)) → text ≡ text_of_decision committed → (told : ℕ → Content) → AreTold content old told → EachDisk (λ k g a b. IsSettled content committed g a b) sizes old new → TellsSome content old logged
      → (answer : PairBooted) → EndsBy committed logged (Ok answer) → KeepsBy committed (Ok answer) text left → Ends content sizes new told text left answer
  ends committed logged text left decided told are settled some answer by keeps =
      let one = after_one committed told are settled in
      record {
        now = λ k. (one k).now;
        tells = λ k e at. (one k).tells e at;
        flushed = λ k e at. (one k).flushed e at;
        boot = record { committed = committed; decided = decided; none = none_left committed answer text left decided keeps; whole = λ k g at. (one k).whole g at; answers = answers_by committed logged told are some answer by };
      }

  -- a call whose text was removed, though that failed, is a boot that was cut
  is_cut_removed : (text left : Option (List ℕ)) → text ≡ text_of_decision true → left ≡ None → (told : ℕ → Content) → AreTold content old told → EachDisk (λ k g a b. IsSettled content true g a b) sizes old new
      → (images : ℕ → List (List ℕ)) → IsJointCut content new images → (i : ℕ → List (List ℕ)) × IsJointCut content old i × CutBoot sizes i text images left
  is_cut_removed text left decided none told are settled images joint =
      let one = after_one true told are settled in (
        λ k. (told k).now,
        now_joint told are,
        inr (
          decided,
          none,
          λ k g at.
              let disk = there sizes new k g (sym many ∙ sym kept) at in
              let cut = joint k disk.0 disk.1 in
              let same : cut.0 ≡ (one k).now = some_is cut.0 (one k).now (sym cut.1 ∙ (one k).tells disk.0 disk.1) in
              let is : images k ≡ ((one k).now).now = flushed_now (one k).now ((one k).flushed disk.0 disk.1) (images k) (subst (λ (x : Content). IsCrash x.candidates (images k)) same cut.2) in
              subst (WholeBy true g (told k).now) (sym is) ((one k).whole g at),
        ),
      )

  -- the end of a call, by its answer
  pub end_is_cut : (committed logged : Bool) (text left : Option (List ℕ)) → text ≡ text_of_decision committed → (told : ℕ → Content) → AreTold content old told → EachDisk (λ k g a b. IsSettled content committed g a b) sizes old new → EachDisk (λ k g a b. IsLeft content committed g a b) sizes old new
      → (r : Result PairBooted PairBootFault) → EndsBy committed logged r → KeepsBy committed r text left → (images : ℕ → List (List ℕ)) → IsJointCut content new images
      → IfErr r (λ fault. (i : ℕ → List (List ℕ)) × IsJointCut content old i × CutBoot sizes i text images left)
  end_is_cut committed logged text left decided told are settled by (Ok answer) ends_by keeps images joint = tt
  end_is_cut true logged text left decided told are settled by (Err fault) ends_by keeps images joint = elim keeps [
    | inl same ↦ is_cut_kept true text left decided same told are by images joint
    | inr none ↦ is_cut_removed text left decided none told are settled images joint
  ]
  end_is_cut false true text left decided told are settled by (Err fault) ends_by keeps images joint = absurd (cc ends_by)
  end_is_cut false false text left decided told are settled by (Err fault) ends_by keeps images joint = absurd (cc ends_by)

  pub end_ends : (committed logged : Bool) (text left : Option (List ℕ)) → text ≡ text_of_decision committed → (told : ℕ → Content) → AreTold content old told → EachDisk (λ k g a b. IsSettled content committed g a b) sizes old new → TellsSome content old logged
      → (r : Result PairBooted PairBootFault) → EndsBy committed logged r → KeepsBy committed r text left → IfOk r (Ends content sizes new told text left)
  end_ends committed logged text left decided told are settled some (Ok answer) by keeps = ends committed logged text left decided told are settled some answer by keeps
  end_ends committed logged text left decided told are settled some (Err fault) by keeps = tt

  -- ---- what agrees

  pub cut_stays : (text left : Option (List ℕ)) → ((images : ℕ → List (List ℕ)) → IsJointCut content new images → (i : ℕ → List (List ℕ)) × IsJointCut content old i × CutBoot sizes i text images left) → StaysAgreed content sizes old new text left
  cut_stays text left is_cut members all fit agreed images joint =
      let c = is_cut images joint in
      let a = agreed c.0 c.1 in
      (a.0, cut_agrees members sizes all fit a.0 c.0 images text left a.1 c.2)

  -- after a call that ended well a cut leaves what stands
  stands : (told : ℕ → Content) (text left : Option (List ℕ)) (answer : PairBooted) → (e : Ends content sizes new told text left answer) → (members : List Member) → AreSizesOf members sizes → (all : AreMembers members) → (images : ℕ → List (List ℕ)) → IsJointCut content new images → (k : ℕ) (m : Member) → slice_get members k ≡ Some m
      → images k ≡ (e.now k).now
  stands told text left answer e members fit all images joint k m at =
      let size = size_of members sizes all fit k m at in
      let disk = there sizes new k m.sizes (sym many ∙ sym kept) size in
      let cut = joint k disk.0 disk.1 in
      let same : cut.0 ≡ e.now k = some_is cut.0 (e.now k) (sym cut.1 ∙ e.tells k disk.0 disk.1) in
      flushed_now (e.now k) (e.flushed k disk.0 disk.1) (images k) (subst (λ (x : Content). IsCrash x.candidates (images k)) same cut.2)

  pub end_stays : (told : ℕ → Content) (text left : Option (List ℕ)) (answer : PairBooted) → AreTold content old told → Ends content sizes new told text left answer → StaysAgreed content sizes old new text left
  end_stays told text left answer are e members all fit agreed images joint =
      let a = agreed (λ k. (told k).now) (now_joint told are) in
      let s = ended members sizes all fit a.0 (λ k. (told k).now) (λ k. (e.now k).now) text left answer a.1 e.boot in
      (a.0, stays members sizes all fit a.0 (λ k. (e.now k).now) images None left (λ k m at. stands told text left answer e members fit all images joint k m at) (e.boot).none s.agrees)

  settled_same : (committed : Bool) (m : Member) (i j : List (List ℕ)) → j ≡ i → Settled committed m i → Settled committed m j
  settled_same committed m i j is s = subst (Settled committed m) (sym is) s

  pub end_settles : (told : ℕ → Content) (text left : Option (List ℕ)) (answer : PairBooted) → AreTold content old told → Ends content sizes new told text left answer → SettlesAs content sizes old new text
  end_settles told text left answer are e members all fit committed agreed images joint k m at =
      let s = ended members sizes all fit committed (λ j. (told j).now) (λ j. (e.now j).now) text left answer (agreed (λ j. (told j).now) (now_joint told are)) e.boot in
      settled_same committed m (e.now k).now (images k) (stands told text left answer e members fit all images joint k m at) (s.each k m at)

  pub either_stays : (told : ℕ → Content) (text left : Option (List ℕ)) → AreTold content old told → (r : Result PairBooted PairBootFault) → IfOk r (Ends content sizes new told text left)
      → ((images : ℕ → List (List ℕ)) → IsJointCut content new images → IfErr r (λ fault. (i : ℕ → List (List ℕ)) × IsJointCut content old i × CutBoot sizes i text images left)) → StaysAgreed content sizes old new text left
  either_stays told text left are (Ok answer) ended_ is_cut = end_stays told text left answer are ended_
  either_stays told text left are (Err fault) ended_ is_cut = cut_stays text left is_cut

  pub either_settles : (told : ℕ → Content) (text left : Option (List ℕ)) → AreTold content old told → (r : Result PairBooted PairBootFault) → IfOk r (Ends content sizes new told text left) → IfOk r (λ answer. SettlesAs content sizes old new text)
  either_settles told text left are (Ok answer) ended_ = end_settles told text left answer are ended_
  either_settles told text left are (Err fault) ended_ = tt

  -- ---- why it stopped

  record AtDevice (device : ℕ) : Type 0 where
    g : Geometry
    a : T
    b : T
    size : slice_get sizes device ≡ Some g
    was : slice_get old device ≡ Some a
    is : slice_get new device ≡ Some b

  at_device : (device : ℕ) → device < length sizes → AtDevice device
  at_device device on = elim (slice_get_cases sizes device).1 [
    | inr past ↦ absurd (omega (arith, on, past.0))
    | inl found ↦
        let was = there sizes old device found.0 (sym many) found.2 in
        let is = there old new device was.0 (sym kept) was.1 in
        record { g = found.0; a = was.0; b = is.0; size = found.2; was = was.1; is = is.1 }
  ]

  refused_at : (committed : Bool) (fault : PairBootFault) → (s : StopsAt content faults committed sizes old new fault) → (at : AtDevice s.device) → IsRefused content faults committed s.device at.g at.a at.b fault
  refused_at committed fault s at = s.refused s.device at.g at.a at.b at.size at.was at.is refl

  pub stops_caused : (committed : Bool) (before now : ℕ) (fault : PairBootFault) → StopsAt content faults committed sizes old new fault → IsCaused before now faults old new (Err fault)
  stops_caused committed before now KeeperFault s = absurd (refused_at committed KeeperFault s (at_device s.device s.on))
  stops_caused committed before now BadDecision s = tt
  stops_caused committed before now (BadChain device fault) s = (refused_at committed (BadChain device fault) s (at_device s.device s.on)).2
  stops_caused committed before now (BadHeader device fault) s = (refused_at committed (BadHeader device fault) s (at_device s.device s.on)).2
  stops_caused committed before now (Reserved device) s = tt
  stops_caused committed before now DiskFault s = let at = at_device s.device s.on in (s.device, at.a, at.b, at.was, at.is, refused_at committed DiskFault s at)
  stops_caused committed before now NoMemory s = tt

  pub stops_by : (committed : Bool) (text left : Option (List ℕ)) → text ≡ text_of_decision committed → left ≡ text → (fault : PairBootFault) → StopsAt content faults committed sizes old new fault → StopsBy content faults sizes old new text left fault
  stops_by committed text left decided same KeeperFault s = absurd (refused_at committed KeeperFault s (at_device s.device s.on))
  stops_by committed text left decided same BadDecision s = absurd (refused_at committed BadDecision s (at_device s.device s.on))
  stops_by committed text left decided same (BadChain device fault) s = (committed, decided, same, s)
  stops_by committed text left decided same (BadHeader device fault) s = (committed, decided, same, s)
  stops_by committed text left decided same (Reserved device) s = (committed, decided, same, s)
  stops_by committed text left decided same DiskFault s = (committed, decided, same, s)
  stops_by committed text left decided same NoMemory s = (committed, decided, same, s)

-- nothing was done
pub still_is_cut : {T : Type 0} (content : T → Option Content) (sizes : List Geometry) (old : List T) (text left : Option (List ℕ)) → left ≡ text → (images : ℕ → List (List ℕ)) → IsJointCut content old images → (i : ℕ → List (List ℕ)) × IsJointCut content old i × CutBoot sizes i text images left
still_is_cut content sizes old text left same images joint = (images, joint, inl (same, λ k g at. inl refl))
