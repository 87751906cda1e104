-- Devices that were opened, prepared and run, and what they have in the end.
use Rattle.std.proofs.Common.{◌≡◌, ℕ, zero, suc, ◌<◌, ◌≤◌, false, List, [], ◌∷◌, Option, None, Some, length, map, refl, sym, ap, ◌∙◌, subst, arith}
use Rattle.std.specs.Prelude.{slice_get}
use Rattle.std.proofs.lemmas.Option.{slice_get_within}
use Rattle.bow_units.specs.declared.sizes.Geometry.{Geometry}
use Rattle.bow_units.specs.declared.requests.Phase.TheVariants.{Trim, Checkpoint}
use Rattle.bow_disk.specs.Disk.{Content, IsCrash, IsImage, IsShaped}
use Rattle.bow_flat.specs.Flat.{Flat, after, opening}
use Rattle.bow_flat.specs.Flat.Event.{Flushes}
use Rattle.bow_core.specs.Standing.{StandsIn}
use Rattle.bow_core.specs.Views.{IsOpened, View}
use Rattle.bow_script.specs.declared.scripts.Line.{Line}
use Rattle.bow_deal.specs.Dealing.{later_part, opening_part}
use Rattle.bow_history.specs.Journal.{beginning}
use Rattle.bow_session.specs.Parts.{Account, buffers_in, plan_at}
use Rattle.bow_pair.specs.BootLaws.{AreSizesOf}
use Rattle.bow_pair.specs.Deciding.{TakePart, TakesPart}
use Rattle.bow_pair.specs.Joining.{OpenedOver}
use Rattle.bow_pair.specs.Joint.{AreMembers, Each as EachMember, HoldsSaved, Member, Settled}
use Rattle.bow_pair.specs.PairLaws.{AreLedTo, AreOf, ArePreparedTo, EndTogether, EndsIn, FirstLeads, HavePrepared, HaveRun, JournalsLead, PairsEndTogether, PreparedRollBack, RunsRollBack}
use Rattle.bow_pair.specs.Pairs.{AreReady, WerePrepared}
use Rattle.bow_pair.specs.Playing.{HasPlayed, LeadsTo}
use Rattle.bow_pair.specs.Preparing.{AnswersRan}
use Rattle.bow_pair.specs.declared.pairs.Ran.TheVariants.{Clean}
use Rattle.bow_pair.specs.declared.playing.Round.TheVariants.{Later, Opening}
use Rattle.bow_pair.proofs.Agreeing.{boots_settle}
use Rattle.bow_pair.proofs.Decisions.{cut_at, held_in}
use Rattle.bow_pair.proofs.InTheEnd.{decisions_settle, members_take_part, standing_of}
use Rattle.bow_pair.proofs.Phases.{part_asks_none}
use Rattle.bow_pair.proofs.Played.{complete_after, goes_after, leads_after, opened_after, prepared_after, stays_after}
use Rattle.bow_pair.proofs.Rows.{element_at, there_too}
use Rattle.bow_pair.proofs.Saved.{legal_stays}
use Rattle.bow_pair.proofs.Stages.{some_is}

-- one for each number
gather : {X : Type 0} (P : ℕ → X → Type 0) (n : ℕ) → ((k : ℕ) → k < n → (x : X) × P k x) → (xs : List X) × (length xs ≡ n) × ((k : ℕ) (x : X) → slice_get xs k ≡ Some x → P k x)
gather {X = X} P zero each = ([], refl, λ k x at. absurd (grind (arith, at)))
gather {X = X} P (suc n) each =
    let first = each 0 (omega arith) in
    let rest = gather (λ k. P (suc k)) n (λ k low. each (suc k) (omega (arith, low))) in
    (first.0 ∷ rest.0, (let many = rest.1 in let e : length (first.0 ∷ rest.0) ≡ suc n = omega (arith, many) in e), all (first.0) (rest.0) first.1 rest.2)
  where
    all : (x : X) (xs : List X) → P 0 x → ((k : ℕ) (y : X) → slice_get xs k ≡ Some y → P (suc k) y) → (k : ℕ) (y : X) → slice_get (x ∷ xs) k ≡ Some y → P k y
    all x xs here others zero y at = subst (P 0) (some_is x y at) here
    all x xs here others (suc k) y at = others k y at

-- lists of one length that agree everywhere
same_maps : {A B C : Type 0} (f : A → C) (h : B → C) (xs : List A) (ys : List B) → length ys ≡ length xs → ((k : ℕ) (x : A) (y : B) → slice_get xs k ≡ Some x → slice_get ys k ≡ Some y → f x ≡ h y) → map f xs ≡ map h ys
same_maps f h [] [] long each = refl
same_maps f h [] (y ∷ ys) long each = absurd (omega (arith, long))
same_maps f h (x ∷ xs) [] long each = absurd (omega (arith, long))
same_maps {C = C} f h (x ∷ xs) (y ∷ ys) long each =
    ap (λ (z : C). z ∷ map f xs) (each 0 x y refl refl) ∙ ap (λ (l : List C). h y ∷ l) (same_maps f h xs ys (omega (arith, long)) (λ k a b. each (suc k) a b))

module _ {D : Type 0} (stated : D → Option Geometry) (content : D → Option Content) (moment : D → ℕ) (left : D → ℕ → List (List ℕ) → Type 0) (faults : D → ℕ)
    (shaped : (d : D) (c : Content) → content d ≡ Some c → (g : Geometry) → stated d ≡ Some g → IsShaped g.block_size g.blocks c)
    (only_now : (d : D) (c : Content) → content d ≡ Some c → (t : ℕ) (image : List (List ℕ)) → moment d ≤ t → left d t image → IsCrash c.candidates image)
    (cuts_shaped : (d : D) (c : Content) → content d ≡ Some c → (g : Geometry) → stated d ≡ Some g → (t : ℕ) (image : List (List ℕ)) → left d t image → IsImage g.block_size g.blocks image) where
  -- ----------------------------------------------------------------------------------------------------------------
  -- Devices that are cut in their checkpoint.

  -- a device stands in its checkpoint, for a state with what the member has in use and saved
  record StandsAs (u : View D) (m : Member) : Type 0 where
    state : Flat
    sizes : m.sizes ≡ u.geometry
    used : m.state.used ≡ state.used
    saved : m.state.saved ≡ state.saved
    opened : IsOpened stated u
    checkpoint : u.memory.phase ≡ Checkpoint
    stands : StandsIn content u state

  stands_itself : (u : View D) (m : Member) → TakesPart content u m → IsOpened stated u → u.memory.phase ≡ Checkpoint → StandsAs u m
  stands_itself u m p opened checkpoint = record {
    state = p.before;
    sizes = p.sizes;
    used = ap (λ (f : Flat). f.used) p.state;
    saved = ap (λ (f : Flat). f.saved) p.state;
    opened = opened;
    checkpoint = checkpoint;
    stands = p.stands;
  }

  -- boots give them back
  roll_back : (cores : List (View D)) (members : List Member) → length members ≡ length cores → AreMembers members
      → ((k : ℕ) (m : Member) → slice_get members k ≡ Some m → (u : View D) × (slice_get cores k ≡ Some u) × StandsAs u m) → EndsIn content cores cores None (EachMember (Settled false) members)
  roll_back cores members many are stand boots i j last text kept booted cut cuts boot =
      let held : EachMember HoldsSaved members i = λ k m at.
      let u = stand k m at in
      let s = u.2 in
      held_in stated content faults shaped u.0 m s.state (i k) s.sizes s.used s.saved s.opened s.checkpoint s.stands (cut_at stated content faults shaped cores i cut k u.0 u.1) in
      let sizes : AreSizesOf members (map (λ (v : View D). v.geometry) cores) = same_maps (λ (v : View D). v.geometry) (λ (m : Member). m.sizes) cores members many (λ k v m at is.
      let u = stand k m is in ap (λ (x : View D). x.geometry) (some_is v u.0 (sym at ∙ u.1)) ∙ sym (u.2).sizes) in
      let s = boots_settle members (map (λ (v : View D). v.geometry) cores) are sizes false boots i j last None text kept booted held cuts boot in
      (s.0, s.1)

  -- the member to which a session leads a device, which takes part with it
  abbrev led_to : (u : View D) (f : Flat) (a : Account) → LeadsTo content f u a → Member
  led_to u f a to = record { sizes = u.geometry; state = after u.geometry.blocks Flushes to.place.flat }

  takes_part : (u : View D) (f : Flat) (a : Account) (to : LeadsTo content f u a) → TakesPart content u (led_to u f a to)
  takes_part u f a to = record { before = to.place.flat; sizes = refl; state = refl; stands = to.stands; led = to.led }

  -- members of devices in their checkpoint
  are_of : (cores : List (View D)) (members : List Member) → length members ≡ length cores → TakePart content cores members → ((k : ℕ) (u : View D) → slice_get cores k ≡ Some u → u.memory.phase ≡ Checkpoint) → AreOf content cores members
  are_of cores members many part at_checkpoint = record {
    many = many;
    are = λ k m at. let p = part k m at in members_take_part content p.0 m (at_checkpoint k p.0 p.1) p.2;
    take_part = part;
  }

  -- ----------------------------------------------------------------------------------------------------------------
  -- Once they are prepared.

  module _ (disks : List D) (told : ℕ → Content) (script : List (List (List Line))) (ready : List (View D)) (first : List Account) (h : HavePrepared stated content moment left faults disks told script ready first) where
    -- what a device was opened on, and what its session left
    opened_on : (k : ℕ) (v : View D) → slice_get h.opened k ≡ Some v → (d : D) × (slice_get disks k ≡ Some d) × OpenedOver stated content moment left faults d v
    opened_on k v at =
        let d = there_too h.opened disks k v (let e = h.over.within in let many : length disks ≡ length h.opened = omega (arith, e) in many) at in
        (d.0, d.1, h.over.each k d.0 v d.1 at)

    ready_first : AreReady 0 h.opened
    ready_first k v at = (opened_on k v at).2.ready

    were_prepared : WerePrepared ready
    were_prepared = prepared_after stated content moment left faults Opening script h.opened ready first h.dealt ready_first h.played h.prepared

    ready_opened : (k : ℕ) (w : View D) → slice_get ready k ≡ Some w → IsOpened stated w
    ready_opened k w at =
        let v = there_too ready h.opened k w (sym h.played.many) at in
        let a = there_too h.opened first k v.0 h.played.as_many v.1 in
        opened_after stated content moment left faults (opening_part k (length h.opened) script) v.0 w a.0 (h.played.each k v.0 w a.0 v.1 at a.1)

    -- where the first session of a device leads
    leads_first : (k : ℕ) (w : View D) (a : Account) → slice_get ready k ≡ Some w → slice_get first k ≡ Some a → LeadsTo content (opening (told k).now) w a
    leads_first k w a at is =
        let v = there_too ready h.opened k w (sym h.played.many) at in
        let d = opened_on k v.0 v.1 in
        let device = d.2 in
        let tells = h.tells k d.0 d.1 in
        let one = h.played.each k v.0 w a v.1 at is in
        let prepared = h.prepared k a (slice_get_within ready k w at) is in
        leads_after stated content moment left faults shaped only_now cuts_shaped (opening_part k (length h.opened) script) v.0 w a (opening (told k).now) one device.ready.anew prepared.0 (device.stands (told k) tells) (device.led (told k) tells)

    -- the member of a device
    abbrev IsFirstOf : ℕ → Member → Type 0
    IsFirstOf k m = (w : View D) × (slice_get ready k ≡ Some w) × TakesPart content w m × ((a : Account) → slice_get first k ≡ Some a → FirstLeads (told k) a m)

    first_of : (k : ℕ) → k < length ready → (m : Member) × IsFirstOf k m
    first_of k low =
        let w = element_at ready k low in
        let a = there_too ready first k w.0 (h.played.as_many ∙ sym h.played.many) w.1 in
        let to = leads_first k w.0 a.0 w.1 a.1 in
        let m = led_to w.0 (opening (told k).now) a.0 to in (
          m,
          (
            w.0,
            w.1,
            takes_part w.0 (opening (told k).now) a.0 to,
            λ x at. subst (λ (z : Account). FirstLeads (told k) z m) (some_is a.0 x (sym a.1 ∙ at)) (record { way = record { place = to.place; legal = to.legal }; state = refl }),
          ),
        )

    roll_back_prepared : (members : List Member) × ArePreparedTo content told ready first members × EndsIn content ready ready None (EachMember (Settled false) members)
    roll_back_prepared =
        let all = gather IsFirstOf (length ready) first_of in
        let members : List Member = all.0 in
        let part : TakePart content ready members = λ k m at. let p = all.2 k m at in (p.0, p.1, p.2) in
        let each = are_of ready members all.1 part (λ k w at. (were_prepared k w at).checkpoint) in (
          members,
          record { each = each; lead = λ k m a at. (all.2 k m at).3 a },
          roll_back ready members all.1 each.are (λ k m at. let p = part k m at in (p.0, p.1, stands_itself p.0 m p.2 (ready_opened k p.0 p.1) (were_prepared k p.0 p.1).checkpoint)),
        )

  pub prepared_roll_back : PreparedRollBack stated content moment left faults
  prepared_roll_back = roll_back_prepared

  -- ----------------------------------------------------------------------------------------------------------------
  -- Once they have run.

  module _ (disks : List D) (told : ℕ → Content) (ran : List (View D)) (first second : List Account) (h : HaveRun stated content moment left faults disks told ran first second) where
    prepared : WerePrepared h.ready
    prepared = were_prepared disks told h.script h.ready first h.began

    -- the second session of a device
    record RunOver (k : ℕ) (u : View D) : Type 0 where
      before : View D
      account : Account
      before_is : slice_get h.ready k ≡ Some before
      account_is : slice_get second k ≡ Some account
      played : HasPlayed stated content moment left faults (later_part k (length h.ready) h.script) before u account

    run_over : (k : ℕ) (u : View D) → slice_get ran k ≡ Some u → RunOver k u
    run_over k u at =
        let w = there_too ran h.ready k u (sym h.played.many) at in
        let b = there_too h.ready second k w.0 h.played.as_many w.1 in
        record { before = w.0; account = b.0; before_is = w.1; account_is = b.1; played = h.played.each k w.0 u b.0 w.1 at b.1 }

    ran_opened : (k : ℕ) (u : View D) → slice_get ran k ≡ Some u → IsOpened stated u
    ran_opened k u at = let r = run_over k u at in opened_after stated content moment left faults (later_part k (length h.ready) h.script) r.before u r.account r.played

    in_checkpoint : (k : ℕ) (u : View D) → slice_get ran k ≡ Some u → u.memory.phase ≡ Checkpoint
    in_checkpoint k u at =
        let r = run_over k u at in
        stays_after stated content moment left faults (later_part k (length h.ready) h.script) r.before u r.account r.played (λ g. part_asks_none g Later k (length h.ready) h.script h.began.dealt) (prepared k r.before r.before_is).checkpoint

    -- what was in use and saved when a device was prepared still is so
    stands_on : (k : ℕ) (u : View D) → slice_get ran k ≡ Some u → (m : Member) → ((w : View D) → slice_get h.ready k ≡ Some w → TakesPart content w m) → StandsAs u m
    stands_on k u at m takes =
        let r = run_over k u at in
        let p = takes r.before r.before_is in
        let was = prepared k r.before r.before_is in
        let goes = goes_after stated content moment left faults shaped only_now cuts_shaped (later_part k (length h.ready) h.script) r.before u r.account p.before r.played was.ready.anew p.stands in
        let phases : (p.before).phase ≡ Checkpoint = ((standing_of (r.before).geometry (r.before).memory (content (r.before).disk) p.before p.stands).1).phases ∙ was.checkpoint in
        let begun : (p.before).phase ≡ Trim → ⊥ = λ is. (let clash : Trim ≡ Checkpoint = sym is ∙ phases in grind (arith, clash)) in
        let stays = legal_stays (plan_at r.account) (buffers_in r.account) (r.account).journal (beginning p.before) goes.leads.place begun goes.legal in
        let geometry = (complete_after stated content moment left faults (later_part k (length h.ready) h.script) r.before u r.account r.played).2 in
        record {
          state = goes.leads.place.flat;
          sizes = p.sizes ∙ sym geometry;
          used = ap (λ (f : Flat). f.used) p.state ∙ sym stays.used;
          saved = ap (λ (f : Flat). f.saved) p.state ∙ sym stays.saved;
          opened = ran_opened k u at;
          checkpoint = in_checkpoint k u at;
          stands = goes.stands;
        }

    roll_back_run : (members : List Member) → ArePreparedTo content told h.ready first members → EndsIn content ran ran None (EachMember (Settled false) members)
    roll_back_run members to =
        let each = to.each in
        roll_back ran members (each.many ∙ sym h.played.many) each.are (λ k m at.
        let p = each.take_part k m at in
        let u = there_too h.ready ran k p.0 h.played.many p.1 in
        (u.0, u.1, stands_on k u.0 u.1 m (λ w is. subst (λ (x : View D). TakesPart content x m) (some_is p.0 w (sym p.1 ∙ is)) p.2)))

    -- ----------------------------------------------------------------------------------------------------------------
    -- And ended clean.

    module _ (clean : AnswersRan ran second Clean) where
      -- the member of a device
      abbrev IsMemberOf : ℕ → Member → Type 0
      IsMemberOf k m = (u : View D) × (slice_get ran k ≡ Some u) × TakesPart content u m × ((a b : Account) → slice_get first k ≡ Some a → slice_get second k ≡ Some b → JournalsLead (told k) a b m)

      member_of : (k : ℕ) → k < length ran → (m : Member) × IsMemberOf k m
      member_of k low =
          let u = element_at ran k low in
          let r = run_over k u.0 u.1 in
          let a = there_too h.ready first k r.before (h.began.played.as_many ∙ sym h.began.played.many) r.before_is in
          let began = leads_first disks told h.script h.ready first h.began k r.before a.0 r.before_is a.1 in
          let anew = (prepared k r.before r.before_is).ready.anew in
          let went_on : LeadsTo content began.place.flat u.0 r.account = leads_after stated content moment left faults shaped only_now cuts_shaped (later_part k (length h.ready) h.script) r.before u.0 r.account began.place.flat r.played anew (clean k r.account low r.account_is) began.stands began.led in
          let m = led_to u.0 began.place.flat r.account went_on in (
            m,
            (
              u.0,
              u.1,
              takes_part u.0 began.place.flat r.account went_on,
              λ x y at_x at_y.
                  let same_first : a.0 ≡ x = some_is a.0 x (sym a.1 ∙ at_x) in
                  let same_second : r.account ≡ y = some_is r.account y (sym r.account_is ∙ at_y) in
                  subst (λ (z : Account). JournalsLead (told k) x z m) same_second (subst (λ (z : Account). JournalsLead (told k) z r.account m) same_first
                  (record { way = record { place = began.place; legal = began.legal }; on = record { place = went_on.place; legal = went_on.legal }; state = refl {a = m.state} })),
            ),
          )

      end_together : (members : List Member) × AreLedTo content told ran first second members × EndTogether content ran members
      end_together =
          let all = gather IsMemberOf (length ran) member_of in
          let members : List Member = all.0 in
          let part : TakePart content ran members = λ k m at. let p = all.2 k m at in (p.0, p.1, p.2) in
          let each = are_of ran members all.1 part in_checkpoint in
          let sizes : AreSizesOf members (map (λ (v : View D). v.geometry) ran) = same_maps (λ (v : View D). v.geometry) (λ (m : Member). m.sizes) ran members all.1 (λ k v m at is. let p = all.2 k m is in ap (λ (x : View D). x.geometry) (some_is v p.0 (sym at ∙ p.1)) ∙ sym (p.2).sizes) in (
            members,
            record { each = each; lead = λ k m a b at. (all.2 k m at).3 a b },
            record {
              before = roll_back ran members all.1 each.are (λ k m at. let p = part k m at in (p.0, p.1, stands_itself p.0 m p.2 (ran_opened k p.0 p.1) (in_checkpoint k p.0 p.1)));
              after = λ answer now text agreed boots i j last left_text kept booted cut cuts boot.
                  decisions_settle answer members (map (λ (v : View D). v.geometry) ran) each.are sizes boots i j last text left_text kept booted (agreed members part i cut) cuts boot;
            },
          )

  pub runs_roll_back : RunsRollBack stated content moment left faults
  runs_roll_back = roll_back_run

  pub pairs_end_together : PairsEndTogether stated content moment left faults
  pairs_end_together = end_together
