-- Where no fault was told the device stays led; and another session may begin after a prepare.
use Rattle.std.proofs.Common.{◌≡◌, ◌≤◌, ℕ, List, [], Option, Some, None, refl, sym, ap, ◌∙◌, subst}
use Rattle.std.specs.List.{sum_by}
use Rattle.bow_units.specs.declared.sizes.Geometry.{Geometry}
use Rattle.bow_units.specs.declared.requests.Phase.{Phase}
use Rattle.bow_units.specs.declared.requests.Phase.TheVariants.{Trim, Arming, Checkpoint, Deciding, Committed}
use Rattle.bow_disk.specs.Disk.{Content, IsCrash, IsShaped, IsImage}
use Rattle.bow_chain.specs.Contents.{contents_of}
use Rattle.bow_flat.specs.Flat.{Flat}
use Rattle.bow_guard.specs.Cuts.{candidates_of}
use Rattle.bow_log.specs.Generations.{Generation}
use Rattle.bow_machine.specs.Ahead.{IsLed}
use Rattle.bow_machine.specs.Memory.{Memory}
use Rattle.bow_machine.proofs.GoesForward.{sound_are_led}
use Rattle.bow_core.specs.Further.{LedIn, LedOver}
use Rattle.bow_core.specs.Standing.{StandsOver}
use Rattle.bow_core.specs.Views.{View}
use Rattle.bow_core.proofs.Listed.{sound_listed}
use Rattle.bow_history.specs.Cuts.{NoneFails}
use Rattle.bow_history.specs.DiskCuts.{disk_of, StandsAheadToo}
use Rattle.bow_history.specs.Legality.{StartsUntouched}
use Rattle.bow_history.specs.Prepared.{IsPrepared}
use Rattle.bow_history.specs.Promises.{faults_in}
use Rattle.bow_history.specs.Sessions.{Session}
use Rattle.bow_history.specs.SoundSessions.{IsSoundSession}
use Rattle.bow_history.proofs.Prepared.{prepared_is_untouched}
use Rattle.bow_history.proofs.Quiet.{quiet_runs_succeed, ends_led}
use Rattle.bow_history.proofs.Runs.{beginning_is_at}
use Rattle.bow_history.proofs.SoundTurns.{beginning_is_sound}
use Rattle.bow_session.specs.Leads.{WasLoaded, BeginsAt, LeadsFrom, LeadsAhead, MayBeginAnew, TellsNoFault}
use Rattle.bow_session.specs.Runs.{begun_over}
use Rattle.bow_session.specs.Sessions.{Run, plan_in}
use Rattle.bow_session.proofs.Leading.{begins, led_there, leads_unfailed, same_content}

module _ {D : Type 0} (stated : D → Option Geometry) (content : D → Option Content) (moment : D → ℕ) (left : D → ℕ → List (List ℕ) → Type 0) (faults : D → ℕ) (first : View D) (v : Run D)
    (k : WasLoaded stated content moment left faults first v) where
  -- it began with a sound session
  start_sound : IsSoundSession (plan_in v) (begun_over first)
  start_sound = beginning_is_sound (plan_in v) first.memory first.admitted k.sound k.idle

  -- where the journal tells no fault, no call failed
  none_failed : TellsNoFault v → NoneFails (plan_in v) (begun_over first) k.turns
  none_failed none = quiet_runs_succeed (plan_in v) (begun_over first) k.turns k.run.session.rise start_sound k.run.session.may (ap (sum_by faults_in) (sym k.run.session.journal) ∙ none)

  -- after a prepare's Done with no write answered since, nothing is touched
  pub prepared_untouched : v.core.memory.requests ≡ [] → IsPrepared (plan_in v) v.journal → StartsUntouched (plan_in v) v.core.memory v.core.memory.phase v.core.memory.log
  prepared_untouched idle prepared =
      let same = ap (λ (s : Session). s.memory) k.run.state in
      subst (λ (m : Memory). StartsUntouched (plan_in v) m m.phase m.log) same
      (prepared_is_untouched (plan_in v) (begun_over first) k.turns k.run.session.rise start_sound k.run.session.may (subst (IsPrepared (plan_in v)) k.run.session.journal prepared) (ap (λ (m : Memory). m.requests) same ∙ idle))

  pub may_begin_anew : v.core.memory.requests ≡ [] → (v.core.memory.phase ≡ Checkpoint → IsPrepared (plan_in v) v.journal) → MayBeginAnew v.core
  may_begin_anew idle prepared plan sizes = go v.core.memory.phase v.core.memory.log refl refl
    where
      go : (phase : Phase) (log : Option Generation) → v.core.memory.phase ≡ phase → v.core.memory.log ≡ log → StartsUntouched plan v.core.memory phase log
      go Trim log at is = tt
      go Arming log at is = tt
      go Deciding log at is = tt
      go Committed log at is = tt
      go Checkpoint None at is = tt
      go Checkpoint (Some log) at is =
          subst (λ (g : Geometry). StartsUntouched (record plan { sizes = g }) v.core.memory Checkpoint (Some log)) (sym sizes)
          (subst (λ l. StartsUntouched (plan_in v) v.core.memory Checkpoint l) is (subst (λ p. StartsUntouched (plan_in v) v.core.memory p v.core.memory.log) at (prepared_untouched idle (prepared at))))

  module _ (shaped : (d : D) (c : Content) → content d ≡ Some c → (g : Geometry) → stated d ≡ Some g → IsShaped g.block_size g.blocks c)
      (only_now : (d : D) (c : Content) → content d ≡ Some c → (t : ℕ) (image : List (List ℕ)) → moment d ≤ t → left d t image → IsCrash c.candidates image)
      (cuts_shaped : (d : D) (c : Content) → content d ≡ Some c → (g : Geometry) → stated d ≡ Some g → (t : ℕ) (image : List (List ℕ)) → left d t image → IsImage g.block_size g.blocks image)
      (f : Flat) (at : BeginsAt content (plan_in v) first f) (led : LedIn content first f) (none : TellsNoFault v) where
    leads : LeadsFrom content moment left (StandsAheadToo v.core.geometry) first f v
    leads = leads_unfailed stated content moment left faults shaped only_now cuts_shaped first f v k at led (none_failed none)

    -- the device is led at the end, for some state
    led_for_one : (c : Content) → content v.core.disk ≡ Some c → (one : Flat) × IsLed v.core.geometry v.core.memory (contents_of c.now) (candidates_of c.candidates) one
    led_for_one c told =
        let b = begins stated content moment left faults first f v k at in
        let has = k.cuts b.0 b.1 in
        let start = beginning_is_at (plan_in v) first.memory first.admitted (disk_of b.0) f b.2 in
        let first_led = subst (IsLed v.core.geometry first.memory (contents_of b.0.now) (candidates_of b.0.candidates)) (sym start.1) (led_there stated content moment left faults first f v.core.geometry b.0 k.sizes b.1 led) in
        let end = ends_led (plan_in v) (begun_over first) (disk_of b.0) (disk_of has.last) k.turns _ start.0 first_led has.run (none_failed none) in
        let there = subst (λ (s : Session). IsLed v.core.geometry s.memory (contents_of has.last.now) (candidates_of has.last.candidates) end.0) k.run.state end.1 in
        (end.0, subst (λ (x : Content). IsLed v.core.geometry v.core.memory (contents_of x.now) (candidates_of x.candidates) end.0) (same_content (content v.core.disk) has.last c has.tells told) there)

    pub leads_on : LeadsAhead content moment left first f v
    leads_on = record { leads = leads; led = λ idle. go (content v.core.disk) refl (leads.stands idle) idle }
      where
        go : (o : Option Content) → content v.core.disk ≡ o → StandsOver v.core.geometry v.core.memory o leads.place.flat → v.core.memory.requests ≡ [] → LedIn content v.core leads.place.flat
        go None told stands idle = absurd stands
        go (Some c) told stands idle =
            let one = led_for_one c told in
            let all = sound_listed v.core.geometry c (shaped v.core.disk c told v.core.geometry k.run.sizes) leads.place.flat (λ image crash sound. (leads.end idle c told image crash).1) in
            subst (λ o. LedOver v.core.geometry v.core.memory o leads.place.flat) (sym told)
            (sound_are_led v.core.geometry v.core.memory (contents_of c.now) (candidates_of c.candidates) one.0 leads.place.flat one.1 stands all)
