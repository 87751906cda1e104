-- What cuts of a session leave is what cuts of its run leave, whatever its turns; and where that leads.
use Rattle.std.proofs.Common.{◌≡◌, ℕ, zero, suc, ◌≤◌, ◌++◌, List, [], ◌∷◌, length, Option, Some, None, arith, refl, sym, ap, ◌∙◌, subst}
use Rattle.std.specs.Prelude.{slice_get}
use Rattle.std.specs.Option.{option_map}
use Rattle.std.proofs.lemmas.List.{append-nil, append_assoc}
use Rattle.bow_units.specs.Draws.{next_number}
use Rattle.bow_units.specs.declared.sizes.Geometry.{Geometry}
use Rattle.bow_disk.specs.Disk.{Content, IsCrash, IsShaped, IsImage, Goes}
use Rattle.bow_chain.specs.Contents.{contents_of}
use Rattle.bow_guard.specs.Cuts.{candidates_of}
use Rattle.bow_machine.specs.Ahead.{IsLed}
use Rattle.bow_machine.specs.Calls.{Call, Reply, calls_in, DoesIt, Passes}
use Rattle.bow_machine.specs.MemoryLaws.{IsOnDevice}
use Rattle.bow_core.specs.Calls.{DoesOne}
use Rattle.bow_core.specs.Views.{View}
use Rattle.bow_core.proofs.Leading.{does_it}
use Rattle.bow_history.specs.Complete.{IsComplete}
use Rattle.bow_history.specs.Complete as complete
use Rattle.bow_history.specs.DiskCuts.{disk_of, HasCuts}
use Rattle.bow_history.specs.Histories.{session_after, DoesTurn}
use Rattle.bow_history.specs.Journal.{Plan}
use Rattle.bow_history.specs.Schedule.{FollowsDraws}
use Rattle.bow_history.specs.Sessions.{Session, Turned, Admits, Steps, turn_of, call_in, reply_in, IsTurn}
use Rattle.bow_history.specs.SoundSessions.{IsSoundSession}
use Rattle.bow_history.proofs.DiskCuts.{loaded_has_cuts, turns_have_cuts, cuts_of_disk, cuts_of_disk_are_ahead}
use Rattle.bow_history.proofs.Runs.{beginning_is_at}
use Rattle.bow_history.proofs.SoundTurns.{over_is_empty, runs_are_complete}
use Rattle.bow_session.specs.Cuts.{CutsAreOfRun, LoadedHasCutsOfRun, GoesOn, RunsLead, RunsLeadAhead, OverIsComplete, OverIsIdle}
use Rattle.bow_session.specs.Plays.{Plays}
use Rattle.bow_session.specs.Requests.{plan_of, lane_lines, request_of}
use Rattle.bow_session.specs.Runs.{IsRun, begun_over}
use Rattle.bow_session.specs.Sessions.{Run, plan_in, state_in}
use Rattle.bow_session.specs.Sessions as sessions
use Rattle.bow_session.specs.Turns.{IsOneTurn, PassesTurn}
use Rattle.bow_session.proofs.Running.{on_device, run_on, run_plays}

-- a turn leaves the plan
pub plan_stays : {D : Type 0} (stated : D → Option Geometry) (content : D → Option Content) (moment : D → ℕ) (left : D → ℕ → List (List ℕ) → Type 0) (faults : D → ℕ) (old : Run D) (turn : Turned) (new : Run D)
    → IsOneTurn stated content moment left faults old turn new → plan_in new ≡ plan_in old
plan_stays stated content moment left faults old turn new one = ap (λ g. plan_of g new.script) one.geometry ∙ ap (plan_of old.core.geometry) one.script

-- what a turn did on a disk that told its content
pub record DidTold {D : Type 0} (content : D → Option Content) (moment : D → ℕ) (left : D → ℕ → List (List ℕ) → Type 0) (g : Geometry) (call : Option Call) (reply : Reply) (c : Content) (a b : D) : Type 0 where
  pub told : Content
  pub tells : content b ≡ Some told
  pub listed : length told.candidates ≡ g.blocks
  pub does : DoesIt g call reply (contents_of c.now) (candidates_of c.candidates) (contents_of told.now) (candidates_of told.candidates)
  pub passes : Passes (calls_in call) (content b) (moment a) (moment b) (left a) (left b)

module _ {D : Type 0} (stated : D → Option Geometry) (content : D → Option Content) (moment : D → ℕ) (left : D → ℕ → List (List ℕ) → Type 0) (faults : D → ℕ)
    (shaped : (d : D) (c : Content) → content d ≡ Some c → (g : Geometry) → stated d ≡ Some g → IsShaped g.block_size g.blocks c) where
  -- a call on a disk that told its content
  pub told_after : (g : Geometry) (call : Option Call) (reply : Reply) (c : Content) (a b : D) → content a ≡ Some c → stated a ≡ Some g → stated b ≡ Some g → IsOnDevice g call
      → Goes (DoesOne call reply) (content a) (content b) → Passes (calls_in call) (content b) (moment a) (moment b) (left a) (left b) → DidTold content moment left g call reply c a b
  told_after g call reply c a b is was now on goes passes = by (content b) refl (subst (λ o. Goes (DoesOne call reply) o (content b)) is goes)
    where
      by : (o : Option Content) → content b ≡ o → Goes (DoesOne call reply) (Some c) o → DidTold content moment left g call reply c a b
      by None at goes = absurd goes
      by (Some d) at goes = record {
        told = d;
        tells = at;
        listed = (shaped b d at g now).listed;
        does = does_it g c d (shaped a c is g was) (shaped b d at g now) call reply on goes;
        passes = passes;
      }

  pub did_told : (old : Run D) (turn : Turned) (new : View D) (c : Content) → content old.core.disk ≡ Some c → stated old.core.disk ≡ Some old.core.geometry → IsSoundSession (plan_in old) (state_in old)
      → PassesTurn stated content moment left faults old turn new → DidTold content moment left old.core.geometry (call_in (plan_in old) (state_in old) turn) (reply_in turn) c old.core.disk new.disk
  did_told old (Admits lane ticket op) new c is sizes sound passes = record {
    told = c;
    tells = ap content passes.0 ∙ is;
    listed = (shaped old.core.disk c is old.core.geometry sizes).listed;
    does = (refl, refl);
    passes = (ap moment passes.0, λ t image later. subst (λ d. left d t image) passes.0 later);
  }
  did_told old (Steps actor reply) new c is sizes sound made =
      told_after old.core.geometry (call_in (plan_in old) (state_in old) (Steps actor reply)) reply c old.core.disk new.disk is sizes made.sizes
      (on_device (plan_in old) (state_in old) (turn_of (state_in old) actor) sound) made.disk made.time

  module _ (only_now : (d : D) (c : Content) → content d ≡ Some c → (t : ℕ) (image : List (List ℕ)) → moment d ≤ t → left d t image → IsCrash c.candidates image) where
    pub loaded_cuts : LoadedHasCutsOfRun stated content moment left
    loaded_cuts v sizes c is = loaded_has_cuts content moment left only_now v.core.disk c (plan_in v) (begun_over v.core) is (shaped v.core.disk c is v.core.geometry sizes).listed

    -- cuts of a run stay so with one turn
    pub cuts_on : (first : View D) (turns : List Turned) (old : Run D) (turn : Turned) (new : Run D) → IsRun stated content faults first turns old → IsOneTurn stated content moment left faults old turn new
        → CutsAreOfRun content moment left first turns old → CutsAreOfRun content moment left first (turns ++ turn ∷ []) new
    cuts_on first turns old turn new k one cuts c is =
        let has = cuts c is in
        let plan = plan_in old in
        let e : state_in old ≡ session_after plan (begun_over first) turns = sym k.state in
        let sound = subst (IsSoundSession plan) k.state (k.session).sound in
        let did = did_told old turn new.core has.last has.tells k.sizes sound one.passes in
        let next = turns_have_cuts content moment left only_now first.disk old.core.disk new.core.disk has.last did.told plan (begun_over first) turns turn (disk_of c) has has.tells did.tells did.listed
        (subst (λ s. IsTurn plan s turn) e one.may)
        (subst (λ s. DoesTurn plan s turn (disk_of has.last) (disk_of did.told)) e did.does)
        (subst (λ s. Passes (calls_in (call_in plan s turn)) (content new.core.disk) (moment old.core.disk) (moment new.core.disk) (left old.core.disk) (left new.core.disk)) e did.passes) in
        subst (λ p. HasCuts content moment left first.disk new.core.disk p (begun_over first) (turns ++ turn ∷ []) (disk_of c)) (sym (plan_stays stated content moment left faults old turn new one)) next

    pub goes_on : (first : View D) (turns : List Turned) (old : Run D) (turn : Turned) (new : Run D) → IsRun stated content faults first turns old → IsOneTurn stated content moment left faults old turn new
        → GoesOn stated content moment left faults first turns (turn ∷ []) old new
    goes_on first turns old turn new k one = record {
      run = run_on stated content moment left faults shaped first turns old turn new k one;
      cuts = cuts_on first turns old turn new k one;
    }

    -- and with all turns of a schedule
    cuts_play : (first : View D) (turns : List Turned) (x : ℕ) (old : Run D) (more : List Turned) (new : Run D) → IsRun stated content faults first turns old → Plays stated content moment left faults x old more new
        → CutsAreOfRun content moment left first turns old → CutsAreOfRun content moment left first (turns ++ more) new
    cuts_play first turns x old [] new k plays cuts = subst (λ v. CutsAreOfRun content moment left first (turns ++ []) v) (sym plays) (subst (λ ts. CutsAreOfRun content moment left first ts old) (sym (append-nil turns)) cuts)
    cuts_play first turns x old (turn ∷ more) new k plays cuts =
        subst (λ ts. CutsAreOfRun content moment left first ts new) (append_assoc turns (turn ∷ []) more)
        (cuts_play first (turns ++ turn ∷ []) (next_number x) plays.0 more new (run_on stated content moment left faults shaped first turns old turn plays.0 k plays.2) plays.3 (cuts_on first turns old turn plays.0 k plays.2 cuts))

    pub plays_go_on : (first : View D) (turns : List Turned) (x : ℕ) (old : Run D) (more : List Turned) (new : Run D) → IsRun stated content faults first turns old → Plays stated content moment left faults x old more new
        → GoesOn stated content moment left faults first turns more old new
    plays_go_on first turns x old more new k plays = record {
      run = run_plays stated content moment left faults shaped first turns x old more new k plays;
      cuts = cuts_play first turns x old more new k plays;
    }

    -- where such runs lead
    pub runs_lead : RunsLead content moment left
    runs_lead first turns v c f cuts is ready =
        cuts_of_disk content moment left only_now first.disk v.core.disk (plan_in v) (begun_over first) turns (disk_of c) _ (cuts c is) (beginning_is_at (plan_in v) first.memory first.admitted (disk_of c) f ready).0

    pub runs_lead_ahead : (cuts_shaped : (d : D) (c : Content) → content d ≡ Some c → (g : Geometry) → stated d ≡ Some g → (t : ℕ) (image : List (List ℕ)) → left d t image → IsImage g.block_size g.blocks image)
        → RunsLeadAhead stated content moment left faults
    runs_lead_ahead cuts_shaped first turns v c f run cuts is ready led fine =
        let at = beginning_is_at (plan_in v) first.memory first.admitted (disk_of c) f ready in
        cuts_of_disk_are_ahead content moment left only_now stated shaped cuts_shaped first.disk v.core.disk (plan_in v) (begun_over first) turns (disk_of c) _ (cuts c is) run.sizes at.0
        (subst (IsLed v.core.geometry first.memory (contents_of c.now) (candidates_of c.candidates)) (sym at.1) led) fine

-- the turns of a schedule follow its draws
pub plays_follow : {D : Type 0} (stated : D → Option Geometry) (content : D → Option Content) (moment : D → ℕ) (left : D → ℕ → List (List ℕ) → Type 0) (faults : D → ℕ) (x : ℕ) (old : Run D) (more : List Turned) (new : Run D)
    → Plays stated content moment left faults x old more new → FollowsDraws (plan_in old) (state_in old) x more
plays_follow stated content moment left faults x old [] new plays = tt
plays_follow stated content moment left faults x old (turn ∷ more) new plays =
    let mid = plays.0 in
    let rest = plays_follow stated content moment left faults (next_number x) mid more new plays.3 in (
      plays.1,
      subst (λ (s : Session). FollowsDraws (plan_in old) s (next_number x) more) (plays.2).state
          (subst (λ (p : Plan). FollowsDraws p (state_in mid) (next_number x) more) (plan_stays stated content moment left faults old turn mid plays.2) rest),
    )

-- and leave the script and the sizes
pub script_stays : {D : Type 0} (stated : D → Option Geometry) (content : D → Option Content) (moment : D → ℕ) (left : D → ℕ → List (List ℕ) → Type 0) (faults : D → ℕ) (x : ℕ) (old : Run D) (more : List Turned) (new : Run D)
    → Plays stated content moment left faults x old more new → (new.script ≡ old.script) × (new.core.geometry ≡ old.core.geometry)
script_stays stated content moment left faults x old [] new plays = (ap (λ (v : Run _). v.script) plays, ap (λ (v : Run _). v.core.geometry) plays)
script_stays stated content moment left faults x old (turn ∷ more) new plays =
    let rest = script_stays stated content moment left faults (next_number x) plays.0 more new plays.3 in
    (rest.0 ∙ (plays.2).script, rest.1 ∙ (plays.2).geometry)

-- ----------------------------------------------------------------------------------------------------------------
-- A run that is over.

-- there is nothing at the length of a list
past_end : {A : Type 0} (xs : List A) (n : ℕ) → n ≡ length xs → slice_get xs n ≡ None
past_end [] n is = refl
past_end (x ∷ xs) zero is = absurd (omega (arith, is))
past_end (x ∷ xs) (suc n) is = past_end xs n (omega (arith, is))

-- where all requests of each lane are answered, no lane has one left
pub nothing_left : {D : Type 0} (v : Run D) → sessions.IsOver v → (lane : ℕ) → (plan_in v).request lane ((state_in v).number lane) ≡ None
nothing_left v over lane = ap (option_map (request_of v.core.geometry.block_size)) (past_end (lane_lines v.script lane) ((state_in v).number lane) (over lane))

over_there : {D : Type 0} (stated : D → Option Geometry) (content : D → Option Content) (faults : D → ℕ) (first : View D) (turns : List Turned) (v : Run D) → IsRun stated content faults first turns v → sessions.IsOver v
    → complete.IsOver (plan_in v) (session_after (plan_in v) (begun_over first) turns)
over_there stated content faults first turns v run over = subst (complete.IsOver (plan_in v)) (sym run.state)
    (λ lane below. nothing_left v over lane)

pub over_is_complete : {D : Type 0} (stated : D → Option Geometry) (content : D → Option Content) (faults : D → ℕ) → OverIsComplete stated content faults
over_is_complete stated content faults first turns v run over sound none = subst (IsComplete (plan_in v)) (sym (run.session).journal)
    (runs_are_complete (plan_in v) first.memory first.admitted turns (run.session).rise sound none (run.session).may (over_there stated content faults first turns v run over))

pub over_is_idle : {D : Type 0} (stated : D → Option Geometry) (content : D → Option Content) (faults : D → ℕ) → OverIsIdle stated content faults
over_is_idle stated content faults first turns v run over =
    ap (λ m. m.requests) (sym (run.session).memory) ∙ over_is_empty (plan_in v) (session_after (plan_in v) (begun_over first) turns) (run.session).sound (over_there stated content faults first turns v run over)

-- the same of a sound session, however it came there
pub sound_is_idle : {D : Type 0} (v : Run D) → IsSoundSession (plan_in v) (state_in v) → sessions.IsOver v → v.core.memory.requests ≡ []
sound_is_idle v sound over = over_is_empty (plan_in v) (state_in v) sound (λ lane below. nothing_left v over lane)
