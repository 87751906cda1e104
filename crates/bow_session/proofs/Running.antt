-- A session stays a run of the theory with each turn.
use Rattle.std.proofs.Common.{◌≡◌, ℕ, ◌+◌, ◌-◌, ◌^◌, ◌≤◌, ◌++◌, max, List, [], ◌∷◌, Option, Some, None, arith, refl, sym, ap, ◌∙◌, subst}
use Rattle.std.specs.Option.{option_map}
use Rattle.std.proofs.lemmas.List.{append-nil, append_assoc}
use Rattle.bow_units.specs.Draws.{next_number}
use Rattle.bow_session.specs.Plays.{Plays}
use Rattle.bow_units.specs.Causes.{Rose}
use Rattle.bow_units.specs.declared.sizes.Geometry.{Geometry}
use Rattle.bow_disk.specs.Disk.{Content, IsShaped, Goes}
use Rattle.bow_machine.specs.Calls.{Call, Reply, Failed, Succeeded, calls_in}
use Rattle.bow_machine.specs.MemoryLaws.{IsOnDevice}
use Rattle.bow_machine.specs.declared.turns.Turn.{Turn}
use Rattle.bow_machine.proofs.SoundCalls.{calls_are_on_device}
use Rattle.bow_core.specs.Calls.{DoesOne, HasFault}
use Rattle.bow_core.specs.Views.{View}
use Rattle.bow_core.proofs.Leading.{does_it}
use Rattle.bow_history.specs.Journal.{Plan}
use Rattle.bow_history.specs.Sessions.{Session, Turned, Admits, Steps, turn_of, after_turn, item_in, call_in, call_of_turn, reply_in, IsTurn}
use Rattle.bow_history.specs.Histories.{session_after}
use Rattle.bow_history.specs.SoundSessions.{IsSoundSession}
use Rattle.bow_history.specs.Promises.{items, more, held, Did}
use Rattle.bow_history.specs.Promises as promised
use Rattle.bow_history.specs.DiskCuts.{disk_of}
use Rattle.bow_history.proofs.Sessions.{turns_keep_session}
use Rattle.bow_session.specs.Requests.{plan_of}
use Rattle.bow_session.specs.Runs.{core_of, view_of, begun_over, IsRun}
use Rattle.bow_session.specs.Sessions.{Run, plan_in, state_in}
use Rattle.bow_session.specs.Turns.{IsOneTurn, PassesTurn}

push : (plan : Plan) (s : Session) (turns : List Turned) (turn : Turned) → session_after plan s (turns ++ turn ∷ []) ≡ after_turn plan (session_after plan s turns) turn
push plan s [] turn = refl
push plan s (t ∷ turns) turn = push plan (after_turn plan s t) turns turn

-- a call of a turn is of a block on the device
pub on_device : (plan : Plan) (s : Session) (o : Option Turn) → IsSoundSession plan s → IsOnDevice plan.sizes (call_of_turn plan s o)
on_device plan s None sound = tt
on_device plan s (Some turn) sound = calls_are_on_device plan.sizes s.memory turn sound.memory

-- what a turn did on the disk
pub record TurnDid (sizes : Geometry) (call : Option Call) (reply : Reply) (old new : promised.Core) : Type 0 where
  pub counted : new.calls ≡ max old.calls (held (old.calls + calls_in call))
  pub did : Did sizes call reply old.content new.content
  pub later : old.faults ≤ new.faults
  pub fault : reply ≡ Failed → (c : Call) → call ≡ Some c → Rose old.faults new.faults

-- a call that failed had its fault
pub has_fault : (call : Option Call) (reply : Reply) (before now : ℕ) → HasFault call reply before now → reply ≡ Failed → (c : Call) → call ≡ Some c → Rose before now
has_fault call reply before now h failed c is = subst (λ r. HasFault (Some c) r before now) failed (subst (λ o. HasFault o reply before now) is h)

module _ {D : Type 0} (stated : D → Option Geometry) (content : D → Option Content) (moment : D → ℕ) (left : D → ℕ → List (List ℕ) → Type 0) (faults : D → ℕ)
    (shaped : (d : D) (c : Content) → content d ≡ Some c → (g : Geometry) → stated d ≡ Some g → IsShaped g.block_size g.blocks c) where
  pub did_lists : (g : Geometry) (call : Option Call) (reply : Reply) (old new : D) → stated old ≡ Some g → stated new ≡ Some g → IsOnDevice g call → Goes (DoesOne call reply) (content old) (content new)
      → Did g call reply (option_map disk_of (content old)) (option_map disk_of (content new))
  did_lists g call reply old new was is on goes = by (content old) refl (content new) refl goes
    where
      by : (o : Option Content) → content old ≡ o → (n : Option Content) → content new ≡ n → Goes (DoesOne call reply) o n → Did g call reply (option_map disk_of o) (option_map disk_of n)
      by None a None b goes = tt
      by None a (Some d) b goes = absurd goes
      by (Some c) a None b goes = absurd goes
      by (Some c) a (Some d) b goes = does_it g c d (shaped old c a g was) (shaped new d b g is) call reply on goes

  did_turn : (old : Run D) (turn : Turned) (core : View D) → core.geometry ≡ old.core.geometry → old.core.calls ≤ 2 ^ 64 - 1 → stated old.core.disk ≡ Some old.core.geometry → IsSoundSession (plan_in old) (state_in old)
      → PassesTurn stated content moment left faults old turn core
      → TurnDid old.core.geometry (call_in (plan_in old) (state_in old) turn) (reply_in turn) (core_of content faults old.core) (core_of content faults core) × (stated core.disk ≡ Some old.core.geometry)
  did_turn old (Admits lane ticket op) core same few sizes sound passes = (
    record {
      counted = omega (arith, passes.1, few);
      did = subst (λ d. Did old.core.geometry None Succeeded (option_map disk_of (content old.core.disk)) (option_map disk_of (content d))) (sym passes.0) (still (content old.core.disk));
      later = omega (arith, ap faults passes.0);
      fault = λ failed c is. absurd (let clash : None ≡ Some c = is in grind (arith, clash));
    },
    ap stated passes.0 ∙ sizes,
  )
    where
      still : (o : Option Content) → Did old.core.geometry None Succeeded (option_map disk_of o) (option_map disk_of o)
      still None = tt
      still (Some c) = (refl, refl)
  did_turn old (Steps actor reply) core same few sizes sound made = (
    record {
      counted = made.counted;
      did = did_lists old.core.geometry (call_in (plan_in old) (state_in old) (Steps actor reply)) reply old.core.disk core.disk sizes made.sizes (on_device (plan_in old) (state_in old) (turn_of (state_in old) actor) sound) made.disk;
      later = made.later;
      fault = has_fault (call_in (plan_in old) (state_in old) (Steps actor reply)) reply (faults old.core.disk) (faults core.disk) made.cause;
    },
    made.sizes,
  )

  pub run_on : (first : View D) (turns : List Turned) (old : Run D) (turn : Turned) (new : Run D) → IsRun stated content faults first turns old → IsOneTurn stated content moment left faults old turn new
      → IsRun stated content faults first (turns ++ turn ∷ []) new
  run_on first turns old turn new k one =
      let e : state_in old ≡ session_after (plan_in old) (begun_over first) turns = sym k.state in
      let plan_same : plan_in new ≡ plan_in old = ap (λ g. plan_of g new.script) one.geometry ∙ ap (plan_of old.core.geometry) one.script in
      let few : old.core.calls ≤ 2 ^ 64 - 1 = (let c = (k.session).calls in omega (arith, c)) in
      let sound = subst (IsSoundSession (plan_in old)) k.state (k.session).sound in
      let d = did_turn old turn new.core one.geometry few k.sizes sound one.passes in
      let t = subst (λ s. TurnDid old.core.geometry (call_in (plan_in old) s turn) (reply_in turn) (core_of content faults old.core) (core_of content faults new.core)) e d.0 in
      record {
        session = turns_keep_session (view_of content faults first turns old) turn (view_of content faults first (turns ++ turn ∷ []) new) k.session (record {
          may = subst (λ s. IsTurn (plan_in old) s turn) e one.may;
          plan = plan_same;
          first = refl;
          sizes = one.geometry;
          memory = ap (λ (s : Session). s.memory) one.state ∙ ap (λ (s : Session). (after_turn (plan_in old) s turn).memory) e;
          admitted = ap (λ (s : Session). s.admitted) one.state ∙ ap (λ (s : Session). (after_turn (plan_in old) s turn).admitted) e;
          turns = refl;
          journal = one.journal ∙ ap (λ (s : Session). old.journal ++ items (item_in (plan_in old) s turn)) e;
          moments = one.moments ∙ ap (λ (s : Session). old.moments ++ more (item_in (plan_in old) s turn) new.core.calls) e;
          counted = t.counted;
          did = t.did;
          later = t.later;
          fault = t.fault;
        });
        state = ap (λ p. session_after p (begun_over first) (turns ++ turn ∷ [])) plan_same ∙ push (plan_in old) (begun_over first) turns turn ∙ ap (λ s. after_turn (plan_in old) s turn) k.state ∙ sym one.state;
        sizes = d.1 ∙ ap Some (sym one.geometry);
      }

  -- and with all turns of a schedule
  pub run_plays : (first : View D) (turns : List Turned) (x : ℕ) (old : Run D) (more : List Turned) (new : Run D) → IsRun stated content faults first turns old → Plays stated content moment left faults x old more new
      → IsRun stated content faults first (turns ++ more) new
  run_plays first turns x old [] new k plays = subst (λ v. IsRun stated content faults first (turns ++ []) v) (sym plays) (subst (λ ts. IsRun stated content faults first ts old) (sym (append-nil turns)) k)
  run_plays first turns x old (turn ∷ more) new k plays =
      subst (λ ts. IsRun stated content faults first ts new) (append_assoc turns (turn ∷ []) more)
      (run_plays first (turns ++ turn ∷ []) (next_number x) plays.0 more new (run_on first turns old turn plays.0 k plays.2) plays.3)
