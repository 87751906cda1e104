-- A turn of a session keeps the agreement of a reader with it.
use Rattle.std.proofs.Common.{◌≢◌, ℕ, ◌≡◌, ◌<◌, ◌≤◌, inl, inr, List, [], ◌∷◌, length, Option, Some, None, arith, refl, sym, ap, ◌∙◌, subst}
use Rattle.std.proofs.lemmas.Bool.{cases_eq}
use Rattle.bow_units.specs.declared.sizes.Geometry.{Geometry}
use Rattle.bow_units.specs.declared.requests.Phase.{Phase}
use Rattle.bow_units.specs.declared.requests.Phase.TheVariants.{Trim, Arming, Checkpoint, Deciding, Committed}
use Rattle.bow_disk.specs.Disk.{Content, Goes, IsShaped}
use Rattle.bow_log.specs.Generations.{Generation, generation_of}
use Rattle.bow_log.specs.Spelling.{Fields}
use Rattle.bow_chain.specs.Contents.{Contents, contents_of}
use Rattle.bow_chain.specs.Places.{pass}
use Rattle.bow_chain.specs.Sound.{StandsBehind}
use Rattle.bow_chain.proofs.Counting.{same_chain}
use Rattle.bow_flat.specs.Flat.{Flat, Event, Writes, Fails, Reads, Discards, Flushes, Arms, Prepares, Decides, Commits, Rests, Allows, after}
use Rattle.bow_guard.specs.Cuts.{Candidates, candidates_of}
use Rattle.bow_machine.specs.Calls.{Reply, DoesIt}
use Rattle.bow_machine.specs.Laws.{after_all, AllowsAll}
use Rattle.bow_machine.specs.Memory.{Memory, reserved}
use Rattle.bow_machine.specs.MemoryIsSound.{LogIsHeld}
use Rattle.bow_machine.specs.Standing.{IsStanding}
use Rattle.bow_machine.specs.Steps.{Step, Told, Idle, Moved, Wrote, Got, Answered, call_of, step_of}
use Rattle.bow_machine.specs.Tasks.{task_of}
use Rattle.bow_machine.specs.declared.turns.Turn.{Turn}
use Rattle.bow_machine.proofs.Orders.{disk_by_reply}
use Rattle.bow_machine.proofs.SoundCalls.{calls_are_on_device}
use Rattle.bow_machine.proofs.SoundPast.{older_logs_stay, readers_follow}
use Rattle.bow_machine.proofs.Whole.{step_keeps}
use Rattle.bow_core.specs.Calls.{DoesOne}
use Rattle.bow_core.specs.Standing.{StandsIn, StandsOver}
use Rattle.bow_core.proofs.Beside.{admitted_stands}
use Rattle.bow_core.proofs.Leading.{does_it}
use Rattle.bow_history.proofs.Lists.{serials_below}
use Rattle.bow_machine.proofs.SoundLists.{own_tickets}
use Rattle.bow_queue.specs.declared.tickets.Ticket.{Ticket}
use Rattle.bow_units.specs.declared.requests.Op.{Op}
use Rattle.bow_history.specs.SoundSessions.{IsSoundSession}
use Rattle.bow_history.specs.Journal.{Plan}
use Rattle.bow_history.specs.Sessions.{Session, Admits, Steps, after_turn_of, call_of_turn, device_step, IsAdmission, taken_in, turn_of, told_to}
use Rattle.bow_machine.specs.Steps.{unknown}
use Rattle.bow_session.specs.Sessions.{Run, plan_in, state_in}
use Rattle.bow_past.specs.Agreement.{Agrees, AgreesIn, AgreesOver, AreAmong, older_of}
use Rattle.bow_past.specs.Readings.{Reading, kept_of}
use Rattle.bow_past.specs.Turns.{TurnsKeepAgreement, TurnsKeepStanding}
use Rattle.bow_past.proofs.Reading.{older_more}

-- ----------------------------------------------------------------------------------------------------------------
-- Phases never go back.

abbrev rank : Phase → ℕ
rank Trim = 0
rank Arming = 1
rank Checkpoint = 2
rank Deciding = 3
rank Committed = 4

event_rises : (n : ℕ) (e : Event) (f : Flat) → Allows n e f → rank f.phase ≤ rank (after n e f).phase
event_rises n (Writes b v) f may = omega arith
event_rises n (Fails b v) f may = omega arith
event_rises n (Reads b v) f may = omega arith
event_rises n (Discards e) f may = omega arith
event_rises n Flushes f may = omega arith
event_rises n (Arms saved) f may = let is = ap rank may.0 in omega (arith, is)
event_rises n Prepares f may = let is = ap rank may in omega (arith, is)
event_rises n Decides f may = let is = ap rank may in omega (arith, is)
event_rises n Commits f may = let is = ap rank may in omega (arith, is)
event_rises n Rests f may = omega arith

phases_rise : (n : ℕ) (es : List Event) (f : Flat) → AllowsAll n es f → rank f.phase ≤ rank (after_all n es f).phase
phases_rise n [] f may = omega arith
phases_rise n (e ∷ es) f may = let one = event_rises n e f may.0 in let rest = phases_rise n es (after n e f) may.1 in omega (arith, one, rest)

-- ----------------------------------------------------------------------------------------------------------------
-- A step of the device.

-- a log that is there has a sequence below
older_low : (older : List Generation) (n : ℕ) (log : Generation) → older_of older n ≡ Some log → n < length older
older_low [] n log is = absurd (cc is)
older_low (x ∷ older) n log is = elim (cases_eq n (length older)) [
  | inl same ↦ omega (arith, same)
  | inr other ↦ let below = older_low older n log (skip x older n other is) in omega (arith, below)
]
  where
    skip : (x : Generation) (older : List Generation) (n : ℕ) → n ≢ length older → older_of (x ∷ older) n ≡ Some log → older_of older n ≡ Some log
    skip x older n other is = grind (arith, other, is)

among_one_more : (g : Geometry) (kept : ℕ → Option Fields) (log : Generation) (older : List Generation) → AreAmong g kept older → AreAmong g kept (log ∷ older)
among_one_more g kept log older among n l at =
    let is = among n l at in
    older_more log older n (older_low older n (generation_of g l) is) ∙ is

same_older : (g : Geometry) (now : Contents) (log : Generation) (one other : List Generation) → StandsBehind g now log one → StandsBehind g now log other → one ≡ other
same_older g now log one other a b = same_chain g now (pass log.entries) one other (sym a.sequence ∙ b.sequence) a.chain b.chain

-- in the checkpoint there is a log in memory
memory_log : (g : Geometry) (m : Memory) (now : Contents) (may : Candidates) (f : Flat) → IsStanding g m now may f → m.phase ≡ Checkpoint → (log : Generation) × (m.log ≡ Some log)
memory_log g m now may f s at = go m.log refl
  where
    go : (o : Option Generation) → m.log ≡ o → (log : Generation) × (m.log ≡ Some log)
    go None is = absurd (subst (λ l. LogIsHeld g m.kinds m.clean m.trimmed (reserved m.hand).count Checkpoint l) is (subst (λ p. LogIsHeld g m.kinds m.clean m.trimmed (reserved m.hand).count p m.log) at (s.sound).log))
    go (Some log) is = (log, is)

module _ (g : Geometry) (m after_memory : Memory) (turn : Turn) (reply : Reply) (c d : Content) (f : Flat) (kept : ℕ → Option Fields)
    (stands : IsStanding g m (contents_of c.now) (candidates_of c.candidates) f)
    (does : DoesIt g (call_of g m (task_of g m turn)) reply (contents_of c.now) (candidates_of c.candidates) (contents_of d.now) (candidates_of d.candidates))
    (is : after_memory ≡ (device_step g m turn reply).memory) where
  abbrev step : Step
  step = step_of g (contents_of c.now) m (task_of g m turn) reply

  memory : after_memory ≡ step.memory
  memory = is ∙ (disk_by_reply g m turn reply unknown (contents_of c.now)).0

  rises : rank m.phase ≤ rank after_memory.phase
  rises =
      let k = step_keeps g m turn reply (contents_of c.now) (contents_of d.now) (candidates_of c.candidates) (candidates_of d.candidates) f stands does in
      let up = phases_rise g.blocks step.events f k.0 in
      let before = ap rank stands.phases in
      let now = ap rank (k.1).phases in
      let same = ap (λ (n : Memory). rank n.phase) memory in
      omega (arith, up, before, now, same)

  go : (was is : Phase) → m.phase ≡ was → after_memory.phase ≡ is → rank was ≤ rank is → AgreesIn g (Some c) m.log kept was → AgreesIn g (Some d) after_memory.log kept is
  go Trim Trim a b up agrees = agrees
  go Trim Arming a b up agrees = agrees
  go Arming Trim a b up agrees = agrees
  go Arming Arming a b up agrees = agrees
  go Checkpoint Trim a b up agrees = absurd (omega (arith, up))
  go Checkpoint Arming a b up agrees = absurd (omega (arith, up))
  go Deciding Trim a b up agrees = absurd (omega (arith, up))
  go Deciding Arming a b up agrees = absurd (omega (arith, up))
  go Committed Trim a b up agrees = absurd (omega (arith, up))
  go Committed Arming a b up agrees = absurd (omega (arith, up))
  go Trim Checkpoint a b up agrees = λ log older some behind n l at. absurd (cc (sym (agrees n) ∙ at))
  go Arming Checkpoint a b up agrees = λ log older some behind n l at. absurd (cc (sym (agrees n) ∙ at))
  go Checkpoint Checkpoint a b up agrees = λ log older some behind.
      let l = memory_log g m (contents_of c.now) (candidates_of c.candidates) f stands a in
      let follow = readers_follow g m (contents_of c.now) (candidates_of c.candidates) f l.0 stands a l.1 in
      let were = agrees l.0 follow.0 l.1 follow.1 in
      let stay = older_logs_stay g m turn reply (contents_of c.now) (contents_of d.now) (candidates_of c.candidates) (candidates_of d.candidates) f l.0 log follow.0 stands a l.1 follow.1 does (ap (λ (n : Memory). n.log) (sym memory) ∙ some) in
      elim stay [
        | inl same ↦ subst (AreAmong g kept) (same_older g (contents_of d.now) log follow.0 older same behind) were
        | inr more ↦ subst (AreAmong g kept) (same_older g (contents_of d.now) log (l.0 ∷ follow.0) older more behind) (among_one_more g kept l.0 follow.0 were)
      ]
  go Deciding Checkpoint a b up agrees = absurd (omega (arith, up))
  go Committed Checkpoint a b up agrees = absurd (omega (arith, up))
  go was Deciding a b up agrees = tt
  go was Committed a b up agrees = tt

  pub device_keeps : AgreesOver g (Some c) m.log kept m.phase → AgreesOver g (Some d) after_memory.log kept after_memory.phase
  device_keeps agrees = go m.phase after_memory.phase refl refl rises agrees

  pub device_stands : (h : Flat) × IsStanding g after_memory (contents_of d.now) (candidates_of d.candidates) h
  device_stands =
      let k = step_keeps g m turn reply (contents_of c.now) (contents_of d.now) (candidates_of c.candidates) (candidates_of d.candidates) f stands does in
      (after_all g.blocks step.events f, subst (λ n. IsStanding g n (contents_of d.now) (candidates_of d.candidates) (after_all g.blocks step.events f)) (sym memory) k.1)

-- ----------------------------------------------------------------------------------------------------------------
-- A turn of a session.

-- without a call nothing is done
nothing_done : (reply : Reply) (o n : Option Content) → Goes (DoesOne None reply) o n → n ≡ o
nothing_done reply None None goes = refl
nothing_done reply None (Some d) goes = absurd goes
nothing_done reply (Some c) None goes = absurd goes
nothing_done reply (Some c) (Some d) goes = ap Some (λ k. record { now = goes.0 k; candidates = goes.1 k })

told_memory : (plan : Plan) (s : Session) (told : Told) → (told_to plan s told).memory ≡ s.memory
told_memory plan s Idle = refl
told_memory plan s Moved = refl
told_memory plan s (Wrote t i) = refl
told_memory plan s (Got t i) = refl
told_memory plan s (Answered t op outcome) = refl

module _ {D : Type 0} (stated : D → Option Geometry) (content : D → Option Content) (moment : D → ℕ) (left : D → ℕ → List (List ℕ) → Type 0) (faults : D → ℕ)
    (shaped : (d : D) (c : Content) → content d ≡ Some c → (g : Geometry) → stated d ≡ Some g → IsShaped g.block_size g.blocks c) where
  module _ (p : Reading) (old new : Run D) (f : Flat) (stands : StandsIn content old.core f) (sizes : stated old.core.disk ≡ Some old.core.geometry) (agrees : Agrees content p old.core)
      (geometry : new.core.geometry ≡ old.core.geometry) where
    -- with the same log, phase and content
    unmoved : new.core.memory.log ≡ old.core.memory.log → new.core.memory.phase ≡ old.core.memory.phase → content new.core.disk ≡ content old.core.disk → Agrees content p new.core
    unmoved log phase told = record {
      sizes = agrees.sizes ∙ sym geometry;
      logs = subst (λ g. AgreesOver g (content new.core.disk) new.core.memory.log (kept_of p) new.core.memory.phase) (sym geometry)
          (subst (λ l. AgreesOver old.core.geometry (content new.core.disk) l (kept_of p) new.core.memory.phase) (sym log)
          (subst (λ ph. AgreesOver old.core.geometry (content new.core.disk) old.core.memory.log (kept_of p) ph) (sym phase)
          (subst (λ o. AgreesOver old.core.geometry o old.core.memory.log (kept_of p) old.core.memory.phase) (sym told) agrees.logs)));
    }

    -- by a step of the device
    moved : (turn : Turn) (reply : Reply) → new.core.memory ≡ (device_step old.core.geometry old.core.memory turn reply).memory → stated new.core.disk ≡ Some old.core.geometry
        → Goes (DoesOne (call_of old.core.geometry old.core.memory (task_of old.core.geometry old.core.memory turn)) reply) (content old.core.disk) (content new.core.disk) → Agrees content p new.core
    moved turn reply memory stated_new goes = by (content old.core.disk) refl (content new.core.disk) refl stands goes
      where
        by : (o : Option Content) → content old.core.disk ≡ o → (n : Option Content) → content new.core.disk ≡ n → StandsOver old.core.geometry old.core.memory o f
            → Goes (DoesOne (call_of old.core.geometry old.core.memory (task_of old.core.geometry old.core.memory turn)) reply) o n → Agrees content p new.core
        by None a n b none goes = absurd none
        by (Some c) a None b standing goes = absurd goes
        by (Some c) a (Some d) b standing goes =
            let g = old.core.geometry in
            let does = does_it g c d (shaped old.core.disk c a g sizes) (shaped new.core.disk d b g stated_new) (call_of g old.core.memory (task_of g old.core.memory turn)) reply (calls_are_on_device g old.core.memory turn standing.sound) goes in
            let after = device_keeps g old.core.memory new.core.memory turn reply c d f (kept_of p) standing does memory (subst (λ o. AgreesOver g o old.core.memory.log (kept_of p) old.core.memory.phase) a agrees.logs) in
            record {
              sizes = agrees.sizes ∙ sym geometry;
              logs = subst (λ h. AgreesOver h (content new.core.disk) new.core.memory.log (kept_of p) new.core.memory.phase) (sym geometry)
                  (subst (λ o. AgreesOver g o new.core.memory.log (kept_of p) new.core.memory.phase) (sym b) after);
            }

  pub turns_keep_agreement : TurnsKeepAgreement stated content moment left faults
  turns_keep_agreement p old new (Admits lane ticket op) f stands sizes one agrees =
      let memory : new.core.memory ≡ taken_in old.core.memory ticket op = ap (λ (s : Session). s.memory) one.state in
      unmoved p old new f stands sizes agrees one.geometry (ap (λ (m : Memory). m.log) memory) (ap (λ (m : Memory). m.phase) memory) (ap content (one.passes).0)
  turns_keep_agreement p old new (Steps actor reply) f stands sizes one agrees =
      by (turn_of (state_in old) actor) refl (one.passes).disk (ap (λ (s : Session). s.memory) one.state)
    where
      by : (o : Option Turn) → turn_of (state_in old) actor ≡ o → Goes (DoesOne (call_of_turn (plan_in old) (state_in old) o) reply) (content old.core.disk) (content new.core.disk)
          → new.core.memory ≡ (after_turn_of (plan_in old) (state_in old) o reply).memory → Agrees content p new.core
      by None is goes memory = unmoved p old new f stands sizes agrees one.geometry (ap (λ (m : Memory). m.log) memory) (ap (λ (m : Memory). m.phase) memory) (nothing_done reply (content old.core.disk) (content new.core.disk) goes)
      by (Some turn) is goes memory =
          let step = device_step old.core.geometry old.core.memory turn reply in
          moved p old new f stands sizes agrees one.geometry turn reply (memory ∙ told_memory (plan_in old) (record (state_in old) { memory = step.memory }) step.told) (one.passes).sizes goes

  -- ----------------------------------------------------------------------------------------------------------------
  -- The device stands for a flat state again.

  module _ (old new : Run D) (f : Flat) (stands : StandsIn content old.core f) (sizes : stated old.core.disk ≡ Some old.core.geometry) (geometry : new.core.geometry ≡ old.core.geometry) where
    stands_over : (m : Memory) → new.core.memory ≡ m → (h : Flat) → StandsOver old.core.geometry m (content new.core.disk) h → (g : Flat) × StandsIn content new.core g
    stands_over m is h standing = (h, subst (λ k. StandsOver k new.core.memory (content new.core.disk) h) (sym geometry) (subst (λ n. StandsOver old.core.geometry n (content new.core.disk) h) (sym is) standing))

    stepped : (turn : Turn) (reply : Reply) → new.core.memory ≡ (device_step old.core.geometry old.core.memory turn reply).memory → stated new.core.disk ≡ Some old.core.geometry
        → Goes (DoesOne (call_of old.core.geometry old.core.memory (task_of old.core.geometry old.core.memory turn)) reply) (content old.core.disk) (content new.core.disk) → (g : Flat) × StandsIn content new.core g
    stepped turn reply memory stated_new goes = by (content old.core.disk) refl (content new.core.disk) refl stands goes
      where
        by : (o : Option Content) → content old.core.disk ≡ o → (n : Option Content) → content new.core.disk ≡ n → StandsOver old.core.geometry old.core.memory o f
            → Goes (DoesOne (call_of old.core.geometry old.core.memory (task_of old.core.geometry old.core.memory turn)) reply) o n → (g : Flat) × StandsIn content new.core g
        by None a n b none goes = absurd none
        by (Some c) a None b standing goes = absurd goes
        by (Some c) a (Some d) b standing goes =
            let g = old.core.geometry in
            let does = does_it g c d (shaped old.core.disk c a g sizes) (shaped new.core.disk d b g stated_new) (call_of g old.core.memory (task_of g old.core.memory turn)) reply (calls_are_on_device g old.core.memory turn standing.sound) goes in
            let k = device_stands g old.core.memory new.core.memory turn reply c d f (λ n. None) standing does memory in
            stands_over new.core.memory refl k.0 (subst (λ o. StandsOver g new.core.memory o k.0) (sym b) k.1)

    same_stands : new.core.memory ≡ old.core.memory → content new.core.disk ≡ content old.core.disk → (g : Flat) × StandsIn content new.core g
    same_stands memory told = stands_over old.core.memory memory f (subst (λ o. StandsOver old.core.geometry old.core.memory o f) (sym told) stands)

    taken_stands : (lane : ℕ) (ticket : Ticket) (op : Op) → IsSoundSession (plan_in old) (state_in old) → IsAdmission (plan_in old) (state_in old) lane ticket op
        → new.core.memory ≡ taken_in old.core.memory ticket op → content new.core.disk ≡ content old.core.disk → (g : Flat) × StandsIn content new.core g
    taken_stands lane ticket op sound a memory told =
        let below = serials_below old.core.memory.requests ticket (λ t r found. let low = (sound.seated).serials t r found in omega (arith, low, a.serial)) (own_tickets old.core.memory.requests (sound.memory).rising) in
        stands_over (taken_in old.core.memory ticket op) memory f
        (subst (λ o. StandsOver old.core.geometry (taken_in old.core.memory ticket op) o f) (sym told)
        (admitted_stands old.core.geometry old.core.memory (record { ticket = ticket; op = op; done = 0 }) (content old.core.disk) f a.whole refl below a.place stands))

  pub turns_keep_standing : TurnsKeepStanding stated content moment left faults
  turns_keep_standing old new (Admits lane ticket op) f stands sound sizes one =
      taken_stands old new f stands sizes one.geometry lane ticket op sound one.may (ap (λ (s : Session). s.memory) one.state) (ap content (one.passes).0)
  turns_keep_standing old new (Steps actor reply) f stands sound sizes one =
      by (turn_of (state_in old) actor) refl (one.passes).disk (ap (λ (s : Session). s.memory) one.state)
    where
      by : (o : Option Turn) → turn_of (state_in old) actor ≡ o → Goes (DoesOne (call_of_turn (plan_in old) (state_in old) o) reply) (content old.core.disk) (content new.core.disk)
          → new.core.memory ≡ (after_turn_of (plan_in old) (state_in old) o reply).memory → (g : Flat) × StandsIn content new.core g
      by None is goes memory = same_stands old new f stands sizes one.geometry memory (nothing_done reply (content old.core.disk) (content new.core.disk) goes)
      by (Some turn) is goes memory =
          let step = device_step old.core.geometry old.core.memory turn reply in
          stepped old new f stands sizes one.geometry turn reply (memory ∙ told_memory (plan_in old) (record (state_in old) { memory = step.memory }) step.told) (one.passes).sizes goes
