-- Each turn leads on, and so does each run of turns.
use Rattle.std.specs.List.{AllByRecursion as Each}
use Rattle.std.proofs.Common.{ℕ, ◌<◌, ◌≤◌, ◌≡◌, ◌⊎◌, ◌++◌, length, List, [], ◌∷◌, Option, Some, None, arith, refl, sym, ap, ◌∙◌, subst, inl, inr}
use Rattle.std.proofs.lemmas.Bool.{cases_eq}
use Rattle.bow_units.specs.declared.requests.Op.{Op}
use Rattle.bow_units.specs.declared.requests.Op.TheVariants as ops
use Rattle.bow_units.specs.declared.requests.Outcome.{Outcome}
use Rattle.bow_units.specs.declared.requests.Outcome.TheVariants as outcomes
use Rattle.bow_units.specs.declared.requests.Phase.{Phase}
use Rattle.bow_units.specs.declared.requests.Phase.TheVariants.{Trim, Arming, Checkpoint, Deciding, Committed}
use Rattle.bow_units.specs.declared.sizes.Geometry.{Geometry}
use Rattle.bow_log.specs.Generations.{Generation, room}
use Rattle.std.specs.Option.{option_map}
use Rattle.bow_chain.specs.Contents.{Contents}
use Rattle.bow_flat.specs.Flat.{Flat, put}
use Rattle.bow_queue.specs.declared.tickets.Ticket.{Ticket}
use Rattle.bow_guard.specs.Cuts.{Candidates}
use Rattle.bow_machine.specs.Requests.{Request, request_of}
use Rattle.bow_machine.specs.Memory.{Memory, Hand, Empty, Batching, Preparing, Committing}
use Rattle.bow_machine.specs.Calls.{Reply, Failed, Succeeded, DoesIt, Call}
use Rattle.bow_machine.specs.Tasks.{task_of}
use Rattle.bow_machine.specs.declared.turns.Turn.{Turn}
use Rattle.bow_machine.specs.declared.turns.Turn.TheVariants.{Map, Worker, Command}
use Rattle.bow_machine.specs.Steps.{Told, Idle, Moved, Wrote, Got, Answered, Step, call_of, step_of}
use Rattle.bow_machine.specs.MemoryIsSound.{HandIsSound}
use Rattle.bow_machine.specs.Standing.{IsStanding}
use Rattle.bow_machine.proofs.Blocks.{blocks_reply}
use Rattle.bow_machine.proofs.Orders.{disk_by_reply}
use Rattle.bow_machine.proofs.SoundLists.{own_tickets}
use Rattle.bow_guard.specs.Standing.{StandsFor}
use Rattle.bow_machine.specs.Ahead.{IsLed}
use Rattle.bow_machine.specs.Laws.{after_all}
use Rattle.bow_machine.proofs.Ahead.{led_keeps, admit_is_led}
use Rattle.bow_machine.proofs.Cuts.{machine_cut}
use Rattle.bow_machine.proofs.Whole.{step_keeps, admit_stands}
use Rattle.bow_machine.proofs.RequestLists.{of_push_found}
use Rattle.bow_machine.proofs.MappedWrites.{put_here, put_there}
use Rattle.bow_history.specs.declared.items.Actor.{Actor}
use Rattle.bow_history.specs.declared.items.Actor.TheVariants as actors
use Rattle.bow_history.specs.declared.items.Item.{Item}
use Rattle.bow_history.specs.Journal.{Plan, Buffers, Place, beginning, Legal, MayBeFull, Row, if_counts, counted_after, answered}
use Rattle.bow_history.specs.Lags.{Lags}
use Rattle.bow_machine.specs.Deeds.{deed_of}
use Rattle.bow_machine.specs.MemoryLaws.{HasNoBlock}
use Rattle.bow_machine.proofs.SoundSpace.{no_space_is_exact}
use Rattle.bow_history.specs.Sessions.{Session, Turned, Admits, Steps, turn_of, device_step, item_of, told_to, after_step, after_turn_of, after_turn, item_of_turn, item_in, call_of_turn, IsAdmission, IsActor, IsFor, IsTurn, reply_in, call_in}
use Rattle.bow_machine.specs.Steps.{unknown}
use Rattle.bow_history.specs.Histories.{Disk, session_after, journal_of, with_items, DoesTurn, Runs}
use Rattle.bow_history.specs.Fits.{done_of, done_in, HasTally, IsAt, AgreesThere, AgreesInHand, Agrees}
use Rattle.bow_history.specs.Legality.{StartsUntouched, BeginningIsAt, RunsAreLegal, EndStands}
use Rattle.bow_history.proofs.Growth.{log_of_sound, FreeAt, HasGrown, step_goes}
use Rattle.bow_history.proofs.Answers.{lags_none}
use Rattle.bow_history.proofs.Leads.{DidAnswer, Leads, step_leads}
use Rattle.bow_history.proofs.Full.{may_be_full as full}
use Rattle.bow_history.proofs.Lists.{none_some, one_of, of_push_here, serials_below}
use Rattle.bow_history.proofs.Seats.{new_ticket, seated_push, in_turn_push}
use Rattle.bow_history.proofs.Tally.{untouched_tallied, admitted_tallied, answered_tallied, grown}
use Rattle.bow_history.proofs.Turns.{MaybeStep, Advances, OwesFor, advances, Holder, ha, answered_to}

-- ----------------------------------------------------------------------------------------------------------------
-- A step of the device.

-- in Checkpoint the journal is in Checkpoint
lags_checkpoint : (n : ℕ) (hand : Hand) (f j : Flat) → Lags n hand f j → f.phase ≡ Checkpoint → j.phase ≡ Checkpoint
lags_checkpoint n hand f j lags at = let same = lags_none n (deed_of hand) f j Checkpoint at (λ e. grind arith) (λ e. grind arith) lags in ap (λ (h : Flat). h.phase) (sym same) ∙ at

-- a prepare's Done, or an answer after which its write counts
counted_cases : (g : Geometry) (asked : Op) (outcome : Outcome) (counted : List Op) → ((asked ≡ ops.Prepare) × (outcome ≡ outcomes.Done)) ⊎ (counted_after g asked outcome counted ≡ if_counts g (Some asked) ++ counted)
counted_cases g ops.Prepare outcomes.Done counted = inl (refl, refl)
counted_cases g ops.Prepare outcomes.Data counted = inr refl
counted_cases g ops.Prepare (outcomes.NoSpace n) counted = inr refl
counted_cases g ops.Prepare (outcomes.DiskFault n) counted = inr refl
counted_cases g ops.Prepare outcomes.OutOfRange counted = inr refl
counted_cases g ops.Prepare outcomes.ReservedMagic counted = inr refl
counted_cases g ops.Prepare (outcomes.WrongPhase phase) counted = inr refl
counted_cases g ops.Prepare (outcomes.Unsettled phase) counted = inr refl
counted_cases g (ops.Read x q) outcome counted = inr refl
counted_cases g (ops.Write x q) outcome counted = inr refl
counted_cases g (ops.Discard x) outcome counted = inr refl
counted_cases g ops.Flush outcome counted = inr refl
counted_cases g ops.Commit outcome counted = inr refl

for_prepare_op : (g : Geometry) (asked op : Op) → asked ≡ ops.Prepare → IsFor g asked op → op ≡ ops.Prepare
for_prepare_op g asked op is for_it = subst (λ o. IsFor g o op) is for_it

module _ (plan : Plan) (s : Session) (d e : Disk) (p : Place) (k : IsAt plan s d p) (turn : Turn) (reply : Reply)
    (does : DoesIt plan.sizes (call_of plan.sizes s.memory (task_of plan.sizes s.memory turn)) reply d.now d.may e.now e.may) where
  abbrev real : Step
  real = step_of plan.sizes d.now s.memory (task_of plan.sizes s.memory turn) reply

  may_be_full : (r : Request) → HasNoBlock plan.sizes s.memory r → MayBeFull plan p
  may_be_full r none = full plan s d p k none.phase none.hand r none.is_head ((no_space_is_exact plan.sizes s.memory r k.stands.sound).1 none)

  -- the call, if there was one, did not fail
  abbrev fine : Type 0
  fine = reply ≡ Failed → call_of plan.sizes s.memory (task_of plan.sizes s.memory turn) ≡ None

  stands_after : IsStanding plan.sizes real.memory e.now e.may (after_all plan.sizes.blocks real.events k.flat)
  stands_after = (step_keeps plan.sizes s.memory turn reply d.now e.now d.may e.may k.flat k.stands does).1

  led_step : fine → IsLed plan.sizes s.memory d.now d.may k.flat → IsLed plan.sizes real.memory e.now e.may (after_all plan.sizes.blocks real.events k.flat)
  led_step is led = led_keeps plan.sizes s.memory turn reply d.now e.now d.may e.may k.flat k.stands led is does

  leads : Leads plan s.memory e k.flat p real real.told
  leads = step_leads plan s.memory d e k.flat p k.stands k.lags may_be_full turn reply does

  goes : FreeAt plan real.memory.kinds real.memory.phase real.memory.log ⊎ HasGrown plan.sizes s.memory real.memory.kinds real.memory.phase real.memory.log
  goes = step_goes plan s.memory turn reply d.now k.stands.sound (blocks_reply plan.sizes s.memory turn reply d.now e.now d.may e.may k.stands.sound k.stands.blocks does).0

  -- the tally after the step, at the same place
  went_on : HasTally plan real.memory.kinds s.hand p real.memory.phase real.memory.log
  went_on = elim goes [
    | inl free ↦ free s.hand p
    | inr g ↦
        let before : HasTally plan s.memory.kinds s.hand p Checkpoint (Some g.log) = subst (HasTally plan s.memory.kinds s.hand p Checkpoint) g.was (subst (λ phase. HasTally plan s.memory.kinds s.hand p phase s.memory.log) g.before k.tally) in
        subst (λ phase. HasTally plan real.memory.kinds s.hand p phase real.memory.log) (sym g.after) (subst (HasTally plan real.memory.kinds s.hand p Checkpoint) (sym g.is)
        (grown plan s.memory.requests s.admitted s.number s.hand k.seated p k.number s.memory.kinds real.memory.kinds g.log g.next g.grows before))
  ]

  -- at a place that differs by its state and by blocks done
  same_place : (j : Flat) (done : ℕ → ℕ) (phase : Phase) (log : Option Generation) → HasTally plan real.memory.kinds s.hand p phase log → HasTally plan real.memory.kinds s.hand (record p { flat = j; done = done }) phase log
  same_place j done Trim log t = tt
  same_place j done Arming log t = tt
  same_place j done Checkpoint None t = tt
  same_place j done Checkpoint (Some log) t = record { covered = t.covered; tally = t.tally }
  same_place j done Deciding log t = tt
  same_place j done Committed log t = tt

  -- an answer that is no prepare's Done
  after_answer : (lane : ℕ) (asked : Op) (outcome : Outcome) (flat : Flat) → plan.request lane (p.number lane) ≡ Some asked → counted_after plan.sizes asked outcome p.counted ≡ if_counts plan.sizes (Some asked) ++ p.counted
      → (phase : Phase) (log : Option Generation) → HasTally plan real.memory.kinds s.hand p phase log → HasTally plan real.memory.kinds (put s.hand lane None) (answered plan lane asked outcome flat p) phase log
  after_answer lane asked outcome flat next counted Trim log t = tt
  after_answer lane asked outcome flat next counted Arming log t = tt
  after_answer lane asked outcome flat next counted Checkpoint None t = tt
  after_answer lane asked outcome flat next counted Checkpoint (Some log) t = answered_tallied plan real.memory.kinds s.hand p log lane asked outcome flat next counted t
  after_answer lane asked outcome flat next counted Deciding log t = tt
  after_answer lane asked outcome flat next counted Committed log t = tt

  -- a prepare is not done in Checkpoint
  not_prepared : (op : Op) (kd : ℕ) (h : Flat) → op ≡ ops.Prepare → Row plan p op outcomes.Done kd h → s.memory.phase ≡ Checkpoint → ⊥
  not_prepared op kd h is row at = go (subst (λ o. Row plan p o outcomes.Done kd h) is row)
    where
      j_at : p.flat.phase ≡ Checkpoint
      j_at = lags_checkpoint plan.sizes.blocks s.memory.hand k.flat p.flat k.lags ((k.stands).phases ∙ at)

      go : Row plan p ops.Prepare outcomes.Done kd h → ⊥
      go (inl arms) = let clash : Trim ≡ Checkpoint = sym arms.1.1.0.0 ∙ j_at in absurd (grind arith)
      go (inr prepares) = let clash : Arming ≡ Checkpoint = sym prepares.0 ∙ j_at in absurd (grind arith)

  answer_tally : (t : Ticket) (op : Op) (outcome : Outcome) (w : DidAnswer plan s.memory e k.flat p real t op outcome)
      → HasTally plan real.memory.kinds (put s.hand (ha plan s d e p k real fine stands_after led_step t op outcome w).lane None) (answered_to plan s d e p k real fine stands_after led_step t op outcome w) real.memory.phase real.memory.log
  answer_tally t op outcome w = elim (counted_cases plan.sizes h.asked outcome p.counted) [
    | inl (is_prepare, is_done) ↦ elim goes [
      | inl free ↦ free (put s.hand h.lane None) (answered plan h.lane h.asked outcome w.flat p)
      | inr g ↦ absurd (not_prepared w.request.op w.request.done w.flat (for_prepare_op plan.sizes h.asked w.request.op is_prepare h.is) (subst (λ o. Row plan p w.request.op o w.request.done w.flat) is_done w.row) g.before)
    ]
    | inr counted ↦ after_answer h.lane h.asked outcome w.flat (ap (plan.request h.lane) (k.number h.lane) ∙ h.next) counted real.memory.phase real.memory.log went_on
  ]
    where
      h : Holder plan s d e p k real fine stands_after led_step t w.request
      h = ha plan s d e p k real fine stands_after led_step t op outcome w

  owes_for : (told : Told) (w : Leads plan s.memory e k.flat p real told) → OwesFor plan s d e p k real fine stands_after led_step told w
  owes_for Idle w = record { tally = went_on }
  owes_for Moved w = record { tally = went_on }
  owes_for (Wrote t i) w = record { tally = same_place _ _ real.memory.phase real.memory.log went_on }
  owes_for (Got t i) w = record { tally = same_place _ _ real.memory.phase real.memory.log went_on }
  owes_for (Answered t op outcome) w = record { tally = answer_tally t op outcome w }

  owes : OwesFor plan s d e p k real fine stands_after led_step real.told leads
  owes = owes_for real.told leads

  pub device_advances : Advances plan s (after_step plan s (device_step plan.sizes s.memory turn reply)) e (item_of plan s (device_step plan.sizes s.memory turn reply).told) p d k.flat fine
  device_advances =
      let same = disk_by_reply plan.sizes s.memory turn reply d.now unknown in
      subst (λ m. Advances plan s (told_to plan (record s { memory = m }) (device_step plan.sizes s.memory turn reply).told) e (item_of plan s (device_step plan.sizes s.memory turn reply).told) p d k.flat fine) same.0
      (subst (λ told. Advances plan s (told_to plan (record s { memory = real.memory }) told) e (item_of plan s told) p d k.flat fine) same.1 (advances plan s d e p k real fine stands_after led_step real.told leads owes))

-- ----------------------------------------------------------------------------------------------------------------
-- A request is taken in.

module _ (plan : Plan) (s : Session) (d : Disk) (p : Place) (k : IsAt plan s d p) (lane : ℕ) (ticket : Ticket) (op : Op) (a : IsAdmission plan s lane ticket op) where
  abbrev new : Request
  new = record { ticket = ticket; op = op; done = 0 }

  abbrev with_new : Session
  with_new = after_turn plan s (Admits lane ticket op)

  no_ticket : request_of ticket s.memory.requests ≡ None
  no_ticket = new_ticket plan s.memory.requests s.admitted s.number s.hand k.seated new lane a.asked a.inside a.free a.next a.is a.serial

  below : Each (λ other. other.ticket.serial < ticket.serial) s.memory.requests
  below = serials_below s.memory.requests ticket (λ t r found. let low = k.seated.serials t r found in omega (arith, low, a.serial)) (own_tickets s.memory.requests k.stands.sound.rising)

  old_hand : (l : ℕ) (o : Option Ticket) → s.hand l ≡ o → done_in s.memory.requests o ≡ done_in (s.memory.requests ++ new ∷ []) o
  old_hand l None is = refl
  old_hand l (Some u) is = let seat = k.seated.each l u is in ap done_of (seat.waits ∙ sym (of_push_found new u s.memory.requests seat.request seat.waits))

  still_tallied : (phase : Phase) (log : Option Generation) → HasTally plan s.memory.kinds s.hand p phase log → HasTally plan s.memory.kinds (put s.hand lane (Some ticket)) p phase log
  still_tallied Trim log t = tt
  still_tallied Arming log t = tt
  still_tallied Checkpoint None t = tt
  still_tallied Checkpoint (Some log) t = admitted_tallied plan s.memory.kinds s.hand p log lane ticket a.free t
  still_tallied Deciding log t = tt
  still_tallied Committed log t = tt

  abbrev admitted_at : IsAt plan with_new d p
  admitted_at = record {
    flat = k.flat;
    stands = admit_stands plan.sizes s.memory d.now d.may k.flat new a.whole refl below a.place k.stands;
    lags = k.lags;
    number = k.number;
    done = λ l. elim (cases_eq l lane) [
      | inl is ↦ k.done l ∙ ap (done_in s.memory.requests) (ap s.hand is ∙ a.free) ∙ sym (ap (done_in (s.memory.requests ++ new ∷ [])) (put_here s.hand lane (Some ticket) l is) ∙ ap done_of (of_push_here new s.memory.requests no_ticket))
      | inr ne ↦ k.done l ∙ old_hand l (s.hand l) refl ∙ ap (done_in (s.memory.requests ++ new ∷ [])) (sym (put_there s.hand lane (Some ticket) l ne))
    ];
    seated = seated_push plan s.memory.requests s.admitted s.number s.hand k.seated new lane a.asked a.inside a.free a.next a.is a.serial;
    in_turn = in_turn_push plan s.memory.requests s.admitted s.number s.hand k.seated new lane a.asked a.inside a.free a.next a.is a.serial refl k.in_turn;
    tally = still_tallied s.memory.phase s.memory.log k.tally;
  }

  admitted_agrees : (buffer : Buffers) → Agrees plan with_new buffer → Agrees plan s buffer
  admitted_agrees buffer agrees = record {
    before = agrees.before;
    there = λ l. elim (cases_eq l lane) [
      | inl is ↦ subst (AgreesInHand plan.sizes s.memory.requests (buffer l (s.number l))) (sym (ap s.hand is ∙ a.free)) tt
      | inr ne ↦ go l (s.hand l) refl (subst (AgreesInHand plan.sizes (s.memory.requests ++ new ∷ []) (buffer l (s.number l))) (put_there s.hand lane (Some ticket) l ne) (agrees.there l))
    ];
  }
    where
      go : (l : ℕ) (o : Option Ticket) → s.hand l ≡ o → AgreesInHand plan.sizes (s.memory.requests ++ new ∷ []) (buffer l (s.number l)) o → AgreesInHand plan.sizes s.memory.requests (buffer l (s.number l)) o
      go l None is h = tt
      go l (Some u) is h = let seat = k.seated.each l u is in
          subst (AgreesThere plan.sizes (buffer l (s.number l))) (of_push_found new u s.memory.requests seat.request seat.waits ∙ sym seat.waits) h

-- ----------------------------------------------------------------------------------------------------------------
-- A turn, and a run.

same_disk : (one other : Disk) → other.now ≡ one.now → other.may ≡ one.may → other ≡ one
same_disk one other now may = ap (λ (x : Contents). let y : Disk = record { now = x; may = other.may } in y) now ∙ ap (λ (x : Candidates). let y : Disk = record { now = one.now; may = x } in y) may

pub turn_advances : (plan : Plan) (s : Session) (d e : Disk) (p : Place) → (k : IsAt plan s d p) → (turn : Turned) → IsTurn plan s turn → DoesTurn plan s turn d e
    → Advances plan s (after_turn plan s turn) e (item_in plan s turn) p d k.flat (reply_in turn ≡ Failed → call_in plan s turn ≡ None)
turn_advances plan s d e p k (Admits lane ticket op) is does =
    subst (λ x. Advances plan s (after_turn plan s (Admits lane ticket op)) x None p d k.flat (Succeeded ≡ Failed → ◌≡◌ {A = Option Call} None None)) (sym (same_disk d e does.0 does.1)) (record {
      place = p;
      step = λ buffer agrees. refl;
      agrees = admitted_agrees plan s d p k lane ticket op is;
      in_hand = tt;
      at = admitted_at plan s d p k lane ticket op is;
      led = λ fine led. admit_is_led plan.sizes s.memory d.now d.may k.flat (record { ticket = ticket; op = op; done = 0 }) led;
    })
turn_advances plan s d e p k (Steps actor reply) is does = go (turn_of s actor) (some_turn actor is.0) does
  where
    some_turn : (actor : Actor) → IsActor plan s actor → (turn : Turn) × (turn_of s actor ≡ Some turn)
    some_turn (actors.Lane lane) is = (Map is.1, ap (option_map Map) is.2)
    some_turn actors.Worker is = (Worker, refl)
    some_turn actors.Command is = (Command, refl)

    go : (o : Option Turn) → (turn : Turn) × (o ≡ Some turn) → DoesIt plan.sizes (call_of_turn plan s o) reply d.now d.may e.now e.may
        → Advances plan s (after_turn_of plan s o reply) e (item_of_turn plan s o reply) p d k.flat (reply ≡ Failed → call_of_turn plan s o ≡ None)
    go None none does = absurd (let clash : None ≡ Some none.0 = none.1 in grind arith)
    go (Some turn) some does = device_advances plan s d e p k turn reply does

-- what agrees with the session after a run agrees with the one before it
pub agrees_back : (plan : Plan) (s : Session) (d e : Disk) (turns : List Turned) (p : Place) → IsAt plan s d p → Runs plan s d turns e → (buffer : Buffers) → Agrees plan (session_after plan s turns) buffer → Agrees plan s buffer
agrees_back plan s d e [] p k run buffer agrees = agrees
agrees_back plan s d e (turn ∷ turns) p k run buffer agrees =
    let step = turn_advances plan s d run.1 p k turn run.0 run.2 in
    step.agrees buffer (agrees_back plan (after_turn plan s turn) run.1 e turns step.place step.at run.3 buffer agrees)

with_step : (plan : Plan) (item : Option Item) (buffer : Buffers) (p mid q : Place) (items : List Item) → MaybeStep plan buffer item p mid → Legal plan buffer items mid q → Legal plan buffer (with_items item items) p q
with_step plan None buffer p mid q items step legal = subst (λ x. Legal plan buffer items x q) step legal
with_step plan (Some item) buffer p mid q items step legal = (mid, step, legal)

pub runs_are_legal : RunsAreLegal
runs_are_legal plan s d e [] p k run = record { place = p; legal = λ buffer agrees. refl; at = subst (λ x. IsAt plan s x p) (sym run) k }
runs_are_legal plan s d e (turn ∷ turns) p k run =
    let step = turn_advances plan s d run.1 p k turn run.0 run.2 in
    let rest = runs_are_legal plan (after_turn plan s turn) run.1 e turns step.place step.at run.3 in
    record {
      place = rest.place;
      legal = λ buffer agrees. with_step plan (item_in plan s turn) buffer p step.place rest.place (journal_of plan (after_turn plan s turn) turns) (step.step buffer (agrees_back plan (after_turn plan s turn) run.1 e turns step.place step.at run.3 buffer agrees)) (rest.legal buffer agrees);
      at = rest.at;
    }

-- ----------------------------------------------------------------------------------------------------------------
-- The beginning, and the end.

none_waits : (t : Ticket) (requests : List Request) → requests ≡ [] → request_of t requests ≡ None
none_waits t requests none = ap (request_of t) none

-- where no request waits, nothing is in hand
pub nothing_in_hand : (g : Geometry) (m : Memory) (log : Option Generation) (hand : Hand) → m.requests ≡ []
    → HandIsSound g m hand log → hand ≡ Empty
nothing_in_hand g m log Empty none h = refl
nothing_in_hand g m None (Batching b) none h = absurd h
nothing_in_hand g m (Some l) (Batching b) none h = absurd (let w = h.for_write.waits in none_some (request_of b.ticket m.requests) w.write (none_waits b.ticket m.requests none) w.waits)
nothing_in_hand g m log (Preparing t c b act) none h = absurd (none_some (request_of t m.requests) h.1.command (none_waits t m.requests none) h.1.waits)
nothing_in_hand g m log (Committing t again act) none h = absurd (none_some (request_of t m.requests) h.1.command (none_waits t m.requests none) h.1.waits)

pub beginning_is_at : BeginningIsAt
beginning_is_at plan m admitted d f ready = (
  record {
    flat = f;
    stands = ready.stands;
    lags = subst (λ hand. Lags plan.sizes.blocks hand f f) (sym empty) refl;
    number = λ lane. refl;
    done = λ lane. refl;
    seated = record {
      each = λ lane t has. absurd (grind (arith, has));
      own = λ lane other t has both. absurd (grind (arith, has));
      lanes = λ t r found. absurd (none_some (request_of t m.requests) r (none_waits t m.requests ready.none) found);
      serials = λ t r found. absurd (none_some (request_of t m.requests) r (none_waits t m.requests ready.none) found);
      apart = λ t u r q found both same. absurd (none_some (request_of t m.requests) r (none_waits t m.requests ready.none) found);
    };
    in_turn = λ t u r q found both less begun. absurd (none_some (request_of t m.requests) r (none_waits t m.requests ready.none) found);
    tally = first_tally m.phase m.log refl refl ready.untouched;
  },
  refl,
)
  where
    first_tally : (phase : Phase) (log : Option Generation) → m.phase ≡ phase → m.log ≡ log → StartsUntouched plan m phase log
        → HasTally plan m.kinds (λ lane. None) (beginning f) phase log
    first_tally Trim log at is u = tt
    first_tally Arming log at is u = tt
    first_tally Checkpoint None at is u = tt
    first_tally Checkpoint (Some log) at is u =
        let sound = log_of_sound plan.sizes m ready.stands.sound (inr at) in
        let same : sound.0 ≡ log = one_of m.log sound.0 log sound.1 is in
        untouched_tallied plan m.kinds (λ lane. None) (beginning f) log (subst (λ (l : Generation). length l.entries ≤ room plan.sizes.block_size) same sound.2.generation.few) u
    first_tally Deciding log at is u = tt
    first_tally Committed log at is u = tt

    empty : m.hand ≡ Empty
    empty = nothing_in_hand plan.sizes m m.log m.hand ready.none ready.stands.sound.in_hand

-- where no request waits, the journal is where the machine is
pub nothing_lags : (plan : Plan) (s : Session) (d : Disk) (p : Place) (k : IsAt plan s d p) → s.memory.requests ≡ []
    → k.flat ≡ p.flat
nothing_lags plan s d p k none =
    let empty = nothing_in_hand plan.sizes s.memory s.memory.log s.memory.hand none k.stands.sound.in_hand in
    subst (λ hand. Lags plan.sizes.blocks hand k.flat p.flat) empty k.lags

pub end_stands : EndStands
end_stands plan s d p image k none cut =
    subst (λ f. StandsFor plan.sizes f image) (nothing_lags plan s d p k none) (machine_cut plan.sizes s.memory d.now d.may k.flat image k.stands cut)
