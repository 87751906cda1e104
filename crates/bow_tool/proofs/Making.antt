-- How a drill comes together.
use Rattle.std.proofs.Common.{◌≡◌, ◌⊎◌, ◌%◌, inr, inl, ℕ, zero, suc, ◌<◌, ◌≤◌, Bool, true, false, List, [], ◌∷◌, ◌++◌, Option, None, Some, Result, Ok, Err, IfOk, refl, sym, ap, ◌∙◌, subst, arith}
use Rattle.std.specs.List.{list_any}
use Rattle.std.specs.Prelude.{slice_get}
use Rattle.bow_units.specs.declared.sizes.Geometry.{Geometry}
use Rattle.bow_units.specs.declared.requests.Outcome.TheVariants as outcomes
use Rattle.bow_units.specs.declared.requests.Phase.TheVariants.{Checkpoint}
use Rattle.bow_units.specs.Draws.{drawn_value, next_number}
use Rattle.bow_units.specs.Magics.{HasMagic}
use Rattle.bow_units.specs.declared.statuses.Status.{Status}
use Rattle.bow_disk.specs.Bytes.{image_of}
use Rattle.bow_disk.specs.Disk.{IsCrash, IsImage}
use Rattle.bow_disk.specs.Memory.{Memory, State, content}
use Rattle.bow_disk.specs.MemoryLaws.{counts_law, cuts_law}
use Rattle.bow_log.specs.Generations.{Generation}
use Rattle.bow_chain.specs.Contents.{Contents, contents_of}
use Rattle.bow_chain.specs.Sound.{IsSound}
use Rattle.bow_flat.specs.Flat.{Flat, opening}
use Rattle.bow_guard.specs.Cuts.{candidates_of}
use Rattle.bow_guard.specs.Standing.{StandsFor}
use Rattle.bow_machine.specs.Calls.{Call, Reply, Failed}
use Rattle.bow_machine.specs.MemoryLaws.{CanHaveIt, FaultIsTold, IsFaulted, served_by}
use Rattle.bow_machine.specs.Standing.{IsStanding}
use Rattle.bow_machine.specs.Steps.{call_of}
use Rattle.bow_machine.specs.Tasks.{task_of}
use Rattle.bow_machine.specs.declared.turns.Turn.{Turn}
use Rattle.bow_machine.proofs.SoundCalls.{faults_are_told}
use Rattle.bow_core.specs.Standing.{StandsIn}
use Rattle.bow_core.specs.Views.{View}
use Rattle.bow_history.specs.declared.items.Actor.{Actor}
use Rattle.bow_history.specs.declared.items.Item.{Item}
use Rattle.bow_history.specs.declared.items.Item.TheVariants as items
use Rattle.bow_history.specs.Cuts.{NoneFails}
use Rattle.bow_history.specs.Histories.{journal_of, session_after, with_items}
use Rattle.bow_history.specs.Journal.{Plan}
use Rattle.bow_history.specs.Complete.{AreInOrder}
use Rattle.bow_history.specs.Fits.{buffers_of}
use Rattle.bow_history.specs.Sections.{BySections, IsFrom, SectionsRise}
use Rattle.bow_history.specs.Sessions.{Session, Turned, Admits, Steps, IsTurn, after_turn, call_in, call_of_turn, device_step, item_in, item_of, item_of_turn, lane_of, reply_in, turn_of}
use Rattle.bow_machine.specs.Steps.{unknown}
use Rattle.bow_history.specs.SoundSessions.{IsSoundSession, MayRun}
use Rattle.bow_history.proofs.Buffers.{own_buffers_agree}
use Rattle.bow_history.proofs.SoundTurns.{beginning_is_sound, runs_go_in_order, runs_keep_sound, turns_keep_sound}
use Rattle.bow_script.specs.Drills.{after, drill_script_of, used_blocks}
use Rattle.bow_session.specs.Leads.{BeginsAt, LeadsFrom, WasLoaded}
use Rattle.bow_session.specs.Runs.{IsRun, begun_over}
use Rattle.bow_session.specs.Sessions.{IsOver, Run, plan_in, state_in}
use Rattle.bow_play.specs.Beginning.{HasBegun}
use Rattle.bow_play.proofs.Runs.{begins_at}
use Rattle.bow_restore.specs.Answers.{TellsHead, TellsSound}
use Rattle.bow_restore.specs.declared.answers.Restored.{Restored}
use Rattle.bow_restore.specs.declared.answers.Restored.TheVariants as restored
use Rattle.bow_return.specs.Laws.{ComesBack, IsCutBefore}
use Rattle.bow_return.proofs.Back.{held_from_any_cut}
use Rattle.bow_tool.specs.Drills.{AreBack, DrawsOn, EndedWell, HasEnded, HoldsPattern, IsAnswered, IsDrawn, IsDrillDisk, IsDrillSession, IsDrillText, HoldsUsed, IsHeldIn, IsRerunFrom, Waits, drill_sizes, is_fault, memory_view, most_turns, pattern_blocks, schedule_number}
use Rattle.bow_tool.proofs.Drilling.{after_more, after_none}
use Rattle.bow_tool.proofs.Opened.{KeepsFront, checkpoint_stands, rises}
use Rattle.bow_tool.proofs.Patterns.{drill_sizes_are}
use Rattle.bow_tool.proofs.Plans.{drill_plan, few_used, given, given_inside, two_given}
use Rattle.bow_tool.proofs.Returning.{holds_pattern, pattern_at}

abbrev Begun : Memory → Run Memory → Type 0
Begun disk s = HasBegun memory_view.stated memory_view.content memory_view.moment memory_view.left_since memory_view.faults disk s

pub begun_on : {E : Type 0} (disk : Memory) → IsDrillDisk disk → (r : Result (Run Memory) E) → IfOk r (λ s. Begun disk s) → IfOk r (λ s. (d : Memory) × IsDrillDisk d × Begun d s)
begun_on disk made (Ok s) begun = (disk, made, begun)
begun_on disk made (Err e) begun = tt

-- ----------------------------------------------------------------------------------------------------------------
-- No call failed.

-- the first item, and the others
first_or_rest : (o : Option Item) (xs : List Item) → list_any is_fault (with_items o xs) ≡ false → ((item : Item) → o ≡ Some item → is_fault item ≡ false) × (list_any is_fault xs ≡ false)
first_or_rest None xs none = (λ item is. absurd (let clash : None ≡ Some item = is in cc clash), none)
first_or_rest (Some x) xs none =
    (λ item is. subst (λ y. is_fault y ≡ false) (let same : x ≡ item = cc is in same) (by (is_fault x) refl none).0, (by (is_fault x) refl none).1)
  where
    by : (t : Bool) → is_fault x ≡ t → list_any is_fault (x ∷ xs) ≡ false → (is_fault x ≡ false) × (list_any is_fault xs ≡ false)
    by true is h = absurd (grind (arith, is, h))
    by false is h = (is, grind (arith, is, h))

-- a step of which no item tells a fault made no call that failed
module _ (plan : Plan) (s : Session) (sound : IsSoundSession plan s) where
  quiet : (turn : Turn) (reply : Reply) (o : Option Call) → call_of plan.sizes s.memory (task_of plan.sizes s.memory turn) ≡ o → CanHaveIt plan.sizes o reply
      → ((item : Item) → item_of plan s (device_step plan.sizes s.memory turn reply).told ≡ Some item → is_fault item ≡ false) → reply ≡ Failed → o ≡ None
  quiet turn reply None is can none failed = refl
  quiet turn reply (Some call) is can none failed =
      let told = faults_are_told plan.sizes s.memory turn reply unknown sound.memory (subst (λ o. CanHaveIt plan.sizes o reply) (sym is) can) in
      let here : IsFaulted s.memory.requests (served_by (task_of plan.sizes s.memory turn)) (device_step plan.sizes s.memory turn reply).told =
      subst (λ r. FaultIsTold s.memory.requests (served_by (task_of plan.sizes s.memory turn)) (Some call) r (device_step plan.sizes s.memory turn reply).told) failed
      (subst (λ o. FaultIsTold s.memory.requests (served_by (task_of plan.sizes s.memory turn)) o reply (device_step plan.sizes s.memory turn reply).told) is told) in
      absurd (clash (none (items.Answered (lane_of s.hand (here.request).ticket plan.lanes) (s.number (lane_of s.hand (here.request).ticket plan.lanes)) (outcomes.DiskFault (here.request).done)) (ap (item_of plan s) here.answered)))
    where
      clash : true ≡ false → ⊥
      clash is = cc is

  no_call_failed : (actor : Actor) (reply : Reply) (o : Option Turn) → CanHaveIt plan.sizes (call_of_turn plan s o) reply → ((item : Item) → item_of_turn plan s o reply ≡ Some item → is_fault item ≡ false) → reply ≡ Failed → call_of_turn plan s o ≡ None
  no_call_failed actor reply None can none failed = refl
  no_call_failed actor reply (Some turn) can none failed = quiet turn reply (call_of plan.sizes s.memory (task_of plan.sizes s.memory turn)) refl can none failed

  turn_is_fine : (turn : Turned) → IsTurn plan s turn → ((item : Item) → item_in plan s turn ≡ Some item → is_fault item ≡ false) → reply_in turn ≡ Failed → call_in plan s turn ≡ None
  turn_is_fine (Admits lane ticket op) may none failed = refl
  turn_is_fine (Steps actor reply) may none failed = no_call_failed actor reply (turn_of s actor) may.1 none failed

pub none_fails : (plan : Plan) (s : Session) (turns : List Turned) → SectionsRise plan → IsSoundSession plan s → MayRun plan s turns → list_any is_fault (journal_of plan s turns) ≡ false → NoneFails plan s turns
none_fails plan s [] rise sound may none = tt
none_fails plan s (turn ∷ turns) rise sound may none =
    let parts = first_or_rest (item_in plan s turn) (journal_of plan (after_turn plan s turn) turns) none in
    (turn_is_fine plan s sound turn may.0 parts.0, none_fails plan (after_turn plan s turn) turns rise (turns_keep_sound plan s turn rise sound may.0) may.1 parts.1)

-- ----------------------------------------------------------------------------------------------------------------
-- The device, and what a cut leaves of it.

some_same : (a b : Geometry) → Some a ≡ Some b → a ≡ b
some_same a b is = cc

-- where both counts of the answer come from
ended_by : (g : Geometry) (f : Flat) (image : List (List ℕ)) (answer : Restored) → 0 < g.blocks → ComesBack g f (contents_of image) → TellsHead (contents_of image 0) answer
    → ((log : Generation) (older : List Generation) → IsSound g (contents_of image) log older → TellsSound None (log ∷ older) answer) → HasEnded answer → EndedWell g image answer
ended_by g f image restored.Nothing some back head counts ended = head
ended_by g f image (restored.Done entries marks) some back head counts ended = elim back.holds [
  | inl keeps ↦ (let told = counts keeps.log keeps.older keeps.sound in (keeps.log, keeps.older, keeps.sound, told.0, told.1))
  | inr there ↦ absurd (back.plain (subst HasMagic (there 0 some (inl refl)) head))
]
ended_by g f image (restored.Stopped writes) some back head counts ended = absurd ended
ended_by g f image (restored.BadChain fault) some back head counts ended = absurd ended
ended_by g f image restored.DiskFault some back head counts ended = absurd ended
ended_by g f image restored.NoMemory some back head counts ended = absurd ended

-- where the journal leads, over this device
abbrev pub Ways : Run Memory → View Memory → Type 0
Ways s first = LeadsFrom memory_view.content memory_view.moment memory_view.left_since (StandsFor s.core.geometry) first (opening (pattern_blocks 1024)) s

-- turns, and then further ones
may_parts : (plan : Plan) (s : Session) (turns more : List Turned) → MayRun plan s (turns ++ more) → MayRun plan s turns × MayRun plan (session_after plan s turns) more
may_parts plan s [] more may = (tt, may)
may_parts plan s (turn ∷ turns) more may = let rest = may_parts plan (after_turn plan s turn) turns more may.1 in ((may.0, rest.0), rest.1)

after_both : (plan : Plan) (s : Session) (turns more : List Turned) → session_after plan s (turns ++ more) ≡ session_after plan (session_after plan s turns) more
after_both plan s [] more = refl
after_both plan s (turn ∷ turns) more = after_both plan (after_turn plan s turn) turns more

-- where no item is so, none at a place is
none_at : (p : Item → Bool) (xs : List Item) (i : ℕ) (x : Item) → list_any p xs ≡ false → slice_get xs i ≡ Some x → p x ≡ false
none_at p [] i x none there = absurd (grind (arith, there))
none_at p (y ∷ xs) zero x none there = let same : y ≡ x = cc there in grind (arith, none, same)
none_at p (y ∷ xs) (suc i) x none there = none_at p xs i x (grind (arith, none)) there

module _ (disk : Memory) (made : IsDrillDisk disk) (start : Run Memory) (b : Begun disk start) (s : Run Memory) (k : WasLoaded memory_view.stated memory_view.content memory_view.moment memory_view.left_since memory_view.faults b.first s) where
  first_sizes : (b.first).geometry ≡ drill_sizes
  first_sizes =
      let core : start.core ≡ b.first = ap (λ (v : Run Memory). v.core) b.is in
      let stated : Some (b.first).disk.state.geometry ≡ Some (b.first).geometry = subst (λ (v : View Memory). Some v.disk.state.geometry ≡ Some v.geometry) core (b.run).sizes in
      let kept : Some (b.first).disk.state.geometry ≡ Some disk.state.geometry = (b.opened).sizes in
      some_same (b.first).geometry disk.state.geometry (sym stated ∙ kept) ∙ ap (λ (x : State). x.geometry) made

  pub sizes : s.core.geometry ≡ drill_sizes
  sizes = sym k.sizes ∙ first_sizes

  pub disk_sizes : s.core.disk.state.geometry ≡ drill_sizes
  disk_sizes = some_same s.core.disk.state.geometry s.core.geometry (k.run).sizes ∙ sizes

  image_is : (content disk.state).now ≡ pattern_blocks 1024
  image_is = ap (λ (x : State). (content x).now) made

  pub begins : BeginsAt memory_view.content (plan_in s) b.first (opening (pattern_blocks 1024))
  begins = subst (λ i. BeginsAt memory_view.content (plan_in s) b.first (opening i)) image_is
      (begins_at memory_view.content (plan_in s) b.first (content disk.state).now b.fresh (b.found (content disk.state) refl).stands)

  pub quiet_run : (turns : List Turned) → IsRun memory_view.stated memory_view.content memory_view.faults b.first turns s → list_any is_fault s.journal ≡ false → NoneFails (plan_in s) (begun_over b.first) turns
  quiet_run turns run none = none_fails (plan_in s) (begun_over b.first) turns (run.session).rise (beginning_is_sound (plan_in s) (b.first).memory (b.first).admitted k.sound k.idle) (run.session).may
      (subst (λ items. list_any is_fault items ≡ false) (run.session).journal none)

  -- In the end the checkpoint stands, with what the image held in front.
  module _ (number : ℕ) (script : s.script ≡ drill_script_of number) (early turns more : List Turned) (run : IsRun memory_view.stated memory_view.content memory_view.faults b.first turns s) (all : turns ≡ early ++ more)
      (two : IsAnswered (plan_in s) (begun_over b.first) early) (quiet : list_any is_fault s.journal ≡ false) (leads : Ways s b.first) where
    abbrev plan : Plan
    plan = plan_in s

    abbrev begin : Session
    begin = begun_over b.first

    begin_sound : IsSoundSession plan begin
    begin_sound = beginning_is_sound plan (b.first).memory (b.first).admitted k.sound k.idle

    from_first : (t : Session) → IsFrom plan t 0
    from_first t lane op asked = omega arith

    order : AreInOrder (λ lane. 0) s.journal (session_after plan begin turns).number × BySections plan 0 s.journal
    order = subst (λ items. AreInOrder (λ lane. 0) items (session_after plan begin turns).number × BySections plan 0 items) (sym (run.session).journal)
        (runs_go_in_order plan begin turns 0 (run.session).rise begin_sound (run.session).may (from_first begin))

    two_at_last : 2 ≤ (session_after plan begin turns).number 0
    two_at_last =
        let parts = may_parts plan begin early more (subst (MayRun plan begin) all (run.session).may) in
        let mid = session_after plan begin early in
        let further = runs_go_in_order plan mid more 0 (run.session).rise (runs_keep_sound plan begin early (run.session).rise begin_sound parts.0) parts.1 (from_first mid) in
        let up = rises (journal_of plan mid more) mid.number (session_after plan mid more).number 0 further.0 in
        let at : (session_after plan begin turns).number 0 ≡ (session_after plan mid more).number 0 = ap (λ (t : Session). t.number 0) (ap (session_after plan begin) all ∙ after_both plan begin early more) in
        let early_two : 2 ≤ mid.number 0 = two in
        omega (arith, early_two, up, at)

    fine : (lane n j : ℕ) → slice_get s.journal 1 ≡ Some (items.Answered lane n (outcomes.DiskFault j)) → ⊥
    fine lane n j there = let clash : true ≡ false = none_at is_fault s.journal 1 (items.Answered lane n (outcomes.DiskFault j)) quiet there in cc clash

    blocks : s.core.geometry.blocks ≡ 1024
    blocks = ap (λ (x : Geometry). x.blocks) sizes ∙ drill_sizes_are.1

    block_size : s.core.geometry.block_size ≡ 512
    block_size = ap (λ (x : Geometry). x.block_size) sizes ∙ drill_sizes_are.0

    pub front : KeepsFront (pattern_blocks 1024) (used_blocks number) s.core.geometry.blocks leads.state
    front = checkpoint_stands plan (given number) (drill_plan s.core.geometry number s.script script) (omega (arith, block_size)) (given_inside s.core.geometry number blocks) (two_given s.core.geometry number blocks)
        (buffers_of (state_in s)) (pattern_blocks 1024) s.journal leads.place (session_after plan begin turns).number (leads.legal (buffers_of (state_in s)) (own_buffers_agree plan (state_in s))) order.0 order.1 two_at_last fine
        leads.state leads.midway

    pub in_checkpoint : s.core.memory.phase ≡ Checkpoint
    in_checkpoint =
        let standing : IsStanding s.core.geometry s.core.memory (contents_of (content s.core.disk.state).now) (candidates_of (content s.core.disk.state).candidates) leads.state = leads.device in
        sym standing.phases ∙ front.phase

  module _ (f : Flat) (device : StandsIn memory_view.content s.core f) (phase : s.core.memory.phase ≡ Checkpoint) where
    cut_before : (first : List (List ℕ)) → IsCrash (content s.core.disk.state).candidates first → IsCutBefore drill_sizes f first
    cut_before first crash =
        let whole : IsImage drill_sizes.block_size drill_sizes.blocks first = cuts_law s.core.disk (content s.core.disk.state) refl drill_sizes (ap Some disk_sizes) 0 first
        (counts_law s.core.disk (content s.core.disk.state) refl 0 first (omega arith) crash) in
        let long = crash.size in
        record {
          machine = s.core.memory;
          now = contents_of (content s.core.disk.state).now;
          may = candidates_of (content s.core.disk.state).candidates;
          standing = subst (λ g. IsStanding g s.core.memory (contents_of (content s.core.disk.state).now) (candidates_of (content s.core.disk.state).candidates) f) sizes device;
          before = inr phase;
          cut = λ x below. crash.each x (omega (arith, below, long, whole.blocks));
          whole = whole;
        }

    pub comes_back : (last : List (List ℕ)) → IsRerunFrom drill_sizes (content s.core.disk.state).candidates last → ComesBack drill_sizes f (contents_of last)
    comes_back last r = held_from_any_cut drill_sizes f last (record { first = r.first; device = cut_before r.first r.crash; between = r.between; reruns = r.reruns })

    pub ended : (last : List (List ℕ)) (answer : Restored) → IsRerunFrom drill_sizes (content s.core.disk.state).candidates last → TellsHead (contents_of last 0) answer
        → ((log : Generation) (older : List Generation) → IsSound drill_sizes (contents_of last) log older → TellsSound None (log ∷ older) answer) → HasEnded answer → EndedWell drill_sizes last answer
    ended last answer r head counts well = ended_by drill_sizes f last answer (let blocks = drill_sizes_are.1 in omega (arith, blocks)) (comes_back last r) head counts well

-- ----------------------------------------------------------------------------------------------------------------
-- The whole drill.

-- the numbers that are drawn behind the script
pub drawn_numbers : (number d0 d1 d2 most seed : ℕ) → d0 ≡ after 3073 number → d1 ≡ next_number d0 → most ≡ drawn_value d1 % 4096 → d2 ≡ next_number d1 → seed ≡ drawn_value d2 % 2147483648
    → (most ≡ most_turns number) × (seed ≡ schedule_number number)
drawn_numbers number d0 d1 d2 most seed script one is two are =
    let first : d1 ≡ next_number (after 3073 number) = one ∙ ap next_number script in
    (is ∙ ap (λ d. drawn_value d % 4096) first, are ∙ ap (λ d. drawn_value d % 2147483648) (two ∙ ap next_number (first ∙ sym (after_more 3073 number))))

-- what the play of a session comes to, where it was not begun yet
abbrev pub PlaysOn : ℕ → Run Memory → Run Memory → ℕ → Type 0
PlaysOn seed start s turns = (first : View Memory) → (k : IsDrawn memory_view seed first start seed) → k.turns ≡ [] → (opening : List Turned)
    × (number : ℕ) × DrawsOn memory_view seed first opening turns s number × Waits (plan_in s) (begun_over first) opening × IsAnswered (plan_in s) (begun_over first) opening

-- where the journal of a session leads
abbrev pub LeadsOn : Run Memory → Type 0
LeadsOn s = (first : View Memory) (f : Flat) → WasLoaded memory_view.stated memory_view.content memory_view.moment memory_view.left_since memory_view.faults first s → BeginsAt memory_view.content (plan_in s) first f
    → LeadsFrom memory_view.content memory_view.moment memory_view.left_since (StandsFor s.core.geometry) first f s

pub drill_session : (number seed most turns : ℕ) (disk : Memory) (made : IsDrillDisk disk) (start : Run Memory) (b : Begun disk start) (s : Run Memory) → start.script ≡ drill_script_of number → s.script ≡ start.script → most ≡ most_turns number → seed ≡ schedule_number number
    → PlaysOn seed start s turns → (turns ≡ most) ⊎ ((turns ≤ most) × IsOver s) → list_any is_fault s.journal ≡ false → LeadsOn s → IsDrillSession number s turns
drill_session number seed most turns disk made start b s script same most_is seed_is plays enough quiet leads =
    let played = subst (λ x. PlaysOn x start s turns) seed_is plays b.first (record { turns = []; run = b.run; loaded = b.loaded_over; drawn = tt; reached = sym (after_none (schedule_number number)) }) refl in
    let drawn = (played.2).drawn in
    let way = leads b.first (opening (pattern_blocks 1024)) drawn.loaded (begins disk made start b s drawn.loaded) in
    record {
      disk = disk;
      made = made;
      start = start;
      begun = b;
      script = same ∙ script;
      opening_turns = played.0;
      reached = played.1;
      drawn = played.2;
      waits = played.3;
      answered = played.4;
      enough = subst (λ x. (turns ≡ x) ⊎ ((turns ≤ x) × IsOver s)) most_is enough;
      none_fails = quiet_run disk made start b s drawn.loaded drawn.turns drawn.run quiet;
      leads = way;
      phase = in_checkpoint disk made start b s drawn.loaded number (same ∙ script) played.0 drawn.turns (played.2).more drawn.run (played.2).all played.4 quiet way;
    }

-- and its text
pub drill_text : (number : ℕ) (status shown : Status) (turns : ℕ) (journal items : List Item) (answer : Restored) (used kept : ℕ) (text : List ℕ) → status ≡ shown → journal ≡ items → used ≡ kept
    → IsDrillText number status turns journal answer used text → IsDrillText number shown turns items answer kept text
drill_text number status shown turns journal items answer used kept text a b c told =
    subst (λ s. IsDrillText number s turns items answer kept text) a (subst (λ j. IsDrillText number status turns j answer kept text) b (subst (λ u. IsDrillText number status turns journal answer u text) c told))

pub drill_ended : (number turns : ℕ) (s : Run Memory) (k : IsDrillSession number s turns) (last : List (List ℕ)) (answer : Restored) → IsRerunFrom drill_sizes (content s.core.disk.state).candidates last → TellsHead (contents_of last 0) answer
    → ((log : Generation) (older : List Generation) → IsSound drill_sizes (contents_of last) log older → TellsSound None (log ∷ older) answer) → HasEnded answer → EndedWell drill_sizes last answer
drill_ended number turns s k last answer runs head counts well =
    ended k.disk k.made k.start k.begun s ((k.drawn).drawn).loaded (k.leads).state (k.leads).device k.phase last answer runs head counts well

-- The image that is left holds the checkpoint, and that has the pattern of each block in use.
pub drill_held : (number turns : ℕ) (s : Run Memory) (k : IsDrillSession number s turns) (last : List (List ℕ)) → IsRerunFrom drill_sizes (content s.core.disk.state).candidates last → list_any is_fault s.journal ≡ false → HoldsUsed number last
drill_held number turns s k last runs quiet =
    let f : Flat = (k.leads).state in
    let loaded = ((k.drawn).drawn).loaded in
    let back = comes_back k.disk k.made k.start k.begun s loaded f (k.leads).device k.phase last runs in
    let there = front k.disk k.made k.start k.begun s loaded number k.script k.opening_turns ((k.drawn).drawn).turns (k.drawn).more ((k.drawn).drawn).run (k.drawn).all k.answered quiet k.leads in
    let few = (few_used number).1 in
    let blocks : s.core.geometry.blocks ≡ 1024 = ap (λ (x : Geometry). x.blocks) (sizes k.disk k.made k.start k.begun s loaded) ∙ drill_sizes_are.1 in
    (f.used, f.saved, (back.plain, back.holds), λ b below. (there.used b below, there.saved b below (omega (arith, few, below, blocks)) ∙ pattern_at 1024 b (omega (arith, few, below))))

-- So each of these is kept by a restoration that has it back.
kept_each : (number : ℕ) (last : List (List ℕ)) (bytes : List ℕ) → HoldsUsed number last → ((used : ℕ → Bool) (saved : Contents) → IsHeldIn drill_sizes used saved last → AreBack drill_sizes used saved (image_of drill_sizes bytes))
    → (b : ℕ) → b < used_blocks number → HoldsPattern bytes b
kept_each number last bytes (used, saved, held, each) back b below =
    let few = (few_used number).1 in
    holds_pattern bytes used saved b (omega (arith, few, below)) (each b below).0 (each b below).1 (back used saved held)

pub drill_kept : (number kept used : ℕ) (last shown bytes image : List ℕ) → HoldsUsed number (image_of drill_sizes last) → shown ≡ last
    → ((blocks : ℕ → Bool) (saved : Contents) → IsHeldIn drill_sizes blocks saved (image_of drill_sizes shown) → AreBack drill_sizes blocks saved (image_of drill_sizes bytes)) → image ≡ bytes → used ≡ used_blocks number
    → (((b : ℕ) → b < used → HoldsPattern image b) → kept ≡ used) → kept ≡ used_blocks number
drill_kept number kept used last shown bytes image held there back same is counted =
    let back_too = subst (λ x. (blocks : ℕ → Bool) (saved : Contents) → IsHeldIn drill_sizes blocks saved (image_of drill_sizes x) → AreBack drill_sizes blocks saved (image_of drill_sizes bytes)) there back in
    let each : (b : ℕ) → b < used → HoldsPattern image b = λ b below. subst (λ x. HoldsPattern x b) (sym same) (kept_each number (image_of drill_sizes last) bytes held back_too b (subst (λ n. b < n) is below)) in
    counted each ∙ is

-- what was loaded over the device that was opened
pub loaded_of : (disk : Memory) (start : Run Memory) (b : Begun disk start) (s : Run Memory) (seed turns : ℕ) → PlaysOn seed start s turns → WasLoaded memory_view.stated memory_view.content memory_view.moment memory_view.left_since memory_view.faults b.first s
loaded_of disk start b s seed turns plays =
    let played = plays b.first (record { turns = []; run = b.run; loaded = b.loaded_over; drawn = tt; reached = sym (after_none seed) }) refl in
    ((played.2).drawn).loaded
