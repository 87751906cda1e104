-- As long as no call has failed, a machine stays led, and whatever a cut leaves of it is ahead.
use Rattle.std.proofs.Common.{ℕ, ◌<◌, ◌≤◌, ◌≡◌, ◌≢◌, true, not, List, [], ◌∷◌, length, Option, Some, None, arith, refl, sym, ap, ◌∙◌, subst, subst₂, inl, inr, Contains}
use Rattle.std.proofs.lemmas.Bool.{cases_lt, cases_eq}
use Rattle.std.specs.Int.{w16}
use Rattle.bow_units.specs.Magics.{HasMagic}
use Rattle.bow_units.specs.declared.sizes.Geometry.{Geometry}
use Rattle.bow_units.specs.declared.requests.Phase.{Phase}
use Rattle.bow_units.specs.declared.requests.Phase.TheVariants.{Trim, Arming, Checkpoint, Deciding, Committed}
use Rattle.bow_log.specs.Generations.{Generation}
use Rattle.bow_log.specs.Faults.{number_at}
use Rattle.bow_log.proofs.Clean.{Clean, clean, magic_tested}
use Rattle.bow_log.proofs.InBlocks.{found}
use Rattle.bow_chain.specs.Contents.{Contents, with_block}
use Rattle.bow_chain.specs.Sound.{log_in}
use Rattle.bow_chain.proofs.Counting.{some_inj, spelled_ok}
use Rattle.bow_flat.specs.Flat.{Flat, May, is_any}
use Rattle.bow_flat.specs.Valid.{HasCheckpoint}
use Rattle.bow_guard.specs.Cuts.{Candidates, IsCut}
use Rattle.bow_guard.specs.Phases.{IsArming, IsDeciding}
use Rattle.bow_guard.specs.Standing.{Ahead, forwarded}
use Rattle.bow_guard.proofs.Device.{one_of}
use Rattle.bow_guard.proofs.Phases.{may_within}
use Rattle.bow_guard.proofs.PhaseActs.{ahead_cut}
use Rattle.bow_ranges.specs.Kinds.{kind_at}
use Rattle.bow_machine.specs.Memory.{Memory, place_with}
use Rattle.bow_machine.specs.Calls.{Failed, DoesIt}
use Rattle.bow_machine.specs.Tasks.{Turn, Map, Worker, Command, task_of}
use Rattle.bow_machine.specs.Steps.{call_of, step_of}
use Rattle.bow_machine.specs.Laws.{after_all}
use Rattle.bow_machine.specs.Standing.{IsStanding}
use Rattle.bow_machine.proofs.Held.{device_of, IsHeld}
use Rattle.bow_machine.specs.Ahead.{Shows0, IsPlace0, IsLed, IsBytes, OpeningIsLed, AdmitIsLed, LedKeeps, LedIsAhead, BytesAreAhead, AheadIsLed, AheadKeeps}
use Rattle.bow_machine.proofs.Openings.{opening_held}
use Rattle.bow_machine.proofs.Joined.{held}
use Rattle.bow_machine.proofs.Whole.{step_holds, step_keeps}
use Rattle.bow_machine.proofs.Consequences.{block_there, block_other}
use Rattle.bow_machine.proofs.AheadLeads.{head_not_0, plain_led}
use Rattle.bow_machine.proofs.AheadSteps.{LogKept, log_in_checkpoint, log_in_arming, log_in_deciding}
use Rattle.bow_machine.proofs.AheadMapped.{map_leads}
use Rattle.bow_machine.proofs.AheadWorkers.{worker_leads}
use Rattle.bow_machine.proofs.AheadCommands.{command_leads}

pub opening_is_led : OpeningIsLed
opening_is_led g image sizes plain = plain_led g _ _ _ _ (opening_held g image sizes plain) (inl refl)

pub admit_is_led : AdmitIsLed
admit_is_led g m now may f r l = l

pub led_keeps : LedKeeps
led_keeps g m turn reply now new_now may new_may f standing l ok does = led turn does ok
  where
    s : IsHeld g m now may f
    s = held g m now may f standing

    led : (turn : Turn) → DoesIt g (call_of g m (task_of g m turn)) reply now may new_now new_may
        → (reply ≡ Failed → call_of g m (task_of g m turn) ≡ None)
        → let step = step_of g now m (task_of g m turn) reply in
        IsLed g step.memory new_now new_may (after_all g.blocks step.events f)
    led (Map ticket) does ok = map_leads g m now new_now may new_may f s l reply ticket does ok (step_holds g m (Map ticket) reply now new_now may new_may f s does).1
    led Worker does ok = worker_leads g f now new_now may new_may reply m s l does ok (step_holds g m Worker reply now new_now may new_may f s does).1
    led Command does ok = command_leads g m now new_now may new_may f reply s l does ok (step_holds g m Command reply now new_now may new_may f s does).1

-- ----------------------------------------------------------------------------------------------------------------

-- a block that is too short has no version of a log
short : (block : List ℕ) → length block < 4 → number_at w16 4 block ≡ 0x0100 → ⊥
unfolding number_at
short [] few is = absurd (grind arith)
short (a ∷ []) few is = absurd (grind arith)
short (a ∷ b ∷ []) few is = absurd (grind arith)
short (a ∷ b ∷ c ∷ []) few is = absurd (grind arith)
short (a ∷ b ∷ c ∷ d ∷ rest) few is = absurd (omega arith)

-- bytes that spell a log begin with a magic
pub log_has_magic : (g : Geometry) (block : List ℕ) (log : Generation) → IsBytes block → log_in g block ≡ Some log → HasMagic block
unfolding log_in
log_has_magic g block log bytes spells =
    let c : Clean g block = clean g block (found _ _ log spells).0 in
    (magic_tested block bytes (long c)).1 c.magic
  where
    long : Clean g block → 4 ≤ length block
    long c = elim (cases_lt (length block) 4) [ inl few ↦ absurd (short block few c.version) | inr enough ↦ enough ]

pub led_is_ahead : LedIsAhead
led_is_ahead g m now may f s l image cut begins log spells = ahead_cut g f (λ b. image b ∷ []) image s.sound.sizes s.state
    (λ b up on v h. l.others b up on v (was b on v h))
    (λ v head h is w c. (l.heads (image 0) head (cut 0 some) begins (at v h head is)).1 w (was head.current (spelled_ok g s.sound.sizes v head is).current_inside w c))
    (λ b on. (0, omega arith, refl)) log spells
  where
    some : 0 < g.blocks
    some = omega (arith, s.sound.sizes.enough)

    was : (b : ℕ) → b < g.blocks → (v : List ℕ) → Contains (image b ∷ []) v → Contains (may b) v
    was b on v h = subst (Contains (may b)) (sym (one_of (image b) v h)) (cut b on)

    at : (v : List ℕ) → Contains (image 0 ∷ []) v → (head : Generation) → log_in g v ≡ Some head → log_in g (image 0) ≡ Some head
    at v h head is = ap (log_in g) (sym (one_of (image 0) v h)) ∙ is

pub bytes_are_ahead : BytesAreAhead
bytes_are_ahead g m now may f image s l cut bytes log spells = led_is_ahead g m now may f s l image cut (inr (log_has_magic g (image 0) log bytes spells)) log spells

-- ----------------------------------------------------------------------------------------------------------------
-- What is known where whatever a cut leaves is ahead.

-- the contents of a used block in arming
may_saved : (c : Option (List (List ℕ))) (v w : List ℕ) → (not (is_any c) ≡ true → (v ≡ w) × (c ≡ Some (w ∷ []))) → May c v
may_saved None v w h = tt
may_saved (Some cs) v w h = subst (λ c. May c v) (sym (h refl).1) (subst (Contains (w ∷ [])) (sym (h refl).0) (0, omega arith, refl))

-- as what the disk holds, beyond the device
abbrev IsBeyond : Geometry → Contents → Contents → Type 0
IsBeyond g now image = (b : ℕ) → g.blocks ≤ b → image b ≡ now b

-- whatever a cut leaves, and is so beyond the device, is ahead
abbrev AheadBy : Geometry → Contents → Candidates → Flat → Type 0
AheadBy g now may f = (image : Contents) → IsCut g may image → IsBeyond g now image → Ahead g f image

module _ (g : Geometry) (m : Memory) (now : Contents) (may : Candidates) (one f : Flat) (l : IsLed g m now may one) (s : IsHeld g m now may f) where
  first : 0 < g.blocks
  first = omega (arith, s.memory.sizes.enough)

  -- where the log's current place is settled
  settled : (log : Generation) → m.log ≡ Some log → may log.current ≡ now log.current ∷ [] → Shows0 may f.pending log.current
  settled log some is w h = may_within (f.current 0) (f.pending 0) w (s.state.within 0)
      (subst (May (f.current 0)) (sym (one_of (now log.current) w (subst (λ vs. Contains vs w) is h))) (subst (λ p. May (f.current 0) (now p)) (ap (λ o. place_with o 0) some) (s.shown 0 first)))

  in_arming : m.phase ≡ Arming → IsLed g m now may f
  in_arming is = record {
    others = others;
    heads = λ v head h begins spells. elim begins [
      | inl at ↦ absurd (let clash : Arming ≡ Checkpoint = sym is ∙ at in grind arith)
      | inr magic ↦ elim (a.heads v h) [
        | inl saved ↦ absurd (s.state.plain_saved (subst (λ p. HasCheckpoint p) (sym (s.phases ∙ is)) tt) (subst HasMagic saved magic))
        | inr logged ↦ subst (λ (o : Generation). IsPlace0 (kind_at m.kinds o.current) × Shows0 may f.pending o.current) (some_inj (sym logged ∙ spells)) (inl log.2.sound.current, shows)
      ]
    ];
    current = λ o some. subst (λ (x : Generation). Shows0 may f.pending x.current) (some_inj (sym log.1 ∙ some)) shows;
    arming = l.arming;
    led = l.led;
    deciding = l.deciding;
  }
    where
      log : LogKept g m now may f Arming
      log = log_in_arming g m now may f s is

      a : IsArming g f (device_of m log.0 log.2.older log.2.clean_log log.2.clean_older now may)
      a = log.2.leaves

      shows : Shows0 may f.pending log.0.current
      shows = settled log.0 log.1 (l.arming is log.0 log.1)

      others : (b : ℕ) → 0 < b → b < g.blocks → (v : List ℕ) → Contains (may b) v → May (f.pending b) v
      others b up on v h = subst (λ c. May c v) (sym (s.state.arming_pending (s.phases ∙ is) b)) (may_saved (f.current b) v (f.saved b)
          (λ e. let used = s.state.arming_used (s.phases ∙ is) b ∙ e in (one_of (f.saved b) v (subst (λ vs. Contains vs v) (a.in_place b up on used) h), s.state.arming_saved (s.phases ∙ is) b used)))

  in_deciding : m.phase ≡ Deciding → IsLed g m now may f
  in_deciding is = record {
    others = λ b up on v h. may_within (f.current b) (f.pending b) v (s.state.within b) (subst (May (f.current b)) (sym (one_of (now b) v (subst (λ vs. Contains vs v) (a.one b up on) h))) (a.current b up on));
    heads = λ v head h begins spells. elim begins [
      | inl at ↦ absurd (let clash : Deciding ≡ Checkpoint = sym is ∙ at in grind arith)
      | inr magic ↦ subst (λ (o : Generation). IsPlace0 (kind_at m.kinds o.current) × Shows0 may f.pending o.current) (some_inj (sym log.1 ∙ l.deciding is v head h magic spells)) (inl log.2.sound.current, shows)
    ];
    current = λ o some. subst (λ (x : Generation). Shows0 may f.pending x.current) (some_inj (sym log.1 ∙ some)) shows;
    arming = l.arming;
    led = l.led;
    deciding = l.deciding;
  }
    where
      log : LogKept g m now may f Deciding
      log = log_in_deciding g m now may f s is

      a : IsDeciding g f (now log.0.current) (device_of m log.0 log.2.older log.2.clean_log log.2.clean_older now may)
      a = log.2.leaves

      shows : Shows0 may f.pending log.0.current
      shows = settled log.0 log.1 (a.one log.0.current (a.log.behind.valid).current_not_0 log.2.sound.generation.current_inside)

  -- an image with another candidate in one block
  cut_with : (image : Contents) (b : ℕ) (v : List ℕ) → IsCut g may image → Contains (may b) v → IsCut g may (with_block image b v)
  cut_with image b v cut has x on = elim (cases_eq x b) [
    | inl is ↦ subst₂ (λ vs u. Contains vs u) (ap may (sym is)) (sym (ap (with_block image b v) is ∙ block_there image b v)) has
    | inr ne ↦ subst (Contains (may x)) (sym (block_other image b v x ne)) (cut x on)
  ]

  -- such an image is as it was beyond the device
  beyond : (image : Contents) (b : ℕ) (v : List ℕ) → b < g.blocks → IsBeyond g now image → IsBeyond g now (with_block image b v)
  beyond image b v on same x off = block_other image b v x (λ e. omega (arith, e, on, off)) ∙ same x off

  -- in Checkpoint each candidate, with others, is left by a cut
  module _ (is : m.phase ≡ Checkpoint) (all : AheadBy g now may f) where
    ahead : (image : Contents) (head : Generation) → IsCut g may image → IsBeyond g now image → log_in g (image 0) ≡ Some head → (b : ℕ) → b < g.blocks → May (f.pending b) (forwarded image head b)
    ahead image head cut same spells b on = (all image cut same head spells).each b on

    shown_0 : (v : List ℕ) (head : Generation) → Contains (may 0) v → log_in g v ≡ Some head → Shows0 may f.pending head.current
    shown_0 v head h spells w has =
        let at_0 : Contents = with_block now 0 v in
        let image : Contents = with_block at_0 head.current w in
        let apart : 0 ≢ head.current = λ z. head_not_0 g s.memory.sizes v head spells (sym z) in
        let zeroth : image 0 ≡ v = block_other at_0 head.current w 0 apart ∙ block_there now 0 v in
        subst (May (f.pending 0)) (block_there image 0 (image head.current) ∙ block_there at_0 head.current w)
        (ahead image head (cut_with at_0 head.current w (cut_with now 0 v s.held h) has) (beyond at_0 head.current w (spelled_ok g s.memory.sizes v head spells).current_inside (beyond now 0 v first (λ x off. refl))) (ap (log_in g) zeroth ∙ spells) 0 first)

    in_checkpoint : IsLed g m now may f
    in_checkpoint = record {
      others = λ b up on v h.
          let ne : 0 ≢ b = λ z. omega (arith, z, up) in
          let image : Contents = with_block now b v in
          let log = log_in_checkpoint g m now may f s is in
          subst (May (f.pending b)) (block_other image 0 (image log.0.current) b (λ z. ne (sym z)) ∙ block_there now b v)
          (ahead image log.0 (cut_with now b v s.held h) (beyond now b v on (λ x off. refl)) (ap (log_in g) (block_other now b v 0 ne) ∙ l.led is log.0 log.1) b on);
      heads = λ v head h begins spells. ((l.heads v head h begins spells).0, shown_0 v head h spells);
      current = λ o some. shown_0 (now 0) o (s.held 0 first) (l.led is o some);
      arming = l.arming;
      led = l.led;
      deciding = l.deciding;
    }

-- only in Checkpoint it matters what is ahead
pub ahead_so : (g : Geometry) (m : Memory) (now : Contents) (may : Candidates) (one f : Flat) → IsLed g m now may one → IsStanding g m now may f → (m.phase ≡ Checkpoint → AheadBy g now may f) → IsLed g m now may f
ahead_so g m now may one f l standing all = go m.phase refl
  where
    s : IsHeld g m now may f
    s = held g m now may f standing

    go : (p : Phase) → m.phase ≡ p → IsLed g m now may f
    go Trim is = plain_led g m now may f s (inl is)
    go Arming is = in_arming g m now may one f l s is
    go Checkpoint is = in_checkpoint g m now may one f l s is (all is)
    go Deciding is = in_deciding g m now may one f l s is
    go Committed is = plain_led g m now may f s (inr is)

pub ahead_is_led : AheadIsLed
ahead_is_led g m now may one f l standing all = ahead_so g m now may one f l standing (λ is image cut same. all image cut (inl is))

pub ahead_keeps : AheadKeeps
ahead_keeps g m turn reply now new_now may new_may one f l s all ok does =
    let led = ahead_is_led g m now may one f l s all in
    led_is_ahead g _ new_now new_may _ (step_keeps g m turn reply now new_now may new_may f s does).1 (led_keeps g m turn reply now new_now may new_may f s led ok does)
