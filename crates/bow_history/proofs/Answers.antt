-- An answer's row, as the machine tells it, is a row of the journal.
use Rattle.std.proofs.Common.{ℕ, ◌+◌, ◌<◌, ◌≡◌, ◌≢◌, ◌⊎◌, Bool, true, false, List, [], ◌∷◌, Option, Some, None, arith, refl, sym, ap, ◌∙◌, subst, subst₂, inl, inr}
use Rattle.bow_units.specs.declared.sizes.Extent.{Extent}
use Rattle.bow_units.specs.declared.requests.Op.{Op}
use Rattle.bow_units.specs.declared.requests.Op.TheVariants.{Read, Write, Discard, Flush, Prepare, Commit}
use Rattle.bow_units.specs.declared.requests.Outcome.{Outcome}
use Rattle.bow_units.specs.declared.requests.Outcome.TheVariants as outcomes
use Rattle.bow_units.specs.declared.requests.Phase.{Phase}
use Rattle.bow_units.specs.declared.requests.Phase.TheVariants.{Trim, Arming, Checkpoint, Deciding}
use Rattle.bow_log.specs.Generations.{Generation}
use Rattle.bow_chain.specs.Contents.{Contents}
use Rattle.bow_flat.specs.Flat.{Flat, Event, after, count_below, block_at}
use Rattle.bow_flat.specs.Flat.Event.{Fails, Discards, Flushes, Prepares, Decides, Commits}
use Rattle.bow_flat.specs.Valid.{IsState, IsPlainList}
use Rattle.bow_guard.specs.Cuts.{Candidates}
use Rattle.bow_ranges.specs.Kinds.{is_free, count_of}
use Rattle.bow_machine.specs.Requests.{Request, unsettled}
use Rattle.bow_machine.specs.Memory.{Memory, Hand, Empty, Batching, Preparing, Committing, FlushesAll, ReadsCurrent, WritesBlock0, FlushesDecision, reserved}
use Rattle.bow_machine.specs.Tasks.{head}
use Rattle.bow_machine.specs.Steps.{extent_of}
use Rattle.bow_machine.specs.Laws.{after_all}
use Rattle.bow_machine.specs.MemoryIsSound.{LogIsHeld}
use Rattle.bow_machine.specs.MemoryLaws.{HasNoBlock}
use Rattle.bow_machine.specs.Standing.{IsStanding}
use Rattle.bow_machine.specs.Told.{EndsCommit, AnswerRow}
use Rattle.bow_machine.specs.Deeds.{Deed, NoDeed, MayHaveArmed, HasDecided, deed_of, AnsweredDeed}
use Rattle.bow_machine.proofs.Counts.{count_trimmed}
use Rattle.bow_machine.proofs.FormedHeads.{head_is}
use Rattle.bow_machine.proofs.Held.{Kept}
use Rattle.bow_machine.proofs.Joined.{held}
use Rattle.bow_machine.proofs.MappedTests.{write_inside, read_inside, discard_inside}
use Rattle.bow_machine.proofs.SoundLists.{own_tickets}
use Rattle.bow_machine.proofs.SoundTurns.{checkpoint_log}
use Rattle.bow_machine.proofs.Workers.{memory_is}
use Rattle.bow_history.specs.Journal.{Plan, Place, IsOpenPhase, Row, MayBeFull}
use Rattle.bow_history.specs.Lags.{Lags, LagsBy, IsArmed, IsDecided}
use Rattle.bow_history.proofs.Rows.{proper_write, open_phase, write_refused, read_refused, discard_refused, flush_refused}

-- in Trim block 0 does not count as discarded
trim_0 : (f : Flat) → IsState f → f.phase ≡ Trim → f.trim 0 ≡ false
trim_0 f state trim = go (f.trim 0) refl
  where
    known : (c : Option (List (List ℕ))) → IsPlainList c → c ≡ None → ⊥
    known None plain e = plain
    known (Some cs) plain e = absurd (grind arith)

    go : (t : Bool) → f.trim 0 ≡ t → f.trim 0 ≡ false
    go true is = absurd (known (f.current 0) state.current_0 (state.discarded trim 0 is).0)
    go false is = is

-- ----------------------------------------------------------------------------------------------------------------
-- How the journal's state lags, by the phase.

armed_phase : (n : ℕ) (f j : Flat) → IsArmed n f j → f.phase ≡ Arming
armed_phase n f j a = ap (λ (h : Flat). h.phase) a.2

pub decided_phase : (n : ℕ) (f j : Flat) → IsDecided n f j → f.phase ≡ Deciding
decided_phase n f j d = ap (λ (h : Flat). h.phase) d.1

pub lag_cases : (n : ℕ) (deed : Deed) (f j : Flat) → LagsBy n deed f j → (f ≡ j) ⊎ (IsArmed n f j ⊎ IsDecided n f j)
lag_cases n NoDeed f j l = inl l
lag_cases n MayHaveArmed f j (inl l) = inl l
lag_cases n MayHaveArmed f j (inr a) = inr (inl a)
lag_cases n HasDecided f j l = inr (inr l)

-- in no other phase than those two it does not lag
pub lags_none : (n : ℕ) (deed : Deed) (f j : Flat) (phase : Phase) → f.phase ≡ phase → phase ≢ Arming → phase ≢ Deciding → LagsBy n deed f j → f ≡ j
lags_none n deed f j phase at arming deciding l = elim (lag_cases n deed f j l) [
  | inl same ↦ same
  | inr (inl a) ↦ absurd (arming (sym at ∙ armed_phase n f j a))
  | inr (inr d) ↦ absurd (deciding (sym at ∙ decided_phase n f j d))
]

lags_not_armed : (n : ℕ) (deed : Deed) (f j : Flat) (phase : Phase) → f.phase ≡ phase → phase ≢ Arming → LagsBy n deed f j → (f ≡ j) ⊎ IsDecided n f j
lags_not_armed n deed f j phase at arming l = elim (lag_cases n deed f j l) [
  | inl same ↦ inl same
  | inr (inl a) ↦ absurd (arming (sym at ∙ armed_phase n f j a))
  | inr (inr d) ↦ inr d
]

lags_not_decided : (n : ℕ) (deed : Deed) (f j : Flat) (phase : Phase) → f.phase ≡ phase → phase ≢ Deciding → LagsBy n deed f j → (f ≡ j) ⊎ IsArmed n f j
lags_not_decided n deed f j phase at deciding l = elim (lag_cases n deed f j l) [
  | inl same ↦ inl same
  | inr (inl a) ↦ inr a
  | inr (inr d) ↦ absurd (deciding (sym at ∙ decided_phase n f j d))
]

-- ----------------------------------------------------------------------------------------------------------------

module _ (plan : Plan) (m : Memory) (now : Contents) (may : Candidates) (f : Flat) (p : Place)
    (s : IsStanding plan.sizes m now may f) (new : Deed) where
  abbrev n : ℕ
  n = plan.sizes.blocks

  -- the answer's row in the journal, and the machine's state after its events as it follows
  pub record Answering (op : Op) (outcome : Outcome) (k : ℕ) (events : List Event) : Type 0 where
    pub flat : Flat
    pub row : Row plan p op outcome k flat
    pub lags : LagsBy n new (after_all n events f) flat

  -- by this outcome, with these events
  with_row : (op : Op) (is outcome : Outcome) (k : ℕ) (these events : List Event) → outcome ≡ is → events ≡ these → Answering op is k these → Answering op outcome k events
  with_row op is outcome k these events same happens a = subst₂ (λ o es. Answering op o k es) (sym same) (sym happens) a

  -- nothing is untold after it
  plain : (op : Op) (outcome : Outcome) (k : ℕ) (events : List Event) (j : Flat) → new ≡ NoDeed → Row plan p op outcome k j → after_all n events f ≡ j → Answering op outcome k events
  plain op outcome k events j none row same = record { flat = j; row = row; lags = subst (λ d. LagsBy n d (after_all n events f) j) (sym none) same }

  -- ----------------------------------------------------------------------------------------------------------------
  -- A read, which leaves all as it is.

  read_answer : (e : Extent) (payload : List ℕ) (r : Request) (outcome : Outcome) (events : List Event) → LagsBy n new f p.flat → AnswerRow plan.sizes m r (Read e payload) outcome events → Answering (Read e payload) outcome r.done events
  read_answer e payload r outcome events lags (inl (refused, quiet)) = with_row _ outcome outcome _ [] events refl quiet (record { flat = p.flat; row = read_refused plan p m.phase r.done e payload outcome refused; lags = lags })
  read_answer e payload r outcome events lags (inr (passed, inl (is, whole, quiet))) =
      with_row _ outcomes.Data outcome _ [] events is quiet (record { flat = p.flat; row = (read_inside plan.sizes m.phase e payload passed, whole, refl); lags = lags })
  read_answer e payload r outcome events lags (inr (passed, inr (is, left, quiet))) =
      with_row _ (outcomes.DiskFault r.done) outcome _ [] events is quiet (record { flat = p.flat; row = (read_inside plan.sizes m.phase e payload passed, refl, left, refl); lags = lags })

  -- ----------------------------------------------------------------------------------------------------------------
  -- A write, a discard or a flush, beside which no command is in hand.

  module _ (none : new ≡ NoDeed) (same : f ≡ p.flat) where
    phase_is : (phase : Phase) → m.phase ≡ phase → p.flat.phase ≡ phase
    phase_is phase at = ap (λ (h : Flat). h.phase) (sym same) ∙ s.phases ∙ at

    is_open : unsettled m.phase ≡ None → IsOpenPhase p.flat.phase
    is_open settled = subst IsOpenPhase (sym (phase_is m.phase refl)) (open_phase m.phase settled)

    -- the head's next block is one that it has, and not block 0
    head_left : (e : Extent) (payload : List ℕ) (r : Request) → r.op ≡ Write e payload → HasNoBlock plan.sizes m r → (r.done < e.count) × (e.first + r.done ≢ 0)
    head_left e payload r op no_block =
        let log = checkpoint_log plan.sizes m.kinds m.clean m.trimmed (reserved m.hand).count m.log (subst (λ p. LogIsHeld plan.sizes m.kinds m.clean m.trimmed (reserved m.hand).count p m.log) no_block.phase (s.sound).log) in
        let h = head_is plan.sizes m log.0 r (own_tickets m.requests (s.sound).rising) (ap (head plan.sizes) (sym (memory_is m Empty log.0 no_block.phase no_block.hand log.1)) ∙ no_block.is_head) in
        let its : Write h.0 h.1 ≡ Write e payload = sym (h.2).op ∙ op in
        (subst (λ o. r.done < (extent_of o).count) its (h.2).left, subst (λ o. (extent_of o).first + r.done ≢ 0) its (h.2).not_0)

    write_answer : (e : Extent) (payload : List ℕ) (r : Request) (outcome : Outcome) (events : List Event) → r.op ≡ Write e payload → (HasNoBlock plan.sizes m r → MayBeFull plan p)
        → AnswerRow plan.sizes m r (Write e payload) outcome events → Answering (Write e payload) outcome r.done events
    write_answer e payload r outcome events op full (inl (refused, quiet)) =
        with_row _ outcome outcome _ [] events refl quiet (plain _ outcome _ [] p.flat none (write_refused plan p m.phase r.done (phase_is m.phase refl) e payload outcome refused) same)
    write_answer e payload r outcome events op full (inr (passed, inl (is, whole, quiet))) =
        with_row _ outcomes.Done outcome _ [] events is quiet (plain _ outcomes.Done _ [] p.flat none (proper_write plan.sizes m.phase e payload passed, whole, refl) same)
    write_answer e payload r outcome events op full (inr (passed, inr (inl (is, left, happens)))) =
        let event = Fails (e.first + r.done) (block_at plan.sizes.block_size payload r.done) in
        with_row _ (outcomes.DiskFault r.done) outcome _ (event ∷ []) events is happens
        (plain _ (outcomes.DiskFault r.done) _ (event ∷ []) (after n event p.flat) none
        (proper_write plan.sizes m.phase e payload passed, is_open (write_inside plan.sizes m.phase e payload passed).2, refl, left, (tt, refl)) (ap (after n event) same))
    write_answer e payload r outcome events op full (inr (passed, inr (inr (is, no_block, quiet)))) =
        let parts = head_left e payload r op no_block in
        with_row _ (outcomes.NoSpace r.done) outcome _ [] events is quiet (plain _ (outcomes.NoSpace r.done) _ [] p.flat none
        (proper_write plan.sizes m.phase e payload passed, phase_is Checkpoint no_block.phase, refl, parts.0, parts.1, full no_block, refl) same)

    discard_answer : (e : Extent) (r : Request) (outcome : Outcome) (events : List Event) → AnswerRow plan.sizes m r (Discard e) outcome events → Answering (Discard e) outcome r.done events
    discard_answer e r outcome events (inl (refused, quiet)) =
        with_row _ outcome outcome _ [] events refl quiet (plain _ outcome _ [] p.flat none (discard_refused plan p m.phase r.done (phase_is m.phase refl) e outcome refused) same)
    discard_answer e r outcome events (inr (passed, (is, happens))) =
        let parts = discard_inside plan.sizes m.phase e passed in
        with_row _ outcomes.Done outcome _ (Discards e ∷ []) events is happens
        (plain _ outcomes.Done _ (Discards e ∷ []) (after n (Discards e) p.flat) none (parts.0, is_open parts.1, (tt, refl)) (ap (after n (Discards e)) same))

    flush_answer : (r : Request) (outcome : Outcome) (events : List Event) → AnswerRow plan.sizes m r Flush outcome events → Answering Flush outcome r.done events
    flush_answer r outcome events (inl (refused, quiet)) =
        with_row _ outcome outcome _ [] events refl quiet (plain _ outcome _ [] p.flat none (flush_refused plan p m.phase r.done (phase_is m.phase refl) outcome refused) same)
    flush_answer r outcome events (inr (passed, inl (is, happens))) =
        with_row _ outcomes.Done outcome _ (Flushes ∷ []) events is happens (plain _ outcomes.Done _ (Flushes ∷ []) (after n Flushes p.flat) none (is_open passed, (tt, refl)) (ap (after n Flushes) same))
    flush_answer r outcome events (inr (passed, inr (is, quiet))) =
        with_row _ (outcomes.DiskFault 0) outcome _ [] events is quiet (plain _ (outcomes.DiskFault 0) _ [] p.flat none (refl, refl) same)

  -- ----------------------------------------------------------------------------------------------------------------
  -- A command.

  module _ (none : new ≡ NoDeed) (lags : Lags n m.hand f p.flat) where
    -- with nothing in hand it does not lag
    same_if : m.hand ≡ Empty → f ≡ p.flat
    same_if empty = subst (λ hand. Lags n hand f p.flat) empty lags

    its_phase : (phase : Phase) → m.phase ≡ phase → f ≡ p.flat → p.flat.phase ≡ phase
    its_phase phase at same = ap (λ (h : Flat). h.phase) (sym same) ∙ s.phases ∙ at

    -- fewer than two blocks are free
    few_trimmed : m.phase ≡ Trim → count_of is_free m.kinds < 2 → count_below f.trim n < 2
    few_trimmed is few = go m.log (subst (λ phase. Kept plan.sizes m now may f phase m.log) is (held plan.sizes m now may f s).kept)
      where
        go : (log : Option Generation) → Kept plan.sizes m now may f Trim log → count_below f.trim n < 2
        go None k = omega (arith, count_trimmed plan.sizes m.kinds f.trim (s.sound).table k.1 (trim_0 f s.state (s.phases ∙ is)), few)
        go (Some log) k = absurd k

    -- a prepare that failed may have armed
    prepare_fault : (k : ℕ) → (m.phase ≡ Trim) ⊎ (m.phase ≡ Arming) → Row plan p Prepare (outcomes.DiskFault 0) k f
    prepare_fault k (inl at) = let same = lags_none n (deed_of m.hand) f p.flat Trim (s.phases ∙ at) (λ e. grind arith) (λ e. grind arith) lags in (refl, inl (its_phase Trim at same), inl same)
    prepare_fault k (inr at) = elim (lags_not_decided n (deed_of m.hand) f p.flat Arming (s.phases ∙ at) (λ e. grind arith) lags) [
      | inl same ↦ (refl, inr (its_phase Arming at same), inl same)
      | inr a ↦ (refl, inl a.1.0, inr (a.0, (a.1, a.2)))
    ]

    prepare_done : (k : ℕ) → m.phase ≡ Arming → Row plan p Prepare outcomes.Done k (after n Prepares f)
    prepare_done k at = elim (lags_not_decided n (deed_of m.hand) f p.flat Arming (s.phases ∙ at) (λ e. grind arith) lags) [
      | inl same ↦ inr (its_phase Arming at same, ap (after n Prepares) same)
      | inr a ↦ inl (a.0, (f, (a.1, a.2), (s.phases ∙ at, refl)))
    ]

    prepare_answer : (r : Request) (outcome : Outcome) (events : List Event) → AnswerRow plan.sizes m r Prepare outcome events → Answering Prepare outcome r.done events
    prepare_answer r outcome events (inl (refused, quiet)) = absurd (grind (arith, refused))
    prepare_answer r outcome events (inr (passed, inl (is, at, happens))) =
        with_row _ outcomes.Done outcome _ (Prepares ∷ []) events is happens (plain _ outcomes.Done _ (Prepares ∷ []) (after n Prepares f) none (prepare_done r.done at) refl)
    prepare_answer r outcome events (inr (passed, inr (inl (is, at, quiet)))) =
        with_row _ (outcomes.DiskFault 0) outcome _ [] events is quiet (plain _ (outcomes.DiskFault 0) _ [] f none (prepare_fault r.done at) refl)
    prepare_answer r outcome events (inr (passed, inr (inr (inl (is, no_two, quiet))))) =
        let same = same_if no_two.hand in
        with_row _ (outcomes.NoSpace 0) outcome _ [] events is quiet (plain _ (outcomes.NoSpace 0) _ [] p.flat none
        (refl, its_phase Trim no_two.phase same, subst (λ (h : Flat). count_below h.trim n < 2) same (few_trimmed no_two.phase no_two.few), refl) same)
    prepare_answer r outcome events (inr (passed, inr (inr (inr (is, empty, trim, arming, quiet))))) =
        let same = same_if empty in
        with_row _ (outcomes.WrongPhase m.phase) outcome _ [] events is quiet (plain _ (outcomes.WrongPhase m.phase) _ [] p.flat none (its_phase m.phase refl same, trim, arming, refl) same)

    -- the last act of a commit
    commit_ends : (k : ℕ) (events : List Event) → m.phase ≡ Deciding → EndsCommit m.hand events → Answering Commit outcomes.Done k events
    commit_ends k events at ends = go m.hand lags ends
      where
        go : (hand : Hand) → Lags n hand f p.flat → EndsCommit hand events → Answering Commit outcomes.Done k events
        go (Committing t false FlushesDecision) l happens =
            with_row _ outcomes.Done outcomes.Done _ (Commits ∷ []) events refl happens (plain _ outcomes.Done _ (Commits ∷ []) (after n Commits f) none (inl (f, (l.0, l.1), (s.phases ∙ at, refl))) refl)
        go (Committing t true FlushesDecision) l happens =
            with_row _ outcomes.Done outcomes.Done _ (Flushes ∷ Commits ∷ []) events refl happens (plain _ outcomes.Done _ (Flushes ∷ Commits ∷ []) (after n Commits (after n Flushes f)) none
            (inr (its_phase Deciding at l, (after n Flushes f, (tt, ap (after n Flushes) l), (s.phases ∙ at, refl)))) refl)
        go (Committing t again FlushesAll) l ends = absurd ends
        go (Committing t again ReadsCurrent) l ends = absurd ends
        go (Committing t again (WritesBlock0 x)) l ends = absurd ends
        go (Preparing t c b act) l ends = absurd ends
        go (Batching b) l ends = absurd ends
        go Empty l ends = absurd ends

    -- a commit that failed may have decided
    commit_fault : (k : ℕ) → (m.phase ≡ Checkpoint) ⊎ (m.phase ≡ Deciding) → Row plan p Commit (outcomes.DiskFault 0) k f
    commit_fault k (inl at) = let same = lags_none n (deed_of m.hand) f p.flat Checkpoint (s.phases ∙ at) (λ e. grind arith) (λ e. grind arith) lags in (refl, inl (its_phase Checkpoint at same), inl same)
    commit_fault k (inr at) = elim (lags_not_armed n (deed_of m.hand) f p.flat Deciding (s.phases ∙ at) (λ e. grind arith) lags) [
      | inl same ↦ (refl, inr (its_phase Deciding at same), inl same)
      | inr d ↦ (refl, inl d.0, inr (d.0, d.1))
    ]

    commit_answer : (r : Request) (outcome : Outcome) (events : List Event) → AnswerRow plan.sizes m r Commit outcome events → Answering Commit outcome r.done events
    commit_answer r outcome events (inl (refused, quiet)) = absurd (grind (arith, refused))
    commit_answer r outcome events (inr (passed, inl (is, at, ends))) = with_row _ outcomes.Done outcome _ events events is refl (commit_ends r.done events at ends)
    commit_answer r outcome events (inr (passed, inr (inl (is, inl (at, deciding, happens))))) =
        let same = lags_none n (deed_of m.hand) f p.flat Checkpoint (s.phases ∙ at) (λ e. grind arith) (λ e. grind arith) lags in
        with_row _ (outcomes.DiskFault 0) outcome _ (Decides ∷ []) events is happens (plain _ (outcomes.DiskFault 0) _ (Decides ∷ []) (after n Decides f) none
        (refl, inl (its_phase Checkpoint at same), inr (its_phase Checkpoint at same, ap (after n Decides) same)) refl)
    commit_answer r outcome events (inr (passed, inr (inl (is, inr (at, quiet))))) =
        with_row _ (outcomes.DiskFault 0) outcome _ [] events is quiet (plain _ (outcomes.DiskFault 0) _ [] f none (commit_fault r.done at) refl)
    commit_answer r outcome events (inr (passed, inr (inr (is, empty, checkpoint, deciding, quiet)))) =
        let same = same_if empty in
        with_row _ (outcomes.WrongPhase m.phase) outcome _ [] events is quiet (plain _ (outcomes.WrongPhase m.phase) _ [] p.flat none (its_phase m.phase refl same, checkpoint, deciding, refl) same)

  -- ----------------------------------------------------------------------------------------------------------------

  -- by what was asked for
  pub answer_row : (op : Op) (r : Request) (outcome : Outcome) (events : List Event) → r.op ≡ op → (HasNoBlock plan.sizes m r → MayBeFull plan p) → Lags n m.hand f p.flat
      → AnsweredDeed op (deed_of m.hand) new → AnswerRow plan.sizes m r op outcome events → Answering op outcome r.done events
  answer_row (Read e q) r outcome events op full lags deed row = read_answer e q r outcome events (subst (λ d. LagsBy n d f p.flat) (sym deed) lags) row
  answer_row (Write e q) r outcome events op full lags deed row = write_answer deed.1 (subst (λ d. LagsBy n d f p.flat) deed.0 lags) e q r outcome events op full row
  answer_row (Discard e) r outcome events op full lags deed row = discard_answer deed.1 (subst (λ d. LagsBy n d f p.flat) deed.0 lags) e r outcome events row
  answer_row Flush r outcome events op full lags deed row = flush_answer deed.1 (subst (λ d. LagsBy n d f p.flat) deed.0 lags) r outcome events row
  answer_row Prepare r outcome events op full lags deed row = prepare_answer deed lags r outcome events row
  answer_row Commit r outcome events op full lags deed row = commit_answer deed lags r outcome events row
