-- What each act of a prepare does to what the machine stands for, with nothing said of what is in hand.
use Rattle.std.proofs.Common.{ℕ, zero, suc, ◌<◌, ◌≡◌, ◌≢◌, ◌⊎◌, Bool, true, false, not, List, [], ◌∷◌, length, Option, Some, None, arith, refl, sym, ap, ◌∙◌, subst, subst₂, inl, inr, Contains}
use Rattle.std.proofs.lemmas.Bool.{cases_eq}
use Rattle.bow_units.specs.declared.sizes.Geometry.{Geometry}
use Rattle.bow_units.specs.declared.requests.Phase.{Phase}
use Rattle.bow_units.specs.declared.requests.Phase.TheVariants.{Trim, Arming, Checkpoint}
use Rattle.bow_units.specs.declared.statuses.Kind.{Kind}
use Rattle.bow_units.specs.declared.statuses.Kind.TheVariants as kinds
use Rattle.bow_log.specs.Generations.{Generation, IsGeneration}
use Rattle.bow_chain.specs.Contents.{Contents}
use Rattle.bow_chain.specs.Sound.{log_in, sum_at}
use Rattle.bow_flat.specs.Flat.{Flat, May, is_any, narrowed, after, Allows, count_below}
use Rattle.bow_flat.specs.Flat.Event.{Arms, Prepares}
use Rattle.bow_flat.specs.Valid.{IsState, IsPlainList}
use Rattle.bow_flat.proofs.Valid.{stays_valid}
use Rattle.bow_guard.specs.Cuts.{Candidates, IsFlushed}
use Rattle.bow_guard.specs.Device.{Device}
use Rattle.bow_guard.specs.Phases.{IsPending, IsArming}
use Rattle.bow_guard.proofs.PhaseActs.{pending_kept, arms, arms_written, arms_flushed}
use Rattle.bow_ranges.specs.Kinds.{kind_at, is_free, count_of}
use Rattle.bow_queue.specs.declared.tickets.Ticket.{Ticket}
use Rattle.bow_machine.proofs.Known.{may_narrowed, narrowed_none}
use Rattle.bow_machine.specs.Memory.{Memory, Empty, place_with}
use Rattle.bow_machine.specs.Calls.{WriteTried}
use Rattle.bow_machine.specs.Tasks.{spelling}
use Rattle.bow_machine.specs.Steps.{log_or_blank, log_of_memory, armed, first_log, copy_entry}
use Rattle.bow_machine.specs.MemoryIsSound.{PicksHeld}
use Rattle.bow_machine.proofs.Held.{device_of, IsTrimmed, IsHidden, IsKept, Kept, IsHeld}
use Rattle.bow_machine.proofs.Counts.{none_counted, count_trimmed, free_two, taken_c, taken_b, taken_other}
use Rattle.bow_machine.proofs.Spelled.{spelled}
use Rattle.bow_machine.specs.MemoryIsSound.{LogIsSound, is_touched}
use Rattle.bow_machine.proofs.FirstLogs.{still_untouched, armed_log, armed_table}
use Rattle.bow_machine.proofs.Hands.{emptied, kept_over}

not_free_0 : (k : Kind) → k ≡ kinds.Sector0 → k ≡ kinds.Free → ⊥
not_free_0 k zeroth free = grind arith

-- a block of these kinds is not hidden
not_hidden : (k : Kind) → IsHidden k → (k ≡ kinds.Sector0) ⊎ (k ≡ kinds.Unchanged) → ⊥
not_hidden k hidden other = grind arith

-- a block other than 0 lies where its number says
pub place_above : (log : Option Generation) (x : ℕ) → 0 < x → place_with log x ≡ x
place_above None x above = refl
place_above (Some log) x above = grind arith

known : (c : Option (List (List ℕ))) → IsPlainList c → c ≡ None → ⊥
known c plain none = subst IsPlainList none plain

module _ (g : Geometry) where
  -- what is kept in Trim
  pub trim_facts : (m : Memory) (now : Contents) (may : Candidates) (f : Flat) (log : Option Generation) → Kept g m now may f Trim log → (log ≡ None) × IsPending g f may × IsTrimmed g m.kinds f.trim
  trim_facts m now may f None k = (refl, k.0, k.1)
  trim_facts m now may f (Some log) k = absurd k

  -- and in Arming
  pub arming_facts : (m : Memory) (now : Contents) (may : Candidates) (f : Flat) (log : Option Generation) → Kept g m now may f Arming log → (l : Generation) × (log ≡ Some l) × IsKept g m now may f Arming l
  arming_facts m now may f None k = absurd k
  arming_facts m now may f (Some log) k = (log, refl, k)

  module _ (m : Memory) (now : Contents) (may : Candidates) (f : Flat) (k : IsHeld g (emptied m) now may f) where
    in_trim : m.phase ≡ Trim → (m.log ≡ None) × IsPending g f may × IsTrimmed g m.kinds f.trim
    in_trim is = trim_facts (emptied m) now may f m.log (subst (λ p. Kept g (emptied m) now may f p m.log) is k.kept)

    in_arming : m.phase ≡ Arming → (l : Generation) × (m.log ≡ Some l) × IsKept g (emptied m) now may f Arming l
    in_arming is = arming_facts (emptied m) now may f m.log (subst (λ p. Kept g (emptied m) now may f p m.log) is k.kept)

    some : 0 < g.blocks
    some = omega (arith, k.memory.sizes.enough)

    pub above_0 : (b : ℕ) → kind_at m.kinds b ≡ kinds.Free → 0 < b
    above_0 zero free = absurd (not_free_0 (kind_at m.kinds 0) k.memory.table.zeroth free)
    above_0 (suc b) free = omega arith

    -- of a block that is free in Trim nothing is known
    unknown : m.phase ≡ Trim → (b : ℕ) → b < g.blocks → kind_at m.kinds b ≡ kinds.Free → (f.trim b ≡ true) × (f.current b ≡ None) × (f.pending b ≡ None)
    unknown is b on free = elim ((in_trim is).2 b (above_0 b free) on) [
      | inl yes_free ↦ let none = k.state.discarded (k.phases ∙ is) b yes_free.0 in (yes_free.0, none.0, none.1)
      | inr used ↦ absurd (let clash : kinds.Free ≡ kinds.Unchanged = sym free ∙ used.1 in grind arith)
    ]

    not_trimmed_0 : m.phase ≡ Trim → f.trim 0 ≡ false
    not_trimmed_0 is = go (f.trim 0) refl
      where
        go : (t : Bool) → f.trim 0 ≡ t → t ≡ false
        go false e = refl
        go true e = absurd (known (f.current 0) k.state.current_0 (k.state.discarded (k.phases ∙ is) 0 e).0)

    -- a copy of block 0 is written to a free block, or the write fails
    pub free_written : (new_now : Contents) (new_may : Candidates) (b : ℕ) (content : List ℕ) → m.phase ≡ Trim → b < g.blocks → kind_at m.kinds b ≡ kinds.Free → WriteTried b content now new_now may new_may → IsHeld g (emptied m) new_now new_may f
    free_written new_now new_may b content is on free tried = record {
      memory = k.memory;
      state = k.state;
      phases = k.phases;
      held = λ x inside. elim (cases_eq x b) [
        | inl same ↦ subst (λ y. Contains (new_may y) (new_now y)) (sym same) tried.held
        | inr ne ↦ subst₂ (λ vs v. Contains vs v) (sym (tried.given.others_may x ne)) (sym (tried.given.others_now x ne)) (k.held x inside)
      ];
      shown = λ x inside. subst (λ l. May (f.current x) (new_now (place_with l x))) (sym t.0) (elim (cases_eq x b) [
        | inl same ↦ subst (λ c. May c (new_now x)) (sym (ap f.current same ∙ none.1)) tt
        | inr ne ↦ subst (May (f.current x)) (sym (tried.given.others_now x ne)) (subst (λ l. May (f.current x) (now (place_with l x))) t.0 (k.shown x inside))
      ]);
      kept = subst₂ (λ p l. Kept g (emptied m) new_now new_may f p l) (sym is) (sym t.0) (pending_kept g f b content now new_now may new_may none.2 tried.given t.1, t.2);
      in_hand = tt;
    }
      where
        t : (m.log ≡ None) × IsPending g f may × IsTrimmed g m.kinds f.trim
        t = in_trim is

        none : (f.trim b ≡ true) × (f.current b ≡ None) × (f.pending b ≡ None)
        none = unknown is b on free

  -- the two copies of block 0 are durable: the phase is Arming
  module _ (m : Memory) (now : Contents) (may new_may : Candidates) (f : Flat) (ticket : Ticket) (c b : ℕ) (content : List ℕ)
      (k : IsHeld g (emptied m) now may f) (p : PicksHeld g m c b) (read : content ≡ now 0) (wrote_c : now c ≡ content) (wrote_b : now b ≡ content) (flushed : IsFlushed g now new_may) where
    abbrev next : Memory
    next = emptied (armed m ticket c b content)

    abbrev first : Generation
    first = first_log c b content

    abbrev arming : Flat
    arming = after g.blocks (Arms now) f

    abbrev device : Device
    device = device_of next first [] first [] now new_may

    facts : (m.log ≡ None) × IsPending g f may × IsTrimmed g m.kinds f.trim
    facts = in_trim m now may f k p.phase

    c_long : c < length m.kinds
    c_long = omega (arith, p.c_inside, k.memory.table.size)

    b_long : b < length m.kinds
    b_long = omega (arith, p.b_inside, k.memory.table.size)

    c_above : 0 < c
    c_above = above_0 m now may f k c p.c_free

    b_above : 0 < b
    b_above = above_0 m now may f k b p.b_free

    shows : (x : ℕ) → x < g.blocks → May (f.current x) (now x)
    shows x inside = subst (λ l. May (f.current x) (now (place_with l x))) facts.0 (k.shown x inside)

    counted : count_below f.trim g.blocks ≡ count_of is_free m.kinds
    counted = count_trimmed g m.kinds f.trim k.memory.table facts.2 (not_trimmed_0 m now may f k p.phase)

    pub arms_allowed : Allows g.blocks (Arms now) f
    arms_allowed = (k.phases ∙ p.phase, omega (arith, counted, free_two m.kinds c b c_long b_long p.apart p.c_free p.b_free), shows)

    -- the kinds from then on
    kinds_now : (x : ℕ) → x < g.blocks
        → ((x ≡ 0) × (kind_at next.kinds x ≡ kinds.Sector0)) ⊎ (((x ≡ c) × (kind_at next.kinds x ≡ kinds.Current)) ⊎ (((x ≡ b) × (kind_at next.kinds x ≡ kinds.Backup))
        ⊎ (((f.trim x ≡ true) × (kind_at next.kinds x ≡ kinds.Free)) ⊎ ((f.trim x ≡ false) × (kind_at next.kinds x ≡ kinds.Unchanged)))))
    kinds_now x inside = elim (cases_eq x c) [
      | inl is_c ↦ inr (inl (is_c, ap (kind_at next.kinds) is_c ∙ taken_c m.kinds c b c_long b_long p.apart p.c_free p.b_free))
      | inr not_c ↦ elim (cases_eq x b) [
        | inl is_b ↦ inr (inr (inl (is_b, ap (kind_at next.kinds) is_b ∙ taken_b m.kinds c b c_long b_long p.apart p.c_free p.b_free)))
        | inr not_b ↦
            let same = taken_other m.kinds c b c_long b_long p.apart p.c_free p.b_free x not_c not_b in
            elim (cases_eq x 0) [
              | inl zeroth ↦ inl (zeroth, same ∙ ap (kind_at m.kinds) zeroth ∙ k.memory.table.zeroth)
              | inr above ↦ elim (facts.2 x (omega (arith, above)) inside) [ inl free ↦ inr (inr (inr (inl (free.0, same ∙ free.1)))) | inr used ↦ inr (inr (inr (inr (used.0, same ∙ used.1)))) ]
            ]
      ]
    ]

    nothing : (x : ℕ) → x < g.blocks → kind_at m.kinds x ≡ kinds.Free → (f.current x ≡ None) × (f.pending x ≡ None)
    nothing x inside free = let u = unknown m now may f k p.phase x inside free in (u.1, u.2)

    no_current : (x : ℕ) → x < g.blocks → IsHidden (kind_at next.kinds x) → f.current x ≡ None
    no_current x inside hidden = elim (kinds_now x inside) [
      | inl zeroth ↦ absurd (not_hidden (kind_at next.kinds x) hidden (inl zeroth.1))
      | inr (inl is_c) ↦ ap f.current is_c.0 ∙ (nothing c p.c_inside p.c_free).0
      | inr (inr (inl is_b)) ↦ ap f.current is_b.0 ∙ (nothing b p.b_inside p.b_free).0
      | inr (inr (inr (inl free))) ↦ (k.state.discarded (k.phases ∙ p.phase) x free.0).0
      | inr (inr (inr (inr used))) ↦ absurd (not_hidden (kind_at next.kinds x) hidden (inr used.1))
    ]

    -- in Trim each block but 0 is free or unchanged
    free_or_not : (x : ℕ) → 0 < x → x < g.blocks → (kind_at m.kinds x ≡ kinds.Free) ⊎ (kind_at m.kinds x ≡ kinds.Unchanged)
    free_or_not x above inside = elim (facts.2 x above inside) [ inl free ↦ inl free.1 | inr used ↦ inr used.1 ]

    sound_log : LogIsSound g next.kinds false (count_of is_free m.kinds) 0 first
    sound_log = armed_log g m c b k.memory.sizes k.memory.table free_or_not p content

    not_saved : (x : ℕ) → x < g.blocks → kind_at next.kinds x ≢ kinds.Saved
    not_saved x inside saved =
        let none : is_touched (kind_at next.kinds x) ≡ false = none_counted is_touched next.kinds x (still_untouched g m c b k.memory.sizes k.memory.table free_or_not p) (omega (arith, (armed_table g m c b k.memory.sizes k.memory.table free_or_not p).size, inside)) in
        let clash : true ≡ false = ap is_touched (sym saved) ∙ none in absurd (grind arith)

    sums : sum_at 0 (now b ∷ []) ≡ sum_at 0 (content ∷ [])
    sums = ap (λ v. sum_at 0 (v ∷ [])) wrote_b

    unchanged : (x : ℕ) → 0 < x → x < g.blocks → not (is_any (f.current x)) ≡ true → (kind_at next.kinds x ≡ kinds.Unchanged) × (device.picked x ≡ false)
    unchanged x above inside listed = elim (kinds_now x inside) [
      | inr (inr (inr (inr used))) ↦ (used.1, grind arith)
      | inl zeroth ↦ absurd (omega (arith, above, zeroth.0))
      | inr (inl is_c) ↦ absurd (gone (no_current x inside (inr (inr is_c.1))))
      | inr (inr (inl is_b)) ↦ absurd (gone (no_current x inside (inr (inl is_b.1))))
      | inr (inr (inr (inl free))) ↦ absurd (gone (no_current x inside (inl free.1)))
    ]
      where
        gone : f.current x ≡ None → ⊥
        gone none = let e : false ≡ true = ap (λ c. not (is_any c)) (sym none) ∙ listed in absurd (grind arith)

    new_kept : IsKept g next now new_may arming Arming first
    new_kept = record {
      older = [];
      clean_log = first;
      clean_older = [];
      leaves = arms g f g.blocks device (copy_entry 0 b 1 (content ∷ [])) flushed refl zeroth sound_log.generation refl refl refl refl sums (taken_b m.kinds c b c_long b_long p.apart p.c_free p.b_free) (grind arith) (wrote_b ∙ read) unchanged;
      clean = λ is. absurd (grind arith);
      arming = λ is. (record { log = refl; older = refl }, not_saved);
      sound = sound_log;
      hidden = λ x inside is. let none = narrowed_none (f.current x) (now x) (no_current x inside is) in (none, none);
      trimmed = counted;
    }
      where
        zeroth : kind_at next.kinds 0 ≡ kinds.Sector0
        zeroth = taken_other m.kinds c b c_long b_long p.apart p.c_free p.b_free 0 (λ e. omega (arith, e, c_above)) (λ e. omega (arith, e, b_above)) ∙ k.memory.table.zeroth

    pub arms_stands : IsHeld g next now new_may arming
    arms_stands = record {
      memory = record { sizes = k.memory.sizes; table = armed_table g m c b k.memory.sizes k.memory.table free_or_not p; requests = k.memory.requests; tickets = k.memory.tickets };
      state = stays_valid g.blocks (Arms now) f k.state arms_allowed tt;
      phases = refl;
      held = λ x inside. subst (λ vs. Contains vs (now x)) (sym (flushed x inside)) (0, omega arith, refl);
      shown = show;
      kept = new_kept;
      in_hand = tt;
    }
      where
        show : (x : ℕ) → x < g.blocks → May (narrowed (f.current x) (now x)) (now (place_with (Some first) x))
        show zero inside = subst (λ v. May (narrowed (f.current 0) (now 0)) v) (sym (wrote_c ∙ read)) (may_narrowed (f.current 0) (now 0))
        show (suc x) inside = subst (λ y. May (narrowed (f.current (suc x)) (now (suc x))) (now y)) (sym (place_above (Some first) (suc x) (omega arith))) (may_narrowed (f.current (suc x)) (now (suc x)))

  -- no log's block lies in block 0
  pub place_not_0 : (log : Generation) → IsGeneration g log → (x : ℕ) → place_with (Some log) x ≢ 0
  place_not_0 log is zero e = omega (arith, is.current_not_0, e)
  place_not_0 log is (suc x) e = let same = place_above (Some log) (suc x) (omega arith) in omega (arith, same, e)

  module _ (m : Memory) (now new_now : Contents) (may new_may : Candidates) (f : Flat) (k : IsHeld g (emptied m) now may f) where
    -- after a write of block 0 each block holds one of its candidates, and shows what it did
    pub held_0 : (content : List ℕ) → WriteTried 0 content now new_now may new_may → (x : ℕ) → x < g.blocks → Contains (new_may x) (new_now x)
    held_0 content tried x inside = elim (cases_eq x 0) [
      | inl same ↦ subst (λ y. Contains (new_may y) (new_now y)) (sym same) tried.held
      | inr ne ↦ subst₂ (λ vs v. Contains vs v) (sym (tried.given.others_may x ne)) (sym (tried.given.others_now x ne)) (k.held x inside)
    ]

    pub shown_0 : (content : List ℕ) (log : Generation) → IsGeneration g log → m.log ≡ Some log → WriteTried 0 content now new_now may new_may → (x : ℕ) → x < g.blocks → May (f.current x) (new_now (place_with m.log x))
    shown_0 content log is same tried x inside = subst (May (f.current x)) (sym (tried.given.others_now (place_with m.log x) (subst (λ l. place_with l x ≢ 0) (sym same) (place_not_0 log is x)))) (k.shown x inside)

    -- so it stands in the phase and for the state that the write leads to, where that reads as before
    pub written_0 : (content : List ℕ) (phase : Phase) (h : Flat) (log : Generation) → WriteTried 0 content now new_now may new_may → IsGeneration g log → m.log ≡ Some log → IsState h → h.phase ≡ phase → h.current ≡ f.current
        → Kept g (record m { phase = phase; hand = Empty }) new_now new_may h phase (Some log) → IsHeld g (record m { phase = phase; hand = Empty }) new_now new_may h
    written_0 content phase h log tried valid some state at current kept = record {
      memory = k.memory;
      state = state;
      phases = at;
      held = held_0 content tried;
      shown = λ x inside. subst (λ (c : ℕ → Option (List (List ℕ))). May (c x) (new_now (place_with m.log x))) (sym current) (shown_0 content log valid some tried x inside);
      kept = subst (λ l. Kept g (record m { phase = phase; hand = Empty }) new_now new_may h phase l) (sym some) kept;
      in_hand = tt;
    }

    -- the first log is written, or the write fails
    pub first_written : m.phase ≡ Arming → WriteTried 0 (spelling g (log_of_memory m)) now new_now may new_may → IsHeld g (emptied m) new_now new_may f
    first_written is tried =
        written_0 (spelling g (log_of_memory m)) m.phase f log tried valid a.1 k.state k.phases refl
        (subst (λ p. Kept g (emptied m) new_now new_may f p (Some log)) (sym is) (kept_over g (emptied m) log now new_now may new_may f f Arming Arming m.phase (λ x. x) (λ b none. none) refl a.2 written))
      where
        a : (l : Generation) × (m.log ≡ Some l) × IsKept g (emptied m) now may f Arming l
        a = in_arming m now may f k is

        log : Generation
        log = a.0

        valid : IsGeneration g log
        valid = a.2.leaves.log.behind.valid

        spells : log_in g (spelling g (log_of_memory m)) ≡ Some log
        spells = ap (λ l. log_in g (spelling g (log_or_blank l))) a.1 ∙ spelled g log k.memory.sizes valid a.2.sound.fits

        written : IsArming g f (device_of (emptied m) log a.2.older a.2.clean_log a.2.clean_older new_now new_may)
        written = arms_written g f (device_of (emptied m) log a.2.older a.2.clean_log a.2.clean_older now may) new_now new_may (spelling g (log_of_memory m)) spells tried.given a.2.leaves

  -- what block 0 then holds
  pub first_spelled : (m : Memory) (now : Contents) (may : Candidates) (f : Flat) → IsHeld g (emptied m) now may f → m.phase ≡ Arming → (log : Generation) → m.log ≡ Some log → log_in g (spelling g (log_of_memory m)) ≡ Some log
  first_spelled m now may f k is log same =
      let a = in_arming m now may f k is in
      ap (λ l. log_in g (spelling g (log_or_blank l))) a.1 ∙ spelled g a.0 k.memory.sizes a.2.leaves.log.behind.valid a.2.sound.fits ∙ sym a.1 ∙ same

  -- the first log is durable, and with it the checkpoint
  pub first_flushed : (m : Memory) (now : Contents) (may new_may : Candidates) (f : Flat) → IsHeld g (emptied m) now may f → m.phase ≡ Arming → ((log : Generation) → m.log ≡ Some log → log_in g (now 0) ≡ Some log) → IsFlushed g now new_may
      → IsHeld g (record m { phase = Checkpoint; hand = Empty; clean = true }) now new_may (after g.blocks Prepares f)
  first_flushed m now may new_may f k is given flushed = record {
    memory = k.memory;
    state = stays_valid g.blocks Prepares f k.state (k.phases ∙ is) tt;
    phases = refl;
    held = λ x inside. subst (λ vs. Contains vs (now x)) (sym (flushed x inside)) (0, omega arith, refl);
    shown = k.shown;
    kept = subst (λ l. Kept g prepared now new_may (after g.blocks Prepares f) Checkpoint l) (sym a.1) kept;
    in_hand = tt;
  }
    where
      a : (l : Generation) × (m.log ≡ Some l) × IsKept g (emptied m) now may f Arming l
      a = in_arming m now may f k is

      prepared : Memory
      prepared = record m { phase = Checkpoint; hand = Empty; clean = true }

      kept : IsKept g (record m { phase = Checkpoint; hand = Empty; clean = true }) now new_may (after g.blocks Prepares f) Checkpoint a.0
      kept = record {
        older = a.2.older;
        clean_log = a.0;
        clean_older = a.2.older;
        leaves = arms_flushed g f (device_of (emptied m) a.0 a.2.older a.2.clean_log a.2.clean_older now may) (device_of (record m { phase = Checkpoint; hand = Empty; clean = true }) a.0 a.2.older a.0 a.2.older now new_may)
            (λ x. refl) flushed (given a.0 a.1) refl refl (record { log = refl; older = refl }) (λ x ne. refl) (λ x. refl) a.2.leaves;
        clean = λ is. record { log = refl; older = refl };
        arming = λ is. absurd (grind arith);
        sound = record {
          own = a.2.sound.own;
          generation = a.2.sound.generation;
          fits = a.2.sound.fits;
          current = a.2.sound.current;
          only_current = a.2.sound.only_current;
          none_saved = λ is. (a.2.arming refl).1;
          room = a.2.sound.room;
          bounded = a.2.sound.bounded;
        };
        hidden = a.2.hidden;
        trimmed = a.2.trimmed;
      }
