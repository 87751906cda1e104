-- What the calls on the disk do to a machine that is led.
use Rattle.std.proofs.Common.{ℕ, ◌+◌, ◌<◌, ◌≤◌, ◌≡◌, ◌≢◌, ◌⊎◌, Bool, true, false, cond, List, [], ◌∷◌, ◌++◌, length, Option, Some, None, arith, refl, sym, ap, ◌∙◌, subst, inl, inr, Contains}
use Rattle.std.proofs.lemmas.Bool.{cases_eq}
use Rattle.std.proofs.lemmas.List.Elements.{Contains-append_left, Contains-append_right}
use Rattle.bow_units.specs.Magics.{HasMagic}
use Rattle.bow_units.specs.Sizes.{IsValid}
use Rattle.bow_units.specs.declared.sizes.Extent.{Extent}
use Rattle.bow_units.specs.declared.sizes.Geometry.{Geometry}
use Rattle.bow_units.specs.declared.requests.Phase.{Phase}
use Rattle.bow_units.specs.declared.requests.Phase.TheVariants.{Trim, Arming, Checkpoint, Deciding, Committed}
use Rattle.bow_units.specs.declared.statuses.Kind.{Kind}
use Rattle.bow_units.specs.declared.statuses.Kind.TheVariants.{Current, Backup}
use Rattle.bow_log.specs.Generations.{Generation}
use Rattle.bow_chain.specs.Contents.{Contents}
use Rattle.bow_chain.specs.Sound.{log_in}
use Rattle.bow_chain.proofs.Counting.{some_inj, spelled_ok}
use Rattle.bow_flat.specs.Flat.{Flat, May, added, put}
use Rattle.bow_guard.specs.Cuts.{Candidates, IsFlushed, WriteGiven}
use Rattle.bow_guard.specs.Phases.{IsPending}
use Rattle.bow_guard.proofs.Device.{one_of, given_cases}
use Rattle.bow_guard.proofs.Phases.{may_plain}
use Rattle.bow_ranges.specs.Kinds.{kind_at, with_kind, holds}
use Rattle.bow_machine.specs.Memory.{Memory}
use Rattle.bow_machine.proofs.Held.{Kept, IsHeld}
use Rattle.bow_machine.specs.Ahead.{Shows0, IsPlace0, BeginsLog, IsLedIn, IsLed}
use Rattle.bow_machine.proofs.Tables.{kind_with}
use Rattle.bow_machine.proofs.Mapped.{IsOpen}
use Rattle.bow_machine.proofs.MappedWrites.{put_there, may_put, may_none}

abbrev pub Known : Type 0
Known = Option (List (List ℕ))

pub may_old : (c : Option (List (List ℕ))) (v w : List ℕ) → May c w → May (added c v) w
may_old None v w h = tt
may_old (Some cs) v w h = Contains-append_left cs (v ∷ []) w h

pub may_new : (c : Option (List (List ℕ))) (v w : List ℕ) → w ≡ v → May (added c v) w
may_new None v w is = tt
may_new (Some cs) v w is = subst (λ y. Contains (cs ++ v ∷ []) y) (sym is) (Contains-append_right cs (v ∷ []) v (0, omega arith, refl))

place_not_open : (k : Kind) → IsPlace0 k → IsOpen k → ⊥
place_not_open k h o = grind arith

place_not_backup : (k : Kind) → IsPlace0 k → k ≢ Backup
place_not_backup k h e = grind arith

place_if : (t : Bool) (kind old : Kind) → IsPlace0 kind → IsPlace0 old → IsPlace0 (cond t kind old)
place_if true kind old a b = a
place_if false kind old a b = b

-- blocks that become current, or saved
pub place_with_kind : (table : List Kind) (e : Extent) (kind : Kind) (x : ℕ) → e.first + e.count ≤ length table → IsPlace0 kind → IsPlace0 (kind_at table x) → IsPlace0 (kind_at (with_kind table e kind) x)
place_with_kind table e kind x fits new old = subst IsPlace0 (sym (kind_with table e kind x fits)) (place_if (holds e x) kind (kind_at table x) new old)

-- one phase is not another
pub no_arming : {A : Type 0} (p : Phase) → p ≡ Checkpoint → p ≡ Arming → A
no_arming p is at = absurd (let clash : Checkpoint ≡ Arming = sym is ∙ at in grind arith)

pub no_deciding : {A : Type 0} (p : Phase) → p ≡ Checkpoint → p ≡ Deciding → A
no_deciding p is at = absurd (let clash : Checkpoint ≡ Deciding = sym is ∙ at in grind arith)

module _ (g : Geometry) (sizes : IsValid g) where
  -- where the current place of a log that a block spells is
  pub head_inside : (v : List ℕ) (head : Generation) → log_in g v ≡ Some head → head.current < g.blocks
  head_inside v head is = (spelled_ok g sizes v head is).current_inside

  pub head_not_0 : (v : List ℕ) (head : Generation) → log_in g v ≡ Some head → head.current ≢ 0
  head_not_0 v head is e = let above = (spelled_ok g sizes v head is).current_not_0 in omega (arith, above, e)

  -- A block other than 0 is written in Checkpoint: one that is open, and then the content is pending of it; or one of which nothing is
  -- pending.
  module _ (phase : Phase) (kinds : List Kind) (log : Option Generation) (now new_now : Contents) (may new_may : Candidates) (pending : ℕ → Option (List (List ℕ))) (b : ℕ) (v : List ℕ)
      (write : WriteGiven b v now new_now may new_may) (l : IsLedIn g phase kinds log now may pending) (above : b ≢ 0) (checkpoint : phase ≡ Checkpoint) where
    same_0 : new_may 0 ≡ may 0
    same_0 = write.others_may 0 (λ e. above (sym e))

    -- the places of block 0 are others
    elsewhere : (place : ℕ) → place ≢ b → Shows0 may pending place → Shows0 new_may pending place
    elsewhere place ne shows w h = shows w (subst (λ vs. Contains vs w) (write.others_may place ne) h)

    pub open_written : (new : List Kind) → IsOpen (kind_at kinds b) → ((x : ℕ) → x ≢ b → kind_at new x ≡ kind_at kinds x) → ((o : Generation) → log ≡ Some o → o.current ≢ b)
        → IsLedIn g phase new log new_now new_may (put pending b (added (pending b) v))
    open_written new is_open same apart = record {
      others = λ x up on w h. may_put pending b (added (pending b) v) x w
          (λ is. elim (given_cases b v now new_now may new_may w write (subst (λ y. Contains (new_may y) w) is h)) [
            | inl old ↦ may_old (pending b) v w (l.others b (subst (λ y. 0 < y) is up) (subst (λ y. y < g.blocks) is on) w old)
            | inr is ↦ may_new (pending b) v w is
          ])
          (λ ne. l.others x up on w (subst (λ vs. Contains vs w) (write.others_may x ne) h));
      heads = λ u head h magic spells.
          let old = l.heads u head (subst (λ vs. Contains vs u) same_0 h) magic spells in
          let ne : head.current ≢ b = λ e. place_not_open (kind_at kinds b) (subst (λ x. IsPlace0 (kind_at kinds x)) e old.0) is_open in
          (subst IsPlace0 (sym (same head.current ne)) old.0, still head.current (elsewhere head.current ne old.1));
      current = λ o some. still o.current (elsewhere o.current (apart o some) (l.current o some));
      arming = λ at. no_arming phase checkpoint at;
      led = λ is o some. ap (log_in g) (write.others_now 0 (λ e. above (sym e))) ∙ l.led is o some;
      deciding = λ at. no_deciding phase checkpoint at;
    }
      where
        still : (place : ℕ) → Shows0 new_may pending place → Shows0 new_may (put pending b (added (pending b) v)) place
        still place shows w h = subst (λ c. May c w) (sym (put_there pending b (added (pending b) v) 0 (λ e. above (sym e)))) (shows w h)

    pub hidden_written : kind_at kinds b ≡ Backup → pending b ≡ None → ((o : Generation) → log ≡ Some o → o.current ≢ b) → IsLedIn g phase kinds log new_now new_may pending
    hidden_written kind none apart = record {
      others = λ x up on w h. elim (cases_eq x b) [
        | inl is ↦ may_none (pending x) w (ap pending is ∙ none)
        | inr ne ↦ l.others x up on w (subst (λ vs. Contains vs w) (write.others_may x ne) h)
      ];
      heads = λ u head h magic spells.
          let old = l.heads u head (subst (λ vs. Contains vs u) same_0 h) magic spells in
          let ne : head.current ≢ b = λ e. place_not_backup (kind_at kinds b) (subst (λ x. IsPlace0 (kind_at kinds x)) e old.0) kind in
          (old.0, elsewhere head.current ne old.1);
      current = λ o some. elsewhere o.current (apart o some) (l.current o some);
      arming = λ at. no_arming phase checkpoint at;
      led = λ is o some. ap (log_in g) (write.others_now 0 (λ e. above (sym e))) ∙ l.led is o some;
      deciding = λ at. no_deciding phase checkpoint at;
    }

    -- the current place of block 0 itself, of which nothing is pending but for block 0
    pub place_written : pending b ≡ None → IsLedIn g phase kinds log new_now new_may (put pending 0 (added (pending 0) v))
    place_written none = record {
      others = λ x up on w h. may_put pending 0 (added (pending 0) v) x w (λ is. absurd (omega (arith, is, up)))
          (λ up_0. elim (cases_eq x b) [
            | inl is ↦ may_none (pending x) w (ap pending is ∙ none)
            | inr ne ↦ l.others x up on w (subst (λ vs. Contains vs w) (write.others_may x ne) h)
          ]);
      heads = λ u head h magic spells. let old = l.heads u head (subst (λ vs. Contains vs u) same_0 h) magic spells in (old.0, more head.current old.1);
      current = λ o some. more o.current (l.current o some);
      arming = λ at. no_arming phase checkpoint at;
      led = λ is o some. ap (log_in g) (write.others_now 0 (λ e. above (sym e))) ∙ l.led is o some;
      deciding = λ at. no_deciding phase checkpoint at;
    }
      where
        more : (place : ℕ) → Shows0 may pending place → Shows0 new_may (put pending 0 (added (pending 0) v)) place
        more place shows w h = may_put pending 0 (added (pending 0) v) 0 w
            (λ z. elim (cases_eq place b) [
              | inl is ↦ elim (given_cases b v now new_now may new_may w write (subst (λ y. Contains (new_may y) w) is h)) [
                | inl old ↦ may_old (pending 0) v w (shows w (subst (λ y. Contains (may y) w) (sym is) old))
                | inr new ↦ may_new (pending 0) v w new
              ]
              | inr ne ↦ may_old (pending 0) v w (shows w (subst (λ vs. Contains vs w) (write.others_may place ne) h))
            ])
            (λ ne. absurd (ne refl))

  -- Block 0 is written: a log, or what begins with no magic. The log in memory changes in Checkpoint alone.
  pub zeroth_written : (phase : Phase) (kinds new : List Kind) (log changed : Option Generation) (now new_now : Contents) (may new_may : Candidates) (pending : ℕ → Option (List (List ℕ))) (v : List ℕ)
      → WriteGiven 0 v now new_now may new_may → IsLedIn g phase kinds log now may pending
      → (phase ≢ Checkpoint → changed ≡ log) → (phase ≡ Deciding → HasMagic v → ⊥)
      → ((x : ℕ) → IsPlace0 (kind_at kinds x) → IsPlace0 (kind_at new x))
      → ((head : Generation) → BeginsLog phase v → log_in g v ≡ Some head → IsPlace0 (kind_at new head.current) × Shows0 may pending head.current)
      → ((o : Generation) → changed ≡ Some o → (o.current ≢ 0) × Shows0 may pending o.current)
      → (phase ≡ Checkpoint → (o : Generation) → changed ≡ Some o → log_in g (new_now 0) ≡ Some o)
      → IsLedIn g phase new changed new_now new_may pending
  zeroth_written phase kinds new log changed now new_now may new_may pending v write l same plain places given current led = record {
    others = λ x up on w h. l.others x up on w (subst (λ vs. Contains vs w) (write.others_may x (λ z. omega (arith, z, up))) h);
    heads = λ u head h begins spells. elim (given_cases 0 v now new_now may new_may u write h) [
      | inl old ↦ let was = l.heads u head old begins spells in (places head.current was.0, there head.current (head_not_0 u head spells) was.1)
      | inr is ↦ let was = given head (subst (BeginsLog phase) is begins) (ap (log_in g) (sym is) ∙ spells) in (was.0, there head.current (head_not_0 u head spells) was.1)
    ];
    current = λ o some. let c = current o some in there o.current c.0 c.1;
    arming = λ at o some.
        let ne = (current o some).0 in
        write.others_may o.current ne ∙ l.arming at o (sym (same (λ is. no_arming phase is at)) ∙ some) ∙ ap (λ u. u ∷ []) (sym (write.others_now o.current ne));
    led = led;
    deciding = λ at u head h magic spells. elim (given_cases 0 v now new_now may new_may u write h) [
      | inl old ↦ same (λ is. no_deciding phase is at) ∙ l.deciding at u head old magic spells
      | inr is ↦ absurd (plain at (subst HasMagic is magic))
    ];
  }
    where
      there : (place : ℕ) → place ≢ 0 → Shows0 may pending place → Shows0 new_may pending place
      there place ne shows w h = shows w (subst (λ vs. Contains vs w) (write.others_may place ne) h)

  -- The disk is flushed: what it holds was a candidate of each block.
  pub flushed_so : (phase : Phase) (kinds : List Kind) (log : Option Generation) (now : Contents) (may new_may : Candidates) (pending : ℕ → Option (List (List ℕ)))
      → ((b : ℕ) → b < g.blocks → Contains (may b) (now b)) → IsFlushed g now new_may → ((o : Generation) → log ≡ Some o → o.current < g.blocks)
      → IsLedIn g phase kinds log now may pending → IsLedIn g phase kinds log now new_may pending
  flushed_so phase kinds log now may new_may pending held flushed inside l = record {
    others = λ b up on v h. l.others b up on v (was b on v h);
    heads = λ v head h magic spells. let old = l.heads v head (was 0 (omega (arith, sizes.enough)) v h) magic spells in (old.0, λ w c. old.1 w (was head.current (head_inside v head spells) w c));
    current = λ o some w h. l.current o some w (was o.current (inside o some) w h);
    arming = λ at o some. flushed o.current (inside o some);
    led = l.led;
    deciding = λ at v head h magic spells. l.deciding at v head (was 0 (omega (arith, sizes.enough)) v h) magic spells;
  }
    where
      was : (b : ℕ) → b < g.blocks → (v : List ℕ) → Contains (new_may b) v → Contains (may b) v
      was b on v h = subst (Contains (may b)) (sym (one_of (now b) v (subst (λ vs. Contains vs v) (flushed b on) h))) (held b on)

  -- The disk is flushed with the log in memory in block 0, and what each block holds is pending.
  pub flushed_led : (phase : Phase) (kinds : List Kind) (log : Generation) (now : Contents) (new_may : Candidates) (pending : ℕ → Option (List (List ℕ)))
      → IsFlushed g now new_may → log_in g (now 0) ≡ Some log → log.current < g.blocks → kind_at kinds log.current ≡ Current
      → ((b : ℕ) → 0 < b → b < g.blocks → May (pending b) (now b)) → May (pending 0) (now log.current)
      → IsLedIn g phase kinds (Some log) now new_may pending
  flushed_led phase kinds log now new_may pending flushed spelled inside kind each zeroth = record {
    others = λ b up on v h. subst (May (pending b)) (sym (one b on v h)) (each b up on);
    heads = λ v head h begins spells. subst (λ (o : Generation). IsPlace0 (kind_at kinds o.current) × Shows0 new_may pending o.current) (same v head h spells) (inl kind, here);
    current = λ o some. subst (λ (o : Generation). Shows0 new_may pending o.current) (some_inj some) here;
    arming = λ at o some. subst (λ (o : Generation). new_may o.current ≡ now o.current ∷ []) (some_inj some) (flushed log.current inside);
    led = λ is o some. spelled ∙ some;
    deciding = λ at v head h magic spells. ap Some (same v head h spells);
  }
    where
      one : (b : ℕ) → b < g.blocks → (v : List ℕ) → Contains (new_may b) v → v ≡ now b
      one b on v h = one_of (now b) v (subst (λ vs. Contains vs v) (flushed b on) h)

      same : (v : List ℕ) (head : Generation) → Contains (new_may 0) v → log_in g v ≡ Some head → log ≡ head
      same v head h spells = some_inj (sym spelled ∙ ap (log_in g) (sym (one 0 (omega (arith, sizes.enough)) v h)) ∙ spells)

      here : Shows0 new_may pending log.current
      here w h = subst (May (pending 0)) (sym (one log.current inside w h)) zeroth

  -- Kinds of other blocks change.
  pub kinds_led : (phase : Phase) (kinds new : List Kind) (log : Option Generation) (now : Contents) (may : Candidates) (pending : ℕ → Option (List (List ℕ)))
      → ((x : ℕ) → x < g.blocks → IsPlace0 (kind_at kinds x) → IsPlace0 (kind_at new x)) → IsLedIn g phase kinds log now may pending → IsLedIn g phase new log now may pending
  kinds_led phase kinds new log now may pending places l = record {
    others = l.others;
    heads = λ v head h magic spells. let old = l.heads v head h magic spells in (places head.current (head_inside v head spells) old.0, old.1);
    current = l.current;
    arming = l.arming;
    led = l.led;
    deciding = l.deciding;
  }

-- In Trim and once committed, each candidate of block 0 begins with no magic, and each candidate is pending.
pub plain_led : (g : Geometry) (m : Memory) (now : Contents) (may : Candidates) (f : Flat) → IsHeld g m now may f → (m.phase ≡ Trim) ⊎ (m.phase ≡ Committed) → IsLed g m now may f
plain_led g m now may f s is = go m.phase is refl m.log refl s.kept
  where
    made : m.phase ≢ Checkpoint → m.log ≡ None → IsPending g f may → IsLed g m now may f
    made other none pending = record {
      others = λ b up on v h. pending b on v h;
      heads = λ v head h begins spells. elim begins [ inl at ↦ absurd (other at) | inr magic ↦ absurd (plain v h magic) ];
      current = λ l some. absurd (let clash : None ≡ Some l = sym none ∙ some in grind arith);
      arming = λ at l some. absurd (let clash : None ≡ Some l = sym none ∙ some in grind arith);
      led = λ at l some. absurd (other at);
      deciding = λ at v head h magic spells. absurd (plain v h magic);
    }
      where
        plain : (v : List ℕ) → Contains (may 0) v → HasMagic v → ⊥
        plain v h = may_plain (f.pending 0) v s.state.pending_0 (pending 0 (omega (arith, s.memory.sizes.enough)) v h)

    go : (p : Phase) → (p ≡ Trim) ⊎ (p ≡ Committed) → m.phase ≡ p → (o : Option Generation) → m.log ≡ o → Kept g m now may f p o → IsLed g m now may f
    go Trim is at None none k = made (λ c. absurd (let clash : Trim ≡ Checkpoint = sym at ∙ c in grind arith)) none k.0
    go Trim is at (Some l) some k = absurd k
    go Committed is at None none k = made (λ c. absurd (let clash : Committed ≡ Checkpoint = sym at ∙ c in grind arith)) none k.0
    go Committed is at (Some l) some k = absurd k
    go Arming is at o some k = absurd (grind arith)
    go Checkpoint is at o some k = absurd (grind arith)
    go Deciding is at o some k = absurd (grind arith)
