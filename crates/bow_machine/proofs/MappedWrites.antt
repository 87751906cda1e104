-- A write in place, done or failed, keeps what the machine stands for.
use Rattle.std.proofs.Common.{ℕ, ◌+◌, ◌<◌, ◌≡◌, ◌≢◌, ◌⊎◌, ◌==◌, ◌&&◌, Bool, true, false, not, cond, List, [], ◌∷◌, length, Option, Some, None, arith, refl, sym, ap, ◌∙◌, subst, subst₂, inl, inr, Contains}
use Rattle.std.proofs.lemmas.Bool.{cases_eq, or_cases, and_parts, eqb-true}
use Rattle.bow_units.specs.declared.sizes.Geometry.{Geometry}
use Rattle.bow_units.specs.declared.requests.Phase.{Phase}
use Rattle.bow_units.specs.declared.requests.Phase.TheVariants.{Trim, Arming, Checkpoint, Deciding, Committed}
use Rattle.bow_units.specs.declared.statuses.Kind.{Kind}
use Rattle.bow_units.specs.declared.statuses.Kind.TheVariants.{Sector0, Current, Unchanged, Free, Changed, Backup, Saved}
use Rattle.bow_log.specs.Generations.{Generation}
use Rattle.bow_chain.specs.Contents.{Contents}
use Rattle.bow_flat.specs.Flat.{Flat, May, added, put, trim_written}
use Rattle.bow_flat.specs.Valid.{IsState}
use Rattle.bow_guard.specs.Cuts.{Candidates, WriteGiven}
use Rattle.bow_guard.specs.Device.{Device}
use Rattle.bow_guard.specs.Guard.{Guarded}
use Rattle.bow_guard.proofs.Device.{loose_write, safe_tight}
use Rattle.bow_guard.proofs.PhaseActs.{pending_written}
use Rattle.bow_ranges.specs.Kinds.{kind_at, with_kind, is_free, count_of}
use Rattle.bow_machine.specs.Memory.{Memory, has_command, has_move, may_be_written, is_direct, kind_written, kinds_written, place_of, place_with}
use Rattle.bow_machine.specs.Steps.{one_block}
use Rattle.bow_machine.specs.Calls.{WriteTried}
use Rattle.bow_machine.proofs.MappedTests.{for_inside}
use Rattle.bow_machine.specs.MemoryIsSound.{IsTable, is_touched}
use Rattle.bow_machine.proofs.Held.{device_of, IsTrimmed, IsKept, Kept, IsHidden, Room, HandHeld, IsHeld}
use Rattle.bow_machine.proofs.Tables.{kind_one, kind_other, table_with, count_one}
use Rattle.bow_machine.proofs.Mapped.{IsOpen, OpenChange, kept_open, StillHeld, hand_open, hand_empty}

-- ----------------------------------------------------------------------------------------------------------------
-- Functions and kinds changed at one block.

pub put_here : {A : Type 0} (f : ℕ → A) (b : ℕ) (v : A) (x : ℕ) → x ≡ b → put f b v x ≡ v
put_here f b v x is = grind arith

pub put_there : {A : Type 0} (f : ℕ → A) (b : ℕ) (v : A) (x : ℕ) → x ≢ b → put f b v x ≡ f x
put_there f b v x ne = grind arith

pub may_put : (f : ℕ → Option (List (List ℕ))) (b : ℕ) (c : Option (List (List ℕ))) (x : ℕ) (v : List ℕ) → (x ≡ b → May c v) → (x ≢ b → May (f x) v)
    → May (put f b c x) v
may_put f b c x v here there = elim (cases_eq x b) [
  | inl is ↦ subst (λ u. May u v) (sym (put_here f b c x is)) (here is)
  | inr ne ↦ subst (λ u. May u v) (sym (put_there f b c x ne)) (there ne)
]

pub may_none : (c : Option (List (List ℕ))) (v : List ℕ) → c ≡ None → May c v
may_none c v none = subst (λ u. May u v) (sym none) tt

pub not_0 : (b : ℕ) → b ≢ 0 → (b == 0) ≡ false
not_0 b ne = grind arith

pub is_0 : (b : ℕ) → b ≡ 0 → (b == 0) ≡ true
is_0 b e = grind arith

pub kinds_at_0 : (phase : Phase) (table : List Kind) (b : ℕ) → b ≡ 0 → kinds_written phase table b ≡ table
kinds_at_0 phase table b e = rw (is_0 b e) refl

pub kinds_above : (phase : Phase) (table : List Kind) (b : ℕ) → b ≢ 0
    → kinds_written phase table b ≡ with_kind table (one_block b) (kind_written phase (kind_at table b))
kinds_above phase table b ne = rw (not_0 b ne) refl

pub written_here : (phase : Phase) (table : List Kind) (b : ℕ) → b ≢ 0 → b < length table
    → kind_at (kinds_written phase table b) b ≡ kind_written phase (kind_at table b)
written_here phase table b ne on = ap (λ (t : List Kind). kind_at t b) (kinds_above phase table b ne) ∙ kind_one table b (kind_written phase (kind_at table b)) on

pub written_other : (phase : Phase) (table : List Kind) (b x : ℕ) → b < length table → x ≢ b → kind_at (kinds_written phase table b) x ≡ kind_at table x
written_other phase table b x on ne = elim (cases_eq b 0) [
  | inl e ↦ ap (λ (t : List Kind). kind_at t x) (kinds_at_0 phase table b e)
  | inr above ↦ ap (λ (t : List Kind). kind_at t x) (kinds_above phase table b above) ∙ kind_other table b (kind_written phase (kind_at table b)) x on ne
]

-- no write in place makes another block block 0, or saves one
pub written_was : (phase : Phase) (kind new : Kind) → (new ≡ Sector0) ⊎ (new ≡ Saved) → kind_written phase kind ≡ new → kind ≡ new
written_was phase kind new sort is = grind (arith, sort, is)

pub table_written : (g : Geometry) (phase : Phase) (table : List Kind) (b : ℕ) → b < g.blocks → IsTable g table → IsTable g (kinds_written phase table b)
table_written g phase table b on t = elim (cases_eq b 0) [
  | inl e ↦ subst (IsTable g) (sym (kinds_at_0 phase table b e)) t
  | inr ne ↦ subst (IsTable g) (sym (kinds_above phase table b ne)) (table_with g table (one_block b) (kind_written phase (kind_at table b)) (λ e. ne (t.only_0 b on (written_was phase (kind_at table b) Sector0 (inl refl) e))) (omega (arith, on)) (inl (omega (arith, ne))) t)
]

-- what a write in place finds, and the kind after it
loose_kind : (k : Kind) → IsOpen k ⊎ (k ≡ Current) → (k ≡ Unchanged) ⊎ ((k ≡ Backup) ⊎ (k ≡ Sector0)) → ⊥
loose_kind k loose tight = grind arith

open_current : (k : Kind) → IsOpen k → k ≡ Current → ⊥
open_current k is_open e = grind arith

pub open_kind : (k : Kind) → may_be_written k ≡ true → IsOpen k
open_kind Changed h = inl refl
open_kind Free h = inr refl
open_kind Sector0 h = absurd (grind arith)
open_kind Current h = absurd (grind arith)
open_kind Unchanged h = absurd (grind arith)
open_kind Backup h = absurd (grind arith)
open_kind Saved h = absurd (grind arith)

pub open_written : (k : Kind) → IsOpen k → kind_written Checkpoint k ≡ Changed
open_written k (inl is) = ap (kind_written Checkpoint) is
open_written k (inr is) = ap (kind_written Checkpoint) is

-- an open block counts as free or as touched
pub open_counts : (k : Kind) → IsOpen k → cond (is_free k) 1 0 + cond (is_touched k) 1 0 ≡ 1
open_counts k (inl is) = ap (λ k. cond (is_free k) 1 0 + cond (is_touched k) 1 0) is
open_counts k (inr is) = ap (λ k. cond (is_free k) 1 0 + cond (is_touched k) 1 0) is

-- ----------------------------------------------------------------------------------------------------------------
-- The write.

-- the flat state after a write of b that may leave c there
abbrev pub flat_written : Flat → ℕ → List ℕ → Option (List (List ℕ)) → Flat
flat_written f b v c = record f { current = put f.current b c; pending = put f.pending b (added (f.pending b) v); trim = trim_written f.phase f.trim b }

-- the memory after a write of b
abbrev pub memory_written : Memory → ℕ → Memory
memory_written m b = record m { kinds = kinds_written m.phase m.kinds b }

held_after : (block : ℕ) (v : List ℕ) (now new_now : Contents) (may new_may : Candidates) (x : ℕ) → WriteTried block v now new_now may new_may
    → Contains (may x) (now x) → Contains (new_may x) (new_now x)
held_after block v now new_now may new_may x w has = elim (cases_eq x block) [
  | inl is ↦ subst (λ y. Contains (new_may y) (new_now y)) (sym is) w.held
  | inr ne ↦ subst₂ (λ vs u. Contains vs u) (sym (w.given.others_may x ne)) (sym (w.given.others_now x ne)) has
]

-- ----------------------------------------------------------------------------------------------------------------
-- In Checkpoint block 0, or an open block, is written in place: as many blocks are free or touched as before.

module _ (m : Memory) (b : ℕ) (fits : b < length m.kinds) (is : m.phase ≡ Checkpoint) where
  pub open_changed : b ≢ 0 → IsOpen (kind_at m.kinds b) → kind_at (kinds_written m.phase m.kinds b) b ≡ Changed
  open_changed ne is_open = written_here m.phase m.kinds b ne fits ∙ ap (λ (p : Phase). kind_written p (kind_at m.kinds b)) is ∙ open_written (kind_at m.kinds b) is_open

  pub write_counts : (b ≡ 0) ⊎ ((b ≢ 0) × IsOpen (kind_at m.kinds b))
      → count_of is_free (kinds_written m.phase m.kinds b) + count_of is_touched (kinds_written m.phase m.kinds b) ≡ count_of is_free m.kinds + count_of is_touched m.kinds
  write_counts its_kind = elim its_kind [
    | inl at_0 ↦ ap (λ (t : List Kind). count_of is_free t + count_of is_touched t) (kinds_at_0 m.phase m.kinds b at_0)
    | inr (ne, is_open) ↦
        let kind : kind_written m.phase (kind_at m.kinds b) ≡ Changed = ap (λ (p : Phase). kind_written p (kind_at m.kinds b)) is ∙ open_written (kind_at m.kinds b) is_open in
        let table : kinds_written m.phase m.kinds b ≡ with_kind m.kinds (one_block b) Changed = kinds_above m.phase m.kinds b ne ∙ ap (with_kind m.kinds (one_block b)) kind in
        let free = ap (count_of is_free) table in
        let touched = ap (count_of is_touched) table in
        let one_free = count_one m.kinds b Changed is_free fits in
        let one_touched = count_one m.kinds b Changed is_touched fits in
        omega (arith, free, touched, one_free, one_touched, open_counts (kind_at m.kinds b) is_open)
  ]

pub write_change : (g : Geometry) (m : Memory) (b : ℕ) → b < length m.kinds → m.phase ≡ Checkpoint → (b ≡ 0) ⊎ ((b ≢ 0) × IsOpen (kind_at m.kinds b)) → OpenChange g m.kinds (kinds_written m.phase m.kinds b)
write_change g m b fits is its_kind x inside = elim its_kind [
  | inl at_0 ↦ inl (ap (λ (t : List Kind). kind_at t x) (kinds_at_0 m.phase m.kinds b at_0))
  | inr (ne, is_open) ↦ elim (cases_eq x b) [
    | inl same ↦ inr (subst (λ y. IsOpen (kind_at m.kinds y)) (sym same) is_open, subst (λ y. IsOpen (kind_at (kinds_written m.phase m.kinds b) y)) (sym same) (inl (open_changed m b fits is ne is_open)))
    | inr other ↦ inl (written_other m.phase m.kinds b x fits other)
  ]
]

module _ (g : Geometry) (m : Memory) (b : ℕ) (v : List ℕ) (c : Option (List (List ℕ))) (now new_now : Contents) (may new_may : Candidates) (f : Flat)
    (s : IsHeld g m now may f) (on : b < g.blocks) (command : has_command m.hand ≡ false)
    (tried : WriteTried (place_of m b) v now new_now may new_may) (reads : May c (new_now (place_of m b))) (state : IsState (flat_written f b v c)) where
  fits : b < length m.kinds
  fits = omega (arith, on, s.memory.table.size)

  -- In Trim, and once committed: each block lies in its own place, and nothing is in hand.
  module _ (none : m.log ≡ None) (other : m.phase ≢ Checkpoint) where
    own : (x : ℕ) → place_of m x ≡ x
    own x = ap (λ l. place_with l x) none

    given : WriteGiven b v now new_now may new_may
    given = subst (λ x. WriteGiven x v now new_now may new_may) (own b) tried.given

    plain_shown : (x : ℕ) → x < g.blocks → May (put f.current b c x) (new_now (place_of m x))
    plain_shown x inside = may_put f.current b c x (new_now (place_of m x))
        (λ is. subst (λ y. May c (new_now (place_of m y))) (sym is) reads)
        (λ ne. subst (May (f.current x)) (ap now (own x) ∙ sym (given.others_now x ne) ∙ ap new_now (sym (own x))) (s.shown x inside))

    plain_written : Kept g (memory_written m b) new_now new_may (flat_written f b v c) m.phase m.log
        → IsHeld g (memory_written m b) new_now new_may (flat_written f b v c)
    plain_written kept = record {
      memory = record { sizes = s.memory.sizes; table = table_written g m.phase m.kinds b on s.memory.table; requests = s.memory.requests; tickets = s.memory.tickets };
      state = state;
      phases = s.phases;
      held = λ x inside. held_after (place_of m b) v now new_now may new_may x tried (s.held x inside);
      shown = plain_shown;
      kept = kept;
      in_hand = subst (λ hand. HandHeld g (memory_written m b) hand new_now new_may m.log) (sym (hand_empty g m m.hand now may m.log command other s.in_hand)) tt;
    }

    trimmed_written : m.phase ≡ Trim → IsTrimmed g m.kinds f.trim → IsTrimmed g (kinds_written m.phase m.kinds b) (trim_written f.phase f.trim b)
    trimmed_written is t x above inside = elim (cases_eq x b) [
      | inl same ↦ inr (
        ap (λ (p : Phase). trim_written p f.trim b x) (s.phases ∙ is) ∙ put_here f.trim b false x same,
        ap (λ (p : Phase). kind_at (kinds_written p m.kinds b) x) is ∙ ap (kind_at (kinds_written Trim m.kinds b)) same ∙ written_here Trim m.kinds b (λ z. omega (arith, z, same)) fits,
      )
      | inr ne ↦
          let trim : trim_written f.phase f.trim b x ≡ f.trim x = ap (λ (p : Phase). trim_written p f.trim b x) (s.phases ∙ is) ∙ put_there f.trim b false x ne in
          let kind : kind_at (kinds_written m.phase m.kinds b) x ≡ kind_at m.kinds x = written_other m.phase m.kinds b x fits ne in
          elim (t x above inside) [ inl (freed, free) ↦ inl (trim ∙ freed, kind ∙ free) | inr (used, unchanged) ↦ inr (trim ∙ used, kind ∙ unchanged) ]
    ]

    still_unchanged : m.phase ≡ Committed → ((x : ℕ) → 0 < x → x < g.blocks → kind_at m.kinds x ≡ Unchanged) → (x : ℕ) → 0 < x → x < g.blocks
        → kind_at (kinds_written m.phase m.kinds b) x ≡ Unchanged
    still_unchanged is u x above inside = elim (cases_eq x b) [
      | inl same ↦ ap (λ (p : Phase). kind_at (kinds_written p m.kinds b) x) is ∙ ap (kind_at (kinds_written Committed m.kinds b)) same ∙ written_here Committed m.kinds b (λ z. omega (arith, z, same)) fits ∙ ap (kind_at m.kinds) (sym same) ∙ u x above inside
      | inr ne ↦ written_other m.phase m.kinds b x fits ne ∙ u x above inside
    ]

  -- In Checkpoint.
  module _ (log : Generation) (some : m.log ≡ Some log) (is : m.phase ≡ Checkpoint) (direct : is_direct m m.phase b ≡ true)
      (k : IsKept g m now may f Checkpoint log) where
    abbrev new : List Kind
    new = kinds_written m.phase m.kinds b

    abbrev place : ℕ
    place = place_of m b

    current_place : place_of m 0 ≡ log.current
    current_place = ap (λ l. place_with l 0) some

    own_place : (x : ℕ) → x ≢ 0 → place_of m x ≡ x
    own_place x ne = ap (λ l. place_with l x) some ∙ rw (not_0 x ne) refl

    current_above : log.current ≢ 0
    current_above e = absurd (let n : Current ≡ Sector0 = sym k.sound.current ∙ ap (kind_at m.kinds) e ∙ s.memory.table.zeroth in grind arith)

    -- block 0 at its current place, which no batch moves; or an open block
    which : ((b ≡ 0) × (has_move m.hand ≡ false)) ⊎ ((b ≢ 0) × IsOpen (kind_at m.kinds b))
    which = elim (or_cases (may_be_written (kind_at m.kinds b)) ((b == 0) && not (has_move m.hand)) (subst (λ p. is_direct m p b ≡ true) is direct)) [
      | inl is_open ↦ inr (λ e. absurd (let n : may_be_written Sector0 ≡ true = ap may_be_written (sym s.memory.table.zeroth ∙ ap (kind_at m.kinds) (sym e)) ∙ is_open in grind arith), open_kind (kind_at m.kinds b) is_open)
      | inr zeroth ↦ inl (let parts = and_parts (b == 0) (not (has_move m.hand)) zeroth in (eqb-true b 0 parts.0, not_moved (has_move m.hand) parts.1))
    ]
      where
        not_moved : (t : Bool) → not t ≡ true → t ≡ false
        not_moved true h = absurd (grind arith)
        not_moved false h = refl

    loose : IsOpen (kind_at m.kinds place) ⊎ (kind_at m.kinds place ≡ Current)
    loose = elim which [
      | inl (at_0, unmoved) ↦ inr (ap (λ x. kind_at m.kinds (place_of m x)) at_0 ∙ ap (kind_at m.kinds) current_place ∙ k.sound.current)
      | inr (ne, is_open) ↦ inl (subst (λ x. IsOpen (kind_at m.kinds x)) (sym (own_place b ne)) is_open)
    ]

    apart : (x : ℕ) → (kind_at m.kinds x ≡ Unchanged) ⊎ ((kind_at m.kinds x ≡ Backup) ⊎ (kind_at m.kinds x ≡ Sector0)) → x ≢ place
    apart x tight e = loose_kind (kind_at m.kinds place) loose (subst (λ y. (kind_at m.kinds y ≡ Unchanged) ⊎ ((kind_at m.kinds y ≡ Backup) ⊎ (kind_at m.kinds y ≡ Sector0))) e tight)

    above : place ≢ 0
    above e = apart 0 (inr (inr s.memory.table.zeroth)) (sym e)

    -- block 0, or an open block
    its_kind : (b ≡ 0) ⊎ ((b ≢ 0) × IsOpen (kind_at m.kinds b))
    its_kind = elim which [ inl zeroth ↦ inl zeroth.0 | inr other ↦ inr other ]

    now_changed : b ≢ 0 → IsOpen (kind_at m.kinds b) → kind_at new b ≡ Changed
    now_changed = open_changed m b fits is

    change : OpenChange g m.kinds new
    change = write_change g m b fits is its_kind

    new_room : Room (memory_written m b) log
    new_room = let counts = write_counts m b fits is its_kind in omega (arith, k.sound.room, counts)

    module _ (older : List Generation) (clean_log : Generation) (clean_older : List Generation) where
      guarded : Guarded g f.used f.saved (device_of m log older clean_log clean_older now may)
          → Guarded g f.used f.saved (device_of (memory_written m b) log older clean_log clean_older new_now new_may)
      guarded = loose_write g f.used f.saved d e place above (λ safe. safe_tight g d place safe (inr loose_place)) (record { now = tried.given.others_now; may = tried.given.others_may }) (record { log = refl; older = refl; clean_log = refl; clean_older = refl }) (λ x ne. (kinds x ne, refl))
        where
          d : Device
          d = device_of m log older clean_log clean_older now may

          e : Device
          e = device_of (memory_written m b) log older clean_log clean_older new_now new_may

          loose_place : ((kind_at m.kinds place ≡ Changed) ⊎ (kind_at m.kinds place ≡ Free)) ⊎ (kind_at m.kinds place ≡ Current)
          loose_place = loose

          kinds : (x : ℕ) → x ≢ place → kind_at new x ≡ kind_at m.kinds x
          kinds x ne = elim which [
            | inl (at_0, unmoved) ↦ ap (λ (t : List Kind). kind_at t x) (kinds_at_0 m.phase m.kinds b at_0)
            | inr (up, is_open) ↦ written_other m.phase m.kinds b x fits (λ same. ne (same ∙ sym (own_place b up)))
          ]

    still_hidden : (x : ℕ) → x < g.blocks → IsHidden (kind_at new x) → (put f.current b c x ≡ None) × (put f.pending b (added (f.pending b) v) x ≡ None)
    still_hidden x inside hidden = elim (cases_eq x b) [
      | inl same ↦ absurd (here same)
      | inr ne ↦
          let old = k.hidden x inside (subst IsHidden (written_other m.phase m.kinds b x fits ne) hidden) in
          (put_there f.current b c x ne ∙ old.0, put_there f.pending b (added (f.pending b) v) x ne ∙ old.1)
    ]
      where
        shown_kind : (y : Kind) → IsHidden y → (y ≡ Sector0) ⊎ (y ≡ Changed) → ⊥
        shown_kind y h o = grind arith

        here : x ≡ b → ⊥
        here same = elim which [
          | inl (at_0, unmoved) ↦ shown_kind (kind_at new x) hidden (inl (ap (λ (t : List Kind). kind_at t x) (kinds_at_0 m.phase m.kinds b at_0) ∙ ap (kind_at m.kinds) (same ∙ at_0) ∙ s.memory.table.zeroth))
          | inr (ne, is_open) ↦ shown_kind (kind_at new x) hidden (inr (ap (kind_at new) same ∙ now_changed ne is_open))
        ]

    still : StillHeld g m log now new_now may new_may
    still = record {
      copies = λ x inside kind. tried.given.others_now x (apart x (elim kind [ inl u ↦ inl u | inr o ↦ inr (inl o) ]));
      zeroth = tried.given.others_now 0 (apart 0 (inr (inr s.memory.table.zeroth)));
      moved = λ moves. elim which [
        | inl (at_0, unmoved) ↦ absurd (let n : true ≡ false = sym moves ∙ unmoved in grind arith)
        | inr (ne, is_open) ↦ tried.given.others_now log.current (λ e. open_current (kind_at m.kinds b) is_open (ap (kind_at m.kinds) (sym (own_place b ne) ∙ sym e) ∙ k.sound.current))
      ];
      durable = λ x inside kind one.
          let ne = apart x (inr (inl kind)) in
          tried.given.others_may x ne ∙ one ∙ ap (λ u. u ∷ []) (sym (tried.given.others_now x ne));
    }

    checkpoint_shown : (x : ℕ) → x < g.blocks → May (put f.current b c x) (new_now (place_of m x))
    checkpoint_shown x inside = may_put f.current b c x (new_now (place_of m x))
        (λ same. subst (λ y. May c (new_now (place_of m y))) (sym same) reads)
        (λ ne. elim (cases_eq (place_of m x) place) [
          | inr other ↦ subst (May (f.current x)) (sym (tried.given.others_now (place_of m x) other)) (s.shown x inside)
          | inl same ↦ may_none (f.current x) (new_now (place_of m x)) (nothing ne same)
        ])
      where
        nothing : x ≢ b → place_of m x ≡ place → f.current x ≡ None
        nothing ne same = elim which [
          | inl (at_0, unmoved) ↦
              let up : x ≢ 0 = λ z. ne (z ∙ sym at_0) in
              let at : x ≡ log.current = sym (own_place x up) ∙ same ∙ ap (place_of m) at_0 ∙ current_place in
              (k.hidden x inside (inr (inr (ap (kind_at m.kinds) at ∙ k.sound.current)))).0
          | inr (up, is_open) ↦ elim (cases_eq x 0) [
            | inl z ↦ absurd (open_current (kind_at m.kinds b) is_open (ap (kind_at m.kinds) (sym (own_place b up) ∙ sym same ∙ ap (place_of m) z ∙ current_place) ∙ k.sound.current))
            | inr ux ↦ absurd (ne (sym (own_place x ux) ∙ same ∙ own_place b up))
          ]
        ]

    checkpoint_written : IsHeld g (memory_written m b) new_now new_may (flat_written f b v c)
    checkpoint_written = record {
      memory = record { sizes = s.memory.sizes; table = table_written g m.phase m.kinds b on s.memory.table; requests = s.memory.requests; tickets = s.memory.tickets };
      state = state;
      phases = s.phases;
      held = λ x inside. held_after (place_of m b) v now new_now may new_may x tried (s.held x inside);
      shown = checkpoint_shown;
      kept = subst₂ (λ p l. Kept g (memory_written m b) new_now new_may (flat_written f b v c) p l) (sym is) (sym some)
          (kept_open g m (memory_written m b) now new_now may new_may f (flat_written f b v c) log change refl new_room k.trimmed refl (λ older clean_log clean_older. guarded older clean_log clean_older) still_hidden k);
      in_hand = subst (λ l. HandHeld g (memory_written m b) m.hand new_now new_may l) (sym some)
          (hand_open g m (memory_written m b) log now new_now may new_may change refl still k.sound.generation.current_inside m.hand refl command refl (λ h w at. (w.waits, for_inside g m h.ticket w)) (subst (λ l. HandHeld g m m.hand now may l) some s.in_hand));
    }

  -- A write in place, or one that failed, of a block that may be written so.
  pub written : (m.phase ≢ Arming) × (m.phase ≢ Deciding) → is_direct m m.phase b ≡ true
      → IsHeld g (memory_written m b) new_now new_may (flat_written f b v c)
  written settled direct = go m.phase refl m.log refl s.kept
    where
      go : (p : Phase) → m.phase ≡ p → (l : Option Generation) → m.log ≡ l → Kept g m now may f p l
          → IsHeld g (memory_written m b) new_now new_may (flat_written f b v c)
      go Trim is None none (pending, trimmed) = plain_written none (λ e. no_phase (sym is ∙ e)) (subst₂ (λ p l. Kept g (memory_written m b) new_now new_may (flat_written f b v c) p l) (sym is) (sym none) (pending_written g f g.blocks b v now new_now may new_may (given none (λ e. no_phase (sym is ∙ e))) pending, trimmed_written none (λ e. no_phase (sym is ∙ e)) is trimmed))
        where
          no_phase : Trim ≢ Checkpoint
          no_phase = λ e. grind arith
      go Trim is (Some log) some k = absurd k
      go Arming is l log k = absurd (settled.0 is)
      go Checkpoint is None none k = absurd k
      go Checkpoint is (Some log) some k = checkpoint_written log some is direct k
      go Deciding is l log k = absurd (settled.1 is)
      go Committed is None none (pending, unchanged) = plain_written none (λ e. no_phase (sym is ∙ e)) (subst₂ (λ p l. Kept g (memory_written m b) new_now new_may (flat_written f b v c) p l) (sym is) (sym none) (pending_written g f g.blocks b v now new_now may new_may (given none (λ e. no_phase (sym is ∙ e))) pending, still_unchanged none (λ e. no_phase (sym is ∙ e)) is unchanged))
        where
          no_phase : Committed ≢ Checkpoint
          no_phase = λ e. grind arith
      go Committed is (Some log) some k = absurd k
