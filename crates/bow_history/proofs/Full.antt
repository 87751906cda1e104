-- A write that finds no block was preceded by enough writes.
use Rattle.std.proofs.Common.{ℕ, zero, suc, ◌+◌, ◌-◌, ◌*◌, ◌/◌, ◌<◌, ◌≤◌, ◌≡◌, ◌≢◌, ◌&&◌, ◌==◌, nat_lt, Bool, true, false, not, List, length, Some, arith, refl, sym, ap, ◌∙◌, subst, inl, inr}
use Rattle.std.specs.List.{sum_by, list_any}
use Rattle.std.proofs.lemmas.Bool.{cases_eq, false≢true, eqb-true, eq-eqb, and_parts}
use Rattle.std.proofs.lemmas.List.Sums.{sum_by-append}
use Rattle.std.proofs.lemmas.Nat.{le-div}
use Rattle.bow_units.specs.declared.requests.Outcome.TheVariants as outcomes
use Rattle.bow_units.specs.declared.requests.Phase.TheVariants.{Checkpoint}
use Rattle.bow_units.specs.declared.sizes.Extent.{Extent}
use Rattle.bow_units.specs.declared.statuses.Kind.{Kind}
use Rattle.bow_units.specs.declared.statuses.Kind.TheVariants.{Sector0, Current, Unchanged, Free, Changed, Backup, Saved}
use Rattle.bow_log.specs.Generations.{Generation, room}
use Rattle.bow_flat.specs.Flat.{Flat, count_below}
use Rattle.bow_ranges.specs.Kinds.{kind_at, count_of}
use Rattle.bow_machine.specs.Requests.{Request}
use Rattle.bow_machine.specs.Memory.{Memory, Empty, may_be_written, reserved}
use Rattle.bow_machine.specs.Tasks.{Answers, task_of, head}
use Rattle.bow_machine.specs.declared.turns.Turn.TheVariants.{Worker}
use Rattle.bow_machine.specs.MemoryIsSound.{is_touched}
use Rattle.bow_machine.specs.MemoryLaws.{HasNoBlock}
use Rattle.bow_machine.proofs.Consequences.{trimmed_is_kept}
use Rattle.bow_machine.proofs.FormedHeads.{IsHead, head_is}
use Rattle.bow_machine.proofs.SoundSpace.{no_space_is_exact}
use Rattle.bow_machine.proofs.SoundLists.{own_tickets}
use Rattle.bow_machine.specs.MemoryIsSound.{LogIsSound}
use Rattle.bow_history.proofs.Growth.{log_of_sound}
use Rattle.bow_history.proofs.Rows.{passed_counts}
use Rattle.bow_machine.proofs.Workers.{memory_is}
use Rattle.bow_history.specs.Journal.{Plan, Place, writes, counts, next_writes, counting, size_in, blocks_in, MayBeFull}
use Rattle.bow_history.specs.Lags.{Lags}
use Rattle.bow_history.specs.Sessions.{Session}
use Rattle.bow_history.specs.Histories.{Disk}
use Rattle.bow_history.specs.Fits.{HasTally, IsTallied, spent_in, IsAt}
use Rattle.bow_history.proofs.Tally.{count_less, count_table, any_left, next_has, spent_sizes, room_some, is_touched_at, one_of_lane, and_both}
use Rattle.bow_history.proofs.Turns.{holds_next}

above_0 : (b : ℕ) → 0 < b → nat_lt 0 b ≡ true
above_0 b h = grind (arith, h)

and_false : (a : Bool) → (a && false) ≡ false
and_false true = refl
and_false false = refl

untouched_kind : (k : Kind) → may_be_written k ≡ false → k ≢ Saved → is_touched k ≡ false
untouched_kind Sector0 held saved = refl
untouched_kind Current held saved = refl
untouched_kind Unchanged held saved = refl
untouched_kind Free held saved = refl
untouched_kind Changed held saved = absurd (false≢true (sym held))
untouched_kind Backup held saved = refl
untouched_kind Saved held saved = absurd (saved refl)

-- so many full logs were taken
full_logs : (sequence made spent all c : ℕ) → 2 ≤ c → sequence * (c - 1) + made ≤ spent + (c - 1) → spent ≤ all
    → sequence ≤ all / (c - 1) + 1
full_logs zero made spent all c few tally most = omega arith
full_logs (suc s) made spent all c few tally most =
    let e : (suc s) * (c - 1) ≡ s * (c - 1) + (c - 1) = omega arith in
    let low : s * (c - 1) ≤ all = omega (arith, tally, most, few, e) in
    let d = le-div s all (c - 1) (omega (arith, few)) low in
    omega (arith, d)

module _ (plan : Plan) (s : Session) (d : Disk) (p : Place) (k : IsAt plan s d p) (at : s.memory.phase ≡ Checkpoint) (empty : s.memory.hand ≡ Empty) (r : Request) (first : head plan.sizes s.memory ≡ Some r)
    (task : task_of plan.sizes s.memory Worker ≡ Answers r (outcomes.NoSpace r.done)) where
  abbrev m : Memory
  m = s.memory

  abbrev n : ℕ
  n = plan.sizes.blocks

  exact : HasNoBlock plan.sizes m r
  exact = (no_space_is_exact plan.sizes m r k.stands.sound).0 task

  log : (l : Generation) × (m.log ≡ Some l) × LogIsSound plan.sizes m.kinds m.clean m.trimmed (reserved m.hand).count l
  log = log_of_sound plan.sizes m k.stands.sound (inr at)

  is_head : (e : Extent) × (payload : List ℕ) × IsHead plan.sizes m r e payload
  is_head = head_is plan.sizes m log.0 r (own_tickets m.requests k.stands.sound.rising) (ap (head plan.sizes) (sym (memory_is m Empty log.0 at empty log.1)) ∙ first)

  tallied : IsTallied plan m.kinds s.hand p log.0
  tallied = subst (λ l. HasTally plan m.kinds s.hand p Checkpoint l) log.1 (subst (λ phase. HasTally plan m.kinds s.hand p phase m.log) at k.tally)

  -- the next block of the write that finds no space
  abbrev block : ℕ
  block = (is_head.0).first + r.done

  abbrev covered : ℕ → Bool
  covered b = nat_lt 0 b && list_any (λ op. writes op b) (counting plan p)

  touched_less : count_of is_touched m.kinds + 1 ≤ blocks_in n (counting plan p)
  touched_less =
      let table = count_table is_touched other m.kinds 0 among in
      let size = k.stands.sound.table.size in
      let table_n : count_of is_touched m.kinds ≤ count_below other n = subst (λ x. count_of is_touched m.kinds ≤ count_below other x) size table in
      let less = count_less other covered 0 n (λ b low high h. (and_parts (covered b) (not (b == block)) h).0) block (omega arith) (omega (arith, inside)) (ap (λ t. covered block && t) (ap not (eq-eqb block block refl)) ∙ and_false (covered block)) (and_both (nat_lt 0 block) (list_any (λ op. writes op block) (counting plan p)) (above_0 block above) mine) in
      omega (arith, table_n, less)
    where
      e : Extent
      e = is_head.0

      h : IsHead plan.sizes m r is_head.0 is_head.1
      h = is_head.2

      inside : block < n
      inside = omega (arith, h.inside, h.left)

      above : 0 < block
      above = omega (arith, h.not_0)

      untouched : is_touched_at m.kinds block ≡ false
      untouched = untouched_kind (kind_at m.kinds block) h.kept_back ((log.2).none_saved exact.clean block inside)

      mine : list_any (λ op. writes op block) (counting plan p) ≡ true
      mine =
          let one = one_of_lane plan m.requests s.admitted s.number s.hand k.seated p k.number block (record {
            ticket = r.ticket;
            request = r;
            waits = h.waits;
            counts_so = ap (counts plan.sizes) h.op ∙ passed_counts plan.sizes Checkpoint is_head.0 is_head.1 h.passed;
            writes_it = ap (λ o. writes o block) h.op ∙ holds_next is_head.0 r.done h.left;
          }) in
          any_left (λ op. writes op block) (next_writes plan p plan.lanes) p.counted (next_has plan p block one.0 plan.lanes one.1 one.3)

      other : ℕ → Bool
      other b = covered b && not (b == block)

      among : (i : ℕ) → i < length m.kinds → is_touched (kind_at m.kinds i) ≡ true → other (0 + i) ≡ true
      among i below touched = let z : 0 + i ≡ i = omega arith in subst (λ x. other x ≡ true) (sym z) (and_both (covered i) (not (i == block)) (and_both (nat_lt 0 i) (list_any (λ op. writes op i) (counting plan p)) (above_0 i positive) (tallied.covered i positive (omega (arith, below, k.stands.sound.table.size)) touched)) (ap not unlike))
        where
          positive : 0 < i
          positive = elim (cases_eq i 0) [
            | inl is ↦ absurd (false≢true (sym (ap is_touched k.stands.sound.table.zeroth) ∙ ap (λ x. is_touched (kind_at m.kinds x)) (sym is) ∙ touched))
            | inr ne ↦ omega (arith, ne)
          ]

          unlike : (i == block) ≡ false
          unlike = go (i == block) refl
            where
              go : (t : Bool) → (i == block) ≡ t → t ≡ false
              go true is = absurd (false≢true (sym untouched ∙ ap (is_touched_at m.kinds) (sym (eqb-true i block is)) ∙ touched))
              go false is = refl

  trimmed_same : p.flat.trimmed ≡ m.trimmed
  trimmed_same =
      let same : k.flat ≡ p.flat = subst (λ hand. Lags plan.sizes.blocks hand k.flat p.flat) empty k.lags in
      ap (λ (f : Flat). f.trimmed) (sym same) ∙ trimmed_is_kept plan.sizes m d.now d.may k.flat log.0 k.stands log.1

  pub may_be_full : MayBeFull plan p
  may_be_full =
      let next = spent_sizes plan m.kinds p s.hand plan.lanes in
      let split = sum_by-append (size_in n) (next_writes plan p plan.lanes) p.counted in
      let full = full_logs log.0.sequence (length log.0.entries - 1) (spent_in plan m.kinds p.number s.hand plan.lanes + sum_by (size_in n) p.counted) (sum_by (size_in n) (counting plan p)) (room plan.sizes.block_size)
      (room_some plan.sizes k.stands.sound.sizes) tallied.tally (omega (arith, next, split)) in
      let none : (reserved m.hand).count ≡ 0 = ap (λ hand. (reserved hand).count) empty in
      omega (arith, full, touched_less, trimmed_same, log.2.room, exact.none, none)
