-- What the machine stands for, as its definition says it, and as the proofs carry it.
use Rattle.std.proofs.Common.{ℕ, zero, suc, ◌+◌, ◌-◌, ◌*◌, ◌<◌, ◌≤◌, ◌≡◌, ◌≢◌, ◌⊎◌, Bool, List, [], ◌∷◌, length}
use Rattle.std.proofs.Common.{get_or, slice_index_or, Option, Some, None, arith, refl, sym, ap, ◌∙◌, subst, inl, inr}
use Rattle.std.specs.List.{AllByRecursion as Each}
use Rattle.std.proofs.lemmas.Bool.{cases_lt, false≢true}
use Rattle.bow_units.specs.declared.sizes.Geometry.{Geometry}
use Rattle.bow_units.specs.declared.requests.Phase.{Phase}
use Rattle.bow_units.specs.declared.requests.Phase.TheVariants.{Trim, Arming, Checkpoint, Deciding, Committed}
use Rattle.bow_units.specs.declared.statuses.Kind.TheVariants as kinds
use Rattle.bow_units.specs.Sizes.{IsValid}
use Rattle.bow_log.specs.Generations.{Generation}
use Rattle.bow_chain.specs.Contents.{Contents}
use Rattle.bow_copy.specs.Acts.{acts_before_log}
use Rattle.bow_copy.specs.declared.jobs.Act.{Act}
use Rattle.bow_copy.specs.declared.jobs.Act.TheVariants as acts
use Rattle.bow_copy.specs.declared.jobs.Job.{Job}
use Rattle.bow_copy.specs.declared.jobs.Job.TheVariants as jobs
use Rattle.bow_machine.proofs.BatchActs.{lead_act, lead_copy, copy_reads as next_read, copy_writes as next_write, copy_flush as next_flush}
use Rattle.bow_flat.specs.Flat.{Flat}
use Rattle.bow_guard.specs.Cuts.{Candidates}
use Rattle.bow_ranges.specs.Kinds.{kind_at, is_free}
use Rattle.bow_machine.specs.Requests.{Request}
use Rattle.bow_machine.specs.Memory.{Memory, Hand, Empty, Batching, Preparing, Committing, PrepareAct, ReadsBlock0}
use Rattle.bow_machine.specs.Memory.{WritesCurrent, WritesBackup, FlushesCopies, WritesFirstLog, FlushesFirstLog}
use Rattle.bow_machine.specs.Memory.{CommitAct, FlushesAll, ReadsCurrent, WritesBlock0, FlushesDecision, reserved, place_of}
use Rattle.bow_machine.specs.MemoryIsSound.{IsWaiting, LogIsSound, LogIsHeld, LinkIsReady, CopyIsReady, MoveIsReady}
use Rattle.bow_machine.specs.MemoryIsSound.{JobIsReady, PrepareIsSound, CommitIsSound, HandIsSound, MemoryIsSound}
use Rattle.bow_machine.specs.Standing.{HasBlocks, LogIsKept, DiskKeeps, WasDone, ActsStand, PrepareStands, CommitStands}
use Rattle.bow_machine.specs.Standing.{HandStands, IsStanding}
use Rattle.bow_machine.proofs.Held.{IsRequest, is_touched, IsKept, Kept, LinkHeld, CopyHeld, MoveHeld, JobHeld, PrepareHeld}
use Rattle.bow_machine.proofs.Held.{CommitHeld, HandHeld, IsHeld}
use Rattle.bow_machine.proofs.SoundLists.{own_tickets}
use Rattle.bow_machine.proofs.Counts.{none_counted}

-- ----------------------------------------------------------------------------------------------------------------
-- What is kept.

all_requests : (g : Geometry) (requests : List Request) → Each (IsWaiting g) requests → Each IsRequest requests
all_requests g [] each = tt
all_requests g (r ∷ rs) each = (each.0.done, all_requests g rs each.1)

module _ (g : Geometry) (m : Memory) (now : Contents) (may : Candidates) (f : Flat) where
  log_whole : (phase : Phase) (log : Generation) → LogIsSound g m.kinds m.clean m.trimmed (reserved m.hand).count log
      → (phase ≡ Arming → (b : ℕ) → b < g.blocks → kind_at m.kinds b ≢ kinds.Saved)
      → LogIsKept g m now may f phase log → IsKept g m now may f phase log
  log_whole phase log l none k = record {
    older = k.older;
    clean_log = k.clean_log;
    clean_older = k.clean_older;
    leaves = k.leaves;
    clean = λ is. k.clean (inl is);
    arming = λ is. (k.clean (inr is), none is);
    sound = l;
    hidden = k.hidden;
    trimmed = k.trimmed;
  }

  kept_whole : (phase : Phase) (log : Option Generation) → length m.kinds ≡ g.blocks
      → LogIsHeld g m.kinds m.clean m.trimmed (reserved m.hand).count phase log → DiskKeeps g m now may f phase log
      → Kept g m now may f phase log
  kept_whole Trim None size l k = (
    k.0,
    λ b above on. elim (l b above on) [
      | inl free ↦ inl (sym (k.1 b above on) ∙ ap is_free free, free)
      | inr unchanged ↦ inr (sym (k.1 b above on) ∙ ap is_free unchanged, unchanged)
    ],
  )
  kept_whole Trim (Some log) size l k = absurd l
  kept_whole Arming None size l k = absurd l
  kept_whole Arming (Some log) size l k = log_whole Arming log l.0
      (λ arming b on is. false≢true (sym (none_counted is_touched m.kinds b l.2 (omega (arith, on, size))) ∙ ap is_touched is)) k
  kept_whole Checkpoint None size l k = absurd l
  kept_whole Checkpoint (Some log) size l k = log_whole Checkpoint log l (λ arming. absurd (grind arith)) k
  kept_whole Deciding None size l k = absurd l
  kept_whole Deciding (Some log) size l k = log_whole Deciding log l (λ arming. absurd (grind arith)) k
  kept_whole Committed None size l k = (k, l)
  kept_whole Committed (Some log) size l k = absurd l

  log_on_disk : (phase : Phase) (log : Generation) → IsKept g m now may f phase log → LogIsKept g m now may f phase log
  log_on_disk phase log k = record {
    older = k.older;
    clean_log = k.clean_log;
    clean_older = k.clean_older;
    leaves = k.leaves;
    clean = λ one. elim one [ inl is ↦ k.clean is | inr is ↦ (k.arming is).0 ];
    hidden = k.hidden;
    trimmed = k.trimmed;
  }

  pub kept_on_disk : (phase : Phase) (log : Option Generation) → Kept g m now may f phase log → DiskKeeps g m now may f phase log
  kept_on_disk Trim None k = (
    k.0,
    λ b above on. elim (k.1 b above on) [
      | inl free ↦ ap is_free free.1 ∙ sym free.0
      | inr unchanged ↦ ap is_free unchanged.1 ∙ sym unchanged.0
    ],
  )
  kept_on_disk Trim (Some log) k = absurd k
  kept_on_disk Arming None k = absurd k
  kept_on_disk Arming (Some log) k = log_on_disk Arming log k
  kept_on_disk Checkpoint None k = absurd k
  kept_on_disk Checkpoint (Some log) k = log_on_disk Checkpoint log k
  kept_on_disk Deciding None k = absurd k
  kept_on_disk Deciding (Some log) k = log_on_disk Deciding log k
  kept_on_disk Committed None k = k.0
  kept_on_disk Committed (Some log) k = absurd k

-- ----------------------------------------------------------------------------------------------------------------
-- Which acts of a job were done.

one_slot : (slots : List (List ℕ)) → length slots ≡ 1 → slots ≡ slice_index_or slots 0 [] ∷ []
one_slot [] h = absurd (grind arith)
one_slot (v ∷ []) h = refl
one_slot (v ∷ w ∷ vs) h = absurd (omega (arith, h))

module _ (source dest count : ℕ) (source_small : source + count ≤ 1048576) (dest_small : dest + count ≤ 1048576) where
  abbrev copy : Job
  copy = jobs.Copy source dest count

  copy_reads : (i : ℕ) → i < count → get_or (acts_before_log copy) i acts.End ≡ acts.Read (source + i) i
  copy_reads i h = sym (lead_act copy i (omega (arith, lead_copy source dest count))) ∙ next_read source dest count i h (omega (arith, source_small))

  copy_writes : (i : ℕ) → i < count → get_or (acts_before_log copy) (count + i) acts.End ≡ acts.Write (dest + i) i
  copy_writes i h = sym (lead_act copy (count + i) (omega (arith, lead_copy source dest count))) ∙ next_write source dest count i h (omega (arith, dest_small))

  copy_ends : get_or (acts_before_log copy) (2 * count) acts.End ≡ acts.Flush
  copy_ends = sym (lead_act copy (2 * count) (omega (arith, lead_copy source dest count))) ∙ next_flush source dest count

  -- each act before the log
  copy_act : (i : ℕ) → i < 2 * count + 1 → ((i < count) × (get_or (acts_before_log copy) i acts.End ≡ acts.Read (source + i) i))
      ⊎ (((j : ℕ) × (j < count) × (i ≡ count + j) × (get_or (acts_before_log copy) i acts.End ≡ acts.Write (dest + j) j))
      ⊎ ((i ≡ 2 * count) × (get_or (acts_before_log copy) i acts.End ≡ acts.Flush)))
  copy_act i below = elim (cases_lt i count) [
    | inl low ↦ inl (low, copy_reads i low)
    | inr not_low ↦ elim (cases_lt i (2 * count)) [
      | inl mid ↦
          let there : i ≡ count + (i - count) = omega (arith, not_low) in
          inr (inl (i - count, omega (arith, mid, not_low), there, ap (λ k. get_or (acts_before_log copy) k acts.End) there ∙ copy_writes (i - count) (omega (arith, mid, not_low))))
      | inr high ↦
          let last : i ≡ 2 * count = omega (arith, high, below) in
          inr (inr (last, ap (λ k. get_or (acts_before_log copy) k acts.End) last ∙ copy_ends))
    ]
  ]

read_block : (b slot c other : ℕ) → acts.Read b slot ≡ acts.Read c other → b ≡ c
read_block b slot c other h = cc h

read_slot : (b slot c other : ℕ) → acts.Read b slot ≡ acts.Read c other → slot ≡ other
read_slot b slot c other h = cc h

write_block : (b slot c other : ℕ) → acts.Write b slot ≡ acts.Write c other → b ≡ c
write_block b slot c other h = cc h

write_slot : (b slot c other : ℕ) → acts.Write b slot ≡ acts.Write c other → slot ≡ other
write_slot b slot c other h = cc h

read_writes : {A : Type 0} (b slot c other : ℕ) → acts.Read b slot ≡ acts.Write c other → A
read_writes b slot c other h = absurd (grind (arith, h))

read_flushes : {A : Type 0} (b slot : ℕ) → acts.Read b slot ≡ acts.Flush → A
read_flushes b slot h = absurd (grind (arith, h))

write_flushes : {A : Type 0} (b slot : ℕ) → acts.Write b slot ≡ acts.Flush → A
write_flushes b slot h = absurd (grind (arith, h))

ends_not : {A : Type 0} (act : Act) → acts.End ≡ act → act ≢ acts.End → A
ends_not act is ne = absurd (ne (sym is))

-- ----------------------------------------------------------------------------------------------------------------
-- A job before its log.

module _ (g : Geometry) (m : Memory) (now : Contents) (may : Candidates) (log : Generation) (slots : List (List ℕ)) where
  link_held : (dest done : ℕ) → LinkIsReady g m.kinds log dest slots → ActsStand (jobs.Link dest) done slots now may
      → LinkHeld g m log dest done slots now may
  link_held dest done l a = record {
    ready = l;
    wrote = λ some. a.wrote dest 0 (0, omega (arith, some), refl) ∙ ap (λ vs. slice_index_or vs 0 []) l.buffer;
    durable = λ both. a.durable dest 0 (0, omega (arith, both), refl) (1, omega (arith, both), refl);
  }

  link_stands : (dest done : ℕ) → LinkHeld g m log dest done slots now may → ActsStand (jobs.Link dest) done slots now may
  link_stands dest done h = record {
    read = λ block slot was. reads was.0 block slot was.2;
    wrote = λ block slot was. writes was.0 block slot was.1 was.2;
    durable = λ block slot was flushed. lasts was.0 flushed.0 block slot flushed.1 was.2 flushed.2;
  }
    where
      reads : (i block slot : ℕ) → get_or (acts_before_log (jobs.Link dest)) i acts.End ≡ acts.Read block slot → now block ≡ slice_index_or slots slot []
      reads zero block slot is = read_writes block slot dest 0 (sym is)
      reads (suc zero) block slot is = read_flushes block slot (sym is)
      reads (suc (suc i)) block slot is = ends_not (acts.Read block slot) is (λ e. absurd (grind (arith, e)))

      writes : (i block slot : ℕ) → i < done → get_or (acts_before_log (jobs.Link dest)) i acts.End ≡ acts.Write block slot → now block ≡ slice_index_or slots slot []
      writes zero block slot below is =
          ap now (sym (write_block dest 0 block slot is)) ∙ h.wrote (omega (arith, below))
          ∙ ap (λ vs. slice_index_or vs 0 []) (sym h.ready.buffer) ∙ ap (λ s. slice_index_or slots s []) (write_slot dest 0 block slot is)
      writes (suc zero) block slot below is = write_flushes block slot (sym is)
      writes (suc (suc i)) block slot below is = ends_not (acts.Write block slot) is (λ e. absurd (grind (arith, e)))

      lasts : (i j block slot : ℕ) → j < done → get_or (acts_before_log (jobs.Link dest)) i acts.End ≡ acts.Write block slot
          → get_or (acts_before_log (jobs.Link dest)) j acts.End ≡ acts.Flush → may block ≡ now block ∷ []
      lasts zero zero block slot below is flush = write_flushes dest 0 flush
      lasts zero (suc j) block slot below is flush =
          subst (λ b. may b ≡ now b ∷ []) (write_block dest 0 block slot is) (h.durable (omega (arith, below)))
      lasts (suc zero) j block slot below is flush = write_flushes block slot (sym is)
      lasts (suc (suc i)) j block slot below is flush = ends_not (acts.Write block slot) is (λ e. absurd (grind (arith, e)))

  move_held : (from to done : ℕ) → MoveIsReady g m.kinds log from to done slots
      → ActsStand (jobs.Move from to) done slots now may → MoveHeld g m log from to done slots now may
  move_held from to done l a = record {
    ready = l;
    read = λ some. one_slot slots (omega (arith, some, l.buffer)) ∙ ap (λ v. v ∷ []) (sym (a.read from 0 (0, omega (arith, some), refl)));
    wrote = λ two. a.wrote to 0 (1, omega (arith, two), refl) ∙ sym (a.read from 0 (0, omega (arith, two), refl));
    durable = λ all. a.durable to 0 (1, omega (arith, all), refl) (2, omega (arith, all), refl);
  }

  move_stands : (from to done : ℕ) → MoveHeld g m log from to done slots now may
      → ActsStand (jobs.Move from to) done slots now may
  move_stands from to done h = record {
    read = λ block slot was. reads was.0 block slot was.1 was.2;
    wrote = λ block slot was. writes was.0 block slot was.1 was.2;
    durable = λ block slot was flushed. lasts was.0 flushed.0 block slot flushed.1 was.2 flushed.2;
  }
    where
      reads : (i block slot : ℕ) → i < done → get_or (acts_before_log (jobs.Move from to)) i acts.End ≡ acts.Read block slot → now block ≡ slice_index_or slots slot []
      reads zero block slot below is =
          ap now (sym (read_block from 0 block slot is)) ∙ ap (λ vs. slice_index_or vs 0 []) (sym (h.read (omega (arith, below))))
          ∙ ap (λ s. slice_index_or slots s []) (read_slot from 0 block slot is)
      reads (suc zero) block slot below is = read_writes block slot to 0 (sym is)
      reads (suc (suc zero)) block slot below is = read_flushes block slot (sym is)
      reads (suc (suc (suc i))) block slot below is = ends_not (acts.Read block slot) is (λ e. absurd (grind (arith, e)))

      writes : (i block slot : ℕ) → i < done → get_or (acts_before_log (jobs.Move from to)) i acts.End ≡ acts.Write block slot → now block ≡ slice_index_or slots slot []
      writes zero block slot below is = read_writes from 0 block slot is
      writes (suc zero) block slot below is =
          ap now (sym (write_block to 0 block slot is)) ∙ h.wrote (omega (arith, below))
          ∙ ap (λ vs. slice_index_or vs 0 []) (sym (h.read (omega (arith, below)))) ∙ ap (λ s. slice_index_or slots s []) (write_slot to 0 block slot is)
      writes (suc (suc zero)) block slot below is = write_flushes block slot (sym is)
      writes (suc (suc (suc i))) block slot below is = ends_not (acts.Write block slot) is (λ e. absurd (grind (arith, e)))

      lasts : (i j block slot : ℕ) → j < done → get_or (acts_before_log (jobs.Move from to)) i acts.End ≡ acts.Write block slot
          → get_or (acts_before_log (jobs.Move from to)) j acts.End ≡ acts.Flush → may block ≡ now block ∷ []
      lasts zero j block slot below is flush = read_writes from 0 block slot is
      lasts (suc zero) zero block slot below is flush = read_flushes from 0 flush
      lasts (suc zero) (suc zero) block slot below is flush = write_flushes to 0 flush
      lasts (suc zero) (suc (suc j)) block slot below is flush =
          subst (λ b. may b ≡ now b ∷ []) (write_block to 0 block slot is) (h.durable (omega (arith, below)))
      lasts (suc (suc zero)) j block slot below is flush = write_flushes block slot (sym is)
      lasts (suc (suc (suc i))) j block slot below is flush = ends_not (acts.Write block slot) is (λ e. absurd (grind (arith, e)))

  module _ (sizes : IsValid g) (source dest count done : ℕ) where
    abbrev copied : Job
    copied = jobs.Copy source dest count

    copy_held : CopyIsReady g m.kinds log source dest count done slots → ActsStand copied done slots now may
        → CopyHeld g m log source dest count done slots now may
    copy_held l a = record {
      ready = l;
      read = λ j below. a.read (source + j) j (j, omega (arith, below, l.buffer), copy_reads source dest count from onto j (omega (arith, below, l.buffer)));
      wrote = λ j below tried. a.wrote (dest + j) j (wrote_one j below tried);
      durable = λ all j below. a.durable (dest + j) j (wrote_one j below (omega (arith, all, below))) (2 * count, all, copy_ends source dest count from onto);
    }
      where
        from : source + count ≤ 1048576
        from = omega (arith, l.source_inside, sizes.few)

        onto : dest + count ≤ 1048576
        onto = omega (arith, l.dest_inside, sizes.few)

        wrote_one : (j : ℕ) → j < count → count + j < done → WasDone copied done (acts.Write (dest + j) j)
        wrote_one j below tried = (count + j, tried, copy_writes source dest count from onto j below)

    copy_stands : done ≤ length (acts_before_log copied) → CopyHeld g m log source dest count done slots now may
        → ActsStand copied done slots now may
    copy_stands most h = record {
      read = λ block slot was. elim (act was.0 was.1) [
        | inl reads ↦
            let is = sym reads.1 ∙ was.2 in
            ap now (sym (read_block (source + was.0) was.0 block slot is)) ∙ h.read was.0 (omega (arith, h.ready.buffer, was.1, reads.0))
            ∙ ap (λ s. slice_index_or slots s []) (read_slot (source + was.0) was.0 block slot is)
        | inr (inl writes) ↦ read_writes block slot (dest + writes.0) writes.0 (sym was.2 ∙ writes.3)
        | inr (inr flush) ↦ read_flushes block slot (sym was.2 ∙ flush.1)
      ];
      wrote = λ block slot was. elim (act was.0 was.1) [
        | inl reads ↦ read_writes (source + was.0) was.0 block slot (sym reads.1 ∙ was.2)
        | inr (inl writes) ↦
            let is = sym writes.3 ∙ was.2 in
            ap now (sym (write_block (dest + writes.0) writes.0 block slot is)) ∙ h.wrote writes.0 writes.1 (omega (arith, writes.2, was.1))
            ∙ ap (λ s. slice_index_or slots s []) (write_slot (dest + writes.0) writes.0 block slot is)
        | inr (inr flush) ↦ write_flushes block slot (sym was.2 ∙ flush.1)
      ];
      durable = λ block slot was flushed. elim (act was.0 was.1) [
        | inl reads ↦ read_writes (source + was.0) was.0 block slot (sym reads.1 ∙ was.2)
        | inr (inl writes) ↦
            let all : 2 * count < done = flushed_all flushed.0 flushed.1 flushed.2 in
            subst (λ b. may b ≡ now b ∷ []) (write_block (dest + writes.0) writes.0 block slot (sym writes.3 ∙ was.2)) (h.durable all writes.0 writes.1)
        | inr (inr flush) ↦ write_flushes block slot (sym was.2 ∙ flush.1)
      ];
    }
      where
        from : source + count ≤ 1048576
        from = omega (arith, h.ready.source_inside, sizes.few)

        onto : dest + count ≤ 1048576
        onto = omega (arith, h.ready.dest_inside, sizes.few)

        act : (i : ℕ) → i < done → ((i < count) × (get_or (acts_before_log copied) i acts.End ≡ acts.Read (source + i) i))
            ⊎ (((j : ℕ) × (j < count) × (i ≡ count + j) × (get_or (acts_before_log copied) i acts.End ≡ acts.Write (dest + j) j))
            ⊎ ((i ≡ 2 * count) × (get_or (acts_before_log copied) i acts.End ≡ acts.Flush)))
        act i below = copy_act source dest count from onto i (omega (arith, below, most, lead_copy source dest count))

        flushed_all : (i : ℕ) → i < done → get_or (acts_before_log copied) i acts.End ≡ acts.Flush → 2 * count < done
        flushed_all i below is = elim (act i below) [
          | inl reads ↦ read_flushes (source + i) i (sym reads.1 ∙ is)
          | inr (inl writes) ↦ write_flushes (dest + writes.0) writes.0 (sym writes.3 ∙ is)
          | inr (inr flush) ↦ omega (arith, flush.0, below)
        ]

  job_held : IsValid g → (job : Job) (done : ℕ) → JobIsReady g m.kinds m.clean log job done slots
      → ActsStand job done slots now may → JobHeld g m log job done slots now may
  job_held sizes jobs.Rewrite done l a = tt
  job_held sizes (jobs.Link dest) done l a = (link_held dest done l.0 a, l.1)
  job_held sizes (jobs.Copy source dest count) done l a = (copy_held sizes source dest count done l.0 a, l.1)
  job_held sizes (jobs.Move from to) done l a = (move_held from to done l.0 a, l.1)

  job_stands : IsValid g → (job : Job) (done : ℕ) → done ≤ length (acts_before_log job)
      → JobHeld g m log job done slots now may → ActsStand job done slots now may
  job_stands sizes jobs.Rewrite done most h = record {
    read = λ block slot was. absurd (omega (arith, most, was.1));
    wrote = λ block slot was. absurd (omega (arith, most, was.1));
    durable = λ block slot was flushed. absurd (omega (arith, most, was.1));
  }
  job_stands sizes (jobs.Link dest) done most h = link_stands dest done h.0
  job_stands sizes (jobs.Copy source dest count) done most h = copy_stands sizes source dest count done most h.0
  job_stands sizes (jobs.Move from to) done most h = move_stands from to done h.0

-- ----------------------------------------------------------------------------------------------------------------
-- What is in hand.

module _ (g : Geometry) (m : Memory) (now : Contents) (may : Candidates) where
  prepare_held : (c b : ℕ) (act : PrepareAct) → PrepareIsSound g m c b act → PrepareStands g m.log c b act now
      → PrepareHeld g m c b act now
  prepare_held c b ReadsBlock0 l d = l
  prepare_held c b (WritesCurrent v) l d = (l.0, d)
  prepare_held c b (WritesBackup v) l d = (l.0, d.0, d.1)
  prepare_held c b (FlushesCopies v) l d = (l.0, d.0, d.1, d.2)
  prepare_held c b WritesFirstLog l d = l
  prepare_held c b FlushesFirstLog l d = (l, λ log some. d ∙ some)

  commit_held : (again : Bool) (act : CommitAct) → CommitIsSound g m again act → CommitStands g (place_of m 0) act now may
      → CommitHeld g m again act now may
  commit_held again FlushesAll l d = l
  commit_held again ReadsCurrent l d = (l, d)
  commit_held again (WritesBlock0 v) l d = (l.0, d.0, d.1)
  commit_held again FlushesDecision l d = (l, d)

  hand_held : IsValid g → (hand : Hand) (log : Option Generation) → m.log ≡ log → HandIsSound g m hand log
      → HandStands g m hand now may log → HandHeld g m hand now may log
  hand_held sizes Empty log is l d = tt
  hand_held sizes (Batching b) None is l d = absurd d
  hand_held sizes (Batching b) (Some log) is l d = record {
    phase = l.phase;
    for_write = l.for_write.waits;
    runs = l.runs;
    so_far = l.so_far;
    before = λ most. job_held g m now may log b.slots sizes b.progress.job b.progress.done (l.before most) (d.before most);
    after = λ all. (d.after all, l.after all);
  }
  hand_held sizes (Preparing t c b act) log is l d = (
    prepare_held c b act l.0 (subst (λ o. PrepareStands g o c b act now) (sym is) d),
    l.1,
  )
  hand_held sizes (Committing t again act) log is l d = (
    commit_held again act l.0 d,
    l.1,
  )

  -- in Arming there is a log
  armed_log : (phase : Phase) (log : Option Generation) (picked : ℕ) → phase ≡ Arming
      → LogIsHeld g m.kinds m.clean m.trimmed picked phase log → (l : Generation) × (log ≡ Some l)
  armed_log phase None picked is h = absurd (subst (λ p. LogIsHeld g m.kinds m.clean m.trimmed picked p None) is h)
  armed_log phase (Some l) picked is h = (l, refl)

  prepare_stands : (c b : ℕ) (act : PrepareAct) → MemoryIsSound g m → PrepareHeld g m c b act now
      → PrepareStands g m.log c b act now
  prepare_stands c b ReadsBlock0 s h = tt
  prepare_stands c b (WritesCurrent v) s h = h.1
  prepare_stands c b (WritesBackup v) s h = (h.1, h.2)
  prepare_stands c b (FlushesCopies v) s h = (h.1, h.2, h.3)
  prepare_stands c b WritesFirstLog s h = tt
  prepare_stands c b FlushesFirstLog s h = let l = armed_log m.phase m.log (reserved m.hand).count h.0 s.log in h.1 l.0 l.1 ∙ sym l.1

  commit_stands : (again : Bool) (act : CommitAct) → CommitHeld g m again act now may → CommitStands g (place_of m 0) act now may
  commit_stands again FlushesAll h = tt
  commit_stands again ReadsCurrent h = h.1
  commit_stands again (WritesBlock0 v) h = (h.1, h.2)
  commit_stands again FlushesDecision h = h.1

  hand_stands : MemoryIsSound g m → (hand : Hand) (log : Option Generation) → m.log ≡ log
      → HandHeld g m hand now may log → HandStands g m hand now may log
  hand_stands s Empty log is h = tt
  hand_stands s (Batching b) None is h = absurd h
  hand_stands s (Batching b) (Some log) is h = record {
    before = λ most. job_stands g m now may log b.slots s.sizes b.progress.job b.progress.done most (h.before most);
    after = λ all. (h.after all).0;
  }
  hand_stands s (Preparing t c b act) log is h = subst (λ o. PrepareStands g o c b act now) is (prepare_stands c b act s h.0)
  hand_stands s (Committing t again act) log is h = commit_stands again act h.0

-- ----------------------------------------------------------------------------------------------------------------

-- what stands, as the proofs carry it
pub held : (g : Geometry) (m : Memory) (now : Contents) (may : Candidates) (f : Flat) → IsStanding g m now may f
    → IsHeld g m now may f
held g m now may f s = record {
  memory = record { sizes = s.sound.sizes; table = s.sound.table; requests = all_requests g m.requests s.sound.requests; tickets = own_tickets m.requests s.sound.rising };
  state = s.state;
  phases = s.phases;
  held = s.held;
  shown = s.shown;
  kept = kept_whole g m now may f m.phase m.log s.sound.table.size s.sound.log s.kept;
  in_hand = hand_held g m now may s.sound.sizes m.hand m.log refl s.sound.in_hand s.in_hand;
}

-- and, beside sound memory and a disk of blocks, back
pub standing : (g : Geometry) (m : Memory) (now : Contents) (may : Candidates) (f : Flat) → MemoryIsSound g m
    → HasBlocks g now → IsHeld g m now may f → IsStanding g m now may f
standing g m now may f sound blocks h = record {
  sound = sound;
  blocks = blocks;
  state = h.state;
  phases = h.phases;
  held = h.held;
  shown = h.shown;
  kept = kept_on_disk g m now may f m.phase m.log h.kept;
  in_hand = hand_stands g m now may sound m.hand m.log refl h.in_hand;
}
