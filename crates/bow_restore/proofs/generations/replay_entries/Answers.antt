use Rattle.std.proofs.Common.{ℕ, ◌≡◌, ◌≤◌, ◌<◌, ◌+◌, ◌-◌, ◌∙◌, ◌∷◌, ◌++◌, [], Some, Option, List, length, take, drop, get_or, sym, refl, ap, subst, subst₂, arith, rules}
use Rattle.std.specs.List.{AllByRecursion as Each}
use Rattle.std.proofs.Math.Seq.{take-length, drop-length}
use Rattle.std.proofs.lemmas.List.{take-append-drop, length-map}
use Rattle.bow_units.specs.declared.sizes.Geometry.{Geometry}
use Rattle.bow_units.specs.Sizes.{IsValid}
use Rattle.bow_log.specs.declared.entries.Entry.{Entry}
use Rattle.bow_log.specs.Spelling.{Fields}
use Rattle.bow_log.specs.Generations.{Backup, Generation, IsBackup, backup_of, generation_of}
use Rattle.bow_disk.specs.Disk.{Content}
use Rattle.bow_chain.specs.Contents.{contents_of}
use Rattle.bow_chain.specs.Kept.{kept, Keeps}
use Rattle.bow_chain.specs.Chains.{IsEntry}
use Rattle.bow_chain.proofs.Sectors.{entry_in}
use Rattle.bow_restore.specs.Marks.{since_mark, marks_in}
use Rattle.bow_restore.specs.Copies.{log_copies, writes_in}
use Rattle.bow_restore.specs.Limits.{GoesOn, StopsWithin, spent}
use Rattle.bow_restore.specs.Dests.{AreNoted}
use Rattle.bow_restore.specs.Loops.{since_in, source_at}
use Rattle.bow_restore.specs.Rewinds.{every}
use Rattle.bow_disk.specs.Moments.{AddsCuts, Tells}
use Rattle.bow_restore.specs.Replaying.{Replayed, PartReplayed, Holding, AreMade, CopiedBack, IsCutBeside, SameOthers, still_since}
use Rattle.bow_restore.specs.declared.halts.Halt.TheVariants.{Limit}
use Rattle.bow_restore.proofs.Limits.{goes_none, spent_none, goes_step, spent_step, stops_step, left_is, goes_is, within_is}
use Rattle.bow_restore.proofs.Cuts.{replay_begins}
use Rattle.bow_restore.proofs.EntryLoop.{source_next, source_last, since_none, since_step, entries_since}
use Rattle.bow_restore.proofs.EntrySteps.{entry_done, entry_cut, entry_part, source_above, marks_step, end_is, end_in, made_few, writes_drop}
use Rattle.bow_disk.proofs.Moments.{tells_map, adds_none, adds_then, adds_map}
use Rattle.bow_restore.proofs.generations.replay_entries.Given.{Over}
use Rattle.bow_restore.proofs.generations.replay_entries.Goals as goal
use Rattle.bow_restore.proofs.generations.replay_entries.Goals.{After-mark_before, After-copy_back, After-loop-index}

abbrev no_entry : Entry
no_entry = record { source = 0; dest = 0; size = 0; sum = 0 }

starts : (g : Geometry) (valid : IsValid g) (log : Fields) (older : List Generation) (bs : List Backup) (n : ℕ) (k : Content) → drop n bs ≡ [] → take n bs ≡ bs → Holding g (generation_of g log) older k
    → Replayed g (kept (contents_of k.now) (generation_of g log ∷ older)) older bs [] k → PartReplayed g (kept (contents_of k.now) (generation_of g log ∷ older)) older (take n bs) (drop n bs) k k
starts g valid log older bs n k gone all h r =
    let here : PartReplayed g (kept (contents_of k.now) (generation_of g log ∷ older)) older bs [] k k = record { state = r; others = record { same = λ x above on. refl } } in
    subst₂ (λ (fs ds : List Backup). PartReplayed g (kept (contents_of k.now) (generation_of g log ∷ older)) older fs ds k k) (sym all) (sym gone) here

pub loop-index-init : goal.loop-index-init
loop-index-init g c =
    let geo = c.args.geometry in
    let log = c.args.log.now in
    let bs = (generation_of geo log).entries in
    let n = c.len-count.result in
    let long : n ≡ length bs = omega (arith, length-map log.entries (backup_of geo), ap (λ (l : Fields). length l.entries) c.log.view_is, c.len-count.ensures.value) in
    let gone : drop n bs ≡ [] = ap (λ m. drop m bs) long ∙ drop-length bs in
    let all : take n bs ≡ bs = ap (λ m. take m bs) long ∙ take-length bs in
    record {
      above = omega (arith, long, c.requires.log.some, length-map log.entries (backup_of geo));
      end_above = omega arith;
      end_within = omega (arith, long, length-map log.entries (backup_of geo));
      since = since_none geo log n n (omega arith) ∙ sym (ap since_mark gone);
      noted = subst (λ (done : List Backup). AreNoted geo done c.args.dests.now) (sym (since_none geo log n n (omega arith))) c.requires.none;
      made = sym (ap marks_in gone);
      few = omega (arith, long, length-map log.entries (backup_of geo));
      limit = subst (λ (ds : List Backup). GoesOn c.args.left.now (writes_in ds)) (sym gone) (goes_none c.args.left.now c.requires.limit);
      rest = spent_none c.args.left.now ∙ ap (λ (ds : List Backup). spent c.args.left.now (writes_in ds)) (sym gone);
      sizes = c.requires.sizes;
      faults = omega arith;
      state = λ k is older h. record {
        told = k;
        is = is;
        holds = starts geo c.requires.log.device log older bs n k gone all h (replay_begins geo c.requires.log.device (kept (contents_of k.now) (generation_of geo log ∷ older)) older k (generation_of geo log) (g.met.D.Disk.shaped c.args.disk.now k is geo c.requires.sizes) h.flushed h.sound (λ x on. refl));
      };
      cuts = λ k is older h. adds_none g.D.Disk.content g.D.Disk.moment g.D.Disk.left_since _ c.args.disk.now;
    }

pub copy_back-requires-clause-entry : goal.copy_back-requires-clause-entry
copy_back-requires-clause-entry g c =
    let same : c.deref.result.now ≡ c.args.log.now.entries = c.deref.ensures.0 ∙ ap (λ (l : Fields). l.entries) c.log.view_is in
    entry_in c.args.geometry c.args.log.now c.deref.result.now (c.loop-index.index - 1) no_entry same c.requires.log (omega (arith, ap (λ (es : List Entry). length es) same, c.loop-index.invariant.end_above, c.loop-index.invariant.end_within))

-- what stands once the entries from this one on are replayed
abbrev Behind : (g : Geometry) (log : Fields) (older : List Generation) (k : Content) (i : ℕ) → Content → Type 0
Behind g log older k i = PartReplayed g (kept (contents_of k.now) (generation_of g log ∷ older)) older (take i (generation_of g log).entries) (drop i (generation_of g log).entries) k

module _ (g : Geometry) (log : Fields) (i : ℕ) (some : 0 < i) where
  behind_last : {T : Type 0} (content : T → Option Content) (disk : T) (older : List Generation) (k : Content) → Tells content (Behind g log older k i) disk → Tells content (Behind g log older k (i - 1 + 1)) disk
  behind_last content disk older k t = subst (λ n. Tells content (Behind g log older k n) disk) (omega (arith, some)) t

  since_last : (end : ℕ) → since_in g log i end ≡ since_mark (drop i (generation_of g log).entries) → since_in g log (i - 1 + 1) end ≡ since_mark (drop (i - 1 + 1) (generation_of g log).entries)
  since_last end is = subst (λ n. since_in g log n end ≡ since_mark (drop n (generation_of g log).entries)) (omega (arith, some)) is

replayed : (g : Geometry) (log : Fields) (older : List Generation) (k d : Content) (i end : ℕ) → since_in g log i end ≡ since_mark (drop i (generation_of g log).entries) → Behind g log older k i d
    → Replayed g (kept (contents_of k.now) (generation_of g log ∷ older)) older (take i (generation_of g log).entries) (since_in g log i end) d
replayed g log older k d i end is part = subst (λ s. Replayed g (kept (contents_of k.now) (generation_of g log ∷ older)) older (take i (generation_of g log).entries) s d) (sym is) part.state

module _ (g : Over) where
  mark_cuts : (c : After-mark_before g) (k : Content) → g.D.Disk.content c.args.disk.now ≡ Some k → (older : List Generation) → Holding c.args.geometry (generation_of c.args.geometry c.args.log.now) older k
      → AddsCuts g.D.Disk.moment g.D.Disk.left_since (λ image. Keeps c.args.geometry every (kept (contents_of k.now) (generation_of c.args.geometry c.args.log.now ∷ older)) (contents_of image)) c.args.disk.now c.mark_before.new.disk
  mark_cuts c k is older h =
      let geo = c.args.geometry in
      let log = c.args.log.now in
      let i = c.loop-index.index in
      let some : 0 < i = omega (arith, c.loop-index-test.true) in
      let prev = behind_last geo log i some g.D.Disk.content c.loop-index.disk older k (c.loop-index.invariant.state k is older h) in
      adds_then g.D.Disk.content g.D.Disk.moment g.D.Disk.left_since _ c.args.disk.now c.loop-index.disk c.mark_before.new.disk (c.loop-index.invariant.cuts k is older h)
      (c.mark_before.ensures.cuts prev.told prev.is (kept (contents_of k.now) (generation_of geo log ∷ older)) older (sym h.sound.behind.sequence)
      (replayed geo log older k prev.told (i - 1 + 1) c.loop-index.marks.end (since_last geo log i some c.loop-index.marks.end c.loop-index.invariant.since) prev.holds))

  some : (c : After-copy_back g) → 0 < c.loop-index.index
  some c = omega (arith, c.loop-index-test.true)

  before : (c : After-copy_back g) (k : Content) → g.D.Disk.content c.args.disk.now ≡ Some k → (older : List Generation) → Holding c.args.geometry (generation_of c.args.geometry c.args.log.now) older k
      → Tells g.D.Disk.content (Behind c.args.geometry c.args.log.now older k (c.loop-index.index - 1 + 1)) c.loop-index.disk
  before c k is older h = behind_last c.args.geometry c.args.log.now c.loop-index.index (some c) g.D.Disk.content c.loop-index.disk older k (c.loop-index.invariant.state k is older h)

  before_since : (c : After-copy_back g) → since_in c.args.geometry c.args.log.now (c.loop-index.index - 1 + 1) c.loop-index.marks.end ≡ since_mark (drop (c.loop-index.index - 1 + 1) (generation_of c.args.geometry c.args.log.now).entries)
  before_since c = since_last c.args.geometry c.args.log.now c.loop-index.index (some c) c.loop-index.marks.end c.loop-index.invariant.since

  -- the backup of this turn
  this : (c : After-copy_back g) → backup_of c.args.geometry (get_or c.deref.result.now (c.loop-index.index - 1) no_entry) ≡ source_at c.args.geometry c.args.log.now (c.loop-index.index - 1)
  this c =
      let same : c.deref.result.now ≡ c.args.log.now.entries = c.deref.ensures.0 ∙ ap (λ (l : Fields). l.entries) c.log.view_is in
      ap (λ (es : List Entry). backup_of c.args.geometry (get_or es (c.loop-index.index - 1) no_entry)) same

  within : (c : After-copy_back g) → c.loop-index.index - 1 < length c.args.log.now.entries
  within c = omega (arith, c.loop-index.invariant.end_above, c.loop-index.invariant.end_within, c.loop-index-test.true)

  ok : (c : After-copy_back g) → IsBackup c.args.geometry (source_at c.args.geometry c.args.log.now (c.loop-index.index - 1))
  ok c = (entry_in c.args.geometry c.args.log.now c.args.log.now.entries (c.loop-index.index - 1) no_entry refl c.requires.log (within c)).backup

  positive : (c : After-copy_back g) → 0 < (source_at c.args.geometry c.args.log.now (c.loop-index.index - 1)).source
  positive c = source_above c.args.geometry c.args.log.now (c.loop-index.index - 1) c.requires.log (omega (arith, c.loop-index-test.true)) (within c)

  marked : (c : After-copy_back g) (k : Content) (is : g.D.Disk.content c.args.disk.now ≡ Some k) (older : List Generation) (h : Holding c.args.geometry (generation_of c.args.geometry c.args.log.now) older k)
      → Tells g.D.Disk.content (λ d. Replayed c.args.geometry (kept (contents_of k.now) (generation_of c.args.geometry c.args.log.now ∷ older)) older (take (c.loop-index.index - 1 + 1) (generation_of c.args.geometry c.args.log.now).entries)
      (still_since (source_at c.args.geometry c.args.log.now (c.loop-index.index - 1)) (since_in c.args.geometry c.args.log.now (c.loop-index.index - 1 + 1) c.loop-index.marks.end)) d
      × SameOthers c.args.geometry (contents_of d.now) (contents_of (before c k is older h).told.now)) c.mark_before.new.disk
  marked c k is older h = c.in_ok-mark_before.ensures.state (before c k is older h).told (before c k is older h).is (kept (contents_of k.now) (generation_of c.args.geometry c.args.log.now ∷ older)) older (sym h.sound.behind.sequence) (replayed c.args.geometry c.args.log.now older k (before c k is older h).told (c.loop-index.index - 1 + 1) c.loop-index.marks.end (before_since c) (before c k is older h).holds)

  marked_state : (c : After-copy_back g) (k : Content) (is : g.D.Disk.content c.args.disk.now ≡ Some k) (older : List Generation) (h : Holding c.args.geometry (generation_of c.args.geometry c.args.log.now) older k)
      → Replayed c.args.geometry (kept (contents_of k.now) (generation_of c.args.geometry c.args.log.now ∷ older)) older (take (c.loop-index.index - 1) (generation_of c.args.geometry c.args.log.now).entries ++ source_at c.args.geometry c.args.log.now (c.loop-index.index - 1) ∷ [])
      (still_since (source_at c.args.geometry c.args.log.now (c.loop-index.index - 1)) (since_in c.args.geometry c.args.log.now (c.loop-index.index - 1 + 1) c.loop-index.marks.end)) (marked c k is older h).told
  marked_state c k is older h =
      subst (λ (bs : List Backup). Replayed c.args.geometry (kept (contents_of k.now) (generation_of c.args.geometry c.args.log.now ∷ older)) older bs (still_since (source_at c.args.geometry c.args.log.now (c.loop-index.index - 1)) (since_in c.args.geometry c.args.log.now (c.loop-index.index - 1 + 1) c.loop-index.marks.end)) (marked c k is older h).told)
      (source_last c.args.geometry c.args.log.now (c.loop-index.index - 1) (within c)) (marked c k is older h).holds.0

  copy_cuts : (c : After-copy_back g) (k : Content) (is : g.D.Disk.content c.args.disk.now ≡ Some k) (older : List Generation) (h : Holding c.args.geometry (generation_of c.args.geometry c.args.log.now) older k)
      → AddsCuts g.D.Disk.moment g.D.Disk.left_since (λ image. Keeps c.args.geometry every (kept (contents_of k.now) (generation_of c.args.geometry c.args.log.now ∷ older)) (contents_of image)) c.args.disk.now c.mark_before.new.disk
      → AddsCuts g.D.Disk.moment g.D.Disk.left_since (λ image. Keeps c.args.geometry every (kept (contents_of k.now) (generation_of c.args.geometry c.args.log.now ∷ older)) (contents_of image)) c.args.disk.now c.copy_back.new.disk
  copy_cuts c k is older h so_far =
      let m = marked c k is older h in
      adds_then g.D.Disk.content g.D.Disk.moment g.D.Disk.left_since _ c.args.disk.now c.mark_before.new.disk c.copy_back.new.disk so_far
      (adds_map g.D.Disk.content g.D.Disk.moment g.D.Disk.left_since (IsCutBeside c.args.geometry (backup_of c.args.geometry (get_or c.deref.result.now (c.loop-index.index - 1) no_entry)) m.told) _ c.mark_before.new.disk c.copy_back.new.disk
      (λ cut beside. entry_cut c.args.geometry c.requires.log.device (kept (contents_of k.now) (generation_of c.args.geometry c.args.log.now ∷ older)) older (take (c.loop-index.index - 1) (generation_of c.args.geometry c.args.log.now).entries) (drop (c.loop-index.index - 1 + 1) (generation_of c.args.geometry c.args.log.now).entries)
      (since_in c.args.geometry c.args.log.now (c.loop-index.index - 1 + 1) c.loop-index.marks.end) (source_at c.args.geometry c.args.log.now (c.loop-index.index - 1)) m.told cut (positive c) (before_since c) (marked_state c k is older h)
      (subst (λ (b : Backup). IsCutBeside c.args.geometry b m.told cut) (this c) beside))
      (c.copy_back.ensures.cuts m.told m.is))

  -- how many blocks are copied once this entry is
  writes : (c : After-copy_back g) → writes_in (drop c.loop-index.index (generation_of c.args.geometry c.args.log.now).entries) + (backup_of c.args.geometry (get_or c.deref.result.now (c.loop-index.index - 1) no_entry)).count ≡ writes_in (drop (c.loop-index.index - 1) (generation_of c.args.geometry c.args.log.now).entries)
  writes c =
      let bs = (generation_of c.args.geometry c.args.log.now).entries in
      let next : c.loop-index.index ≡ c.loop-index.index - 1 + 1 = omega (arith, c.loop-index-test.true) in
      ap (λ n. writes_in (drop n bs) + (backup_of c.args.geometry (get_or c.deref.result.now (c.loop-index.index - 1) no_entry)).count) next
      ∙ ap (λ (b : Backup). writes_in (drop (c.loop-index.index - 1 + 1) bs) + b.count) (this c)
      ∙ ap writes_in (sym (source_next c.args.geometry c.args.log.now (c.loop-index.index - 1) (within c)))

pub returns-in_err-mark_before-clause-cuts : goal.returns-in_err-mark_before-clause-cuts
returns-in_err-mark_before-clause-cuts g c k is older h = mark_cuts g (goal.at.returns-in_err-mark_before-clause-cuts g c).After-mark_before k is older h

pub returns-in_err-copy_back-clause-cuts : goal.returns-in_err-copy_back-clause-cuts
returns-in_err-copy_back-clause-cuts g c k is older h = let q = goal.at.returns-in_err-copy_back-clause-cuts g c in copy_cuts g q.After-copy_back k is older h (mark_cuts g q.After-mark_before k is older h)

pub returns-in_err-copy_back-clause-stops : goal.returns-in_err-copy_back-clause-stops
returns-in_err-copy_back-clause-stops g c =
    let q = (goal.at.returns-in_err-copy_back-clause-stops g c).After-copy_back in
    let inv = c.loop-index.invariant in
    let bs = (generation_of c.args.geometry c.args.log.now).entries in
    let here : c.in_err-copy_back.field-0.0 ≡ Limit → StopsWithin c.args.left.now (writes_in (drop 1 bs)) = λ e.
    stops_step c.args.left.now c.loop-index.left (writes_in (drop c.loop-index.index bs)) (backup_of c.args.geometry (get_or c.deref.result.now (c.loop-index.index - 1) no_entry)).count (writes_in (drop (c.loop-index.index - 1) bs)) (writes_in (drop 1 bs)) inv.rest (writes g q)
    (writes_drop bs 1 (c.loop-index.index - 1) (omega (arith, c.loop-index-test.true))) inv.limit (c.in_err-copy_back.ensures.stops e) in
    search rules

pub returns-in_err-copy_back-clause-part : goal.returns-in_err-copy_back-clause-part
returns-in_err-copy_back-clause-part g c k is older h n limit =
    let q = (goal.at.returns-in_err-copy_back-clause-part g c).After-copy_back in
    let inv = c.loop-index.invariant in
    let geo = c.args.geometry in
    let bs = (generation_of geo c.args.log.now).entries in
    let j = c.loop-index.index - 1 in
    let b = source_at geo c.args.log.now j in
    let w = writes_in (drop c.loop-index.index bs) in
    let left : c.loop-index.left ≡ Some (n - w) = inv.rest ∙ left_is c.args.left.now w n limit in
    let some : w < n = goes_is c.args.left.now w n inv.limit limit in
    let next : c.loop-index.index ≡ j + 1 = omega (arith, c.loop-index-test.true) in
    let total : writes_in (drop (j + 1) bs) + (n - w) ≡ n = ap (λ m. writes_in (drop m bs) + (n - w)) (sym next) ∙ (let t : w + (n - w) ≡ n = omega (arith, some) in t) in
    let whole : take j bs ++ b ∷ drop (j + 1) bs ≡ bs = ap (λ (ds : List Backup). take j bs ++ ds) (sym (source_next geo c.args.log.now j (within g q))) ∙ take-append-drop j bs in
    let m = marked g q k is older h in
    let here : c.in_err-copy_back.field-0.0 ≡ Limit → Tells g.D.Disk.content (AreMade geo (log_copies bs) n k) c.copy_back.new.disk = λ e.
    tells_map g.D.Disk.content (CopiedBack (backup_of c.args.geometry (get_or c.deref.result.now (c.loop-index.index - 1) no_entry)) (n - w) m.told) (AreMade geo (log_copies bs) n k) c.copy_back.new.disk
    (λ d at back. subst₂ (λ (fs : List Backup) (t : ℕ). AreMade geo (log_copies fs) t k d) whole total
    (entry_part geo (take j bs) (drop (j + 1) bs) b (n - w) k (before g q k is older h).told m.told d (ok g q)
    (subst (λ (x : Backup). n - w ≤ x.count) (this g q) (within_is c.loop-index.left _ (n - w) (c.in_err-copy_back.ensures.stops e) left))
    (before g q k is older h).holds.others m.holds.1 (subst (λ (x : Backup). CopiedBack x (n - w) m.told d) (this g q) back)))
    (c.in_err-copy_back.ensures.part m.told m.is (n - w) left e) in
    search rules

pub loop-index-preserved : goal.loop-index-preserved
loop-index-preserved g c =
    let at = goal.at.loop-index-preserved g c in
    let q = at.After-copy_back in
    let inv = c.loop-index.invariant in
    let geo = c.args.geometry in
    let log = c.args.log.now in
    let bs = (generation_of geo log).entries in
    let steps = marks_step geo log (c.loop-index.index - 1) c.loop-index.marks c.mark_before.new.marks (omega (arith, inv.end_above, c.loop-index-test.true)) inv.end_within c.in_ok-mark_before.ensures.marks (before_since g q) (inv.made ∙ ap (λ m. marks_in (drop m bs)) (omega (arith, c.loop-index-test.true))) in
    record {
      above = omega (arith, c.loop-index-test.true);
      end_above = end_is geo log (c.loop-index.index - 1) c.loop-index.marks c.mark_before.new.marks (omega (arith, inv.end_above)) c.in_ok-mark_before.ensures.marks;
      end_within = end_in geo log (c.loop-index.index - 1) c.loop-index.marks c.mark_before.new.marks (within g q) inv.end_within c.in_ok-mark_before.ensures.marks;
      since = steps.0;
      noted =
          (let j = c.loop-index.index - 1 in
          let b = source_at geo log j in
          let told = c.note.ensures.noted (still_since b (since_in geo log (j + 1) c.loop-index.marks.end)) c.mark_before.ensures.noted in
          let all : c.deref-in-loop-index.result.now ≡ log.entries = c.deref-in-loop-index.ensures.0 ∙ ap (λ (l : Fields). l.entries) c.log.view_is in
          let here = subst (λ (es : List Entry). AreNoted geo (backup_of geo (get_or es j no_entry) ∷ still_since b (since_in geo log (j + 1) c.loop-index.marks.end)) c.note.new.dests) all told in
          let is : since_in geo log j c.mark_before.new.marks.end ≡ b ∷ still_since b (since_in geo log (j + 1) c.loop-index.marks.end) = steps.0 ∙ ap since_mark (source_next geo log j (within g q)) ∙ since_step b (drop (j + 1) bs) ∙ ap (λ (s : List Backup). b ∷ still_since b s) (sym (before_since g q)) in
          subst (λ (s : List Backup). AreNoted geo s c.note.new.dests) (sym is) here);
      made = steps.1;
      few = made_few geo log (c.loop-index.index - 1) c.loop-index.marks c.mark_before.new.marks (length log.entries) (omega (arith, inv.few, c.loop-index-test.true)) c.in_ok-mark_before.ensures.marks;
      limit = goes_step c.args.left.now c.loop-index.left (writes_in (drop c.loop-index.index bs)) (backup_of c.args.geometry (get_or c.deref.result.now (c.loop-index.index - 1) no_entry)).count (writes_in (drop (c.loop-index.index - 1) bs)) inv.rest (writes g q) inv.limit c.in_ok-copy_back.ensures.going;
      rest = spent_step c.args.left.now c.loop-index.left c.copy_back.new.left (writes_in (drop c.loop-index.index bs)) (backup_of c.args.geometry (get_or c.deref.result.now (c.loop-index.index - 1) no_entry)).count (writes_in (drop (c.loop-index.index - 1) bs)) inv.rest (writes g q) c.in_ok-copy_back.ensures.rest;
      sizes = c.copy_back.ensures.sizes;
      faults = omega (arith, inv.faults, c.mark_before.ensures.cause.later, c.copy_back.ensures.faults);
      state = λ k is older h.
          (let m = marked g q k is older h in
          let saved = kept (contents_of k.now) (generation_of geo log ∷ older) in
          let j = c.loop-index.index - 1 in
          tells_map g.D.Disk.content (CopiedBack (backup_of c.args.geometry (get_or c.deref.result.now (c.loop-index.index - 1) no_entry)) (backup_of c.args.geometry (get_or c.deref.result.now (c.loop-index.index - 1) no_entry)).count m.told) (PartReplayed geo saved older (take j bs) (drop j bs) k) c.copy_back.new.disk
          (λ d here back. subst (λ (ds : List Backup). PartReplayed geo saved older (take j bs) ds k d) (sym (source_next geo log j (within g q)))
          (entry_done geo c.requires.log.device saved older (take j bs) (drop (j + 1) bs) (since_in geo log (j + 1) c.loop-index.marks.end) (source_at geo log j) k (before g q k is older h).told m.told d (ok g q) (positive g q) (before_since g q)
          (before g q k is older h).holds.others (marked_state g q k is older h) m.holds.1 (subst (λ (x : Backup). CopiedBack x x.count m.told d) (this g q) back)))
          (c.in_ok-copy_back.ensures.copied m.told m.is));
      cuts = λ k is older h. copy_cuts g q k is older h (mark_cuts g at.After-mark_before k is older h);
    }

pub note-requires-clause-entry : goal.note-requires-clause-entry
note-requires-clause-entry g c =
    let same : c.deref-in-loop-index.result.now ≡ c.args.log.now.entries = c.deref-in-loop-index.ensures.0 ∙ ap (λ (l : Fields). l.entries) c.log.view_is in
    entry_in c.args.geometry c.args.log.now c.deref-in-loop-index.result.now (c.loop-index.index - 1) no_entry same c.requires.log (omega (arith, ap (λ (es : List Entry). length es) same, c.loop-index.invariant.end_above, c.loop-index.invariant.end_within))

pub forget-requires-clause-entries : goal.forget-requires-clause-entries
forget-requires-clause-entries g c =
    let same : c.deref-2.result.now ≡ c.args.log.now.entries = c.deref-2.ensures.0 ∙ ap (λ (l : Fields). l.entries) c.log.view_is in
    subst (λ (es : List Entry). Each (IsEntry c.args.geometry) (take (c.loop-index.marks.end - 1) (drop 1 es))) (sym same) (entries_since c.args.geometry c.args.log.now 1 c.loop-index.marks.end c.requires.log)

ends : (g : Over) (c : After-loop-index g) → c.loop-index.index ≡ 1
ends g c = omega (arith, c.loop-index.invariant.above, c.loop-index-test.false)

pub returns-clause-marks : goal.returns-clause-marks
returns-clause-marks g c = c.loop-index.invariant.made ∙ ap (λ n. marks_in (drop n (generation_of c.args.geometry c.args.log.now).entries)) (ends g (goal.at.returns-clause-marks g c).After-loop-index)

pub returns-clause-going : goal.returns-clause-going
returns-clause-going g c = subst (λ n. GoesOn c.args.left.now (writes_in (drop n (generation_of c.args.geometry c.args.log.now).entries))) (ends g (goal.at.returns-clause-going g c).After-loop-index) c.loop-index.invariant.limit

pub returns-clause-rest : goal.returns-clause-rest
returns-clause-rest g c = c.loop-index.invariant.rest ∙ ap (λ n. spent c.args.left.now (writes_in (drop n (generation_of c.args.geometry c.args.log.now).entries))) (ends g (goal.at.returns-clause-rest g c).After-loop-index)

pub returns-clause-state : goal.returns-clause-state
returns-clause-state g c k is older h =
    subst (λ n. Tells g.D.Disk.content (PartReplayed c.args.geometry (kept (contents_of k.now) (generation_of c.args.geometry c.args.log.now ∷ older)) older (take n (generation_of c.args.geometry c.args.log.now).entries) (drop n (generation_of c.args.geometry c.args.log.now).entries) k) c.loop-index.disk)
    (ends g (goal.at.returns-clause-state g c).After-loop-index) (c.loop-index.invariant.state k is older h)
