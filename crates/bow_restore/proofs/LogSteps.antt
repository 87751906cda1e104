-- What the replay of one log does: its entries, and then block 0.
use Rattle.std.proofs.Common.{ℕ, ◌+◌, ◌<◌, ◌≤◌, ◌≡◌, Bool, true, false, if◌then◌else◌, List, [], ◌∷◌, ◌++◌, take, drop, arith, refl, sym, ap, ◌∙◌, subst}
use Rattle.std.specs.List.{AllByRecursion as Each}
use Rattle.std.proofs.lemmas.Bool.Decides.{nat_tests}
use Rattle.bow_units.specs.declared.sizes.Geometry.{Geometry}
use Rattle.bow_units.specs.Sizes.{IsValid}
use Rattle.bow_log.specs.Spelling.{Fields}
use Rattle.bow_log.specs.Generations.{Backup, Generation, IsBackup, StartsWith0, generation_of}
use Rattle.bow_log.specs.Rules.{IsLog}
use Rattle.bow_log.proofs.InBlocks.{in_blocks}
use Rattle.bow_disk.specs.Disk.{Content}
use Rattle.bow_chain.specs.Contents.{Contents, contents_of}
use Rattle.bow_chain.specs.Places.{pass}
use Rattle.bow_restore.specs.Marks.{meets, overlaps, since_mark, marks_in}
use Rattle.bow_restore.specs.Copies.{run_copies, log_copies, copied, writes_in}
use Rattle.bow_restore.specs.Replaying.{IsFlushed, LogReplayed, HeadBack, SameOthers, AreMade, stops_in}
use Rattle.bow_restore.specs.Loops.{source_at}
use Rattle.bow_restore.proofs.Kept.{led}
use Rattle.bow_restore.proofs.Copied.{copied_log, copied-append, take_log, put_same, put_other}
use Rattle.bow_restore.proofs.Told.{Fits, now_put}
use Rattle.bow_restore.proofs.EntryLoop.{source_next}

-- a log's backups: the first one, of block 0 alone, and the others
pub record Begins (g : Geometry) (bs : List Backup) (b : Backup) (es : List Backup) : Type 0 where
  pub split : bs ≡ b ∷ es
  pub source : b.source ≡ 0
  pub count : b.count ≡ 1
  pub first : IsBackup g b
  pub others : Each (IsBackup g) es

pub begins : (g : Geometry) (log : Fields) → IsLog g log → Begins g (generation_of g log).entries (source_at g log 0) (drop 1 (generation_of g log).entries)
begins g log ok =
    let split : (generation_of g log).entries ≡ source_at g log 0 ∷ drop 1 (generation_of g log).entries = from_next (source_next g log 0 ok.some) in
    let start = subst StartsWith0 split ((in_blocks g log ok).0).start in
    let each = subst (Each (IsBackup g)) split ((in_blocks g log ok).0).each in
    record { split = split; source = start.0; count = start.1; first = each.0; others = each.1 }
  where
    from_next : drop 0 (generation_of g log).entries ≡ source_at g log 0 ∷ drop (0 + 1) (generation_of g log).entries → (generation_of g log).entries ≡ source_at g log 0 ∷ drop 1 (generation_of g log).entries
    from_next e = e

misses : (g : Geometry) (b other : Backup) → b.source ≡ 0 → b.count ≡ 1 → IsBackup g other → meets b other ≡ false
misses g b other s n ok = let d = ok.dest_not_0 in grind (arith, nat_tests)

no_overlap : (g : Geometry) (b : Backup) (others : List Backup) → b.source ≡ 0 → b.count ≡ 1 → Each (IsBackup g) others → overlaps b others ≡ false
no_overlap g b [] s n all = refl
no_overlap g b (x ∷ xs) s n all = let e = misses g b x s n all.0 in let f = no_overlap g b xs s n all.1 in grind arith

each_since : (P : Backup → Type 0) (bs : List Backup) → Each P bs → Each P (since_mark bs)
each_since P [] all = tt
each_since P (b ∷ bs) all = by (overlaps b (since_mark bs)) (each_since P bs all.1)
  where
    by : (t : Bool) → Each P (since_mark bs) → Each P (if t then b ∷ [] else b ∷ since_mark bs)
    by true more = (all.0, tt)
    by false more = (all.0, more)

-- before the first backup no mark is due
pub marks_all : (g : Geometry) (bs es : List Backup) (b : Backup) → Begins g bs b es → marks_in es ≡ marks_in bs
marks_all g bs es b h =
    sym (ap (λ t. if t then marks_in es + 1 else marks_in es) (no_overlap g b (since_mark es) h.source h.count (each_since (IsBackup g) es h.others))) ∙ sym (ap marks_in h.split)

-- how many copies there are
pub stops_all : (g : Geometry) (bs es : List Backup) (b : Backup) (is_last : Bool) → Begins g bs b es → writes_in es + (if is_last then 0 else 1) ≡ stops_in is_last bs
stops_all g bs es b true h = let e : writes_in bs ≡ writes_in es + b.count = ap writes_in h.split in omega (arith, e, h.count)
stops_all g bs es b false h = let e : writes_in bs ≡ writes_in es + b.count = ap writes_in h.split in omega (arith, e, h.count)

pub entries_fewer : (g : Geometry) (bs es : List Backup) (b : Backup) (is_last : Bool) → Begins g bs b es → writes_in es ≤ stops_in is_last bs
entries_fewer g bs es b is_last h = by is_last (stops_all g bs es b is_last h)
  where
    by : (t : Bool) → writes_in es + (if t then 0 else 1) ≡ stops_in t bs → writes_in es ≤ stops_in t bs
    by true e = omega (arith, e)
    by false e = omega (arith, e)

module _ (g : Geometry) (valid : IsValid g) (bs es : List Backup) (b : Backup) (h : Begins g bs b es) (c m : Content) (fits : Fits g m) (others : SameOthers g (contents_of m.now) (copied (log_copies es) (contents_of c.now))) where
  away : (d : Content) → HeadBack b m d → (x : ℕ) → 0 < x → x < g.blocks → contents_of d.now x ≡ copied (log_copies es) (contents_of c.now) x
  away d back x above on = now_put 0 (contents_of m.now b.dest) m.now d.now (omega (arith, fits.blocks, valid.enough)) back.now x ∙ put_other (contents_of m.now) 0 (contents_of m.now b.dest) x (λ z. omega arith) ∙ others.same x above on

  -- the whole log
  pub log_done : (log : Generation) (d : Content) → log.entries ≡ bs → HeadBack b m d → IsFlushed d → LogReplayed g log c d
  log_done log d is back flushed = record {
    flushed = flushed;
    now = λ x on. led g valid (contents_of c.now) (contents_of d.now) b es h.first h.source h.count
        (λ y above inside. away d back y above inside ∙ copied_log g es (contents_of c.now) y h.others)
        (now_put 0 (contents_of m.now b.dest) m.now d.now (omega (arith, fits.blocks, valid.enough)) back.now 0 ∙ put_same (contents_of m.now) 0 (contents_of m.now b.dest) ∙ others.same b.dest h.first.dest_not_0 (omega (arith, h.first.dest_inside, h.count)) ∙ copied_log g es (contents_of c.now) b.dest h.others)
        x on ∙ ap (λ fs. contents_of c.now (pass fs x)) (sym (is ∙ h.split));
  }

  -- its copies, the last of them that of block 0
  pub log_part : (n : ℕ) (d : Content) → n ≡ writes_in es + 1 → HeadBack b m d → AreMade g (log_copies bs) n c d
  log_part n d is back =
      let all : take n (log_copies bs) ≡ log_copies es ++ run_copies b.dest b.source 1 = ap (λ k. take k (log_copies bs)) is ∙ ap (λ fs. take (writes_in es + 1) (log_copies fs)) h.split ∙ take_log [] b es 1 (omega (arith, h.count)) in
      record {
        same = λ x above on.
            away d back x above on
            ∙ sym (put_other (copied (log_copies es) (contents_of c.now)) b.source (copied (log_copies es) (contents_of c.now) b.dest) x (λ z. omega (arith, h.source)))
            ∙ sym (ap (λ (i : Contents). i x) (copied-append (log_copies es) (run_copies b.dest b.source 1) (contents_of c.now)))
            ∙ ap (λ cs. copied cs (contents_of c.now) x) (sym all);
      }
