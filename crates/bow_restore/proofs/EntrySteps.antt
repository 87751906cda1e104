-- What one turn of that loop does.
use Rattle.std.proofs.Common.{ℕ, zero, suc, ◌+◌, ◌<◌, ◌≤◌, ◌≡◌, true, false, if◌then◌else◌, List, [], ◌∷◌, ◌++◌, length, drop, arith, sym, ap, ◌∙◌, subst, inl, inr}
use Rattle.std.specs.List.{AllByRecursion as Each}
use Rattle.std.proofs.lemmas.List.{length-map}
use Rattle.bow_units.specs.declared.sizes.Geometry.{Geometry}
use Rattle.bow_units.specs.Sizes.{IsValid}
use Rattle.bow_log.specs.Spelling.{Fields}
use Rattle.bow_log.specs.Generations.{Backup, Generation, IsBackup, StartsWith0, backup_of, generation_of}
use Rattle.bow_log.specs.Rules.{IsLog}
use Rattle.bow_log.proofs.InBlocks.{in_blocks}
use Rattle.bow_disk.specs.Disk.{Content}
use Rattle.bow_chain.specs.Contents.{Contents, contents_of}
use Rattle.bow_chain.specs.Kept.{Keeps}
use Rattle.bow_restore.specs.Marks.{AreClear, overlaps, since_mark, marks_in}
use Rattle.bow_restore.specs.Copies.{run_copies, log_copies, copied, writes_in}
use Rattle.bow_restore.specs.Rewinds.{every}
use Rattle.bow_restore.specs.Replaying.{Replayed, PartReplayed, CopiedBack, IsCutBeside, SameOthers, AreMade, still_since}
use Rattle.bow_restore.specs.Loops.{MarkedWhereDue, since_in, source_at}
use Rattle.bow_restore.specs.declared.generations.Marks.{Marks}
use Rattle.bow_restore.proofs.Clear.{clear_since}
use Rattle.bow_restore.proofs.Copied.{copied-append, copied_same, run_from, take_log}
use Rattle.bow_restore.proofs.Cuts.{backup_begins, backup_ends, beside_cut}
use Rattle.bow_restore.proofs.EntryLoop.{source_next, since_none, since_more, since_step, still_none, still_all}

others_then : (g : Geometry) (a b c : Contents) → SameOthers g a b → SameOthers g b c → SameOthers g a c
others_then g a b c s t = record { same = λ x above on. s.same x above on ∙ t.same x above on }

-- copies after others
pub copies_after : (g : Geometry) (b : Backup) (n : ℕ) (done : List Backup) (c p d e : Content) → IsBackup g b → n ≤ b.count
    → SameOthers g (contents_of p.now) (copied (log_copies done) (contents_of c.now)) → SameOthers g (contents_of d.now) (contents_of p.now) → CopiedBack b n d e
    → SameOthers g (contents_of e.now) (copied (log_copies done ++ run_copies b.dest b.source n) (contents_of c.now))
copies_after g b n done c p d e ok le before marked back =
    let from = run_from g b.dest b.source n ok.dest_not_0 (omega (arith, ok.dest_inside)) in
    let s = copied_same g (run_copies b.dest b.source n) (contents_of d.now) (copied (log_copies done) (contents_of c.now)) from (others_then g _ _ _ marked before) in
    record { same = λ x above on. back.now x ∙ s.same x above on ∙ sym (ap (λ (i : Contents). i x) (copied-append (log_copies done) (run_copies b.dest b.source n) (contents_of c.now))) }

clear_step : (b : Backup) (done since : List Backup) → since ≡ since_mark done → AreClear (b ∷ still_since b since)
clear_step b done since is = subst (λ s. AreClear (b ∷ still_since b s)) (sym is) (subst AreClear (since_step b done) (clear_since (b ∷ done)))

pub entry_done : (g : Geometry) (valid : IsValid g) (saved : Contents) (older : List Generation) (rest done since : List Backup) (b : Backup) (c p d e : Content)
    → IsBackup g b → 0 < b.source → since ≡ since_mark done
    → SameOthers g (contents_of p.now) (copied (log_copies done) (contents_of c.now)) → Replayed g saved older (rest ++ b ∷ []) (still_since b since) d → SameOthers g (contents_of d.now) (contents_of p.now)
    → CopiedBack b b.count d e → PartReplayed g saved older rest (b ∷ done) c e
entry_done g valid saved older rest done since b c p d e ok above is before state marked back =
    let s : b ∷ still_since b since ≡ since_mark (b ∷ done) = ap (λ s. b ∷ still_since b s) is ∙ sym (since_step b done) in
    record {
      state = subst (λ s. Replayed g saved older rest s e) s (backup_ends g valid saved older rest (still_since b since) b d e ok above (clear_step b done since is) back state);
      others = copies_after g b b.count done c p d e ok (omega arith) before marked back;
    }

-- whatever a cut leaves while it is copied back
pub entry_cut : (g : Geometry) (valid : IsValid g) (saved : Contents) (older : List Generation) (rest done since : List Backup) (b : Backup) (d : Content) (cut : List (List ℕ))
    → 0 < b.source → since ≡ since_mark done → Replayed g saved older (rest ++ b ∷ []) (still_since b since) d → IsCutBeside g b d cut → Keeps g every saved (contents_of cut)
entry_cut g valid saved older rest done since b d cut above is state beside =
    beside_cut g valid saved older rest (still_since b since) b d cut above (backup_begins g valid saved older rest (still_since b since) b d (clear_step b done since is) state.state) beside

-- the first copies, so many, where the limit is reached in this entry
pub entry_part : (g : Geometry) (front done : List Backup) (b : Backup) (n : ℕ) (c p d e : Content) → IsBackup g b → n ≤ b.count
    → SameOthers g (contents_of p.now) (copied (log_copies done) (contents_of c.now)) → SameOthers g (contents_of d.now) (contents_of p.now) → CopiedBack b n d e
    → AreMade g (log_copies (front ++ b ∷ done)) (writes_in done + n) c e
entry_part g front done b n c p d e ok le before marked back =
    subst (λ cs. SameOthers g (contents_of e.now) (copied cs (contents_of c.now))) (sym (take_log front b done n le)) (copies_after g b n done c p d e ok le before marked back)

-- an entry but the first does not have block 0 in its source
pub source_above : (g : Geometry) (log : Fields) (i : ℕ) → IsLog g log → 0 < i → i < length log.entries → 0 < (source_at g log i).source
source_above g log i ok above within = by (generation_of g log).entries i above (omega (arith, length-map log.entries (backup_of g))) (drop_is) ((in_blocks g log ok).0).start
  where
    drop_is : drop i (generation_of g log).entries ≡ source_at g log i ∷ drop (i + 1) (generation_of g log).entries
    drop_is = source_next g log i within

    head_of : (bs : List Backup) (i : ℕ) (b : Backup) (more : List Backup) → drop i bs ≡ b ∷ more → Each (λ (other : Backup). 0 < other.source) bs → 0 < b.source
    head_of [] zero b more is all = absurd cc
    head_of [] (suc i) b more is all = absurd cc
    head_of (x ∷ xs) zero b more is all = (let e : x ≡ b = cc in subst (λ (y : Backup). 0 < y.source) e all.0)
    head_of (x ∷ xs) (suc i) b more is all = head_of xs i b more is all.1

    by : (bs : List Backup) (i : ℕ) → 0 < i → i < length bs → drop i bs ≡ source_at g log i ∷ drop (i + 1) bs → StartsWith0 bs → 0 < (source_at g log i).source
    by [] i above within is start = absurd start
    by (x ∷ xs) zero above within is start = absurd (omega arith)
    by (x ∷ xs) (suc i) above within is start = head_of xs i (source_at g log (suc i)) (drop (suc i + 1) (x ∷ xs)) is start.2

-- the fields of the marks after a turn
pub marks_step : (g : Geometry) (log : Fields) (i : ℕ) (old new : Marks) → i < old.end → old.end ≤ length log.entries → MarkedWhereDue g log i old new
    → since_in g log (i + 1) old.end ≡ since_mark (drop (i + 1) (generation_of g log).entries) → old.made ≡ marks_in (drop (i + 1) (generation_of g log).entries)
    → (since_in g log i new.end ≡ since_mark (drop i (generation_of g log).entries)) × (new.made ≡ marks_in (drop i (generation_of g log).entries))
marks_step g log i old new below within (inl due) since made =
    let b = source_at g log i in
    let bs = (generation_of g log).entries in
    let split = source_next g log i (omega arith) in
    let hit : overlaps b (since_mark (drop (i + 1) bs)) ≡ true = ap (overlaps b) (sym since) ∙ due.0 in (
      ap (since_in g log i) due.1 ∙ since_more g log i (i + 1) (omega arith) (omega arith) ∙ ap (λ s. b ∷ s) (since_none g log (i + 1) (i + 1) (omega arith)) ∙ ap (λ s. b ∷ s) (sym (still_none b (since_mark (drop (i + 1) bs)) hit)) ∙ sym (since_step b (drop (i + 1) bs)) ∙ ap since_mark (sym split),
      due.2 ∙ ap (λ n. n + 1) made ∙ sym (counts b (drop (i + 1) bs) hit) ∙ ap marks_in (sym split),
    )
  where
    counts : (b : Backup) (bs : List Backup) → overlaps b (since_mark bs) ≡ true → marks_in (b ∷ bs) ≡ marks_in bs + 1
    counts b bs e = ap (λ t. if t then marks_in bs + 1 else marks_in bs) e
marks_step g log i old new below within (inr due) since made =
    let b = source_at g log i in
    let bs = (generation_of g log).entries in
    let split = source_next g log i (omega arith) in
    let miss : overlaps b (since_mark (drop (i + 1) bs)) ≡ false = ap (overlaps b) (sym since) ∙ due.0 in (
      ap (since_in g log i) due.1 ∙ since_more g log i old.end below within ∙ ap (λ s. b ∷ s) since ∙ ap (λ s. b ∷ s) (sym (still_all b (since_mark (drop (i + 1) bs)) miss)) ∙ sym (since_step b (drop (i + 1) bs)) ∙ ap since_mark (sym split),
      due.2 ∙ made ∙ sym (counts b (drop (i + 1) bs) miss) ∙ ap marks_in (sym split),
    )
  where
    counts : (b : Backup) (bs : List Backup) → overlaps b (since_mark bs) ≡ false → marks_in (b ∷ bs) ≡ marks_in bs
    counts b bs e = ap (λ t. if t then marks_in bs + 1 else marks_in bs) e

writes_all : (bs : List Backup) (j : ℕ) → writes_in (drop j bs) ≤ writes_in bs
writes_all bs zero = omega arith
writes_all [] (suc j) = omega arith
writes_all (b ∷ bs) (suc j) = omega (arith, writes_all bs j)

-- fewer entries have fewer blocks
pub writes_drop : (bs : List Backup) (i j : ℕ) → i ≤ j → writes_in (drop j bs) ≤ writes_in (drop i bs)
writes_drop bs zero j le = writes_all bs j
writes_drop [] (suc i) j le = writes_none j
  where
    writes_none : (j : ℕ) → writes_in (drop j []) ≤ 0
    writes_none zero = omega arith
    writes_none (suc j) = omega arith
writes_drop (b ∷ bs) (suc i) zero le = absurd (omega arith)
writes_drop (b ∷ bs) (suc i) (suc j) le = writes_drop bs i j (omega arith)

pub end_is : (g : Geometry) (log : Fields) (i : ℕ) (old new : Marks) → i ≤ old.end → MarkedWhereDue g log i old new → i ≤ new.end
end_is g log i old new le (inl due) = omega (arith, due.1)
end_is g log i old new le (inr due) = omega (arith, due.1)

pub end_in : (g : Geometry) (log : Fields) (i : ℕ) (old new : Marks) → i < length log.entries → old.end ≤ length log.entries → MarkedWhereDue g log i old new → new.end ≤ length log.entries
end_in g log i old new below le (inl due) = omega (arith, due.1)
end_in g log i old new below le (inr due) = omega (arith, due.1)

pub made_few : (g : Geometry) (log : Fields) (i : ℕ) (old new : Marks) (n : ℕ) → old.made + (i + 1) ≤ n → MarkedWhereDue g log i old new → new.made + i ≤ n
made_few g log i old new n le (inl due) = omega (arith, due.2)
made_few g log i old new n le (inr due) = omega (arith, due.2)
