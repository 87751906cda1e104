-- What copies of single blocks make of an image.
use Rattle.std.proofs.Common.{ℕ, zero, suc, ◌+◌, ◌<◌, ◌≤◌, ◌≡◌, ◌≢◌, List, [], ◌∷◌, ◌++◌, length, take, append-nil, append_assoc, length-append, arith, refl, sym, ap, ap₂, ◌∙◌, subst, ◌⊎◌, inl, inr}
use native.Mathlib.Decide.{ℕ_discrete}
use Rattle.std.specs.List.{AllByRecursion as Each}
use Rattle.std.proofs.lemmas.List.{take-append-le}
use Rattle.std.proofs.Math.Seq.{take-append-add}
use Rattle.bow_units.specs.declared.sizes.Geometry.{Geometry}
use Rattle.bow_log.specs.Generations.{Backup, Generation, IsBackup, IsGeneration}
use Rattle.bow_chain.specs.Contents.{Contents, with_block}
use Rattle.bow_chain.specs.Places.{hop, pass, base}
use Rattle.bow_restore.specs.Copies.{Copy, run_copies, backup_copies, log_copies, chain_copies, copied, writes_in, writes_of}
use Rattle.bow_restore.specs.Replaying.{SameOthers}
use Rattle.bow_restore.proofs.Kept.{IsOther}

pub put_same : (image : Contents) (b : ℕ) (v : List ℕ) → with_block image b v b ≡ v
unfolding with_block
put_same image b v = grind arith

pub put_other : (image : Contents) (b : ℕ) (v : List ℕ) (x : ℕ) → x ≢ b → with_block image b v x ≡ image x
unfolding with_block
put_other image b v x ne = grind arith

pub copied-append : (cs ds : List Copy) (image : Contents) → copied (cs ++ ds) image ≡ copied ds (copied cs image)
copied-append [] ds image = refl
copied-append (c ∷ cs) ds image = copied-append cs ds (with_block image c.to (image c.from))

-- the run, as a backup
abbrev pub run : ℕ → ℕ → ℕ → ℕ → Backup
run dest source n sum = record { source = source; dest = dest; count = n; sum = sum }

hop_none : (dest source sum x : ℕ) → hop (run dest source 0 sum) x ≡ x
unfolding hop
hop_none dest source sum x = grind arith

hop_this : (dest source n sum : ℕ) → hop (run dest source (suc n) sum) source ≡ dest
unfolding hop
hop_this dest source n sum = grind arith

hop_rest : (dest source n sum x : ℕ) → x ≢ source → hop (run dest source (suc n) sum) x ≡ hop (run (suc dest) (suc source) n sum) x
unfolding hop
hop_rest dest source n sum x ne = grind arith

hop_before : (dest source n sum : ℕ) → hop (run (suc dest) (suc source) n sum) source ≡ source
unfolding hop
hop_before dest source n sum = grind arith

-- what the rest of a run leads elsewhere than to its first source
hop_not_first : (dest source n sum x : ℕ) → (source + suc n ≤ dest) ⊎ (dest + suc n ≤ source) → x ≢ source → hop (run (suc dest) (suc source) n sum) x ≢ source
unfolding hop
hop_not_first dest source n sum x (inl h) ne is = grind arith
hop_not_first dest source n sum x (inr h) ne is = grind arith

-- Copied block by block, each source holds what its dest held.
pub copied_run : (dest source n sum : ℕ) (image : Contents) (x : ℕ) → (source + n ≤ dest) ⊎ (dest + n ≤ source) → copied (run_copies dest source n) image x ≡ image (hop (run dest source n sum) x)
copied_run dest source zero sum image x apart = ap image (sym (hop_none dest source sum x))
copied_run dest source (suc n) sum image x apart = copied_run (suc dest) (suc source) n sum (with_block image source (image dest)) x (tighter apart) ∙ elim (ℕ_discrete x source) [
  | yes is ↦ subst (λ y. with_block image source (image dest) (hop (run (suc dest) (suc source) n sum) y) ≡ image (hop (run dest source (suc n) sum) y)) (sym is)
      (ap (with_block image source (image dest)) (hop_before dest source n sum) ∙ put_same image source (image dest) ∙ ap image (sym (hop_this dest source n sum)))
  | no ne ↦ put_other image source (image dest) _ (hop_not_first dest source n sum x apart ne) ∙ ap image (sym (hop_rest dest source n sum x ne))
]
  where
    tighter : (source + suc n ≤ dest) ⊎ (dest + suc n ≤ source) → (suc source + n ≤ suc dest) ⊎ (suc dest + n ≤ suc source)
    tighter (inl h) = inl (omega arith)
    tighter (inr h) = inr (omega arith)

module _ (g : Geometry) where
  -- A log replayed from its last backup to its first puts in each block what the log leads to.
  pub copied_log : (bs : List Backup) (image : Contents) (x : ℕ) → Each (IsBackup g) bs → copied (log_copies bs) image x ≡ image (pass bs x)
  copied_log [] image x ok = refl
  copied_log (b ∷ bs) image x ok =
      ap (λ (i : Contents). i x) (copied-append (log_copies bs) (backup_copies b) image)
      ∙ copied_run b.dest b.source b.count b.sum (copied (log_copies bs) image) x (ok.0).apart
      ∙ copied_log bs image (hop b x) ok.1

  -- All logs replayed, the newest first, put in each block what they all lead to.
  pub copied_chain : (logs : List Generation) (image : Contents) (x : ℕ) → Each (IsGeneration g) logs → copied (chain_copies logs) image x ≡ image (base logs x)
  copied_chain [] image x ok = refl
  copied_chain (log ∷ older) image x ok =
      ap (λ (i : Contents). i x) (copied-append (log_copies log.entries) (chain_copies older) image) ∙ copied_chain older (copied (log_copies log.entries) image) x ok.1 ∙ copied_log log.entries image (base older x) (ok.0).each

  -- ---- images that differ in block 0 alone

  copy_same : (one two : Contents) (c : Copy) → IsOther g c.from → SameOthers g one two → SameOthers g (with_block one c.to (one c.from)) (with_block two c.to (two c.from))
  copy_same one two c from s = record {
    same = λ x above on. elim (ℕ_discrete x c.to) [
      | yes is ↦ subst (λ y. with_block one c.to (one c.from) y ≡ with_block two c.to (two c.from) y) (sym is) (put_same one c.to (one c.from) ∙ s.same c.from from.above from.on ∙ sym (put_same two c.to (two c.from)))
      | no ne ↦ put_other one c.to (one c.from) x ne ∙ s.same x above on ∙ sym (put_other two c.to (two c.from) x ne)
    ];
  }

  pub copied_same : (cs : List Copy) (one two : Contents) → Each (λ c. IsOther g c.from) cs → SameOthers g one two → SameOthers g (copied cs one) (copied cs two)
  copied_same [] one two from s = s
  copied_same (c ∷ cs) one two from s = copied_same cs _ _ from.1 (copy_same one two c from.0 s)

  pub run_from : (dest source n : ℕ) → 0 < dest → dest + n ≤ g.blocks → Each (λ c. IsOther g c.from) (run_copies dest source n)
  run_from dest source zero above on = tt
  run_from dest source (suc n) above on = (record { above = above; on = omega arith }, run_from (suc dest) (suc source) n (omega arith) (omega arith))

  pub backup_from : (b : Backup) → IsBackup g b → Each (λ c. IsOther g c.from) (backup_copies b)
  backup_from b ok = run_from b.dest b.source b.count ok.dest_not_0 ok.dest_inside

  each_append : (P : Copy → Type 0) (cs ds : List Copy) → Each P cs → Each P ds → Each P (cs ++ ds)
  each_append P [] ds a b = b
  each_append P (c ∷ cs) ds a b = (a.0, each_append P cs ds a.1 b)

  pub log_from : (bs : List Backup) → Each (IsBackup g) bs → Each (λ c. IsOther g c.from) (log_copies bs)
  log_from [] ok = tt
  log_from (b ∷ bs) ok = each_append _ (log_copies bs) (backup_copies b) (log_from bs ok.1) (backup_from b ok.0)

  pub chain_from : (logs : List Generation) → Each (IsGeneration g) logs → Each (λ c. IsOther g c.from) (chain_copies logs)
  chain_from [] ok = tt
  chain_from (l ∷ ls) ok = each_append _ (log_copies l.entries) (chain_copies ls) (log_from l.entries (ok.0).each) (chain_from ls ok.1)

-- ---- how many they are, and the first of them

length-run : (dest source n : ℕ) → length (run_copies dest source n) ≡ n
length-run dest source zero = refl
length-run dest source (suc n) = ap suc (length-run (suc dest) (suc source) n)

pub length-log : (bs : List Backup) → length (log_copies bs) ≡ writes_in bs
length-log [] = refl
length-log (b ∷ bs) = length-append (log_copies bs) (backup_copies b) ∙ ap₂ ◌+◌ (length-log bs) (length-run b.dest b.source b.count)

pub length-chain : (logs : List Generation) → length (chain_copies logs) ≡ writes_of logs
length-chain [] = refl
length-chain (l ∷ ls) = length-append (log_copies l.entries) (chain_copies ls) ∙ ap₂ ◌+◌ (length-log l.entries) (length-chain ls)

take-run : (dest source n k : ℕ) → k ≤ n → take k (run_copies dest source n) ≡ run_copies dest source k
take-run dest source n zero h = refl
take-run dest source zero (suc k) h = absurd (omega (arith, h))
take-run dest source (suc n) (suc k) h = ap (λ cs. record { from = dest; to = source } ∷ cs) (take-run (suc dest) (suc source) n k (omega (arith, h)))

-- the copies of a log end with those of its first backups
pub log_copies-append : (front back : List Backup) → log_copies (front ++ back) ≡ log_copies back ++ log_copies front
log_copies-append [] back = sym (append-nil (log_copies back))
log_copies-append (b ∷ bs) back = ap (λ cs. cs ++ backup_copies b) (log_copies-append bs back) ∙ append_assoc (log_copies back) (log_copies bs) (backup_copies b)

-- its first copies, so many: those of its last backups, and the first of one before
pub take_log : (front : List Backup) (b : Backup) (back : List Backup) (k : ℕ) → k ≤ b.count → take (writes_in back + k) (log_copies (front ++ b ∷ back)) ≡ log_copies back ++ run_copies b.dest b.source k
take_log front b back k h =
    let cs = log_copies back in
    let long : writes_in back ≡ length cs = sym (length-log back) in
    let short : writes_in back + k ≤ length (cs ++ backup_copies b) = omega (arith, length-append cs (backup_copies b), length-run b.dest b.source b.count, long, h) in
    ap (take (writes_in back + k)) (log_copies-append front (b ∷ back))
    ∙ take-append-le (writes_in back + k) (cs ++ backup_copies b) (log_copies front) short
    ∙ ap (λ n. take (n + k) (cs ++ backup_copies b)) long
    ∙ take-append-add cs (backup_copies b) k
    ∙ ap (λ ds. cs ++ ds) (take-run b.dest b.source b.count k h)

-- the first copies of a chain, so many: those of its first logs, and the first of one more
pub take_chain : (logs : List Generation) (log : Generation) (older : List Generation) (k : ℕ) → k ≤ writes_in log.entries → take (writes_of logs + k) (chain_copies (logs ++ log ∷ older)) ≡ chain_copies logs ++ take k (log_copies log.entries)
take_chain [] log older k h = ap (λ n. take n (log_copies log.entries ++ chain_copies older)) (let e : 0 + k ≡ k = omega arith in e) ∙ take-append-le k (log_copies log.entries) (chain_copies older) (omega (arith, length-log log.entries, h))
take_chain (l ∷ ls) log older k h =
    let cs = log_copies l.entries in
    let long : writes_in l.entries + writes_of ls + k ≡ length cs + (writes_of ls + k) = omega (arith, length-log l.entries) in
    ap (λ n. take n (cs ++ chain_copies (ls ++ log ∷ older))) long
    ∙ take-append-add cs (chain_copies (ls ++ log ∷ older)) (writes_of ls + k)
    ∙ ap (λ ds. cs ++ ds) (take_chain ls log older k h)
    ∙ sym (append_assoc cs (chain_copies ls) (take k (log_copies log.entries)))
