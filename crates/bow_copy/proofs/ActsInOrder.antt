-- Where the log stands among the acts of a job.
use Rattle.std.proofs.Common.{◌≡◌, ◌≢◌, ℕ, zero, suc, ◌+◌, ◌-◌, ◌*◌, ◌^◌, ◌<◌, ◌≤◌, ◌==◌, Bool, true, false, ◌&&◌, cond, List, [], ◌∷◌, ◌++◌, length, map, take, get_or, refl, sym, ap, ◌∙◌, arith, add-one, length-append, append_assoc}
use Rattle.std.proofs.Math.Dec.{leb, leb-suc-zero}
use Rattle.std.proofs.lemmas.List.FromFn.{length-map-range_with_len, get_or-map-range_with_len}
use Rattle.std.proofs.Math.Seq.{get_or-append_seam}
use Rattle.std.proofs.lemmas.List.{get_or_append_left, get_or-append_right}
use Rattle.std.proofs.lemmas.Bool.{false≢true}
use Rattle.std.specs.List.{range_with_len, list_any, list_all}
use Rattle.bow_copy.specs.Acts.{Progress, block_after, acts, acts_before_log, reads, writes, next_act, is_write_log, log_tried, after_act, plain_copy}
use Rattle.bow_copy.specs.declared.jobs.Job.{Job}
use Rattle.bow_copy.specs.declared.jobs.Job.TheVariants.{Rewrite, Link, Copy, Move}
use Rattle.bow_copy.specs.declared.jobs.After.TheVariants.{Going}
use Rattle.bow_copy.specs.declared.jobs.Act.{Act}
use Rattle.bow_copy.specs.declared.jobs.Act.TheVariants.{Read, Write, Flush, WriteLog, End}

-- it comes before the log is written
abbrev pub is_lead : Act → Bool
is_lead WriteLog = false
is_lead End = false
is_lead _ = true

leads-append : (xs ys : List Act) → list_all is_lead xs ≡ true → list_all is_lead ys ≡ true → list_all is_lead (xs ++ ys) ≡ true
leads-append [] ys p q = q
leads-append (x ∷ xs) ys p q = grind (arith, leads-append xs ys)

leads-map : (f : ℕ → Act) → ((i : ℕ) → is_lead (f i) ≡ true) → (a n : ℕ) → list_all is_lead (map f (range_with_len a n)) ≡ true
leads-map f p a zero = refl
leads-map f p a (suc n) = grind (arith, p a, leads-map f p (a + 1) n)

pub leads : (job : Job) → list_all is_lead (acts_before_log job) ≡ true
leads Rewrite = refl
leads (Link dest) = refl
leads (Copy source dest count) = leads-append (reads source count ++ writes dest count) (Flush ∷ []) (leads-append (reads source count) (writes dest count) (leads-map _ (λ i. refl) 0 count) (leads-map _ (λ i. refl) 0 count)) refl
leads (Move from to) = refl

no_log : (x : Act) → is_lead x ≡ true → is_write_log x ≡ false
no_log WriteLog p = sym p
no_log (Read block slot) p = refl
no_log (Write block slot) p = refl
no_log Flush p = refl
no_log End p = refl

no_end : (x : Act) → is_lead x ≡ true → x ≢ End
no_end End p = λ e. absurd (false≢true p)
no_end WriteLog p = λ e. absurd (false≢true p)
no_end (Read block slot) p = λ e. cc
no_end (Write block slot) p = λ e. cc
no_end Flush p = λ e. cc

both : (a b : Bool) → (a && b) ≡ true → (a ≡ true) × (b ≡ true)
both true b p = (refl, p)
both false b p = absurd (false≢true p)

-- the log was tried exactly from its place on
tried_along : (xs : List Act) (place : ℕ) → list_all is_lead xs ≡ true → list_any is_write_log (take (suc place) (xs ++ WriteLog ∷ Flush ∷ [])) ≡ leb (length xs) place
tried_along [] place p = grind arith
tried_along (x ∷ xs) zero p = rw (no_log x (both (is_lead x) (list_all is_lead xs) p).0) (sym (leb-suc-zero (length xs)))
tried_along (x ∷ xs) (suc n) p = let h = both (is_lead x) (list_all is_lead xs) p in rw (no_log x h.0) (tried_along xs n h.1 ∙ grind arith)

lead_along : (xs : List Act) (i : ℕ) (d : Act) → list_all is_lead xs ≡ true → i < length xs → is_lead (get_or xs i d) ≡ true
lead_along [] i d p h = absurd (omega arith)
lead_along (x ∷ xs) zero d p h = (both (is_lead x) (list_all is_lead xs) p).0
lead_along (x ∷ xs) (suc i) d p h = lead_along xs i d (both (is_lead x) (list_all is_lead xs) p).1 (omega arith)

pub log_tried_from : (job : Job) (place : ℕ) → log_tried job (place + 1) ≡ leb (length (acts_before_log job)) place
log_tried_from job place = rw add-one (tried_along (acts_before_log job) place (leads job))

pub length-before-copy : (source dest count : ℕ) → length (acts_before_log (Copy source dest count)) ≡ 2 * count + 1
length-before-copy source dest count = simp (length-append, length-map-range_with_len) (omega arith)

-- an act before the log is written
pub act_before : (job : Job) (i : ℕ) → i < length (acts_before_log job) → get_or (acts job) i End ≡ get_or (acts_before_log job) i End
act_before job i h = get_or_append_left (acts_before_log job) (WriteLog ∷ Flush ∷ []) End i h

pub length-acts : (job : Job) → length (acts job) ≡ length (acts_before_log job) + 2
length-acts job = length-append (acts_before_log job) (WriteLog ∷ Flush ∷ [])

pub act_some : (job : Job) (i : ℕ) → i < length (acts_before_log job) → (get_or (acts_before_log job) i End ≢ End) × (is_write_log (get_or (acts_before_log job) i End) ≡ false)
act_some job i h = let lead = lead_along (acts_before_log job) i End (leads job) h in (no_end _ lead, no_log _ lead)

-- a read of a copy, and a write
pub read_at : (source dest count i : ℕ) → i < count → get_or (reads source count ++ writes dest count) i End ≡ Read (block_after source i) i
read_at source dest count i h =
    get_or_append_left (reads source count) (writes dest count) End i (omega (arith, length-map-range_with_len (λ i. Read (block_after source i) i) 0 count))
    ∙ get_or-map-range_with_len (λ i. Read (block_after source i) i) 0 count i i End h (omega arith)

pub write_at : (source dest count i : ℕ) → count ≤ i → i < 2 * count → get_or (reads source count ++ writes dest count) i End ≡ Write (block_after dest (i - count)) (i - count)
write_at source dest count i from below =
    get_or-append_right (reads source count) (writes dest count) count i End (length-map-range_with_len (λ i. Read (block_after source i) i) 0 count) from
    ∙ get_or-map-range_with_len (λ i. Write (block_after dest i) i) 0 count (i - count) (i - count) End (omega arith) (omega arith)

pub copy_moves : (source dest count i : ℕ) → i < 2 * count → get_or (acts_before_log (Copy source dest count)) i End ≡ get_or (reads source count ++ writes dest count) i End
copy_moves source dest count i h = get_or_append_left (reads source count ++ writes dest count) (Flush ∷ []) End i (omega (arith, length-before-copy source dest count, length-append (reads source count ++ writes dest count) (Flush ∷ [])))

pub copy_flushes : (source dest count i : ℕ) → 2 * count ≤ i → i < length (acts_before_log (Copy source dest count)) → get_or (acts_before_log (Copy source dest count)) i End ≡ Flush
copy_flushes source dest count i from below =
    let last : i ≡ 2 * count = omega (arith, length-before-copy source dest count) in
    let long : length (reads source count ++ writes dest count) ≡ 2 * count = omega (arith, length-before-copy source dest count, length-append (reads source count ++ writes dest count) (Flush ∷ [])) in
    rw (last ∙ sym long) (get_or-append_seam (reads source count ++ writes dest count) Flush [] End)

-- where the numbers fit, they are plain sums
fits_along : (f : ℕ → ℕ → Act) (first a n m : ℕ) → first + m ≤ 2 ^ 64 → a + n ≤ m → map (λ i. f (block_after first i) i) (range_with_len a n) ≡ map (λ i. f (first + i) i) (range_with_len a n)
fits_along f first a zero m h k = refl
fits_along f first a (suc n) m h k =
    let here : block_after first a ≡ first + a = omega arith in
    let rest = fits_along f first (a + 1) n m h (omega arith) in
    let head : f (block_after first a) a ≡ f (first + a) a = ap (λ b. f b a) here in
    ap (λ x. x ∷ map (λ i. f (block_after first i) i) (range_with_len (a + 1) n)) head ∙ ap (λ xs. f (first + a) a ∷ xs) rest

pub fitting_copy : (source dest count : ℕ) → source + count ≤ 2 ^ 64 → dest + count ≤ 2 ^ 64 → acts (Copy source dest count) ≡ plain_copy source dest count
fitting_copy source dest count s d =
    rw (fits_along (λ b i. Read b i) source 0 count count s (omega arith), fits_along (λ b i. Write b i) dest 0 count count d (omega arith)) (simp append_assoc)

chosen : (b : Bool) (x : Act) → cond b End x ≢ End → cond b End x ≡ x
chosen true x h = absurd (h refl)
chosen false x h = refl

act_is : (p : Progress) → next_act p ≢ End → next_act p ≡ get_or (acts p.job) p.done End
act_is p h = chosen p.failed (get_or (acts p.job) p.done End) h

-- before the log is written the batch goes on
pub goes_on : (p : Progress) → next_act p ≢ End → p.done < length (acts_before_log p.job) → after_act p true ≡ Going
goes_on p h below =
    let act : next_act p ≡ get_or (acts_before_log p.job) p.done End = act_is p h ∙ act_before p.job p.done below in
    let no : is_write_log (next_act p) ≡ false = ap is_write_log act ∙ (act_some p.job p.done below).1 in
    let more : (p.done + 1 == length (acts p.job)) ≡ false = grind (arith, length-acts p.job) in
    rw (no, more) refl
