-- What the replay of a chain does, log by log.
use Rattle.std.proofs.Common.{ℕ, zero, suc, ◌+◌, ◌<◌, ◌≤◌, ◌≡◌, List, [], ◌∷◌, ◌++◌, length, take, drop, get_or, arith, refl, sym, ap, ap₂, ◌∙◌, subst, subst₂, inl, inr}
use Rattle.std.specs.List.{AllByRecursion as Each}
use Rattle.std.proofs.lemmas.List.{take_more, take-append-drop, length-map, get_or-map}
use Rattle.std.proofs.Math.Seq.{drop-cons, drop-length}
use Rattle.bow_units.specs.declared.sizes.Geometry.{Geometry}
use Rattle.bow_units.specs.Sizes.{IsValid}
use Rattle.bow_log.specs.Spelling.{Fields}
use Rattle.bow_log.specs.Rules.{IsLog}
use Rattle.bow_log.specs.Generations.{Backup, Generation, IsGeneration, StartsWith0, generation_of}
use Rattle.bow_disk.specs.Disk.{Content}
use Rattle.bow_chain.specs.Contents.{Contents, contents_of}
use Rattle.bow_chain.specs.Places.{pass, base}
use Rattle.bow_chain.specs.Sound.{IsSound}
use Rattle.bow_chain.specs.Kept.{Holds, kept}
use Rattle.bow_chain.specs.Chains.{IsSoundWith, generations_of}
use Rattle.bow_chain.proofs.Sectors.{each_at}
use Rattle.bow_chain.proofs.Hops.{log_inside}
use Rattle.bow_chain.proofs.Counting.{base_inside, older_ok}
use Rattle.bow_restore.specs.Marks.{entries_of, marks_of, marks_in}
use Rattle.bow_restore.specs.Copies.{Copy, log_copies, chain_copies, copied, writes_in, writes_of}
use Rattle.bow_restore.specs.Rewinds.{every}
use Rattle.bow_restore.specs.Replaying.{IsFlushed, Holding, LogReplayed, ChainReplayed, SameOthers, AreMade}
use Rattle.bow_restore.proofs.Kept.{IsOther, stepped}
use Rattle.bow_restore.proofs.Copied.{copied_chain, copied_same, copied-append, log_from, take_chain}
use Rattle.bow_restore.proofs.EntryLoop.{each_take}

-- the first logs of a chain were replayed: so the disk is flushed, and holds a sound image with the others
pub record ChainAt (g : Geometry) (done rest : List Generation) (old new : Content) : Type 0 where
  pub flushed : IsFlushed new
  pub now : (x : ℕ) → x < g.blocks → contents_of new.now x ≡ contents_of old.now (base done x)
  pub sound : IsSoundWith g (contents_of new.now) rest

pub base-append : (one two : List Generation) (x : ℕ) → base (one ++ two) x ≡ base one (base two x)
base-append [] two x = refl
base-append (l ∷ ls) two x = ap (pass l.entries) (base-append ls two x)

-- sums over logs
pub entries-append : (one : List Generation) (log : Generation) → entries_of (one ++ log ∷ []) ≡ entries_of one + length log.entries
entries-append [] log = omega arith
entries-append (l ∷ ls) log = omega (arith, entries-append ls log)

pub marks-append : (one : List Generation) (log : Generation) → marks_of (one ++ log ∷ []) ≡ marks_of one + marks_in log.entries
marks-append [] log = omega arith
marks-append (l ∷ ls) log = omega (arith, marks-append ls log)

pub writes-append : (one : List Generation) (log : Generation) → writes_of (one ++ log ∷ []) ≡ writes_of one + writes_in log.entries
writes-append [] log = omega arith
writes-append (l ∷ ls) log = omega (arith, writes-append ls log)

pub writes-both : (one two : List Generation) → writes_of (one ++ two) ≡ writes_of one + writes_of two
writes-both [] two = omega arith
writes-both (l ∷ ls) two = omega (arith, writes-both ls two)

holds_same : (g : Geometry) (one two image : Contents) → ((x : ℕ) → x < g.blocks → one x ≡ two x) → Holds g every one image → Holds g every two image
holds_same g one two image same (inl k) = inl (record { log = k.log; older = k.older; sound = k.sound; kept = λ x on u. k.kept x on u ∙ same x on })
holds_same g one two image same (inr h) = inr (λ x on u. h x on u ∙ same x on)

module _ (g : Geometry) (valid : IsValid g) where
  all_valid : (image : Contents) (log : Generation) (older : List Generation) → IsSound g image log older → Each (IsGeneration g) (log ∷ older)
  all_valid image log older s = ((s.behind).valid, older_ok g valid image log older s.behind)

  -- the next log, and its older ones
  pub holding : (c d : Content) (done older : List Generation) (log : Generation) → ChainAt g done (log ∷ older) c d → Holding g log older d
  holding c d done older log at = record { flushed = at.flushed; sound = at.sound }

  -- what is kept stays the same
  pub chain_holds : (c d : Content) (done older : List Generation) (log : Generation) (image : Contents) → ChainAt g done (log ∷ older) c d → Holds g every (kept (contents_of d.now) (log ∷ older)) image → Holds g every (kept (contents_of c.now) (done ++ log ∷ older)) image
  chain_holds c d done older log image at =
      holds_same g (kept (contents_of d.now) (log ∷ older)) (kept (contents_of c.now) (done ++ log ∷ older)) image
      (λ x on. at.now (base (log ∷ older) x) (base_inside g (log ∷ older) x (all_valid (contents_of d.now) log older at.sound) on) ∙ ap (contents_of c.now) (sym (base-append done (log ∷ older) x)))

  chain_now : (c d e : Content) (done older : List Generation) (log : Generation) → ChainAt g done (log ∷ older) c d → LogReplayed g log d e → (x : ℕ) → x < g.blocks → contents_of e.now x ≡ contents_of c.now (base (done ++ log ∷ []) x)
  chain_now c d e done older log at back x on = back.now x on ∙ at.now (pass log.entries x) (log_inside g log x ((at.sound).behind).valid on) ∙ ap (contents_of c.now) (sym (base-append done (log ∷ []) x))

  -- one log more
  pub chain_more : (c d e : Content) (done older : List Generation) (log next : Generation) → ChainAt g done (log ∷ next ∷ older) c d → LogReplayed g log d e → ChainAt g (done ++ log ∷ []) (next ∷ older) c e
  chain_more c d e done older log next at back = record {
    flushed = back.flushed;
    now = chain_now c d e done (next ∷ older) log at back;
    sound = (stepped g valid (contents_of d.now) (contents_of e.now) log next older (at.sound).behind back.now).0;
  }

  -- and the last one
  pub chain_done : (c d e : Content) (done : List Generation) (log : Generation) → ChainAt g done (log ∷ []) c d → LogReplayed g log d e → ChainReplayed g (done ++ log ∷ []) c e
  chain_done c d e done log at back = record { flushed = back.flushed; now = chain_now c d e done [] log at back }

  -- the first copies, so many
  pub chain_part : (c d e : Content) (done older : List Generation) (log : Generation) (n k : ℕ) → Each (IsGeneration g) done → ChainAt g done (log ∷ older) c d → n ≤ writes_in log.entries → k ≡ writes_of done + n → AreMade g (log_copies log.entries) n d e → AreMade g (chain_copies (done ++ log ∷ older)) k c e
  chain_part c d e done older log n k valid_done at le is made =
      let cs = take n (log_copies log.entries) in
      let from : Each (λ (x : Copy). IsOther g x.from) cs = each_take (λ (x : Copy). IsOther g x.from) n (log_copies log.entries) (log_from g log.entries (((at.sound).behind).valid).each) in
      let start : SameOthers g (contents_of d.now) (copied (chain_copies done) (contents_of c.now)) = record { same = λ x above on. at.now x on ∙ sym (copied_chain g done (contents_of c.now) x valid_done) } in
      let moved = copied_same g cs (contents_of d.now) (copied (chain_copies done) (contents_of c.now)) from start in
      let all : take k (chain_copies (done ++ log ∷ older)) ≡ chain_copies done ++ cs = ap (λ m. take m (chain_copies (done ++ log ∷ older))) is ∙ take_chain done log older n le in
      record { same = λ x above on. made.same x above on ∙ moved.same x above on ∙ sym (ap (λ (i : Contents). i x) (copied-append (chain_copies done) cs (contents_of c.now))) ∙ ap (λ ds. copied ds (contents_of c.now) x) (sym all) }

-- the log of this index among those of a chain
pub record Turn (gens : List Generation) (i : ℕ) (log : Generation) (rest : List Generation) : Type 0 where
  pub next : drop i gens ≡ log ∷ rest
  pub front : take (i + 1) gens ≡ take i gens ++ log ∷ []
  pub whole : take i gens ++ log ∷ rest ≡ gens

pub turn : (g : Geometry) (logs : List Fields) (i : ℕ) (log : Fields) → log ≡ get_or logs i log → i < length logs → Turn (generations_of g logs) i (generation_of g log) (drop (i + 1) (generations_of g logs))
turn g logs i log is within =
    let gens = generations_of g logs in
    let long : i < length gens = omega (arith, length-map logs (generation_of g)) in
    let here : get_or gens i (generation_of g log) ≡ generation_of g log = get_or-map (generation_of g) logs i log (generation_of g log) within ∙ ap (generation_of g) (sym is) in
    let next : drop i gens ≡ generation_of g log ∷ drop (i + 1) gens = drop-cons gens i (generation_of g log) long ∙ ap₂ (λ (l : Generation) (n : ℕ). l ∷ drop n gens) here (let e : suc i ≡ i + 1 = omega arith in e) in
    record {
      next = next;
      front = take_more gens i (generation_of g log) long ∙ ap (λ (l : Generation). take i gens ++ l ∷ []) here;
      whole = ap (λ (ls : List Generation). take i gens ++ ls) (sym next) ∙ take-append-drop i gens;
    }

pub log_there : (g : Geometry) (logs : List Fields) (i : ℕ) (log : Fields) → log ≡ get_or logs i log → i < length logs → Each (IsLog g) logs → IsLog g log
log_there g logs i log is within all = subst (IsLog g) (sym is) (each_at (IsLog g) logs i log within all)

-- the last one
pub none_after : (g : Geometry) (logs : List Fields) (i : ℕ) → i + 1 ≡ length logs → drop (i + 1) (generations_of g logs) ≡ []
none_after g logs i is = ap (λ n. drop n (generations_of g logs)) (let e : i + 1 ≡ length (generations_of g logs) = omega (arith, is, length-map logs (generation_of g)) in e) ∙ drop-length (generations_of g logs)

pub entries_there : (g : Geometry) (gens rest : List Generation) (i n m : ℕ) (log : Generation) → Turn gens i log rest → n ≡ entries_of (take i gens) → m ≡ n + length log.entries → m ≡ entries_of (take (i + 1) gens)
entries_there g gens rest i n m log t is more = more ∙ ap (λ k. k + length log.entries) is ∙ sym (entries-append (take i gens) log) ∙ ap entries_of (sym t.front)

pub marks_there : (g : Geometry) (gens rest : List Generation) (i n m k : ℕ) (log : Generation) → Turn gens i log rest → n ≡ marks_of (take i gens) → k ≡ marks_in log.entries → m ≡ n + k → m ≡ marks_of (take (i + 1) gens)
marks_there g gens rest i n m k log t is all more = more ∙ ap₂ ◌+◌ is all ∙ sym (marks-append (take i gens) log) ∙ ap marks_of (sym t.front)

pub writes_there : (gens rest : List Generation) (i : ℕ) (log : Generation) → Turn gens i log rest → writes_of (take i gens) + writes_in log.entries ≡ writes_of (take (i + 1) gens)
writes_there gens rest i log t = sym (writes-append (take i gens) log) ∙ ap writes_of (sym t.front)

-- the writes of a log that is not the last are followed by others
pub writes_before : (gens rest : List Generation) (i : ℕ) (log : Generation) → Turn gens i log rest → writes_of (take i gens) + writes_in log.entries + writes_of rest ≡ writes_of gens
writes_before gens rest i log t = let e = writes-both (take i gens) (log ∷ rest) in let f = ap writes_of t.whole in omega (arith, e, f)

pub some_writes : (g : Geometry) (log : Generation) → IsGeneration g log → 0 < writes_in log.entries
some_writes g log ok = by log.entries ok.start
  where
    by : (bs : List Backup) → StartsWith0 bs → 0 < writes_in bs
    by [] start = absurd start
    by (b ∷ bs) start = omega (arith, start.1)

pub rest_writes : (g : Geometry) (gens : List Generation) (i : ℕ) → Each (IsGeneration g) gens → i < length gens → 0 < writes_of (drop i gens)
rest_writes g [] i all within = absurd (omega arith)
rest_writes g (l ∷ ls) zero all within = let s = some_writes g l all.0 in omega (arith, s)
rest_writes g (l ∷ ls) (suc i) all within = rest_writes g ls i all.1 (omega arith)

-- and so the next log stands in block 0
pub chain_next : (g : Geometry) (valid : IsValid g) (gens : List Generation) (i : ℕ) (log : Generation) (c d e : Content) → Turn gens i log (drop (i + 1) gens) → i + 1 < length gens → ChainAt g (take i gens) (log ∷ drop (i + 1) gens) c d → LogReplayed g log d e → ChainAt g (take (i + 1) gens) (drop (i + 1) gens) c e
chain_next g valid gens i log c d e t within at back =
    let next = get_or gens (i + 1) log in
    let split : drop (i + 1) gens ≡ next ∷ drop (suc (i + 1)) gens = drop-cons gens (i + 1) log within in
    let before : ChainAt g (take i gens) (log ∷ next ∷ drop (suc (i + 1)) gens) c d = subst (λ (ls : List Generation). ChainAt g (take i gens) (log ∷ ls) c d) split at in
    subst₂ (λ (ds ls : List Generation). ChainAt g ds ls c e) (sym t.front) (sym split) (chain_more g valid c d e (take i gens) (drop (suc (i + 1)) gens) log next before back)
