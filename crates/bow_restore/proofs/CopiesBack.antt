-- Blocks of a backup copied back, one by one.
use Rattle.std.proofs.Common.{ℕ, zero, suc, ◌+◌, ◌<◌, ◌≡◌, ◌∙◌, List, ◌∷◌, ◌++◌, [], Option, Some, Contains, refl, sym, ap, subst, arith, ◌⊎◌, inr}
use mathlib.Core.Path.{fun_ext}
use Rattle.std.specs.Prelude.{slice_index_or, MatchOption}
use Rattle.bow_units.specs.declared.sizes.Geometry.{Geometry}
use Rattle.bow_log.specs.Generations.{Backup, IsBackup}
use Rattle.bow_disk.specs.Disk.{Content, Goes, ReadsAs, Same, Offered, Written, IsCrash}
use Rattle.bow_chain.specs.Contents.{Contents, contents_of, with_block}
use Rattle.bow_restore.specs.Copies.{Copy, run_copies, copied}
use Rattle.bow_restore.specs.Replaying.{CopiedBack, IsCutBeside}
use Rattle.bow_disk.specs.Moments.{Tells}
use Rattle.bow_disk.proofs.Moments.{goes_told}
use Rattle.bow_restore.proofs.Moments.{read_told}
use Rattle.bow_restore.proofs.Copied.{copied-append}
use Rattle.bow_restore.proofs.Told.{Fits, crash_at, now_put, same_now, others_kept}

copy_is : (a b c d : ℕ) → a ≡ c → b ≡ d → ◌≡◌ {A = Copy} (record { from = a; to = b }) (record { from = c; to = d })
copy_is a b c d e f = cc

run_more : (dest source n : ℕ) → run_copies dest source (suc n) ≡ run_copies dest source n ++ record { from = dest + n; to = source + n } ∷ []
run_more dest source zero = ap (λ (c : Copy). c ∷ []) (copy_is dest source (dest + 0) (source + 0) (omega arith) (omega arith))
run_more dest source (suc n) = ap (λ cs. record { from = dest; to = source } ∷ cs) (run_more (suc dest) (suc source) n ∙ ap (λ (c : Copy). run_copies (suc dest) (suc source) n ++ c ∷ []) (copy_is (suc dest + n) (suc source + n) (dest + suc n) (source + suc n) (omega arith) (omega arith)))

pub copied_none : (b : Backup) (c : Content) → CopiedBack b 0 c c
copied_none b c = record { now = λ x. refl; others = λ x out. refl }

-- a read changes nothing
pub copied_read : (b : Backup) (n : ℕ) (c d e : Content) → CopiedBack b n c d → Same d e → CopiedBack b n c e
copied_read b n c d e back same = record {
  now = λ x. same_now d.now e.now same.0 x ∙ back.now x;
  others = λ x out. ap (λ (l : List (List (List ℕ))). slice_index_or l x []) same.1 ∙ back.others x out;
}

-- one block more
pub copied_more : (g : Geometry) (b : Backup) (n from at : ℕ) (v : List ℕ) (c d e : Content) → Fits g d → IsBackup g b → n < b.count → from ≡ b.dest + n → at ≡ b.source + n → CopiedBack b n c d → v ≡ contents_of d.now from → Written at v d e → CopiedBack b (n + 1) c e
copied_more g b n from at v c d e fits ok below from_is at_is back read written = record {
  now = λ x.
      now_put at v d.now e.now (omega (arith, fits.blocks, ok.source_inside)) written.0 x
      ∙ ap (λ (a : ℕ). with_block (contents_of d.now) a v x) at_is
      ∙ ap (λ (w : List ℕ). with_block (contents_of d.now) (b.source + n) w x) (read ∙ ap (contents_of d.now) from_is)
      ∙ ap (λ (i : Contents). with_block i (b.source + n) (i (b.dest + n)) x) (fun_ext back.now)
      ∙ sym (ap (λ (i : Contents). i x) (copied-append (run_copies b.dest b.source n) (record { from = b.dest + n; to = b.source + n } ∷ []) (contents_of c.now)))
      ∙ ap (λ cs. copied cs (contents_of c.now) x) (sym (run_more b.dest b.source n) ∙ ap (run_copies b.dest b.source) (let e : suc n ≡ n + 1 = omega arith in e));
  others = λ x out. others_kept at v d e (inr (inr written)) x (λ is. out (record { above = omega arith; below = omega arith })) ∙ back.others x out;
}

-- whatever a cut leaves
pub cut_read : (g : Geometry) (b : Backup) (n : ℕ) (c d : Content) (cut : List (List ℕ)) → Fits g d → CopiedBack b n c d → IsCrash d.candidates cut → IsCutBeside g b c cut
cut_read g b n c d cut fits back crash x on out = subst (λ vs. Contains vs (contents_of cut x)) (back.others x out) (crash_at g d cut fits crash x on)

pub cut_written : (g : Geometry) (b : Backup) (n at : ℕ) (v : List ℕ) (c d e : Content) (cut : List (List ℕ)) → Fits g e → n < b.count → at ≡ b.source + n → CopiedBack b n c d → Same d e ⊎ (Offered at v d e ⊎ Written at v d e) → IsCrash e.candidates cut → IsCutBeside g b c cut
cut_written g b n at v c d e cut fits below at_is back given crash x on out =
    subst (λ vs. Contains vs (contents_of cut x)) (others_kept at v d e given x (λ is. out (record { above = omega arith; below = omega arith })) ∙ back.others x out) (crash_at g e cut fits crash x on)

-- a read and a write that succeed copy one block more
pub block_back : {T : Type 0} (content : T → Option Content) (g : Geometry) (b : Backup) (n from at : ℕ) (v : List ℕ) (k : Content) (before read after : T) → ((m : Content) → content read ≡ Some m → Fits g m) → IsBackup g b → n < b.count → from ≡ b.dest + n → at ≡ b.source + n
    → Tells content (CopiedBack b n k) before → Goes Same (content before) (content read) → MatchOption (content before) (Unit {0}) (ReadsAs from v) → Goes (Written at v) (content read) (content after) → Tells content (CopiedBack b (n + 1) k) after
block_back content g b n from at v k before read after fit ok below from_is at_is old same gives written =
    let m = goes_told content Same before read old.told old.is same in
    let d = goes_told content (Written at v) read after m.told m.is written in
    record {
      told = d.told;
      is = d.is;
      holds = copied_more g b n from at v k m.told d.told (fit m.told m.is) ok below from_is at_is (copied_read b n k old.told m.told old.holds m.holds) (read_told (content before) from v old.told old.is gives ∙ sym (same_now old.told.now m.told.now m.holds.0 from)) d.holds;
    }
