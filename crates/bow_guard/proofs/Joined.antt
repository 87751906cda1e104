-- The lists that a disk tells, as functions of a block's number.
use Rattle.std.proofs.Common.{ℕ, ◌<◌, ◌≡◌, ◌≢◌, ◌==◌, if◌then◌else◌, List, [], ◌∷◌, ◌++◌, length, get_or, set, Result, Ok, Err, arith, sym, ap, ◌∙◌, ◌⊎◌, inl, inr}
use mathlib.Core.Path.{fun_ext}
use Rattle.std.proofs.lemmas.Bool.{cases_eq}
use Rattle.std.proofs.lemmas.List.{get_or-map, get_or-set_same, get_or-set_other}
use Rattle.bow_disk.specs.Disk.{Content, Same, Offered, Written, WriteStep}
use Rattle.bow_chain.specs.Contents.{Contents, contents_of, with_block}
use Rattle.bow_guard.specs.Cuts.{candidates_of}
use Rattle.bow_guard.specs.Laws.{CrashesAreCuts, WritesAreGiven, WritesArePut, FlushesAreDone}

pub crashes_are_cuts : CrashesAreCuts
crashes_are_cuts g size c image shaped = (
  λ h. (h.size ∙ shaped.listed, λ b on. h.each b (omega (arith, shaped.listed))),
  λ h. record { size = h.0 ∙ sym shaped.listed; each = λ b on. h.1 b (omega (arith, shaped.listed)) },
)

-- what a write, done or failed, may have done
pub write_cases : {T E : Type 0} (r : Result T E) (b : ℕ) (v : List ℕ) (old new : Content) → WriteStep r b v old new → Same old new ⊎ (Offered b v old new ⊎ Written b v old new)
write_cases (Ok x) b v old new h = inr (inr h)
write_cases (Err e) b v old new h = h

set_at : {A : Type 0} (xs : List A) (b x : ℕ) (v d : A) → b < length xs → x ≡ b → get_or (set xs b v) x d ≡ v
set_at xs b x v d on is = ap (λ i. get_or (set xs b v) i d) is ∙ get_or-set_same xs b v d on

now_same : (old new : Content) → new.now ≡ old.now → (x : ℕ) → contents_of new.now x ≡ contents_of old.now x
now_same old new is x = ap (λ (l : List (List ℕ)). get_or l x []) is

now_put : (b : ℕ) (v : List ℕ) (old new : Content) → b < length old.now → new.now ≡ set old.now b v → (x : ℕ) → contents_of new.now x ≡ with_block (contents_of old.now) b v x
unfolding with_block
now_put b v old new on is x = ap (λ (l : List (List ℕ)). get_or l x []) is ∙ elim (cases_eq x b) [
  | inl same ↦ set_at old.now b x v [] on same ∙ sym (here x b v (get_or old.now x []) same)
  | inr ne ↦ get_or-set_other old.now b x v [] ne ∙ sym (there x b v (get_or old.now x []) ne)
]
  where
    here : (x b : ℕ) (v w : List ℕ) → x ≡ b → (if x == b then v else w) ≡ v
    here x b v w is = grind arith

    there : (x b : ℕ) (v w : List ℕ) → x ≢ b → (if x == b then v else w) ≡ w
    there x b v w ne = grind arith

pub writes_are_put : WritesArePut
writes_are_put size n b v old new shaped on w = fun_ext (now_put b v old new (omega (arith, shaped.blocks)) w.0)

others : (b x : ℕ) (v : List ℕ) (image : Contents) → x ≢ b → with_block image b v x ≡ image x
unfolding with_block
others b x v image ne = grind arith

itself : (b : ℕ) (v : List ℕ) (image : Contents) → with_block image b v b ≡ v
unfolding with_block
itself b v image = grind arith

offered_other : (b x : ℕ) (v : List ℕ) (old new : Content) → new.candidates ≡ set old.candidates b (get_or old.candidates b [] ++ v ∷ []) → x ≢ b → candidates_of new.candidates x ≡ candidates_of old.candidates x
offered_other b x v old new is ne = ap (λ (l : List (List (List ℕ))). get_or l x []) is ∙ get_or-set_other old.candidates b x (get_or old.candidates b [] ++ v ∷ []) [] ne

offered_here : (b : ℕ) (v : List ℕ) (old new : Content) → b < length old.candidates → new.candidates ≡ set old.candidates b (get_or old.candidates b [] ++ v ∷ []) → candidates_of new.candidates b ≡ candidates_of old.candidates b ++ v ∷ []
offered_here b v old new on is = ap (λ (l : List (List (List ℕ))). get_or l b []) is ∙ get_or-set_same old.candidates b (get_or old.candidates b [] ++ v ∷ []) [] on

pub writes_are_given : WritesAreGiven
writes_are_given size n b v old new shaped on (inl same) = record {
  others_now = λ x ne. now_same old new same.0 x;
  others_may = λ x ne. ap (λ (l : List (List (List ℕ))). get_or l x []) same.1;
  block_now = inl (now_same old new same.0 b);
  block_may = inl (ap (λ (l : List (List (List ℕ))). get_or l b []) same.1);
}
writes_are_given size n b v old new shaped on (inr (inl offered)) = record {
  others_now = λ x ne. now_same old new offered.0 x;
  others_may = λ x ne. offered_other b x v old new offered.1 ne;
  block_now = inl (now_same old new offered.0 b);
  block_may = inr (offered_here b v old new (omega (arith, shaped.listed)) offered.1);
}
writes_are_given size n b v old new shaped on (inr (inr written)) =
    let put = now_put b v old new (omega (arith, shaped.blocks)) written.0 in
    record {
      others_now = λ x ne. put x ∙ others b x v (contents_of old.now) ne;
      others_may = λ x ne. offered_other b x v old new written.1 ne;
      block_now = inr (put b ∙ itself b v (contents_of old.now));
      block_may = inr (offered_here b v old new (omega (arith, shaped.listed)) written.1);
    }

pub flushes_are_done : FlushesAreDone
flushes_are_done g size old new shaped f = (
  ap contents_of f.0,
  λ b on. ap (λ (l : List (List (List ℕ))). get_or l b []) f.1 ∙ get_or-map (λ (v : List ℕ). v ∷ []) old.now b [] [] (omega (arith, shaped.blocks)),
)
