-- What the content that a disk tells says of its blocks, and what a cut leaves of them.
use Rattle.std.proofs.Common.{ℕ, zero, suc, ◌<◌, ◌≡◌, ◌≢◌, List, [], ◌∷◌, ◌++◌, length, get_or, map, set, Contains, arith, sym, ap, ◌∙◌, subst, ◌⊎◌, inl, inr}
use native.Mathlib.Decide.{ℕ_discrete}
use Rattle.std.proofs.lemmas.List.{get_or-map, length-map, get_or-set_same, get_or-set_other}
use Rattle.std.proofs.lemmas.List.Elements.{Contains-append_cases}
use Rattle.bow_units.specs.declared.sizes.Geometry.{Geometry}
use Rattle.bow_disk.specs.Disk.{Content, IsCrash, IsShaped, Same, Offered, Written, Flushed, offered}
use Rattle.bow_chain.specs.Contents.{contents_of, with_block}
use Rattle.bow_restore.specs.Replaying.{candidates_at, IsFlushed, IsHeadCut}
use Rattle.bow_restore.proofs.Copied.{put_same, put_other}

pub one_of : {A : Type 0} (x y : A) → Contains (x ∷ []) y → y ≡ x
one_of x y (zero, below, is) = sym is
one_of x y (suc k, below, is) = absurd (omega arith)

-- the content has the sizes of the device
abbrev pub Fits : Geometry → Content → Type 0
Fits g c = IsShaped g.block_size g.blocks c

-- a cut leaves a candidate of each block
pub crash_at : (g : Geometry) (c : Content) (cut : List (List ℕ)) → Fits g c → IsCrash c.candidates cut → (x : ℕ) → x < g.blocks → Contains (candidates_at c x) (contents_of cut x)
crash_at g c cut fits crash x on = crash.each x (omega (arith, fits.listed))

-- what a block holds is one
pub now_in : (g : Geometry) (c : Content) → Fits g c → (x : ℕ) → x < g.blocks → Contains (candidates_at c x) (contents_of c.now x)
now_in g c fits x on = fits.held x on

-- and after a flush the only one
pub single_at : (now : List (List ℕ)) (x : ℕ) → x < length now → get_or (map (λ v. v ∷ []) now) x [] ≡ contents_of now x ∷ []
single_at now x on = get_or-map (λ v. v ∷ []) now x [] [] on

pub flushed_at : (g : Geometry) (c : Content) → Fits g c → IsFlushed c → (x : ℕ) → x < g.blocks → candidates_at c x ≡ contents_of c.now x ∷ []
flushed_at g c fits is x on = ap (λ (l : List (List (List ℕ))). get_or l x []) is ∙ single_at c.now x (omega (arith, fits.blocks))

-- so a cut leaves that
pub flushed_cut : (g : Geometry) (c : Content) (cut : List (List ℕ)) → Fits g c → IsFlushed c → IsCrash c.candidates cut → (x : ℕ) → x < g.blocks → contents_of cut x ≡ contents_of c.now x
flushed_cut g c cut fits is crash x on = one_of (contents_of c.now x) (contents_of cut x) (subst (λ vs. Contains vs (contents_of cut x)) (flushed_at g c fits is x on) (crash_at g c cut fits crash x on))

pub same_now : (old new : List (List ℕ)) → new ≡ old → (x : ℕ) → contents_of new x ≡ contents_of old x
same_now old new is x = ap (λ (l : List (List ℕ)). get_or l x []) is

-- a block that is written
pub now_put : (b : ℕ) (v : List ℕ) (old new : List (List ℕ)) → b < length old → new ≡ set old b v → (x : ℕ) → contents_of new x ≡ with_block (contents_of old) b v x
now_put b v old new on is x = ap (λ (l : List (List ℕ)). get_or l x []) is ∙ elim (ℕ_discrete x b) [
  | yes same ↦ subst (λ y. get_or (set old b v) y [] ≡ with_block (contents_of old) b v y) (sym same) (get_or-set_same old b v [] on ∙ sym (put_same (contents_of old) b v))
  | no ne ↦ get_or-set_other old b x v [] ne ∙ sym (put_other (contents_of old) b v x ne)
]

pub offered_other : (b x : ℕ) (v : List ℕ) (old new : List (List (List ℕ))) → new ≡ offered old b v → x ≢ b → get_or new x [] ≡ get_or old x []
offered_other b x v old new is ne = ap (λ (l : List (List (List ℕ))). get_or l x []) is ∙ get_or-set_other old b x (get_or old b [] ++ v ∷ []) [] ne

pub offered_here : (b : ℕ) (v : List ℕ) (old new : List (List (List ℕ))) → b < length old → new ≡ offered old b v → get_or new b [] ≡ get_or old b [] ++ v ∷ []
offered_here b v old new on is = ap (λ (l : List (List (List ℕ))). get_or l b []) is ∙ get_or-set_same old b (get_or old b [] ++ v ∷ []) [] on

-- a write of one block, done or failed, leaves the candidates of the others
pub others_kept : (b : ℕ) (v : List ℕ) (old new : Content) → Same old new ⊎ (Offered b v old new ⊎ Written b v old new) → (x : ℕ) → x ≢ b → candidates_at new x ≡ candidates_at old x
others_kept b v old new (inl same) x ne = ap (λ (l : List (List (List ℕ))). get_or l x []) same.1
others_kept b v old new (inr (inl o)) x ne = offered_other b x v old.candidates new.candidates o.1 ne
others_kept b v old new (inr (inr w)) x ne = offered_other b x v old.candidates new.candidates w.1 ne

-- ---- block 0 written after a flush

module _ (g : Geometry) (v : List ℕ) (c : Content) (fits : Fits g c) (some : 0 < g.blocks) where
  singles : List (List (List ℕ))
  singles = map (λ x. x ∷ []) c.now

  cut_others : (d : Content) (cut : List (List ℕ)) → Fits g d → ((x : ℕ) → x ≢ 0 → candidates_at d x ≡ get_or (map (λ x. x ∷ []) c.now) x []) → IsCrash d.candidates cut → (x : ℕ) → 0 < x → x < g.blocks → contents_of cut x ≡ contents_of c.now x
  cut_others d cut fd same crash x above on =
      one_of (contents_of c.now x) (contents_of cut x) (subst (λ vs. Contains vs (contents_of cut x)) (same x (λ z. omega arith) ∙ single_at c.now x (omega (arith, fits.blocks))) (crash_at g d cut fd crash x on))

  -- the write was done, or failed and may have been done all the same
  pub head_offered_cut : (d : Content) (cut : List (List ℕ)) → Fits g d → d.candidates ≡ offered (map (λ x. x ∷ []) c.now) 0 v → IsCrash d.candidates cut → IsHeadCut g v c.now cut
  head_offered_cut d cut fd is crash = record {
    others = cut_others d cut fd (λ x ne. offered_other 0 x v (map (λ x. x ∷ []) c.now) d.candidates is ne) crash;
    head =
        let long : 0 < length (map (λ x. x ∷ []) c.now) = let l = length-map c.now (λ x. x ∷ []) in omega (arith, l, fits.blocks) in
        let here = subst (λ vs. Contains vs (contents_of cut 0)) (offered_here 0 v (map (λ x. x ∷ []) c.now) d.candidates long is ∙ ap (λ vs. vs ++ v ∷ []) (single_at c.now 0 (omega (arith, fits.blocks)))) (crash_at g d cut fd crash 0 some) in
        elim (Contains-append_cases (contents_of c.now 0 ∷ []) (v ∷ []) (contents_of cut 0) here) [ inl h ↦ inl (one_of _ _ h) | inr h ↦ inr (one_of _ _ h) ];
  }

  pub head_same_cut : (d : Content) (cut : List (List ℕ)) → Fits g d → d.candidates ≡ map (λ x. x ∷ []) c.now → IsCrash d.candidates cut → IsHeadCut g v c.now cut
  head_same_cut d cut fd is crash = record {
    others = cut_others d cut fd (λ x ne. ap (λ (l : List (List (List ℕ))). get_or l x []) is) crash;
    head = inl (one_of _ _ (subst (λ vs. Contains vs (contents_of cut 0)) (ap (λ (l : List (List (List ℕ))). get_or l 0 []) is ∙ single_at c.now 0 (omega (arith, fits.blocks))) (crash_at g d cut fd crash 0 some)));
  }

  pub head_given_cut : (mid d : Content) (cut : List (List ℕ)) → Fits g d → Flushed c mid → Same mid d ⊎ (Offered 0 v mid d ⊎ Written 0 v mid d) → IsCrash d.candidates cut → IsHeadCut g v c.now cut
  head_given_cut mid d cut fd flushed (inl same) crash = head_same_cut d cut fd (same.1 ∙ flushed.1) crash
  head_given_cut mid d cut fd flushed (inr (inl o)) crash = head_offered_cut d cut fd (o.1 ∙ ap (λ l. offered l 0 v) flushed.1) crash
  head_given_cut mid d cut fd flushed (inr (inr w)) crash = head_offered_cut d cut fd (w.1 ∙ ap (λ l. offered l 0 v) flushed.1) crash

  -- and a flush after it
  pub head_flushed_cut : (d : Content) (cut : List (List ℕ)) → Fits g d → d.now ≡ set c.now 0 v → IsFlushed d → IsCrash d.candidates cut → IsHeadCut g v c.now cut
  head_flushed_cut d cut fd now is crash =
      let put = now_put 0 v c.now d.now (omega (arith, fits.blocks)) now in
      record {
        others = λ x above on. flushed_cut g d cut fd is crash x on ∙ put x ∙ put_other (contents_of c.now) 0 v x (λ z. omega arith);
        head = inr (flushed_cut g d cut fd is crash 0 some ∙ put 0 ∙ put_same (contents_of c.now) 0 v);
      }
