-- Backups of which no source is a dest of a later one: what is kept by them lies outside their sources.
use Rattle.std.proofs.Common.{ℕ, ◌≡◌, Bool, false, true, if◌then◌else◌, List, [], ◌∷◌, arith, refl, sym, ap, ◌∙◌, subst, ◌⊎◌, inl, inr}
use Rattle.std.specs.List.{AllByRecursion as Each}
use Rattle.std.proofs.lemmas.Bool.Decides.{nat_tests}
use Rattle.bow_units.specs.declared.sizes.Geometry.{Geometry}
use Rattle.bow_log.specs.Generations.{Backup, IsBackup}
use Rattle.bow_chain.specs.Places.{hop, pass, InSource, InDest}
use Rattle.bow_chain.specs.Counting.{AtSums}
use Rattle.bow_chain.proofs.Hops.{hop_out, hop_cases, hop_in_dest, hop_not_source}
use Rattle.bow_restore.specs.Marks.{meets, overlaps, since_mark, AreClear, IsNoSource}

-- ---- the tests

apart : (b other : Backup) → meets b other ≡ false → (x : ℕ) → InSource b x → InDest other x → ⊥
apart b other misses x s d = grind (arith, nat_tests)

all_apart : (b : Backup) (others : List Backup) → overlaps b others ≡ false → Each (λ other. (x : ℕ) → InSource b x → InDest other x → ⊥) others
all_apart b [] misses = tt
all_apart b (other ∷ others) misses = (apart b other (grind arith), all_apart b others (grind arith))

-- those that were replayed since the last mark are clear
pub clear_since : (bs : List Backup) → AreClear (since_mark bs)
clear_since [] = tt
clear_since (b ∷ bs) = elim (dec (overlaps b (since_mark bs))) [
  | inl hits ↦ subst (λ t. AreClear (if t then b ∷ [] else b ∷ since_mark bs)) (sym hits) (tt, tt)
  | inr misses ↦ subst (λ t. AreClear (if t then b ∷ [] else b ∷ since_mark bs)) (sym misses) (all_apart b (since_mark bs) misses, clear_since bs)
]
  where
    dec : (t : Bool) → (t ≡ true) ⊎ (t ≡ false)
    dec true = inl refl
    dec false = inr refl

-- ---- places

module _ (g : Geometry) where
  -- a source that is no dest of these is not entered by them
  stays_out : (b : Backup) (bs : List Backup) (x : ℕ) → Each (λ other. (y : ℕ) → InSource b y → InDest other y → ⊥) bs → (InSource b x → ⊥) → InSource b (pass bs x) → ⊥
  stays_out b [] x apart out = out
  stays_out b (f ∷ fs) x apart out = stays_out b fs (hop f x) apart.1 (λ inside. elim (hop_cases f x) [ inl h ↦ apart.0 _ inside (hop_in_dest f x h.0) | inr h ↦ out (subst (InSource b) h.1 inside) ])

  -- what they lead to is in none of their sources
  pub pass_out : (bs : List Backup) (x : ℕ) → Each (IsBackup g) bs → AreClear bs → IsNoSource bs (pass bs x)
  pass_out [] x ok clear = tt
  pass_out (b ∷ bs) x ok clear = (stays_out b bs (hop b x) clear.0 (hop_not_source g b x ok.0), pass_out bs (hop b x) ok.1 clear.1)

  dest_not_source : (b : Backup) (x : ℕ) → IsBackup g b → InDest b x → InSource b x → ⊥
  dest_not_source b x ok d s = omega arith

  -- and so is where they lead from the dest of one of them
  pub dests_out : (bs : List Backup) → Each (IsBackup g) bs → AreClear bs → AtSums (IsNoSource bs) (λ x. x) bs
  dests_out [] ok clear = tt
  dests_out (b ∷ bs) ok clear = (
    λ x h. (stays_out b bs x clear.0 (dest_not_source b x ok.0 h), pass_out bs x ok.1 clear.1),
    more b bs bs clear.0 (dests_out bs ok.1 clear.1),
  )
    where
      more : (b : Backup) (all bs : List Backup) → Each (λ other. (y : ℕ) → InSource b y → InDest other y → ⊥) bs → AtSums (IsNoSource all) (λ x. x) bs → AtSums (IsNoSource (b ∷ all)) (λ x. x) bs
      more b all [] here outs = tt
      more b all (f ∷ fs) here outs = ((λ x h. (stays_out b fs x here.1 (λ s. here.0 x s h), outs.0 x h)), more b all fs here.1 outs.1)

-- they leave a block in none of their sources
pub pass_fixed : (bs : List Backup) (x : ℕ) → IsNoSource bs x → pass bs x ≡ x
pass_fixed [] x out = refl
pass_fixed (b ∷ bs) x out = ap (pass bs) (hop_out b x out.0) ∙ pass_fixed bs x out.1
