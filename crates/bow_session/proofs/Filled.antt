-- What a lane lends to its writes, and what comes back.
use Rattle.std.proofs.Common.{◌≡◌, ℕ, zero, suc, ◌+◌, ◌-◌, ◌*◌, ◌<◌, ◌++◌, List, [], ◌∷◌, length, take, drop, replicate, Option, Some, None, arith, refl, sym, ap, ◌∙◌, subst, inl, inr}
use Rattle.std.specs.Prelude.{slice_get, slice_set}
use Rattle.std.proofs.lemmas.Bool.{cases_eq}
use Rattle.std.proofs.lemmas.List.{take_all}
use Rattle.std.proofs.Math.Seq.{take-add}
use Rattle.bow_units.specs.Pattern.{pattern}
use Rattle.bow_units.specs.declared.sizes.Extent.{Extent}
use Rattle.bow_units.specs.declared.sizes.Geometry.{Geometry}
use Rattle.bow_units.specs.declared.requests.Op.{Op}
use Rattle.bow_units.specs.declared.requests.Op.TheVariants.{Read, Write, Discard, Flush, Prepare, Commit}
use Rattle.bow_machine.specs.MemoryIsSound.{IsAdmissible}
use Rattle.bow_history.specs.Sessions.{IsFor}
use Rattle.bow_session.specs.Buffers.{kept_of, with_buffer, IsKeptFor, IsAskable, lent_to, IsThere, HasBuffers, without_lent, given_back}
use Rattle.bow_session.specs.Requests.{patterns}
use Rattle.bow_session.proofs.Changed.{set_here, set_there, set_length}
use Rattle.bow_session.proofs.Lists.{patterns-more}

-- ----------------------------------------------------------------------------------------------------------------
-- Lists.

-- one slot more of a buffer
pub slot_more : (size first i seed len : ℕ) (old new : List ℕ) → length old ≡ len → length new ≡ length old → take (i * size) new ≡ take (i * size) old
    → take size (drop (i * size) new) ≡ pattern (first + i) seed size → take (i * size) old ≡ patterns size first i seed
    → (length new ≡ len) × (take ((i + 1) * size) new ≡ patterns size first (i + 1) seed)
slot_more size first i seed len old new long kept front here before =
    let e : (i + 1) * size ≡ i * size + size = omega arith in
    let one : suc i ≡ i + 1 = omega arith in (
      kept ∙ long,
      ap (λ n. take n new) e ∙ take-add (i * size) size new ∙ ap (λ l. l ++ take size (drop (i * size) new)) (front ∙ before)
          ∙ ap (λ l. patterns size first i seed ++ l) here ∙ sym (patterns-more size first i seed) ∙ ap (λ k. patterns size first k seed) one,
    )

pub all_slots : (size first count seed i : ℕ) (bytes : List ℕ) → i ≡ count → length bytes ≡ count * size → take (i * size) bytes ≡ patterns size first i seed → bytes ≡ patterns size first count seed
all_slots size first count seed i bytes is long here =
    sym (take_all (i * size) bytes (let e : i * size ≡ count * size = ap (λ n. n * size) is in omega (arith, long, e))) ∙ here ∙ ap (λ k. patterns size first k seed) is

-- bytes, and zeros behind them
pub begun : (text old mid put new : List ℕ) → put ≡ mid → length mid ≡ length old → take (length text) mid ≡ text → new ≡ take (length text) put ++ replicate (length put - length text) 0
    → new ≡ text ++ replicate (length old - length text) 0
begun text old mid put new same whole front second =
    second ∙ ap (λ (l : List ℕ). take (length text) l ++ replicate (length l - length text) 0) same ∙ ap (λ l. l ++ replicate (length mid - length text) 0) front ∙ ap (λ n. text ++ replicate (n - length text) 0) whole

-- ----------------------------------------------------------------------------------------------------------------
-- Buffers.

-- of each number of blocks
pub there_more : (size k : ℕ) (xs : List (Option (List ℕ))) (bytes : List ℕ) → length xs ≡ k → ((n : ℕ) → n < k → IsThere (n * size) (slice_get xs n)) → length bytes ≡ k * size
    → (n : ℕ) → n < k + 1 → IsThere (n * size) (slice_get (xs ++ Some bytes ∷ []) n)
there_more size k xs bytes long each is n below = elim (cases_eq n k) [
  | inl at ↦ subst (IsThere (n * size)) (sym (last xs n (at ∙ sym long))) (is ∙ ap (λ m. m * size) (sym at))
  | inr ne ↦ subst (IsThere (n * size)) (sym (early xs n (omega (arith, below, ne, long)))) (each n (omega (arith, below, ne)))
]
  where
    last : (xs : List (Option (List ℕ))) (n : ℕ) → n ≡ length xs → slice_get (xs ++ Some bytes ∷ []) n ≡ Some (Some bytes)
    last [] zero at = refl
    last [] (suc n) at = absurd (omega (arith, at))
    last (x ∷ xs) zero at = absurd (omega (arith, at))
    last (x ∷ xs) (suc n) at = last xs n (omega (arith, at))

    early : (xs : List (Option (List ℕ))) (n : ℕ) → n < length xs → slice_get (xs ++ Some bytes ∷ []) n ≡ slice_get xs n
    early [] n inside = absurd (omega (arith, inside))
    early (x ∷ xs) zero inside = refl
    early (x ∷ xs) (suc n) inside = early xs n (omega (arith, inside))

get_inside : (xs : List (Option (List ℕ))) (n : ℕ) → n < length xs → (x : Option (List ℕ)) × (slice_get xs n ≡ Some x)
get_inside [] n inside = absurd (omega (arith, inside))
get_inside (x ∷ xs) zero inside = (x, refl)
get_inside (x ∷ xs) (suc n) inside = get_inside xs n (omega (arith, inside))

-- the buffer of a write is lent
pub lend_fits : (g : Geometry) (asked : Op) (buffers new : List (Option (List ℕ))) → HasBuffers g.block_size 0 buffers → new ≡ without_lent asked buffers → HasBuffers g.block_size (lent_to asked) new
lend_fits g (Read e p) buffers new k is = subst (HasBuffers g.block_size 0) (sym is) k
lend_fits g (Write e p) buffers new k is = subst (HasBuffers g.block_size e.count) (sym is) (record {
  many = set_length buffers e.count None ∙ k.many;
  each = λ count some few apart. subst (IsThere (count * g.block_size)) (sym (set_there buffers e.count count None apart)) (k.each count some few (λ none. absurd (omega (arith, some, none))));
})
lend_fits g (Discard e) buffers new k is = subst (HasBuffers g.block_size 0) (sym is) k
lend_fits g Flush buffers new k is = subst (HasBuffers g.block_size 0) (sym is) k
lend_fits g Prepare buffers new k is = subst (HasBuffers g.block_size 0) (sym is) k
lend_fits g Commit buffers new k is = subst (HasBuffers g.block_size 0) (sym is) k

-- and comes back
back_write : (g : Geometry) (e : Extent) (p : List ℕ) (lent : ℕ) (buffers : List (Option (List ℕ))) → HasBuffers g.block_size lent buffers → lent ≡ e.count → IsAdmissible g (Write e p) → HasBuffers g.block_size 0 (slice_set buffers e.count (Some p))
back_write g e p lent buffers k is fits = record {
  many = set_length buffers e.count (Some p) ∙ k.many;
  each = λ count some few apart. elim (cases_eq count e.count) [
    | inl at ↦
        let there = get_inside buffers e.count (let f = fits.few in let m = k.many in omega (arith, f, m)) in
        subst (IsThere (count * g.block_size)) (sym (ap (slice_get (slice_set buffers e.count (Some p))) at ∙ set_here buffers e.count (Some p) there.0 there.1)) (fits.whole ∙ ap (λ n. n * g.block_size) (sym at))
    | inr ne ↦ subst (IsThere (count * g.block_size)) (sym (set_there buffers e.count count (Some p) ne)) (k.each count some few (λ same. ne (same ∙ is)))
  ];
}

back_none : (g : Geometry) (lent : ℕ) (buffers : List (Option (List ℕ))) → HasBuffers g.block_size lent buffers → lent ≡ 0 → HasBuffers g.block_size 0 buffers
back_none g lent buffers k is = subst (λ n. HasBuffers g.block_size n buffers) is k

pub back_fits : (g : Geometry) (asked op : Op) (lent : ℕ) (buffers new : List (Option (List ℕ))) → HasBuffers g.block_size lent buffers → lent ≡ lent_to asked → IsFor g asked op → IsAskable g asked
    → new ≡ given_back op buffers → HasBuffers g.block_size 0 new
back_fits g (Read e p) (Read x q) lent buffers new k is same fits new_is = subst (HasBuffers g.block_size 0) (sym new_is) (back_none g lent buffers k is)
back_fits g (Read e p) (Write x q) lent buffers new k is same fits new_is = absurd same
back_fits g (Read e p) (Discard x) lent buffers new k is same fits new_is = absurd same
back_fits g (Read e p) Flush lent buffers new k is same fits new_is = absurd same
back_fits g (Read e p) Prepare lent buffers new k is same fits new_is = absurd same
back_fits g (Read e p) Commit lent buffers new k is same fits new_is = absurd same
back_fits g (Write e p) op lent buffers new k is same fits new_is = subst (HasBuffers g.block_size 0) (sym (new_is ∙ ap (λ o. given_back o buffers) same)) (back_write g e p lent buffers k is fits)
back_fits g (Discard e) op lent buffers new k is same fits new_is = subst (HasBuffers g.block_size 0) (sym (new_is ∙ ap (λ o. given_back o buffers) same)) (back_none g lent buffers k is)
back_fits g Flush op lent buffers new k is same fits new_is = subst (HasBuffers g.block_size 0) (sym (new_is ∙ ap (λ o. given_back o buffers) same)) (back_none g lent buffers k is)
back_fits g Prepare op lent buffers new k is same fits new_is = subst (HasBuffers g.block_size 0) (sym (new_is ∙ ap (λ o. given_back o buffers) same)) (back_none g lent buffers k is)
back_fits g Commit op lent buffers new k is same fits new_is = subst (HasBuffers g.block_size 0) (sym (new_is ∙ ap (λ o. given_back o buffers) same)) (back_none g lent buffers k is)

-- ----------------------------------------------------------------------------------------------------------------
-- The request that is made of what was asked for.

pub made_for : (g : Geometry) (asked : Op) (own : Option (List ℕ)) → IsKeptFor g asked own → IsFor g asked (with_buffer asked own)
made_for g (Read e p) (Some q) is = (refl, is)
made_for g (Read e p) None is = absurd is
made_for g (Write e p) own is = refl
made_for g (Discard e) own is = refl
made_for g Flush own is = refl
made_for g Prepare own is = refl
made_for g Commit own is = refl

pub made_whole : (g : Geometry) (asked : Op) (own : Option (List ℕ)) → IsKeptFor g asked own → IsAskable g asked → IsAdmissible g (with_buffer asked own)
made_whole g (Read e p) (Some q) is fits = record { some = fits.0; few = fits.1; whole = is }
made_whole g (Read e p) None is fits = absurd is
made_whole g (Write e p) own is fits = fits
made_whole g (Discard e) own is fits = fits
made_whole g Flush own is fits = fits
made_whole g Prepare own is fits = fits
made_whole g Commit own is fits = fits

-- what is kept of it, once it is answered
pub kept_for : (g : Geometry) (asked op : Op) → IsFor g asked op → IsKeptFor g asked (kept_of op)
kept_for g (Read e p) (Read x q) is = is.1
kept_for g (Read e p) (Write x q) is = absurd is
kept_for g (Read e p) (Discard x) is = absurd is
kept_for g (Read e p) Flush is = absurd is
kept_for g (Read e p) Prepare is = absurd is
kept_for g (Read e p) Commit is = absurd is
kept_for g (Write e p) op is = subst (λ o. IsKeptFor g (Write e p) (kept_of o)) (sym is) tt
kept_for g (Discard e) op is = subst (λ o. IsKeptFor g (Discard e) (kept_of o)) (sym is) tt
kept_for g Flush op is = subst (λ o. IsKeptFor g Flush (kept_of o)) (sym is) tt
kept_for g Prepare op is = subst (λ o. IsKeptFor g Prepare (kept_of o)) (sym is) tt
kept_for g Commit op is = subst (λ o. IsKeptFor g Commit (kept_of o)) (sym is) tt

-- as many blocks are lent to it
pub lent_for : (g : Geometry) (asked op : Op) → IsFor g asked op → lent_to op ≡ lent_to asked
lent_for g (Read e p) (Read x q) is = refl
lent_for g (Read e p) (Write x q) is = absurd is
lent_for g (Read e p) (Discard x) is = absurd is
lent_for g (Read e p) Flush is = absurd is
lent_for g (Read e p) Prepare is = absurd is
lent_for g (Read e p) Commit is = absurd is
lent_for g (Write e p) op is = ap lent_to is
lent_for g (Discard e) op is = ap lent_to is
lent_for g Flush op is = ap lent_to is
lent_for g Prepare op is = ap lent_to is
lent_for g Commit op is = ap lent_to is
