-- The buffers of reads, block by block.
use Rattle.std.proofs.Common.{ℕ, ◌+◌, ◌*◌, ◌<◌, ◌≤◌, ◌≡◌, List, ◌++◌, length, take, drop, arith, sym, ap, ◌∙◌, length-append, length-drop, append_assoc, mul-le-mul_right}
use Rattle.std.proofs.lemmas.List.{take-take, drop-take, take-append-le, length-take-le}
use Rattle.std.proofs.Math.Seq.{take-append_seam, drop-append_seam}
use Rattle.std.proofs.Common.{true, false, cond, nat_lt, Option, Some, None, refl, subst}
use Rattle.bow_flat.specs.Flat.{block_at}
use Rattle.bow_queue.specs.declared.tickets.Ticket.{Ticket}
use Rattle.bow_machine.specs.Requests.{Request, request_of, filled}
use Rattle.bow_history.specs.Fits.{buffer_of, buffer_in, OwnBuffersAgree, AgreesThere, AgreesInHand}

-- the front of a front
pub less_front : (size d : ℕ) (xs ys : List ℕ) → take ((d + 1) * size) xs ≡ take ((d + 1) * size) ys → take (d * size) xs ≡ take (d * size) ys
less_front size d xs ys same =
    let low : d * size ≤ (d + 1) * size = mul-le-mul_right size (let h : d ≤ d + 1 = omega arith in h) in
    sym (take-take (d * size) ((d + 1) * size) xs low) ∙ ap (take (d * size)) same ∙ take-take (d * size) ((d + 1) * size) ys low

-- a block within the front that two buffers share
pub front_block : (size d : ℕ) (xs ys : List ℕ) → take ((d + 1) * size) xs ≡ take ((d + 1) * size) ys → block_at size xs d ≡ block_at size ys d
front_block size d xs ys same =
    let whole : (d + 1) * size ≡ d * size + size = omega arith in
    let part : (l : List ℕ) → take size (drop (d * size) (take ((d + 1) * size) l)) ≡ block_at size l d = λ l.
    ap (λ k. take size (drop (d * size) (take k l))) whole ∙ ap (take size) (drop-take (d * size) size l) ∙ take-take size size (drop (d * size) l) (omega arith) in
    sym (part xs) ∙ ap (λ l. take size (drop (d * size) l)) same ∙ part ys

module _ (size count k : ℕ) (buffer v : List ℕ) (long : length buffer ≡ count * size) (below : k < count) (block : length v ≡ size) where
  inside : (k + 1) * size ≤ count * size
  inside = mul-le-mul_right size (let h : k + 1 ≤ count = omega (arith, below) in h)

  front : k * size + size ≤ length buffer
  front = let whole : (k + 1) * size ≡ k * size + size = omega arith in omega (arith, inside, long, whole)

  front_long : length (take (k * size) buffer) ≡ k * size
  front_long = length-take-le (k * size) buffer (omega (arith, front))

  abbrev rest : List ℕ
  rest = drop ((k + 1) * size) buffer

  filled_is : filled size buffer k v ≡ take (k * size) buffer ++ (v ++ rest)
  filled_is = append_assoc (take (k * size) buffer) v rest

  pub filled_front : take (k * size) (filled size buffer k v) ≡ take (k * size) buffer
  filled_front = ap (take (k * size)) filled_is ∙ take-append-le (k * size) (take (k * size) buffer) (v ++ drop ((k + 1) * size) buffer) (omega (arith, front_long)) ∙ take-take (k * size) (k * size) buffer (omega arith)

  pub filled_block : block_at size (filled size buffer k v) k ≡ v
  filled_block =
      let past : drop (k * size) (filled size buffer k v) ≡ v ++ drop ((k + 1) * size) buffer =
      ap (drop (k * size)) filled_is ∙ ap (λ i. drop i (take (k * size) buffer ++ (v ++ drop ((k + 1) * size) buffer))) (sym front_long) ∙ drop-append_seam (take (k * size) buffer) (v ++ drop ((k + 1) * size) buffer) in
      ap (take size) past ∙ ap (λ i. take i (v ++ drop ((k + 1) * size) buffer)) (sym block) ∙ take-append_seam v (drop ((k + 1) * size) buffer)

  pub filled_long : length (filled size buffer k v) ≡ count * size
  filled_long =
      let whole : (k + 1) * size ≡ k * size + size = omega arith in
      omega (arith, ap length filled_is, front, front_long, long, block, whole, length-append (take (k * size) buffer) (v ++ drop ((k + 1) * size) buffer), length-append v (drop ((k + 1) * size) buffer), length-drop ((k + 1) * size) buffer)

-- ----------------------------------------------------------------------------------------------------------------
-- The buffers of a session agree with it.

not_less : (n : ℕ) → nat_lt n n ≡ false
not_less n = grind arith

is_less : (k n : ℕ) → k < n → nat_lt k n ≡ true
is_less k n h = grind (arith, h)

pub own_buffers_agree : OwnBuffersAgree
own_buffers_agree plan s = record {
  before = λ lane k below. ap (λ t. cond t (s.kept lane k) (buffer_in s.memory.requests (s.hand lane))) (is_less k (s.number lane) below);
  there = λ lane. subst (λ buffer. AgreesInHand plan.sizes s.memory.requests buffer (s.hand lane)) (sym (ap (λ t. cond t (s.kept lane (s.number lane)) (buffer_in s.memory.requests (s.hand lane))) (not_less (s.number lane)))) (in_hand (s.hand lane));
}
  where
    in_hand : (o : Option Ticket) → AgreesInHand plan.sizes s.memory.requests (buffer_in s.memory.requests o) o
    in_hand None = tt
    in_hand (Some t) = go (request_of t s.memory.requests)
      where
        go : (o : Option Request) → AgreesThere plan.sizes (buffer_of o) o
        go None = tt
        go (Some r) = refl
