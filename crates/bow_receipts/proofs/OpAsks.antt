-- An op and what it asks for.
use Rattle.std.proofs.Common.{◌≡◌, ℕ, zero, suc, ◌*◌, ◌≤◌, List, [], ◌∷◌, length, take, arith, refl, sym, ap, ◌∙◌, subst, mul-le-mul_right}
use Rattle.std.proofs.lemmas.List.{length-take-le}
use Rattle.std.specs.Prelude.{replicate}
use Rattle.bow_units.specs.declared.sizes.Geometry.{Geometry}
use Rattle.bow_units.specs.declared.sizes.Extent.{Extent}
use Rattle.bow_units.specs.declared.requests.Op.{Op}
use Rattle.bow_units.specs.declared.requests.Op.TheVariants as ops
use Rattle.bow_units.specs.declared.requests.Outcome.{Outcome}
use Rattle.bow_units.specs.declared.requests.Outcome.TheVariants as outcomes
use Rattle.bow_machine.specs.MemoryIsSound.{IsAdmissible, IsTransfer}
use Rattle.bow_machine.specs.Steps.{extent_of, payload_of}
use Rattle.bow_history.specs.Sessions.{IsFor}
use Rattle.bow_receipts.specs.declared.asks.Copies.{Copies}
use Rattle.bow_receipts.specs.Asking.{blank, FitsSize}
use Rattle.bow_receipts.specs.Copies.{HasRoomFor, blocks_read, read_by, read_into}
use Rattle.bow_receipts.specs.Served.{IsFrontOf}

pub zeros_long : (n : ℕ) → length {A = ℕ} (replicate n 0) ≡ n
zeros_long zero = refl
zeros_long (suc n) = ap suc (zeros_long n)

-- an ask is one still
pub blank_twice : (op : Op) → blank (blank op) ≡ blank op
blank_twice (ops.Read e p) = ap (λ n. ops.Read e (replicate n 0)) (zeros_long (length p))
blank_twice (ops.Write e p) = refl
blank_twice (ops.Discard e) = refl
blank_twice ops.Flush = refl
blank_twice ops.Prepare = refl
blank_twice ops.Commit = refl

transfer : (g : Geometry) (size blocks : ℕ) (e : Extent) (p q : List ℕ) → g.block_size ≡ size → length q ≡ length p → IsTransfer (record { block_size = size; blocks = blocks }) e p → IsTransfer g e q
transfer g size blocks e p q same long t = record {
  some = t.some;
  few = t.few;
  whole = long ∙ t.whole ∙ ap (λ n. e.count * n) (sym same);
}

-- a device of that block size takes in the op of an ask that fits it
pub fits_whole : (g : Geometry) (size : ℕ) (op : Op) → g.block_size ≡ size → FitsSize size (blank op) → IsAdmissible g op
fits_whole g size (ops.Read e p) same t = transfer g size 0 e (replicate (length p) 0) p same (sym (zeros_long (length p))) t
fits_whole g size (ops.Write e p) same t = transfer g size 0 e p p same refl t
fits_whole g size (ops.Discard e) same t = tt
fits_whole g size ops.Flush same t = tt
fits_whole g size ops.Prepare same t = tt
fits_whole g size ops.Commit same t = tt

-- an op is one for its ask
pub for_blank : (g : Geometry) (op : Op) → IsAdmissible g op → IsFor g (blank op) op
for_blank g (ops.Read e p) t = (refl, t.whole)
for_blank g (ops.Write e p) t = refl
for_blank g (ops.Discard e) t = refl
for_blank g ops.Flush t = refl
for_blank g ops.Prepare t = refl
for_blank g ops.Commit t = refl

pub first_blank : (op : Op) → (extent_of (blank op)).first ≡ (extent_of op).first
first_blank (ops.Read e p) = refl
first_blank (ops.Write e p) = refl
first_blank (ops.Discard e) = refl
first_blank ops.Flush = refl
first_blank ops.Prepare = refl
first_blank ops.Commit = refl

pub room_blank : (op : Op) (copies : Copies) → HasRoomFor op copies → HasRoomFor (blank op) copies
room_blank (ops.Read e p) copies h = (h.0 ∙ sym (zeros_long (length p)), h.1 ∙ sym (zeros_long (length p)))
room_blank (ops.Write e p) copies h = h
room_blank (ops.Discard e) copies h = h
room_blank ops.Flush copies h = h
room_blank ops.Prepare copies h = h
room_blank ops.Commit copies h = h

any_payload : (e : Extent) (p q : List ℕ) (outcome : Outcome) → blocks_read (ops.Read e p) outcome ≡ blocks_read (ops.Read e q) outcome
any_payload e p q outcomes.Done = refl
any_payload e p q outcomes.Data = refl
any_payload e p q (outcomes.NoSpace n) = refl
any_payload e p q (outcomes.DiskFault n) = refl
any_payload e p q outcomes.OutOfRange = refl
any_payload e p q outcomes.ReservedMagic = refl
any_payload e p q (outcomes.WrongPhase phase) = refl
any_payload e p q (outcomes.Unsettled phase) = refl

-- the payload of a read is as long as its blocks
abbrev IsWhole : ℕ → Op → Type 0
IsWhole size (ops.Read e p) = length p ≡ e.count * size
IsWhole size op = Unit {0}

-- what is handed out stands at the beginning of the payload
front_twice : (n : ℕ) (xs : List ℕ) → IsFrontOf (take n xs) xs
front_twice zero xs = refl
front_twice (suc n) [] = refl
front_twice (suc n) (x ∷ xs) = ap (λ ys. x ∷ ys) (front_twice n xs)

front_whole : (xs : List ℕ) → IsFrontOf xs xs
front_whole [] = refl
front_whole (x ∷ xs) = ap (λ ys. x ∷ ys) (front_whole xs)

pub read_front : (size : ℕ) (op : Op) (outcome : Outcome) → IsFrontOf (read_by size op outcome) (payload_of op)
read_front size (ops.Read e p) outcomes.Done = refl
read_front size (ops.Read e p) outcomes.Data = front_whole p
read_front size (ops.Read e p) (outcomes.NoSpace n) = refl
read_front size (ops.Read e p) (outcomes.DiskFault n) = front_twice (n * size) p
read_front size (ops.Read e p) outcomes.OutOfRange = refl
read_front size (ops.Read e p) outcomes.ReservedMagic = refl
read_front size (ops.Read e p) (outcomes.WrongPhase phase) = refl
read_front size (ops.Read e p) (outcomes.Unsettled phase) = refl
read_front size (ops.Write e p) outcome = refl
read_front size (ops.Discard e) outcome = refl
read_front size ops.Flush outcome = refl
read_front size ops.Prepare outcome = refl
read_front size ops.Commit outcome = refl

-- and is no longer than it
pub read_fits : (size : ℕ) (op : Op) (outcome : Outcome) → length (read_by size op outcome) ≤ length (read_into op)
read_fits size (ops.Read e p) outcomes.Done = omega arith
read_fits size (ops.Read e p) outcomes.Data = omega arith
read_fits size (ops.Read e p) (outcomes.NoSpace n) = omega arith
read_fits size (ops.Read e p) (outcomes.DiskFault n) = front_few (n * size) p
  where
    front_few : (n : ℕ) (xs : List ℕ) → length (take n xs) ≤ length xs
    front_few zero xs = omega arith
    front_few (suc n) [] = omega arith
    front_few (suc n) (x ∷ xs) = let less = front_few n xs in omega (arith, less)
read_fits size (ops.Read e p) outcomes.OutOfRange = omega arith
read_fits size (ops.Read e p) outcomes.ReservedMagic = omega arith
read_fits size (ops.Read e p) (outcomes.WrongPhase phase) = omega arith
read_fits size (ops.Read e p) (outcomes.Unsettled phase) = omega arith
read_fits size (ops.Write e p) outcome = omega arith
read_fits size (ops.Discard e) outcome = omega arith
read_fits size ops.Flush outcome = omega arith
read_fits size ops.Prepare outcome = omega arith
read_fits size ops.Commit outcome = omega arith

no_block : (size : ℕ) → 0 ≡ 0 * size
no_block size = omega arith

-- and is as long as the blocks that were read
read_long : (size : ℕ) (op : Op) (outcome : Outcome) → IsWhole size op → blocks_read op outcome ≤ (extent_of op).count
    → length (read_by size op outcome) ≡ blocks_read op outcome * size
read_long size (ops.Read e p) outcomes.Done whole within = no_block size
read_long size (ops.Read e p) outcomes.Data whole within = whole
read_long size (ops.Read e p) (outcomes.NoSpace n) whole within = no_block size
read_long size (ops.Read e p) (outcomes.DiskFault n) whole within = length-take-le (n * size) p (let low : n * size ≤ e.count * size = mul-le-mul_right size within in omega (arith, low, whole))
read_long size (ops.Read e p) outcomes.OutOfRange whole within = no_block size
read_long size (ops.Read e p) outcomes.ReservedMagic whole within = no_block size
read_long size (ops.Read e p) (outcomes.WrongPhase phase) whole within = no_block size
read_long size (ops.Read e p) (outcomes.Unsettled phase) whole within = no_block size
read_long size (ops.Write e p) outcome whole within = no_block size
read_long size (ops.Discard e) outcome whole within = no_block size
read_long size ops.Flush outcome whole within = no_block size
read_long size ops.Prepare outcome whole within = no_block size
read_long size ops.Commit outcome whole within = no_block size

module _ (g : Geometry) where
  long_read : (e x : Extent) (p q : List ℕ) → FitsSize g.block_size (ops.Read e p) → length q ≡ e.count * g.block_size → length q ≡ length p
  long_read e x p q t long = long ∙ sym t.whole

  -- it has the ask of its ask, and its read is as long
  pub for_ask : (ask op : Op) → FitsSize g.block_size ask → IsFor g ask op → blank op ≡ blank ask
  for_ask (ops.Read e p) (ops.Read x q) t is = ap (λ y. ops.Read y (replicate (length q) 0)) is.0 ∙ ap (λ n. ops.Read e (replicate n 0)) (long_read e x p q t is.1)
  for_ask (ops.Read e p) (ops.Write x q) t is = absurd is
  for_ask (ops.Read e p) (ops.Discard x) t is = absurd is
  for_ask (ops.Read e p) ops.Flush t is = absurd is
  for_ask (ops.Read e p) ops.Prepare t is = absurd is
  for_ask (ops.Read e p) ops.Commit t is = absurd is
  for_ask (ops.Write e p) op t is = ap blank is
  for_ask (ops.Discard e) op t is = ap blank is
  for_ask ops.Flush op t is = ap blank is
  for_ask ops.Prepare op t is = ap blank is
  for_ask ops.Commit op t is = ap blank is

  pub for_room : (ask op : Op) (copies : Copies) → FitsSize g.block_size ask → IsFor g ask op → HasRoomFor ask copies → HasRoomFor op copies
  for_room (ops.Read e p) (ops.Read x q) copies t is h = (h.0 ∙ sym (long_read e x p q t is.1), h.1 ∙ sym (long_read e x p q t is.1))
  for_room (ops.Read e p) (ops.Write x q) copies t is h = absurd is
  for_room (ops.Read e p) (ops.Discard x) copies t is h = absurd is
  for_room (ops.Read e p) ops.Flush copies t is h = absurd is
  for_room (ops.Read e p) ops.Prepare copies t is h = absurd is
  for_room (ops.Read e p) ops.Commit copies t is h = absurd is
  for_room (ops.Write e p) op copies t is h = subst (λ o. HasRoomFor o copies) (sym is) h
  for_room (ops.Discard e) op copies t is h = subst (λ o. HasRoomFor o copies) (sym is) h
  for_room ops.Flush op copies t is h = subst (λ o. HasRoomFor o copies) (sym is) h
  for_room ops.Prepare op copies t is h = subst (λ o. HasRoomFor o copies) (sym is) h
  for_room ops.Commit op copies t is h = subst (λ o. HasRoomFor o copies) (sym is) h

  pub for_count : (ask op : Op) → IsFor g ask op → (outcome : Outcome) → blocks_read op outcome ≡ blocks_read ask outcome
  for_count (ops.Read e p) (ops.Read x q) is outcome = ap (λ y. blocks_read (ops.Read y q) outcome) is.0 ∙ any_payload e q p outcome
  for_count (ops.Read e p) (ops.Write x q) is outcome = absurd is
  for_count (ops.Read e p) (ops.Discard x) is outcome = absurd is
  for_count (ops.Read e p) ops.Flush is outcome = absurd is
  for_count (ops.Read e p) ops.Prepare is outcome = absurd is
  for_count (ops.Read e p) ops.Commit is outcome = absurd is
  for_count (ops.Write e p) op is outcome = ap (λ o. blocks_read o outcome) is
  for_count (ops.Discard e) op is outcome = ap (λ o. blocks_read o outcome) is
  for_count ops.Flush op is outcome = ap (λ o. blocks_read o outcome) is
  for_count ops.Prepare op is outcome = ap (λ o. blocks_read o outcome) is
  for_count ops.Commit op is outcome = ap (λ o. blocks_read o outcome) is

  -- a read has a payload of its blocks
  for_whole : (ask op : Op) → FitsSize g.block_size ask → IsFor g ask op → IsWhole g.block_size op
  for_whole (ops.Read e p) (ops.Read x q) t is = is.1 ∙ ap (λ y. y.count * g.block_size) (sym is.0)
  for_whole (ops.Read e p) (ops.Write x q) t is = absurd is
  for_whole (ops.Read e p) (ops.Discard x) t is = absurd is
  for_whole (ops.Read e p) ops.Flush t is = absurd is
  for_whole (ops.Read e p) ops.Prepare t is = absurd is
  for_whole (ops.Read e p) ops.Commit t is = absurd is
  for_whole (ops.Write e p) op t is = subst (IsWhole g.block_size) (sym is) tt
  for_whole (ops.Discard e) op t is = subst (IsWhole g.block_size) (sym is) tt
  for_whole ops.Flush op t is = subst (IsWhole g.block_size) (sym is) tt
  for_whole ops.Prepare op t is = subst (IsWhole g.block_size) (sym is) tt
  for_whole ops.Commit op t is = subst (IsWhole g.block_size) (sym is) tt

  -- what is handed out are the blocks that were read
  pub for_blocks : (ask op : Op) (outcome : Outcome) → FitsSize g.block_size ask → IsFor g ask op → blocks_read op outcome ≤ (extent_of op).count
      → length (read_by g.block_size op outcome) ≡ blocks_read ask outcome * g.block_size
  for_blocks ask op outcome t is within = read_long g.block_size op outcome (for_whole ask op t is) within ∙ ap (λ n. n * g.block_size) (for_count ask op is outcome)
