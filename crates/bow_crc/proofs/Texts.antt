-- Registers and checksums of whole texts.
use Rattle.std.proofs.Common.{ℕ, ◌^◌, ◌<◌, ◌≡◌, List, [], ◌∷◌, ◌++◌, refl, sym, ◌∙◌, arith}
use Rattle.bow_crc.specs.Crc.{byte_in, register, crc_of}
use Rattle.bow_crc.specs.Laws.{AreBytes}
use Rattle.bow_crc.proofs.Bits.{byte_lt, byte_same, xor_same_l, xor_same_r}

pub register_append : (r : ℕ) (xs ys : List ℕ) → register r (xs ++ ys) ≡ register (register r xs) ys
register_append r [] ys = refl
register_append r (x ∷ xs) ys = register_append (byte_in r x) xs ys

register_lt : (r : ℕ) (xs : List ℕ) → r < 2 ^ 32 → AreBytes xs → register r xs < 2 ^ 32
register_lt r [] h are = h
register_lt r (x ∷ xs) h are = register_lt (byte_in r x) xs (byte_lt r x h are.0) are.1

register_same : (r s : ℕ) (xs : List ℕ) → r < 2 ^ 32 → s < 2 ^ 32 → AreBytes xs → register r xs ≡ register s xs → r ≡ s
register_same r s [] hr hs are e = e
register_same r s (x ∷ xs) hr hs are e =
    let next = register_same (byte_in r x) (byte_in s x) xs (byte_lt r x hr are.0) (byte_lt s x hs are.0) are.1 e in
    xor_same_r r s x (byte_same r s x x hr hs are.0 are.0 next)

pub bytes_append : (xs ys : List ℕ) → AreBytes xs → AreBytes ys → AreBytes (xs ++ ys)
bytes_append [] ys a b = b
bytes_append (x ∷ xs) ys a b = (a.0, bytes_append xs ys a.1 b)

pub crc_lt : (xs : List ℕ) → crc_of xs < 2 ^ 32
unfolding crc_of
crc_lt xs = omega arith

pub byte_tells : (front : List ℕ) (a b : ℕ) (back : List ℕ) → AreBytes front → a < 256 → b < 256 → AreBytes back → crc_of (front ++ (a ∷ back)) ≡ crc_of (front ++ (b ∷ back)) → a ≡ b
unfolding crc_of
byte_tells front a b back are_front ha hb are_back e =
    let r = register 0xFFFFFFFF front in
    let hr : r < 2 ^ 32 = register_lt 0xFFFFFFFF front (omega arith) are_front in
    let la : register 0xFFFFFFFF (front ++ (a ∷ back)) < 2 ^ 32 = register_lt 0xFFFFFFFF _ (omega arith) (bytes_append front (a ∷ back) are_front (ha, are_back)) in
    let lb : register 0xFFFFFFFF (front ++ (b ∷ back)) < 2 ^ 32 = register_lt 0xFFFFFFFF _ (omega arith) (bytes_append front (b ∷ back) are_front (hb, are_back)) in
    let whole : register 0xFFFFFFFF (front ++ (a ∷ back)) ≡ register 0xFFFFFFFF (front ++ (b ∷ back)) = omega (arith, e, la, lb) in
    let ends : register (byte_in r a) back ≡ register (byte_in r b) back = sym (register_append 0xFFFFFFFF front (a ∷ back)) ∙ whole ∙ register_append 0xFFFFFFFF front (b ∷ back) in
    let mids : byte_in r a ≡ byte_in r b = register_same (byte_in r a) (byte_in r b) back (byte_lt r a hr ha) (byte_lt r b hr hb) are_back ends in
    xor_same_l r a b (byte_same r r a b hr hr ha hb mids)
