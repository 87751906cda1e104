-- How the content of a block is told.
use Rattle.std.specs.Prelude.{◌≡◌, ◌&&◌, ℕ, ◌+◌, ◌/◌, ◌%◌, ◌^◌, nat_lt, if◌then◌else◌, Option, Some, None, List, [], ◌∷◌, ◌++◌, length, codes}
use Rattle.std.specs.Str.{bytes_eq}
use Rattle.std.specs.Fmt.{decimal}
use Rattle.byteorder.specs.Endian.{little_number}
use Rattle.bow_units.specs.Blocks.{AreBytes, are_zero}
use Rattle.bow_units.specs.Pattern.{pattern, IsPatternOf}
use Rattle.bow_units.specs.Sizes.{IsBlockSize}

-- a lower-case hexadecimal digit
abbrev pub hex_digit : ℕ → ℕ
hex_digit n = if nat_lt n 10 then 48 + n else 87 + n

-- two digits for each byte
abbrev pub hex_text : List ℕ → List ℕ
hex_text [] = []
hex_text (byte ∷ bytes) = hex_digit (byte / 16) ∷ hex_digit (byte % 16) ∷ hex_text bytes

-- the bytes without the zero bytes at the end
abbrev pub trimmed : List ℕ → List ℕ
trimmed [] = []
trimmed (byte ∷ bytes) = if are_zero (byte ∷ bytes) then [] else byte ∷ trimmed bytes

-- the block b and the seed s, where these bytes are their pattern
abbrev pub if_pattern : List ℕ → ℕ → ℕ → Option (ℕ × ℕ)
if_pattern bytes b s =
    if nat_lt b 1048576 && bytes_eq bytes (pattern b s (length bytes)) then Some (b, s) else None

-- the block and the seed whose pattern these bytes are: only those that the first group states can be
abbrev pub pattern_parts : List ℕ → Option (ℕ × ℕ)
pattern_parts bytes = if_pattern bytes (little_number 8 bytes % 2 ^ 32 / 512) (little_number 8 bytes / 2 ^ 32)

-- the text of the pattern of block b with seed s
abbrev pub pattern_text : ℕ → ℕ → List ℕ
pattern_text b s = codes "pattern " ++ (decimal b ++ (32 ∷ decimal s))

-- the text of bytes that are not all zero
abbrev pub pattern_or_hex_text : List ℕ → Option (ℕ × ℕ) → List ℕ
pattern_or_hex_text bytes (Some (b, s)) = pattern_text b s
pattern_or_hex_text bytes None = codes "hex " ++ hex_text (trimmed bytes)

-- the text of a block's content
unfoldable pub content_text : List ℕ → List ℕ
content_text bytes =
    if are_zero bytes then codes "zero" else pattern_or_hex_text bytes (pattern_parts bytes)

-- the contents of one block size can be told from their texts
abbrev pub TextsTellContents : Type 0
TextsTellContents = (xs ys : List ℕ) → IsBlockSize (length xs) → length ys ≡ length xs → AreBytes xs → AreBytes ys
    → content_text xs ≡ content_text ys → xs ≡ ys

-- each pattern is told by its block and its seed
abbrev pub PatternsAreTold : Type 0
PatternsAreTold = (bytes : List ℕ) (b s : ℕ) → IsBlockSize (length bytes) → IsPatternOf bytes b s
    → content_text bytes ≡ pattern_text b s
