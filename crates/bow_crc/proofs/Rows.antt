-- The tables at each index.
use Rattle.std.proofs.Common.{ℕ, ◌≡◌, ◌<◌, ◌+◌, ◌*◌, List, [], map, refl, ap, ◌∙◌, arith}
use Rattle.std.specs.List.{range_with_len}
use Rattle.std.specs.Prelude.{slice_index_or}
use Rattle.std.proofs.lemmas.List.FromFn.{get_or-map-range_with_len}
use Rattle.bow_crc.specs.Crc.{bits_out}
use Rattle.bow_crc.specs.declared.table.TheConstants.{TABLES}

-- what each byte becomes after so many bits
abbrev table : ℕ → List ℕ
table k = map (bits_out (8 * (k + 1))) (range_with_len 0 256)

-- by computing each of the 4,096 rows bit by bit
whole : TABLES ≡ map table (range_with_len 0 16)
whole = refl

pub table_at : (k i : ℕ) → k < 16 → i < 256 → slice_index_or (slice_index_or TABLES k []) i 0 ≡ bits_out (8 * (k + 1)) i
table_at k i hk hi =
    ap (λ (ts : List (List ℕ)). slice_index_or (slice_index_or ts k []) i 0) whole
    ∙ ap (λ (t : List ℕ). slice_index_or t i 0) (get_or-map-range_with_len table 0 16 k k [] hk (omega arith))
    ∙ get_or-map-range_with_len (bits_out (8 * (k + 1))) 0 256 i i 0 hi (omega arith)
