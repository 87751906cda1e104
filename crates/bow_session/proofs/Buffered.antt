-- What is kept of an answered read is whole.
use Rattle.std.proofs.Common.{◌≡◌, ℕ, zero, suc, ◌%◌, List, [], ◌∷◌, length, map, Option, Some, None, arith, refl, ap, ◌∙◌}
use Rattle.std.specs.Prelude.{slice_get}
use Rattle.std.proofs.Math.Nat.{mul-mod_left}
use Rattle.bow_units.specs.declared.sizes.Geometry.{Geometry}
use Rattle.bow_units.specs.declared.requests.Op.{Op}
use Rattle.bow_units.specs.declared.requests.Op.TheVariants.{Read, Write, Discard, Flush, Prepare, Commit}
use Rattle.bow_session.specs.declared.seats.Seat.{Seat}
use Rattle.bow_session.specs.Buffers.{IsKeptFor}
use Rattle.bow_session.specs.Contents.{bytes_kept}
use Rattle.bow_session.specs.Seats.{lane_in}
use Rattle.bow_session.specs.Sessions.{lane_at}

-- what is kept of an answered request is kept in its seat
pub answered_at : (seats : List Seat) (lane n : ℕ) (kept : Option (List ℕ)) → slice_get ((lane_at (map lane_in seats) lane).answered) n ≡ Some kept
    → (seat : Seat) × (slice_get seats lane ≡ Some seat) × (slice_get seat.answered.items n ≡ Some kept)
answered_at [] lane n kept has = absurd (grind (arith, has))
answered_at (s ∷ seats) zero n kept has = (s, refl, has)
answered_at (s ∷ seats) (suc lane) n kept has = answered_at seats lane n kept has

pub kept_there : (o : Option (Option (List ℕ))) (bytes : List ℕ) → bytes_kept o ≡ Some bytes → o ≡ Some (Some bytes)
kept_there None bytes is = absurd (let e : None ≡ Some bytes = is in grind (arith, e))
kept_there (Some kept) bytes is = ap Some is

-- a whole number of blocks
pub kept_whole : (g : Geometry) (asked : Op) (bytes : List ℕ) → IsKeptFor g asked (Some bytes) → length bytes % g.block_size ≡ 0
kept_whole g (Read e p) bytes is = ap (λ n. n % g.block_size) is ∙ mul-mod_left e.count g.block_size
kept_whole g (Write e p) bytes is = absurd is
kept_whole g (Discard e) bytes is = absurd is
kept_whole g Flush bytes is = absurd is
kept_whole g Prepare bytes is = absurd is
kept_whole g Commit bytes is = absurd is
