use Rattle.std.proofs.Common.{ℕ, ◌≡◌, length}
use Rattle.bow_chain.specs.Places.{hop}
use Rattle.bow_chain.specs.Tables.{place_in}
use Rattle.bow_chain.proofs.places.take_in.Given as goal

-- the first so many blocks of the entry are in
abbrev pub invariant-loop-offset : goal.invariant-loop-offset
invariant-loop-offset l = record {
  long : length l.places ≡ length l.initial.places;
  so_far : (x : ℕ) → place_in l.places x ≡ place_in l.initial.places (hop (record { source = l.source.first; dest = l.dest.first; count = l.offset; sum = 0 }) x);
}
