-- What follows from the definitions.
use Rattle.std.specs.Prelude.{ℕ, List, [], slice_index_or}
use Rattle.bow_flat.specs.Flat.{Flat, Event, after, Allows, opening}
use Rattle.bow_flat.specs.Valid.{IsState, IsOrderly}
use Rattle.bow_units.specs.Magics.{IsPlain}

-- an event that is allowed and in order leads from a valid state to a valid state
abbrev pub EventsKeepValid : Type 0
EventsKeepValid = (n : ℕ) (event : Event) (f : Flat) → IsState f → Allows n event f → IsOrderly event f
    → IsState (after n event f)

-- the opening state of an image without a magic in block 0 is valid
abbrev pub OpeningIsValid : Type 0
OpeningIsValid = (image : List (List ℕ)) → IsPlain (slice_index_or image 0 []) → IsState (opening image)
