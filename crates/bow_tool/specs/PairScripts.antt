-- Which requests may be dealt out to several devices.
use Rattle.std.specs.Prelude.{◌≡◌, ℕ, ◌<◌, List, All, length, Option, None, Some}
use Rattle.bow_script.specs.declared.scripts.Line.{Line}
use Rattle.bow_pair.specs.Pairs.{IsPlayed}

-- these neither prepare nor commit, and there is room for one more
abbrev pub IsDealable : List Line → Type 0
IsDealable requests = (length requests < 65536) × All IsPlayed requests

-- how many they are, if none of them prepares or commits
abbrev pub CountsPlayed : List Line → Option ℕ → Type 0
CountsPlayed requests (Some count) = (count ≡ length requests) × All IsPlayed requests
CountsPlayed requests None = All IsPlayed requests → ⊥
