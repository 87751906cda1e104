use Rattle.std.proofs.Common.{◌≡◌, ◌<◌, ◌^◌, drop}
use Rattle.bow_units.specs.Numbers.{value_of}
use Rattle.bow_units.proofs.numbers.value_of_digits.Given as goal

abbrev pub invariant-loop-byte : goal.invariant-loop-byte
invariant-loop-byte l = record { small : l.value < 10 ^ l.byte-index; goes_on : value_of l.value (drop l.byte-index l.word) ≡ value_of 0 l.word }
