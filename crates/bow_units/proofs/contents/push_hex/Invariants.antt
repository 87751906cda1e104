use Rattle.std.proofs.Common.{◌≡◌, ◌++◌, drop}
use Rattle.std.specs.String.{string_bytes}
use Rattle.bow_units.specs.Contents.{hex_text}
use Rattle.bow_units.proofs.contents.push_hex.Given as goal

abbrev pub invariant-loop-byte : goal.invariant-loop-byte
invariant-loop-byte l = string_bytes l.out ++ hex_text (drop l.byte-index l.bytes) ≡ string_bytes l.fn.out ++ hex_text l.bytes
