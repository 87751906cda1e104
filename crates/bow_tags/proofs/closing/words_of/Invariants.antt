use Rattle.std.proofs.Common.{◌≡◌, take}
use Rattle.std.specs.Mem.Slots.{slots_items}
use Rattle.bow_tags.proofs.closing.words_of.Given as goal

abbrev pub invariant-loop-i : goal.invariant-loop-i
invariant-loop-i g l = l.words.items ≡ take l.i (slots_items l.closed.words)
