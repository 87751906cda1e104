use Rattle.std.proofs.Common.{◌≡◌, replicate}
use Rattle.bow_tags.specs.declared.view.Slot.TheVariants.{Empty}
use Rattle.bow_tags.proofs.opening.empty_slots.Given as goal

abbrev pub invariant-loop-i : goal.invariant-loop-i
invariant-loop-i g l = l.slots.items ≡ replicate l._i Empty
