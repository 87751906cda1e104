use Rattle.std.proofs.Common.{ℕ, List, [], ◌∷◌, ◌++◌, ap, sym, ◌∙◌}
use Rattle.std.specs.Mem.Slots.{slots_items}
use Rattle.bow_tags.proofs.Ending.{take_more}
use Rattle.bow_tags.proofs.closing.words_of.Goals as goal

pub loop-i-preserved : goal.loop-i-preserved
loop-i-preserved g c = c.push.ensures.items ∙ (ap (λ (z : List ℕ). z ++ c.word.result ∷ []) c.loop-i.invariant ∙ sym (take_more (slots_items c.args.closed.now.words) c.loop-i.i c.word.result c.word.ensures))
