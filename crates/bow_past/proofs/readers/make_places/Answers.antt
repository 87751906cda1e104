use Rattle.std.proofs.Common.{arith, ◌≡◌, ◌++◌, ◌∷◌, [], suc, None, ap, ◌∙◌}
use Rattle.bow_past.proofs.Kept.{none_more}
use Rattle.bow_past.proofs.readers.make_places.Goals as goal

pub loop-logs-preserved : goal.loop-logs-preserved
loop-logs-preserved c =
    let k = c.loop-logs.invariant in
    let pushed : c.push.new.self.items ≡ c.loop-logs.logs.items ++ None ∷ [] = (let items = c.push.ensures.items in let ok = c.if-is_err.ensures.negation in let no = c.if-is_err.false in let e = c.is_err.ensures in grind (arith, items, ok, no, e)) in
    (suc k.0, pushed ∙ ap (λ l. l ++ None ∷ []) k.1 ∙ none_more c.args.logs.now.items k.0)
