use Rattle.std.proofs.Common.{◌∙◌, refl, subst, codes}
use Rattle.bow_words.specs.Words.{Takes, texts_of}
use Rattle.bow_words.proofs.Reading.{read_under}
use Rattle.bow_words.proofs.own_words.read_past.Goals as goal

pub returns-clause-ok : goal.returns-clause-ok
returns-clause-ok c = (
  refl,
  (
    subst (λ app. Takes app (texts_of c.args.words.now)) c.in-Ok.ensures c.in_ok-matches-in-Ok.ensures.taken,
    read_under (codes "number") 0 18446744073709551615 c.in_ok-number.number _ (texts_of c.args.words.now) _ c.in-Ok.ensures (c.get_str.ensures ∙ c.in_ok-matches-in-Ok.ensures.values (codes "number")) c.in_ok-number.ensures.ok,
    read_under (codes "first") 0 4294967295 c.in_ok-first.first _ (texts_of c.args.words.now) _ c.in-Ok.ensures (c.get_str-2.ensures ∙ c.in_ok-matches-in-Ok.ensures.values (codes "first")) c.in_ok-first.ensures.ok,
    read_under (codes "count") 1 4096 c.in_ok-count.count _ (texts_of c.args.words.now) _ c.in-Ok.ensures (c.get_str-3.ensures ∙ c.in_ok-matches-in-Ok.ensures.values (codes "count")) c.in_ok-count.ensures.ok,
  ),
)
