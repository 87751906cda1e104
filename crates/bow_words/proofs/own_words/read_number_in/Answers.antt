use Rattle.std.proofs.Common.{◌∙◌, codes}
use Rattle.bow_words.specs.Words.{texts_of}
use Rattle.bow_words.proofs.Reading.{number_read}
use Rattle.bow_words.proofs.own_words.read_number_in.Goals as goal

pub returns-clause-ok : goal.returns-clause-ok
returns-clause-ok c =
    number_read c.args.least c.args.most _ (texts_of c.args.words.now) _ c.number_in.result c.in-Ok.ensures c.in_ok-matches-in-Ok.ensures.taken (c.get_str.ensures ∙ c.in_ok-matches-in-Ok.ensures.values (codes "number")) c.number_in.ensures.ok
