use Rattle.bow_words.proofs.Telling.{ask_for_one}
use Rattle.bow_words.proofs.Plainly.{ask_in_range, plain_words_ask}
use Rattle.bow_words.proofs.laws.words_law.Goals as goal

pub returns : goal.returns
returns c = record { one = ask_for_one; plain = plain_words_ask; range = ask_in_range }
