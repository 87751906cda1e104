use Rattle.bow_words.proofs.Pairing.{ask_for_one_pair}
use Rattle.bow_words.proofs.pair_words.pair_words_law.Goals as goal

pub returns : goal.returns
returns c = record { one = ask_for_one_pair }
