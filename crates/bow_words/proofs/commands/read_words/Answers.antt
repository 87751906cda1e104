use Rattle.std.proofs.Common.{◌∙◌}
use Rattle.bow_words.proofs.Naming.{kind_of, spelled}
use Rattle.bow_words.proofs.Reading.{asked_name}
use Rattle.bow_words.proofs.commands.read_words.Goals as goal

pub returns-in-None-clause-refused : goal.returns-in-None-clause-refused
returns-in-None-clause-refused c _ command asks =
    c.in-None.ensures.none (kind_of command) (c.as_str-in-len4-up.ensures.value ∙ asked_name c.args.words.now c.name-item.result command asks c.name-item.is ∙ spelled command)
