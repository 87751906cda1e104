use Rattle.bow_units.proofs.ContentLaws.{texts_tell_contents, patterns_are_told}
use Rattle.bow_units.proofs.contents.content_text_law.Goals as goal

pub returns-clause-one : goal.returns-clause-one
returns-clause-one c = texts_tell_contents

pub returns-clause-patterns : goal.returns-clause-patterns
returns-clause-patterns c = patterns_are_told
