-- The names of the commands, as words.
use Rattle.std.specs.Prelude.{List, ℕ, codes}
use Rattle.bow_words.specs.declared.names.Name.{Name}
use Rattle.bow_words.specs.declared.names.Name.TheVariants.{Play, Run, Restore, Check, Forward, Start, Mark, NeedsCheckpoint, NeedsRollback, Abort, Boot, Drill, Past, Callers}

-- the word that is a name
abbrev pub text_of : Name → List ℕ
text_of Play = codes "play"
text_of Run = codes "run"
text_of Restore = codes "restore"
text_of Check = codes "check"
text_of Forward = codes "forward"
text_of Start = codes "start"
text_of Mark = codes "mark"
text_of NeedsCheckpoint = codes "needs-checkpoint"
text_of NeedsRollback = codes "needs-rollback"
text_of Abort = codes "abort"
text_of Boot = codes "boot"
text_of Drill = codes "drill"
text_of Past = codes "past"
text_of Callers = codes "callers"
