use Rattle.std.proofs.Common.{◌≡◌, ◌∙◌, Some, [], ◌∷◌, ◌++◌, List, sym, ap, subst₂, arith, rules}
use Rattle.std.proofs.lemmas.List.{length-map}
use Rattle.bow_log.specs.Spelling.{Fields}
use Rattle.bow_log.specs.Generations.{generation_of}
use Rattle.bow_disk.specs.Disk.{Content}
use Rattle.bow_chain.specs.Contents.{contents_of}
use Rattle.bow_chain.specs.Chains.{generations_of}
use Rattle.bow_chain.specs.Faults.{AreAbove}
use Rattle.bow_chain.specs.Answers.{TellsFirst}
use Rattle.bow_chain.proofs.Quiet.{as_first}
use Rattle.bow_chain.proofs.Loads.{tells_magic, sound_with}
use Rattle.bow_chain.proofs.loading.tested_logs.Given.{Over}
use Rattle.bow_chain.proofs.loading.tested_logs.Goals as goal
use Rattle.bow_chain.proofs.loading.tested_logs.Goals.{After-add_older}

-- the first log stands alone
start : (g : Over) (c : After-add_older g) (k : Content) → g.D.Disk.content c.args.disk.now ≡ Some k → AreAbove c.args.geometry (contents_of k.now) (generations_of c.args.geometry c.push.new.self.items) c.first.inside.sequence
start g c k is =
    let first = c.in_ok-first.first in
    let items : c.push.new.self.items ≡ first ∷ [] = c.in_ok-push.ensures.items ∙ ap (λ (ls : List Fields). ls ++ first ∷ []) c.new-logs.ensures.items in
    let left : first.sequence ≡ c.first.inside.sequence = ap (λ (l : Fields). l.sequence) (sym c.first.view_is) in
    subst₂ (λ (ls : List Fields) n. AreAbove c.args.geometry (contents_of k.now) (generations_of c.args.geometry ls) n) (sym items) left (c.in_ok-first.ensures.tests k is)

pub returns-in_err-add_older-clause-magic : goal.returns-in_err-add_older-clause-magic
returns-in_err-add_older-clause-magic g c k is =
    let fault = c.in_err-add_older.field-0.0 in
    let told = as_first (λ blocks. AreAbove c.args.geometry (contents_of blocks) (generations_of c.args.geometry c.push.new.self.items) c.first.inside.sequence → TellsFirst c.args.geometry (contents_of blocks) fault)
    (g.D.Disk.content c.args.disk.now) (g.D.Disk.content c.first_log.new.disk) c.first_log.ensures.step c.in_err-add_older.ensures.tests k is in
    let t = tells_magic c.args.geometry (contents_of k.now) (generation_of c.args.geometry c.in_ok-first.first) (c.in_ok-first.ensures.tests k is).0 (c.in_ok-first.ensures.magic k is) fault (told (start g (goal.at.returns-in_err-add_older-clause-magic g c).After-add_older k is)) in
    search rules

pub returns-clause-sound : goal.returns-clause-sound
returns-clause-sound g c k is =
    let logs = c.add_older.new.logs.items in
    let told = as_first (λ blocks. AreAbove c.args.geometry (contents_of blocks) (generations_of c.args.geometry c.push.new.self.items) c.first.inside.sequence → AreAbove c.args.geometry (contents_of blocks) (generations_of c.args.geometry logs) 0)
    (g.D.Disk.content c.args.disk.now) (g.D.Disk.content c.first_log.new.disk) c.first_log.ensures.step c.in_ok-add_older.ensures.tests k is in
    sound_with c.args.geometry (contents_of k.now) c.requires.valid (generations_of c.args.geometry logs) (let long = length-map logs (generation_of c.args.geometry) in omega (arith, long, c.in_ok-add_older.ensures.some)) (told (start g (goal.at.returns-clause-sound g c).After-add_older k is))
