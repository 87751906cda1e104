use Rattle.std.proofs.Common.{◌<◌, length, sym, subst}
use Rattle.bow_log.specs.Spelling.{Fields}
use Rattle.bow_log.specs.Rules.{IsLog}
use Rattle.bow_log.specs.Generations.{room}
use Rattle.bow_log.proofs.InBlocks.{entry_added}
use Rattle.bow_log.proofs.logs.Log.add.Goals as goal

pub returns-clause-log : goal.returns-clause-log
returns-clause-log c =
    let g = c.args.geometry in
    let s = c.self.inside in
    let old : Fields = record { magic = s.magic; block_size = s.block_size; sequence = s.sequence; sector0 = s.sector0; entries = s.entries.items } in
    entry_added g old c.args.entry c.push.new.self.items
    (subst (IsLog g) (sym c.self.view_is) c.requires.log)
    (subst (λ (l : Fields). length l.entries < room g.block_size) (sym c.self.view_is) c.requires.room)
    c.requires.entry c.requires.other c.push.ensures.items
