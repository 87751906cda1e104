use Rattle.bow_tool.proofs.Drilling.{opened_and_on, two_answered}
use Rattle.bow_tool.proofs.drill_plays.play.Goals as goal

pub returns-clause-turns : goal.returns-clause-turns
returns-clause-turns g c first k none =
    let opening = c.answer_opening.ensures in
    let mid = c.answer_opening.new.session in
    opened_and_on g.D.Disk.stated g.D.Disk.content g.D.Disk.moment g.D.Disk.left_since g.D.Disk.faults g.met.D.Disk.shaped g.met.D.Disk.only_now c.args.seed first c.args.session.now mid c.go_on.new.session c.new-draws.result c.answer_opening.new.draws c.go_on.new.draws c.go_on.result c.new-draws.ensures
    (opening.turns first c.args.seed) (c.go_on.ensures.turns first c.args.seed) c.go_on.ensures.plan (two_answered c.args.session.now.script mid opening.script c.requires opening.answered) k none
