use Rattle.std.proofs.Common.{[], sym, subst}
use Rattle.bow_play.specs.Reading.{taken_from, GaveScript}
use Rattle.bow_play.proofs.Ends.{ahead, faults_told, leads, sizes_told}
use Rattle.bow_play.proofs.Runs.{drawn_from}
use Rattle.bow_play.proofs.plays.play.Goals as goal

pub returns-clause-given : goal.returns-clause-given
returns-clause-given g c =
    let b = c.in-Ok.ensures.begun in
    let end = c.finish.ensures in
    subst (λ script. GaveScript (taken_from g.S.Source.left g.S.Source.gave g.S.Source.ended c.args.source.now c.load.new.source) script) (sym end.script.0) c.in-Ok.ensures.given

pub returns-clause-sizes : goal.returns-clause-sizes
returns-clause-sizes g c =
    let b = c.in-Ok.ensures.begun in
    let end = c.finish.ensures in
    sizes_told g.D.Disk.stated g.D.Disk.content g.D.Disk.moment g.D.Disk.left_since g.D.Disk.faults c.args.disk c.in-Ok.session b c.finish.new.self (end.loaded b.first b.loaded_over)

pub returns-clause-complete : goal.returns-clause-complete
returns-clause-complete g c =
    let b = c.in-Ok.ensures.begun in
    let end = c.finish.ensures in
    end.complete b.first b.loaded_over

pub returns-clause-played : goal.returns-clause-played
returns-clause-played g c =
    let b = c.in-Ok.ensures.begun in
    let end = c.finish.ensures in
    let run = end.run b.first [] b.run in
    record {
      ran = record { first = b.first; turns = run.0; fresh = b.fresh; opened = b.opened; sizes = (end.loaded b.first b.loaded_over).sizes; run = (run.2).run };
      drawn = drawn_from g.D.Disk.stated g.D.Disk.content g.D.Disk.faults c.args.number b.first c.in-Ok.session run.0 c.finish.new.self b.run end.script run.1;
    }

pub returns-clause-faults : goal.returns-clause-faults
returns-clause-faults g c =
    let b = c.in-Ok.ensures.begun in
    let end = c.finish.ensures in
    faults_told g.D.Disk.stated g.D.Disk.content g.D.Disk.moment g.D.Disk.left_since g.D.Disk.faults c.args.disk c.in-Ok.session b c.finish.new.self (end.loaded b.first b.loaded_over)

pub returns-clause-plain : goal.returns-clause-plain
returns-clause-plain g c k is =
    let b = c.in-Ok.ensures.begun in
    let end = c.finish.ensures in
    (b.found k is).plain

pub returns-clause-leads : goal.returns-clause-leads
returns-clause-leads g c k is =
    let b = c.in-Ok.ensures.begun in
    let end = c.finish.ensures in
    leads g.D.Disk.stated g.D.Disk.content g.D.Disk.moment g.D.Disk.left_since g.D.Disk.faults c.args.disk c.in-Ok.session b c.finish.new.self (end.loaded b.first b.loaded_over) g.met.D.Disk.shaped g.met.D.Disk.cuts_shaped g.met.D.Disk.counts_now g.met.D.Disk.only_now end.idle end.buffers k is

pub returns-clause-ahead : goal.returns-clause-ahead
returns-clause-ahead g c k is none =
    let b = c.in-Ok.ensures.begun in
    let end = c.finish.ensures in
    ahead g.D.Disk.stated g.D.Disk.content g.D.Disk.moment g.D.Disk.left_since g.D.Disk.faults c.args.disk c.in-Ok.session b c.finish.new.self (end.loaded b.first b.loaded_over) g.met.D.Disk.shaped g.met.D.Disk.cuts_shaped g.met.D.Disk.counts_now g.met.D.Disk.only_now end.idle end.buffers k is none
