use Rattle.std.proofs.Common.{subst}
use Rattle.bow_units.specs.Sizes.{IsValid}
use Rattle.bow_session.proofs.Cutting.{sound_is_idle}
use Rattle.bow_session.proofs.Leading.{kept_agrees}
use Rattle.bow_past.specs.Running.{failures_of}
use Rattle.bow_past.proofs.Arriving.{ahead, complete, counted, leads, ran, sizes_told}
use Rattle.bow_past.proofs.Following.{begun_beside, follows_begun, follows_over, follows_plays, plays_has, sound_by}
use Rattle.bow_past.proofs.running.run_beside.Goals as goal

pub play_on-requires : goal.play_on-requires
play_on-requires g c =
    let D = g.D.Disk in
    record { beside = begun_beside D.stated D.content D.moment D.left_since D.faults c.requires.begun.0 c.args.session.now c.requires.begun.1 c.args.past c.requires.agrees }

pub returns-clause-ran : goal.returns-clause-ran
returns-clause-ran g c before b =
    let D = g.D.Disk in
    let w = c.play_on.new.session in
    let has = plays_has D.stated D.content D.moment D.left_since D.faults g.met.D.Disk.shaped g.met.D.Disk.cuts_shaped g.met.D.Disk.counts_now g.met.D.Disk.only_now c.play_on.ensures.steps.0 c.args.number c.args.past c.args.session.now c.play_on.result w before b c.requires.new c.play_on.ensures.steps.1 in
    ran D.stated D.content D.moment D.left_since D.faults before c.args.session.now b (failures_of c.play_on.result) w has

pub returns-clause-complete : goal.returns-clause-complete
returns-clause-complete g c before b =
    let D = g.D.Disk in
    let w = c.play_on.new.session in
    let has = plays_has D.stated D.content D.moment D.left_since D.faults g.met.D.Disk.shaped g.met.D.Disk.cuts_shaped g.met.D.Disk.counts_now g.met.D.Disk.only_now c.play_on.ensures.steps.0 c.args.number c.args.past c.args.session.now c.play_on.result w before b c.requires.new c.play_on.ensures.steps.1 in
    complete D.stated D.content D.moment D.left_since D.faults before c.args.session.now b (failures_of c.play_on.result) w has c.play_on.ensures.over

pub returns-clause-sizes : goal.returns-clause-sizes
returns-clause-sizes g c before b =
    let D = g.D.Disk in
    let w = c.play_on.new.session in
    let has = plays_has D.stated D.content D.moment D.left_since D.faults g.met.D.Disk.shaped g.met.D.Disk.cuts_shaped g.met.D.Disk.counts_now g.met.D.Disk.only_now c.play_on.ensures.steps.0 c.args.number c.args.past c.args.session.now c.play_on.result w before b c.requires.new c.play_on.ensures.steps.1 in
    (sizes_told D.stated D.content D.moment D.left_since D.faults before c.args.session.now b (failures_of c.play_on.result) w has, subst IsValid (has.loaded_by).sizes b.valid)

pub returns-clause-faults : goal.returns-clause-faults
returns-clause-faults g c before b =
    let D = g.D.Disk in
    let w = c.play_on.new.session in
    let has = plays_has D.stated D.content D.moment D.left_since D.faults g.met.D.Disk.shaped g.met.D.Disk.cuts_shaped g.met.D.Disk.counts_now g.met.D.Disk.only_now c.play_on.ensures.steps.0 c.args.number c.args.past c.args.session.now c.play_on.result w before b c.requires.new c.play_on.ensures.steps.1 in
    counted D.stated D.content D.moment D.left_since D.faults before c.args.session.now b (failures_of c.play_on.result) w has

pub returns-clause-leads : goal.returns-clause-leads
returns-clause-leads g c before b k is =
    let D = g.D.Disk in
    let w = c.play_on.new.session in
    let has = plays_has D.stated D.content D.moment D.left_since D.faults g.met.D.Disk.shaped g.met.D.Disk.cuts_shaped g.met.D.Disk.counts_now g.met.D.Disk.only_now c.play_on.ensures.steps.0 c.args.number c.args.past c.args.session.now c.play_on.result w before b c.requires.new c.play_on.ensures.steps.1 in
    let sound = sound_by D.stated D.content D.moment D.left_since D.faults b.first (D.moment before) (failures_of c.play_on.result) w has in
    leads D.stated D.content D.moment D.left_since D.faults before c.args.session.now b (failures_of c.play_on.result) w has g.met.D.Disk.shaped g.met.D.Disk.cuts_shaped g.met.D.Disk.counts_now g.met.D.Disk.only_now
    (sound_is_idle w sound c.play_on.ensures.over) (kept_agrees w sound c.play_on.ensures.over) k is

pub returns-clause-ahead : goal.returns-clause-ahead
returns-clause-ahead g c before b k is none =
    let D = g.D.Disk in
    let w = c.play_on.new.session in
    let has = plays_has D.stated D.content D.moment D.left_since D.faults g.met.D.Disk.shaped g.met.D.Disk.cuts_shaped g.met.D.Disk.counts_now g.met.D.Disk.only_now c.play_on.ensures.steps.0 c.args.number c.args.past c.args.session.now c.play_on.result w before b c.requires.new c.play_on.ensures.steps.1 in
    let sound = sound_by D.stated D.content D.moment D.left_since D.faults b.first (D.moment before) (failures_of c.play_on.result) w has in
    ahead D.stated D.content D.moment D.left_since D.faults before c.args.session.now b (failures_of c.play_on.result) w has g.met.D.Disk.shaped g.met.D.Disk.cuts_shaped g.met.D.Disk.counts_now g.met.D.Disk.only_now
    (sound_is_idle w sound c.play_on.ensures.over) (kept_agrees w sound c.play_on.ensures.over) k is none

pub returns-clause-reads : goal.returns-clause-reads
returns-clause-reads g c before b k is =
    let D = g.D.Disk in
    let w = c.play_on.new.session in
    let begun = follows_begun D.stated D.content D.moment D.left_since D.faults g.met.D.Disk.shaped g.met.D.Disk.cuts_shaped g.met.D.Disk.counts_now g.met.D.Disk.only_now before c.args.session.now b k is c.args.past c.requires.new c.requires.agrees in
    follows_over D.stated D.content D.moment D.left_since D.faults g.met.D.Disk.shaped g.met.D.Disk.cuts_shaped g.met.D.Disk.counts_now g.met.D.Disk.only_now b.first (D.moment before) k.now c.play_on.result w
    (follows_plays D.stated D.content D.moment D.left_since D.faults g.met.D.Disk.shaped g.met.D.Disk.cuts_shaped g.met.D.Disk.counts_now g.met.D.Disk.only_now b.first (D.moment before) _ c.play_on.ensures.steps.0 c.args.number c.args.past c.args.session.now c.play_on.result w begun c.play_on.ensures.steps.1) c.play_on.ensures.over
