use Rattle.bow_pair.proofs.Played.{complete_after, faults_after, goes_after, leads_after}
use Rattle.bow_pair.proofs.Rooms.{prepares_after}
use Rattle.bow_pair.proofs.laws.pair_sessions_law.Goals as goal

pub returns-clause-complete : goal.returns-clause-complete
returns-clause-complete g c script v w a k =
    let D = g.D.Disk in
    complete_after D.stated D.content D.moment D.left_since D.faults script v w a k

pub returns-clause-legal : goal.returns-clause-legal
returns-clause-legal g c script v w a f k anew stands =
    let D = g.D.Disk in
    goes_after D.stated D.content D.moment D.left_since D.faults g.met.D.Disk.shaped g.met.D.Disk.only_now g.met.D.Disk.cuts_shaped script v w a f k anew stands

pub returns-clause-faults : goal.returns-clause-faults
returns-clause-faults g c script v w a k =
    let D = g.D.Disk in
    faults_after D.stated D.content D.moment D.left_since D.faults script v w a k

pub returns-clause-lead : goal.returns-clause-lead
returns-clause-lead g c script v w a f k anew none stands led =
    let D = g.D.Disk in
    leads_after D.stated D.content D.moment D.left_since D.faults g.met.D.Disk.shaped g.met.D.Disk.only_now g.met.D.Disk.cuts_shaped script v w a f k anew none stands led

pub returns-clause-prepares : goal.returns-clause-prepares
returns-clause-prepares g c script device count v w a f may k stands trim clean =
    let D = g.D.Disk in
    prepares_after D.stated D.content D.moment D.left_since D.faults g.met.D.Disk.shaped g.met.D.Disk.only_now g.met.D.Disk.cuts_shaped script device count v w a f may k stands trim clean
