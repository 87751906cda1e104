use Rattle.std.proofs.Common.{[], sym, subst}
use Rattle.bow_units.specs.declared.sizes.Geometry.{Geometry}
use Rattle.bow_session.specs.Loading.{AreNewRecords}
use Rattle.bow_session.specs.Requests.{plan_of}
use Rattle.bow_session.specs.Runs.{IsRun}
use Rattle.bow_session.specs.Sessions.{Run}
use Rattle.bow_session.specs.Cuts.{CutsAreOfRun}
use Rattle.bow_session.specs.Loading.{loaded}
use Rattle.bow_session.specs.Leads.{WasLoaded}
use Rattle.bow_session.proofs.Cutting.{loaded_cuts}
use Rattle.bow_session.proofs.Leading.{loaded_fresh}
use Rattle.bow_session.proofs.Loaded.{seen, fits_new, loaded_is_run}
use Rattle.bow_session.proofs.sessions.Session.load.Goals as goal

pub invariant_of-result : goal.invariant_of-result
invariant_of-result g c =
    let new = subst (λ (sizes : Geometry). AreNewRecords (plan_of sizes c.args.script) c.args.script c.in-Ok.records) (c.geometry.ensures).is c.in-Ok.ensures in
    fits_new {D = g.row.D.Denot} g.row.R.Denot c.args.core c.args.script c.in-Ok.records new ((c.geometry.ensures).opened).sound c.requires.idle c.requires.places c.requires.serials c.requires.limits c.requires.numbers

pub returns-in-Ok-clause-fresh : goal.returns-in-Ok-clause-fresh
returns-in-Ok-clause-fresh g c =
    let new = subst (λ (sizes : Geometry). AreNewRecords (plan_of sizes c.args.script) c.args.script c.in-Ok.records) (c.geometry.ensures).is c.in-Ok.ensures in
    seen {D = g.row.D.Denot} g.row.R.Denot c.args.core c.args.script c.in-Ok.records new

pub returns-in-Ok-clause-run : goal.returns-in-Ok-clause-run
returns-in-Ok-clause-run g c =
    subst (λ (v : Run g.row.D.Denot). IsRun g.D.Disk.stated g.D.Disk.content g.D.Disk.faults c.args.core [] v) (sym (returns-in-Ok-clause-fresh g c))
    (loaded_is_run g.D.Disk.stated g.D.Disk.content g.D.Disk.faults c.args.core c.args.script ((c.geometry.ensures).opened).sound c.requires.idle c.requires.early ((c.geometry.ensures).opened).sizes)

pub returns-in-Ok-clause-cuts : goal.returns-in-Ok-clause-cuts
returns-in-Ok-clause-cuts g c =
    subst (λ (v : Run g.row.D.Denot). CutsAreOfRun g.D.Disk.content g.D.Disk.moment g.D.Disk.left_since c.args.core [] v) (sym (returns-in-Ok-clause-fresh g c))
    (loaded_cuts g.D.Disk.stated g.D.Disk.content g.D.Disk.moment g.D.Disk.left_since g.D.Disk.faults g.met.D.Disk.shaped g.met.D.Disk.only_now (loaded c.args.core c.args.script) ((c.geometry.ensures).opened).sizes)

pub returns-in-Ok-clause-loaded : goal.returns-in-Ok-clause-loaded
returns-in-Ok-clause-loaded g c =
    subst (λ (v : Run g.row.D.Denot). WasLoaded g.D.Disk.stated g.D.Disk.content g.D.Disk.moment g.D.Disk.left_since g.D.Disk.faults c.args.core v) (sym (returns-in-Ok-clause-fresh g c))
    (loaded_fresh g.D.Disk.stated g.D.Disk.content g.D.Disk.moment g.D.Disk.left_since g.D.Disk.faults g.met.D.Disk.shaped g.met.D.Disk.only_now c.args.core c.args.script ((c.geometry.ensures).opened).sound c.requires.idle c.requires.early ((c.geometry.ensures).opened).sizes)
