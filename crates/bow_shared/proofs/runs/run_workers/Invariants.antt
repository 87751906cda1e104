use Rattle.bow_session.specs.Leads.{WasLoaded}
use Rattle.bow_session.specs.Runs.{IsRun}
use Rattle.bow_shared.proofs.runs.run_workers.Given as goal

-- the session at entry
abbrev pub ghosts-run_named : goal.ghosts-run_named
ghosts-run_named g a = record {
  loaded = λ first. WasLoaded g.D.Disk.stated g.D.Disk.content g.D.Disk.moment g.D.Disk.left_since g.D.Disk.faults first a.session;
  begun = λ first turns. IsRun g.D.Disk.stated g.D.Disk.content g.D.Disk.faults first turns a.session;
  script = a.session.script;
  sizes = a.session.core.geometry;
  cell = a.cell.now;
}
