use Rattle.std.proofs.Common.{ap, subst, MatchOption}
use Rattle.bow_log.specs.Spelling.{Fields}
use Rattle.bow_past.specs.Reach.{IsWanted}
use Rattle.bow_past.specs.Readings.{Reading}
use Rattle.bow_past.proofs.Stepping.{found_by}
use Rattle.bow_past.proofs.readers.Past.look.Goals as goal

pub returns-clause-found : goal.returns-clause-found
returns-clause-found g c =
    let geometry = ap (λ (p : Reading). p.geometry) c.self.view_is in
    let told = subst (λ h. MatchOption c.wanted_log.result ((log : Fields) → ¬ IsWanted h c.as_slice.result.now c.args.wanted log) (λ log. IsWanted h c.as_slice.result.now c.args.wanted log)) geometry c.wanted_log.ensures.wanted in
    found_by g.D.Disk.stated g.D.Disk.content g.D.Disk.moment g.D.Disk.left_since g.D.Disk.faults c.args.self.now.geometry c.args.wanted c.args.place c.args.session.now c.read_at.new.session c.read_at.new.into c.wanted_log.result c.in_ok-read_at.ensures.reads
    (subst (λ b. MatchOption c.wanted_log.result ((log : Fields) → ¬ IsWanted c.args.self.now.geometry b c.args.wanted log) (λ log. IsWanted c.args.self.now.geometry b c.args.wanted log)) c.as_slice.ensures told)
