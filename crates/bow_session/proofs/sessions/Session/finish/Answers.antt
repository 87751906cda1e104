use Rattle.std.proofs.Common.{◌≡◌, sym, subst, ap, ◌∙◌}
use Rattle.bow_session.specs.Desks.{run_of}
use Rattle.bow_session.specs.Runs.{IsRun}
use Rattle.bow_session.specs.Sessions.{Run}
use Rattle.bow_session.proofs.Over.{is_over_then}
use Rattle.bow_session.specs.Leads.{BeginsAt, WasLoaded}
use Rattle.bow_session.specs.Requests.{plan_of}
use Rattle.bow_session.specs.Sessions.{plan_in}
use Rattle.bow_session.proofs.Cutting.{over_is_complete, plays_follow, plays_go_on, script_stays, sound_is_idle}
use Rattle.bow_session.proofs.Leading.{kept_agrees, leads_ahead, leads_from, loaded_plays}
use Rattle.bow_session.proofs.sessions.Session.finish.Goals as goal

pub returns-clause-over : goal.returns-clause-over
returns-clause-over g c = is_over_then c.finish.new.self c.finish.ensures.fits c.finish.ensures.over

pub returns-clause-run : goal.returns-clause-run
returns-clause-run g c first turns k =
    let plays = c.finish.ensures.plays in
    let before = subst (λ (v : Run g.row.D.Denot). IsRun g.D.Disk.stated g.D.Disk.content g.D.Disk.faults first turns v) (sym c.self.view_is) k in (
      plays.0,
      rw (sym c.self.view_is) (plays_follow g.D.Disk.stated g.D.Disk.content g.D.Disk.moment g.D.Disk.left_since g.D.Disk.faults c.args.number (run_of c.self.inside.desk) plays.0 (run_of c.finish.new.self) plays.1),
      rw (sym c.self.view_is) (plays_go_on g.D.Disk.stated g.D.Disk.content g.D.Disk.moment g.D.Disk.left_since g.D.Disk.faults g.met.D.Disk.shaped g.met.D.Disk.only_now first turns c.args.number (run_of c.self.inside.desk) plays.0 (run_of c.finish.new.self) before plays.1),
    )

pub returns-clause-script : goal.returns-clause-script
returns-clause-script g c =
    let plays = c.finish.ensures.plays in
    rw (sym c.self.view_is) (script_stays g.D.Disk.stated g.D.Disk.content g.D.Disk.moment g.D.Disk.left_since g.D.Disk.faults c.args.number (run_of c.self.inside.desk) plays.0 (run_of c.finish.new.self) plays.1)

-- the plan stays
plan_same : {D : Type 0} (old new : Run D) → (new.script ≡ old.script) × (new.core.geometry ≡ old.core.geometry) → plan_in old ≡ plan_in new
plan_same old new stays = sym (ap (λ s. plan_of new.core.geometry s) stays.0 ∙ ap (λ z. plan_of z old.script) stays.1)

pub returns-clause-idle : goal.returns-clause-idle
returns-clause-idle g c =
    let fits = c.finish.ensures.fits in
    sound_is_idle (run_of c.finish.new.self) fits.sound (is_over_then c.finish.new.self fits c.finish.ensures.over)

pub returns-clause-buffers : goal.returns-clause-buffers
returns-clause-buffers g c =
    let fits = c.finish.ensures.fits in
    kept_agrees (run_of c.finish.new.self) fits.sound (is_over_then c.finish.new.self fits c.finish.ensures.over)

pub returns-clause-loaded : goal.returns-clause-loaded
returns-clause-loaded g c first k =
    let plays = c.finish.ensures.plays in
    let before = subst (λ (v : Run g.row.D.Denot). WasLoaded g.D.Disk.stated g.D.Disk.content g.D.Disk.moment g.D.Disk.left_since g.D.Disk.faults first v) (sym c.self.view_is) k in
    loaded_plays g.D.Disk.stated g.D.Disk.content g.D.Disk.moment g.D.Disk.left_since g.D.Disk.faults g.met.D.Disk.shaped g.met.D.Disk.only_now first c.args.number (run_of c.self.inside.desk) plays.0 (run_of c.finish.new.self) before plays.1

pub returns-clause-complete : goal.returns-clause-complete
returns-clause-complete g c first k =
    let new = returns-clause-loaded g c first k in
    over_is_complete g.D.Disk.stated g.D.Disk.content g.D.Disk.faults first new.turns (run_of c.finish.new.self) new.run (is_over_then c.finish.new.self c.finish.ensures.fits c.finish.ensures.over) new.sound new.idle

pub returns-clause-faults : goal.returns-clause-faults
returns-clause-faults g c first k = ((returns-clause-loaded g c first k).run).session.faults

pub returns-clause-leads : goal.returns-clause-leads
returns-clause-leads g c first f k at =
    let new = returns-clause-loaded g c first k in
    leads_from g.D.Disk.stated g.D.Disk.content g.D.Disk.moment g.D.Disk.left_since g.D.Disk.faults g.met.D.Disk.shaped g.met.D.Disk.only_now first f (run_of c.finish.new.self) new (subst (λ p. BeginsAt g.D.Disk.content p first f) (plan_same c.args.self.now (run_of c.finish.new.self) (returns-clause-script g c)) at)

pub returns-clause-ahead : goal.returns-clause-ahead
returns-clause-ahead g c first f k at led low =
    let new = returns-clause-loaded g c first k in
    leads_ahead g.D.Disk.stated g.D.Disk.content g.D.Disk.moment g.D.Disk.left_since g.D.Disk.faults g.met.D.Disk.shaped g.met.D.Disk.only_now g.met.D.Disk.cuts_shaped first f (run_of c.finish.new.self) new (subst (λ p. BeginsAt g.D.Disk.content p first f) (plan_same c.args.self.now (run_of c.finish.new.self) (returns-clause-script g c)) at) led low
