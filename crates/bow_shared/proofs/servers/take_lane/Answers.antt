use Rattle.std.proofs.Common.{◌≡◌, ℕ, List, [], ◌∷◌, ◌++◌, ap, sym, ◌∙◌, subst}
use Rattle.bow_tags.specs.declared.view.Held.{Held}
use Rattle.bow_tags.specs.Steps.{held}
use Rattle.bow_tags.specs.Rule.{job_times}
use Rattle.bow_shared.proofs.InHands.{took, moved_hand}
use Rattle.bow_shared.proofs.servers.take_lane.Goals as goal

pub returns-clause-hand : goal.returns-clause-hand
returns-clause-hand c =
    let ok = (c.in-Ok.ensures).ok in
    let old = c.args.seat.now.view.jobs in
    let job = c.in-Ok.job in
    let looked_jobs : c.look.new.seat.view.jobs ≡ old = ap (λ v. v.jobs) (c.in-Some.ensures).some in
    let free : job_times job.lane old ≡ 0 = subst (λ (z : ℕ × List (Held (Unit {0}))). job_times z.0 z.1 ≡ 0) (λ k. (sym ok.0 k, looked_jobs k)) ok.3 in
    let jobs : c.take.new.seat.view.jobs ≡ old ++ held job.lane job.number c.in-Ok.field-0-1 ∷ [] =
    ap (λ v. v.jobs) ok.5 ∙ ap (λ (z : List (Held (Unit {0})) × ℕ × ℕ). z.0 ++ held z.1 z.2 c.in-Ok.field-0-1 ∷ []) (λ k. (looked_jobs k, sym ok.0 k, sym ok.1 k)) in
    moved_hand (old ++ held job.lane job.number c.in-Ok.field-0-1 ∷ []) c.take.new.seat.view.jobs (c.args.jobs.now.items ++ job ∷ []) c.push_reserved.new.self.items jobs c.push_reserved.ensures.items
    (took old c.args.jobs.now.items job c.in-Ok.field-0-1 c.requires.hand free)
