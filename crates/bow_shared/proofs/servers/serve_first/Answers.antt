use Rattle.std.proofs.Common.{ap, subst, refl}
use Rattle.bow_shared.specs.Hands.{InHand}
use Rattle.bow_shared.proofs.InHands.{first_is, goes_behind, goes_out}
use Rattle.bow_shared.proofs.servers.serve_first.Goals as goal

pub serve-served-requires-clause-holds : goal.serve-served-requires-clause-holds
serve-served-requires-clause-holds g c =
    let h = subst (InHand c.args.seat.now.view.jobs) (first_is c.args.jobs.now.items c.remove-job.result c.requires.some c.remove-job.ensures.value) c.requires.hand in
    h.each 0 c.remove-job.result refl

pub returns-in-Answered-clause-hand : goal.returns-in-Answered-clause-hand
returns-in-Answered-clause-hand g c =
    goes_out c.args.seat.now.view.jobs c.serve-served.new.seat.view.jobs c.args.jobs.now.items c.remove-job.new.self.items c.remove-job.result (ap (λ v. v.jobs) c.in-Answered.ensures.served.3)
    (first_is c.args.jobs.now.items c.remove-job.result c.requires.some c.remove-job.ensures.value) c.remove-job.ensures.items c.requires.hand

pub returns-in-Stepped-clause-hand : goal.returns-in-Stepped-clause-hand
returns-in-Stepped-clause-hand g c =
    let back = c.in-Stepped.ensures.served in
    goes_behind c.args.seat.now.view.jobs c.serve-served.new.seat.view.jobs c.args.jobs.now.items c.remove-job.new.self.items c.push_reserved.new.self.items c.remove-job.result c.in-Stepped.job (ap (λ v. v.jobs) back.1)
    (first_is c.args.jobs.now.items c.remove-job.result c.requires.some c.remove-job.ensures.value) c.remove-job.ensures.items c.push_reserved.ensures.items back.0 c.requires.hand

pub returns-in-Waiting-clause-hand : goal.returns-in-Waiting-clause-hand
returns-in-Waiting-clause-hand g c =
    let back = c.in-Waiting.ensures.served in
    goes_behind c.args.seat.now.view.jobs c.serve-served.new.seat.view.jobs c.args.jobs.now.items c.remove-job.new.self.items c.push_reserved-in-Waiting.new.self.items c.remove-job.result c.in-Waiting.job (ap (λ v. v.jobs) back.1)
    (first_is c.args.jobs.now.items c.remove-job.result c.requires.some c.remove-job.ensures.value) c.remove-job.ensures.items c.push_reserved-in-Waiting.ensures.items back.0 c.requires.hand
