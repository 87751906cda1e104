use Rattle.std.proofs.Common.{◌≡◌, Some}
use Rattle.bow_disk.specs.Disk.{Content, IsCrash}
use Rattle.bow_disk.specs.Moments.{AddsCuts}
use Rattle.bow_restore.specs.Forwarding.{IsForwardCut}
use Rattle.bow_restore.proofs.Forwards.{left_at, adds_past}
use Rattle.bow_restore.proofs.forwarding.forward.Given.{Over}
use Rattle.bow_restore.proofs.forwarding.forward.Goals as goal
use Rattle.bow_restore.proofs.forwarding.forward.Goals.{After-give_up}

module _ (g : Over) where
  cuts : (c : After-give_up g) (k : Content) → g.D.Disk.content c.args.disk.now ≡ Some k → AddsCuts g.D.Disk.moment g.D.Disk.left_since (IsForwardCut c.args.geometry k.now) c.args.disk.now c.give_up.new.disk
  cuts c k is = adds_past g.D.Disk.moment g.D.Disk.left_since (IsCrash k.candidates) (IsForwardCut c.args.geometry k.now) c.args.disk.now c.give_up.new.disk (λ t image le crash. g.met.D.Disk.counts_now c.args.disk.now k is t image le crash) (c.give_up.ensures.cuts k is)

pub returns-in-Ok-give_up-clause-cuts : goal.returns-in-Ok-give_up-clause-cuts
returns-in-Ok-give_up-clause-cuts g c k is = cuts g (goal.at.returns-in-Ok-give_up-clause-cuts g c).After-give_up k is

pub returns-in-Ok-give_up-clause-left : goal.returns-in-Ok-give_up-clause-left
returns-in-Ok-give_up-clause-left g c k is = left_at c.args.geometry g.D.Disk.content c.give_up.new.disk k c.in-Ok-give_up.answer (c.in-Ok-give_up.ensures.left k is)

pub returns-clause-cuts : goal.returns-clause-cuts
returns-clause-cuts g c k is = cuts g (goal.at.returns-clause-cuts g c).After-give_up k is
