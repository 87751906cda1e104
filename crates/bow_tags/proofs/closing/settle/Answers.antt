use Rattle.std.proofs.Common.{subst, sym, ◌<◌, ℕ}
use Rattle.bow_tags.proofs.Keeps.{settle_allowed}
use Rattle.bow_tags.proofs.closing.settle.Goals as goal

pub load-requires : goal.load-requires
load-requires g c = (
  c.requires.own.0,
  subst (λ (z : ℕ). 0 < z) (sym c.requires.own.2) c.requires.own.1,
  settle_allowed g.P.Fits.fits c.args.table.now.shared.table_id.slots c.args.seat.now.id 0 c.args.seat.now.me c.requires.own.1,
)
