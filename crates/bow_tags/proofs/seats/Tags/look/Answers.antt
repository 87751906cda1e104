use Rattle.std.proofs.Common.{ℕ, ◌<◌, sym, ap, ◌∙◌, subst}
use Rattle.bow_tags.proofs.Keeps.{look_allowed}
use Rattle.bow_tags.proofs.seats.Tags.look.Goals as goal

pub load-found-requires : goal.load-found-requires
load-found-requires g c =
    let own = ap (λ z. z.table) c.seat.view_is ∙ (c.requires.own ∙ sym c.self.view_is) in
    let near = subst (λ z. c.args.lane < z.slots) (sym c.self.view_is) c.requires.lane in (
      own,
      subst (λ (z : ℕ). c.args.lane < z) (sym c.self.invariant.0) near,
      look_allowed g.P.Fits.fits c.self.inside.table.shared.table_id.slots c.seat.inside.seat.id c.args.lane c.seat.inside.seat.me near,
    )
