use Rattle.std.proofs.Common.{rules, ◌≡◌, ◌≢◌, ◌+◌, ◌-◌, sym, ap, ◌∙◌, refl, arith}
use Rattle.bow_units.specs.declared.statuses.Kind.TheVariants.{Free, Changed}
use Rattle.bow_ranges.specs.Kinds.{with_kind}
use Rattle.bow_ranges.proofs.KindLists.{extent_of, reclaimed_none, other_step, freed_step}
use Rattle.bow_ranges.proofs.table.Ranges.reclaim.Goals as goal

pub pieces-init : goal.pieces-init
pieces-init g c = record {
  reclaimed = reclaimed_none (g.Self.Ranges.kinds c.args.self.now) c.args.extent.first (c.args.extent.first - c.args.extent.first) c.args.but.now (omega arith);
  order = omega arith;
  place = refl;
  blocks = refl;
}

pub pieces-preserved-then-ne : goal.pieces-preserved-then-ne
pieces-preserved-then-ne g c =
    let other : c.kind.result ≢ Changed = search rules in
    let limit = c.min-limit.ensures in
    record {
      reclaimed = other_step (g.Self.Ranges.kinds c.args.self.now) (g.Self.Ranges.kinds c.pieces.self) c.args.but.now c.args.extent.first (c.pieces.at - c.args.extent.first) (c.pieces.at + c.piece_of-piece.result.count)
          c.pieces.invariant.reclaimed (omega (arith, c.pieces.invariant.order))
          (λ b low high e. other (c.kind.ensures ∙ sym (c.run-run.ensures.run.alike b (omega (arith, low, c.pieces.invariant.order, c.run-run.ensures.run.from)) (omega (arith, high, limit, c.piece_of-piece.ensures.most, c.run-run.ensures.run.to))) ∙ e));
      order = omega (arith, c.pieces.invariant.order);
      place = omega (arith, c.pieces.invariant.place, c.piece_of-piece.ensures.most, limit);
      blocks = c.pieces.invariant.blocks;
    }

pub pieces-preserved : goal.pieces-preserved
pieces-preserved g c =
    let same : c.kind.result ≡ Changed = search rules in
    let limit = c.min-limit.ensures in
    let first = c.args.extent.first in
    let more = c.pieces.at + c.piece_of-piece.result.count in
    let from : c.pieces.at ≡ first + (c.pieces.at - first) = omega (arith, c.pieces.invariant.order) in
    let count : c.piece_of-piece.result.count ≡ more - (first + (c.pieces.at - first)) = omega (arith, c.pieces.invariant.order) in
    let now = g.Self.Ranges.kinds c.pieces.self in
    record {
      reclaimed = freed_step (g.Self.Ranges.kinds c.args.self.now) (g.Self.Ranges.kinds c.pieces.self) (g.Self.Ranges.kinds c.set.new.self) c.args.but.now c.args.extent.first (c.pieces.at - c.args.extent.first) (c.pieces.at + c.piece_of-piece.result.count)
          c.pieces.invariant.reclaimed (omega (arith, c.pieces.invariant.order)) (omega (arith, limit, c.piece_of-piece.ensures.most, c.run-run.ensures.run.inside, c.run-run.ensures.run.to))
          (λ b low high. c.run-run.ensures.run.alike b (omega (arith, low, c.pieces.invariant.order, c.run-run.ensures.run.from)) (omega (arith, high, limit, c.piece_of-piece.ensures.most, c.run-run.ensures.run.to)) ∙ sym c.kind.ensures ∙ same)
          (λ b low high. c.piece_of-piece.ensures.alike b (omega (arith, low, c.pieces.invariant.order)) high ∙ c.if-piece.false)
          (c.set.ensures.set ∙ ap (λ a. with_kind now (extent_of a c.piece_of-piece.result.count) Free) from ∙ ap (λ m. with_kind now (extent_of (first + (c.pieces.at - first)) m) Free) count);
      order = omega (arith, c.pieces.invariant.order);
      place = omega (arith, c.pieces.invariant.place, c.piece_of-piece.ensures.most, limit);
      blocks = c.set.ensures.blocks ∙ c.pieces.invariant.blocks;
    }
