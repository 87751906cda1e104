use Rattle.std.proofs.Common.{List, None, sym, ap, ◌∙◌}
use Rattle.bow_units.specs.declared.sizes.Extent.{Extent}
use Rattle.bow_units.specs.declared.statuses.Kind.{Kind}
use Rattle.bow_ranges.specs.declared.runs.Run.{Run}
use Rattle.bow_ranges.specs.Picks.{picked, picked_of}
use Rattle.bow_ranges.specs.Runs.{free_parts}
use Rattle.bow_ranges.proofs.RunPicks.{parts_are}
use Rattle.bow_ranges.proofs.list.RangeListRanges.pick.Goals as goal

pub returns : goal.returns
returns c =
    c.pick_from.ensures ∙ ap (λ (l : List Run). picked_of (free_parts 0 l) c.args.want) c.deref.ensures.value
    ∙ ap (λ (l : List Extent). picked_of l c.args.want) (sym (parts_are 0 None c.self.inside.runs.items c.self.invariant.normal))
    ∙ ap (λ (l : List Kind). picked l c.args.want) c.self.view_is
