use Rattle.std.proofs.Common.{◌++◌, List, Option, None, map, replicate, ap, ◌∙◌}
use Rattle.bow_log.specs.Rules.{IsLog}
use Rattle.bow_log.specs.Spelling.{Fields}
use Rattle.bow_past.specs.Inside.{unboxed}
use Rattle.bow_past.specs.Readings.{Reading}
use Rattle.bow_past.proofs.Kept.{grown_logs, map_grown, on_ok}
use Rattle.bow_past.proofs.readers.Past.make_place.Goals as goal

pub invariant_of-self : goal.invariant_of-self
invariant_of-self c =
    let k = c.self.invariant in
    record {
      valid = k.valid;
      inside = k.inside;
      are_logs = grown_logs (IsLog c.self.inside.geometry) c.self.inside.logs.items c.make_places.new.logs.items c.make_places.result k.are_logs c.make_places.ensures.grown c.make_places.ensures.kept;
      of_a_block = k.of_a_block;
      many = k.many;
      with_room = k.with_room;
      one = k.one;
      sized = k.sized;
    }

pub returns-clause-grown : goal.returns-clause-grown
returns-clause-grown c =
    let i = c.self.inside in
    on_ok c.make_places.result
    (λ k. (
      k.0,
      ap (λ l. record { geometry = i.geometry; extent = i.extent; kept = map unboxed l; ended = i.ended.items }) k.1
          ∙ ap (λ (l : List (Option Fields)). record { geometry = i.geometry; extent = i.extent; kept = l; ended = i.ended.items }) (map_grown i.logs.items k.0)
          ∙ ap (λ (r : Reading). record r { kept = r.kept ++ replicate k.0 None }) c.self.view_is,
    ))
    c.make_places.ensures.grown
