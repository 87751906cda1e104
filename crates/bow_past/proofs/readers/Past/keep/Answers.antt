use Rattle.std.proofs.Common.{arith, ◌<◌, List, Option, Some, length, sym, ap, ◌∙◌, subst}
use Rattle.std.proofs.lemmas.List.{length-map}
use Rattle.std.specs.Prelude.{slice_set}
use Rattle.std.specs.Box.{with_value}
use Rattle.bow_log.specs.Rules.{IsLog}
use Rattle.bow_log.specs.Spelling.{Fields}
use Rattle.bow_past.specs.Inside.{unboxed}
use Rattle.bow_past.specs.Readings.{Reading}
use Rattle.bow_past.proofs.Kept.{each_put, map_put}
use Rattle.bow_past.proofs.readers.Past.keep.Goals as goal

pub invariant_of-self : goal.invariant_of-self
invariant_of-self c =
    let k = c.self.invariant in
    let logs = c.self.inside.logs.items in
    let inside : c.args.sequence < length logs = (let r = c.requires.inside in let e = ap (λ (p : Reading). length p.kept) c.self.view_is in let l = length-map logs unboxed in omega (arith, r, e, l)) in
    record {
      valid = k.valid;
      inside = k.inside;
      are_logs = each_put (IsLog c.self.inside.geometry) logs k.are_logs c.args.sequence (with_value c.args.kept c.args.log) inside (subst (λ (p : Reading). IsLog p.geometry c.args.log) (sym c.self.view_is) c.requires.log);
      of_a_block = k.of_a_block;
      many = k.many;
      with_room = k.with_room;
      one = k.one;
      sized = k.sized;
    }

pub returns : goal.returns
returns c = record {
  kept =
      let i = c.self.inside in
      ap (λ (k : List (Option Fields)). record { geometry = i.geometry; extent = i.extent; kept = k; ended = i.ended.items }) (map_put i.logs.items c.args.sequence (with_value c.args.kept c.args.log))
      ∙ ap (λ (r : Reading). record r { kept = slice_set r.kept c.args.sequence (Some c.args.log) }) c.self.view_is;
}
