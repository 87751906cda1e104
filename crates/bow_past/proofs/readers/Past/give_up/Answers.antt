use Rattle.std.proofs.Common.{arith, ℕ, ◌≡◌, ◌+◌, ◌++◌, ◌∷◌, [], List, Option, Some, length, length-append, map, take, sym, ap, ◌∙◌, subst}
use Rattle.std.specs.Prelude.{slice_get}
use Rattle.std.specs.List.{AllByRecursion as Each}
use Rattle.bow_log.specs.Rules.{IsLog}
use Rattle.bow_log.specs.Spelling.{Fields}
use Rattle.bow_past.specs.Inside.{IsOfBlock, unboxed}
use Rattle.bow_past.specs.Readings.{Reading}
use Rattle.bow_past.specs.declared.ended.Ended.{Ended}
use Rattle.bow_past.proofs.Kept.{each_front, each_taken, map_taken, sized_push}
use Rattle.bow_past.proofs.readers.Past.give_up.Goals as goal

pub invariant_of-self : goal.invariant_of-self
invariant_of-self c =
    let k = c.self.invariant in
    let i = c.self.inside in
    let size = i.geometry.block_size in
    let popped = c.pop.ensures.items in
    let less : length c.pop.new.self.items + 1 ≡ length i.buffers.items = (let len = c.pop.ensures.len in let left = c.requires.left in let e = ap (λ (p : Reading). length p.ended) c.self.view_is in let n = ap (λ (p : Reading). p.extent.count) c.self.view_is in let many = k.many in let cases = c.pop.ensures.cases in grind (arith, len, left, e, n, many, cases)) in
    let more : length c.push_ended.new.all.items ≡ length i.ended.items + 1 = ap (λ (l : List Ended). length l) c.push_ended.ensures.items ∙ length-append i.ended.items (c.args.ended ∷ []) in
    record {
      valid = k.valid;
      inside = k.inside;
      are_logs = subst (λ l. (n : ℕ) (log : Fields) → slice_get (map unboxed l) n ≡ Some (Some log) → IsLog i.geometry log) (sym c.truncate.ensures.items) (each_taken (IsLog i.geometry) i.logs.items k.are_logs c.args.places);
      of_a_block = each_front (λ bytes. length bytes ≡ size) c.pop.new.self.items _ (subst (Each (λ bytes. length bytes ≡ size)) popped k.of_a_block);
      many = (let m = k.many in omega (arith, less, more, m));
      with_room = (let m = k.with_room in let r = c.push_ended.ensures.room in omega (arith, less, more, m, r));
      one = k.one;
      sized = subst (λ l. (n : ℕ) (e : Ended) → slice_get l n ≡ Some e → IsOfBlock size e) (sym c.push_ended.ensures.items) (sized_push size i.ended.items c.args.ended k.sized (subst (λ (p : Reading). IsOfBlock p.geometry.block_size c.args.ended) (sym c.self.view_is) c.requires.sized));
    }

pub returns-clause-ended : goal.returns-clause-ended
returns-clause-ended c =
    let i = c.self.inside in
    ap (λ l. record { geometry = i.geometry; extent = i.extent; kept = map unboxed l; ended = c.push_ended.new.all.items }) c.truncate.ensures.items
    ∙ ap (λ (l : List Ended). record { geometry = i.geometry; extent = i.extent; kept = map unboxed (take c.args.places i.logs.items); ended = l }) c.push_ended.ensures.items
    ∙ ap (λ (l : List (Option Fields)). record { geometry = i.geometry; extent = i.extent; kept = l; ended = i.ended.items ++ c.args.ended ∷ [] }) (map_taken i.logs.items c.args.places)
    ∙ ap (λ (r : Reading). record r { kept = take c.args.places r.kept; ended = r.ended ++ c.args.ended ∷ [] }) c.self.view_is
