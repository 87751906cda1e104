use Rattle.std.proofs.Common.{◌≡◌, ◌<◌, ◌^◌, ◌∷◌, ◌++◌, [], List, take, get_or, sym, ap, ap₂, ◌∙◌, subst, arith}
use Rattle.std.specs.List.{AllByRecursion as Each}
use Rattle.std.proofs.lemmas.List.{take_more}
use Rattle.bow_log.specs.declared.entries.Entry.{Entry}
use Rattle.bow_log.specs.Spelling.{Fields}
use Rattle.bow_restore.proofs.Logs.{cut_is_log, sums_push, sums_in_blocks}
use Rattle.bow_restore.proofs.marks.cut_to.Goals as goal

pub loop-index-preserved : goal.loop-index-preserved
loop-index-preserved c =
    let items : c.push.new.self.items ≡ c.loop-index.entries.items ++ c.same_entry.result ∷ [] = c.push.ensures.items in
    let same : c.deref.result.now ≡ c.args.log.now.entries = c.deref.ensures.0 ∙ ap (λ (l : Fields). l.entries) c.log.view_is in
    let here = take_more c.args.log.now.entries c.loop-index.index (record { source = 0; dest = 0; size = 0; sum = 0 }) (omega arith) in
    record {
      items = items ∙ ap₂ (λ (es : List Entry) (e : Entry). es ++ e ∷ []) c.loop-index.invariant.items (c.same_entry.ensures.same ∙ ap (λ (es : List Entry). get_or es c.loop-index.index (record { source = 0; dest = 0; size = 0; sum = 0 })) same) ∙ sym here;
      sums = subst (Each (λ (e : Entry). e.sum < 2 ^ 32)) (sym items) (sums_push c.loop-index.entries.items c.same_entry.result c.loop-index.invariant.sums c.same_entry.ensures.sum);
    }

pub returns-clause-log : goal.returns-clause-log
returns-clause-log c =
    let all : c.loop-index.entries.items ≡ take c.args.count c.args.log.now.entries = c.loop-index.invariant.items ∙ ap (λ n. take n c.args.log.now.entries) (omega arith) in
    cut_is_log c.args.geometry c.args.log.now c.args.count c.log.inside.block_size c.bounded.result c.log.inside.sector0 c.loop-index.entries.items c.requires.log c.requires.some c.requires.within
    (ap (λ (l : Fields). l.block_size) c.log.view_is) (ap (λ (l : Fields). l.sector0) c.log.view_is) all

pub returns-clause-fits : goal.returns-clause-fits
returns-clause-fits c = record {
  sequence = c.bounded.ensures.bound;
  sums = sums_in_blocks c.args.geometry c.loop-index.entries.items c.loop-index.invariant.sums;
}
