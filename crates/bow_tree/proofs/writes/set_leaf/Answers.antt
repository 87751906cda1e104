use Rattle.std.proofs.Common.{◌≡◌, ◌==◌, true, false, cond, List, [], length, map, take, replicate, sym, ap, ◌∙◌, subst, arith}
use Rattle.std.proofs.lemmas.List.{take_at}
use Rattle.bow_units.specs.declared.statuses.Kind.{Kind}
use Rattle.bow_tree.specs.Rows.{put, flat}
use Rattle.bow_tree.specs.Parts.{lone, IsKnown}
use Rattle.bow_tree.specs.Trees.{rows_of, kinds_in, leaf_kinds}
use Rattle.bow_tree.proofs.Pieces.{level, apart}
use Rattle.bow_tree.proofs.Puts.{put_all}
use Rattle.bow_tree.proofs.Descents.{rows_known}
use Rattle.bow_tree.proofs.Changes.{leaf_rows, leaf_trees}
use Rattle.bow_tree.proofs.writes.set_leaf.Goals.{then-known, else-known}
use Rattle.bow_tree.proofs.writes.set_leaf.Goals as goal

pub known_of-requires-clause-known : goal.known_of-requires-clause-known
known_of-requires-clause-known c =
    let kinds = c.put-2.new.kinds in
    (rows_of (kinds_in 0) 0 (map lone kinds) ([], []), rw c.of_kinds.ensures (rows_known 0 (map lone kinds) ([], []) (leaf_trees kinds ([], []))))

pub returns-clause-known : goal.returns-clause-known
returns-clause-known c =
    let kinds = c.put-2.new.kinds in
    let sized : length kinds ≡ 16 = c.put-2.auto.kinds ∙ c.if-known.auto.leaf ∙ c.split_at_mut-leaf.ensures.front_len in
    let rows = rows_of (kinds_in 0) 0 (map lone kinds) ([], []) in
    let known = rw c.of_kinds.ensures at c.known_of.ensures in
    let k : IsKnown 16 (flat rows) c.known_of.result = known rows (rows_known 0 (map lone kinds) ([], []) (leaf_trees kinds ([], []))) in
    subst (λ (l : List Kind). IsKnown 16 l c.known_of.result) (leaf_rows kinds ([], []) ∙ sym (take_at kinds c.split_at_mut-leaf.result.1.now 16 sized)) k

pub returns-clause-put : goal.returns-clause-put
returns-clause-put c =
    let kinds = c.put-2.new.kinds in
    let all = c.args.kinds.now in
    let first = c.args.known.first in
    let sized : length kinds ≡ 16 = c.put-2.auto.kinds ∙ c.if-known.auto.leaf ∙ c.split_at_mut-leaf.ensures.front_len in
    let before : c.if-known.leaf ≡ leaf_kinds c.args.known all = elim c.if-known.branch [
      | then-known w ↦
          let whole : (first.count == 16) ≡ true = level first.count 16 w.if-known.true in
          w.leaf-is ∙ w.put.ensures ∙ put_all 16 first.kind c.split_at_mut-leaf.result.0.now (omega (arith, c.split_at_mut-leaf.ensures.front_len))
          ∙ ap (λ n. replicate n first.kind) c.split_at_mut-leaf.ensures.front_len ∙ sym (ap (λ b. cond b (replicate 16 first.kind) (take 16 all)) whole)
      | else-known w ↦
          let part : (first.count == 16) ≡ false = apart first.count 16 w.if-known.false in
          w.leaf-is ∙ c.split_at_mut-leaf.ensures.front ∙ sym (ap (λ b. cond b (replicate 16 first.kind) (take 16 all)) part)
    ] in
    take_at kinds c.split_at_mut-leaf.result.1.now 16 sized ∙ c.put-2.ensures ∙ ap (put c.args.from c.args.to c.args.kind) before
