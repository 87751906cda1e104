use Rattle.std.proofs.Common.{◌≡◌, ◌*◌, List, [], take, get_or, subst, arith}
use Rattle.std.proofs.lemmas.List.{take_all}
use Rattle.bow_units.specs.declared.statuses.Kind.{Kind}
use Rattle.bow_tree.specs.Rows.{flat}
use Rattle.bow_tree.specs.Parts.{IsKnown}
use Rattle.bow_tree.proofs.Pieces.{rows_length, row_read, take_known}
use Rattle.bow_tree.proofs.nodes.known_of.Goals as goal

pub joined-known-requires-clause-low : goal.joined-known-requires-clause-low
joined-known-requires-clause-low c = (flat (take c.loop-place.place c.requires.known.0), c.loop-place.invariant c.requires.known.0 c.requires.known.1)

pub joined-known-requires-clause-high : goal.joined-known-requires-clause-high
joined-known-requires-clause-high c = (get_or c.requires.known.0 c.loop-place.place [], row_read c.args.size c.requires.known.0 c.args.node.now c.loop-place.place c.part.result c.part.ensures c.requires.known.1 (omega arith))

pub loop-place-preserved : goal.loop-place-preserved
loop-place-preserved c = λ rows known.
    take_known c.args.size c.loop-place.place rows c.args.node.now c.joined-known.result known (omega arith)
    (c.joined-known.ensures (flat (take c.loop-place.place rows)) (get_or rows c.loop-place.place []) (c.loop-place.invariant rows known) (row_read c.args.size rows c.args.node.now c.loop-place.place c.part.result c.part.ensures known (omega arith)))

pub returns : goal.returns
returns c = λ rows known.
    let all : c.loop-place.place ≡ 16 = omega arith in
    let sized = rows_length c.args.size rows c.args.node.now known in
    subst (λ (l : List (List Kind)). IsKnown (16 * c.args.size) (flat l) c.loop-place.known) (take_all 16 rows (omega (arith, sized, c.requires.width)))
    (subst (λ n. IsKnown (n * c.args.size) (flat (take n rows)) c.loop-place.known) all (c.loop-place.invariant rows known))
