use Rattle.std.proofs.Common.{ℕ, List, [], ◌∷◌, take, refl, subst, sym, arith}
use Rattle.bow_tags.specs.Rule.{Rule, whole}
use Rattle.bow_tags.proofs.Start.{starts, took, zeros}
use Rattle.atomic_table.specs.Table.{opening}
use Rattle.bow_tags.proofs.opening.made.Goals as goal

pub new-requires : goal.new-requires
new-requires g c = let zeros16 : List ℕ = 0 ∷ 0 ∷ 0 ∷ 0 ∷ 0 ∷ 0 ∷ 0 ∷ 0 ∷ 0 ∷ 0 ∷ 0 ∷ 0 ∷ 0 ∷ 0 ∷ 0 ∷ 0 ∷ [] in subst (λ xs. Rule g.P.Fits.fits (opening (take c.args.opening.lanes zeros16) xs (whole c.args.opening))) (sym c.in_ok-slots.ensures)
    (starts g.row.P.Denot g.row.Q.Denot g.P.Fits.fits (take c.args.opening.lanes zeros16) c.args.opening (took c.args.opening.lanes zeros16 (let h = c.requires.1 in omega arith)) (λ i near. zeros c.args.opening.lanes zeros16 (refl, (refl, (refl, (refl, (refl, (refl, (refl, (refl, (refl, (refl, (refl, (refl, (refl, (refl, (refl, (refl, tt)))))))))))))))) i))
