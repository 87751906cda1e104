use Rattle.std.proofs.Common.{◌≡◌, ◌≤◌, ◌<◌, ◌*◌, ◌^◌, ℕ, Option, None, Some, refl, arith}
use Rattle.std.specs.Option.{ForSome}
use Rattle.std.proofs.Math.Nat.{mul-le-mul_right}
use Rattle.bow_units.specs.declared.sizes.Geometry.{Geometry}
use Rattle.bow_disk.specs.Disk.{HasBlock}
use Rattle.bow_disk.specs.Files.{HasPlaces}
use Rattle.bow_disk.proofs.files.place.Goals as goal

place_fits : (sizes : Option Geometry) (at size : ℕ) → ForSome sizes HasPlaces → HasBlock sizes at size → at * size < 2 ^ 64
place_fits None at size has within = absurd within
place_fits (Some g) at size has within =
    let same : size ≡ g.block_size = within.1 in
    let le : at * g.block_size ≤ g.blocks * g.block_size = mul-le-mul_right g.block_size (let h : at < g.blocks = within.0 in omega arith) in
    let all : g.blocks * g.block_size < 2 ^ 64 = has g refl in
    rw same (omega arith)

pub overflow_mul-result : goal.overflow_mul-result
overflow_mul-result c = let small = place_fits c.args.sizes c.args.at c.args.size c.requires.has c.requires.within in omega arith
