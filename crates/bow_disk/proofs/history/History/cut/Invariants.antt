use Rattle.std.proofs.Common.{◌≡◌, ℕ, ◌<◌, ◌≤◌, ◌*◌, [], length, get_or, drop}
use Rattle.bow_disk.specs.Bytes.{image_of}
use Rattle.bow_disk.specs.Layout.{changes}
use Rattle.bow_disk.specs.Picking.{taken}
use Rattle.bow_disk.proofs.history.History.cut.Given as goal

abbrev pub invariant-loop-write : goal.invariant-loop-write
invariant-loop-write l = record {
  long : length l.image.items ≡ l.blocks * l.size;
  numbered : length l.numbers.items ≡ l.blocks;
  small : (b : ℕ) → b < l.blocks → get_or l.numbers.items b 0 ≤ l.write;
  rest : (b : ℕ) → b < l.blocks → taken b (get_or l.picks.items b 0) (get_or l.numbers.items b 0) (get_or (image_of l.self-inside.geometry l.image.items) b []) (changes l.size (drop l.write l.self-inside.marks.items) (drop (l.write * l.size) l.self-inside.values.items))
      ≡ taken b (get_or l.picks.items b 0) 0 (get_or (image_of l.self-inside.geometry l.self-inside.first.items) b []) (changes l.size l.self-inside.marks.items l.self-inside.values.items);
}
