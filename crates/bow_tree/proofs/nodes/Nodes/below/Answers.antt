use Rattle.std.proofs.Common.{ℕ, ◌+◌, ◌*◌, take, drop, sym, ap, ◌∙◌}
use Rattle.std.proofs.lemmas.List.{drop-drop}
use Rattle.bow_tree.specs.Trees.{blocks_of, width_of, room_of, below_root, tree_at}
use Rattle.bow_tree.proofs.Pieces.{both}
use Rattle.bow_tree.proofs.nodes.Nodes.below.Goals as goal

pub returns : goal.returns
returns c =
    let h = c.args.height in
    let place = c.args.place in
    let parts = c.self.inside.parts.now in
    let kinds = c.self.inside.kinds.now in
    let room : ℕ = room_of h in
    let size : ℕ = blocks_of h in
    let first = c.piece.ensures ∙ ap (λ r. take r (drop (c.width_of.result + place * r) parts)) c.parts_of-room.ensures.room
    ∙ ap (λ w. take room (drop (w + place * room) parts)) c.width_of.ensures.width ∙ ap (take room) (sym (drop-drop (place * room) (width_of h) parts)) in
    let second = c.piece-2.ensures ∙ ap (λ n. take n (drop (place * n) kinds)) c.size_of-size.ensures.size in
    both first second ∙ ap (λ s. tree_at h place (below_root h s)) c.self.view_is
