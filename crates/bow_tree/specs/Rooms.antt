-- Room for the first blocks of a tree: of what lies wholly behind them nothing is kept.
use Rattle.std.specs.Prelude.{◌==◌, ℕ, zero, suc, ◌+◌, ◌*◌, ◌/◌, ◌%◌, ◌≤◌, if◌then◌else◌, length}
use Rattle.bow_tree.specs.Trees.{Store, blocks_of, width_of, room_of}

-- how many parts are kept of trees of this height: of whole ones, and of one for the blocks that are left
abbrev pub rooms_of : (ℕ → ℕ) → ℕ → ℕ → ℕ
rooms_of room height blocks = (blocks / blocks_of height) * room_of height + room (blocks % blocks_of height)

-- how many parts are kept of a tree for its first blocks
abbrev pub room_for : ℕ → ℕ → ℕ
room_for zero blocks = 0
room_for (suc height) blocks =
    if blocks == 0 then 0 else width_of height + rooms_of (room_for height) height blocks

-- how many kinds are kept for so many blocks: whole leaves of sixteen
abbrev pub kinds_for : ℕ → ℕ
kinds_for blocks = (blocks + 15) / 16 * 16

-- a tree of this height has room for its first blocks
pub record HasRoom (height blocks : ℕ) (tree : Store) : Type 0 where
  pub parts : room_for height blocks ≤ length tree.0
  pub kinds : kinds_for blocks ≤ length tree.1

-- trees of this height, one after the other, have room for their first blocks
pub record HaveRoom (height blocks : ℕ) (trees : Store) : Type 0 where
  pub parts : rooms_of (room_for height) height blocks ≤ length trees.0
  pub kinds : kinds_for blocks ≤ length trees.1
