-- Where backups put the content of each block.
use Rattle.std.specs.Prelude.{ℕ, ◌+◌, ◌-◌, ◌<◌, ◌≤◌, ◌&&◌, nat_le, nat_lt, if◌then◌else◌, List, [], ◌∷◌}
use Rattle.bow_log.specs.Generations.{Backup, Generation}

-- where a backup puts the content of this block: a block of its source goes to its dest, every other block stays
unfoldable pub hop : Backup → ℕ → ℕ
hop b x = if nat_le b.source x && nat_lt x (b.source + b.count) then b.dest + (x - b.source) else x

-- where the backups of one log, the oldest first, put it
abbrev pub pass : List Backup → ℕ → ℕ
pass [] x = x
pass (b ∷ bs) x = pass bs (hop b x)

-- where a chain's logs, the newest first, put it: where the content that the block had at the checkpoint lies now
abbrev pub base : List Generation → ℕ → ℕ
base [] x = x
base (log ∷ older) x = pass log.entries (base older x)

-- a block that a backup copied
pub record InSource (b : Backup) (x : ℕ) : Type 0 where
  pub above : b.source ≤ x
  pub below : x < b.source + b.count

-- a block to which a backup was put
pub record InDest (b : Backup) (x : ℕ) : Type 0 where
  pub above : b.dest ≤ x
  pub below : x < b.dest + b.count
