-- How a cut is taken, write after write.
use Rattle.std.specs.Prelude.{ℕ, ◌+◌, ◌*◌, ◌==◌, ◌&&◌, if◌then◌else◌, is_some, List, [], ◌∷◌, ◌++◌, length, take, drop, slice_set, slice_index_or, Option}
use Rattle.bow_disk.specs.declared.cuts.Pick.{Pick}
use Rattle.bow_disk.specs.declared.cuts.Pick.TheVariants as pick
use Rattle.bow_disk.specs.declared.cuts.Picker.{Picker}
use Rattle.bow_disk.specs.declared.cuts.Picker.TheVariants.{Oldest, Newest, Seeded}
use Rattle.bow_disk.specs.declared.history.Mark.{Mark}
use Rattle.bow_disk.specs.Disk.{offered}
use Rattle.bow_disk.specs.Memory.{Change, alone}

-- the pick that goes on from here
abbrev pub pick_of : Picker → Pick
pick_of Oldest = pick.Oldest
pick_of Newest = pick.Newest
pick_of (Seeded number) = pick.Seeded number

-- what a write makes of the candidates: one that was flushed leaves no other of its block
abbrev pub with_change : List (List (List ℕ)) → Change → List (List (List ℕ))
with_change cs w = if is_some w.flushed then slice_set cs w.block (w.value ∷ []) else offered cs w.block w.value

-- what the writes make of them
abbrev pub with_changes : List (List (List ℕ)) → List Change → List (List (List ℕ))
with_changes cs [] = cs
with_changes cs (w ∷ ws) = with_changes (with_change cs w) ws

-- the candidates of each block of an image, after these writes
abbrev pub candidates_after : List (List ℕ) → List Change → List (List (List ℕ))
candidates_after first writes = with_changes (alone first) writes

-- the number of the candidate that a write makes, after that of number k: the first where it was flushed, else the next
abbrev pub next_number : Option ℕ → ℕ → ℕ
next_number flushed k = if is_some flushed then 0 else k + 1

-- the number of the last candidate of block b after these writes, where it was k
abbrev pub last_number : ℕ → ℕ → List Mark → ℕ
last_number b k [] = k
last_number b k (m ∷ ms) = last_number b (if m.block == b then next_number m.flushed k else k) ms

-- the bytes with those of a block written over, where its candidate is the one that is picked
abbrev pub with_picked : ℕ → ℕ → ℕ → List ℕ → List ℕ → List ℕ
with_picked wanted number b v bytes =
    if number == wanted then take (b * length v) bytes ++ (v ++ drop (b * length v + length v) bytes) else bytes

-- what a cut takes of block b, where candidate `wanted` is picked, candidate k was the last, and x is taken so far
abbrev pub taken : ℕ → ℕ → ℕ → List ℕ → List Change → List ℕ
taken b wanted k x [] = x
taken b wanted k x (w ∷ ws) =
    taken b wanted (if w.block == b then next_number w.flushed k else k)
    (if w.block == b && next_number w.flushed k == wanted then w.value else x) ws

-- what the writes make of the candidates of a block
abbrev pub at_block : ℕ → List (List ℕ) → List Change → List (List ℕ)
at_block b c [] = c
at_block b c (w ∷ ws) =
    at_block b (if w.block == b then (if is_some w.flushed then w.value ∷ [] else c ++ w.value ∷ []) else c) ws

-- the candidates of a block of an image, after these writes
abbrev pub block_candidates : ℕ → List (List ℕ) → List Change → List (List ℕ)
block_candidates b first writes = at_block b (slice_index_or first b [] ∷ []) writes
