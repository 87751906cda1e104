-- What the reads of a session have read.
use Rattle.std.specs.Prelude.{ℕ, ◌-◌, List, [], slice_get, Option, None, Some}
use Rattle.bow_units.specs.declared.requests.Op.{Op}
use Rattle.bow_units.specs.declared.requests.Op.TheVariants.{Read}
use Rattle.bow_flat.specs.Flat.{block_at}
use Rattle.bow_history.specs.declared.items.Item.{Item}
use Rattle.bow_history.specs.declared.items.Item.TheVariants.{Wrote, Got, Answered}
use Rattle.bow_history.specs.Journal.{Plan, Buffers}
use Rattle.bow_session.specs.Sessions.{Lane, lane_at}

-- what is kept, where the request is answered
abbrev pub bytes_kept : Option (Option (List ℕ)) → Option (List ℕ)
bytes_kept None = None
bytes_kept (Some kept) = kept

-- what stands in the buffer of request n of a lane, if it is an answered read
abbrev pub data_of : List Lane → ℕ → ℕ → Option (List ℕ)
data_of lanes lane n = bytes_kept (slice_get ((lane_at lanes lane).answered) n)

-- what the buffer of a request has of block b, if it is a read
abbrev pub block_read : ℕ → Option Op → List ℕ → ℕ → List ℕ
block_read size (Some (Read e asked)) bytes b = block_at size bytes (b - e.first)
block_read size request bytes b = []

-- what these buffers have of the block of an item that tells of a read
abbrev pub content_in : Plan → Buffers → Item → List ℕ
content_in plan buffer (Got lane n b) = block_read plan.sizes.block_size (plan.request lane n) (buffer lane n) b
content_in plan buffer (Wrote lane n b) = []
content_in plan buffer (Answered lane n outcome) = []

-- the bytes that are given, and no bytes where none are
abbrev pub bytes_given : Option (List ℕ) → List ℕ
bytes_given None = []
bytes_given (Some bytes) = bytes
