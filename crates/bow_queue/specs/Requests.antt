-- The requests that wait, with their progress, and what is asked of them.
use Rattle.std.specs.Prelude.{◌≡◌, ◌≢◌, ◌==◌, ℕ, ◌+◌, ◌*◌, ◌<◌, ◌≤◌, Bool, true, false, ◌&&◌, not, if◌then◌else◌, nat_lt}
use Rattle.std.specs.Prelude.{Option, Some, None, unwrap_or, List, [], ◌++◌, take, drop, map, length, filter, find}
use Rattle.std.specs.List.{All, AllPairs, filter_map}
use Rattle.std.specs.Option.{option_map, option_map_or, option_and_then}
use Rattle.bow_units.specs.declared.requests.Op.{Op}
use Rattle.bow_units.specs.declared.requests.Op.TheVariants.{Read, Write, Discard, Flush, Prepare, Commit}
use Rattle.bow_units.specs.declared.sizes.Extent.{Extent}
use Rattle.bow_queue.specs.declared.tickets.Ticket.{Ticket}
use Rattle.bow_queue.specs.declared.requests.Request.{Request}
use Rattle.bow_queue.specs.Extents.{covers, is_on_device, overlaps}

-- the waiting requests in the order in which they were taken in; how many places there are; how many blocks the device
-- has; how many requests were taken in since the queue was opened
pub record Requests : Type 0 where
  pub waiting : List Request
  pub places : ℕ
  pub blocks : ℕ
  pub admitted : ℕ

-- with these requests in place of those that waited
abbrev pub with_waiting : Requests → List Request → Requests
with_waiting requests waiting = record requests { waiting = waiting }

-- the two are one ticket
abbrev pub same_ticket : Ticket → Ticket → Bool
same_ticket one other = one.key == other.key && one.serial == other.serial

-- ----------------------------------------------------------------------------------------------------------------
-- What a request asks for.

-- where a write writes
abbrev pub written : Op → Option Extent
written (Write extent _) = Some extent
written (Read _ _) = None
written (Discard _) = None
written Flush = None
written Prepare = None
written Commit = None

-- it is a prepare or a commit
abbrev pub is_command : Op → Bool
is_command Prepare = true
is_command Commit = true
is_command (Read _ _) = false
is_command (Write _ _) = false
is_command (Discard _) = false
is_command Flush = false

-- the payload of a write, and the buffer of a read
abbrev pub payload_of : Op → List ℕ
payload_of (Read e p) = p
payload_of (Write e p) = p
payload_of (Discard e) = []
payload_of Flush = []
payload_of Prepare = []
payload_of Commit = []

-- the buffer of a read with block i of it read
abbrev pub filled : ℕ → List ℕ → ℕ → List ℕ → List ℕ
filled size buffer i content = take (i * size) buffer ++ content ++ drop ((i + 1) * size) buffer

-- a read with this block of its buffer read
abbrev pub with_read : ℕ → Op → ℕ → List ℕ → Op
with_read size (Read e p) i v = Read e (filled size p i v)
with_read size op i v = op

-- ----------------------------------------------------------------------------------------------------------------
-- One request among those that wait.

-- the request of this ticket
abbrev pub request_of : Ticket → List Request → Option Request
request_of ticket requests = find (λ r. same_ticket r.ticket ticket) requests

-- the request of this ticket, which waits
abbrev pub the_request : Ticket → List Request → Request
the_request ticket requests = unwrap_or (request_of ticket requests) (record { ticket = ticket; op = Flush; done = 0 })

-- all but the request of this ticket
abbrev pub without_request : Ticket → List Request → List Request
without_request ticket requests = filter (λ r. not (same_ticket r.ticket ticket)) requests

-- with this request in the place of the one of its ticket
abbrev pub with_request : Request → List Request → List Request
with_request r requests = map (λ other. if same_ticket other.ticket r.ticket then r else other) requests

-- a request that was just taken in, none of whose blocks is done
abbrev pub fresh_request : Ticket → Op → Request
fresh_request ticket op = record { ticket = ticket; op = op; done = 0 }

-- one block more of it is done
abbrev pub one_done : Request → Request
one_done r = record r { done = r.done + 1 }

-- one block more of it is read, and it is done
abbrev pub one_read : ℕ → Request → List ℕ → Request
one_read size r content = record r { op = with_read size r.op r.done content; done = r.done + 1 }

-- ----------------------------------------------------------------------------------------------------------------
-- The first of those that wait.

-- the ticket of the first request that passes the test, which is that of the smallest serial number
abbrev pub first_ticket : (Request → Bool) → List Request → Option Ticket
first_ticket passes requests = option_map (λ r. r.ticket) (find passes requests)

-- a write that covers the block
abbrev pub writes_block : ℕ → Request → Bool
writes_block block r = option_map_or (λ extent. covers extent block) (written r.op) false

-- a write of a serial number below this one that overlaps the extent
abbrev pub is_earlier_overlap : ℕ → Extent → Request → Bool
is_earlier_overlap serial extent r =
    nat_lt r.ticket.serial serial && option_map_or (overlaps extent) (written r.op) false

-- the first write that covers the block
abbrev pub next_for : ℕ → List Request → Option Ticket
next_for block requests = first_ticket (writes_block block) requests

-- the first write before this serial number that overlaps the extent
abbrev pub first_overlap : ℕ → List Request → Extent → Option Ticket
first_overlap serial requests extent = first_ticket (is_earlier_overlap serial extent) requests

-- what the request of this ticket asks for
abbrev pub op_of : Ticket → List Request → Option Op
op_of ticket requests = option_map (λ r. r.op) (request_of ticket requests)

-- the first write before the ticket's own write that overlaps it
abbrev pub waits_on : Ticket → List Request → Option Ticket
waits_on ticket requests =
    option_and_then (first_overlap ticket.serial requests) (option_and_then written (op_of ticket requests))

-- the first prepare or commit
abbrev pub first_of : List Request → Option Request
first_of requests = find (λ r. is_command r.op) requests

-- where the writes write, of those that a device of so many blocks has all blocks of
abbrev pub open_writes : ℕ → List Request → List Extent
open_writes blocks requests = filter (is_on_device blocks) (filter_map (λ r. written r.op) requests)

-- ----------------------------------------------------------------------------------------------------------------
-- Their order.

-- one was taken in before the other, and they have different places
pub record Precedes (one other : Ticket) : Type 0 where
  pub serials : one.serial < other.serial
  pub keys : one.key ≢ other.key

-- the requests wait by rising serial number in places of their own, each under a serial number that was given out
pub record IsOrderly (requests : Requests) : Type 0 where
  pub apart : AllPairs Precedes (map (λ r. r.ticket) requests.waiting)
  pub given_out : All (λ r. r.ticket.serial < requests.admitted) requests.waiting
  pub fit : length requests.waiting ≤ requests.places
  pub few : requests.places ≤ 16

-- the first request that passes a test has the smallest serial number of all that pass
abbrev pub FirstIsSmallest : Type 0
FirstIsSmallest = (requests : Requests) (passes : Request → Bool) (first : Request) → IsOrderly requests
    → find passes requests.waiting ≡ Some first
    → All (λ r. passes r ≡ true → first.ticket.serial ≤ r.ticket.serial) requests.waiting
