-- How the queue's fields are seen.
use Rattle.std.specs.Prelude.{◌≡◌, ℕ, ◌<◌, ◌≤◌, ◌^◌, Bool, Option, Some, List, map, length, unwrap_or}
use Rattle.std.specs.List.{All, AllPairs, Contains}
use Rattle.std.specs.Option.{option_map}
use Rattle.slab.specs.Slab.{Slab, get, slab_len}
use Rattle.bow_units.specs.declared.requests.Op.TheVariants.{Flush}
use Rattle.bow_queue.specs.declared.tickets.Ticket.{Ticket}
use Rattle.bow_queue.specs.declared.requests.Request.{Request}
use Rattle.bow_queue.specs.declared.wanted.Wanted.{Wanted}
use Rattle.bow_queue.specs.declared.wanted.Wanted.TheVariants.{WriteOf, EarlierWrite, Command}
use Rattle.bow_queue.specs.Requests.{Precedes, fresh_request, writes_block, is_earlier_overlap, is_command}

-- the request of a ticket, which lies at the ticket's key
abbrev pub request_at : Slab Request → Ticket → Request
request_at slots ticket = unwrap_or (get slots ticket.key) (fresh_request ticket Flush)

-- the requests of these tickets
abbrev pub requests_at : Slab Request → List Ticket → List Request
requests_at slots tickets = map (request_at slots) tickets

-- the ticket of what lies at a key
abbrev pub ticket_at : Slab Request → ℕ → Option Ticket
ticket_at slots key = option_map (λ r. r.ticket) (get slots key)

-- each of these tickets has its request in the slab
abbrev pub AreStored : Slab Request → List Ticket → Type 0
AreStored slots tickets = All (λ t. ticket_at slots t.key ≡ Some t) tickets

-- what lies at a key has it in its ticket, which is one of these
abbrev pub HoldsNoOther : Slab Request → List Ticket → Type 0
HoldsNoOther slots tickets = (key : ℕ) (t : Ticket) → ticket_at slots key ≡ Some t → (t.key ≡ key) × Contains tickets t

-- each ticket has its request in the slab, which holds no other, and the slab has room for as many as there are places
pub record QueueIsSound (tickets : List Ticket) (slots : Slab Request) (places admitted : ℕ) : Type 0 where
  pub apart : AllPairs Precedes tickets
  pub given_out : All (λ t. t.serial < admitted) tickets
  pub stored : AreStored slots tickets
  pub no_other : HoldsNoOther slots tickets
  pub as_many : slab_len slots ≡ length tickets
  pub fit : length tickets ≤ places
  pub few : places ≤ 16
  pub room : places ≤ slots.capacity
  pub keys_fit : slots.capacity < 2 ^ 32

-- what is looked for is this request
abbrev pub is_wanted : Wanted → Request → Bool
is_wanted (WriteOf block) r = writes_block block r
is_wanted (EarlierWrite extent serial) r = is_earlier_overlap serial extent r
is_wanted Command r = is_command r.op
