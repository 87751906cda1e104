-- Which requests are refused, and when: by the tests at a request's own turn, and by the phase at the commands'.
use Rattle.std.specs.Prelude.{◌≡◌, ◌≢◌, ◌⊎◌, ◌↔◌, ◌+◌, ◌<◌, Some, false}
use Rattle.bow_units.specs.declared.sizes.Geometry.{Geometry}
use Rattle.bow_units.specs.declared.requests.Op.{Op}
use Rattle.bow_units.specs.declared.requests.Op.TheVariants.{Read, Write, Discard, Flush, Prepare, Commit}
use Rattle.bow_units.specs.declared.requests.Outcome.{Outcome}
use Rattle.bow_units.specs.declared.requests.Outcome.TheVariants.{OutOfRange, ReservedMagic, Unsettled, WrongPhase}
use Rattle.bow_units.specs.declared.requests.Phase.{Phase}
use Rattle.bow_units.specs.declared.requests.Phase.TheVariants.{Trim, Arming, Checkpoint, Deciding}
use Rattle.bow_units.specs.Magics.{HasMagic}
use Rattle.bow_machine.specs.Requests.{Request, request_of, first_of}
use Rattle.bow_machine.specs.Memory.{Memory, Empty, has_command}
use Rattle.bow_machine.specs.Steps.{Answered}
use Rattle.bow_machine.specs.declared.turns.Turn.{Turn}
use Rattle.bow_machine.specs.declared.turns.Turn.TheVariants.{Map, Command}
use Rattle.bow_core.specs.declared.turns.Step.{Step as OwnStep}
use Rattle.bow_core.specs.Turns.{told_of}

-- the request reaches beyond the last block
abbrev pub ReachesBeyond : Geometry → Op → Type 0
ReachesBeyond g (Read e payload) = g.blocks < e.first + e.count
ReachesBeyond g (Write e payload) = g.blocks < e.first + e.count
ReachesBeyond g (Discard e) = g.blocks < e.first + e.count
ReachesBeyond g op = ⊥

-- it writes block 0, and its payload begins with a magic
abbrev pub WritesMagic : Op → Type 0
WritesMagic (Write e payload) = (e.first ≡ 0) × HasMagic payload
WritesMagic op = ⊥

-- it is a write, a discard or a flush
abbrev pub Changes : Op → Type 0
Changes (Write e payload) = Unit {0}
Changes (Discard e) = Unit {0}
Changes Flush = Unit {0}
Changes op = ⊥

-- it is a read
abbrev pub IsRead : Op → Type 0
IsRead (Read e payload) = Unit {0}
IsRead op = ⊥

-- The first test that the request fails: of its blocks, of its payload, or, if it changes the device, of the phase.
abbrev pub FailsTest : Geometry → Phase → Op → Outcome → Type 0
FailsTest g phase op OutOfRange = ReachesBeyond g op
FailsTest g phase op ReservedMagic = (ReachesBeyond g op → ⊥) × WritesMagic op
FailsTest g phase op (Unsettled p) = (ReachesBeyond g op → ⊥) × (WritesMagic op → ⊥) × Changes op
    × ((phase ≡ Arming) ⊎ (phase ≡ Deciding)) × (p ≡ phase)
FailsTest g phase op outcome = ⊥

-- the command has no place in this phase
abbrev pub HasNoPlace : Phase → Op → Type 0
HasNoPlace phase Prepare = (phase ≢ Trim) × (phase ≢ Arming)
HasNoPlace phase Commit = (phase ≢ Checkpoint) × (phase ≢ Deciding)
HasNoPlace phase op = ⊥

-- A turn refuses a request so. Its own, where it fails a test; while a command is in hand none but a read has its turn.
-- The commands', with nothing in hand, where the first command that waits has no place. The worker's never.
abbrev pub IsRefused : Geometry → Memory → Turn → Request → Outcome → Type 0
IsRefused g m (Map ticket) r outcome =
    (ticket ≡ r.ticket) × (IsRead r.op ⊎ (has_command m.hand ≡ false)) × FailsTest g m.phase r.op outcome
IsRefused g m Command r (WrongPhase p) =
    (m.hand ≡ Empty) × (first_of m.requests ≡ Some r) × HasNoPlace m.phase r.op × (p ≡ m.phase)
IsRefused g m turn r outcome = ⊥

-- the outcomes that refuse a request
abbrev pub IsRefusal : Outcome → Type 0
IsRefusal OutOfRange = Unit {0}
IsRefusal ReservedMagic = Unit {0}
IsRefusal (Unsettled phase) = Unit {0}
IsRefusal (WrongPhase phase) = Unit {0}
IsRefusal outcome = ⊥

-- A step answers a request that waits with a refusal exactly where its turn refuses it so.
abbrev pub RefusesExactly : Geometry → Memory → Turn → OwnStep → Type 0
RefusesExactly g m turn tells = (r : Request) (outcome : Outcome) → request_of r.ticket m.requests ≡ Some r
    → IsRefusal outcome → (told_of tells ≡ Answered r.ticket r.op outcome) ↔ IsRefused g m turn r outcome
