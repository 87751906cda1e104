-- What the callers of a desk have done, once it is closed.
use Rattle.std.specs.Prelude.{◌≡◌, ◌⊎◌, ℕ, suc, ◌+◌, ◌<◌, ◌≤◌, List, [], length, map, slice_get, slice_index_or, Option, Some}
use Rattle.std.specs.List.{sum_by}
use Rattle.bow_units.specs.declared.sizes.Geometry.{Geometry}
use Rattle.bow_units.specs.declared.requests.Op.{Op}
use Rattle.bow_disk.specs.Disk.{Content, IsCrash}
use Rattle.bow_chain.specs.Contents.{Contents, contents_of}
use Rattle.bow_flat.specs.Flat.{Flat}
use Rattle.bow_guard.specs.Standing.{StandsFor}
use Rattle.bow_core.specs.Further.{LedIn}
use Rattle.bow_core.specs.Standing.{StandsIn}
use Rattle.bow_core.specs.Views.{View}
use Rattle.bow_history.specs.Complete.{AreInOrder}
use Rattle.bow_history.specs.Cuts.{IsOnTheWayBy}
use Rattle.bow_history.specs.DiskCuts.{StandsAheadToo}
use Rattle.bow_history.specs.Histories.{moments_of}
use Rattle.bow_history.specs.Journal.{Plan, Buffers, Place, beginning, Legal}
use Rattle.bow_history.specs.Promises.{IsSession, faults_in, held}
use Rattle.bow_history.specs.Sessions.{Turned}
use Rattle.bow_history.specs.declared.items.Item.{Item}
use Rattle.bow_session.specs.Leads.{BeginsAt, StaysBelow}
use Rattle.bow_session.specs.Runs.{begun_over}
use Rattle.bow_tags.specs.declared.view.Entry.{Entry}
use Rattle.bow_receipts.specs.declared.asks.Answer.{Answer}
use Rattle.bow_receipts.specs.declared.asks.Call.{Call}
use Rattle.bow_receipts.specs.Asking.{Asked, asked_of, given_of, plan_of}
use Rattle.bow_receipts.specs.Calls.{AreCalls}
use Rattle.bow_receipts.specs.Passes.{Caller}
use Rattle.bow_receipts.specs.Served.{HaveBlocksRead, IsFrontOf, answered_of, entry_of, view_under}

-- what these calls asked: of each caller its ops, in order
abbrev pub asked_by : ℕ → List (Entry Op Answer) → Asked
asked_by callers calls = asked_of callers calls []

-- the plan of these calls
abbrev pub plan_by : Geometry → ℕ → List (Entry Op Answer) → Plan
plan_by g callers calls = plan_of g (asked_by callers calls)

-- the buffers begin with the bytes that these calls were given
abbrev pub HoldsReads : List (Entry Op Answer) → Buffers → Type 0
HoldsReads calls buffer = (i : ℕ) (x : Entry Op Answer) → slice_get calls i ≡ Some x
    → IsFrontOf x.answer.bytes (buffer x.lane x.number)

-- the moment of each item on the clock of the disk: its count of calls right after the turn that made the item
abbrev pub moments_in : {D : Type 0} → (D → ℕ) → Plan → View D → List Turned → List ℕ
moments_in moment plan first turns = moments_of plan (begun_over first) (moment first.disk) turns

-- Where these calls lead from a state: the journal is legal, with their ops as its requests and their bytes as the
-- contents of what was read, to a place for whose state the device then stands. Each crash image is said of by that
-- state. What a cut left since the opening is said of by a state midway of a place on the way of the journal, and what
-- it left since an earlier moment too, where it was not left before the opening. What it left since the moment of an
-- item is said of by a state midway of such a place that has the item behind it.
pub record CallsLead {D : Type 0} (content : D → Option Content) (moment : D → ℕ) (left : D → ℕ → List (List ℕ)
    → Type 0) (says : Flat → Contents → Type 0) (plan : Plan) (first : View D) (f : Flat) (core : View D)
    (turns : List Turned) (journal : List Item) (calls : List (Entry Op Answer)) : Type 0 where
  pub place : Place
  pub legal : (buffer : Buffers) → HoldsReads calls buffer → Legal plan buffer journal (beginning f) place
  pub stands : StandsIn content core place.flat
  pub end : (c : Content) → content core.disk ≡ Some c → (image : List (List ℕ)) → IsCrash c.candidates image
      → says place.flat (contents_of image)
  pub ever : (buffer : Buffers) → HoldsReads calls buffer → (since : ℕ) (image : List (List ℕ))
      → moment first.disk ≤ since → left core.disk since image
      → IsOnTheWayBy says plan buffer journal (beginning f) place 0 (contents_of image)
  pub early : (buffer : Buffers) → HoldsReads calls buffer → (since : ℕ) (image : List (List ℕ))
      → since ≤ moment first.disk → left core.disk since image → left first.disk since image
      ⊎ IsOnTheWayBy says plan buffer journal (beginning f) place 0 (contents_of image)
  pub item : (buffer : Buffers) → HoldsReads calls buffer → (i : ℕ) (image : List (List ℕ)) → i < length journal
      → left core.disk (slice_index_or (moments_in moment plan first turns) i 0) image
      → IsOnTheWayBy says plan buffer journal (beginning f) place (suc i) (contents_of image)

-- The calls are those of the journal, each at its place, and of each caller they are exactly those that its pass made,
-- each once, in its order, with the op that it handed over and the answer that it was given; each answer has the bytes
-- of the blocks that were read, as many as its outcome says. Since the device with which the desk was set up no request
-- was left, what was done is a session of these calls, faults are counted, and the calls lead from each state with
-- which it began; where no call on the disk failed, ahead too.
pub record IsClosed {D : Type 0} (content : D → Option Content) (moment : D → ℕ) (left : D → ℕ → List (List ℕ)
    → Type 0) (faults : D → ℕ) (g : Geometry) (callers : ℕ) (begins : View D → Type 0) (passes : List Caller)
    (core : View D) (journal : List Item) (calls : List (Entry Op Answer)) : Type 0 where
  pub first : View D
  pub is : begins first
  pub turns : List Turned
  pub moments : List ℕ
  pub session : IsSession (view_under content faults first core turns journal moments (plan_by g callers calls))
  pub of_journal : AreCalls journal calls
  pub own : (i : ℕ) (p : Caller) → slice_get passes i ≡ Some p → given_of i calls ≡ p.got
  pub order : AreInOrder (λ caller. 0) journal (answered_of calls)
  pub blocks : HaveBlocksRead g.block_size calls
  pub sizes : core.geometry ≡ g
  pub idle : core.memory.requests ≡ []
  pub counted : held (faults first.disk + sum_by faults_in journal) ≤ faults core.disk
  pub leads : (f : Flat) → BeginsAt content (plan_by g callers calls) first f
      → CallsLead content moment left (StandsFor g) (plan_by g callers calls) first f core turns journal
      calls
  pub ahead : (f : Flat) → BeginsAt content (plan_by g callers calls) first f → LedIn content first f
      → StaysBelow (faults first.disk) (faults core.disk)
      → CallsLead content moment left (StandsAheadToo g) (plan_by g callers calls) first f core turns journal
      calls

-- the calls as entries of the tags
abbrev pub entries_of : List Call → List (Entry Op Answer)
entries_of calls = map entry_of calls
