-- What lies under the lock serves its callers still, of what a call, a look or a step changes.
use Rattle.std.proofs.Common.{◌≡◌, ℕ, ◌+◌, ◌≤◌, List, Option, Some, ◌∙◌, arith}
use Rattle.std.specs.Prelude.{vec_capacity}
use Rattle.atomic_table.specs.Seated.{TableId}
use Rattle.bow_units.specs.declared.sizes.Geometry.{Geometry}
use Rattle.bow_units.specs.declared.requests.Op.{Op}
use Rattle.bow_disk.specs.Disk.{Content}
use Rattle.bow_core.specs.Views.{View}
use Rattle.bow_history.specs.declared.items.Item.{Item}
use Rattle.bow_history.specs.Ends.{over_lanes}
use Rattle.bow_tags.specs.declared.view.View.{View as SeatView}
use Rattle.bow_receipts.specs.declared.asks.Answer.{Answer}
use Rattle.bow_receipts.specs.declared.asks.Call.{Call}
use Rattle.bow_receipts.specs.declared.hands.Hand.{Hand}
use Rattle.bow_receipts.specs.declared.service.Service.{Service}
use Rattle.bow_receipts.specs.Asking.{asked_of}
use Rattle.bow_receipts.specs.Calls.{AreCalls}
use Rattle.bow_receipts.specs.Served.{IsKept, IsServed, Serves, count_of}

-- the looks of a seat are no part of what is kept, nor is more of the journal than its calls
pub kept_still : (g : Geometry) (lanes : ℕ) (allowed : ℕ → ℕ) (seat : SeatView Op Answer) (hands : List (Option Hand)) (journal : List Item) (calls : List Call) → IsKept g lanes allowed seat hands journal calls
    → (n lane word : ℕ) (next : List Item) → AreCalls next seat.given → IsKept g lanes allowed (record seat { looks = n; at = lane; found = word }) hands next calls
kept_still g lanes allowed seat hands journal calls kept n lane word next are = record {
  seats = kept.seats;
  speaks = kept.speaks;
  servers = kept.servers;
  size = kept.size;
  in_hand = kept.in_hand;
  once = kept.once;
  numbers = kept.numbers;
  fit = kept.fit;
  within = kept.within;
  blocks = kept.blocks;
  entries = kept.entries;
  of_journal = are;
  count = kept.count;
}

-- over the same first device, by what is kept and how it is served
pub serves_still : {D R : Type 0} (stated : D → Option Geometry) (content : D → Option Content) (moment : D → ℕ) (left : D → ℕ → List (List ℕ) → Type 0) (faults : D → ℕ) (g : Geometry) (lanes : ℕ) (allowed : ℕ → ℕ) (table : TableId)
    (begins : View D → Type 0) (s : Service D R) (k : Serves stated content moment left faults g lanes allowed table begins s) (new : Service D R) → new.core.geometry ≡ s.core.geometry → stated new.core.disk ≡ Some g → new.core.places ≡ s.core.places
    → faults s.core.disk ≤ faults new.core.disk → new.server.table ≡ s.server.table → vec_capacity new.journal ≡ vec_capacity s.journal → vec_capacity new.calls ≡ vec_capacity s.calls
    → IsKept g lanes allowed new.server.view new.hands.items new.journal.items new.calls.items → IsServed content moment left faults g lanes k.first new.core new.server.view.given new.server.view.jobs new.hands.items new.journal.items
    → new.core.admitted ≡ (k.first).admitted + over_lanes (count_of (asked_of lanes new.server.view.given new.server.view.jobs)) lanes → Serves stated content moment left faults g lanes allowed table begins new
serves_still stated content moment left faults g lanes allowed table begins s k new geometry disk places rose same journal calls kept served admitted = record {
  first = k.first;
  is = k.is;
  begun = k.begun;
  sizes = geometry ∙ k.sizes;
  stated_is = disk;
  places = places ∙ k.places;
  table_is = same ∙ k.table_is;
  lanes_are = k.lanes_are;
  few = k.few;
  kept = kept;
  served = served;
  later = (let low = k.later in omega (arith, rose, low));
  admitted = admitted;
  total = k.total;
  journal_room = (let cap = k.journal_room in omega (arith, journal, cap));
  calls_room = (let cap = k.calls_room in omega (arith, calls, cap));
}
