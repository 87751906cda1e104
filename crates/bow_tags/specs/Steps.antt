-- What each step tells: how the view of the seat that makes it, and the slots that the seat carries, change.
use Rattle.std.specs.Prelude.{◌≡◌, ◌≢◌, ℕ, ◌+◌, ◌*◌, ◌%◌, ◌^◌, ◌<◌, false, not, ◌==◌, List, [], ◌∷◌, ◌++◌, filter}
use mathlib.Core.Option.{some}
use lib.ListN.{get_elem?}
use Rattle.atomic_table.specs.Table.{Me, Step, rest}
use Rattle.bow_tags.specs.declared.view.Slot.{Slot}
use Rattle.bow_tags.specs.declared.view.Slot.TheVariants.{Empty, Ask, Answer}
use Rattle.bow_tags.specs.declared.view.Stance.TheVariants.{Idle, Holding, Posted}
use Rattle.bow_tags.specs.declared.view.LaneView.{LaneView}
use Rattle.bow_tags.specs.declared.view.Held.{Held}
use Rattle.bow_tags.specs.declared.view.Entry.{Entry}
use Rattle.bow_tags.specs.declared.view.View.{View}
use Rattle.bow_tags.specs.Rule.{In, given_times, server_times, job_times, fresh_lane}

-- a job
abbrev pub held : {P : Type 0} → ℕ → ℕ → P → Held P
held l k a = record { lane = l; number = k; ask = a }

-- the jobs of other lanes
abbrev pub others : {P : Type 0} → ℕ → List (Held P) → List (Held P)
others l js = filter (λ j. not (j.lane == l)) js

-- the first lane of these, and a fresh one where there is none
abbrev pub first_lane : {P : Type 0} → List (LaneView P) → LaneView P
first_lane [] = fresh_lane 0
first_lane (e ∷ es) = e

-- the lane has posted this ask
abbrev pub with_ask : {P : Type 0} → P → LaneView P → LaneView P
with_ask a e = record e { stance = Posted; asked = e.asked ++ a ∷ [] }

-- the lane is idle at its next number
abbrev pub at_next : {P : Type 0} → LaneView P → LaneView P
at_next e = record e { number = e.number + 1; stance = Idle }

-- the first of these alone
abbrev pub first_of_list : {A : Type 0} → List A → List A
first_of_list [] = []
first_of_list (x ∷ xs) = x ∷ []

-- all but the first of these
abbrev pub others_of_list : {A : Type 0} → List A → List A
others_of_list [] = []
others_of_list (x ∷ xs) = xs

module _ {P Q : Type 0} where
  -- the one lane of a lane's seat
  abbrev pub lane_of : View P Q → LaneView P
  lane_of v = first_lane v.lanes

  -- the same view with this one lane
  abbrev pub with_lane : LaneView P → View P Q → View P Q
  with_lane e v = record v { lanes = e ∷ [] }

  -- the look is counted, and the word found is kept with its lane
  abbrev pub looked : ℕ → ℕ → View P Q → View P Q
  looked l w v = record v { looks = v.looks + 1; at = l; found = w }

  -- an ask and its answer
  abbrev pub entry : ℕ → ℕ → P → Q → Entry P Q
  entry l k a q = record { lane = l; number = k; ask = a; answer = q }

  -- this job is held too
  abbrev pub with_job : Held P → View P Q → View P Q
  with_job j v = record v { jobs = v.jobs ++ j ∷ [] }

  -- the job is answered
  abbrev pub after_answer : View P Q → ℕ → ℕ → P → Q → View P Q
  after_answer v l k a q = record v { jobs = others l v.jobs; given = v.given ++ entry l k a q ∷ [] }

  -- post's load takes the slot
  abbrev pub holds_slot : Step (Slot P Q) → Me (Slot P Q) (View P Q) → ℕ → Me (Slot P Q) (View P Q) → Type 0
  holds_slot st m r m' = m' ≡ (with_lane (record (lane_of m.0) { stance = Holding }) m.0, (st.word, Empty) ∷ m.1)

  -- post puts the ask back with it
  abbrev pub posts : Step (Slot P Q) → Me (Slot P Q) (View P Q) → ℕ → Me (Slot P Q) (View P Q) → Type 0
  posts st m r m' = (a : P) × (m.1 ≡ (st.word, Ask a) ∷ rest m.1)
      × (m' ≡ (with_lane (with_ask a (lane_of m.0)) m.0, rest m.1))

  -- this reply is in hand
  abbrev pub in_hand : Entry P Q → View P Q → View P Q
  in_hand x v = record v { hand = x ∷ [] }

  -- the slot is taken with the reply to the lane's ask, which is in hand
  abbrev pub takes_reply : Step (Slot P Q) → Me (Slot P Q) (View P Q) → ℕ → Me (Slot P Q) (View P Q) → Type 0
  takes_reply st m r m' = (a : P) × (q : Q) × (r ≡ 4 * (lane_of m.0).number + 3)
      × (get_elem? (lane_of m.0).asked (lane_of m.0).number ≡ some a)
      × (m' ≡ (in_hand (entry st.word (lane_of m.0).number a q) (looked st.word r m.0), (st.word, Answer q) ∷ m.1))

  -- poll's load: where the word is done it takes the reply
  abbrev pub polls : Step (Slot P Q) → Me (Slot P Q) (View P Q) → ℕ → Me (Slot P Q) (View P Q) → Type 0
  polls st m r m' = (r % 4 ≡ 3 → takes_reply st m r m') × (r % 4 ≢ 3 → m' ≡ (looked st.word r m.0, m.1))

  -- poll gives the slot back, and the reply in hand is got
  abbrev pub retires : Step (Slot P Q) → Me (Slot P Q) (View P Q) → ℕ → Me (Slot P Q) (View P Q) → Type 0
  retires st m r m' =
      m' ≡ (record (with_lane (at_next (lane_of m.0)) m.0) { hand = []; got = m.0.got ++ m.0.hand }, rest m.1)

  -- look's load
  abbrev pub looks : Step (Slot P Q) → Me (Slot P Q) (View P Q) → ℕ → Me (Slot P Q) (View P Q) → Type 0
  looks st m r m' = (r < 2 ^ 34) × (m' ≡ (looked st.word r m.0, m.1))

  -- of a seat that speaks for every server number
  abbrev pub SpeaksForAll : View P Q → Type 0
  SpeaksForAll v = (j : ℕ) → j < v.servers → 0 < server_times j v.speaks

  -- it has given of the lane one reply for each number below k
  abbrev pub GivenBelow : View P Q → ℕ → ℕ → Type 0
  GivenBelow v l k = (i : ℕ) → (i < k → given_times l i v.given ≡ 1) × (¬ (i < k) → given_times l i v.given ≡ 0)

  -- the slot is taken with its ask, which is a job that the seat holds from then on
  abbrev pub takes_ask : (ℕ → P → Type 0)
      → Step (Slot P Q) → Me (Slot P Q) (View P Q) → ℕ → Me (Slot P Q) (View P Q) → Type 0
  takes_ask fits st m r m' = (k : ℕ) × (a : P) × (st.first ≡ 4 * k + 1) × fits m.0.size a
      × (job_times st.word m.0.jobs ≡ 0) × (SpeaksForAll m.0 → GivenBelow m.0 st.word k)
      × (m' ≡ (with_job (held st.word k a) (looked st.word r m.0), (st.word, Ask a) ∷ m.1))

  -- take's exchange: where the word is the one expected it takes the ask
  abbrev pub takes_job : (ℕ → P → Type 0)
      → Step (Slot P Q) → Me (Slot P Q) (View P Q) → ℕ → Me (Slot P Q) (View P Q) → Type 0
  takes_job fits st m r m' = (r ≡ st.first → takes_ask fits st m r m')
      × (r ≢ st.first → m' ≡ (looked st.word r m.0, m.1))

  -- answer puts the answer back with the slot
  abbrev pub answers : Step (Slot P Q) → Me (Slot P Q) (View P Q) → ℕ → Me (Slot P Q) (View P Q) → Type 0
  answers st m r m' = (k : ℕ) × (a : P) × (q : Q) × (st.first ≡ 4 * k + 2) × (m.1 ≡ (st.word, Answer q) ∷ rest m.1)
      × (m' ≡ (after_answer m.0 st.word k a q, rest m.1)) × In (held st.word k a) m.0.jobs

  -- each lane of the first n has an idle entry in the view
  abbrev pub SpeaksForIdle : ℕ → View P Q → Type 0
  SpeaksForIdle n v = (l : ℕ) → l < n
      → (i : ℕ) × (e : LaneView P) × (get_elem? v.lanes i ≡ some e) × (e.lane ≡ l) × (e.stance ≡ Idle)

  -- look's load, where every lane is idle: then no job is held
  abbrev pub settles : Step (Slot P Q) → Me (Slot P Q) (View P Q) → ℕ → Me (Slot P Q) (View P Q) → Type 0
  settles st m r m' = (SpeaksForIdle st.slots m.0 → m.0.jobs ≡ []) × (m' ≡ (looked st.word r m.0, m.1))

  -- the seat holds the job of this lane and number
  abbrev pub HoldsJob : View P Q → ℕ → ℕ → Type 0
  HoldsJob v l k = (i : ℕ) × (a : P) × (get_elem? v.jobs i ≡ some (held l k a))

  -- a seat cut from this one, before it speaks for anything
  abbrev pub cut_from : View P Q → View P Q
  cut_from v = record v { lanes = []; jobs = []; speaks = []; got = []; given = []; hand = [] }

  -- a seat for the first lane
  abbrev pub with_first_lane : View P Q → View P Q
  with_first_lane v = record (cut_from v) { lanes = first_of_list v.lanes }

  -- what stays once the first lane has its seat
  abbrev pub without_first_lane : View P Q → View P Q
  without_first_lane v = record v { lanes = others_of_list v.lanes }

  -- a seat for the first server number
  abbrev pub with_first_server : View P Q → View P Q
  with_first_server v = record (cut_from v) { speaks = first_of_list v.speaks }

  -- what stays once the first server number has its seat
  abbrev pub without_first_server : View P Q → View P Q
  without_first_server v = record v { speaks = others_of_list v.speaks }

  -- a seat that has taken in another
  abbrev pub joined : View P Q → View P Q → View P Q
  joined v w = record v {
    lanes = v.lanes ++ w.lanes;
    jobs = v.jobs ++ w.jobs;
    speaks = v.speaks ++ w.speaks;
    got = v.got ++ w.got;
    given = v.given ++ w.given;
    hand = v.hand ++ w.hand;
  }

  -- a seat that another took in
  abbrev pub spent : View P Q
  spent = record {
    live = false;
    size = 0;
    width = 0;
    servers = 0;
    looks = 0;
    at = 0;
    found = 0;
    lanes = [];
    jobs = [];
    speaks = [];
    got = [];
    given = [];
    hand = [];
  }
