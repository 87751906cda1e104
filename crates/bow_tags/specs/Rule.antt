-- The rule of the tags. The word of a lane is 4 * number + face, where face is 0 for idle, 1 posted, 2 taken, 3 done.
use Rattle.std.specs.Prelude.{◌≡◌, ℕ, ◌+◌, ◌*◌, ◌^◌, ◌<◌, ◌⊎◌, Bool, true, ◌&&◌, ◌==◌, zero, suc, cond, List, [], ◌∷◌, length, slice_index}
use mathlib.Core.Option.{Option, some, none}
use lib.ListN.{get_elem?}
use Rattle.atomic_table.specs.Table.{State}
use Rattle.bow_tags.specs.declared.view.Slot.{Slot}
use Rattle.bow_tags.specs.declared.view.Slot.TheVariants.{Empty, Ask, Answer}
use Rattle.bow_tags.specs.declared.view.Stance.{Stance}
use Rattle.bow_tags.specs.declared.view.Stance.TheVariants.{Idle, Holding, Posted}
use Rattle.bow_tags.specs.declared.view.LaneView.{LaneView}
use Rattle.bow_tags.specs.declared.view.Held.{Held}
use Rattle.bow_tags.specs.declared.view.Entry.{Entry}
use Rattle.bow_tags.specs.declared.view.View.{View}
use Rattle.bow_tags.specs.declared.table.Opening.{Opening}

-- What a lane is at: holding, it has its slot and has not posted yet; retiring, it has its reply in hand.
pub data Phase : Type 0 where
  idle : Phase
  holding : Phase
  posted : Phase
  taken : Phase
  done : Phase
  retiring : Phase

-- the state in the word
abbrev pub face : Phase → ℕ
face idle = 0
face holding = 0
face posted = 1
face taken = 2
face done = 3
face retiring = 3

-- what the lane's own seat knows of it
abbrev pub stance_of : Phase → Stance
stance_of idle = Idle
stance_of holding = Holding
stance_of _ = Posted

-- 1 where the present number has its ask
abbrev pub asks : Phase → ℕ
asks idle = 0
asks holding = 0
asks _ = 1

-- 1 where it has its answer
abbrev pub replies : Phase → ℕ
replies done = 1
replies retiring = 1
replies _ = 0

-- 1 where a seat holds its job
abbrev pub holders : Phase → ℕ
holders taken = 1
holders _ = 0

-- 1 where the reply is in hand
abbrev pub hands : Phase → ℕ
hands retiring = 1
hands _ = 0

-- F holds of each
abbrev pub Each : {A : Type 0} → (A → Type 0) → List A → Type 0
Each F [] = Unit {0}
Each F (x ∷ xs) = F x × Each F xs

-- x stands in the list
abbrev pub In : {A : Type 0} → A → List A → Type 0
In x xs = (i : ℕ) × (get_elem? xs i ≡ some x)

-- how often a test passes
abbrev pub times : {A : Type 0} → (A → Bool) → List A → ℕ
times p [] = 0
times p (x ∷ xs) = cond (p x) 1 0 + times p xs

-- f of each, added up
abbrev pub total : {A : Type 0} → (A → ℕ) → List A → ℕ
total f [] = 0
total f (x ∷ xs) = f x + total f xs

-- 1 for a number below the length
abbrev pub present : {A : Type 0} → ℕ → List A → ℕ
present k [] = 0
present zero (x ∷ xs) = 1
present (suc k) (x ∷ xs) = present k xs

-- What a lane is at, and all its asks and answers so far: those of number k stand at place k.
pub record Cell (P Q : Type 0) : Type 0 where
  pub number : ℕ
  pub phase : Phase
  pub asked : List P
  pub answered : List Q

-- how many of these lanes are lane l
abbrev pub lane_times : {P : Type 0} → ℕ → List (LaneView P) → ℕ
lane_times l xs = times (λ x. x.lane == l) xs

-- how many of these jobs are of lane l
abbrev pub job_times : {P : Type 0} → ℕ → List (Held P) → ℕ
job_times l xs = times (λ x. x.lane == l) xs

-- how many of these entries are of lane l
abbrev pub hand_times : {P Q : Type 0} → ℕ → List (Entry P Q) → ℕ
hand_times l xs = times (λ x. x.lane == l) xs

-- how many of these entries are of lane l and number k
abbrev pub given_times : {P Q : Type 0} → ℕ → ℕ → List (Entry P Q) → ℕ
given_times l k xs = times (λ x. (x.lane == l) && (x.number == k)) xs

-- how often the server number j stands here
abbrev pub server_times : ℕ → List ℕ → ℕ
server_times j xs = times (λ x. x == j) xs

module _ {P Q : Type 0} where
  -- h is where the lane's slot is, and what it holds at home
  abbrev pub InPhase : Option (Option (Slot P Q)) → Cell P Q → Phase → Type 0
  InPhase h c idle = h ≡ some (some Empty)
  InPhase h c holding = h ≡ some none
  InPhase h c posted = (a : P) × (get_elem? c.asked c.number ≡ some a) × (h ≡ some (some (Ask a)))
  InPhase h c taken = h ≡ some none
  InPhase h c done = (q : Q) × (get_elem? c.answered c.number ≡ some q) × (h ≡ some (some (Answer q)))
  InPhase h c retiring = h ≡ some none

  module _ (fits : ℕ → P → Type 0) where
    -- the word and the slot of lane i, and its asks and answers, are those of c
    pub record CellOk (size : ℕ) (words : List ℕ) (homes : List (Option (Slot P Q))) (i : ℕ) (c : Cell P Q)
        : Type 0 where
      pub word : slice_index words i ≡ 4 * c.number + face c.phase
      pub small : c.number + asks c.phase < 2 ^ 32
      pub asks_are : length c.asked ≡ c.number + asks c.phase
      pub replies_are : length c.answered ≡ c.number + replies c.phase
      pub fit : Each (fits size) c.asked
      pub slot : InPhase (get_elem? homes i) c c.phase

  -- what a view says of a lane that stands at c
  pub record LaneTie (n : ℕ) (hs : List (Entry P Q)) (e : LaneView P) (c : Cell P Q) : Type 0 where
    pub near : e.lane < n
    pub number : e.number ≡ c.number
    pub stance : e.stance ≡ stance_of c.phase
    pub asked : e.asked ≡ c.asked
    pub hand : hand_times e.lane hs ≡ hands c.phase

  -- a job is of a lane that is taken, with its number and ask
  pub record JobTie (n : ℕ) (j : Held P) (c : Cell P Q) : Type 0 where
    pub near : j.lane < n
    pub phase : c.phase ≡ taken
    pub number : j.number ≡ c.number
    pub ask : get_elem? c.asked j.number ≡ some j.ask

  -- an entry has the ask and the answer of its lane and number
  pub record Told (n : ℕ) (x : Entry P Q) (c : Cell P Q) : Type 0 where
    pub near : x.lane < n
    pub ask : get_elem? c.asked x.number ≡ some x.ask
    pub answer : get_elem? c.answered x.number ≡ some x.answer

  -- a reply in hand is of a lane that is retiring, for which its seat speaks, with the lane's number
  pub record HandTie (n : ℕ) (lanes : List (LaneView P)) (x : Entry P Q) (c : Cell P Q) : Type 0 where
    pub told : Told n x c
    pub phase : c.phase ≡ retiring
    pub number : x.number ≡ c.number
    pub speaks : 0 < lane_times x.lane lanes

  module _ (n : ℕ) (cells : ℕ → Cell P Q) where
    -- all that a view says holds of the cells
    pub record ViewOk (size servers : ℕ) (v : View P Q) : Type 0 where
      pub lanes : Each (λ e. LaneTie n v.hand e (cells e.lane)) v.lanes
      pub jobs : Each (λ j. JobTie n j (cells j.lane)) v.jobs
      pub got : Each (λ x. Told n x (cells x.lane)) v.got
      pub given : Each (λ x. Told n x (cells x.lane)) v.given
      pub hand : Each (λ x. HandTie n v.lanes x (cells x.lane)) v.hand
      pub speaks : Each (λ j. j < servers) v.speaks
      pub gives : (v.given ≡ []) ⊎ (0 < length v.speaks)
      pub sized : v.live ≡ true → (v.size ≡ size) × (v.width ≡ n) × (v.servers ≡ servers)

  -- each lane has a cell, with which its word, its slot and every view agree
  pub record Rule (fits : ℕ → P → Type 0) (s : State (Slot P Q) (View P Q)) : Type 0 where
    pub size : ℕ
    pub servers : ℕ
    pub cells : ℕ → Cell P Q
    pub wide : length s.words ≡ length s.homes
    pub each_cell : (i : ℕ) → i < length s.homes → CellOk fits size s.words s.homes i (cells i)
    pub each_view : (j : ℕ) (v : View P Q) → get_elem? s.views j ≡ some v → ViewOk (length s.homes) cells size servers v
    -- one seat speaks for each lane
    pub one_lane : (l : ℕ) → l < length s.homes → total (λ v. lane_times l v.lanes) s.views ≡ 1
    -- one seat holds the job of a lane that is taken, and no seat holds one of another lane
    pub one_job : (l : ℕ) → l < length s.homes → total (λ v. job_times l v.jobs) s.views ≡ holders (cells l).phase
    -- each answer of a lane stands once among all that was given, and nothing else stands there
    pub one_given : (l k : ℕ) → l < length s.homes
        → total (λ v. given_times l k v.given) s.views ≡ present k (cells l).answered
    -- one seat speaks for each server number
    pub one_server : (j : ℕ) → j < servers → total (λ v. server_times j v.speaks) s.views ≡ 1

-- a lane before its first post
abbrev pub fresh_lane : {P : Type 0} → ℕ → LaneView P
fresh_lane l = record { lane = l; number = 0; stance = Idle; asked = [] }

-- n lanes before their first posts, numbered from the first one on
abbrev pub all_lanes : {P : Type 0} → ℕ → ℕ → List (LaneView P)
all_lanes from zero = []
all_lanes from (suc n) = fresh_lane from ∷ all_lanes (from + 1) n

-- n numbers, from the first one on
abbrev pub below : ℕ → ℕ → List ℕ
below from zero = []
below from (suc n) = from ∷ below (from + 1) n

-- a seat that has done nothing yet, and speaks for these lanes and server numbers
abbrev pub new_view : {P Q : Type 0} → ℕ → ℕ → ℕ → List (LaneView P) → List ℕ → View P Q
new_view width servers size lanes speaks = record {
  live = true;
  size = size;
  width = width;
  servers = servers;
  looks = 0;
  at = 0;
  found = 0;
  lanes = lanes;
  jobs = [];
  speaks = speaks;
  got = [];
  given = [];
  hand = [];
}

-- the first seat speaks for all
abbrev pub whole : {P Q : Type 0} → Opening → View P Q
whole k = new_view k.lanes k.servers k.size (all_lanes 0 k.lanes) (below 0 k.servers)
