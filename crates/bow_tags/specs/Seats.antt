-- What contracts see of a seat, and how the calls change it.
use Rattle.std.specs.Prelude.{slice_index, slice_index_or, ◌≡◌, ℕ, ◌+◌, ◌-◌, ◌*◌, ◌^◌, ◌<◌, ◌≤◌, Bool, true, false, List, [], ◌∷◌, ◌++◌, length, cond, map, ◌==◌}
use mathlib.Core.Option.{some}
use lib.ListN.{get_elem?}
use Rattle.atomic_table.specs.Seated.{TableId}
use Rattle.bow_tags.specs.declared.view.Slot.{Slot}
use Rattle.bow_tags.specs.declared.view.Slot.TheVariants.{Empty}
use Rattle.bow_tags.specs.declared.view.Stance.{Stance}
use Rattle.bow_tags.specs.declared.view.Stance.TheVariants.{Idle, Posted}
use Rattle.bow_tags.specs.declared.view.LaneView.{LaneView}
use Rattle.bow_tags.specs.declared.view.Entry.{Entry}
use Rattle.bow_tags.specs.declared.view.View.{View}
use Rattle.bow_tags.specs.Rule.{all_lanes, below, new_view, fresh_lane, Each, times, total, job_times, given_times}
use Rattle.bow_tags.specs.Steps.{with_lane, with_ask, at_next, with_job, looked, entry, held, lane_of}

-- a seat as contracts see it: its table, its number there, and what it knows
pub record Sitting (P Q : Type 0) : Type 0 where
  pub table : TableId
  pub id : ℕ
  pub view : View P Q

-- what a lane between its calls is doing, by whether it has posted
abbrev pub stance_if : Bool → Stance
stance_if true = Posted
stance_if false = Idle

-- 1 where it is so
abbrev pub one_if : Bool → ℕ
one_if true = 1
one_if false = 0

module _ {P Q : Type 0} where
  -- The seat of lane l between its calls, which keeps its number k at run time, and whether it has posted.
  pub record IsLaneSeat (slots l k : ℕ) (is_posted : Bool) (v : View P Q) : Type 0 where
    pub one : v.lanes ≡ lane_of v ∷ []
    pub lane : (lane_of v).lane ≡ l
    pub number : (lane_of v).number ≡ k
    pub stance : (lane_of v).stance ≡ stance_if is_posted
    pub empty : v.hand ≡ []
    pub gives : v.given ≡ []
    pub holds : v.jobs ≡ []
    pub live : v.live ≡ true
    pub near : l < slots
    pub room : is_posted ≡ true → k + 1 < 2 ^ 32
    pub long : length (lane_of v).asked ≡ k + one_if is_posted

  -- The seat of a server between its calls, which carries the slots of its jobs, in the order ls of their lanes.
  pub record IsServerSeat (slots : ℕ) (ls : List ℕ) (cs : List (ℕ × Slot P Q)) (v : View P Q) : Type 0 where
    pub carried : cs ≡ map (λ l. (l, Empty)) ls
    pub tally : (l : ℕ) → times (λ x. x == l) ls ≡ job_times l v.jobs
    pub once : (l : ℕ) → job_times l v.jobs ≤ 1
    pub near : Each (λ l. l < slots) ls
    pub few : slots ≤ 16
    pub bare : v.hand ≡ []
    pub speaks : 0 < length v.speaks
    pub live : v.live ≡ true

  -- the lane has posted this ask
  abbrev pub after_post : View P Q → P → View P Q
  after_post v a = with_lane (with_ask a (lane_of v)) v

  -- a look found the lane's number done, and its reply was got
  abbrev pub after_reply : View P Q → P → Q → View P Q
  after_reply v a q = let e = lane_of v in
      record (with_lane (at_next e) (looked e.lane (4 * e.number + 3) v)) {
        got = v.got ++ entry e.lane e.number a q ∷ [];
      }

  -- a look found the posted word, and its job is held
  abbrev pub after_take : View P Q → ℕ → ℕ → P → View P Q
  after_take v l k a = with_job (held l k a) (looked l (4 * k + 1) v)

-- the list in another turn
abbrev pub IsTurn : List ℕ → List ℕ → Type 0
IsTurn old new = (xs : List ℕ) × (ys : List ℕ) × (old ≡ xs ++ ys) × (new ≡ ys ++ xs)

-- the slots of these lanes, with nothing in them
abbrev pub with_empty : {P Q : Type 0} → List ℕ → List (ℕ × Slot P Q)
with_empty ls = map (λ l. (l, Empty)) ls

-- how many stand before the first that is l
abbrev pub before : ℕ → List ℕ → ℕ
before l [] = 0
before l (x ∷ xs) = cond (x == l) 0 (1 + before l xs)

-- F holds of each element at its place
abbrev pub Numbered : {A : Type 0} → (ℕ → A → Type 0) → List A → Type 0
Numbered {A} F xs = (i : ℕ) (x : A) → get_elem? xs i ≡ some x → F i x

-- the same, read as a program reads a slice
abbrev pub ByIndex : {A : Type 0} → (ℕ → A → Type 0) → List A → Type 0
ByIndex {A} F xs = (i : ℕ) (d : A) → i < length xs → F i (slice_index_or xs i d)

-- the number of lanes of a table
abbrev pub lanes_of : TableId → ℕ
lanes_of z = z.slots

module _ {P Q : Type 0} where
  -- the seat of lane i, as open gives it
  abbrev pub IsFirstLane : TableId → ℕ → ℕ → ℕ → Sitting P Q → Type 0
  IsFirstLane z servers size i s = (s.table ≡ z) × (s.view ≡ new_view (lanes_of z) servers size (fresh_lane i ∷ []) [])

  -- the seat of server number j, as open gives it
  abbrev pub IsFirstServer : TableId → ℕ → ℕ → ℕ → Sitting P Q → Type 0
  IsFirstServer z servers size j s = (s.table ≡ z) × (s.view ≡ new_view (lanes_of z) servers size [] (j ∷ []))

  -- the first seat, once the seats of the lanes below i and of the servers below j are given away
  abbrev pub first_view : ℕ → ℕ → ℕ → ℕ → ℕ → View P Q
  first_view lanes servers size i j = new_view lanes servers size (all_lanes i (lanes - i)) (below j (servers - j))

  -- the seat of a lane that has posted nothing, of tags for asks that fit this size
  abbrev pub HasNotPosted : ℕ → View P Q → Type 0
  HasNotPosted size v = ((lane_of v).stance ≡ Idle) × ((lane_of v).number ≡ 0) × (v.size ≡ size)

  -- the seat of lane i
  abbrev pub IsLaneAt : TableId → ℕ → Sitting P Q → Type 0
  IsLaneAt z i s = (s.table ≡ z) × ((lane_of s.view).lane ≡ i)

  -- the seat of server number j, of so many
  abbrev pub IsServerAt : TableId → ℕ → ℕ → Sitting P Q → Type 0
  IsServerAt z servers j s = (s.table ≡ z) × (s.view.speaks ≡ j ∷ []) × (s.view.servers ≡ servers)

  -- each of these lanes is idle
  abbrev pub AllIdle : List (Sitting P Q) → Type 0
  AllIdle lanes = (i : ℕ) (s : Sitting P Q) → get_elem? lanes i ≡ some s → (lane_of s.view).stance ≡ Idle

  -- none of these seats holds a job
  abbrev pub NoJobs : List (Sitting P Q) → Type 0
  NoJobs servers = (j : ℕ) (s : Sitting P Q) → get_elem? servers j ≡ some s → s.view.jobs ≡ []

  -- how often these seats gave an answer for number k of lane l
  abbrev pub times_given : ℕ → ℕ → List (Sitting P Q) → ℕ
  times_given l k servers = total (λ s. given_times l k s.view.given) servers

  -- each entry that a lane got was given by a server
  abbrev pub AllGiven : List (Sitting P Q) → List (Sitting P Q) → Type 0
  AllGiven lanes servers = (i : ℕ) (s : Sitting P Q) (k : ℕ) (x : Entry P Q)
      → get_elem? lanes i ≡ some s → get_elem? s.view.got k ≡ some x
      → (j : ℕ) × (t : Sitting P Q) × (m : ℕ) × (get_elem? servers j ≡ some t) × (get_elem? t.view.given m ≡ some x)

  -- each number whose answer lies behind the lane's last word was answered once, and no other was answered
  abbrev pub AnsweredOnce : List ℕ → List (Sitting P Q) → Type 0
  AnsweredOnce words servers = (l k : ℕ) → l < length words
      → (4 * k + 3 ≤ slice_index words l → times_given l k servers ≡ 1)
      × (slice_index words l < 4 * k + 3 → times_given l k servers ≡ 0)

-- the word has the lane's number, and its state is idle exactly where the seat's is
abbrev pub IsLastWord : {P : Type 0} → ℕ → LaneView P → Type 0
IsLastWord word e = (state : ℕ) × (state < 4) × (word ≡ 4 * e.number + state)
    × (e.stance ≡ Idle → state ≡ 0) × (state ≡ 0 → e.stance ≡ Idle)
