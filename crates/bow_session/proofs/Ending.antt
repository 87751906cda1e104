-- How a session ends: some actor is ready until all is answered, and each step leaves fewer.
use Rattle.std.proofs.Common.{◌≡◌, ℕ, zero, suc, ◌+◌, ◌-◌, ◌%◌, ◌<◌, ◌≤◌, ◌&&◌, Bool, true, false, cond, List, [], ◌∷◌, length, map, Option, Some, None, is_none, arith, refl, sym, ap, ◌∙◌, subst}
use Rattle.std.specs.Prelude.{slice_get}
use Rattle.std.specs.List.{list_all}
use Rattle.std.proofs.lemmas.Bool.{false≢true}
use Rattle.std.proofs.lemmas.Option.{slice_get_within}
use Rattle.bow_units.specs.declared.sizes.Geometry.{Geometry}
use Rattle.bow_units.specs.Draws.{next_number, drawn_value}
use Rattle.bow_units.specs.declared.requests.Op.{Op}
use Rattle.bow_disk.specs.Disk.{Content}
use Rattle.bow_history.specs.declared.items.Actor.{Actor}
use Rattle.bow_history.specs.Journal.{Plan}
use Rattle.bow_history.specs.Sessions.{Session, Turned, after_turn}
use Rattle.bow_history.specs.Ready.{is_actor_ready}
use Rattle.bow_history.specs.SoundSessions.{IsSoundSession}
use Rattle.bow_history.specs.Ends.{actor_in, turns_left}
use Rattle.bow_history.specs.Schedule.{actor_at, next_round, first_ready, chosen, drawn}
use Rattle.bow_session.specs.declared.desks.Desk.{Desk}
use Rattle.bow_session.specs.declared.seats.Asked.{Asked}
use Rattle.bow_session.specs.declared.seats.Hand.{Hand}
use Rattle.bow_session.specs.declared.seats.Seat.{Seat}
use Rattle.bow_session.specs.Requests.{plan_of, requests_in, lanes_of}
use Rattle.bow_session.specs.Seats.{lane_in, is_over, section_with, AreLeft}
use Rattle.bow_session.specs.Sessions.{Lane, lane_at, Run, plan_in, state_in}
use Rattle.bow_session.specs.Desks.{Fits, run_of}
use Rattle.bow_session.specs.Turns.{IsOneTurn, StepsBy}
use Rattle.bow_session.proofs.Laws.{chosen_is_ready, turns_go_down}
use Rattle.bow_session.proofs.Plans.{at_most}
use Rattle.bow_session.proofs.Told.{lane_found}

-- one lane is not over
one_left : (seats : List Seat) → list_all is_over seats ≡ false → (lane : ℕ) × (seat : Seat) × (slice_get seats lane ≡ Some seat) × (is_over seat ≡ false)
one_left [] more = absurd (false≢true (sym more))
one_left (x ∷ xs) more = go (is_over x) refl more (one_left xs)
  where
    go : (t : Bool) → is_over x ≡ t → (t && list_all is_over xs) ≡ false → (list_all is_over xs ≡ false → (lane : ℕ) × (seat : Seat) × (slice_get xs lane ≡ Some seat) × (is_over seat ≡ false))
        → (lane : ℕ) × (seat : Seat) × (slice_get (x ∷ xs) lane ≡ Some seat) × (is_over seat ≡ false)
    go false is more rest = (0, x, refl, is)
    go true is more rest = let r = rest more in (suc r.0, r.1, r.2, r.3)

-- its next request
left_next : (plan : Plan) (lane n : ℕ) (h : Option Hand) (ps : List Asked) → AreLeft plan lane n h ps → is_none (section_with h ps) ≡ false → (op : Op) × (plan.request lane n ≡ Some op)
left_next plan lane n (Some h) ps k more = ((k.0).asked, (k.0).next)
left_next plan lane n None [] k more = absurd (false≢true (sym more))
left_next plan lane n None (a ∷ ps) k more = ((k.0).asked, (k.0).next)

module _ {D R : Type 0} (s : Desk D R) (k : Fits s) where
  pub chosen_ready : (drawn : ℕ) → drawn < lanes_of s.script + 2 → list_all is_over s.records.seats.items ≡ false
      → is_actor_ready (plan_in (run_of s)) (state_in (run_of s)) (chosen (plan_in (run_of s)) (state_in (run_of s)) drawn) ≡ true
  chosen_ready drawn below more =
      let l = one_left s.records.seats.items more in
      let inside = slice_get_within s.records.seats.items l.0 l.1 l.2 in
      let n = left_next (plan_in (run_of s)) l.0 (length (l.1).answered.items) (l.1).hand (l.1).pending.items (k.seats l.0 l.1 l.2).left l.3 in
      let number : length ((lane_at (map lane_in s.records.seats.items) l.0).answered) ≡ length (l.1).answered.items = ap (λ (x : Lane). length x.answered) (lane_found s.records.seats.items l.0 l.1 l.2) in
      chosen_is_ready (plan_in (run_of s)) (state_in (run_of s)) l.0 n.0 drawn k.sound (omega (arith, inside, k.lanes)) (ap ((plan_in (run_of s)).request l.0) number ∙ n.1) below

-- each step of a ready actor leaves fewer turns
pub fewer : {D : Type 0} (stated : D → Option Geometry) (content : D → Option Content) (moment : D → ℕ) (left : D → ℕ → List (List ℕ) → Type 0) (faults : D → ℕ) (old : Run D) (actor : Actor) (new : Run D)
    → IsSoundSession (plan_in old) (state_in old) → is_actor_ready (plan_in old) (state_in old) actor ≡ true → StepsBy stated content moment left faults old actor new
    → turns_left (plan_in new) (requests_in new.script) (state_in new) < turns_left (plan_in old) (requests_in old.script) (state_in old)
fewer stated content moment left faults old actor new sound ready steps =
    let one = steps.2 in
    let down = turns_go_down (plan_in old) (requests_in old.script) (state_in old) steps.0 (at_most old.core.geometry old.script) sound one.may (ap (is_actor_ready (plan_in old) (state_in old)) steps.1 ∙ ready) in
    let same : turns_left (plan_in new) (requests_in new.script) (state_in new) ≡ turns_left (plan_in old) (requests_in old.script) (after_turn (plan_in old) (state_in old) steps.0) =
    ap (λ g. turns_left (plan_of g new.script) (requests_in new.script) (state_in new)) one.geometry ∙ ap (λ sc. turns_left (plan_of old.core.geometry sc) (requests_in sc) (state_in new)) one.script ∙ ap (turns_left (plan_in old) (requests_in old.script)) one.state in
    omega (arith, down, same)

-- the search for a ready actor
pub first_here : (plan : Plan) (s : Session) (k left : ℕ) → 0 < left → is_actor_ready plan s (actor_at plan k) ≡ true → first_ready plan s k left ≡ k
first_here plan s k zero some ready = absurd (omega (arith, some))
first_here plan s k (suc left) some ready = ap (λ t. cond t k (first_ready plan s (next_round plan k) left)) ready

pub first_there : (plan : Plan) (s : Session) (k left : ℕ) → 0 < left → is_actor_ready plan s (actor_at plan k) ≡ false → first_ready plan s k left ≡ first_ready plan s (next_round plan k) (left - 1)
first_there plan s k zero some ready = absurd (omega (arith, some))
first_there plan s k (suc left) some ready =
    let one : left ≡ suc left - 1 = omega arith in
    ap (λ t. cond t k (first_ready plan s (next_round plan k) left)) ready ∙ ap (first_ready plan s (next_round plan k)) one

pub first_none : (plan : Plan) (s : Session) (k left : ℕ) → left ≤ 0 → first_ready plan s k left ≡ k
first_none plan s k zero none = refl
first_none plan s k (suc left) none = absurd (omega (arith, none))

-- ----------------------------------------------------------------------------------------------------------------
-- A turn of a desk, of which nothing has changed yet.
module _ {D R : Type 0} (s : Desk D R) (k : Fits s) (lanes : ℕ) (long : lanes ≡ length s.records.seats.items) where
  abbrev plan : Plan
  plan = plan_in (run_of s)

  abbrev st : Session
  st = state_in (run_of s)

  pub lanes_here : lanes_of s.script ≡ lanes
  lanes_here = sym (long ∙ k.lanes)

  -- the number that is drawn
  module _ (before after number : ℕ) (next : after ≡ next_number before) (value : number ≡ drawn_value after % (lanes + 2)) where
    is_drawn : chosen plan st number ≡ drawn plan st before
    is_drawn = ap (chosen plan st) (value ∙ ap (λ n. drawn_value n % (lanes + 2)) next ∙ ap (λ l. drawn_value (next_number before) % (l + 2)) (sym lanes_here))

    -- a whole round has found none before the first that is ready
    pub round_ready : (actor : Actor) → actor ≡ chosen plan st number → list_all is_over s.records.seats.items ≡ false → is_actor_ready plan st actor ≡ true
    round_ready actor is more =
        let below : number < lanes_of s.script + 2 = omega (arith, value, lanes_here) in
        ap (is_actor_ready plan st) is ∙ chosen_ready s k number below more

    module _ (stated : D → Option Geometry) (content : D → Option Content) (moment : D → ℕ) (left : D → ℕ → List (List ℕ) → Type 0) (faults : D → ℕ) (now new : Desk D R) (still : now ≡ s) (actor : Actor)
        (steps : StepsBy stated content moment left faults (run_of now) actor (run_of new)) where
      steps_here : StepsBy stated content moment left faults (run_of s) actor (run_of new)
      steps_here = subst (λ (x : Desk D R). StepsBy stated content moment left faults (run_of x) actor (run_of new)) still steps

      pub steps_drawn : actor ≡ chosen plan st number → (turn : Turned) × (actor_in turn ≡ drawn plan st before) × IsOneTurn stated content moment left faults (run_of s) turn (run_of new)
      steps_drawn is = (steps_here.0, steps_here.1 ∙ is ∙ is_drawn, steps_here.2)

      pub steps_down : is_actor_ready plan st actor ≡ true → turns_left (plan_in (run_of new)) (requests_in new.script) (state_in (run_of new)) < turns_left plan (requests_in s.script) st
      steps_down ready = fewer stated content moment left faults (run_of s) actor (run_of new) k.sound ready steps_here

  -- the search for the first that is ready, from here on
  module _ (from here left : ℕ) (first : first_ready plan st here left ≡ first_ready plan st from (lanes_of s.script + 2)) where
    pub chosen_here : (actor : Actor) → actor ≡ actor_at plan here → 0 < left → is_actor_ready plan st actor ≡ true → actor ≡ chosen plan st from
    chosen_here actor is some ready = is ∙ ap (actor_at plan) (sym (first_here plan st here left some (ap (is_actor_ready plan st) (sym is) ∙ ready)) ∙ first)

    pub chosen_round : (actor : Actor) → actor ≡ actor_at plan here → left ≤ 0 → actor ≡ chosen plan st from
    chosen_round actor is none = is ∙ ap (actor_at plan) (sym (first_none plan st here left none) ∙ first)

    pub search_on : (actor : Actor) → actor ≡ actor_at plan here → 0 < left → is_actor_ready plan st actor ≡ false → first_ready plan st (next_round plan here) (left - 1) ≡ first_ready plan st from (lanes_of s.script + 2)
    search_on actor is some ready = sym (first_there plan st here left some (ap (is_actor_ready plan st) (sym is) ∙ ready)) ∙ first
