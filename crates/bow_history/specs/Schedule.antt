-- The order in which a session's actors step: drawn from one number.
use Rattle.std.specs.Prelude.{ℕ, zero, suc, ◌+◌, ◌%◌, ◌<◌, ◌≡◌, ◌==◌, nat_lt, true, if◌then◌else◌, List, [], ◌∷◌}
use Rattle.std.specs.Prelude.{Some}
use Rattle.bow_units.specs.Draws.{next_number, drawn_value}
use Rattle.bow_units.specs.declared.requests.Op.{Op}
use Rattle.bow_history.specs.declared.items.Actor.{Actor}
use Rattle.bow_history.specs.declared.items.Actor.TheVariants.{Lane, Worker, Command}
use Rattle.bow_history.specs.Journal.{Plan}
use Rattle.bow_history.specs.Sessions.{Session, Turned, after_turn}
use Rattle.bow_history.specs.Ready.{is_actor_ready}
use Rattle.bow_history.specs.SoundSessions.{IsSoundSession}
use Rattle.bow_history.specs.Ends.{actor_in}

-- the actor of a number: the lanes, then the worker, then the commands
abbrev pub actor_at : Plan → ℕ → Actor
actor_at plan k = if nat_lt k plan.lanes then Lane k else if k == plan.lanes then Worker else Command

-- the number after it, going round
abbrev pub next_round : Plan → ℕ → ℕ
next_round plan k = if k == plan.lanes + 1 then 0 else k + 1

-- the number of the first ready actor from this number on, of so many
abbrev pub first_ready : Plan → Session → ℕ → ℕ → ℕ
first_ready plan s k zero = k
first_ready plan s k (suc most) =
    if is_actor_ready plan s (actor_at plan k) then k else first_ready plan s (next_round plan k) most

-- the first ready actor from this number on, going round once
abbrev pub chosen : Plan → Session → ℕ → Actor
chosen plan s k = actor_at plan (first_ready plan s k (plan.lanes + 2))

-- the actor whom the next number draws
abbrev pub drawn : Plan → Session → ℕ → Actor
drawn plan s x = chosen plan s (drawn_value (next_number x) % (plan.lanes + 2))

-- each turn is of the actor who was drawn for it, from this number on
abbrev pub FollowsDraws : Plan → Session → ℕ → List Turned → Type 0
FollowsDraws plan s x [] = Unit {0}
FollowsDraws plan s x (turn ∷ turns) = (actor_in turn ≡ drawn plan s x)
    × FollowsDraws plan (after_turn plan s turn) (next_number x) turns

-- Where a lane has an unanswered request, the actor who is chosen is ready.
abbrev pub ChosenIsReady : Type 0
ChosenIsReady = (plan : Plan) (s : Session) (lane : ℕ) (op : Op) (k : ℕ) → IsSoundSession plan s → lane < plan.lanes
    → plan.request lane (s.number lane) ≡ Some op → k < plan.lanes + 2
    → is_actor_ready plan s (chosen plan s k) ≡ true
