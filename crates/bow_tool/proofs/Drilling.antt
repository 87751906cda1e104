-- A session that goes on turn by turn, by the draws of one number.
use Rattle.std.proofs.Common.{◌≡◌, ◌⊎◌, inl, inr, ℕ, zero, suc, ◌+◌, ◌<◌, ◌≤◌, List, [], ◌∷◌, ◌++◌, length, Option, Some, arith, refl, sym, ap, ◌∙◌, subst, length-append, append-nil, append_assoc}
use Rattle.bow_units.specs.Draws.{next_number}
use Rattle.bow_units.specs.declared.sizes.Geometry.{Geometry}
use Rattle.bow_disk.specs.Disk.{Content, IsCrash, IsShaped}
use Rattle.bow_core.specs.Views.{View}
use Rattle.bow_script.specs.Drills.{after}
use Rattle.bow_script.specs.declared.scripts.Line.{Line}
use Rattle.bow_session.specs.Requests.{lane_lines}
use Rattle.bow_history.specs.Ends.{actor_in}
use Rattle.bow_history.specs.Histories.{session_after}
use Rattle.bow_history.specs.Journal.{Plan}
use Rattle.bow_history.specs.Schedule.{FollowsDraws, drawn}
use Rattle.bow_history.specs.Sessions.{Session, Turned, after_turn}
use Rattle.bow_session.specs.Runs.{begun_over}
use Rattle.bow_session.specs.Sessions.{IsOver, Run, lane_at, plan_in, state_in}
use Rattle.bow_session.specs.Turns.{IsOneTurn}
use Rattle.bow_session.proofs.Cutting.{plan_stays}
use Rattle.bow_session.proofs.Leading.{loaded_on}
use Rattle.bow_session.proofs.Running.{run_on}
use Rattle.bow_tool.specs.Outside.{DiskView, disk_view}
use Rattle.bow_tool.specs.Drills.{DrawsOn, IsAnswered, IsDrawn, Waits}

-- the first of so many draws
after_next : (n x : ℕ) → after (suc n) x ≡ after n (next_number x)
unfolding after
after_next zero x = refl
after_next (suc n) x = ap next_number (after_next n x)

pub after_none : (x : ℕ) → after 0 x ≡ x
unfolding after
after_none x = refl

pub after_more : (n x : ℕ) → after (suc n) x ≡ next_number (after n x)
unfolding after
after_more n x = refl

-- one turn more
follows_more : (plan : Plan) (s : Session) (x : ℕ) (turns : List Turned) (turn : Turned) → FollowsDraws plan s x turns → actor_in turn ≡ drawn plan (session_after plan s turns) (after (length turns) x) → FollowsDraws plan s x (turns ++ turn ∷ [])
follows_more plan s x [] turn follows is = (is ∙ ap (drawn plan s) (after_none x), tt)
follows_more plan s x (t ∷ turns) turn follows is =
    (follows.0, follows_more plan (after_turn plan s t) (next_number x) turns turn follows.1 (is ∙ ap (drawn plan (session_after plan (after_turn plan s t) turns)) (after_next (length turns) x)))

waits_more : (plan : Plan) (s : Session) (turns : List Turned) (turn : Turned) → Waits plan s turns → (session_after plan s turns).number 0 < 2 → Waits plan s (turns ++ turn ∷ [])
waits_more plan s [] turn waits low = (low, tt)
waits_more plan s (t ∷ turns) turn waits low = (waits.0, waits_more plan (after_turn plan s t) turns turn waits.1 low)

length_more : (turns : List Turned) (turn : Turned) → length (turns ++ turn ∷ []) ≡ suc (length turns)
length_more turns turn = let long = length-append turns (turn ∷ []) in omega (arith, long)

-- a session that stays
pub still_waits : {D : Type 0} (stated : D → Option Geometry) (content : D → Option Content) (moment : D → ℕ) (left : D → ℕ → List (List ℕ) → Type 0) (faults : D → ℕ) (seed : ℕ) (first : View D) (old new : Run D) (number next : ℕ) → new ≡ old → next ≡ number
    → (j : IsDrawn (disk_view stated content moment left faults) seed first old number) × Waits (plan_in old) (begun_over first) j.turns
    → (j : IsDrawn (disk_view stated content moment left faults) seed first new next) × Waits (plan_in new) (begun_over first) j.turns
still_waits stated content moment left faults seed first old new number next same stays waits =
    subst (λ s. (j : IsDrawn (disk_view stated content moment left faults) seed first s next) × Waits (plan_in s) (begun_over first) j.turns) (sym same)
    (subst (λ n. (j : IsDrawn (disk_view stated content moment left faults) seed first old n) × Waits (plan_in old) (begun_over first) j.turns) (sym stays) waits)

pub still_draws : {D : Type 0} (stated : D → Option Geometry) (content : D → Option Content) (moment : D → ℕ) (left : D → ℕ → List (List ℕ) → Type 0) (faults : D → ℕ) (seed : ℕ) (first : View D) (turns : List Turned) (many : ℕ) (old new : Run D) (number next : ℕ) → new ≡ old → next ≡ number
    → DrawsOn (disk_view stated content moment left faults) seed first turns many old number → DrawsOn (disk_view stated content moment left faults) seed first turns many new next
still_draws stated content moment left faults seed first turns many old new number next same stays d =
    subst (λ s. DrawsOn (disk_view stated content moment left faults) seed first turns many s next) (sym same)
    (subst (λ n. DrawsOn (disk_view stated content moment left faults) seed first turns many old n) (sym stays) d)

module _ {D : Type 0} (stated : D → Option Geometry) (content : D → Option Content) (moment : D → ℕ) (left : D → ℕ → List (List ℕ) → Type 0) (faults : D → ℕ)
    (shaped : (d : D) (c : Content) → content d ≡ Some c → (g : Geometry) → stated d ≡ Some g → IsShaped g.block_size g.blocks c)
    (only_now : (d : D) (c : Content) → content d ≡ Some c → (t : ℕ) (image : List (List ℕ)) → moment d ≤ t → left d t image → IsCrash c.candidates image) where
  abbrev v : DiskView D
  v = disk_view stated content moment left faults

  -- what one turn of the actor who was drawn makes of a session
  pub record WentOn (seed : ℕ) (first : View D) (old new : Run D) (number next : ℕ) (k : IsDrawn v seed first old number) : Type 0 where
    pub turn : Turned
    pub drawn : IsDrawn v seed first new next
    pub turns : drawn.turns ≡ k.turns ++ turn ∷ []
    pub plan : plan_in new ≡ plan_in old

  pub went_on : (seed : ℕ) (first : View D) (old new : Run D) (number next : ℕ) (k : IsDrawn v seed first old number) (turn : Turned) → actor_in turn ≡ drawn (plan_in old) (state_in old) number
      → IsOneTurn stated content moment left faults old turn new → next ≡ next_number number → WentOn seed first old new number next k
  went_on seed first old new number next k turn is one after_it =
      let turns = k.turns in
      let plan = plan_stays stated content moment left faults old turn new one in
      record {
        turn = turn;
        drawn = record {
          turns = turns ++ turn ∷ [];
          run = run_on stated content moment left faults shaped first turns old turn new k.run one;
          loaded = loaded_on stated content moment left faults shaped only_now first old turn new k.loaded one;
          drawn = subst (λ p. FollowsDraws p (begun_over first) seed (turns ++ turn ∷ [])) (sym plan)
              (follows_more (plan_in old) (begun_over first) seed turns turn k.drawn (is ∙ ap (λ s. drawn (plan_in old) s number) (sym (k.run).state) ∙ ap (drawn (plan_in old) (session_after (plan_in old) (begun_over first) turns)) k.reached));
          reached = after_it ∙ ap next_number k.reached ∙ sym (after_more (length turns) seed) ∙ ap (λ n. after n seed) (sym (length_more turns turn));
        };
        turns = refl;
        plan = plan;
      }

  -- while the first section is not answered
  pub waits_on : (seed : ℕ) (first : View D) (old new : Run D) (number next : ℕ) (k : IsDrawn v seed first old number) (w : WentOn seed first old new number next k)
      → Waits (plan_in old) (begun_over first) k.turns → (state_in old).number 0 < 2 → (j : IsDrawn v seed first new next) × Waits (plan_in new) (begun_over first) j.turns
  waits_on seed first old new number next k w waits low = (
    w.drawn,
    subst (λ p. Waits p (begun_over first) ((w.drawn).turns)) (sym w.plan) (subst (Waits (plan_in old) (begun_over first)) (sym w.turns)
        (waits_more (plan_in old) (begun_over first) k.turns w.turn waits (subst (λ (s : Session). s.number 0 < 2) (sym (k.run).state) low))),
  )

  pub waited_on : (seed : ℕ) (first : View D) (old new : Run D) (number next : ℕ) (k : IsDrawn v seed first old number) → Waits (plan_in old) (begun_over first) k.turns → (turn : Turned)
      → actor_in turn ≡ drawn (plan_in old) (state_in old) number → IsOneTurn stated content moment left faults old turn new → next ≡ next_number number → (state_in old).number 0 < 2
      → (j : IsDrawn v seed first new next) × Waits (plan_in new) (begun_over first) j.turns
  waited_on seed first old new number next k waits turn is one after_it low = waits_on seed first old new number next k (went_on seed first old new number next k turn is one after_it) waits low

  -- and after that
  pub draws_none : (seed : ℕ) (first : View D) (s : Run D) (number : ℕ) (k : IsDrawn v seed first s number) → DrawsOn v seed first k.turns 0 s number
  draws_none seed first s number k = record { drawn = k; more = []; all = sym (append-nil k.turns); count = refl }

  pub draws_more : (seed : ℕ) (first : View D) (turns : List Turned) (many : ℕ) (old new : Run D) (number next : ℕ) (d : DrawsOn v seed first turns many old number) → WentOn seed first old new number next d.drawn
      → DrawsOn v seed first turns (many + 1) new next
  draws_more seed first turns many old new number next d w = record {
    drawn = w.drawn;
    more = d.more ++ w.turn ∷ [];
    all = w.turns ∙ ap (λ ts. ts ++ w.turn ∷ []) d.all ∙ append_assoc turns d.more (w.turn ∷ []);
    count = length_more d.more w.turn ∙ (let c = d.count in omega (arith, c));
  }

  pub drew_on : (seed : ℕ) (first : View D) (turns : List Turned) (many : ℕ) (old new : Run D) (number next : ℕ) (d : DrawsOn v seed first turns many old number) → (turn : Turned)
      → actor_in turn ≡ drawn (plan_in old) (state_in old) number → IsOneTurn stated content moment left faults old turn new → next ≡ next_number number → DrawsOn v seed first turns (many + 1) new next
  drew_on seed first turns many old new number next d turn is one after_it = draws_more seed first turns many old new number next d (went_on seed first old new number next d.drawn turn is one after_it)

  -- the first section is answered, and then there are turns more
  pub opened_and_on : (seed : ℕ) (first : View D) (start mid new : Run D) (from at number many : ℕ) → from ≡ seed
      → ((k : IsDrawn v seed first start from) → k.turns ≡ [] → (j : IsDrawn v seed first mid at) × Waits (plan_in mid) (begun_over first) j.turns)
      → ((j : IsDrawn v seed first mid at) → DrawsOn v seed first j.turns many new number) → plan_in new ≡ plan_in mid → 2 ≤ (state_in mid).number 0
      → (k : IsDrawn v seed first start seed) → k.turns ≡ []
      → (opening : List Turned) × (n : ℕ) × DrawsOn v seed first opening many new n × Waits (plan_in new) (begun_over first) opening × IsAnswered (plan_in new) (begun_over first) opening
  opened_and_on seed first start mid new from at number many is opens goes same answered k none =
      let opened = subst (λ n. (i : IsDrawn v seed first start n) → i.turns ≡ [] → (j : IsDrawn v seed first mid at) × Waits (plan_in mid) (begun_over first) j.turns) is opens k none in
      let j = opened.0 in (
        j.turns,
        number,
        goes j,
        subst (λ p. Waits p (begun_over first) j.turns) (sym same) opened.1,
        subst (λ p. IsAnswered p (begun_over first) j.turns) (sym same) (subst (λ (s : Session). 2 ≤ s.number 0) (sym (j.run).state) answered),
      )

-- a session that is over has answered the requests of lane 0
pub two_answered : {D : Type 0} (script : List (List (List Line))) (s : Run D) → s.script ≡ script → 2 ≤ length (lane_lines script 0) → (2 ≤ length ((lane_at s.lanes 0).answered)) ⊎ IsOver s → 2 ≤ (state_in s).number 0
two_answered script s same two (inl answered) = answered
two_answered script s same two (inr over) = let all = over 0 in let lines = ap (λ x. length (lane_lines x 0)) same in omega (arith, all, lines, two)
