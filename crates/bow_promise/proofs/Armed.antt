-- The moment at which a prepare armed.
use Rattle.std.proofs.Common.{◌≡◌, ◌⊎◌, inl, inr, ℕ, suc, ◌<◌, ◌≤◌, Bool, true, not, List, [], ◌∷◌, take, Some, arith, refl, sym, ap, ◌∙◌, subst}
use Rattle.std.specs.Prelude.{slice_get}
use Rattle.bow_units.specs.declared.requests.Op.{Op}
use Rattle.bow_units.specs.declared.requests.Op.TheVariants as ops
use Rattle.bow_units.specs.declared.requests.Outcome.{Outcome}
use Rattle.bow_units.specs.declared.requests.Outcome.TheVariants as outcomes
use Rattle.bow_units.specs.declared.requests.Phase.{Phase}
use Rattle.bow_units.specs.declared.requests.Phase.TheVariants.{Trim, Arming, Checkpoint, Deciding, Committed}
use Rattle.bow_flat.specs.Flat.{Flat, Event, May, is_any, after, Allows}
use Rattle.bow_flat.specs.Flat.Event.{Writes, Fails, Reads, Discards, Flushes, Arms, Prepares, Decides, Commits, Rests}
use Rattle.bow_history.specs.declared.items.Item.{Item}
use Rattle.bow_history.specs.declared.items.Item.TheVariants.{Wrote, Got, Answered}
use Rattle.bow_history.specs.Journal.{Plan, Buffers, Place, Legal, ItemStep, PrepareRow, Row}
use Rattle.bow_promise.proofs.Ways.{Happen, IsOf, Asked, item_happens, legal_happens}

-- ----------------------------------------------------------------------------------------------------------------
-- Events that don't arm, or that don't decide.

abbrev pub NoArms : Event → Type 0
NoArms (Arms saved) = ⊥
NoArms event = Unit {0}

abbrev pub NoDecides : Event → Type 0
NoDecides Decides = ⊥
NoDecides event = Unit {0}

event_trim : (n : ℕ) (event : Event) (f : Flat) → f.phase ≡ Trim → Allows n event f → NoArms event → (after n event f).phase ≡ Trim
event_trim n (Writes b v) f is may none = is
event_trim n (Fails b v) f is may none = is
event_trim n (Reads b v) f is may none = is
event_trim n (Discards e) f is may none = is
event_trim n Flushes f is may none = is
event_trim n (Arms saved) f is may none = absurd none
event_trim n Prepares f is may none = absurd (let clash : Trim ≡ Arming = sym is ∙ may in grind (arith, clash))
event_trim n Decides f is may none = absurd (let clash : Trim ≡ Checkpoint = sym is ∙ may in grind (arith, clash))
event_trim n Commits f is may none = absurd (let clash : Trim ≡ Deciding = sym is ∙ may in grind (arith, clash))
event_trim n Rests f is may none = is

pub keeps_trim : (n : ℕ) (events : List Event) (f h : Flat) → Happen n NoArms events f h → f.phase ≡ Trim → h.phase ≡ Trim
keeps_trim n [] f h same is = ap (λ (x : Flat). x.phase) same ∙ is
keeps_trim n (event ∷ events) f h (may, orderly, none, more) is = keeps_trim n events (after n event f) h more (event_trim n event f is may none)

event_checkpoint : (n : ℕ) (event : Event) (f : Flat) → f.phase ≡ Checkpoint → Allows n event f → NoDecides event → (after n event f).phase ≡ Checkpoint
event_checkpoint n (Writes b v) f is may none = is
event_checkpoint n (Fails b v) f is may none = is
event_checkpoint n (Reads b v) f is may none = is
event_checkpoint n (Discards e) f is may none = is
event_checkpoint n Flushes f is may none = is
event_checkpoint n (Arms saved) f is may none = absurd (let clash : Checkpoint ≡ Trim = sym is ∙ may.0 in grind (arith, clash))
event_checkpoint n Prepares f is may none = absurd (let clash : Checkpoint ≡ Arming = sym is ∙ may in grind (arith, clash))
event_checkpoint n Decides f is may none = absurd none
event_checkpoint n Commits f is may none = absurd (let clash : Checkpoint ≡ Deciding = sym is ∙ may in grind (arith, clash))
event_checkpoint n Rests f is may none = is

pub keeps_checkpoint : (n : ℕ) (events : List Event) (f h : Flat) → Happen n NoDecides events f h → f.phase ≡ Checkpoint → h.phase ≡ Checkpoint
keeps_checkpoint n [] f h same is = ap (λ (x : Flat). x.phase) same ∙ is
keeps_checkpoint n (event ∷ events) f h (may, orderly, none, more) is = keeps_checkpoint n events (after n event f) h more (event_checkpoint n event f is may none)

-- an item that answers no such request
abbrev pub AnswersNone : Plan → Op → Item → Type 0
AnswersNone plan op item = (lane number : ℕ) (outcome : Outcome) → item ≡ Answered lane number outcome → plan.request lane number ≡ Some op → ⊥

not_asked : (plan : Plan) (op : Op) (item : Item) → AnswersNone plan op item → Asked plan op item → ⊥
not_asked plan op (Answered lane number outcome) none asked = none lane number outcome refl asked
not_asked plan op (Wrote lane number b) none asked = asked
not_asked plan op (Got lane number b) none asked = asked

pub arms_none : (plan : Plan) (item : Item) → AnswersNone plan ops.Prepare item → (event : Event) → IsOf plan item event → NoArms event
arms_none plan item none (Writes b v) of = tt
arms_none plan item none (Fails b v) of = tt
arms_none plan item none (Reads b v) of = tt
arms_none plan item none (Discards e) of = tt
arms_none plan item none Flushes of = tt
arms_none plan item none (Arms saved) of = not_asked plan ops.Prepare item none of
arms_none plan item none Prepares of = tt
arms_none plan item none Decides of = tt
arms_none plan item none Commits of = tt
arms_none plan item none Rests of = tt

pub decides_none : (plan : Plan) (item : Item) → AnswersNone plan ops.Commit item → (event : Event) → IsOf plan item event → NoDecides event
decides_none plan item none (Writes b v) of = tt
decides_none plan item none (Fails b v) of = tt
decides_none plan item none (Reads b v) of = tt
decides_none plan item none (Discards e) of = tt
decides_none plan item none Flushes of = tt
decides_none plan item none (Arms saved) of = tt
decides_none plan item none Prepares of = tt
decides_none plan item none Decides of = not_asked plan ops.Commit item none of
decides_none plan item none Commits of = tt
decides_none plan item none Rests of = tt

-- ----------------------------------------------------------------------------------------------------------------
-- The checkpoint of an armed state.

-- a checkpoint was taken
abbrev pub IsArmed : Phase → Type 0
IsArmed Trim = ⊥
IsArmed Arming = Unit {0}
IsArmed Checkpoint = Unit {0}
IsArmed Deciding = Unit {0}
IsArmed Committed = Unit {0}

not_trim : (phase : Phase) → IsArmed phase → phase ≡ Trim → ⊥
not_trim phase armed is = subst IsArmed is armed

trim_or_armed : (phase : Phase) → (phase ≡ Trim) ⊎ IsArmed phase
trim_or_armed Trim = inl refl
trim_or_armed Arming = inr tt
trim_or_armed Checkpoint = inr tt
trim_or_armed Deciding = inr tt
trim_or_armed Committed = inr tt

-- the checkpoint of the second state is what the blocks held in the first
pub record TakenIn (n : ℕ) (f h : Flat) : Type 0 where
  pub used : (b : ℕ) → h.used b ≡ not (is_any (f.current b))
  pub saved : (b : ℕ) → b < n → h.used b ≡ true → May (f.current b) (h.saved b)

-- it stays
record StaysArmed (f h : Flat) : Type 0 where
  armed : IsArmed h.phase
  used : h.used ≡ f.used
  saved : h.saved ≡ f.saved

event_armed : (n : ℕ) (event : Event) (f : Flat) → IsArmed f.phase → Allows n event f → StaysArmed f (after n event f)
event_armed n (Writes b v) f armed may = record { armed = armed; used = refl; saved = refl }
event_armed n (Fails b v) f armed may = record { armed = armed; used = refl; saved = refl }
event_armed n (Reads b v) f armed may = record { armed = armed; used = refl; saved = refl }
event_armed n (Discards e) f armed may = record { armed = armed; used = refl; saved = refl }
event_armed n Flushes f armed may = record { armed = armed; used = refl; saved = refl }
event_armed n (Arms saved) f armed may = absurd (not_trim f.phase armed may.0)
event_armed n Prepares f armed may = record { armed = tt; used = refl; saved = refl }
event_armed n Decides f armed may = record { armed = tt; used = refl; saved = refl }
event_armed n Commits f armed may = record { armed = tt; used = refl; saved = refl }
event_armed n Rests f armed may = record { armed = armed; used = refl; saved = refl }

keeps_armed : (n : ℕ) (Q : Event → Type 0) (events : List Event) (f h : Flat) → Happen n Q events f h → IsArmed f.phase → StaysArmed f h
keeps_armed n Q [] f h is armed = record { armed = subst (λ (x : Flat). IsArmed x.phase) (sym is) armed; used = ap (λ (x : Flat). x.used) is; saved = ap (λ (x : Flat). x.saved) is }
keeps_armed n Q (event ∷ events) f h (may, orderly, of, more) armed =
    let one = event_armed n event f armed may in
    let rest = keeps_armed n Q events (after n event f) h more one.armed in
    record { armed = rest.armed; used = rest.used ∙ one.used; saved = rest.saved ∙ one.saved }

taken_on : (n : ℕ) (f mid h : Flat) → TakenIn n f mid → mid.used ≡ h.used → mid.saved ≡ h.saved → TakenIn n f h
taken_on n f mid h taken used saved = record {
  used = λ b. ap (λ (u : ℕ → Bool). u b) (sym used) ∙ taken.used b;
  saved = λ b below in_use. subst (λ (s : ℕ → List ℕ). May (f.current b) (s b)) saved (taken.saved b below (ap (λ (u : ℕ → Bool). u b) used ∙ in_use));
}

pub arms_take : (n : ℕ) (saved : ℕ → List ℕ) (f : Flat) → Allows n (Arms saved) f → TakenIn n f (after n (Arms saved) f)
arms_take n saved f may = record { used = λ b. refl; saved = λ b below in_use. may.2 b below }

-- ----------------------------------------------------------------------------------------------------------------
-- An item that arms answers a prepare.

module _ (plan : Plan) (enough : 4 ≤ plan.sizes.block_size) (buffer : Buffers) where
  abbrev blocks : ℕ
  blocks = plan.sizes.blocks

  -- of an item that may arm: it did not, or it answers a prepare and took the checkpoint
  abbrev MayArm : Item → Place → Place → Type 0
  MayArm item before behind = (behind.flat.phase ≡ Trim) ⊎ (Asked plan ops.Prepare item × TakenIn blocks before.flat behind.flat)

  still_trim : (item : Item) (before behind : Place) → AnswersNone plan ops.Prepare item → ItemStep plan buffer item before behind → before.flat.phase ≡ Trim → behind.flat.phase ≡ Trim
  still_trim item before behind none step trim =
      let happens = item_happens plan enough buffer item before behind step in
      keeps_trim blocks happens.0 before.flat behind.flat (narrowed happens.0 before.flat happens.1) trim
    where
      narrowed : (events : List Event) (f : Flat) → Happen blocks (IsOf plan item) events f behind.flat → Happen blocks NoArms events f behind.flat
      narrowed [] f is = is
      narrowed (event ∷ events) f (may, orderly, of, more) = (may, orderly, arms_none plan item none event of, narrowed events (after blocks event f) more)

  prepare_takes : (before : Place) (h : Flat) (outcome : Outcome) → PrepareRow plan before outcome h → before.flat.phase ≡ Trim → (h.phase ≡ Trim) ⊎ TakenIn blocks before.flat h
  prepare_takes before h outcomes.Done (inl (saved, (mid, arms, prepares))) trim =
      let taken : TakenIn blocks before.flat mid = subst (TakenIn blocks before.flat) (sym arms.1) (arms_take blocks saved before.flat arms.0) in
      inr (taken_on blocks before.flat mid h taken (sym (ap (λ (x : Flat). x.used) prepares.1)) (sym (ap (λ (x : Flat). x.saved) prepares.1)))
  prepare_takes before h outcomes.Done (inr prepares) trim = absurd (let clash : Trim ≡ Arming = sym trim ∙ prepares.0 in grind (arith, clash))
  prepare_takes before h (outcomes.DiskFault n) (is, phase, inl same) trim = inl (ap (λ (x : Flat). x.phase) same ∙ trim)
  prepare_takes before h (outcomes.DiskFault n) (is, phase, inr (saved, arms)) trim = inr (subst (TakenIn blocks before.flat) (sym arms.1) (arms_take blocks saved before.flat arms.0))
  prepare_takes before h (outcomes.NoSpace n) row trim = inl (ap (λ (x : Flat). x.phase) row.3 ∙ trim)
  prepare_takes before h (outcomes.WrongPhase phase) row trim = inl (ap (λ (x : Flat). x.phase) row.3 ∙ trim)
  prepare_takes before h outcomes.Data row trim = absurd row
  prepare_takes before h outcomes.OutOfRange row trim = absurd row
  prepare_takes before h outcomes.ReservedMagic row trim = absurd row
  prepare_takes before h (outcomes.Unsettled phase) row trim = absurd row

  other_op : (lane number : ℕ) (outcome : Outcome) (op : Op) → plan.request lane number ≡ Some op → (op ≡ ops.Prepare → ⊥) → AnswersNone plan ops.Prepare (Answered lane number outcome)
  other_op lane number outcome op next other lane' number' outcome' is asked = other (cc (is, next, asked))

  answer_arms : (lane number : ℕ) (outcome : Outcome) (before behind : Place) → ItemStep plan buffer (Answered lane number outcome) before behind → before.flat.phase ≡ Trim
      → (op : Op) → plan.request lane number ≡ Some op → (flat : Flat) → Row plan before op outcome (before.done lane) flat → behind.flat ≡ flat → MayArm (Answered lane number outcome) before behind
  answer_arms lane number outcome before behind step trim (ops.Write e payload) next flat row to = inl (still_trim (Answered lane number outcome) before behind (other_op lane number outcome (ops.Write e payload) next (λ is. cc is)) step trim)
  answer_arms lane number outcome before behind step trim (ops.Read e payload) next flat row to = inl (still_trim (Answered lane number outcome) before behind (other_op lane number outcome (ops.Read e payload) next (λ is. cc is)) step trim)
  answer_arms lane number outcome before behind step trim (ops.Discard e) next flat row to = inl (still_trim (Answered lane number outcome) before behind (other_op lane number outcome (ops.Discard e) next (λ is. cc is)) step trim)
  answer_arms lane number outcome before behind step trim ops.Flush next flat row to = inl (still_trim (Answered lane number outcome) before behind (other_op lane number outcome ops.Flush next (λ is. cc is)) step trim)
  answer_arms lane number outcome before behind step trim ops.Prepare next flat row to = elim (prepare_takes before flat outcome row trim) [
    | inl still ↦ inl (ap (λ (x : Flat). x.phase) to ∙ still)
    | inr taken ↦ inr (next, subst (TakenIn blocks before.flat) (sym to) taken)
  ]
  answer_arms lane number outcome before behind step trim ops.Commit next flat row to = inl (still_trim (Answered lane number outcome) before behind (other_op lane number outcome ops.Commit next (λ is. cc is)) step trim)

  item_arms : (item : Item) (before behind : Place) → ItemStep plan buffer item before behind → before.flat.phase ≡ Trim → MayArm item before behind
  item_arms (Wrote lane number b) before behind step trim = inl (still_trim (Wrote lane number b) before behind (λ l m o is asked. cc is) step trim)
  item_arms (Got lane number b) before behind step trim = inl (still_trim (Got lane number b) before behind (λ l m o is asked. cc is) step trim)
  item_arms (Answered lane number outcome) before behind (is, op, next, flat, row, to) trim =
      answer_arms lane number outcome before behind (is, op, next, flat, row, to) trim op next flat row (ap (λ (x : Place). x.flat) to)

  -- ----------------------------------------------------------------------------------------------------------------

  -- where a journal took the checkpoint: right before the item of this index, which answers a prepare
  pub record ArmedAt (items : List Item) (p : Place) (h : Flat) : Type 0 where
    pub index : ℕ
    pub item : Item
    pub here : slice_get items index ≡ Some item
    pub asked : Asked plan ops.Prepare item
    pub then : Place
    pub way : Legal plan buffer (take index items) p then
    pub taken : TakenIn blocks then.flat h

  pub armed_at : (items : List Item) (p q : Place) → Legal plan buffer items p q → p.flat.phase ≡ Trim → IsArmed q.flat.phase → ArmedAt items p q.flat
  armed_at [] p q is trim armed = absurd (not_trim q.flat.phase armed (ap (λ (x : Place). x.flat.phase) is ∙ trim))
  armed_at (item ∷ items) p q (mid, step, rest) trim armed = elim (trim_or_armed mid.flat.phase) [
    | inl still ↦
        let later = armed_at items mid q rest still armed in
        record { index = suc later.index; item = later.item; here = later.here; asked = later.asked; then = later.then; way = (mid, step, later.way); taken = later.taken }
    | inr armed_now ↦ elim (item_arms item p mid step trim) [
      | inl still ↦ absurd (not_trim mid.flat.phase armed_now still)
      | inr (asked, taken) ↦
          let on = legal_happens plan enough (λ event. Unit {0}) buffer items mid q (λ j other here event of. tt) rest in
          let stays = keeps_armed blocks (λ event. Unit {0}) on.0 mid.flat q.flat on.1 armed_now in
          record { index = 0; item = item; here = refl; asked = asked; then = p; way = refl; taken = taken_on blocks p.flat mid.flat q.flat taken (sym stays.used) (sym stays.saved) }
    ]
  ]
