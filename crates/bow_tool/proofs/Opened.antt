-- The first section of a drill's journal: the discard is answered, and the prepare; and what stays of that.
use Rattle.std.proofs.Common.{◌≡◌, ◌≢◌, ◌⊎◌, inl, inr, ℕ, zero, suc, ◌+◌, ◌<◌, ◌≤◌, ◌==◌, Bool, true, false, not, List, [], ◌∷◌, Option, None, Some, arith, refl, sym, ap, ◌∙◌, subst}
use Rattle.std.specs.Prelude.{slice_get, slice_index_or}
use Rattle.bow_units.specs.declared.requests.Op.{Op}
use Rattle.bow_units.specs.declared.requests.Op.TheVariants as ops
use Rattle.bow_units.specs.declared.requests.Outcome.{Outcome}
use Rattle.bow_units.specs.declared.requests.Outcome.TheVariants as outcomes
use Rattle.bow_units.specs.declared.requests.Phase.{Phase}
use Rattle.bow_units.specs.declared.requests.Phase.TheVariants.{Trim, Arming, Checkpoint, Deciding, Committed}
use Rattle.bow_units.specs.declared.sizes.Extent.{Extent}
use Rattle.bow_units.specs.Sizes.{IsInside}
use Rattle.bow_flat.specs.Flat.{Flat, Event, opening, May, after, discards, is_any, Allows, count_below, count_from, put}
use Rattle.bow_flat.specs.Flat.Event.{Arms, Discards, Prepares}
use Rattle.bow_guard.proofs.Device.{one_of}
use Rattle.bow_history.specs.declared.items.Item.{Item}
use Rattle.bow_history.specs.declared.items.Item.TheVariants.{Wrote, Got, Answered}
use Rattle.bow_history.specs.Complete.{AreInOrder}
use Rattle.bow_history.specs.Journal.{Plan, Buffers, Place, beginning, answered, Legal, ItemStep, IsMidway, DiscardRow, IsBetween, IsGot, IsWrote, PrepareRow, Row}
use Rattle.bow_history.specs.Sections.{BySections, section_of}
use Rattle.bow_promise.specs.Cutting.{IsPast}
use Rattle.bow_promise.proofs.Armed.{NoDecides, decides_none, keeps_checkpoint}
use Rattle.bow_promise.proofs.Ways.{keeps_past, legal_happens}

-- ----------------------------------------------------------------------------------------------------------------
-- Two of a range.

one_there : (p : ℕ → Bool) (first n b : ℕ) → first ≤ b → b < first + n → p b ≡ true → 1 ≤ count_from p first n
one_there p first zero b low high is = absurd (omega (arith, low, high))
one_there p first (suc n) b low high is = by (first == b) refl (λ above. one_there p (suc first) n b above (omega (arith, high)) is)
  where
    by : (t : Bool) → (first == b) ≡ t → (suc first ≤ b → 1 ≤ count_from p (suc first) n) → 1 ≤ count_from p first (suc n)
    by true same more = let here : first ≡ b = grind (arith, same) in let yes : p first ≡ true = ap p here ∙ is in grind (arith, yes)
    by false other more = let rest = more (grind (arith, other, low)) in omega (arith, rest)

pub two_there : (p : ℕ → Bool) (first n a b : ℕ) → first ≤ a → a < b → b < first + n → p a ≡ true → p b ≡ true → 2 ≤ count_from p first n
two_there p first zero a b low less high is too = absurd (omega (arith, low, less, high))
two_there p first (suc n) a b low less high is too = by (first == a) refl (λ above. two_there p (suc first) n a b above less (omega (arith, high)) is too)
  where
    by : (t : Bool) → (first == a) ≡ t → (suc first ≤ a → 2 ≤ count_from p (suc first) n) → 2 ≤ count_from p first (suc n)
    by true same more =
        let here : first ≡ a = grind (arith, same) in
        let yes : p first ≡ true = ap p here ∙ is in
        let rest = one_there p (suc first) n b (omega (arith, here, less)) (omega (arith, high)) too in
        grind (arith, yes, rest)
    by false other more = let rest = more (grind (arith, other, low)) in omega (arith, rest)

-- ----------------------------------------------------------------------------------------------------------------
-- Which items come first.

put_there : (next : ℕ → ℕ) (lane value : ℕ) → lane ≢ 0 → put next lane value 0 ≡ next 0
put_there next lane value other = grind (arith, other)

-- how far a lane is never falls
pub rises : (items : List Item) (next last : ℕ → ℕ) (lane : ℕ) → AreInOrder next items last → next lane ≤ last lane
rises [] next last lane order = let same = order lane in omega (arith, same)
rises (Wrote l n b ∷ items) next last lane order = rises items next last lane order.1
rises (Got l n b ∷ items) next last lane order = rises items next last lane order.1
rises (Answered l n outcome ∷ items) next last lane order = by (lane == l) refl (rises items (put next l (suc (next l))) last lane order.1)
  where
    by : (t : Bool) → (lane == l) ≡ t → put next l (suc (next l)) lane ≤ last lane → next lane ≤ last lane
    by true same rest = let here : lane ≡ l = grind (arith, same) in let more : put next l (suc (next l)) lane ≡ suc (next lane) = grind (arith, same, here) in omega (arith, rest, more)
    by false other rest = let more : put next l (suc (next l)) lane ≡ next lane = grind (arith, other) in omega (arith, rest, more)

module _ (plan : Plan) (first : plan.section 0 0 ≡ 0) (second : plan.section 0 1 ≡ 0) where
  -- behind the first section lane 0 does not go on with that
  stuck : (items : List Item) (next last : ℕ → ℕ) (low : ℕ) → 1 ≤ low → next 0 < 2 → AreInOrder next items last → BySections plan low items → last 0 ≡ next 0
  stuck [] next last low behind few order sections = sym (order 0)
  stuck (Wrote lane n b ∷ items) next last low behind few order sections = stuck items next last (plan.section lane n) (let here = sections.0 in omega (arith, here, behind)) few order.1 sections.1
  stuck (Got lane n b ∷ items) next last low behind few order sections = stuck items next last (plan.section lane n) (let here = sections.0 in omega (arith, here, behind)) few order.1 sections.1
  stuck (Answered zero n outcome ∷ items) next last low behind few order sections =
      absurd (clash n (let is = order.0 in omega (arith, is, few)) (let here = sections.0 in omega (arith, here, behind)))
    where
      clash : (n : ℕ) → n < 2 → 1 ≤ plan.section 0 n → ⊥
      clash zero few there = omega (arith, first, there)
      clash (suc zero) few there = omega (arith, second, there)
      clash (suc (suc n)) few there = omega (arith, few)
  stuck (Answered (suc lane) n outcome ∷ items) next last low behind few order sections =
      let same = put_there next (suc lane) (suc (next (suc lane))) (λ is. omega (arith, is)) in
      stuck items (put next (suc lane) (suc (next (suc lane)))) last (plan.section (suc lane) n) (let here = sections.0 in omega (arith, here, behind)) (omega (arith, same, few)) order.1 sections.1 ∙ same

  -- while lane 0 has requests of the first section to go, the next item stands in that
  pub in_the_first : (item : Item) (items : List Item) (next last : ℕ → ℕ) → next 0 < 2 → 2 ≤ last 0 → AreInOrder next (item ∷ items) last → BySections plan 0 (item ∷ items) → section_of plan item ≡ 0
  in_the_first item items next last few all order sections = by (section_of plan item) refl
    where
      by : (k : ℕ) → section_of plan item ≡ k → section_of plan item ≡ 0
      by zero is = is
      by (suc k) is = absurd (let still = stuck (item ∷ items) next last (section_of plan item) (omega (arith, is)) few order (omega arith, sections.1) in omega (arith, still, few, all))

-- ----------------------------------------------------------------------------------------------------------------
-- The answers of the first section.

-- The plan of a drill: lane 0 discards this extent and prepares, and that is the first section. No request commits.
pub record IsDrillPlan (plan : Plan) (e : Extent) : Type 0 where
  pub discard : plan.request 0 0 ≡ Some (ops.Discard e)
  pub prepare : plan.request 0 1 ≡ Some ops.Prepare
  pub first : plan.section 0 0 ≡ 0
  pub second : plan.section 0 1 ≡ 0
  pub alone : (lane n : ℕ) → plan.section lane n ≡ 0 → (lane ≡ 0) × (n < 2)
  pub keeps : (lane n : ℕ) → plan.request lane n ≡ Some ops.Commit → ⊥

-- a request that makes no item but its answer
abbrev IsShort : Op → Type 0
IsShort (ops.Write e payload) = ⊥
IsShort (ops.Read e payload) = ⊥
IsShort op = Unit {0}

module _ (plan : Plan) (buffer : Buffers) where
  -- the answer to a short request, from one place to the next
  pub record IsAnswer (lane : ℕ) (op : Op) (item : Item) (p q : Place) : Type 0 where
    pub outcome : Outcome
    pub item_is : item ≡ Answered lane (p.number lane) outcome
    pub flat : Flat
    pub row : Row plan p op outcome (p.done lane) flat
    pub to : q ≡ answered plan lane op outcome flat p

  not_wrote : (lane b : ℕ) (asked op : Op) (p q : Place) → IsShort asked → op ≡ asked → IsWrote plan lane b op p q → ⊥
  not_wrote lane b (ops.Write e payload) op p q short same wrote = short
  not_wrote lane b (ops.Read e payload) op p q short same wrote = short
  not_wrote lane b (ops.Discard e) op p q short same wrote = subst (λ o. IsWrote plan lane b o p q) same wrote
  not_wrote lane b ops.Flush op p q short same wrote = subst (λ o. IsWrote plan lane b o p q) same wrote
  not_wrote lane b ops.Prepare op p q short same wrote = subst (λ o. IsWrote plan lane b o p q) same wrote
  not_wrote lane b ops.Commit op p q short same wrote = subst (λ o. IsWrote plan lane b o p q) same wrote

  not_got : (lane b : ℕ) (asked op : Op) (p q : Place) → IsShort asked → op ≡ asked → IsGot plan buffer lane b op p q → ⊥
  not_got lane b (ops.Write e payload) op p q short same got = short
  not_got lane b (ops.Read e payload) op p q short same got = short
  not_got lane b (ops.Discard e) op p q short same got = subst (λ o. IsGot plan buffer lane b o p q) same got
  not_got lane b ops.Flush op p q short same got = subst (λ o. IsGot plan buffer lane b o p q) same got
  not_got lane b ops.Prepare op p q short same got = subst (λ o. IsGot plan buffer lane b o p q) same got
  not_got lane b ops.Commit op p q short same got = subst (λ o. IsGot plan buffer lane b o p q) same got

  some_op : (a b : Op) → Some a ≡ Some b → a ≡ b
  some_op a b is = cc

  -- the lane's next request, where it is a short one, comes next with its answer
  pub answer_of : (item : Item) (asked : Op) (p q : Place) → IsShort asked → ((n : ℕ) → section_of plan item ≡ 0 → n ≡ p.number 0 → plan.request 0 n ≡ Some asked)
      → ((lane n : ℕ) → plan.section lane n ≡ 0 → lane ≡ 0) → section_of plan item ≡ 0 → ItemStep plan buffer item p q → IsAnswer 0 asked item p q
  answer_of (Wrote lane n b) asked p q short next alone here step =
      let at : lane ≡ 0 = alone lane n here in
      let is = next n here (step.0 ∙ ap p.number at) in
      absurd (not_wrote lane b asked step.1 p q short (some_op step.1 asked (sym step.2 ∙ ap (λ l. plan.request l n) at ∙ is)) step.3)
  answer_of (Got lane n b) asked p q short next alone here step =
      let at : lane ≡ 0 = alone lane n here in
      let is = next n here (step.0 ∙ ap p.number at) in
      absurd (not_got lane b asked step.1 p q short (some_op step.1 asked (sym step.2 ∙ ap (λ l. plan.request l n) at ∙ is)) step.3)
  answer_of (Answered lane n outcome) asked p q short next alone here step =
      let at : lane ≡ 0 = alone lane n here in
      let is = next n here (step.0 ∙ ap p.number at) in
      let op : step.1 ≡ asked = some_op step.1 asked (sym step.2 ∙ ap (λ l. plan.request l n) at ∙ is) in
      record {
        outcome = outcome;
        item_is = ap (λ l. Answered l n outcome) at ∙ ap (λ m. Answered 0 m outcome) (step.0 ∙ ap p.number at);
        flat = step.3;
        row = subst (λ o. Row plan p o outcome (p.done 0) step.3) op (subst (λ l. Row plan p step.1 outcome (p.done l) step.3) at step.4);
        to = step.5 ∙ ap (λ l. answered plan l step.1 outcome step.3 p) at ∙ ap (λ o. answered plan 0 o outcome step.3 p) op;
      }

-- ----------------------------------------------------------------------------------------------------------------
-- What the first section does.

-- The device is in the checkpoint, and each block below this one was in use at it, and held what the image has there.
pub record KeepsFront (image : List (List ℕ)) (front n : ℕ) (f : Flat) : Type 0 where
  pub phase : f.phase ≡ Checkpoint
  pub used : (b : ℕ) → b < front → f.used b ≡ true
  pub saved : (b : ℕ) → b < front → b < n → f.saved b ≡ slice_index_or image b []

module _ (plan : Plan) (p : Place) (trim : p.flat.phase ≡ Trim) where
  not_between : (phase : Phase) → p.flat.phase ≡ phase → IsBetween phase → ⊥
  not_between phase is (inl arming) = let clash : Trim ≡ Arming = sym trim ∙ is ∙ arming in grind (arith, clash)
  not_between phase is (inr deciding) = let clash : Trim ≡ Deciding = sym trim ∙ is ∙ deciding in grind (arith, clash)

  discard_done : (e : Extent) (outcome : Outcome) (h : Flat) → IsInside e plan.sizes → DiscardRow plan p e outcome h → h ≡ after plan.sizes.blocks (Discards e) p.flat
  discard_done e outcomes.Done h inside row = (row.2).1
  discard_done e outcomes.OutOfRange h inside row = absurd (row.0 inside)
  discard_done e (outcomes.Unsettled phase) h inside row = absurd (not_between phase row.1 row.2)
  discard_done e outcomes.Data h inside row = absurd row
  discard_done e (outcomes.NoSpace n) h inside row = absurd row
  discard_done e (outcomes.DiskFault n) h inside row = absurd row
  discard_done e outcomes.ReservedMagic h inside row = absurd row
  discard_done e (outcomes.WrongPhase phase) h inside row = absurd row

  -- the state in which a prepare was answered Done
  pub record Prepared (h : Flat) : Type 0 where
    pub saved : ℕ → List ℕ
    pub may : Allows plan.sizes.blocks (Arms saved) p.flat
    pub is : h ≡ after plan.sizes.blocks Prepares (after plan.sizes.blocks (Arms saved) p.flat)

  prepare_done : (outcome : Outcome) (h : Flat) → 2 ≤ count_below p.flat.trim plan.sizes.blocks → ((n : ℕ) → outcome ≡ outcomes.DiskFault n → ⊥) → PrepareRow plan p outcome h → Prepared h
  prepare_done outcomes.Done h two fine (inl (saved, (mid, arms, prepares))) =
      record { saved = saved; may = arms.0; is = prepares.1 ∙ ap (after plan.sizes.blocks Prepares) arms.1 }
  prepare_done outcomes.Done h two fine (inr prepares) = absurd (let clash : Trim ≡ Arming = sym trim ∙ prepares.0 in grind (arith, clash))
  prepare_done (outcomes.DiskFault n) h two fine row = absurd (fine n refl)
  prepare_done (outcomes.NoSpace n) h two fine row = absurd (let few = row.2 in omega (arith, few, two))
  prepare_done (outcomes.WrongPhase phase) h two fine row = absurd (row.1 (sym row.0 ∙ trim))
  prepare_done outcomes.Data h two fine row = absurd row
  prepare_done outcomes.OutOfRange h two fine row = absurd row
  prepare_done outcomes.ReservedMagic h two fine row = absurd row
  prepare_done (outcomes.Unsettled phase) h two fine row = absurd row

not_discarded : (e : Extent) (b : ℕ) → b < e.first → discards e b ≡ false
not_discarded e b below = grind (arith, below)

-- the state after both
armed_front : (image : List (List ℕ)) (e : Extent) (n : ℕ) (f h : Flat) (saved : ℕ → List ℕ) → f ≡ after n (Discards e) (opening image) → Allows n (Arms saved) f → h ≡ after n Prepares (after n (Arms saved) f) → KeepsFront image e.first n h
armed_front image e n f h saved is may to = record {
  phase = ap (λ (x : Flat). x.phase) to;
  used = λ b below. ap (λ (x : Flat). x.used b) to ∙ ap (λ k. not (is_any k)) (known b below);
  saved = λ b below inside. ap (λ (x : Flat). x.saved b) to ∙ one_of (slice_index_or image b []) (saved b) (subst (λ k. May k (saved b)) (known b below) (may.2 b inside));
}
  where
    known : (b : ℕ) → b < e.first → f.current b ≡ Some (slice_index_or image b [] ∷ [])
    known b below = ap (λ (x : Flat). x.current b) is ∙ (let not = not_discarded e b below in grind (arith, not))

-- ----------------------------------------------------------------------------------------------------------------
-- What stays.

module _ (plan : Plan) (enough : 4 ≤ plan.sizes.block_size) (keeps : (lane n : ℕ) → plan.request lane n ≡ Some ops.Commit → ⊥) where
  goes_on : (buffer : Buffers) (items : List Item) (p q : Place) (image : List (List ℕ)) (front : ℕ) → Legal plan buffer items p q → KeepsFront image front plan.sizes.blocks p.flat → KeepsFront image front plan.sizes.blocks q.flat
  goes_on buffer items p q image front legal there =
      let happens = legal_happens plan enough NoDecides buffer items p q (λ i item at event of. decides_none plan item (λ lane number outcome is asked. keeps lane number asked) event of) legal in
      let past = keeps_past plan.sizes.blocks NoDecides happens.0 p.flat q.flat happens.1 (subst IsPast (sym there.phase) tt) in
      record {
        phase = keeps_checkpoint plan.sizes.blocks happens.0 p.flat q.flat happens.1 there.phase;
        used = λ b below. ap (λ (u : ℕ → Bool). u b) past.used ∙ there.used b below;
        saved = λ b below inside. ap (λ (u : ℕ → List ℕ). u b) past.saved ∙ there.saved b below inside;
      }

  midway_too : (p : Place) (f : Flat) (image : List (List ℕ)) (front : ℕ) → IsMidway plan p f → KeepsFront image front plan.sizes.blocks p.flat → KeepsFront image front plan.sizes.blocks f
  midway_too p f image front (inl same) there = subst (KeepsFront image front plan.sizes.blocks) (sym same) there
  midway_too p f image front (inr (inl (lane, next, saved, arms))) there = absurd (let clash : Checkpoint ≡ Trim = sym there.phase ∙ (arms.0).0 in grind (arith, clash))
  midway_too p f image front (inr (inr (lane, next, decides))) there = absurd (keeps lane (p.number lane) next)

-- Where the first section of a drill's plan is answered, and its prepare without a fault, the checkpoint stands, and has
-- what the image held.
module _ (plan : Plan) (e : Extent) (k : IsDrillPlan plan e) (enough : 4 ≤ plan.sizes.block_size) (inside : IsInside e plan.sizes)
    (two : 2 ≤ count_below (after plan.sizes.blocks (Discards e) (opening [])).trim plan.sizes.blocks) (buffer : Buffers) (image : List (List ℕ)) where
  abbrev pub start : Place
  start = beginning (opening image)

  behind_both : (items : List Item) (q : Place) (x y : Item) (mid next : Place) → IsAnswer plan buffer 0 (ops.Discard e) x start mid → IsAnswer plan buffer 0 ops.Prepare y mid next
      → ((lane n j : ℕ) → y ≡ Answered lane n (outcomes.DiskFault j) → ⊥) → Legal plan buffer items next q → KeepsFront image e.first plan.sizes.blocks q.flat
  behind_both items q x y mid next one other fine rest =
      let done : mid.flat ≡ after plan.sizes.blocks (Discards e) (opening image) = ap (λ (z : Place). z.flat) one.to ∙ discard_done plan start refl e one.outcome one.flat inside one.row in
      let trim : mid.flat.phase ≡ Trim = ap (λ (z : Flat). z.phase) done in
      let free : 2 ≤ count_below mid.flat.trim plan.sizes.blocks = subst (λ (z : Flat). 2 ≤ count_below z.trim plan.sizes.blocks) (sym done) two in
      let prepared = prepare_done plan mid trim other.outcome other.flat free (λ n is. fine 0 (mid.number 0) n (other.item_is ∙ ap (Answered 0 (mid.number 0)) is)) other.row in
      let here : KeepsFront image e.first plan.sizes.blocks next.flat = armed_front image e plan.sizes.blocks mid.flat next.flat prepared.saved done prepared.may (ap (λ (z : Place). z.flat) other.to ∙ prepared.is) in
      goes_on plan enough k.keeps buffer items next q image e.first rest here

  pub checkpoint_stands : (items : List Item) (q : Place) (last : ℕ → ℕ) → Legal plan buffer items start q → AreInOrder (λ lane. 0) items last → BySections plan 0 items → 2 ≤ last 0
      → ((lane n j : ℕ) → slice_get items 1 ≡ Some (Answered lane n (outcomes.DiskFault j)) → ⊥) → (f : Flat) → IsMidway plan q f → KeepsFront image e.first plan.sizes.blocks f
  checkpoint_stands [] q last legal order sections all fine f midway = absurd (let none = order 0 in omega (arith, none, all))
  checkpoint_stands (x ∷ []) q last (mid, step, rest) order sections all fine f midway =
      let first = in_the_first plan k.first k.second x [] (λ lane. 0) last (omega arith) all order sections in
      let one = first_answer x mid first step in
      absurd (let short : 1 ≡ last 0 = (subst (λ i. AreInOrder (λ lane. 0) (i ∷ []) last) one.item_is order).1 0 in omega (arith, short, all))
    where
      first_answer : (x : Item) (mid : Place) → section_of plan x ≡ 0 → ItemStep plan buffer x start mid → IsAnswer plan buffer 0 (ops.Discard e) x start mid
      first_answer x mid here step = answer_of plan buffer x (ops.Discard e) start mid tt (λ n at is. ap (plan.request 0) is ∙ k.discard) (λ lane n at. (k.alone lane n at).0) here step
  checkpoint_stands (x ∷ (y ∷ items)) q last (mid, step, (next, step_2, rest)) order sections all fine f midway =
      let first = in_the_first plan k.first k.second x (y ∷ items) (λ lane. 0) last (omega arith) all order sections in
      let one = answer_of plan buffer x (ops.Discard e) start mid tt (λ n at is. ap (plan.request 0) is ∙ k.discard) (λ lane n at. (k.alone lane n at).0) first step in
      let order_2 : AreInOrder (put (λ lane. 0) 0 1) (y ∷ items) last = (subst (λ i. AreInOrder (λ lane. 0) (i ∷ (y ∷ items)) last) one.item_is order).1 in
      let sections_2 : BySections plan 0 (y ∷ items) = subst (λ low. BySections plan low (y ∷ items)) first sections.1 in
      let second = in_the_first plan k.first k.second y items (put (λ lane. 0) 0 1) last (omega arith) all order_2 sections_2 in
      let number : mid.number 0 ≡ 1 = ap (λ (z : Place). z.number 0) one.to in
      let other = answer_of plan buffer y ops.Prepare mid next tt (λ n at is. ap (plan.request 0) (is ∙ number) ∙ k.prepare) (λ lane n at. (k.alone lane n at).0) second step_2 in
      midway_too plan enough k.keeps q f image e.first midway (behind_both items q x y mid next one other (λ lane n j is. fine lane n j (ap Some is)) rest)
