-- Seats are put together.
use Rattle.std.proofs.Common.{◌≡◌, ℕ, zero, suc, ◌<◌, ◌⊎◌, ◌≢◌, Bool, false, inl, inr, ⊎_elim, true, ◌==◌, ◌&&◌, List, [], ◌∷◌, ◌++◌, length, sym, refl, ap, ◌∙◌, subst, arith, append_assoc}
use Rattle.std.proofs.lemmas.List.{append-nil}
use mathlib.Core.Option.{some, some-ne-none}
use lib.ListN.{get_elem?}
use Rattle.atomic_table.proofs.Lists.{at_longer, at_snoc}
use Rattle.bow_tags.specs.declared.view.Stance.TheVariants.{Holding}
use Rattle.bow_tags.specs.declared.view.LaneView.{LaneView}
use Rattle.bow_tags.specs.declared.view.Entry.{Entry}
use Rattle.bow_tags.specs.declared.view.View.{View}
use Rattle.bow_tags.specs.Rule.{In, given_times}
use Rattle.bow_tags.specs.Steps.{lane_of, looked, joined, SpeaksForIdle}
use Rattle.bow_tags.specs.Seats.{Sitting, IsLaneSeat, stance_if, AllIdle}
use Rattle.bow_tags.specs.Gathering.{Among, KeepsMembers, HasLane, Gathers, CountsGiven}
use Rattle.bow_tags.proofs.Lists.{times-append, total_append, head_at, at_short}

pub in_left : {A : Type 0} (x : A) (xs ys : List A) → In x xs → In x (xs ++ ys)
in_left x xs ys h = (h.0, at_longer xs ys h.0 x h.1)

pub in_right : {A : Type 0} (x : A) (xs ys : List A) → In x ys → In x (xs ++ ys)
in_right x [] ys h = h
in_right x (z ∷ zs) ys h = let r = in_right x zs ys h in (suc r.0, r.1)

-- a list of which everything would stand in an empty one is empty
pub in_none : {A : Type 0} (xs ys : List A) → ys ≡ [] → ((x : A) → In x xs → In x ys) → xs ≡ []
in_none [] ys e h = refl
in_none (x ∷ xs) ys e h = absurd (let r = h x (zero, refl) in some-ne-none x (sym (sym (ap (λ z. get_elem? z r.0) e) ∙ r.1)))

pub nothing_new : {A : Type 0} (xs ys zs : List A) → ys ≡ [] → xs ≡ zs → xs ++ ys ≡ zs
nothing_new {A = A} xs ys zs none same = ap (λ (w : List A). xs ++ w) none ∙ (append-nil xs ∙ same)

at_middle : {A : Type 0} (xs : List A) (x : A) (ys : List A) → get_elem? (xs ++ x ∷ ys) (length xs) ≡ some x
at_middle [] x ys = refl
at_middle (y ∷ xs) x ys = at_middle xs x ys

-- a list that is walked through, of which xs is done and x is next
pub middle : {A : Type 0} (xs : List A) (x : A) (ys rest all : List A) → xs ++ ys ≡ all → ys ≡ x ∷ rest → (xs ++ x ∷ []) ++ rest ≡ all
middle {A = A} xs x ys rest all a b = append_assoc xs (x ∷ []) rest ∙ (ap (λ (z : List A). xs ++ z) (sym b) ∙ a)

pub member : {A : Type 0} (xs : List A) (x : A) (ys rest all : List A) → xs ++ ys ≡ all → ys ≡ x ∷ rest → get_elem? all (length xs) ≡ some x
member {A = A} xs x ys rest all a b = subst (λ (z : List A). get_elem? z (length xs) ≡ some x) (ap (λ (z : List A). xs ++ z) (sym b) ∙ a) (at_middle xs x rest)

module _ {P Q : Type 0} where
  among_snoc : {A : Type 0} (part : View P Q → List A) (x : A) (ss : List (Sitting P Q)) (t : Sitting P Q) → Among part x (ss ++ t ∷ []) → Among part x ss ⊎ In x (part t.view)
  among_snoc part x ss t (i, s, at, h) = ⊎_elim (λ old. inl (i, s, old, h)) (λ is. inr (subst (λ (z : Sitting P Q). In x (part z.view)) (sym is) h)) (at_snoc ss t s i at)

  keeps_more : {A : Type 0} (part : View P Q → List A) (u : View P Q) (ss : List (Sitting P Q)) (t : Sitting P Q) (v w : View P Q)
      → KeepsMembers part u ss v → ((x : A) → In x (part v) → In x (part w)) → ((x : A) → In x (part t.view) → In x (part w)) → KeepsMembers part u (ss ++ t ∷ []) w
  keeps_more part u ss t v w k old new x (inl h) = old x (k x (inl h))
  keeps_more part u ss t v w k old new x (inr h) = ⊎_elim (λ a. old x (k x (inr a))) (λ a. new x a) (among_snoc part x ss t h)

  keeps_start : {A : Type 0} (part : View P Q → List A) (v : View P Q) → KeepsMembers part v [] v
  keeps_start part v x (inl h) = h
  keeps_start part v x (inr h) = absurd (some-ne-none h.1 (sym h.2))

  pub gathers_start : (v : View P Q) → v.live ≡ true → v.hand ≡ [] → Gathers v [] v
  gathers_start v alive bare = record {
    live = alive;
    bare = bare;
    lanes = keeps_start (λ w. w.lanes) v;
    jobs = keeps_start (λ w. w.jobs) v;
    got = keeps_start (λ w. w.got) v;
    given = keeps_start (λ w. w.given) v;
    speaks = keeps_start (λ w. w.speaks) v;
  }

  no_hand : (v w : View P Q) → v.hand ≡ [] → w.hand ≡ [] → v.hand ++ w.hand ≡ []
  no_hand v w a b = subst (λ (z : List (Entry P Q) × List (Entry P Q)). z.0 ++ z.1 ≡ []) (λ k. (sym a k, sym b k)) refl

  -- the seat so far takes in the next
  pub gathers_into : (u : View P Q) (ss : List (Sitting P Q)) (t : Sitting P Q) (v : View P Q) → Gathers u ss v → t.view.hand ≡ [] → Gathers u (ss ++ t ∷ []) (joined v t.view)
  gathers_into u ss t v g bare = let w = joined v t.view in record {
    live = g.live;
    bare = no_hand v t.view g.bare bare;
    lanes = keeps_more (λ z. z.lanes) u ss t v w g.lanes (λ x. in_left x v.lanes t.view.lanes) (λ x. in_right x v.lanes t.view.lanes);
    jobs = keeps_more (λ z. z.jobs) u ss t v w g.jobs (λ x. in_left x v.jobs t.view.jobs) (λ x. in_right x v.jobs t.view.jobs);
    got = keeps_more (λ z. z.got) u ss t v w g.got (λ x. in_left x v.got t.view.got) (λ x. in_right x v.got t.view.got);
    given = keeps_more (λ z. z.given) u ss t v w g.given (λ x. in_left x v.given t.view.given) (λ x. in_right x v.given t.view.given);
    speaks = keeps_more (λ z. z.speaks) u ss t v w g.speaks (λ x. in_left x v.speaks t.view.speaks) (λ x. in_right x v.speaks t.view.speaks);
  }

  -- the next takes in the seat so far, and looks
  pub gathers_under : (l y : ℕ) (u : View P Q) (ss : List (Sitting P Q)) (t : Sitting P Q) (v : View P Q) → Gathers u ss v → t.view.live ≡ true → t.view.hand ≡ [] → Gathers u (ss ++ t ∷ []) (looked l y (joined t.view v))
  gathers_under l y u ss t v g alive bare = let w = looked l y (joined t.view v) in record {
    live = alive;
    bare = no_hand t.view v bare g.bare;
    lanes = keeps_more (λ z. z.lanes) u ss t v w g.lanes (λ x. in_right x t.view.lanes v.lanes) (λ x. in_left x t.view.lanes v.lanes);
    jobs = keeps_more (λ z. z.jobs) u ss t v w g.jobs (λ x. in_right x t.view.jobs v.jobs) (λ x. in_left x t.view.jobs v.jobs);
    got = keeps_more (λ z. z.got) u ss t v w g.got (λ x. in_right x t.view.got v.got) (λ x. in_left x t.view.got v.got);
    given = keeps_more (λ z. z.given) u ss t v w g.given (λ x. in_right x t.view.given v.given) (λ x. in_left x t.view.given v.given);
    speaks = keeps_more (λ z. z.speaks) u ss t v w g.speaks (λ x. in_right x t.view.speaks v.speaks) (λ x. in_left x t.view.speaks v.speaks);
  }

  pub counts_start : (v : View P Q) → CountsGiven v [] v
  counts_start v l k = omega arith

  pub counts_under : (l y : ℕ) (u : View P Q) (ss : List (Sitting P Q)) (t : Sitting P Q) (v : View P Q) → CountsGiven u ss v → CountsGiven u (ss ++ t ∷ []) (looked l y (joined t.view v))
  counts_under l y u ss t v counts m k =
      let f : Sitting P Q → ℕ = λ s. given_times m k s.view.given in
      let a = times-append (λ (z : Entry P Q). (z.lane == m) && (z.number == k)) t.view.given v.given in
      let b = total_append f ss (t ∷ []) in
      let c = counts m k in omega arith

  pub idle_kept : (n : ℕ) (v w : View P Q) → ((e : LaneView P) → In e v.lanes → In e w.lanes) → SpeaksForIdle n v → SpeaksForIdle n w
  idle_kept n v w k h l near = let f = h l near in let g = k f.1 (f.0, f.2) in (g.0, f.1, g.1, f.3, f.4)

  pub has_more : (v w : View P Q) (s : Sitting P Q) → ((e : LaneView P) → In e v.lanes → In e w.lanes) → HasLane v s → HasLane w s
  has_more v w s k h = (k (lane_of s.view) h.0, h.1)

  -- the lane of a seat that is taken in
  pub has_new : (slots l k : ℕ) (b : Bool) (t : Sitting P Q) (v : View P Q) → IsLaneSeat slots l k b t.view → HasLane (joined v t.view) t
  has_new slots l k b t v sit = (in_right (lane_of t.view) v.lanes t.view.lanes (0, head_at t.view.lanes (lane_of t.view) sit.one), λ h. busy b (sym sit.stance ∙ h))
    where
      busy : (c : Bool) → stance_if c ≢ Holding
      busy true e = absurd cc
      busy false e = absurd cc

  -- where each lane is idle, the seat that took in their seats speaks for idle lanes
  pub idle_lanes : (n : ℕ) (lanes : List (Sitting P Q)) (v : View P Q) → n ≡ length lanes → ((i : ℕ) (s : Sitting P Q) → get_elem? lanes i ≡ some s → HasLane v s) → ((i : ℕ) (s : Sitting P Q) → get_elem? lanes i ≡ some s → (lane_of s.view).lane ≡ i)
      → AllIdle lanes → SpeaksForIdle n v
  idle_lanes n lanes v long has at_lanes idle_all l near =
      let got = at_short lanes l (subst (λ (z : ℕ). l < z) long near) in
      let s : Sitting P Q = got.0 in
      let h = has l s got.1 in (h.0.0, lane_of s.view, h.0.1, at_lanes l s got.1, idle_all l s got.1)

-- what a walk keeps of each element that is done, with the next one
pub numbered_more : {A : Type 0} (F : A → Type 0) (xs : List A) (a : A) → ((i : ℕ) (x : A) → get_elem? xs i ≡ some x → F x) → F a → (i : ℕ) (x : A) → get_elem? (xs ++ a ∷ []) i ≡ some x → F x
numbered_more F xs a h k i x at = ⊎_elim (λ old. h i x old) (λ is. subst F is k) (at_snoc xs a x i at)
