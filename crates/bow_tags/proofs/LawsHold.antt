-- The laws that follow from the rule.
use Rattle.std.proofs.Common.{◌≡◌, ℕ, ◌≤◌, Bool, true, false, ◌==◌, ◌&&◌, List, length, sym, refl, ap, ◌∙◌, subst, arith, eq-eqb}
use mathlib.Core.Path.{Path}
use mathlib.Core.Logic.{dite}
use mathlib.Core.Option.{some, some-injective}
use native.Mathlib.Decide.{ℕ_discrete}
use lib.ListN.{get_elem?}
use Rattle.atomic_table.specs.Table.{State}
use Rattle.bow_tags.specs.declared.view.Slot.{Slot}
use Rattle.bow_tags.specs.declared.view.Held.{Held}
use Rattle.bow_tags.specs.declared.view.Entry.{Entry}
use Rattle.bow_tags.specs.declared.view.View.{View}
use Rattle.bow_tags.specs.Rule.{Phase, idle, holding, posted, taken, done, retiring, replies, holders, times, total, given_times, JobTie, Told, Rule}
use Rattle.bow_tags.specs.Laws.{Stands, HeldOnce, NeverTakenAgain, GivenOnce, GotWasGiven}
use Rattle.bow_tags.proofs.Lists.{each_at, times_at, times_find, total_two, total_at, total_find, one_place, present_is, there}
use Rattle.bow_tags.proofs.Serves.{same_number}

pub both_true : (a b : Bool) → (a && b) ≡ true → (a ≡ true) × (b ≡ true)
both_true true b e = (refl, e)
both_true false b e = absurd cc

-- an entry passes the test for its own lane and number
passes : (a l b k : ℕ) → a ≡ l → b ≡ k → ((a == l) && (b == k)) ≡ true
passes a l b k p q = subst (λ (t : Bool). (t && (b == k)) ≡ true) (sym (eq-eqb a l p)) (eq-eqb b k q)

few_holders : (ph : Phase) → holders ph ≤ 1
few_holders idle = omega arith
few_holders holding = omega arith
few_holders posted = omega arith
few_holders taken = omega arith
few_holders done = omega arith
few_holders retiring = omega arith

module _ {P Q A : Type 0} (part : View P Q → List A) (t : A → Bool) (s : State (Slot P Q) (View P Q)) where
  -- a test that is passed once in all seats together is passed at one place of one seat
  one_stands : (j i k m : ℕ) (x y : A) → total (λ v. times t (part v)) s.views ≤ 1 → Stands part s j i x → Stands part s k m y → t x ≡ true → t y ≡ true → (j ≡ k) × (i ≡ m)
  one_stands j i k m x y few (v, v_at, x_at) (u, u_at, y_at) p q = dite (ℕ_discrete k j)
      (λ is.
      let same : v ≡ u = some-injective v u (sym v_at ∙ (ap (λ (z : ℕ). get_elem? s.views z) (sym is) ∙ u_at)) in
      let most = total_at (λ (w : View P Q). times t (part w)) s.views j v v_at in
      (sym is, one_place t (part v) i m x y (omega arith) x_at (subst (λ (w : View P Q). get_elem? (part w) m ≡ some y) (sym same) y_at) p q))
      (λ ne. absurd (let two = total_two (λ (w : View P Q). times t (part w)) s.views j k v u ne v_at u_at in let a = times_at t (part v) i x x_at p in let b = times_at t (part u) m y y_at q in omega arith))

module _ {P Q : Type 0} (fits : ℕ → P → Type 0) (s : State (Slot P Q) (View P Q)) (r : Rule fits s) where
  job_tie : (j i : ℕ) (x : Held P) → Stands (λ v. v.jobs) s j i x → JobTie (length s.homes) x (r.cells x.lane)
  job_tie j i x (v, v_at, x_at) = each_at (λ z. JobTie (length s.homes) z (r.cells z.lane)) v.jobs i x (r.each_view j v v_at).jobs x_at

  given_tie : (j i : ℕ) (x : Entry P Q) → Stands (λ v. v.given) s j i x → Told (length s.homes) x (r.cells x.lane)
  given_tie j i x (v, v_at, x_at) = each_at (λ z. Told (length s.homes) z (r.cells z.lane)) v.given i x (r.each_view j v v_at).given x_at

  pub held_once : HeldOnce s
  held_once j i k m x y a b lane =
      let o = r.one_job x.lane (job_tie j i x a).near in let few = few_holders (r.cells x.lane).phase in
      one_stands (λ (v : View P Q). v.jobs) (λ z. z.lane == x.lane) s j i k m x y (omega arith) a b (eq-eqb x.lane x.lane refl) (eq-eqb y.lane x.lane (sym lane))

  pub never_again : NeverTakenAgain s
  never_again j i k m x y a b lane =
      let job = job_tie j i x a in
      let told : Told (length s.homes) y (r.cells x.lane) = subst (λ (z : ℕ). Told (length s.homes) y (r.cells z)) (sym lane) (given_tie k m y b) in
      let less = there (r.cells x.lane).answered y.number y.answer told.answer in
      let long = (r.each_cell x.lane job.near).replies_are in
      let free : replies (r.cells x.lane).phase ≡ 0 = ap replies job.phase in
      let number = job.number in omega arith

  pub given_once : GivenOnce s
  given_once j i k m x y a b lane number =
      let told = given_tie j i x a in
      let o = r.one_given x.lane x.number told.near in
      let p = (present_is (r.cells x.lane).answered x.number).0 (there (r.cells x.lane).answered x.number x.answer told.answer) in
      one_stands (λ (v : View P Q). v.given) (λ z. (z.lane == x.lane) && (z.number == x.number)) s j i k m x y (omega arith) a b (passes x.lane x.lane x.number x.number refl refl) (passes y.lane x.lane y.number x.number (sym lane) (sym number))

  -- what two entries of one lane and number say is the same
  pub same_entry : (x y : Entry P Q) → Told (length s.homes) x (r.cells x.lane) → Told (length s.homes) y (r.cells y.lane) → y.lane ≡ x.lane → y.number ≡ x.number → y ≡ x
  same_entry x y tx ty lane number =
      let ask : y.ask ≡ x.ask = some-injective y.ask x.ask (sym ty.ask ∙ (ap (λ (z : ℕ × ℕ). get_elem? (r.cells z.0).asked z.1) (λ k. (lane k, number k)) ∙ tx.ask)) in
      let answer : y.answer ≡ x.answer = some-injective y.answer x.answer (sym ty.answer ∙ (ap (λ (z : ℕ × ℕ). get_elem? (r.cells z.0).answered z.1) (λ k. (lane k, number k)) ∙ tx.answer)) in
      λ k. record { lane = lane k; number = number k; ask = ask k; answer = answer k }

  -- an entry that the cells know was given
  pub told_given : (x : Entry P Q) → Told (length s.homes) x (r.cells x.lane) → (k : ℕ) × (m : ℕ) × Stands (λ v. v.given) s k m x
  told_given x tx =
      let f : View P Q → ℕ = λ z. given_times x.lane x.number z.given in
      let one : total f s.views ≡ 1 = r.one_given x.lane x.number tx.near ∙ (present_is (r.cells x.lane).answered x.number).0 (there (r.cells x.lane).answered x.number x.answer tx.answer) in
      let seat = total_find f s.views (omega arith) in
      let found = times_find (λ (z : Entry P Q). (z.lane == x.lane) && (z.number == x.number)) seat.1.given seat.3 in
      let y : Entry P Q = found.1 in
      let tests = both_true (y.lane == x.lane) (y.number == x.number) found.3 in
      let same : Path (Entry P Q) y x = same_entry x y tx (given_tie seat.0 found.0 y (seat.1, seat.2, found.2)) (same_number y.lane x.lane tests.0) (same_number y.number x.number tests.1) in
      (seat.0, found.0, (seat.1, seat.2, found.2 ∙ ap some same))

  pub got_was_given : GotWasGiven s
  got_was_given j i x (v, v_at, x_at) = told_given x (each_at (λ z. Told (length s.homes) z (r.cells z.lane)) v.got i x (r.each_view j v v_at).got x_at)
