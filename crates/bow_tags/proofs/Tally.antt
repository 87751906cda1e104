-- The lanes whose jobs a server's seat holds.
use Rattle.std.proofs.Common.{◌≡◌, ℕ, zero, suc, ◌+◌, ◌<◌, ◌≤◌, ◌≢◌, Bool, true, false, cond, ◌==◌, List, [], ◌∷◌, ◌++◌, length, map, sym, refl, ap, ◌∙◌, subst, arith, eq-eqb, ne_eqb, append_assoc, slice_index_or, drop}
use Rattle.std.proofs.lemmas.List.{append-nil}
use native.Mathlib.Decide.{ℕ_discrete}
use mathlib.Core.Logic.{dite}
use Rattle.atomic_table.specs.Table.{Me}
use Rattle.atomic_table.proofs.Lists.{at_last}
use lib.ListN.{get_elem?}
use mathlib.Core.Option.{some}
use Rattle.bow_tags.specs.declared.view.Slot.{Slot}
use Rattle.bow_tags.specs.declared.view.Slot.TheVariants.{Empty, Ask}
use Rattle.bow_tags.specs.declared.view.Held.{Held}
use Rattle.bow_tags.specs.declared.view.View.{View}
use Rattle.bow_tags.specs.Rule.{Each, times, job_times}
use Rattle.bow_tags.specs.Steps.{after_answer, lane_of, looked, held, others, HoldsJob}
use Rattle.bow_tags.proofs.Keeps.{is_here}
use Rattle.bow_tags.proofs.Serves.{others_else, others_here}
use Rattle.bow_tags.specs.declared.view.Stance.TheVariants.{Idle, Posted}
use Rattle.bow_tags.specs.Seats.{IsLaneSeat, IsServerSeat, IsTurn, before, with_empty}
use Rattle.bow_tags.proofs.Lists.{each_append, times-append, times_at}

pub hit_one : (a b : ℕ) → a ≡ b → cond {A = ℕ} (a == b) 1 0 ≡ 1
hit_one a b e = subst (λ (t : Bool). cond {A = ℕ} t 1 0 ≡ 1) (sym (eq-eqb a b e)) refl

pub miss_zero : (a b : ℕ) → a ≢ b → cond {A = ℕ} (a == b) 1 0 ≡ 0
miss_zero a b n = subst (λ (t : Bool). cond {A = ℕ} t 1 0 ≡ 0) (sym (ne_eqb a b n)) refl

abbrev sum_to : ℕ → (ℕ → ℕ) → ℕ
sum_to zero f = 0
sum_to (suc n) f = f n + sum_to n f

sum_zero : (n : ℕ) → sum_to n (λ _. 0) ≡ 0
sum_zero zero = refl
sum_zero (suc n) = let r = sum_zero n in omega arith

sum_miss : (n x : ℕ) (t : ℕ → ℕ) → n ≤ x → sum_to n (λ l. cond (x == l) 1 0 + t l) ≡ sum_to n t
sum_miss zero x t h = refl
sum_miss (suc n) x t h = let r = sum_miss n x t (omega arith) in let e = miss_zero x n (λ (k : x ≡ n). absurd (omega arith)) in omega arith

sum_hit : (n x : ℕ) (t : ℕ → ℕ) → x < n → sum_to n (λ l. cond (x == l) 1 0 + t l) ≡ 1 + sum_to n t
sum_hit zero x t h = absurd (omega arith)
sum_hit (suc n) x t h = dite (ℕ_discrete x n)
    (λ is. let r = sum_miss n x t (omega arith) in let e : cond (x == n) 1 0 ≡ 1 = hit_one x n is in omega arith)
    (λ ne. let r = sum_hit n x t (omega arith) in let e : cond (x == n) 1 0 ≡ 0 = miss_zero x n ne in omega arith)

length_is : (n : ℕ) (xs : List ℕ) → Each (λ x. x < n) xs → length xs ≡ sum_to n (λ l. times (λ x. x == l) xs)
length_is n [] h = sym (sum_zero n)
length_is n (x ∷ xs) h = let r = length_is n xs h.1 in let s = sum_hit n x (λ l. times (λ y. y == l) xs) h.0 in omega arith

sum_small : (n : ℕ) (f : ℕ → ℕ) → ((l : ℕ) → f l ≤ 1) → sum_to n f ≤ n
sum_small zero f h = omega arith
sum_small (suc n) f h = let r = sum_small n f h in let k = h n in omega arith

sum_less : (n l : ℕ) (f : ℕ → ℕ) → ((j : ℕ) → f j ≤ 1) → l < n → f l ≡ 0 → sum_to n f < n
sum_less zero l f h near e = absurd (omega arith)
sum_less (suc n) l f h near e = dite (ℕ_discrete l n)
    (λ is. let r = sum_small n f h in let k : f n ≡ 0 = ap f (sym is) ∙ e in omega arith)
    (λ ne. let r = sum_less n l f h (omega arith) e in let k = h n in omega arith)

pub map_snoc : {A B : Type 0} (f : A → B) (xs : List A) (y : A) → map f (xs ++ y ∷ []) ≡ map f xs ++ f y ∷ []
map_snoc f [] y = refl
map_snoc {B = B} f (x ∷ xs) y = ap (λ (z : List B). f x ∷ z) (map_snoc f xs y)

module _ {P Q : Type 0} where
  pub server_sits : (slots slots' : ℕ) (ls ls' : List ℕ) (me : Me (Slot P Q) (View P Q)) (cs : List (ℕ × Slot P Q)) (v : View P Q) → slots' ≡ slots → ls' ≡ ls → me ≡ (v, cs) → IsServerSeat slots ls cs v → IsServerSeat slots' ls' me.1 me.0
  server_sits slots slots' ls ls' me cs v a b e h = subst (λ (z : ℕ × List ℕ × Me (Slot P Q) (View P Q)). IsServerSeat z.0 z.1 z.2.1 z.2.0) (λ k. (sym a k, sym b k, sym e k)) h

  pub room_for_one : (slots l : ℕ) (ls : List ℕ) (cs : List (ℕ × Slot P Q)) (v : View P Q) → IsServerSeat slots ls cs v → l < slots → job_times l v.jobs ≡ 0 → length ls < slots
  room_for_one slots l ls cs v sit near free =
      subst (λ (z : ℕ). z < slots) (sym (length_is slots ls sit.near)) (sum_less slots l (λ j. times (λ x. x == j) ls) (λ j. let t = sit.tally j in let o = sit.once j in omega arith) near (sit.tally l ∙ free))

  pub holds_one_more : (slots l k y : ℕ) (a : P) (ls : List ℕ) (cs : List (ℕ × Slot P Q)) (v : View P Q) → IsServerSeat slots ls cs v → l < slots → job_times l v.jobs ≡ 0
      → IsServerSeat slots (ls ++ l ∷ []) (cs ++ (l, Empty) ∷ []) (record (looked l y v) { jobs = v.jobs ++ held l k a ∷ [] })
  holds_one_more slots l k y a ls cs v sit near free =
      let more : (m : ℕ) → job_times m (v.jobs ++ held l k a ∷ []) ≡ job_times m v.jobs + (cond (l == m) 1 0 + 0) = λ m. times-append (λ (x : Held P). x.lane == m) v.jobs (held l k a ∷ []) in record {
        carried = ap (λ (z : List (ℕ × Slot P Q)). z ++ (l, Empty) ∷ []) sit.carried ∙ sym (map_snoc (λ (m : ℕ). (m, Empty)) ls l);
        tally = λ m. let t = times-append (λ x. x == m) ls (l ∷ []) in let s = sit.tally m in let o = more m in omega arith;
        once = λ m. let o = more m in dite (ℕ_discrete l m)
            (λ is. let z : job_times m v.jobs ≡ 0 = subst (λ (j : ℕ). job_times j v.jobs ≡ 0) is free in let e : cond (l == m) 1 0 ≡ 1 = hit_one l m is in omega arith)
            (λ ne. let s = sit.once m in let e : cond (l == m) 1 0 ≡ 0 = miss_zero l m ne in omega arith);
        near = each_append (λ x. x < slots) ls (l ∷ []) sit.near (near, tt);
        few = sit.few;
        bare = sit.bare;
        speaks = sit.speaks;
        live = sit.live;
      }

-- a list, its first put behind the others
before_append : (l : ℕ) (xs ys : List ℕ) → 0 < times (λ x. x == l) xs → before l (xs ++ ys) ≡ before l xs
before_append l [] ys h = absurd (omega arith)
before_append l (x ∷ xs) ys h = by_test (x == l) refl (λ more. before_append l xs ys more)
  where
    by_test : (b : Bool) → (x == l) ≡ b → (0 < times (λ z. z == l) xs → before l (xs ++ ys) ≡ before l xs) → cond (x == l) 0 (1 + before l (xs ++ ys)) ≡ cond (x == l) 0 (1 + before l xs)
    by_test true e r = subst (λ (b : Bool). cond b 0 (1 + before l (xs ++ ys)) ≡ cond b 0 (1 + before l xs)) (sym e) refl
    by_test false e r = ap (λ (n : ℕ). cond (x == l) 0 (1 + n)) (r (let k : cond {A = ℕ} (x == l) 1 0 ≡ 0 = subst (λ (b : Bool). cond {A = ℕ} b 1 0 ≡ 0) (sym e) refl in omega arith))

pub front_moves : (l x : ℕ) (xs : List ℕ) → x ≢ l → 0 < times (λ z. z == l) (x ∷ xs) → (before l (xs ++ x ∷ []) < before l (x ∷ xs)) × (0 < times (λ z. z == l) (xs ++ x ∷ []))
front_moves l x xs ne has =
    let none : cond {A = ℕ} (x == l) 1 0 ≡ 0 = miss_zero x l ne in
    let more : 0 < times (λ z. z == l) xs = omega arith in
    let e : before l (x ∷ xs) ≡ 1 + before l xs = subst (λ (b : Bool). cond b 0 (1 + before l xs) ≡ 1 + before l xs) (sym (ne_eqb x l ne)) refl in
    let a = before_append l xs (x ∷ []) more in
    let t = times-append (λ z. z == l) xs (x ∷ []) in (omega arith, omega arith)

pub next_turn : (old hs : List ℕ) (x : ℕ) (xs : List ℕ) → hs ≡ x ∷ xs → IsTurn old hs → IsTurn old (xs ++ x ∷ [])
next_turn old hs x xs e (fs, [], a, b) = (x ∷ [], xs, a ∙ (append-nil fs ∙ (sym b ∙ e)), refl)
next_turn old hs x xs e (fs, y ∷ bs, a, b) =
    let heads : y ≡ x = cc (sym b ∙ e) in let tails : bs ++ fs ≡ xs = cc (sym b ∙ e) in
    (fs ++ x ∷ [], bs, a ∙ (ap (λ (z : ℕ). fs ++ z ∷ bs) heads ∙ sym (append_assoc fs (x ∷ []) bs)), ap (λ (z : List ℕ). z ++ x ∷ []) (sym tails) ∙ append_assoc bs fs (x ∷ []))

pub shape : (l : ℕ) (hs : List ℕ) (x : ℕ) → 0 < times (λ z. z == l) hs → x ≡ slice_index_or hs 0 x → hs ≡ x ∷ drop 1 hs
shape l [] x h e = absurd (omega arith)
shape l (y ∷ ys) x h e = ap (λ (z : ℕ). z ∷ ys) (sym e)

times_turn : (m : ℕ) (old new : List ℕ) → IsTurn old new → times (λ x. x == m) new ≡ times (λ x. x == m) old
times_turn m old new (xs, ys, a, b) = ap (times (λ x. x == m)) b ∙ (times-append (λ x. x == m) ys xs ∙ (let t = times-append (λ x. x == m) xs ys in let s : times (λ x. x == m) old ≡ times (λ x. x == m) (xs ++ ys) = ap (times (λ x. x == m)) a in omega arith))

each_parts : (F : ℕ → Type 0) (xs ys : List ℕ) → Each F (xs ++ ys) → Each F xs × Each F ys
each_parts F [] ys h = (tt, h)
each_parts F (x ∷ xs) ys h = let r = each_parts F xs ys h.1 in ((h.0, r.0), r.1)

each_turn : (F : ℕ → Type 0) (old new : List ℕ) → IsTurn old new → Each F old → Each F new
each_turn F old new (xs, ys, a, b) h = let p = each_parts F xs ys (subst (Each F) a h) in subst (Each F) (sym b) (each_append F ys xs p.1 p.0)

module _ {P Q : Type 0} where
  pub job_counts : (slots l k : ℕ) (ls : List ℕ) (cs : List (ℕ × Slot P Q)) (v : View P Q) → IsServerSeat slots ls cs v → HoldsJob v l k → 0 < times (λ x. x == l) ls
  job_counts slots l k ls cs v sit (i, a, at) = let t = sit.tally l in let p = times_at (λ (x : Held P). x.lane == l) v.jobs i (held l k a) at (is_here l) in omega arith

  pub holds_one_less : (slots l k : ℕ) (a : P) (q : Q) (ls new rest' : List ℕ) (cs : List (ℕ × Slot P Q)) (v : View P Q) → IsServerSeat slots ls cs v → IsTurn ls new → new ≡ l ∷ rest' → 0 < job_times l v.jobs
      → IsServerSeat slots rest' (with_empty rest') (after_answer v l k a q)
  holds_one_less slots l k a q ls new rest' cs v sit turn first has = let all : Each (λ x. x < slots) (l ∷ rest') = subst (Each (λ x. x < slots)) first (each_turn (λ x. x < slots) ls new turn sit.near) in record {
    carried = refl;
    tally = λ m. let s = sit.tally m in let t : times (λ x. x == m) (l ∷ rest') ≡ times (λ x. x == m) ls = ap (times (λ x. x == m)) (sym first) ∙ times_turn m ls new turn in dite (ℕ_discrete l m)
        (λ is. let o : job_times m (others l v.jobs) ≡ 0 = subst (λ (j : ℕ). job_times j (others l v.jobs) ≡ 0) is (others_here l v.jobs) in let e = hit_one l m is in let u = sit.once m in omega arith)
        (λ ne. let o = others_else l m v.jobs (λ e. ne (sym e)) in let e = miss_zero l m ne in omega arith);
    once = λ m. dite (ℕ_discrete m l)
        (λ is. let o : job_times m (others l v.jobs) ≡ 0 = subst (λ (j : ℕ). job_times j (others l v.jobs) ≡ 0) (sym is) (others_here l v.jobs) in omega arith)
        (λ ne. let o = others_else l m v.jobs ne in let u = sit.once m in omega arith);
    near = all.1;
    few = sit.few;
    bare = sit.bare;
    speaks = sit.speaks;
    live = sit.live;
  }

  pub job_near : (slots l : ℕ) (ls new rest' : List ℕ) (cs : List (ℕ × Slot P Q)) (v : View P Q) → IsServerSeat slots ls cs v → IsTurn ls new → new ≡ l ∷ rest' → l < slots
  job_near slots l ls new rest' cs v sit turn first = let all : Each (λ x. x < slots) (l ∷ rest') = subst (Each (λ x. x < slots)) first (each_turn (λ x. x < slots) ls new turn sit.near) in all.0

none_held : (ls : List ℕ) → ((l : ℕ) → times (λ x. x == l) ls ≡ 0) → ls ≡ []
none_held [] h = refl
none_held (x ∷ xs) h = absurd (let t = h x in let o = hit_one x x refl in omega arith)

module _ {P Q : Type 0} where
  pub carries_none : (slots : ℕ) (ls : List ℕ) (cs : List (ℕ × Slot P Q)) (v : View P Q) → IsServerSeat slots ls cs v → v.jobs ≡ [] → cs ≡ []
  carries_none slots ls cs v sit free = sit.carried ∙ ap (λ (z : List ℕ). with_empty {P = P} {Q = Q} z) (none_held ls (λ l. sit.tally l ∙ ap (λ (js : List (Held P)). job_times l js) free))

pub job_at_end : {P Q : Type 0} (v : View P Q) (w : View P Q) (l k m : ℕ) (a : P) → w.jobs ≡ v.jobs ++ held l m a ∷ [] → m ≡ k → HoldsJob w l k
job_at_end {P = P} v w l k m a e is = (length v.jobs, a, subst (λ (z : List (Held P) × ℕ). get_elem? z.0 (length v.jobs) ≡ some (held l z.1 a)) (λ i. (sym e i, is i)) (at_last v.jobs (held l m a) (length v.jobs) refl))

pub asked_last : {P Q : Type 0} (v : View P Q) (w : View P Q) (l k : ℕ) (posted : Bool) (slots : ℕ) (a : P) → IsLaneSeat slots l k posted v → (lane_of v).stance ≡ Idle
    → (lane_of w).asked ≡ (lane_of v).asked ++ a ∷ [] → (lane_of w).number ≡ (lane_of v).number → get_elem? (lane_of w).asked (lane_of w).number ≡ some a
asked_last v w l k true slots a sit idle asked number = absurd (let e : Idle ≡ Posted = sym idle ∙ sit.stance in cc)
asked_last {P = P} v w l k false slots a sit idle asked number = subst (λ (z : List P × ℕ). get_elem? z.0 z.1 ≡ some a) (λ i. (sym asked i, sym number i)) (at_last (lane_of v).asked a (lane_of v).number (let g = sit.long in let n = sit.number in omega arith))

pub same_ask : {P Q : Type 0} (l : ℕ) (a b : P) (xs ys : List (ℕ × Slot P Q)) → (l, Ask a) ∷ xs ≡ (l, Ask b) ∷ ys → b ≡ a
same_ask {P = P} {Q = Q} l a b xs ys e =
    let x : ℕ × Slot P Q = (l, Ask a) in
    let y : ℕ × Slot P Q = (l, Ask b) in
    let pairs : x ≡ y = cc in
    let asks : x.1 ≡ y.1 = ap (λ (z : ℕ × Slot P Q). z.1) pairs in
    sym (ask_same (x.1) (y.1) a b refl refl asks)
  where
    ask_same : (s t : Slot P Q) (c d : P) → s ≡ Ask c → t ≡ Ask d → s ≡ t → c ≡ d
    ask_same s t c d p q r = cc
