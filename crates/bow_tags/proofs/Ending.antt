-- What the rule says at the end.
use Rattle.std.proofs.Common.{◌≡◌, ℕ, ◌+◌, ◌*◌, ◌<◌, ◌≢◌, ◌⊎◌, inl, inr, ⊎_elim, true, ◌==◌, ◌&&◌, take, zero, suc, List, [], ◌∷◌, ◌++◌, length, get_or, sym, refl, ap, ◌∙◌, subst, arith}
use mathlib.Core.Path.{Path}
use mathlib.Core.Option.{some, some-injective, some-ne-none}
use lib.ListN.{get_elem?}
use Rattle.atomic_table.specs.Seated.{TableId}
use Rattle.atomic_table.specs.Table.{State, Final, Seen}
use Rattle.bow_tags.specs.declared.view.Slot.{Slot}
use Rattle.bow_tags.specs.declared.view.Stance.{Stance}
use Rattle.bow_tags.specs.declared.view.Stance.TheVariants.{Idle, Holding, Posted}
use Rattle.bow_tags.specs.declared.view.LaneView.{LaneView}
use Rattle.bow_tags.specs.declared.view.Entry.{Entry}
use Rattle.bow_tags.specs.declared.view.View.{View}
use Rattle.bow_tags.specs.Rule.{In, Phase, idle, holding, posted, taken, done, retiring, face, stance_of, replies, total, given_times, LaneTie, Told, Rule}
use Rattle.bow_tags.specs.Steps.{lane_of, looked, SpeaksForAll}
use Rattle.bow_tags.specs.Seats.{Sitting, Numbered, IsServerAt, IsLastWord, NoJobs, AllGiven, AnsweredOnce, times_given}
use Rattle.bow_tags.specs.Gathering.{HasLane, Gathers, CountsGiven}
use Rattle.bow_tags.proofs.Lists.{each_at, times_at, times_find, total_append, total_find, total_at, total_only, present_is, at_short, at_end, head_at}
use Rattle.bow_tags.proofs.Keeps.{face_small, is_here}
use Rattle.bow_tags.proofs.Serves.{alone, same_number}
use Rattle.bow_tags.proofs.LawsHold.{both_true, same_entry, got_was_given}
use Rattle.bow_tags.proofs.Gathered.{member, in_none}

-- a lane's word, as a seat that speaks for it knows it
last_word : {P Q : Type 0} (fits : ℕ → P → Type 0) (s : State (Slot P Q) (View P Q)) (r : Rule fits s) (id : ℕ) (v : View P Q) → get_elem? s.views id ≡ some v → (i : ℕ) (e : LaneView P) → get_elem? v.lanes i ≡ some e
    → (get_or s.words e.lane 0 ≡ 4 * e.number + face (r.cells e.lane).phase) × (e.stance ≡ stance_of (r.cells e.lane).phase)
last_word fits s r id v at i e e_at = let t = each_at (λ x. LaneTie (length s.homes) v.hand x (r.cells x.lane)) v.lanes i e (r.each_view id v at).lanes e_at in
    ((r.each_cell e.lane t.near).word ∙ ap (λ (k : ℕ). 4 * k + face (r.cells e.lane).phase) (sym t.number), t.stance)

idle_face : (ph : Phase) (st : Stance) → st ≡ stance_of ph → st ≢ Holding → (st ≡ Idle → face ph ≡ 0) × (face ph ≡ 0 → st ≡ Idle)
idle_face idle st e away = ((λ _. refl), λ _. e)
idle_face holding st e away = absurd (away e)
idle_face posted st e away = ((λ i. absurd (let k : Idle ≡ Posted = sym i ∙ e in cc)), λ z. absurd (omega arith))
idle_face taken st e away = ((λ i. absurd (let k : Idle ≡ Posted = sym i ∙ e in cc)), λ z. absurd (omega arith))
idle_face done st e away = ((λ i. absurd (let k : Idle ≡ Posted = sym i ∙ e in cc)), λ z. absurd (omega arith))
idle_face retiring st e away = ((λ i. absurd (let k : Idle ≡ Posted = sym i ∙ e in cc)), λ z. absurd (omega arith))

-- an answer is there exactly where the word is past it
face_replies : (ph : Phase) → (replies ph ≡ 1 × face ph ≡ 3) ⊎ ((replies ph ≡ 0) × (face ph < 3))
face_replies idle = inr (refl, omega arith)
face_replies holding = inr (refl, omega arith)
face_replies posted = inr (refl, omega arith)
face_replies taken = inr (refl, omega arith)
face_replies done = inl (refl, refl)
face_replies retiring = inl (refl, refl)

pub take_more : {A : Type 0} (xs : List A) (i : ℕ) (x : A) → get_elem? xs i ≡ some x → take (i + 1) xs ≡ take i xs ++ x ∷ []
take_more {A = A} xs i x e = subst (λ (k : ℕ). take k xs ≡ take i xs ++ x ∷ []) (let s : suc i ≡ i + 1 = omega arith in s) (go xs i x e)
  where
    go : (ys : List A) (j : ℕ) (y : A) → get_elem? ys j ≡ some y → take (suc j) ys ≡ take j ys ++ y ∷ []
    go [] j y h = absurd (some-ne-none y (sym h))
    go (z ∷ zs) zero y h = ap (λ (w : A). w ∷ []) (some-injective z y h)
    go (z ∷ zs) (suc j) y h = ap (λ (w : List A). z ∷ w) (go zs j y h)

-- the server whose seat is the last of all
pub last_server : {P Q : Type 0} (z : TableId) (init all : List (Sitting P Q)) (last : Sitting P Q) → all ≡ init ++ last ∷ [] → Numbered (IsServerAt z (length all)) all → IsServerAt z (length all) (length init) last
last_server z init all last whole_is at_servers = at_servers (length init) last (member init last (last ∷ []) [] all (sym whole_is) refl)

-- what the last words, the lanes and the servers say of each other
pub record AtEnd {P Q : Type 0} (ws : List ℕ) (lanes all : List (Sitting P Q)) : Type 0 where
  pub last : Numbered (λ i (s : Sitting P Q). IsLastWord (get_or ws i 0) (lane_of s.view)) lanes
  pub free : NoJobs all
  pub got : AllGiven lanes all
  pub once : AnsweredOnce ws all

-- the seats of the lanes came to `first`, which is the last server's seat, and then the other servers' came
module _ {P Q : Type 0} (fits : ℕ → P → Type 0) (z : TableId) (ws : List ℕ) (xs : List (Slot P Q)) (id word : ℕ) (lanes init all : List (Sitting P Q)) (last : Sitting P Q) (first v : View P Q)
    (final : Final (Seen (Rule fits) id v) ws xs) (whole_is : all ≡ init ++ last ∷ [])
    (lane_seats : Gathers last.view lanes first) (same : (first.given ≡ last.view.given) × (first.servers ≡ last.view.servers))
    (server_seats : Gathers (looked 0 word first) init v) (counts : CountsGiven (looked 0 word first) init v) (servers : v.servers ≡ first.servers)
    (at_servers : Numbered (IsServerAt z (length all)) all) where
  words_end : Numbered (λ i s. HasLane first s) lanes → Numbered (λ i (s : Sitting P Q). (lane_of s.view).lane ≡ i) lanes → Numbered (λ i s. IsLastWord (get_or ws i 0) (lane_of s.view)) lanes
  words_end has at_lanes i s s_at =
      let e : LaneView P = lane_of s.view in
      let mine = has i s s_at in
      let h : In e v.lanes = server_seats.lanes e (inl mine.0) in
      let s0 = final.0 in let r = final.1.0 in
      let w = last_word fits s0 r id v final.1.1 h.0 e h.1 in
      let both = idle_face (r.cells e.lane).phase e.stance w.1 mine.1 in
      let small = face_small (r.cells e.lane).phase in
      (face (r.cells e.lane).phase, (omega arith), sym (ap (λ (t : List ℕ × ℕ). get_or t.0 t.1 0) (λ k. (final.2 k, at_lanes i s s_at k))) ∙ w.0, both.0, both.1)

  -- a server's seat is one of the others, or the last
  which : (j : ℕ) (t : Sitting P Q) → get_elem? all j ≡ some t → (get_elem? init j ≡ some t) ⊎ (last ≡ t)
  which j t at = ⊎_elim (λ h. inl h) (λ h. inr h.1) (at_end init last t j (subst (λ (q : List (Sitting P Q)). get_elem? q j ≡ some t) whole_is at))

  speaks_all : SpeaksForAll v
  speaks_all j less =
      let count : last.view.servers ≡ length all = (last_server z init all last whole_is at_servers).2 in
      let got = at_short all j (let a = servers in let b = same.1 in omega arith) in
      let t : Sitting P Q = got.0 in
      let mine : In j t.view.speaks = (0, head_at t.view.speaks j (at_servers j t got.1).1) in
      let here : In j v.speaks = ⊎_elim (λ (h : get_elem? init j ≡ some t). server_seats.speaks j (inr (j, t, h, mine)))
      (λ (h : last ≡ t). server_seats.speaks j (inl (lane_seats.speaks j (inl (subst (λ (q : Sitting P Q). In j q.view.speaks) (sym h) mine))))) (which j t got.1) in
      times_at (λ x. x == j) v.speaks here.0 j here.1 (is_here j)

  given_in : (x : Entry P Q) (j : ℕ) (t : Sitting P Q) → get_elem? all j ≡ some t → In x t.view.given → In x v.given
  given_in x j t at h = ⊎_elim (λ (o : get_elem? init j ≡ some t). server_seats.given x (inr (j, t, o, h)))
      (λ (o : last ≡ t). server_seats.given x (inl (lane_seats.given x (inl (subst (λ (q : Sitting P Q). In x q.view.given) (sym o) h))))) (which j t at)

  -- nobody else has given anything, so the servers' entries are counted by the rule
  count_end : (l k : ℕ) → total (λ u. given_times l k u.given) final.0.views ≡ times_given l k all
  count_end l k =
      let f : View P Q → ℕ = λ u. given_times l k u.given in
      let g : Sitting P Q → ℕ = λ s. given_times l k s.view.given in
      let only : total f final.0.views ≡ f v = total_only f final.0.views id v final.1.1 (λ j u ne u_at. ap (given_times l k) (alone fits final.0 final.1.0 id v final.1.1 server_seats.live speaks_all j u ne u_at)) in
      let a = counts l k in
      let b : given_times l k first.given ≡ given_times l k last.view.given = ap (given_times l k) same.0 in
      let c : total g all ≡ total g init + (g last + 0) = ap (total g) whole_is ∙ total_append g init (last ∷ []) in
      only ∙ (omega arith)

  got_end : AllGiven lanes all
  got_end i s k x s_at x_at =
      let h : In x v.got = server_seats.got x (inl (lane_seats.got x (inr (i, s, s_at, (k, x_at))))) in
      let s0 = final.0 in let r = final.1.0 in
      let ok = r.each_view id v final.1.1 in
      let tx = each_at (λ y. Told (length s0.homes) y (r.cells y.lane)) v.got h.0 x ok.got h.1 in
      let there' = got_was_given fits s0 r id h.0 x (v, final.1.1, h.1) in
      let u : View P Q = there'.2.0 in
      let more = times_at (λ (y : Entry P Q). (y.lane == x.lane) && (y.number == x.number)) u.given there'.1 x there'.2.2 (passed x) in
      let most = total_at (λ (w : View P Q). given_times x.lane x.number w.given) s0.views there'.0 u there'.2.1 in
      let n = count_end x.lane x.number in
      let seat = total_find (λ (t : Sitting P Q). given_times x.lane x.number t.view.given) all (omega arith) in
      let t : Sitting P Q = seat.1 in
      let found = times_find (λ (y : Entry P Q). (y.lane == x.lane) && (y.number == x.number)) t.view.given seat.3 in
      let y : Entry P Q = found.1 in
      let tests = both_true (y.lane == x.lane) (y.number == x.number) found.3 in
      let in_v : In y v.given = given_in y seat.0 t seat.2 (found.0, found.2) in
      let ty = each_at (λ w. Told (length s0.homes) w (r.cells w.lane)) v.given in_v.0 y ok.given in_v.1 in
      let same' : Path (Entry P Q) y x = same_entry fits s0 r x y tx ty (same_number y.lane x.lane tests.0) (same_number y.number x.number tests.1) in
      (seat.0, t, found.0, seat.2, found.2 ∙ ap some same')
    where
      passed : (w : Entry P Q) → ((w.lane == w.lane) && (w.number == w.number)) ≡ true
      passed w = subst (λ b. (b && (w.number == w.number)) ≡ true) (sym (is_here w.lane)) (is_here w.number)

  once_end : AnsweredOnce ws all
  once_end l k near =
      let s0 = final.0 in let r = final.1.0 in
      let wd = r.wide in
      let long : length s0.words ≡ length ws = ap (λ (w : List ℕ). length w) final.2 in
      let near' : l < length s0.homes = omega arith in
      let ok = r.each_cell l near' in
      let c = r.cells l in
      let word : get_or ws l 0 ≡ 4 * c.number + face c.phase = sym (ap (λ (w : List ℕ). get_or w l 0) final.2) ∙ ok.word in
      let n = count_end l k in let o = r.one_given l k near' in
      let p = present_is c.answered k in
      let long' = ok.replies_are in
      let cases = face_replies c.phase in (
        (λ low. sym n ∙ (o ∙ p.0 (⊎_elim (λ a. let a0 = a.0 in let a1 = a.1 in omega arith) (λ a. let a0 = a.0 in let a1 = a.1 in omega arith) cases))),
        λ high. sym n ∙ (o ∙ p.1 (λ less. ⊎_elim (λ a. let a0 = a.0 in let a1 = a.1 in absurd (omega arith)) (λ a. let a0 = a.0 in let a1 = a.1 in absurd (omega arith)) cases)),
      )

  free_end : v.jobs ≡ [] → NoJobs all
  free_end free j t at = ⊎_elim (λ (o : get_elem? init j ≡ some t). in_none t.view.jobs v.jobs free (λ x h. server_seats.jobs x (inr (j, t, o, h))))
      (λ (o : last ≡ t). in_none t.view.jobs v.jobs free (λ x h. server_seats.jobs x (inl (lane_seats.jobs x (inl (subst (λ (q : Sitting P Q). In x q.view.jobs) (sym o) h)))))) (which j t at)

  pub ends : Numbered (λ i s. HasLane first s) lanes → Numbered (λ i (s : Sitting P Q). (lane_of s.view).lane ≡ i) lanes → v.jobs ≡ [] → AtEnd ws lanes all
  ends has at_lanes free = record { last = words_end has at_lanes; free = free_end free; got = got_end; once = once_end }
