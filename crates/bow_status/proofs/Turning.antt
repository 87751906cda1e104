-- Each step keeps the rule of the status cell.
use Rattle.std.proofs.Common.{◌≡◌, ℕ, zero, suc, ◌+◌, ◌<◌, inl, inr, ⊎_elim, true, List, [], ◌∷◌, ◌++◌, set, sym, refl, ap, ◌∙◌, subst, arith}
use mathlib.Core.Option.{some, some-injective, some-ne-none}
use lib.ListN.{get_elem?}
use Rattle.atomic_table.proofs.Lists.{at_set, at_longer, at_snoc, set_again}
use Rattle.crossbeam_utils.specs.Register.{Turns, Forks}
use Rattle.bow_units.specs.declared.statuses.Seen.{Seen}
use Rattle.bow_status.specs.declared.view.View.{View}
use Rattle.bow_status.specs.declared.shown.Shown.{Shown}
use Rattle.bow_status.specs.Rising.{opening_value, seen_of, last_of, newest, VersionsRise, WasShown, IsSameOrNewer, PassOk, StatusRule, publishing, watching, publishes, looks, reads}

pub last_snoc : (s : Seen) (sent : List Seen) (x : Seen) → last_of s (sent ++ x ∷ []) ≡ x
last_snoc s [] x = refl
last_snoc s (y ∷ ys) x = last_snoc y ys x

rise_snoc : (s : Seen) (sent : List Seen) (x : Seen) → VersionsRise s.version sent → (last_of s sent).version < x.version → VersionsRise s.version (sent ++ x ∷ [])
rise_snoc s [] x h less = (less, tt)
rise_snoc s (y ∷ ys) x h less = (h.0, rise_snoc y ys x h.1 less)

was_more : (sent : List Seen) (x s : Seen) → WasShown sent s → WasShown (sent ++ x ∷ []) s
was_more sent x s (inl e) = inl e
was_more sent x s (inr h) = inr (h.0, at_longer sent (x ∷ []) h.0 s h.1)

-- the newest was shown
newest_shown : (sent : List Seen) → WasShown sent (newest sent)
newest_shown [] = inl refl
newest_shown (x ∷ xs) = inr (from x xs)
  where
    from : (y : Seen) (ys : List Seen) → (i : ℕ) × (get_elem? (y ∷ ys) i ≡ some (last_of y ys))
    from y [] = (zero, refl)
    from y (z ∷ zs) = let r = from z zs in (suc r.0, r.1)

-- what is no newer than x is older than what comes after x
still_older : (s x y : Seen) → IsSameOrNewer s x → x.version < y.version → IsSameOrNewer s y
still_older s x y (inl e) less = inr (subst (λ (z : Seen). z.version < y.version) (sym e) less)
still_older s x y (inr h) less = inr (omega arith)

last_above : (n : ℕ) (x : Seen) (xs : List Seen) → VersionsRise n (x ∷ xs) → n < (last_of x xs).version
last_above n x [] h = h.0
last_above n x (y ∷ ys) h = let r = last_above x.version y ys h.1 in let l = h.0 in omega arith

opening_old : (sent : List Seen) → VersionsRise 0 sent → IsSameOrNewer opening_value (newest sent)
opening_old [] h = inl refl
opening_old (x ∷ xs) h = inr (last_above 0 x xs h)

pub publish_turns : (id : ℕ) (v : View) (y : Shown) → v.publishes ≡ true → (newest v.sent).version < y.version → Turns StatusRule id v (λ _. y) publishes
publish_turns id v y right less x views r at =
    let mine = r.each id v at in let know = mine.0 right in
    let sent' : List Seen = r.sent ++ seen_of y ∷ [] in
    let less' : (newest r.sent).version < y.version = subst (λ (l : List Seen). (newest l).version < y.version) know.1 less in
    let grows : (seen_of x).version < y.version = subst (λ (z : Seen). z.version < y.version) (sym r.spells) less' in
    let w : View = record v { sent = v.sent ++ seen_of y ∷ [] } in (
      w,
      record {
        publisher = r.publisher;
        sent = sent';
        rises = rise_snoc opening_value r.sent (seen_of y) r.rises less';
        spells = sym (last_snoc opening_value r.sent (seen_of y));
        each = λ by u u_at. ⊎_elim
            (λ t. subst (PassOk r.publisher sent' (seen_of y) by) t.1
            ((λ _. (t.0 ∙ know.0, ap (λ (l : List Seen). l ++ seen_of y ∷ []) know.1)), was_more r.sent (seen_of y) v.last mine.1, still_older v.last (seen_of x) (seen_of y) mine.2 grows))
            (λ t. let k = r.each by u t.1 in ((λ p. absurd (t.0 ((k.0 p).0 ∙ sym know.0))), was_more r.sent (seen_of y) u.last k.1, still_older u.last (seen_of x) (seen_of y) k.2 grows))
            (at_set views id by w u u_at);
      },
      refl,
    )

pub look_turns : (id : ℕ) (v : View) → Turns StatusRule id v (λ x. x) looks
look_turns id v x views r at =
    let mine = r.each id v at in
    let w : View = record v { looks = v.looks + 1; last = seen_of x } in (
      w,
      record {
        publisher = r.publisher;
        sent = r.sent;
        rises = r.rises;
        spells = r.spells;
        each = λ by u u_at. ⊎_elim
            (λ t. subst (PassOk r.publisher r.sent (seen_of x) by) t.1
            ((λ p. (t.0 ∙ (mine.0 p).0, (mine.0 p).1)), subst (WasShown r.sent) (sym r.spells) (newest_shown r.sent), inl refl))
            (λ t. r.each by u t.1)
            (at_set views id by w u u_at);
      },
      (mine.2, refl),
    )

pub read_turns : (id : ℕ) (v : View) → v.publishes ≡ true → Turns StatusRule id v (λ x. x) reads
read_turns id v right x views r at =
    let know = (r.each id v at).0 right in (
      v,
      subst (StatusRule x) (sym (set_again views id v at)) r,
      (r.spells ∙ ap newest (sym know.1), subst (VersionsRise 0) (sym know.1) r.rises, refl),
    )

pub cell_starts : (x : Shown) → seen_of x ≡ opening_value → StatusRule x (publishing [] ∷ [])
cell_starts x is = record {
  publisher = 0;
  sent = [];
  rises = tt;
  spells = is;
  each = λ by v at. first_only by v at;
}
  where
    first_only : (by : ℕ) (v : View) → get_elem? (publishing [] ∷ []) by ≡ some v → PassOk 0 [] (seen_of x) by v
    first_only zero v at = subst (PassOk 0 [] (seen_of x) zero) (some-injective (publishing []) v at) ((λ _. (refl, refl)), inl refl, inl (sym is))
    first_only (suc by) v at = absurd (some-ne-none v (sym at))

pub watcher_forks : (id : ℕ) (v : View) → Forks StatusRule id v v (watching 0 opening_value)
watcher_forks id v x views r at = record {
  publisher = r.publisher;
  sent = r.sent;
  rises = r.rises;
  spells = r.spells;
  each = λ by u u_at. ⊎_elim (λ was. r.each by u (subst (λ (l : List View). get_elem? l by ≡ some u) (set_again views id v at) was))
      (λ is. subst (PassOk r.publisher r.sent (seen_of x) by) is ((λ p. absurd cc), inl refl, subst (IsSameOrNewer opening_value) (sym r.spells) (opening_old r.sent r.rises)))
      (at_snoc (set views id v) (watching 0 opening_value) u by u_at);
}
