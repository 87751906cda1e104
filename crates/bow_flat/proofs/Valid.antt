-- The events of a legal journal keep a flat state valid.
use Rattle.std.proofs.Common.{ℕ, zero, suc, ◌<◌, ◌≤◌, ◌≡◌, ◌≢◌, ◌==◌, Bool, false, true, not, ◌||◌, if◌then◌else◌, List, [], ◌∷◌, ◌++◌, get_or, Option, Some, None, arith, refl, sym, ap, ◌∙◌, subst, inl, inr, Contains}
use Rattle.std.proofs.lemmas.List.Elements.{Contains-append_left, Contains-append_right, Contains-append_cases}
use Rattle.std.proofs.lemmas.Bool.{cases_eq}
use Rattle.bow_units.specs.declared.requests.Phase.{Phase}
use Rattle.bow_units.specs.declared.requests.Phase.TheVariants.{Trim, Arming, Deciding}
use Rattle.bow_units.specs.declared.sizes.Extent.{Extent}
use Rattle.bow_flat.specs.Flat.{May, is_any, added, narrowed, put, Flat, Event, discards, trim_written, trim_discarded, count_below, after, Allows, opening}
use Rattle.bow_flat.specs.Flat.Event.{Writes, Fails, Reads, Discards, Flushes, Arms, Prepares, Decides, Commits, Rests}
use Rattle.bow_units.specs.Magics.{IsPlain}
use Rattle.bow_flat.specs.Valid.{IsPlainList, IsWithin, HasCheckpoint, IsState, IsOrderly}

one_of : {A : Type 0} (x y : A) → Contains (x ∷ []) y → y ≡ x
one_of x y (zero, below, is) = sym is
one_of x y (suc k, below, is) = absurd (omega arith)

no_arming : {A : Type 0} (p q : Phase) → p ≡ q → q ≢ p → A
no_arming p q is ne = absurd (ne (sym is))

within_refl : (c : Option (List (List ℕ))) → IsWithin c c
within_refl None = tt
within_refl (Some cs) = λ v h. h

within_write : (p : Option (List (List ℕ))) (v : List ℕ) → IsWithin (Some (v ∷ [])) (added p v)
within_write None v = tt
within_write (Some ps) v = λ w h. subst (λ y. Contains (ps ++ v ∷ []) y) (sym (one_of v w h)) (Contains-append_right ps (v ∷ []) v (0, omega arith, refl))

within_added : (c p : Option (List (List ℕ))) (v : List ℕ) → IsWithin c p → IsWithin (added c v) (added p v)
within_added c None v w = tt
within_added None (Some ps) v w = w
within_added (Some cs) (Some ps) v w = λ x h. elim (Contains-append_cases cs (v ∷ []) x h) [ inl old ↦ Contains-append_left ps (v ∷ []) x (w x old) | inr new ↦ Contains-append_right ps (v ∷ []) x new ]

within_narrowed : (c p : Option (List (List ℕ))) (v : List ℕ) → May c v → IsWithin c p → IsWithin (narrowed c v) p
within_narrowed c None v a w = tt
within_narrowed None (Some ps) v a w = w
within_narrowed (Some cs) (Some ps) v a w = λ x h. w x (subst (λ y. Contains cs y) (sym (one_of v x h)) a)

at_same : {A : Type 0} (f : ℕ → A) (b : ℕ) (v : A) → put f b v b ≡ v
at_same f b v = grind arith

at_other : {A : Type 0} (f : ℕ → A) (b : ℕ) (v : A) (x : ℕ) → x ≢ b → put f b v x ≡ f x
at_other f b v x ne = grind arith

is_any_narrowed : (c : Option (List (List ℕ))) (v : List ℕ) → is_any (narrowed c v) ≡ is_any c
is_any_narrowed None v = refl
is_any_narrowed (Some cs) v = refl

narrowed_none : (c : Option (List (List ℕ))) (v : List ℕ) → c ≡ None → narrowed c v ≡ None
narrowed_none None v is = refl
narrowed_none (Some cs) v is = absurd (grind arith)

narrowed_some : (c : Option (List (List ℕ))) (v : List ℕ) → not (is_any c) ≡ true → narrowed c v ≡ Some (v ∷ [])
narrowed_some None v is = absurd (grind arith)
narrowed_some (Some cs) v is = refl

narrowed_same : (c : Option (List (List ℕ))) (v s : List ℕ) → (not (is_any c) ≡ true → c ≡ Some (s ∷ [])) → May c v → narrowed c v ≡ c
narrowed_same None v s alone a = refl
narrowed_same (Some cs) v s alone a =
    let is : cs ≡ s ∷ [] = cc (alone refl) in
    let same : v ≡ s = one_of s v (subst (λ vs. Contains vs v) is a) in
    ap (λ w. Some (w ∷ [])) same ∙ sym (alone refl)

-- a device with free blocks has a block
some_block : (n : ℕ) (p : ℕ → Bool) → 2 ≤ count_below p n → 0 < n
some_block zero p h = absurd (omega arith)
some_block (suc n) p h = omega arith

module _ (n : ℕ) where
  plain_added : (c : Option (List (List ℕ))) (v : List ℕ) → IsPlainList c → IsPlain v → IsPlainList (added c v)
  plain_added None v p q = p
  plain_added (Some cs) v p q = λ x h. elim (Contains-append_cases cs (v ∷ []) x h) [ inl old ↦ p x old | inr new ↦ subst IsPlain (sym (one_of v x new)) q ]

  plain_narrowed : (c : Option (List (List ℕ))) (v : List ℕ) → IsPlainList c → May c v → IsPlainList (narrowed c v)
  plain_narrowed None v p a = p
  plain_narrowed (Some cs) v p a = λ x h. subst IsPlain (sym (one_of v x h)) (p v a)

  plain_one : (v : List ℕ) → IsPlain v → IsPlainList (Some (v ∷ []))
  plain_one v p x h = subst IsPlain (sym (one_of v x h)) p

  plain_flush : (c p : Option (List (List ℕ))) → IsPlainList c → IsPlainList c
  plain_flush c p h = h

  -- at block 0, after a change of block b
  at_0 : (f : ℕ → Option (List (List ℕ))) (b : ℕ) (c : Option (List (List ℕ))) → IsPlainList (f 0) → (b ≡ 0 → IsPlainList c) → IsPlainList (put f b c 0)
  at_0 f b c old new = elim (cases_eq 0 b) [
    | inl is ↦ subst (λ y. IsPlainList (put f b c y)) (sym is) (subst (IsPlainList) (sym (at_same f b c)) (new (sym is)))
    | inr ne ↦ subst (IsPlainList) (sym (at_other f b c 0 ne)) old
  ]

  both : (f g : ℕ → Option (List (List ℕ))) (b : ℕ) (c p : Option (List (List ℕ))) (x : ℕ) → IsWithin c p → IsWithin (f x) (g x) → IsWithin (put f b c x) (put g b p x)
  both f g b c p x new old = go (x == b)
    where
      go : (t : Bool) → IsWithin ((if t then c else f x)) ((if t then p else g x))
      go true = new
      go false = old

  written : (f : Flat) (b : ℕ) (c p : Option (List (List ℕ))) → f.phase ≢ Arming → f.phase ≢ Deciding → (b ≡ 0 → IsPlainList c) → (b ≡ 0 → IsPlainList p) → IsWithin c p → IsState f
      → IsState (record f { current = put f.current b c; pending = put f.pending b p; trim = trim_written f.phase f.trim b })
  written f b c p not_arming not_deciding pc pp within k = record {
    current_0 = at_0 f.current b c k.current_0 pc;
    pending_0 = at_0 f.pending b p k.pending_0 pp;
    within = λ x. both f.current f.pending b c p x within (k.within x);
    discarded = λ is x. discarded is x;
    arming_used = λ is. no_arming _ _ is (λ e. not_arming (sym e));
    arming_pending = λ is. no_arming _ _ is (λ e. not_arming (sym e));
    arming_saved = λ is. no_arming _ _ is (λ e. not_arming (sym e));
    used_0 = k.used_0;
    plain_saved = k.plain_saved;
  }
    where
      discarded : f.phase ≡ Trim → (x : ℕ) → trim_written f.phase f.trim b x ≡ true → (put f.current b c x ≡ None) × (put f.pending b p x ≡ None)
      discarded is x h = go (x == b) (subst (λ ph. trim_written ph f.trim b x ≡ true) is h)
        where
          go : (t : Bool) → (if t then false else f.trim x) ≡ true → ((if t then c else f.current x) ≡ None) × ((if t then p else f.pending x) ≡ None)
          go true e = absurd (grind arith)
          go false e = k.discarded is x e

  at_one : (R : ℕ → Option (List (List ℕ)) → Option (List (List ℕ)) → Type 0) (f : Flat) (b : ℕ) (v : List ℕ) (x : ℕ) → R b (narrowed (f.current b) v) (f.pending b) → R x (f.current x) (f.pending x) → R x (put f.current b (narrowed (f.current b) v) x) (f.pending x)
  at_one R f b v x new old = elim (cases_eq x b) [
    | inl is ↦ subst (λ y. R y (put f.current b (narrowed (f.current b) v) y) (f.pending y)) (sym is) (subst (λ c. R b c (f.pending b)) (sym (at_same f.current b (narrowed (f.current b) v))) new)
    | inr ne ↦ subst (λ c. R x c (f.pending x)) (sym (at_other f.current b (narrowed (f.current b) v) x ne)) old
  ]

  read_same : (f : Flat) (b : ℕ) (v : List ℕ) (x : ℕ) → narrowed (f.current b) v ≡ f.current b → put f.current b (narrowed (f.current b) v) x ≡ f.current x
  read_same f b v x same = elim (cases_eq x b) [
    | inl is ↦ ap (put f.current b (narrowed (f.current b) v)) is ∙ at_same f.current b _ ∙ same ∙ ap f.current (sym is)
    | inr ne ↦ at_other f.current b _ x ne
  ]

  discard_0 : (f : ℕ → Option (List (List ℕ))) (e : Extent) → IsPlainList (f 0) → IsPlainList (if discards e 0 then None else f 0)
  discard_0 f e h = h

  none_or : (t u : Bool) (c : Option (List (List ℕ))) → (t || u) ≡ true → (t ≡ true → c ≡ None) → (if u then None else c) ≡ None
  none_or t true c e h = refl
  none_or true false c e h = h refl
  none_or false false c e h = absurd (grind arith)

  none_within : (t : Bool) (c p : Option (List (List ℕ))) → IsWithin c p → IsWithin ((if t then None else c)) ((if t then None else p))
  none_within true c p w = tt
  none_within false c p w = w

  -- the checkpoint of a state that has one
  checkpoint_of : (f : Flat) → IsState f → HasCheckpoint f.phase → (h : Unit {0}) → (f.used 0 ≡ true) × IsPlain (f.saved 0)
  checkpoint_of f k has h = (k.used_0 has, k.plain_saved has)

  -- a state after the arming: of what was discarded, and of what is in use, nothing is said
  armed : (h : Flat) → IsPlainList (h.current 0) → IsPlainList (h.pending 0) → ((b : ℕ) → IsWithin (h.current b) (h.pending b)) → h.phase ≢ Trim → h.phase ≢ Arming
      → (HasCheckpoint h.phase → (h.used 0 ≡ true) × IsPlain (h.saved 0)) → IsState h
  armed h current_0 pending_0 within trim arming kept = record {
    current_0 = current_0;
    pending_0 = pending_0;
    within = within;
    discarded = λ is. absurd (trim is);
    arming_used = λ is. absurd (arming is);
    arming_pending = λ is. absurd (arming is);
    arming_saved = λ is. absurd (arming is);
    used_0 = λ h. (kept h).0;
    plain_saved = λ h. (kept h).1;
  }

  pub stays_valid : (event : Event) (f : Flat) → IsState f → Allows n event f → IsOrderly event f → IsState (after n event f)
  stays_valid (Writes b v) f k may o = written f b _ _ o.0 o.1 (λ z. plain_one v (o.2 z)) (λ z. plain_added (f.pending b) v (subst (λ y. IsPlainList (f.pending y)) (sym z) k.pending_0) (o.2 z)) (within_write (f.pending b) v) k
  stays_valid (Fails b v) f k may o = written f b _ _ o.0 o.1 (λ z. plain_added (f.current b) v (subst (λ y. IsPlainList (f.current y)) (sym z) k.current_0) (o.2 z)) (λ z. plain_added (f.pending b) v (subst (λ y. IsPlainList (f.pending y)) (sym z) k.pending_0) (o.2 z)) (within_added (f.current b) (f.pending b) v (k.within b)) k
  stays_valid (Reads b v) f k may o = record {
    current_0 = at_0 f.current b _ k.current_0 (λ z. plain_narrowed (f.current b) v (subst (λ y. IsPlainList (f.current y)) (sym z) k.current_0) may);
    pending_0 = k.pending_0;
    within = λ x. at_one (λ y c p. IsWithin c p) f b v x (within_narrowed (f.current b) (f.pending b) v may (k.within b)) (k.within x);
    discarded = λ is x h. (at_one (λ y c p. f.trim y ≡ true → c ≡ None) f b v x (λ t. narrowed_none (f.current b) v (k.discarded is b t).0) (λ t. (k.discarded is x t).0) h, (k.discarded is x h).1);
    arming_used = λ is x. k.arming_used is x ∙ ap (λ c. not (is_any c)) (sym (kept is x));
    arming_pending = λ is x. k.arming_pending is x ∙ sym (kept is x);
    arming_saved = λ is x u. kept is x ∙ k.arming_saved is x u;
    used_0 = k.used_0;
    plain_saved = k.plain_saved;
  }
    where
      kept : f.phase ≡ Arming → (x : ℕ) → put f.current b (narrowed (f.current b) v) x ≡ f.current x
      kept is x = read_same f b v x (narrowed_same (f.current b) v (f.saved b) (λ u. k.arming_saved is b (k.arming_used is b ∙ u)) may)
  stays_valid (Discards e) f k may o = record {
    current_0 = discard_0 f.current e k.current_0;
    pending_0 = discard_0 f.pending e k.pending_0;
    within = λ x. none_within (discards e x) (f.current x) (f.pending x) (k.within x);
    discarded = λ is x h.
        let t = subst (λ ph. trim_discarded ph f.trim e x ≡ true) is h in
        (none_or (f.trim x) (discards e x) (f.current x) t (λ e. (k.discarded is x e).0), none_or (f.trim x) (discards e x) (f.pending x) t (λ e. (k.discarded is x e).1));
    arming_used = λ is. no_arming _ _ is (λ e. o.0 (sym e));
    arming_pending = λ is. no_arming _ _ is (λ e. o.0 (sym e));
    arming_saved = λ is. no_arming _ _ is (λ e. o.0 (sym e));
    used_0 = k.used_0;
    plain_saved = k.plain_saved;
  }
  stays_valid Flushes f k may o = record {
    current_0 = k.current_0;
    pending_0 = k.current_0;
    within = λ x. within_refl (f.current x);
    discarded = λ is x h. ((k.discarded is x h).0, (k.discarded is x h).0);
    arming_used = k.arming_used;
    arming_pending = λ is x. refl;
    arming_saved = k.arming_saved;
    used_0 = k.used_0;
    plain_saved = k.plain_saved;
  }
  stays_valid (Arms saved) f k may o = record {
    current_0 = plain_narrowed (f.current 0) (saved 0) k.current_0 (may.2 0 (some_block n f.trim may.1));
    pending_0 = plain_narrowed (f.current 0) (saved 0) k.current_0 (may.2 0 (some_block n f.trim may.1));
    within = λ x. within_refl (narrowed (f.current x) (saved x));
    discarded = λ is. absurd (grind arith);
    arming_used = λ is x. ap not (sym (is_any_narrowed (f.current x) (saved x)));
    arming_pending = λ is x. refl;
    arming_saved = λ is x u. narrowed_some (f.current x) (saved x) u;
    used_0 = λ h. listed (f.current 0) k.current_0;
    plain_saved = λ h. member (f.current 0) (saved 0) k.current_0 (may.2 0 (some_block n f.trim may.1));
  }
    where
      listed : (c : Option (List (List ℕ))) → IsPlainList c → not (is_any c) ≡ true
      listed None h = absurd h
      listed (Some cs) h = refl

      member : (c : Option (List (List ℕ))) (v : List ℕ) → IsPlainList c → May c v → IsPlain v
      member None v h a = absurd h
      member (Some cs) v h a = h v a
  stays_valid Prepares f k may o = armed (after n Prepares f) k.current_0 k.pending_0 k.within (λ is. absurd (grind arith)) (λ is. absurd (grind arith)) (checkpoint_of f k (subst HasCheckpoint (sym may) tt))
  stays_valid Decides f k may o = armed (after n Decides f) k.current_0 k.current_0 (λ x. within_refl (f.current x)) (λ is. absurd (grind arith)) (λ is. absurd (grind arith)) (checkpoint_of f k (subst HasCheckpoint (sym may) tt))
  stays_valid Commits f k may o = armed (after n Commits f) k.current_0 k.pending_0 k.within (λ is. absurd (grind arith)) (λ is. absurd (grind arith)) (λ h. absurd h)
  stays_valid Rests f k may o = k

-- the opening state of an image without a magic in block 0
pub opening_valid : (image : List (List ℕ)) → IsPlain (get_or image 0 []) → IsState (opening image)
opening_valid image plain = record {
  current_0 = λ v h. subst IsPlain (sym (one_of (get_or image 0 []) v h)) plain;
  pending_0 = λ v h. subst IsPlain (sym (one_of (get_or image 0 []) v h)) plain;
  within = λ b v h. h;
  discarded = λ is b t. absurd (grind arith);
  arming_used = λ is. absurd (grind arith);
  arming_pending = λ is. absurd (grind arith);
  arming_saved = λ is. absurd (grind arith);
  used_0 = λ h. absurd h;
  plain_saved = λ h. absurd h;
}
