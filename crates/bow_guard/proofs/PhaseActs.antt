-- What the acts of a prepare and of a commit, and the writes of trim and committed, do to what holds in each phase.
use Rattle.std.proofs.Common.{ℕ, zero, suc, ◌<◌, ◌≡◌, ◌≢◌, Bool, false, true, not, if◌then◌else◌, List, [], ◌∷◌, ◌++◌, Option, Some, None, arith, refl, sym, ap, ◌∙◌, subst, subst₂, ◌⊎◌, inl, inr, Contains}
use Rattle.std.specs.List.{AllByRecursion as Each}
use Rattle.std.proofs.lemmas.Bool.{cases_eq}
use Rattle.std.proofs.lemmas.List.Elements.{Contains-append_left, Contains-append_right}
use Rattle.bow_units.specs.declared.sizes.Geometry.{Geometry}
use Rattle.bow_units.specs.declared.sizes.Extent.{Extent}
use Rattle.bow_units.specs.declared.statuses.Kind.TheVariants.{Sector0, Unchanged, Backup as BackupKind, Saved}
use Rattle.bow_units.specs.Sizes.{IsValid}
use Rattle.bow_flat.specs.Flat.{Flat, May, is_any, added, put, discards, after}
use Rattle.bow_flat.specs.Flat.Event.{Writes, Reads, Discards, Flushes, Arms, Decides, Commits}
use Rattle.bow_flat.specs.Valid.{IsState}
use Rattle.bow_log.specs.Generations.{Backup, Generation, IsBackup, IsGeneration}
use Rattle.bow_chain.specs.Contents.{Contents, run_of, with_block}
use Rattle.bow_chain.specs.Places.{hop, InDest}
use Rattle.bow_chain.specs.Sound.{log_in, sum_at}
use Rattle.bow_chain.specs.Kept.{IsPlain}
use Rattle.bow_chain.specs.Counting.{InUse}
use Rattle.bow_chain.proofs.Hops.{hop_first, hop_out}
use Rattle.bow_chain.proofs.Counting.{spelled_ok}
use Rattle.bow_guard.specs.Cuts.{Candidates, IsCut, IsFlushed, WriteGiven}
use Rattle.bow_guard.specs.Device.{Device, Firm, Steady, Safe, IsClean, over}
use Rattle.bow_guard.specs.Guard.{KeptBehind, Guarded}
use Rattle.bow_guard.specs.Standing.{Ahead}
use Rattle.bow_guard.specs.Phases.{IsPending, IsArming, IsDeciding}
use Rattle.bow_guard.proofs.Kept.{same_keeps, armed}
use Rattle.bow_guard.proofs.Device.{KeepsKind, one_of, kind_not_saved, given_cases, steady_safe, not_0, firm_same, some_block}
use Rattle.bow_guard.proofs.Phases.{used_above, may_plain, may_within, may_read}

put_cases : {A : Type 0} (P : A → Type 0) (f : ℕ → A) (b : ℕ) (v : A) (x : ℕ) → (x ≡ b → P v) → (x ≢ b → P (f x)) → P (put f b v x)
put_cases P f b v x here there = elim (cases_eq x b) [
  | inl is ↦ subst P (sym (put_here f b v x is)) (here is)
  | inr ne ↦ subst P (sym (put_there f b v x ne)) (there ne)
]
  where
    put_here : {A : Type 0} (f : ℕ → A) (b : ℕ) (v : A) (x : ℕ) → x ≡ b → put f b v x ≡ v
    put_here f b v x is = grind arith

    put_there : {A : Type 0} (f : ℕ → A) (b : ℕ) (v : A) (x : ℕ) → x ≢ b → put f b v x ≡ f x
    put_there f b v x ne = grind arith

may_added : (c : Option (List (List ℕ))) (v w : List ℕ) → May c w ⊎ (w ≡ v) → May (added c v) w
may_added None v w h = tt
may_added (Some cs) v w (inl old) = Contains-append_left cs (v ∷ []) w old
may_added (Some cs) v w (inr new) = subst (λ y. Contains (cs ++ v ∷ []) y) (sym new) (Contains-append_right cs (v ∷ []) v (0, omega arith, refl))

may_dropped : (t : Bool) (c : Option (List (List ℕ))) (w : List ℕ) → May c w → May (if t then None else c) w
may_dropped true c w h = tt
may_dropped false c w h = h

may_none : (c : Option (List (List ℕ))) (w : List ℕ) → c ≡ None → May c w
may_none c w is = subst (λ u. May u w) (sym is) tt

-- with a content put into block 0
with_0 : (image : Contents) (v : List ℕ) → with_block image 0 v 0 ≡ v
unfolding with_block
with_0 image v = refl

with_other : (image : Contents) (v : List ℕ) (x : ℕ) → 0 < x → with_block image 0 v x ≡ image x
unfolding with_block
with_other image v x above = grind arith

module _ (g : Geometry) where
  -- In trim and once committed, a write in place, done or failed.
  pub pending_written : (f : Flat) (n b : ℕ) (v : List ℕ) (now after_now : Contents) (may leaves : Candidates) → WriteGiven b v now after_now may leaves → IsPending g f may → IsPending g (after n (Writes b v) f) leaves
  pending_written f n b v now after_now may leaves w is x on u h = put_cases (λ c. May c u) f.pending b (added (f.pending b) v) x
      (λ same. may_added (f.pending b) v u (here same (given_cases b v now after_now may leaves u w (subst (λ y. Contains (leaves y) u) same h))))
      (λ ne. is x on u (subst (λ vs. Contains vs u) (w.others_may x ne) h))
    where
      here : x ≡ b → Contains (may b) u ⊎ (u ≡ v) → May (f.pending b) u ⊎ (u ≡ v)
      here same (inl old) = inl (is b (subst (λ y. y < g.blocks) same on) u old)
      here same (inr new) = inr new

  -- A write of a block of which nothing is pending changes nothing that is.
  pub pending_kept : (f : Flat) (b : ℕ) (v : List ℕ) (now after_now : Contents) (may leaves : Candidates) → f.pending b ≡ None → WriteGiven b v now after_now may leaves → IsPending g f may → IsPending g f leaves
  pending_kept f b v now after_now may leaves none w is x on u h = elim (cases_eq x b) [
    | inl same ↦ may_none (f.pending x) u (ap f.pending same ∙ none)
    | inr ne ↦ is x on u (subst (λ vs. Contains vs u) (w.others_may x ne) h)
  ]

  -- A flush that is done, where each block reads as it should.
  pub pending_flushed : (f : Flat) (n : ℕ) (now : Contents) (may : Candidates) → ((b : ℕ) → b < g.blocks → May (f.current b) (now b)) → IsFlushed g now may → IsPending g (after n Flushes f) may
  pending_flushed f n now may reads flushed b on v h = subst (May (f.current b)) (sym (one_of (now b) v (subst (λ vs. Contains vs v) (flushed b on) h))) (reads b on)

  -- A discard makes no call.
  pub pending_discarded : (f : Flat) (n : ℕ) (e : Extent) (may : Candidates) → IsPending g f may → IsPending g (after n (Discards e) f) may
  pending_discarded f n e may is b on v h = may_dropped (discards e b) (f.pending b) v (is b on v h)

  -- The flush of a prepare after its two copies of block 0: each block of which something is known is in place.
  pub arms : (f : Flat) (n : ℕ) (d : Device) (b : Backup) → IsFlushed g d.now d.may → d.older ≡ [] → d.kind 0 ≡ Sector0
      → IsGeneration g d.log → d.log.entries ≡ b ∷ [] → d.log.sequence ≡ 0 → b.source ≡ 0 → b.count ≡ 1 → sum_at b.source (run_of d.now b.dest b.count) ≡ b.sum
      → d.kind b.dest ≡ BackupKind → d.picked b.dest ≡ false → d.now b.dest ≡ d.now 0
      → ((x : ℕ) → 0 < x → x < g.blocks → not (is_any (f.current x)) ≡ true → (d.kind x ≡ Unchanged) × (d.picked x ≡ false))
      → IsArming g (after n (Arms d.now) f) d
  arms f n d b flushed older zeroth ok entries sequence source count sum backup free same unchanged = record {
    log = armed g (λ x. not (is_any (f.current x))) d.now (Steady g d) d.now d.log b ok entries sequence sum dests (λ x on u. (used x on u).0) (λ x on u. (used x on u).1);
    older = older;
    in_place = λ x above on u. flushed x on;
    heads = λ v h. inl (one_of (d.now 0) v (subst (λ vs. Contains vs v) (flushed 0 (some_block g d.log ok)) h));
    zeroth = zeroth;
  }
    where
      is_backup : IsBackup g b
      is_backup = (subst (Each (IsBackup g)) entries ok.each).0

      inside : b.dest < g.blocks
      inside = omega (arith, is_backup.dest_inside, is_backup.some)

      dest : Steady g d b.dest
      dest = record { firm = record { on_device = inside; one = flushed b.dest inside; not_picked = free }; kind = inr backup }

      dests : (x : ℕ) → InDest b x → Steady g d x
      dests x h = let is : x ≡ b.dest = omega arith in subst (Steady g d) (sym is) dest

      used : (x : ℕ) → x < g.blocks → InUse (λ b. not (is_any (f.current b))) x → Steady g d (hop b x) × (d.now (hop b x) ≡ d.now x)
      used zero on u = let is = hop_first b source count in (subst (Steady g d) (sym is) dest, ap d.now is ∙ same)
      used (suc x) on u =
          let is = hop_out b (suc x) (λ h. omega arith) in
          let kind = unchanged (suc x) (omega arith) on (used_above (λ b. not (is_any (f.current b))) x u) in
          (subst (Steady g d) (sym is) (record { firm = record { on_device = on; one = flushed (suc x) on; not_picked = kind.1 }; kind = inl kind.0 }), ap d.now is)

  -- The first log is written, or the write fails.
  pub arms_written : (f : Flat) (d : Device) (now : Contents) (may : Candidates) (block : List ℕ) → log_in g block ≡ Some d.log → WriteGiven 0 block d.now now d.may may → IsArming g f d → IsArming g f (over d now may)
  arms_written f d now may block is w a = record {
    log = same_keeps g f.used f.saved (Steady g d) (Steady g (over d now may)) d.now now d.log [] steady (λ x s. w.others_now x (not_0 g d x a.zeroth (steady_safe g d x s))) a.log;
    older = a.older;
    in_place = λ x above on u. w.others_may x (λ z. omega arith) ∙ a.in_place x above on u;
    heads = λ v h. elim (given_cases 0 block d.now now d.may may v w h) [ inl old ↦ a.heads v old | inr new ↦ inr (ap (log_in g) new ∙ is) ];
    zeroth = a.zeroth;
  }
    where
      steady : (x : ℕ) → Steady g d x → Steady g (over d now may) x
      steady x s = let ne = not_0 g d x a.zeroth (steady_safe g d x s) in record { firm = firm_same g d (over d now may) x (w.others_now x ne) (w.others_may x ne) s.firm.not_picked s.firm; kind = s.kind }

  -- Its flush ends the prepare: the first log is durable.
  pub arms_flushed : (f : Flat) (d e : Device) → ((x : ℕ) → e.now x ≡ d.now x) → IsFlushed g d.now e.may → log_in g (d.now 0) ≡ Some d.log
      → e.log ≡ d.log → e.older ≡ d.older → IsClean e → ((x : ℕ) → d.kind x ≢ Saved → e.kind x ≡ d.kind x) → ((x : ℕ) → e.picked x ≡ d.picked x)
      → IsArming g f d → Guarded g f.used f.saved e
  arms_flushed f d e now may given log older clean kinds picked a = record {
    log = logged;
    clean = subst₂ (λ l ls. KeptBehind g (Safe g e) f.used f.saved e.now l ls) (sym clean.log) (sym clean.older) (same_keeps g f.used f.saved (Steady g e) (Safe g e) e.now e.now e.log e.older (steady_safe g e) (λ x s. refl) logged);
    heads = λ v h. inl (ap (log_in g) (one_of (d.now 0) v (subst (λ vs. Contains vs v) (may 0 (some_block g d.log a.log.behind.valid)) h)) ∙ given ∙ ap Some (sym log));
    zeroth = kinds 0 (kind_not_saved (d.kind 0) (inr a.zeroth)) ∙ a.zeroth;
  }
    where
      steady : (x : ℕ) → Steady g d x → Steady g e x
      steady x s = record {
        firm = record { on_device = s.firm.on_device; one = may x s.firm.on_device ∙ ap (λ v. v ∷ []) (sym (now x)); not_picked = picked x ∙ s.firm.not_picked };
        kind = subst KeepsKind (sym (kinds x (kind_not_saved (d.kind x) (inl s.kind)))) s.kind;
      }

      logged : KeptBehind g (Steady g e) f.used f.saved e.now e.log e.older
      logged = subst₂ (λ l ls. KeptBehind g (Steady g e) f.used f.saved e.now l ls) (sym log) (sym (older ∙ a.older)) (same_keeps g f.used f.saved (Steady g d) (Steady g e) d.now e.now d.log [] steady (λ x s. now x) a.log)

  -- A block is read.
  pub arming_read : (f : Flat) (n b : ℕ) (v : List ℕ) (d : Device) → IsArming g f d → IsArming g (after n (Reads b v) f) d
  arming_read f n b v d a = record { log = a.log; older = a.older; in_place = a.in_place; heads = a.heads; zeroth = a.zeroth }

  -- The deciding write, done or failed, after a flush.
  pub deciding_written : (f : Flat) (n : ℕ) (d : Device) (now : Contents) (may : Candidates) (content : List ℕ) → Guarded g f.used f.saved d
      → IsFlushed g d.now d.may → WriteGiven 0 content d.now now d.may may
      → IsPlain content → May (f.current 0) content → ((x : ℕ) → 0 < x → x < g.blocks → May (f.current x) (d.now x))
      → IsDeciding g (after n Decides f) content (over d now may)
  deciding_written f n d now may content k flushed w plain current_0 current =
      record {
        log = same_keeps g f.used f.saved (Steady g d) (Steady g (over d now may)) d.now now d.log d.older (λ x s. record { firm = firm x (steady_safe g d x s); kind = s.kind }) (λ x s. same x (steady_safe g d x s)) k.log;
        clean = same_keeps g f.used f.saved (Safe g d) (Safe g (over d now may)) d.now now d.clean_log d.clean_older (λ x s. record { firm = firm x s; kind = s.kind }) same k.clean;
        heads = λ v h. elim (given_cases 0 content d.now now d.may may v w h) [ inl old ↦ inr (k.heads v old) | inr new ↦ inl new ];
        zeroth = k.zeroth;
        one = λ x a on. w.others_may x (above x a) ∙ flushed x on ∙ ap (λ v. v ∷ []) (sym (w.others_now x (above x a)));
        plain = plain;
        current_0 = current_0;
        current = λ x a on. subst (May (f.current x)) (sym (w.others_now x (above x a))) (current x a on);
      }
    where
      above : (x : ℕ) → 0 < x → x ≢ 0
      above x a is = omega arith

      same : (x : ℕ) → Safe g d x → now x ≡ d.now x
      same x s = w.others_now x (not_0 g d x k.zeroth s)

      firm : (x : ℕ) → Safe g d x → Firm g (over d now may) x
      firm x s = let ne = not_0 g d x k.zeroth s in firm_same g d (over d now may) x (w.others_now x ne) (w.others_may x ne) s.firm.not_picked s.firm

  -- It is written once more, or the write fails.
  pub deciding_again : (f : Flat) (d : Device) (now : Contents) (may : Candidates) (content : List ℕ) → WriteGiven 0 content d.now now d.may may → IsDeciding g f content d → IsDeciding g f content (over d now may)
  deciding_again f d now may content w a =
      record {
        log = same_keeps g f.used f.saved (Steady g d) (Steady g (over d now may)) d.now now d.log d.older (λ x s. record { firm = firm x (steady_safe g d x s); kind = s.kind }) (λ x s. same x (steady_safe g d x s)) a.log;
        clean = same_keeps g f.used f.saved (Safe g d) (Safe g (over d now may)) d.now now d.clean_log d.clean_older (λ x s. record { firm = firm x s; kind = s.kind }) same a.clean;
        heads = λ v h. elim (given_cases 0 content d.now now d.may may v w h) [ inl old ↦ a.heads v old | inr new ↦ inl new ];
        zeroth = a.zeroth;
        one = λ x p on. w.others_may x (above x p) ∙ a.one x p on ∙ ap (λ v. v ∷ []) (sym (w.others_now x (above x p)));
        plain = a.plain;
        current_0 = a.current_0;
        current = λ x p on. subst (May (f.current x)) (sym (w.others_now x (above x p))) (a.current x p on);
      }
    where
      above : (x : ℕ) → 0 < x → x ≢ 0
      above x p is = omega arith

      same : (x : ℕ) → Safe g d x → now x ≡ d.now x
      same x s = w.others_now x (not_0 g d x a.zeroth s)

      firm : (x : ℕ) → Safe g d x → Firm g (over d now may) x
      firm x s = let ne = not_0 g d x a.zeroth s in firm_same g d (over d now may) x (w.others_now x ne) (w.others_may x ne) s.firm.not_picked s.firm

  -- A flush that is done, in deciding.
  pub deciding_flushed : (f : Flat) (d : Device) (may : Candidates) (content : List ℕ) → IsFlushed g d.now may → Contains (d.may 0) (d.now 0) → IsDeciding g f content d → IsDeciding g f content (over d d.now may)
  deciding_flushed f d may content flushed has a =
      record {
        log = same_keeps g f.used f.saved (Steady g d) (Steady g (over d d.now may)) d.now d.now d.log d.older (λ x s. record { firm = firm x s.firm; kind = s.kind }) (λ x s. refl) a.log;
        clean = same_keeps g f.used f.saved (Safe g d) (Safe g (over d d.now may)) d.now d.now d.clean_log d.clean_older (λ x s. record { firm = firm x s.firm; kind = s.kind }) (λ x s. refl) a.clean;
        heads = λ v h. a.heads v (subst (Contains (d.may 0)) (sym (one_of (d.now 0) v (subst (λ vs. Contains vs v) (flushed 0 (some_block g d.log a.log.behind.valid)) h))) has);
        zeroth = a.zeroth;
        one = λ x p on. flushed x on;
        plain = a.plain;
        current_0 = a.current_0;
        current = a.current;
      }
    where
      firm : (x : ℕ) → Firm g d x → Firm g (over d d.now may) x
      firm x s = record { on_device = s.on_device; one = flushed x s.on_device; not_picked = s.not_picked }

  -- A block is read, block 0 where its current content lies.
  pub deciding_read : (f : Flat) (n b : ℕ) (v content : List ℕ) (d : Device) → (b ≡ 0 → v ≡ content) → (0 < b → v ≡ d.now b) → IsDeciding g f content d → IsDeciding g (after n (Reads b v) f) content d
  deciding_read f n b v content d zeroth there a = record {
    log = a.log;
    clean = a.clean;
    heads = a.heads;
    zeroth = a.zeroth;
    one = a.one;
    plain = a.plain;
    current_0 = may_read f.current b 0 v content (λ is. zeroth (sym is)) a.current_0;
    current = λ x p on. may_read f.current b x v (d.now x) (λ is. subst (λ y. v ≡ d.now y) (sym is) (there (subst (λ y. 0 < y) is p))) (a.current x p on);
  }

  -- The last flush of a commit: each block holds what it should read as.
  pub committed_current : (f : Flat) (d : Device) (content : List ℕ) (may : Candidates) → IsDeciding g f content d → d.now 0 ≡ content → IsFlushed g d.now may → (b : ℕ) → b < g.blocks → (v : List ℕ) → Contains (may b) v → May (f.current b) v
  committed_current f d content may a wrote flushed b on v h = subst (May (f.current b)) (sym (one_of (d.now b) v (subst (λ vs. Contains vs v) (flushed b on) h))) (here b on)
    where
      here : (b : ℕ) → b < g.blocks → May (f.current b) (d.now b)
      here zero on = subst (May (f.current 0)) (sym wrote) a.current_0
      here (suc b) on = a.current (suc b) (omega arith) on

  pub committed_flushed : (f : Flat) (n : ℕ) (d : Device) (content : List ℕ) (may : Candidates) → IsState f → IsDeciding g f content d → d.now 0 ≡ content → IsFlushed g d.now may → IsPending g (after n Commits f) may
  committed_flushed f n d content may valid a wrote flushed b on v h = may_within (f.current b) (f.pending b) v (valid.within b) (committed_current f d content may a wrote flushed b on v h)

  -- A commit that was made again ends as a flush and a commit.
  pub committed_again : (f : Flat) (n : ℕ) (d : Device) (content : List ℕ) (may : Candidates) → IsDeciding g f content d → d.now 0 ≡ content → IsFlushed g d.now may → IsPending g (after n Commits (after n Flushes f)) may
  committed_again f n d content may a wrote flushed b on v h = committed_current f d content may a wrote flushed b on v h

  -- Where each candidate of a block is pending, and each candidate of a log's current block 0 is pending for block 0, a cut
  -- is ahead.
  pub ahead_cut : (f : Flat) (may : Candidates) (image : Contents) → IsValid g → IsState f
      → ((b : ℕ) → 0 < b → b < g.blocks → (v : List ℕ) → Contains (may b) v → May (f.pending b) v)
      → ((v : List ℕ) (log : Generation) → Contains (may 0) v → log_in g v ≡ Some log → (w : List ℕ) → Contains (may log.current) w → May (f.pending 0) w)
      → IsCut g may image → Ahead g f image
  ahead_cut f may image sizes valid pending current cut log spelled = record {
    plain = subst IsPlain (sym (with_0 image (image log.current))) (may_plain (f.pending 0) (image log.current) valid.pending_0 here);
    each = each;
  }
    where
      here : May (f.pending 0) (image log.current)
      here = current (image 0) log (cut 0 (omega (arith, sizes.enough))) spelled (image log.current) (cut log.current (spelled_ok g sizes (image 0) log spelled).current_inside)

      each : (b : ℕ) → b < g.blocks → May (f.pending b) (with_block image 0 (image log.current) b)
      each zero on = subst (May (f.pending 0)) (sym (with_0 image (image log.current))) here
      each (suc b) on = subst (May (f.pending (suc b))) (sym (with_other image (image log.current) (suc b) (omega arith))) (pending (suc b) (omega arith) on (image (suc b)) (cut (suc b) on))
