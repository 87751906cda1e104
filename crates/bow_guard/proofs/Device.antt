-- The guard holds at each act of the device.
use Rattle.std.proofs.Common.{ℕ, zero, suc, ◌<◌, ◌≡◌, ◌≢◌, Bool, false, true, List, [], ◌∷◌, Some, arith, refl, sym, ap, ◌∙◌, subst, subst₂, ◌⊎◌, inl, inr, Contains}
use Rattle.std.proofs.lemmas.List.Elements.{Contains-append_cases}
use Rattle.bow_units.specs.declared.sizes.Geometry.{Geometry}
use Rattle.bow_units.specs.declared.statuses.Kind.{Kind}
use Rattle.bow_units.specs.declared.statuses.Kind.TheVariants.{Sector0, Current, Unchanged, Free, Changed, Backup as BackupKind, Saved}
use Rattle.bow_log.specs.Generations.{Backup, Generation, IsBackup, IsGeneration}
use Rattle.bow_chain.specs.Contents.{Contents, run_of}
use Rattle.bow_chain.specs.Places.{hop, InSource, InDest}
use Rattle.bow_chain.specs.Sound.{log_in, sum_at}
use Rattle.bow_chain.specs.Kept.{Keeps}
use Rattle.bow_chain.proofs.Hops.{hop_out, hop_cases, hop_in_dest, hop_first, dest_inside}
use Rattle.bow_guard.specs.Cuts.{Candidates, IsCut, IsFlushed, WriteGiven}
use Rattle.bow_guard.specs.Device.{Device, Firm, Steady, Safe, IsLoose, Touches, SameLogs, IsClean, LogGiven, over, unsaved, with_backup}
use Rattle.bow_guard.specs.Guard.{KeptBehind, Guarded}
use Rattle.bow_guard.proofs.Kept.{same_keeps, renamed, copied, linked}

-- the kinds of the two classes of places
abbrev pub KeepsKind : Kind → Type 0
KeepsKind k = (k ≡ Unchanged) ⊎ (k ≡ BackupKind)

abbrev pub KeepsSafe : Kind → Type 0
KeepsSafe k = ((k ≡ Unchanged) ⊎ (k ≡ BackupKind)) ⊎ (k ≡ Saved)

pub one_of : {A : Type 0} (x y : A) → Contains (x ∷ []) y → y ≡ x
one_of x y (zero, below, is) = sym is
one_of x y (suc k, below, is) = absurd (omega arith)

pub not_saved : (k : Kind) → k ≢ Saved → unsaved k ≡ k
not_saved Sector0 ne = refl
not_saved Current ne = refl
not_saved Unchanged ne = refl
not_saved Free ne = refl
not_saved Changed ne = refl
not_saved BackupKind ne = refl
not_saved Saved ne = absurd (ne refl)

pub kind_not_saved : (k : Kind) → KeepsKind k ⊎ (k ≡ Sector0) → k ≢ Saved
kind_not_saved k h = grind arith

not_both : (b : Bool) → b ≡ true → b ≡ false → ⊥
not_both b p q = grind arith

kind_tight : (k : Kind) → KeepsSafe k → ((k ≡ Changed) ⊎ (k ≡ Free)) ⊎ (k ≡ Current) → ⊥
kind_tight k h l = grind arith

kind_0 : (k : Kind) → k ≡ Sector0 → KeepsSafe k → ⊥
kind_0 k z h = grind arith

-- what a write that was given leaves as candidates
pub given_cases : (block : ℕ) (content : List ℕ) (now after : Contents) (may leaves : Candidates) (v : List ℕ) → WriteGiven block content now after may leaves → Contains (leaves block) v → Contains (may block) v ⊎ (v ≡ content)
given_cases block content now after may leaves v w h = elim w.block_may [
  | inl same ↦ inl (subst (λ vs. Contains vs v) same h)
  | inr more ↦ elim (Contains-append_cases (may block) (content ∷ []) v (subst (λ vs. Contains vs v) more h)) [ inl old ↦ inl old | inr new ↦ inr (one_of content v new) ]
]

-- such a write touches that block alone
pub given_touches : (d e : Device) (block : ℕ) (content : List ℕ) → WriteGiven block content d.now e.now d.may e.may → Touches block d e
given_touches d e block content w = record { now = w.others_now; may = w.others_may }

module _ (g : Geometry) where
  pub steady_safe : (d : Device) (x : ℕ) → Steady g d x → Safe g d x
  steady_safe d x s = record { firm = s.firm; kind = inl s.kind }

  -- no safe place may be written in place
  pub safe_tight : (d : Device) (x : ℕ) → Safe g d x → IsLoose d x → ⊥
  safe_tight d x s l = elim l [ inl p ↦ not_both (d.picked x) p s.firm.not_picked | inr k ↦ kind_tight (d.kind x) s.kind k ]

  pub not_0 : (d : Device) (x : ℕ) → d.kind 0 ≡ Sector0 → Safe g d x → x ≢ 0
  not_0 d x zeroth s is = kind_0 (d.kind 0) zeroth (subst (λ y. KeepsSafe (d.kind y)) is s.kind)

  pub firm_same : (d e : Device) (x : ℕ) → e.now x ≡ d.now x → e.may x ≡ d.may x → e.picked x ≡ false → Firm g d x → Firm g e x
  firm_same d e x now may picked f = record { on_device = f.on_device; one = may ∙ f.one ∙ ap (λ v. v ∷ []) (sym now); not_picked = picked }

  -- a device has a block
  pub some_block : (log : Generation) → IsGeneration g log → 0 < g.blocks
  some_block log v = omega arith

  module _ (used : ℕ → Bool) (saved : Contents) where
    -- a cut that leaves a log in block 0 behind which all is kept at firm places
    pub firm_cut : (P : ℕ → Type 0) (d : Device) (image : Contents) (log : Generation) (older : List Generation) → ((x : ℕ) → P x → Firm g d x) → IsCut g d.may image → log_in g (image 0) ≡ Some log
        → KeptBehind g P used saved d.now log older → Keeps g used saved image
    firm_cut P d image log older firm cut spelled k =
        let after = same_keeps g used saved P P d.now image log older (λ x h. h) same k in
        record { log = log; older = older; sound = record { spelled = spelled; behind = after.behind }; kept = after.kept }
      where
        same : (x : ℕ) → P x → image x ≡ d.now x
        same x h = one_of (d.now x) (image x) (subst (λ vs. Contains vs (image x)) (firm x h).one (cut x (firm x h).on_device))

    -- Whatever a cut leaves is sound and has what was saved.
    pub guarded_cut : (d : Device) (image : Contents) → Guarded g used saved d → IsCut g d.may image → Keeps g used saved image
    guarded_cut d image k cut = elim (k.heads _ (cut 0 (some_block d.log k.log.behind.valid))) [
      | inl h ↦ firm_cut (Steady g d) d image d.log d.older (λ x s. s.firm) cut h k.log
      | inr h ↦ firm_cut (Safe g d) d image d.clean_log d.clean_older (λ x s. s.firm) cut h k.clean
    ]

    -- Where the places that count stay as they were, and the logs stay, the guard stays.
    pub guard_same : (d e : Device) → ((x : ℕ) → Steady g d x → Steady g e x × (e.now x ≡ d.now x)) → ((x : ℕ) → Safe g d x → Safe g e x × (e.now x ≡ d.now x)) → SameLogs d e
        → ((v : List ℕ) → Contains (e.may 0) v → (log_in g v ≡ Some d.log) ⊎ (log_in g v ≡ Some d.clean_log)) → e.kind 0 ≡ Sector0
        → Guarded g used saved d → Guarded g used saved e
    guard_same d e steady safe logs heads zeroth k =
        record {
          log = subst₂ (λ l ls. KeptBehind g (Steady g e) used saved e.now l ls) (sym logs.log) (sym logs.older) (same_keeps g used saved (Steady g d) (Steady g e) d.now e.now d.log d.older (λ x s. (steady x s).0) (λ x s. (steady x s).1) k.log);
          clean = subst₂ (λ l ls. KeptBehind g (Safe g e) used saved e.now l ls) (sym logs.clean_log) (sym logs.clean_older) (same_keeps g used saved (Safe g d) (Safe g e) d.now e.now d.clean_log d.clean_older (λ x s. (safe x s).0) (λ x s. (safe x s).1) k.clean);
          heads = subst₂ (λ l m. (v : List ℕ) → Contains (e.may 0) v → (log_in g v ≡ Some l) ⊎ (log_in g v ≡ Some m)) (sym logs.log) (sym logs.clean_log) heads;
          zeroth = zeroth;
        }

    -- Where the safe places keep their contents, candidates, kinds and picks, the guard stays.
    pub safe_same : (d e : Device) → ((x : ℕ) → Safe g d x → (e.now x ≡ d.now x) × (e.may x ≡ d.may x) × (e.kind x ≡ d.kind x) × (e.picked x ≡ d.picked x)) → SameLogs d e
        → ((v : List ℕ) → Contains (e.may 0) v → (log_in g v ≡ Some d.log) ⊎ (log_in g v ≡ Some d.clean_log)) → e.kind 0 ≡ Sector0
        → Guarded g used saved d → Guarded g used saved e
    safe_same d e same logs heads zeroth k =
        guard_same d e
        (λ x s. let t = steady_safe d x s in (record { firm = firm x t; kind = subst KeepsKind (sym (same x t).2) s.kind }, (same x t).0))
        (λ x s. (record { firm = firm x s; kind = subst KeepsSafe (sym (same x s).2) s.kind }, (same x s).0))
        logs heads zeroth k
      where
        firm : (x : ℕ) → Safe g d x → Firm g e x
        firm x s = firm_same d e x (same x s).0 (same x s).1 ((same x s).3 ∙ s.firm.not_picked) s.firm

    -- A write, done or failed, of a block where nothing is to be kept; kinds of others stay.
    pub loose_write : (d e : Device) (b : ℕ) → b ≢ 0 → (Safe g d b → ⊥) → Touches b d e → SameLogs d e → ((x : ℕ) → x ≢ b → (e.kind x ≡ d.kind x) × (e.picked x ≡ d.picked x)) → Guarded g used saved d → Guarded g used saved e
    loose_write d e b above loose touches logs others k =
        let other : 0 ≢ b = λ z. above (sym z) in
        safe_same d e (λ x s. let ne = apart x s in (touches.now x ne, touches.may x ne, (others x ne).0, (others x ne).1)) logs
        (λ v h. k.heads v (subst (λ vs. Contains vs v) (touches.may 0 other) h)) ((others 0 other).0 ∙ k.zeroth) k
      where
        apart : (x : ℕ) → Safe g d x → x ≢ b
        apart x s is = loose (subst (Safe g d) is s)

    -- Kinds and picks change where nothing is to be kept: blocks are picked or given up, or changed ones freed.
    pub kinds_changed : (d e : Device) → ((x : ℕ) → e.now x ≡ d.now x) → ((x : ℕ) → e.may x ≡ d.may x) → SameLogs d e → ((x : ℕ) → Safe g d x → (e.kind x ≡ d.kind x) × (e.picked x ≡ d.picked x)) → e.kind 0 ≡ Sector0
        → Guarded g used saved d → Guarded g used saved e
    kinds_changed d e now may logs others zeroth k =
        safe_same d e (λ x s. (now x, may x, (others x s).0, (others x s).1)) logs (λ v h. k.heads v (subst (λ vs. Contains vs v) (may 0) h)) zeroth k

    -- A flush that is done; kinds and picks stay.
    pub flushed : (d e : Device) → ((x : ℕ) → e.now x ≡ d.now x) → IsFlushed g d.now e.may → Contains (d.may 0) (d.now 0) → SameLogs d e → ((x : ℕ) → e.kind x ≡ d.kind x) → ((x : ℕ) → e.picked x ≡ d.picked x)
        → Guarded g used saved d → Guarded g used saved e
    flushed d e now may has logs kinds picked k =
        guard_same d e
        (λ x s. (record { firm = firm x s.firm; kind = subst KeepsKind (sym (kinds x)) s.kind }, now x))
        (λ x s. (record { firm = firm x s.firm; kind = subst KeepsSafe (sym (kinds x)) s.kind }, now x))
        logs (λ v h. k.heads v (subst (λ y. Contains (d.may 0) y) (sym (head v h)) has)) (kinds 0 ∙ k.zeroth) k
      where
        firm : (x : ℕ) → Firm g d x → Firm g e x
        firm x f = record { on_device = f.on_device; one = may x f.on_device ∙ ap (λ v. v ∷ []) (sym (now x)); not_picked = picked x ∙ f.not_picked }

        head : (v : List ℕ) → Contains (e.may 0) v → v ≡ d.now 0
        head v h = one_of (d.now 0) v (subst (λ vs. Contains vs v) (may 0 (some_block d.log k.log.behind.valid)) h)

    -- The last flush of a batch: the log in memory is durable, and what was saved may be written.
    pub cleaned : (d e : Device) → ((x : ℕ) → e.now x ≡ d.now x) → IsFlushed g d.now e.may → log_in g (d.now 0) ≡ Some d.log
        → e.log ≡ d.log → e.older ≡ d.older → IsClean e → ((x : ℕ) → d.kind x ≢ Saved → e.kind x ≡ d.kind x) → ((x : ℕ) → e.picked x ≡ d.picked x)
        → Guarded g used saved d → Guarded g used saved e
    cleaned d e now may given log older clean kinds picked k =
        record {
          log = logged;
          clean = subst₂ (λ l ls. KeptBehind g (Safe g e) used saved e.now l ls) (sym clean.log) (sym clean.older) (same_keeps g used saved (Steady g e) (Safe g e) e.now e.now e.log e.older (steady_safe e) (λ x s. refl) logged);
          heads = λ v h. inl (ap (log_in g) (one_of (d.now 0) v (subst (λ vs. Contains vs v) (may 0 (some_block d.log k.log.behind.valid)) h)) ∙ given ∙ ap Some (sym log));
          zeroth = kinds 0 (kind_not_saved (d.kind 0) (inr k.zeroth)) ∙ k.zeroth;
        }
      where
        steady : (x : ℕ) → Steady g d x → Steady g e x
        steady x s = record {
          firm = record { on_device = s.firm.on_device; one = may x s.firm.on_device ∙ ap (λ v. v ∷ []) (sym (now x)); not_picked = picked x ∙ s.firm.not_picked };
          kind = subst KeepsKind (sym (kinds x (kind_not_saved (d.kind x) (inl s.kind)))) s.kind;
        }

        logged : KeptBehind g (Steady g e) used saved e.now e.log e.older
        logged = subst₂ (λ l ls. KeptBehind g (Steady g e) used saved e.now l ls) (sym log) (sym older) (same_keeps g used saved (Steady g d) (Steady g e) d.now e.now d.log d.older steady (λ x s. now x) k.log)

    module _ (d e : Device) (b : Backup) (ok : IsBackup g b) (given : LogGiven g b d e) (clean : IsClean d) (k : Guarded g used saved d) where
      out_of_dest : (x : ℕ) → Firm g d x → InDest b x → ⊥
      out_of_dest x f h = not_both (d.picked x) (given.dest_picked x h) f.not_picked

      above_0 : (x : ℕ) → InDest b x → x ≢ 0
      above_0 x h is = omega arith

      dest_steady : (x : ℕ) → InDest b x → Steady g e x
      dest_steady x h = record {
        firm = record {
          on_device = dest_inside g b x ok h;
          one = given.write.others_may x (above_0 x h) ∙ given.dest_flushed x h ∙ ap (λ v. v ∷ []) (sym (given.write.others_now x (above_0 x h)));
          not_picked = given.dest_given x h;
        };
        kind = inr (given.dest_kind x h);
      }

      still_firm : (x : ℕ) → x ≢ 0 → Firm g d x → Firm g e x
      still_firm x ne f = firm_same d e x (given.write.others_now x ne) (given.write.others_may x ne) (given.others_picked x (out_of_dest x f) ∙ f.not_picked) f

      -- what was to be kept is where the backup puts it
      hop_steady : (x : ℕ) → Steady g d x → Steady g e (hop b x)
      hop_steady x s = elim (hop_cases b x) [
        | inl h ↦ dest_steady _ (hop_in_dest b x h.0)
        | inr h ↦ subst (Steady g e) (sym h.1) (record { firm = still_firm x (not_0 d x k.zeroth (steady_safe d x s)) s.firm; kind = subst KeepsKind (sym (given.others_kind x h.0 (out_of_dest x s.firm))) s.kind })
      ]

      -- and is safe where it was
      still_safe : (x : ℕ) → Safe g d x → Safe g e x
      still_safe x s =
          let ne = not_0 d x k.zeroth s in
          record {
            firm = still_firm x ne s.firm;
            kind = elim (hop_cases b x) [ inl h ↦ inr (given.source_kind x (omega arith) h.0) | inr h ↦ subst KeepsSafe (sym (given.others_kind x h.0 (out_of_dest x s.firm))) s.kind ];
          }

      old_log : KeptBehind g (Safe g e) used saved e.now e.clean_log e.clean_older
      old_log = subst₂ (λ l ls. KeptBehind g (Safe g e) used saved e.now l ls) (sym given.clean_log) (sym given.clean_older) (same_keeps g used saved (Safe g d) (Safe g e) d.now e.now d.clean_log d.clean_older still_safe (λ x s. given.write.others_now x (not_0 d x k.zeroth s)) k.clean)

      was : (v : List ℕ) → Contains (d.may 0) v → log_in g v ≡ Some e.clean_log
      was v h = elim (k.heads v h) [ inl i ↦ i ∙ ap Some (sym clean.log ∙ sym given.clean_log) | inr i ↦ i ∙ ap Some (sym given.clean_log) ]

      new_heads : (v : List ℕ) → Contains (e.may 0) v → (log_in g v ≡ Some e.log) ⊎ (log_in g v ≡ Some e.clean_log)
      new_heads v h = elim (given_cases 0 given.block d.now e.now d.may e.may v given.write h) [ inl old ↦ inr (was v old) | inr new ↦ inl (ap (log_in g) new ∙ given.spelled) ]

      dest_now : (x : ℕ) → InDest b x → e.now x ≡ d.now x
      dest_now x h = given.write.others_now x (above_0 x h)

      -- A batch of copies: its log is given.
      pub copy_logged : e.log ≡ with_backup d.log b → e.older ≡ d.older → IsGeneration g (with_backup d.log b)
          → ((x : ℕ) → InSource b x → d.now (hop b x) ≡ d.now x)
          → sum_at b.source (run_of e.now b.dest b.count) ≡ b.sum
          → Guarded g used saved e
      copy_logged log older log_ok made sum =
          record {
            log = subst₂ (λ l ls. KeptBehind g (Steady g e) used saved e.now l ls) (sym log) (sym older) (copied g used saved (Steady g d) (Steady g e) d.now e.now d.log d.older b log_ok same sum hop_steady dest_steady k.log);
            clean = old_log;
            heads = new_heads;
            zeroth = given.zeroth ∙ k.zeroth;
          }
        where
          same : (x : ℕ) → Steady g d x → e.now (hop b x) ≡ d.now x
          same x s = elim (hop_cases b x) [
            | inl h ↦ dest_now _ (hop_in_dest b x h.0) ∙ made x h.0
            | inr h ↦ ap e.now h.1 ∙ given.write.others_now x (not_0 d x k.zeroth (steady_safe d x s))
          ]

      -- A link: the full log is in the dest, and the new one is given.
      pub link_logged : b.source ≡ 0 → b.count ≡ 1 → e.log.entries ≡ b ∷ [] → e.log.sequence ≡ suc d.log.sequence → e.older ≡ d.log ∷ d.older → IsGeneration g e.log → d.log.restoring ≡ false
          → log_in g (d.now b.dest) ≡ Some d.log
          → sum_at b.source (run_of e.now b.dest b.count) ≡ b.sum
          → Guarded g used saved e
      link_logged source count entries sequence older log_ok whole made sum =
          record {
            log = subst (λ ls. KeptBehind g (Steady g e) used saved e.now e.log ls) (sym older) (linked g used saved (Steady g d) (Steady g e) d.now e.now d.log e.log d.older b whole log_ok entries sequence spelled same sum (dest_steady _ hop_0) hop_steady dest_steady k.log);
            clean = old_log;
            heads = new_heads;
            zeroth = given.zeroth ∙ k.zeroth;
          }
        where
          hop_0 : InDest b (hop b 0)
          hop_0 = hop_in_dest b 0 (record { above = omega arith; below = omega arith })

          spelled : log_in g (e.now (hop b 0)) ≡ Some d.log
          spelled = ap (log_in g) (dest_now _ hop_0 ∙ ap d.now (hop_first b source count)) ∙ made

          same : (x : ℕ) → Steady g d x → e.now (hop b x) ≡ d.now x
          same x s = let ne = not_0 d x k.zeroth (steady_safe d x s) in ap e.now (hop_out b x (λ h. ne (omega arith))) ∙ given.write.others_now x ne

    -- A move of where the current block 0 lies: its log is given.
    pub move_logged : (d e : Device) (from to : ℕ) (block : List ℕ) → WriteGiven 0 block d.now e.now d.may e.may → log_in g block ≡ Some e.log → IsClean d
        → e.log ≡ record d.log { current = to } → 0 < to → to < g.blocks → e.older ≡ d.older → e.clean_log ≡ d.clean_log → e.clean_older ≡ d.clean_older
        → (Safe g d from → ⊥) → (Safe g d to → ⊥) → ((x : ℕ) → x ≢ from → x ≢ to → (e.kind x ≡ d.kind x) × (e.picked x ≡ d.picked x)) → e.kind 0 ≡ Sector0
        → Guarded g used saved d → Guarded g used saved e
    move_logged d e from to block write is clean log above inside older clean_log clean_older not_from not_to others zeroth k =
        record {
          log = subst₂ (λ l ls. KeptBehind g (Steady g e) used saved e.now l ls) (sym log) (sym older) (renamed g used saved (Steady g e) e.now d.log d.older to above inside (same_keeps g used saved (Steady g d) (Steady g e) d.now e.now d.log d.older steady (λ x s. write.others_now x (not_0 d x k.zeroth (steady_safe d x s))) k.log));
          clean = subst₂ (λ l ls. KeptBehind g (Safe g e) used saved e.now l ls) (sym clean_log) (sym clean_older) (same_keeps g used saved (Safe g d) (Safe g e) d.now e.now d.clean_log d.clean_older safe (λ x s. write.others_now x (not_0 d x k.zeroth s)) k.clean);
          heads = λ v h. elim (given_cases 0 block d.now e.now d.may e.may v write h) [ inl old ↦ inr (was v old) | inr new ↦ inl (ap (log_in g) new ∙ is) ];
          zeroth = zeroth;
        }
      where
        was : (v : List ℕ) → Contains (d.may 0) v → log_in g v ≡ Some e.clean_log
        was v h = elim (k.heads v h) [ inl i ↦ i ∙ ap Some (sym clean.log ∙ sym clean_log) | inr i ↦ i ∙ ap Some (sym clean_log) ]

        apart : (x : ℕ) → Safe g d x → (e.kind x ≡ d.kind x) × (e.picked x ≡ d.picked x)
        apart x s = others x (λ is. not_from (subst (Safe g d) is s)) (λ is. not_to (subst (Safe g d) is s))

        firm : (x : ℕ) → Safe g d x → Firm g e x
        firm x s = let ne = not_0 d x k.zeroth s in firm_same d e x (write.others_now x ne) (write.others_may x ne) ((apart x s).1 ∙ s.firm.not_picked) s.firm

        steady : (x : ℕ) → Steady g d x → Steady g e x
        steady x s = let t = steady_safe d x s in record { firm = firm x t; kind = subst KeepsKind (sym (apart x t).0) s.kind }

        safe : (x : ℕ) → Safe g d x → Safe g e x
        safe x s = record { firm = firm x s; kind = subst KeepsSafe (sym (apart x s).0) s.kind }

    -- The log in memory is written once more, or the write fails.
    pub rewritten : (d : Device) (now : Contents) (may : Candidates) (block : List ℕ) → log_in g block ≡ Some d.log → WriteGiven 0 block d.now now d.may may → Guarded g used saved d → Guarded g used saved (over d now may)
    rewritten d now may block is w k =
        safe_same d (over d now may) (λ x s. let ne = not_0 d x k.zeroth s in (w.others_now x ne, w.others_may x ne, refl, refl))
        (record { log = refl; older = refl; clean_log = refl; clean_older = refl })
        (λ v h. elim (given_cases 0 block d.now now d.may may v w h) [ inl old ↦ k.heads v old | inr new ↦ inl (ap (log_in g) new ∙ is) ])
        k.zeroth k
