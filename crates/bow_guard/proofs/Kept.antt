-- What each write of the device does to what stands behind a log, and to what is kept there.
use Rattle.std.proofs.Common.{ℕ, suc, ◌<◌, ◌≡◌, Bool, false, List, [], ◌∷◌, Some, sym, ap, ◌∙◌, subst}
use Rattle.bow_units.specs.declared.sizes.Geometry.{Geometry}
use Rattle.bow_log.specs.Generations.{Backup, Generation, IsGeneration}
use Rattle.bow_chain.specs.Contents.{Contents, run_of}
use Rattle.bow_chain.specs.Places.{hop, pass, base, InDest}
use Rattle.bow_chain.specs.Sound.{log_in, sum_at, SumsHold, IsChain}
use Rattle.bow_chain.specs.Counting.{AtSums, AtLogs, InUse}
use Rattle.bow_chain.proofs.Hops.{pass-append}
use Rattle.bow_chain.proofs.Moved.{sums_moved, moved}
use Rattle.bow_chain.proofs.Counting.{entries_map, places_map, at_places_map, entries_append, places_route, chain_route, sums_append}
use Rattle.bow_guard.specs.Device.{with_backup}
use Rattle.bow_guard.specs.Guard.{KeptBehind}

module _ (g : Geometry) (used : ℕ → Bool) (saved : Contents) where
  -- An image that is the same at each place that counts keeps the same behind a log; and those places may have more.
  pub same_keeps : (P Q : ℕ → Type 0) (image other : Contents) (log : Generation) (older : List Generation) → ((x : ℕ) → P x → Q x) → ((x : ℕ) → P x → other x ≡ image x) → KeptBehind g P used saved image log older → KeptBehind g Q used saved other log older
  same_keeps P Q image other log older more same k =
      record {
        behind = record {
          valid = (k.behind).valid;
          sequence = (k.behind).sequence;
          sums = sums_moved image other (λ x. x) (λ x. x) (λ x. x) log.entries (entries_map P _ (λ x. x) (λ x. x) same log.entries (k.places).sums) (k.behind).sums;
          chain = moved g image other (λ x. x) (λ x. x) (pass log.entries) older (places_map P _ (λ x. x) (λ x. x) (pass log.entries) same older (k.places).logs) (k.behind).chain;
        };
        places = at_places_map g used P Q log older more k.places;
        kept = λ x on u. same _ ((k.places).bases x on u) ∙ k.kept x on u;
      }

  -- Where the current block 0 lies changes nothing.
  pub renamed : (P : ℕ → Type 0) (image : Contents) (log : Generation) (older : List Generation) (current : ℕ) → 0 < current → current < g.blocks
      → KeptBehind g P used saved image log older → KeptBehind g P used saved image (record log { current = current }) older
  renamed P image log older current above inside k =
      let b = k.behind in
      let v = b.valid in
      record {
        behind = record {
          valid = record { few = v.few; current_not_0 = above; current_inside = inside; each = v.each; start = v.start };
          sequence = b.sequence;
          sums = b.sums;
          chain = b.chain;
        };
        places = record { sums = (k.places).sums; logs = (k.places).logs; bases = (k.places).bases };
        kept = k.kept;
      }

  -- One more backup, whose dests hold what its sources held.
  pub copied : (P Q : ℕ → Type 0) (image other : Contents) (log : Generation) (older : List Generation) (b : Backup)
      → IsGeneration g (with_backup log b)
      → ((x : ℕ) → P x → other (hop b x) ≡ image x)
      → sum_at b.source (run_of other b.dest b.count) ≡ b.sum
      → ((x : ℕ) → P x → Q (hop b x)) → ((x : ℕ) → InDest b x → Q x)
      → KeptBehind g P used saved image log older
      → KeptBehind g Q used saved other (with_backup log b) older
  copied P Q image other log older b ok same sum more dests k =
      let back = λ (x : ℕ). sym (pass-append log.entries (b ∷ []) x) in
      record {
        behind = record {
          valid = ok;
          sequence = (k.behind).sequence;
          sums = sums_append other (λ x. x) log.entries (b ∷ []) (sums_moved image other (λ x. x) (hop b) (λ x. x) log.entries (entries_map P _ (λ x. x) (λ x. x) same log.entries (k.places).sums) (k.behind).sums) (sum, tt);
          chain = chain_route g other _ _ older back (moved g image other (λ x. x) (hop b) (pass log.entries) older (places_map P _ (λ x. x) (λ x. x) (pass log.entries) same older (k.places).logs) (k.behind).chain);
        };
        places = record {
          sums = entries_append Q (λ x. x) log.entries (b ∷ []) (entries_map P Q (λ x. x) (hop b) more log.entries (k.places).sums) (dests, tt);
          logs = places_route Q _ _ older back (places_map P Q (λ x. x) (hop b) (pass log.entries) more older (k.places).logs);
          bases = λ x on u. subst Q (back (base older x)) (more _ ((k.places).bases x on u));
        };
        kept = λ x on u. ap other (sym (back (base older x))) ∙ same _ ((k.places).bases x on u) ∙ k.kept x on u;
      }

  -- The log itself is copied, and a new one begins with that one backup.
  pub linked : (P Q : ℕ → Type 0) (image other : Contents) (log new : Generation) (older : List Generation) (b : Backup)
      → log.restoring ≡ false → IsGeneration g new → new.entries ≡ b ∷ [] → new.sequence ≡ suc log.sequence
      → log_in g (other (hop b 0)) ≡ Some log → ((x : ℕ) → P x → other (hop b x) ≡ image x)
      → sum_at b.source (run_of other b.dest b.count) ≡ b.sum
      → Q (hop b 0) → ((x : ℕ) → P x → Q (hop b x)) → ((x : ℕ) → InDest b x → Q x)
      → KeptBehind g P used saved image log older
      → KeptBehind g Q used saved other new (log ∷ older)
  linked P Q image other log new older b whole ok entries sequence spelled same sum more0 more dests k =
      let es = sym entries in
      record {
        behind = record {
          valid = ok;
          sequence = sequence ∙ ap suc (k.behind).sequence;
          sums = subst (SumsHold other (λ x. x)) es (sum, tt);
          chain = subst (λ es. IsChain g other (pass es) (log ∷ older)) es (
            spelled,
            whole,
            (k.behind).sequence,
            sums_moved image other (λ x. x) (hop b) (λ x. x) log.entries (entries_map P _ (λ x. x) (λ x. x) same log.entries (k.places).sums) (k.behind).sums,
            moved g image other (λ x. x) (hop b) (pass log.entries) older (places_map P _ (λ x. x) (λ x. x) (pass log.entries) same older (k.places).logs) (k.behind).chain,
          );
        };
        places = record {
          sums = subst (AtSums Q (λ x. x)) es (dests, tt);
          logs = subst (λ es. AtLogs Q (pass es) (log ∷ older)) es (more0, entries_map P Q (λ x. x) (hop b) more log.entries (k.places).sums, places_map P Q (λ x. x) (hop b) (pass log.entries) more older (k.places).logs);
          bases = λ x on u. subst (λ es. Q (pass es (base (log ∷ older) x))) es (more _ ((k.places).bases x on u));
        };
        kept = λ x on u. subst (λ es. other (pass es (base (log ∷ older) x)) ≡ saved x) es (same _ ((k.places).bases x on u) ∙ k.kept x on u);
      }

  -- The first log: each block in use is kept where the one backup puts it.
  pub armed : (P : ℕ → Type 0) (image : Contents) (log : Generation) (b : Backup)
      → IsGeneration g log → log.entries ≡ b ∷ [] → log.sequence ≡ 0
      → sum_at b.source (run_of image b.dest b.count) ≡ b.sum
      → ((x : ℕ) → InDest b x → P x)
      → ((x : ℕ) → x < g.blocks → InUse used x → P (hop b x)) → ((x : ℕ) → x < g.blocks → InUse used x → image (hop b x) ≡ saved x)
      → KeptBehind g P used saved image log []
  armed P image log b ok entries sequence sum dests firm kept =
      let es = sym entries in
      record {
        behind = record { valid = ok; sequence = sequence; sums = subst (SumsHold image (λ x. x)) es (sum, tt); chain = tt };
        places = record {
          sums = subst (AtSums P (λ x. x)) es (dests, tt);
          logs = tt;
          bases = λ x on u. subst (λ es. P (pass es x)) es (firm x on u);
        };
        kept = λ x on u. subst (λ es. image (pass es x) ≡ saved x) es (kept x on u);
      }
