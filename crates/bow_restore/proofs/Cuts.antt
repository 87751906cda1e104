-- A restoration keeps what it is to restore at each of its disk's calls.
use Rattle.std.proofs.Common.{ℕ, ◌<◌, ◌≡◌, List, [], ◌∷◌, ◌++◌, length, set, Some, Contains, append-nil, append_assoc, arith, refl, sym, ap, ◌∙◌, subst, inl, inr}
use Rattle.bow_units.specs.declared.sizes.Geometry.{Geometry}
use Rattle.bow_units.specs.Sizes.{IsValid}
use Rattle.bow_log.specs.Generations.{Backup, Generation, IsBackup, IsGeneration}
use Rattle.bow_disk.specs.Disk.{Content, IsCrash}
use Rattle.bow_chain.specs.Contents.{Contents, contents_of}
use Rattle.bow_chain.specs.Places.{hop, pass, base}
use Rattle.bow_chain.specs.Sound.{log_in, StandsBehind, IsSound}
use Rattle.bow_chain.specs.Kept.{Keeps, Holds}
use Rattle.bow_chain.proofs.Hops.{hop_pos, hop_inside}
use Rattle.bow_restore.specs.Marks.{AreClear, IsNoSource}
use Rattle.bow_restore.specs.Rewinds.{every}
use Rattle.bow_restore.specs.Replaying.{candidates_at, IsFlushed, Replaying, Replayed, CopiedBack, IsCutBeside, IsHeadCut}
use Rattle.bow_restore.proofs.Clear.{pass_fixed}
use Rattle.bow_restore.proofs.Kept.{between, marked, stepped, led}
use Rattle.bow_restore.proofs.Copied.{copied_run, put_same, put_other}
use Rattle.bow_restore.proofs.Told.{Fits, one_of, crash_at, now_in, flushed_at, now_put}

module _ (g : Geometry) (valid : IsValid g) (saved : Contents) (older : List Generation) where
  some : 0 < g.blocks
  some = omega (arith, valid.enough)

  -- an image that holds a candidate in block 0 and outside the sources of what was replayed
  from_state : (rest since : List Backup) (c : Content) (cut : Contents) → Replaying g saved older rest since c → Contains (candidates_at c 0) (cut 0)
      → ((s : Replaying g saved older rest since c) (x : ℕ) → 0 < x → x < g.blocks → IsNoSource since x → cut x ≡ s.image x) → Keeps g every saved cut
  from_state rest since c cut r head same =
      let after = between g valid r.image cut r.log older rest since r.behind r.entries r.clear (same r) in
      record { log = r.log; older = older; sound = record { spelled = r.head (cut 0) head; behind = after.0 }; kept = λ x on _. after.1 x on ∙ r.kept x on }

  -- any cut of a replay keeps what was kept
  pub replaying_cut : (rest since : List Backup) (c : Content) (cut : List (List ℕ)) → Fits g c → Replaying g saved older rest since c → IsCrash c.candidates cut → Keeps g every saved (contents_of cut)
  replaying_cut rest since c cut fits r crash =
      from_state rest since c (contents_of cut) r (crash_at g c cut fits crash 0 some) (λ s x above on out. s.still x above on out (contents_of cut x) (crash_at g c cut fits crash x on))

  -- and so does one while the next backup is copied back
  pub beside_cut : (rest since : List Backup) (b : Backup) (c : Content) (cut : List (List ℕ)) → 0 < b.source → Replaying g saved older rest (b ∷ since) c → IsCutBeside g b c cut → Keeps g every saved (contents_of cut)
  beside_cut rest since b c cut above r beside =
      from_state rest (b ∷ since) c (contents_of cut) r (beside 0 some (λ h. omega (arith, h.above))) (λ s x pos on out. s.still x pos on out (contents_of cut x) (beside x on out.0))

  -- a flushed disk with a sound image, of which nothing was replayed
  pub replay_begins : (c : Content) (log : Generation) → Fits g c → IsFlushed c → IsSound g (contents_of c.now) log older → ((x : ℕ) → x < g.blocks → contents_of c.now (base (log ∷ older) x) ≡ saved x)
      → Replayed g saved older log.entries [] c
  replay_begins c log fits flushed sound is = record {
    state = record {
      log = log;
      image = contents_of c.now;
      behind = sound.behind;
      kept = is;
      entries = sym (append-nil log.entries);
      clear = tt;
      head = λ v h. ap (log_in g) (one_of _ _ (subst (λ vs. Contains vs v) (flushed_at g c fits flushed 0 some) h)) ∙ sound.spelled;
      still = λ x above on out v h. one_of _ _ (subst (λ vs. Contains vs v) (flushed_at g c fits flushed x on) h);
    };
    now = λ x above on. refl;
  }

  -- a backup is begun that needs no mark
  pub backup_begins : (rest since : List Backup) (b : Backup) (c : Content) → AreClear (b ∷ since) → Replaying g saved older (rest ++ b ∷ []) since c → Replaying g saved older rest (b ∷ since) c
  backup_begins rest since b c clear r = record {
    log = r.log;
    image = r.image;
    behind = r.behind;
    kept = r.kept;
    entries = r.entries ∙ append_assoc rest (b ∷ []) since;
    clear = clear;
    head = r.head;
    still = λ x above on out v h. r.still x above on out.1 v h;
  }

  -- and ended
  pub backup_ends : (rest since : List Backup) (b : Backup) (c d : Content) → IsBackup g b → 0 < b.source → AreClear (b ∷ since) → CopiedBack b b.count c d → Replayed g saved older (rest ++ b ∷ []) since c → Replayed g saved older rest (b ∷ since) d
  unfolding backup_begins
  backup_ends rest since b c d ok above clear back r =
      let s = backup_begins rest since b c clear r.state in
      record {
        state = record {
          log = s.log;
          image = s.image;
          behind = s.behind;
          kept = s.kept;
          entries = s.entries;
          clear = clear;
          head = λ v h. s.head v (subst (λ vs. Contains vs v) (back.others 0 (λ z. omega (arith, z.above))) h);
          still = λ x pos on out v h. s.still x pos on out v (subst (λ vs. Contains vs v) (back.others x out.0) h);
        };
        now = λ x pos on. back.now x ∙ copied_run b.dest b.source b.count b.sum (contents_of c.now) x ok.apart ∙ r.now (hop b x) (hop_pos g b x ok pos) (hop_inside g b x ok on);
      }

  -- A mark: whatever a cut leaves of it, and what stands after its last flush.
  pub mark_cut : (rest since : List Backup) (c : Content) (v : List ℕ) (new : Generation) (cut : List (List ℕ)) → Fits g c → Replayed g saved older rest since c
      → log_in g v ≡ Some new → IsGeneration g new → new.entries ≡ rest → new.sequence ≡ length older → IsHeadCut g v c.now cut → Keeps g every saved (contents_of cut)
  mark_cut rest since c v new cut fits r spelled ok entries sequence left = elim left.head [
    | inl was ↦ from_state rest since c (contents_of cut) r.state (subst (λ w. Contains (candidates_at c 0) w) (sym was) (now_in g c fits 0 some)) at_old
    | inr is ↦ (let after = marked g valid r.state.image (contents_of cut) r.state.log new older rest since r.state.behind r.state.entries ok entries (sequence ∙ sym r.state.behind.sequence) (λ x above on. left.others x above on ∙ r.now x above on) in
        record { log = new; older = older; sound = record { spelled = ap (log_in g) is ∙ spelled; behind = after.0 }; kept = λ x on _. after.1 x on ∙ r.state.kept x on })
  ]
    where
      at_old : (s : Replaying g saved older rest since c) (x : ℕ) → 0 < x → x < g.blocks → IsNoSource since x → contents_of cut x ≡ s.image x
      at_old s x above on out = left.others x above on ∙ one_still s x above on out
        where
          one_still : (s : Replaying g saved older rest since c) (x : ℕ) → 0 < x → x < g.blocks → IsNoSource since x → contents_of c.now x ≡ s.image x
          one_still s x above on out = s.still x above on out (contents_of c.now x) (now_in g c fits x on)

  pub mark_made : (rest since : List Backup) (c d : Content) (v : List ℕ) (new : Generation) → Fits g c → Fits g d → Replayed g saved older rest since c
      → log_in g v ≡ Some new → IsGeneration g new → new.entries ≡ rest → new.sequence ≡ length older → d.now ≡ set c.now 0 v → IsFlushed d → Replayed g saved older rest [] d
  mark_made rest since c d v new fits fd r spelled ok entries sequence now flushed =
      let put = now_put 0 v c.now d.now (omega (arith, fits.blocks, valid.enough)) now in
      let same : (x : ℕ) → 0 < x → x < g.blocks → contents_of d.now x ≡ r.state.image (pass since x) = λ x above on. put x ∙ put_other (contents_of c.now) 0 v x (λ z. omega arith) ∙ r.now x above on in
      let after = marked g valid r.state.image (contents_of d.now) r.state.log new older rest since r.state.behind r.state.entries ok entries (sequence ∙ sym r.state.behind.sequence) same in
      record {
        state = record {
          log = new;
          image = contents_of d.now;
          behind = after.0;
          kept = λ x on. after.1 x on ∙ r.state.kept x on;
          entries = entries ∙ sym (append-nil rest);
          clear = tt;
          head = λ w h. ap (log_in g) (one_of _ _ (subst (λ vs. Contains vs w) (flushed_at g d fd flushed 0 some) h) ∙ put 0 ∙ put_same (contents_of c.now) 0 v) ∙ spelled;
          still = λ x above on out w h. one_of _ _ (subst (λ vs. Contains vs w) (flushed_at g d fd flushed x on) h);
        };
        now = λ x above on. refl;
      }

-- Block 0 is written back: the older log, or the kept block 0.
pub head_cut : (g : Geometry) (valid : IsValid g) (saved : Contents) (older : List Generation) (since : List Backup) (b : Backup) (c : Content) (cut : List (List ℕ)) → Fits g c → IsBackup g b → b.source ≡ 0 → b.count ≡ 1
    → Replayed g saved older (b ∷ []) since c → IsHeadCut g (contents_of c.now b.dest) c.now cut → Holds g every saved (contents_of cut)
head_cut g valid saved older since b c cut fits ok source count r left = elim left.head [
  | inl was ↦ inl (old was)
  | inr is ↦ new older r.state.log r.state.image r.state.behind r.state.kept (all is)
]
  where
    some : 0 < g.blocks
    some = omega (arith, valid.enough)

    old : contents_of cut 0 ≡ contents_of c.now 0 → Keeps g every saved (contents_of cut)
    old was =
        let after = between g valid r.state.image (contents_of cut) r.state.log older (b ∷ []) since r.state.behind r.state.entries r.state.clear (λ x above on out. left.others x above on ∙ r.now x above on ∙ ap r.state.image (pass_fixed since x out)) in
        record { log = r.state.log; older = older; sound = record { spelled = r.state.head (contents_of cut 0) (subst (λ w. Contains (candidates_at c 0) w) (sym was) (now_in g c fits 0 some)); behind = after.0 }; kept = λ x on _. after.1 x on ∙ r.state.kept x on }

    all : contents_of cut 0 ≡ contents_of c.now b.dest → (x : ℕ) → x < g.blocks → contents_of cut x ≡ r.state.image (pass r.state.log.entries x)
    all is x on = led g valid r.state.image (contents_of cut) b since ok source count (λ y above inside. left.others y above inside ∙ r.now y above inside) (is ∙ r.now b.dest ok.dest_not_0 (omega (arith, ok.dest_inside, count))) x on ∙ ap (λ es. r.state.image (pass es x)) (sym r.state.entries)

    new : (older : List Generation) (log : Generation) (image : Contents) → StandsBehind g image log older → ((x : ℕ) → x < g.blocks → image (base (log ∷ older) x) ≡ saved x)
        → ((x : ℕ) → x < g.blocks → contents_of cut x ≡ image (pass log.entries x)) → Holds g every saved (contents_of cut)
    new [] log image behind is replayed = inr (λ x on _. replayed x on ∙ is x on)
    new (next ∷ rest) log image behind is replayed = let after = stepped g valid image (contents_of cut) log next rest behind replayed in inl (record { log = next; older = rest; sound = after.0; kept = λ x on _. after.1 x on ∙ is x on })
