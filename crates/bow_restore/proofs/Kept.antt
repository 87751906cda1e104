-- What a replay keeps behind the log in block 0.
use Rattle.std.proofs.Common.{ℕ, zero, suc, ◌<◌, ◌≡◌, List, [], ◌∷◌, ◌++◌, arith, sym, ap, ◌∙◌, subst}
use Rattle.std.specs.List.{AllByRecursion as Each}
use Rattle.bow_units.specs.declared.sizes.Geometry.{Geometry}
use Rattle.bow_units.specs.Sizes.{IsValid}
use Rattle.bow_log.specs.Generations.{Backup, Generation, IsBackup, IsGeneration}
use Rattle.bow_chain.specs.Contents.{Contents}
use Rattle.bow_chain.specs.Places.{pass, base}
use Rattle.bow_chain.specs.Sound.{log_in, SumsHold, IsChain, StandsBehind, IsSound}
use Rattle.bow_chain.specs.Counting.{AtSums, AtLogs}
use Rattle.bow_chain.proofs.Hops.{pass-append, pass_inside, log_pos, log_inside, hop_first, hop_out}
use Rattle.bow_chain.proofs.Moved.{sums_moved, moved}
use Rattle.bow_chain.proofs.Counting.{entries_map, places_map, entries_append, entries_all, places_all, entries_both, places_both, sums_front, entries_pos, places_pos, entries_inside, places_inside, base_inside, chain_route, older_ok, spelled_ok}
use Rattle.bow_restore.specs.Marks.{AreClear, IsNoSource}
use Rattle.bow_restore.proofs.Clear.{pass_out, dests_out}

-- a block of the device, but not block 0
pub record IsOther (g : Geometry) (x : ℕ) : Type 0 where
  pub above : 0 < x
  pub on : x < g.blocks

each_front : (P : Backup → Type 0) (bs cs : List Backup) → Each P (bs ++ cs) → Each P bs
each_front P [] cs all = tt
each_front P (b ∷ bs) cs all = (all.0, each_front P bs cs all.1)

pub each_back : (P : Backup → Type 0) (bs cs : List Backup) → Each P (bs ++ cs) → Each P cs
each_back P [] cs all = all
each_back P (b ∷ bs) cs all = each_back P bs cs all.1

some_blocks : (g : Geometry) → IsValid g → 0 < g.blocks
some_blocks g valid = omega (arith, valid.enough)

module _ (g : Geometry) (valid : IsValid g) where
  -- places that count are blocks of the device, and not block 0
  sums_other : (bs : List Backup) → Each (IsBackup g) bs → AtSums (IsOther g) (λ x. x) bs
  sums_other bs ok = entries_map (λ x. (0 < x) × (x < g.blocks)) (IsOther g) (λ x. x) (λ x. x) (λ x h. record { above = h.0; on = h.1 }) bs (entries_both (λ x. 0 < x) (λ x. x < g.blocks) (λ x. x) bs (entries_pos g (λ x. x) (λ x h. h) bs ok) (entries_inside g (λ x. x) (λ x h. h) bs ok))

  logs_other : (route : ℕ → ℕ) → ((x : ℕ) → 0 < route x) → ((x : ℕ) → x < g.blocks → route x < g.blocks) → (logs : List Generation) → Each (IsGeneration g) logs → AtLogs (IsOther g) route logs
  logs_other route pos inside logs ok =
      places_map (λ x. (0 < x) × (x < g.blocks)) (IsOther g) (λ x. x) (λ x. x) route (λ x h. record { above = h.0; on = h.1 }) logs
      (places_both (λ x. 0 < x) (λ x. x < g.blocks) route logs (places_pos g route pos logs ok) (places_inside g (some_blocks g valid) route inside logs ok))

  base_other : (image : Contents) (log : Generation) (older : List Generation) → StandsBehind g image log older → (x : ℕ) → x < g.blocks → IsOther g (base (log ∷ older) x)
  base_other image log older b x on = record {
    above = log_pos g log (base older x) b.valid;
    on = log_inside g log (base older x) b.valid (base_inside g older x (older_ok g valid image log older b) on);
  }

  -- Between two marks: an image that is the same outside the sources of what was replayed keeps the same.
  pub between : (image other : Contents) (log : Generation) (older : List Generation) (pre mid : List Backup)
      → StandsBehind g image log older → log.entries ≡ pre ++ mid → AreClear mid
      → ((x : ℕ) → 0 < x → x < g.blocks → IsNoSource mid x → other x ≡ image x)
      → StandsBehind g other log older × ((x : ℕ) → x < g.blocks → other (base (log ∷ older) x) ≡ image (base (log ∷ older) x))
  between image other log older pre mid b entries clear same =
      let ok : Each (IsBackup g) mid = each_back (IsBackup g) pre mid (subst (Each (IsBackup g)) entries (b.valid).each) in
      let out : AtSums (IsNoSource mid) (λ x. x) log.entries =
      subst (AtSums (IsNoSource mid) (λ x. x)) (sym entries) (entries_append (IsNoSource mid) (λ x. x) pre mid (entries_all (IsNoSource mid) (pass mid) (λ x. pass_out g mid x ok clear) pre) (dests_out g mid ok clear)) in
      let away : (x : ℕ) → IsNoSource mid (pass log.entries x) = λ x. subst (λ es. IsNoSource mid (pass es x)) (sym entries) (subst (IsNoSource mid) (sym (pass-append pre mid x)) (pass_out g mid (pass pre x) ok clear)) in
      let agree : (x : ℕ) → IsOther g x × IsNoSource mid x → other x ≡ image x = λ x h. same x (h.0).above (h.0).on h.1 in
      let older_are = older_ok g valid image log older b in (
        record {
          valid = b.valid;
          sequence = b.sequence;
          sums = sums_moved image other (λ x. x) (λ x. x) (λ x. x) log.entries (entries_map (λ x. IsOther g x × IsNoSource mid x) (λ x. other x ≡ image x) (λ x. x) (λ x. x) agree log.entries (entries_both (IsOther g) (IsNoSource mid) (λ x. x) log.entries (sums_other log.entries (b.valid).each) out)) b.sums;
          chain = moved g image other (λ x. x) (λ x. x) (pass log.entries) older (places_map (λ x. IsOther g x × IsNoSource mid x) (λ x. other x ≡ image x) (λ x. x) (λ x. x) (pass log.entries) agree older
              (places_both (IsOther g) (IsNoSource mid) (pass log.entries) older (logs_other (pass log.entries) (λ x. log_pos g log x b.valid) (λ x h. log_inside g log x b.valid h) older older_are) (places_all (IsNoSource mid) (pass log.entries) away older))) b.chain;
        },
        λ x on. agree _ (base_other image log older b x on, away (base older x)),
      )

  -- A mark: the log without the entries that were replayed.
  pub marked : (image other : Contents) (log new : Generation) (older : List Generation) (pre mid : List Backup)
      → StandsBehind g image log older → log.entries ≡ pre ++ mid
      → IsGeneration g new → new.entries ≡ pre → new.sequence ≡ log.sequence
      → ((x : ℕ) → 0 < x → x < g.blocks → other x ≡ image (pass mid x))
      → StandsBehind g other new older × ((x : ℕ) → x < g.blocks → other (base (new ∷ older) x) ≡ image (base (log ∷ older) x))
  marked image other log new older pre mid b entries new_ok cut sequence replayed =
      let pre_ok : Each (IsBackup g) pre = subst (Each (IsBackup g)) cut new_ok.each in
      let pos : (x : ℕ) → 0 < pass pre x = λ x. subst (λ es. 0 < pass es x) cut (log_pos g new x new_ok) in
      let inside : (x : ℕ) → x < g.blocks → pass pre x < g.blocks = λ x h. pass_inside g pre x pre_ok h in
      let older_are = older_ok g valid image log older b in
      let agree : (x : ℕ) → IsOther g x → other x ≡ image (pass mid x) = λ x h. replayed x h.above h.on in
      let sums = subst (SumsHold image (λ x. x)) entries b.sums in
      let chain = chain_route g image _ (λ x. pass mid (pass pre x)) older (pass-append pre mid) (subst (λ es. IsChain g image (pass es) older) entries b.chain) in (
        record {
          valid = new_ok;
          sequence = sequence ∙ b.sequence;
          sums = subst (SumsHold other (λ x. x)) (sym cut) (sums_moved image other (pass mid) (λ x. x) (λ x. x) pre (entries_map (IsOther g) (λ x. other x ≡ image (pass mid x)) (λ x. x) (λ x. x) agree pre (sums_other pre pre_ok)) (sums_front image (λ x. x) pre mid sums));
          chain = subst (λ es. IsChain g other (pass es) older) (sym cut) (moved g image other (pass mid) (λ x. x) (pass pre) older (places_map (IsOther g) (λ x. other x ≡ image (pass mid x)) (λ x. x) (λ x. x) (pass pre) agree older (logs_other (pass pre) pos inside older older_are)) chain);
        },
        λ x on. ap (λ es. other (pass es (base older x))) cut ∙ replayed (pass pre (base older x)) (pos (base older x)) (inside (base older x) (base_inside g older x older_are on)) ∙ ap image (sym (pass-append pre mid (base older x))) ∙ ap (λ es. image (pass es (base older x))) (sym entries),
      )

  -- After the first entry of a log, with the older log in block 0: the older log keeps the same.
  pub stepped : (image other : Contents) (log next : Generation) (older : List Generation)
      → StandsBehind g image log (next ∷ older)
      → ((x : ℕ) → x < g.blocks → other x ≡ image (pass log.entries x))
      → IsSound g other next older × ((x : ℕ) → x < g.blocks → other (base (next ∷ older) x) ≡ image (base (log ∷ next ∷ older) x))
  stepped image other log next older b replayed =
      let c = b.chain in
      let next_ok = spelled_ok g valid _ next c.0 in
      let both = older_ok g valid image log (next ∷ older) b in
      let agree : (x : ℕ) → IsOther g x → other x ≡ image (pass log.entries x) = λ x h. replayed x h.on in (
        record {
          spelled = ap (log_in g) (replayed 0 (some_blocks g valid)) ∙ c.0;
          behind = record {
            valid = next_ok;
            sequence = c.2;
            sums = sums_moved image other (pass log.entries) (λ x. x) (λ x. x) next.entries (entries_map (IsOther g) (λ x. other x ≡ image (pass log.entries x)) (λ x. x) (λ x. x) agree next.entries (sums_other next.entries next_ok.each)) c.3;
            chain = moved g image other (pass log.entries) (λ x. x) (pass next.entries) older (places_map (IsOther g) (λ x. other x ≡ image (pass log.entries x)) (λ x. x) (λ x. x) (pass next.entries) agree older (logs_other (pass next.entries) (λ x. log_pos g next x next_ok) (λ x h. log_inside g next x next_ok h) older both.1)) c.4;
          };
        },
        λ x on. replayed _ (base_inside g (next ∷ older) x both on),
      )

  -- the block to which a log's first backup was put, and what the log leads block 0 to
  pub led : (image other : Contents) (b : Backup) (mid : List Backup) → IsBackup g b → b.source ≡ 0 → b.count ≡ 1
      → ((x : ℕ) → 0 < x → x < g.blocks → other x ≡ image (pass mid x)) → other 0 ≡ image (pass mid b.dest)
      → (x : ℕ) → x < g.blocks → other x ≡ image (pass (b ∷ mid) x)
  led image other b mid ok source count rest zeroth zero on = zeroth ∙ ap (λ y. image (pass mid y)) (sym (hop_first b source count))
  led image other b mid ok source count rest zeroth (suc x) on = rest (suc x) (omega arith) on ∙ ap (λ y. image (pass mid y)) (sym (hop_out b (suc x) (λ h. omega arith)))
