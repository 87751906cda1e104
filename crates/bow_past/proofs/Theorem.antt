-- What a step of a reader gives, and that it still agrees with the session after it.
use Rattle.std.proofs.Common.{◌≢◌, ℕ, suc, ◌≡◌, ◌<◌, ◌+◌, ◌++◌, true, inl, inr, List, [], ◌∷◌, length, Option, Some, None, arith, refl, sym, ap, ◌∙◌, subst}
use Rattle.std.proofs.lemmas.Bool.{cases_eq}
use Rattle.std.proofs.lemmas.List.{append-nil}
use Rattle.bow_units.specs.declared.sizes.Geometry.{Geometry}
use Rattle.bow_units.specs.declared.requests.Phase.TheVariants.{Checkpoint}
use Rattle.bow_disk.specs.Disk.{Content, Goes, Same}
use Rattle.bow_log.specs.Generations.{Generation, generation_of}
use Rattle.bow_log.specs.Faults.{parts_of}
use Rattle.bow_log.specs.Spelling.{Fields}
use Rattle.bow_chain.specs.Contents.{contents_of}
use Rattle.bow_chain.specs.Places.{base}
use Rattle.bow_chain.specs.Sound.{StandsBehind}
use Rattle.bow_chain.proofs.Bases.{bases_are_on}
use Rattle.bow_chain.proofs.Counting.{some_inj}
use Rattle.bow_flat.specs.Flat.{Flat, put}
use Rattle.bow_guard.specs.Cuts.{candidates_of}
use Rattle.bow_machine.specs.Calls.{ReadCall, Reply, Failed as FailedReply, Gave, Succeeded}
use Rattle.bow_machine.specs.Memory.{Memory}
use Rattle.bow_machine.specs.Tasks.{spelling}
use Rattle.bow_machine.proofs.Consequences.{block_other}
use Rattle.bow_core.specs.Calls.{DoesOne}
use Rattle.bow_core.specs.Standing.{StandsIn, StandsOver}
use Rattle.bow_session.specs.Sessions.{Run}
use Rattle.bow_past.specs.Agreement.{Agrees, AgreesOver, AreAmong, older_of}
use Rattle.bow_past.specs.Reach.{IsWanted, live}
use Rattle.bow_past.specs.Readings.{Reading, KeepsLog, kept_of, next_block, place_by}
use Rattle.bow_past.specs.Steps.{GetsBlock, LooksForLog, ReadsBeside}
use Rattle.bow_past.proofs.Beside.{next_read, next_is}
use Rattle.bow_past.proofs.Reached.{is_sound, reaches}
use Rattle.bow_past.proofs.Reading.{missing_is, none_missing, older_behind, older_first, place_leads, split}

put_same : {A : Type 0} (f : ℕ → A) (b : ℕ) (v : A) → put f b v b ≡ v
put_same f b v = grind arith

put_other : {A : Type 0} (f : ℕ → A) (b : ℕ) (v : A) (x : ℕ) → x ≢ b → put f b v x ≡ f x
put_other f b v x ne = grind arith

same_content : (c d : Content) → Same c d → d ≡ c
same_content c d same = λ k. record { now = same.0 k; candidates = same.1 k }

-- ----------------------------------------------------------------------------------------------------------------
-- A read beside the session.

-- a read leaves what the disk tells
read_same : (at : ℕ) (reply : Reply) (old new : Option Content) → Goes (DoesOne (Some (ReadCall at)) reply) old new → new ≡ old
read_same at reply None None goes = refl
read_same at reply None (Some d) goes = absurd goes
read_same at reply (Some c) None goes = absurd goes
read_same at (Gave v) (Some c) (Some d) goes = ap Some (same_content c d goes.0)
read_same at FailedReply (Some c) (Some d) goes = ap Some (same_content c d goes)
read_same at Succeeded (Some c) (Some d) goes = absurd goes

-- and gives what it holds
read_holds : (at : ℕ) (v : List ℕ) (c : Content) (new : Option Content) → Goes (DoesOne (Some (ReadCall at)) (Gave v)) (Some c) new → contents_of c.now at ≡ v
read_holds at v c None goes = absurd goes
read_holds at v c (Some d) goes = goes.1

module _ {D : Type 0} (stated : D → Option Geometry) (content : D → Option Content) (moment : D → ℕ) (left : D → ℕ → List (List ℕ) → Type 0) (faults : D → ℕ) where
  module _ (at : ℕ) (reply : Reply) (v w : Run D) (reads : ReadsBeside stated content moment left faults at reply v w) where
    pub told_same : content w.core.disk ≡ content v.core.disk
    told_same = read_same at reply (content v.core.disk) (content w.core.disk) (reads.made).disk

    geometry_same : w.core.geometry ≡ v.core.geometry
    geometry_same = ap (λ (x : Run D). x.core.geometry) reads.kept

    memory_same : w.core.memory ≡ v.core.memory
    memory_same = ap (λ (x : Run D). x.core.memory) reads.kept

    -- the device stands for what it stood for
    pub stands_beside : (f : Flat) → StandsIn content v.core f → StandsIn content w.core f
    stands_beside f stands =
        subst (λ g. StandsOver g w.core.memory (content w.core.disk) f) (sym geometry_same)
        (subst (λ m. StandsOver v.core.geometry m (content w.core.disk) f) (sym memory_same) (subst (λ o. StandsOver v.core.geometry v.core.memory o f) (sym told_same) stands))

    -- and a reader that keeps what it kept agrees
    pub agrees_beside : (p q : Reading) → q.geometry ≡ p.geometry → AgreesOver v.core.geometry (content v.core.disk) v.core.memory.log (kept_of q) v.core.memory.phase → Agrees content p v.core → Agrees content q w.core
    agrees_beside p q sizes logs agrees = record {
      sizes = sizes ∙ agrees.sizes ∙ sym geometry_same;
      logs = subst (λ g. AgreesOver g (content w.core.disk) w.core.memory.log (kept_of q) w.core.memory.phase) (sym geometry_same)
          (subst (λ (m : Memory). AgreesOver v.core.geometry (content w.core.disk) m.log (kept_of q) m.phase) (sym memory_same)
          (subst (λ o. AgreesOver v.core.geometry o v.core.memory.log (kept_of q) v.core.memory.phase) (sym told_same) logs));
    }

  -- ----------------------------------------------------------------------------------------------------------------
  -- What is read over a disk that tells its content.

  module _ (p : Reading) (v w : Run D) (c : Content) (told : content v.core.disk ≡ Some c) (phase : v.core.memory.phase ≡ Checkpoint) (agrees : Agrees content p v.core) where
    g_same : p.geometry ≡ v.core.geometry
    g_same = agrees.sizes

    -- each kept log is the one of its sequence behind the log in memory
    among : (log : Generation) (older : List Generation) → v.core.memory.log ≡ Some log → StandsBehind v.core.geometry (contents_of c.now) log older → AreAmong v.core.geometry (kept_of p) older
    among log older some behind =
        (subst (λ ph. AgreesOver v.core.geometry (Some c) v.core.memory.log (kept_of p) ph) phase (subst (λ o. AgreesOver v.core.geometry o v.core.memory.log (kept_of p) v.core.memory.phase) told agrees.logs)) log older some behind

    -- the missing log that is looked for is found
    module _ (looks : LooksForLog stated content moment left faults p v w) (older : List Generation) (behind : StandsBehind v.core.geometry (contents_of c.now) looks.log older) where
      parts : (wanted_low : looks.wanted < length older) → (next : Generation) × (older_of older looks.wanted ≡ Some next) × IsWanted v.core.geometry looks.block looks.wanted (parts_of looks.block) × (generation_of v.core.geometry (parts_of looks.block) ≡ next)
      parts low =
          let k = split older looks.wanted low in
          let above = k.0 in
          let next = k.1 in
          let rest = k.2 in
          let is : older ≡ above ++ next ∷ rest = k.3 in
          let many : length rest ≡ looks.wanted = k.4 in
          let missing = missing_is (kept_of p) (looks.log).sequence looks.wanted looks.missing in
          let there : AreAmong v.core.geometry (kept_of p) (above ++ next ∷ rest) = subst (AreAmong v.core.geometry (kept_of p)) is (among looks.log older looks.memory behind) in
          let place : place_by v.core.geometry (kept_of p) looks.log (suc (length rest)) 0 ≡ base (looks.log ∷ above) 0 =
          place_leads v.core.geometry (kept_of p) looks.log above (next ∷ rest) 0 (behind.sequence ∙ ap length is) (λ m log below at. there m log at) (λ m lo hi. missing.2 m (omega (arith, lo, many)) hi) in
          let place_is : place_by p.geometry (kept_of p) looks.log (looks.wanted + 1) 0 ≡ base (looks.log ∷ above) 0 =
          ap (λ h. place_by h (kept_of p) looks.log (looks.wanted + 1) 0) g_same ∙ ap (λ n. place_by v.core.geometry (kept_of p) looks.log n 0) (let e : looks.wanted + 1 ≡ suc (length rest) = omega (arith, many) in e) ∙ place in
          let both = next_read v.core.geometry looks.log next above rest (place_by p.geometry (kept_of p) looks.log (looks.wanted + 1) 0) looks.wanted looks.block (Some c) (content w.core.disk)
          (subst (StandsBehind v.core.geometry (contents_of c.now) looks.log) is behind) (sym many) place_is
          (subst (λ o. Goes (DoesOne (Some (ReadCall (place_by p.geometry (kept_of p) looks.log (looks.wanted + 1) 0))) (Gave looks.block)) o (content w.core.disk)) told ((looks.reads).made).disk) in
          (next, ap (λ l. older_of l looks.wanted) is ∙ found above next rest looks.wanted many, both.0, both.1)
        where
          found : (above : List Generation) (next : Generation) (rest : List Generation) (n : ℕ) → length rest ≡ n → older_of (above ++ next ∷ rest) n ≡ Some next
          found above next rest n many = older_behind above (next ∷ rest) n (omega (arith, many)) ∙ subst (λ k. older_of (next ∷ rest) k ≡ Some next) many (older_first next rest)

      low : looks.wanted < length older
      low = let b = (missing_is (kept_of p) (looks.log).sequence looks.wanted looks.missing).0 in let s = behind.sequence in omega (arith, b, s)

      pub is_found : IsWanted v.core.geometry looks.block looks.wanted (parts_of looks.block)
      is_found = (parts low).2

      pub found_older : (l : Fields) → IsWanted v.core.geometry looks.block looks.wanted l → older_of older looks.wanted ≡ Some (generation_of v.core.geometry l)
      found_older l wanted =
          let k = parts low in
          k.1 ∙ ap Some (sym (next_is v.core.geometry k.0 looks.wanted looks.block l wanted (k.2, k.3)))

    -- a log more that was looked for
    pub among_more : (looks : LooksForLog stated content moment left faults p v w) (l : Fields) (q : Reading) → IsWanted p.geometry looks.block looks.wanted l → KeepsLog p looks.wanted l q
        → (log : Generation) (older : List Generation) → v.core.memory.log ≡ Some log → StandsBehind v.core.geometry (contents_of c.now) log older → AreAmong v.core.geometry (kept_of q) older
    among_more looks l q wanted keeps log older some behind n one at =
        let same : looks.log ≡ log = some_inj (sym looks.memory ∙ some) in
        let own = subst (λ x. StandsBehind v.core.geometry (contents_of c.now) x older) (sym same) behind in
        let at_put : put (kept_of p) looks.wanted (Some l) n ≡ Some one = ap (λ (f : ℕ → Option Fields). f n) (sym keeps.1) ∙ at in
        elim (cases_eq n looks.wanted) [
          | inl is ↦
              let l_is : l ≡ one = some_inj (sym (put_same (kept_of p) looks.wanted (Some l)) ∙ ap (put (kept_of p) looks.wanted (Some l)) (sym is) ∙ at_put) in
              ap (older_of older) is ∙ found_older looks older own l (subst (λ h. IsWanted h looks.block looks.wanted l) g_same wanted) ∙ ap (λ x. Some (generation_of v.core.geometry x)) l_is
          | inr other ↦ among log older some behind n one (sym (put_other (kept_of p) looks.wanted (Some l) n other) ∙ at_put)
        ]

    -- what was got of a block is what the live image keeps of it
    module _ (f : Flat) (stands : StandsOver v.core.geometry v.core.memory (Some c) f) (bytes : List ℕ) (gets : GetsBlock stated content moment left faults p bytes v w) (older : List Generation)
        (behind : StandsBehind v.core.geometry (contents_of c.now) gets.log older) where
      on : next_block p < v.core.geometry.blocks
      on = subst (λ (h : Geometry). next_block p < h.blocks) g_same gets.on

      at_base : contents_of c.now (base (gets.log ∷ older) (next_block p)) ≡ bytes
      at_base =
          let all = none_missing (kept_of p) (gets.log).sequence gets.whole in
          let there = among gets.log older gets.memory behind in
          let nil : older ++ [] ≡ older = append-nil older in
          let place : place_by v.core.geometry (kept_of p) gets.log 0 (next_block p) ≡ base (gets.log ∷ older) (next_block p) =
          place_leads v.core.geometry (kept_of p) gets.log older [] (next_block p) (behind.sequence ∙ ap length (sym nil)) (subst (λ l. (m : ℕ) (log : Fields) → m < length l → kept_of p m ≡ Some log → older_of l m ≡ Some (generation_of v.core.geometry log)) (sym nil) (λ m log below at. there m log at)) all in
          ap (contents_of c.now) (sym (ap (λ h. place_by h (kept_of p) gets.log 0 (next_block p)) g_same ∙ place))
          ∙ read_holds (place_by p.geometry (kept_of p) gets.log 0 (next_block p)) bytes c (content w.core.disk)
          (subst (λ o. Goes (DoesOne (Some (ReadCall (place_by p.geometry (kept_of p) gets.log 0 (next_block p)))) (Gave bytes)) o (content w.core.disk)) told ((gets.reads).made).disk)

      pub is_saved : f.used (next_block p) ≡ true → bytes ≡ f.saved (next_block p)
      is_saved used = sym at_base ∙ reaches v.core.geometry v.core.memory (contents_of c.now) (candidates_of c.candidates) f gets.log older (record { stands = stands; phase = phase; some = gets.memory; behind = behind }) (next_block p) on used

      pub is_kept : live v.core.geometry (contents_of c.now) gets.log (base (gets.log ∷ older) (next_block p)) ≡ bytes
      is_kept =
          let sound = is_sound v.core.geometry v.core.memory (contents_of c.now) (candidates_of c.candidates) f gets.log older (record { stands = stands; phase = phase; some = gets.memory; behind = behind }) in
          let off = (bases_are_on v.core.geometry (live v.core.geometry (contents_of c.now) gets.log) gets.log older ((stands.sound).sizes) sound (next_block p) on).0 in
          block_other (contents_of c.now) 0 (spelling v.core.geometry gets.log) (base (gets.log ∷ older) (next_block p)) (λ e. absurd (omega (arith, off, e))) ∙ at_base
