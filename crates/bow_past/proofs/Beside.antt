-- What a read beside the device gives.
use Rattle.std.proofs.Common.{ℕ, ◌<◌, ◌≡◌, true, false, List, [], ◌∷◌, ◌++◌, length, is_none, if◌then◌else◌, Option, Some, None, Result, Ok, Err, OnOk, arith, refl, sym, ap, ◌∙◌, subst}
use Rattle.std.specs.Option.{option_map}
use Rattle.bow_units.specs.declared.sizes.Geometry.{Geometry}
use Rattle.bow_units.specs.declared.requests.Phase.TheVariants.{Checkpoint}
use Rattle.bow_disk.specs.Disk.{Content, Goes}
use Rattle.bow_log.specs.Generations.{Generation, fields_of, generation_of, is_restoring}
use Rattle.bow_log.specs.Faults.{fault_of, log_of, parts_of}
use Rattle.bow_log.specs.declared.faults.LogFault.{LogFault}
use Rattle.bow_log.specs.declared.logs.Magic.{Magic}
use Rattle.bow_log.specs.declared.logs.Magic.TheVariants.{Log as LogMagic, Restoring}
use Rattle.bow_log.specs.Rules.{IsLog}
use Rattle.bow_log.specs.Spelling.{Fields}
use Rattle.bow_log.proofs.InBlocks.{in_sectors}
use Rattle.bow_chain.specs.Contents.{Contents, contents_of}
use Rattle.bow_chain.specs.Places.{pass, base}
use Rattle.bow_chain.specs.Sound.{log_in, IsChain}
use Rattle.bow_chain.proofs.Counting.{some_inj}
use Rattle.bow_flat.specs.Flat.{Flat}
use Rattle.bow_guard.specs.Cuts.{candidates_of}
use Rattle.bow_machine.specs.Calls.{ReadCall, Gave}
use Rattle.bow_machine.specs.Memory.{Memory, reserved}
use Rattle.bow_machine.specs.MemoryIsSound.{LogIsHeld, MemoryIsSound}
use Rattle.bow_machine.proofs.SoundRoom.{held_log}
use Rattle.bow_core.specs.Calls.{DoesOne, read_reply}
use Rattle.bow_core.specs.Further.{BehindOver}
use Rattle.bow_core.specs.Standing.{StandsOver}
use Rattle.bow_past.specs.Reach.{IsWanted}
use Rattle.bow_past.proofs.Reached.{reaches}

-- the log that a device shows is one for it, and it is the log in memory
pub log_is : (g : Geometry) (m : Memory) → MemoryIsSound g m → (l : Fields) → Some l ≡ option_map (fields_of g) m.log → IsLog g l × ((x : Generation) → m.log ≡ Some x → generation_of g l ≡ x)
log_is g m s l shown = go m.log refl shown
  where
    go : (o : Option Generation) → m.log ≡ o → Some l ≡ option_map (fields_of g) o → IsLog g l × ((x : Generation) → m.log ≡ Some x → generation_of g l ≡ x)
    go None is shown = absurd (grind arith)
    go (Some x) is shown =
        let same : l ≡ fields_of g x = some_inj shown in
        let sound = held_log g m.kinds m.clean m.trimmed (reserved m.hand).count m.phase x (subst (LogIsHeld g m.kinds m.clean m.trimmed (reserved m.hand).count m.phase) is s.log) in
        let back = in_sectors g x s.sizes sound.generation in
        (subst (IsLog g) (sym same) back.0, λ y some. ap (generation_of g) same ∙ back.1 ∙ some_inj (sym is ∙ some))

-- a read at a used block's place by the logs gives what was saved
pub read_reaches : {T E : Type 0} (g : Geometry) (m : Memory) (f : Flat) (log : Generation) (older : List Generation) (x place : ℕ) (result : Result T E) (v : List ℕ) (old new : Option Content)
    → StandsOver g m old f → m.phase ≡ Checkpoint → m.log ≡ Some log → BehindOver g old log older → x < g.blocks → place ≡ base (log ∷ older) x
    → Goes (DoesOne (Some (ReadCall place)) (read_reply result v)) old new → OnOk result (f.used x ≡ true → v ≡ f.saved x)
read_reaches g m f log older x place result v None new stands phase some behind on is goes = absurd stands
read_reaches g m f log older x place result v (Some c) None stands phase some behind on is goes = absurd goes
read_reaches g m f log older x place (Err e) v (Some c) (Some d) stands phase some behind on is goes = tt
read_reaches g m f log older x place (Ok done) v (Some c) (Some d) stands phase some behind on is goes = λ used.
    sym goes.1
    ∙ ap (contents_of c.now) is
    ∙ reaches g m (contents_of c.now) (candidates_of c.candidates) f log older (record { stands = stands; phase = phase; some = some; behind = behind }) x on used

-- where the next log behind these is spelled, and of what sequence it is
next_behind : (g : Geometry) (image : Contents) (route : ℕ → ℕ) (above : List Generation) (next : Generation) (rest : List Generation) → IsChain g image route (above ++ next ∷ rest)
    → (log_in g (image (route (base above 0))) ≡ Some next) × (next.restoring ≡ false) × (next.sequence ≡ length rest)
next_behind g image route [] next rest chain = (chain.0, chain.1, chain.2)
next_behind g image route (l ∷ ls) next rest chain = next_behind g image (λ x. route (pass l.entries x)) ls next rest chain.4

-- a block that spells a generation spells the log of its parts
spells_parts : (g : Geometry) (block : List ℕ) (next : Generation) → log_in g block ≡ Some next → (log_of g block ≡ Some (parts_of block)) × (generation_of g (parts_of block) ≡ next)
unfolding log_in
spells_parts g block next spelled = go (fault_of g block) spelled
  where
    go : (fault : Option LogFault) → (if is_none fault then Some (generation_of g (parts_of block)) else None) ≡ Some next
        → ((if is_none fault then Some (parts_of block) else None) ≡ Some (parts_of block)) × (generation_of g (parts_of block) ≡ next)
    go None spelled = (refl, some_inj spelled)
    go (Some fault) spelled = absurd (grind arith)

is_first : (magic : Magic) → is_restoring magic ≡ false → magic ≡ LogMagic
is_first LogMagic is = refl
is_first Restoring is = absurd (grind arith)

-- a read of the next log's place gives it
pub next_read : (g : Geometry) (log next : Generation) (above rest : List Generation) (place wanted : ℕ) (v : List ℕ) (old new : Option Content)
    → BehindOver g old log (above ++ next ∷ rest) → wanted ≡ length rest → place ≡ base (log ∷ above) 0 → Goes (DoesOne (Some (ReadCall place)) (Gave v)) old new
    → IsWanted g v wanted (parts_of v) × (generation_of g (parts_of v) ≡ next)
next_read g log next above rest place wanted v None new behind last is goes = absurd behind
next_read g log next above rest place wanted v (Some c) None behind last is goes = absurd goes
next_read g log next above rest place wanted v (Some c) (Some d) behind last is goes =
    let chain = next_behind g (contents_of c.now) (pass log.entries) above next rest behind.chain in
    let there : contents_of c.now (base (log ∷ above) 0) ≡ v = sym (ap (contents_of c.now) is) ∙ goes.1 in
    let parts = spells_parts g v next (subst (λ b. log_in g b ≡ Some next) there chain.0) in (
      record {
        spelled = parts.0;
        first = is_first (parts_of v).magic (ap (λ (l : Generation). l.restoring) parts.1 ∙ chain.1);
        sequence = ap (λ (l : Generation). l.sequence) parts.1 ∙ chain.2 ∙ sym last;
      },
      parts.1,
    )

-- so the log of this sequence that was read is that one
pub next_is : (g : Geometry) (next : Generation) (wanted : ℕ) (v : List ℕ) (l : Fields) → IsWanted g v wanted l → IsWanted g v wanted (parts_of v) × (generation_of g (parts_of v) ≡ next) → generation_of g l ≡ next
next_is g next wanted v l found is = ap (generation_of g) (some_inj (sym found.spelled ∙ (is.0).spelled)) ∙ is.1
