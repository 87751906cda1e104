use Rattle.std.proofs.Common.{◌≡◌, ◌<◌, ◌≤◌, ◌+◌, ◌-◌, ◌∙◌, ◌∷◌, [], List, Some, length, take, drop, get_or, sym, refl, ap, subst, arith, rules}
use Rattle.std.specs.List.{AllByRecursion as Each}
use Rattle.std.proofs.lemmas.List.{length-map}
use Rattle.bow_log.proofs.Clean.{room_fits}
use Rattle.bow_log.proofs.InBlocks.{in_blocks}
use Rattle.bow_units.specs.declared.sizes.Geometry.{Geometry}
use Rattle.bow_log.specs.Spelling.{Fields}
use Rattle.bow_log.specs.Rules.{IsLog}
use Rattle.bow_log.specs.Generations.{Generation, IsGeneration, backup_of, generation_of}
use Rattle.bow_disk.specs.Disk.{Content}
use Rattle.bow_chain.specs.Contents.{contents_of}
use Rattle.bow_chain.specs.Chains.{IsSoundWith, generations_of}
use Rattle.bow_chain.specs.Kept.{kept, Holds}
use Rattle.bow_chain.proofs.Sectors.{logs_generations}
use Rattle.bow_restore.specs.Marks.{entries_of, marks_of}
use Rattle.bow_restore.specs.Copies.{log_copies, chain_copies, writes_in, writes_of}
use Rattle.bow_restore.specs.Limits.{StopsWithin}
use Rattle.bow_restore.specs.Rewinds.{every}
use Rattle.bow_disk.specs.Moments.{AddsCuts, Tells}
use Rattle.bow_restore.specs.Replaying.{IsFlushed, LogReplayed, ChainReplayed, AreMade}
use Rattle.bow_restore.specs.declared.halts.Halt.TheVariants.{Limit}
use Rattle.bow_restore.proofs.Limits.{goes_none, spent_none, goes_step, spent_step, stops_step, left_is, goes_is, within_is}
use Rattle.bow_restore.proofs.EntryLoop.{each_take}
use Rattle.bow_restore.proofs.ChainSteps.{ChainAt, Turn, turn, log_there, none_after, entries_there, marks_there, writes_there, writes_before, some_writes, rest_writes, holding, chain_holds, chain_next, chain_done, chain_part}
use Rattle.bow_disk.proofs.Moments.{tells_map, adds_none, adds_then, adds_map}
use Rattle.bow_restore.proofs.generations.replay.Given.{Over}
use Rattle.bow_restore.proofs.generations.replay.Goals as goal
use Rattle.bow_restore.proofs.generations.replay.Goals.{After-replay_log, After-replay_log-2}

pub loop-index-init : goal.loop-index-init
loop-index-init g c = record {
  entries = refl;
  marks = refl;
  few_entries = omega arith;
  few_marks = omega arith;
  none = c.requires.none;
  limit = goes_none c.args.left.now c.requires.limit;
  rest = spent_none c.args.left.now;
  sizes = c.requires.sizes;
  faults = omega arith;
  state = λ k is flushed sound. record { told = k; is = is; holds = record { flushed = flushed; now = λ x on. refl; sound = sound } };
  cuts = λ k is flushed sound. adds_none g.D.Disk.content g.D.Disk.moment g.D.Disk.left_since _ c.args.disk.now;
}

module _ (g : Over) where
  -- ---- a log that is not the last

  here : (c : After-replay_log g) → Turn (generations_of c.args.geometry c.args.logs.now) c.loop-index.index (generation_of c.args.geometry c.index-logs-index.result) (drop (c.loop-index.index + 1) (generations_of c.args.geometry c.args.logs.now))
  here c = turn c.args.geometry c.args.logs.now c.loop-index.index c.index-logs-index.result c.index-logs-index.is (omega (arith, c.loop-index-test.true))

  at_log : (c : After-replay_log g) (k : Content) → g.D.Disk.content c.args.disk.now ≡ Some k → IsFlushed k → IsSoundWith c.args.geometry (contents_of k.now) (generations_of c.args.geometry c.args.logs.now)
      → Tells g.D.Disk.content (ChainAt c.args.geometry (take c.loop-index.index (generations_of c.args.geometry c.args.logs.now)) (generation_of c.args.geometry c.index-logs-index.result ∷ drop (c.loop-index.index + 1) (generations_of c.args.geometry c.args.logs.now)) k) c.loop-index.disk
  at_log c k is flushed sound = subst (λ (ls : List Generation). Tells g.D.Disk.content (ChainAt c.args.geometry (take c.loop-index.index (generations_of c.args.geometry c.args.logs.now)) ls k) c.loop-index.disk) (here c).next (c.loop-index.invariant.state k is flushed sound)

  log_cuts : (c : After-replay_log g) (k : Content) → g.D.Disk.content c.args.disk.now ≡ Some k → IsFlushed k → IsSoundWith c.args.geometry (contents_of k.now) (generations_of c.args.geometry c.args.logs.now)
      → AddsCuts g.D.Disk.moment g.D.Disk.left_since (λ image. Holds c.args.geometry every (kept (contents_of k.now) (generations_of c.args.geometry c.args.logs.now)) (contents_of image)) c.args.disk.now c.replay_log.new.disk
  log_cuts c k is flushed sound =
      let geo = c.args.geometry in
      let gens = generations_of geo c.args.logs.now in
      let log = generation_of geo c.index-logs-index.result in
      let older = drop (c.loop-index.index + 1) gens in
      let d = at_log c k is flushed sound in
      adds_then g.D.Disk.content g.D.Disk.moment g.D.Disk.left_since _ c.args.disk.now c.loop-index.disk c.replay_log.new.disk (c.loop-index.invariant.cuts k is flushed sound)
      (adds_map g.D.Disk.content g.D.Disk.moment g.D.Disk.left_since (λ image. Holds geo every (kept (contents_of d.told.now) (log ∷ older)) (contents_of image)) _ c.loop-index.disk c.replay_log.new.disk
      (λ cut holds. subst (λ (ls : List Generation). Holds geo every (kept (contents_of k.now) ls) (contents_of cut)) (here c).whole (chain_holds geo c.requires.logs.are_logs.valid k d.told (take c.loop-index.index gens) older log (contents_of cut) d.holds holds))
      (c.replay_log.ensures.cuts d.told d.is older (holding geo c.requires.logs.are_logs.valid k d.told (take c.loop-index.index gens) older log d.holds)))

  -- ---- the last log

  last_is : (c : After-replay_log-2 g) → c.loop-index.index ≡ length c.args.logs.now - 1
  last_is c = omega (arith, c.loop-index-test.false, c.loop-index.auto.index-end)

  last_log : (c : After-replay_log-2 g) → c.index-logs-last.result ≡ get_or c.args.logs.now c.loop-index.index c.index-logs-last.result
  last_log c = c.index-logs-last.is ∙ ap (λ n. get_or c.args.logs.now n c.index-logs-last.result) (sym (last_is c))

  there : (c : After-replay_log-2 g) → Turn (generations_of c.args.geometry c.args.logs.now) c.loop-index.index (generation_of c.args.geometry c.index-logs-last.result) []
  there c =
      let geo = c.args.geometry in
      subst (Turn (generations_of geo c.args.logs.now) c.loop-index.index (generation_of geo c.index-logs-last.result)) (none_after geo c.args.logs.now c.loop-index.index (omega (arith, last_is c, c.requires.logs.some)))
      (turn geo c.args.logs.now c.loop-index.index c.index-logs-last.result (last_log c) (omega (arith, last_is c, c.requires.logs.some)))

  at_last : (c : After-replay_log-2 g) (k : Content) → g.D.Disk.content c.args.disk.now ≡ Some k → IsFlushed k → IsSoundWith c.args.geometry (contents_of k.now) (generations_of c.args.geometry c.args.logs.now)
      → Tells g.D.Disk.content (ChainAt c.args.geometry (take c.loop-index.index (generations_of c.args.geometry c.args.logs.now)) (generation_of c.args.geometry c.index-logs-last.result ∷ []) k) c.loop-index.disk
  at_last c k is flushed sound = subst (λ (ls : List Generation). Tells g.D.Disk.content (ChainAt c.args.geometry (take c.loop-index.index (generations_of c.args.geometry c.args.logs.now)) ls k) c.loop-index.disk) (there c).next (c.loop-index.invariant.state k is flushed sound)

  last_cuts : (c : After-replay_log-2 g) (k : Content) → g.D.Disk.content c.args.disk.now ≡ Some k → IsFlushed k → IsSoundWith c.args.geometry (contents_of k.now) (generations_of c.args.geometry c.args.logs.now)
      → AddsCuts g.D.Disk.moment g.D.Disk.left_since (λ image. Holds c.args.geometry every (kept (contents_of k.now) (generations_of c.args.geometry c.args.logs.now)) (contents_of image)) c.args.disk.now c.replay_log-2.new.disk
  last_cuts c k is flushed sound =
      let geo = c.args.geometry in
      let gens = generations_of geo c.args.logs.now in
      let log = generation_of geo c.index-logs-last.result in
      let d = at_last c k is flushed sound in
      adds_then g.D.Disk.content g.D.Disk.moment g.D.Disk.left_since _ c.args.disk.now c.loop-index.disk c.replay_log-2.new.disk (c.loop-index.invariant.cuts k is flushed sound)
      (adds_map g.D.Disk.content g.D.Disk.moment g.D.Disk.left_since (λ image. Holds geo every (kept (contents_of d.told.now) (log ∷ [])) (contents_of image)) _ c.loop-index.disk c.replay_log-2.new.disk
      (λ cut holds. subst (λ (ls : List Generation). Holds geo every (kept (contents_of k.now) ls) (contents_of cut)) (there c).whole (chain_holds geo c.requires.logs.are_logs.valid k d.told (take c.loop-index.index gens) [] log (contents_of cut) d.holds holds))
      (c.replay_log-2.ensures.cuts d.told d.is [] (holding geo c.requires.logs.are_logs.valid k d.told (take c.loop-index.index gens) [] log d.holds)))

pub returns-in_err-marks-clause-cuts : goal.returns-in_err-marks-clause-cuts
returns-in_err-marks-clause-cuts g c k is flushed sound = log_cuts g (goal.at.returns-in_err-marks-clause-cuts g c).After-replay_log k is flushed sound

pub returns-in_err-marks-2-clause-cuts : goal.returns-in_err-marks-2-clause-cuts
returns-in_err-marks-2-clause-cuts g c k is flushed sound = last_cuts g (goal.at.returns-in_err-marks-2-clause-cuts g c).After-replay_log-2 k is flushed sound

pub returns-clause-cuts : goal.returns-clause-cuts
returns-clause-cuts g c k is flushed sound = last_cuts g (goal.at.returns-clause-cuts g c).After-replay_log-2 k is flushed sound

-- a log has few entries
few_entries : (g : Geometry) (log : Fields) → IsLog g log → length log.entries ≤ 169
few_entries g log ok = let room = room_fits g ok.device in omega (arith, room.1, ok.few)

gens_valid : (g : Over) (c : After-replay_log g) → Each (IsGeneration c.args.geometry) (generations_of c.args.geometry c.args.logs.now)
gens_valid g c = logs_generations c.args.geometry c.args.logs.now (c.requires.logs.are_logs).each

pub loop-index-preserved : goal.loop-index-preserved
loop-index-preserved g c =
    let q = (goal.at.loop-index-preserved g c).After-replay_log in
    let inv = c.loop-index.invariant in
    let geo = c.args.geometry in
    let logs = c.args.logs.now in
    let gens = generations_of geo logs in
    let i = c.loop-index.index in
    let log = generation_of geo c.index-logs-index.result in
    let within : i < length logs = omega (arith, c.loop-index-test.true) in
    let other = c.index-logs-index-in-loop-index.result in
    let that = turn geo logs i other c.index-logs-index-in-loop-index.is within in
    let few = few_entries geo other (log_there geo logs i other c.index-logs-index-in-loop-index.is within (c.requires.logs.are_logs).each) in
    let few_here = few_entries geo c.index-logs-index.result (log_there geo logs i c.index-logs-index.result c.index-logs-index.is within (c.requires.logs.are_logs).each) in
    record {
      entries = entries_there geo gens (drop (i + 1) gens) i c.loop-index.counts.entries c.count.new.counts.entries (generation_of geo other) that inv.entries (c.count.ensures.entries ∙ ap (λ n. c.loop-index.counts.entries + n) (sym (length-map other.entries (backup_of geo))));
      marks = marks_there geo gens (drop (i + 1) gens) i c.loop-index.counts.marks c.count.new.counts.marks c.in_ok-marks.marks log (here g q) inv.marks c.in_ok-marks.ensures.marks c.count.ensures.marks;
      few_entries = omega (arith, inv.few_entries, c.count.ensures.entries, few);
      few_marks = omega (arith, inv.few_marks, c.count.ensures.marks, c.in_ok-marks.ensures.few, few_here);
      none = c.in_ok-marks.ensures.none;
      limit = goes_step c.args.left.now c.loop-index.left (writes_of (take i gens)) (writes_in log.entries) (writes_of (take (i + 1) gens)) inv.rest (writes_there gens (drop (i + 1) gens) i log (here g q)) inv.limit c.in_ok-marks.ensures.going;
      rest = spent_step c.args.left.now c.loop-index.left c.replay_log.new.left (writes_of (take i gens)) (writes_in log.entries) (writes_of (take (i + 1) gens)) inv.rest (writes_there gens (drop (i + 1) gens) i log (here g q)) c.in_ok-marks.ensures.rest;
      sizes = c.replay_log.ensures.sizes;
      faults = omega (arith, inv.faults, c.replay_log.ensures.faults);
      state = λ k is flushed sound.
          (let d = at_log g q k is flushed sound in
          tells_map g.D.Disk.content (LogReplayed geo log d.told) (ChainAt geo (take (i + 1) gens) (drop (i + 1) gens) k) c.replay_log.new.disk
          (λ e at back. chain_next geo c.requires.logs.are_logs.valid gens i log k d.told e (here g q) (omega (arith, c.loop-index-test.true, length-map logs (generation_of geo))) d.holds back)
          (c.in_ok-marks.ensures.whole d.told d.is (drop (i + 1) gens) (holding geo c.requires.logs.are_logs.valid k d.told (take i gens) (drop (i + 1) gens) log d.holds)));
      cuts = λ k is flushed sound. log_cuts g q k is flushed sound;
    }

pub returns-in_err-marks-clause-stops : goal.returns-in_err-marks-clause-stops
returns-in_err-marks-clause-stops g c =
    let q = (goal.at.returns-in_err-marks-clause-stops g c).After-replay_log in
    let inv = c.loop-index.invariant in
    let geo = c.args.geometry in
    let gens = generations_of geo c.args.logs.now in
    let i = c.loop-index.index in
    let log = generation_of geo c.index-logs-index.result in
    let more = rest_writes geo gens (i + 1) (gens_valid g q) (omega (arith, c.loop-index-test.true, length-map c.args.logs.now (generation_of geo))) in
    let here : c.in_err-marks.field-0.0 ≡ Limit → StopsWithin c.args.left.now (writes_of gens - 1) = λ e.
    stops_step c.args.left.now c.loop-index.left (writes_of (take i gens)) (writes_in log.entries) (writes_of (take i gens) + writes_in log.entries) (writes_of gens - 1) inv.rest refl
    (omega (arith, more, writes_before gens (drop (i + 1) gens) i log (here g q))) inv.limit (c.in_err-marks.ensures.stops e) in
    search rules

pub returns-in_err-marks-clause-part : goal.returns-in_err-marks-clause-part
returns-in_err-marks-clause-part g c k is flushed sound n limit =
    let q = (goal.at.returns-in_err-marks-clause-part g c).After-replay_log in
    let inv = c.loop-index.invariant in
    let geo = c.args.geometry in
    let gens = generations_of geo c.args.logs.now in
    let i = c.loop-index.index in
    let log = generation_of geo c.index-logs-index.result in
    let older = drop (i + 1) gens in
    let w = writes_of (take i gens) in
    let left : c.loop-index.left ≡ Some (n - w) = inv.rest ∙ left_is c.args.left.now w n limit in
    let some : w < n = goes_is c.args.left.now w n inv.limit limit in
    let total : n ≡ w + (n - w) = omega (arith, some) in
    let d = at_log g q k is flushed sound in
    let here : c.in_err-marks.field-0.0 ≡ Limit → Tells g.D.Disk.content (AreMade geo (chain_copies gens) n k) c.replay_log.new.disk = λ e.
    tells_map g.D.Disk.content (AreMade geo (log_copies log.entries) (n - w) d.told) (AreMade geo (chain_copies gens) n k) c.replay_log.new.disk
    (λ f at made. subst (λ (ls : List Generation). AreMade geo (chain_copies ls) n k f) (here g q).whole
    (chain_part geo c.requires.logs.are_logs.valid k d.told f (take i gens) older log (n - w) n (each_take (IsGeneration geo) i gens (gens_valid g q)) d.holds (within_is c.loop-index.left (writes_in log.entries) (n - w) (c.in_err-marks.ensures.stops e) left) total made))
    (c.in_err-marks.ensures.part d.told d.is older (holding geo c.requires.logs.are_logs.valid k d.told (take i gens) older log d.holds) (n - w) left e) in
    search rules

module _ (g : Over) where
  all_valid : (c : After-replay_log-2 g) → Each (IsGeneration c.args.geometry) (generations_of c.args.geometry c.args.logs.now)
  all_valid c = logs_generations c.args.geometry c.args.logs.now (c.requires.logs.are_logs).each

  last_ok : (c : After-replay_log-2 g) → IsLog c.args.geometry c.index-logs-last.result
  last_ok c = log_there c.args.geometry c.args.logs.now c.loop-index.index c.index-logs-last.result (last_log g c) (omega (arith, last_is g c, c.requires.logs.some)) (c.requires.logs.are_logs).each

  -- all copies but the last one
  all_but_one : (c : After-replay_log-2 g) → writes_of (take c.loop-index.index (generations_of c.args.geometry c.args.logs.now)) + (writes_in (generation_of c.args.geometry c.index-logs-last.result).entries - 1) ≡ writes_of (generations_of c.args.geometry c.args.logs.now) - 1
  all_but_one c =
      let geo = c.args.geometry in
      let gens = generations_of geo c.args.logs.now in
      let log = generation_of geo c.index-logs-last.result in
      omega (arith, some_writes geo log (in_blocks geo c.index-logs-last.result (last_ok c)).0, writes_before gens [] c.loop-index.index log (there g c))

pub returns-in_err-marks-2-clause-stops : goal.returns-in_err-marks-2-clause-stops
returns-in_err-marks-2-clause-stops g c =
    let q = (goal.at.returns-in_err-marks-2-clause-stops g c).After-replay_log-2 in
    let inv = c.loop-index.invariant in
    let geo = c.args.geometry in
    let gens = generations_of geo c.args.logs.now in
    let log = generation_of geo c.index-logs-last.result in
    let here : c.in_err-marks-2.field-0.0 ≡ Limit → StopsWithin c.args.left.now (writes_of gens - 1) = λ e.
    stops_step c.args.left.now c.loop-index.left (writes_of (take c.loop-index.index gens)) (writes_in log.entries - 1) (writes_of gens - 1) (writes_of gens - 1) inv.rest (all_but_one g q) (omega arith) inv.limit (c.in_err-marks-2.ensures.stops e) in
    search rules

pub returns-in_err-marks-2-clause-part : goal.returns-in_err-marks-2-clause-part
returns-in_err-marks-2-clause-part g c k is flushed sound n limit =
    let q = (goal.at.returns-in_err-marks-2-clause-part g c).After-replay_log-2 in
    let inv = c.loop-index.invariant in
    let geo = c.args.geometry in
    let gens = generations_of geo c.args.logs.now in
    let i = c.loop-index.index in
    let log = generation_of geo c.index-logs-last.result in
    let w = writes_of (take i gens) in
    let left : c.loop-index.left ≡ Some (n - w) = inv.rest ∙ left_is c.args.left.now w n limit in
    let some : w < n = goes_is c.args.left.now w n inv.limit limit in
    let total : n ≡ w + (n - w) = omega (arith, some) in
    let d = at_last g q k is flushed sound in
    let here : c.in_err-marks-2.field-0.0 ≡ Limit → Tells g.D.Disk.content (AreMade geo (chain_copies gens) n k) c.replay_log-2.new.disk = λ e.
    tells_map g.D.Disk.content (AreMade geo (log_copies log.entries) (n - w) d.told) (AreMade geo (chain_copies gens) n k) c.replay_log-2.new.disk
    (λ f at made. subst (λ (ls : List Generation). AreMade geo (chain_copies ls) n k f) (there g q).whole
    (chain_part geo c.requires.logs.are_logs.valid k d.told f (take i gens) [] log (n - w) n (each_take (IsGeneration geo) i gens (all_valid g q)) d.holds
    (let less = within_is c.loop-index.left (writes_in log.entries - 1) (n - w) (c.in_err-marks-2.ensures.stops e) left in let t : n - w ≤ writes_in log.entries = omega (arith, less) in t) total made))
    (c.in_err-marks-2.ensures.part d.told d.is [] (holding geo c.requires.logs.are_logs.valid k d.told (take i gens) [] log d.holds) (n - w) left e) in
    search rules

pub returns-clause-going : goal.returns-clause-going
returns-clause-going g c =
    let q = (goal.at.returns-clause-going g c).After-replay_log-2 in
    let gens = generations_of c.args.geometry c.args.logs.now in
    goes_step c.args.left.now c.loop-index.left (writes_of (take c.loop-index.index gens)) (writes_in (generation_of c.args.geometry c.index-logs-last.result).entries - 1) (writes_of gens - 1) c.loop-index.invariant.rest (all_but_one g q) c.loop-index.invariant.limit c.in_ok-marks-2.ensures.going

pub returns-clause-entries : goal.returns-clause-entries
returns-clause-entries g c =
    let q = (goal.at.returns-clause-entries g c).After-replay_log-2 in
    let geo = c.args.geometry in
    let logs = c.args.logs.now in
    let gens = generations_of geo logs in
    let i = c.loop-index.index in
    let other = c.index-logs-last-2.result in
    let is : other ≡ get_or logs i other = c.index-logs-last-2.is ∙ ap (λ n. get_or logs n other) (sym (last_is g q)) in
    let t = subst (Turn gens i (generation_of geo other)) (none_after geo logs i (omega (arith, last_is g q, c.requires.logs.some))) (turn geo logs i other is (omega (arith, last_is g q, c.requires.logs.some))) in
    entries_there geo gens [] i c.loop-index.counts.entries c.count-2.new.counts.entries (generation_of geo other) t c.loop-index.invariant.entries (c.count-2.ensures.entries ∙ ap (λ n. c.loop-index.counts.entries + n) (sym (length-map other.entries (backup_of geo)))) ∙ ap entries_of (t.front ∙ t.whole)

pub returns-clause-marks : goal.returns-clause-marks
returns-clause-marks g c =
    let q = (goal.at.returns-clause-marks g c).After-replay_log-2 in
    let geo = c.args.geometry in
    let gens = generations_of geo c.args.logs.now in
    let t = there g q in
    marks_there geo gens [] c.loop-index.index c.loop-index.counts.marks c.count-2.new.counts.marks c.in_ok-marks-2.marks (generation_of geo c.index-logs-last.result) t c.loop-index.invariant.marks c.in_ok-marks-2.ensures.marks c.count-2.ensures.marks ∙ ap marks_of (t.front ∙ t.whole)

pub returns-clause-whole : goal.returns-clause-whole
returns-clause-whole g c k is flushed sound =
    let q = (goal.at.returns-clause-whole g c).After-replay_log-2 in
    let geo = c.args.geometry in
    let gens = generations_of geo c.args.logs.now in
    let i = c.loop-index.index in
    let log = generation_of geo c.index-logs-last.result in
    let d = at_last g q k is flushed sound in
    tells_map g.D.Disk.content (LogReplayed geo log d.told) (ChainReplayed geo gens k) c.replay_log-2.new.disk
    (λ e at back. subst (λ (ls : List Generation). ChainReplayed geo ls k e) (there g q).whole (chain_done geo c.requires.logs.are_logs.valid k d.told e (take i gens) log d.holds back))
    (c.in_ok-marks-2.ensures.whole d.told d.is [] (holding geo c.requires.logs.are_logs.valid k d.told (take i gens) [] log d.holds))
