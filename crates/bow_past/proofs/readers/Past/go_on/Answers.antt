use Rattle.std.proofs.Common.{◌≡◌, ◌<◌, ◌-◌, ◌∙◌, Some, ap, subst, sym, true}
use Rattle.bow_log.specs.Generations.{generation_of}
use Rattle.bow_log.specs.Rules.{IsLog}
use Rattle.bow_units.specs.declared.sizes.Geometry.{Geometry}
use Rattle.bow_past.specs.Readings.{can_read, kept_of, missing_below, past_logs}
use Rattle.bow_log.specs.Spelling.{Fields}
use Rattle.bow_chain.specs.Places.{pass}
use Rattle.bow_past.proofs.Beside.{log_is}
use Rattle.bow_past.proofs.Stepping.{above_0, can_parts, looks_step, memory_is, reads_step, some_log}
use Rattle.bow_past.proofs.readers.Past.go_on.Given.{Over}
use Rattle.bow_past.proofs.readers.Past.go_on.Goals.{After-missing}
use Rattle.bow_past.proofs.readers.Past.go_on.Goals as goal

module _ (g : Over) (c : After-missing g) where
  can : can_read c.args.self.now c.args.session.now.core.memory.phase ≡ true
  can = sym c.ready.ensures ∙ c.if-not-ready.false

  same : c.args.self.now.geometry ≡ c.args.session.now.core.geometry
  same = c.requires.agrees.sizes

  some : c.args.session.now.core.memory.log ≡ Some (generation_of c.args.self.now.geometry c.in-Some.log.now)
  some = memory_is c.args.session.now.core.geometry c.args.session.now.core.memory (c.geometry.ensures.sound).memory c.in-Some.log.now c.in-Some.ensures ∙ ap (λ (h : Geometry). Some (generation_of h c.in-Some.log.now)) (sym same)

  is_log : IsLog c.args.self.now.geometry c.in-Some.log.now
  is_log = subst (λ (h : Geometry). IsLog h c.in-Some.log.now) (sym same) (log_is c.args.session.now.core.geometry c.args.session.now.core.memory (c.geometry.ensures.sound).memory c.in-Some.log.now c.in-Some.ensures).0

pub returns-in_default : goal.returns-in_default
returns-in_default g c =
    let can = sym c.ready.ensures ∙ c.if-not-ready.false in
    absurd (some_log c.args.session.now.core.geometry c.args.session.now.core.memory (c.geometry.ensures.sound).memory (can_parts c.args.self.now c.args.session.now.core.memory.phase can).0 c.in_default.ensures)

pub place-place-requires-clause-log : goal.place-place-requires-clause-log
place-place-requires-clause-log g c = is_log g (goal.at.place-place-requires-clause-log g c).After-missing

pub place-place-requires-clause-on : goal.place-place-requires-clause-on
place-place-requires-clause-on g c = above_0 c.args.self.now.geometry c.args.session.now.core.geometry c.requires.agrees.sizes (c.geometry.ensures.sound).memory.sizes

pub place-place-requires-in-None-clause-log : goal.place-place-requires-in-None-clause-log
place-place-requires-in-None-clause-log g c = is_log g (goal.at.place-place-requires-in-None-clause-log g c).After-missing

pub place-place-requires-in-None-clause-on : goal.place-place-requires-in-None-clause-on
place-place-requires-in-None-clause-on g c =
    let can = sym c.ready.ensures ∙ c.if-not-ready.false in
    c.next.ensures.on (can_parts c.args.self.now c.args.session.now.core.memory.phase can).1

pub returns-in-Some-missing : goal.returns-in-Some-missing
returns-in-Some-missing g c =
    let k = (goal.at.returns-in-Some-missing g c).After-missing in
    record {
      step = looks_step g.D.Disk.stated g.D.Disk.content g.D.Disk.moment g.D.Disk.left_since g.D.Disk.faults c.args.self.now c.args.session.now c.in-Some.log.now (some g k) (can g k)
          c.read_log.result c.read_log.new.self c.read_log.new.session c.in-Some-missing.wanted c.place-place.result (ap (λ (l : Fields). missing_below (kept_of c.args.self.now) l.sequence) (sym c.log-2.view_is) ∙ sym c.missing.ensures.is ∙ c.in-Some-missing.is) c.place-place.ensures.is c.read_log.ensures.looks;
    }

pub returns-in-None : goal.returns-in-None
returns-in-None g c =
    let k = (goal.at.returns-in-None g c).After-missing in
    record {
      step = reads_step g.D.Disk.stated g.D.Disk.content g.D.Disk.moment g.D.Disk.left_since g.D.Disk.faults c.args.self.now c.args.session.now c.in-Some.log.now (some g k) (can g k)
          c.read_block.result c.read_block.new.self c.read_block.new.session c.place-place-in-None.result (subst (λ n. n < c.args.self.now.geometry.blocks) c.next.ensures.is (c.next.ensures.on (can_parts c.args.self.now c.args.session.now.core.memory.phase (can g k)).1)) (ap (λ (l : Fields). missing_below (kept_of c.args.self.now) l.sequence) (sym c.log-2.view_is) ∙ sym c.missing.ensures.is ∙ c.in-None.is) (c.place-place-in-None.ensures.is ∙ ap (λ n. pass (generation_of c.args.self.now.geometry c.in-Some.log.now).entries (past_logs c.args.self.now.geometry (kept_of c.args.self.now) 0 (c.in-Some.log.now.sequence - 0) n)) c.next.ensures.is) c.read_block.ensures.reads;
    }
