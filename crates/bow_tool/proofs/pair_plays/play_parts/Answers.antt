use Rattle.std.proofs.Common.{inr, List, Result, Ok, Err, length, refl, sym, ap, ◌∙◌, subst}
use Rattle.std.specs.Prelude.{OnErr}
use Rattle.bow_deal.specs.Dealing.{later_part}
use Rattle.bow_script.specs.declared.scripts.Line.{Line}
use Rattle.bow_pair.specs.Deciding.{disks_of}
use Rattle.bow_pair.specs.Preparing.{AnswersPrepared, AnswersRan}
use Rattle.bow_pair.specs.declared.pairs.Prepared.TheVariants.{All, NotAll}
use Rattle.bow_pair.specs.declared.pairs.Ran.TheVariants.{Clean, Faulty}
use Rattle.bow_tool.specs.declared.verdicts.Verdict.TheVariants as verdict
use Rattle.bow_tool.specs.Outside.{DiskView, disk_view}
use Rattle.bow_tool.specs.PairLines.{PairRun}
use Rattle.bow_tool.specs.PairPlays.{Played}
use Rattle.bow_tool.proofs.pair_plays.play_parts.Given.{Over}
use Rattle.bow_tool.proofs.pair_plays.play_parts.Goals as goal
use Rattle.bow_tool.proofs.pair_plays.play_parts.Goals.{In_ok-run}

-- a fact holds where an error is answered
on_err : {T E : Type 0} (r : Result T E) (P : Type 0) → P → OnErr r P
on_err (Ok x) P p = tt
on_err (Err e) P p = p

pub returns-in-NotAll-clause-went : goal.returns-in-NotAll-clause-went
returns-in-NotAll-clause-went g c =
    let left = c.prepare.new.self in
    let device = c.in-NotAll.device in
    let r : PairRun g.row.D.Denot = record { ready = left.cores; ran = left.cores; now = left.cores; first = left.openings; second = left.laters; prepared = NotAll device; verdict = verdict.NotPrepared device } in (
      r,
      (
        record {
          first = c.in_ok-prepare.ensures.played;
          prepared = subst (AnswersPrepared left.cores left.openings) c.in-NotAll.is c.in_ok-prepare.ensures.answer;
          ended = (refl, c.in_ok-prepare.ensures.script.1 ∙ c.requires.fresh.1, refl, refl);
          disks = refl;
        },
        refl,
        refl,
        refl,
      ),
    )

pub returns-in_err-run-clause-short : goal.returns-in_err-run-clause-short
returns-in_err-run-clause-short g c =
    let left = c.prepare.new.self in
    on_err c.from_residual-in_err-run.result _
    (refl, inr (left.cores, left.openings, c.in_ok-prepare.ensures.played, subst (AnswersPrepared left.cores left.openings) c.in-All.is c.in_ok-prepare.ensures.answer, ap (λ p. disks_of p.cores) c.in_err-run.ensures.kept))

module _ (g : Over) where
  -- the second sessions, of the script that was given
  played : (c : In_ok-run g) → Played (disk_view g.D.Disk.stated g.D.Disk.content g.D.Disk.moment g.D.Disk.left_since g.D.Disk.faults) (λ device. later_part device (length c.prepare.new.self.cores) c.args.script) c.prepare.new.self.cores c.run.new.self.cores c.run.new.self.laters
  played c =
      let D = g.D.Disk in
      let v : DiskView g.row.D.Denot = disk_view D.stated D.content D.moment D.left_since D.faults in
      let left = c.prepare.new.self in
      subst (λ (s : List (List (List Line))). Played v (λ device. later_part device (length left.cores) s) left.cores c.run.new.self.cores c.run.new.self.laters) c.in_ok-prepare.ensures.script.0 c.in_ok-run.ensures.played

pub returns-in-Faulty-clause-went : goal.returns-in-Faulty-clause-went
returns-in-Faulty-clause-went g c =
    let left = c.prepare.new.self in
    let ran = c.run.new.self in
    let device = c.in-Faulty.device in
    let r : PairRun g.row.D.Denot = record { ready = left.cores; ran = ran.cores; now = ran.cores; first = left.openings; second = ran.laters; prepared = All; verdict = verdict.NotCommitted device } in (
      r,
      (
        record {
          first = c.in_ok-prepare.ensures.played;
          prepared = subst (AnswersPrepared left.cores left.openings) c.in-All.is c.in_ok-prepare.ensures.answer;
          ended = (played g (goal.at.returns-in-Faulty-clause-went g c).In_ok-run, (Faulty device, subst (AnswersRan ran.cores ran.laters) c.in-Faulty.is c.in_ok-run.ensures.answer, (refl, refl, refl)));
          disks = refl;
        },
        refl,
        sym c.in_ok-run.ensures.others.1,
        refl,
      ),
    )

pub decide-requires : goal.decide-requires
decide-requires g c = record { rests = c.in_ok-run.ensures.rests (ap Ok c.in-Clean.is) }

pub returns-clause-went : goal.returns-clause-went
returns-clause-went g c =
    let left = c.prepare.new.self in
    let ran = c.run.new.self in
    let now = c.decide.new.self in
    let r : PairRun g.row.D.Denot = record { ready = left.cores; ran = ran.cores; now = now.cores; first = left.openings; second = ran.laters; prepared = All; verdict = c.verdict_of.result } in (
      r,
      (
        record {
          first = c.in_ok-prepare.ensures.played;
          prepared = subst (AnswersPrepared left.cores left.openings) c.in-All.is c.in_ok-prepare.ensures.answer;
          ended = (
            played g (goal.at.returns-clause-went g c).In_ok-run,
            (
              Clean,
              subst (AnswersRan ran.cores ran.laters) c.in-Clean.is c.in_ok-run.ensures.answer,
              record {
                answer = c.decide.result;
                verdict = c.verdict_of.ensures;
                cause = c.decide.ensures.cause;
                untouched = c.decide.ensures.untouched;
                counts = c.decide.ensures.counts;
                agreed = c.decide.ensures.agreed;
              },
            ),
          );
          disks = refl;
        },
        refl,
        sym (c.decide.ensures.others.0 ∙ c.in_ok-run.ensures.others.1),
        sym c.decide.ensures.others.1,
      ),
    )
