use Rattle.std.proofs.Common.{◌≡◌, length, sym, ap, ◌∙◌, subst}
use Rattle.std.specs.Prelude.{slice_get}
use Rattle.bow_deal.specs.Dealing.{opening_part}
use Rattle.bow_pair.specs.Pairs.{Joined}
use Rattle.bow_pair.specs.Playing.{HavePlayed}
use Rattle.bow_pair.specs.Preparing.{AnswersPrepared, HowPrepared}
use Rattle.bow_pair.specs.declared.pairs.Prepared.TheVariants.{All}
use Rattle.bow_pair.specs.declared.playing.Round.TheVariants.{Opening}
use Rattle.bow_pair.proofs.Played.{of_all, prepared_after, ready_once}
use Rattle.bow_pair.proofs.pairs.Pair.prepare.Given.{Over}
use Rattle.bow_pair.proofs.pairs.Pair.prepare.Goals as goal
use Rattle.bow_pair.proofs.pairs.Pair.prepare.Goals.{After-how_prepared}

pub play-requires-clause-ready : goal.play-requires-clause-ready
play-requires-clause-ready g c k v at =
    let D = g.D.Disk in
    ready_once D.stated D.content D.moment D.left_since D.faults c.args.self.now.cores c.requires.ready k v (ap (λ (p : Joined g.row.D.Denot). slice_get p.cores k) (sym c.self.view_is) ∙ at)

module _ (g : Over) (c : After-how_prepared g) where
  played : HavePlayed g.D.Disk.stated g.D.Disk.content g.D.Disk.moment g.D.Disk.left_since g.D.Disk.faults (λ device. opening_part device (length c.args.self.now.cores) c.args.script) c.args.self.now.cores c.play.new.cores.items c.in_ok-self-inside.field-0.items
  played =
      let D = g.D.Disk in
      subst (λ (p : Joined g.row.D.Denot). HavePlayed D.stated D.content D.moment D.left_since D.faults (λ device. opening_part device (length p.cores) c.args.script) p.cores c.play.new.cores.items c.in_ok-self-inside.field-0.items) c.self.view_is c.in_ok-self-inside.ensures.played

  answers : AnswersPrepared c.play.new.cores.items c.in_ok-self-inside.field-0.items c.how_prepared.result
  answers =
      of_all (λ n l. HowPrepared n l c.how_prepared.result) c.deref.result.now c.in_ok-self-inside.field-0.items (length c.play.new.cores.items) c.how_prepared.ensures c.deref.ensures.value (played.as_many ∙ sym played.many)

pub returns-clause-played : goal.returns-clause-played
returns-clause-played g c = played g (goal.at.returns-clause-played g c).After-how_prepared

pub returns-clause-answer : goal.returns-clause-answer
returns-clause-answer g c = answers g (goal.at.returns-clause-answer g c).After-how_prepared

pub returns-clause-prepared : goal.returns-clause-prepared
returns-clause-prepared g c is =
    let D = g.D.Disk in
    let q = (goal.at.returns-clause-prepared g c).After-how_prepared in
    let prepared : c.how_prepared.result ≡ All = cc is in
    prepared_after D.stated D.content D.moment D.left_since D.faults Opening c.args.script c.args.self.now.cores c.play.new.cores.items c.in_ok-self-inside.field-0.items c.requires.script c.requires.ready
    (played g q) (subst (AnswersPrepared c.play.new.cores.items c.in_ok-self-inside.field-0.items) prepared (answers g q))
