use Rattle.std.proofs.Common.{◌≡◌, length, sym, ap, ◌∙◌, subst}
use Rattle.std.specs.Prelude.{slice_get}
use Rattle.bow_deal.specs.Dealing.{later_part}
use Rattle.bow_pair.specs.Pairs.{Joined}
use Rattle.bow_pair.specs.Playing.{HavePlayed}
use Rattle.bow_pair.specs.Preparing.{AnswersRan, HowRan}
use Rattle.bow_pair.specs.declared.pairs.Ran.TheVariants.{Clean}
use Rattle.bow_pair.specs.declared.playing.Round.TheVariants.{Later}
use Rattle.bow_pair.proofs.Played.{at_rest_after, of_all, ready_prepared}
use Rattle.bow_pair.proofs.pairs.Pair.run.Given.{Over}
use Rattle.bow_pair.proofs.pairs.Pair.run.Goals as goal
use Rattle.bow_pair.proofs.pairs.Pair.run.Goals.{After-how_ran}

pub play-requires-clause-ready : goal.play-requires-clause-ready
play-requires-clause-ready g c k v at =
    let D = g.D.Disk in
    ready_prepared D.stated D.content D.moment D.left_since D.faults c.args.self.now.cores c.requires.prepared k v (ap (λ (p : Joined g.row.D.Denot). slice_get p.cores k) (sym c.self.view_is) ∙ at)

module _ (g : Over) (c : After-how_ran g) where
  played : HavePlayed g.D.Disk.stated g.D.Disk.content g.D.Disk.moment g.D.Disk.left_since g.D.Disk.faults (λ device. later_part device (length c.args.self.now.cores) c.args.self.now.script) c.args.self.now.cores c.play.new.cores.items c.in_ok-self-inside.field-0.items
  played =
      let D = g.D.Disk in
      subst (λ (p : Joined g.row.D.Denot). HavePlayed D.stated D.content D.moment D.left_since D.faults (λ device. later_part device (length p.cores) p.script) p.cores c.play.new.cores.items c.in_ok-self-inside.field-0.items) c.self.view_is c.in_ok-self-inside.ensures.played

  answers : AnswersRan c.play.new.cores.items c.in_ok-self-inside.field-0.items c.how_ran.result
  answers =
      of_all (λ n l. HowRan n l c.how_ran.result) c.deref.result.now c.in_ok-self-inside.field-0.items (length c.play.new.cores.items) c.how_ran.ensures c.deref.ensures.value (played.as_many ∙ sym played.many)

pub returns-clause-played : goal.returns-clause-played
returns-clause-played g c = played g (goal.at.returns-clause-played g c).After-how_ran

pub returns-clause-answer : goal.returns-clause-answer
returns-clause-answer g c = answers g (goal.at.returns-clause-answer g c).After-how_ran

pub returns-clause-rests : goal.returns-clause-rests
returns-clause-rests g c is =
    let D = g.D.Disk in
    let q = (goal.at.returns-clause-rests g c).After-how_ran in
    let clean : c.how_ran.result ≡ Clean = cc is in
    at_rest_after D.stated D.content D.moment D.left_since D.faults Later c.args.self.now.script c.args.self.now.cores c.play.new.cores.items c.in_ok-self-inside.field-0.items c.requires.script c.requires.prepared
    (played g q) (subst (AnswersRan c.play.new.cores.items c.in_ok-self-inside.field-0.items) clean (answers g q))
