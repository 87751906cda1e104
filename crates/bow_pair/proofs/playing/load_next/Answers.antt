use Rattle.std.proofs.Common.{◌≡◌, ◌∷◌, arith, sym, ap, ◌∙◌, subst}
use Rattle.bow_core.specs.Views.{View}
use Rattle.bow_session.specs.Leads.{WasLoaded}
use Rattle.bow_session.specs.Sessions.{Run}
use Rattle.bow_pair.specs.Pairs.{IsReady}
use Rattle.bow_pair.proofs.Sessions.{first_out, head_is}
use Rattle.bow_pair.proofs.playing.load_next.Given.{Over}
use Rattle.bow_pair.proofs.playing.load_next.Goals as goal
use Rattle.bow_pair.proofs.playing.load_next.Goals.{After-remove-core}

module _ (g : Over) where
  ready : (c : After-remove-core g) → IsReady 1 c.remove-core.result
  ready c = c.requires.ready 0 c.remove-core.result (head_is c.args.cores.now.items c.remove-core.result c.requires.some c.remove-core.ensures.value)

pub load-requires-clause-idle : goal.load-requires-clause-idle
load-requires-clause-idle g c = (ready g (goal.at.load-requires-clause-idle g c).After-remove-core).idle

pub load-requires-clause-places : goal.load-requires-clause-places
load-requires-clause-places g c = (ready g (goal.at.load-requires-clause-places g c).After-remove-core).places

pub load-requires-clause-serials : goal.load-requires-clause-serials
load-requires-clause-serials g c =
    let few = (ready g (goal.at.load-requires-clause-serials g c).After-remove-core).admitted in
    omega (arith, few)

pub returns-in-Ok-clause-loaded : goal.returns-in-Ok-clause-loaded
returns-in-Ok-clause-loaded g c =
    let D = g.D.Disk in
    let E = c.in-Ok.ensures in
    let same : c.in-Ok.session.core ≡ c.remove-core.result = ap (λ (s : Run g.row.D.Denot). s.core) E.fresh in
    let rest = c.remove-core.new.self.items in
    record {
      session = c.in-Ok.session;
      fresh = record {
        loaded = subst (λ (v : View g.row.D.Denot). WasLoaded D.stated D.content D.moment D.left_since D.faults v c.in-Ok.session) (sym same) E.loaded;
        asked = ap (λ (s : Run g.row.D.Denot). s.script) E.fresh;
      };
      taken = first_out c.args.cores.now.items rest c.remove-core.result c.requires.some c.remove-core.ensures.value c.remove-core.ensures.items ∙ ap (λ (v : View g.row.D.Denot). v ∷ rest) (sym same);
      added = c.push_reserved.ensures.items;
    }
