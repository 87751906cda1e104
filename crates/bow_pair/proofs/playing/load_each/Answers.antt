use Rattle.std.proofs.Common.{◌≡◌, ◌+◌, ◌∷◌, [], List, length, map, ℕ, sym, ap, ◌∙◌, subst, arith, length-append}
use Rattle.bow_core.specs.Views.{View}
use Rattle.bow_script.specs.declared.scripts.Line.{Line}
use Rattle.bow_session.specs.Sessions.{Run}
use Rattle.bow_pair.specs.Playing.{AreLoaded, LoadsNext, part_for}
use Rattle.bow_pair.proofs.Sessions.{behind, one_more_loaded}
use Rattle.bow_pair.proofs.playing.load_each.Goals as goal

pub load_next-requires-clause-ready : goal.load_next-requires-clause-ready
load_next-requires-clause-ready g c k v at =
    let i = c.loop-device.invariant in
    let fronts = map (λ (s : Run g.row.D.Denot). s.core) c.loop-device.sessions.items in
    c.requires.ready (length fronts + k) v (behind fronts c.loop-device.cores.items c.args.cores.now.items k v i.loaded.split at)

pub returns-in_err-load_next-clause-loaded : goal.returns-in_err-load_next-clause-loaded
returns-in_err-load_next-clause-loaded g c =
    let D = g.D.Disk in
    let i = c.loop-device.invariant in
    let E = c.in_err-load_next.ensures.kept in
    let parts : ℕ → List (List (List Line)) = λ device. part_for c.args.round device (length c.args.cores.now.items) c.args.script.now in
    let all = c.args.cores.now.items in
    subst (λ (l : List (View g.row.D.Denot)). AreLoaded D.stated D.content D.moment D.left_since D.faults parts all l c.load_next.new.sessions.items) (sym E.0)
    (subst (λ (l : List (Run g.row.D.Denot)). AreLoaded D.stated D.content D.moment D.left_since D.faults parts all c.loop-device.cores.items l) (sym E.1) i.loaded)

pub loop-device-preserved : goal.loop-device-preserved
loop-device-preserved g c =
    let D = g.D.Disk in
    let i = c.loop-device.invariant in
    let E = c.in_ok-load_next.ensures in
    let parts : ℕ → List (List (List Line)) = λ device. part_for c.args.round device (length c.args.cores.now.items) c.args.script.now in
    let n = c.loop-device.device in
    let part : c.in_ok-part.part ≡ parts n = c.in_ok-part.ensures.part ∙ ap (λ m. part_for c.args.round n m c.args.script.now) i.count in
    let rest = c.loop-device.cores.items in
    let less = c.load_next.new.cores.items in
    let sessions = c.loop-device.sessions.items in
    let more = c.load_next.new.sessions.items in
    let next = E.loaded in
    let longer : length more ≡ length sessions + 1 = ap (λ (l : List (Run g.row.D.Denot)). length l) next.added ∙ length-append sessions (next.session ∷ []) in
    let shorter : length rest ≡ length less + 1 = ap (λ (l : List (View g.row.D.Denot)). length l) next.taken ∙ (let e : length (next.session.core ∷ less) ≡ length less + 1 = omega arith in e) in
    record {
      loaded = one_more_loaded D.stated D.content D.moment D.left_since D.faults parts c.args.cores.now.items rest less sessions more n i.so_many i.loaded
          (subst (λ (s : List (List (List Line))). LoadsNext D.stated D.content D.moment D.left_since D.faults s rest less sessions more) part next);
      so_many = let many = i.so_many in omega (arith, many, longer);
      count = i.count;
      less = let left = i.less in omega (arith, left, shorter);
      back = let was = i.back in let wide = E.back in omega (arith, was, wide);
      room = E.room ∙ i.room;
    }
