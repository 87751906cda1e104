use Rattle.std.proofs.Common.{◌≡◌, ℕ, List, [], ◌++◌, map, length, take, drop, sym, ap, ◌∙◌, subst, arith}
use Rattle.std.proofs.lemmas.List.{with_items_is}
use Rattle.bow_core.specs.Views.{View}
use Rattle.bow_script.specs.declared.scripts.Line.{Line}
use Rattle.bow_session.specs.Parts.{Account, account_of}
use Rattle.bow_session.specs.Sessions.{Run}
use Rattle.bow_pair.specs.Deciding.{EachPair}
use Rattle.bow_pair.specs.Playing.{EachRun, GoesOn, HasEnded, part_for}
use Rattle.bow_pair.proofs.Sessions.{all_played, as_many_loaded, on_ok}
use Rattle.bow_pair.proofs.playing.play.Given.{Over}
use Rattle.bow_pair.proofs.playing.play.Goals as goal
use Rattle.bow_pair.proofs.playing.play.Goals.{After-deref_mut, After-finish_each}

module _ (g : Over) where
  abbrev parts : (c : After-deref_mut g) → ℕ → List (List (List Line))
  parts c device = part_for c.args.round device (length c.args.cores.now.items) c.args.script.now

  none : (c : After-deref_mut g) → c.load_each.new.cores.items ≡ []
  none c = on_ok c.load_each.result (c.load_each.new.cores.items ≡ []) (sym c.is_err.ensures.value ∙ c.if-is_err.false) c.load_each.ensures.all

  many : (c : After-deref_mut g) → length c.load_each.new.sessions.items ≡ length c.args.cores.now.items
  many c =
      let D = g.D.Disk in
      as_many_loaded D.stated D.content D.moment D.left_since D.faults (parts c) c.args.cores.now.items c.load_each.new.cores.items c.load_each.new.sessions.items c.load_each.ensures.loaded (none c)

  lent : (c : After-deref_mut g) → length c.deref_mut.result.now ≡ length c.args.cores.now.items
  lent c = ap (λ (l : List (Run g.row.D.Denot)). length l) c.deref_mut.ensures.value ∙ many c

  put_back : (c : After-finish_each g) → take c.load_each.new.sessions.len (c.finish_each.new.sessions ++ drop (length c.finish_each.new.sessions) c.load_each.new.sessions.items) ≡ c.finish_each.new.sessions
  put_back c = with_items_is c.load_each.new.sessions c.finish_each.new.sessions (c.finish_each.ensures.many ∙ c.deref_mut.ensures.len)

  as_many : (c : After-finish_each g) → (d : After-deref_mut g) → length d.deref_mut.result.now ≡ length c.args.cores.now.items → length c.deref_mut.result.now ≡ length c.args.cores.now.items
      → length (take c.load_each.new.sessions.len (c.finish_each.new.sessions ++ drop (length c.finish_each.new.sessions) c.load_each.new.sessions.items)) ≡ length c.args.cores.now.items
  as_many c d was long = ap (λ (l : List (Run g.row.D.Denot)). length l) (put_back c) ∙ c.finish_each.ensures.many ∙ long

pub finish_each-requires-clause-some : goal.finish_each-requires-clause-some
finish_each-requires-clause-some g c =
    let long = lent g (goal.at.finish_each-requires-clause-some g c).After-deref_mut in
    let some = c.requires.some in
    omega (arith, long, some)

pub finish_each-requires-clause-few : goal.finish_each-requires-clause-few
finish_each-requires-clause-few g c =
    let long = lent g (goal.at.finish_each-requires-clause-few g c).After-deref_mut in
    let few = c.requires.devices in
    omega (arith, long, few)

pub close_each-requires-2-clause-back : goal.close_each-requires-2-clause-back
close_each-requires-2-clause-back g c =
    let q = (goal.at.close_each-requires-2-clause-back g c).After-finish_each in
    let p = (goal.at.close_each-requires-2-clause-back g c).After-deref_mut in
    let long = as_many g q p (lent g p) (lent g p) in
    let empty : length c.load_each.new.cores.items ≡ 0 = ap (λ (l : List (View g.row.D.Denot)). length l) (none g p) in
    let room = c.requires.back in
    let wide = c.load_each.ensures.back in
    omega (arith, long, empty, room, wide)

pub close_each-requires-2-clause-room : goal.close_each-requires-2-clause-room
close_each-requires-2-clause-room g c =
    let q = (goal.at.close_each-requires-2-clause-room g c).After-finish_each in
    let p = (goal.at.close_each-requires-2-clause-room g c).After-deref_mut in
    let long = as_many g q p (lent g p) (lent g p) in
    let empty : length c.in_ok-accounts.accounts.items ≡ 0 = ap (λ (l : List Account). length l) c.in_ok-accounts.ensures.items in
    let room = c.in_ok-accounts.ensures.capacity in
    let asked = c.len-2.ensures in
    omega (arith, long, empty, room, asked)

pub returns-clause-played : goal.returns-clause-played
returns-clause-played g c =
    let D = g.D.Disk in
    let S = Run g.row.D.Denot in
    let q = (goal.at.returns-clause-played g c).After-finish_each in
    let p = (goal.at.returns-clause-played g c).After-deref_mut in
    let rest = c.load_each.new.cores.items in
    let E = c.close_each-2.ensures in
    let F = c.finish_each.ensures in
    let ended = c.finish_each.new.sessions in
    all_played D.stated D.content D.moment D.left_since D.faults (parts g p) c.args.cores.now.items c.close_each-2.new.cores.items rest c.close_each-2.new.accounts.items c.load_each.new.sessions.items ended
    c.load_each.ensures.loaded (none g p)
    (subst (λ (l : List S). EachPair (GoesOn D.stated D.content D.moment D.left_since D.faults) l ended) c.deref_mut.ensures.value F.goes)
    (F.many ∙ ap (λ (l : List S). length l) c.deref_mut.ensures.value)
    F.over
    (subst (λ (l : List S). EachRun (HasEnded D.stated D.content D.moment D.left_since D.faults) l) (put_back g q) E.ended)
    (E.cores ∙ ap (λ (l : List S). map (λ (s : S). s.core) l ++ rest) (put_back g q))
    (E.accounts ∙ ap (λ (l : List S). map account_of l ++ c.in_ok-accounts.accounts.items) (put_back g q) ∙ ap (λ (l : List Account). map account_of ended ++ l) c.in_ok-accounts.ensures.items)
