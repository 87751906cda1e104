use Rattle.std.proofs.Common.{rules, ◌≡◌, ◌+◌, ◌≤◌, ◌++◌, ◌∷◌, [], List, length, map, refl, sym, ap, ◌∙◌, subst, arith, append-nil, append_assoc, length-append}
use Rattle.bow_core.specs.Views.{View}
use Rattle.bow_session.specs.Leads.{MayBeginAnew, requests_of}
use Rattle.bow_session.specs.Parts.{Account, account_of}
use Rattle.bow_session.specs.Sessions.{Run}
use Rattle.bow_pair.specs.Playing.{EachRun, HasEnded}
use Rattle.bow_pair.proofs.Sessions.{back_to_front, one_before}
use Rattle.bow_pair.proofs.playing.close_each.Goals as goal

pub loop-session-init : goal.loop-session-init
loop-session-init g c = record {
  closed = [];
  split = append-nil c.args.sessions.items;
  ended = λ k s at. absurd (grind (arith, at));
  cores = refl;
  accounts = refl;
  back = omega arith;
  room = c.requires.back;
  place = c.requires.room;
}

pub loop-session-preserved : goal.loop-session-preserved
loop-session-preserved g c =
    let D = g.D.Disk in
    let S = Run g.row.D.Denot in
    let i = c.loop-session.invariant in
    let s = c.in-Some.session in
    let E = c.close_with-core.ensures in
    let all = c.loop-session.sessions.items in
    let less = c.pop.new.self.items in
    let last = c.in-Some.ensures.items in
    let core = c.put_first.ensures.items ∙ ap (λ (v : View g.row.D.Denot). v ∷ c.loop-session.cores.items) E.same in
    let account = c.put_first-in-Some.ensures.items ∙ ap (λ (a : Account). a ∷ c.loop-session.accounts.items) E.part in
    let shorter : length all ≡ length less + 1 = ap (λ (l : List S). length l) last ∙ length-append less (s ∷ []) in
    let more = ap (λ (l : List (View g.row.D.Denot)). length l) c.put_first.ensures.items in
    let told = ap (λ (l : List Account). length l) c.put_first-in-Some.ensures.items in
    let wide = c.put_first.ensures.room in
    let broad = c.put_first-in-Some.ensures.room in
    record {
      closed = s ∷ i.closed;
      split = sym (append_assoc less (s ∷ []) i.closed) ∙ ap (λ (l : List S). l ++ i.closed) (sym last) ∙ i.split;
      ended = one_before (HasEnded D.stated D.content D.moment D.left_since D.faults) s i.closed (record {
        places = subst (λ (v : View g.row.D.Denot). v.places ≡ 16) E.same E.places;
        idle = λ over. subst (λ (v : View g.row.D.Denot). v.memory.requests ≡ []) E.same (E.idle over);
        admitted = λ first k. subst (λ (v : View g.row.D.Denot). v.admitted ≤ first.admitted + requests_of s.script) E.same (E.admitted first k);
        anew = λ first k over prepared. subst MayBeginAnew E.same (E.anew first k over (λ at. prepared (ap (λ (v : View g.row.D.Denot). v.memory.phase) (sym E.same) ∙ at)));
      }) i.ended;
      cores = back_to_front (λ (x : S). x.core) all less s c.loop-session.cores.items c.put_first.new.row.items (map (λ (x : S). x.core) c.args.sessions.items ++ c.args.cores.now.items) last i.cores core;
      accounts = back_to_front account_of all less s c.loop-session.accounts.items c.put_first-in-Some.new.row.items (map account_of c.args.sessions.items ++ c.args.accounts.now.items) last i.accounts account;
      back = let was = i.back in omega (arith, was, wide);
      room = let was = i.room in omega (arith, was, shorter, more, wide);
      place = let was = i.place in omega (arith, was, shorter, told, broad);
    }

pub returns-clause-ended : goal.returns-clause-ended
returns-clause-ended g c =
    let D = g.D.Disk in
    let S = Run g.row.D.Denot in
    let i = c.loop-session.invariant in
    let none : c.loop-session.sessions.items ≡ [] = search rules in
    subst (λ (l : List S). EachRun (HasEnded D.stated D.content D.moment D.left_since D.faults) l) (ap (λ (l : List S). l ++ i.closed) (sym none) ∙ i.split) i.ended
