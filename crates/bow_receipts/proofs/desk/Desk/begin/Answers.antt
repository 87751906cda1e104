use Rattle.std.proofs.Common.{◌≡◌, ◌*◌, ◌≤◌, ◌∙◌, [], ◌∷◌, length, Option, None, ap, sym, subst, rules}
use Rattle.std.specs.Prelude.{replicate, sum, vec_capacity}
use Rattle.bow_tags.specs.Rule.{new_view}
use Rattle.bow_tags.specs.Seats.{lanes_of}
use Rattle.bow_receipts.specs.declared.hands.Hand.{Hand}
use Rattle.bow_receipts.specs.Openings.{may_of}
use Rattle.bow_receipts.proofs.Beginning.{serves_first}
use Rattle.bow_receipts.proofs.Passing.{only_one}
use Rattle.bow_receipts.proofs.Sectioning.{sectioned_first}
use Rattle.bow_receipts.proofs.desk.Desk.begin.Goals as goal

pub new-requires-clause-serves : goal.new-requires-clause-serves
new-requires-clause-serves g c =
    let seen = c.callers.view_is in
    let they = c.callers.invariant in
    let calls = c.callers.inside.calls.items in
    let named = c.requires.named in
    let table = ap (λ z. z.table) seen ∙ sym named.0 in
    let server = they.serves 0 c.in-Some.server (only_one c.callers.inside.servers.items c.pop.new.self.items c.in-Some.server (c.in-Some.ensures).items they.one) in
    let rooms = c.in-Ok.ensures in
    let len : c.len.result ≡ length calls = search rules in
    let total : c.total_of-total.result ≡ sum calls = c.total_of-total.ensures ∙ ap sum c.deref.ensures.value in
    serves_first g.D.Disk.stated g.D.Disk.content g.D.Disk.moment g.D.Disk.left_since g.D.Disk.faults g.met.D.Disk.shaped g.met.D.Disk.only_now
    g.J.Naming.sizes g.J.Naming.callers g.J.Naming.allowed g.J.Naming.table g.J.Naming.begins _
    c.geometry.ensures.opened c.requires.idle c.requires.places c.requires.serials c.requires.early named.1 c.requires.begins calls
    (named.2 ∙ ap (λ z. length z.calls) (sym seen)) (named.3 ∙ ap (λ z. may_of z.calls) (sym seen)) they.few they.total
    (ap lanes_of (sym table) ∙ they.lanes_are) (server.0 ∙ table) c.callers.inside.size (ap (λ z. z.size) seen ∙ c.requires.size)
    (server.1 ∙ ap (λ z. new_view (lanes_of z) 1 c.callers.inside.size [] (0 ∷ [])) table)
    (rooms.hands ∙ ap (λ n. replicate {A = Option Hand} n None) len) rooms.empty.0 rooms.empty.1
    (subst (λ n. 17 * n ≤ vec_capacity c.in-Ok.rooms.journal) total rooms.room.0) (subst (λ n. n ≤ vec_capacity c.in-Ok.rooms.calls) total rooms.room.1)

pub new-requires-clause-sections : goal.new-requires-clause-sections
new-requires-clause-sections g c =
    sectioned_first g.J.Naming.section c.in-Ok.rooms.hands.items c.len.result c.in-Ok.rooms.journal.items (c.in-Ok.ensures).hands (c.in-Ok.ensures).empty.0
