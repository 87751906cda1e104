use Rattle.std.proofs.Common.{◌∙◌, sym, refl, length}
use Rattle.std.proofs.lemmas.Option.{same_Some}
use Rattle.bow_queue.specs.Requests.{one_read, the_request}
use Rattle.bow_queue.proofs.RequestLemmas.{some_there, lies_there, has_ticket, changed_requests, changed_is_sound, sound_orderly}
use Rattle.bow_queue.proofs.queue.Queue.fill.Goals as goal

pub index_mut-requires : goal.index_mut-requires
index_mut-requires c = some_there _ _ _ _ _ _ c.self.view_is c.self.invariant c.args.ticket c.requires.waits

pub fill-requires-clause-counted : goal.fill-requires-clause-counted
fill-requires-clause-counted c =
    let same = same_Some _ _ (sym c.index_mut.ensures.value ∙ lies_there _ _ _ _ _ _ c.self.view_is c.self.invariant c.args.ticket c.requires.waits) in
    rw same c.requires.counted

pub fill-requires-clause-room : goal.fill-requires-clause-room
fill-requires-clause-room c =
    let same = same_Some _ _ (sym c.index_mut.ensures.value ∙ lies_there _ _ _ _ _ _ c.self.view_is c.self.invariant c.args.ticket c.requires.waits) in
    rw same c.requires.room

pub invariant_of-self : goal.invariant_of-self
invariant_of-self c =
    let same = same_Some _ _ (sym c.index_mut.ensures.value ∙ lies_there _ _ _ _ _ _ c.self.view_is c.self.invariant c.args.ticket c.requires.waits) in
    rw (c.fill.ensures, same) (changed_is_sound _ _ _ _ _ _ c.self.view_is c.self.invariant c.args.ticket c.requires.waits (one_read (length c.args.content.now) (the_request c.args.ticket c.args.self.now.waiting) c.args.content.now) (has_ticket _ _ _ _ _ _ c.self.view_is c.self.invariant c.args.ticket c.requires.waits))

pub returns-clause-done : goal.returns-clause-done
returns-clause-done c =
    let same = same_Some _ _ (sym c.index_mut.ensures.value ∙ lies_there _ _ _ _ _ _ c.self.view_is c.self.invariant c.args.ticket c.requires.waits) in
    rw (c.fill.ensures, same) (changed_requests _ _ _ _ _ _ c.self.view_is c.self.invariant c.args.ticket c.requires.waits (one_read (length c.args.content.now) (the_request c.args.ticket c.args.self.now.waiting) c.args.content.now) (has_ticket _ _ _ _ _ _ c.self.view_is c.self.invariant c.args.ticket c.requires.waits))

pub returns-clause-orderly : goal.returns-clause-orderly
returns-clause-orderly c = sound_orderly _ _ _ _ _ _ refl (invariant_of-self c)
