use Rattle.std.proofs.Common.{◌∙◌, sym, refl, arith}
use Rattle.std.proofs.lemmas.Option.{same_Some}
use Rattle.bow_queue.specs.Requests.{one_done, the_request}
use Rattle.bow_queue.proofs.RequestLemmas.{some_there, lies_there, has_ticket, changed_requests, changed_is_sound, sound_orderly}
use Rattle.bow_queue.proofs.queue.Queue.advance.Goals as goal

pub index_mut-requires : goal.index_mut-requires
index_mut-requires c = some_there _ _ _ _ _ _ c.self.view_is c.self.invariant c.args.ticket c.requires.waits

pub overflow_add-index_mut : goal.overflow_add-index_mut
overflow_add-index_mut c =
    let same = same_Some _ _ (sym c.index_mut.ensures.value ∙ lies_there _ _ _ _ _ _ c.self.view_is c.self.invariant c.args.ticket c.requires.waits) in
    rw same (omega (arith, c.requires.counted))

pub invariant_of-self : goal.invariant_of-self
invariant_of-self c =
    let same = same_Some _ _ (sym c.index_mut.ensures.value ∙ lies_there _ _ _ _ _ _ c.self.view_is c.self.invariant c.args.ticket c.requires.waits) in
    rw same (changed_is_sound _ _ _ _ _ _ c.self.view_is c.self.invariant c.args.ticket c.requires.waits (one_done (the_request c.args.ticket c.args.self.now.waiting)) (has_ticket _ _ _ _ _ _ c.self.view_is c.self.invariant c.args.ticket c.requires.waits))

pub returns-clause-done : goal.returns-clause-done
returns-clause-done c =
    let same = same_Some _ _ (sym c.index_mut.ensures.value ∙ lies_there _ _ _ _ _ _ c.self.view_is c.self.invariant c.args.ticket c.requires.waits) in
    rw same (changed_requests _ _ _ _ _ _ c.self.view_is c.self.invariant c.args.ticket c.requires.waits (one_done (the_request c.args.ticket c.args.self.now.waiting)) (has_ticket _ _ _ _ _ _ c.self.view_is c.self.invariant c.args.ticket c.requires.waits))

pub returns-clause-orderly : goal.returns-clause-orderly
returns-clause-orderly c = sound_orderly _ _ _ _ _ _ refl (invariant_of-self c)
