use Rattle.std.proofs.Common.{◌∙◌, refl, sym}
use Rattle.bow_queue.proofs.RequestLemmas.{held_fact, some_request, missing_request, missing_requests, found_request, removed_requests, removed_sound, sound_orderly}
use Rattle.bow_queue.proofs.queue.Queue.remove.Goals as goal

pub returns-in_err-index-clause-request : goal.returns-in_err-index-clause-request
returns-in_err-index-clause-request c =
    let missing = rw c.as_slice.ensures.value at c.in_err-index.ensures.none in
    c.from_residual.ensures ∙ sym (missing_request _ _ _ _ _ _ c.self.view_is c.self.invariant c.args.ticket missing)

pub returns-in_err-index-clause-rest : goal.returns-in_err-index-clause-rest
returns-in_err-index-clause-rest c =
    let missing = rw c.as_slice.ensures.value at c.in_err-index.ensures.none in
    missing_requests _ _ _ _ _ _ c.self.view_is c.self.invariant c.args.ticket missing

pub returns-in_err-index-clause-orderly : goal.returns-in_err-index-clause-orderly
returns-in_err-index-clause-orderly c = sound_orderly _ _ _ _ _ _ c.self.view_is c.self.invariant

pub invariant_of-self : goal.invariant_of-self
invariant_of-self c =
    let within = rw c.as_slice.ensures.value at c.in_ok-index.ensures.found in
    let at = rw c.as_slice.ensures.value at c.in_ok-index.ensures.at in
    let gone = c.try_remove.ensures in
    let held = some_request _ _ _ _ _ _ c.self.view_is c.self.invariant c.args.ticket _ within at in
    removed_sound _ _ _ _ _ _ c.self.view_is c.self.invariant c.args.ticket _ within at _ _ gone.updates c.remove.ensures.items (held_fact _ _ gone.value held gone.len) gone.capacity

pub returns-clause-request : goal.returns-clause-request
returns-clause-request c =
    let within = rw c.as_slice.ensures.value at c.in_ok-index.ensures.found in
    let at = rw c.as_slice.ensures.value at c.in_ok-index.ensures.at in
    c.try_remove.ensures.value ∙ sym (found_request _ _ _ _ _ _ c.self.view_is c.self.invariant c.args.ticket _ within at)

pub returns-clause-rest : goal.returns-clause-rest
returns-clause-rest c =
    let within = rw c.as_slice.ensures.value at c.in_ok-index.ensures.found in
    let at = rw c.as_slice.ensures.value at c.in_ok-index.ensures.at in
    removed_requests _ _ _ _ _ _ c.self.view_is c.self.invariant c.args.ticket _ within at _ _ c.try_remove.ensures.updates c.remove.ensures.items

pub returns-clause-orderly : goal.returns-clause-orderly
returns-clause-orderly c = sound_orderly _ _ _ _ _ _ refl (invariant_of-self c)
