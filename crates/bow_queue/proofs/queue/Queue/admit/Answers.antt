use Rattle.std.proofs.Common.{◌∙◌, sym, refl}
use Rattle.std.proofs.lemmas.Option.{same_Some}
use Rattle.bow_queue.specs.Requests.{fresh_request}
use Rattle.bow_queue.proofs.RequestLemmas.{admitted_requests, admitted_sound, sound_orderly, put_twice, same_len}
use Rattle.bow_queue.proofs.queue.Queue.admit.Goals as goal

pub returns-clause-waits : goal.returns-clause-waits
returns-clause-waits c =
    let put = c.insert_reserved-key.ensures in
    let same = same_Some _ _ (sym c.index_mut.ensures.value ∙ put.updates.changed) in
    rw same (admitted_requests _ _ _ (fresh_request (record { key = c.insert_reserved-key.result; serial = c.self.inside.admitted }) c.args.op) c.self.invariant.stored put.was_vacant (put_twice _ _ _ _ _ put.updates) _ _ _ _ _ c.self.view_is c.push.ensures.items)

pub invariant_of-self : goal.invariant_of-self
invariant_of-self c =
    let put = c.insert_reserved-key.ensures in
    let same = same_Some _ _ (sym c.index_mut.ensures.value ∙ put.updates.changed) in
    let count = same_len c.insert_reserved-key.new.self c.insert_reserved-key.result _ (fresh_request (record { key = c.insert_reserved-key.result; serial = c.self.inside.admitted }) c.args.op) put.updates.changed ∙ put.len in
    rw same (admitted_sound _ _ _ (fresh_request (record { key = c.insert_reserved-key.result; serial = c.self.inside.admitted }) c.args.op) c.self.invariant.stored put.was_vacant (put_twice _ _ _ _ _ put.updates) _ _ _ _ _ c.self.view_is c.self.invariant c.requires.spare count put.capacity refl c.push.ensures.items)

pub returns-clause-orderly : goal.returns-clause-orderly
returns-clause-orderly c = sound_orderly _ _ _ _ _ _ refl (invariant_of-self c)
