use Rattle.std.proofs.Common.{◌≡◌, Some, get_or, true, ◌∙◌}
use Rattle.std.specs.Prelude.{slice_get}
use Rattle.std.proofs.lemmas.List.{length-set}
use Rattle.std.proofs.lemmas.Option.{slice_get-get_or}
use Rattle.bow_pair.specs.Playing.{GoesOn}
use Rattle.bow_pair.proofs.Sessions.{goes_then, less_in_all, made, put_one, turns_of}
use Rattle.bow_pair.proofs.playing.finish_each.Given.{Over}
use Rattle.bow_pair.proofs.playing.finish_each.Goals as goal
use Rattle.bow_pair.proofs.playing.finish_each.Goals.{After-turn-made}

module _ (g : Over) where
  was : (c : After-turn-made g) → slice_get c.loop-device.sessions c.in-Some.device ≡ Some (get_or c.loop-device.sessions c.in-Some.device c.index-sessions-device.result)
  was c = slice_get-get_or c.loop-device.sessions c.in-Some.device c.index-sessions-device.result c.in-Some.ensures.some

  turned : (c : After-turn-made g) → c.turn-made.result ≡ true
  turned c = made c.turn-made.result (λ still. c.in-Some.ensures.unfinished (get_or c.loop-device.sessions c.in-Some.device c.index-sessions-device.result) (was c) (c.turn-made.ensures.over.0 still))

pub loop-device-smaller : goal.loop-device-smaller
loop-device-smaller g c =
    let q = (goal.at.loop-device-smaller g c).After-turn-made in
    less_in_all turns_of c.loop-device.sessions c.in-Some.device c.index-sessions-device.result c.turn-made.new.self c.in-Some.ensures.some (c.turn-made.ensures.fewer (turned g q))

pub loop-device-preserved : goal.loop-device-preserved
loop-device-preserved g c =
    let D = g.D.Disk in
    let q = (goal.at.loop-device-preserved g c).After-turn-made in
    let i = c.loop-device.invariant in
    let v = get_or c.loop-device.sessions c.in-Some.device c.index-sessions-device.result in
    record {
      goes = put_one (GoesOn D.stated D.content D.moment D.left_since D.faults) (goes_then D.stated D.content D.moment D.left_since D.faults) c.args.sessions.now c.loop-device.sessions c.in-Some.device v c.turn-made.new.self c.in-Some.ensures.some (was g q)
          (record { script = ((c.turn-made.ensures.turn (turned g q)).2).script; loaded = λ first k. c.turn-made.ensures.loaded first k }) i.goes;
      many = length-set c.loop-device.sessions c.in-Some.device c.turn-made.new.self ∙ i.many;
    }

pub returns-clause-over : goal.returns-clause-over
returns-clause-over g c k s at = c.next_device.ensures.none c.in_default.is k s at
