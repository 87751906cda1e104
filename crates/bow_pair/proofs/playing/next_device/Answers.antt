use Rattle.std.proofs.Common.{inl, inr, refl, arith}
use Rattle.std.proofs.lemmas.Option.{slice_get_within}
use Rattle.std.proofs.lemmas.Bool.{cases_lt}
use Rattle.bow_pair.proofs.playing.next_device.Goals as goal

pub returns-in_err-first_unfinished-clause-none : goal.returns-in_err-first_unfinished-clause-none
returns-in_err-first_unfinished-clause-none g c none k s at = c.in_err-first_unfinished.ensures.none refl k s (omega arith) (slice_get_within c.args.sessions.now k s at) at

pub returns-in-None-clause-none : goal.returns-in-None-clause-none
returns-in-None-clause-none g c none k s at = elim (cases_lt k c.draw-first.result) [
  | inl below ↦ c.first_unfinished-in-None.ensures.none none k s (omega arith) below at
  | inr above ↦ c.in-None.ensures.none refl k s above (slice_get_within c.args.sessions.now k s at) at
]
