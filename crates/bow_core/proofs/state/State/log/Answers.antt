use Rattle.std.proofs.Common.{ap, ◌∙◌}
use Rattle.std.specs.Option.{option_map}
use Rattle.bow_log.specs.Generations.{fields_of}
use Rattle.bow_core.specs.Held.{Held}
use Rattle.bow_core.proofs.Armed.{fields_again}
use Rattle.bow_core.proofs.state.State.log.Goals as goal

pub returns : goal.returns
returns g c = c.as_ref.ensures.value ∙ fields_again c.self.inside.geometry c.self.inside.log c.self.invariant.log ∙ ap (λ (h : Held). option_map (fields_of h.geometry) h.memory.log) c.self.view_is
