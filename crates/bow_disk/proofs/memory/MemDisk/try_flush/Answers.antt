use Rattle.std.proofs.Common.{sym, ap, ◌∙◌}
use Rattle.bow_disk.specs.Memory.{failure_after}
use Rattle.bow_disk.proofs.Calls.{flushed_parts}
use Rattle.bow_disk.proofs.memory.MemDisk.try_flush.Goals as goal

pub invariant_of-self-inside-2 : goal.invariant_of-self-inside-2
invariant_of-self-inside-2 c =
    let h = c.self.inside in
    let is = c.failure_of-failure.ensures ∙ ap (λ l. failure_after l h.stop h.calls) c.deref.ensures.value in
    let none = sym c.is_some.ensures ∙ c.if-is_some.false in (
      flushed_parts h.history c.flush.new.self h.calls c.saturating_add-self-inside.result h.failing.items h.stop h.faults h.sizeless h.fit c.failure_of-failure.result is none c.saturating_add-self-inside.ensures c.flush.ensures,
      tt,
    )
