-- Over a disk that tells its content, in blocks: what memory keeps, and what the machine stands for, together.
use Rattle.bow_units.specs.declared.sizes.Geometry.{Geometry}
use Rattle.bow_chain.specs.Contents.{Contents}
use Rattle.bow_guard.specs.Cuts.{Candidates}
use Rattle.bow_machine.specs.Memory.{Memory}
use Rattle.bow_machine.specs.Calls.{Reply, DoesIt}
use Rattle.bow_machine.specs.Tasks.{Turn, task_of}
use Rattle.bow_machine.specs.Steps.{call_of}
use Rattle.bow_machine.specs.MemoryIsSound.{MemoryIsSound}
use Rattle.bow_machine.specs.Standing.{HasBlocks}
use Rattle.bow_machine.specs.MemoryLaws.{CanHaveIt}

-- Each reply of such a disk is one that the call can have, and after it the disk is such a one.
abbrev pub BlocksReply : Type 0
BlocksReply = (g : Geometry) (m : Memory) (turn : Turn) (reply : Reply) (now new_now : Contents)
    (may new_may : Candidates) → MemoryIsSound g m → HasBlocks g now
    → DoesIt g (call_of g m (task_of g m turn)) reply now may new_now new_may
    → CanHaveIt g (call_of g m (task_of g m turn)) reply × HasBlocks g new_now
