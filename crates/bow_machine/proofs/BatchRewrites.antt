-- A batch that writes the log in memory again.
use Rattle.std.proofs.Common.{ℕ, false, List, refl}
use Rattle.bow_units.specs.declared.sizes.Geometry.{Geometry}
use Rattle.bow_units.specs.declared.requests.Phase.TheVariants.{Checkpoint}
use Rattle.bow_flat.specs.Flat.{Flat}
use Rattle.bow_log.specs.Generations.{Generation}
use Rattle.bow_chain.specs.Contents.{Contents}
use Rattle.bow_copy.specs.Acts.{next_act}
use Rattle.bow_copy.specs.declared.jobs.Job.TheVariants.{Rewrite}
use Rattle.bow_guard.specs.Cuts.{Candidates}
use Rattle.bow_guard.proofs.Device.{rewritten}
use Rattle.bow_queue.specs.declared.tickets.Ticket.{Ticket}
use Rattle.bow_machine.specs.Memory.{Memory, Empty}
use Rattle.bow_machine.specs.Calls.{Reply, WriteTried, Does}
use Rattle.bow_machine.specs.Tasks.{spelling}
use Rattle.bow_machine.specs.Steps.{batch_step, call_of_act}
use Rattle.bow_machine.specs.MemoryIsSound.{ForWrite}
use Rattle.bow_machine.proofs.Held.{device_of, IsKept}
use Rattle.bow_machine.proofs.Spelled.{spelled}
use Rattle.bow_machine.proofs.BatchActs.{running}
use Rattle.bow_machine.proofs.BatchStands.{working, Working, rehanded}
use Rattle.bow_machine.proofs.SoundLogs.{rewrite_change}
use Rattle.bow_machine.proofs.Hands.{Keeps}
use Rattle.bow_machine.proofs.BatchSteps.{batch_at, batching, at_work}
use Rattle.bow_machine.proofs.BatchLogs.{log_changed, log_keeps}

module _ (g : Geometry) (m : Memory) (slots : List (List ℕ)) (t : Ticket) (log : Generation) (f : Flat)
    (now new_now : Contents) (may new_may : Candidates)
    (w : Working g m (batching Rewrite 0 slots t) log now may f) where
  k : IsKept g (working m (batching Rewrite 0 slots t) log) now may f Checkpoint log
  k = w.kept

  log_again : WriteTried 0 (spelling g log) now new_now may new_may
      → Working g (record m { clean = false }) Empty log new_now new_may f
  log_again tried =
      let empty = rehanded g m log f (batching Rewrite 0 slots t) Empty now may refl w in
      let e = empty.kept in
      let before = device_of (working m Empty log) log e.older e.clean_log e.clean_older now may in
      log_changed g m log log m.kinds Empty now new_now may new_may f (spelling g log) e.older empty tried
      (rewritten g f.used f.saved before new_now new_may (spelling g log) (spelled g log w.memory.sizes k.sound.generation k.sound.fits) tried.given e.leaves)
      w.memory.table (rewrite_change g m.kinds m.clean m.trimmed log slots w.memory.sizes w.memory.table k.sound).sound (λ b h. h) refl

  pub rewrite_keeps : (reply : Reply) → ForWrite g (at_work m Rewrite 0 slots t log) t
      → Does g (call_of_act g (at_work m Rewrite 0 slots t log) (batch_at Rewrite 0 slots t) (next_act (running Rewrite 0))) reply now may new_now new_may
      → Keeps g new_now new_may f (batch_step g (at_work m Rewrite 0 slots t log) (batch_at Rewrite 0 slots t) reply)
  rewrite_keeps reply write does =
      log_keeps g m Rewrite slots t log f now new_now may new_may reply write (λ b h. h)
      (spelled g log w.memory.sizes k.sound.generation k.sound.fits) log_again does
