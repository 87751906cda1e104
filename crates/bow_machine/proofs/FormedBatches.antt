-- A batch is formed for the head, and its first act is made.
use Rattle.std.proofs.Common.{ℕ, ◌+◌, ◌≡◌, ◌==◌, true, not, List, [], ◌∷◌, length, arith, refl, ◌∙◌}
use Rattle.std.proofs.lemmas.Bool.{cond_both, not-false, eqb-true, eqb-false}
use Rattle.bow_units.specs.declared.sizes.Geometry.{Geometry}
use Rattle.bow_units.specs.declared.sizes.Extent.{Extent}
use Rattle.bow_units.specs.declared.statuses.Kind.TheVariants.{Backup}
use Rattle.bow_flat.specs.Flat.{Flat}
use Rattle.bow_log.specs.Generations.{Generation, room}
use Rattle.bow_chain.specs.Contents.{Contents}
use Rattle.bow_copy.specs.declared.jobs.Job.{Job}
use Rattle.bow_copy.specs.declared.jobs.Job.TheVariants.{Rewrite, Link, Move}
use Rattle.bow_guard.specs.Cuts.{Candidates}
use Rattle.bow_ranges.specs.Kinds.{kind_at, with_kind}
use Rattle.bow_ranges.specs.Picks.{IsPicked}
use Rattle.bow_machine.specs.Requests.{Request}
use Rattle.bow_machine.specs.Memory.{Memory, Empty, Batching, picks, is_kind_current}
use Rattle.bow_machine.specs.Calls.{Reply}
use Rattle.bow_machine.specs.Tasks.{Task, Acts, batch_for, with_batch, copied_from, copy_onto, spelling, formed}
use Rattle.bow_machine.proofs.Held.{JobHeld, IsHeld}
use Rattle.bow_machine.proofs.BatchStands.{working, Working, to_standing, rehanded, took}
use Rattle.bow_machine.proofs.BatchSteps.{batching, at_work, reserves, held_before}
use Rattle.bow_machine.proofs.Batches.{batch_keeps}
pub use Rattle.bow_machine.proofs.FormedJobs.{kept_kinds, is_one, alike_most, alike_some}
use Rattle.bow_machine.proofs.FormedJobs.{one_picked, move_ready, link_ready, next_source, copied_some, copy_ready}
use Rattle.bow_machine.proofs.FormedHeads.{IsHead, for_head, IsFreeRun, free_run, not_picked, kept_not_free, TaskKeeps, on_picked_keeps}

module _ (g : Geometry) (m : Memory) (log : Generation) (f : Flat) (now : Contents) (may : Candidates) (r : Request)
    (e : Extent) (p : List ℕ) (head : IsHead g m r e p) (w : Working g m Empty log now may f) where
  -- a job for which picked blocks are taken, and what is in hand then
  took_for : (job : Job) (slots : List (List ℕ)) (d : Extent) → IsFreeRun g m.kinds d → picks job ≡ d
      → JobHeld g (at_work (record m { kinds = with_kind m.kinds d Backup }) job 0 slots r.ticket log) log job 0 slots now may
      → IsHeld g (working (record m { kinds = with_kind m.kinds d Backup }) (Batching (batch_for r job slots)) log) now may f
  took_for job slots d run is held =
      let n : Memory = record m { kinds = with_kind m.kinds d Backup } in
      to_standing g n (batching job 0 slots r.ticket) log now may f
      (took g m log f (batching job 0 slots r.ticket) now may d (reserves job 0 slots r.ticket (omega arith) ∙ is) run.inside run.free w)
      (held_before g n job slots r.ticket log 0 now may (omega arith) (for_head g m log (batching job 0 slots r.ticket) (with_kind m.kinds d Backup) r e p head (not_picked g m.kinds d (e.first + r.done) w.memory.table.size run (kept_not_free _ head.kept_back))) held)

  move_formed : m.clean ≡ true → is_kind_current (kind_at m.kinds (e.first + r.done)) ≡ true → (d : Extent) → IsPicked m.kinds 1 d
      → IsHeld g (working (record m { kinds = with_kind m.kinds d Backup }) (Batching (batch_for r (Move (e.first + r.done) d.first) [])) log) now may f
  move_formed clean is d picked =
      let run = free_run g m.kinds 1 d w.memory.table.size picked in
      took_for (Move (e.first + r.done) d.first) [] d run (one_picked g m log r e p head w.memory.table w.kept.sound d picked)
      (record { ready = move_ready g m log r e p head w.memory.table w.kept.sound is d run; read = λ one. absurd (omega arith); wrote = λ two. absurd (omega arith); durable = λ three. absurd (omega arith) }, clean)

  link_formed : m.clean ≡ true → length log.entries ≡ room g.block_size → (d : Extent) → IsPicked m.kinds 1 d
      → IsHeld g (working (record m { kinds = with_kind m.kinds d Backup }) (Batching (batch_for r (Link d.first) (spelling g log ∷ []))) log) now may f
  link_formed clean full d picked =
      let run = free_run g m.kinds 1 d w.memory.table.size picked in
      took_for (Link d.first) (spelling g log ∷ []) d run (one_picked g m log r e p head w.memory.table w.kept.sound d picked)
      (record { ready = link_ready g m log r e p head w.memory.table w.kept.sound full d run; wrote = λ one. absurd (omega arith); durable = λ two. absurd (omega arith) }, clean)

  abbrev copied : Extent
  copied = copied_from (working m Empty log) r e

  copy_formed : m.clean ≡ true → (length log.entries ≡ room g.block_size → ⊥) → (d : Extent)
      → IsPicked m.kinds copied.count d
      → IsHeld g (working (record m { kinds = with_kind m.kinds d Backup }) (Batching (batch_for r (copy_onto copied d) [])) log) now may f
  copy_formed clean not_full d picked =
      took_for (copy_onto copied d) [] d (free_run g m.kinds copied.count d w.memory.table.size picked) refl
      (record { ready = copy_ready g m log r e p head w.memory.table w.kept.sound not_full d picked; read = λ j below. absurd (omega arith); wrote = λ j below late. absurd (omega arith); durable = λ late. absurd (omega arith) }, clean)

  module _ (new_now : Contents) (new_may : Candidates) (reply : Reply) where
    rewrite_formed : TaskKeeps g m log f now new_now may new_may reply (Acts (with_batch (working m Empty log) (batch_for r Rewrite [])))
    rewrite_formed does =
        batch_keeps g m log f now new_now may new_may reply (batch_for r Rewrite [])
        (to_standing g m (batching Rewrite 0 [] r.ticket) log now may f (rehanded g m log f Empty (batching Rewrite 0 [] r.ticket) now may refl w)
        (held_before g m Rewrite [] r.ticket log 0 now may (omega arith) (for_head g m log (batching Rewrite 0 [] r.ticket) m.kinds r e p head refl) tt)) does

    -- The batch that is formed for the head, or the answer that there is no space for it.
    pub formed_keeps : TaskKeeps g m log f now new_now may new_may reply (formed g (working m Empty log) r e log)
    formed_keeps =
        cond_both (not m.clean) _ _ Good (λ dirty. rewrite_formed)
        (λ is. let clean : m.clean ≡ true = not-false m.clean is in
        cond_both (is_kind_current (kind_at m.kinds (e.first + r.done))) _ _ Good
        (λ current. on_picked_keeps g m log f now new_now may new_may reply r (λ to. batch_for r (Move (e.first + r.done) to.first) []) 1 (omega arith) w (move_formed clean current))
        (λ other. cond_both (length log.entries == room g.block_size) _ _ Good
        (λ full. on_picked_keeps g m log f now new_now may new_may reply r (λ dest. batch_for r (Link dest.first) (spelling g log ∷ [])) 1 (omega arith) w (link_formed clean (eqb-true _ _ full)))
        (λ not_full. on_picked_keeps g m log f now new_now may new_may reply r (λ dest. batch_for r (copy_onto copied dest) []) copied.count (copied_some g m log r e p head w.memory.table w.kept.sound (next_source g m log r e p head w.memory.table w.kept.sound clean other)) w (copy_formed clean (eqb-false _ _ not_full)))))
      where
        Good : Task → Type 0
        Good task = TaskKeeps g m log f now new_now may new_may reply task
