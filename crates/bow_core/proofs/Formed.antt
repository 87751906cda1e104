-- The batch that is formed for the head, by the first rule that applies.
use Rattle.std.proofs.Common.{ℕ, ◌+◌, ◌-◌, ◌^◌, ◌≡◌, ◌≢◌, ◌<◌, ◌≤◌, ◌==◌, min, Bool, true, false, not, cond, List, [], ◌∷◌, length, Option, Some, None, refl, sym, ap, ◌∙◌, subst, arith, inl, inr}
use Rattle.std.specs.Prelude.{unwrap_or, find}
use Rattle.std.proofs.lemmas.Bool.{cases_Bool, false≢true, eq-eqb, eqb-true}
use Rattle.bow_units.specs.declared.sizes.Geometry.{Geometry}
use Rattle.bow_units.specs.declared.sizes.Extent.{Extent}
use Rattle.bow_units.specs.declared.statuses.Kind.TheVariants.{Backup}
use Rattle.bow_units.specs.declared.requests.Op.TheVariants.{Write, Flush}
use Rattle.bow_units.specs.declared.requests.Phase.TheVariants.{Checkpoint}
use Rattle.bow_units.specs.declared.requests.Outcome.TheVariants as outcomes
use Rattle.bow_log.specs.Generations.{Generation, room}
use Rattle.bow_copy.specs.Acts.{Progress}
use Rattle.bow_copy.specs.declared.jobs.Job.{Job}
use Rattle.bow_copy.specs.declared.jobs.Job.TheVariants.{Rewrite, Link, Copy, Move}
use Rattle.bow_queue.specs.declared.tickets.Ticket.{Ticket}
use Rattle.bow_ranges.specs.Kinds.{kind_at, with_kind}
use Rattle.bow_ranges.specs.Picks.{picked}
use Rattle.bow_machine.specs.Requests.{Request, request_of}
use Rattle.bow_machine.specs.Memory.{Memory, Batch, Empty, Batching, is_kind_current, may_be_written, reserved}
use Rattle.bow_machine.specs.MemoryIsSound.{MemoryIsSound, LogIsHeld, LogIsSound}
use Rattle.bow_machine.specs.Steps.{extent_of, log_of_memory, log_or_blank}
use Rattle.bow_machine.specs.Tasks.{Task, Acts, Answers, task_of, worker_task, serve, formed, formed_for, head, batch_for, on_picked, copy_onto, alike_from, is_source, spelling, with_batch, without_picked}
use Rattle.bow_machine.specs.declared.turns.Turn.TheVariants.{Worker}
use Rattle.bow_machine.proofs.BatchStands.{working}
use Rattle.bow_machine.proofs.FormedBatches.{kept_kinds, is_one, alike_most, alike_some}
use Rattle.bow_machine.proofs.FormedHeads.{IsHead, head_is}
use Rattle.bow_machine.proofs.RequestLists.{found_ticket}
use Rattle.bow_machine.proofs.SoundLists.{own_tickets}
use Rattle.bow_machine.proofs.SoundTurns.{checkpoint_log}
use Rattle.bow_machine.proofs.Tickets.{found_own}
use Rattle.bow_machine.proofs.Workers.{memory_is}
use Rattle.bow_core.specs.Batches.{IsServed}
use Rattle.bow_core.specs.Held.{slots_of}
use Rattle.bow_queue.specs.Requests.{the_request}
use Rattle.bow_core.specs.declared.tasks.Head.{Head}

-- the request of a ticket has it
pub the_ticket : (t : Ticket) (requests : List Request) → (the_request t requests).ticket ≡ t
the_ticket t requests = go (request_of t requests) refl
  where
    go : (o : Option Request) → request_of t requests ≡ o → (unwrap_or o (record { ticket = t; op = Flush; done = 0 })).ticket ≡ t
    go None is = refl
    go (Some r) is = found_ticket t requests r is

-- what is found is the request of its ticket
pub the_found : (p : Request → Bool) (g : Geometry) (m : Memory) → MemoryIsSound g m → (t : Ticket) (r : Request) → find p m.requests ≡ Some r → t ≡ r.ticket → the_request t m.requests ≡ r
the_found p g m s t r found own = ap (λ u. the_request u m.requests) own ∙ ap (λ o. unwrap_or o (record { ticket = r.ticket; op = Flush; done = 0 })) (found_own p m.requests r (own_tickets m.requests s.rising) found)

-- and it waits
pub found_waits : (p : Request → Bool) (g : Geometry) (m : Memory) → MemoryIsSound g m → (t : Ticket) (r : Request) → find p m.requests ≡ Some r → t ≡ r.ticket → request_of t m.requests ≡ Some (the_request t m.requests)
found_waits p g m s t r found own =
    ap (λ u. request_of u m.requests) own ∙ found_own p m.requests r (own_tickets m.requests s.rising) found ∙ ap (λ q. Some q) (sym (the_found p g m s t r found own))

-- a batch as it is kept, and as the machine has it
pub batch_eq : (size : ℕ) (buffer : List ℕ) (p other : Progress) (t : Ticket) (slots : List (List ℕ)) → p ≡ other → slots_of size buffer other ≡ slots
    → let kept : Batch = record { progress = p; slots = slots_of size buffer p; ticket = t } in kept ≡ record { progress = other; slots = slots; ticket = t }
batch_eq size buffer p other t slots same are =
    ap (λ (x : Progress). let kept : Batch = record { progress = x; slots = slots_of size buffer x; ticket = t } in kept) same
    ∙ ap (λ l. let kept : Batch = record { progress = other; slots = l; ticket = t } in kept) are

-- the memory with what was picked, and a batch in hand
pub taken_view : (m now : Memory) (found : Option Extent) (e : Extent) (b other : Batch) → now ≡ record m { kinds = without_picked m.kinds found } → found ≡ Some e → b ≡ other
    → record m { kinds = with_kind m.kinds e Backup; hand = Batching other } ≡ record now { hand = Batching b }
taken_view m now found e b other is some same = sym (
    ap (λ (n : Memory). record n { hand = Batching b }) is
    ∙ ap (λ o. record m { kinds = without_picked m.kinds o; hand = Batching b }) some
    ∙ ap (λ x. record m { kinds = with_kind m.kinds e Backup; hand = Batching x }) same)

at_dirty : {A : Type 0} (clean : Bool) (a b : A) → clean ≡ false → cond (not clean) a b ≡ a
at_dirty true a b is = absurd (false≢true (sym is))
at_dirty false a b is = refl

at_clean : {A : Type 0} (clean : Bool) (a b : A) → clean ≡ true → cond (not clean) a b ≡ b
at_clean true a b is = refl
at_clean false a b is = absurd (false≢true is)

at_true : {A : Type 0} (t : Bool) (a b : A) → t ≡ true → cond t a b ≡ a
at_true true a b is = refl
at_true false a b is = absurd (false≢true is)

at_false : {A : Type 0} (t : Bool) (a b : A) → t ≡ false → cond t a b ≡ b
at_false true a b is = absurd (false≢true (sym is))
at_false false a b is = refl

module _ (g : Geometry) (m : Memory) (served : Head) (v : IsServed g m served) where
  abbrev r : Request
  r = the_request served.ticket m.requests

  abbrev pub next : ℕ
  next = served.extent.first + served.done

  the_log : (l : Generation) × (m.log ≡ Some l)
  the_log = checkpoint_log g m.kinds m.clean m.trimmed (reserved m.hand).count m.log (subst (λ p. LogIsHeld g m.kinds m.clean m.trimmed (reserved m.hand).count p m.log) v.phase v.sound.log)

  same : m ≡ working m Empty (the_log.0)
  same = memory_is m Empty (the_log.0) v.phase v.empty (the_log.1)

  pub is_head : (e : Extent) × (p : List ℕ) × IsHead g m r e p
  is_head = head_is g m (the_log.0) r (own_tickets m.requests v.sound.rising) (subst (λ (n : Memory). head g n ≡ Some r) same v.is_head)

  extent_is : (is_head.0) ≡ served.extent
  extent_is = sym (ap extent_of ((is_head.2).op)) ∙ v.extent

  pub found : IsHead g m r served.extent (is_head.1)
  found = subst (λ e. IsHead g m r e (is_head.1)) extent_is (is_head.2)

  pub next_is : served.extent.first + r.done ≡ next
  next_is = ap (λ n. served.extent.first + n) v.done

  pub inside : (served.done < served.extent.count) × (served.extent.first + served.extent.count ≤ g.blocks) × (g.blocks < 2 ^ 32)
  inside = (omega (arith, found.left, v.done), found.inside, omega (arith, v.sound.sizes.few))

  pub some_log : m.log ≡ Some (log_of_memory m)
  some_log = the_log.1 ∙ ap (λ l. Some l) (sym (ap log_or_blank (the_log.1)))

  pub sound_log : LogIsSound g m.kinds m.clean m.trimmed (reserved m.hand).count (log_of_memory m)
  sound_log = subst (λ o. LogIsHeld g m.kinds m.clean m.trimmed (reserved m.hand).count Checkpoint o) some_log (subst (λ p. LogIsHeld g m.kinds m.clean m.trimmed (reserved m.hand).count p m.log) v.phase v.sound.log)

  task_is : task_of g m Worker ≡ formed g m r served.extent (log_of_memory m)
  task_is =
      ap (λ h. worker_task g m h m.phase) v.empty ∙ ap (worker_task g m Empty) v.phase ∙ ap (serve g m) v.is_head
      ∙ ap (λ op. formed_for g m r op m.log) found.op ∙ ap (formed_for g m r (Write served.extent (is_head.1))) some_log

  -- the batch of a job, in hand
  abbrev pub in_hand : Job → List (List ℕ) → Batch
  in_hand job slots = record { progress = record { job = job; done = 0; failed = false }; slots = slots; ticket = served.ticket }

  batch_is : (job : Job) (slots : List (List ℕ)) → batch_for r job slots ≡ in_hand job slots
  batch_is job slots = ap (λ t. record { progress = record { job = job; done = 0; failed = false }; slots = slots; ticket = t }) (the_ticket served.ticket m.requests)

  pub rewrites : m.clean ≡ false → task_of g m Worker ≡ Acts (record m { hand = Batching (in_hand Rewrite []) })
  rewrites dirty = task_is ∙ at_dirty m.clean _ _ dirty ∙ ap (λ b. Acts (with_batch m b)) (batch_is Rewrite [])

  -- with what was picked
  abbrev takes : (Extent → Batch) → Option Extent → Task
  takes batch None = Answers r (outcomes.NoSpace r.done)
  takes batch (Some e) = Acts (record m { kinds = with_kind m.kinds e Backup; hand = Batching (batch e) })

  on_picked_is : (one other : Extent → Batch) → ((e : Extent) → one e ≡ other e) → (o : Option Extent) → on_picked m r one o ≡ takes other o
  on_picked_is one other each None = refl
  on_picked_is one other each (Some e) = ap (λ b. Acts (record m { kinds = with_kind m.kinds e Backup; hand = Batching b })) (each e)

  pub moves : m.clean ≡ true → is_kind_current (kind_at m.kinds next) ≡ true → (o : Option Extent) → o ≡ picked m.kinds 1
      → task_of g m Worker ≡ takes (λ to. in_hand (Move next to.first) []) o
  moves clean current o is =
      task_is ∙ at_clean m.clean _ _ clean ∙ at_true (is_kind_current (kind_at m.kinds (served.extent.first + r.done))) _ _ (ap (λ n. is_kind_current (kind_at m.kinds n)) next_is ∙ current)
      ∙ on_picked_is (λ to. batch_for r (Move (served.extent.first + r.done) to.first) []) (λ to. in_hand (Move next to.first) []) (λ to. batch_is (Move (served.extent.first + r.done) to.first) [] ∙ ap (λ n. in_hand (Move n to.first) []) next_is) (picked m.kinds 1)
      ∙ ap (takes (λ to. in_hand (Move next to.first) [])) (sym is)

  pub links : m.clean ≡ true → is_kind_current (kind_at m.kinds next) ≡ false → length (log_of_memory m).entries ≡ room g.block_size → (o : Option Extent) → o ≡ picked m.kinds 1
      → task_of g m Worker ≡ takes (λ dest. in_hand (Link dest.first) (spelling g (log_of_memory m) ∷ [])) o
  links clean other full o is =
      task_is ∙ at_clean m.clean _ _ clean ∙ at_false (is_kind_current (kind_at m.kinds (served.extent.first + r.done))) _ _ (ap (λ n. is_kind_current (kind_at m.kinds n)) next_is ∙ other)
      ∙ at_true (length (log_of_memory m).entries == room g.block_size) _ _ (eq-eqb _ _ full)
      ∙ on_picked_is (λ dest. batch_for r (Link dest.first) (spelling g (log_of_memory m) ∷ [])) (λ dest. in_hand (Link dest.first) (spelling g (log_of_memory m) ∷ [])) (λ dest. batch_is (Link dest.first) (spelling g (log_of_memory m) ∷ [])) (picked m.kinds 1)
      ∙ ap (takes (λ dest. in_hand (Link dest.first) (spelling g (log_of_memory m) ∷ []))) (sym is)

  -- how many blocks from the next one on can be copied together
  abbrev pub wanted : ℕ
  wanted = alike_from m.kinds (kind_at m.kinds next) next (min 8 (served.extent.count - served.done))

  pub copies : m.clean ≡ true → is_kind_current (kind_at m.kinds next) ≡ false → length (log_of_memory m).entries ≢ room g.block_size → (o : Option Extent) → o ≡ picked m.kinds wanted
      → task_of g m Worker ≡ takes (λ dest. in_hand (Copy next dest.first dest.count) []) o
  copies clean other not_full o is =
      task_is ∙ at_clean m.clean _ _ clean ∙ at_false (is_kind_current (kind_at m.kinds (served.extent.first + r.done))) _ _ (ap (λ n. is_kind_current (kind_at m.kinds n)) next_is ∙ other)
      ∙ at_false (length (log_of_memory m).entries == room g.block_size) _ _ unlike
      ∙ ap (λ d. on_picked m r (λ dest. batch_for r (copy_onto (from d) dest) []) (picked m.kinds (from d).count)) v.done
      ∙ on_picked_is (λ dest. batch_for r (Copy next dest.first dest.count) []) (λ dest. in_hand (Copy next dest.first dest.count) []) (λ dest. batch_is (Copy next dest.first dest.count) []) (picked m.kinds wanted)
      ∙ ap (takes (λ dest. in_hand (Copy next dest.first dest.count) [])) (sym is)
    where
      from : ℕ → Extent
      from d = record { first = served.extent.first + d; count = alike_from m.kinds (kind_at m.kinds (served.extent.first + d)) (served.extent.first + d) (min 8 (served.extent.count - d)) }

      unlike : (length (log_of_memory m).entries == room g.block_size) ≡ false
      unlike = elim (cases_Bool (length (log_of_memory m).entries == room g.block_size)) [
        | inl is ↦ absurd (not_full (eqb-true _ _ is))
        | inr not_it ↦ not_it
      ]

  -- the next block can be copied
  pub next_source : m.clean ≡ true → is_kind_current (kind_at m.kinds next) ≡ false → is_source (kind_at m.kinds next) (kind_at m.kinds next) ≡ true
  next_source clean other =
      let back = subst (λ n. may_be_written (kind_at m.kinds n) ≡ false) next_is found.kept_back in
      let on : next < g.blocks = omega (arith, inside.0, inside.1) in
      is_one (kind_at m.kinds next) (kept_kinds (kind_at m.kinds next) back (λ is. found.not_0 (next_is ∙ v.sound.table.only_0 next on is)) other (sound_log.none_saved clean next on))

  pub wanted_few : wanted ≤ 8
  wanted_few = omega (arith, alike_most m.kinds (kind_at m.kinds next) next (min 8 (served.extent.count - served.done)))

  pub wanted_some : m.clean ≡ true → is_kind_current (kind_at m.kinds next) ≡ false → 1 ≤ wanted
  wanted_some clean other = alike_some m.kinds (kind_at m.kinds next) next (min 8 (served.extent.count - served.done)) (omega (arith, inside.0)) (next_source clean other)
