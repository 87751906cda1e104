-- Each act of a commit, done or failed, keeps what the machine stands for.
use Rattle.std.proofs.Common.{◌≡◌, Bool, true, false, [], ◌∷◌, refl, sym, ap, ◌∙◌, subst}
use Rattle.bow_units.specs.declared.requests.Op.TheVariants.{Commit}
use Rattle.bow_units.specs.declared.sizes.Geometry.{Geometry}
use Rattle.bow_units.specs.declared.requests.Outcome.TheVariants as outcomes
use Rattle.bow_units.specs.declared.requests.Phase.TheVariants.{Deciding}
use Rattle.bow_chain.specs.Contents.{Contents}
use Rattle.bow_flat.specs.Flat.{Flat, after}
use Rattle.bow_flat.specs.Flat.Event.{Flushes, Decides, Commits}
use Rattle.bow_guard.specs.Cuts.{Candidates, IsFlushed}
use Rattle.bow_queue.specs.declared.tickets.Ticket.{Ticket}
use Rattle.bow_machine.specs.MemoryIsSound.{IsForCommand}
use Rattle.bow_machine.specs.Requests.{request_of}
use Rattle.bow_machine.specs.Memory.{Memory, Hand, Empty, Committing, CommitAct, FlushesAll, ReadsCurrent, WritesBlock0, FlushesDecision, reserved}
use Rattle.bow_machine.specs.Calls.{Reply, Failed, Succeeded, Gave, Does}
use Rattle.bow_machine.specs.Steps.{answered_for, call_of_commit, commit_step, deciding_events, released}
use Rattle.bow_machine.specs.MemoryIsSound.{FoundIn}
use Rattle.bow_machine.proofs.Held.{CommitHeld, HandHeld, IsHeld}
use Rattle.bow_machine.proofs.Hands.{emptied, rehanded, same_disk, Keeps, goes_on, ends}
use Rattle.bow_machine.proofs.Committed.{checkpoint_flushed, deciding_all_flushed, decided, decided_again, same_place, released_stands, released_again}

-- no act but the deciding write decides
at_flush : (again : Bool) → deciding_events again FlushesAll ≡ []
at_flush false = refl
at_flush true = refl

at_read : (again : Bool) → deciding_events again ReadsCurrent ≡ []
at_read false = refl
at_read true = refl

at_end : (again : Bool) → deciding_events again FlushesDecision ≡ []
at_end false = refl
at_end true = refl

module _ (g : Geometry) (m : Memory) (now new_now : Contents) (may new_may : Candidates) (f : Flat) (t : Ticket) (waits : IsForCommand m.requests t Commit) (e : IsHeld g (emptied m) now may f) where
  -- an act that failed and decided nothing
  failed : (again : Bool) (act : CommitAct) → deciding_events again act ≡ [] → IsHeld g (emptied m) new_now new_may f
      → Keeps g new_now new_may f (answered_for (emptied m) (request_of t m.requests) (λ r. outcomes.DiskFault 0) (λ r. deciding_events again act))
  failed again act none k = subst (λ es. Keeps g new_now new_may f (answered_for (emptied m) (request_of t m.requests) (λ r. outcomes.DiskFault 0) (λ r. es))) (sym none) (ends g m new_now new_may f t (λ r. outcomes.DiskFault 0) [] waits tt k)

  -- the next act
  next : (again : Bool) (act : CommitAct) → CommitHeld g (record m { hand = Committing t again act }) again act new_now new_may → IsHeld g (emptied m) new_now new_may f → IsHeld g (record m { hand = Committing t again act }) new_now new_may f
  next again act held k = rehanded g new_now new_may f (emptied m) (Committing t again act) refl (held, waits) k

  found : (again : Bool) (hand : Hand) → FoundIn m again → FoundIn (record m { hand = hand }) again
  found false hand is = is
  found true hand is = is

  all_flushed : (again : Bool) → FoundIn m again → IsFlushed g now new_may → IsHeld g (emptied m) now new_may f
  all_flushed false is all = checkpoint_flushed g m now may f e new_may is all
  all_flushed true is all = deciding_all_flushed g m now may f e new_may is all

  acts : (again : Bool) (act : CommitAct) (reply : Reply) → CommitHeld g m again act now may → Does g (call_of_commit m act) reply now may new_now new_may → Keeps g new_now new_may f (commit_step m t again act reply)
  acts again FlushesAll Failed p does = failed again FlushesAll (at_flush again) (same_disk g (emptied m) f now new_now may new_may does.0 does.1 e)
  acts again FlushesAll Succeeded p does = subst (λ i. Keeps g i new_may f (commit_step m t again FlushesAll Succeeded)) (sym does.0)
      (goes_on g (record m { hand = Committing t again ReadsCurrent }) now new_may f (deciding_events again FlushesAll) (at_flush again) (rehanded g now new_may f (emptied m) (Committing t again ReadsCurrent) refl ((found again (Committing t again ReadsCurrent) p, does.1), waits) (all_flushed again p does.1)))
  acts again FlushesAll (Gave v) p does = absurd does
  acts again ReadsCurrent Failed p does = failed again ReadsCurrent (at_read again) (same_disk g (emptied m) f now new_now may new_may does.0 does.1 e)
  acts again ReadsCurrent Succeeded p does = absurd does
  acts again ReadsCurrent (Gave v) p does = subst (λ i. Keeps g i new_may f (commit_step m t again ReadsCurrent (Gave v))) (sym does.1) (subst (λ j. Keeps g now j f (commit_step m t again ReadsCurrent (Gave v))) (sym does.2)
      (goes_on g (record m { hand = Committing t again (WritesBlock0 v) }) now may f (deciding_events again ReadsCurrent) (at_read again) (rehanded g now may f (emptied m) (Committing t again (WritesBlock0 v)) refl ((found again (Committing t again (WritesBlock0 v)) p.0, p.1, does.0), waits) e)))
  acts false (WritesBlock0 content) Failed p does = ends g (record m { phase = Deciding }) new_now new_may f t (λ r. outcomes.DiskFault 0) (Decides ∷ []) waits (e.phases ∙ p.0, tt) (decided g m now new_now may new_may f content e p.2 does p.0 p.1)
  acts false (WritesBlock0 content) Succeeded p does = (
    (e.phases ∙ p.0, tt),
    rehanded g new_now new_may (after g.blocks Decides f) (record m { phase = Deciding; hand = Empty }) (Committing t false FlushesDecision) refl ((refl, does.1 ∙ p.2 ∙ sym (same_place g m now new_now may new_may f content e p.2 does.0 false p.0)), waits)
        (decided g m now new_now may new_may f content e p.2 does.0 p.0 p.1),
  )
  acts true (WritesBlock0 content) Failed p does = ends g (record m { phase = Deciding }) new_now new_may f t (λ r. outcomes.DiskFault 0) [] waits tt (decided_again g m now new_now may new_may f content e p.2 does p.0)
  acts true (WritesBlock0 content) Succeeded p does = (
    tt,
    rehanded g new_now new_may f (record m { phase = Deciding; hand = Empty }) (Committing t true FlushesDecision) refl ((refl, does.1 ∙ p.2 ∙ sym (same_place g m now new_now may new_may f content e p.2 does.0 true p.0)), waits)
        (decided_again g m now new_now may new_may f content e p.2 does.0 p.0),
  )
  acts again (WritesBlock0 content) (Gave v) p does = absurd does
  acts again FlushesDecision Failed p does = failed again FlushesDecision (at_end again) (same_disk g (emptied m) f now new_now may new_may does.0 does.1 e)
  acts false FlushesDecision Succeeded p does = subst (λ i. Keeps g i new_may f (commit_step m t false FlushesDecision Succeeded)) (sym does.0)
      (ends g (released m) now new_may f t (λ r. outcomes.Done) (Commits ∷ []) waits (e.phases ∙ p.0, tt) (released_stands g m now may new_may f e p.0 p.1 does.1))
  acts true FlushesDecision Succeeded p does = subst (λ i. Keeps g i new_may f (commit_step m t true FlushesDecision Succeeded)) (sym does.0)
      (ends g (released m) now new_may f t (λ r. outcomes.Done) (Flushes ∷ Commits ∷ []) waits (tt, (e.phases ∙ p.0, tt)) (released_again g m now may new_may f e p.0 p.1 does.1))
  acts again FlushesDecision (Gave v) p does = absurd does

-- a commit that is in hand
pub commit_keeps : (g : Geometry) (m : Memory) (now new_now : Contents) (may new_may : Candidates) (f : Flat) (t : Ticket) (again : Bool) (act : CommitAct) (reply : Reply) → m.hand ≡ Committing t again act → IsHeld g m now may f
    → Does g (call_of_commit m act) reply now may new_now new_may → Keeps g new_now new_may f (commit_step m t again act reply)
commit_keeps g m now new_now may new_may f t again act reply hand k does =
    let held = subst (λ h. HandHeld g m h now may m.log) hand k.in_hand in
    acts g m now new_now may new_may f t held.1 (rehanded g now may f m Empty (sym (ap reserved hand)) tt k) again act reply held.0 does
