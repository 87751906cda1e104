-- Each act of a prepare, done or failed, keeps what the machine stands for.
use Rattle.std.proofs.Common.{ℕ, ◌<◌, ◌≡◌, true, List, [], ◌∷◌, arith, refl, sym, ap, ◌∙◌, subst}
use Rattle.bow_units.specs.declared.requests.Op.TheVariants.{Prepare}
use Rattle.bow_units.specs.declared.sizes.Geometry.{Geometry}
use Rattle.bow_units.specs.declared.requests.Outcome.TheVariants as outcomes
use Rattle.bow_units.specs.declared.requests.Phase.TheVariants.{Checkpoint}
use Rattle.bow_chain.specs.Contents.{Contents}
use Rattle.bow_chain.specs.Sound.{log_in}
use Rattle.bow_flat.specs.Flat.{Flat, after}
use Rattle.bow_flat.specs.Flat.Event.{Arms, Prepares}
use Rattle.bow_guard.specs.Cuts.{Candidates}
use Rattle.bow_queue.specs.declared.tickets.Ticket.{Ticket}
use Rattle.bow_machine.specs.MemoryIsSound.{IsForCommand}
use Rattle.bow_machine.specs.Memory.{Memory, Hand, Empty, Preparing, PrepareAct, ReadsBlock0, WritesCurrent, WritesBackup, FlushesCopies, WritesFirstLog, FlushesFirstLog, reserved}
use Rattle.bow_machine.specs.Calls.{Reply, Failed, Succeeded, Gave, Does, WriteTried}
use Rattle.bow_machine.specs.Steps.{call_of_prepare, prepare_step, armed}
use Rattle.bow_machine.specs.MemoryIsSound.{PicksHeld}
use Rattle.bow_machine.proofs.Held.{PrepareHeld, HandHeld, IsHeld}
use Rattle.bow_machine.proofs.Hands.{emptied, rehanded, same_disk, Keeps, ends}
use Rattle.bow_machine.proofs.Prepared.{above_0, free_written, arms_allowed, arms_stands, first_written, first_spelled, first_flushed}

picks_handed : (g : Geometry) (m : Memory) (c b : ℕ) (hand : Hand) → PicksHeld g m c b → PicksHeld g (record m { hand = hand }) c b
picks_handed g m c b hand p = record { phase = p.phase; apart = p.apart; c_inside = p.c_inside; b_inside = p.b_inside; c_free = p.c_free; b_free = p.b_free }

module _ (g : Geometry) (m : Memory) (now new_now : Contents) (may new_may : Candidates) (f : Flat) (t : Ticket) (c b : ℕ) (waits : IsForCommand m.requests t Prepare) (e : IsHeld g (emptied m) now may f) where
  -- an act that failed before arming, or left the disk as it was
  failed : IsHeld g (emptied m) new_now new_may f → Keeps g new_now new_may f (prepare_step now m t c b ReadsBlock0 Failed)
  failed k = ends g m new_now new_may f t (λ r. outcomes.DiskFault 0) [] waits tt k

  -- the next act
  next : (act : PrepareAct) → PrepareHeld g (record m { hand = Preparing t c b act }) c b act new_now → IsHeld g (emptied m) new_now new_may f → IsHeld g (record m { hand = Preparing t c b act }) new_now new_may f
  next act held k = rehanded g new_now new_may f (emptied m) (Preparing t c b act) refl (held, waits) k

  -- block 0 stays as it was
  kept_0 : (block : ℕ) (content : List ℕ) → 0 < block → WriteTried block content now new_now may new_may → new_now 0 ≡ now 0
  kept_0 block content above tried = tried.given.others_now 0 (λ is. omega (arith, is, above))

  acts : (act : PrepareAct) (reply : Reply) → PrepareHeld g m c b act now → Does g (call_of_prepare g m c b act) reply now may new_now new_may → Keeps g new_now new_may f (prepare_step now m t c b act reply)
  acts ReadsBlock0 Failed p does = failed (same_disk g (emptied m) f now new_now may new_may does.0 does.1 e)
  acts ReadsBlock0 Succeeded p does = absurd does
  acts ReadsBlock0 (Gave v) p does = (tt, next (WritesCurrent v) (picks_handed g m c b _ p, does.0 ∙ ap (λ (i : Contents). i 0) (sym does.1)) (same_disk g (emptied m) f now new_now may new_may does.1 does.2 e))
  acts (WritesCurrent content) Failed p does = failed (free_written g m now may f e new_now new_may c content p.0.phase p.0.c_inside p.0.c_free does)
  acts (WritesCurrent content) Succeeded p does = (
    tt,
    next (WritesBackup content) (picks_handed g m c b _ p.0, p.1 ∙ sym (kept_0 c content (above_0 g m now may f e c p.0.c_free) does.0), does.1) (free_written g m now may f e new_now new_may c content p.0.phase p.0.c_inside p.0.c_free does.0),
  )
  acts (WritesCurrent content) (Gave v) p does = absurd does
  acts (WritesBackup content) Failed p does = failed (free_written g m now may f e new_now new_may b content p.0.phase p.0.b_inside p.0.b_free does)
  acts (WritesBackup content) Succeeded p does = (
    tt,
    next (FlushesCopies content) (picks_handed g m c b _ p.0, p.1 ∙ sym (kept_0 b content (above_0 g m now may f e b p.0.b_free) does.0), does.0.given.others_now c p.0.apart ∙ p.2, does.1)
        (free_written g m now may f e new_now new_may b content p.0.phase p.0.b_inside p.0.b_free does.0),
  )
  acts (WritesBackup content) (Gave v) p does = absurd does
  acts (FlushesCopies content) Failed p does = failed (same_disk g (emptied m) f now new_now may new_may does.0 does.1 e)
  acts (FlushesCopies content) Succeeded p does = subst (λ i. Keeps g i new_may f (prepare_step now m t c b (FlushesCopies content) Succeeded)) (sym does.0) (
    (arms_allowed g m now may new_may f t c b content e p.0 p.1 p.2 p.3 does.1, tt),
    rehanded g now new_may (after g.blocks (Arms now) f) (emptied (armed m t c b content)) (Preparing t c b WritesFirstLog) refl (refl, waits) (arms_stands g m now may new_may f t c b content e p.0 p.1 p.2 p.3 does.1),
  )
  acts (FlushesCopies content) (Gave v) p does = absurd does
  acts WritesFirstLog Failed p does = failed (first_written g m now new_now may new_may f e p does)
  acts WritesFirstLog Succeeded p does = (tt, next FlushesFirstLog (p, λ log same. ap (log_in g) does.1 ∙ first_spelled g m now may f e p log same) (first_written g m now new_now may new_may f e p does.0))
  acts WritesFirstLog (Gave v) p does = absurd does
  acts FlushesFirstLog Failed p does = failed (same_disk g (emptied m) f now new_now may new_may does.0 does.1 e)
  acts FlushesFirstLog Succeeded p does = subst (λ i. Keeps g i new_may f (prepare_step now m t c b FlushesFirstLog Succeeded)) (sym does.0) (
      ends g (record m { phase = Checkpoint; clean = true }) now new_may f t (λ r. outcomes.Done) (Prepares ∷ []) waits (e.phases ∙ p.0, tt) (first_flushed g m now may new_may f e p.0 p.1 does.1))
  acts FlushesFirstLog (Gave v) p does = absurd does

-- a prepare that is in hand
pub prepare_keeps : (g : Geometry) (m : Memory) (now new_now : Contents) (may new_may : Candidates) (f : Flat) (t : Ticket) (c b : ℕ) (act : PrepareAct) (reply : Reply) → m.hand ≡ Preparing t c b act → IsHeld g m now may f
    → Does g (call_of_prepare g m c b act) reply now may new_now new_may → Keeps g new_now new_may f (prepare_step now m t c b act reply)
prepare_keeps g m now new_now may new_may f t c b act reply hand k does =
    let held = subst (λ h. HandHeld g m h now may m.log) hand k.in_hand in
    acts g m now new_now may new_may f t c b held.1 (rehanded g now may f m Empty (sym (ap reserved hand)) tt k) act reply held.0 does
