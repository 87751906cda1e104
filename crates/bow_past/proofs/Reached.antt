-- The logs behind the log in memory are those by which the device keeps the checkpoint.
use Rattle.std.proofs.Common.{inr, ℕ, ◌<◌, ◌≡◌, true, List, ◌∷◌, sym, ap, ◌∙◌, subst}
use Rattle.bow_units.specs.declared.sizes.Geometry.{Geometry}
use Rattle.bow_units.specs.declared.requests.Phase.TheVariants.{Checkpoint}
use Rattle.bow_log.specs.Generations.{Generation}
use Rattle.bow_chain.specs.Contents.{Contents}
use Rattle.bow_chain.specs.Places.{pass, base}
use Rattle.bow_chain.specs.Sound.{IsSound, StandsBehind, log_in}
use Rattle.bow_chain.proofs.Counting.{same_chain}
use Rattle.bow_flat.specs.Flat.{Flat}
use Rattle.bow_guard.specs.Cuts.{Candidates}
use Rattle.bow_guard.specs.Device.{Device, Steady}
use Rattle.bow_guard.specs.Guard.{KeptBehind, Guarded}
use Rattle.bow_guard.proofs.Kept.{same_keeps}
use Rattle.bow_machine.specs.Memory.{Memory}
use Rattle.bow_machine.specs.Tasks.{spelling}
use Rattle.bow_machine.proofs.Held.{device_of, IsKept}
use Rattle.bow_machine.proofs.Joined.{held}
use Rattle.bow_machine.proofs.Consequences.{standing_in, block_there, block_other}
use Rattle.bow_guard.proofs.Device.{steady_safe, not_0}
use Rattle.bow_machine.proofs.Spelled.{spelled}
use Rattle.bow_past.specs.Reach.{live, IsInCheckpoint, LiveIsSound, ReachesTheCheckpoint}

module _ (g : Geometry) (m : Memory) (now : Contents) (may : Candidates) (f : Flat) (log : Generation) (older : List Generation)
    (i : IsInCheckpoint g m now may f log older) (k : IsKept g m now may f Checkpoint log) where
  abbrev d : Device
  d = device_of m log k.older k.clean_log k.clean_older now may

  guarded : Guarded g f.used f.saved d
  guarded = k.leaves

  same : k.older ≡ older
  same = same_chain g now (pass log.entries) k.older older (sym guarded.log.behind.sequence ∙ i.behind.sequence) guarded.log.behind.chain i.behind.chain

  reached : (x : ℕ) → x < g.blocks → f.used x ≡ true → now (base (log ∷ older) x) ≡ f.saved x
  reached x on used = subst (λ o. now (base (log ∷ o) x) ≡ f.saved x) same (guarded.log.kept x on (inr used))

  sound : IsSound g (live g now log) log older
  sound =
      let kept : KeptBehind g (Steady g d) f.used f.saved (live g now log) log k.older = same_keeps g f.used f.saved (Steady g d) (Steady g d) now (live g now log) log k.older (λ x p. p)
      (λ x p. block_other now 0 (spelling g log) x (not_0 g d x guarded.zeroth (steady_safe g d x p))) guarded.log in
      record {
        spelled = ap (log_in g) (block_there now 0 (spelling g log)) ∙ spelled g log i.stands.sound.sizes guarded.log.behind.valid k.sound.fits;
        behind = subst (StandsBehind g (live g now log) log) same kept.behind;
      }

kept_in : (g : Geometry) (m : Memory) (now : Contents) (may : Candidates) (f : Flat) (log : Generation) (older : List Generation) → IsInCheckpoint g m now may f log older → IsKept g m now may f Checkpoint log
kept_in g m now may f log older i = standing_in g m now may f log Checkpoint i.phase i.some (held g m now may f i.stands)

pub is_sound : LiveIsSound
is_sound g m now may f log older i = sound g m now may f log older i (kept_in g m now may f log older i)

pub reaches : ReachesTheCheckpoint
reaches g m now may f log older i = reached g m now may f log older i (kept_in g m now may f log older i)
