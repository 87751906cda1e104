-- Once a device has armed, what was in use and what was saved of it stay so, whatever its journal tells.
use Rattle.std.proofs.Common.{◌≡◌, ℕ, List, refl, arith}
use Rattle.bow_units.specs.declared.requests.Phase.TheVariants.{Trim}
use Rattle.bow_flat.specs.Flat.{Flat, Event, after, Allows}
use Rattle.bow_flat.specs.Flat.Event.{Writes, Fails, Reads, Discards, Flushes, Arms, Prepares, Decides, Commits, Rests}
use Rattle.bow_history.specs.declared.items.Item.{Item}
use Rattle.bow_history.specs.Journal.{Buffers, Legal, Place, Plan}
use Rattle.bow_pair.proofs.Kept.{legal_keeps}

-- from one state to another, neither of them in Trim
pub record Stays (f h : Flat) : Type 0 where
  pub begun : h.phase ≡ Trim → ⊥
  pub used : h.used ≡ f.used
  pub saved : h.saved ≡ f.saved

event_stays : (first : Flat) (n : ℕ) (event : Event) (f : Flat) → Allows n event f → Stays first f → Stays first (after n event f)
event_stays first n (Writes b v) f may s = record { begun = s.begun; used = s.used; saved = s.saved }
event_stays first n (Fails b v) f may s = record { begun = s.begun; used = s.used; saved = s.saved }
event_stays first n (Reads b v) f may s = record { begun = s.begun; used = s.used; saved = s.saved }
event_stays first n (Discards e) f may s = record { begun = s.begun; used = s.used; saved = s.saved }
event_stays first n Flushes f may s = record { begun = s.begun; used = s.used; saved = s.saved }
event_stays first n (Arms saved) f may s = absurd (s.begun may.0)
event_stays first n Prepares f may s = record { begun = λ is. grind (arith, is); used = s.used; saved = s.saved }
event_stays first n Decides f may s = record { begun = λ is. grind (arith, is); used = s.used; saved = s.saved }
event_stays first n Commits f may s = record { begun = λ is. grind (arith, is); used = s.used; saved = s.saved }
event_stays first n Rests f may s = record { begun = s.begun; used = s.used; saved = s.saved }

pub legal_stays : (plan : Plan) (buffer : Buffers) (journal : List Item) (p q : Place) → (p.flat.phase ≡ Trim → ⊥) → Legal plan buffer journal p q → Stays p.flat q.flat
legal_stays plan buffer journal p q begun legal =
    legal_keeps plan (Stays p.flat) (λ op. Unit {0}) (λ op asks event of f may s. event_stays p.flat plan.sizes.blocks event f may s) buffer (λ op. tt) journal p q (record { begun = begun; used = refl; saved = refl }) legal
