-- A request that is taken in keeps all for which the device stands; and what a reader beside writers leans on.
use Rattle.std.proofs.Common.{◌≡◌, ◌<◌, ◌++◌, ◌∷◌, [], length, Option, Some, None, refl, sym, subst}
use Rattle.std.specs.List.{AllByRecursion as Each}
use Rattle.bow_units.specs.declared.sizes.Geometry.{Geometry}
use Rattle.bow_disk.specs.Disk.{Content}
use Rattle.bow_chain.specs.Contents.{contents_of}
use Rattle.bow_flat.specs.Flat.{Flat}
use Rattle.bow_guard.specs.Cuts.{candidates_of}
use Rattle.bow_machine.specs.Memory.{Memory}
use Rattle.bow_machine.specs.MemoryIsSound.{IsAdmissible}
use Rattle.bow_machine.specs.Requests.{Request}
use Rattle.bow_machine.proofs.SoundPast.{readers_follow}
use Rattle.bow_machine.proofs.Whole.{admit_stands}
use Rattle.bow_core.specs.Further.{BehindOver, IsReadable, KeepsOver}
use Rattle.bow_core.specs.Standing.{StandsIn, StandsOver}
use Rattle.bow_core.specs.Views.{View}
use Rattle.bow_log.specs.Generations.{Generation}
use Rattle.bow_units.specs.declared.requests.Phase.TheVariants.{Checkpoint}
use Rattle.bow_machine.proofs.Consequences.{live_keeps}

module _ (g : Geometry) (m : Memory) (r : Request) where
  abbrev with_request : Memory
  with_request = record m { requests = m.requests ++ r ∷ [] }

  pub admitted_stands : (o : Option Content) (f : Flat) → IsAdmissible g r.op → r.done ≡ 0 → Each (λ other. other.ticket.serial < r.ticket.serial) m.requests → length m.requests < 16
      → StandsOver g m o f → StandsOver g with_request o f
  admitted_stands None f fits none below place stands = absurd stands
  admitted_stands (Some c) f fits none below place stands = admit_stands g m (contents_of c.now) (candidates_of c.candidates) f r fits none below place stands

-- what a reader leans on
pub readable : {D : Type 0} (content : D → Option Content) (v : View D) (f : Flat) (log : Generation) → StandsIn content v f → v.memory.phase ≡ Checkpoint → v.memory.log ≡ Some log → IsReadable content v log f
readable content v f log stands phase some = go (content v.disk) refl stands
  where
    go : (o : Option Content) → content v.disk ≡ o → StandsOver v.geometry v.memory o f → IsReadable content v log f
    go None is stands = absurd stands
    go (Some c) is stands =
        let older = readers_follow v.geometry v.memory (contents_of c.now) (candidates_of c.candidates) f log stands phase some in
        record {
          keeps = subst (λ o. KeepsOver v.geometry o log f) (sym is) (live_keeps v.geometry v.memory (contents_of c.now) (candidates_of c.candidates) f log stands phase some);
          older = older.0;
          behind = subst (λ o. BehindOver v.geometry o log older.0) (sym is) older.1;
        }
