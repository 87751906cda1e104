-- A decision, boots that are cut, and one that ends well.
use Rattle.std.proofs.Common.{inl, inr, true, false, Option, Some, None, sym, ap, ◌∙◌, subst}
use Rattle.bow_units.specs.declared.sizes.Geometry.{Geometry}
use Rattle.bow_disk.specs.Disk.{Content}
use Rattle.bow_chain.specs.Contents.{contents_of}
use Rattle.bow_flat.specs.Flat.{Flat}
use Rattle.bow_flat.specs.Valid.{HasCheckpoint}
use Rattle.bow_units.specs.Magics.{IsPlain}
use Rattle.bow_units.specs.Sizes.{IsValid}
use Rattle.bow_guard.specs.Cuts.{candidates_of}
use Rattle.bow_machine.specs.Memory.{Memory}
use Rattle.bow_machine.specs.Standing.{IsStanding}
use Rattle.bow_core.specs.Standing.{StandsOver}
use Rattle.bow_pair.specs.Laws.{DecisionsSettle, MembersTakePart}
use Rattle.bow_pair.specs.declared.deciding.Decided.TheVariants.{Committed, NotCommitted, Unfinished, KeeperFault}
use Rattle.bow_pair.proofs.Agreeing.{boots_settle}

-- what it stands for is that of a disk that tells its content
pub standing_of : (g : Geometry) (m : Memory) (o : Option Content) (f : Flat) → StandsOver g m o f → (c : Content) × IsStanding g m (contents_of c.now) (candidates_of c.candidates) f
standing_of g m None f s = absurd s
standing_of g m (Some c) f s = (c, s)

pub members_take_part : {D : Type 0} (content : D → Option Content) → MembersTakePart content
members_take_part content v m phase p =
    let f = p.before in
    let s = (standing_of v.geometry v.memory (content v.disk) f p.stands).1 in
    let has : HasCheckpoint f.phase = subst HasCheckpoint (sym (s.phases ∙ phase)) tt in
    let state = s.state in
    record {
      checkpoint = record {
        valid = subst (λ (g : Geometry). IsValid g) (sym p.sizes) (s.sound).sizes;
        plain = subst (λ (x : Flat). IsPlain (x.saved 0)) (sym p.state) (state.plain_saved has);
      };
      flushed = ap (λ (x : Flat). x.pending) p.state ∙ sym (ap (λ (x : Flat). x.current) p.state);
    }

pub decisions_settle : DecisionsSettle
decisions_settle Committed members sizes all fit boots i j last text left kept booted agreed cut boot =
    let s = boots_settle members sizes all fit true boots i j last text left kept booted agreed.1 cut boot in (s.0, s.1)
decisions_settle (NotCommitted device) members sizes all fit boots i j last text left kept booted agreed cut boot =
    let s = boots_settle members sizes all fit false boots i j last text left kept booted agreed.1 cut boot in (s.0, s.1)
decisions_settle (Unfinished device) members sizes all fit boots i j last text left kept booted agreed cut boot =
    let s = boots_settle members sizes all fit true boots i j last text left kept booted agreed.1 cut boot in (s.0, s.1)
decisions_settle KeeperFault members sizes all fit boots i j last text left kept booted (true, agreed) cut boot =
    let s = boots_settle members sizes all fit true boots i j last text left kept booted agreed cut boot in (inl s.0, s.1)
decisions_settle KeeperFault members sizes all fit boots i j last text left kept booted (false, agreed) cut boot =
    let s = boots_settle members sizes all fit false boots i j last text left kept booted agreed cut boot in (inr s.0, s.1)
