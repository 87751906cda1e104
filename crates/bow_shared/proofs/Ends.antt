-- The end of a run, seen from its beginning.
use Rattle.std.proofs.Common.{◌≡◌, ap, subst, sym, List, Option}
use Rattle.bow_units.specs.declared.sizes.Geometry.{Geometry}
use Rattle.bow_disk.specs.Disk.{Content}
use Rattle.bow_flat.specs.Flat.{Flat}
use Rattle.bow_core.specs.Views.{View}
use Rattle.bow_history.specs.Journal.{Plan}
use Rattle.bow_script.specs.declared.scripts.Line.{Line}
use Rattle.bow_session.specs.Leads.{BeginsAt}
use Rattle.bow_session.specs.Requests.{plan_of}
use Rattle.bow_session.specs.Sessions.{Run, plan_in}

-- a device with which a journal begins does so for each session of that script and those sizes
pub begins_there : {D : Type 0} (content : D → Option Content) (old new : Run D) (first : View D) (f : Flat)
    → new.script ≡ old.script → new.core.geometry ≡ old.core.geometry → BeginsAt content (plan_in old) first f
    → BeginsAt content (plan_in new) first f
begins_there {D = D} content old new first f script sizes h =
    let same : plan_in new ≡ plan_in old = ap (λ (z : Geometry × List (List (List Line))). plan_of z.0 z.1) (λ k. (sizes k, script k)) in
    subst (λ (plan : Plan). BeginsAt content plan first f) (sym same) h
