-- What callers see of what a session leaves apart from its device.
use Rattle.std.specs.Prelude.{List}
use Rattle.bow_units.specs.declared.sizes.Geometry.{Geometry}
use Rattle.bow_script.specs.declared.scripts.Line.{Line}
use Rattle.bow_history.specs.declared.items.Item.{Item}
use Rattle.bow_history.specs.Journal.{Buffers, Plan}
use Rattle.bow_session.specs.Requests.{plan_of}
use Rattle.bow_session.specs.Sessions.{Lane, Run, kept_in}

-- An account of a session: the sizes of its device, its script, its lanes, and what was done.
pub record Account : Type 0 where
  pub sizes : Geometry
  pub script : List (List (List Line))
  pub lanes : List Lane
  pub journal : List Item

-- that of a session
abbrev pub account_of : {D : Type 0} → Run D → Account
account_of v = record { sizes = v.core.geometry; script = v.script; lanes = v.lanes; journal = v.journal }

-- what its script asked of the device
abbrev pub plan_at : Account → Plan
plan_at a = plan_of a.sizes a.script

-- what is kept of its requests
abbrev pub buffers_in : Account → Buffers
buffers_in a = kept_in (plan_at a) a.lanes
