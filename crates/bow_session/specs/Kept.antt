-- How what a session leaves is seen, and what holds of it.
use Rattle.std.specs.Prelude.{List, map}
use Rattle.bow_units.specs.declared.sizes.Geometry.{Geometry}
use Rattle.bow_units.specs.Sizes.{IsValid}
use Rattle.bow_script.specs.declared.scripts.Line.{Line}
use Rattle.bow_session.specs.declared.records.Records.{Records}
use Rattle.bow_session.specs.Desks.{AreFit}
use Rattle.bow_session.specs.Parts.{Account}
use Rattle.bow_session.specs.Requests.{plan_of, requests_in}
use Rattle.bow_session.specs.Seats.{lane_in}

-- what callers see of it
abbrev pub account_in : Geometry → List (List (List Line)) → Records → Account
account_in sizes script records = record {
  sizes = sizes;
  script = script;
  lanes = map lane_in records.seats.items;
  journal = records.journal.items;
}

-- The sizes are those of a device, and each lane fits what the script asks of it.
pub record IsWhole (sizes : Geometry) (script : List (List (List Line))) (records : Records) : Type 0 where
  pub valid : IsValid sizes
  pub seats : AreFit (plan_of sizes script) (requests_in script) records.seats.items
