use Rattle.std.proofs.Common.{◌≡◌, ◌++◌}
use Rattle.bow_tags.specs.Gathering.{Gathers, HasLanes}
use Rattle.bow_tags.proofs.closing.gather_lanes.Given as goal

abbrev pub invariant-loop-lane : goal.invariant-loop-lane
invariant-loop-lane g l = record {
  table : l.into.table_id ≡ l.initial.into.table_id;
  carried : l.into.me.1 ≡ l.initial.into.me.1;
  split : l.yielded ++ l.lane-iterator.rest.items ≡ l.fn.lanes.items;
  gathers : Gathers l.initial.into.me.0 l.yielded l.into.me.0;
  lanes : HasLanes l.yielded l.into.me.0;
  given : l.into.me.0.given ≡ l.initial.into.me.0.given;
  jobs : l.into.me.0.jobs ≡ l.initial.into.me.0.jobs;
  servers : l.into.me.0.servers ≡ l.initial.into.me.0.servers;
}
