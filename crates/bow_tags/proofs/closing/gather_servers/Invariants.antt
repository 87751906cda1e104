use Rattle.std.proofs.Common.{◌≡◌, [], ◌++◌}
use Rattle.bow_tags.specs.Gathering.{Gathers, CountsGiven}
use Rattle.bow_tags.proofs.closing.gather_servers.Given as goal

abbrev pub invariant-loop-server : goal.invariant-loop-server
invariant-loop-server g l = record {
  table : l.gathered.table_id ≡ l.fn.table.shared.table_id;
  split : l.yielded ++ l.server-iterator.rest.items ≡ l.fn.servers.items;
  gathers : Gathers l.fn.first.me.0 l.yielded l.gathered.me.0;
  counts : CountsGiven l.fn.first.me.0 l.yielded l.gathered.me.0;
  servers : l.gathered.me.0.servers ≡ l.fn.first.me.0.servers;
  jobs : l.gathered.me.0.jobs ≡ [];
  carried : l.gathered.me.1 ≡ [];
}
