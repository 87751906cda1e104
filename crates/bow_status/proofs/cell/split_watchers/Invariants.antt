use Rattle.std.proofs.Common.{◌≡◌, length, All}
use Rattle.crossbeam_utils.specs.Seq.{cell_view}
use Rattle.bow_status.specs.Rising.{IsFirstWatcher}
use Rattle.bow_status.proofs.cell.split_watchers.Given as goal

abbrev pub invariant-loop : goal.invariant-loop
invariant-loop l = record {
  table : l.pass.table_id ≡ l.initial.pass.table_id;
  view : cell_view l.pass ≡ cell_view l.initial.pass;
  many : length l.watchers.items ≡ l.counter;
  each : All (IsFirstWatcher l.initial.pass.table_id) l.watchers.items;
}
