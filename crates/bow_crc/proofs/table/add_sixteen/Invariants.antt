use Rattle.std.proofs.Common.{◌≡◌, ◌-◌}
use Rattle.bow_crc.proofs.Sixteen.{register_from}
use Rattle.bow_crc.proofs.table.add_sixteen.Given as goal

-- so many bytes from the end on have gone in
abbrev pub invariant-loop-table : goal.invariant-loop-table
invariant-loop-table l = l.register ≡ register_from l.start (16 - l.table) l.bytes
