use Rattle.std.proofs.Common.{◌≤◌, ◌-◌, length, take}
use Rattle.std.specs.Io.KnownBytes.{Appends}
use Rattle.bow_tool.proofs.streams.put_all.Given as goal

abbrev pub invariant-loop-at : goal.invariant-loop-at
invariant-loop-at g l = record { within : l.at ≤ length l.bytes; bytes : Appends (g.W.Sink.contents l.fn.sink) (g.W.Sink.contents l.sink) (take l.at l.bytes); faults : g.W.Sink.faults l.fn.sink ≤ g.W.Sink.faults l.sink }

abbrev pub decreases-loop-at : goal.decreases-loop-at
decreases-loop-at g l = length l.bytes - l.at
