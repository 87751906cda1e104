-- Where there is room, and where there is none.
use Rattle.std.specs.Prelude.{◌+◌, ◌≡◌}
use Rattle.bow_units.specs.declared.sizes.Geometry.{Geometry}
use Rattle.bow_units.specs.declared.statuses.Status.{Status}
use Rattle.bow_ranges.specs.Kinds.{count_of}
use Rattle.bow_machine.specs.Requests.{Request}
use Rattle.bow_machine.specs.Memory.{Memory, reserved}
use Rattle.bow_machine.specs.MemoryIsSound.{is_touched}
use Rattle.bow_machine.specs.MemoryLaws.{HasNoBlock, HasNoTwo}
use Rattle.bow_machine.specs.declared.turns.Turn.{Turn}
use Rattle.bow_machine.specs.declared.turns.Turn.TheVariants as turns

-- As many blocks were free at the prepare as are free now, together with the two that it took, one for each log
-- before the present one, the changed and saved ones, and those picked by a batch whose log was not yet written.
abbrev pub IsExactRoom : Memory → Status → Type 0
IsExactRoom m s = s.free + 2 + s.sequence + count_of is_touched m.kinds + (reserved m.hand).count ≡ m.trimmed

-- A turn finds no space for this request. The worker's: in Checkpoint, with nothing in hand and the log clean, no
-- block is free for the head. The commands': in Trim, with nothing in hand, no two blocks are free for a prepare,
-- which is the first command. A request's own never.
abbrev pub FindsNoSpace : Geometry → Memory → Turn → Request → Type 0
FindsNoSpace g m turns.Worker r = HasNoBlock g m r
FindsNoSpace g m turns.Command r = HasNoTwo m r
FindsNoSpace g m (turns.Map ticket) r = ⊥
