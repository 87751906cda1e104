-- The requests of a script, lane by lane, for a device of a block size.
use Rattle.std.specs.Prelude.{ℕ, zero, suc, ◌+◌, ◌-◌, ◌*◌, max, nat_le, nat_lt, if◌then◌else◌, List, [], ◌∷◌, ◌++◌, length}
use Rattle.std.specs.Prelude.{replicate, slice_get, slice_index_or, Option}
use Rattle.std.specs.Option.{option_map}
use Rattle.bow_units.specs.declared.sizes.Geometry.{Geometry}
use Rattle.bow_units.specs.declared.requests.Op.{Op}
use Rattle.bow_units.specs.declared.requests.Op.TheVariants as ops
use Rattle.bow_units.specs.Pattern.{pattern}
use Rattle.bow_script.specs.declared.scripts.Line.{Line}
use Rattle.bow_script.specs.declared.scripts.Line.TheVariants as lines
use Rattle.bow_history.specs.Journal.{Plan}

-- the patterns of so many blocks from first on, one after the other
abbrev pub patterns : ℕ → ℕ → ℕ → ℕ → List ℕ
patterns size first zero seed = []
patterns size first (suc count) seed = pattern first seed size ++ patterns size (suc first) count seed

-- what a `write` line writes: patterns, or zeros where no device has all its blocks
abbrev pub written : ℕ → ℕ → ℕ → ℕ → List ℕ
written size first count seed = if nat_le (first + count) 1048576 then patterns size first count seed
    else replicate (count * size) 0

-- the request of a line; the buffer of a read is apart from it
abbrev pub request_of : ℕ → Line → Op
request_of size (lines.Write first count seed) =
    ops.Write (record { first = first; count = count }) (written size first count seed)
request_of size (lines.WriteHex first bytes) =
    ops.Write (record { first = first; count = 1 }) (bytes ++ replicate (size - length bytes) 0)
request_of size (lines.Read first count) = ops.Read (record { first = first; count = count }) []
request_of size (lines.Discard first count) = ops.Discard (record { first = first; count = count })
request_of size lines.Flush = ops.Flush
request_of size lines.Prepare = ops.Prepare
request_of size lines.Commit = ops.Commit

-- the lines of a lane in one section
abbrev pub section_lines : List (List Line) → ℕ → List Line
section_lines section lane = slice_index_or section lane []

-- the lines of a lane through all sections
abbrev pub lane_lines : List (List (List Line)) → ℕ → List Line
lane_lines [] lane = []
lane_lines (section ∷ sections) lane = section_lines section lane ++ lane_lines sections lane

-- request n of a lane
abbrev pub requests : ℕ → List (List (List Line)) → ℕ → ℕ → Option Op
requests size script lane n = option_map (request_of size) (slice_get (lane_lines script lane) n)

-- the section in which request n of a lane stands; behind its last one, the number of sections
abbrev pub section_of : List (List (List Line)) → ℕ → ℕ → ℕ
section_of [] lane n = 0
section_of (section ∷ sections) lane n =
    if nat_lt n (length (section_lines section lane)) then 0
    else suc (section_of sections lane (n - length (section_lines section lane)))

-- the largest number of lanes in a section
abbrev pub lanes_of : List (List (List Line)) → ℕ
lanes_of [] = 0
lanes_of (section ∷ sections) = max (length section) (lanes_of sections)

-- what a script asks of a device of these sizes
abbrev pub plan_of : Geometry → List (List (List Line)) → Plan
plan_of g script = record {
  sizes = g;
  lanes = lanes_of script;
  request = requests g.block_size script;
  section = section_of script;
}

-- how many requests a lane has
abbrev pub requests_in : List (List (List Line)) → ℕ → ℕ
requests_in script lane = length (lane_lines script lane)
