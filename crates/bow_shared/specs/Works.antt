-- The work of a thread.
use Rattle.std.specs.Prelude.{◌≡◌, []}
use Rattle.atomic_table.specs.Seated.{TableId}
use Rattle.bow_tags.specs.declared.view.Stance.TheVariants.{Idle}
use Rattle.bow_tags.specs.Steps.{lane_of}
use Rattle.bow_shared.specs.declared.workers.Worker.{Worker}
use Rattle.bow_shared.specs.declared.workers.Worker.TheVariants.{Lane, Server}

-- a worker that may begin, at these tags and this status cell: a lane has posted nothing, and a server holds no job
abbrev pub MayBegin : TableId → TableId → Worker → Type 0
MayBegin tags cell (Lane seat watcher lane requests) = (seat.table ≡ tags) × (watcher.cell ≡ cell)
    × ((lane_of seat.view).stance ≡ Idle) × ((lane_of seat.view).number ≡ 0)
MayBegin tags cell (Server seat jobs) = (seat.table ≡ tags) × (jobs.items ≡ [])

-- a worker that has ended: each request of a lane has its reply, and a server has answered all its jobs
abbrev pub HasEnded : TableId → Worker → Type 0
HasEnded tags (Lane seat watcher lane requests) = (seat.table ≡ tags) × ((lane_of seat.view).stance ≡ Idle)
    × ((lane_of seat.view).number ≡ requests)
HasEnded tags (Server seat jobs) = (seat.table ≡ tags) × (jobs.items ≡ [])
