-- A queue of a rank: a lane to each rank, and the open count. (GASPI: one-sided communication)
use Rattle.std.specs.Prelude.{ℕ, ◌+◌, List, ◌++◌, length, sum_by, position, Option}
use Rattle.std.specs.List.{list_any}
use Rattle.gaspi_types.specs.Lanes.{lane_owed, has_user}
use Rattle.gaspi_types.specs.Tables.{changed_at}
use Rattle.gaspi_types.specs.declared.entries.Entry.{Entry}
use Rattle.gaspi_types.specs.declared.entries.Queue.{Queue}

-- own choice: the owed events of a queue
abbrev pub queue_owed : Queue → ℕ
queue_owed q = sum_by lane_owed q.lanes

-- a queue with entries added to the lane to a target; its open count rises by their number
abbrev pub with_entries : ℕ → List Entry → Queue → Queue
with_entries target entries q = record q {
  open_count = q.open_count + length entries;
  lanes = changed_at q.lanes target (λ lane. lane ++ entries);
}

-- the least queue with an entry that uses an own segment
abbrev pub user_of : List Queue → ℕ → Option ℕ
user_of queues seg = position (λ (q : Queue). list_any (has_user seg) q.lanes) queues
