-- A queue with its depth, and the invariant of its counts. (GASPI: one-sided communication)
use Rattle.std.specs.Prelude.{◌≡◌, ℕ, zero, suc, ◌≤◌, List, [], ◌∷◌, length, map, Option, None}
use Rattle.std.specs.List.{All}
use Rattle.gaspi_types.specs.Lanes.{is_posted, is_failed}
use Rattle.gaspi_types.specs.declared.entries.Entry.{Entry}
use Rattle.gaspi_types.specs.declared.entries.Queue.{Queue}
use Rattle.post_queue.specs.LaneStates.{LaneValue}
use Rattle.post_queue.specs.Nonempty.{IsNonempty}
use Rattle.post_queue.specs.QueueCounts.{AreQueueCounts, counted, total}
use Rattle.post_queue.specs.declared.queue_counts.QueueCounts.{QueueCounts}

-- a queue with its depth, the most that its open count may be
pub record QueueState : Type 0 where
  pub depth : ℕ
  pub queue : Queue

abbrev pub entries_of : LaneValue → List Entry
entries_of lane = lane.entries

-- the queue of these lanes
abbrev pub queue_of : ℕ → Option ℕ → List LaneValue → Queue
queue_of open_count broken lanes = record { open_count = open_count; broken = broken; lanes = map entries_of lanes }

-- a queue with this depth
abbrev pub state_of : ℕ → Queue → QueueState
state_of depth q = record { depth = depth; queue = q }

-- The invariant: the posted entries are within the open count, that is within the depth, only a broken queue has a failed entry, and
-- the counts are right.
pub record IsCounted (depth : ℕ) (q : Queue) (t : QueueCounts) : Type 0 where
  pub deep : depth ≤ 256
  pub few : length q.lanes ≤ 16
  pub short : All (λ (lane : List Entry). length lane ≤ 512) q.lanes
  pub posted : total (counted is_posted) q.lanes ≤ q.open_count
  pub within : q.open_count ≤ depth
  pub whole : q.broken ≡ None → total (counted is_failed) q.lanes ≡ 0
  pub tally : AreQueueCounts t (λ (f : Entry → ℕ). total f q.lanes)

-- each lane has rings of the queue's depth, and the counts are right
pub record IsQueue (depth open_count : ℕ) (broken : Option ℕ) (lanes : List LaneValue) (t : QueueCounts) : Type 0 where
  pub rooms : All (λ (lane : LaneValue). lane.depth ≡ depth) lanes
  pub counts : IsCounted depth (queue_of open_count broken lanes) t

-- the same, and `targets` has just the targets of its nonempty lanes
pub record IsMarked (depth open_count : ℕ) (broken : Option ℕ) (lanes : List LaneValue) (t : QueueCounts) (targets : ℕ) : Type 0 where
  pub queue : IsQueue depth open_count broken lanes t
  pub nonempty : IsNonempty targets lanes

-- a lane without its entries, and a list whose first lanes are so
abbrev pub cleared : LaneValue → LaneValue
cleared lane = record { depth = lane.depth; entries = [] }

abbrev pub cleared_prefix : ℕ → List LaneValue → List LaneValue
cleared_prefix zero lanes = lanes
cleared_prefix (suc n) [] = []
cleared_prefix (suc n) (x ∷ lanes) = cleared x ∷ cleared_prefix n lanes
