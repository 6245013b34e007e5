-- The front entries of a queue, its refusals, and the queue after a call, as the machine has them. (GASPI: one-sided communication)
use Rattle.std.specs.Prelude.{ℕ, Bool, nat_lt, ◌+◌, not, nat_le, List, [], map, drop, slice_get, Option, None, Some, is_none, option_and_then, Result, Ok, if◌then◌else◌}
use Rattle.std.specs.List.{list_any}
use Rattle.gaspi_types.specs.Checks.{◌>>=◌, check, err_if_some}
use Rattle.gaspi_types.specs.Lanes.{carried_count, has_awaited}
use Rattle.gaspi_types.specs.Tables.{changed_at}
use Rattle.gaspi_types.specs.declared.entries.Entry.{Entry}
use Rattle.gaspi_types.specs.declared.entries.Phase.TheVariants.{Carried, Failed}
use Rattle.gaspi_types.specs.declared.entries.Queue.{Queue}
use Rattle.gaspi_types.specs.declared.replies.Refusal.{Refusal}
use Rattle.gaspi_types.specs.declared.replies.Refusal.TheVariants.{QueueFull, QueueBroken}
use Rattle.post_queue.specs.Places.{posted_position, first_posted, first_carried, with_phase}

-- The front entries of a lane, first in first out.

-- the first posted entry, where fewer entries are carried than the depth
abbrev pub lane_front_posted : ℕ → List Entry → Option Entry
lane_front_posted depth lane = if nat_lt (carried_count lane) depth then first_posted lane else None

-- the same of a queue, and then its first carried entry; none of a broken queue
abbrev pub front_posted_in : ℕ → ℕ → Queue → Option Entry
front_posted_in depth target q = if is_none q.broken then option_and_then (lane_front_posted depth) (slice_get q.lanes target) else None

-- the first carried entry of a lane, none of a broken queue
abbrev pub front_carried_in : ℕ → Queue → Option Entry
front_carried_in target q = if is_none q.broken then option_and_then first_carried (slice_get q.lanes target) else None

-- the head of a lane
abbrev pub lane_head : List Entry → Option Entry
lane_head lane = slice_get lane 0

-- the head of a lane of a queue
abbrev pub head_in : ℕ → Queue → Option Entry
head_in target q = option_and_then lane_head (slice_get q.lanes target)

-- What a queue is after a step.

-- with one lane changed
abbrev pub in_lane : ℕ → (List Entry → List Entry) → Queue → Queue
in_lane target change q = record q { lanes = changed_at q.lanes target change }

-- the first posted entry of a lane is carried, with these bytes
abbrev pub carried_in : ℕ → List ℕ → Queue → Queue
carried_in target bytes q = in_lane target (λ (lane : List Entry). with_phase lane (posted_position lane) (Carried bytes)) q

-- the head of a lane is gone
abbrev pub put_done_in : ℕ → Queue → Queue
put_done_in target q = in_lane target (λ (lane : List Entry). drop 1 lane) q

-- the first posted entry of a lane, and then its head, has failed, and the queue is broken
abbrev pub posted_failed_in : ℕ → Queue → Queue
posted_failed_in target q = record (in_lane target (λ (lane : List Entry). with_phase lane (posted_position lane) Failed) q) { broken = Some target }

abbrev pub head_failed_in : ℕ → Queue → Queue
head_failed_in target q = record (in_lane target (λ (lane : List Entry). with_phase lane 0 Failed) q) { broken = Some target }

-- the open count is 0 (wait)
abbrev pub closed_queue : Queue → Queue
closed_queue q = record q { open_count = 0 }

abbrev pub no_entries : List Entry → List Entry
no_entries lane = []

-- the queue with no entry, open count 0, and unbroken (queue_purge)
abbrev pub purged_queue : Queue → Queue
purged_queue q = record { open_count = 0; broken = None; lanes = map no_entries q.lanes }

-- The refusals of calls on a queue.

-- of a post: the queue is not broken, and its open count stays within the depth
abbrev pub depth_checks : ℕ → ℕ → Queue → Result (Unit {0}) Refusal
depth_checks depth need q = do
  whole ← err_if_some q.broken QueueBroken
  check (nat_le (q.open_count + need) depth) (QueueFull q.open_count need)

-- of a wait: the queue is not broken; and whether it has no awaited entry
abbrev pub wait_in : Queue → Result Bool Refusal
wait_in q = do
  whole ← err_if_some q.broken QueueBroken
  Ok (not (list_any has_awaited q.lanes))
