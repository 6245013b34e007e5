-- The queues of one origin: their front entries, the refusals of calls on them, and the queues after those.
-- (GASPI: one-sided communication)
use Rattle.std.specs.Prelude.{◌≡◌, ℕ, Bool, ◌+◌, ◌≤◌, List, [], length, replicate, slice_get, Option, None, option_and_then, Result, Ok}
use Rattle.std.specs.List.{All}
use Rattle.gaspi_types.specs.Checks.{◌>>=◌, ok_or}
use Rattle.gaspi_types.specs.Lanes.{posted_entries}
use Rattle.gaspi_types.specs.Queues.{with_entries}
use Rattle.gaspi_types.specs.Tables.{changed_at}
use Rattle.gaspi_types.specs.declared.entries.Entry.{Entry}
use Rattle.gaspi_types.specs.declared.entries.Kind.{Kind}
use Rattle.gaspi_types.specs.declared.entries.Queue.{Queue}
use Rattle.gaspi_types.specs.declared.replies.Refusal.{Refusal}
use Rattle.gaspi_types.specs.declared.replies.Refusal.TheVariants.{BadQueue}
use Rattle.post_queue.specs.Nonempty.{nonempty_in}
use Rattle.post_queue.specs.QueueStates.{QueueState}
use Rattle.post_queue.specs.Steps.{front_posted_in, front_carried_in, head_in, depth_checks, wait_in}

-- the queues, the depth of each, to how many ranks each has a lane, and the number of the next entry
pub record LanesState : Type 0 where
  pub depth : ℕ
  pub ranks : ℕ
  pub next : ℕ
  pub queues : List Queue

-- a queue to which nothing was posted
abbrev pub empty_queue : ℕ → Queue
empty_queue ranks = record { open_count = 0; broken = None; lanes = replicate ranks [] }

-- `queues` queues to which nothing was posted
abbrev pub empty_queues : ℕ → ℕ → ℕ → LanesState
empty_queues queues ranks depth = record { depth = depth; ranks = ranks; next = 0; queues = replicate queues (empty_queue ranks) }

-- The front entries of a lane, first in first out; none where there is no such queue or lane.

-- the first posted entry of a lane, where its take may come
abbrev pub front_posted_of : LanesState → ℕ → ℕ → Option Entry
front_posted_of s queue target = option_and_then (front_posted_in s.depth target) (slice_get s.queues queue)

-- the first carried entry of a lane, where its put may come
abbrev pub front_carried_of : LanesState → ℕ → ℕ → Option Entry
front_carried_of s queue target = option_and_then (front_carried_in target) (slice_get s.queues queue)

-- the first entry of a lane, whatever its phase
abbrev pub head_of : LanesState → ℕ → ℕ → Option Entry
head_of s queue target = option_and_then (head_in target) (slice_get s.queues queue)

-- the least target to which a queue has a nonempty lane
abbrev pub nonempty_of : LanesState → ℕ → Option ℕ
nonempty_of s queue = option_and_then nonempty_in (slice_get s.queues queue)

-- The refusals of calls.

-- of a post of `need` entries (write, read, notify)
abbrev pub post_checks : LanesState → ℕ → ℕ → Result (Unit {0}) Refusal
post_checks s queue need = do
  q ← ok_or (slice_get s.queues queue) BadQueue
  depth_checks s.depth need q

-- (wait)
abbrev pub wait_checks : List Queue → ℕ → Result Bool Refusal
wait_checks queues queue = do
  q ← ok_or (slice_get queues queue) BadQueue
  wait_in q

-- (queue_purge)
abbrev pub purge_checks : List Queue → ℕ → Result (Unit {0}) Refusal
purge_checks queues queue = do
  q ← ok_or (slice_get queues queue) BadQueue
  Ok tt

-- (queue_size)
abbrev pub open_count_of : List Queue → ℕ → Result ℕ Refusal
open_count_of queues queue = do
  q ← ok_or (slice_get queues queue) BadQueue
  Ok q.open_count

-- The queues after a call.

-- one queue changed
abbrev pub with_queue : LanesState → ℕ → (Queue → Queue) → LanesState
with_queue s queue change = record s { queues = changed_at s.queues queue change }

-- entries at the end of a lane, with the next numbers
abbrev pub with_posted : LanesState → ℕ → ℕ → List Kind → LanesState
with_posted s queue target kinds = record s {
  next = s.next + length kinds;
  queues = changed_at s.queues queue (with_entries target (posted_entries s.next kinds));
}

-- Queues with their depths.

-- the queue without its depth
abbrev pub queue_in : QueueState → Queue
queue_in q = q.queue

-- each queue has this depth, and a lane to each rank
pub record IsLanes (depth ranks : ℕ) (queues : List QueueState) : Type 0 where
  pub deep : depth ≤ 256
  pub few : length queues ≤ 8
  pub depths : All (λ (q : QueueState). q.depth ≡ depth) queues
  pub lanes : All (λ (q : QueueState). length q.queue.lanes ≡ ranks) queues
