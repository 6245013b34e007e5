-- The calls on a queue and on the state vector: the result and the effect of each. (GASPI: one-sided communication, state
-- vector)
use Rattle.std.specs.Prelude.{ℕ, List, [], map, Option, None, Some, Result, Ok, if◌then◌else◌, slice_get}
use Rattle.std.specs.List.{list_any}
use Rattle.gaspi_types.specs.Checks.{◌>>=◌, ok_or, err_if_some}
use Rattle.gaspi_types.specs.Lanes.{has_awaited}
use Rattle.gaspi_types.specs.Masks.{mask_of}
use Rattle.gaspi_types.specs.declared.calls.queues.Wait as wait
use Rattle.gaspi_types.specs.declared.calls.queues.Purge as purge
use Rattle.gaspi_types.specs.declared.calls.queues.Qsize as qsize
use Rattle.gaspi_types.specs.declared.replies.Refusal.{Refusal}
use Rattle.gaspi_types.specs.declared.replies.Refusal.TheVariants.{BadQueue, QueueBroken}
use Rattle.gaspi_types.specs.declared.replies.Reply.{Reply}
use Rattle.gaspi_types.specs.declared.replies.Reply.TheVariants as replies
use Rattle.gaspi_types.specs.Tables.{changed_at}
use Rattle.gaspi_types.specs.declared.entries.Entry.{Entry}
use Rattle.gaspi_types.specs.declared.entries.Queue.{Queue}
use Rattle.gaspi_model.specs.declared.states.Posts.{Posts}

-- ready where the queue has no awaited entry (wait)
abbrev pub wait_result : Posts → wait.Wait → Result (Option Reply) Refusal
wait_result posts call = do
  q ← ok_or (slice_get posts.queues call.queue) BadQueue
  whole ← err_if_some q.broken QueueBroken
  Ok (if list_any has_awaited q.lanes then None else Some replies.Done)

-- at any time, also of a broken queue (queue_purge)
abbrev pub purge_result : Posts → purge.Purge → Result (Option Reply) Refusal
purge_result posts call = do
  q ← ok_or (slice_get posts.queues call.queue) BadQueue
  Ok (Some replies.Done)

-- the open count: the entries that were posted since the last wait or purge that was done, also those that are gone
-- (queue_size)
abbrev pub qsize_result : Posts → qsize.Qsize → Result (Option Reply) Refusal
qsize_result posts call = do
  q ← ok_or (slice_get posts.queues call.queue) BadQueue
  Ok (Some (replies.Value q.open_count))

-- the ranks that are corrupt for the caller's rank (state_vec_get)
abbrev pub state_result : Posts → Result (Option Reply) Refusal
state_result posts = Ok (Some (replies.Mask (mask_of posts.corrupt)))

-- the posts after a wait: the open count is 0
abbrev pub closed : Posts → ℕ → Posts
closed posts queue = record posts { queues = changed_at posts.queues queue (λ (q : Queue). record q { open_count = 0 }) }

-- a lane without its entries
abbrev pub without_entries : List Entry → List Entry
without_entries lane = []

-- a queue with no entry, an open count of 0, and unbroken; the state vector stays
abbrev pub emptied : Queue → Queue
emptied q = record q { open_count = 0; broken = None; lanes = map without_entries q.lanes }

-- the posts after a purge
abbrev pub purged : Posts → ℕ → Posts
purged posts queue = record posts { queues = changed_at posts.queues queue emptied }
