-- The calls that post entries to a lane: their results. `gaspi_types/specs/Posts` has the entries for which they ask. (GASPI:
-- one-sided communication)
use Rattle.std.specs.Prelude.{ℕ, ◌+◌, nat_le, nat_lt, List, length, Option, Some, Result, Ok, slice_get}
use Rattle.gaspi_types.specs.Checks.{◌>>=◌, check, ok_or, err_if_some}
use Rattle.gaspi_types.specs.declared.entries.Kind.{Kind}
use Rattle.gaspi_types.specs.declared.shapes.Limits.{Limits}
use Rattle.gaspi_types.specs.declared.replies.Refusal.{Refusal}
use Rattle.gaspi_types.specs.declared.replies.Refusal.TheVariants.{BadRank, BadQueue, QueueFull, QueueBroken}
use Rattle.gaspi_types.specs.declared.replies.Reply.{Reply}
use Rattle.gaspi_types.specs.declared.replies.Reply.TheVariants as replies
use Rattle.gaspi_types.specs.declared.entries.Queue.{Queue}
use Rattle.gaspi_model.specs.declared.states.Posts.{Posts}

-- a post is done where its queue is not broken, and has room for all its entries
abbrev pub post_result : Limits → Queue → List Kind → Result (Option Reply) Refusal
post_result limits q kinds = do
  whole ← err_if_some q.broken QueueBroken
  room ← check (nat_le (q.open_count + length kinds) limits.depth) (QueueFull q.open_count (length kinds))
  Ok (Some replies.Done)

-- the result of a post: its target is a rank, its queue is there, and what it asks for is not refused
abbrev pub post_request_result : Limits → Posts → ℕ → ℕ → Result (List Kind) Refusal → Result (Option Reply) Refusal
post_request_result limits posts rank queue asked = do
  ranked ← check (nat_lt rank limits.ranks) BadRank
  q ← ok_or (slice_get posts.queues queue) BadQueue
  kinds ← asked
  post_result limits q kinds
