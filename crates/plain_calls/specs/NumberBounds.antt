-- When the numbers that a call raises stay below 2^32: entry numbers and open count of a post, generation and size of a new segment,
-- the id of a new group; and that a rank which is added is below 16. Then what a call gives back of its rank's used room.
use Rattle.std.specs.Prelude.{◌≡◌, ℕ, ◌+◌, ◌<◌, ◌^◌, List, slice_get, Option, None, Some, if◌then◌else◌}
use Rattle.gaspi_types.specs.CallRows.{row_of}
use Rattle.gaspi_types.specs.Queues.{queue_owed}
use Rattle.gaspi_types.specs.Replies.{is_idle}
use Rattle.gaspi_types.specs.SegmentTables.{next_generation}
use Rattle.gaspi_types.specs.declared.call_rows.Posting.{Posting}
use Rattle.gaspi_types.specs.declared.calls.Call.{Call}
use Rattle.gaspi_types.specs.declared.calls.Call.TheVariants.{Alloc, Purge, GroupCreate, GroupAdd}
use Rattle.gaspi_types.specs.declared.calls.Call.TheVariants as calls
use Rattle.gaspi_types.specs.declared.calls.segments.Alloc as alloc
use Rattle.gaspi_types.specs.declared.collectives.Coll.{Coll}
use Rattle.gaspi_types.specs.declared.collectives.Coll.TheVariants.{Create}
use Rattle.gaspi_types.specs.declared.entries.Queue.{Queue}
use Rattle.gaspi_types.specs.declared.replies.Reply.{Reply}
use Rattle.gaspi_model.specs.declared.states.Posts.{Posts}

-- the numbers stay small when `entries` entries are posted to a queue
pub record IsBounded (posts : Posts) (entries queue : ℕ) : Type 0 where
  pub numbers : posts.next + entries < 2 ^ 32
  pub counts : (q : Queue) → slice_get posts.queues queue ≡ Some q → q.open_count + entries < 2 ^ 32

-- the same of a call that appends `entries` entries; nothing of a call that posts nothing
abbrev pub PostIsBounded : Posts → Option Posting → ℕ → Type 0
PostIsBounded posts None entries = Unit {0}
PostIsBounded posts (Some posting) entries = IsBounded posts entries posting.queue

-- of an alloc: the generation after its segment's, and its size
abbrev pub AllocIsBounded : Posts → alloc.Alloc → Type 0
AllocIsBounded posts call = (next_generation posts.segments.next_generations call.seg + 1 < 2 ^ 32) × (call.size < 2 ^ 32)

-- of a collective at its join: those of the segment that it makes
abbrev pub JoinIsBounded : Posts → Coll → Type 0
JoinIsBounded posts (Create seg size) = AllocIsBounded posts (record { seg = seg; size = size })
JoinIsBounded posts coll = Unit {0}

-- of a collective at its completion: the size of the segment that it makes known
abbrev pub CompletionIsBounded : Call → Type 0
CompletionIsBounded (calls.Create call) = call.size < 2 ^ 32
CompletionIsBounded call = Unit {0}

-- of a call that posts nothing and is no collective
abbrev pub PlainCallIsBounded : Posts → Call → Type 0
PlainCallIsBounded posts (Alloc call) = AllocIsBounded posts call
PlainCallIsBounded posts GroupCreate = posts.groups.last_id + 1 < 2 ^ 32
PlainCallIsBounded posts (GroupAdd call) = call.rank < 16
PlainCallIsBounded posts call = Unit {0}

-- of a call that is no collective, where it appends `entries` entries
pub record CallIsBounded (posts : Posts) (call : Call) (entries : ℕ) : Type 0 where
  pub posting : PostIsBounded posts (row_of call).posting entries
  pub plain : PlainCallIsBounded posts call

-- the queue that a call purges; none for every call but a purge
abbrev pub purged_queue : Call → Option ℕ
purged_queue (Purge call) = Some call.queue
purged_queue call = None

-- how many events are owed for the entries of a queue; 0 where there is no such queue
abbrev pub owed_at : List Queue → ℕ → ℕ
owed_at queues queue = owed_by (slice_get queues queue)
  where
    owed_by : Option Queue → ℕ
    owed_by None = 0
    owed_by (Some q) = queue_owed q

-- the used room that is given back where a queue is purged; 0 where none is
abbrev pub released_at : List Queue → Option ℕ → ℕ
released_at queues None = 0
released_at queues (Some queue) = owed_at queues queue

-- the used room that a call with this reply gives back: for a purge that is done what was owed for the entries of its queue, and else 0
abbrev pub released : Posts → Call → Reply → ℕ
released posts call reply = if is_idle reply then 0 else released_at posts.queues (purged_queue call)
