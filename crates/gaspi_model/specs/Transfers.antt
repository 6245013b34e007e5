-- Takes and puts: which may come, and what each changes. (GASPI: one-sided communication, notification order)
use Rattle.std.specs.Prelude.{nat_lt, ◌==◌, ◌||◌, ◌&&◌, ℕ, Bool, true, false, List, [], ◌∷◌, remove, Option, None, Some, Result, Ok, Err, if◌then◌else◌, slice_get, slice_set, is_none}
use Rattle.std.specs.List.{flat_map, enumerate_from}
use Rattle.gaspi_types.specs.Checks.{◌>>=◌, check, ok_or}
use Rattle.gaspi_types.specs.SegmentBytes.{range_of, with_range}
use Rattle.gaspi_types.specs.Kinds.{source_of, destination_of}
use Rattle.gaspi_types.specs.Lanes.{position_of, may_take, may_put}
use Rattle.gaspi_types.specs.declared.entries.ByteRange.{ByteRange}
use Rattle.gaspi_types.specs.declared.entries.Destination.{Destination}
use Rattle.gaspi_types.specs.declared.entries.Destination.TheVariants.{Range, Slot}
use Rattle.gaspi_types.specs.declared.entries.Kind.{Kind}
use Rattle.gaspi_types.specs.declared.entries.Kind.TheVariants.{Write, Read, Notify, ReadNote}
use Rattle.gaspi_types.specs.declared.entries.Entry.{Entry}
use Rattle.gaspi_types.specs.declared.entries.Phase.{Phase}
use Rattle.gaspi_types.specs.declared.entries.Phase.TheVariants as phases
use Rattle.gaspi_types.specs.declared.events.Outcome.{Outcome}
use Rattle.gaspi_types.specs.declared.events.Outcome.TheVariants.{Applied, Failed}
use Rattle.gaspi_types.specs.declared.events.Transfer.{Transfer}
use Rattle.gaspi_types.specs.declared.shapes.Limits.{Limits}
use Rattle.gaspi_model.specs.State.{segment_at}
use Rattle.gaspi_types.specs.Segments.{is_generation}
use Rattle.gaspi_model.specs.Memories.{bytes_of, slots_of, with_bytes, with_slots}
use Rattle.gaspi_types.specs.Tables.{changed_at}
use Rattle.gaspi_model.specs.Posting.{counted}
use Rattle.gaspi_types.specs.declared.entries.Queue.{Queue}
use Rattle.gaspi_model.specs.declared.states.Posts.{Posts}
use Rattle.gaspi_model.specs.declared.states.Memory.{Memory}
use Rattle.gaspi_model.specs.declared.states.Why.{Why}
use Rattle.gaspi_model.specs.declared.states.Why.TheVariants as whys

-- whether outcomes are the same
abbrev pub same_outcome : Outcome → Outcome → Bool
same_outcome Applied Applied = true
same_outcome Failed Failed = true
same_outcome Applied Failed = false
same_outcome Failed Applied = false

-- an entry with its queue, its lane and its position there
pub record EntryPosition : Type 0 where
  pub queue : Queue
  pub lane : List Entry
  pub position : ℕ
  pub entry : Entry

-- the entry with a number in a lane, with its position, or that cause where there is none
abbrev pub find_entry : Posts → ℕ → ℕ → ℕ → Why → Result EntryPosition Why
find_entry posts queue target number why = do
  q ← ok_or (slice_get posts.queues queue) why
  lane ← ok_or (slice_get q.lanes target) why
  place ← ok_or (position_of lane number) why
  entry ← ok_or (slice_get lane place) why
  Ok (record { queue = q; lane = lane; position = place; entry = entry })

-- the entry with a number in a lane
abbrev pub entry_in : Posts → ℕ → ℕ → ℕ → Option Entry
entry_in posts queue target number = of_found (find_entry posts queue target number whys.Put)
  where
    of_found : Result EntryPosition Why → Option Entry
    of_found (Ok at) = Some at.entry
    of_found (Err why) = None

-- a lane with the entry at a position in another phase
abbrev pub lane_phase : List Entry → ℕ → Phase → List Entry
lane_phase lane place phase = changed_at lane place (λ (e : Entry). record e { phase = phase })

-- a queue with the entry at a position of a lane in another phase
abbrev pub queue_phase : ℕ → ℕ → Phase → Queue → Queue
queue_phase target place phase q = record q { lanes = changed_at q.lanes target (λ (lane : List Entry). lane_phase lane place phase) }

-- the posts of an origin with the entry at a position of a lane in another phase
abbrev pub posts_phase : Posts → ℕ → ℕ → ℕ → Phase → Posts
posts_phase posts queue target place phase = record posts { queues = changed_at posts.queues queue (queue_phase target place phase) }

-- the queue after a transfer that failed
abbrev pub queue_failed : ℕ → ℕ → Queue → Queue
queue_failed target place q = record (queue_phase target place phases.Failed q) { broken = Some target }

-- The posts of an origin after a transfer that failed: the entry stays in its position, the queue is broken with that target,
-- and the target is corrupt for the origin. (state vector)
abbrev pub posts_failed : Posts → ℕ → ℕ → ℕ → Posts
posts_failed posts queue target place = record posts {
  queues = changed_at posts.queues queue (queue_failed target place);
  corrupt = slice_set posts.corrupt target true;
}

-- A transfer that reads or changes a segment of the target's memory fails where that is gone in its generation (state vector):
-- the take of a read, and the put of a write and of a notification. No other fails.
abbrev pub outcome_at : Memory → ℕ → ℕ → Outcome
outcome_at memory segment generation = if is_generation generation (segment_at memory segment) then Applied else Failed

-- the outcome of a take
abbrev pub take_outcome : Memory → Kind → Outcome
take_outcome memory (Write own target) = Applied
take_outcome memory (Read own target) = outcome_at memory target.segment target.generation
take_outcome memory (Notify target value) = Applied
take_outcome memory (ReadNote own) = Applied

-- the outcome of a put
abbrev pub put_outcome : Memory → Kind → Outcome
put_outcome memory (Write own target) = outcome_at memory target.segment target.generation
put_outcome memory (Read own target) = Applied
put_outcome memory (Notify target value) = outcome_at memory target.segment target.generation
put_outcome memory (ReadNote own) = Applied

-- the bytes of a range, or none where there is no range
abbrev pub bytes_from : Memory → Option ByteRange → List ℕ
bytes_from memory None = []
bytes_from memory (Some range) = range_of (bytes_of memory range.segment) range.offset range.size

-- what a take takes: a write the bytes that its own range has now, a read those that its target's has, a notification nothing
abbrev pub source_bytes : Memory → Kind → List ℕ
source_bytes memory kind = bytes_from memory (source_of kind)

-- The bytes of a take that may come: the entry is posted, its queue is not broken, and fewer than DEPTH entries of its lane are
-- carried. The outcome is the machine's.
abbrev pub take_result : Limits → Memory → EntryPosition → Outcome → Result (List ℕ) Why
take_result limits memory at outcome = do
  whole ← check (is_none at.queue.broken) whys.Take
  permitted ← check (may_take limits.depth at.lane at.entry) whys.Take
  fits ← check (same_outcome outcome (take_outcome memory at.entry.kind)) whys.Take
  Ok (source_bytes memory at.entry.kind)

-- the posts of an origin after a take: the entry stays in its place, with its bytes, or as failed
abbrev pub posts_after_take : Posts → ℕ → ℕ → ℕ → List ℕ → Outcome → Posts
posts_after_take posts queue target place bytes Applied = counted (posts_phase posts queue target place (phases.Carried bytes))
posts_after_take posts queue target place bytes Failed = counted (posts_failed posts queue target place)

-- A take: the posts of its origin, after it.
abbrev pub take : Limits → Posts → Memory → ℕ → ℕ → ℕ → Outcome → Result Posts Why
take limits posts memory queue target number outcome = do
  at ← find_entry posts queue target number whys.Take
  bytes ← take_result limits memory at outcome
  Ok (posts_after_take posts queue target at.position bytes outcome)

-- the bytes of a carried entry
abbrev pub carried_bytes : Phase → List ℕ
carried_bytes phases.Posted = []
carried_bytes (phases.Carried bytes) = bytes
carried_bytes phases.Failed = []

-- the memory that a put changes, after it: exactly the range, or the one slot, is changed
abbrev pub memory_with_put : Memory → Destination → List ℕ → Memory
memory_with_put memory (Range range) bytes = with_bytes memory range.segment (with_range (bytes_of memory range.segment) range.offset bytes)
memory_with_put memory (Slot slot value) bytes = with_slots memory slot.segment (slice_set (slots_of memory slot.segment) slot.note value)

-- the memory after the put of an entry that is applied
abbrev pub memory_put : Memory → Entry → Memory
memory_put memory entry = memory_with_put memory (destination_of entry.kind) (carried_bytes entry.phase)

-- a put that failed changes nothing there
abbrev pub memory_with : Memory → EntryPosition → Outcome → Memory
memory_with memory at Applied = memory_put memory at.entry
memory_with memory at Failed = memory

-- The memory that a put changes, after it. The put of an entry may come that is carried, whose queue is not broken, and, for a
-- notification, before which no write, or no read, with a smaller number is in its lane. It stores the bytes or sets the slot.
abbrev pub memory_after_put : Memory → EntryPosition → Outcome → Result Memory Why
memory_after_put memory at outcome = do
  whole ← check (is_none at.queue.broken) whys.Put
  permitted ← check (may_put at.lane at.entry) whys.Put
  fits ← check (same_outcome outcome (put_outcome memory at.entry.kind)) whys.Put
  Ok (memory_with memory at outcome)

-- a queue without the entry at a position of a lane
abbrev pub queue_without : ℕ → ℕ → Queue → Queue
queue_without target place q = record q { lanes = changed_at q.lanes target (λ (lane : List Entry). remove lane place) }

-- the posts of an origin without the entry at a position of a lane
abbrev pub posts_without : Posts → ℕ → ℕ → ℕ → Posts
posts_without posts queue target place = record posts { queues = changed_at posts.queues queue (queue_without target place) }

-- the posts of an origin after a put: the entry goes, unless the put failed
abbrev pub posts_after_put : Posts → ℕ → ℕ → ℕ → Outcome → Posts
posts_after_put posts queue target place Applied = counted (posts_without posts queue target place)
posts_after_put posts queue target place Failed = counted (posts_failed posts queue target place)

-- the posts of an event's owner, and the memory that it reads or changes
pub record PostsAndMemory : Type 0 where
  pub posts : Posts
  pub memory : Memory

-- A put: the posts of its origin and the memory that it changes, after it.
abbrev pub put : Posts → Memory → ℕ → ℕ → ℕ → Outcome → Result PostsAndMemory Why
put posts memory queue target number outcome = do
  at ← find_entry posts queue target number whys.Put
  after ← memory_after_put memory at outcome
  Ok (record { posts = posts_after_put posts queue target at.position outcome; memory = after })

-- The transfers that may come next, by queue, target and number.

-- the transfer of an entry that may come next, if any
abbrev pub transfer_of : ℕ → ℕ → ℕ → Limits → List Entry → Entry → List Transfer
transfer_of origin queue target limits lane e =
    if may_take limits.depth lane e
    then record { origin = origin; queue = queue; target = target; number = e.number; put = false } ∷ []
    else (if may_put lane e
    then record { origin = origin; queue = queue; target = target; number = e.number; put = true } ∷ []
    else [])

-- those of a lane
abbrev pub lane_transfers : ℕ → ℕ → Limits → ℕ × List Entry → List Transfer
lane_transfers origin queue limits (target, lane) = flat_map (transfer_of origin queue target limits lane) lane

-- those of a queue, none of a broken one
abbrev pub queue_transfers : ℕ → Limits → ℕ × Queue → List Transfer
queue_transfers origin limits (queue, q) =
    if is_none q.broken then flat_map (lane_transfers origin queue limits) (enumerate_from 0 q.lanes) else []

-- those of a rank
abbrev pub rank_transfers : Limits → ℕ × Posts → List Transfer
rank_transfers limits (origin, posts) = flat_map (queue_transfers origin limits) (enumerate_from 0 posts.queues)

-- those of all ranks
abbrev pub transfers : Limits → List Posts → List Transfer
transfers limits posts = flat_map (rank_transfers limits) (enumerate_from 0 posts)

-- the order of transfers: by origin, queue, target and number
abbrev pub is_earlier : Transfer → Transfer → Bool
is_earlier a b =
    nat_lt a.origin b.origin
    || ((a.origin == b.origin) && (nat_lt a.queue b.queue
    || ((a.queue == b.queue) && (nat_lt a.target b.target || ((a.target == b.target) && nat_lt a.number b.number)))))
