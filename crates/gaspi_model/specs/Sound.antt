-- Sound states: what holds in every state of a legal history, and is used by all code that runs the machine.
use Rattle.std.specs.Prelude.{◌≡◌, ℕ, ◌+◌, ◌-◌, ◌*◌, ◌<◌, ◌≤◌, true, nat_le, sum_by, count_by, List, [], ◌∷◌, length, slice_get, Option, None, Some}
use Rattle.gaspi_types.specs.Lanes.{is_posted, is_failed, carried_count}
use Rattle.gaspi_types.specs.declared.entries.Entry.{Entry}
use Rattle.gaspi_types.specs.declared.segments.Extent.{Extent}
use Rattle.gaspi_types.specs.Groups.{handle_at, handle_of_all}
use Rattle.gaspi_types.specs.Inboxes.{is_passive_size}
use Rattle.gaspi_types.specs.Masks.{is_member}
use Rattle.gaspi_types.specs.declared.groups.Handle.{Handle}
use Rattle.gaspi_types.specs.declared.groups.Handles.{Handles}
use Rattle.gaspi_types.specs.declared.inboxes.Message.{Message}
use Rattle.gaspi_types.specs.World.{are_limits}
use Rattle.gaspi_types.specs.declared.shapes.Limits.{Limits}
use Rattle.gaspi_model.specs.State.{owed}
use Rattle.gaspi_model.specs.Coherence.{AgreesOnSegments}
use Rattle.gaspi_model.specs.Contributions.{AreSoundCollectives}
use Rattle.gaspi_types.specs.declared.entries.Queue.{Queue}
use Rattle.gaspi_model.specs.declared.states.Posts.{Posts}
use Rattle.gaspi_model.specs.declared.states.Memory.{Memory}
use Rattle.gaspi_model.specs.declared.states.State.{State}

-- each number is above n
abbrev pub AreAbove : ℕ → List Entry → Type 0
AreAbove n [] = Unit {0}
AreAbove n (e ∷ lane) = (n < e.number) × AreAbove n lane

-- the numbers of a lane rise, and are below the rank's next number
abbrev pub AreRising : ℕ → List Entry → Type 0
AreRising next [] = Unit {0}
AreRising next (e ∷ lane) = (e.number < next) × AreAbove e.number lane × AreRising next lane

-- how many entries of a lane have a number from n on
abbrev pub lane_from : ℕ → List Entry → ℕ
lane_from n lane = count_by (λ e. nat_le n e.number) lane

-- how many entries of a queue have a number from n on
abbrev pub queue_from : ℕ → Queue → ℕ
queue_from n q = sum_by (lane_from n) q.lanes

-- how many entries of a lane are failed
abbrev pub lane_failed : List Entry → ℕ
lane_failed lane = count_by is_failed lane

-- how many entries of a queue are failed
abbrev pub queue_failed : Queue → ℕ
queue_failed q = sum_by lane_failed q.lanes

-- how many there are by the broken mark of a queue: one where it is broken
abbrev pub failures : Option ℕ → ℕ
failures None = 0
failures (Some target) = 1

-- A queue: at most DEPTH entries of a lane are carried; one entry is failed where the queue is broken, and none where it is
-- not; and the entries of the queue from each posted one on, in any phase, so from the least, are at most the open count, which
-- is at most DEPTH.
pub record IsSoundQueue (depth : ℕ) (q : Queue) : Type 0 where
  pub carried : (target : ℕ) (lane : List Entry) → slice_get q.lanes target ≡ Some lane → carried_count lane ≤ depth
  pub from_posted : (target : ℕ) (lane : List Entry) → slice_get q.lanes target ≡ Some lane → (place : ℕ) (e : Entry) → slice_get lane place ≡ Some e
      → is_posted e ≡ true → queue_from e.number q ≤ q.open_count
  pub opened : q.open_count ≤ depth
  pub failed : queue_failed q ≡ failures q.broken

-- The groups of a rank: group 0 has every rank and is committed; the others that were made have the first numbers, at most up
-- to 7, and there is no further one; and who is in a group is a rank of the world.
pub record AreSoundGroups (ranks : ℕ) (groups : Handles) : Type 0 where
  pub table : length groups.table ≡ 8
  pub made : groups.last_id ≤ 7
  pub all : handle_at groups 0 ≡ Some (handle_of_all ranks)
  pub unmade : (id : ℕ) → groups.last_id < id → handle_at groups id ≡ None
  pub members : (id : ℕ) (h : Handle) → handle_at groups id ≡ Some h → (rank : ℕ) → is_member h.members rank ≡ true → rank < ranks

-- An inbox: it has at most INBOX messages, each from a rank of the world and of a message's size.
pub record IsSoundInbox (limits : Limits) (inbox : List Message) : Type 0 where
  pub few : length inbox ≤ limits.inbox
  pub senders : (place : ℕ) (m : Message) → slice_get inbox place ≡ Some m → m.sender < limits.ranks
  pub sizes : (place : ℕ) (m : Message) → slice_get inbox place ≡ Some m → is_passive_size (length m.bytes) ≡ true

-- Every table of the posts of a rank has its length: one item for each queue, rank, thread, segment id and group.
pub record HasTables (limits : Limits) (posts : Posts) : Type 0 where
  pub queues : length posts.queues ≡ limits.queues
  pub corrupt : length posts.corrupt ≡ limits.ranks
  pub own : length posts.segments.own ≡ 32
  pub known : length posts.segments.known ≡ limits.ranks
  pub known_segments : (rank : ℕ) (table : List (Option Extent)) → slice_get posts.segments.known rank ≡ Some table → length table ≡ 32
  pub threads : length posts.threads ≡ 4
  pub pending : length posts.pending ≡ 8

-- The posts of a rank: every table has its length; each queue has a lane to each rank, and is sound; what is recorded and owed
-- is at most EVENTS; no event gave more than 256 numbers to entries, nor a segment id more than one generation; and the numbers
-- of each lane rise, and are below the next one.
pub record IsSoundPosts (limits : Limits) (posts : Posts) : Type 0 where
  pub tables : HasTables limits posts
  pub lanes : (queue : ℕ) (q : Queue) → slice_get posts.queues queue ≡ Some q → length q.lanes ≡ limits.ranks
  pub room : posts.events + owed posts ≤ limits.events
  pub numbers : posts.next ≤ 256 * posts.events
  pub numbered : length posts.segments.next_generations ≡ 32
  pub generations : (segment n : ℕ) → slice_get posts.segments.next_generations segment ≡ Some n → n ≤ posts.events + 1
  pub rising : (queue : ℕ) (q : Queue) → slice_get posts.queues queue ≡ Some q → (target : ℕ) (lane : List Entry) → slice_get q.lanes target ≡ Some lane → AreRising posts.next lane
  pub queues : (queue : ℕ) (q : Queue) → slice_get posts.queues queue ≡ Some q → IsSoundQueue limits.depth q
  pub groups : AreSoundGroups limits.ranks posts.groups

-- a sound state
pub record IsSound (s : State) : Type 0 where
  pub limits : are_limits s.limits ≡ true
  pub ranks : length s.posts ≡ s.limits.ranks
  pub memories : length s.memories ≡ s.limits.ranks
  pub posts : (rank : ℕ) (posts : Posts) → slice_get s.posts rank ≡ Some posts → IsSoundPosts s.limits posts
  pub inboxes : (rank : ℕ) (memory : Memory) → slice_get s.memories rank ≡ Some memory → IsSoundInbox s.limits memory.inbox
  pub coherent : AgreesOnSegments s
  pub collectives : AreSoundCollectives s

-- the events that may still be recorded, in all ranks
abbrev pub events_left : State → ℕ
events_left s = sum_by (λ (p : Posts). s.limits.events - p.events) s.posts
