-- What events change, each in words of its own: the records say which parts are other afterwards, and that nothing else is.
use Rattle.std.specs.Prelude.{◌≡◌, ◌≢◌, ℕ, ◌+◌, ◌<◌, ◌≤◌, ◌==◌, ◌&&◌, ◌||◌, Bool, true, false, if◌then◌else◌, List, [], ◌∷◌, ◌++◌, length, remove, replicate, slice_get, slice_set, Option, None, Some, Ok}
use Rattle.std.specs.List.{list_any}
use Rattle.std.specs.Int.{bit_at}
use Rattle.gaspi_types.specs.Kinds.{is_outward, is_read_kind, source_of, destination_of}
use Rattle.gaspi_types.specs.CallRows.{entries_of}
use Rattle.gaspi_types.specs.Groups.{handle_at}
use Rattle.gaspi_types.specs.Lanes.{is_posted, is_carried, has_awaited, posted_entries}
use Rattle.gaspi_types.specs.Masks.{bit_of, is_marked, is_member}
use Rattle.gaspi_types.specs.Queues.{user_of}
use Rattle.gaspi_types.specs.SegmentBytes.{range_of}
use Rattle.gaspi_types.specs.Segments.{IsSegmentWritten}
use Rattle.gaspi_types.specs.Slots.{IsSlotWritten}
use Rattle.gaspi_types.specs.Tables.{item_at}
use Rattle.gaspi_types.specs.SegmentTables.{extent_in}
use Rattle.gaspi_types.specs.declared.segments.Extent.{Extent}
use Rattle.gaspi_types.specs.declared.entries.Phase.TheVariants.{Carried, Failed}
use Rattle.gaspi_types.specs.declared.entries.Entry.{Entry}
use Rattle.gaspi_types.specs.declared.entries.ByteRange.{ByteRange}
use Rattle.gaspi_types.specs.declared.entries.Destination.{Destination}
use Rattle.gaspi_types.specs.declared.entries.Destination.TheVariants.{Range, Slot}
use Rattle.gaspi_types.specs.declared.entries.Kind.{Kind}
use Rattle.gaspi_types.specs.declared.entries.Kind.TheVariants.{Write, Read, Notify, ReadNote}
use Rattle.gaspi_types.specs.declared.calls.Call.{Call}
use Rattle.gaspi_types.specs.declared.collectives.Stage.TheVariants.{Building}
use Rattle.gaspi_types.specs.declared.groups.Handle.{Handle}
use Rattle.gaspi_types.specs.declared.groups.Handles.{Handles}
use Rattle.gaspi_types.specs.declared.inboxes.Message.{Message}
use Rattle.gaspi_model.specs.State.{segment_at}
use Rattle.gaspi_model.specs.Calls.{requested_kinds}
use Rattle.gaspi_model.specs.Posting.{counted}
use Rattle.gaspi_model.specs.Memories.{slots_of}
use Rattle.gaspi_model.specs.Transfers.{carried_bytes}
use Rattle.gaspi_types.specs.declared.entries.Queue.{Queue}
use Rattle.gaspi_model.specs.declared.states.Posts.{Posts}
use Rattle.gaspi_types.specs.declared.segments.Segment.{Segment}
use Rattle.gaspi_types.specs.declared.shapes.CallerId.{CallerId}
use Rattle.gaspi_model.specs.declared.states.ThreadState.TheVariants.{Running, Ended}
use Rattle.gaspi_model.specs.declared.states.Memory.{Memory}
use Rattle.gaspi_model.specs.declared.states.State.{State}

-- nothing but the count of events of a rank
pub record IsOnlyCounted (s t : State) (rank : ℕ) : Type 0 where
  pub posts : Posts
  pub there : slice_get s.posts rank ≡ Some posts
  pub after : t ≡ record s { posts = slice_set s.posts rank (counted posts) }

-- A call by a rank `me` that writes into a segment of a rank: that segment's bytes have what is written in its range, and
-- nothing else has changed but the count of events of the caller's rank.
pub record IsWritten (s t : State) (me rank segment offset : ℕ) (written : List ℕ) : Type 0 where
  pub posts : Posts
  pub posts_there : slice_get s.posts me ≡ Some posts
  pub old : Memory
  pub new : Memory
  pub old_there : slice_get s.memories rank ≡ Some old
  pub after : t ≡ record s { posts = slice_set s.posts me (counted posts); memories = slice_set s.memories rank new }
  pub kept : new ≡ record old { segments = new.segments }
  pub segments : IsSegmentWritten old.segments new.segments segment offset written

-- what a call answers of a segment of a rank
pub record IsAnswered (s : State) (rank segment : ℕ) (P : Segment → Type 0) : Type 0 where
  pub memory : Memory
  pub memory_there : slice_get s.memories rank ≡ Some memory
  pub item : Segment
  pub item_there : segment_at memory segment ≡ Some item
  pub answers : P item

-- what a call answers of the slots of a segment of a rank
pub record IsAnsweredOfSlots (s : State) (rank segment : ℕ) (P : List ℕ → Type 0) : Type 0 where
  pub memory : Memory
  pub memory_there : slice_get s.memories rank ≡ Some memory
  pub slots : List ℕ
  pub slots_there : item_at memory.slots segment ≡ Some slots
  pub answers : P slots

-- A call that answers what is in a segment of its caller's rank, and changes nothing but the count of events.
abbrev pub IsRead : (s t : State) (me segment : ℕ) (P : Segment → Type 0) → Type 0
IsRead s t me segment P = IsAnswered s me segment P × IsOnlyCounted s t me

-- The same of the slots of a segment.
abbrev pub AreSlotsRead : (s t : State) (me segment : ℕ) (P : List ℕ → Type 0) → Type 0
AreSlotsRead s t me segment P = IsAnsweredOfSlots s me segment P × IsOnlyCounted s t me

-- whether a rank is corrupt for a rank (state vector)
abbrev pub is_corrupt : State → ℕ → ℕ → Bool
is_corrupt s rank target = in_posts (slice_get s.posts rank)
  where
    in_posts : Option Posts → Bool
    in_posts None = false
    in_posts (Some posts) = is_marked (slice_get posts.corrupt target)

-- a segment is there in a generation
pub record IsThere (memory : Memory) (segment generation : ℕ) : Type 0 where
  pub item : Segment
  pub there : segment_at memory segment ≡ Some item
  pub same : item.generation ≡ generation

-- what the put of an entry does to the memory that it works on, which has the segment in the entry's generation: a write
-- and a read store their bytes in their range, a notification sets its slot, and nothing else changes
abbrev pub PutsTo : Destination → List ℕ → Memory → Memory → Type 0
PutsTo (Range range) bytes old new =
    IsThere old range.segment range.generation × IsSegmentWritten old.segments new.segments range.segment range.offset bytes × (length bytes ≡ range.size) × (new ≡ record old { segments = new.segments })
PutsTo (Slot slot value) bytes old new =
    IsThere old slot.segment slot.generation × IsSlotWritten old.slots new.slots slot.segment slot.note value × (new ≡ record old { slots = new.slots })

-- what the put of an entry does to that memory
abbrev pub Puts : Entry → Memory → Memory → Type 0
Puts e old new = PutsTo (destination_of e.kind) (carried_bytes e.phase) old new

-- the rank into whose memory an entry puts: its target, or, for a read and its notification, its origin
abbrev pub put_rank : ℕ → ℕ → Kind → ℕ
put_rank origin target kind = if is_outward kind then target else origin

-- A put that was made: the entry with its number, which had taken its bytes, is gone from its lane; the memory that it
-- works on has what it puts; and nothing else has changed but the count of events of its origin.
pub record IsPutDone (s t : State) (origin queue target number : ℕ) : Type 0 where
  pub posts : Posts
  pub q : Queue
  pub lane : List Entry
  pub place : ℕ
  pub entry : Entry
  pub posts_there : slice_get s.posts origin ≡ Some posts
  pub queue_there : slice_get posts.queues queue ≡ Some q
  pub lane_there : slice_get q.lanes target ≡ Some lane
  pub entry_there : slice_get lane place ≡ Some entry
  pub numbered : entry.number ≡ number
  pub carried : is_carried entry ≡ true
  pub whole : q.broken ≡ None
  pub old : Memory
  pub new : Memory
  pub old_there : slice_get s.memories (put_rank origin target entry.kind) ≡ Some old
  pub puts : Puts entry old new
  pub after : t ≡ record s {
    posts = slice_set s.posts origin (record (counted posts) {
      queues = slice_set posts.queues queue (record q { lanes = slice_set q.lanes target (remove lane place) });
    });
    memories = slice_set s.memories (put_rank origin target entry.kind) new;
  }

-- the target's segment is gone in the generation of an entry
abbrev pub NotIn : Memory → ℕ → ℕ → Type 0
NotIn memory segment generation = (item : Segment) → segment_at memory segment ≡ Some item → item.generation ≢ generation

abbrev pub IsTargetGone : Memory → Kind → Type 0
IsTargetGone memory (Write own target) = NotIn memory target.segment target.generation
IsTargetGone memory (Read own target) = NotIn memory target.segment target.generation
IsTargetGone memory (Notify target value) = NotIn memory target.segment target.generation
IsTargetGone memory (ReadNote own) = ⊥

-- whether the take of an entry may fail: that of a posted read
abbrev pub may_take_fail : Entry → Bool
may_take_fail e = is_posted e && is_read_kind e.kind

-- whether the put of an entry may fail: that of a carried write or notification
abbrev pub may_put_fail : Entry → Bool
may_put_fail e = is_carried e && is_outward e.kind

-- A transfer that failed, since the target's segment of the entry's generation is gone: the entry with its number, of which
-- that may fail, has failed in its position; its queue is broken with that target, and the target is corrupt for its origin;
-- and nothing else has changed but the count of events of its origin. (state vector)
pub record IsFailureDone (s t : State) (origin queue target number : ℕ) (may_fail : Entry → Bool) : Type 0 where
  pub posts : Posts
  pub q : Queue
  pub lane : List Entry
  pub place : ℕ
  pub entry : Entry
  pub memory : Memory
  pub posts_there : slice_get s.posts origin ≡ Some posts
  pub queue_there : slice_get posts.queues queue ≡ Some q
  pub lane_there : slice_get q.lanes target ≡ Some lane
  pub entry_there : slice_get lane place ≡ Some entry
  pub numbered : entry.number ≡ number
  pub fails : may_fail entry ≡ true
  pub whole : q.broken ≡ None
  pub memory_there : slice_get s.memories target ≡ Some memory
  pub gone : IsTargetGone memory entry.kind
  pub after : t ≡ record s {
    posts = slice_set s.posts origin (record (counted posts) {
      queues = slice_set posts.queues queue (record q { broken = Some target; lanes = slice_set q.lanes target (slice_set lane place (record entry { phase = Failed })) });
      corrupt = slice_set posts.corrupt target true;
    });
  }

-- what an entry takes: the bytes that its source has now in the segment of its generation, where it has a source
abbrev pub TakesBytesFrom : Option ByteRange → Memory → List ℕ → Type 0
TakesBytesFrom None memory bytes = bytes ≡ []
TakesBytesFrom (Some range) memory bytes =
    (segment : Segment) × (segment_at memory range.segment ≡ Some segment) × (segment.generation ≡ range.generation) × (bytes ≡ range_of segment.bytes range.offset range.size)

abbrev pub TakesBytes : Entry → Memory → List ℕ → Type 0
TakesBytes e memory bytes = TakesBytesFrom (source_of e.kind) memory bytes

-- the rank from whose memory an entry takes: a read from its target's, each other from its origin's
abbrev pub take_rank : ℕ → ℕ → Kind → ℕ
take_rank origin target kind = if is_read_kind kind then target else origin

-- A take that was made: the entry with its number, which was posted, is carried in its position; and nothing else has
-- changed but the count of events of its origin.
pub record IsTakeDone (s t : State) (origin queue target number : ℕ) : Type 0 where
  pub posts : Posts
  pub q : Queue
  pub lane : List Entry
  pub place : ℕ
  pub entry : Entry
  pub memory : Memory
  pub bytes : List ℕ
  pub posts_there : slice_get s.posts origin ≡ Some posts
  pub queue_there : slice_get posts.queues queue ≡ Some q
  pub lane_there : slice_get q.lanes target ≡ Some lane
  pub entry_there : slice_get lane place ≡ Some entry
  pub numbered : entry.number ≡ number
  pub posted : is_posted entry ≡ true
  pub whole : q.broken ≡ None
  pub memory_there : slice_get s.memories (take_rank origin target entry.kind) ≡ Some memory
  pub takes : TakesBytes entry memory bytes
  pub after : t ≡ record s {
    posts = slice_set s.posts origin (record (counted posts) {
      queues = slice_set posts.queues queue (record q { lanes = slice_set q.lanes target (slice_set lane place (record entry { phase = Carried bytes })) });
    });
  }

-- the posts of a rank with which a segment of an owner is registered: what it knows of that segment has changed, and nothing else
abbrev pub with_registered : Posts → ℕ → ℕ → Extent → List (Option Extent) → Posts
with_registered peer owner segment extent table = record peer {
  segments = record peer.segments { known = slice_set peer.segments.known owner (slice_set table segment (Some extent)) };
}

-- A segment that is made known to a rank: that rank knows its present generation and size, and nothing else has changed but
-- the count of events of its owner. To its owner it makes nothing known. (segments: segment_register)
pub record IsRegisterDone (s t : State) (me segment rank : ℕ) : Type 0 where
  pub posts : Posts
  pub extent : Extent
  pub posts_there : slice_get s.posts me ≡ Some posts
  pub own_there : extent_in posts.segments.own segment ≡ Some extent
  pub itself : rank ≡ me → t ≡ record s { posts = slice_set s.posts me (counted posts) }
  pub peer : (rank ≡ me → ⊥) → (p : Posts) × (table : List (Option Extent)) × (slice_get s.posts rank ≡ Some p) × (slice_get p.segments.known me ≡ Some table)
      × (t ≡ record s { posts = slice_set (slice_set s.posts me (counted posts)) rank (with_registered p me segment extent table) })

-- A reset: its slot had the value that was answered and is 0, and nothing else has changed but the
-- count of events of the caller's rank. (notifications: notify_reset)
pub record IsReset (s t : State) (me segment note value : ℕ) : Type 0 where
  pub posts : Posts
  pub posts_there : slice_get s.posts me ≡ Some posts
  pub old : Memory
  pub new : Memory
  pub old_there : slice_get s.memories me ≡ Some old
  pub after : t ≡ record s { posts = slice_set s.posts me (counted posts); memories = slice_set s.memories me new }
  pub kept : new ≡ record old { slots = new.slots }
  pub answered : slice_get (slots_of old segment) note ≡ Some value
  pub slots : IsSlotWritten old.slots new.slots segment note 0

-- A wait that is done: the queue is not broken, none of its entries has still to take its bytes, and no read and no
-- notification of a read is in it; its open count is 0, and nothing else has changed but the count of events of its
-- rank. (one-sided communication: wait)
pub record IsWaitDone (s t : State) (me queue : ℕ) : Type 0 where
  pub posts : Posts
  pub q : Queue
  pub posts_there : slice_get s.posts me ≡ Some posts
  pub queue_there : slice_get posts.queues queue ≡ Some q
  pub whole : q.broken ≡ None
  pub taken : list_any has_awaited q.lanes ≡ false
  pub after : t ≡ record s { posts = slice_set s.posts me (record (counted posts) { queues = slice_set posts.queues queue (record q { open_count = 0 }) }) }

-- A purge that is done: its queue has no entry, its open count is 0 and it is unbroken, and nothing else has changed but the
-- count of events of its rank: corrupt ranks stay so. (one-sided communication: queue_purge)
pub record IsPurgeDone (s t : State) (me queue : ℕ) : Type 0 where
  pub posts : Posts
  pub q : Queue
  pub q' : Queue
  pub posts_there : slice_get s.posts me ≡ Some posts
  pub queue_there : slice_get posts.queues queue ≡ Some q
  pub opened : q'.open_count ≡ 0
  pub whole : q'.broken ≡ None
  pub lanes : length q'.lanes ≡ length q.lanes
  pub empty : (target : ℕ) (lane : List Entry) → slice_get q'.lanes target ≡ Some lane → lane ≡ []
  pub after : t ≡ record s { posts = slice_set s.posts me (record (counted posts) { queues = slice_set posts.queues queue q' }) }

-- A call that answers the open count of a queue, and changes nothing but the count of events. (one-sided communication:
-- queue_size)
pub record IsSizeAnswered (s t : State) (me queue value : ℕ) : Type 0 where
  pub posts : Posts
  pub q : Queue
  pub posts_there : slice_get s.posts me ≡ Some posts
  pub queue_there : slice_get posts.queues queue ≡ Some q
  pub answers : value ≡ q.open_count
  pub counted : IsOnlyCounted s t me

-- A call that answers which ranks are corrupt for its caller's rank, bit r for rank r, and changes nothing but the count of
-- events. (state vector: state_vec_get)
abbrev pub IsStateAnswered : (s t : State) (me mask : ℕ) → Type 0
IsStateAnswered s t me mask = ((rank : ℕ) → bit_at mask rank ≡ bit_of (is_corrupt s me rank)) × IsOnlyCounted s t me

-- A segment that is made: there was none of its id; it is there with its size, all bytes and slots 0, in the next
-- generation of its id, which no segment of that id had; the rank's table of segments says so; and nothing else
-- has changed but the count of events of its rank. (segments: segment_alloc)
pub record IsAllocDone (s t : State) (me segment size : ℕ) : Type 0 where
  pub posts : Posts
  pub memory : Memory
  pub generation : ℕ
  pub posts_there : slice_get s.posts me ≡ Some posts
  pub memory_there : slice_get s.memories me ≡ Some memory
  pub next : slice_get posts.segments.next_generations segment ≡ Some generation
  pub free : segment_at memory segment ≡ None
  pub after : t ≡ record s {
    posts = slice_set s.posts me (record (counted posts) {
      segments = record posts.segments {
        own = slice_set posts.segments.own segment (Some (record { generation = generation; size = size }));
        next_generations = slice_set posts.segments.next_generations segment (generation + 1);
      };
    });
    memories = slice_set s.memories me (record memory {
      segments = slice_set memory.segments segment (Some (record { generation = generation; bytes = replicate size 0 }));
      slots = slice_set memory.slots segment (Some (replicate s.limits.notes 0));
    });
  }

-- A segment that is gone: it was there, none of its rank's entries used it, and nothing else has changed but the rank's
-- table of segments and its count of events. (segments: segment_delete)
pub record IsDeleteDone (s t : State) (me segment : ℕ) : Type 0 where
  pub posts : Posts
  pub memory : Memory
  pub old : Segment
  pub posts_there : slice_get s.posts me ≡ Some posts
  pub memory_there : slice_get s.memories me ≡ Some memory
  pub old_there : segment_at memory segment ≡ Some old
  pub unused : user_of posts.queues segment ≡ None
  pub after : t ≡ record s {
    posts = slice_set s.posts me (record (counted posts) { segments = record posts.segments { own = slice_set posts.segments.own segment None } });
    memories = slice_set s.memories me (record memory { segments = slice_set memory.segments segment None; slots = slice_set memory.slots segment None });
  }

-- A post that is done: it asks for entries, as many as its row says; its queue is not broken and has room for all of them;
-- and they are the last in the lane of the rank that it names, posted, with numbers one after another from the rank's next
-- number on. The open count of the queue, and the next number, are higher by their number; and nothing else has changed but the
-- count of events of the caller's rank. (one-sided communication)
pub record IsPostDone (s t : State) (me : ℕ) (call : Call) (queue rank : ℕ) : Type 0 where
  pub posts : Posts
  pub kinds : List Kind
  pub q : Queue
  pub lane : List Entry
  pub posts_there : slice_get s.posts me ≡ Some posts
  pub asks : requested_kinds s.limits me posts call ≡ Ok kinds
  pub count : length kinds ≡ entries_of call
  pub queue_there : slice_get posts.queues queue ≡ Some q
  pub whole : q.broken ≡ None
  pub room : q.open_count + length kinds ≤ s.limits.depth
  pub lane_there : slice_get q.lanes rank ≡ Some lane
  pub after : t ≡ record s {
    posts = slice_set s.posts me (record (counted posts) {
      queues = slice_set posts.queues queue (record q {
        open_count = q.open_count + length kinds;
        lanes = slice_set q.lanes rank (lane ++ posted_entries posts.next kinds);
      });
      next = posts.next + length kinds;
    });
  }

-- A send that is done: its range lies in a segment of the caller's rank, and the inbox of the rank that it names, which may
-- be the own one, has room. That inbox has one message more, the last one: it is from the caller's rank, with the bytes
-- that the range has now. Nothing else has changed but the count of events of the caller's rank. (passive communication:
-- passive_send)
pub record IsSendDone (s t : State) (me rank segment offset size : ℕ) : Type 0 where
  pub posts : Posts
  pub own : Memory
  pub item : Segment
  pub peer : Memory
  pub posts_there : slice_get s.posts me ≡ Some posts
  pub own_there : slice_get s.memories me ≡ Some own
  pub item_there : segment_at own segment ≡ Some item
  pub within : offset + size ≤ length item.bytes
  pub peer_there : slice_get s.memories rank ≡ Some peer
  pub room : length peer.inbox < s.limits.inbox
  pub after : t ≡ record s {
    posts = slice_set s.posts me (counted posts);
    memories = slice_set s.memories rank (record peer { inbox = peer.inbox ++ record { sender = me; bytes = range_of item.bytes offset size } ∷ [] });
  }

-- A receive that is done: its range lies in a segment of the caller's rank; the first message of that rank's inbox, which is
-- not longer than the range, is gone from it; its bytes, and no more, are in the segment from the offset on; it answers the
-- rank that sent it; and nothing else has changed but the count of events of the caller's rank. (passive communication:
-- passive_receive)
pub record IsReceiveDone (s t : State) (me segment offset size sender : ℕ) : Type 0 where
  pub posts : Posts
  pub old : Memory
  pub new : Memory
  pub item : Segment
  pub message : Message
  pub rest : List Message
  pub posts_there : slice_get s.posts me ≡ Some posts
  pub old_there : slice_get s.memories me ≡ Some old
  pub item_there : segment_at old segment ≡ Some item
  pub within : offset + size ≤ length item.bytes
  pub first : old.inbox ≡ message ∷ rest
  pub fits : length message.bytes ≤ size
  pub answers : sender ≡ message.sender
  pub kept : new ≡ record old { segments = new.segments; inbox = rest }
  pub segments : IsSegmentWritten old.segments new.segments segment offset message.bytes
  pub after : t ≡ record s { posts = slice_set s.posts me (counted posts); memories = slice_set s.memories me new }

-- A group that is made: its number is the next one, at most 7, and the rank had no group of that number; its stage is
-- building, and no rank is in it; and nothing else has changed but the count of events of its rank. (groups: group_create)
pub record IsGroupMade (s t : State) (me id : ℕ) : Type 0 where
  pub posts : Posts
  pub groups : Handles
  pub handle : Handle
  pub posts_there : slice_get s.posts me ≡ Some posts
  pub next : id ≡ posts.groups.last_id + 1
  pub few : id ≤ 7
  pub free : handle_at posts.groups id ≡ None
  pub there : handle_at groups id ≡ Some handle
  pub building : handle.stage ≡ Building
  pub empty : (rank : ℕ) → is_member handle.members rank ≡ false
  pub made : groups.last_id ≡ id
  pub table : groups.table ≡ slice_set posts.groups.table id (Some handle)
  pub after : t ≡ record s { posts = slice_set s.posts me (record (counted posts) { groups = groups }) }

-- A rank that is added to a group: the group's stage is building, and no collective of the caller's rank is pending on it; that rank,
-- which is one of the world, is in it, with those that were; and nothing else has changed but the count of events of the
-- caller's rank. (groups: group_add)
pub record IsGroupAdded (s t : State) (me id rank : ℕ) : Type 0 where
  pub posts : Posts
  pub old : Handle
  pub new : Handle
  pub posts_there : slice_get s.posts me ≡ Some posts
  pub ranked : rank < s.limits.ranks
  pub old_there : handle_at posts.groups id ≡ Some old
  pub building : old.stage ≡ Building
  pub idle : item_at posts.pending id ≡ None
  pub stage : new.stage ≡ old.stage
  pub members : (other : ℕ) → is_member new.members other ≡ (rank == other) || is_member old.members other
  pub after : t ≡ record s {
    posts = slice_set s.posts me (record (counted posts) { groups = record posts.groups { table = slice_set posts.groups.table id (Some new) } });
  }

-- A group that is deleted: it was there, it is not group 0, and no collective of the caller's rank is pending on it; it is
-- gone, with its number used for good; and nothing else has changed but the count of events of the caller's rank. (groups:
-- group_delete)
pub record IsGroupDeleted (s t : State) (me id : ℕ) : Type 0 where
  pub posts : Posts
  pub old : Handle
  pub posts_there : slice_get s.posts me ≡ Some posts
  pub old_there : handle_at posts.groups id ≡ Some old
  pub other : id ≢ 0
  pub idle : item_at posts.pending id ≡ None
  pub after : t ≡ record s {
    posts = slice_set s.posts me (record (counted posts) { groups = record posts.groups { table = slice_set posts.groups.table id None } });
  }

-- An end: its caller was active and has ended, and nothing else has changed but the count of events. (own choice)
pub record IsEnded (s t : State) (c : CallerId) : Type 0 where
  pub posts : Posts
  pub posts_there : slice_get s.posts c.rank ≡ Some posts
  pub running : slice_get posts.threads c.thread ≡ Some Running
  pub after : t ≡ record s { posts = slice_set s.posts c.rank (record (counted posts) { threads = slice_set posts.threads c.thread Ended }) }
