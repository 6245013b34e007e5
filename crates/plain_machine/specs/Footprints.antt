-- The memory, the peer and the group that an event with a footprint works on, found in the state. (own choice)
use Rattle.std.specs.Prelude.{◌≡◌, ℕ, ◌≤◌, nat_lt, true, if◌then◌else◌, List, length, Option, None, Some, Result, Ok, slice_get, slice_set}
use Rattle.gaspi_types.specs.declared.inboxes.Message.{Message}
use Rattle.gaspi_types.specs.CallRows.{row_of}
use Rattle.gaspi_types.specs.Checks.{◌>>=◌, ok_or}
use Rattle.gaspi_types.specs.Footprints.{footprint_of}
use Rattle.gaspi_types.specs.World.{are_limits}
use Rattle.gaspi_types.specs.declared.calls.Call.{Call}
use Rattle.gaspi_types.specs.declared.entries.Kind.{Kind}
use Rattle.gaspi_types.specs.declared.groups.Group as groups
use Rattle.gaspi_types.specs.declared.replies.Reply.{Reply}
use Rattle.gaspi_types.specs.declared.shapes.CallerId.{CallerId}
use Rattle.gaspi_types.specs.declared.shapes.Limits.{Limits}
use Rattle.gaspi_types.specs.declared.footprints.DeclaredFootprint.{DeclaredFootprint}
use Rattle.gaspi_types.specs.declared.footprints.Footprint.{Footprint}
use Rattle.gaspi_types.specs.declared.footprints.Footprint.TheVariants.{Alone, OwnMemory, PeerMemory, BothMemories, PeerPosts, Group, GroupAndMemory}
use Rattle.gaspi_model.specs.Parts.{empty_memory, memory_or_none, group_or_none, part_at, part_numbers}
use Rattle.gaspi_types.specs.Tables.{changed_at}
use Rattle.gaspi_model.specs.Sound.{IsSoundPosts}
use Rattle.gaspi_model.specs.Step.{called, declared_entry_footprint}
use Rattle.gaspi_model.specs.Transfers.{entry_in}
use Rattle.gaspi_model.specs.declared.states.Posts.{Posts}
use Rattle.gaspi_model.specs.declared.states.Memory.{Memory}
use Rattle.gaspi_model.specs.declared.states.Why.{Why}
use Rattle.gaspi_model.specs.declared.states.Why.TheVariants as whys

-- the footprint of a call of a rank
abbrev pub call_footprint : Limits → ℕ → Call → Footprint
call_footprint limits me call = footprint_of limits.ranks me (row_of call).footprint

-- the footprint of a transfer of a rank, by its entry's kind
abbrev pub entry_footprint : Limits → ℕ → (Kind → DeclaredFootprint) → Posts → ℕ → ℕ → ℕ → Footprint
entry_footprint limits me declaration posts queue target number = footprint_of limits.ranks me (declared_entry_footprint declaration (entry_in posts queue target number))

-- the memory that the event works on; where it works on none, one with no segment
abbrev pub memory_at : List Memory → ℕ → Footprint → Memory
memory_at memories me Alone = empty_memory
memory_at memories me OwnMemory = memory_or_none (slice_get memories me)
memory_at memories me (PeerMemory rank) = memory_or_none (slice_get memories rank)
memory_at memories me (BothMemories rank) = memory_or_none (slice_get memories rank)
memory_at memories me (PeerPosts rank) = empty_memory
memory_at memories me (Group id) = empty_memory
memory_at memories me (GroupAndMemory id) = memory_or_none (slice_get memories me)

-- the own memory of a rank, where the event reaches it; else one with no segment
abbrev pub own_at : List Memory → ℕ → Footprint → Memory
own_at memories me footprint = memory_or_none (part_at memories (part_numbers me footprint).memory)

-- the memories, with the one that the event works on replaced
abbrev pub with_memory_at : List Memory → ℕ → Footprint → Memory → List Memory
with_memory_at memories me Alone memory = memories
with_memory_at memories me OwnMemory memory = slice_set memories me memory
with_memory_at memories me (PeerMemory rank) memory = slice_set memories rank memory
with_memory_at memories me (BothMemories rank) memory = slice_set memories rank memory
with_memory_at memories me (PeerPosts rank) memory = memories
with_memory_at memories me (Group id) memory = memories
with_memory_at memories me (GroupAndMemory id) memory = slice_set memories me memory

-- the posts of all ranks, with those of the peer changed whose posts the event reaches
abbrev pub with_peer_at : Footprint → (Posts → Posts) → List Posts → List Posts
with_peer_at Alone change all = all
with_peer_at OwnMemory change all = all
with_peer_at (PeerMemory rank) change all = all
with_peer_at (BothMemories rank) change all = all
with_peer_at (PeerPosts rank) change all = changed_at all rank change
with_peer_at (Group id) change all = all
with_peer_at (GroupAndMemory id) change all = all

-- the group with a number; for a number over 7 one with no member list
abbrev pub group_at : List groups.Group → ℕ → groups.Group
group_at table id = group_or_none (if nat_lt id 8 then slice_get table id else None)

-- the groups with the one of a number replaced; for a number over 7 nothing changes
abbrev pub with_group_at : List groups.Group → ℕ → groups.Group → List groups.Group
with_group_at table id group = if nat_lt id 8 then slice_set table id group else table

-- the posts of all ranks, and the memory that an event works on
pub record PostsAndLentMemory : Type 0 where
  pub posts : List Posts
  pub memory : Memory

-- a call on those, with the message that it sends
abbrev pub call_lent : Limits → List Posts → Option Message → Memory → CallerId → Call → Reply → Result PostsAndLentMemory Why
call_lent limits all message memory c call reply = do
  posts ← ok_or (slice_get all c.rank) whys.Caller
  after ← called limits c.rank posts message memory c.thread call reply
  Ok (record { posts = slice_set all c.rank after.posts; memory = after.memory })

-- the posts of all ranks are sound
pub record AreRanks (limits : Limits) (all : List Posts) : Type 0 where
  pub limited : are_limits limits ≡ true
  pub sound : (rank : ℕ) (posts : Posts) → slice_get all rank ≡ Some posts → IsSoundPosts limits posts
  pub queues : (rank : ℕ) (posts : Posts) → slice_get all rank ≡ Some posts → length posts.queues ≤ 8
