-- The parts of the state that an event reads or changes, and how a step on them alone is a step of the whole state. (own
-- choice)
use Rattle.std.specs.Prelude.{ℕ, List, [], Option, None, Some, Result, Ok, slice_get, slice_set}
use Rattle.gaspi_types.specs.Checks.{◌>>=◌, ok_or}
use Rattle.gaspi_types.specs.declared.groups.Group as groups
use Rattle.gaspi_types.specs.declared.footprints.Footprint.{Footprint}
use Rattle.gaspi_types.specs.declared.footprints.Footprint.TheVariants.{Alone, OwnMemory, PeerMemory, BothMemories, PeerPosts, Group, GroupAndMemory}
use Rattle.gaspi_model.specs.declared.states.Posts.{Posts}
use Rattle.gaspi_model.specs.declared.states.Memory.{Memory}
use Rattle.gaspi_model.specs.declared.states.State.{State}
use Rattle.gaspi_model.specs.declared.states.Why.{Why}

-- which parts are in a footprint, by the numbers of their ranks and of the group
pub record PartNumbers : Type 0 where
  pub memory : Option ℕ
  pub peer_posts : Option ℕ
  pub peer_memory : Option ℕ
  pub group : Option ℕ

-- the numbers of the parts of a footprint
abbrev pub part_numbers : ℕ → Footprint → PartNumbers
part_numbers me Alone = record { memory = None; peer_posts = None; peer_memory = None; group = None }
part_numbers me OwnMemory = record { memory = Some me; peer_posts = None; peer_memory = None; group = None }
part_numbers me (PeerMemory rank) = record { memory = None; peer_posts = None; peer_memory = Some rank; group = None }
part_numbers me (BothMemories rank) = record { memory = Some me; peer_posts = None; peer_memory = Some rank; group = None }
part_numbers me (PeerPosts rank) = record { memory = None; peer_posts = Some rank; peer_memory = None; group = None }
part_numbers me (Group id) = record { memory = None; peer_posts = None; peer_memory = None; group = Some id }
part_numbers me (GroupAndMemory id) = record { memory = Some me; peer_posts = None; peer_memory = None; group = Some id }

-- the owner's posts, and the parts that are in the footprint
pub record Parts : Type 0 where
  pub posts : Posts
  pub memory : Option Memory
  pub peer_posts : Option Posts
  pub peer_memory : Option Memory
  pub group : Option groups.Group

-- an item of a table, where it is in the footprint
abbrev pub part_at : {A : Type 0} → List A → Option ℕ → Option A
part_at table None = None
part_at table (Some place) = slice_get table place

-- a table with an item replaced, where it is in the footprint
abbrev pub with_part : {A : Type 0} → List A → Option ℕ → Option A → List A
with_part table None part = table
with_part table (Some place) None = table
with_part table (Some place) (Some x) = slice_set table place x

-- the parts of an event in a state
abbrev pub parts_of : State → Posts → PartNumbers → Parts
parts_of s posts touched = record {
  posts = posts;
  memory = part_at s.memories touched.memory;
  peer_posts = part_at s.posts touched.peer_posts;
  peer_memory = part_at s.memories touched.peer_memory;
  group = part_at s.groups touched.group;
}

-- the state with these parts replaced
abbrev pub with_parts : State → ℕ → PartNumbers → Parts → State
with_parts s me touched parts = record s {
  posts = with_part (slice_set s.posts me parts.posts) touched.peer_posts parts.peer_posts;
  memories = with_part (with_part s.memories touched.memory parts.memory) touched.peer_memory parts.peer_memory;
  groups = with_part s.groups touched.group parts.group;
}

-- A step on the parts of an event, for the whole state: the parts are looked up, the step is made on them, and they are written
-- back. The owner's posts say which these are.
abbrev pub lifted : State → ℕ → Why → (Posts → PartNumbers) → (Parts → Result Parts Why) → Result State Why
lifted s me missing touched local = do
  posts ← ok_or (slice_get s.posts me) missing
  after ← local (parts_of s posts (touched posts))
  Ok (with_parts s me (touched posts) after)

-- a memory with no segment
abbrev pub empty_memory : Memory
empty_memory = record { segments = []; slots = []; inbox = [] }

-- a memory, or the empty one where it is missing
abbrev pub memory_or_none : Option Memory → Memory
memory_or_none None = empty_memory
memory_or_none (Some memory) = memory

-- the memory that an event of that footprint changes or reads; where there is none, one with no segment; of two, the one that
-- is not the own
abbrev pub accessed_memory : Footprint → Parts → Memory
accessed_memory Alone parts = empty_memory
accessed_memory OwnMemory parts = memory_or_none parts.memory
accessed_memory (PeerMemory rank) parts = memory_or_none parts.peer_memory
accessed_memory (BothMemories rank) parts = memory_or_none parts.peer_memory
accessed_memory (PeerPosts rank) parts = empty_memory
accessed_memory (Group id) parts = empty_memory
accessed_memory (GroupAndMemory id) parts = memory_or_none parts.memory

-- the parts with that memory replaced
abbrev pub with_accessed_memory : Footprint → Parts → Memory → Parts
with_accessed_memory Alone parts memory = parts
with_accessed_memory OwnMemory parts memory = record parts { memory = Some memory }
with_accessed_memory (PeerMemory rank) parts memory = record parts { peer_memory = Some memory }
with_accessed_memory (BothMemories rank) parts memory = record parts { peer_memory = Some memory }
with_accessed_memory (PeerPosts rank) parts memory = parts
with_accessed_memory (Group id) parts memory = parts
with_accessed_memory (GroupAndMemory id) parts memory = record parts { memory = Some memory }

-- a group without a member list and contributions
abbrev pub empty_group : groups.Group
empty_group = record { members = None; contributions = [] }

-- a group, or the empty one where it is missing
abbrev pub group_or_none : Option groups.Group → groups.Group
group_or_none None = empty_group
group_or_none (Some group) = group
