-- The nodes that are lent for an event: that of its owner, that of a peer, and that of a group, where the event reaches them. `own` is
-- the owner's node, `me` its rank; `s` is the state of which they are the nodes, and `t` the state after the event.
use Rattle.std.specs.Prelude.{◌≡◌, ℕ, ◌==◌, false, Option, None, Some, Ok, List, ◌++◌, ◌∷◌, [], slice_get}
use Rattle.std.specs.Borrow.{MutBor}
use Rattle.gaspi_types.specs.CallRows.{row_of}
use Rattle.gaspi_types.specs.Footprints.{footprint_of}
use Rattle.gaspi_types.specs.declared.calls.Call.{Call}
use Rattle.gaspi_types.specs.declared.events.Event.{Event}
use Rattle.gaspi_types.specs.declared.groups.Group as groups
use Rattle.gaspi_types.specs.declared.shapes.Limits.{Limits}
use Rattle.gaspi_types.specs.declared.footprints.Footprint.{Footprint}
use Rattle.gaspi_types.specs.declared.footprints.Footprint.TheVariants.{Alone, OwnMemory, PeerMemory, BothMemories, PeerPosts, Group, GroupAndMemory}
use Rattle.collective_engine.specs.RoundBuffers.{Represents}
use Rattle.gaspi_model.specs.Sound.{IsSound}
use Rattle.gaspi_model.specs.Step.{step, event_footprint, owner_of}
use Rattle.gaspi_model.specs.declared.states.State.{State}
use Rattle.rank_node.specs.Values.{PostsValue, MemoryValue}
use Rattle.rank_node.specs.declared.nodes.Node.{Node}
use Rattle.rank_node.specs.declared.nodes.GroupNode.{GroupNode}
use Rattle.gaspi_types.specs.declared.events.PlacedEvent.{PlacedEvent}

-- The posts, the memory and the node are those of a rank in a state; the node of a group is that of a group.

pub record IsPostsOf (s : State) (rank : ℕ) (p : PostsValue) : Type 0 where
  pub limits : p.limits ≡ s.limits
  pub me : p.me ≡ rank
  pub posts : slice_get s.posts rank ≡ Some p.posts

pub record IsMemoryOf (s : State) (rank : ℕ) (m : MemoryValue) : Type 0 where
  pub capacity : m.capacity ≡ s.limits.inbox
  pub memory : slice_get s.memories rank ≡ Some m.memory

pub record IsNodeOf (s : State) (rank : ℕ) (n : Node) : Type 0 where
  pub posts : IsPostsOf s rank n.posts
  pub memory : IsMemoryOf s rank n.memory

-- the node of a group has its member list, and represents its rounds
pub record IsGroupNode (g : groups.Group) (n : GroupNode) : Type 0 where
  pub meeting : n.meeting ≡ g.members
  pub rounds : Represents g n.rounds

-- the node is that of group `id` in a state
pub record IsGroupOf (s : State) (id : ℕ) (n : GroupNode) : Type 0 where
  pub group : groups.Group
  pub there : slice_get s.groups id ≡ Some group
  pub stands : IsGroupNode group n

-- the peer that an event with this footprint reaches, and then the group
abbrev pub footprint_peer : Footprint → Option ℕ
footprint_peer Alone = None
footprint_peer OwnMemory = None
footprint_peer (PeerMemory rank) = Some rank
footprint_peer (BothMemories rank) = Some rank
footprint_peer (PeerPosts rank) = Some rank
footprint_peer (Group id) = None
footprint_peer (GroupAndMemory id) = None

abbrev pub footprint_group : Footprint → Option ℕ
footprint_group Alone = None
footprint_group OwnMemory = None
footprint_group (PeerMemory rank) = None
footprint_group (BothMemories rank) = None
footprint_group (PeerPosts rank) = None
footprint_group (Group id) = Some id
footprint_group (GroupAndMemory id) = Some id

-- the node of a rank other than `me`; and none where the footprint has no peer
pub record IsPeerNode (s : State) (me rank : ℕ) (n : Node) : Type 0 where
  pub apart : (rank == me) ≡ false
  pub node : IsNodeOf s rank n

-- the node of the peer of a footprint; and none where the footprint has no peer
abbrev pub IsPeer : State → ℕ → Option ℕ → Option Node → Type 0
IsPeer s me None None = Unit {0}
IsPeer s me (Some rank) (Some n) = IsPeerNode s me rank n
IsPeer s me None (Some n) = ⊥
IsPeer s me (Some rank) None = ⊥

-- the node of the group of a footprint; and none where the footprint has no group
abbrev pub IsGroupAt : State → Option ℕ → Option GroupNode → Type 0
IsGroupAt s None None = Unit {0}
IsGroupAt s (Some id) (Some n) = IsGroupOf s id n
IsGroupAt s None (Some n) = ⊥
IsGroupAt s (Some id) None = ⊥

-- the nodes are those that an event of `me` with this footprint reaches in a state
pub record Lends (s : State) (me : ℕ) (footprint : Footprint) (own : Node) (peer : Option Node) (group : Option GroupNode) : Type 0 where
  pub own_node : IsNodeOf s me own
  pub peer_node : IsPeer s me (footprint_peer footprint) peer
  pub group_node : IsGroupAt s (footprint_group footprint) group

-- the footprint of a call
abbrev pub call_footprint : Limits → ℕ → Call → Footprint
call_footprint limits me call = footprint_of limits.ranks me (row_of call).footprint

-- the nodes are those that this call of the rank reaches in a state
abbrev pub LendsFor : State → Call → Node → Option Node → Option GroupNode → Type 0
LendsFor s call own peer group = Lends s own.posts.me (call_footprint s.limits own.posts.me call) own peer group

-- the nodes are those that this call reaches in some sound state
pub record AreLentFor (call : Call) (own : Node) (peer : Option Node) (group : Option GroupNode) : Type 0 where
  pub state : State
  pub sound : IsSound state
  pub lends : LendsFor state call own peer group

-- the same, with some node of a group or none
abbrev pub AreLentBetween : Call → Node → Option Node → Type 0
AreLentBetween call own peer = (group : Option GroupNode) × AreLentFor call own peer group

-- an event is a step from the sound state `s` to `t`, and the nodes are those that it reaches in `s`
pub record IsStepOn (s t : State) (e : Event) (own : Node) (peer : Option Node) (group : Option GroupNode) : Type 0 where
  pub sound : IsSound s
  pub lends : Lends s (owner_of e) (event_footprint s.limits own.posts.posts e) own peer group
  pub is_step : step s e ≡ Ok t

-- an event is a step from some sound state, and the nodes are those that it reaches there
abbrev pub MayStep : Event → Node → Option Node → Option GroupNode → Type 0
MayStep e own peer group = (s : State) × (t : State) × IsStepOn s t e own peer group

-- the same, with some node of a group or none
abbrev pub MayStepBetween : Event → Node → Option Node → Type 0
MayStepBetween e own peer = (s : State) × (t : State) × (group : Option GroupNode) × IsStepOn s t e own peer group

-- what a reference lends; none where it is missing
abbrev pub behind : {A : Type 0} → Option (MutBor A) → Option A
behind None = None
behind (Some r) = Some r.now

-- both are the same reference, or both are missing
abbrev pub AreSame : {A : Type 0} → Option (MutBor A) → Option (MutBor A) → Type 0
AreSame None None = Unit {0}
AreSame (Some r) (Some q) = r.ghost_name ≡ q.ghost_name
AreSame None (Some q) = ⊥
AreSame (Some r) None = ⊥

-- the rank journal of a node that may be missing
abbrev pub journal_at : Option Node → Option (List PlacedEvent)
journal_at None = None
journal_at (Some n) = Some n.posts.journal

-- After a step the nodes are those of the state after the event; the owner's rank journal has the event with its place, and that of the
-- peer is as before.
pub record IsLeft (s t : State) (e : Event) (place : ℕ) (old own : Node) (old_peer peer : Option Node) (group : Option GroupNode) : Type 0 where
  pub lends : Lends t (owner_of e) (event_footprint s.limits old.posts.posts e) own peer group
  pub journal : own.posts.journal ≡ old.posts.journal ++ record { place = place; event = e } ∷ []
  pub peer_journal : journal_at peer ≡ journal_at old_peer
