-- A world of two ranks whose nodes one thread has.
use Rattle.std.specs.Prelude.{◌≡◌, ℕ, ◌+◌, ◌*◌, ◌<◌, ◌==◌, nat_le, ◌||◌, ◌&&◌, Bool, true, false, List, [], ◌++◌, length, Option, Result}
use Rattle.std.specs.List.{list_any}
use Rattle.gaspi_types.specs.CallRows.{row_of}
use Rattle.gaspi_types.specs.declared.calls.Call.{Call}
use Rattle.gaspi_types.specs.declared.events.Event.{Event}
use Rattle.gaspi_types.specs.declared.replies.Reply.{Reply}
use Rattle.gaspi_types.specs.declared.shapes.CallerId.{CallerId}
use Rattle.gaspi_types.specs.declared.footprints.DeclaredFootprint.{DeclaredFootprint}
use Rattle.gaspi_types.specs.declared.footprints.DeclaredFootprint.TheVariants.{GroupOf, GroupAndMemory}
use Rattle.gaspi_types.specs.World.{ShapeValue, is_caller}
use Rattle.gaspi_model.specs.State.{opening}
use Rattle.gaspi_model.specs.Sound.{IsSound, events_left}
use Rattle.gaspi_model.specs.Step.{is_declared}
use Rattle.gaspi_model.specs.declared.states.State.{State}
use Rattle.rank_node.specs.Lending.{IsNodeOf, IsGroupOf}
use Rattle.rank_node.specs.declared.nodes.GroupNode.{GroupNode}
use Rattle.rank_node.specs.declared.nodes.Node.{Node}
use Rattle.two_nodes.specs.Looks.{Looks, placed_of, KeepsCallers}
use Rattle.two_nodes.specs.declared.stops.CallStop.{CallStop}
use Rattle.two_nodes.specs.declared.two_nodes.TwoNodes.{TwoNodes}

-- The nodes are those of the two ranks of a sound state, by their numbers, and of group 0; `places` events are recorded.
pub record ArePartsOf (s : State) (me other : ℕ) (own peer : Node) (group : GroupNode) (places : ℕ) : Type 0 where
  pub sound : IsSound s
  pub two : s.limits.ranks ≡ 2
  pub others : (rank : ℕ) → rank < 2 → (rank == me) ≡ false → rank ≡ other
  pub apart : (other == me) ≡ false
  pub own_node : IsNodeOf s me own
  pub peer_node : IsNodeOf s other peer
  pub group_node : IsGroupOf s 0 group
  pub counted : places + events_left s ≡ 2 * s.limits.events

-- the same, for ranks 0 and 1
abbrev pub IsWorldOf : State → TwoNodes → Type 0
IsWorldOf s d = ArePartsOf s 0 1 d.first d.second d.group d.places

-- a call is driven here: it reaches no group but group 0
abbrev pub reaches_group_0 : DeclaredFootprint → Bool
reaches_group_0 (GroupOf id) = (id == 0) || nat_le 8 id
reaches_group_0 (GroupAndMemory id) = (id == 0) || nat_le 8 id
reaches_group_0 declaration = true

-- the same of a call
abbrev pub is_driven : Call → Bool
is_driven call = reaches_group_0 (row_of call).footprint

-- One look was made at a call of the first rank of two, by their nodes.
pub record HasCalled (s : State) (c : CallerId) (call : Call) (result : Result (Option Reply) CallStop) (other place next : ℕ) (old own old_peer peer : Node) (group : GroupNode) : Type 0 where
  pub after : State
  pub events : List Event
  pub looks : Looks s c call result events after
  pub parts : ArePartsOf after c.rank other own peer group next
  pub next_is : next ≡ place + length events
  pub journal : own.posts.journal ≡ old.posts.journal ++ placed_of c.rank place events
  pub peer_journal : peer.posts.journal ≡ old_peer.posts.journal ++ placed_of other place events

-- These events were recorded one after another, each in its owner's rank journal.
pub record AreRecorded (events : List Event) (old new : TwoNodes) : Type 0 where
  pub places : new.places ≡ old.places + length events
  pub first : new.first.posts.journal ≡ old.first.posts.journal ++ placed_of 0 old.places events
  pub second : new.second.posts.journal ≡ old.second.posts.journal ++ placed_of 1 old.places events

-- One look was made at a call in a state: the nodes are those of the state after it.
pub record HasLookedAt (s : State) (c : CallerId) (call : Call) (result : Result (Option Reply) CallStop) (old new : TwoNodes) : Type 0 where
  pub after : State
  pub events : List Event
  pub looks : Looks s c call result events after
  pub world : IsWorldOf after new
  pub recorded : AreRecorded events old new
  pub callers : KeepsCallers s after

-- The nodes are those of the opening state of a world, and nothing is recorded.
pub record IsAtStart (w : ShapeValue) (d : TwoNodes) : Type 0 where
  pub world : IsWorldOf (opening w) d
  pub places : d.places ≡ 0
  pub first : d.first.posts.journal ≡ []
  pub second : d.second.posts.journal ≡ []
  pub callers : (rank thread : ℕ) → list_any (is_caller rank thread) w.callers ≡ true → is_declared (opening w) rank thread ≡ true

-- Thread 0 of each rank has a section, in some state of which these are the nodes.
pub record HasTwoCallers (d : TwoNodes) : Type 0 where
  pub state : State
  pub world : IsWorldOf state d
  pub first : is_declared state 0 0 ≡ true
  pub second : is_declared state 1 0 ≡ true

-- a world of two ranks declares thread 0 of each
abbrev pub has_two_callers : ShapeValue → Bool
has_two_callers w = (w.limits.ranks == 2) && (list_any (is_caller 0 0) w.callers && list_any (is_caller 1 0) w.callers)
