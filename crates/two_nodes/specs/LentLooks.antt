-- One look at a call on the nodes that are lent for it.
use Rattle.std.specs.Prelude.{◌≡◌, ℕ, ◌+◌, true, false, List, ◌++◌, length, Option, Some, Result}
use Rattle.gaspi_types.specs.declared.calls.Call.{Call}
use Rattle.gaspi_types.specs.declared.events.Event.{Event}
use Rattle.gaspi_types.specs.declared.replies.Reply.{Reply}
use Rattle.gaspi_types.specs.declared.shapes.CallerId.{CallerId}
use Rattle.gaspi_model.specs.Sound.{IsSound}
use Rattle.gaspi_types.specs.declared.groups.Args.{Args}
use Rattle.gaspi_types.specs.declared.replies.Ready.TheVariants.{Join}
use Rattle.gaspi_model.specs.Step.{answer_in, is_declared, lacks_room_in}
use Rattle.gaspi_model.specs.declared.states.State.{State}
use Rattle.rank_node.specs.Lending.{Lends, call_footprint, journal_at}
use Rattle.rank_node.specs.declared.nodes.GroupNode.{GroupNode}
use Rattle.rank_node.specs.declared.nodes.Node.{Node}
use Rattle.two_nodes.specs.Looks.{Looks, placed_of}
use Rattle.two_nodes.specs.declared.stops.CallStop.{CallStop}

-- The nodes are those that a call of a caller reaches in a sound state; the caller has a section.
pub record AreLentTo (s : State) (c : CallerId) (call : Call) (own : Node) (peer : Option Node) (group : Option GroupNode) : Type 0 where
  pub sound : IsSound s
  pub lends : Lends s c.rank (call_footprint s.limits c.rank call) own peer group
  pub declared : is_declared s c.rank c.thread ≡ true

-- the same of some sound state
abbrev pub MayLook : CallerId → Call → Node → Option Node → Option GroupNode → Type 0
MayLook c call own peer group = (s : State) × AreLentTo s c call own peer group

-- One look was made: the nodes are those of the state after it, and the owner's rank journal has its events with their places.
pub record HaveLooked (s : State) (c : CallerId) (call : Call) (result : Result (Option Reply) CallStop) (place next : ℕ) (old own : Node) (old_peer peer : Option Node) (group : Option GroupNode) : Type 0 where
  pub after : State
  pub events : List Event
  pub looks : Looks s c call result events after
  pub lends : Lends after c.rank (call_footprint s.limits c.rank call) own peer group
  pub next_is : next ≡ place + length events
  pub journal : own.posts.journal ≡ old.posts.journal ++ placed_of c.rank place events
  pub peer_journal : journal_at peer ≡ journal_at old_peer

-- A look has found that a collective may join with these arguments, and its rank has the room that it needs.
pub record IsJoiner (s : State) (c : CallerId) (call : Call) (args : Args) (own : Node) (peer : Option Node) (group : Option GroupNode) : Type 0 where
  pub lent : AreLentTo s c call own peer group
  pub room : lacks_room_in s c call ≡ false
  pub joins : answer_in s c.rank c.thread call ≡ Some (Join args)

abbrev pub MayJoin : CallerId → Call → Args → Node → Option Node → Option GroupNode → Type 0
MayJoin c call args own peer group = (s : State) × IsJoiner s c call args own peer group
