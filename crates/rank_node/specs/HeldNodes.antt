-- The nodes that one thread holds, in boxes.
use Rattle.std.specs.Prelude.{Option, None, Some}
use Rattle.rank_node.specs.declared.held_nodes.OtherNode.{OtherNode}
use Rattle.rank_node.specs.declared.held_nodes.OtherNode.TheVariants.{Nothing, Rank, Group}
use Rattle.rank_node.specs.declared.nodes.Node.{Node}
use Rattle.rank_node.specs.declared.nodes.GroupNode.{GroupNode}

-- the other node as the node of a peer, and as that of a group; none where it is not of that kind
abbrev pub peer_of : OtherNode → Option Node
peer_of Nothing = None
peer_of (Rank n) = Some n.value
peer_of (Group n) = None

abbrev pub group_of : OtherNode → Option GroupNode
group_of Nothing = None
group_of (Rank n) = None
group_of (Group n) = Some n.value

-- both are none, or both are nodes of ranks, or both are nodes of groups
abbrev pub IsSameKind : OtherNode → OtherNode → Type 0
IsSameKind Nothing Nothing = Unit {0}
IsSameKind (Rank n) (Rank m) = Unit {0}
IsSameKind (Group n) (Group m) = Unit {0}
IsSameKind a b = ⊥
