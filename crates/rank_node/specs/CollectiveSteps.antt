-- A step on the own node and the node of a group. (GASPI: collectives)
use Rattle.std.specs.Prelude.{Option}
use Rattle.gaspi_types.specs.declared.events.Event.{Event}
use Rattle.gaspi_model.specs.declared.states.State.{State}
use Rattle.rank_node.specs.Lending.{IsStepOn}
use Rattle.rank_node.specs.declared.nodes.GroupNode.{GroupNode}
use Rattle.rank_node.specs.declared.nodes.Node.{Node}

-- an event is a step from some sound state of which these nodes are lent, with some node of a peer or none
abbrev pub MayStepOn : Event → Node → Option GroupNode → Type 0
MayStepOn e own group = (s : State) × (t : State) × (peer : Option Node) × IsStepOn s t e own peer group
