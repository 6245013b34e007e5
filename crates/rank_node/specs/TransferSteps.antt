-- Transfers as steps of the machine, on the nodes that are lent for them. (GASPI: one-sided communication)
use Rattle.std.specs.Prelude.{◌≡◌, Option, None, Some, List, slice_get, option_and_then, IsSomeAnd}
use Rattle.gaspi_types.specs.declared.entries.Entry.{Entry}
use Rattle.gaspi_types.specs.declared.entries.Queue.{Queue}
use Rattle.gaspi_types.specs.declared.events.Outcome.{Outcome}
use Rattle.gaspi_types.specs.declared.events.Outcome.TheVariants.{Applied}
use Rattle.gaspi_types.specs.declared.events.Transfer.{Transfer}
use Rattle.gaspi_model.specs.Step.{event_footprint}
use Rattle.gaspi_model.specs.declared.states.Memory.{Memory}
use Rattle.gaspi_model.specs.declared.states.State.{State}
use Rattle.post_queue.specs.Places.{first_posted, first_carried}
use Rattle.rank_node.specs.Lending.{Lends, IsStepOn}
use Rattle.rank_node.specs.Transfers.{take_of, put_of, event_of}
use Rattle.rank_node.specs.Values.{PostsValue}
use Rattle.rank_node.specs.declared.nodes.Node.{Node}
use Rattle.rank_node.specs.declared.nodes.GroupNode.{GroupNode}

-- the entry that `choose` gives of the lane of a transfer
abbrev pub chosen_in : (List Entry → Option Entry) → PostsValue → Transfer → Option Entry
chosen_in choose p t = option_and_then (λ (q : Queue). option_and_then choose (slice_get q.lanes t.target)) (slice_get p.posts.queues t.queue)

-- A transfer is that of the first posted entry of its lane, or of the first carried one.
abbrev pub IsFirstPosted : PostsValue → Transfer → Type 0
IsFirstPosted p t = IsSomeAnd (chosen_in first_posted p t) (λ (e : Entry). e.number ≡ t.number)

-- the transfer is that of the first carried entry of its lane
abbrev pub IsFirstCarried : PostsValue → Transfer → Type 0
IsFirstCarried p t = IsSomeAnd (chosen_in first_carried p t) (λ (e : Entry). e.number ≡ t.number)

-- the take of the first posted entry, or the put of the first carried one, is a step from some sound state of which the nodes are lent
abbrev pub MayTake : Node → Option Node → Option GroupNode → Transfer → Type 0
MayTake own peer group t = (s : State) × (after : State) × (outcome : Outcome) × IsStepOn s after (take_of t outcome) own peer group × IsFirstPosted own.posts t

-- the same of the put of the first carried entry
abbrev pub MayPut : Node → Option Node → Option GroupNode → Transfer → Type 0
MayPut own peer group t = (s : State) × (after : State) × (outcome : Outcome) × IsStepOn s after (put_of t outcome) own peer group × IsFirstCarried own.posts t

-- the nodes are lent for a transfer, whatever its outcome
abbrev pub LendsForTransfer : State → Transfer → Node → Option Node → Option GroupNode → Type 0
LendsForTransfer s t own peer group = Lends s t.origin (event_footprint s.limits own.posts.posts (event_of t Applied)) own peer group

-- the memory that a transfer works on: that of the peer, where one is lent
abbrev pub lent_memory : Node → Option Node → Memory
lent_memory own None = own.memory.memory
lent_memory own (Some peer) = peer.memory.memory
