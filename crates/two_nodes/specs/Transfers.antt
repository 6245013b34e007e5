-- One transfer on the nodes that are lent for it, and in a world of two ranks. (GASPI: one-sided communication)
use Rattle.std.specs.Prelude.{◌≡◌, ℕ, ◌+◌, Bool, true, false, [], ◌∷◌, ◌++◌, Option, Some, Ok, slice_get}
use Rattle.gaspi_types.specs.declared.events.Transfer.{Transfer}
use Rattle.gaspi_model.specs.Sound.{IsSound}
use Rattle.gaspi_model.specs.Step.{step, event_footprint, transfer_event}
use Rattle.gaspi_model.specs.Transfers.{transfers}
use Rattle.gaspi_model.specs.declared.states.State.{State}
use Rattle.rank_node.specs.Lending.{Lends, journal_at}
use Rattle.rank_node.specs.TransferSteps.{LendsForTransfer}
use Rattle.rank_node.specs.declared.nodes.GroupNode.{GroupNode}
use Rattle.rank_node.specs.declared.nodes.Node.{Node}
use Rattle.two_nodes.specs.Looks.{placed_of, KeepsCallers}
use Rattle.two_nodes.specs.Worlds.{ArePartsOf, IsWorldOf, AreRecorded}
use Rattle.two_nodes.specs.declared.two_nodes.TwoNodes.{TwoNodes}

-- the nodes are those that a transfer reaches in a sound state
pub record AreLentToMove (s : State) (t : Transfer) (own : Node) (peer : Option Node) (group : Option GroupNode) : Type 0 where
  pub sound : IsSound s
  pub lends : LendsForTransfer s t own peer group

abbrev pub MayMove : Transfer → Node → Option Node → Option GroupNode → Type 0
MayMove t own peer group = (s : State) × AreLentToMove s t own peer group

-- The transfer was made with the machine's outcome: the nodes are those of the state after it, and the origin's rank journal has it.
pub record HaveMoved (s : State) (t : Transfer) (place next : ℕ) (old own : Node) (old_peer peer : Option Node) (group : Option GroupNode) : Type 0 where
  pub after : State
  pub is_step : step s (transfer_event s t) ≡ Ok after
  pub lends : Lends after t.origin (event_footprint s.limits old.posts.posts (transfer_event s t)) own peer group
  pub next_is : next ≡ place + 1
  pub journal : own.posts.journal ≡ old.posts.journal ++ record { place = place; event = transfer_event s t } ∷ []
  pub peer_journal : journal_at peer ≡ journal_at old_peer

-- A transfer of the first rank of two was made, by their nodes.
pub record IsTransferred (s : State) (me other place next : ℕ) (old own old_peer peer : Node) (group : GroupNode) : Type 0 where
  pub transfer : Transfer
  pub mine : transfer.origin ≡ me
  pub after : State
  pub is_step : step s (transfer_event s transfer) ≡ Ok after
  pub parts : ArePartsOf after me other own peer group next
  pub next_is : next ≡ place + 1
  pub journal : own.posts.journal ≡ old.posts.journal ++ placed_of me place (transfer_event s transfer ∷ [])
  pub peer_journal : peer.posts.journal ≡ old_peer.posts.journal ++ placed_of other place (transfer_event s transfer ∷ [])

-- no transfer of a rank is enabled
abbrev pub HasNoTransfer : State → ℕ → Type 0
HasNoTransfer s rank = (t : Transfer) (k : ℕ) → slice_get (transfers s.limits s.posts) k ≡ Some t → ¬ (t.origin ≡ rank)

-- Nothing was done, since no transfer of the rank is enabled.
pub record IsIdle (s : State) (me place next : ℕ) (old own old_peer peer : Node) : Type 0 where
  pub none : HasNoTransfer s me
  pub own_kept : own ≡ old
  pub peer_kept : peer ≡ old_peer
  pub next_kept : next ≡ place

abbrev pub HasTransferred : State → Bool → ℕ → ℕ → ℕ → ℕ → Node → Node → Node → Node → GroupNode → Type 0
HasTransferred s true me other place next old own old_peer peer group = IsTransferred s me other place next old own old_peer peer group
HasTransferred s false me other place next old own old_peer peer group = IsIdle s me place next old own old_peer peer

-- One transfer of a rank was made in a state: the nodes are those of the state after it.
pub record HasTransferredIn (s : State) (rank : ℕ) (old new : TwoNodes) : Type 0 where
  pub transfer : Transfer
  pub mine : transfer.origin ≡ rank
  pub after : State
  pub is_step : step s (transfer_event s transfer) ≡ Ok after
  pub world : IsWorldOf after new
  pub recorded : AreRecorded (transfer_event s transfer ∷ []) old new
  pub callers : KeepsCallers s after

-- or no transfer of the rank is enabled, and nothing was done
abbrev pub Transfers : State → ℕ → Bool → TwoNodes → TwoNodes → Type 0
Transfers s rank true old new = HasTransferredIn s rank old new
Transfers s rank false old new = HasNoTransfer s rank × (new ≡ old)
